-- Each rule of a client of the third form leaves no more pending operations and leaves than it finds, but for one ask.
use Rattle.st_lemmas.proofs.Words
use Words.{◌≡◌, ◌≤◌, ℕ, ◌==◌, ◌&&◌, Bool, true, false, not, List, [], ◌∷◌, length, find, Option, Some, None, refl, ap, arith, if◌then◌else◌, length-map}
use Words.{AppAnswer, Ask, Asked, Body, Epoch, GrantNo, Header, HeldLock, Mode, NameReply, Operation, PageNo, Request, Stamp, Why}
use Words.answers
use Words.asks
use Words.bodies
use Words.replies as replied_names
use Words.why
use Words.Client as cl
use Words.ClientLease as lease
use Words.ClientLocks as locks
use Words.ClientPages as pages
use Words.ClientReplies as replies
use Words.ClientState as cs
use Words.ClientState.{ClientSession, Turn}
use Rattle.st_lemmas.proofs.Tests.{filtered_no_longer}
use Rattle.st_rules.specs.declared.client.Asked.TheVariants.{NotHeld, Reduce, Stale}
use Rattle.st_third.specs.declared.beside.Leave.{Leave}
use Rattle.st_third.specs.GiveBack as giving
use Rattle.st_third.specs.Leave as leaving
use Rattle.st_third.specs.Replies as hearing
use Rattle.st_third.specs.Runs as runs
use Rattle.st_third.specs.State as state
use Rattle.st_third.specs.State.{ThirdTurn, plainly, session}
use Rattle.st_third.specs.UsedOnce as used

-- No more operations and no more leaves.
pub record Fewer (t u : ThirdTurn) : Type 0 where
  pub operations : length u.plain.operations ≤ length t.plain.operations
  pub leaves : length u.leaves ≤ length t.leaves

pub same : (t : ThirdTurn) → Fewer t t
same t = record { operations = omega arith; leaves = omega arith }

pub both : (t u v : ThirdTurn) → Fewer t u → Fewer u v → Fewer t v
both t u v a b =
    let x = a.operations in let y = b.operations in let z = a.leaves in let w = b.leaves in
    record { operations = omega (arith, x, y); leaves = omega (arith, z, w) }

pub either : (b : Bool) (t u v : ThirdTurn) → Fewer t u → Fewer t v → Fewer t (if b then u else v)
either true t u v f g = f
either false t u v f g = g

-- a rule of the first two forms
abbrev pub Less : Turn → Turn → Type 0
Less t u = length u.operations ≤ length t.operations

pub by_rule : (t : ThirdTurn) (rule : Turn → Turn) → Less t.plain (rule t.plain) → Fewer t (plainly rule t)
unfolding plainly
by_rule t rule l = record { operations = l; leaves = omega arith }

pub less_if : (b : Bool) (t u v : Turn) → Less t u → Less t v → Less t (if b then u else v)
less_if true t u v f g = f
less_if false t u v f g = g

pub less_answers : (picked : Operation → Bool) (a : AppAnswer) (t : Turn) → Less t (cs.answer_each picked a t)
unfolding cs.answer_each
less_answers picked a t = filtered_no_longer (λ o. not (picked o)) t.operations

-- Losing

ends_operation : (s : ClientSession) (o : Operation) (t : Turn) → Less t (cl.end_operation t s o)
unfolding cl.end_operation cl.end_unsent cl.end_sync cl.tell_lost
ends_operation s o t = less_if (cs.is_sent o) t _ _ (omega arith) (unsent o.ask)
  where
    unsent : (a : Ask) → Less t (cl.end_unsent t o a)
    unsent (asks.Sync f) = less_if (pages.has_lost t.here.lost f.ino) t _ _ (omega arith) (omega arith)
    unsent a = omega arith

ends_leave : (t : ThirdTurn) (l : Option Leave) → Fewer t (leaving.end_leave_at t l)
unfolding leaving.end_leave_at leaving.end_leave state.answer_leave state.say
ends_leave t None = same t
ends_leave t (Some l) = go (leaving.least_lost t.plain.here.lost)
  where
    go : (o : Option ℕ) → Fewer t (leaving.end_leave l t o)
    go None = let f = filtered_no_longer (λ x. not (state.is_leave_numbered l.op x)) t.leaves in record { operations = omega arith; leaves = f }
    go (Some ino) = let f = filtered_no_longer (λ x. not (state.is_leave_numbered l.op x)) t.leaves in record { operations = omega arith; leaves = f }

ends_each : (s : ClientSession) (os : List Operation) (ls : List Leave) (ns : List ℕ) (t : ThirdTurn) → Fewer t (leaving.end_numbers s os ls ns t)
unfolding leaving.end_numbers leaving.end_either
ends_each s os ls [] t = same t
ends_each s os ls (n ∷ ns) t = both t _ _ (go (find (state.is_operation_numbered n) os)) (ends_each s os ls ns _)
  where
    go : (o : Option Operation) → Fewer t (leaving.end_either s ls n t o)
    go None = ends_leave t (find (state.is_leave_numbered n) ls)
    go (Some o) = by_rule t (leaving.ended s o) (ends_operation s o t.plain)

pub loses : (now : Stamp) (t : ThirdTurn) → Fewer t (leaving.lose now t)
unfolding leaving.lose leaving.lose_by leaving.lose_over leaving.lose_session leaving.end_operations plainly
loses now t = go (session t)
  where
    own : Fewer t (plainly leaving.without_own (plainly leaving.noted_lost t))
    own = record { operations = filtered_no_longer (λ o. not (cs.is_of t.plain.here.server o)) t.plain.operations; leaves = omega arith }

    over : (s : ClientSession) → Fewer t (leaving.lose_session t s)
    over s = let f = both t _ _ own (ends_each s _ _ _ _) in record { operations = f.operations; leaves = f.leaves }

    go : (o : Option ClientSession) → Fewer t (leaving.lose_by t now o)
    go None = same t
    go (Some s) = either (cl.is_over t.plain s now) t _ _ (over s) (same t)

-- Giving a lock back

gives_back : (t : ThirdTurn) (s : ClientSession) (o : Operation) → Fewer t (giving.give_back t s o)
unfolding giving.give_back giving.give_unless giving.give_lock replies.refuse_file plainly
gives_back t s o =
    either (giving.is_all_stuck t s) t _ _ (refused (cs.file_of o.ask))
    (either (giving.is_on_its_way t s) t _ _ (same t) (gives (giving.chosen t (giving.spare t s o))))
  where
    refused : (f : Option ℕ) → Fewer t (plainly (giving.too_many f) t)
    refused None = same t
    refused (Some ino) = by_rule t (giving.too_many (Some ino)) (less_answers (replies.works_on t.plain ino) answers.TooManyLocks t.plain)

    gives : (l : Option HeldLock) → Fewer t (giving.give_lock t s l)
    gives None = same t
    gives (Some l) = record { operations = omega arith; leaves = omega arith }

gives_each : (s : ClientSession) (os : List Operation) (t : ThirdTurn) → Fewer t (giving.give_each s os t)
unfolding giving.give_each giving.give_for giving.give_if_full giving.give_or_go_on
gives_each s [] t = same t
gives_each s (o ∷ os) t =
    either (giving.is_pending t o && giving.needs_further t s o) t _ _
    (either (giving.is_full t s) t _ _
    (either (giving.is_all_stuck t s) t _ _ (both t _ _ (gives_back t s o) (gives_each s os _)) (gives_back t s o)) (same t))
    (gives_each s os t)

pub gives_all : (now : Stamp) (t : ThirdTurn) → Fewer t (giving.giving now t)
unfolding giving.giving giving.giving_by giving.giving_under
gives_all now t = go (session t)
  where
    go : (o : Option ClientSession) → Fewer t (giving.giving_by t now o)
    go None = same t
    go (Some s) = either (cs.is_serving t.plain.config s now) t _ _ (gives_each s t.plain.operations t) (same t)

-- Messages

module _ (now : Stamp) where
  ended : (t : Turn) (s : ClientSession) (stamp : Stamp) → (replies.end_request t s stamp).operations ≡ t.operations
  unfolding replies.end_request replies.note_renewal replies.note_lease
  ended t s stamp = go (lease.is_renewal stamp s.lease)
    where
      go : (b : Bool) → (if b then replies.note_lease (lease.renewed stamp s.lease) t else t).operations ≡ t.operations
      go true = refl
      go false = refl

  refuses_as : (t : Turn) (w : Why) (a b : ℕ) (file : Option ℕ) (asked : Body) → Less t (replies.refuse_as t w a b file asked)
  unfolding replies.refuse_as replies.refuse_file replies.refuse_page replies.refuse_holder
  refuses_as t why.NoFile a b None asked = omega arith
  refuses_as t why.NoFile a b (Some ino) asked = less_answers (replies.works_on t ino) answers.NoFile t
  refuses_as t why.TooManyLocks a b None asked = omega arith
  refuses_as t why.TooManyLocks a b (Some ino) asked = less_answers (replies.works_on t ino) answers.TooManyLocks t
  refuses_as t why.NoSpace a b file asked = at file (cs.page_asked asked)
    where
      at : (f : Option ℕ) (p : Option PageNo) → Less t (replies.refuse_page t (answers.NoSpace a b) f p)
      at (Some ino) (Some p) = less_answers (replies.writes_on t ino p) (answers.NoSpace a b) t
      at (Some ino) None = omega arith
      at None p = omega arith
  refuses_as t why.NotHolder a b file asked =
      less_if (cs.asks_cut_or_remove asked) t _ _ (less_answers (cs.is_asked t.here.server) answers.NotHolder t) (omega arith)
  refuses_as t w a b file asked = omega arith

  named : (t : Turn) (s : ClientSession) (file : Option ℕ) (r : NameReply) → Less t (replies.named t s file r)
  unfolding replies.named replies.named_as replies.removed replies.drop_held replies.drop_lock cs.answer_each
  named t s file r = go r
    where
      u : Turn
      u = cs.answer_each (cs.is_asked t.here.server) (replies.name_answer r) t

      dropped : (f : Option ℕ) → Less u (replies.removed u s f)
      dropped None = omega arith
      dropped (Some ino) = at (locks.lock_of s.locks ino)
        where
          at : (l : Option HeldLock) → Less u (replies.drop_held u s ino l)
          at None = omega arith
          at (Some l) = omega arith

      by : (x : NameReply) → Less u (replies.named_as u s file x)
      by (replied_names.Ino ino) = dropped file
      by (replied_names.Listed rows) = omega arith
      by (replied_names.Refused code) = omega arith

      go : (x : NameReply) → Less t (replies.named_as u s file x)
      go x = let a = by x in let b = less_answers (cs.is_asked t.here.server) (replies.name_answer r) t in omega (arith, a, b)

  effect : (t : Turn) (s : ClientSession) (reply : Body) (file : Option ℕ) (asked : Body) → Less t (replies.effect t s now reply file asked)
  unfolding replies.effect replies.granted replies.queued replies.extents replies.learn replies.acknowledged replies.reasserted replies.refused replies.leave_stuck
  effect t s (bodies.Granted ino g mode) file asked = omega arith
  effect t s (bodies.Queued ino mode) file asked = omega arith
  effect t s (bodies.Extents ino rows) file asked = less_if (replies.is_current s.locks asked) t _ _ (omega arith) (omega arith)
  effect t s bodies.Ack file asked = less_answers (cs.is_asked t.here.server) answers.Cut t
  effect t s (bodies.Named r) file asked = named t s file r
  effect t s bodies.Reasserted file asked = omega arith
  effect t s (bodies.Nack w a b) file asked =
      let x = refuses_as t w a b file asked in
      let y = length-map (replies.refuse_as t w a b file asked).operations (replies.stuck (replies.refuse_as t w a b file asked)) in omega (arith, x, y)
  effect t s reply file asked = omega arith

  counts : (t : Turn) (s : ClientSession) (stamp : Stamp) (reply asked : Body) → Less t (replies.count_reply t s now stamp reply asked)
  unfolding replies.count_reply replies.condemn replies.reply_to
  counts t s stamp reply asked =
      less_if (replies.refuses_reassertion reply asked) t _ _ (omega arith)
      (let a = effect (replies.end_request t s stamp) (replies.ended_by stamp s) reply (cs.file_asked s.cutting asked) asked in
      let b = ended t s stamp in let c : length (replies.end_request t s stamp).operations ≡ length t.operations = ap (λ os. length os) b in omega (arith, a, c))

  grants : (t : ThirdTurn) (s : ClientSession) (ino : ℕ) (g : GrantNo) (mode : Mode) → Fewer t (used.granted t s ino g mode)
  unfolding used.granted used.grant used.owe plainly
  grants t s ino g mode = either (used.is_installed (cs.forget_wait ino s) ino g) t _ _ (record { operations = omega arith; leaves = omega arith }) (record { operations = omega arith; leaves = omega arith })

  ends_request : (t : ThirdTurn) (s : ClientSession) (stamp : Stamp) → Fewer t (hearing.end_request t s stamp)
  ends_request t s stamp =
      by_rule t (hearing.request_ended s stamp)
      (let c : length (replies.end_request t.plain s stamp).operations ≡ length t.plain.operations = ap (λ os. length os) (ended t.plain s stamp) in omega (arith, c))

  full_at : (t : ThirdTurn) (s : ClientSession) (ino : ℕ) → Fewer t (giving.full_at t s now ino)
  unfolding giving.full_at giving.give_at
  full_at t s ino = go (find (giving.needs_file t ino) t.plain.operations)
    where
      u : ThirdTurn
      u = giving.with_full now t

      go : (o : Option Operation) → Fewer t (giving.give_at u s o)
      go None = record { operations = omega arith; leaves = omega arith }
      go (Some o) = let f = gives_back u s o in record { operations = f.operations; leaves = f.leaves }

  refused : (t : ThirdTurn) (s : ClientSession) (stamp : Stamp) (w : Why) (a b : ℕ) (asked : Body) → Fewer t (hearing.refused t s now stamp w a b asked)
  unfolding hearing.refused hearing.no_space
  refused t s stamp w a b asked = go w asked
    where
      as_plain : (w : Why) (asked : Body) → Fewer t (plainly (hearing.plain_reply s now stamp (bodies.Nack w a b) asked) t)
      as_plain w asked = by_rule t (hearing.plain_reply s now stamp (bodies.Nack w a b) asked) (counts t.plain s stamp (bodies.Nack w a b) asked)

      go : (w : Why) (asked : Body) → Fewer t (hearing.refused t s now stamp w a b asked)
      go why.TooManyLocks (bodies.Acquire ino mode) = both t _ _ (ends_request t s stamp) (full_at _ _ ino)
      go why.NoSpace (bodies.Allocate ino g p count) =
          either (runs.is_partly_free a count) t _ _ (let f = ends_request t s stamp in record { operations = f.operations; leaves = f.leaves })
          (as_plain why.NoSpace (bodies.Allocate ino g p count))
      go w asked = as_plain w asked

  counted : (t : ThirdTurn) (s : ClientSession) (stamp : Stamp) (reply asked : Body) → Fewer t (hearing.count_reply t s now stamp reply asked)
  unfolding hearing.count_reply runs.run_restored
  counted t s stamp (bodies.Granted ino g mode) asked = both t _ _ (ends_request t s stamp) (grants _ _ ino g mode)
  counted t s stamp (bodies.Extents ino rows) asked =
      let f = by_rule t (hearing.plain_reply s now stamp (bodies.Extents ino rows) asked) (counts t.plain s stamp (bodies.Extents ino rows) asked) in
      either (runs.is_allocated s asked) t _ _ (record { operations = f.operations; leaves = f.leaves }) f
  counted t s stamp (bodies.Nack w a b) asked = refused t s stamp w a b asked
  counted t s stamp reply asked = by_rule t (hearing.plain_reply s now stamp reply asked) (counts t.plain s stamp reply asked)

  replied : (t : ThirdTurn) (s : ClientSession) (h : Header) (reply : Body) → Fewer t (hearing.reply_of t s now h reply)
  unfolding hearing.reply_of hearing.counted hearing.by_request
  replied t s h reply = go s.requests.asked
    where
      go : (q : Option Request) → Fewer t (hearing.counted t s now h.number (record { 0 = h.stamp }) reply q)
      go None = same t
      go (Some q) = either (replies.is_counting h.number reply q) t _ _ (counted t s (record { 0 = h.stamp }) reply q.body) (same t)

  of_epoch : (t : ThirdTurn) (s : ClientSession) (h : Header) (body : Body) → Fewer t (hearing.of_epoch t s now h body)
  unfolding hearing.of_epoch hearing.nack hearing.grant_or_reply hearing.demand replies.condemn plainly replies.release_unheld replies.observe_demand replies.demand_as cs.send
  of_epoch t s h (bodies.Nack w a b) = go w
    where
      go : (w : Why) → Fewer t (hearing.nack t s now h w a b)
      go why.Suspect = record { operations = omega arith; leaves = omega arith }
      go why.NoSession = record { operations = omega arith; leaves = omega arith }
      go why.OtherEpoch = same t
      go why.Grace = same t
      go why.GraceOver = record { operations = omega arith; leaves = omega arith }
      go why.Conflict = record { operations = omega arith; leaves = omega arith }
      go w = replied t s h (bodies.Nack w a b)
  of_epoch t s h (bodies.Granted ino g mode) = either (h.number == 0) t _ _ (grants t s ino g mode) (replied t s h (bodies.Granted ino g mode))
  of_epoch t s h (bodies.Demand ino g to) = go (locks.demand s.locks ino g to)
    where
      go : (d : locks.Demanding) → Fewer t (plainly (hearing.demand_by s ino g d) t)
      go d = at d.asked
        where
          at : (a : Asked) → Fewer t (plainly (hearing.demand_as (cs.with_cache d.locks s) ino g a) t)
          at Reduce = record { operations = omega arith; leaves = omega arith }
          at NotHeld = record { operations = omega arith; leaves = omega arith }
          at Stale = record { operations = omega arith; leaves = omega arith }
  of_epoch t s h body = replied t s h body

  other_epoch : (t : Turn) (s : ClientSession) (epoch : Epoch) (body : Body) → Less t (replies.of_other_epoch t s epoch body)
  unfolding replies.of_other_epoch replies.newer_epoch replies.follow_epoch
  other_epoch t s epoch (bodies.Nack w a b) = go w
    where
      go : (w : Why) → Less t (replies.refused_in t s epoch w)
      go why.OtherEpoch =
          less_if (replies.is_newer s epoch) t _ _
          (less_answers (cs.is_asked t.here.server) (answers.Uncertain s.epoch.0 epoch.0) (cs.with_session (replies.in_epoch epoch s) t)) (omega arith)
      go w = omega arith
  other_epoch t s epoch body = omega arith

  begins : (t : ThirdTurn) (h : Header) (body : Body) → Fewer t (hearing.without_session t now h body)
  unfolding hearing.without_session hearing.welcome plainly replies.note_lease
  begins t h bodies.Welcome =
      either (hearing.is_fresh t.plain now (record { 0 = h.stamp })) t _ _ (record { operations = omega arith; leaves = omega arith }) (same t)
  begins t h body = same t

  pub receives : (h : Header) (body : Body) (t : ThirdTurn) → Fewer t (hearing.receive_at now h body t)
  unfolding hearing.receive_at hearing.by_session hearing.with_a_session
  receives h body t = either (replies.is_received t.plain now h) t _ _ (go (session t)) (same t)
    where
      go : (o : Option ClientSession) → Fewer t (hearing.by_session t now h body o)
      go None = begins t h body
      go (Some s) =
          either (h.epoch == s.epoch.0) t _ _ (of_epoch t s h body)
          (by_rule t (hearing.of_other_epoch s (record { 0 = h.epoch }) body) (other_epoch t.plain s (record { 0 = h.epoch }) body))
