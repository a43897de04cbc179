-- What a reply does at a client, as in the first two forms, is a list of changes that ask nothing and send nothing.
use Rattle.st_lemmas.proofs.Words
use Words.{◌≡◌, ◌≤◌, ℕ, Bool, true, false, not, List, [], ◌∷◌, Option, Some, None, refl, sym, ap, ◌∙◌, subst, inl, inr, arith, if◌then◌else◌, eqb-true, ltb-true}
use Words.{nat_lt, Body, Epoch, ExtentRow, HeldLock, Life, NameReply, PageNo, Request, ServerId, Stamp, Why}
use Words.answers
use Words.bodies
use Words.replies.{Ino, Listed, Refused}
use Words.why
use Words.ClientLease as lease
use Words.ClientLease.{ClientLease}
use Words.ClientLocks as locks
use Words.ClientPages as pages
use Words.ClientReplies as replies
use Words.ClientState as cs
use Words.ClientState.{Association, ClientSession, Turn, answer_each, fits, is_asked, with_session, with_store}
use Words.Keys.{server_node}
use Words.Tables.{and_true, has_filter}
use Rattle.st_promises.specs.Faults as faults
use Rattle.st_laws_steps.specs.Client.Client as client
use Rattle.st_laws_steps.specs.Client.Client.{Unasked}
use Rattle.st_laws_steps.specs.Client.Session.{AsksNothing, DropsLock, EndsRequest, IsReasserted, NewEpoch}
use Rattle.st_laws_steps.proofs.Client.Changes.{goes_keeps}
use Rattle.st_laws_steps.proofs.Client.Replying.{Fresh, alike_condemned, alike_wait, granted_alike, same_store, session_ended}
use Rattle.st_base.specs.Mode.{covers}
use Rattle.st_laws_third.specs.Changes.{AnswersRight, Bounds, GoesOnBy, Hears, NewerEpoch, WasHeld}
use Rattle.st_laws_third.proofs.Chains.{Old, fewer_locks, old_answers, old_both, old_either, old_one, old_still, same_locks}
use Rattle.st_laws_third.proofs.UsedOnce.{has_granted}

-- a lease that is renewed is dated no earlier
renewed_date : (stamp : Stamp) (l : ClientLease) → l.date.0 ≤ (lease.renewed stamp l).date.0
unfolding lease.renewed lease.dated
renewed_date stamp l = go (lease.is_renewal stamp l) refl
  where
    go : (b : Bool) → lease.is_renewal stamp l ≡ b → l.date.0 ≤ (if b then record l { date = stamp } else l).date.0
    go true e = let z = ltb-true l.date.0 stamp.0 (and_true (not l.condemned) (nat_lt l.date.0 stamp.0) e).1 in omega (arith, z)
    go false e = omega arith

no_page : (x : ℕ × PageNo) → ◌≡◌ {A = Option (ℕ × PageNo)} None (Some x) → ⊥
no_page x q = cc

module _ (within : Bounds) (now : Stamp) where
  abbrev C : Turn → Turn → Type 0
  C t u = Old within now t u

  goes_on : (t : Turn) (s u : ClientSession) → t.here.session ≡ Some s → AsksNothing t.here.store.extents s u → GoesOnBy within.heard t.here (Some s) u →
      C t (with_session u t)
  goes_on t s u e a g = old_one (client.Follows t s u e (goes_keeps t.here.store s u a)) (tt, g)

  -- a reply of another epoch
  begins_epoch : (t : Turn) (s : ClientSession) (epoch : Epoch) (body : Body) → t.here.session ≡ Some s → Hears within.heard t.here epoch.0 body →
      C t (replies.newer_epoch t s epoch)
  unfolding replies.newer_epoch replies.follow_epoch locks.forget_demands
  begins_epoch t s epoch body e h =
      old_either (replies.is_newer s epoch) t _ _
      (λ b. old_both (old_one (client.Follows t s (replies.in_epoch epoch s) e
      (record {
        how = NewEpoch s epoch (ltb-true s.epoch.0 epoch.0 (and_true (nat_lt s.epoch.0 epoch.0) _ b).0);
        date = omega arith;
        asks = λ x q. absurd (no_page x q);
      })) (tt, record { locks = λ l i. WasHeld l i refl refl; epoch = NewerEpoch body h }))
      (old_answers (is_asked t.here.server) (answers.Uncertain s.epoch.0 epoch.0) (with_session (replies.in_epoch epoch s) t) tt))
      (λ b. old_still t)

  pub of_other_epoch : (t : Turn) (s : ClientSession) (epoch : Epoch) (body : Body) → t.here.session ≡ Some s → Hears within.heard t.here epoch.0 body →
      C t (replies.of_other_epoch t s epoch body)
  unfolding replies.of_other_epoch
  of_other_epoch t s epoch (bodies.Nack w a b) e h = go w
    where
      go : (w : Why) → C t (replies.refused_in t s epoch w)
      go why.OtherEpoch = begins_epoch t s epoch (bodies.Nack w a b) e h
      go w = old_still t
  of_other_epoch t s epoch body e h = old_still t

  pub condemns : (t : Turn) (s : ClientSession) → t.here.session ≡ Some s → C t (replies.condemn t s)
  unfolding replies.condemn lease.condemned
  condemns t s e = goes_on t s _ e (alike_condemned t.here.store.extents s) (same_locks t.here s _ refl refl)

  -- Extents: what is reported about places is known.
  knows_rows : (ino : ℕ) (rows : List ExtentRow) (t : Turn) → Unasked t.here.session →
      C t (with_store (record t.here.store { extents = pages.with_known_rows ino rows t.here.store.extents }) t)
  unfolding pages.with_known_rows
  knows_rows ino [] t u = old_still t
  knows_rows ino (r ∷ rs) t u = old_both (old_one (client.Learns t (pages.known_row ino r) u (λ q. absurd (mapped q))) tt) (knows_rows ino rs _ u)
    where
      mapped : (pages.known_row ino r).mapping ≡ None → ⊥
      mapped q = cc

  learns : (t : Turn) (ino : ℕ) (rows : List ExtentRow) (asked : Body) → Unasked t.here.session → fits (bodies.Extents ino rows) asked ≡ true →
      Fresh t.here.store asked → C t (replies.learn t ino rows asked)
  unfolding replies.learn
  learns t ino rows (bodies.Map i g p) u f fr = go rows
    where
      go : (rows : List ExtentRow) → C t (with_store (replies.learn_map ino p rows t.here.store) t)
      go [] =
          old_one (client.Learns t (pages.known_unmapped ino p) u
          (λ q. subst (λ n. pages.known_of t.here.store.extents n p ≡ None) (eqb-true i ino f) (fr (i, p) refl))) tt
      go (r ∷ rs) = knows_rows ino (r ∷ rs) t u
  learns t ino rows asked u f fr = knows_rows ino rows t u

  -- Names: the lock of a file that was removed goes.
  drops_lock : (t : Turn) (s : ClientSession) (file : Option ℕ) → t.here.session ≡ Some s → C t (replies.removed t s file)
  unfolding replies.removed replies.drop_held replies.drop_lock locks.drop_lock
  drops_lock t s None e = old_still t
  drops_lock t s (Some ino) e = go (locks.lock_of s.locks ino)
    where
      go : (l : Option HeldLock) → C t (replies.drop_held t s ino l)
      go None = old_still t
      go (Some l) =
          old_one (client.Follows t s _ e (record { how = DropsLock s ino l; date = omega arith; asks = λ x q. inl q }))
          (tt, fewer_locks t.here s _ (λ k h. (has_filter (λ r. not (locks.is_lock_on ino r)) s.locks.rows k h).0) refl)

  is_named : (t : Turn) (s : ClientSession) (epoch : ℕ) (file : Option ℕ) (reply : NameReply) → t.here.session ≡ Some s →
      Hears within.heard t.here epoch (bodies.Named reply) → C t (replies.named t s file reply)
  unfolding replies.named replies.named_as answer_each
  is_named t s epoch file reply e h =
      old_both (old_answers (is_asked t.here.server) (replies.name_answer reply) t (caused reply h)) (go reply)
    where
      caused : (r : NameReply) → Hears within.heard t.here epoch (bodies.Named r) → AnswersRight within t (replies.name_answer r)
      caused (Ino ino) h = tt
      caused (Listed rows) h = tt
      caused (Refused code) h = record { message = h.message; is = h.is; refuses = ap faults.refuses h.body }

      u : Turn
      u = answer_each (is_asked t.here.server) (replies.name_answer reply) t

      go : (r : NameReply) → C u (replies.named_as u s file r)
      go (Ino ino) = drops_lock u s file e
      go (Listed rows) = old_still u
      go (Refused code) = old_still u

  -- Refusals
  refuses_as : (t : Turn) (epoch : ℕ) (w : Why) (a b : ℕ) (file : Option ℕ) (asked : Body) → Hears within.heard t.here epoch (bodies.Nack w a b) →
      C t (replies.refuse_as t w a b file asked)
  unfolding replies.refuse_as replies.refuse_file replies.refuse_page replies.refuse_holder
  refuses_as t epoch why.NoFile a b None asked h = old_still t
  refuses_as t epoch why.NoFile a b (Some ino) asked h = old_answers (replies.works_on t ino) answers.NoFile t tt
  refuses_as t epoch why.TooManyLocks a b None asked h = old_still t
  refuses_as t epoch why.TooManyLocks a b (Some ino) asked h =
      old_answers (replies.works_on t ino) answers.TooManyLocks t (inr (record { message = h.message; is = h.is; limit = a; more = b; body = h.body }))
  refuses_as t epoch why.NoSpace a b file asked h = at file (cs.page_asked asked)
    where
      at : (f : Option ℕ) (p : Option PageNo) → C t (replies.refuse_page t (answers.NoSpace a b) f p)
      at None p = old_still t
      at (Some ino) None = old_still t
      at (Some ino) (Some p) =
          old_answers (replies.writes_on t ino p) (answers.NoSpace a b) t (record { message = h.message; is = h.is; refuses = ap faults.refuses h.body })
  refuses_as t epoch why.NotHolder a b file asked h =
      old_either (cs.asks_cut_or_remove asked) t _ _
      (λ e. old_answers (is_asked t.here.server) answers.NotHolder t (record { message = h.message; is = h.is; refuses = ap faults.refuses h.body }))
      (λ e. old_still t)
  refuses_as t epoch w a b file asked h = old_still t

  refuses : (t : Turn) (epoch : ℕ) (w : Why) (a b : ℕ) (file : Option ℕ) (asked : Body) → Hears within.heard t.here epoch (bodies.Nack w a b) →
      C t (replies.refused t w a b file asked)
  unfolding replies.refused replies.leave_stuck
  refuses t epoch w a b file asked h = old_both (refuses_as t epoch w a b file asked h) (old_one (client.Operates _ _) tt)

  -- what a reply other than an accepted reassertion does when it ends a request
  abbrev IsOther : Body → Type 0
  IsOther bodies.Reasserted = ⊥
  IsOther b = Unit {0}

  has_effect : (t : Turn) (s : ClientSession) (epoch : ℕ) (reply : Body) (file : Option ℕ) (asked : Body) → IsOther reply → t.here.session ≡ Some s →
      s.requests.asked ≡ None → fits reply asked ≡ true → Fresh t.here.store asked → Hears within.heard t.here epoch reply →
      C t (replies.effect t s now reply file asked)
  unfolding replies.effect replies.acknowledged replies.granted replies.queued replies.extents replies.wait_unless_held replies.wait_told
  has_effect t s epoch (bodies.Granted ino g mode) file asked o e n f fr h =
      goes_on t s _ e (granted_alike t.here.store.extents s ino g mode) (has_granted t.here s epoch ino g mode h)
  has_effect t s epoch (bodies.Queued ino mode) file asked o e n f fr h =
      goes_on t s _ e (alike_wait t.here.store.extents s ino mode now) (waits (covers (locks.mode_of s.locks ino) mode))
    where
      waits : (b : Bool) → GoesOnBy within.heard t.here (Some s) (if b then s else replies.wait_told s ino mode now)
      waits true = same_locks t.here s s refl refl
      waits false = same_locks t.here s _ refl refl
  has_effect t s epoch (bodies.Extents ino rows) file asked o e n f fr h =
      old_either (replies.is_current s.locks asked) t _ _ (λ c. learns t ino rows asked (subst Unasked (sym e) n) f fr) (λ c. old_still t)
  has_effect t s epoch bodies.Ack file asked o e n f fr h = old_answers (is_asked t.here.server) answers.Cut t tt
  has_effect t s epoch (bodies.Named reply) file asked o e n f fr h = is_named t s epoch file reply e h
  has_effect t s epoch bodies.Reasserted file asked o e n f fr h = absurd o
  has_effect t s epoch (bodies.Nack w a b) file asked o e n f fr h = refuses t epoch w a b file asked h
  has_effect t s epoch reply file asked o e n f fr h = old_still t

  -- the request ends
  pub ends_request : (t : Turn) (s : ClientSession) (stamp : Stamp) → t.here.session ≡ Some s → C t (replies.end_request t s stamp)
  unfolding replies.end_request replies.note_renewal replies.note_lease
  ends_request t s stamp e = go (lease.is_renewal stamp s.lease)
    where
      ended : ClientSession
      ended = replies.ended_by stamp s

      ends : (u : Turn) → u.here.session ≡ Some s → C u (with_session ended u)
      ends u e =
          old_one (client.Follows u s ended e
          (record { how = EndsRequest s stamp; date = renewed_date stamp s.lease; asks = λ x q. absurd (no_page x q) }))
          (tt, same_locks u.here s ended refl refl)

      go : (b : Bool) → C t (with_session ended (if b then replies.note_lease (lease.renewed stamp s.lease) t else t))
      go true = old_both (old_one (client.Says t _ tt) tt) (ends (replies.note_lease (lease.renewed stamp s.lease) t) e)
      go false = ends t e

  -- the server and the life stay
  pub still_hears : (t : Turn) (s : ClientSession) (stamp : Stamp) (epoch : ℕ) (b : Body) → Hears within.heard t.here epoch b →
      Hears within.heard (replies.end_request t s stamp).here epoch b
  unfolding replies.end_request replies.note_renewal replies.note_lease
  still_hears t s stamp epoch b h = go (lease.is_renewal stamp s.lease)
    where
      same : (a : Association) → a.server ≡ t.here.server → a.life ≡ t.here.life → Hears within.heard a epoch b
      same a p q =
          record {
            message = h.message;
            is = h.is;
            from = h.from ∙ ap (λ (z : ServerId). server_node z) (sym p);
            life = h.life ∙ ap (λ (z : Life). z.0) (sym q);
            in_epoch = h.in_epoch;
            body = h.body;
          }

      go : (x : Bool) →
          Hears within.heard (with_session (replies.ended_by stamp s) (if x then replies.note_lease (lease.renewed stamp s.lease) t else t)).here epoch b
      go true = same _ refl refl
      go false = same _ refl refl

  -- locks are reasserted while the request is outstanding, and then it ends
  is_reasserted : (t : Turn) (s : ClientSession) (stamp : Stamp) (q : Request) → t.here.session ≡ Some s → s.requests.asked ≡ Some q →
      C t (replies.reasserted (replies.end_request t s stamp) (replies.ended_by stamp s))
  unfolding replies.reasserted replies.end_request replies.note_renewal replies.note_lease
  is_reasserted t s stamp q e a = go (lease.is_renewal stamp s.lease)
    where
      r : ClientSession
      r = record s { due = false }

      ends : (u : Turn) → u.here.session ≡ Some s → C u (with_session (replies.ended_by stamp r) u)
      ends u e =
          old_both
          (old_one (client.Follows u s r e (record { how = IsReasserted s; date = omega arith; asks = λ x q. inl q }))
          ((q, a), same_locks u.here s r refl refl))
          (old_one (client.Follows (with_session r u) r (replies.ended_by stamp r) refl
          (record { how = EndsRequest r stamp; date = renewed_date stamp s.lease; asks = λ x q. absurd (no_page x q) }))
          (tt, same_locks (with_session r u).here r (replies.ended_by stamp r) refl refl))

      go : (b : Bool) →
          C t (with_session (replies.ended_by stamp r) (if b then replies.note_lease (lease.renewed stamp s.lease) t else t))
      go true = old_both (old_one (client.Says t _ tt) tt) (ends (replies.note_lease (lease.renewed stamp s.lease) t) e)
      go false = ends t e

  -- a reply that ends the outstanding request
  replied : (t : Turn) (s : ClientSession) (epoch : ℕ) (stamp : Stamp) (reply asked : Body) → (q : Request) × (s.requests.asked ≡ Some q) →
      t.here.session ≡ Some s → fits reply asked ≡ true → Fresh t.here.store asked → Hears within.heard t.here epoch reply →
      C t (replies.reply_to t s now stamp reply asked)
  unfolding replies.reply_to replies.effect
  replied t s epoch stamp reply asked x e f fr h = go reply f h
    where
      other : (reply : Body) → IsOther reply → fits reply asked ≡ true → Hears within.heard t.here epoch reply →
          C t (replies.reply_to t s now stamp reply asked)
      other reply o f h =
          old_both (ends_request t s stamp e)
          (has_effect (replies.end_request t s stamp) (replies.ended_by stamp s) epoch reply (cs.file_asked s.cutting asked) asked o
          (session_ended now t s stamp)
          refl f (subst (λ st. Fresh st asked) (sym (same_store now t s stamp)) fr) (still_hears t s stamp epoch reply h))

      again : C t (replies.reply_to t s now stamp bodies.Reasserted asked)
      again = is_reasserted t s stamp x.0 e x.1

      go : (reply : Body) → fits reply asked ≡ true → Hears within.heard t.here epoch reply → C t (replies.reply_to t s now stamp reply asked)
      go bodies.Reasserted f h = again
      go reply f h = other reply tt f h

  -- a reply that counts
  pub counts : (t : Turn) (s : ClientSession) (epoch : ℕ) (stamp : Stamp) (reply asked : Body) → (q : Request) × (s.requests.asked ≡ Some q) →
      t.here.session ≡ Some s → fits reply asked ≡ true → Fresh t.here.store asked → Hears within.heard t.here epoch reply →
      C t (replies.count_reply t s now stamp reply asked)
  unfolding replies.count_reply
  counts t s epoch stamp reply asked x e f fr h =
      old_either (replies.refuses_reassertion reply asked) t _ _ (λ c. condemns t s e) (λ c. replied t s epoch stamp reply asked x e f fr h)
