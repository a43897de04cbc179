-- Lists of changes of the third form: how they are put together, and those of the first two forms among them.
use Rattle.st_lemmas.proofs.Words
use Words.{◌≡◌, ℕ, Bool, true, false, List, [], ◌∷◌, ◌++◌, Option, Some, None, map, refl, subst, inl, inr, if◌then◌else◌, append_assoc, filter}
use Words.{◌≤◌, arith, length, AppAnswer, Ask, CleanPage, HeldLock, Operation, Output, Request, Stamp}
use Words.answers
use Words.asks
use Words.Client as cl
use Words.ClientPages as pages
use Words.Lists.{Has}
use Rattle.std.proofs.lemmas.List.{length-take}
use Words.ClientState as cs
use Words.ClientState.{Association, ClientSession, Turn, with_session}
use Words.Lengths.{nothing_after}
use Words.Tables.{has_filter}
use Rattle.st_messages.specs.declared.output.Output.TheVariants as outputs
use Rattle.st_laws_steps.specs.Client.Client as client
use Rattle.st_laws_steps.specs.Client.Session.{AsksNothing}
use Rattle.st_laws_steps.proofs.Client.Changes.{goes_keeps}
use Rattle.st_laws_steps.proofs.Client.Only.{Only, Ends, Goes, joined, single}
use Rattle.st_third.specs.declared.beside.Leave.{Leave}
use Rattle.st_third.specs.declared.output.ThirdOutput.TheVariants as says
use Rattle.st_third.specs.State as third
use Rattle.st_third.specs.State.{ThirdTurn, plainly}
use Rattle.st_laws_third.specs.Changes.{ThirdChange, ThirdChanges, AnswersRight, ArePending, Bounds, Continues, GoesOnBy, Heard, HeardFailure, IsRun, SameEpoch, Still, Then, WasHeld}
use Rattle.st_laws_third.specs.Changes.{Plainly, Says, Leaves, bounds, with_plain}

pub one : {got : Heard} {now : Stamp} {t u : ThirdTurn} → ThirdChange got now t u → ThirdChanges got now t u
one {got} {now} {t} {u} c = Then t u u c (Still u)

both_of : (got : Heard) (now : Stamp) (t u v : ThirdTurn) → ThirdChanges got now t u → ThirdChanges got now u v → ThirdChanges got now t v
both_of got now _ _ v (Still x) d = d
both_of got now _ _ v (Then t x u c cs) d = Then t x v c (both_of got now x u v cs d)

pub both : {got : Heard} {now : Stamp} {t u v : ThirdTurn} → ThirdChanges got now t u → ThirdChanges got now u v → ThirdChanges got now t v
both {got} {now} {t} {u} {v} c d = both_of got now t u v c d

pub either : {got : Heard} {now : Stamp} (b : Bool) (t u v : ThirdTurn) → (b ≡ true → ThirdChanges got now t u) → (b ≡ false → ThirdChanges got now t v) →
    ThirdChanges got now t (if b then u else v)
either true t u v f g = f refl
either false t u v f g = g refl

-- Changes of the first two forms, within bounds, that begin no session.
pub record Old (within : Bounds) (now : Stamp) (t u : Turn) : Type 0 where
  pub list : Only (Continues within) now t u

pub old_still : {within : Bounds} {now : Stamp} (t : Turn) → Old within now t t
old_still t = record { list = Ends t }

pub old_one : {within : Bounds} {now : Stamp} {t u : Turn} (c : client.Change now t u) → Continues within now t u c → Old within now t u
old_one {within} {now} {t} {u} c p = record { list = single (Continues within) now t u c p }

pub old_both : {within : Bounds} {now : Stamp} {t u v : Turn} → Old within now t u → Old within now u v → Old within now t v
old_both {within} {now} {t} {u} {v} a b = record { list = joined (Continues within) now t u v a.list b.list }

pub old_either : {within : Bounds} {now : Stamp} (b : Bool) (t u v : Turn) → (b ≡ true → Old within now t u) → (b ≡ false → Old within now t v) →
    Old within now t (if b then u else v)
old_either true t u v f g = f refl
old_either false t u v f g = g refl

-- A session that goes on without a new lock.

pub fewer_locks : {got : Heard} (a : Association) (s u : ClientSession) → ((l : HeldLock) → Has l u.locks.rows → Has l s.locks.rows) → u.epoch ≡ s.epoch →
    GoesOnBy got a (Some s) u
fewer_locks a s u f e = record { locks = λ l h. WasHeld l (f l h) refl refl; epoch = SameEpoch s refl e }

pub same_locks : {got : Heard} (a : Association) (s u : ClientSession) → u.locks.rows ≡ s.locks.rows → u.epoch ≡ s.epoch → GoesOnBy got a (Some s) u
same_locks a s u e q = fewer_locks a s u (λ l h. subst (Has l) e h) q

-- Requests.

-- the request of a session is within a limit of runs
abbrev pub RequestRun : ℕ → Option Request → Type 0
RequestRun run None = Unit {0}
RequestRun run (Some q) = IsRun run q.body

abbrev pub SessionRun : ℕ → Option ClientSession → Type 0
SessionRun run None = Unit {0}
SessionRun run (Some s) = RequestRun run s.requests.asked

-- Clean pages: as many as may be.
pub newest_few : (most : ℕ) (c : CleanPage) (xs : List CleanPage) → length (pages.with_newest most c xs) ≤ most
newest_few most c xs = omega (arith, length-take most (c ∷ pages.without_clean c.ino c.page xs))

-- Answers.
module _ {within : Bounds} {now : Stamp} where
  pub old_answer : (t : Turn) (op : ℕ) (a : AppAnswer) → AnswersRight within t a → Old within now t (cs.answered t op a)
  old_answer t op a r = old_one (client.Says t (outputs.Answer op a) tt) r

  pub old_answers : (picked : Operation → Bool) (a : AppAnswer) (t : Turn) → AnswersRight within t a → Old within now t (cs.answer_each picked a t)
  unfolding cs.answer_each
  old_answers picked a t r = old_one (client.Answers t _ _ a) r

  pub old_keeps : (t : Turn) (o : Operation) → Old within now t (cs.keep o t)
  old_keeps t o = old_one (client.Operates t _) tt

  -- lost pages are told
  old_tells : (t : Turn) (op ino : ℕ) → Old within now t (cl.tell_lost t op ino)
  unfolding cl.tell_lost
  old_tells t op ino =
      old_both (old_one (client.TellsLost t (pages.untold t.here.lost ino)) tt) (old_answer _ op (answers.Lost (pages.told_rows t.here.lost ino)) tt)

  -- an operation ends with its session
  pub old_ends : (s : ClientSession) (o : Operation) (t : Turn) → Old within now t (cl.end_operation t s o)
  unfolding cl.end_operation cl.end_unsent cl.end_sync
  old_ends s o t = old_either (cs.is_sent o) t _ _ (λ e. old_answer t o.op (answers.Uncertain s.epoch.0 0) tt) (λ e. unsent o.ask)
    where
      unsent : (a : Ask) → Old within now t (cl.end_unsent t o a)
      unsent (asks.Sync f) =
          old_either (pages.has_lost t.here.lost f.ino) t _ _ (λ e. old_tells t o.op f.ino) (λ e. old_answer t o.op answers.Quiesced tt)
      unsent a = old_answer t o.op answers.Quiesced tt

  -- an ask
  pub old_takes : (op : ℕ) (ask : Ask) (t : Turn) → Old within now t (cl.take_ask op ask t)
  unfolding cl.take_ask cl.take_by cl.take_sync cl.enqueue
  old_takes op ask t = go ask
    where
      go : (a : Ask) → Old within now t (cl.take_by t op ask a)
      go (asks.Sync f) = old_either (pages.has_lost t.here.lost f.ino) t _ _ (λ e. old_tells t op f.ino) (λ e. old_keeps t (cs.new_operation op ask))
      go a = old_keeps t (cs.new_operation op ask)

pub left_has : {A : Type 0} (xs ys : List A) (x : A) → Has x xs → Has x (xs ++ ys)
left_has [] ys x h = absurd h
left_has (z ∷ xs) ys x (inl e) = inl e
left_has (z ∷ xs) ys x (inr h) = inr (left_has xs ys x h)

pub right_has : {A : Type 0} (xs ys : List A) (x : A) → Has x ys → Has x (xs ++ ys)
right_has [] ys x h = h
right_has (z ∷ xs) ys x h = inr (right_has xs ys x h)

plain_of : (got : Heard) (now : Stamp) (t : ThirdTurn) (u v : Turn) → Only (Continues (bounds got t)) now u v →
    ThirdChanges got now (with_plain u t) (with_plain v t)
plain_of got now t _ _ (Ends u) = Still (with_plain u t)
plain_of got now t _ v (Goes u x _ c p cs) = Then (with_plain u t) (with_plain x t) (with_plain v t) (Plainly (with_plain u t) x c p)
    (plain_of got now t x v cs)

pub as_plain : {got : Heard} {now : Stamp} (t : ThirdTurn) (u : Turn) → Old (bounds got t) now t.plain u → ThirdChanges got now t (with_plain u t)
as_plain {got} {now} t u cs = plain_of got now t t.plain u cs.list

pub by_rule : {got : Heard} {now : Stamp} (t : ThirdTurn) (rule : Turn → Turn) → Old (bounds got t) now t.plain (rule t.plain) →
    ThirdChanges got now t (plainly rule t)
unfolding plainly
by_rule t rule cs = as_plain t (rule t.plain) cs

-- a session that goes on, and asks nothing
pub follows : {got : Heard} {now : Stamp} (t : ThirdTurn) (s u : ClientSession) → third.session t ≡ Some s → AsksNothing t.plain.here.store.extents s u →
    GoesOnBy got t.plain.here (Some s) u → ThirdChanges got now t (third.with_its_session u t)
follows t s u e a g = by_rule t (with_session u) (old_one (client.Follows t.plain s u e (goes_keeps t.plain.here.store s u a)) (tt, g))

-- Answers to operations and leaves.

-- some leaves are no longer pending
pub fewer_leaves : {got : Heard} (ls : List Leave) (p : Leave → Bool) → ArePending got ls (filter p ls)
fewer_leaves ls p l h = inl (has_filter p ls l h).0

pub leave_quiesced : {got : Heard} {now : Stamp} (l : Leave) (t : ThirdTurn) → ThirdChanges got now t (third.answer_leave answers.Quiesced l t)
unfolding third.answer_leave
leave_quiesced l t = both (one (Leaves t _ (fewer_leaves t.leaves _)))
    (one (Says (third.without_leave l t) (says.Plain (outputs.Answer l.op answers.Quiesced)) tt))

numbers_fault : (within : Bounds) (now : Stamp) (number : ℕ) → within.heard ≡ Some (HeardFailure number) → (ns : List ℕ) (u : Turn) →
    Old within now u (third.answer_numbers (answers.DiskFault number) ns u)
numbers_fault within now number e [] u = subst (λ os. Old within now u (record u { out = os })) (nothing_after u.out) (old_still u)
numbers_fault within now number e (n ∷ ns) u =
    let o : Output = outputs.Answer n (answers.DiskFault number) in
    old_both (old_one (client.Says u o tt) e)
    (subst (λ os. Old within now (cs.say u o) (record u { out = os })) (append_assoc u.out (o ∷ []) (map (third.answer_number (answers.DiskFault number)) ns))
    (numbers_fault within now number e ns (cs.say u o)))

-- operations and leaves are told that a command failed
pub fault_with_leaves : {now : Stamp} (picked : Operation → Bool) (number : ℕ) (t : ThirdTurn) →
    ThirdChanges (Some (HeardFailure number)) now t (third.answer_with_leaves picked (answers.DiskFault number) t)
unfolding third.answer_with_leaves
fault_with_leaves {now} picked number t =
    let got : Heard = Some (HeardFailure number) in
    let u : ThirdTurn = third.without_picked picked t in
    let ns : List ℕ = third.numbers_picked picked t in
    both (as_plain t u.plain (old_one (client.Operates t.plain u.plain.operations) tt))
    (both (one (Leaves (with_plain u.plain t) u.leaves (fewer_leaves t.leaves _)))
    (by_rule u (third.answer_numbers (answers.DiskFault number) ns) (numbers_fault (bounds got t) now number refl ns u.plain)))
