-- A step of a client: an operation waits for a reply as before, or was just sent; and then a remove that means a file names the lock of it.
use Rattle.st_lemmas.proofs.Words
use Words.{◌≡◌, ◌⊎◌, ℕ, ◌<◌, ◌≤◌, arith, Bool, true, false, not, ◌&&◌, ◌||◌, ◌==◌, List, [], ◌∷◌, ◌++◌, Option, Some, None, refl, sym, ap, ◌∙◌, subst, inl, inr, if◌then◌else◌}
use Words.{append-nil, append_assoc, is_some, list_any, map, eqb-true, Stage, Ask, Body, ClientInput, GrantNo, Header, NameAsk, Operation, PageNo, Request, ServerId, Stamp, Tag, AppAnswer, Why}
use Words.answers
use Words.asks
use Words.bodies
use Words.inputs
use Words.io
use Words.modes
use Words.ops
use Words.stages
use Words.Client as cl
use Words.ClientLocks as locks
use Words.ClientPages as pages
use Words.ClientPasses as cp
use Words.ClientReplies as cr
use Words.ClientState as cs
use Words.ClientState.{Association, ClientSession, ClientState, ClientTurn, Turn, at_each, at_these, client_turn, enter, leave, only_at, server_of, with_associations, with_operations}
use Words.Lists.{Has}
use Words.Lookups.{some_is}
use Words.Members.{has_left, has_middle, has_right, some_member_passes}
use Words.Tables.{and_both, and_true, cond_either, some_passes, has_append, has_filter, has_map}
use Words.Truth.{clash, exclusive_covers}
use Rattle.st_base.specs.declared.names.NameAsk.TheVariants as names
use Rattle.st_trace.specs.Client.Commands as ends
use Rattle.st_trace.specs.Client.Commands.{Finishes, Takes}
use Rattle.st_trace.specs.Client.Losses as losing
use Rattle.st_trace.specs.Client.Losses.{Ended, Loses}
use Rattle.st_trace.specs.Client.Messages as trace
use Rattle.st_trace.specs.Client.Messages.{Effect, Receives, Refusal, Renews}
use Rattle.st_trace.specs.Client.Operations as pass
use Rattle.st_trace.specs.Client.Operations.{Operated}
use Rattle.st_trace.specs.Client.Passes.{Passed, Reduced, StaysHeld, IsReduced, WritesOut, StaysDirty, IsWritten, places_of}
use Rattle.st_trace.specs.Client.Requests as asking
use Rattle.st_trace.specs.Client.Requests.{Greets, Requests, Wants}
use Rattle.st_trace.proofs.Client.Finishing.{at_server, finishes, takes}
use Rattle.st_trace.proofs.Client.Losing.{loses}
use Rattle.st_trace.proofs.Client.Receiving.{receives}
use Rattle.st_trace.proofs.Client.Operating.{operations}
use Rattle.st_trace.proofs.Client.Requesting.{greets, requests}
use Rattle.st_trace.proofs.Client.Walk.{each_lasts, reductions, writes}
use Rattle.st_laws_steps.specs.Client.Session.{HasExclusive}
use Rattle.st_laws_volume.specs.SentOrder.{AllOrdered, Fine, Ordered}
use Rattle.st_laws_volume.proofs.SentOrder.{NoneWaits, fine, kind_of}
use Rattle.st_laws_volume.proofs.WaitingChanges.{Busy, Rest, after_operations, begun_busy, not_idle}
use Rattle.st_volume.specs.Volume.{is_cut_or_name, is_sooner}
use Rattle.st_laws_volume.proofs.SortedOperations.{Sorted, sorted_after, sorted_filter, sorted_last, sorted_less, sorted_map, sorted_put}

-- A remove that means a file is sent under the exclusive lock of it.
abbrev pub IsUnder : ClientSession → Ask → Body → Type 0
IsUnder x (asks.Name s (names.Remove dir name ino)) (bodies.Name (ops.Remove d n g)) = (ino ≡ 0 → ⊥) → HasExclusive x ino g
IsUnder x ask body = Unit {0}

-- of the outstanding request
abbrev pub IsUnderAt : ClientSession → Ask → Option Request → Type 0
IsUnderAt x ask None = ⊥
IsUnderAt x ask (Some q) = IsUnder x ask q.body

abbrev pub IsUnderIn : Option ClientSession → Ask → Type 0
IsUnderIn None ask = ⊥
IsUnderIn (Some x) ask = IsUnderAt x ask x.requests.asked

-- An operation of the server has just been sent.
pub record JustSent (a : Association) (ask : Ask) : Type 0 where
  pub server : (server_of ask).0 ≡ a.server.0
  pub under : IsUnderIn a.session ask

-- What becomes of operations: each comes from one that was there, waits only if that did, and was sent if that was.
pub record From (os : List Operation) (p : Operation) : Type 0 where
  pub o : Operation
  pub there : Has o os
  pub op : o.op ≡ p.op
  pub ask : o.ask ≡ p.ask
  pub asked : cs.is_asked_at p.stage ≡ true → cs.is_asked_at o.stage ≡ true
  pub sent : cs.is_sent p ≡ cs.is_sent o

abbrev pub AllFrom : List Operation → List Operation → Type 0
AllFrom os ps = (p : Operation) → Has p ps → From os p

same_one : (os : List Operation) (p : Operation) → Has p os → From os p
same_one os p i = record { o = p; there = i; op = refl; ask = refl; asked = λ e. e; sent = refl }

all_same : (os : List Operation) → AllFrom os os
all_same os p i = same_one os p i

from_then : (os ps : List Operation) → AllFrom os ps → (q : Operation) → From ps q → From os q
from_then os ps h q f =
    let z = h f.o f.there in
    record { o = z.o; there = z.there; op = z.op ∙ f.op; ask = z.ask ∙ f.ask; asked = λ e. z.asked (f.asked e); sent = f.sent ∙ z.sent }

-- A rule at one server that sends nothing, and takes no ask.
pub record KeptIn (os ps : List Operation) : Type 0 where
  pub from : AllFrom os ps
  pub sorted : Sorted os → Sorted ps

kept_same : (os : List Operation) → KeptIn os os
kept_same os = record { from = all_same os; sorted = λ h. h }

kept_then : (os ps qs : List Operation) → KeptIn os ps → KeptIn ps qs → KeptIn os qs
kept_then os ps qs h k = record { from = λ q i. from_then os ps h.from q (k.from q i); sorted = λ z. k.sorted (h.sorted z) }

kept_stuck : (t : Turn) → KeptIn t.operations (map (cr.stuck t) t.operations)
kept_stuck t =
    record {
      from =
          λ p i. let z = has_map (cr.stuck t) t.operations p i in subst (From t.operations) (sym z.2) (one z.0 z.1 (cs.is_asked t.here.server z.0) refl);
      sorted = sorted_map t.operations (cr.stuck t) (λ o. number o (cs.is_asked t.here.server o));
    }
  where
    number : (o : Operation) (b : Bool) → (if b then cs.at_stage stages.Stuck o else o).op ≡ o.op
    number o true = refl
    number o false = refl

    was : (o : Operation) → cs.is_asked t.here.server o ≡ true → cs.is_sent o ≡ true
    was o e = go o.stage (and_true (cs.is_of t.here.server o) (cs.is_asked_at o.stage) e).1
      where
        go : (g : Stage) → cs.is_asked_at g ≡ true → cs.is_sent_at g ≡ true
        go stages.Sent e = refl
        go stages.Unsent e = cc e
        go stages.Stuck e = refl

    no : cs.is_asked_at stages.Stuck ≡ true → ⊥
    no e = cc e

    one : (o : Operation) → Has o t.operations → (b : Bool) → cs.is_asked t.here.server o ≡ b → From t.operations (if b then cs.at_stage stages.Stuck o else o)
    one o j true e = record { o = o; there = j; op = refl; ask = refl; asked = λ q. absurd (no q); sent = sym (was o e) }
    one o j false e = same_one t.operations o j

abbrev pub Kept : Turn → Turn → Type 0
Kept t u = KeptIn t.operations u.operations

kept_answers : (t : Turn) (picked : Operation → Bool) (a : AppAnswer) → Kept t (cs.answer_each picked a t)
unfolding cs.answer_each
kept_answers t picked a =
    record {
      from = λ p i. same_one t.operations p (has_filter (λ o. not (picked o)) t.operations p i).0;
      sorted = sorted_filter t.operations (λ o. not (picked o));
    }

refused : (t : Turn) (file : Option ℕ) (asked : Body) (y : Why) (a b : ℕ) (u : Turn) → Refusal t file asked y a b u → Kept t u
refused t file asked _ a b _ (trace.NoFile _ _ ino e) = kept_answers t _ _
refused t file asked _ a b _ (trace.TooManyLocks _ _ ino e) = kept_answers t _ _
refused t file asked _ a b _ (trace.NoSpace _ _ ino p e q) = kept_answers t _ _
refused t file asked _ a b _ (trace.NotHolder _ _ e) = kept_answers t _ _
refused t file asked y a b _ (trace.AnswersNone _ _ _) = kept_same t.operations

has_effect : (now : Stamp) (t : Turn) (s : ClientSession) (file : Option ℕ) (asked b : Body) (u : Turn) → Effect now t s file asked b u → Kept t u
has_effect now t s file asked _ _ (trace.IsGranted ino g mode v k) = kept_same t.operations
has_effect now t s file asked _ _ (trace.IsQueued ino mode e) = kept_same t.operations
has_effect now t s file asked _ _ (trace.HoldsAlready ino mode e) = kept_same t.operations
has_effect now t s file asked _ _ (trace.IsToldExtents ino rows e) = kept_same t.operations
has_effect now t s file asked _ _ (trace.IsToldLate ino rows e) = kept_same t.operations
has_effect now t s file asked _ _ trace.IsAcknowledged = kept_answers t _ _
has_effect now t s file asked _ _ (trace.IsNamed r k) = kept_answers t _ _
has_effect now t s file asked _ _ (trace.IsRemoved ino removed l e q) = kept_answers t _ _
has_effect now t s file asked _ _ trace.IsReasserted = kept_same t.operations
has_effect now t s file asked _ _ (trace.Effect.IsRefused y a b u r) =
    kept_then t.operations u.operations (map (cr.stuck u) u.operations) (refused t file asked y a b u r) (kept_stuck u)

renewed : (t : Turn) (s : ClientSession) (stamp : Stamp) (u : Turn) → Renews t s stamp u → u.operations ≡ t.operations
renewed t s stamp _ (trace.IsLater e) = refl
renewed t s stamp _ (trace.IsNoLater e) = refl

heard : (now : Stamp) (h : Header) (t : Turn) (b : Body) (u : Turn) → Receives now h t b u → Kept t u
unfolding cs.send
heard now h t _ _ (trace.PassesOver b) = kept_same t.operations
heard now h t _ _ (trace.Begins r e i) = kept_same t.operations
heard now h t _ _ (trace.FollowsEpoch s x y m e) = kept_answers (cs.with_session (cr.in_epoch (trace.epoch_of h) s) t) _ _
heard now h t _ _ (trace.IsCondemned b s m c) = kept_same t.operations
heard now h t _ _ (trace.IsGrantedLater ino g mode s v m e k) = kept_same t.operations
heard now h t _ _ (trace.SeesDemand ino g to s m e) = kept_same t.operations
heard now h t _ _ (trace.GivesUp ino g to s m e k) = kept_same t.operations
heard now h t _ _ (trace.HasGivenUp ino g to s m e k) = kept_same t.operations
heard now h t _ u (trace.IsAnswered b s q v _ r x f) =
    subst (λ os. KeptIn os u.operations) (renewed t s (trace.stamp_of h) v x)
    (has_effect now (cs.with_session (cr.ended_by (trace.stamp_of h) s) v) (cr.ended_by (trace.stamp_of h) s) (cs.file_asked s.cutting q.body) q.body b u f)

pub received : (now : Stamp) (h : Header) (b : Body) (t : Turn) → Kept t (cr.receive_at now h b t)
received now h b t = heard now h t b (cr.receive_at now h b t) (receives now h t b)

pub finished : (number : ℕ) (r : Option (Option (Tag × List ℕ))) (t : Turn) → Kept t (cl.finish number r t)
finished number r t = go (cl.finish number r t) (finishes number r t)
  where
    go : (u : Turn) → Finishes number r t u → Kept t u
    go _ (ends.IsUnknown e) = kept_same t.operations
    go _ (ends.IsOfOtherKind x block o e i) = kept_same t.operations
    go _ (ends.Fills x block o i e) = kept_same t.operations
    go _ (ends.Hardens x v o i e j) = kept_same t.operations
    go _ (ends.WroteOlder x v o i e j) = kept_same t.operations
    go _ (ends.FailsToRead x o i e) = kept_answers (ends.without x t) _ _
    go _ (ends.FailsToWrite x v o i e j) = kept_answers (ends.with_pages (pages.fail t.here.store.pages x.ino x.page x.number) (ends.without x t)) _ _
    go _ (ends.FailsToWriteOlder x v o i e j) = kept_answers (ends.without x t) _ _

-- An ask that comes: its operation goes last, and was not sent.
abbrev pub Below : ℕ → List Operation → Type 0
Below n os = (p : Operation) → Has p os → p.op ≤ n

pub record IsNew (G : Type 0) (n : ℕ) (p : Operation) : Type 0 where
  pub unsent : cs.is_sent p ≡ false
  pub number : G → p.op ≡ n

abbrev pub Come : Type 0 → ℕ → List Operation → List Operation → Type 0
Come G n os ps = (p : Operation) → Has p ps → From os p ⊎ IsNew G n p

-- what holds before the passes
record Ok (G : Type 0) (n : ℕ) (start os : List Operation) : Type 0 where
  come : Come G n start os
  sorted : G → Sorted os
  below : G → Below n os

ok_then : (G : Type 0) (n : ℕ) (start os ps : List Operation) → Ok G n start os → KeptIn os ps → Ok G n start ps
ok_then G n start os ps h k =
    record {
      come = λ p i. go p (k.from p i) (h.come (k.from p i).o (k.from p i).there);
      sorted = λ y. k.sorted (h.sorted y);
      below = λ y p i. let z = k.from p i in let l = h.below y z.o z.there in let e = z.op in omega (arith, l, e);
    }
  where
    go : (p : Operation) (f : From os p) → From start f.o ⊎ IsNew G n f.o → From start p ⊎ IsNew G n p
    go p f (inl z) =
        inl (record { o = z.o; there = z.there; op = z.op ∙ f.op; ask = z.ask ∙ f.ask; asked = λ e. z.asked (f.asked e); sent = f.sent ∙ z.sent })
    go p f (inr e) = inr (record { unsent = f.sent ∙ e.unsent; number = λ y. sym f.op ∙ e.number y })

took : (G : Type 0) (n : ℕ) (start : List Operation) (op : ℕ) (ask : Ask) → (G → op ≡ n) → (t : Turn) → Ok G n start t.operations →
    Ok G n start (only_at (server_of ask) (cl.take_ask op ask) t).operations
took G n start op ask is t h =
    at_server (λ u. Ok G n start u.operations) (server_of ask) (cl.take_ask op ask) t (λ e. go (cl.take_ask op ask t) (takes op ask t)) (λ e. h)
  where
    new : Operation
    new = cs.new_operation op ask

    more : Ok G n start (t.operations ++ new ∷ [])
    more =
        record {
          come = λ p i. come p (has_append t.operations (new ∷ []) p i);
          sorted = λ y. sorted_last t.operations new (λ p i. let l = h.below y p i in let k = is y in omega (arith, l, k)) (h.sorted y);
          below = λ y p i. below y p (has_append t.operations (new ∷ []) p i);
        }
      where
        come : (p : Operation) → Has p t.operations ⊎ Has p (new ∷ []) → From start p ⊎ IsNew G n p
        come p (inl i) = h.come p i
        come p (inr (inl e)) = inr (record { unsent = ap cs.is_sent e; number = λ y. ap (λ (z : Operation). z.op) e ∙ is y })
        come p (inr (inr i)) = absurd i

        below : G → (p : Operation) → Has p t.operations ⊎ Has p (new ∷ []) → p.op ≤ n
        below y p (inl i) = h.below y p i
        below y p (inr (inl e)) = let z = ap (λ (x : Operation). x.op) e in let k = is y in omega (arith, z, k)
        below y p (inr (inr i)) = absurd i

    go : (u : Turn) → Takes op ask t u → Ok G n start u.operations
    go _ (ends.TellsLost f e l) = h
    go _ (ends.WaitsForSync f e l) = more
    go _ (ends.Waits e) = more

-- A pass over the operations: those so far, and those to come, were there.
record Passing (start os : List Operation) (t : Turn) : Type 0 where
  from : AllFrom start (t.operations ++ os)
  sorted : Sorted start → Sorted (t.operations ++ os)

kept_on : (start : List Operation) (o : Operation) (os : List Operation) (t u : Turn) → u.operations ≡ t.operations ++ o ∷ [] → Passing start (o ∷ os) t →
    Passing start os u
kept_on start o os t u e h =
    record {
      from = subst (AllFrom start) (sym q) h.from;
      sorted = λ z. subst Sorted (sym q) (h.sorted z);
    }
  where
    q : u.operations ++ os ≡ t.operations ++ o ∷ os
    q = ap (λ ps. ps ++ os) e ∙ append_assoc t.operations (o ∷ []) os

gone_on : (start : List Operation) (o : Operation) (os : List Operation) (t u : Turn) → u.operations ≡ t.operations → Passing start (o ∷ os) t →
    Passing start os u
gone_on start o os t u e h =
    record {
      from = λ p i. h.from p (has_middle o p t.operations os (subst (λ ps. Has p (ps ++ os)) e i));
      sorted = λ z. subst (λ ps. Sorted (ps ++ os)) (sym e) (sorted_less t.operations o os (h.sorted z));
    }

passed_over : (start : List Operation) (t : Turn) → Passing start [] t → KeptIn start t.operations
passed_over start t h =
    record {
      from = subst (AllFrom start) (append-nil t.operations) h.from;
      sorted = λ z. subst Sorted (append-nil t.operations) (h.sorted z);
    }

begins_with : (start : List Operation) (t : Turn) → t.operations ≡ [] → Passing start start t
begins_with start t e =
    record { from = subst (λ ps. AllFrom start (ps ++ start)) (sym e) (all_same start); sorted = λ z. subst (λ ps. Sorted (ps ++ start)) (sym e) z }

ended : (start : List Operation) (s : ClientSession) (o : Operation) (os : List Operation) (t u : Turn) → Ended s o t u → Passing start (o ∷ os) t →
    Passing start os u
ended start s o os t _ (losing.IsElsewhere e) h = kept_on start o os t _ refl h
ended start s o os t _ (losing.IsUncertain e f) h = gone_on start o os t _ refl h
ended start s o os t _ (losing.IsToldLost f e q a l) h = gone_on start o os t _ refl h
ended start s o os t _ (losing.LostNothing f e q a l) h = gone_on start o os t _ refl h
ended start s o os t _ (losing.IsQuiesced e q a) h = gone_on start o os t _ refl h

pub lost : (now : Stamp) (t : Turn) → Kept t (cl.lose now t)
lost now t = go (cl.lose now t) (loses now t)
  where
    go : (u : Turn) → Loses now t u → Kept t u
    go _ (losing.HasNoSession e) = kept_same t.operations
    go _ (losing.Lasts s e o) = kept_same t.operations
    go _ (losing.IsLost s u e o p) =
        passed_over t.operations u
        (each_lasts (Ended s) (λ os v. Passing t.operations os v) (λ o os v x y z. ended t.operations s o os v x y z) t.operations
        (with_operations [] (losing.loss_noted t)) u p
        (begins_with t.operations (with_operations [] (losing.loss_noted t)) refl))

operated : (now : Stamp) (start all : List Operation) (o : Operation) (os : List Operation) (t u : Turn) → Operated now all o t u → Passing start (o ∷ os) t →
    Passing start os u
operated now start all o os t _ pass.Waits h = kept_on start o os t _ refl h
operated now start all o os t _ (pass.IsHard f e q d) h = gone_on start o os t _ refl h
operated now start all o os t _ (pass.IsQuiesced s own n there none unsent) h = gone_on start o os t _ refl h
operated now start all o os t _ (pass.ChangesPage s f p bytes n v c m e) h = gone_on start o os t _ refl h
operated now start all o os t _ (pass.IsDirtyFull s f p bytes n v c m e) h = gone_on start o os t _ refl h
operated now start all o os t _ (pass.Fetches s f p m v n c e r) h = kept_on start o os t _ refl h
operated now start all o os t _ (pass.ReadsCached s f p bytes v e d q) h = gone_on start o os t _ refl h
operated now start all o os t _ (pass.ReadsZeros s f p e v a d q j m) h = gone_on start o os t _ refl h

reduced : (ino : ℕ) (t u : Turn) → Reduced ino t u → u.operations ≡ t.operations
reduced ino t _ StaysHeld = refl
reduced ino t _ (IsReduced s g to e m q) = refl

wrote : (now : Stamp) (tick : Bool) (x : ℕ × PageNo) (t u : Turn) → WritesOut now tick x t u → u.operations ≡ t.operations
wrote now tick x t _ StaysDirty = refl
wrote now tick x t _ (IsWritten s d m e q i j) = refl

greeted : (now : Stamp) (tick : Bool) (t u : Turn) → Greets now tick t u → u.operations ≡ t.operations
unfolding cs.send
greeted now tick t _ asking.IsSilent = refl
greeted now tick t _ (asking.SaysHello e m) = refl

-- Requests: one operation may be sent.
pub record Origin (os : List Operation) (p : Operation) : Type 0 where
  pub o : Operation
  pub there : Has o os
  pub op : o.op ≡ p.op
  pub ask : o.ask ≡ p.ask

-- of an operation that is there, which was sent if the first was
record Was (os : List Operation) (p : Operation) : Type 0 where
  o : Operation
  there : Has o os
  op : o.op ≡ p.op
  ask : o.ask ≡ p.ask
  stays : cs.is_sent o ≡ true → cs.is_sent p ≡ true

fine_on : (o j : Operation) (ask : Ask) → o.ask ≡ j.ask → (cs.is_sent o ≡ true → cs.is_sent j ≡ true) → Fine o ask → Fine j ask
fine_on o j ask e k (inl q) = inl (ap (λ x. is_sooner x ask) (sym e) ∙ q)
fine_on o j ask e k (inr (y, inl q)) = inr (y, inl (k q))
fine_on o j ask e k (inr (y, inr q)) = inr (y, inr (ap (λ x. is_some (cs.file_of x)) (sym e) ∙ q))

pub record SentNow (G : Type 0) (os ps : List Operation) (a : Association) (p : Operation) : Type 0 where
  pub origin : Origin os p
  pub sent : cs.is_sent p ≡ true
  pub just : JustSent a p.ask
  pub kind : G → cs.is_cut_or_name p.ask ≡ true
  pub order : G → Ordered p ps

abbrev Waited : Type 0 → List Operation → List Operation → Association → Operation → Type 0
Waited G os ps a p = From os p ⊎ SentNow G os ps a p

abbrev AllWaited : Type 0 → List Operation → List Operation → Association → Type 0
AllWaited G os ps a = (p : Operation) → Has p ps → Waited G os ps a p

no_file : (n : NameAsk) → cs.file_of_name n ≡ None → (dir : ℕ) (name : List ℕ) (ino : ℕ) → n ≡ names.Remove dir name ino → ino ≡ 0
unfolding cs.meant
no_file n e dir name ino is = go (ino == 0) refl (sym (ap cs.file_of_name is) ∙ e)
  where
    go : (b : Bool) → (ino == 0) ≡ b → ◌≡◌ {A = Option ℕ} (if b then None else Some ino) None → ino ≡ 0
    go true q z = eqb-true ino 0 q
    go false q z = cc z

file_is : (n : NameAsk) (i : ℕ) → cs.file_of_name n ≡ Some i → (dir : ℕ) (name : List ℕ) (ino : ℕ) → n ≡ names.Remove dir name ino → i ≡ ino
unfolding cs.meant
file_is n i e dir name ino is = go (ino == 0) (sym (ap cs.file_of_name is) ∙ e)
  where
    same : ◌≡◌ {A = Option ℕ} (Some ino) (Some i) → i ≡ ino
    same z = cc z

    go : (b : Bool) → ◌≡◌ {A = Option ℕ} (if b then None else Some ino) (Some i) → i ≡ ino
    go true z = cc z
    go false z = same z

-- what it names
under_names : (x : ClientSession) (ask : Ask) (n : NameAsk) (server : ServerId) (g : GrantNo) → ask ≡ asks.Name server n →
    ((dir : ℕ) (name : List ℕ) (ino : ℕ) → n ≡ names.Remove dir name ino → (ino ≡ 0 → ⊥) → HasExclusive x ino g) →
    IsUnder x ask (bodies.Name (cp.name_op n g))
under_names x ask n server g e h = subst (λ a. IsUnder x a (bodies.Name (cp.name_op n g))) (sym e) (go n h)
  where
    go : (n : NameAsk) → ((dir : ℕ) (name : List ℕ) (ino : ℕ) → n ≡ names.Remove dir name ino → (ino ≡ 0 → ⊥) → HasExclusive x ino g) →
        IsUnder x (asks.Name server n) (bodies.Name (cp.name_op n g))
    go (names.Remove dir name ino) k = k dir name ino refl
    go (names.Lookup dir name) k = tt
    go (names.Create dir name) k = tt
    go (names.Mkdir dir name) k = tt
    go (names.Rename dir name dir2 name2) k = tt
    go (names.List dir after) k = tt

under_cut : (x : ClientSession) (ask : Ask) (ino : ℕ) (g : GrantNo) (p : PageNo) → IsUnder x ask (bodies.Cut ino g p)
under_cut x (asks.Name s (names.Remove dir name i)) ino g p = tt
under_cut x (asks.Name s (names.Lookup dir name)) ino g p = tt
under_cut x (asks.Name s (names.Create dir name)) ino g p = tt
under_cut x (asks.Name s (names.Mkdir dir name)) ino g p = tt
under_cut x (asks.Name s (names.Rename dir name dir2 name2)) ino g p = tt
under_cut x (asks.Name s (names.List dir after)) ino g p = tt
under_cut x (asks.Cut f q) ino g p = tt
under_cut x (asks.Write f q bytes) ino g p = tt
under_cut x (asks.Patch f q at bytes) ino g p = tt
under_cut x (asks.Read f q) ino g p = tt
under_cut x (asks.Sync f) ino g p = tt

wants_under : (t : Turn) (s x : ClientSession) (now : Stamp) (ask : Ask) (w : cp.Wanted) → x.locks ≡ s.locks → Wants t s now ask w → w.own ≡ true →
    IsUnder x ask w.body
wants_under t s x now ask _ same (asking.ForLock ino e q c d) o = cc o
wants_under t s x now ask _ same (asking.ForPlace f p l e q c d) o = cc o
wants_under t s x now ask _ same (asking.ToWrite f p bytes l e q c d) o = cc o
wants_under t s x now ask _ same (asking.ToPatch f p at bytes l e q c d) o = cc o
wants_under t s x now ask _ same (asking.ToCut f p l e q c d) o = under_cut x ask f.ino l.g p
wants_under t s x now ask _ same (asking.ToRemove server n ino l e f q c d) o =
    under_names x ask n server l.g e
    (λ dir name i is z. subst (λ j. HasExclusive x j l.g) (file_is n ino f dir name i is)
    (record {
      lock = l;
      is = ap (λ y. Words.ClientLocks.lock_of y ino) same ∙ q;
      under = refl;
      exclusive = exclusive_covers l.mode c;
    }))
wants_under t s x now ask _ same (asking.ToName server n e f) o =
    under_names x ask n server Words.ClientLocks.no_grant e (λ dir name i is z. absurd (z (no_file n f dir name i is)))

same_kind : (a : Ask) → is_cut_or_name a ≡ true → cs.is_cut_or_name a ≡ true
same_kind (asks.Cut f p) e = refl
same_kind (asks.Name s ask) e = refl
same_kind (asks.Write f p bytes) e = cc e
same_kind (asks.Patch f p at bytes) e = cc e
same_kind (asks.Read f p) e = cc e
same_kind (asks.Sync f) e = cc e

asked_all : (G : Type 0) (now : Stamp) (tick : Bool) (t u : Turn) → (G → NoneWaits now t) → (G → Sorted t.operations) → Requests now tick t u →
    AllWaited G t.operations u.operations u.here × (G → Sorted u.operations)
unfolding cs.send cs.asking
asked_all G now tick t _ stays sorted asking.AsksNothing = (λ p i. inl (same_one t.operations p i), sorted)
asked_all G now tick t _ stays sorted (asking.AsksAgain s q e c n o) = (λ p i. inl (same_one t.operations p i), sorted)
asked_all G now tick t _ stays sorted (asking.Reasserts s m d) = (λ p i. inl (same_one t.operations p i), sorted)
asked_all G now tick t _ stays sorted (asking.Releases s r rs m d e) = (λ p i. inl (same_one t.operations p i), sorted)
asked_all G now tick t _ stays sorted (asking.KeepsAlive s f e) = (λ p i. inl (same_one t.operations p i), sorted)
asked_all G now tick t _ stays sorted (asking.AsksFor s xs o ys w f e first) = by w.own refl
  where
    its : G → Sorted (xs ++ o ∷ ys)
    its y = subst Sorted first.there (sorted y)

    old : (p : Operation) → Has p (xs ++ o ∷ ys) → From t.operations p
    old p i = same_one t.operations p (subst (Has p) (sym first.there) i)

    x : ClientSession
    x = cp.asking_session s now w.body (cp.file_cut w.cut)

    mine : cs.is_of t.here.server o ≡ true
    mine = (and_true (cs.is_of t.here.server o) _ first.may).0

    here : Bool → Association
    here b = (asking.asked (cs.with_store (cp.cut_store w.cut t.here.store) (with_operations (xs ++ cp.sent_if b o ∷ ys) t)) s now w.body
        (cp.file_cut w.cut)).here

    q : Operation
    q = cs.at_stage stages.Sent o

    now_sent : w.own ≡ true → SentNow G t.operations (xs ++ q ∷ ys) (here true) q
    now_sent own =
        record {
          origin = record { o = o; there = subst (Has o) (sym first.there) (has_right xs (o ∷ ys) o (inl refl)); op = refl; ask = refl };
          sent = refl;
          kind = λ y. same_kind o.ask (kind_of now t (stays y) s f.may.session f.released e xs o ys w first own o.ask w own first.wants);
          just =
              record {
                server = eqb-true (server_of o.ask).0 t.here.server.0 mine;
                under = wants_under t s x now o.ask w refl first.wants own;
              };
          order = λ y j i l. order y j l (has_append xs (q ∷ ys) j i);
        }
      where
        order : G → (j : Operation) → j.op < o.op → Has j xs ⊎ Has j (q ∷ ys) → Fine j o.ask
        order y j l (inl i) = fine now t (stays y) s f.may.session f.released e xs o ys w first own j i
        order y j l (inr (inl k)) = let z = ap (λ (x : Operation). x.op) k in absurd (omega (arith, l, z))
        order y j l (inr (inr i)) = let z = sorted_after xs o ys (its y) j i in absurd (omega (arith, l, z))

    sends : w.own ≡ true → (p : Operation) → Has p xs ⊎ Has p (q ∷ ys) → Waited G t.operations (xs ++ q ∷ ys) (here true) p
    sends own p (inl i) = inl (old p (has_left xs (o ∷ ys) p i))
    sends own p (inr (inl k)) = inr (subst (SentNow G t.operations (xs ++ q ∷ ys) (here true)) (sym k) (now_sent own))
    sends own p (inr (inr i)) = inl (old p (has_right xs (o ∷ ys) p (inr i)))

    by : (b : Bool) → w.own ≡ b → AllWaited G t.operations (xs ++ cp.sent_if b o ∷ ys) (here b) × (G → Sorted (xs ++ cp.sent_if b o ∷ ys))
    by true own = (λ p i. sends own p (has_append xs (q ∷ ys) p i), λ y. sorted_put xs o q ys refl (its y))
    by false own = (λ p i. inl (old p i), its)

-- All passes.
not_empty : {A : Type 0} (xs : List A) (x : A) → xs ++ x ∷ [] ≡ [] → ⊥
not_empty [] x e = cc e
not_empty (y ∷ xs) x e = cc e

module _ (G : Type 0) (now : Stamp) (tick : Bool) (t : Turn) (sorted : G → Sorted t.operations)
    (kinds : G → (o : Operation) → Has o t.operations → cs.is_sent o ≡ true → cs.is_cut_or_name o.ask ≡ true) where
  abbrev pub u : Turn
  u = cp.passes now tick t

  -- the passes, and what the operations leave
  whole : (p : Passed now tick t u) × (p.operated ≡ cp.operations now t)
  unfolding cp.passes
  whole =
      let a = cp.operations now t in
      let b = cp.reductions a in
      let c = cp.writes now tick b in
      let d = cp.greeting now tick c in (
        record {
          operated = a;
          reduced = b;
          written = c;
          greeted = d;
          operations = operations now t;
          reductions = reductions a;
          writes = writes now tick b;
          greeting = greets now tick c;
          requests = requests now tick d;
        },
        refl,
      )

  abbrev r : Passed now tick t u
  r = whole.0

  rest : G → Rest now t [] r.operated
  rest y = subst (Rest now t []) (sym whole.1) (after_operations now t (kinds y))

  before : KeptIn t.operations r.operated.operations
  before =
      passed_over t.operations r.operated
      (each_lasts (Operated now t.operations) (λ os v. Passing t.operations os v) (λ o os v x y z. operated now t.operations t.operations o os v x y z)
      t.operations (with_operations [] t) r.operated r.operations (begins_with t.operations (with_operations [] t) refl))

  -- nothing is reduced, if nothing must be released
  abbrev Unreduced : Turn → Type 0
  Unreduced v = (v ≡ r.operated) ⊎ ((s : ClientSession) → v.here.session ≡ Some s → s.releases ≡ [] → ⊥)

  unreduced : Unreduced r.reduced
  unreduced =
      each_lasts Reduced (λ xs v. Unreduced v) (λ ino xs v y o h. one ino v y o h) (cp.files_demanded r.operated.here.session) r.operated r.reduced r.reductions
      (inl refl)
    where
      one : (ino : ℕ) (v y : Turn) → Reduced ino v y → Unreduced v → Unreduced y
      one ino v _ StaysHeld h = h
      one ino v _ (IsReduced s g to e m q) h =
          inr (λ z f k. not_empty _ _ (ap (λ (c : ClientSession). c.releases) (some_is f) ∙ k))

  -- what the writes and the greeting leave
  record Left (v w : Turn) : Type 0 where
    operations : w.operations ≡ v.operations
    session : w.here.session ≡ v.here.session
    server : w.here.server ≡ v.here.server
    config : w.config ≡ v.config
    extents : w.here.store.extents ≡ v.here.store.extents
    busy : (ino : ℕ) → Busy v.here.store ino → Busy w.here.store ino

  left_same : (v : Turn) → Left v v
  left_same v = record { operations = refl; session = refl; server = refl; config = refl; extents = refl; busy = λ ino b. b }

  left_then : (v w x : Turn) → Left v w → Left w x → Left v x
  left_then v w x a b =
      record {
        operations = b.operations ∙ a.operations;
        session = b.session ∙ a.session;
        server = b.server ∙ a.server;
        config = b.config ∙ a.config;
        extents = b.extents ∙ a.extents;
        busy = λ ino k. b.busy ino (a.busy ino k);
      }

  written : Left r.reduced r.written
  written =
      each_lasts (WritesOut now tick) (λ xs v. Left r.reduced v) (λ x xs v y o h. left_then r.reduced v y h (one x v y o))
      (places_of r.reduced.here.session r.reduced.here.store.pages) r.reduced r.written r.writes (left_same r.reduced)
    where
      one : (x : ℕ × PageNo) (v y : Turn) → WritesOut now tick x v y → Left v y
      one x v _ StaysDirty = left_same v
      one x v _ (IsWritten s d m e q i j) =
          record { operations = refl; session = refl; server = refl; config = refl; extents = refl; busy = busy }
        where
          busy : (ino : ℕ) → Busy v.here.store ino → Busy (Rattle.st_trace.specs.Client.Passes.submits_write v d m).here.store ino
          busy ino (inl b) = inl b
          busy ino (inr b) = inr (begun_busy v.here.store.commands v.next_command d.ino d.page (io.Write d.version) ino b)

  greets_left : (v w : Turn) → Greets now tick v w → Left v w
  unfolding cs.send
  greets_left v _ asking.IsSilent = left_same v
  greets_left v _ (asking.SaysHello e m) = record { operations = refl; session = refl; server = refl; config = refl; extents = refl; busy = λ ino b. b }

  after_reductions : Left r.reduced r.greeted
  after_reductions = left_then r.reduced r.written r.greeted written (greets_left r.written r.greeted r.greeting)

  -- so changes that could be served don't wait
  none_waits : G → NoneWaits now r.greeted
  none_waits y s at none j i f p c own serving free may idle = go unreduced
    where
      go : Unreduced r.reduced → ⊥
      go (inr h) = h s (sym after_reductions.session ∙ at) none
      go (inl e) = not_idle r.greeted.here.store f.ino (all.busy f.ino ((rest y).waits j listed s f p c owns there lasts open_ mapped)) idle
        where
          all : Left r.operated r.greeted
          all = subst (λ (v : Turn). Left v r.greeted) e after_reductions

          listed : Has j r.operated.operations
          listed = subst (Has j) all.operations i

          owns : cs.is_of t.here.server j ≡ true
          owns = ap (λ h. cs.is_of h j) (sym (all.server ∙ (rest y).server)) ∙ own

          there : t.here.session ≡ Some s
          there = sym (all.session ∙ (rest y).session) ∙ at

          lasts : cs.is_serving t.config s now ≡ true
          lasts = ap (λ c. cs.is_serving c s now) (sym (all.config ∙ (rest y).config)) ∙ serving

          mapped : cp.may_write t s f p ≡ true
          mapped = ap (λ xs. cp.holds s modes.X f && pages.is_mapped xs f.ino p) (sym (all.extents ∙ (rest y).extents)) ∙ may

          sv : ServerId
          sv = t.here.server

          same_server : r.greeted.here.server ≡ sv
          same_server = all.server ∙ (rest y).server

          parts : (not (locks.is_demanded s.locks f.ino) ≡ true) × (not (cs.is_busy r.greeted.operations r.greeted.here.server s f.ino) ≡ true)
          parts = and_true (not (locks.is_demanded s.locks f.ino)) (not (cs.is_busy r.greeted.operations r.greeted.here.server s f.ino)) free

          stays : list_any (cs.is_sent_on sv f.ino) t.operations ≡ true → list_any (cs.is_sent_on sv f.ino) r.greeted.operations ≡ true
          stays k =
              let z = some_member_passes (cs.is_sent_on sv f.ino) t.operations k in
              some_passes (cs.is_sent_on sv f.ino) r.greeted.operations z.0
              (subst (Has z.0) (sym all.operations) (by z.0 ((rest y).sent z.0 z.1 (and_true (cs.is_sent z.0) (cs.is_on sv f.ino z.0) z.2).0))) z.2
            where
              by : (x : Operation) → Has x r.operated.operations ⊎ Has x [] → Has x r.operated.operations
              by x (inl h) = h
              by x (inr h) = absurd h

          open_ : cs.is_open_file t.operations sv s (Some f.ino) ≡ true
          open_ =
              and_both (not (locks.is_demanded s.locks f.ino)) (not (cs.is_busy t.operations sv s f.ino)) parts.0
              (busy (cs.is_file f.ino s.cutting) (list_any (cs.is_sent_on sv f.ino) t.operations) refl
              (ap (λ h. not (cs.is_busy r.greeted.operations h s f.ino)) (sym same_server) ∙ parts.1))
            where
              busy : (a b : Bool) → list_any (cs.is_sent_on sv f.ino) t.operations ≡ b →
                  not (a || list_any (cs.is_sent_on sv f.ino) r.greeted.operations) ≡ true → not (a || b) ≡ true
              busy true b k q = cc q
              busy false false k q = refl
              busy false true k q = clash (ap not (sym (stays k)) ∙ q) refl

  pub passed : AllWaited G t.operations u.operations u.here × (G → Sorted u.operations)
  passed = (λ p i. go p (z.0 p i), z.1)
    where
      same : r.greeted.operations ≡ r.operated.operations
      same =
          greeted now tick r.written r.greeted r.greeting
          ∙ each_lasts (WritesOut now tick) (λ xs v. v.operations ≡ r.operated.operations) (λ x xs v y o p. wrote now tick x v y o ∙ p)
          (places_of r.reduced.here.session r.reduced.here.store.pages) r.reduced r.written r.writes
          (each_lasts Reduced (λ xs v. v.operations ≡ r.operated.operations) (λ x xs v y o p. reduced x v y o ∙ p)
          (cp.files_demanded r.operated.here.session) r.operated r.reduced r.reductions refl)

      kept : KeptIn t.operations r.greeted.operations
      kept = subst (KeptIn t.operations) (sym same) before

      z : AllWaited G r.greeted.operations u.operations u.here × (G → Sorted u.operations)
      z = asked_all G now tick r.greeted u none_waits (λ y. kept.sorted (sorted y)) r.requests

      go : (p : Operation) → Waited G r.greeted.operations u.operations u.here p → Waited G t.operations u.operations u.here p
      go p (inl f) = inl (from_then t.operations r.greeted.operations kept.from p f)
      go p (inr n) =
          let f = kept.from n.origin.o n.origin.there in
          inr (record {
            origin = record { o = f.o; there = f.there; op = f.op ∙ n.origin.op; ask = f.ask ∙ n.origin.ask };
            sent = n.sent;
            kind = n.kind;
            just = n.just;
            order = n.order;
          })

-- The whole step: a rule at each server in turn.
everywhere : (G : Type 0) (n : ℕ) (start : List Operation) (rule : Turn → Turn) → ((t : Turn) → Ok G n start t.operations → Ok G n start (rule t).operations) →
    (al : List Association) (t : ClientTurn) → Ok G n start t.state.operations → Ok G n start (at_these rule al t).state.operations
unfolding at_these
everywhere G n start rule one [] t h = h
everywhere G n start rule one (a ∷ al) t h = everywhere G n start rule one al (leave t (rule (enter t a))) (one (enter t a) h)

at_all : (G : Type 0) (n : ℕ) (start : List Operation) (rule : Turn → Turn) → ((t : Turn) → Ok G n start t.operations → Ok G n start (rule t).operations) →
    (t : ClientTurn) →
    Ok G n start t.state.operations → Ok G n start (at_each rule t).state.operations
unfolding at_each
at_all G n start rule one t h = everywhere G n start rule one t.state.associations (with_associations [] t) h

-- an operation waited before, or was not sent, or has just been sent at one of these
pub record SentAt (G : Type 0) (n : ℕ) (start : List Operation) (al : List Association) (ps : List Operation) (p : Operation) : Type 0 where
  pub a : Association
  pub among : Has a al
  pub origin : Origin start p ⊎ (G → p.op ≡ n)
  pub just : JustSent a p.ask
  pub sent : cs.is_sent p ≡ true
  pub kind : G → cs.is_cut_or_name p.ask ≡ true
  pub order : G → Ordered p ps

abbrev pub WaitedAt : Type 0 → ℕ → List Operation → List Association → List Operation → Operation → Type 0
WaitedAt G n os al ps p = (From os p ⊎ IsNew G n p) ⊎ SentAt G n os al ps p

pub record AllAt (G : Type 0) (n : ℕ) (start : List Operation) (t : ClientTurn) : Type 0 where
  pub each : (p : Operation) → Has p t.state.operations → WaitedAt G n start t.state.associations t.state.operations p
  pub sorted : G → Sorted t.state.operations

module _ (G : Type 0) (n : ℕ) (start : List Operation)
    (kinds : G → (o : Operation) → Has o start → cs.is_sent o ≡ true → cs.is_cut_or_name o.ask ≡ true) where
  kinds_at : (t : ClientTurn) → AllAt G n start t → G → (p : Operation) → Has p t.state.operations → cs.is_sent p ≡ true → cs.is_cut_or_name p.ask ≡ true
  kinds_at t h y p i q = go (h.each p i)
    where
      go : WaitedAt G n start t.state.associations t.state.operations p → cs.is_cut_or_name p.ask ≡ true
      go (inl (inl f)) = ap cs.is_cut_or_name (sym f.ask) ∙ kinds y f.o f.there (sym f.sent ∙ q)
      go (inl (inr n)) = clash q n.unsent
      go (inr s) = s.kind y

  passed_all : (now : Stamp) (tick : Bool) (al : List Association) (t : ClientTurn) → AllAt G n start t → AllAt G n start (at_these (cp.passes now tick) al t)
  unfolding at_these
  passed_all now tick [] t h = h
  passed_all now tick (a ∷ al) t h = passed_all now tick al (leave t v) (record { each = λ p i. by p (z.0 p i); sorted = z.1 })
    where
      v : Turn
      v = cp.passes now tick (enter t a)

      z : AllWaited G t.state.operations v.operations v.here × (G → Sorted v.operations)
      z = passed G now tick (enter t a) h.sorted (kinds_at t h)

      more : List Association
      more = t.state.associations ++ v.here ∷ []

      -- each one that is there was there
      origin : (p : Operation) → Has p v.operations → Was t.state.operations p
      origin p i = go (z.0 p i)
        where
          go : Waited G t.state.operations v.operations v.here p → Was t.state.operations p
          go (inl f) = record { o = f.o; there = f.there; op = f.op; ask = f.ask; stays = λ q. f.sent ∙ q }
          go (inr n) = record { o = n.origin.o; there = n.origin.there; op = n.origin.op; ask = n.origin.ask; stays = λ q. n.sent }

      -- whence it came
      started : (o : Operation) → WaitedAt G n start t.state.associations t.state.operations o → Origin start o ⊎ (G → o.op ≡ n)
      started o (inl (inl y)) = inl (record { o = y.o; there = y.there; op = y.op; ask = y.ask })
      started o (inl (inr k)) = inr k.number
      started o (inr s) = s.origin

      begun : (o p : Operation) → o.op ≡ p.op → o.ask ≡ p.ask → Origin start o ⊎ (G → o.op ≡ n) → Origin start p ⊎ (G → p.op ≡ n)
      begun o p e f (inl y) = inl (record { o = y.o; there = y.there; op = y.op ∙ e; ask = y.ask ∙ f })
      begun o p e f (inr k) = inr (λ y. sym e ∙ k y)

      old : (p : Operation) → From t.state.operations p → WaitedAt G n start more v.operations p
      old p f = go (h.each f.o f.there)
        where
          go : WaitedAt G n start t.state.associations t.state.operations f.o → WaitedAt G n start more v.operations p
          go (inl (inl y)) =
              inl (inl (record { o = y.o; there = y.there; op = y.op ∙ f.op; ask = y.ask ∙ f.ask; asked = λ e. y.asked (f.asked e); sent = f.sent ∙ y.sent }))
          go (inl (inr k)) = inl (inr (record { unsent = f.sent ∙ k.unsent; number = λ y. sym f.op ∙ k.number y }))
          go (inr s) =
              inr (record {
                a = s.a;
                among = has_left t.state.associations (v.here ∷ []) s.a s.among;
                origin = begun f.o p f.op f.ask s.origin;
                just = subst (JustSent s.a) f.ask s.just;
                sent = f.sent ∙ s.sent;
                kind = λ y. ap cs.is_cut_or_name (sym f.ask) ∙ s.kind y;
                order = λ y j i l. order y j l (origin j i);
              })
            where
              order : G → (j : Operation) → j.op < p.op → Was t.state.operations j → Fine j p.ask
              order y j l x =
                  let e = x.op in
                  let g = f.op in
                  subst (Fine j) f.ask (fine_on x.o j f.o.ask x.ask x.stays (s.order y x.o x.there (omega (arith, l, e, g))))

      by : (p : Operation) → Waited G t.state.operations v.operations v.here p → WaitedAt G n start more v.operations p
      by p (inl f) = old p f
      by p (inr k) =
          inr (record {
            a = v.here;
            among = has_right t.state.associations (v.here ∷ []) v.here (inl refl);
            origin = begun k.origin.o p k.origin.op k.origin.ask (started k.origin.o (h.each k.origin.o k.origin.there));
            just = k.just;
            sent = k.sent;
            kind = k.kind;
            order = k.order;
          })

input_taken : (G : Type 0) (n : ℕ) (start : List Operation) (t : ClientTurn) (now : Stamp) (i : ClientInput) →
    (G → (op : ℕ) (ask : Ask) → i ≡ inputs.App op ask → op ≡ n) → Ok G n start t.state.operations → Ok G n start (cl.take_input t now i).state.operations
unfolding cl.take_input cl.app cl.app_known cl.done cr.receive cr.receive_here
input_taken G n start t now inputs.Tick is h = h
input_taken G n start t now (inputs.App op ask) is h =
    cond_either (λ (u : ClientTurn). Ok G n start u.state.operations) (cl.is_full t.state) (cl.answered_at_once t op answers.OpsFull) (cl.app_known t op ask)
    (λ e. h)
    (λ e. cond_either (λ (u : ClientTurn). Ok G n start u.state.operations) (cl.is_configured t.state (server_of ask))
    (at_each (only_at (server_of ask) (cl.take_ask op ask)) t) (cl.answered_at_once t op answers.NoFile)
    (λ c. at_all G n start (only_at (server_of ask) (cl.take_ask op ask)) (λ u k. took G n start op ask (λ y. is y op ask refl) u k) t h) (λ c. h))
input_taken G n start t now (inputs.Control m) is h =
    cond_either (λ (u : ClientTurn). Ok G n start u.state.operations) (m.header.to == t.state.id.0) (at_each (cr.receive_at now m.header m.body) t) t
    (λ e. at_all G n start (cr.receive_at now m.header m.body)
    (λ u k. ok_then G n start u.operations (cr.receive_at now m.header m.body u).operations k (received now m.header m.body u)) t h) (λ e. h)
input_taken G n start t now (inputs.Done number r) is h =
    at_all G n start (cl.finish number r) (λ u k. ok_then G n start u.operations (cl.finish number r u).operations k (finished number r u)) t h

-- What must be known of the client, so that its requests are in order.
pub record Known (n : ℕ) (s : ClientState) (input : ClientInput) : Type 0 where
  pub number : (op : ℕ) (ask : Ask) → input ≡ inputs.App op ask → op ≡ n
  pub sorted : Sorted s.operations
  pub below : Below n s.operations
  pub kinds : (o : Operation) → Has o s.operations → cs.is_sent o ≡ true → cs.is_cut_or_name o.ask ≡ true

pub step_waits : (n : ℕ) (s : ClientState) (now : Stamp) (input : ClientInput) → AllAt (Known n s input) n s.operations (cl.client_step s now input)
unfolding cl.client_step cl.work cl.losses at_each
step_waits n s now input =
    let lost_ : ClientTurn = at_each (cl.lose now) (client_turn s []) in
    let u : ClientTurn = cl.take_input lost_ now input in
    let h : Ok (Known n s input) n s.operations u.state.operations =
    input_taken (Known n s input) n s.operations lost_ now input (λ y. y.number)
    (at_all (Known n s input) n s.operations (cl.lose now)
    (λ v k. ok_then (Known n s input) n s.operations v.operations (cl.lose now v).operations k (lost now v)) (client_turn s [])
    (record { come = λ p i. inl (same_one s.operations p i); sorted = λ y. y.sorted; below = λ y. y.below })) in
    passed_all (Known n s input) n s.operations (λ y. y.kinds) now (cl.is_tick input) u.state.associations (with_associations [] u)
    (record { each = λ p i. inl (h.come p i); sorted = h.sorted })

-- So requests are in order after the step.
pub step_ordered : (n : ℕ) (s : ClientState) (now : Stamp) (input : ClientInput) → Known n s input → AllOrdered s.operations →
    AllOrdered (cl.client_step s now input).state.operations
step_ordered n s now input k h p i q j y l = go (z.each p i)
  where
    u : ClientTurn
    u = cl.client_step s now input

    z : AllAt (Known n s input) n s.operations (cl.client_step s now input)
    z = step_waits n s now input

    -- what waited before
    was : (f : From s.operations p) (o : Operation) → Has o s.operations → o.op ≡ j.op → o.ask ≡ j.ask → (cs.is_sent o ≡ true → cs.is_sent j ≡ true) →
        Fine j p.ask
    was f o x e a stays =
        let g = f.op in subst (Fine j) f.ask (fine_on o j f.o.ask a stays (h f.o f.there (sym f.sent ∙ q) o x (omega (arith, l, e, g))))

    -- what has just come is last
    new : (f : From s.operations p) → j.op ≡ n → Fine j p.ask
    new f e = let g = f.op in let b = k.below f.o f.there in absurd (omega (arith, l, e, g, b))

    by : (f : From s.operations p) → WaitedAt (Known n s input) n s.operations u.state.associations u.state.operations j → Fine j p.ask
    by f (inl (inl g)) = was f g.o g.there g.op g.ask (λ e. g.sent ∙ e)
    by f (inl (inr g)) = new f (g.number k)
    by f (inr g) = sent g.origin
      where
        sent : Origin s.operations j ⊎ (Known n s input → j.op ≡ n) → Fine j p.ask
        sent (inl o) = was f o.o o.there o.op o.ask (λ e. g.sent)
        sent (inr e) = new f (e k)

    go : WaitedAt (Known n s input) n s.operations u.state.associations u.state.operations p → Fine j p.ask
    go (inl (inl f)) = by f (z.each j y)
    go (inl (inr f)) = clash q f.unsent
    go (inr f) = f.order k j y l
