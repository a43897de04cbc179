-- A step of a client keeps what waits for the reply to an outstanding request; and at a server at which its lease doesn't serve, no operation is left that was
-- not sent, but syncs.
use Rattle.st_lemmas.proofs.Words
use Words.{◌≡◌, ◌⊎◌, ℕ, Bool, true, false, not, ◌&&◌, ◌||◌, ◌==◌, List, [], ◌∷◌, ◌++◌, Option, Some, None, refl, sym, ap, ◌∙◌, subst, inl, inr, if◌then◌else◌}
use Words.{append-nil, append_assoc, eq-eqb, eqb-true, filter, map, Ask, Body, ClientId, ClientInput, Config, GrantNo, Header, Message, Mode, Operation, PageNo, ServerId, Stamp, Tag, Why}
use Words.asks
use Words.bodies
use Words.inputs
use Words.stages
use Words.Client as cl
use Words.ClientPages as pages
use Words.ClientPasses as cp
use Words.ClientReplies as cr
use Words.ClientState as cs
use Words.ClientState.{Association, ClientSession, ClientState, ClientTurn, Turn, at_each, at_these, client_turn, enter, leave, only_at, server_of, with_associations, with_operations}
use Words.Keys.{same_page, same_server, server_node}
use Words.Lists.{Has}
use Words.Lookups.{some_is}
use Words.Members.{has_left, has_middle, has_right}
use Words.Tables.{and_left, and_true, cond_either, has_append, has_filter, has_filter_in, has_map, has_map_in}
use Words.Truth.{clash, none_not_some}
use Rattle.st_trace.specs.Client.Commands as ends
use Rattle.st_trace.specs.Client.Commands.{Finishes, Takes}
use Rattle.st_trace.specs.Client.Losses as losing
use Rattle.st_trace.specs.Client.Losses.{Ended, Loses}
use Rattle.st_trace.specs.Client.Messages as trace
use Rattle.st_trace.specs.Client.Messages.{Effect, Heard, Receives, Refusal, Renews}
use Rattle.st_trace.specs.Client.Operations as pass
use Rattle.st_trace.specs.Client.Operations.{Operated}
use Rattle.st_trace.specs.Client.Passes.{IsReduced, IsWritten, Reduced, StaysDirty, StaysHeld, WritesOut, places_of}
use Rattle.st_trace.specs.Client.Requests as asking
use Rattle.st_trace.specs.Client.Requests.{Greets, Requests as Asks}
use Rattle.st_trace.proofs.Client.Finishing.{at_server, finishes, takes}
use Rattle.st_trace.proofs.Client.Losing.{loses}
use Rattle.st_trace.proofs.Client.Receiving.{receives}
use Rattle.st_trace.proofs.Client.Operating.{operations}
use Rattle.st_trace.proofs.Client.Requesting.{greets, requests}
use Rattle.st_trace.proofs.Client.Walk.{each_lasts, passes, reductions, writes as writes_of}
use Rattle.st_laws_steps.specs.Client.Inputs.{Finishes as IsFinish, Full, Nothing, Receives as IsMessage, Taken, Takes as IsAsk, Unknown}
use Rattle.st_laws_steps.proofs.Client.Taking.{taken}
use Rattle.st_laws_requests.specs.Cuts.Cuts.{Keyed}
use Rattle.st_laws_requests.proofs.Cuts.Step.{Onces, onces_last}
use Rattle.st_laws_extents.specs.DiskReads.OutstandingReads.{ReadsClean}
use Rattle.st_laws_volume.proofs.AwaitedAsks as awaited
use Rattle.st_laws_volume.proofs.AwaitedKinds.{works_here, writes_works}

-- Operations of other servers stay, and none of them comes.
pub record Apart (s : ServerId) (os ps : List Operation) : Type 0 where
  pub on : (o : Operation) → Has o os → cs.is_of s o ≡ false → Has o ps
  pub back : (o : Operation) → Has o ps → cs.is_of s o ≡ false → Has o os

apart_same : (s : ServerId) (os : List Operation) → Apart s os os
apart_same s os = record { on = λ o i e. i; back = λ o i e. i }

apart_then : (s : ServerId) (os ps qs : List Operation) → Apart s os ps → Apart s ps qs → Apart s os qs
apart_then s os ps qs h k = record { on = λ o i e. k.on o (h.on o i e) e; back = λ o i e. h.back o (k.back o i e) e }

-- operations of the server are answered
abbrev Own : ServerId → (Operation → Bool) → Type 0
Own s f = (o : Operation) → f o ≡ true → cs.is_of s o ≡ true

apart_answers : (s : ServerId) (f : Operation → Bool) (os : List Operation) → Own s f → Apart s os (filter (λ o. not (f o)) os)
apart_answers s f os h = record { on = λ o i e. go o i e (f o) refl; back = λ o i e. (has_filter (λ o. not (f o)) os o i).0 }
  where
    go : (o : Operation) → Has o os → cs.is_of s o ≡ false → (b : Bool) → f o ≡ b → Has o (filter (λ o. not (f o)) os)
    go o i e true q = clash (h o q) e
    go o i e false q = has_filter_in (λ o. not (f o)) os o i (ap not q)

-- which ones they are
own_on : (s : ServerId) (ino : ℕ) (o : Operation) → cs.is_on s ino o ≡ true → cs.is_of s o ≡ true
own_on s ino o e = (and_true (cs.is_of s o) (cs.is_file ino (cs.file_of o.ask)) e).0

own_works : (t : Turn) (ino : ℕ) → Own t.here.server (cr.works_on t ino)
own_works t ino o e = own_on t.here.server ino o (and_true (cs.is_on t.here.server ino o) (not (cs.is_sync o.ask)) e).0

own_writes : (t : Turn) (ino : ℕ) (p : PageNo) → Own t.here.server (cr.writes_on t ino p)
own_writes t ino p o e = works_here t.here.server ino o (writes_works t.here.server ino p o e)

own_asked : (s : ServerId) → Own s (cs.is_asked s)
own_asked s o e = (and_true (cs.is_of s o) (cs.is_asked_at o.stage) e).0

own_read : (t : Turn) (x : Words.PageCommand) → Own t.here.server (cl.waits_for_read t x)
own_read t x o e = by o.ask e
  where
    by : (a : Ask) → cs.reads_page t.here.server x.ino x.page a ≡ true → same_server (server_of a) t.here.server ≡ true
    by (asks.Read f q) e = (and_true (same_server f.server t.here.server) _ e).0
    by (asks.Patch f q at bytes) e = (and_true (same_server f.server t.here.server) _ e).0
    by (asks.Write f q bytes) e = cc e
    by (asks.Sync f) e = cc e
    by (asks.Cut f q) e = cc e
    by (asks.Name v ask) e = cc e

own_sync : (t : Turn) (x : Words.PageCommand) → Own t.here.server (cl.waits_for_write t x)
own_sync t x o e = own_on t.here.server x.ino o (and_true (cs.is_on t.here.server x.ino o) (cs.is_sync o.ask) e).0

-- one that was refused is stuck
apart_stuck : (t : Turn) → Apart t.here.server t.operations (map (cr.stuck t) t.operations)
apart_stuck t =
    record {
      on = λ o i e. subst (λ p. Has p (map (cr.stuck t) t.operations)) (same o e) (has_map_in (cr.stuck t) t.operations o i);
      back = λ o i e. let z = has_map (cr.stuck t) t.operations o i in back o z.0 z.1 z.2 e;
    }
  where
    s : ServerId
    s = t.here.server

    same : (o : Operation) → cs.is_of s o ≡ false → cr.stuck t o ≡ o
    same o e = ap (λ b. if b then cs.at_stage stages.Stuck o else o) (and_left (cs.is_of s o) (cs.is_asked_at o.stage) e)

    of_stuck : (o : Operation) (b : Bool) → cs.is_of s (if b then cs.at_stage stages.Stuck o else o) ≡ cs.is_of s o
    of_stuck o true = refl
    of_stuck o false = refl

    back : (o p : Operation) → Has p t.operations → o ≡ cr.stuck t p → cs.is_of s o ≡ false → Has o t.operations
    back o p i q e =
        subst (λ z. Has z t.operations)
        (sym (q ∙ same p (sym (of_stuck p (cs.is_asked s p)) ∙ (ap (cs.is_of s) (sym q) ∙ e)))) i

-- A message
apart_refused : (t : Turn) (file : Option ℕ) (asked : Body) (w : Why) (a b : ℕ) (u : Turn) → Refusal t file asked w a b u →
    Apart t.here.server t.operations u.operations × (u.here.server ≡ t.here.server)
unfolding cs.answer_each
apart_refused t file asked _ a b _ (trace.NoFile _ _ ino f) = (apart_answers t.here.server _ t.operations (own_works t ino), refl)
apart_refused t file asked _ a b _ (trace.TooManyLocks _ _ ino f) = (apart_answers t.here.server _ t.operations (own_works t ino), refl)
apart_refused t file asked _ a b _ (trace.NoSpace _ _ ino p f g) = (apart_answers t.here.server _ t.operations (own_writes t ino p), refl)
apart_refused t file asked _ a b _ (trace.NotHolder _ _ f) = (apart_answers t.here.server _ t.operations (own_asked t.here.server), refl)
apart_refused t file asked w a b _ (trace.AnswersNone _ _ _) = (apart_same t.here.server t.operations, refl)

abbrev Left : Turn → Turn → Type 0
Left t u = Apart t.here.server t.operations u.operations × (u.here.server ≡ t.here.server)

left_same : (t : Turn) → Left t t
left_same t = (apart_same t.here.server t.operations, refl)

apart_effect : (now : Stamp) (t : Turn) (x : ClientSession) (file : Option ℕ) (asked b : Body) (u : Turn) → Effect now t x file asked b u → Left t u
unfolding cs.answer_each
apart_effect now t x file asked _ _ (trace.IsGranted ino g mode v k) = (apart_same t.here.server t.operations, refl)
apart_effect now t x file asked _ _ (trace.IsQueued ino mode e) = (apart_same t.here.server t.operations, refl)
apart_effect now t x file asked _ _ (trace.HoldsAlready ino mode e) = (apart_same t.here.server t.operations, refl)
apart_effect now t x file asked _ _ (trace.IsToldExtents ino rows e) = (apart_same t.here.server t.operations, refl)
apart_effect now t x file asked _ _ (trace.IsToldLate ino rows e) = (apart_same t.here.server t.operations, refl)
apart_effect now t x file asked _ _ trace.IsAcknowledged = (apart_answers t.here.server _ t.operations (own_asked t.here.server), refl)
apart_effect now t x file asked _ _ (trace.IsNamed r k) = (apart_answers t.here.server _ t.operations (own_asked t.here.server), refl)
apart_effect now t x file asked _ _ (trace.IsRemoved ino removed l e q) = (apart_answers t.here.server _ t.operations (own_asked t.here.server), refl)
apart_effect now t x file asked _ _ trace.IsReasserted = (apart_same t.here.server t.operations, refl)
apart_effect now t x file asked _ _ (trace.Effect.IsRefused w a b u r) =
    let z = apart_refused t file asked w a b u r in (
      apart_then t.here.server t.operations u.operations (map (cr.stuck u) u.operations) z.0
          (subst (λ s. Apart s u.operations (map (cr.stuck u) u.operations)) z.1 (apart_stuck u)),
      z.1,
    )

renewed_left : (t : Turn) (x : ClientSession) (stamp : Stamp) (u : Turn) → Renews t x stamp u →
    (u.operations ≡ t.operations) × (u.here.server ≡ t.here.server)
renewed_left t x stamp _ (trace.IsLater e) = (refl, refl)
renewed_left t x stamp _ (trace.IsNoLater e) = (refl, refl)

apart_received : (now : Stamp) (m : Header) (b : Body) (t : Turn) → Left t (cr.receive_at now m b t)
unfolding cs.send cs.answer_each
apart_received now m b t = go b (cr.receive_at now m b t) (receives now m t b)
  where
    go : (b : Body) (u : Turn) → Receives now m t b u → Left t u
    go _ _ (trace.PassesOver b) = left_same t
    go _ _ (trace.Begins r e i) = (apart_same t.here.server t.operations, refl)
    go _ _ (trace.FollowsEpoch x a b n e) = (apart_answers t.here.server _ t.operations (own_asked t.here.server), refl)
    go _ _ (trace.IsCondemned b x n e) = (apart_same t.here.server t.operations, refl)
    go _ _ (trace.IsGrantedLater ino g mode x v n e k) = (apart_same t.here.server t.operations, refl)
    go _ _ (trace.SeesDemand ino g to x n e) = (apart_same t.here.server t.operations, refl)
    go _ _ (trace.GivesUp ino g to x n e k) = (apart_same t.here.server t.operations, refl)
    go _ _ (trace.HasGivenUp ino g to x n e k) = (apart_same t.here.server t.operations, refl)
    go _ u (trace.IsAnswered b x q v _ r n f) =
        let y = renewed_left t x (trace.stamp_of m) v n in
        let z = apart_effect now (cs.with_session (cr.ended_by (trace.stamp_of m) x) v) (cr.ended_by (trace.stamp_of m) x) (cs.file_asked x.cutting q.body)
        q.body b u f in
        (subst (λ s. Apart s t.operations u.operations) y.1 (subst (λ os. Apart v.here.server os u.operations) y.0 z.0), z.1 ∙ y.1)

-- An ask, the end of a command, and a loss
apart_took : (op : ℕ) (ask : Ask) (t : Turn) → Left t (only_at (server_of ask) (cl.take_ask op ask) t)
apart_took op ask t = at_server (Left t) (server_of ask) (cl.take_ask op ask) t (λ e. go e (cl.take_ask op ask t) (takes op ask t)) (λ e. left_same t)
  where
    new : Operation
    new = cs.new_operation op ask

    more : same_server t.here.server (server_of ask) ≡ true → Apart t.here.server t.operations (t.operations ++ new ∷ [])
    more e = record { on = λ o i q. has_left t.operations (new ∷ []) o i; back = λ o i q. by o q (has_append t.operations (new ∷ []) o i) }
      where
        own : same_server (server_of ask) t.here.server ≡ true
        own = eq-eqb (server_of ask).0 t.here.server.0 (sym (eqb-true t.here.server.0 (server_of ask).0 e))

        by : (o : Operation) → cs.is_of t.here.server o ≡ false → Has o t.operations ⊎ Has o (new ∷ []) → Has o t.operations
        by o q (inl i) = i
        by o q (inr (inl w)) = clash own (ap (cs.is_of t.here.server) (sym w) ∙ q)
        by o q (inr (inr i)) = absurd i

    go : same_server t.here.server (server_of ask) ≡ true → (u : Turn) → Takes op ask t u → Left t u
    go e _ (ends.TellsLost f q l) = (apart_same t.here.server t.operations, refl)
    go e _ (ends.WaitsForSync f q l) = (more e, refl)
    go e _ (ends.Waits q) = (more e, refl)

apart_ended : (number : ℕ) (r : Option (Option (Tag × List ℕ))) (t : Turn) → Left t (cl.finish number r t)
unfolding cs.answer_each
apart_ended number r t = go (cl.finish number r t) (finishes number r t)
  where
    go : (u : Turn) → Finishes number r t u → Left t u
    go _ (ends.IsUnknown e) = left_same t
    go _ (ends.IsOfOtherKind x block o e f) = left_same t
    go _ (ends.Fills x block o f e) = (apart_same t.here.server t.operations, refl)
    go _ (ends.Hardens x v o f e j) = (apart_same t.here.server t.operations, refl)
    go _ (ends.WroteOlder x v o f e j) = (apart_same t.here.server t.operations, refl)
    go _ (ends.FailsToRead x o f e) = (apart_answers t.here.server _ t.operations (own_read t x), refl)
    go _ (ends.FailsToWrite x v o f e j) = (apart_answers t.here.server _ t.operations (own_sync t x), refl)
    go _ (ends.FailsToWriteOlder x v o f e j) = (apart_answers t.here.server _ t.operations (own_sync t x), refl)

-- a pass over operations: those so far, and those to come
record Going (s : ServerId) (start os : List Operation) (t : Turn) : Type 0 where
  server : t.here.server ≡ s
  apart : Apart s start (t.operations ++ os)

kept_one : (s : ServerId) (start : List Operation) (o : Operation) (os : List Operation) (t u : Turn) → u.here.server ≡ t.here.server →
    u.operations ≡ t.operations ++ o ∷ [] → Going s start (o ∷ os) t → Going s start os u
kept_one s start o os t u e f h =
    record { server = e ∙ h.server; apart = subst (Apart s start) (sym (ap (λ ps. ps ++ os) f ∙ append_assoc t.operations (o ∷ []) os)) h.apart }

gone_one : (s : ServerId) (start : List Operation) (o : Operation) (os : List Operation) (t u : Turn) → u.here.server ≡ t.here.server →
    u.operations ≡ t.operations → cs.is_of t.here.server o ≡ true → Going s start (o ∷ os) t → Going s start os u
gone_one s start o os t u e f own h =
    record { server = e ∙ h.server; apart = subst (λ ps. Apart s start (ps ++ os)) (sym f) (apart_then s start _ _ h.apart less) }
  where
    less : Apart s (t.operations ++ o ∷ os) (t.operations ++ os)
    less = record { on = λ x i q. by x q (has_append t.operations (o ∷ os) x i); back = λ x i q. has_middle o x t.operations os i }
      where
        by : (x : Operation) → cs.is_of s x ≡ false → Has x t.operations ⊎ Has x (o ∷ os) → Has x (t.operations ++ os)
        by x q (inl i) = has_left t.operations os x i
        by x q (inr (inl w)) = clash (subst (λ v. cs.is_of v o ≡ true) h.server own) (ap (cs.is_of s) (sym w) ∙ q)
        by x q (inr (inr i)) = has_right t.operations os x i

going_all : (t u : Turn) → Going t.here.server t.operations [] u → Left t u
going_all t u h = (subst (Apart t.here.server t.operations) (append-nil u.operations) h.apart, h.server)

going_first : (t u : Turn) → u.operations ≡ [] → u.here.server ≡ t.here.server → Going t.here.server t.operations t.operations u
going_first t u e f =
    record { server = f; apart = subst (λ ps. Apart t.here.server t.operations (ps ++ t.operations)) (sym e) (apart_same t.here.server t.operations) }

apart_lost : (now : Stamp) (t : Turn) → Left t (cl.lose now t)
apart_lost now t = go (cl.lose now t) (loses now t)
  where
    one : (x : ClientSession) (o : Operation) (os : List Operation) (v w : Turn) → Ended x o v w → Going t.here.server t.operations (o ∷ os) v →
        Going t.here.server t.operations os w
    one x o os v _ (losing.IsElsewhere e) h = kept_one t.here.server t.operations o os v _ refl refl h
    one x o os v _ (losing.IsUncertain e f) h = gone_one t.here.server t.operations o os v _ refl refl e h
    one x o os v _ (losing.IsToldLost f e q a l) h = gone_one t.here.server t.operations o os v _ refl refl e h
    one x o os v _ (losing.LostNothing f e q a l) h = gone_one t.here.server t.operations o os v _ refl refl e h
    one x o os v _ (losing.IsQuiesced e q a) h = gone_one t.here.server t.operations o os v _ refl refl e h

    go : (u : Turn) → Loses now t u → Left t u
    go _ (losing.HasNoSession e) = left_same t
    go _ (losing.Lasts x e o) = left_same t
    go _ (losing.IsLost x u e o p) =
        going_all t u
        (each_lasts (Ended x) (λ os v. Going t.here.server t.operations os v) (λ y os v w q z. one x y os v w q z) t.operations
        (with_operations [] (losing.loss_noted t)) u p (going_first t (with_operations [] (losing.loss_noted t)) refl refl))

-- The passes
apart_operated : (now : Stamp) (s : ServerId) (start all : List Operation) (o : Operation) (os : List Operation) (t u : Turn) → Operated now all o t u →
    Going s start (o ∷ os) t → Going s start os u
apart_operated now s start all o os t _ pass.Waits h = kept_one s start o os t _ refl refl h
apart_operated now s start all o os t _ (pass.IsHard f own e d) h = gone_one s start o os t _ refl refl own h
apart_operated now s start all o os t _ (pass.IsQuiesced x own n there none unsent) h = gone_one s start o os t _ refl refl own h
apart_operated now s start all o os t _ (pass.ChangesPage x f p bytes n v c m e) h = gone_one s start o os t _ refl refl v.own h
apart_operated now s start all o os t _ (pass.IsDirtyFull x f p bytes n v c m e) h = gone_one s start o os t _ refl refl v.own h
apart_operated now s start all o os t _ (pass.Fetches x f p m v n c e r) h = kept_one s start o os t _ refl refl h
apart_operated now s start all o os t _ (pass.ReadsCached x f p bytes v e d q) h = gone_one s start o os t _ refl refl v.own h
apart_operated now s start all o os t _ (pass.ReadsZeros x f p e v a d q j m) h = gone_one s start o os t _ refl refl v.own h

left_then : (t u v : Turn) → Left t u → Left u v → Left t v
left_then t u v h k = (apart_then t.here.server t.operations u.operations v.operations h.0 (subst (λ s. Apart s u.operations v.operations) h.1 k.0), k.1 ∙ h.1)

apart_reduced : (ino : ℕ) (t u : Turn) → Reduced ino t u → Left t u
apart_reduced ino t _ StaysHeld = left_same t
apart_reduced ino t _ (IsReduced x g to e m q) = (apart_same t.here.server t.operations, refl)

apart_wrote : (now : Stamp) (tick : Bool) (x : ℕ × PageNo) (t u : Turn) → WritesOut now tick x t u → Left t u
apart_wrote now tick x t _ StaysDirty = left_same t
apart_wrote now tick x t _ (IsWritten s d m e q i j) = (apart_same t.here.server t.operations, refl)

apart_greeted : (now : Stamp) (tick : Bool) (t u : Turn) → Greets now tick t u → Left t u
unfolding cs.send
apart_greeted now tick t _ asking.IsSilent = left_same t
apart_greeted now tick t _ (asking.SaysHello e m) = (apart_same t.here.server t.operations, refl)

apart_requested : (now : Stamp) (tick : Bool) (t u : Turn) → Asks now tick t u → Left t u
unfolding cs.send
apart_requested now tick t _ asking.AsksNothing = left_same t
apart_requested now tick t _ (asking.AsksAgain x q e n f o) = (apart_same t.here.server t.operations, refl)
apart_requested now tick t _ (asking.Reasserts x m d) = (apart_same t.here.server t.operations, refl)
apart_requested now tick t _ (asking.Releases x r rs m d e) = (apart_same t.here.server t.operations, refl)
apart_requested now tick t _ (asking.KeepsAlive x f e) = (apart_same t.here.server t.operations, refl)
apart_requested now tick t _ (asking.AsksFor x xs o ys w f e first) =
    (subst (λ ps. Apart t.here.server ps (xs ++ cp.sent_if w.own o ∷ ys)) (sym first.there) (one w.own), refl)
  where
    own : cs.is_of t.here.server o ≡ true
    own = (and_true (cs.is_of t.here.server o) _ first.may).0

    own_if : (b : Bool) → cs.is_of t.here.server (cp.sent_if b o) ≡ true
    own_if true = own
    own_if false = own

    swap : (a b : Operation) → cs.is_of t.here.server a ≡ true → (p : Operation) → cs.is_of t.here.server p ≡ false → Has p (xs ++ a ∷ ys) →
        Has p (xs ++ b ∷ ys)
    swap a b q p e i = by (has_append xs (a ∷ ys) p i)
      where
        by : Has p xs ⊎ Has p (a ∷ ys) → Has p (xs ++ b ∷ ys)
        by (inl j) = has_left xs (b ∷ ys) p j
        by (inr (inl w)) = clash q (ap (cs.is_of t.here.server) (sym w) ∙ e)
        by (inr (inr j)) = has_right xs (b ∷ ys) p (inr j)

    one : (b : Bool) → Apart t.here.server (xs ++ o ∷ ys) (xs ++ cp.sent_if b o ∷ ys)
    one b = record { on = λ p i e. swap o (cp.sent_if b o) own p e i; back = λ p i e. swap (cp.sent_if b o) o (own_if b) p e i }

apart_passed : (now : Stamp) (tick : Bool) (t : Turn) → Left t (cp.passes now tick t)
apart_passed now tick t =
    let r = passes now tick t in
    left_then t r.greeted (cp.passes now tick t)
    (left_then t r.written r.greeted
    (each_lasts (WritesOut now tick) (λ xs v. Left t v) (λ x xs v y o p. left_then t v y p (apart_wrote now tick x v y o))
    (places_of r.reduced.here.session r.reduced.here.store.pages) r.reduced r.written r.writes
    (each_lasts Reduced (λ xs v. Left t v) (λ x xs v y o p. left_then t v y p (apart_reduced x v y o)) (cp.files_demanded r.operated.here.session) r.operated
    r.reduced r.reductions
    (going_all t r.operated
    (each_lasts (Operated now t.operations) (λ os v. Going t.here.server t.operations os v)
    (λ o os v x y z. apart_operated now t.here.server t.operations t.operations o os v x y z) t.operations (with_operations [] t) r.operated r.operations
    (going_first t (with_operations [] t) refl refl)))))
    (apart_greeted now tick r.written r.greeted r.greeting)) (apart_requested now tick r.greeted (cp.passes now tick t) r.requests)

-- Where a lease doesn't serve.
abbrev pub Quiet : ServerId → List Operation → Type 0
Quiet s os = (o : Operation) → Has o os → cs.is_of s o ≡ true → (cs.is_sent o ≡ true) ⊎ (cs.is_sync o.ask ≡ true)

module _ (now : Stamp) (k : Config) where
  abbrev pub QuietIn : Association → List Operation → Type 0
  QuietIn a os = (x : ClientSession) → a.session ≡ Some x → cs.is_serving k x now ≡ false → Quiet a.server os

  module _ (s : ServerId) (x : ClientSession) (rests : cs.is_serving k x now ≡ false) where
    record Resting (t : Turn) : Type 0 where
      config : t.config ≡ k
      server : t.here.server ≡ s
      session : t.here.session ≡ Some x
      quiet : Quiet s t.operations

    one_more : (os : List Operation) (o : Operation) → (cs.is_of s o ≡ true → (cs.is_sent o ≡ true) ⊎ (cs.is_sync o.ask ≡ true)) → Quiet s os →
        Quiet s (os ++ o ∷ [])
    one_more os o f h p i e = go (has_append os (o ∷ []) p i)
      where
        go : Has p os ⊎ Has p (o ∷ []) → (cs.is_sent p ≡ true) ⊎ (cs.is_sync p.ask ≡ true)
        go (inl j) = h p j e
        go (inr (inl w)) = subst (λ (z : Operation). (cs.is_sent z ≡ true) ⊎ (cs.is_sync z.ask ≡ true)) (sym w) (f (ap (cs.is_of s) (sym w) ∙ e))
        go (inr (inr j)) = absurd j

    operated_quiet : (all : List Operation) (t : Turn) (o : Operation) → Resting t → Resting (cp.operate all t now o)
    unfolding cp.operate cp.operate_on cp.operate_by cp.operate_under cp.quiesce cp.sync
    operated_quiet all t o h =
        cond_either Resting (cs.is_of t.here.server o) _ _ (λ own. on o.ask refl)
        (λ away. kept (λ own. clash (subst (λ r. cs.is_of r o ≡ true) (sym h.server) own) away))
      where
        kept : (cs.is_of s o ≡ true → (cs.is_sent o ≡ true) ⊎ (cs.is_sync o.ask ≡ true)) → Resting (cs.keep o t)
        kept f = record { config = h.config; server = h.server; session = h.session; quiet = one_more t.operations o f h.quiet }

        said : (a : Words.AppAnswer) → Resting (cp.answer o a t)
        said a = record { config = h.config; server = h.server; session = h.session; quiet = h.quiet }

        by : (v : Option ClientSession) → t.here.session ≡ v → Resting (cp.operate_by all t now o v)
        by None e = absurd (none_not_some x (sym e ∙ h.session))
        by (Some y) e =
            cond_either Resting (cs.is_serving t.config y now) _ _
            (λ sv. clash (ap (λ c. cs.is_serving c y now) (sym h.config) ∙ sv)
            (ap (λ (z : ClientSession). cs.is_serving k z now) (some_is (sym e ∙ h.session)) ∙ rests))
            (λ out. cond_either Resting (cs.is_sent o) _ _ (λ sent. kept (λ own. inl sent)) (λ unsent. said _))

        on : (a : Ask) → o.ask ≡ a → Resting (cp.operate_on all t now o a)
        on (asks.Sync f) e = cond_either Resting (pages.is_hard t.here.store f.ino) _ _ (λ hard. said _) (λ soft. kept (λ own. inr (ap cs.is_sync e)))
        on a e = by t.here.session refl

    operated_all : (all os : List Operation) (t : Turn) → Resting t → Resting (cp.operate_each all now os t)
    unfolding cp.operate_each
    operated_all all [] t h = h
    operated_all all (o ∷ os) t h = operated_all all os (cp.operate all t now o) (operated_quiet all t o h)

  -- what a pass over operations leaves
  record SameHere (t v : Turn) : Type 0 where
    config : v.config ≡ t.config
    server : v.here.server ≡ t.here.server
    session : v.here.session ≡ t.here.session

  operated_same : (all : List Operation) (o : Operation) (t v w : Turn) → Operated now all o v w → SameHere t v → SameHere t w
  operated_same all o t v _ pass.Waits h = record { config = h.config; server = h.server; session = h.session }
  operated_same all o t v _ (pass.IsHard f own e d) h = record { config = h.config; server = h.server; session = h.session }
  operated_same all o t v _ (pass.IsQuiesced x own n there none unsent) h = record { config = h.config; server = h.server; session = h.session }
  operated_same all o t v _ (pass.ChangesPage x f p bytes n z c m e) h = record { config = h.config; server = h.server; session = h.session }
  operated_same all o t v _ (pass.IsDirtyFull x f p bytes n z c m e) h = record { config = h.config; server = h.server; session = h.session }
  operated_same all o t v _ (pass.Fetches x f p m z n c e r) h = record { config = h.config; server = h.server; session = h.session }
  operated_same all o t v _ (pass.ReadsCached x f p bytes z e d q) h = record { config = h.config; server = h.server; session = h.session }
  operated_same all o t v _ (pass.ReadsZeros x f p e z a d q j m) h = record { config = h.config; server = h.server; session = h.session }

  -- A turn in which no operation is left where the lease doesn't serve
  record QuietAt (t : Turn) : Type 0 where
    config : t.config ≡ k
    quiet : QuietIn t.here t.operations

  quiet_operations : (t : Turn) → t.config ≡ k → QuietAt (cp.operations now t)
  unfolding cp.operations
  quiet_operations t e =
      record {
        config = same.config ∙ e;
        quiet =
            λ x at rests. subst (λ s. Quiet s (cp.operations now t).operations) (sym same.server)
            (operated_all t.here.server x rests t.operations t.operations (with_operations [] t)
            (record { config = e; server = refl; session = sym same.session ∙ at; quiet = λ o i. absurd i })).quiet;
      }
    where
      same : SameHere t (cp.operations now t)
      same =
          each_lasts (Operated now t.operations) (λ os v. SameHere t v) (λ o os v w y z. operated_same t.operations o t v w y z) t.operations
          (with_operations [] t) (cp.operations now t) (operations now t) (record { config = refl; server = refl; session = refl })

  quiet_reduced : (ino : ℕ) (t u : Turn) → Reduced ino t u → QuietAt t → QuietAt u
  quiet_reduced ino t _ StaysHeld h = h
  quiet_reduced ino t _ (IsReduced x g to e m q) h =
      record { config = h.config; quiet = λ y at rests. h.quiet x e (ap (λ (z : ClientSession). cs.is_serving k z now) (some_is at) ∙ rests) }

  quiet_wrote : (tick : Bool) (x : ℕ × PageNo) (t u : Turn) → WritesOut now tick x t u → QuietAt t → QuietAt u
  quiet_wrote tick x t _ StaysDirty h = h
  quiet_wrote tick x t _ (IsWritten s d m e q i j) h = record { config = h.config; quiet = h.quiet }

  quiet_greeted : (tick : Bool) (t u : Turn) → Greets now tick t u → QuietAt t → QuietAt u
  unfolding cs.send
  quiet_greeted tick t _ asking.IsSilent h = h
  quiet_greeted tick t _ (asking.SaysHello e m) h = record { config = h.config; quiet = h.quiet }

  quiet_requested : (tick : Bool) (t u : Turn) → Asks now tick t u → QuietAt t → QuietAt u
  unfolding cs.send
  quiet_requested tick t _ asking.AsksNothing h = h
  quiet_requested tick t _ (asking.AsksAgain x q e n f o) h =
      record { config = h.config; quiet = λ y at rests. h.quiet x e (ap (λ (z : ClientSession). cs.is_serving k z now) (some_is at) ∙ rests) }
  quiet_requested tick t _ (asking.Reasserts x m d) h =
      record { config = h.config; quiet = λ y at rests. h.quiet x m.session (ap (λ (z : ClientSession). cs.is_serving k z now) (some_is at) ∙ rests) }
  quiet_requested tick t _ (asking.Releases x r rs m d e) h =
      record { config = h.config; quiet = λ y at rests. h.quiet x m.session (ap (λ (z : ClientSession). cs.is_serving k z now) (some_is at) ∙ rests) }
  quiet_requested tick t _ (asking.KeepsAlive x f e) h =
      record { config = h.config; quiet = λ y at rests. h.quiet x f.may.session (ap (λ (z : ClientSession). cs.is_serving k z now) (some_is at) ∙ rests) }
  quiet_requested tick t _ (asking.AsksFor x xs o ys w f e first) h =
      record {
        config = h.config;
        quiet =
            λ y at rests. clash (ap (λ c. cs.is_serving c x now) (sym h.config) ∙ e)
            (ap (λ (z : ClientSession). cs.is_serving k z now) (some_is at) ∙ rests);
      }

  pub quiet_passed : (tick : Bool) (t : Turn) → t.config ≡ k → QuietIn (cp.passes now tick t).here (cp.passes now tick t).operations
  unfolding cp.passes
  quiet_passed tick t e =
      let a = cp.operations now t in
      let b = cp.reductions a in
      let d = cp.writes now tick b in
      let g = cp.greeting now tick d in
      (quiet_requested tick g (cp.requests now tick g) (requests now tick g)
      (quiet_greeted tick d g (greets now tick d)
      (each_lasts (WritesOut now tick) (λ xs v. QuietAt v) (λ x xs v y o p. quiet_wrote tick x v y o p) (places_of b.here.session b.here.store.pages) b d
      (writes_of now tick b)
      (each_lasts Reduced (λ xs v. QuietAt v) (λ x xs v y o p. quiet_reduced x v y o p) (cp.files_demanded a.here.session) a b (reductions a)
      (quiet_operations t e))))).quiet

-- A rule at each server in turn: a fact of each association and the pending operations, which operations of other servers leave.
module _ (k : Config) (P Q : Association → List Operation → Type 0)
    (p_on : (a : Association) (s : ServerId) (os ps : List Operation) → (a.server.0 ≡ s.0 → ⊥) → Apart s os ps → P a os → P a ps)
    (q_on : (a : Association) (s : ServerId) (os ps : List Operation) → (a.server.0 ≡ s.0 → ⊥) → Apart s os ps → Q a os → Q a ps) (rule : Turn → Turn)
    (left : (t : Turn) → Left t (rule t)) (one : (t : Turn) → t.config ≡ k → P t.here t.operations → Q (rule t).here (rule t).operations) where
  record Held (rest : List Association) (t : ClientTurn) : Type 0 where
    config : t.state.config ≡ k
    done : (a : Association) → Has a t.state.associations → Q a t.state.operations
    todo : (a : Association) → Has a rest → P a t.state.operations
    once_done : Onces t.state.associations
    once_todo : Onces rest
    apart : (a b : Association) → Has a t.state.associations → Has b rest → a.server.0 ≡ b.server.0 → ⊥

  these : (rest : List Association) (t : ClientTurn) → Held rest t → Held [] (at_these rule rest t)
  unfolding at_these
  these [] t h = h
  these (a ∷ rest) t h = these rest (leave t u) next
    where
      u : Turn
      u = rule (enter t a)

      l : Apart a.server t.state.operations u.operations × (u.here.server ≡ a.server)
      l = left (enter t a)

      server : u.here.server.0 ≡ a.server.0
      server = ap (λ (v : ServerId). v.0) l.1

      mine : Q u.here u.operations
      mine = one (enter t a) h.config (h.todo a (inl refl))

      done : (b : Association) → Has b t.state.associations ⊎ Has b (u.here ∷ []) → Q b u.operations
      done b (inl i) = q_on b a.server t.state.operations u.operations (λ e. h.apart b a i (inl refl) e) l.0 (h.done b i)
      done b (inr (inl e)) = subst (λ z. Q z u.operations) (sym e) mine
      done b (inr (inr i)) = absurd i

      apart : (x y : Association) → Has x t.state.associations ⊎ Has x (u.here ∷ []) → Has y rest → x.server.0 ≡ y.server.0 → ⊥
      apart x y (inl i) j e = h.apart x y i (inr j) e
      apart x y (inr (inl q)) j e = h.once_todo.first y j (sym server ∙ (sym (ap (λ (z : Association). z.server.0) q) ∙ e))
      apart x y (inr (inr i)) j e = i

      next : Held rest (leave t u)
      next =
          record {
            config = h.config;
            done = λ b i. done b (has_append t.state.associations (u.here ∷ []) b i);
            todo = λ b i. p_on b a.server t.state.operations u.operations (λ e. h.once_todo.first b i (sym e)) l.0 (h.todo b (inr i));
            once_done = onces_last t.state.associations u.here h.once_done (λ b i e. h.apart b a i (inl refl) (e ∙ server));
            once_todo = h.once_todo.rest;
            apart = λ x y i j e. apart x y (has_append t.state.associations (u.here ∷ []) x i) j e;
          }

-- between rules
pub record All (k : Config) (P : Association → List Operation → Type 0) (t : ClientTurn) : Type 0 where
  pub config : t.state.config ≡ k
  pub all : (a : Association) → Has a t.state.associations → P a t.state.operations
  pub once : Onces t.state.associations

all_then : (k : Config) (P Q : Association → List Operation → Type 0) →
    ((a : Association) (s : ServerId) (os ps : List Operation) → (a.server.0 ≡ s.0 → ⊥) → Apart s os ps → P a os → P a ps) →
    ((a : Association) (s : ServerId) (os ps : List Operation) → (a.server.0 ≡ s.0 → ⊥) → Apart s os ps → Q a os → Q a ps) → (rule : Turn → Turn) →
    ((t : Turn) → Left t (rule t)) → ((t : Turn) → t.config ≡ k → P t.here t.operations → Q (rule t).here (rule t).operations) → (t : ClientTurn) →
    All k P t → All k Q (at_each rule t)
unfolding at_each
all_then k P Q p_on q_on rule left one t h = record { config = z.config; all = z.done; once = z.once_done }
  where
    z : Held k P Q p_on q_on rule left one [] (at_these rule t.state.associations (with_associations [] t))
    z =
        these k P Q p_on q_on rule left one t.state.associations (with_associations [] t)
        (record {
          config = h.config;
          done = λ a i. absurd i;
          todo = h.all;
          once_done = tt;
          once_todo = h.once;
          apart = λ a b i j e. absurd i;
        })

-- what a grant tells that is heard in a session of these
abbrev pub HeardTells : (ServerId → ℕ → Type 0) → List Association → ClientInput → Type 0
HeardTells Known start (inputs.Control m) =
    (a : Association) (x : ClientSession) → Has a start → a.session ≡ Some x → m.header.from ≡ server_node a.server → m.header.life ≡ a.life.0 →
    m.header.epoch ≡ x.epoch.0 → (ino : ℕ) (g : GrantNo) (mode : Mode) → m.body ≡ bodies.Granted ino g mode → Known a.server ino
HeardTells Known start i = Unit {0}

-- A step.
module _ (M : List Message) (c : ClientId) (Before : ServerId → ℕ → ℕ → ℕ → ℕ → Type 0)
    (fresh : (s : ServerId) (life epoch number op : ℕ) → ((m : Message) → Has m M → Keyed c s life epoch number m → ⊥) → Before s life epoch number op)
    (Known : ServerId → ℕ → Type 0) (now : Stamp) (k : Config) where
  abbrev pub Ok : Association → List Operation → Type 0
  Ok a os = awaited.Ok M c Before fresh Known now k a os

  other_server : (a : Association) (s : ServerId) (o : Operation) → (a.server.0 ≡ s.0 → ⊥) → cs.is_of a.server o ≡ true → cs.is_of s o ≡ false
  other_server a s o n e = go (cs.is_of s o) refl
    where
      go : (b : Bool) → cs.is_of s o ≡ b → b ≡ false
      go true q = absurd (n (sym (eqb-true (server_of o.ask).0 a.server.0 e) ∙ eqb-true (server_of o.ask).0 s.0 q))
      go false q = refl

  ok_on : (a : Association) (s : ServerId) (os ps : List Operation) → (a.server.0 ≡ s.0 → ⊥) → Apart s os ps → Ok a os → Ok a ps
  ok_on a s os ps n z h = awaited.elsewhere M c Before fresh Known now k a os ps (λ o i e. z.on o i (other_server a s o n e)) h

  abbrev pub Quieted : Association → List Operation → Type 0
  Quieted a os = Ok a os × QuietIn now k a os

  quiet_on : (a : Association) (s : ServerId) (os ps : List Operation) → (a.server.0 ≡ s.0 → ⊥) → Apart s os ps → Quieted a os → Quieted a ps
  quiet_on a s os ps n z h = (ok_on a s os ps n z h.0, λ x e r o i own. h.1 x e r o (z.back o i (other_server a s o n own)) own)

  module _ (start : List Association) where
    -- an association is one of those at the start, or has lost its session
    abbrev Old : Association → List Operation → Type 0
    Old a os = Ok a os × (ReadsClean a.store × (Has a start ⊎ (a.session ≡ None)))

    old_on : (a : Association) (s : ServerId) (os ps : List Operation) → (a.server.0 ≡ s.0 → ⊥) → Apart s os ps → Old a os → Old a ps
    old_on a s os ps n z h = (ok_on a s os ps n z h.0, h.1)

    lose_one : (t : Turn) → t.config ≡ k → Old t.here t.operations → Old (cl.lose now t).here (cl.lose now t).operations
    lose_one t e h = (awaited.lost M c Before fresh Known now k t h.0, go (cl.lose now t) (loses now t))
      where
        go : (u : Turn) → Loses now t u → ReadsClean u.here.store × (Has u.here start ⊎ (u.here.session ≡ None))
        go _ (losing.HasNoSession q) = h.1
        go _ (losing.Lasts x q o) = h.1
        go _ (losing.IsLost x u q o p) = (λ pc i r. absurd i, inr refl)

    hear_one : (m : Message) → HeardTells Known start (inputs.Control m) → (t : Turn) → t.config ≡ k → Old t.here t.operations →
        Ok (cr.receive_at now m.header m.body t).here (cr.receive_at now m.header m.body t).operations
    hear_one m tells t e h = awaited.received M c Before fresh Known now k m.header m.body t e told h.0
      where
        told : (x : ClientSession) → Heard now m.header t x → (ino : ℕ) (g : GrantNo) (mode : Mode) → m.body ≡ bodies.Granted ino g mode →
            Known t.here.server ino
        told x z ino g mode q = by h.1.1
          where
            by : Has t.here start ⊎ (t.here.session ≡ None) → Known t.here.server ino
            by (inl i) = tells t.here x i z.session z.received.from z.received.life z.epoch ino g mode q
            by (inr n) = absurd (none_not_some x (sym n ∙ z.session))

    input_ok : (t : ClientTurn) (input : ClientInput) (u : ClientTurn) → Taken t now input u → HeardTells Known start input → All k Old t → All k Ok u
    input_ok t _ _ (Nothing i) tells h = record { config = h.config; all = λ a i. (h.all a i).0; once = h.once }
    input_ok t _ _ (Full op ask e) tells h = record { config = h.config; all = λ a i. (h.all a i).0; once = h.once }
    input_ok t _ _ (Unknown op ask e f) tells h = record { config = h.config; all = λ a i. (h.all a i).0; once = h.once }
    input_ok t _ _ (IsAsk op ask e f) tells h =
        all_then k Old Ok old_on ok_on (only_at (server_of ask) (cl.take_ask op ask)) (apart_took op ask)
        (λ v q z. awaited.took M c Before fresh Known now k op ask v z.0) t h
    input_ok t _ _ (IsMessage m e) tells h =
        all_then k Old Ok old_on ok_on (cr.receive_at now m.header m.body) (apart_received now m.header m.body) (hear_one m tells) t h
    input_ok t _ _ (IsFinish number r) tells h =
        all_then k Old Ok old_on ok_on (cl.finish number r) (apart_ended number r)
        (λ v q z. awaited.ended M c Before fresh Known now k number r v z.1.0 z.0) t h

  pub stepped : (s : ClientState) (input : ClientInput) → s.config ≡ k → Onces s.associations →
      ((a : Association) → Has a s.associations → Ok a s.operations × ReadsClean a.store) → HeardTells Known s.associations input →
      All k Quieted (cl.client_step s now input)
  unfolding cl.client_step cl.work cl.losses
  stepped s input e once h tells =
      all_then k Ok Quieted ok_on quiet_on (cp.passes now (cl.is_tick input)) (apart_passed now (cl.is_tick input))
      (λ v q z. (awaited.passed M c Before fresh Known now k (cl.is_tick input) v q z, quiet_passed now k (cl.is_tick input) v q))
      (cl.take_input first now input)
      (input_ok s.associations first input (cl.take_input first now input) (taken first now input) tells
      (all_then k (Old s.associations) (Old s.associations) (old_on s.associations) (old_on s.associations) (cl.lose now) (apart_lost now)
      (lose_one s.associations) (client_turn s [])
      (record { config = e; all = λ a i. let z = h a i in (z.0, (z.1, inl i)); once = once })))
    where
      first : ClientTurn
      first = cl.losses (client_turn s []) now
