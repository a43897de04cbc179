-- What a client receives, asks and loses leaves of answered reads and pending operations together.
use Rattle.st_lemmas.proofs.Words
use Words.{ℕ, List, [], ◌∷◌, Option, refl, arith, map, Tag, Stamp, Ask, Body, Header, Why, Operation}
use Words.answers
use Words.Client as cl
use Words.ClientPages as pages
use Words.ClientReplies as cr
use Words.ClientState as state
use Words.ClientState.{ClientSession, Turn, send, with_session}
use Words.notes
use Words.outputs
use Words.Lengths.{length_map}
use Rattle.st_laws_bounds.proofs.Counters.Weights.{weigh_both}
use Rattle.st_laws_bounds.proofs.Counters.Tallies.{of_read}
use Rattle.st_laws_bounds.proofs.Counters.Reading.{R, few_reads_in_answers, few_reads_in_keeping, few_reads_in_next, few_reads_in_nothing, few_reads_in_pass, few_reads_in_said, few_reads_in_says}
use Rattle.st_trace.specs.Client.Commands as ending
use Rattle.st_trace.specs.Client.Commands.{Finishes, Takes}
use Rattle.st_trace.specs.Client.Losses as losing
use Rattle.st_trace.specs.Client.Losses.{Ended, Loses}
use Rattle.st_trace.specs.Client.Messages as trace
use Rattle.st_trace.specs.Client.Messages.{Effect, Receives, Refusal, Renews}
use Rattle.st_trace.proofs.Client.Finishing.{finishes, takes}
use Rattle.st_trace.proofs.Client.Losing.{loses}
use Rattle.st_trace.proofs.Client.Receiving.{receives}

-- What is heard.
few_reads_in_refused : (t : Turn) (file : Option ℕ) (asked : Body) (w : Why) (a b : ℕ) (u : Turn) → Refusal t file asked w a b u → R 0 t u
few_reads_in_refused t file asked _ a b _ (trace.NoFile _ _ ino e) = few_reads_in_answers _ _ t
few_reads_in_refused t file asked _ a b _ (trace.TooManyLocks _ _ ino e) = few_reads_in_answers _ _ t
few_reads_in_refused t file asked _ a b _ (trace.NoSpace _ _ ino p e q) = few_reads_in_answers _ _ t
few_reads_in_refused t file asked _ a b _ (trace.NotHolder _ _ e) = few_reads_in_answers _ _ t
few_reads_in_refused t file asked w a b _ (trace.AnswersNone _ _ _) = few_reads_in_nothing 0 t

few_reads_in_stuck : (f : Operation → Operation) (t : Turn) → R 0 t (state.with_operations (map f t.operations) t)
few_reads_in_stuck f t = let z = length_map f t.operations in record { server = refl; low = omega (arith, z) }

few_reads_in_effect : (now : Stamp) (t : Turn) (s : ClientSession) (file : Option ℕ) (asked b : Body) (u : Turn) → Effect now t s file asked b u → R 0 t u
few_reads_in_effect now t s file asked _ _ (trace.IsGranted ino g mode v k) = few_reads_in_nothing 0 t
few_reads_in_effect now t s file asked _ _ (trace.IsQueued ino mode c) = few_reads_in_nothing 0 t
few_reads_in_effect now t s file asked _ _ (trace.HoldsAlready ino mode c) = few_reads_in_nothing 0 t
few_reads_in_effect now t s file asked _ _ (trace.IsToldExtents ino rows c) = few_reads_in_nothing 0 t
few_reads_in_effect now t s file asked _ _ (trace.IsToldLate ino rows c) = few_reads_in_nothing 0 t
few_reads_in_effect now t s file asked _ _ trace.IsAcknowledged = few_reads_in_answers _ _ t
few_reads_in_effect now t s file asked _ _ (trace.IsNamed r k) = few_reads_in_answers _ _ t
few_reads_in_effect now t s file asked _ _ (trace.IsRemoved ino removed l f h) = few_reads_in_answers (state.is_asked t.here.server) (answers.Named ino) t
few_reads_in_effect now t s file asked _ _ trace.IsReasserted = few_reads_in_nothing 0 t
few_reads_in_effect now t s file asked _ _ (trace.Effect.IsRefused w a b u r) =
    few_reads_in_next 0 t u (trace.left_stuck u) (few_reads_in_refused t file asked w a b u r)
    (few_reads_in_stuck (cr.stuck u) u)

few_reads_in_renewed : (t : Turn) (s : ClientSession) (stamp : Stamp) (u : Turn) → Renews t s stamp u → R 0 t u
few_reads_in_renewed t s stamp _ (trace.IsLater e) = few_reads_in_says 0 t (_ ∷ []) (omega arith)
few_reads_in_renewed t s stamp _ (trace.IsNoLater e) = few_reads_in_nothing 0 t

few_reads_in_heard : (now : Stamp) (h : Header) (t : Turn) (b : Body) (u : Turn) → Receives now h t b u → R 0 t u
unfolding send
few_reads_in_heard now h t _ _ (trace.PassesOver b) = few_reads_in_nothing 0 t
few_reads_in_heard now h t _ _ (trace.Begins r e i) = few_reads_in_says 0 t (_ ∷ []) (omega arith)
few_reads_in_heard now h t _ _ (trace.FollowsEpoch s a b m e) = few_reads_in_answers (state.is_asked t.here.server) (answers.Uncertain s.epoch.0 h.epoch)
    (with_session (cr.in_epoch (trace.epoch_of h) s) t)
few_reads_in_heard now h t _ _ (trace.IsCondemned b s m c) = few_reads_in_nothing 0 t
few_reads_in_heard now h t _ _ (trace.IsGrantedLater ino g mode s v m e k) = few_reads_in_nothing 0 t
few_reads_in_heard now h t _ _ (trace.SeesDemand ino g to s m e) = few_reads_in_says 0 t (_ ∷ []) (omega arith)
few_reads_in_heard now h t _ _ (trace.GivesUp ino g to s m e k) = few_reads_in_nothing 0 t
few_reads_in_heard now h t _ _ (trace.HasGivenUp ino g to s m e k) = few_reads_in_nothing 0 t
few_reads_in_heard now h t _ u (trace.IsAnswered b s q v _ r n f) =
    let x = cr.ended_by (trace.stamp_of h) s in
    few_reads_in_next 0 t (with_session x v) u (few_reads_in_renewed t s (trace.stamp_of h) v n)
    (few_reads_in_effect now (with_session x v) x (state.file_asked s.cutting q.body) q.body b u f)

pub few_reads_in_receive : (now : Stamp) (h : Header) (b : Body) (t : Turn) → R 0 t (cr.receive_at now h b t)
few_reads_in_receive now h b t = few_reads_in_heard now h t b (cr.receive_at now h b t) (receives now h t b)

-- The end of a command.
pub few_reads_in_finish : (number : ℕ) (r : Option (Option (Tag × List ℕ))) (t : Turn) → R 0 t (cl.finish number r t)
few_reads_in_finish number r t = go (cl.finish number r t) (finishes number r t)
  where
    go : (u : Turn) → Finishes number r t u → R 0 t u
    go _ (ending.IsUnknown e) = few_reads_in_nothing 0 t
    go _ (ending.IsOfOtherKind c block o e k) = few_reads_in_nothing 0 t
    go _ (ending.Fills c block o k e) = few_reads_in_nothing 0 t
    go _ (ending.Hardens c v o k e i) = few_reads_in_nothing 0 t
    go _ (ending.WroteOlder c v o k e i) = few_reads_in_nothing 0 t
    go _ (ending.FailsToRead c o k e) = few_reads_in_answers _ _ (ending.without c t)
    go _ (ending.FailsToWrite c v o k e i) = few_reads_in_answers _ _
        (ending.with_pages (pages.fail t.here.store.pages c.ino c.page c.number) (ending.without c t))
    go _ (ending.FailsToWriteOlder c v o k e i) = few_reads_in_answers _ _ (ending.without c t)

-- An ask is one more operation at its server.
pub few_reads_in_take : (op : ℕ) (ask : Ask) (t : Turn) → R 1 t (cl.take_ask op ask t)
few_reads_in_take op ask t = go (cl.take_ask op ask t) (takes op ask t)
  where
    go : (u : Turn) → Takes op ask t u → R 1 t u
    go _ (ending.TellsLost f q l) = few_reads_in_says 1 t (_ ∷ []) (omega arith)
    go _ (ending.WaitsForSync f q l) = few_reads_in_keeping 0 (state.new_operation op ask) t t (few_reads_in_nothing 0 t)
    go _ (ending.Waits n) = few_reads_in_keeping 0 (state.new_operation op ask) t t (few_reads_in_nothing 0 t)

-- Losses: an operation that ends is no longer pending.
few_reads_in_ended : (s : ClientSession) (o : Operation) (t u : Turn) → Ended s o t u → R 1 t u
few_reads_in_ended s o t _ (losing.IsElsewhere e) = few_reads_in_keeping 0 o t t (few_reads_in_nothing 0 t)
few_reads_in_ended s o t _ (losing.IsUncertain e q) = few_reads_in_said 1 t o.op (answers.Uncertain s.epoch.0 0) refl
few_reads_in_ended s o t _ (losing.IsToldLost f e q a l) = few_reads_in_says 1 t (_ ∷ []) (omega arith)
few_reads_in_ended s o t _ (losing.LostNothing f e q a l) = few_reads_in_said 1 t o.op answers.Quiesced refl
few_reads_in_ended s o t _ (losing.IsQuiesced e q a) = few_reads_in_said 1 t o.op answers.Quiesced refl

pub few_reads_in_lose : (now : Stamp) (t : Turn) → R 0 t (cl.lose now t)
few_reads_in_lose now t = go (cl.lose now t) (loses now t)
  where
    begun : Turn
    begun = state.with_operations [] (losing.loss_noted t)

    go : (u : Turn) → Loses now t u → R 0 t u
    go _ (losing.HasNoSession e) = few_reads_in_nothing 0 t
    go _ (losing.Lasts s e o) = few_reads_in_nothing 0 t
    go _ (losing.IsLost s v e o p) =
        let x = few_reads_in_pass (Ended s) (λ o u w k. few_reads_in_ended s o u w k) t.operations begun v p in
        let a = x.low in
        let b = weigh_both of_read t.out (outputs.Note (notes.Lost t.here.server t.here.life) ∷ []) in
        record { server = x.server; low = omega (arith, a, b) }
