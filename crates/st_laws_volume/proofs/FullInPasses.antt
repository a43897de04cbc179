-- Only the passes of a client answer `dirtyfull`, and ask: neither its losses do, nor what it takes.
use Rattle.st_lemmas.proofs.Words
use Words.{◌≡◌, ◌==◌, ℕ, Bool, true, false, not, List, [], ◌∷◌, ◌++◌, Option, Some, None, refl, filter, map}
use Words.{AppAnswer, Ask, Body, ClientInput, Header, NameReply, Operation, Output, ServerId, Stamp, Tag, Why}
use Words.answers
use Words.bodies
use Words.inputs
use Words.outputs
use Words.replies
use Words.Client as cl
use Words.ClientReplies as cr
use Words.ClientState as cs
use Words.ClientState.{Association, ClientSession, ClientState, ClientTurn, Turn, answer_to, at_each, at_these, client_turn, enter, leave, only_at, server_of}
use Words.ClientState.{with_associations, with_operations, with_session}
use Words.Tables.{cond_either}
use Rattle.st_trace.specs.Client.Commands as ends
use Rattle.st_trace.specs.Client.Commands.{Finishes, Takes}
use Rattle.st_trace.specs.Client.Losses as losing
use Rattle.st_trace.specs.Client.Losses.{Ended, Loses}
use Rattle.st_trace.specs.Client.Messages as trace
use Rattle.st_trace.specs.Client.Messages.{Effect, Receives, Refusal, Renews}
use Rattle.st_trace.proofs.Client.Finishing.{at_server, finishes, takes}
use Rattle.st_trace.proofs.Client.Losing.{loses}
use Rattle.st_trace.proofs.Client.Receiving.{receives}
use Rattle.st_trace.proofs.Client.Walk.{each_lasts}
use Rattle.st_laws_pages.proofs.Causes.Placed.{EachOut, Since, since_none, since_one, since_then}

-- an output other than an answer `dirtyfull`
abbrev pub UnfullAnswer : AppAnswer → Type 0
UnfullAnswer answers.DirtyFull = ⊥
UnfullAnswer a = Unit {0}

abbrev pub Unfull : Output → Type 0
Unfull (outputs.Answer op a) = UnfullAnswer a
Unfull o = Unit {0}

-- What comes before the passes: notes, answers other than `dirtyfull`, and that a demand was seen.
abbrev pub IsSeen : Body → Type 0
IsSeen (bodies.DemandSeen ino g) = Unit {0}
IsSeen b = ⊥

abbrev pub Early : Output → Type 0
Early (outputs.Answer op a) = UnfullAnswer a
Early (outputs.Note n) = Unit {0}
Early (outputs.Send m) = IsSeen m.body
Early (outputs.Submit number at what) = ⊥

pub early_unfull : (os : List Output) → EachOut Early os → EachOut Unfull os
early_unfull [] h = tt
early_unfull (o ∷ os) h = record { one = one o h.one; rest = early_unfull os h.rest }
  where
    one : (o : Output) → Early o → Unfull o
    one (outputs.Answer op a) q = q
    one (outputs.Note n) q = tt
    one (outputs.Send m) q = tt
    one (outputs.Submit number at what) q = tt

abbrev H : Turn → Turn → Type 0
H t u = Since Early t.out u.out

each_unfull : (a : AppAnswer) → UnfullAnswer a → (os : List Operation) →
    EachOut Early (map (answer_to a) os)
each_unfull a q [] = tt
each_unfull a q (o ∷ os) = record { one = q; rest = each_unfull a q os }

answers_each : (t : Turn) (picked : Operation → Bool) (a : AppAnswer) → UnfullAnswer a →
    H t (cs.answer_each picked a t)
unfolding cs.answer_each
answers_each t picked a q =
    record {
      more = map (answer_to a) (filter picked t.operations);
      out = refl;
      each = each_unfull a q (filter picked t.operations);
    }

-- Losses.
ended : (s : ClientSession) (o : Operation) (t u : Turn) → Ended s o t u → H t u
ended s o t _ (losing.IsElsewhere e) = since_none Early t.out
ended s o t _ (losing.IsUncertain e f) = since_one Early t.out _ tt
ended s o t _ (losing.IsToldLost f e q a l) = since_one Early t.out _ tt
ended s o t _ (losing.LostNothing f e q a l) = since_one Early t.out _ tt
ended s o t _ (losing.IsQuiesced e q a) = since_one Early t.out _ tt

loses_none : (now : Stamp) (t : Turn) → H t (cl.lose now t)
loses_none now t = go (cl.lose now t) (loses now t)
  where
    go : (u : Turn) → Loses now t u → H t u
    go _ (losing.HasNoSession e) = since_none Early t.out
    go _ (losing.Lasts s e o) = since_none Early t.out
    go _ (losing.IsLost s u e o p) =
        let begun : Turn = with_operations [] (losing.loss_noted t) in
        since_then Early t.out begun.out u.out (since_one Early t.out _ tt)
        (each_lasts (Ended s) (λ os v. H begun v)
        (λ o os v x y z. since_then Early begun.out v.out x.out z (ended s o v x y)) t.operations
        begun u p
        (since_none Early begun.out))

-- A message.
refused : (t : Turn) (file : Option ℕ) (asked : Body) (y : Why) (a b : ℕ) (u : Turn) →
    Refusal t file asked y a b u → H t u
refused t file asked _ a b _ (trace.NoFile _ _ ino f) =
    answers_each t (cr.works_on t ino) answers.NoFile tt
refused t file asked _ a b _ (trace.TooManyLocks _ _ ino f) =
    answers_each t (cr.works_on t ino) answers.TooManyLocks tt
refused t file asked _ a b _ (trace.NoSpace _ _ ino p f g) =
    answers_each t (cr.writes_on t ino p) (answers.NoSpace a b) tt
refused t file asked _ a b _ (trace.NotHolder _ _ f) =
    answers_each t (cs.is_asked t.here.server) answers.NotHolder tt
refused t file asked y a b _ (trace.AnswersNone _ _ _) = since_none Early t.out

named : (y : NameReply) → UnfullAnswer (cr.name_answer y)
named (replies.Ino ino) = tt
named (replies.Listed rows) = tt
named (replies.Refused code) = tt

has_effect : (now : Stamp) (t : Turn) (s : ClientSession) (file : Option ℕ) (asked b : Body)
    (u : Turn) → Effect now t s file asked b u → H t u
unfolding cs.answer_each
has_effect now t s file asked _ _ (trace.IsGranted ino g mode x y) = since_none Early t.out
has_effect now t s file asked _ _ (trace.IsQueued ino mode y) = since_none Early t.out
has_effect now t s file asked _ _ (trace.HoldsAlready ino mode y) = since_none Early t.out
has_effect now t s file asked _ _ (trace.IsToldExtents ino rows y) = since_none Early t.out
has_effect now t s file asked _ _ (trace.IsToldLate ino rows y) = since_none Early t.out
has_effect now t s file asked _ _ trace.IsAcknowledged =
    answers_each t (cs.is_asked t.here.server) answers.Cut tt
has_effect now t s file asked _ _ (trace.IsNamed y d) =
    answers_each t (cs.is_asked t.here.server) (cr.name_answer y) (named y)
has_effect now t s file asked _ _ (trace.IsRemoved ino removed l f y) =
    let z = answers_each t (cs.is_asked t.here.server) (answers.Named ino) tt in
    record { more = z.more; out = z.out; each = z.each }
has_effect now t s file asked _ _ trace.IsReasserted = since_none Early t.out
has_effect now t s file asked _ _ (trace.Effect.IsRefused y a b u f) =
    let z = refused t file asked y a b u f in record { more = z.more; out = z.out; each = z.each }

renewed : (t : Turn) (s : ClientSession) (stamp : Stamp) (u : Turn) → Renews t s stamp u → H t u
renewed t s stamp _ (trace.IsLater e) = since_one Early t.out _ tt
renewed t s stamp _ (trace.IsNoLater e) = since_none Early t.out

heard : (now : Stamp) (header : Header) (t : Turn) (b : Body) (u : Turn) →
    Receives now header t b u → H t u
unfolding cs.send
heard now header t _ _ (trace.PassesOver b) = since_none Early t.out
heard now header t _ _ (trace.Begins r o j) = since_one Early t.out _ tt
heard now header t _ _ (trace.FollowsEpoch s a b n o) =
    let v : Turn = with_session (cr.in_epoch (trace.epoch_of header) s) t in
    answers_each v (cs.is_asked t.here.server) (answers.Uncertain s.epoch.0 header.epoch) tt
heard now header t _ _ (trace.IsCondemned b s n c) = since_none Early t.out
heard now header t _ _ (trace.IsGrantedLater ino g mode s w n o x) = since_none Early t.out
heard now header t _ _ (trace.SeesDemand ino g to s n o) = since_one Early t.out _ tt
heard now header t _ _ (trace.GivesUp ino g to s n o x) = since_none Early t.out
heard now header t _ _ (trace.HasGivenUp ino g to s n o x) = since_none Early t.out
heard now header t _ u (trace.IsAnswered b s q x _ r n f) =
    let v : Turn = with_session (cr.ended_by (trace.stamp_of header) s) x in
    since_then Early t.out x.out u.out (renewed t s (trace.stamp_of header) x n)
    (has_effect now v (cr.ended_by (trace.stamp_of header) s) (cs.file_asked s.cutting q.body)
    q.body b u f)

-- An ask, and the end of a command.
takes_none : (op : ℕ) (ask : Ask) (t : Turn) → H t (only_at (server_of ask) (cl.take_ask op ask) t)
takes_none op ask t =
    at_server (H t) (server_of ask) (cl.take_ask op ask) t
    (λ i. go (cl.take_ask op ask t) (takes op ask t)) (λ i. since_none Early t.out)
  where
    go : (u : Turn) → Takes op ask t u → H t u
    go _ (ends.TellsLost f q l) = since_one Early t.out _ tt
    go _ (ends.WaitsForSync f q l) = since_none Early t.out
    go _ (ends.Waits n) = since_none Early t.out

finishes_none : (number : ℕ) (r : Option (Option (Tag × List ℕ))) (t : Turn) →
    H t (cl.finish number r t)
finishes_none number r t = go (cl.finish number r t) (finishes number r t)
  where
    go : (u : Turn) → Finishes number r t u → H t u
    go _ (ends.IsUnknown e) = since_none Early t.out
    go _ (ends.IsOfOtherKind x block o e f) = since_none Early t.out
    go _ (ends.Fills x block o f e) = since_none Early t.out
    go _ (ends.Hardens x v o f e j) = since_none Early t.out
    go _ (ends.WroteOlder x v o f e j) = since_none Early t.out
    go _ (ends.FailsToRead x o f e) =
        answers_each (ends.without x t) (cl.waits_for_read t x) (answers.DiskFault x.number) tt
    go _ (ends.FailsToWrite x v o f e j) =
        answers_each
        (ends.with_pages (Words.ClientPages.fail t.here.store.pages x.ino x.page x.number)
        (ends.without x t)) (cl.waits_for_write t x)
        (answers.DiskFault x.number) tt
    go _ (ends.FailsToWriteOlder x v o f e j) =
        answers_each (ends.without x t) (cl.waits_for_write t x) (answers.DiskFault x.number) tt

-- At each server in turn.
these : (rule : Turn → Turn) → ((t : Turn) → H t (rule t)) →
    (al : List Association) (t : ClientTurn) → Since Early t.out (at_these rule al t).out
unfolding at_these
these rule one [] t = since_none Early t.out
these rule one (a ∷ al) t =
    since_then Early t.out (rule (enter t a)).out
    (at_these rule al (leave t (rule (enter t a)))).out (one (enter t a))
    (these rule one al (leave t (rule (enter t a))))

each_none : (rule : Turn → Turn) → ((t : Turn) → H t (rule t)) → (t : ClientTurn) →
    Since Early t.out (at_each rule t).out
unfolding at_each
each_none rule one t = these rule one t.state.associations (with_associations [] t)

input_none : (now : Stamp) (input : ClientInput) (lost : ClientTurn) →
    Since Early lost.out (cl.take_input lost now input).out
unfolding cl.take_input cl.app cl.app_known cl.done cr.receive cr.receive_here
input_none now inputs.Tick lost = since_none Early lost.out
input_none now (inputs.App op ask) lost =
    cond_either (λ (u : ClientTurn). Since Early lost.out u.out) (cl.is_full lost.state)
    (cl.answered_at_once lost op answers.OpsFull)
    (cl.app_known lost op ask)
    (λ e. since_one Early lost.out _ tt)
    (λ e. cond_either (λ (u : ClientTurn). Since Early lost.out u.out)
    (cl.is_configured lost.state (server_of ask))
    (at_each (only_at (server_of ask) (cl.take_ask op ask)) lost)
    (cl.answered_at_once lost op answers.NoFile)
    (λ c. each_none (only_at (server_of ask) (cl.take_ask op ask)) (takes_none op ask) lost)
    (λ c. since_one Early lost.out _ tt))
input_none now (inputs.Control m) lost =
    cond_either (λ (u : ClientTurn). Since Early lost.out u.out) (m.header.to == lost.state.id.0)
    (at_each (cr.receive_at now m.header m.body) lost) lost
    (λ e. each_none (cr.receive_at now m.header m.body)
    (λ t. heard now m.header t m.body (cr.receive_at now m.header m.body t)
    (receives now m.header t m.body)) lost)
    (λ e. since_none Early lost.out)
input_none now (inputs.Done number r) lost =
    each_none (cl.finish number r) (finishes_none number r) lost

pub early_before : (now : Stamp) (s : ClientState) (input : ClientInput) →
    Since Early [] (cl.take_input (cl.losses (client_turn s []) now) now input).out
unfolding cl.losses
early_before now s input =
    let lost : ClientTurn = cl.losses (client_turn s []) now in
    since_then Early [] lost.out (cl.take_input lost now input).out
    (each_none (cl.lose now) (loses_none now) (client_turn s []))
    (input_none now input lost)
