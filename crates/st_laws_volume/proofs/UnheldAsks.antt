-- A step of a client that takes a message: it answers `notholder` only to an operation that waited
-- for a reply before the step.
use Rattle.st_lemmas.proofs.Words
use Words.{◌≡◌, ◌⊎◌, ℕ, Bool, true, false, ◌==◌, List, [], ◌∷◌, ◌++◌, Option, Some, None, refl, sym, ap, ◌∙◌, subst, inl, inr}
use Words.{filter, map, AppAnswer, Ask, Body, Header, Message, NameReply, Operation, Output, ServerId, Stamp, Why}
use Words.answers
use Words.inputs
use Words.outputs
use Words.replies
use Words.Client as cl
use Words.ClientPasses as cp
use Words.ClientReplies as cr
use Words.ClientState as cs
use Words.ClientState.{Association, ClientSession, ClientState, ClientTurn, Turn, answer_to}
use Words.ClientState.{at_each, at_these, client_turn, enter, leave, with_associations, with_operations}
use Words.Lists.{Has}
use Words.Tables.{and_true, cond_either, has_append, has_filter, has_map}
use Rattle.st_trace.specs.Client.Losses as losing
use Rattle.st_trace.specs.Client.Losses.{Ended, Loses}
use Rattle.st_trace.specs.Client.Messages as trace
use Rattle.st_trace.specs.Client.Messages.{Effect, Receives, Refusal, Renews}
use Rattle.st_trace.proofs.Client.Losing.{loses}
use Rattle.st_trace.proofs.Client.Receiving.{receives}
use Rattle.st_trace.proofs.Client.Walk.{each_lasts}
use Rattle.st_laws_volume.proofs.ClientAnswers as walk
use Rattle.st_laws_volume.proofs.RemoveGrants.{AllFrom, lost, received}

-- the answer
abbrev is_unheld : AppAnswer → Bool
is_unheld answers.NotHolder = true
is_unheld a = false

abbrev IsOther : Output → Type 0
IsOther (outputs.Answer op a) = is_unheld a ≡ false
IsOther o = Unit {0}

abbrev op_of : Output → ℕ
op_of (outputs.Answer op a) = op
op_of o = 0

plain_name : (y : NameReply) → is_unheld (cr.name_answer y) ≡ false
plain_name (replies.Ino ino) = refl
plain_name (replies.Listed rows) = refl
plain_name (replies.Refused code) = refl

plain_other : (a : AppAnswer) → walk.IsPlain a → is_unheld a ≡ false
plain_other answers.NotHolder p = absurd p
plain_other a p = refl

silent_other : (o : Output) → walk.IsSilent o → IsOther o
silent_other (outputs.Answer op a) s = absurd s
silent_other o s = tt

-- A rule at each server in turn.
everywhere : (Q : List Operation → List Output → Type 0) (rule : Turn → Turn) → ((t : Turn) → Q t.operations t.out → Q (rule t).operations (rule t).out) →
    (al : List Association) (t : ClientTurn) → Q t.state.operations t.out → Q (at_these rule al t).state.operations (at_these rule al t).out
unfolding at_these
everywhere Q rule one [] t h = h
everywhere Q rule one (a ∷ al) t h = everywhere Q rule one al (leave t (rule (enter t a))) (one (enter t a) h)

-- an operation of this number waited
pub record Waited (start : List Operation) (op : ℕ) : Type 0 where
  pub o : Operation
  pub there : Has o start
  pub is : o.op ≡ op
  pub asked : cs.is_asked_at o.stage ≡ true

module _ (start : List Operation) where
  abbrev Said : List Output → Type 0
  Said out = (op : ℕ) → Has (outputs.Answer op answers.NotHolder) out → Waited start op

  none : true ≡ false → ⊥
  none q = cc q

  said_more : (out : List Output) (o : Output) → IsOther o → Said out → Said (out ++ o ∷ [])
  said_more out o e h op i = go (has_append out (o ∷ []) (outputs.Answer op answers.NotHolder) i)
    where
      go : Has (outputs.Answer op answers.NotHolder) out ⊎ Has (outputs.Answer op answers.NotHolder) (o ∷ []) → Waited start op
      go (inl j) = h op j
      go (inr (inl q)) = absurd (none (subst IsOther (sym q) e))
      go (inr (inr j)) = absurd j

  said_all : (out : List Output) (a : AppAnswer) (os : List Operation) → is_unheld a ≡ false → Said out → Said (out ++ map (answer_to a) os)
  said_all out a os e h op i = go (has_append out (map (answer_to a) os) (outputs.Answer op answers.NotHolder) i)
    where
      go : Has (outputs.Answer op answers.NotHolder) out ⊎ Has (outputs.Answer op answers.NotHolder) (map (answer_to a) os) → Waited start op
      go (inl j) = h op j
      go (inr j) = let z = has_map (answer_to a) os (outputs.Answer op answers.NotHolder) j in absurd (none (subst IsOther (sym z.2) e))

  record Fine (os : List Operation) (out : List Output) : Type 0 where
    from : AllFrom start os
    said : Said out

  abbrev FineAt : Turn → Type 0
  FineAt t = Fine t.operations t.out

  from_then : (os ps : List Operation) → AllFrom start os → AllFrom os ps → AllFrom start ps
  from_then os ps h k p i =
      let f = k p i in
      let z = h f.o f.there in
      record { o = z.o; there = z.there; op = z.op ∙ f.op; ask = z.ask ∙ f.ask; asked = λ e. z.asked (f.asked e); sent = f.sent ∙ z.sent }

  -- A loss of a lease.
  ended : (s : ClientSession) (o : Operation) (t u : Turn) → Ended s o t u → Said t.out → Said u.out
  ended s o t _ (losing.IsElsewhere e) h = h
  ended s o t _ (losing.IsUncertain e f) h = said_more t.out _ refl h
  ended s o t _ (losing.IsToldLost f e q a l) h = said_more t.out _ refl h
  ended s o t _ (losing.LostNothing f e q a l) h = said_more t.out _ refl h
  ended s o t _ (losing.IsQuiesced e q a) h = said_more t.out _ refl h

  lose_said : (now : Stamp) (t : Turn) → Said t.out → Said (cl.lose now t).out
  lose_said now t h = go (cl.lose now t) (loses now t)
    where
      go : (u : Turn) → Loses now t u → Said u.out
      go _ (losing.HasNoSession e) = h
      go _ (losing.Lasts s e o) = h
      go _ (losing.IsLost s u e o p) =
          each_lasts (Ended s) (λ os v. Said v.out) (λ o os v x y z. ended s o v x y z) t.operations (with_operations [] (losing.loss_noted t)) u p
          (said_more t.out _ tt h)

  lose_fine : (now : Stamp) (t : Turn) → FineAt t → FineAt (cl.lose now t)
  lose_fine now t h =
      record { from = from_then t.operations (cl.lose now t).operations h.from (lost now t).from; said = lose_said now t h.said }

  -- A message.
  refused : (t : Turn) (file : Option ℕ) (asked : Body) (y : Why) (a b : ℕ) (u : Turn) → Refusal t file asked y a b u → FineAt t → Said u.out
  unfolding cs.answer_each
  refused t file asked _ a b _ (trace.NoFile _ _ ino e) h = said_all t.out answers.NoFile _ refl h.said
  refused t file asked _ a b _ (trace.TooManyLocks _ _ ino e) h = said_all t.out answers.TooManyLocks _ refl h.said
  refused t file asked _ a b _ (trace.NoSpace _ _ ino p e q) h = said_all t.out (answers.NoSpace a b) _ refl h.said
  refused t file asked _ a b _ (trace.NotHolder _ _ e) h = λ op i. go op (has_append t.out _ (outputs.Answer op answers.NotHolder) i)
    where
      go : (op : ℕ) → Has (outputs.Answer op answers.NotHolder) t.out
          ⊎ Has (outputs.Answer op answers.NotHolder) (map (answer_to answers.NotHolder) (filter (cs.is_asked t.here.server) t.operations)) → Waited start op
      go op (inl j) = h.said op j
      go op (inr j) =
          let z = has_map (answer_to answers.NotHolder) (filter (cs.is_asked t.here.server) t.operations) (outputs.Answer op answers.NotHolder) j in
          let y = has_filter (cs.is_asked t.here.server) t.operations z.0 z.1 in
          let f = h.from z.0 y.0 in
          record {
            o = f.o;
            there = f.there;
            is = f.op ∙ sym (ap op_of z.2);
            asked = f.asked (and_true (cs.is_of t.here.server z.0) (cs.is_asked_at z.0.stage) y.1).1;
          }
  refused t file asked y a b _ (trace.AnswersNone _ _ _) h = h.said

  has_effect : (now : Stamp) (t : Turn) (s : ClientSession) (file : Option ℕ) (asked b : Body) (u : Turn) → Effect now t s file asked b u → FineAt t →
      Said u.out
  unfolding cs.answer_each
  has_effect now t s file asked _ _ (trace.IsGranted ino g mode v k) h = h.said
  has_effect now t s file asked _ _ (trace.IsQueued ino mode e) h = h.said
  has_effect now t s file asked _ _ (trace.HoldsAlready ino mode e) h = h.said
  has_effect now t s file asked _ _ (trace.IsToldExtents ino rows e) h = h.said
  has_effect now t s file asked _ _ (trace.IsToldLate ino rows e) h = h.said
  has_effect now t s file asked _ _ trace.IsAcknowledged h = said_all t.out answers.Cut _ refl h.said
  has_effect now t s file asked _ _ (trace.IsNamed r k) h = said_all t.out (cr.name_answer r) _ (plain_name r) h.said
  has_effect now t s file asked _ _ (trace.IsRemoved ino removed l e q) h = said_all t.out (answers.Named ino) _ refl h.said
  has_effect now t s file asked _ _ trace.IsReasserted h = h.said
  has_effect now t s file asked _ _ (trace.Effect.IsRefused y a b u r) h = refused t file asked y a b u r h

  renewed : (t : Turn) (s : ClientSession) (stamp : Stamp) (u : Turn) → Renews t s stamp u → FineAt t → FineAt u
  renewed t s stamp _ (trace.IsLater e) h = record { from = h.from; said = said_more t.out _ tt h.said }
  renewed t s stamp _ (trace.IsNoLater e) h = h

  heard : (now : Stamp) (m : Header) (t : Turn) (b : Body) (u : Turn) → Receives now m t b u → FineAt t → Said u.out
  unfolding cs.send cs.answer_each
  heard now m t _ _ (trace.PassesOver b) h = h.said
  heard now m t _ _ (trace.Begins r e i) h = said_more t.out _ tt h.said
  heard now m t _ _ (trace.FollowsEpoch s x y n e) h = said_all t.out (answers.Uncertain s.epoch.0 m.epoch) _ refl h.said
  heard now m t _ _ (trace.IsCondemned b s n c) h = h.said
  heard now m t _ _ (trace.IsGrantedLater ino g mode s v n e k) h = h.said
  heard now m t _ _ (trace.SeesDemand ino g to s n e) h = said_more t.out _ tt h.said
  heard now m t _ _ (trace.GivesUp ino g to s n e k) h = h.said
  heard now m t _ _ (trace.HasGivenUp ino g to s n e k) h = h.said
  heard now m t _ u (trace.IsAnswered b s q v _ r x f) h =
      has_effect now (cs.with_session (cr.ended_by (trace.stamp_of m) s) v) (cr.ended_by (trace.stamp_of m) s) (cs.file_asked s.cutting q.body) q.body b u f
      (renewed t s (trace.stamp_of m) v x h)

  received_fine : (now : Stamp) (m : Header) (b : Body) (t : Turn) → FineAt t → FineAt (cr.receive_at now m b t)
  received_fine now m b t h =
      record {
        from = from_then t.operations (cr.receive_at now m b t).operations h.from (received now m b t).from;
        said = heard now m t b (cr.receive_at now m b t) (receives now m t b) h;
      }

  -- The passes answer so nobody.
  module _ (now : Stamp) (lost_ : ClientTurn) where
    abbrev Any : ℕ → Ask → Type 0
    Any op ask = Unit {0}

    abbrev Free : ℕ → Type 0
    Free op = Unit {0}

    abbrev Cuts : Ask → Type 0
    Cuts ask = Unit {0}

    abbrev Epochs : ServerId → ℕ → Type 0
    Epochs s n = Unit {0}

    abbrev Is : Association → Type 0
    Is a = Unit {0}

    keeps : walk.Keeps Any Free Cuts (λ a e. tt) Epochs Is Said now inputs.Tick lost_
    keeps =
        record {
          comes = λ op ask i. tt;
          silent = λ out o e h. said_more out o (silent_other o e) h;
          plain = λ out op a e h. said_more out (outputs.Answer op a) (plain_other a e) h;
          quiesced = λ out o k u n h. said_more out (outputs.Answer o.op answers.Quiesced) refl h;
          newer = λ out sv o n m k a d f g l h. said_more out (outputs.Answer o.op (answers.Uncertain n m)) refl h;
          full = λ op ask i f h. said_more lost_.out (outputs.Answer op answers.OpsFull) refl h;
          unknown = λ op ask i f h. said_more lost_.out (outputs.Answer op answers.NoFile) refl h;
          refused = λ out t v q m o w a b answer i y r e k u h. cc i;
          failed = λ out t number x o i y z k u h. cc i;
        }

    any_session : (sv : ServerId) (o : Option ClientSession) → walk.SessionIn Epochs sv o
    any_session sv None = tt
    any_session sv (Some v) = tt

    passed_said : (tick : Bool) (t : Turn) → Said t.out → Said (cp.passes now tick t).out
    passed_said tick t h =
        (walk.passed Any Free Cuts (λ a e. tt) Epochs Is Said now inputs.Tick lost_ keeps tick t
        (record {
          kept = h;
          operations = λ o i. (tt, record { sent = λ e. tt; unsent = λ e. tt });
          session = any_session t.here.server t.here.session;
        })).kept

-- The whole step.
pub unheld_waited : (s : ClientState) (now : Stamp) (m : Message) (op : ℕ) →
    Has (outputs.Answer op answers.NotHolder) (cl.client_step s now (inputs.Control m)).out → Waited s.operations op
unfolding cl.client_step cl.work cl.losses cl.take_input cr.receive cr.receive_here at_each
unheld_waited s now m =
    let start : List Operation = s.operations in
    let t : ClientTurn = at_each (cl.lose now) (client_turn s []) in
    let lost_ : Fine start t.state.operations t.out =
    everywhere (Fine start) (cl.lose now) (λ u h. lose_fine start now u h) s.associations (with_associations [] (client_turn s []))
    (record {
      from = λ p i. record { o = p; there = i; op = refl; ask = refl; asked = λ e. e; sent = refl };
      said = λ op i. absurd i;
    }) in
    let taken : Fine start (cl.take_input t now (inputs.Control m)).state.operations (cl.take_input t now (inputs.Control m)).out =
    cond_either (λ (u : ClientTurn). Fine start u.state.operations u.out) (m.header.to == t.state.id.0)
    (at_each (cr.receive_at now m.header m.body) t) t
    (λ e. everywhere (Fine start) (cr.receive_at now m.header m.body) (λ u h. received_fine start now m.header m.body u h) t.state.associations
    (with_associations [] t) lost_) (λ e. lost_) in
    everywhere (λ os out. Said start out) (cp.passes now false) (λ u h. passed_said start now t false u h)
    (cl.take_input t now (inputs.Control m)).state.associations (with_associations [] (cl.take_input t now (inputs.Control m))) taken.said
