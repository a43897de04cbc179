-- A step of a client, walked for what it answers: each answer with the cause for which it is given. A fact of the outputs holds after the step if
-- it does so after each output that may come.
use Rattle.st_lemmas.proofs.Words
use Words.{if◌then◌else◌, ◌≡◌, ℕ, ◌<◌, ◌⊎◌, Bool, true, false, not, ◌&&◌, ◌==◌, List, [], ◌∷◌, ◌++◌, Option, Some, None, refl, sym, ap, ◌∙◌, subst, inl, inr, filter, map}
use Words.{append-nil, append_assoc, ltb-true, Tag, PageNo, ServerId, Stamp, AppAnswer, Ask, Body, Header, Message, NameReply, Why, Output, ClientInput, Operation}
use Words.{Epoch, GrantNo, Mode, PageCommand}
use Words.answers
use Words.asks
use Words.bodies
use Words.commands
use Words.notes
use Words.outputs
use Words.inputs
use Words.io
use Words.replies
use Words.Client as cl
use Words.ClientPasses as cp
use Words.ClientPages as pages
use Words.ClientReplies as cr
use Words.ClientState as cs
use Words.ClientState.{Association, ClientSession, ClientState, ClientTurn, Turn, answer_to, at_each, at_these, client_turn, enter, leave, only_at, server_of}
use Words.ClientState.{with_associations, with_operations, with_session}
use Words.Keys.{server_node}
use Words.Lists.{Has}
use Words.Members.{has_left, has_right}
use Words.Tables.{and_true, cond_either, has_append, has_filter, has_map}
use Rattle.st_messages.specs.declared.message.Why.TheVariants as why
use Rattle.st_rules.specs.declared.client.Request.{Request}
use Rattle.st_rules.specs.declared.client.Stage.{Stage}
use Rattle.st_rules.specs.declared.client.Stage.TheVariants as stages
use Rattle.st_trace.specs.Client.Commands as ends
use Rattle.st_trace.specs.Client.Commands.{Finishes, IsOutstanding, Takes}
use Rattle.st_trace.specs.Client.Losses as losing
use Rattle.st_trace.specs.Client.Losses.{Ended, Loses}
use Rattle.st_trace.specs.Client.Messages as trace
use Rattle.st_trace.specs.Client.Messages.{Effect, Grants, Receives, Refusal, Renews, Replied}
use Rattle.st_trace.specs.Client.Operations as pass
use Rattle.st_trace.specs.Client.Operations.{Operated}
use Rattle.st_trace.specs.Client.Passes.{Reduced, StaysHeld, IsReduced, WritesOut, StaysDirty, IsWritten, places_of}
use Rattle.st_trace.specs.Client.Requests as asking
use Rattle.st_trace.specs.Client.Requests.{Greets, Requests, Wants}
use Rattle.st_trace.proofs.Client.Finishing.{at_server, finishes, takes}
use Rattle.st_trace.proofs.Client.Losing.{loses}
use Rattle.st_trace.proofs.Client.Receiving.{receives}
use Rattle.st_trace.proofs.Client.Walk.{each_lasts, passes}

-- an output that isn't an answer
abbrev pub IsSilent : Output → Type 0
IsSilent (outputs.Answer op a) = ⊥
IsSilent o = Unit {0}

-- an answer whose cause isn't looked at
abbrev pub IsPlain : AppAnswer → Type 0
IsPlain (answers.Uncertain old new) = ⊥
IsPlain answers.OpsFull = ⊥
IsPlain (answers.DiskFault number) = ⊥
IsPlain answers.NoFile = ⊥
IsPlain answers.TooManyLocks = ⊥
IsPlain (answers.NoSpace a b) = ⊥
IsPlain answers.NotHolder = ⊥
IsPlain answers.Quiesced = ⊥
IsPlain a = Unit {0}

-- a command that failed, and an operation that waits for it
pub data WaitsFor (t : Turn) (x : PageCommand) (o : Operation) : Type 0 where
  Reads : x.kind ≡ io.Read → cl.waits_for_read t x o ≡ true → WaitsFor t x o
  Syncs : (v : ℕ) → x.kind ≡ io.Write v → cl.waits_for_write t x o ≡ true → WaitsFor t x o

-- a server's refusal, and an operation that it refuses
pub data Refuses (t : Turn) (file : Option ℕ) (asked : Body) (o : Operation) : Why → ℕ → ℕ → AppAnswer → Type 0 where
  HasNoFile : (a b ino : ℕ) → file ≡ Some ino → cr.works_on t ino o ≡ true → Refuses t file asked o why.NoFile a b answers.NoFile
  HasTooManyLocks : (a b ino : ℕ) → file ≡ Some ino → cr.works_on t ino o ≡ true → Refuses t file asked o why.TooManyLocks a b answers.TooManyLocks
  HasNoSpace : (a b ino : ℕ) (p : PageNo) → file ≡ Some ino → cs.page_asked asked ≡ Some p → cr.writes_on t ino p o ≡ true →
      Refuses t file asked o why.NoSpace a b (answers.NoSpace a b)
  IsNoHolder : (a b : ℕ) → cs.asks_cut_or_remove asked ≡ true → cs.is_asked t.here.server o ≡ true → Refuses t file asked o why.NotHolder a b answers.NotHolder

asked_sent : (s : ServerId) (o : Operation) → cs.is_asked s o ≡ true → cs.is_sent o ≡ true
asked_sent s o e = go o.stage (and_true (cs.is_of s o) (cs.is_asked_at o.stage) e).1
  where
    go : (g : Stage) → cs.is_asked_at g ≡ true → cs.is_sent_at g ≡ true
    go stages.Sent e = refl
    go stages.Unsent e = cc
    go stages.Stuck e = cc

-- what an input tells: of an ask, and of the epoch of a message
abbrev pub Tells : (ℕ → Ask → Type 0) → (ServerId → ℕ → Type 0) → ClientInput → Type 0
Tells Known Epochs (inputs.App op ask) = Known op ask
Tells Known Epochs (inputs.Control m) = (s : ServerId) → m.header.from ≡ server_node s → Epochs s m.header.epoch
Tells Known Epochs i = Unit {0}

-- a session of a possible epoch
abbrev pub SessionIn : (ServerId → ℕ → Type 0) → ServerId → Option ClientSession → Type 0
SessionIn Epochs s None = Unit {0}
SessionIn Epochs s (Some v) = Epochs s v.epoch.0

-- a grant leaves the epoch
granted : (s : ClientSession) (ino : ℕ) (g : GrantNo) (mode : Mode) (w : ClientSession) → Grants s ino g mode w → w.epoch ≡ s.epoch
granted s ino g mode _ (trace.Installs x y) = refl
granted s ino g mode _ (trace.Declines x y) = refl
granted s ino g mode _ (trace.IsOld x) = refl

-- a fact of an operation that isn't sent, and one of its ask once it is sent itself
pub record StageFits (Unsent : ℕ → Type 0) (Cuts : Ask → Type 0) (o : Operation) : Type 0 where
  pub sent : cs.is_sent o ≡ true → Cuts o.ask
  pub unsent : cs.is_sent o ≡ false → Unsent o.op

-- What is known of asks by their numbers, of the numbers of those that aren't sent, and of those that are sent themselves; the epochs that sessions of a
-- server may have; a fact of associations before the input; and the fact of the outputs.
module _ (Known : ℕ → Ask → Type 0) (Unsent : ℕ → Type 0) (Cuts : Ask → Type 0) (cuts : (a : Ask) → cs.is_cut_or_name a ≡ true → Cuts a)
    (Epochs : ServerId → ℕ → Type 0) (Is : Association → Type 0) (P : List Output → Type 0) (now : Stamp) where
  abbrev pub IsKnown : Operation → Type 0
  IsKnown o = Known o.op o.ask

  abbrev pub IsSentRight : Operation → Type 0
  IsSentRight = StageFits Unsent Cuts

  -- what each output of the losses keeps
  pub record KeepsLosses : Type 0 where
    pub silent : (out : List Output) (o : Output) → IsSilent o → P out → P (out ++ o ∷ [])
    pub plain : (out : List Output) (op : ℕ) (a : AppAnswer) → IsPlain a → P out → P (out ++ outputs.Answer op a ∷ [])
    pub uncertain : (out : List Output) (s : ServerId) (o : Operation) (n : ℕ) → IsKnown o → cs.is_of s o ≡ true → Cuts o.ask →
        Epochs s n → P out → P (out ++ outputs.Answer o.op (answers.Uncertain n 0) ∷ [])
    pub quiesced : (out : List Output) (o : Operation) → IsKnown o → Unsent o.op → P out → P (out ++ outputs.Answer o.op answers.Quiesced ∷ [])

  -- what each later output keeps, in a step that takes this input, after these losses
  pub record Keeps (input : ClientInput) (lost : ClientTurn) : Type 0 where
    pub comes : (op : ℕ) (ask : Ask) → input ≡ inputs.App op ask → Unsent op
    pub silent : (out : List Output) (o : Output) → IsSilent o → P out → P (out ++ o ∷ [])
    pub plain : (out : List Output) (op : ℕ) (a : AppAnswer) → IsPlain a → P out → P (out ++ outputs.Answer op a ∷ [])
    pub quiesced : (out : List Output) (o : Operation) → IsKnown o → Unsent o.op → cs.is_sync o.ask ≡ false → P out →
        P (out ++ outputs.Answer o.op answers.Quiesced ∷ [])
    pub newer : (out : List Output) (s : ServerId) (o : Operation) (n m : ℕ) → IsKnown o → cs.is_of s o ≡ true → Cuts o.ask →
        Epochs s n → Epochs s m → n < m → P out → P (out ++ outputs.Answer o.op (answers.Uncertain n m) ∷ [])
    pub full : (op : ℕ) (ask : Ask) → input ≡ inputs.App op ask → cl.is_full lost.state ≡ true → P lost.out →
        P (lost.out ++ outputs.Answer op answers.OpsFull ∷ [])
    pub unknown : (op : ℕ) (ask : Ask) → input ≡ inputs.App op ask → cl.is_configured lost.state (server_of ask) ≡ false → P lost.out →
        P (lost.out ++ outputs.Answer op answers.NoFile ∷ [])
    pub refused : (out : List Output) (t : Turn) (v : ClientSession) (q : Request) (m : Message) (o : Operation) (w : Why) (a b : ℕ) (answer : AppAnswer) →
        input ≡ inputs.Control m → Is t.here → Replied now m.header m.body t v q → m.body ≡ bodies.Nack w a b → IsKnown o →
        Refuses t (cs.file_asked v.cutting q.body) q.body o w a b answer → P out → P (out ++ outputs.Answer o.op answer ∷ [])
    pub failed : (out : List Output) (t : Turn) (number : ℕ) (x : PageCommand) (o : Operation) → input ≡ inputs.Done number None → Is t.here →
        IsOutstanding number t x → IsKnown o → WaitsFor t x o → P out → P (out ++ outputs.Answer o.op (answers.DiskFault x.number) ∷ [])

  abbrev pub AllRight : List Operation → Type 0
  AllRight os = (o : Operation) → Has o os → IsKnown o × IsSentRight o

  -- what holds of a step at one server, and at all
  pub record Holds (t : Turn) : Type 0 where
    pub kept : P t.out
    pub operations : AllRight t.operations
    pub session : SessionIn Epochs t.here.server t.here.session

  abbrev Fine : Association → Type 0
  Fine a = SessionIn Epochs a.server a.session

  pub record AllHold (Each : Association → Type 0) (t : ClientTurn) : Type 0 where
    pub kept : P t.out
    pub operations : AllRight t.state.operations
    pub each : (a : Association) → Has a t.state.associations → Each a

  -- operations in order
  one_more : (os : List Operation) (o : Operation) → IsKnown o × IsSentRight o → AllRight os → AllRight (os ++ o ∷ [])
  one_more os o r h x i = go (has_append os (o ∷ []) x i)
    where
      go : Has x os ⊎ Has x (o ∷ []) → IsKnown x × IsSentRight x
      go (inl j) = h x j
      go (inr (inl e)) = subst (λ y. IsKnown y × IsSentRight y) (sym e) r
      go (inr (inr j)) = absurd j

  -- A rule at each server in turn.
  module _ (Before After : Association → Type 0) (rule : Turn → Turn) (fine : (a : Association) → Before a → Fine a)
      (one : (t : Turn) → Before t.here → Holds t → Holds (rule t) × After (rule t).here) where
    these : (al : List Association) (t : ClientTurn) → ((a : Association) → Has a al → Before a) → AllHold After t → AllHold After (at_these rule al t)
    unfolding at_these
    these [] t b h = h
    these (a ∷ al) t b h =
        let z = one (enter t a) (b a (inl refl)) (record { kept = h.kept; operations = h.operations; session = fine a (b a (inl refl)) }) in
        these al (leave t (rule (enter t a))) (λ x i. b x (inr i))
        (record { kept = z.0.kept; operations = z.0.operations; each = λ x i. go x z.1 (has_append t.state.associations _ x i) })
      where
        go : (x : Association) → After (rule (enter t a)).here → Has x t.state.associations ⊎ Has x ((rule (enter t a)).here ∷ []) → After x
        go x f (inl i) = h.each x i
        go x f (inr (inl e)) = subst After (sym e) f
        go x f (inr (inr i)) = absurd i

    each : (t : ClientTurn) → AllHold Before t → AllHold After (at_each rule t)
    unfolding at_each
    each t h = these t.state.associations (with_associations [] t) h.each (record { kept = h.kept; operations = h.operations; each = λ a i. absurd i })

  abbrev pub Both : Association → Type 0
  Both a = Fine a × Is a

  -- Losses.
  module _ (k : KeepsLosses) where
    module _ (s : ClientSession) (server : ServerId) (epoch : Epochs server s.epoch.0) where
      record Ending (os : List Operation) (t : Turn) : Type 0 where
        at : t.here.server ≡ server
        kept : P t.out
        operations : AllRight t.operations
        left : AllRight os

      ended : (o : Operation) (os : List Operation) (t u : Turn) → Ended s o t u → Ending (o ∷ os) t → Ending os u
      ended o os t _ (losing.IsElsewhere e) h =
          record { at = h.at; kept = h.kept; operations = one_more t.operations o (h.left o (inl refl)) h.operations; left = λ x i. h.left x (inr i) }
      ended o os t _ (losing.IsUncertain e f) h =
          let r = h.left o (inl refl) in
          record {
            at = h.at;
            kept = k.uncertain t.out server o s.epoch.0 r.0 (subst (λ v. cs.is_of v o ≡ true) h.at e) (r.1.sent f) epoch h.kept;
            operations = h.operations;
            left = λ x i. h.left x (inr i);
          }
      ended o os t _ (losing.IsToldLost f e q a l) h =
          record { at = h.at; kept = k.plain t.out o.op _ tt h.kept; operations = h.operations; left = λ x i. h.left x (inr i) }
      ended o os t _ (losing.LostNothing f e q a l) h =
          let r = h.left o (inl refl) in
          record { at = h.at; kept = k.quiesced t.out o r.0 (r.1.unsent q) h.kept; operations = h.operations; left = λ x i. h.left x (inr i) }
      ended o os t _ (losing.IsQuiesced e q a) h =
          let r = h.left o (inl refl) in
          record { at = h.at; kept = k.quiesced t.out o r.0 (r.1.unsent q) h.kept; operations = h.operations; left = λ x i. h.left x (inr i) }

    lose_holds : (gone : (a : Association) → Is (cl.emptied a)) → (t : Turn) → Is t.here → Holds t → Holds (cl.lose now t) × Is (cl.lose now t).here
    lose_holds gone t i h = go (cl.lose now t) (loses now t)
      where
        go : (u : Turn) → Loses now t u → Holds u × Is u.here
        go _ (losing.HasNoSession e) = (h, i)
        go _ (losing.Lasts s e o) = (h, i)
        go _ (losing.IsLost s u e o p) =
            let r : Ending s t.here.server (subst (SessionIn Epochs t.here.server) e h.session) [] u =
            each_lasts (Ended s) (λ os v. Ending s t.here.server (subst (SessionIn Epochs t.here.server) e h.session) os v)
            (λ o os v x y z. ended s t.here.server (subst (SessionIn Epochs t.here.server) e h.session) o os v x y z) t.operations
            (with_operations [] (losing.loss_noted t)) u p
            (record { at = refl; kept = k.silent t.out _ tt h.kept; operations = λ o i. absurd i; left = h.operations }) in
            (record { kept = r.kept; operations = r.operations; session = tt }, gone u.here)

    pub lost_all : ((a : Association) → Is (cl.emptied a)) → (s : ClientState) → AllHold Both (client_turn s []) → AllHold Both (cl.losses (client_turn s []) now)
    unfolding cl.losses
    lost_all gone s h =
        each Both Both (cl.lose now) (λ a b. b.0)
        (λ t b w. let z = lose_holds gone t b.1 w in (z.0, (z.0.session, z.1))) (client_turn s []) h

  -- What comes after them.
  module _ (input : ClientInput) (lost : ClientTurn) (k : Keeps input lost) where
    -- those that are picked are answered, each for its cause
    picked_all : (a : AppAnswer) (Cause : Operation → Type 0) →
        ((out : List Output) (o : Operation) → IsKnown o × IsSentRight o → Cause o → P out → P (out ++ outputs.Answer o.op a ∷ [])) →
        (os : List Operation) → ((o : Operation) → Has o os → (IsKnown o × IsSentRight o) × Cause o) → (out : List Output) → P out →
        P (out ++ map (answer_to a) os)
    picked_all a Cause one [] h out p = subst P (sym (append-nil out)) p
    picked_all a Cause one (o ∷ os) h out p =
        subst P (append_assoc out (answer_to a o ∷ []) (map (answer_to a) os))
        (picked_all a Cause one os (λ x i. h x (inr i)) (out ++ answer_to a o ∷ []) (one out o (h o (inl refl)).0 (h o (inl refl)).1 p))

    each_answered : (t : Turn) (picked : Operation → Bool) (a : AppAnswer) →
        ((out : List Output) (o : Operation) → IsKnown o × IsSentRight o → picked o ≡ true → P out → P (out ++ outputs.Answer o.op a ∷ [])) → Holds t →
        Holds (cs.answer_each picked a t)
    unfolding cs.answer_each
    each_answered t picked a one h =
        record {
          kept =
              picked_all a (λ o. picked o ≡ true) one (filter picked t.operations)
              (λ o i. let z = has_filter picked t.operations o i in (h.operations o z.0, z.1)) t.out h.kept;
          operations = λ o i. h.operations o (has_filter (λ o. not (picked o)) t.operations o i).0;
          session = h.session;
        }

    stuck_right : (t : Turn) → AllRight t.operations → AllRight (map (cr.stuck t) t.operations)
    stuck_right t h o i = let z = has_map (cr.stuck t) t.operations o i in subst (λ y. IsKnown y × IsSentRight y) (sym z.2) (one z.0 (h z.0 z.1))
      where
        one : (x : Operation) → IsKnown x × IsSentRight x → IsKnown (cr.stuck t x) × IsSentRight (cr.stuck t x)
        one x r = go (cs.is_asked t.here.server x) refl
          where
            go : (b : Bool) → cs.is_asked t.here.server x ≡ b →
                IsKnown (if b then cs.at_stage stages.Stuck x else x) × IsSentRight (if b then cs.at_stage stages.Stuck x else x)
            go true e = (r.0, record { sent = λ s. r.1.sent (asked_sent t.here.server x e); unsent = λ s. cc s })
            go false e = r

    -- A message.
    module _ (m : Message) (is : input ≡ inputs.Control m) (told : (s : ServerId) → m.header.from ≡ server_node s → Epochs s m.header.epoch) where
      -- the turn at which it came
      module _ (t0 : Turn) (i : Is t0.here) (v : ClientSession) (q : Request) (r : Replied now m.header m.body t0 v q) where
        abbrev file : Option ℕ
        file = cs.file_asked v.cutting q.body

        refused : (t : Turn) (y : Why) (a b : ℕ) (u : Turn) → t.here.server ≡ t0.here.server → m.body ≡ bodies.Nack y a b → Refusal t file q.body y a b u →
            Holds t → Holds u
        refused t _ a b _ s e (trace.NoFile _ _ ino f) h =
            each_answered t (cr.works_on t ino) answers.NoFile
            (λ out o x p. k.refused out t0 v q m o why.NoFile a b answers.NoFile is i r e x.0
            (HasNoFile a b ino f (ap (λ z. cs.is_on z ino o && not (cs.is_sync o.ask)) (sym s) ∙ p))) h
        refused t _ a b _ s e (trace.TooManyLocks _ _ ino f) h =
            each_answered t (cr.works_on t ino) answers.TooManyLocks
            (λ out o x p. k.refused out t0 v q m o why.TooManyLocks a b answers.TooManyLocks is i r e x.0
            (HasTooManyLocks a b ino f (ap (λ z. cs.is_on z ino o && not (cs.is_sync o.ask)) (sym s) ∙ p))) h
        refused t _ a b _ s e (trace.NoSpace _ _ ino p f g) h =
            each_answered t (cr.writes_on t ino p) (answers.NoSpace a b)
            (λ out o x z. k.refused out t0 v q m o why.NoSpace a b (answers.NoSpace a b) is i r e x.0
            (HasNoSpace a b ino p f g (ap (λ y. cs.changes_page y ino p o.ask) (sym s) ∙ z))) h
        refused t _ a b _ s e (trace.NotHolder _ _ f) h =
            each_answered t (cs.is_asked t.here.server) answers.NotHolder
            (λ out o x p. k.refused out t0 v q m o why.NotHolder a b answers.NotHolder is i r e x.0
            (IsNoHolder a b f (ap (λ z. cs.is_asked z o) (sym s) ∙ p))) h
        refused t y a b _ s e (trace.AnswersNone _ _ _) h = h

        plain_answers : (t : Turn) (a : AppAnswer) → IsPlain a → Holds t → Holds (cs.answer_each (cs.is_asked t.here.server) a t)
        plain_answers t a n h = each_answered t (cs.is_asked t.here.server) a (λ out o x p. k.plain out o.op a n) h

        plain_name : (y : NameReply) → IsPlain (cr.name_answer y)
        plain_name (replies.Ino ino) = tt
        plain_name (replies.Listed rows) = tt
        plain_name (replies.Refused code) = tt

        -- another session of the same epoch
        same_epoch : (t : Turn) (s w : ClientSession) → t.here.session ≡ Some s → w.epoch ≡ s.epoch → Holds t → Holds (with_session w t)
        same_epoch t s w at e h =
            record {
              kept = h.kept;
              operations = h.operations;
              session = subst (λ (n : Epoch). Epochs t.here.server n.0) (sym e) (subst (SessionIn Epochs t.here.server) at h.session);
            }

        has_effect : (t : Turn) (s : ClientSession) (b : Body) (u : Turn) → t.here.server ≡ t0.here.server → t.here.session ≡ Some s → m.body ≡ b →
            Effect now t s file q.body b u → Holds t → Holds u
        unfolding cs.answer_each
        has_effect t s _ _ z at e (trace.IsGranted ino g mode x y) h = same_epoch t s x at (granted (cs.forget_wait ino s) ino g mode x y) h
        has_effect t s _ _ z at e (trace.IsQueued ino mode y) h = same_epoch t s _ at refl h
        has_effect t s _ _ z at e (trace.HoldsAlready ino mode y) h = same_epoch t s s at refl h
        has_effect t s _ _ z at e (trace.IsToldExtents ino rows y) h = record { kept = h.kept; operations = h.operations; session = h.session }
        has_effect t s _ _ z at e (trace.IsToldLate ino rows y) h = h
        has_effect t s _ _ z at e trace.IsAcknowledged h = plain_answers t answers.Cut tt h
        has_effect t s _ _ z at e (trace.IsNamed y d) h = plain_answers t (cr.name_answer y) (plain_name y) h
        has_effect t s _ _ z at e (trace.IsRemoved ino removed l f y) h =
            let g = plain_answers t (answers.Named ino) tt h in
            record { kept = g.kept; operations = g.operations; session = subst (SessionIn Epochs t.here.server) at h.session }
        has_effect t s _ _ z at e trace.IsReasserted h = same_epoch t s _ at refl h
        has_effect t s _ _ z at e (trace.Effect.IsRefused y a b u f) h =
            let g = refused t y a b u z e f h in
            record { kept = g.kept; operations = stuck_right u g.operations; session = g.session }

      renewed : (t : Turn) (s : ClientSession) (stamp : Stamp) (u : Turn) → Renews t s stamp u → Holds t → Holds u × (u.here ≡ t.here)
      renewed t s stamp _ (trace.IsLater e) h = (record { kept = k.silent t.out _ tt h.kept; operations = h.operations; session = h.session }, refl)
      renewed t s stamp _ (trace.IsNoLater e) h = (h, refl)

      abbrev header : Header
      header = m.header

      session_of : (t : Turn) (s : ClientSession) → t.here.session ≡ Some s → Holds t → Epochs t.here.server s.epoch.0
      session_of t s e h = subst (SessionIn Epochs t.here.server) e h.session

      with_other : (t : Turn) (w : ClientSession) → Epochs t.here.server w.epoch.0 → Holds t → Holds (with_session w t)
      with_other t w e h = record { kept = h.kept; operations = h.operations; session = e }

      heard : (t : Turn) (b : Body) (u : Turn) → m.body ≡ b → Is t.here → Receives now header t b u → Holds t → Holds u
      unfolding cs.send
      heard t _ _ e i (trace.PassesOver b) h = h
      heard t _ _ e i (trace.Begins r o j) h =
          record { kept = k.silent t.out _ tt h.kept; operations = h.operations; session = told t.here.server r.from }
      heard t _ _ e i (trace.FollowsEpoch s a b n o) h =
          let less : s.epoch.0 < header.epoch = ltb-true s.epoch.0 header.epoch (and_true _ (not s.lease.condemned) o).0 in
          let new : Epochs t.here.server header.epoch = told t.here.server n.received.from in
          each_answered (with_session (cr.in_epoch (trace.epoch_of header) s) t) (cs.is_asked t.here.server) (answers.Uncertain s.epoch.0 header.epoch)
          (λ out x r p. k.newer out t.here.server x s.epoch.0 header.epoch r.0 (and_true (cs.is_of t.here.server x) (cs.is_asked_at x.stage) p).0
          (r.1.sent (asked_sent t.here.server x p)) (session_of t s n.session h) new less)
          (with_other t (cr.in_epoch (trace.epoch_of header) s) new h)
      heard t _ _ e i (trace.IsCondemned b s n c) h = with_other t _ (session_of t s n.session h) h
      heard t _ _ e i (trace.IsGrantedLater ino g mode s w n o x) h =
          with_other t w
          (subst (λ (z : Epoch). Epochs t.here.server z.0) (sym (granted (cs.forget_wait ino s) ino g mode w x)) (session_of t s n.session h)) h
      heard t _ _ e i (trace.SeesDemand ino g to s n o) h =
          record { kept = k.silent t.out _ tt h.kept; operations = h.operations; session = session_of t s n.session h }
      heard t _ _ e i (trace.GivesUp ino g to s n o x) h = with_other t _ (session_of t s n.session h) h
      heard t _ _ e i (trace.HasGivenUp ino g to s n o x) h = with_other t _ (session_of t s n.session h) h
      heard t _ u e i (trace.IsAnswered b s q x _ r n f) h =
          let y = renewed t s (trace.stamp_of header) x n h in
          let same : x.here.server ≡ t.here.server = ap (λ (a : Association). a.server) y.1 in
          let z : Holds (with_session (cr.ended_by (trace.stamp_of header) s) x) =
          with_other x (cr.ended_by (trace.stamp_of header) s) (subst (λ v. Epochs v s.epoch.0) (sym same) (session_of t s r.heard.session h)) y.0 in
          has_effect t i s q (subst (λ d. Replied now header d t s q) (sym e) r) (with_session (cr.ended_by (trace.stamp_of header) s) x)
          (cr.ended_by (trace.stamp_of header) s) b u same refl e f z

      received : (t : Turn) → Is t.here → Holds t → Holds (cr.receive_at now header m.body t)
      received t i h = heard t m.body (cr.receive_at now header m.body t) refl i (receives now header t m.body) h

    -- An ask.
    taken : (op : ℕ) (ask : Ask) → input ≡ inputs.App op ask → Known op ask → (t : Turn) → Holds t → Holds (only_at (server_of ask) (cl.take_ask op ask) t)
    taken op ask is e t h = at_server Holds (server_of ask) (cl.take_ask op ask) t (λ i. go (cl.take_ask op ask t) (takes op ask t)) (λ i. h)
      where
        waits : Holds (cs.keep (cs.new_operation op ask) t)
        waits =
            record {
              kept = h.kept;
              operations = one_more t.operations (cs.new_operation op ask) (e, record { sent = λ s. cc s; unsent = λ s. k.comes op ask is }) h.operations;
              session = h.session;
            }

        go : (u : Turn) → Takes op ask t u → Holds u
        go _ (ends.TellsLost f q l) = record { kept = k.plain t.out op _ tt h.kept; operations = h.operations; session = h.session }
        go _ (ends.WaitsForSync f q l) = waits
        go _ (ends.Waits n) = waits

    -- The end of a command.
    finished : (number : ℕ) (r : Option (Option (Tag × List ℕ))) → input ≡ inputs.Done number r → (t : Turn) → Is t.here → Holds t →
        Holds (cl.finish number r t)
    finished number r is t i h = go (cl.finish number r t) (finishes number r t)
      where
        now_failed : r ≡ None → input ≡ inputs.Done number None
        now_failed e = is ∙ ap (inputs.Done number) e

        same : (u : Turn) → u.out ≡ t.out → u.operations ≡ t.operations → u.here.server ≡ t.here.server → u.here.session ≡ t.here.session → Holds u
        same u a b c d =
            record {
              kept = subst P (sym a) h.kept;
              operations = subst AllRight (sym b) h.operations;
              session = subst (λ v. SessionIn Epochs v u.here.session) (sym c) (subst (SessionIn Epochs t.here.server) (sym d) h.session);
            }

        go : (u : Turn) → Finishes number r t u → Holds u
        go _ (ends.IsUnknown e) = h
        go _ (ends.IsOfOtherKind x block o e f) = h
        go _ (ends.Fills x block o f e) = same _ refl refl refl refl
        go _ (ends.Hardens x v o f e j) = same _ refl refl refl refl
        go _ (ends.WroteOlder x v o f e j) = same _ refl refl refl refl
        go _ (ends.FailsToRead x o f e) =
            each_answered (ends.without x t) (cl.waits_for_read t x) (answers.DiskFault x.number)
            (λ out y z p. k.failed out t number x y (now_failed e) i o z.0 (Reads f p)) (same (ends.without x t) refl refl refl refl)
        go _ (ends.FailsToWrite x v o f e j) =
            each_answered (ends.with_pages (pages.fail t.here.store.pages x.ino x.page x.number) (ends.without x t)) (cl.waits_for_write t x)
            (answers.DiskFault x.number)
            (λ out y z p. k.failed out t number x y (now_failed e) i o z.0 (Syncs v f p))
            (same (ends.with_pages (pages.fail t.here.store.pages x.ino x.page x.number) (ends.without x t)) refl refl refl refl)
        go _ (ends.FailsToWriteOlder x v o f e j) =
            each_answered (ends.without x t) (cl.waits_for_write t x) (answers.DiskFault x.number)
            (λ out y z p. k.failed out t number x y (now_failed e) i o z.0 (Syncs v f p)) (same (ends.without x t) refl refl refl refl)

    -- The passes.
    module _ (here : Association) where
      record Passing (os : List Operation) (t : Turn) : Type 0 where
        server : t.here.server ≡ here.server
        session : t.here.session ≡ here.session
        kept : P t.out
        operations : AllRight t.operations
        left : AllRight os

      abbrev later : (o : Operation) (os : List Operation) (t : Turn) → Passing (o ∷ os) t → AllRight os
      later o os t h x i = h.left x (inr i)

      answers_one : (o : Operation) (os : List Operation) (t u : Turn) → Passing (o ∷ os) t → u.here.server ≡ t.here.server → u.here.session ≡ t.here.session →
          u.operations ≡ t.operations → P u.out → Passing os u
      answers_one o os t u h a b c p =
          record {
            server = a ∙ h.server;
            session = b ∙ h.session;
            kept = p;
            operations = subst AllRight (sym c) h.operations;
            left = later o os t h;
          }

      operated : (all : List Operation) (o : Operation) (os : List Operation) (t u : Turn) → Operated now all o t u → Passing (o ∷ os) t → Passing os u
      operated all o os t _ pass.Waits h =
          record {
            server = h.server;
            session = h.session;
            kept = h.kept;
            operations = one_more t.operations o (h.left o (inl refl)) h.operations;
            left = later o os t h;
          }
      operated all o os t _ (pass.IsHard f e q d) h = answers_one o os t _ h refl refl refl (k.plain t.out o.op _ tt h.kept)
      operated all o os t _ (pass.IsQuiesced s own n there none unsent) h =
          let r = h.left o (inl refl) in answers_one o os t _ h refl refl refl (k.quiesced t.out o r.0 (r.1.unsent unsent) n h.kept)
      operated all o os t _ (pass.ChangesPage s f p bytes n v c m e) h =
          answers_one o os t _ h refl refl refl (k.plain (t.out ++ outputs.Note n ∷ []) o.op _ tt (k.silent t.out (outputs.Note n) tt h.kept))
      operated all o os t _ (pass.IsDirtyFull s f p bytes n v c m e) h = answers_one o os t _ h refl refl refl (k.plain t.out o.op _ tt h.kept)
      operated all o os t _ (pass.Fetches s f p m v n c e r) h =
          record {
            server = h.server;
            session = h.session;
            kept = k.silent t.out _ tt h.kept;
            operations = one_more t.operations o (h.left o (inl refl)) h.operations;
            left = later o os t h;
          }
      operated all o os t _ (pass.ReadsCached s f p bytes v e d q) h = answers_one o os t _ h refl refl refl (k.plain t.out o.op _ tt h.kept)
      operated all o os t _ (pass.ReadsZeros s f p e v a d q j m) h = answers_one o os t _ h refl refl refl (k.plain t.out o.op _ tt h.kept)

    reduced : (ino : ℕ) (t u : Turn) → Reduced ino t u → Holds t → Holds u
    reduced ino t _ StaysHeld h = h
    reduced ino t _ (IsReduced s g to e m q) h =
        record { kept = h.kept; operations = h.operations; session = subst (SessionIn Epochs t.here.server) e h.session }

    wrote : (tick : Bool) (x : ℕ × PageNo) (t u : Turn) → WritesOut now tick x t u → Holds t → Holds u
    wrote tick x t _ StaysDirty h = h
    wrote tick x t _ (IsWritten s d m e q i j) h =
        record { kept = k.silent t.out _ tt h.kept; operations = h.operations; session = h.session }

    greeted : (tick : Bool) (t u : Turn) → Greets now tick t u → Holds t → Holds u
    unfolding cs.send
    greeted tick t _ asking.IsSilent h = h
    greeted tick t _ (asking.SaysHello e m) h = record { kept = k.silent t.out _ tt h.kept; operations = h.operations; session = h.session }

    -- what asks itself is a cut or an ask for a name
    wants_right : (t : Turn) (s : ClientSession) (a : Ask) (w : _) → Wants t s now a w → w.own ≡ true → Cuts a
    wants_right t s a _ (asking.ForLock ino e q c d) o = cc o
    wants_right t s a _ (asking.ForPlace f p l e q c d) o = cc o
    wants_right t s a _ (asking.ToWrite f p bytes l e q c d) o = cc o
    wants_right t s a _ (asking.ToPatch f p at bytes l e q c d) o = cc o
    wants_right t s a _ (asking.ToCut f p l e q c d) o = cuts a (ap cs.is_cut_or_name e)
    wants_right t s a _ (asking.ToRemove server n ino l e f q c d) o = cuts a (ap cs.is_cut_or_name e)
    wants_right t s a _ (asking.ToName server n e f) o = cuts a (ap cs.is_cut_or_name e)

    sent_right : (o : Operation) (b : Bool) → (b ≡ true → Cuts o.ask) → IsKnown o × IsSentRight o →
        IsKnown (cp.sent_if b o) × IsSentRight (cp.sent_if b o)
    sent_right o true c r = (r.0, record { sent = λ s. c refl; unsent = λ s. cc s })
    sent_right o false c r = r

    requested : (tick : Bool) (t u : Turn) → Requests now tick t u → Holds t → Holds u
    unfolding cs.send
    requested tick t _ asking.AsksNothing h = h
    requested tick t _ (asking.AsksAgain s q e c n o) h =
        record { kept = k.silent t.out _ tt h.kept; operations = h.operations; session = subst (SessionIn Epochs t.here.server) e h.session }
    requested tick t _ (asking.Reasserts s m d) h =
        record { kept = k.silent t.out _ tt h.kept; operations = h.operations; session = subst (SessionIn Epochs t.here.server) m.session h.session }
    requested tick t _ (asking.Releases s r rs m d e) h =
        record { kept = k.silent t.out _ tt h.kept; operations = h.operations; session = subst (SessionIn Epochs t.here.server) m.session h.session }
    requested tick t _ (asking.AsksFor s xs o ys x f e first) h =
        record {
          kept = k.silent t.out _ tt h.kept;
          operations = λ y i. go y (has_append xs (cp.sent_if x.own o ∷ ys) y i);
          session = subst (SessionIn Epochs t.here.server) f.may.session h.session;
        }
      where
        old : (y : Operation) → Has y (xs ++ o ∷ ys) → IsKnown y × IsSentRight y
        old y i = h.operations y (subst (Has y) (sym first.there) i)

        go : (y : Operation) → Has y xs ⊎ Has y (cp.sent_if x.own o ∷ ys) → IsKnown y × IsSentRight y
        go y (inl i) = old y (has_left xs (o ∷ ys) y i)
        go y (inr (inl q)) =
            subst (λ (z : Operation). IsKnown z × IsSentRight z) (sym q)
            (sent_right o x.own (wants_right t s o.ask x first.wants) (old o (has_right xs (o ∷ ys) o (inl refl))))
        go y (inr (inr i)) = old y (has_right xs (o ∷ ys) y (inr i))
    requested tick t _ (asking.KeepsAlive s f e) h =
        record { kept = k.silent t.out _ tt h.kept; operations = h.operations; session = subst (SessionIn Epochs t.here.server) f.may.session h.session }

    pub passed : (tick : Bool) (t : Turn) → Holds t → Holds (cp.passes now tick t)
    passed tick t h =
        let r = passes now tick t in
        let z : Passing t.here [] r.operated =
        each_lasts (Operated now t.operations) (λ os v. Passing t.here os v) (λ o os v x y z. operated t.here t.operations o os v x y z) t.operations
        (with_operations [] t) r.operated r.operations
        (record { server = refl; session = refl; kept = h.kept; operations = λ o i. absurd i; left = h.operations }) in
        requested tick r.greeted (cp.passes now tick t) r.requests
        (greeted tick r.written r.greeted r.greeting
        (each_lasts (WritesOut now tick) (λ xs v. Holds v) (λ x xs v y o p. wrote tick x v y o p) (places_of r.reduced.here.session r.reduced.here.store.pages)
        r.reduced r.written r.writes
        (each_lasts Reduced (λ xs v. Holds v) (λ x xs v y o p. reduced x v y o p) (cp.files_demanded r.operated.here.session) r.operated r.reduced r.reductions
        (record {
          kept = z.kept;
          operations = z.operations;
          session = subst (λ v. SessionIn Epochs v r.operated.here.session) (sym z.server) (subst (SessionIn Epochs t.here.server) (sym z.session) h.session);
        }))))

    only_fine : (t : ClientTurn) → AllHold Both t → AllHold Fine t
    only_fine t h = record { kept = h.kept; operations = h.operations; each = λ a i. (h.each a i).0 }

    pub input_taken : (i : ClientInput) → input ≡ i → Tells Known Epochs i → AllHold Both lost → AllHold Fine (cl.take_input lost now i)
    unfolding cl.take_input cl.app cl.app_known cl.done cr.receive cr.receive_here
    input_taken inputs.Tick is f h = only_fine lost h
    input_taken (inputs.App op ask) is f h =
        cond_either (AllHold Fine) (cl.is_full lost.state) (cl.answered_at_once lost op answers.OpsFull) (cl.app_known lost op ask)
        (λ e. record { kept = k.full op ask is e h.kept; operations = h.operations; each = λ a i. (h.each a i).0 })
        (λ e. cond_either (AllHold Fine) (cl.is_configured lost.state (server_of ask)) (at_each (only_at (server_of ask) (cl.take_ask op ask)) lost)
        (cl.answered_at_once lost op answers.NoFile)
        (λ c. each Both Fine (only_at (server_of ask) (cl.take_ask op ask)) (λ a b. b.0) (λ t b w. let z = taken op ask is f t w in (z, z.session)) lost h)
        (λ c. record { kept = k.unknown op ask is c h.kept; operations = h.operations; each = λ a i. (h.each a i).0 }))
    input_taken (inputs.Control m) is f h =
        cond_either (AllHold Fine) (m.header.to == lost.state.id.0) (at_each (cr.receive_at now m.header m.body) lost) lost
        (λ e. each Both Fine (cr.receive_at now m.header m.body) (λ a b. b.0) (λ t b w. let z = received m is f t b.1 w in (z, z.session)) lost h)
        (λ e. only_fine lost h)
    input_taken (inputs.Done number r) is f h =
        each Both Fine (cl.finish number r) (λ a b. b.0) (λ t b w. let z = finished number r is t b.1 w in (z, z.session)) lost h

    pub after_input : (i : ClientInput) → input ≡ i → Tells Known Epochs i → AllHold Both lost → AllHold Fine (cl.work (cl.take_input lost now i) now i)
    unfolding cl.work
    after_input i is f h =
        each Fine Fine (cp.passes now (cl.is_tick i)) (λ a b. b) (λ t b w. let z = passed (cl.is_tick i) t w in (z, z.session)) _ (input_taken i is f h)

  -- The whole step.
  pub stepped : (s : ClientState) (input : ClientInput) → KeepsLosses → Keeps input (cl.losses (client_turn s []) now) →
      ((a : Association) → Is (cl.emptied a)) → ((a : Association) → Has a s.associations → SessionIn Epochs a.server a.session × Is a) →
      AllRight s.operations → P [] → Tells Known Epochs input → AllHold (λ a. SessionIn Epochs a.server a.session) (cl.client_step s now input)
  unfolding cl.client_step
  stepped s input l k gone b r p f =
      after_input input (cl.losses (client_turn s []) now) k input refl f
      (lost_all l gone s (record { kept = p; operations = r; each = b }))
