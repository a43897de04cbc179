-- A client answers a read only in its passes at a server at which it has a session, and it still has it after the step.
use Rattle.st_lemmas.proofs.Words
use Words.{◌≡◌, ◌⊎◌, ℕ, ◌==◌, Bool, true, false, List, [], ◌∷◌, ◌++◌, Option, Some, None, refl, sym, ap, ◌∙◌, subst, inl, inr, filter, map, is_some}
use Words.{AppAnswer, Ask, Body, ClientInput, Header, NameReply, Operation, Output, PageNo, ServerId, Stamp, Tag, Why}
use Words.answers
use Words.inputs
use Words.outputs
use Words.replies
use Words.Client as cl
use Words.ClientPages as pages
use Words.ClientPasses as cp
use Words.ClientReplies as cr
use Words.ClientState as cs
use Words.ClientState.{Association, ClientSession, ClientState, ClientTurn, Turn, answer_to, at_each, at_these, client_turn, enter, leave, only_at, server_of}
use Words.ClientState.{with_associations, with_operations, with_session}
use Words.Lists.{Has}
use Words.Members.{has_left, has_right}
use Words.Tables.{cond_either, has_append, has_map}
use Rattle.st_trace.specs.Client.Commands as ends
use Rattle.st_trace.specs.Client.Commands.{Finishes, Takes}
use Rattle.st_trace.specs.Client.Losses as losing
use Rattle.st_trace.specs.Client.Losses.{Ended, Loses}
use Rattle.st_trace.specs.Client.Messages as trace
use Rattle.st_trace.specs.Client.Messages.{Effect, Receives, Refusal, Renews}
use Rattle.st_trace.specs.Client.Operations as pass
use Rattle.st_trace.specs.Client.Operations.{Operated}
use Rattle.st_trace.specs.Client.Passes.{Reduced, StaysHeld, IsReduced, WritesOut, StaysDirty, IsWritten, places_of}
use Rattle.st_trace.specs.Client.Requests as asking
use Rattle.st_trace.specs.Client.Requests.{Greets, Requests}
use Rattle.st_trace.proofs.Client.Finishing.{at_server, finishes, takes}
use Rattle.st_trace.proofs.Client.Losing.{loses}
use Rattle.st_trace.proofs.Client.Receiving.{receives}
use Rattle.st_trace.proofs.Client.Walk.{each_lasts, passes}
use Rattle.st_laws_volume.proofs.ClientAnswers.{Keeps, KeepsLosses, SessionIn, Tells}
use Rattle.st_laws_volume.proofs.ClientAnswers as walk

-- No read is answered.
abbrev pub IsRead : Output → Type 0
IsRead y = (op : ℕ) × (bytes : List ℕ) × (y ≡ outputs.Answer op (answers.Read bytes))

abbrev NoRead : List Output → Type 0
NoRead out = (y : Output) → Has y out → IsRead y → ⊥

one_more : (out : List Output) (o : Output) → (IsRead o → ⊥) → NoRead out → NoRead (out ++ o ∷ [])
one_more out o f h y i = go (has_append out (o ∷ []) y i)
  where
    go : Has y out ⊎ Has y (o ∷ []) → IsRead y → ⊥
    go (inl j) = h y j
    go (inr (inl e)) = subst (λ z. IsRead z → ⊥) (sym e) f
    go (inr (inr j)) = absurd j

abbrev IsOther : AppAnswer → Type 0
IsOther a = (bytes : List ℕ) → a ≡ answers.Read bytes → ⊥

pub says_other : (op : ℕ) (a : AppAnswer) → IsOther a → IsRead (outputs.Answer op a) → ⊥
says_other op a f (n, bytes, e) = f bytes (answer_is e)
  where
    answer_is : outputs.Answer op a ≡ outputs.Answer n (answers.Read bytes) → a ≡ answers.Read bytes
    answer_is e = cc

each_other : (t : Turn) (picked : Operation → Bool) (a : AppAnswer) → IsOther a → NoRead t.out → NoRead (cs.answer_each picked a t).out
unfolding cs.answer_each
each_other t picked a f h y i = go (has_append t.out (map (answer_to a) (filter picked t.operations)) y i)
  where
    go : Has y t.out ⊎ Has y (map (answer_to a) (filter picked t.operations)) → IsRead y → ⊥
    go (inl j) = h y j
    go (inr j) = let z = has_map (answer_to a) (filter picked t.operations) y j in subst (λ w. IsRead w → ⊥) (sym z.2) (says_other z.0.op a f)

module _ (now : Stamp) where
  -- Losses.
  ended : (s : ClientSession) (o : Operation) (os : List Operation) (t u : Turn) → Ended s o t u → NoRead t.out → NoRead u.out
  ended s o os t _ (losing.IsElsewhere e) h = h
  ended s o os t _ (losing.IsUncertain e f) h = one_more t.out _ (says_other o.op _ (λ b q. cc q)) h
  ended s o os t _ (losing.IsToldLost f e q a l) h = one_more t.out _ (says_other o.op _ (λ b z. cc z)) h
  ended s o os t _ (losing.LostNothing f e q a l) h = one_more t.out _ (says_other o.op _ (λ b z. cc z)) h
  ended s o os t _ (losing.IsQuiesced e q a) h = one_more t.out _ (says_other o.op _ (λ b z. cc z)) h

  pub no_note : (n : _) → IsRead (outputs.Note n) → ⊥
  no_note n (op, bytes, e) = cc e

  pub no_send : (m : _) → IsRead (outputs.Send m) → ⊥
  no_send m (op, bytes, e) = cc e

  lost : (t : Turn) → NoRead t.out → NoRead (cl.lose now t).out
  lost t h = go (cl.lose now t) (loses now t)
    where
      go : (u : Turn) → Loses now t u → NoRead u.out
      go _ (losing.HasNoSession e) = h
      go _ (losing.Lasts s e o) = h
      go _ (losing.IsLost s u e o p) =
          each_lasts (Ended s) (λ os v. NoRead v.out) (λ o os v x y z. ended s o os v x y z) t.operations (with_operations [] (losing.loss_noted t)) u p
          (one_more t.out _ (no_note _) h)

  -- A message.
  refused : (t : Turn) (file : Option ℕ) (asked : Body) (y : Why) (a b : ℕ) (u : Turn) → Refusal t file asked y a b u → NoRead t.out → NoRead u.out
  refused t file asked _ a b _ (trace.NoFile _ _ ino e) h = each_other t _ _ (λ z q. cc q) h
  refused t file asked _ a b _ (trace.TooManyLocks _ _ ino e) h = each_other t _ _ (λ z q. cc q) h
  refused t file asked _ a b _ (trace.NoSpace _ _ ino p e q) h = each_other t _ _ (λ z q. cc q) h
  refused t file asked _ a b _ (trace.NotHolder _ _ e) h = each_other t _ _ (λ z q. cc q) h
  refused t file asked y a b _ (trace.AnswersNone _ _ _) h = h

  named_other : (y : NameReply) → IsOther (cr.name_answer y)
  named_other (replies.Ino ino) = λ b q. cc q
  named_other (replies.Listed rows) = λ b q. cc q
  named_other (replies.Refused code) = λ b q. cc q

  has_effect : (t : Turn) (s : ClientSession) (file : Option ℕ) (asked b : Body) (u : Turn) → Effect now t s file asked b u → NoRead t.out → NoRead u.out
  has_effect t s file asked _ _ (trace.IsGranted ino g mode v k) h = h
  has_effect t s file asked _ _ (trace.IsQueued ino mode e) h = h
  has_effect t s file asked _ _ (trace.HoldsAlready ino mode e) h = h
  has_effect t s file asked _ _ (trace.IsToldExtents ino rows e) h = h
  has_effect t s file asked _ _ (trace.IsToldLate ino rows e) h = h
  has_effect t s file asked _ _ trace.IsAcknowledged h = each_other t _ answers.Cut (λ b q. cc q) h
  has_effect t s file asked _ _ (trace.IsNamed r k) h = each_other t _ (cr.name_answer r) (named_other r) h
  has_effect t s file asked _ _ (trace.IsRemoved ino removed l e q) h = each_other t _ (answers.Named ino) (λ b q. cc q) h
  has_effect t s file asked _ _ trace.IsReasserted h = h
  has_effect t s file asked _ _ (trace.Effect.IsRefused y a b u r) h = refused t file asked y a b u r h

  renewed : (t : Turn) (s : ClientSession) (stamp : Stamp) (u : Turn) → Renews t s stamp u → NoRead t.out → NoRead u.out
  renewed t s stamp _ (trace.IsLater e) h = one_more t.out _ (no_note _) h
  renewed t s stamp _ (trace.IsNoLater e) h = h

  heard : (head : Header) (t : Turn) (b : Body) (u : Turn) → Receives now head t b u → NoRead t.out → NoRead u.out
  unfolding cs.send
  heard head t _ _ (trace.PassesOver b) h = h
  heard head t _ _ (trace.Begins r e i) h = one_more t.out _ (no_note _) h
  heard head t _ _ (trace.FollowsEpoch s x y m e) h =
      each_other (with_session (cr.in_epoch (trace.epoch_of head) s) t) _ _ (λ b q. cc q) h
  heard head t _ _ (trace.IsCondemned b s m c) h = h
  heard head t _ _ (trace.IsGrantedLater ino g mode s v m e k) h = h
  heard head t _ _ (trace.SeesDemand ino g to s m e) h = one_more t.out _ (no_send _) h
  heard head t _ _ (trace.GivesUp ino g to s m e k) h = h
  heard head t _ _ (trace.HasGivenUp ino g to s m e k) h = h
  heard head t _ u (trace.IsAnswered b s q v _ r x f) h =
      has_effect (with_session (cr.ended_by (trace.stamp_of head) s) v) (cr.ended_by (trace.stamp_of head) s) (cs.file_asked s.cutting q.body) q.body b u f
      (renewed t s (trace.stamp_of head) v x h)

  received : (head : Header) (b : Body) (t : Turn) → NoRead t.out → NoRead (cr.receive_at now head b t).out
  received head b t h = heard head t b (cr.receive_at now head b t) (receives now head t b) h

  -- An ask, and the end of a command.
  took : (op : ℕ) (ask : Ask) (t : Turn) → NoRead t.out → NoRead (only_at (server_of ask) (cl.take_ask op ask) t).out
  took op ask t h =
      at_server (λ u. NoRead u.out) (server_of ask) (cl.take_ask op ask) t (λ i. go (cl.take_ask op ask t) (takes op ask t)) (λ i. h)
    where
      go : (u : Turn) → Takes op ask t u → NoRead u.out
      go _ (ends.TellsLost f q l) = one_more t.out _ (says_other op _ (λ b z. cc z)) h
      go _ (ends.WaitsForSync f q l) = h
      go _ (ends.Waits n) = h

  finished : (number : ℕ) (r : Option (Option (Tag × List ℕ))) (t : Turn) → NoRead t.out → NoRead (cl.finish number r t).out
  finished number r t h = go (cl.finish number r t) (finishes number r t)
    where
      go : (u : Turn) → Finishes number r t u → NoRead u.out
      go _ (ends.IsUnknown e) = h
      go _ (ends.IsOfOtherKind x block o e f) = h
      go _ (ends.Fills x block o f e) = h
      go _ (ends.Hardens x v o f e j) = h
      go _ (ends.WroteOlder x v o f e j) = h
      go _ (ends.FailsToRead x o f e) = each_other (ends.without x t) _ _ (λ b q. cc q) h
      go _ (ends.FailsToWrite x v o f e j) =
          each_other (ends.with_pages (pages.fail t.here.store.pages x.ino x.page x.number) (ends.without x t)) _ _ (λ b q. cc q) h
      go _ (ends.FailsToWriteOlder x v o f e j) = each_other (ends.without x t) _ _ (λ b q. cc q) h

  -- At each server in turn.
  these_unread : (rule : Turn → Turn) → ((t : Turn) → NoRead t.out → NoRead (rule t).out) → (al : List Association) (t : ClientTurn) → NoRead t.out →
      NoRead (at_these rule al t).out
  unfolding at_these
  these_unread rule one [] t h = h
  these_unread rule one (a ∷ al) t h = these_unread rule one al (leave t (rule (enter t a))) (one (enter t a) h)

  each_unread : (rule : Turn → Turn) → ((t : Turn) → NoRead t.out → NoRead (rule t).out) → (t : ClientTurn) → NoRead t.out → NoRead (at_each rule t).out
  unfolding at_each
  each_unread rule one t h = these_unread rule one t.state.associations (with_associations [] t) h

  input_unread : (t : ClientTurn) (i : ClientInput) → NoRead t.out → NoRead (cl.take_input t now i).out
  unfolding cl.take_input cl.app cl.app_known cl.done cr.receive cr.receive_here
  input_unread t inputs.Tick h = h
  input_unread t (inputs.App op ask) h =
      cond_either (λ (u : ClientTurn). NoRead u.out) (cl.is_full t.state) (cl.answered_at_once t op answers.OpsFull) (cl.app_known t op ask)
      (λ e. one_more t.out _ (says_other op _ (λ b z. cc z)) h)
      (λ e. cond_either (λ (u : ClientTurn). NoRead u.out) (cl.is_configured t.state (server_of ask))
      (at_each (only_at (server_of ask) (cl.take_ask op ask)) t) (cl.answered_at_once t op answers.NoFile)
      (λ c. each_unread (only_at (server_of ask) (cl.take_ask op ask)) (λ u k. took op ask u k) t h)
      (λ c. one_more t.out _ (says_other op _ (λ b z. cc z)) h))
  input_unread t (inputs.Control m) h =
      cond_either (λ (u : ClientTurn). NoRead u.out) (m.header.to == t.state.id.0) (at_each (cr.receive_at now m.header m.body) t) t
      (λ e. each_unread (cr.receive_at now m.header m.body) (λ u k. received m.header m.body u k) t h) (λ e. h)
  input_unread t (inputs.Done number r) h = each_unread (cl.finish number r) (λ u k. finished number r u k) t h

  -- nothing is answered before the passes but for other answers
  pub taken_unread : (s : ClientState) (i : ClientInput) → NoRead (cl.take_input (cl.losses (client_turn s []) now) now i).out
  unfolding cl.losses
  taken_unread s i =
      input_unread (cl.losses (client_turn s []) now) i (each_unread (cl.lose now) (λ u h. lost u h) (client_turn s []) (λ y j. absurd j))

  -- The passes, of operations that are known.
  module _ (Known : ℕ → Ask → Type 0) where
    abbrev AllKnown : List Operation → Type 0
    AllKnown os = (o : Operation) → Has o os → Known o.op o.ask

    -- an operation of the server is answered, and there is a session
    pub record ReadHere (here : Association) (op : ℕ) : Type 0 where
      pub operation : Operation
      pub known : Known operation.op operation.ask
      pub is : operation.op ≡ op
      pub own : cs.is_of here.server operation ≡ true
      pub session : is_some here.session ≡ true

    module _ (t0 : Turn) where
      abbrev Reads : List Output → Type 0
      Reads out = (op : ℕ) (bytes : List ℕ) → Has (outputs.Answer op (answers.Read bytes)) out →
          Has (outputs.Answer op (answers.Read bytes)) t0.out ⊎ ReadHere t0.here op

      record Passing (os : List Operation) (t : Turn) : Type 0 where
        server : t.here.server ≡ t0.here.server
        session : is_some t.here.session ≡ is_some t0.here.session
        known : AllKnown t.operations
        left : AllKnown os
        reads : Reads t.out

      more : (out : List Output) (y : Output) → (IsRead y → ⊥) → Reads out → Reads (out ++ y ∷ [])
      more out y f h op bytes i = go (has_append out (y ∷ []) (outputs.Answer op (answers.Read bytes)) i)
        where
          go : Has (outputs.Answer op (answers.Read bytes)) out ⊎ Has (outputs.Answer op (answers.Read bytes)) (y ∷ []) →
              Has (outputs.Answer op (answers.Read bytes)) t0.out ⊎ ReadHere t0.here op
          go (inl j) = h op bytes j
          go (inr (inl e)) = absurd (f (op, bytes, sym e))
          go (inr (inr j)) = absurd j

      now_read : (out : List Output) (n : ℕ) (bs : List ℕ) → ReadHere t0.here n → Reads out → Reads (out ++ outputs.Answer n (answers.Read bs) ∷ [])
      now_read out n bs r h op bytes i =
          go (has_append out (outputs.Answer n (answers.Read bs) ∷ []) (outputs.Answer op (answers.Read bytes)) i)
        where
          number : outputs.Answer op (answers.Read bytes) ≡ outputs.Answer n (answers.Read bs) → n ≡ op
          number e = cc

          go : Has (outputs.Answer op (answers.Read bytes)) out ⊎ Has (outputs.Answer op (answers.Read bytes)) (outputs.Answer n (answers.Read bs) ∷ []) →
              Has (outputs.Answer op (answers.Read bytes)) t0.out ⊎ ReadHere t0.here op
          go (inl j) = h op bytes j
          go (inr (inl e)) = inr (subst (ReadHere t0.here) (number e) r)
          go (inr (inr j)) = absurd j

      kept : (o : Operation) (os : List Operation) (t : Turn) → Passing (o ∷ os) t → (p : Operation) → Has p (t.operations ++ o ∷ []) → Known p.op p.ask
      kept o os t h p i = go (has_append t.operations (o ∷ []) p i)
        where
          go : Has p t.operations ⊎ Has p (o ∷ []) → Known p.op p.ask
          go (inl j) = h.known p j
          go (inr (inl e)) = subst (λ (y : Operation). Known y.op y.ask) (sym e) (h.left o (inl refl))
          go (inr (inr j)) = absurd j

      read_here : (o : Operation) (os : List Operation) (t : Turn) (s : ClientSession) → Passing (o ∷ os) t → cs.is_of t.here.server o ≡ true →
          t.here.session ≡ Some s → ReadHere t0.here o.op
      read_here o os t s h own there =
          record {
            operation = o;
            known = h.left o (inl refl);
            is = refl;
            own = subst (λ v. cs.is_of v o ≡ true) h.server own;
            session = sym h.session ∙ ap is_some there;
          }

      no_submit : (n : _) (at : _) (what : _) → IsRead (outputs.Submit n at what) → ⊥
      no_submit n at what (op, bytes, e) = cc e

      operated : (all : List Operation) (o : Operation) (os : List Operation) (t u : Turn) → Operated now all o t u → Passing (o ∷ os) t → Passing os u
      operated all o os t _ pass.Waits h =
          record { server = h.server; session = h.session; known = kept o os t h; left = λ p i. h.left p (inr i); reads = h.reads }
      operated all o os t _ (pass.IsHard f e q d) h =
          record {
            server = h.server;
            session = h.session;
            known = h.known;
            left = λ p i. h.left p (inr i);
            reads = more t.out _ (says_other o.op _ (λ b z. cc z)) h.reads;
          }
      operated all o os t _ (pass.IsQuiesced s own n there none unsent) h =
          record {
            server = h.server;
            session = h.session;
            known = h.known;
            left = λ p i. h.left p (inr i);
            reads = more t.out _ (says_other o.op _ (λ b z. cc z)) h.reads;
          }
      operated all o os t _ (pass.ChangesPage s f p bytes n v c m e) h =
          record {
            server = h.server;
            session = h.session;
            known = h.known;
            left = λ q i. h.left q (inr i);
            reads = more (t.out ++ outputs.Note n ∷ []) _ (says_other o.op _ (λ b z. cc z)) (more t.out _ (no_note n) h.reads);
          }
      operated all o os t _ (pass.IsDirtyFull s f p bytes n v c m e) h =
          record {
            server = h.server;
            session = h.session;
            known = h.known;
            left = λ q i. h.left q (inr i);
            reads = more t.out _ (says_other o.op _ (λ b z. cc z)) h.reads;
          }
      operated all o os t _ (pass.Fetches s f p m v n c e r) h =
          record {
            server = h.server;
            session = h.session;
            known = kept o os t h;
            left = λ q i. h.left q (inr i);
            reads = more t.out _ (no_submit _ _ _) h.reads;
          }
      operated all o os t _ (pass.ReadsCached s f p bytes v e d q) h =
          record {
            server = h.server;
            session = h.session;
            known = h.known;
            left = λ q i. h.left q (inr i);
            reads = now_read t.out o.op bytes (read_here o os t s h v.own v.session) h.reads;
          }
      operated all o os t _ (pass.ReadsZeros s f p e v a d q j m) h =
          record {
            server = h.server;
            session = h.session;
            known = h.known;
            left = λ q i. h.left q (inr i);
            reads = now_read t.out o.op _ (read_here o os t s h v.own v.session) h.reads;
          }

      with_some : (s : ClientSession) (t u : Turn) → Passing [] t → t.here.session ≡ Some s → u.here.server ≡ t.here.server → is_some u.here.session ≡ true →
          AllKnown u.operations → Reads u.out → Passing [] u
      with_some s t u h e v w k r =
          record { server = v ∙ h.server; session = w ∙ (sym (ap is_some e) ∙ h.session); known = k; left = λ o i. absurd i; reads = r }

      reduced : (ino : ℕ) (t u : Turn) → Reduced ino t u → Passing [] t → Passing [] u
      reduced ino t _ StaysHeld h = h
      reduced ino t _ (IsReduced s g to e m q) h = with_some s t _ h e refl refl h.known h.reads

      wrote : (tick : Bool) (x : ℕ × PageNo) (t u : Turn) → WritesOut now tick x t u → Passing [] t → Passing [] u
      wrote tick x t _ StaysDirty h = h
      wrote tick x t _ (IsWritten s d m e q i j) h = with_some s t _ h e refl (ap is_some e) h.known (more t.out _ (no_submit _ _ _) h.reads)

      greeted : (tick : Bool) (t u : Turn) → Greets now tick t u → Passing [] t → Passing [] u
      unfolding cs.send
      greeted tick t _ asking.IsSilent h = h
      greeted tick t _ (asking.SaysHello e m) h =
          record { server = h.server; session = h.session; known = h.known; left = h.left; reads = more t.out _ (no_send _) h.reads }

      sent_known : (o : Operation) (b : Bool) → Known o.op o.ask → Known (cp.sent_if b o).op (cp.sent_if b o).ask
      sent_known o true k = k
      sent_known o false k = k

      requested : (tick : Bool) (t u : Turn) → Requests now tick t u → Passing [] t → Passing [] u
      unfolding cs.send
      requested tick t _ asking.AsksNothing h = h
      requested tick t _ (asking.AsksAgain s q e c n o) h = with_some s t _ h e refl refl h.known (more t.out _ (no_send _) h.reads)
      requested tick t _ (asking.Reasserts s m d) h = with_some s t _ h m.session refl refl h.known (more t.out _ (no_send _) h.reads)
      requested tick t _ (asking.Releases s r rs m d e) h = with_some s t _ h m.session refl refl h.known (more t.out _ (no_send _) h.reads)
      requested tick t _ (asking.AsksFor s xs o ys x f e first) h =
          with_some s t _ h f.may.session refl refl (λ y i. go y (has_append xs (cp.sent_if x.own o ∷ ys) y i)) (more t.out _ (no_send _) h.reads)
        where
          old : (y : Operation) → Has y (xs ++ o ∷ ys) → Known y.op y.ask
          old y i = h.known y (subst (Has y) (sym first.there) i)

          go : (y : Operation) → Has y xs ⊎ Has y (cp.sent_if x.own o ∷ ys) → Known y.op y.ask
          go y (inl i) = old y (has_left xs (o ∷ ys) y i)
          go y (inr (inl q)) =
              subst (λ (z : Operation). Known z.op z.ask) (sym q) (sent_known o x.own (old o (has_right xs (o ∷ ys) o (inl refl))))
          go y (inr (inr i)) = old y (has_right xs (o ∷ ys) y (inr i))
      requested tick t _ (asking.KeepsAlive s f e) h = with_some s t _ h f.may.session refl refl h.known (more t.out _ (no_send _) h.reads)

      passed : (tick : Bool) → AllKnown t0.operations → Passing [] (cp.passes now tick t0)
      passed tick k =
          let r = passes now tick t0 in
          requested tick r.greeted (cp.passes now tick t0) r.requests
          (greeted tick r.written r.greeted r.greeting
          (each_lasts (WritesOut now tick) (λ xs v. Passing [] v) (λ x xs v y o p. wrote tick x v y o p)
          (places_of r.reduced.here.session r.reduced.here.store.pages) r.reduced r.written r.writes
          (each_lasts Reduced (λ xs v. Passing [] v) (λ x xs v y o p. reduced x v y o p) (cp.files_demanded r.operated.here.session) r.operated r.reduced
          r.reductions
          (each_lasts (Operated now t0.operations) (λ os v. Passing os v) (λ o os v x y z. operated t0.operations o os v x y z) t0.operations
          (with_operations [] t0) r.operated r.operations
          (record { server = refl; session = refl; known = λ o i. absurd i; left = k; reads = λ op bytes i. inl i })))))

    -- each read is answered at one of these
    abbrev pub ReadAt : List Association → ℕ → Type 0
    ReadAt al op = (b : Association) × Has b al × ReadHere b op

    record Done (t : ClientTurn) : Type 0 where
      known : AllKnown t.state.operations
      reads : (op : ℕ) (bytes : List ℕ) → Has (outputs.Answer op (answers.Read bytes)) t.out → ReadAt t.state.associations op

    all_passed : (tick : Bool) (al : List Association) (t : ClientTurn) → Done t → Done (at_these (cp.passes now tick) al t)
    unfolding at_these
    all_passed tick [] t h = h
    all_passed tick (a ∷ al) t h =
        all_passed tick al (leave t u) (record { known = z.known; reads = λ op bytes i. go op bytes (z.reads op bytes i) })
      where
        u : Turn
        u = cp.passes now tick (enter t a)

        z : Passing (enter t a) [] u
        z = passed (enter t a) tick h.known

        go : (op : ℕ) (bytes : List ℕ) → Has (outputs.Answer op (answers.Read bytes)) t.out ⊎ ReadHere a op → ReadAt (t.state.associations ++ u.here ∷ []) op
        go op bytes (inl i) = let y = h.reads op bytes i in (y.0, has_left t.state.associations (u.here ∷ []) y.0 y.1, y.2)
        go op bytes (inr r) = (
          u.here,
          has_right t.state.associations (u.here ∷ []) u.here (inl refl),
          record {
            operation = r.operation;
            known = r.known;
            is = r.is;
            own = subst (λ v. cs.is_of v r.operation ≡ true) (sym z.server) r.own;
            session = z.session ∙ r.session;
          },
        )

    -- What is known of the operations before the passes.
    abbrev Free : ℕ → Type 0
    Free op = Unit {0}

    abbrev Cuts : Ask → Type 0
    Cuts a = Unit {0}

    abbrev Epochs : ServerId → ℕ → Type 0
    Epochs v n = Unit {0}

    abbrev There : Association → Type 0
    There a = Unit {0}

    abbrev P : List Output → Type 0
    P out = Unit {0}

    any_session : (v : ServerId) (o : Option ClientSession) → SessionIn Epochs v o
    any_session v None = tt
    any_session v (Some x) = tt

    keeps_losses : KeepsLosses Known Free Cuts (λ a e. tt) Epochs There P now
    keeps_losses =
        record {
          silent = λ out o e h. tt;
          plain = λ out op a e h. tt;
          uncertain = λ out v o e a b d f h. tt;
          quiesced = λ out o e u h. tt;
        }

    keeps : (input : ClientInput) (lost : ClientTurn) → Keeps Known Free Cuts (λ a e. tt) Epochs There P now input lost
    keeps input lost =
        record {
          comes = λ op ask i. tt;
          silent = λ out o e h. tt;
          plain = λ out op a e h. tt;
          quiesced = λ out o e u n h. tt;
          newer = λ out v o e m a b d f g l h. tt;
          full = λ op ask i f h. tt;
          unknown = λ op ask i f h. tt;
          refused = λ out t v q m o y a b answer i z r e x u h. tt;
          failed = λ out t number x o i z y k u h. tt;
        }

    -- the operations before the passes, and the outputs
    pub known_taken : (s : ClientState) (input : ClientInput) → ((o : Operation) → Has o s.operations → Known o.op o.ask) → Tells Known Epochs input →
        AllKnown (cl.take_input (cl.losses (client_turn s []) now) now input).state.operations
    unfolding cl.losses
    known_taken s input k tells = λ o j. (known.operations o j).0
      where
        first : ClientTurn
        first = cl.losses (client_turn s []) now

        known : walk.AllHold Known Free Cuts (λ a e. tt) Epochs There P now (λ a. SessionIn Epochs a.server a.session) (cl.take_input first now input)
        known =
            walk.input_taken Known Free Cuts (λ a e. tt) Epochs There P now input first (keeps input first) input refl tells
            (walk.lost_all Known Free Cuts (λ a e. tt) Epochs There P now keeps_losses (λ a. tt) s
            (record {
              kept = tt;
              operations = λ o j. (k o j, record { sent = λ e. tt; unsent = λ e. tt });
              each = λ a j. (any_session a.server a.session, tt);
            }))

    pub reads_have_sessions : (s : ClientState) (input : ClientInput) → ((o : Operation) → Has o s.operations → Known o.op o.ask) → Tells Known Epochs input →
        (op : ℕ) (bytes : List ℕ) → Has (outputs.Answer op (answers.Read bytes)) (cl.client_step s now input).out →
        ReadAt (cl.client_step s now input).state.associations op
    unfolding cl.client_step cl.work at_each
    reads_have_sessions s input k tells op bytes i =
        (all_passed (cl.is_tick input) t.state.associations (with_associations [] t)
        (record { known = known_taken s input k tells; reads = λ n bs j. absurd (taken_unread s input _ j (n, bs, refl)) })).reads op bytes i
      where
        t : ClientTurn
        t = cl.take_input (cl.losses (client_turn s []) now) now input
