-- A client's step: what it knows of extents stays of files with some fact, and it answers a read only of such a file.
use Rattle.st_lemmas.proofs.Words
use Words.{◌≡◌, ◌⊎◌, ℕ, Bool, true, false, List, [], ◌∷◌, ◌++◌, Option, Some, None, refl, sym, ap, ◌∙◌, subst, inl, inr, is_some}
use Words.{Ask, Body, ClientInput, ExtentRow, FileId, Header, Message, Operation, Output, PageNo, Request, ServerId, Stamp, Tag, Why}
use Words.answers
use Words.asks
use Words.bodies
use Words.inputs
use Words.modes
use Words.outputs
use Words.Client as cl
use Words.ClientPages as pages
use Words.ClientPasses as cp
use Words.ClientReplies as cr
use Words.ClientState as cs
use Words.ClientState.{Association, ClientSession, ClientState, ClientTurn, Turn, at_each, at_these, client_turn, enter, leave, only_at, with_associations, with_operations}
use Words.Keys.{page_no, server_node}
use Words.Lists.{Has}
use Words.Members.{has_left, has_right}
use Words.Tables.{and_true, has_append}
use Rattle.st_rules.specs.declared.client.IoKind.TheVariants as io
use Rattle.st_base.specs.declared.mode.Mode.{Mode}
use Rattle.st_trace.specs.Client.Commands as ends
use Rattle.st_trace.specs.Client.Commands.{Finishes, Takes}
use Rattle.st_trace.specs.Client.Losses as losing
use Rattle.st_trace.specs.Client.Losses.{Loses}
use Rattle.st_trace.specs.Client.Messages as trace
use Rattle.st_trace.specs.Client.Messages.{Effect, Receives, Refusal, Renews}
use Rattle.st_trace.specs.Client.Operations as pass
use Rattle.st_trace.specs.Client.Operations.{Operated}
use Rattle.st_trace.specs.Client.Passes.{Reduced, StaysHeld, IsReduced, WritesOut, StaysDirty, IsWritten, places_of}
use Rattle.st_trace.specs.Client.Requests as asking
use Rattle.st_trace.specs.Client.Requests.{Greets, Requests, Wants}
use Rattle.st_trace.proofs.Client.Finishing.{at_server, finishes, takes}
use Rattle.st_trace.proofs.Client.Losing.{loses}
use Rattle.st_trace.proofs.Client.Receiving.{receives}
use Rattle.st_trace.proofs.Client.Walk.{each_lasts, passes}
use Rattle.st_laws_steps.specs.Client.Inputs.{Each}
use Rattle.st_laws_steps.proofs.Client.Taking as taking
use Rattle.st_laws_volume.proofs.ClientAnswers.{Tells}
use Rattle.st_laws_volume.proofs.KnownPages.{IsKnown, Stored, begun_stored, cached_known, empty_stored, ended_stored, failed_stored, filled_stored, forgotten_stored, hardened_stored, known_there, learned_stored, mapped_known, used_stored, written_stored}
use Rattle.st_laws_volume.proofs.ReadSessions as reading

module _ (R : ServerId → ℕ → Type 0) (now : Stamp) where
  abbrev pub Keeps : Association → Type 0
  Keeps a = Stored (R a.server) a.store

  abbrev At : Turn → Type 0
  At t = Keeps t.here

  -- A session is lost.
  lost_keeps : (t : Turn) → At t → At (cl.lose now t)
  lost_keeps t h = go (cl.lose now t) (loses now t)
    where
      go : (u : Turn) → Loses now t u → At u
      go _ (losing.HasNoSession e) = h
      go _ (losing.Lasts s e o) = h
      go _ (losing.IsLost s u e o p) = empty_stored (R u.here.server)

  -- An ask is taken, and a command ends.
  took : (v : ServerId) (op : ℕ) (ask : Ask) (t : Turn) → At t → At (only_at v (cl.take_ask op ask) t)
  took v op ask t h = at_server At v (cl.take_ask op ask) t (λ i. go (cl.take_ask op ask t) (takes op ask t)) (λ i. h)
    where
      go : (u : Turn) → Takes op ask t u → At u
      go _ (ends.TellsLost f q l) = h
      go _ (ends.WaitsForSync f q l) = h
      go _ (ends.Waits n) = h

  finished : (number : ℕ) (r : Option (Option (Tag × List ℕ))) (t : Turn) → At t → At (cl.finish number r t)
  unfolding cs.answer_each
  finished number r t h = go (cl.finish number r t) (finishes number r t)
    where
      go : (u : Turn) → Finishes number r t u → At u
      go _ (ends.IsUnknown e) = h
      go _ (ends.IsOfOtherKind x block o e f) = h
      go _ (ends.Fills x block o f e) =
          filled_stored (R t.here.server) (record t.here.store { commands = pages.without_command x.number t.here.store.commands }) x.ino x.page
          (pages.found t.here.store.extents (cl.file_of_command t x) x.page block.0 block.1)
          (h.reads x (Words.Tables.found_at (pages.is_numbered number) t.here.store.commands x o.there).1 f)
          (ended_stored (R t.here.server) t.here.store x.number h)
      go _ (ends.Hardens x v o f e j) =
          hardened_stored (R t.here.server) (record t.here.store { commands = pages.without_command x.number t.here.store.commands }) x.ino x.page
          (ended_stored (R t.here.server) t.here.store x.number h)
      go _ (ends.WroteOlder x v o f e j) = ended_stored (R t.here.server) t.here.store x.number h
      go _ (ends.FailsToRead x o f e) = ended_stored (R t.here.server) t.here.store x.number h
      go _ (ends.FailsToWrite x v o f e j) =
          failed_stored (R t.here.server) (record t.here.store { commands = pages.without_command x.number t.here.store.commands }) x.ino x.page x.number
          (ended_stored (R t.here.server) t.here.store x.number h)
      go _ (ends.FailsToWriteOlder x v o f e j) = ended_stored (R t.here.server) t.here.store x.number h

  -- A message: what it tells of extents, to the outstanding request, under the lock under which it was asked, is of such a file.
  abbrev pub TellsFile : Header → Body → Association → Type 0
  TellsFile h b a =
      (s : ClientSession) (q : Request) (ino : ℕ) (rows : List ExtentRow) → a.session ≡ Some s → h.from ≡ server_node a.server → h.life ≡ a.life.0 →
      h.epoch ≡ s.epoch.0 → s.requests.asked ≡ Some q → q.number ≡ h.number → b ≡ bodies.Extents ino rows → cs.maps ino q.body ≡ true →
      cr.is_current s.locks q.body ≡ true → R a.server ino

  refused : (t : Turn) (file : Option ℕ) (asked : Body) (y : Why) (a b : ℕ) (u : Turn) → Refusal t file asked y a b u → At t → At u
  unfolding cs.answer_each
  refused t file asked _ a b _ (trace.NoFile _ _ ino e) h = h
  refused t file asked _ a b _ (trace.TooManyLocks _ _ ino e) h = h
  refused t file asked _ a b _ (trace.NoSpace _ _ ino p e q) h = h
  refused t file asked _ a b _ (trace.NotHolder _ _ e) h = h
  refused t file asked y a b _ (trace.AnswersNone _ _ _) h = h

  has_effect : (t : Turn) (s : ClientSession) (file : Option ℕ) (asked b : Body) (u : Turn) → Effect now t s file asked b u →
      ((ino : ℕ) (rows : List ExtentRow) → b ≡ bodies.Extents ino rows → cr.is_current s.locks asked ≡ true → R t.here.server ino) → At t → At u
  unfolding cs.answer_each
  has_effect t s file asked _ _ (trace.IsGranted ino g mode v k) told h = h
  has_effect t s file asked _ _ (trace.IsQueued ino mode e) told h = h
  has_effect t s file asked _ _ (trace.HoldsAlready ino mode e) told h = h
  has_effect t s file asked _ _ (trace.IsToldExtents ino rows e) told h = learned_stored (R t.here.server) ino rows asked t.here.store (told ino rows refl e) h
  has_effect t s file asked _ _ (trace.IsToldLate ino rows e) told h = h
  has_effect t s file asked _ _ trace.IsAcknowledged told h = h
  has_effect t s file asked _ _ (trace.IsNamed r k) told h = h
  has_effect t s file asked _ _ (trace.IsRemoved ino removed l e q) told h = h
  has_effect t s file asked _ _ trace.IsReasserted told h = h
  has_effect t s file asked _ _ (trace.Effect.IsRefused y a b u r) told h = refused t file asked y a b u r h

  heard : (head : Header) (t : Turn) (b : Body) (u : Turn) → Receives now head t b u → TellsFile head b t.here → At t → At u
  unfolding cs.answer_each cs.send
  heard head t _ _ (trace.PassesOver b) told h = h
  heard head t _ _ (trace.Begins r e i) told h = h
  heard head t _ _ (trace.FollowsEpoch s x y m e) told h = h
  heard head t _ _ (trace.IsCondemned b s m c) told h = h
  heard head t _ _ (trace.IsGrantedLater ino g mode s v m e k) told h = h
  heard head t _ _ (trace.SeesDemand ino g to s m e) told h = h
  heard head t _ _ (trace.GivesUp ino g to s m e k) told h = h
  heard head t _ _ (trace.HasGivenUp ino g to s m e k) told h = h
  heard head t _ u (trace.IsAnswered b s q v _ r x f) told h = by v x f
    where
      tells : (ino : ℕ) (rows : List ExtentRow) → b ≡ bodies.Extents ino rows → cr.is_current s.locks q.body ≡ true → R t.here.server ino
      tells ino rows e c =
          told s q ino rows r.heard.session r.heard.received.from r.heard.received.life r.heard.epoch r.asked r.number e
          (subst (λ y. cs.fits y q.body ≡ true) e r.fits) c

      by : (v : Turn) → Renews t s (trace.stamp_of head) v →
          Effect now (cs.with_session (cr.ended_by (trace.stamp_of head) s) v) (cr.ended_by (trace.stamp_of head) s) (cs.file_asked s.cutting q.body) q.body b u
          →
          At u
      by _ (trace.IsLater e) f = has_effect _ (cr.ended_by (trace.stamp_of head) s) (cs.file_asked s.cutting q.body) q.body b u f tells h
      by _ (trace.IsNoLater e) f = has_effect _ (cr.ended_by (trace.stamp_of head) s) (cs.file_asked s.cutting q.body) q.body b u f tells h

  received : (m : Message) (t : Turn) → At t → TellsFile m.header m.body t.here → At (cr.receive_at now m.header m.body t)
  received m t h told = heard m.header t m.body (cr.receive_at now m.header m.body t) (receives now m.header t m.body) told h

  -- what an input tells, after the losses of a step
  abbrev pub InputTellsFiles : List Association → ClientInput → Type 0
  InputTellsFiles al i = (m : Message) → i ≡ inputs.Control m → Each (TellsFile m.header m.body) al

  -- what holds after the losses of a step
  pub losses_keep : (s : ClientState) → Each Keeps s.associations → Each Keeps (cl.losses (client_turn s []) now).state.associations
  unfolding cl.losses
  losses_keep s kept = taking.each Keeps Keeps (cl.lose now) lost_keeps (client_turn s []) kept

  -- The passes, of operations that are known.
  module _ (Known : ℕ → Ask → Type 0) where
    abbrev AllKnown : List Operation → Type 0
    AllKnown os = (o : Operation) → Has o os → Known o.op o.ask

    -- an operation that reads a page of such a file of this server
    pub record ReadHere (server : ServerId) (op : ℕ) : Type 0 where
      pub operation : Operation
      pub known : Known operation.op operation.ask
      pub is : operation.op ≡ op
      pub own : cs.is_of server operation ≡ true
      pub file : (f : FileId) (p : PageNo) → operation.ask ≡ asks.Read f p → R server f.ino

    abbrev pub ReadSome : ℕ → Type 0
    ReadSome op = (server : ServerId) × ReadHere server op

    abbrev Reads : List Output → Type 0
    Reads out = (op : ℕ) (bytes : List ℕ) → Has (outputs.Answer op (answers.Read bytes)) out → ReadSome op

    module _ (t0 : Turn) where
      record Passing (os : List Operation) (t : Turn) : Type 0 where
        known : AllKnown t.operations
        left : AllKnown os
        stored : At t
        reads : Reads t.out

      more : (out : List Output) (y : Output) → (reading.IsRead y → ⊥) → Reads out → Reads (out ++ y ∷ [])
      more out y f h op bytes i = go (has_append out (y ∷ []) (outputs.Answer op (answers.Read bytes)) i)
        where
          go : Has (outputs.Answer op (answers.Read bytes)) out ⊎ Has (outputs.Answer op (answers.Read bytes)) (y ∷ []) → ReadSome op
          go (inl j) = h op bytes j
          go (inr (inl e)) = absurd (f (op, bytes, sym e))
          go (inr (inr j)) = absurd j

      now_read : (out : List Output) (n : ℕ) (bs : List ℕ) → ReadSome n → Reads out → Reads (out ++ outputs.Answer n (answers.Read bs) ∷ [])
      now_read out n bs r h op bytes i =
          go (has_append out (outputs.Answer n (answers.Read bs) ∷ []) (outputs.Answer op (answers.Read bytes)) i)
        where
          number : outputs.Answer op (answers.Read bytes) ≡ outputs.Answer n (answers.Read bs) → n ≡ op
          number e = cc

          go : Has (outputs.Answer op (answers.Read bytes)) out ⊎ Has (outputs.Answer op (answers.Read bytes)) (outputs.Answer n (answers.Read bs) ∷ []) →
              ReadSome op
          go (inl j) = h op bytes j
          go (inr (inl e)) = subst ReadSome (number e) r
          go (inr (inr j)) = absurd j

      kept : (o : Operation) (os : List Operation) (t : Turn) → Passing (o ∷ os) t → (p : Operation) → Has p (t.operations ++ o ∷ []) → Known p.op p.ask
      kept o os t h p i = go (has_append t.operations (o ∷ []) p i)
        where
          go : Has p t.operations ⊎ Has p (o ∷ []) → Known p.op p.ask
          go (inl j) = h.known p j
          go (inr (inl e)) = subst (λ (y : Operation). Known y.op y.ask) (sym e) (h.left o (inl refl))
          go (inr (inr j)) = absurd j

      read_here : (o : Operation) (os : List Operation) (t : Turn) → Passing (o ∷ os) t → cs.is_of t.here.server o ≡ true → (f : FileId) (p : PageNo) →
          o.ask ≡ asks.Read f p → IsKnown t.here.store.extents f.ino p → ReadSome o.op
      read_here o os t h own f p e k = (
        t.here.server,
        record {
          operation = o;
          known = h.left o (inl refl);
          is = refl;
          own = own;
          file = λ g r q. subst (λ (y : FileId). R t.here.server y.ino) (same g r (sym e ∙ q)) (subst (R t.here.server) k.file (h.stored.known k.extent k.has));
        },
      )
        where
          same : (g : FileId) (r : PageNo) → asks.Read f p ≡ asks.Read g r → f ≡ g
          same g r q = cc

      operated : (all : List Operation) (o : Operation) (os : List Operation) (t u : Turn) → Operated now all o t u → Passing (o ∷ os) t → Passing os u
      operated all o os t _ pass.Waits h = record { known = kept o os t h; left = λ q i. h.left q (inr i); stored = h.stored; reads = h.reads }
      operated all o os t _ (pass.IsHard f e q r) h =
          record { known = h.known; left = λ q i. h.left q (inr i); stored = h.stored; reads = more t.out _ (reading.says_other o.op _ (λ b z. cc z)) h.reads }
      operated all o os t _ (pass.IsQuiesced s e q r a b) h =
          record { known = h.known; left = λ q i. h.left q (inr i); stored = h.stored; reads = more t.out _ (reading.says_other o.op _ (λ b z. cc z)) h.reads }
      operated all o os t _ (pass.ChangesPage s f p bytes n v c m e) h =
          record {
            known = h.known;
            left = λ q i. h.left q (inr i);
            stored =
                written_stored (R t.here.server) t.here.store f.ino p bytes
                (mapped_known t.here.store.extents f.ino p (and_true (cp.holds s modes.X f) (pages.is_mapped t.here.store.extents f.ino p) m).1) h.stored;
            reads = more (t.out ++ outputs.Note n ∷ []) _ (reading.says_other o.op _ (λ b z. cc z)) (more t.out _ (reading.no_note now n) h.reads);
          }
      operated all o os t _ (pass.IsDirtyFull s f p bytes n v c m e) h =
          record { known = h.known; left = λ q i. h.left q (inr i); stored = h.stored; reads = more t.out _ (reading.says_other o.op _ (λ b z. cc z)) h.reads }
      operated all o os t _ (pass.Fetches s f p m v n c e r) h =
          record {
            known = kept o os t h;
            left = λ q i. h.left q (inr i);
            stored =
                begun_stored (R t.here.server) t.here.store t.next_command f.ino p io.Read
                (λ k. mapped_known t.here.store.extents f.ino p (ap is_some e)) h.stored;
            reads = more t.out _ (no_submit _ _ _) h.reads;
          }
        where
          no_submit : (n : _) (at : _) (what : _) → reading.IsRead (outputs.Submit n at what) → ⊥
          no_submit n at what (op, bytes, e) = cc e
      operated all o os t _ (pass.ReadsCached s f p bytes v e d q) h =
          record {
            known = h.known;
            left = λ q i. h.left q (inr i);
            stored = used_stored (R t.here.server) t.here.store f.ino p h.stored;
            reads =
                now_read t.out o.op bytes
                (read_here o os t h v.own f p e (cached_known (R t.here.server) t.here.store h.stored f.ino p bytes q)) h.reads;
          }
      operated all o os t _ (pass.ReadsZeros s f p e v a d q j m) h =
          record {
            known = h.known;
            left = λ q i. h.left q (inr i);
            stored = h.stored;
            reads = now_read t.out o.op _ (read_here o os t h v.own f p a (known_there t.here.store.extents f.ino p e j)) h.reads;
          }

      with_store_of : (t u : Turn) → Passing [] t → AllKnown u.operations → At u → Reads u.out → Passing [] u
      with_store_of t u h k s r = record { known = k; left = λ o i. absurd i; stored = s; reads = r }

      reduced : (ino : ℕ) (t u : Turn) → Reduced ino t u → Passing [] t → Passing [] u
      reduced ino t _ StaysHeld h = h
      reduced ino t _ (IsReduced s g to e m q) h = with_store_of t _ h h.known (given to) h.reads
        where
          idle : pages.is_idle t.here.store ino ≡ true
          idle = (and_true (pages.is_idle t.here.store ino) _ m).0

          given : (to : Mode) → Stored (R t.here.server) (cp.forgotten_at ino to t.here.store)
          given modes.None = forgotten_stored (R t.here.server) t.here.store ino (page_no 0) idle h.stored
          given modes.S = h.stored
          given modes.X = h.stored

      submits : (n : _) (at : _) (what : _) → reading.IsRead (outputs.Submit n at what) → ⊥
      submits n at what (op, bytes, e) = cc e

      not_read : (v : ℕ) → io.Write v ≡ io.Read → ⊥
      not_read v e = cc e

      wrote : (tick : Bool) (x : ℕ × PageNo) (t u : Turn) → WritesOut now tick x t u → Passing [] t → Passing [] u
      wrote tick x t _ StaysDirty h = h
      wrote tick x t _ (IsWritten s d m e q i j) h =
          with_store_of t _ h h.known
          (begun_stored (R t.here.server) t.here.store t.next_command d.ino d.page (io.Write d.version) (λ k. absurd (not_read d.version k)) h.stored)
          (more t.out _ (submits _ _ _) h.reads)

      greeted : (tick : Bool) (t u : Turn) → Greets now tick t u → Passing [] t → Passing [] u
      unfolding cs.send
      greeted tick t _ asking.IsSilent h = h
      greeted tick t _ (asking.SaysHello e m) h = with_store_of t _ h h.known h.stored (more t.out _ (reading.no_send now _) h.reads)

      sent_known : (o : Operation) (b : Bool) → Known o.op o.ask → Known (cp.sent_if b o).op (cp.sent_if b o).ask
      sent_known o true k = k
      sent_known o false k = k

      cut_stored : (t : Turn) (s : ClientSession) (ask : Ask) (w : cp.Wanted) → Wants t s now ask w → At t →
          Stored (R t.here.server) (cp.cut_store w.cut t.here.store)
      cut_stored t s ask _ (asking.ForLock ino e n c a) h = h
      cut_stored t s ask _ (asking.ForPlace f p l e q c a) h = h
      cut_stored t s ask _ (asking.ToWrite f p bytes l e q c m) h = h
      cut_stored t s ask _ (asking.ToPatch f p at bytes l e q c m) h = h
      cut_stored t s ask _ (asking.ToCut f p l e q c i) h = forgotten_stored (R t.here.server) t.here.store f.ino p i h
      cut_stored t s ask _ (asking.ToRemove server n ino l e f q c i) h = forgotten_stored (R t.here.server) t.here.store ino (page_no 0) i h
      cut_stored t s ask _ (asking.ToName server n e f) h = h

      requested : (tick : Bool) (t u : Turn) → Requests now tick t u → Passing [] t → Passing [] u
      unfolding cs.send
      requested tick t _ asking.AsksNothing h = h
      requested tick t _ (asking.AsksAgain s q e c n o) h = with_store_of t _ h h.known h.stored (more t.out _ (reading.no_send now _) h.reads)
      requested tick t _ (asking.Reasserts s m d) h = with_store_of t _ h h.known h.stored (more t.out _ (reading.no_send now _) h.reads)
      requested tick t _ (asking.Releases s r rs m d e) h = with_store_of t _ h h.known h.stored (more t.out _ (reading.no_send now _) h.reads)
      requested tick t _ (asking.AsksFor s xs o ys x f e first) h =
          with_store_of t _ h (λ y i. go y (has_append xs (cp.sent_if x.own o ∷ ys) y i)) (cut_stored t s o.ask x first.wants h.stored)
          (more t.out _ (reading.no_send now _) h.reads)
        where
          old : (y : Operation) → Has y (xs ++ o ∷ ys) → Known y.op y.ask
          old y i = h.known y (subst (Has y) (sym first.there) i)

          go : (y : Operation) → Has y xs ⊎ Has y (cp.sent_if x.own o ∷ ys) → Known y.op y.ask
          go y (inl i) = old y (has_left xs (o ∷ ys) y i)
          go y (inr (inl q)) =
              subst (λ (z : Operation). Known z.op z.ask) (sym q) (sent_known o x.own (old o (has_right xs (o ∷ ys) o (inl refl))))
          go y (inr (inr i)) = old y (has_right xs (o ∷ ys) y (inr i))
      requested tick t _ (asking.KeepsAlive s f e) h = with_store_of t _ h h.known h.stored (more t.out _ (reading.no_send now _) h.reads)

      passed : (tick : Bool) → AllKnown t0.operations → At t0 → Reads t0.out → Passing [] (cp.passes now tick t0)
      passed tick k s out =
          let r = passes now tick t0 in
          requested tick r.greeted (cp.passes now tick t0) r.requests
          (greeted tick r.written r.greeted r.greeting
          (each_lasts (WritesOut now tick) (λ xs v. Passing [] v) (λ x xs v y o p. wrote tick x v y o p)
          (places_of r.reduced.here.session r.reduced.here.store.pages) r.reduced r.written r.writes
          (each_lasts Reduced (λ xs v. Passing [] v) (λ x xs v y o p. reduced x v y o p) (cp.files_demanded r.operated.here.session) r.operated r.reduced
          r.reductions
          (each_lasts (Operated now t0.operations) (λ os v. Passing os v) (λ o os v x y z. operated t0.operations o os v x y z) t0.operations
          (with_operations [] t0) r.operated r.operations
          (record { known = λ o i. absurd i; left = k; stored = s; reads = out })))))

    -- What holds of a step so far.
    pub record Done (t : ClientTurn) : Type 0 where
      pub known : AllKnown t.state.operations
      pub stored : Each Keeps t.state.associations
      pub reads : Reads t.out

    all_passed : (tick : Bool) (al : List Association) (t : ClientTurn) → Each Keeps al → Done t → Done (at_these (cp.passes now tick) al t)
    unfolding at_these
    all_passed tick [] t g h = h
    all_passed tick (a ∷ al) t g h =
        all_passed tick al (leave t u) (λ b i. g b (inr i))
        (record { known = z.known; stored = λ b i. one b (has_append t.state.associations (u.here ∷ []) b i); reads = z.reads })
      where
        u : Turn
        u = cp.passes now tick (enter t a)

        z : Passing (enter t a) [] u
        z = passed (enter t a) tick h.known (g a (inl refl)) h.reads

        one : (b : Association) → Has b t.state.associations ⊎ Has b (u.here ∷ []) → Keeps b
        one b (inl i) = h.stored b i
        one b (inr (inl e)) = subst Keeps (sym e) z.stored
        one b (inr (inr i)) = absurd i

    -- A whole step, from what holds after its losses.
    pub step_done : (s : ClientState) (input : ClientInput) → ((o : Operation) → Has o s.operations → Known o.op o.ask) →
        Tells Known (λ v n. Unit {0}) input → Each Keeps (cl.losses (client_turn s []) now).state.associations →
        InputTellsFiles (cl.losses (client_turn s []) now).state.associations input → Done (cl.client_step s now input)
    unfolding cl.client_step cl.work at_each
    step_done s input k tells kept told =
        all_passed (cl.is_tick input) t.state.associations (with_associations [] t) stored
        (record {
          known = reading.known_taken now Known s input k tells;
          stored = λ a i. absurd i;
          reads = λ op bytes i. absurd (reading.taken_unread now s input (outputs.Answer op (answers.Read bytes)) i (op, bytes, refl));
        })
      where
        first : ClientTurn
        first = cl.losses (client_turn s []) now

        t : ClientTurn
        t = cl.take_input first now input

        stored : Each Keeps t.state.associations
        stored =
            taking.each_taken Keeps (λ m a. TellsFile m.header m.body a) now took received finished first t input (taking.taken first now input)
            (λ m e q. told m e) kept
