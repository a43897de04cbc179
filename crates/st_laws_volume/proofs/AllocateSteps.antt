-- A step of a client: an outstanding request for a block was outstanding before it, or the client
-- has just sent it, for an operation and under an exclusive lock.
use Rattle.st_lemmas.proofs.Words
use Words.{◌≡◌, ◌⊎◌, ℕ, ◌+◌, ◌<◌, Bool, true, false, List, [], ◌∷◌, ◌++◌, Option, Some, None, refl, sym, ap, ◌∙◌, subst, inl, inr, if◌then◌else◌}
use Words.{append-nil, append_assoc, eqb-true, leb-false, nat_le, Ask, Body, ClientInput, Config, FileId, GrantNo, Header, HeldLock, Mode, Operation, PageNo, Request, ServerId, Stamp}
use Words.bodies
use Words.inputs
use Words.modes
use Words.phases
use Words.Client as cl
use Words.ClientLease as lease
use Words.ClientLocks as locks
use Words.ClientPasses as cp
use Words.ClientReplies as cr
use Words.ClientState as cs
use Words.ClientState.{Association, ClientSession, ClientState, ClientTurn, Turn, at_each, at_these, client_turn, enter, leave, only_at, server_of, with_associations}
use Words.Keys.{same_server}
use Words.Leases as leases
use Words.Lists.{Has}
use Words.Members.{has_left, has_middle, has_right}
use Words.Tables.{and_true, has_append}
use Rattle.st_base.specs.Mode.{covers}
use Rattle.st_trace.specs.Client.Commands.{Takes}
use Rattle.st_trace.specs.Client.Commands as ends
use Rattle.st_trace.specs.Client.Messages as trace
use Rattle.st_trace.specs.Client.Messages.{Effect, Grants, Receives, Refusal}
use Rattle.st_trace.specs.Client.Operations as pass
use Rattle.st_trace.specs.Client.Operations.{Operated}
use Rattle.st_trace.specs.Client.Passes.{IsReduced, IsWritten, Passed, Reduced, StaysDirty, StaysHeld, WritesOut, places_of}
use Rattle.st_trace.specs.Client.Requests as asking
use Rattle.st_trace.specs.Client.Requests.{Greets, Requests, Wants}
use Rattle.st_trace.proofs.Client.Finishing.{at_server, takes}
use Rattle.st_trace.proofs.Client.Receiving.{receives}
use Rattle.st_trace.proofs.Client.Walk.{each_lasts, passes}
use Rattle.st_laws_steps.specs.Client.Inputs as taken_
use Rattle.st_laws_steps.specs.Client.Inputs.{Each, Taken}
use Rattle.st_laws_steps.proofs.Client.Sessions as sessions
use Rattle.st_laws_steps.proofs.Client.Taking.{taken}
use Rattle.st_laws_volume.proofs.RemoveGrants.{KeptIn, finished, lost, received as heard}
use Rattle.st_volume.specs.Pages.{place_of}

-- A request for a block
abbrev pub is_allocation : Body → Bool
is_allocation (bodies.Allocate ino g p count) = true
is_allocation b = false

-- A fact of what was outstanding, by the server, the life, the epoch and the number.
abbrev pub Before : Type 1
Before = ServerId → ℕ → ℕ → ℕ → Body → Type 0

abbrev pub AskedWas : (ℕ → Body → Type 0) → Option Request → Type 0
AskedWas W None = Unit {0}
AskedWas W (Some q) = is_allocation q.body ≡ true → W q.number q.body

abbrev pub WasIn : Before → ServerId → ℕ → Option ClientSession → Type 0
WasIn W server life None = Unit {0}
WasIn W server life (Some s) = AskedWas (W server life s.epoch.0) s.requests.asked

abbrev pub Was : Before → Association → Type 0
Was W a = WasIn W a.server a.life.0 a.session

-- The client has just sent it, for a page of an ask that is known, under an exclusive lock and a
-- lease that lasts.
pub record JustAsked (C : Ask → Type 0) (now : Stamp) (k : Config) (server : ServerId)
    (s : ClientSession) (b : Body) : Type 0 where
  pub ask : Ask
  pub known : C ask
  pub file : FileId
  pub page : PageNo
  pub place : place_of ask ≡ Some (file, page)
  pub of : file.server ≡ server
  pub g : GrantNo
  pub is : b ≡ bodies.Allocate file.ino g page 1
  pub lock : HeldLock
  pub held : locks.lock_of s.locks file.ino ≡ Some lock
  pub exclusive : covers lock.mode modes.X ≡ true
  pub lasts : now.0 < s.lease.date.0 + k.lease

abbrev pub AskedRight : (ℕ → Body → Type 0) → (Body → Type 0) → Option Request → Type 0
AskedRight W J None = Unit {0}
AskedRight W J (Some q) = is_allocation q.body ≡ true → W q.number q.body ⊎ J q.body

abbrev pub RightIn : Before → (Ask → Type 0) → Stamp → Config → ServerId → ℕ →
    Option ClientSession → Type 0
RightIn W C now k server life None = Unit {0}
RightIn W C now k server life (Some s) =
    AskedRight (W server life s.epoch.0) (JustAsked C now k server s) s.requests.asked

abbrev pub Right : Before → (Ask → Type 0) → Stamp → Config → Association → Type 0
Right W C now k a = RightIn W C now k a.server a.life.0 a.session

-- what is known of the asks of operations
abbrev pub AllKnown : (Ask → Type 0) → List Operation → Type 0
AllKnown C os = (o : Operation) → Has o os → C o.ask

known_kept : (C : Ask → Type 0) (os ps : List Operation) → KeptIn os ps → AllKnown C os →
    AllKnown C ps
known_kept C os ps k h p i = let f = k.from p i in subst C f.ask (h f.o f.there)

-- a lease that serves lasts
pub serving_lasts : (k : Config) (l : lease.ClientLease) (now : Stamp) →
    lease.may_use (lease.standing_of k l now) ≡ true → now.0 < l.date.0 + k.lease
unfolding leases.phase leases.phase_living leases.phase_serving leases.phase_young
serving_lasts k l now e = go (nat_le (l.date.0 + k.lease) now.0) refl e
  where
    go : (b : Bool) → nat_le (l.date.0 + k.lease) now.0 ≡ b →
        lease.may_use
        (lease.standing_by
        (if b then phases.Expired else leases.phase_living k l.date l.condemned now)) ≡ true →
        now.0 < l.date.0 + k.lease
    go true q z = cc z
    go false q z = leb-false (l.date.0 + k.lease) now.0 q

module _ (W : Before) where
  -- A message asks nothing.
  after_grant : (server : ServerId) (life : ℕ) (s : ClientSession) (ino : ℕ) (g : GrantNo)
      (mode : Mode) (v : ClientSession) → Grants s ino g mode v →
      WasIn W server life (Some s) → WasIn W server life (Some v)
  after_grant server life s ino g mode _ (trace.Installs x y) h = h
  after_grant server life s ino g mode _ (trace.Declines x y) h = h
  after_grant server life s ino g mode _ (trace.IsOld x) h = h

  after_refusal : (t : Turn) (file : Option ℕ) (asked : Body) (w : _) (a b : ℕ) (u : Turn) →
      Refusal t file asked w a b u → Was W t.here → Was W u.here
  unfolding cs.answer_each
  after_refusal t file asked _ a b _ (trace.NoFile _ _ ino f) h = h
  after_refusal t file asked _ a b _ (trace.TooManyLocks _ _ ino f) h = h
  after_refusal t file asked _ a b _ (trace.NoSpace _ _ ino p f g) h = h
  after_refusal t file asked _ a b _ (trace.NotHolder _ _ f) h = h
  after_refusal t file asked w a b _ (trace.AnswersNone _ _ _) h = h

  after_effect : (now : Stamp) (t : Turn) (s : ClientSession) (file : Option ℕ) (asked b : Body)
      (u : Turn) →
      WasIn W t.here.server t.here.life.0 (Some s) → Was W t.here → Effect now t s file asked b u →
      Was W u.here
  unfolding cs.answer_each
  after_effect now t s file asked _ _ o h (trace.IsGranted ino g mode v x) =
      after_grant t.here.server t.here.life.0 (cs.forget_wait ino s) ino g mode v x o
  after_effect now t s file asked _ _ o h (trace.IsQueued ino mode y) = o
  after_effect now t s file asked _ _ o h (trace.HoldsAlready ino mode y) = o
  after_effect now t s file asked _ _ o h (trace.IsToldExtents ino rows y) = h
  after_effect now t s file asked _ _ o h (trace.IsToldLate ino rows y) = h
  after_effect now t s file asked _ _ o h trace.IsAcknowledged = h
  after_effect now t s file asked _ _ o h (trace.IsNamed r d) = h
  after_effect now t s file asked _ _ o h (trace.IsRemoved ino removed l f y) = o
  after_effect now t s file asked _ _ o h trace.IsReasserted = o
  after_effect now t s file asked _ _ o h (trace.Effect.IsRefused w a b u f) =
      after_refusal t file asked w a b u f h

  received : (now : Stamp) (h : Header) (b : Body) (t : Turn) → Was W t.here →
      Was W (cr.receive_at now h b t).here
  unfolding cs.send cs.answer_each
  received now m b t o = go b (cr.receive_at now m b t) (receives now m t b)
    where
      session : (s : ClientSession) → t.here.session ≡ Some s →
          WasIn W t.here.server t.here.life.0 (Some s)
      session s e = subst (WasIn W t.here.server t.here.life.0) e o

      go : (b : Body) (u : Turn) → Receives now m t b u → Was W u.here
      go _ _ (trace.PassesOver b) = o
      go _ _ (trace.Begins r e j) = tt
      go _ _ (trace.FollowsEpoch s a b n f) = tt
      go _ _ (trace.IsCondemned b s n f) = session s n.session
      go _ _ (trace.IsGrantedLater ino g mode s v n e x) =
          after_grant t.here.server t.here.life.0 (cs.forget_wait ino s) ino g mode v x
          (session s n.session)
      go _ _ (trace.SeesDemand ino g to s n e) = session s n.session
      go _ _ (trace.GivesUp ino g to s n e f) = session s n.session
      go _ _ (trace.HasGivenUp ino g to s n e f) = session s n.session
      go _ _ (trace.IsAnswered b s q v u r n f) =
          after_effect now (cs.with_session (cr.ended_by (trace.stamp_of m) s) v)
          (cr.ended_by (trace.stamp_of m) s) (cs.file_asked s.cutting q.body) q.body
          b u tt tt f

  module _ (C : Ask → Type 0) (k : Config) where
    -- The passes before the requests.
    record Stands (t : Turn) (os : List Operation) : Type 0 where
      config : t.config ≡ k
      known : AllKnown C (t.operations ++ os)
      was : Was W t.here

    kept_on : (o : Operation) (os : List Operation) (t : Turn) →
        AllKnown C (t.operations ++ o ∷ os) → AllKnown C ((t.operations ++ o ∷ []) ++ os)
    kept_on o os t h = subst (AllKnown C) (sym (append_assoc t.operations (o ∷ []) os)) h

    gone_on : (o : Operation) (os : List Operation) (t : Turn) →
        AllKnown C (t.operations ++ o ∷ os) → AllKnown C (t.operations ++ os)
    gone_on o os t h p i = h p (has_middle o p t.operations os i)

    after_pass : (now : Stamp) (all : List Operation) (o : Operation) (os : List Operation)
        (t u : Turn) → Operated now all o t u → Stands t (o ∷ os) → Stands u os
    after_pass now all o os t _ pass.Waits h =
        record { config = h.config; known = kept_on o os t h.known; was = h.was }
    after_pass now all o os t _ (pass.IsHard f e q d) h =
        record { config = h.config; known = gone_on o os t h.known; was = h.was }
    after_pass now all o os t _ (pass.IsQuiesced s own n there none unsent) h =
        record { config = h.config; known = gone_on o os t h.known; was = h.was }
    after_pass now all o os t _ (pass.ChangesPage s f p bytes n v c m e) h =
        record { config = h.config; known = gone_on o os t h.known; was = h.was }
    after_pass now all o os t _ (pass.IsDirtyFull s f p bytes n v c m e) h =
        record { config = h.config; known = gone_on o os t h.known; was = h.was }
    after_pass now all o os t _ (pass.Fetches s f p m v n c e r) h =
        record { config = h.config; known = kept_on o os t h.known; was = h.was }
    after_pass now all o os t _ (pass.ReadsCached s f p bytes v e d q) h =
        record { config = h.config; known = gone_on o os t h.known; was = h.was }
    after_pass now all o os t _ (pass.ReadsZeros s f p e v a d q j m) h =
        record { config = h.config; known = gone_on o os t h.known; was = h.was }

    after_reduction : (ino : ℕ) (t u : Turn) → Reduced ino t u → Stands t [] → Stands u []
    after_reduction ino t _ StaysHeld h = h
    after_reduction ino t _ (IsReduced s g to e m q) h =
        record {
          config = h.config;
          known = h.known;
          was =
              subst (WasIn W t.here.server t.here.life.0) e h.was;
        }

    after_write : (now : Stamp) (tick : Bool) (x : ℕ × PageNo) (t u : Turn) →
        WritesOut now tick x t u → Stands t [] → Stands u []
    after_write now tick x t _ StaysDirty h = h
    after_write now tick x t _ (IsWritten s d m e q i j) h =
        record { config = h.config; known = h.known; was = h.was }

    after_greeting : (now : Stamp) (tick : Bool) (t u : Turn) → Greets now tick t u → Stands t [] →
        Stands u []
    unfolding cs.send
    after_greeting now tick t _ asking.IsSilent h = h
    after_greeting now tick t _ (asking.SaysHello e m) h =
        record { config = h.config; known = h.known; was = h.was }

    -- What is asked
    module _ (now : Stamp) where
      of_wanted : (t : Turn) (s v : ClientSession) (o : Operation) (w : cp.Wanted) →
          v.locks ≡ s.locks → v.lease ≡ s.lease → t.config ≡ k → C o.ask →
          cs.is_of t.here.server o ≡ true → cs.is_serving t.config s now ≡ true →
          Wants t s now o.ask w → is_allocation w.body ≡ true →
          JustAsked C now k t.here.server v w.body
      of_wanted t s v o _ same leased kb known own serving (asking.ForLock ino e q c d) z = cc z
      of_wanted t s v o _ same leased kb known own serving (asking.ForPlace f p l e q c d) z = cc z
      of_wanted t s v o _ same leased kb known own serving (asking.ToWrite f p bytes l e q c d) z =
          record {
            ask = o.ask;
            known = known;
            file = f;
            page = p;
            place = ap place_of e;
            of = ap (λ n. record { 0 = n })
                (eqb-true f.server.0 t.here.server.0
                (ap (λ a. same_server (server_of a) t.here.server) (sym e) ∙ own));
            g = l.g;
            is = refl;
            lock = l;
            held = ap (λ y. locks.lock_of y f.ino) same ∙ q;
            exclusive = c;
            lasts =
                subst (λ (y : lease.ClientLease). now.0 < y.date.0 + k.lease) (sym leased)
                (serving_lasts k s.lease now (ap (λ c. cs.is_serving c s now) (sym kb) ∙ serving));
          }
      of_wanted t s v o _ same leased kb known own serving (asking.ToPatch f p at bytes l e q c d) z
          =
          record {
            ask = o.ask;
            known = known;
            file = f;
            page = p;
            place = ap place_of e;
            of = ap (λ n. record { 0 = n })
                (eqb-true f.server.0 t.here.server.0
                (ap (λ a. same_server (server_of a) t.here.server) (sym e) ∙ own));
            g = l.g;
            is = refl;
            lock = l;
            held = ap (λ y. locks.lock_of y f.ino) same ∙ q;
            exclusive = c;
            lasts =
                subst (λ (y : lease.ClientLease). now.0 < y.date.0 + k.lease) (sym leased)
                (serving_lasts k s.lease now (ap (λ c. cs.is_serving c s now) (sym kb) ∙ serving));
          }
      of_wanted t s v o _ same leased kb known own serving (asking.ToCut f p l e q c d) z = cc z
      of_wanted t s v o _ same leased kb known own serving
          (asking.ToRemove server n ino l e f q c d) z = cc z
      of_wanted t s v o _ same leased kb known own serving (asking.ToName server n e f) z = cc z

      right_was : (server : ServerId) (life : ℕ) (o : Option ClientSession) →
          WasIn W server life o → RightIn W C now k server life o
      right_was server life None h = tt
      right_was server life (Some s) h = go s.requests.asked h
        where
          go : (q : Option Request) → AskedWas (W server life s.epoch.0) q →
              AskedRight (W server life s.epoch.0) (JustAsked C now k server s) q
          go None h = tt
          go (Some q) h = λ z. inl (h z)

      after_request : (tick : Bool) (t u : Turn) → Requests now tick t u → Stands t [] →
          Right W C now k u.here × AllKnown C u.operations
      unfolding cs.send cs.asking
      after_request tick t _ asking.AsksNothing h = (
        right_was t.here.server t.here.life.0 t.here.session h.was,
        subst (AllKnown C) (append-nil t.operations) h.known,
      )
      after_request tick t _ (asking.AsksAgain s q e c n o) h = (
        λ z. inl
            (subst (AskedWas (W t.here.server t.here.life.0 s.epoch.0)) n
            (subst (WasIn W t.here.server t.here.life.0) e h.was) z),
        subst (AllKnown C) (append-nil t.operations) h.known,
      )
      after_request tick t _ (asking.Reasserts s m d) h =
          (λ z. cc z, subst (AllKnown C) (append-nil t.operations) h.known)
      after_request tick t _ (asking.Releases s r rs m d e) h =
          (λ z. cc z, subst (AllKnown C) (append-nil t.operations) h.known)
      after_request tick t _ (asking.KeepsAlive s f e) h =
          (λ z. cc z, subst (AllKnown C) (append-nil t.operations) h.known)
      after_request tick t _ (asking.AsksFor s xs o ys w f e first) h = (
        λ z. inr
            (of_wanted t s (cp.asking_session s now w.body (cp.file_cut w.cut)) o w refl refl
            h.config (old o (has_right xs (o ∷ ys) o (inl refl)))
            (and_true (cs.is_of t.here.server o) _ first.may).0 e first.wants z),
        λ p i. all p (has_append xs (cp.sent_if w.own o ∷ ys) p i),
      )
        where
          old : (p : Operation) → Has p (xs ++ o ∷ ys) → C p.ask
          old p i = subst (AllKnown C) (append-nil t.operations) h.known p
              (subst (Has p) (sym first.there) i)

          sent : (b : Bool) → (cp.sent_if b o).ask ≡ o.ask
          sent true = refl
          sent false = refl

          all : (p : Operation) → Has p xs ⊎ Has p (cp.sent_if w.own o ∷ ys) → C p.ask
          all p (inl i) = old p (has_left xs (o ∷ ys) p i)
          all p (inr (inl q)) = subst C (sym (ap (λ (y : Operation). y.ask) q ∙ sent w.own))
              (old o (has_right xs (o ∷ ys) o (inl refl)))
          all p (inr (inr i)) = old p (has_right xs (o ∷ ys) p (inr i))

      passed : (tick : Bool) (t : Turn) → t.config ≡ k → AllKnown C t.operations → Was W t.here →
          AllKnown C (cp.passes now tick t).operations × Right W C now k (cp.passes now tick t).here
      passed tick t kb known h =
          let r : Passed now tick t (cp.passes now tick t) = passes now tick t in
          let z =
          after_request tick r.greeted (cp.passes now tick t) r.requests
          (after_greeting now tick r.written r.greeted r.greeting
          (each_lasts (WritesOut now tick) (λ xs v. Stands v [])
          (λ x xs v y o p. after_write now tick x v y o p)
          (places_of r.reduced.here.session r.reduced.here.store.pages) r.reduced r.written r.writes
          (each_lasts Reduced (λ xs v. Stands v []) (λ x xs v y o p. after_reduction x v y o p)
          (cp.files_demanded r.operated.here.session) r.operated
          r.reduced r.reductions
          (each_lasts (Operated now t.operations) (λ os v. Stands v os)
          (λ o os v x y z. after_pass now t.operations o os v x y z) t.operations
          (cs.with_operations [] t) r.operated r.operations
          (record { config = kb; known = known; was = h }))))) in (z.1, z.0)

    -- All servers in turn.
    record Held (P : Association → Type 0) (t : ClientTurn) : Type 0 where
      config : t.state.config ≡ k
      known : AllKnown C t.state.operations
      each : Each P t.state.associations

    these : (P Q : Association → Type 0) (rule : Turn → Turn) →
        ((u : Turn) → u.config ≡ k → AllKnown C u.operations → P u.here →
        AllKnown C (rule u).operations × Q (rule u).here) → (al : List Association)
        (t : ClientTurn) → t.state.config ≡ k → AllKnown C t.state.operations →
        Each Q t.state.associations → Each P al → Held Q (at_these rule al t)
    unfolding at_these
    these P Q rule one [] t kb known h g = record { config = kb; known = known; each = h }
    these P Q rule one (a ∷ al) t kb known h g =
        let z = one (enter t a) kb known (g a (inl refl)) in
        these P Q rule one al (leave t (rule (enter t a))) kb z.0
        (λ b i. put z.1 b (has_append t.state.associations ((rule (enter t a)).here ∷ []) b i))
        (λ b i. g b (inr i))
      where
        put : Q (rule (enter t a)).here → (b : Association) →
            Has b t.state.associations ⊎ Has b ((rule (enter t a)).here ∷ []) → Q b
        put q b (inl i) = h b i
        put q b (inr (inl e)) = subst Q (sym e) q
        put q b (inr (inr i)) = absurd i

    everywhere : (P Q : Association → Type 0) (rule : Turn → Turn) →
        ((u : Turn) → u.config ≡ k → AllKnown C u.operations → P u.here →
        AllKnown C (rule u).operations × Q (rule u).here) → (t : ClientTurn) → Held P t →
        Held Q (at_each rule t)
    unfolding at_each
    everywhere P Q rule one t h = these P Q rule one t.state.associations (with_associations [] t)
        h.config h.known (λ a i. absurd i) h.each

    -- The rule for the input.
    took : (op : ℕ) (ask : Ask) → C ask → (u : Turn) → AllKnown C u.operations →
        AllKnown C (only_at (server_of ask) (cl.take_ask op ask) u).operations
    took op ask c u h =
        at_server (λ v. AllKnown C v.operations) (server_of ask) (cl.take_ask op ask) u
        (λ e. go (cl.take_ask op ask u) (takes op ask u)) (λ e. h)
      where
        more : AllKnown C (u.operations ++ cs.new_operation op ask ∷ [])
        more p i = by (has_append u.operations (cs.new_operation op ask ∷ []) p i)
          where
            by : Has p u.operations ⊎ Has p (cs.new_operation op ask ∷ []) → C p.ask
            by (inl j) = h p j
            by (inr (inl e)) = subst C (sym (ap (λ (y : Operation). y.ask) e)) c
            by (inr (inr j)) = absurd j

        go : (v : Turn) → Takes op ask u v → AllKnown C v.operations
        go _ (ends.TellsLost f e l) = h
        go _ (ends.WaitsForSync f e l) = more
        go _ (ends.Waits e) = more

    input_taken : (now : Stamp) (i : ClientInput) →
        ((op : ℕ) (ask : Ask) → i ≡ inputs.App op ask → C ask) → (t u : ClientTurn) →
        Taken t now i u →
        Held (Was W) t → Held (Was W) u
    input_taken now _ c t _ (taken_.Nothing i) h = h
    input_taken now _ c t _ (taken_.Full op ask e) h =
        record { config = h.config; known = h.known; each = h.each }
    input_taken now _ c t _ (taken_.Unknown op ask e f) h =
        record { config = h.config; known = h.known; each = h.each }
    input_taken now _ c t _ (taken_.Takes op ask e f) h =
        everywhere (Was W) (Was W) (only_at (server_of ask) (cl.take_ask op ask))
        (λ u kb known w. (
          took op ask (c op ask refl) u known,
          sessions.sessions_kept_by_take (WasIn W) (server_of ask) op ask u w,
        )) t h
    input_taken now _ c t _ (taken_.Receives m e) h =
        everywhere (Was W) (Was W) (cr.receive_at now m.header m.body)
        (λ u kb known w. (
          known_kept C u.operations (cr.receive_at now m.header m.body u).operations
              (heard now m.header m.body u) known,
          received now m.header m.body u w,
        )) t h
    input_taken now _ c t _ (taken_.Finishes number r) h =
        everywhere (Was W) (Was W) (cl.finish number r)
        (λ u kb known w. (
          known_kept C u.operations (cl.finish number r u).operations (finished number r u)
              known,
          sessions.sessions_kept_by_finish (WasIn W) number r u w,
        )) t h

    -- The whole step.
    pub step_right : (s : ClientState) (now : Stamp) (i : ClientInput) → s.config ≡ k →
        AllKnown C s.operations →
        ((op : ℕ) (ask : Ask) → i ≡ inputs.App op ask → C ask) → Each (Was W) s.associations →
        Each (Right W C now k) (cl.client_step s now i).state.associations
    unfolding cl.client_step cl.work cl.losses
    step_right s now i kb known c h =
        let t : ClientTurn = at_each (cl.lose now) (client_turn s []) in
        let lost_ : Held (Was W) t =
        everywhere (Was W) (Was W) (cl.lose now)
        (λ u kb known w. (
          known_kept C u.operations (cl.lose now u).operations (lost now u) known,
          sessions.sessions_kept_by_lose (WasIn W) (λ server life. tt) now u w,
        )) (client_turn s [])
        (record { config = kb; known = known; each = h }) in
        (everywhere (Was W) (Right W C now k) (cp.passes now (cl.is_tick i))
        (λ u kb known w. passed now (cl.is_tick i) u kb known w) (cl.take_input t now i)
        (input_taken now i c t (cl.take_input t now i) (taken t now i) lost_)).each
