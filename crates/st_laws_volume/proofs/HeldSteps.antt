-- A step of a client: an outstanding request was outstanding before it, or has just been sent. If it
-- is a new one to cut or to remove a file, the client has the exclusive lock of the file, and a
-- lease that lasts.
use Rattle.st_lemmas.proofs.Words
use Words.{◌≡◌, ◌⊎◌, ℕ, ◌+◌, ◌<◌, ◌≤◌, arith, Bool, true, List, [], ◌∷◌, Option, Some, None, refl, sym, ap, ◌∙◌, subst, inl, inr}
use Words.{Body, ClientInput, Config, GrantNo, Header, HeldLock, Mode, NameAsk, Operation, Request, ServerId, Stamp}
use Words.bodies
use Words.modes
use Words.ops
use Words.Client as cl
use Words.ClientLease as lease
use Words.ClientLocks as locks
use Words.ClientPasses as cp
use Words.ClientReplies as cr
use Words.ClientState as cs
use Words.ClientState.{Association, ClientSession, ClientState, ClientTurn, Turn}
use Words.ClientState.{at_each, at_these, client_turn, enter, leave, only_at, server_of, with_associations}
use Words.Lists.{Has}
use Words.Tables.{has_append}
use Rattle.st_base.specs.declared.names.NameAsk.TheVariants as names
use Rattle.st_base.specs.Mode.{covers}
use Rattle.st_trace.specs.Client.Messages as trace
use Rattle.st_trace.specs.Client.Messages.{Effect, Grants, Receives, Refusal}
use Rattle.st_trace.specs.Client.Operations as pass
use Rattle.st_trace.specs.Client.Operations.{Operated}
use Rattle.st_trace.specs.Client.Passes.{IsReduced, IsWritten, Passed, Reduced, StaysDirty, StaysHeld, WritesOut, places_of}
use Rattle.st_trace.specs.Client.Requests as asking
use Rattle.st_trace.specs.Client.Requests.{Greets, Requests, Wants}
use Rattle.st_trace.proofs.Client.Receiving.{receives}
use Rattle.st_trace.proofs.Client.Walk.{each_lasts, passes}
use Rattle.st_laws_steps.specs.Client.Inputs as taken_
use Rattle.st_laws_steps.specs.Client.Inputs.{Each, Taken}
use Rattle.st_laws_steps.proofs.Client.Sessions as sessions
use Rattle.st_laws_steps.proofs.Client.Taking.{taken}
use Rattle.st_laws_volume.proofs.AllocateSteps.{serving_lasts}

-- A fact of what was outstanding, by the server, the life, the epoch and the number.
abbrev pub Before : Type 1
Before = ServerId → ℕ → ℕ → ℕ → Body → Type 0

abbrev pub AskedWas : (ℕ → Body → Type 0) → Option Request → Type 0
AskedWas W None = Unit {0}
AskedWas W (Some q) = W q.number q.body

abbrev pub WasIn : Before → ServerId → ℕ → Option ClientSession → Type 0
WasIn W server life None = Unit {0}
WasIn W server life (Some s) = AskedWas (W server life s.epoch.0) s.requests.asked

abbrev pub Was : Before → Association → Type 0
Was W a = WasIn W a.server a.life.0 a.session

-- The client has the exclusive lock of a file under a grant, and a lease that lasts.
pub record IsLocked (now : Stamp) (k : Config) (s : ClientSession) (ino : ℕ) (g : GrantNo) : Type 0 where
  pub lock : HeldLock
  pub held : locks.lock_of s.locks ino ≡ Some lock
  pub under : lock.g ≡ g
  pub exclusive : covers lock.mode modes.X ≡ true
  pub lasts : now.0 < s.lease.date.0 + k.lease

-- A cut names that grant. So does a remove, unless it is of a directory.
abbrev pub JustAsked : Stamp → Config → ClientSession → Body → Type 0
JustAsked now k s (bodies.Cut ino g from) = IsLocked now k s ino g
JustAsked now k s (bodies.Name (ops.Remove dir name g)) = 1 ≤ g.0 → (ino : ℕ) × IsLocked now k s ino g
JustAsked now k s b = Unit {0}

abbrev pub AskedRight : (ℕ → Body → Type 0) → (Body → Type 0) → Option Request → Type 0
AskedRight W J None = Unit {0}
AskedRight W J (Some q) = W q.number q.body ⊎ J q.body

abbrev pub RightIn : Before → Stamp → Config → ServerId → ℕ → Option ClientSession → Type 0
RightIn W now k server life None = Unit {0}
RightIn W now k server life (Some s) = AskedRight (W server life s.epoch.0) (JustAsked now k s) s.requests.asked

abbrev pub Right : Before → Stamp → Config → Association → Type 0
Right W now k a = RightIn W now k a.server a.life.0 a.session

pub right_was : (W : Before) (now : Stamp) (k : Config) (server : ServerId) (life : ℕ) (o : Option ClientSession) → WasIn W server life o →
    RightIn W now k server life o
right_was W now k server life None h = tt
right_was W now k server life (Some s) h = go s.requests.asked h
  where
    go : (q : Option Request) → AskedWas (W server life s.epoch.0) q → AskedRight (W server life s.epoch.0) (JustAsked now k s) q
    go None h = tt
    go (Some q) h = inl h

module _ (W : Before) where
  -- A message asks nothing.
  after_grant : (server : ServerId) (life : ℕ) (s : ClientSession) (ino : ℕ) (g : GrantNo) (mode : Mode) (v : ClientSession) → Grants s ino g mode v →
      WasIn W server life (Some s) → WasIn W server life (Some v)
  after_grant server life s ino g mode _ (trace.Installs x y) h = h
  after_grant server life s ino g mode _ (trace.Declines x y) h = h
  after_grant server life s ino g mode _ (trace.IsOld x) h = h

  after_refusal : (t : Turn) (file : Option ℕ) (asked : Body) (w : _) (a b : ℕ) (u : Turn) → Refusal t file asked w a b u → Was W t.here → Was W u.here
  unfolding cs.answer_each
  after_refusal t file asked _ a b _ (trace.NoFile _ _ ino f) h = h
  after_refusal t file asked _ a b _ (trace.TooManyLocks _ _ ino f) h = h
  after_refusal t file asked _ a b _ (trace.NoSpace _ _ ino p f g) h = h
  after_refusal t file asked _ a b _ (trace.NotHolder _ _ f) h = h
  after_refusal t file asked w a b _ (trace.AnswersNone _ _ _) h = h

  after_effect : (now : Stamp) (t : Turn) (s : ClientSession) (file : Option ℕ) (asked b : Body) (u : Turn) →
      WasIn W t.here.server t.here.life.0 (Some s) → Was W t.here → Effect now t s file asked b u → Was W u.here
  unfolding cs.answer_each
  after_effect now t s file asked _ _ o h (trace.IsGranted ino g mode v x) =
      after_grant t.here.server t.here.life.0 (cs.forget_wait ino s) ino g mode v x o
  after_effect now t s file asked _ _ o h (trace.IsQueued ino mode y) = o
  after_effect now t s file asked _ _ o h (trace.HoldsAlready ino mode y) = o
  after_effect now t s file asked _ _ o h (trace.IsToldExtents ino rows y) = h
  after_effect now t s file asked _ _ o h (trace.IsToldLate ino rows y) = h
  after_effect now t s file asked _ _ o h trace.IsAcknowledged = h
  after_effect now t s file asked _ _ o h (trace.IsNamed r d) = h
  after_effect now t s file asked _ _ o h (trace.IsRemoved ino removed l f y) = o
  after_effect now t s file asked _ _ o h trace.IsReasserted = o
  after_effect now t s file asked _ _ o h (trace.Effect.IsRefused w a b u f) = after_refusal t file asked w a b u f h

  received : (now : Stamp) (h : Header) (b : Body) (t : Turn) → Was W t.here → Was W (cr.receive_at now h b t).here
  unfolding cs.send cs.answer_each
  received now m b t o = go b (cr.receive_at now m b t) (receives now m t b)
    where
      session : (s : ClientSession) → t.here.session ≡ Some s → WasIn W t.here.server t.here.life.0 (Some s)
      session s e = subst (WasIn W t.here.server t.here.life.0) e o

      go : (b : Body) (u : Turn) → Receives now m t b u → Was W u.here
      go _ _ (trace.PassesOver b) = o
      go _ _ (trace.Begins r e j) = tt
      go _ _ (trace.FollowsEpoch s a b n f) = tt
      go _ _ (trace.IsCondemned b s n f) = session s n.session
      go _ _ (trace.IsGrantedLater ino g mode s v n e x) =
          after_grant t.here.server t.here.life.0 (cs.forget_wait ino s) ino g mode v x (session s n.session)
      go _ _ (trace.SeesDemand ino g to s n e) = session s n.session
      go _ _ (trace.GivesUp ino g to s n e f) = session s n.session
      go _ _ (trace.HasGivenUp ino g to s n e f) = session s n.session
      go _ _ (trace.IsAnswered b s q v u r n f) =
          after_effect now (cs.with_session (cr.ended_by (trace.stamp_of m) s) v) (cr.ended_by (trace.stamp_of m) s) (cs.file_asked s.cutting q.body) q.body
          b u tt tt f

  module _ (k : Config) where
    -- The passes before the requests.
    record Stands (t : Turn) : Type 0 where
      config : t.config ≡ k
      was : Was W t.here

    after_pass : (now : Stamp) (all : List Operation) (o : Operation) (t u : Turn) → Operated now all o t u → Stands t → Stands u
    after_pass now all o t _ pass.Waits h = record { config = h.config; was = h.was }
    after_pass now all o t _ (pass.IsHard f e q d) h = record { config = h.config; was = h.was }
    after_pass now all o t _ (pass.IsQuiesced s own n there none unsent) h = record { config = h.config; was = h.was }
    after_pass now all o t _ (pass.ChangesPage s f p bytes n v c m e) h = record { config = h.config; was = h.was }
    after_pass now all o t _ (pass.IsDirtyFull s f p bytes n v c m e) h = record { config = h.config; was = h.was }
    after_pass now all o t _ (pass.Fetches s f p m v n c e r) h = record { config = h.config; was = h.was }
    after_pass now all o t _ (pass.ReadsCached s f p bytes v e d q) h = record { config = h.config; was = h.was }
    after_pass now all o t _ (pass.ReadsZeros s f p e v a d q j m) h = record { config = h.config; was = h.was }

    after_reduction : (ino : ℕ) (t u : Turn) → Reduced ino t u → Stands t → Stands u
    after_reduction ino t _ StaysHeld h = h
    after_reduction ino t _ (IsReduced s g to e m q) h = record { config = h.config; was = subst (WasIn W t.here.server t.here.life.0) e h.was }

    after_write : (now : Stamp) (tick : Bool) (x : ℕ × Words.PageNo) (t u : Turn) → WritesOut now tick x t u → Stands t → Stands u
    after_write now tick x t _ StaysDirty h = h
    after_write now tick x t _ (IsWritten s d m e q i j) h = record { config = h.config; was = h.was }

    after_greeting : (now : Stamp) (tick : Bool) (t u : Turn) → Greets now tick t u → Stands t → Stands u
    unfolding cs.send
    after_greeting now tick t _ asking.IsSilent h = h
    after_greeting now tick t _ (asking.SaysHello e m) h = record { config = h.config; was = h.was }

    -- What is asked
    module _ (now : Stamp) where
      named : (s : ClientSession) (n : NameAsk) (g : GrantNo) → (1 ≤ g.0 → (ino : ℕ) × IsLocked now k s ino g) →
          JustAsked now k s (bodies.Name (cp.name_op n g))
      named s (names.Remove dir name ino) g h = h
      named s (names.Lookup dir name) g h = tt
      named s (names.Create dir name) g h = tt
      named s (names.Mkdir dir name) g h = tt
      named s (names.Rename dir name dir2 name2) g h = tt
      named s (names.List dir after) g h = tt

      none_named : (s : ClientSession) → 1 ≤ locks.no_grant.0 → (ino : ℕ) × IsLocked now k s ino locks.no_grant
      none_named s l = absurd (omega (arith, l))

      of_wanted : (t : Turn) (s v : ClientSession) (o : Operation) (w : cp.Wanted) → v.locks ≡ s.locks → v.lease ≡ s.lease → t.config ≡ k →
          cs.is_serving t.config s now ≡ true → Wants t s now o.ask w → JustAsked now k v w.body
      of_wanted t s v o _ same leased kb serving (asking.ForLock ino e q c d) = tt
      of_wanted t s v o _ same leased kb serving (asking.ForPlace f p l e q c d) = tt
      of_wanted t s v o _ same leased kb serving (asking.ToWrite f p bytes l e q c d) = tt
      of_wanted t s v o _ same leased kb serving (asking.ToPatch f p at bytes l e q c d) = tt
      of_wanted t s v o _ same leased kb serving (asking.ToCut f p l e q c d) =
          record {
            lock = l;
            held = ap (λ y. locks.lock_of y f.ino) same ∙ q;
            under = refl;
            exclusive = c;
            lasts =
                subst (λ (y : lease.ClientLease). now.0 < y.date.0 + k.lease) (sym leased)
                (serving_lasts k s.lease now (ap (λ c. cs.is_serving c s now) (sym kb) ∙ serving));
          }
      of_wanted t s v o _ same leased kb serving (asking.ToRemove server n ino l e f q c d) =
          named v n l.g
          (λ z. (
            ino,
            record {
              lock = l;
              held = ap (λ y. locks.lock_of y ino) same ∙ q;
              under = refl;
              exclusive = c;
              lasts =
                  subst (λ (y : lease.ClientLease). now.0 < y.date.0 + k.lease) (sym leased)
                  (serving_lasts k s.lease now (ap (λ c. cs.is_serving c s now) (sym kb) ∙ serving));
            },
          ))
      of_wanted t s v o _ same leased kb serving (asking.ToName server n e f) = named v n locks.no_grant (none_named v)

      after_request : (tick : Bool) (t u : Turn) → Requests now tick t u → Stands t → Right W now k u.here
      unfolding cs.send cs.asking
      after_request tick t _ asking.AsksNothing h = right_was W now k t.here.server t.here.life.0 t.here.session h.was
      after_request tick t _ (asking.AsksAgain s q e c n o) h =
          inl (subst (AskedWas (W t.here.server t.here.life.0 s.epoch.0)) n (subst (WasIn W t.here.server t.here.life.0) e h.was))
      after_request tick t _ (asking.Reasserts s m d) h = inr tt
      after_request tick t _ (asking.Releases s r rs m d e) h = inr tt
      after_request tick t _ (asking.KeepsAlive s f e) h = inr tt
      after_request tick t _ (asking.AsksFor s xs o ys w f e first) h =
          inr (of_wanted t s (cp.asking_session s now w.body (cp.file_cut w.cut)) o w refl refl h.config e first.wants)

      passed : (tick : Bool) (t : Turn) → t.config ≡ k → Was W t.here → Right W now k (cp.passes now tick t).here
      passed tick t kb h =
          let r : Passed now tick t (cp.passes now tick t) = passes now tick t in
          after_request tick r.greeted (cp.passes now tick t) r.requests
          (after_greeting now tick r.written r.greeted r.greeting
          (each_lasts (WritesOut now tick) (λ xs v. Stands v) (λ x xs v y o p. after_write now tick x v y o p)
          (places_of r.reduced.here.session r.reduced.here.store.pages) r.reduced r.written r.writes
          (each_lasts Reduced (λ xs v. Stands v) (λ x xs v y o p. after_reduction x v y o p) (cp.files_demanded r.operated.here.session) r.operated
          r.reduced r.reductions
          (each_lasts (Operated now t.operations) (λ os v. Stands v) (λ o os v x y z. after_pass now t.operations o v x y z) t.operations
          (cs.with_operations [] t) r.operated r.operations (record { config = kb; was = h })))))

    -- All servers in turn.
    record Held (P : Association → Type 0) (t : ClientTurn) : Type 0 where
      config : t.state.config ≡ k
      each : Each P t.state.associations

    these : (P Q : Association → Type 0) (rule : Turn → Turn) → ((u : Turn) → u.config ≡ k → P u.here → Q (rule u).here) → (al : List Association)
        (t : ClientTurn) → t.state.config ≡ k → Each Q t.state.associations → Each P al → Held Q (at_these rule al t)
    unfolding at_these
    these P Q rule one [] t kb h g = record { config = kb; each = h }
    these P Q rule one (a ∷ al) t kb h g =
        these P Q rule one al (leave t (rule (enter t a))) kb
        (λ b i. put (one (enter t a) kb (g a (inl refl))) b (has_append t.state.associations ((rule (enter t a)).here ∷ []) b i)) (λ b i. g b (inr i))
      where
        put : Q (rule (enter t a)).here → (b : Association) → Has b t.state.associations ⊎ Has b ((rule (enter t a)).here ∷ []) → Q b
        put q b (inl i) = h b i
        put q b (inr (inl e)) = subst Q (sym e) q
        put q b (inr (inr i)) = absurd i

    everywhere : (P Q : Association → Type 0) (rule : Turn → Turn) → ((u : Turn) → u.config ≡ k → P u.here → Q (rule u).here) → (t : ClientTurn) →
        Held P t → Held Q (at_each rule t)
    unfolding at_each
    everywhere P Q rule one t h = these P Q rule one t.state.associations (with_associations [] t) h.config (λ a i. absurd i) h.each

    -- The rule for the input.
    input_taken : (now : Stamp) (i : ClientInput) (t u : ClientTurn) → Taken t now i u → Held (Was W) t → Held (Was W) u
    input_taken now _ t _ (taken_.Nothing i) h = h
    input_taken now _ t _ (taken_.Full op ask e) h = record { config = h.config; each = h.each }
    input_taken now _ t _ (taken_.Unknown op ask e f) h = record { config = h.config; each = h.each }
    input_taken now _ t _ (taken_.Takes op ask e f) h =
        everywhere (Was W) (Was W) (only_at (server_of ask) (cl.take_ask op ask))
        (λ u kb w. sessions.sessions_kept_by_take (WasIn W) (server_of ask) op ask u w) t h
    input_taken now _ t _ (taken_.Receives m e) h =
        everywhere (Was W) (Was W) (cr.receive_at now m.header m.body) (λ u kb w. received now m.header m.body u w) t h
    input_taken now _ t _ (taken_.Finishes number r) h =
        everywhere (Was W) (Was W) (cl.finish number r) (λ u kb w. sessions.sessions_kept_by_finish (WasIn W) number r u w) t h

    -- The whole step.
    pub step_right : (s : ClientState) (now : Stamp) (i : ClientInput) → s.config ≡ k → Each (Was W) s.associations →
        Each (Right W now k) (cl.client_step s now i).state.associations
    unfolding cl.client_step cl.work cl.losses
    step_right s now i kb h =
        let t : ClientTurn = at_each (cl.lose now) (client_turn s []) in
        let lost_ : Held (Was W) t =
        everywhere (Was W) (Was W) (cl.lose now) (λ u kb w. sessions.sessions_kept_by_lose (WasIn W) (λ server life. tt) now u w) (client_turn s [])
        (record { config = kb; each = h }) in
        (everywhere (Was W) (Right W now k) (cp.passes now (cl.is_tick i)) (λ u kb w. passed now (cl.is_tick i) u kb w) (cl.take_input t now i)
        (input_taken now i t (cl.take_input t now i) (taken t now i) lost_)).each
