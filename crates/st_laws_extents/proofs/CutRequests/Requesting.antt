-- What the requests that a client sends at the end of a step leave of its session. The last pass only asks: what it asks anew is a reassertion if one is
-- due, and it is the only holder of what it removes.
use Rattle.st_lemmas.proofs.Words
use Words.{◌≡◌, ℕ, ◌+◌, Bool, Option, Some, None, sym, ap, ◌∙◌, subst, ◌⊎◌, inl, inr, GrantNo, ServerId, Stamp, Body, Request}
use Words.bodies
use Words.ops
use Words.ClientPages.{Store}
use Words.ClientPasses as cp
use Words.ClientState as state
use Words.ClientState.{ClientSession, Turn}
use Words.Lookups.{some_is}
use Words.Truth.{false_not_true}
use Rattle.st_laws_steps.specs.Client.Session.{SessionChange, Keeps, DropsLock, IsReasserted, EndsRequest, NewEpoch, AsksNew, AsksAgain, HasExclusive, IsAsked}
use Rattle.st_laws_steps.specs.Client.Session.{MayAsk}
use Rattle.st_laws_steps.proofs.Client.Passing.{FollowsBy, OnlyAsks}
use Rattle.st_laws_steps.proofs.Client.Sessions.{sessions_kept_by_requests}
use Rattle.st_laws_extents.specs.CutRequests.Asks.{AsksBehind, AsksStand, CutNamed, Fact, GivenOrHeld, Of, RemoveNamed, open_from}
use Rattle.st_laws_extents.proofs.CutRequests.Walking as walk

some_none : {A : Type 0} (q : Request) → ◌≡◌ {A = Option Request} (Some q) None → A
some_none q z = cc

-- what is removed was given in one more way
pub remove_more : (P Q : ℕ → GrantNo → Type 0) → ((ino : ℕ) (g : GrantNo) → P ino g → Q ino g) → (cutting : Option ℕ) (b : Body) → RemoveNamed P cutting b → RemoveNamed Q cutting b
remove_more P Q f o (bodies.Name (ops.Remove dir x g)) r = λ l. let z = r l in (z.0, z.1, f z.0 g z.2)
remove_more P Q f o b r = tt

-- what may be asked names what it cuts or removes
cut_named : (s : ClientSession) (cutting : Option ℕ) (b : Body) → MayAsk s cutting b → CutNamed cutting b
cut_named s o (bodies.Cut ino g from) m = m
cut_named s o b m = tt

remove_named : (s : ClientSession) (cutting : Option ℕ) (b : Body) → MayAsk s cutting b → RemoveNamed (HasExclusive s) cutting b
remove_named s o (bodies.Name (ops.Remove dir x g)) m = m
remove_named s o b m = tt

module _ (B : ServerId → ℕ → ℕ → ℕ → Type 0) (G : ServerId → ℕ → GrantNo → Type 0) where
  abbrev pub After : Turn → Type 0
  After t = AsksBehind B G t.here.server t.here.life.0 t.here.session

  -- what held still holds
  pub stays_at : (server : ServerId) (life : ℕ) (o : Option ClientSession) → Of (AsksStand B G) server life o → AsksBehind B G server life o
  stays_at server life None h = tt
  stays_at server life (Some s) h = record { last = h.last; first = h.first; served = h.served; cut = h.cut; remove = λ q e. remove_more (G server) (GivenOrHeld G s server) (λ i g x. inl x) s.cutting q.body (h.remove q e) }

  -- a new request
  ask_new : (E : ServerId → ℕ → GrantNo → Type 0) (server : ServerId) (life : ℕ) (s : ClientSession) (now : Stamp) (b : Body) (cutting : Option ℕ) →
      IsAsked s cutting b → Of (AsksStand B E) server life (Some s) → AsksBehind B G server life (Some (cp.asking_session s now b cutting))
  unfolding state.asking
  ask_new E server life s now b cutting i h =
      record {
        last = λ q e. ap (λ (z : Request). z.number + 1) (sym (some_is e));
        first =
            record {
              none = λ x z. some_none _ z;
              first = λ q e x. ap (λ (z : Request). z.number) (sym (some_is e)) ∙ h.first.none (sym i.due ∙ ap (λ (z : Request). state.reasserts z.body) (some_is e) ∙ x) i.free;
              only = λ q e x. ap (λ (z : Request). state.reasserts z.body) (sym (some_is e)) ∙ i.due ∙ x;
            };
        served = subst (λ o. B server life s.epoch.0 (open_from s.requests.next o)) i.free h.served;
        cut = λ q e. subst (λ (z : Request). CutNamed cutting z.body) (some_is e) (cut_named s cutting b i.may);
        remove = λ q e. subst (λ (z : Request). RemoveNamed (GivenOrHeld G (cp.asking_session s now b cutting) server) cutting z.body) (some_is e)
            (remove_more (HasExclusive s) (GivenOrHeld G (cp.asking_session s now b cutting) server) (λ i g x. inr (record { lock = x.lock; is = x.is; under = x.under; exclusive = x.exclusive })) cutting b (remove_named s cutting b i.may));
      }

  -- the same request again
  ask_again : (server : ServerId) (life : ℕ) (s : ClientSession) (now : Stamp) (q : Request) → s.requests.asked ≡ Some q → AsksBehind B G server life (Some s) →
      AsksBehind B G server life (Some (cp.again_session s now q))
  ask_again server life s now q a h =
      record {
        last = λ r e. ap (λ (z : Request). z.number + 1) (sym (some_is e)) ∙ h.last q a;
        first =
            record {
              none = λ x z. some_none _ z;
              first = λ r e x. ap (λ (z : Request). z.number) (sym (some_is e)) ∙ h.first.first q a (ap (λ (z : Request). state.reasserts z.body) (some_is e) ∙ x);
              only = λ r e x. ap (λ (z : Request). state.reasserts z.body) (sym (some_is e)) ∙ h.first.only q a x;
            };
        served = subst (λ o. B server life s.epoch.0 (open_from s.requests.next o)) a h.served;
        cut = λ r e. subst (λ (z : Request). CutNamed s.cutting z.body) (some_is e) (h.cut q a);
        remove = λ r e. subst (λ (z : Request). RemoveNamed (GivenOrHeld G (cp.again_session s now q) server) s.cutting z.body) (some_is e) (remove_more (GivenOrHeld G s server) (GivenOrHeld G (cp.again_session s now q) server) (λ i g x. still i g x) s.cutting q.body (h.remove q a));
      }
    where
      still : (ino : ℕ) (g : GrantNo) → G server ino g ⊎ HasExclusive s ino g → GivenOrHeld G (cp.again_session s now q) server ino g
      still ino g (inl x) = inl x
      still ino g (inr x) = inr (record { lock = x.lock; is = x.is; under = x.under; exclusive = x.exclusive })

  follows : (server : ServerId) (life : ℕ) (st : Store) (s u : ClientSession) (c : SessionChange st s u) → FollowsBy OnlyAsks st s u c →
      AsksBehind B G server life (Some s) → AsksBehind B G server life (Some u)
  follows server life st s u (Keeps _ _ a) k h = false_not_true k.may
  follows server life st s _ (DropsLock _ ino l) k h = absurd k
  follows server life st s _ (IsReasserted _) k h = absurd k
  follows server life st s _ (EndsRequest _ stamp) k h = absurd k
  follows server life st s _ (NewEpoch _ epoch n) k h = absurd k
  follows server life st s _ (AsksNew _ r now body cutting a c i) k h = ask_new (GivenOrHeld G s) server life r now body cutting i (walk.alike (AsksStand B (GivenOrHeld G s)) st.extents server life s r a h)
  follows server life st s _ (AsksAgain _ now q e) k h = ask_again server life s now q e h

  -- all passes
  pub asked_after_passes : (now : Stamp) (tick : Bool) (t : Turn) → walk.At (AsksStand B G) t → After (cp.passes now tick t)
  unfolding cp.passes
  asked_after_passes now tick t h =
      let F : Fact = AsksStand B G in
      let o = cp.operations now t in
      let a = cp.reductions o in
      let b = cp.writes now tick a in
      let c = cp.greeting now tick b in
      sessions_kept_by_requests (AsksBehind B G) follows now tick c
      (stays_at c.here.server c.here.life.0 c.here.session (walk.kept_by_greeting F now tick b (walk.kept_by_writes F now tick a (walk.kept_by_reductions F o (walk.kept_by_operations F now t h)))))
