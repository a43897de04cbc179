-- A demand that reaches a session of its epoch is answered in the same step.
use Rattle.st_lemmas.proofs.Words
use Words.{◌≡◌, ℕ, suc, ◌≤◌, ◌==◌, Bool, true, false, List, [], ◌∷◌, ◌++◌, Option, Some, None, length, map, refl, sym, ap, ◌∙◌, subst, inl, inr, arith, if◌then◌else◌, eq-eqb, le-leb, nat_le}
use Words.{Body, ClientId, Config, GrantNo, Header, HeldLock, Mode, Output, Stamp}
use Words.bodies
use Words.modes
use Words.outputs
use Words.ClientLocks as locks
use Words.ClientReplies as replies
use Words.ClientState.{Association, ClientSession, send, with_cache, with_release}
use Words.Keys.{server_node}
use Words.Lists.{Has}
use Words.Tables.{and_both}
use Rattle.st_laws_steps.specs.Client.Losses.{Fit, is_ended}
use Rattle.st_third.specs.declared.limits.Limits.{Limits}
use Rattle.st_third.specs.declared.output.ThirdOutput.{ThirdOutput}
use Rattle.st_third.specs.declared.output.ThirdOutput.TheVariants as says
use Rattle.st_third.specs.Client as client
use Rattle.st_third.specs.Leave as leaving
use Rattle.st_third.specs.Replies as third
use Rattle.st_third.specs.State.{Beside, ThirdClientTurn, ThirdTurn, all_said, at_each, at_these, enter, leave, plain_output, plainly, session, third_turn}
use Rattle.st_laws_third.specs.Changes.{Heard, ThirdChanges, ThirdLeaves, ThirdLoses, ThirdPasses, HasLeft, IsLost, Lasts, Stays, with_plain}
use Rattle.st_laws_third.specs.Demands.{EveryDemandIsAnswered, IsInTime, demand_seen}
use Rattle.st_laws_third.specs.Pairs.{IsPaired}
use Rattle.st_laws_third.proofs.Chains.{left_has, right_has}
use Rattle.st_laws_third.proofs.Facts.{changes_third}
use Rattle.st_laws_third.proofs.Leaving.{loses}
use Rattle.st_laws_third.proofs.Pairs as paired
use Rattle.st_laws_third.proofs.Passing.{passes_change}
use Rattle.st_laws_third.proofs.Receiving.{receives}
use Rattle.st_laws_third.proofs.Stepping.{Stepped, changed, each_goes, loses_it, stepped_fit}

-- What was said stays said.

changes_keep : {got : Heard} (now : Stamp) (o : ThirdOutput) (t u : ThirdTurn) → ThirdChanges got now t u → Has o (all_said t) → Has o (all_said u)
changes_keep now o t u cs h = let n = changes_third now t u cs in subst (Has o) (sym n.said) (left_has (all_said t) n.more o h)

leaves_keep : (now : Stamp) (o : ThirdOutput) (t u : ThirdTurn) → ThirdLeaves now t u → Has o (all_said t) → Has o (all_said u)
unfolding plainly Rattle.st_third.specs.State.say
leaves_keep now o t _ Stays h = h
leaves_keep now o t _ (HasLeft s e) h = left_has _ [] o (left_has (all_said t) _ o h)

passes_keep : (now : Stamp) (tick : Bool) (o : ThirdOutput) (t : ThirdTurn) → Has o (all_said t) → Has o (all_said (client.third_passes now tick t))
passes_keep now tick o t h =
    let p : ThirdPasses now t (client.third_passes now tick t) = passes_change now tick t in
    changes_keep now o p.left _ p.asks (leaves_keep now o p.written p.left p.leaves (changes_keep now o t p.written p.works h))

-- At each server in turn.
module _ (k : Config) (m : Limits) (rule : ThirdTurn → ThirdTurn) (o : ThirdOutput)
    (keep : (t : ThirdTurn) → t.plain.config ≡ k → Fit t.plain.here → Has o (all_said t) → Has o (all_said (rule t))) where
  these_keep : (as_ : List Association) (bs : List Beside) (t : ThirdClientTurn) → t.client.plain.config ≡ k → ((a : Association) → Has a as_ → Fit a) →
      Has o t.out → Has o (at_these m rule as_ bs t).out
  unfolding at_these
  these_keep [] bs t c f h = h
  these_keep (a ∷ as_) [] t c f h = h
  these_keep (a ∷ as_) (b ∷ bs) t c f h =
      these_keep as_ bs (leave t (rule (enter m t a b))) c (λ x q. f x (inr q)) (keep (enter m t a b) c (f a (inl refl)) (left_has t.out [] o h))

  -- the rule says it at this association of a client with this number
  module _ (i : ClientId) (a : Association)
      (say_it : (t : ThirdTurn) → t.plain.config ≡ k → t.plain.id ≡ i → t.plain.here ≡ a → Has o (all_said (rule t))) where
    these_say : (as_ : List Association) (bs : List Beside) (t : ThirdClientTurn) → t.client.plain.config ≡ k → t.client.plain.id ≡ i →
        length bs ≡ length as_ → ((x : Association) → Has x as_ → Fit x) → Has a as_ → Has o (at_these m rule as_ bs t).out
    unfolding at_these
    these_say [] bs t c e l f h = absurd h
    these_say (x ∷ xs) [] t c e l f h = absurd (nothing (length xs) l)
      where
        nothing : (n : ℕ) → 0 ≡ suc n → ⊥
        nothing n e = cc
    these_say (x ∷ xs) (b ∷ bs) t c e l f (inl q) =
        these_keep xs bs (leave t (rule (enter m t x b))) c (λ y p. f y (inr p)) (say_it (enter m t x b) c e (sym q))
    these_say (x ∷ xs) (b ∷ bs) t c e l f (inr q) =
        these_say xs bs (leave t (rule (enter m t x b))) c e (omega (arith, l)) (λ y p. f y (inr p)) q

    each_says : (t : ThirdClientTurn) → t.client.plain.config ≡ k → t.client.plain.id ≡ i → IsPaired t.client →
        ((x : Association) → Has x t.client.plain.associations → Fit x) → Has a t.client.plain.associations → Has o (at_each m rule t).out
    unfolding at_each
    each_says t c e p f h = these_say t.client.plain.associations t.client.beside.besides _ c e p f h

  each_keeps : (t : ThirdClientTurn) → t.client.plain.config ≡ k → ((x : Association) → Has x t.client.plain.associations → Fit x) →
      Has o t.out → Has o (at_each m rule t).out
  unfolding at_each
  each_keeps t c f h = these_keep t.client.plain.associations t.client.beside.besides _ c f h

-- An association that a rule leaves is there afterwards.
module _ (m : Limits) (rule : ThirdTurn → ThirdTurn) (a : Association) where
  these_had : (as_ : List Association) (bs : List Beside) (t : ThirdClientTurn) → Has a t.client.plain.associations →
      Has a (at_these m rule as_ bs t).client.plain.associations
  unfolding at_these
  these_had [] bs t h = h
  these_had (x ∷ xs) [] t h = h
  these_had (x ∷ xs) (b ∷ bs) t h = these_had xs bs (leave t (rule (enter m t x b))) (left_has t.client.plain.associations _ a h)

  these_id : (as_ : List Association) (bs : List Beside) (t : ThirdClientTurn) → (at_these m rule as_ bs t).client.plain.id ≡ t.client.plain.id
  unfolding at_these
  these_id [] bs t = refl
  these_id (x ∷ xs) [] t = refl
  these_id (x ∷ xs) (b ∷ bs) t = these_id xs bs (leave t (rule (enter m t x b)))

  each_id : (t : ThirdClientTurn) → (at_each m rule t).client.plain.id ≡ t.client.plain.id
  unfolding at_each
  each_id t = these_id t.client.plain.associations t.client.beside.besides _

  module _ (k : Config) (same : (t : ThirdTurn) → t.plain.config ≡ k → t.plain.here ≡ a → (rule t).plain.here ≡ a) where
    these_have : (as_ : List Association) (bs : List Beside) (t : ThirdClientTurn) → t.client.plain.config ≡ k → length bs ≡ length as_ → Has a as_ →
        Has a (at_these m rule as_ bs t).client.plain.associations
    unfolding at_these
    these_have [] bs t c l h = absurd h
    these_have (x ∷ xs) [] t c l h = absurd (nothing (length xs) l)
      where
        nothing : (n : ℕ) → 0 ≡ suc n → ⊥
        nothing n e = cc
    these_have (x ∷ xs) (b ∷ bs) t c l (inl q) =
        these_had xs bs (leave t (rule (enter m t x b)))
        (right_has t.client.plain.associations _ a (inl (sym (same (enter m t x b) c (sym q)))))
    these_have (x ∷ xs) (b ∷ bs) t c l (inr q) = these_have xs bs (leave t (rule (enter m t x b))) c (omega (arith, l)) q

    each_has : (t : ThirdClientTurn) → t.client.plain.config ≡ k → IsPaired t.client → Has a t.client.plain.associations →
        Has a (at_each m rule t).client.plain.associations
    unfolding at_each
    each_has t c p h = these_have t.client.plain.associations t.client.beside.besides _ c p h

-- A lease that isn't over stays.
lasts_same : (now : Stamp) (t u : ThirdTurn) → ThirdLoses now t u → is_ended t.plain.config now (session t) ≡ false → u.plain.here ≡ t.plain.here
lasts_same now t _ (Lasts e) f = refl
lasts_same now t _ (IsLost s v e i cs) f = absurd (no (sym i ∙ f))
  where
    no : true ≡ false → ⊥
    no q = cc

-- The answer.

module _ (ino : ℕ) (g : GrantNo) where
  observed : (t : ThirdTurn) (z : ClientSession) (e : ℕ) → z.epoch.0 ≡ e →
      Has (says.Plain (outputs.Send (record {
        header = record { from = t.plain.id.0; to = server_node t.plain.here.server; life = t.plain.here.life.0; epoch = e; number = 0; stamp = 0 };
        body = bodies.DemandSeen ino g;
      }))) (all_said (with_plain (replies.observe_demand t.plain z ino g) t))
  unfolding replies.observe_demand send
  observed t z e q =
      right_has t.said _ _
      (had t.plain.out _ (λ j. says.Plain (outputs.Send (record {
        header = record { from = t.plain.id.0; to = server_node t.plain.here.server; life = t.plain.here.life.0; epoch = sym q j; number = 0; stamp = 0 };
        body = bodies.DemandSeen ino g;
      }))))
    where
      had : (os : List Output) (o : Output) {x : ThirdOutput} → x ≡ plain_output o → Has x (map plain_output (os ++ o ∷ []))
      had [] o p = inl p
      had (y ∷ os) o p = inr (had os o p)

  -- whether the release is new or not, the epoch stays
  unheld_epoch : (r : ClientSession) → (replies.release_unheld r ino g).epoch.0 ≡ r.epoch.0
  unfolding replies.release_unheld
  unheld_epoch r = go (replies.has_release r ino g)
    where
      go : (b : Bool) → (if b then r else with_release ino g modes.None r).epoch.0 ≡ r.epoch.0
      go true = refl
      go false = refl

  module _ (t : ThirdTurn) (s : ClientSession) where
    abbrev Answer : ThirdOutput
    Answer = says.Plain (outputs.Send (record {
      header = record { from = t.plain.id.0; to = server_node t.plain.here.server; life = t.plain.here.life.0; epoch = s.epoch.0; number = 0; stamp = 0 };
      body = bodies.DemandSeen ino g;
    }))

    demanded : (to : Mode) → IsInTime s.locks ino g → Has Answer (all_said (third.demand t s ino g to))
    unfolding third.demand plainly locks.demand locks.demand_at locks.demand_unheld locks.demand_held locks.demand_lock replies.demand_as
    demanded to f = go (locks.lock_of s.locks ino) refl
      where
        held : (l : HeldLock) (b : Bool) → b ≡ true →
            Has Answer (all_said (with_plain (third.demand_by s ino g (if b then locks.demand_lock s.locks ino g to l else locks.demand_stale s.locks) t.plain) t))
        held l true e = observed t (with_cache (locks.demand_lock s.locks ino g to l).locks s) s.epoch.0 refl
        held l false e = absurd (no e)
          where
            no : false ≡ true → ⊥
            no q = cc

        go : (o : Option HeldLock) → locks.lock_of s.locks ino ≡ o →
            Has Answer (all_said (with_plain (third.demand_by s ino g (locks.demand_at s.locks ino g to o) t.plain) t))
        go None e =
            let r : ClientSession = with_cache (locks.demand_unheld s.locks ino g).locks s in
            observed t (replies.release_unheld r ino g) s.epoch.0 (unheld_epoch r)
        go (Some l) e = held l (nat_le l.g.0 g.0) (le-leb l.g.0 g.0 (f l e))

    answered : (now : Stamp) (h : Header) (to : Mode) → h.from ≡ server_node t.plain.here.server → h.life ≡ t.plain.here.life.0 → h.stamp ≤ now.0 →
        session t ≡ Some s → h.epoch ≡ s.epoch.0 → IsInTime s.locks ino g → Has Answer (all_said (third.receive_at now h (bodies.Demand ino g to) t))
    unfolding third.receive_at third.by_session third.with_a_session third.of_epoch
    answered now h to a b c e p f =
        subst (λ x. Has Answer (all_said (if x then third.by_session t now h (bodies.Demand ino g to) (session t) else t)))
        (sym (and_both (h.from == server_node t.plain.here.server) _ (eq-eqb h.from _ a) (and_both (h.life == t.plain.here.life.0) (nat_le h.stamp now.0) (eq-eqb h.life _ b) (le-leb h.stamp now.0 c))))
        (subst (λ x. Has Answer (all_said (third.by_session t now h (bodies.Demand ino g to) x))) (sym e)
        (subst (λ x. Has Answer (all_said (if x then third.of_epoch t s now h (bodies.Demand ino g to) else plainly (third.of_other_epoch s (record { 0 = h.epoch }) (bodies.Demand ino g to)) t)))
        (sym (eq-eqb h.epoch s.epoch.0 p)) (demanded to f)))

pub every_demand_is_answered : EveryDemandIsAnswered
unfolding client.client_step client.losses client.work client.take_input client.take_plain third.receive
every_demand_is_answered m c now h ino g to a s p f r late =
    let k : Config = c.plain.config in
    let o : ThirdOutput = demand_seen c.plain a s ino g in
    let body : Body = bodies.Demand ino g to in
    let t : ThirdClientTurn = third_turn c [] in
    let u : ThirdClientTurn = client.losses m t now in
    let v : ThirdClientTurn = at_each m (third.receive_at now h body) u in
    let x : Stepped k now t u = each_goes k now m (leaving.lose now) (λ y d z. loses_it k now y d _ (loses y)) t refl p f in
    let pu : IsPaired u.client = (paired.each_stays m (leaving.lose now) t p).paired in
    let fu = stepped_fit k now t u x f in
    let there : Has a u.client.plain.associations = each_has m (leaving.lose now) a k
    (λ y d e. lasts_same now y _ (loses y) (ended_not y d e) ∙ e) t refl p r.there in
    let named : u.client.plain.id ≡ c.plain.id = each_id m (leaving.lose now) a t in
    let said : Has o v.out = each_says k m (third.receive_at now h body) o (λ y d z q. changes_keep now o y _ (receives now h body y z.fresh) q) c.plain.id a
    (λ y d e z. says_it y e z) u x.config named pu fu there in
    let w : Stepped k now u v = each_goes k now m (third.receive_at now h body) (λ y d z. changed k now y d _ (receives now h body y z.fresh)) u x.config pu fu in
    subst (λ b. Has o (at_each m (client.third_passes now false) (if b then v else u)).out)
    (sym (eq-eqb h.to u.client.plain.id.0 (r.here ∙ sym (ap (λ (i : ClientId). i.0) named))))
    (each_keeps k m (client.third_passes now false) o (λ y d z q. passes_keep now false o y q) v (w.config ∙ x.config) (stepped_fit k now u v w fu) said)
  where
    ended_not : (y : ThirdTurn) → y.plain.config ≡ c.plain.config → y.plain.here ≡ a → is_ended y.plain.config now (session y) ≡ false
    ended_not y d e = (λ j. is_ended (d j) now (e j).session) ∙ r.lasts

    says_it : (y : ThirdTurn) → y.plain.id ≡ c.plain.id → y.plain.here ≡ a →
        Has (demand_seen c.plain a s ino g) (all_said (third.receive_at now h (bodies.Demand ino g to) y))
    says_it y i e =
        subst (λ z. Has z (all_said (third.receive_at now h (bodies.Demand ino g to) y)))
        (λ j. says.Plain (outputs.Send (record {
          header = record { from = (i j).0; to = server_node (e j).server; life = (e j).life.0; epoch = s.epoch.0; number = 0; stamp = 0 };
          body = bodies.DemandSeen ino g;
        })))
        (answered ino g y s now h to (r.from ∙ ap (λ (x : Association). server_node x.server) (sym e)) (r.life ∙ ap (λ (x : Association). x.life.0) (sym e)) r.stamp
        (ap (λ (x : Association). x.session) e ∙ r.session) r.epoch late)
