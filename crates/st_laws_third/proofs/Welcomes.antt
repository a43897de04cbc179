-- In every run of the third form, a session begins with a lease that is younger than `renew`.
use Rattle.st_lemmas.proofs.Words
use Words.{◌≡◌, ◌+◌, ℕ, ◌==◌, Bool, true, false, ◌&&◌, List, [], ◌∷◌, find, map, Option, Some, None, refl, sym, ap, ◌∙◌, subst, if◌then◌else◌}
use Words.{eqb-true, lt-ltb, list_all, ClientId, Config, ServerId, Stamp}
use Words.Client as plain
use Words.ClientState.{Association, ClientSession, ClientState, is_at}
use Words.Keys.{same_server}
use Words.nodes
use Words.World.{WorldClient, all_clients, all_servers, clock_of, numbered, site_of}
use Rattle.st_rules.specs.History.{association_at}
use Rattle.st_laws_steps.specs.Lives.Lives.{Pairwise}
use Rattle.st_third.specs.declared.event.ThirdEvent.{ThirdEvent}
use Rattle.st_third.specs.declared.limits.Limits.{Limits}
use Rattle.st_third.specs.Events as every
use Rattle.st_third.specs.Events.{ThirdWorldTurn, third_counted}
use Rattle.st_third.specs.Limits.{limited_association}
use Rattle.st_third.specs.Promises.{WelcomesAreFresh, is_fresh, is_fresh_at, is_fresh_in, session_at}
use Rattle.st_third.specs.State.{ClientBeside}
use Rattle.st_third.specs.Steps as steps
use Rattle.st_third.specs.Steps.{ThirdStep, ThirdTraced}
use Rattle.st_third.specs.World as worlds
use Rattle.st_third.specs.World.{ThirdWorld, third_world}
use Rattle.st_laws_third.specs.Sessions.{Dates, StepsOn}
use Rattle.st_laws_third.specs.Welcomes.{EveryWelcomeIsFresh}
use Rattle.st_laws_third.proofs.Moves.{Becomes, Moved, Rests, Changes, Stepped, Crashed, Started}
use Rattle.st_laws_third.proofs.Sound.{Sound, apart, kept_throughout, sound_first}
use Rattle.st_laws_third.proofs.Stepping.{clients_step_on}

-- What a fresh session is: of associations, of clients.

by_dates : (k : Config) (now : Stamp) (x y : Option ClientSession) → Dates k now x y → is_fresh_in k.renew now x y ≡ true
by_dates k now None None d = refl
by_dates k now None (Some u) d = lt-ltb now.0 (u.lease.date.0 + k.renew) d
by_dates k now (Some s) y d = refl

same_fresh : (renew : ℕ) (now : Stamp) (x : Option ClientSession) → is_fresh_in renew now x x ≡ true
same_fresh renew now None = refl
same_fresh renew now (Some s) = refl

none_fresh : (renew : ℕ) (now : Stamp) (x : Option ClientSession) → is_fresh_in renew now x None ≡ true
none_fresh renew now None = refl
none_fresh renew now (Some s) = refl

pairs_fresh : (k : Config) (now : Stamp) (s : ServerId) (as_ bs : List Association) → Pairwise (StepsOn k now) as_ bs →
    is_fresh_in k.renew now (session_at (find (is_at s) as_)) (session_at (find (is_at s) bs)) ≡ true
pairs_fresh k now s [] [] p = refl
pairs_fresh k now s [] (b ∷ bs) p = absurd p
pairs_fresh k now s (a ∷ as_) [] p = absurd p
pairs_fresh k now s (a ∷ as_) (b ∷ bs) p = go (is_at s a) (is_at s b) (ap (λ x. same_server x s) p.one.server) (pairs_fresh k now s as_ bs p.rest)
  where
    go : (x y : Bool) → x ≡ y → is_fresh_in k.renew now (session_at (find (is_at s) as_)) (session_at (find (is_at s) bs)) ≡ true →
        is_fresh_in k.renew now (session_at (if x then Some a else find (is_at s) as_)) (session_at (if y then Some b else find (is_at s) bs)) ≡ true
    go true true e r = by_dates k now a.session b.session p.one.dates
    go false false e r = r
    go true false e r = cc e
    go false true e r = cc e

-- A client that begins anew has no session.
begun_none : (m : Limits) (f : Association → Association) → ((a : Association) → (f a).session ≡ None) → (s : ServerId) (as_ : List Association) →
    session_at (find (is_at s) (map (limited_association m) (map f as_))) ≡ None
begun_none m f n s [] = refl
begun_none m f n s (a ∷ as_) = go (is_at s (limited_association m (f a))) (begun_none m f n s as_)
  where
    go : (b : Bool) → session_at (find (is_at s) (map (limited_association m) (map f as_))) ≡ None →
        session_at (if b then Some (limited_association m (f a)) else find (is_at s) (map (limited_association m) (map f as_))) ≡ None
    go true r = n a
    go false r = r

module _ (w v : ThirdWorld) (so : Sound w) (c : ClientId) (old new : WorldClient) (d : ClientBeside) (there : site_of w.world c ≡ Some old) where
  becomes_fresh : Becomes w v c old new d → (s : ServerId) →
      is_fresh_in w.world.config.renew (clock_of v.world (nodes.Client c)) (session_at (association_at s (Some old))) (session_at (association_at s (Some new)))
      ≡ true
  unfolding plain.crash plain.start
  becomes_fresh (Stepped b input q t u z) s =
      let o = so.fits.sites c.0 old there in
      let now : Stamp = clock_of w.world (nodes.Client c) in
      let x = clients_step_on w.limits (record { plain = old.node.state; beside = b }) now input (so.fits.pairs c.0 old b there q) o.fit in
      let same : now ≡ clock_of v.world (nodes.Client c) =
      ap (λ ts. Rattle.std.specs.Prelude.unwrap_or (numbered ts c.0) (Rattle.st_rules.specs.World.stamp 0)) (sym t) in
      subst (λ z. is_fresh_in w.world.config.renew z (session_at (association_at s (Some old))) (session_at (association_at s (Some new))) ≡ true) same
      (subst (λ (k : Config). is_fresh_in k.renew now (session_at (association_at s (Some old))) (session_at (association_at s (Some new))) ≡ true) o.config
      (subst (λ (y : ClientState). is_fresh_in old.node.state.config.renew now (session_at (find (is_at s) old.node.state.associations))
      (session_at (find (is_at s) y.associations)) ≡ true) (sym u)
      (pairs_fresh old.node.state.config now s _ _ x.associations)))
  becomes_fresh (Crashed u z) s =
      subst (λ (y : Option ClientSession). is_fresh_in w.world.config.renew (clock_of v.world (nodes.Client c)) (session_at (association_at s (Some old))) y ≡
      true)
      (sym (ap (λ (x : ClientState). session_at (find (is_at s) x.associations)) u ∙
      begun_none w.limits plain.crashed_association (λ a. refl) s old.node.state.associations))
      (none_fresh w.world.config.renew (clock_of v.world (nodes.Client c)) (session_at (association_at s (Some old))))
  becomes_fresh (Started u z) s =
      subst (λ (y : Option ClientSession). is_fresh_in w.world.config.renew (clock_of v.world (nodes.Client c)) (session_at (association_at s (Some old))) y ≡
      true)
      (sym (ap (λ (x : ClientState). session_at (find (is_at s) x.associations)) u ∙
      begun_none w.limits plain.started_association (λ a. refl) s old.node.state.associations))
      (none_fresh w.world.config.renew (clock_of v.world (nodes.Client c)) (session_at (association_at s (Some old))))

-- After an event.
module _ (w v : ThirdWorld) (so : Sound w) where
  fresh_after : Moved w v → (c : ClientId) (s : ServerId) →
      is_fresh_in v.world.config.renew (clock_of v.world (nodes.Client c)) (session_at (association_at s (site_of w.world c)))
      (session_at (association_at s (site_of v.world c))) ≡ true
  fresh_after (Rests p k q) c s =
      subst (λ o. is_fresh_in v.world.config.renew (clock_of v.world (nodes.Client c)) (session_at (association_at s (site_of w.world c)))
      (session_at (association_at s o)) ≡ true)
      (sym (ap (λ xs. numbered xs c.0) p))
      (same_fresh v.world.config.renew (clock_of v.world (nodes.Client c)) (session_at (association_at s (site_of w.world c))))
  fresh_after (Changes e old new d there k own others x y b) c s = go (c.0 == e.0) refl
    where
      go : (r : Bool) → (c.0 == e.0) ≡ r →
          is_fresh_in v.world.config.renew (clock_of v.world (nodes.Client c)) (session_at (association_at s (site_of w.world c)))
          (session_at (association_at s (site_of v.world c))) ≡ true
      go true r =
          let i : e ≡ c = ap (λ n. record { 0 = n }) (sym (eqb-true c.0 e.0 r)) in
          subst (λ z. is_fresh_in v.world.config.renew (clock_of v.world (nodes.Client z)) (session_at (association_at s (site_of w.world z)))
          (session_at (association_at s (site_of v.world z))) ≡ true) i
          (subst (λ o. is_fresh_in v.world.config.renew (clock_of v.world (nodes.Client e)) (session_at (association_at s o))
          (session_at (association_at s (site_of v.world e))) ≡ true) (sym there)
          (subst (λ o. is_fresh_in v.world.config.renew (clock_of v.world (nodes.Client e)) (session_at (association_at s (Some old)))
          (session_at (association_at s o)) ≡ true) (sym own)
          (subst (λ (z : Config). is_fresh_in z.renew (clock_of v.world (nodes.Client e)) (session_at (association_at s (Some old)))
          (session_at (association_at s (Some new))) ≡ true) (sym k.config)
          (becomes_fresh w v so e old new d there b s))))
      go false r =
          subst (λ o. is_fresh_in v.world.config.renew (clock_of v.world (nodes.Client c)) (session_at (association_at s (site_of w.world c)))
          (session_at (association_at s o)) ≡ true)
          (sym (others c.0 (apart c.0 e.0 r)))
          (same_fresh v.world.config.renew (clock_of v.world (nodes.Client c)) (session_at (association_at s (site_of w.world c))))

-- Over a run.

all_true : {A : Type 0} (f : A → Bool) → ((x : A) → f x ≡ true) → (xs : List A) → list_all f xs ≡ true
all_true f h [] = refl
all_true f h (x ∷ xs) = ap (λ b. b && list_all f xs) (h x) ∙ all_true f h xs

pub every_welcome_is_fresh : EveryWelcomeIsFresh
every_welcome_is_fresh k m clients servers disks blocks es =
    kept_throughout WelcomesAreFresh one es [] (steps.third_traced (third_world k m clients servers disks blocks 3))
    (sound_first k m clients servers disks blocks)
  where
    one : (past : List ThirdStep) (t : ThirdTraced) (e : ThirdEvent) → Sound t.third → worlds.refusal t.third e ≡ None →
        Moved t.third (every.happens (third_counted t.third) e).third → WelcomesAreFresh past (steps.third_step t e (every.happens (third_counted t.third) e))
    one past t e so q m =
        let sc : ThirdWorldTurn = every.happens (third_counted t.third) e in
        let x : ThirdStep = steps.third_step t e sc in
        all_true (is_fresh x) (λ c. all_true (is_fresh_at x c) (λ s. fresh_after t.third sc.third so m c s) (all_servers sc.third.world))
        (all_clients sc.third.world)
