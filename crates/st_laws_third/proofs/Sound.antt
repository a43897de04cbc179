-- What holds of the clients of a world of the third form, at its start and after each event; and what holds throughout a run.
use Rattle.st_lemmas.proofs.Words
use Words.{◌≡◌, ◌≢◌, ℕ, zero, suc, ◌==◌, Bool, true, false, List, [], ◌∷◌, length, map, option_map, Option, Some, None, refl, sym, ap, ◌∙◌, subst}
use Words.{eqb-true, eq-eqb, length-map, ClientId, Config, DirtyPage, WorldRefusal}
use Words.Client as plain
use Words.ClientPages as pages
use Words.ClientState.{Association, ClientState}
use Words.Lists.{Has}
use Words.Lookups.{some_is}
use Words.nodes
use Words.Numbers.{get_map, numbered_has}
use Words.Tables.{has_map}
use Words.Truth.{not_both}
use Words.World.{World, WorldClient, clock_of, fresh_site, fresh_world, numbered, site_of}
use Rattle.st_rules.specs.Extents.{numbers}
use Rattle.st_laws_steps.specs.Client.Losses.{Fit}
use Rattle.st_laws_steps.proofs.Client.Stepping.{pairs_has}
use Rattle.st_third.specs.declared.event.ThirdEvent.{ThirdEvent}
use Rattle.st_third.specs.declared.limits.Limits.{Limits}
use Rattle.st_third.specs.Events as every
use Rattle.st_third.specs.Events.{ThirdWorldTurn, third_counted}
use Rattle.st_third.specs.Limits.{is_third, limited_association, limited_client, limited_site, with_limits}
use Rattle.st_third.specs.Promises.{ThirdPromise, Throughout}
use Rattle.st_third.specs.State.{ClientBeside, beside_of, fresh_beside_client}
use Rattle.st_third.specs.Steps as steps
use Rattle.st_third.specs.Steps.{ThirdStep, ThirdTraced}
use Rattle.st_third.specs.World as worlds
use Rattle.st_third.specs.World.{ThirdWorld, third_world}
use Rattle.st_laws_third.specs.Invariants.{ClientFits, ClientsFit, EveryClientFits, WorldFits}
use Rattle.st_laws_third.specs.Sessions.{StepsOn}
use Rattle.st_laws_third.proofs.Moves.{Becomes, Moved, Rests, Changes, Stepped, Crashed, Started, elsewhere, moves}
use Rattle.st_laws_third.proofs.Pairs.{clients_stay_paired}
use Rattle.st_laws_third.proofs.Stepping.{clients_step_on}

pub begun_fit : (m : Limits) (a : Association) → a.session ≡ None → a.store ≡ pages.empty_store → Fit (limited_association m a)
begun_fit m a n e =
    subst (λ st. Fit (record a { store = record st { pages = record st.pages { most_clean = m.clean } } })) (sym e)
    (subst (λ x. Fit (record a { session = x; store = record pages.empty_store { pages = record pages.no_pages { most_clean = m.clean } } })) (sym n)
    (record { mapped = λ ino p d q. absurd (no d q); fresh = tt }))
  where
    no : (d : DirtyPage) → ◌≡◌ {A = Option DirtyPage} None (Some d) → ⊥
    no d q = cc

all_begun : (m : Limits) (f : Association → Association) → ((a : Association) → (f a).session ≡ None) → ((a : Association) → (f a).store ≡ pages.empty_store) →
    (as_ : List Association) (b : Association) → Has b (map (limited_association m) (map f as_)) → Fit b
all_begun m f n e as_ b h =
    let x = has_map (limited_association m) (map f as_) b h in
    let y = has_map f as_ x.0 x.1 in
    subst Fit (sym x.2) (subst (λ z. Fit (limited_association m z)) (sym y.2) (begun_fit m (f y.0) (n y.0) (e y.0)))

-- What holds of a world: its clients fit, and it is of the third form.
pub record Sound (w : ThirdWorld) : Type 0 where
  pub fits : WorldFits w
  pub form : is_third w.world.form ≡ true

module _ (w v : ThirdWorld) (so : Sound w) (c : ClientId) (old new : WorldClient) (d : ClientBeside) (there : site_of w.world c ≡ Some old) where
  -- how a client changes
  becomes_fit : Becomes w v c old new d → ClientFits w.world.config new
  unfolding plain.crash plain.start
  becomes_fit (Stepped b input q t u z) =
      let o = so.fits.sites c.0 old there in
      let s = clients_step_on w.limits (record { plain = old.node.state; beside = b }) (clock_of w.world (nodes.Client c)) input
      (so.fits.pairs c.0 old b there q) o.fit in
      record {
        config = ap (λ (x : ClientState). x.config) u ∙ s.config ∙ o.config;
        fit =
            subst (λ (x : ClientState). (a : Association) → Has a x.associations → Fit a) (sym u)
            (pairs_has (StepsOn old.node.state.config (clock_of w.world (nodes.Client c))) Fit Fit (λ a b r. r.fit) _ _ s.associations o.fit);
      }
  becomes_fit (Crashed u z) =
      record {
        config = ap (λ (x : ClientState). x.config) u ∙ (so.fits.sites c.0 old there).config;
        fit =
            subst (λ (x : ClientState). (a : Association) → Has a x.associations → Fit a) (sym u)
            (all_begun w.limits plain.crashed_association (λ a. refl) (λ a. refl) old.node.state.associations);
      }
  becomes_fit (Started u z) =
      record {
        config = ap (λ (x : ClientState). x.config) u ∙ (so.fits.sites c.0 old there).config;
        fit =
            subst (λ (x : ClientState). (a : Association) → Has a x.associations → Fit a) (sym u)
            (all_begun w.limits plain.started_association (λ a. refl) (λ a. refl) old.node.state.associations);
      }

  begun_paired : (x : ClientState) → new.node.state ≡ limited_client w.limits x → d ≡ fresh_beside_client x →
      length d.besides ≡ length new.node.state.associations
  unfolding fresh_beside_client
  begun_paired x u z =
      ap (λ (b : ClientBeside). length b.besides) z
      ∙ length-map x.associations beside_of
      ∙ sym (length-map x.associations (limited_association w.limits))
      ∙ sym (ap (λ (s : ClientState). length s.associations) u)

  becomes_paired : Becomes w v c old new d → length d.besides ≡ length new.node.state.associations
  becomes_paired (Stepped b input q t u z) =
      let p = clients_stay_paired.steps w.limits (record { plain = old.node.state; beside = b }) (clock_of w.world (nodes.Client c)) input
      (so.fits.pairs c.0 old b there q) in
      ap (λ (x : ClientBeside). length x.besides) z ∙ p.paired ∙ sym (ap (λ (s : ClientState). length s.associations) u)
  becomes_paired (Crashed u z) = begun_paired (plain.crash old.node.state) u z
  becomes_paired (Started u z) = begun_paired (plain.start old.node.state) u z

pub apart : (n m : ℕ) → (n == m) ≡ false → n ≢ m
apart n m f e = not_both (n == m) (eq-eqb n m e) f

-- After an event.
module _ (w v : ThirdWorld) (so : Sound w) where
  pub sound_after : Moved w v → Sound v
  sound_after (Rests p k q) =
      record {
        fits =
            record {
              sites = λ n site e. subst (λ x. ClientFits x site) (sym k.config) (so.fits.sites n site (sym (ap (λ xs. numbered xs n) p) ∙ e));
              there =
                  λ n site e. let z = so.fits.there n site (sym (ap (λ xs. numbered xs n) p) ∙ e) in (z.0, ap (λ xs. numbered xs n) q ∙ z.1);
              pairs = λ n site b e h. so.fits.pairs n site b (sym (ap (λ xs. numbered xs n) p) ∙ e) (sym (ap (λ xs. numbered xs n) q) ∙ h);
            };
        form = ap is_third k.form ∙ so.form;
      }
  sound_after (Changes c old new d there k own others x y b) =
      record {
        fits =
            record {
              sites = λ n site e. subst (λ z. ClientFits z site) (sym k.config) (site_at n site e (n == c.0) refl);
              there = λ n site e. there_at n site e (n == c.0) refl;
              pairs = λ n site z e h. pair_at n site z e h (n == c.0) refl;
            };
        form = ap is_third k.form ∙ so.form;
      }
    where
      before : (b : ClientBeside) × (numbered w.besides c.0 ≡ Some b)
      before = so.fits.there c.0 old there

      there_at : (n : ℕ) (site : WorldClient) → numbered v.world.clients n ≡ Some site → (r : Bool) → (n == c.0) ≡ r →
          (z : ClientBeside) × (numbered v.besides n ≡ Some z)
      there_at n site e true r = (d, ap (numbered v.besides) (eqb-true n c.0 r) ∙ x before.0 before.1)
      there_at n site e false r =
          let z = so.fits.there n site (sym (others n (apart n c.0 r)) ∙ e) in (z.0, y n (apart n c.0 r) ∙ z.1)

      site_at : (n : ℕ) (site : WorldClient) → numbered v.world.clients n ≡ Some site → (r : Bool) → (n == c.0) ≡ r → ClientFits w.world.config site
      site_at n site e true r =
          let i = eqb-true n c.0 r in
          subst (ClientFits w.world.config) (some_is (sym own ∙ sym (ap (numbered v.world.clients) i) ∙ e)) (becomes_fit w v so c old new d there b)
      site_at n site e false r = so.fits.sites n site (sym (others n (apart n c.0 r)) ∙ e)

      pair_at : (n : ℕ) (site : WorldClient) (z : ClientBeside) → numbered v.world.clients n ≡ Some site → numbered v.besides n ≡ Some z → (r : Bool) →
          (n == c.0) ≡ r →
          length z.besides ≡ length site.node.state.associations
      pair_at n site z e h true r =
          let i = eqb-true n c.0 r in
          let s : new ≡ site = some_is (sym own ∙ sym (ap (numbered v.world.clients) i) ∙ e) in
          ap (λ (t : ClientBeside). length t.besides) (some_is (sym h ∙ ap (numbered v.besides) i ∙ x before.0 before.1))
          ∙ becomes_paired w v so c old new d there b
          ∙ ap (λ (t : WorldClient). length t.node.state.associations) s
      pair_at n site z e h false r = so.fits.pairs n site z (sym (others n (apart n c.0 r)) ∙ e) (sym (y n (apart n c.0 r)) ∙ h)

-- Over a run: a promise holds throughout, if it is kept at each step from a world in which this holds, and what else each event keeps.
module _ (more : ThirdWorld → Type 0) (after : (w v : ThirdWorld) → Sound w → more w → Moved w v → more v) (promise : ThirdPromise)
    (one : (past : List ThirdStep) (t : ThirdTraced) (e : ThirdEvent) → Sound t.third → more t.third → worlds.refusal t.third e ≡ None →
    Moved t.third (every.happens (third_counted t.third) e).third → more (every.happens (third_counted t.third) e).third →
    promise past (steps.third_step t e (every.happens (third_counted t.third) e))) where
  abbrev Goes_on : List ThirdEvent → Type 0
  Goes_on es = (past : List ThirdStep) (t : ThirdTraced) → Sound t.third → more t.third → Throughout promise past (steps.steps es t)

  pub kept_throughout_with : (es : List ThirdEvent) → Goes_on es
  unfolding Throughout steps.steps steps.steps_on every.world_step every.world_by
  kept_throughout_with [] past t so x = tt
  kept_throughout_with (e ∷ es) past t so x = go (kept_throughout_with es) (worlds.refusal t.third e) refl
    where
      go : Goes_on es → (r : Option WorldRefusal) → worlds.refusal t.third e ≡ r →
          Throughout promise past (steps.steps_on (steps.steps es) t e (every.world_by t.third e r))
      go rest (Some r) q = tt
      go rest None q =
          let sc : ThirdWorldTurn = every.happens (third_counted t.third) e in
          let m : Moved t.third sc.third = elsewhere t.third (third_counted t.third) sc.third refl refl (moves (third_counted t.third) e so.form) in
          let y : more sc.third = after t.third sc.third so x m in
          (one past t e so x q m y, rest _ (steps.traced_after e t sc) (sound_after t.third sc.third so m) y)

-- without anything else
pub kept_throughout : (promise : ThirdPromise) →
    ((past : List ThirdStep) (t : ThirdTraced) (e : ThirdEvent) → Sound t.third → worlds.refusal t.third e ≡ None →
    Moved t.third (every.happens (third_counted t.third) e).third → promise past (steps.third_step t e (every.happens (third_counted t.third) e))) →
    (es : List ThirdEvent) (past : List ThirdStep) (t : ThirdTraced) → Sound t.third → Throughout promise past (steps.steps es t)
kept_throughout promise one es past t so =
    kept_throughout_with (λ w. Unit {0}) (λ w v so x m. tt) promise (λ past t e so x q m y. one past t e so q m) es past t so tt

-- At the start.

pub numbered_map : {A B : Type 0} (f : A → B) (xs : List A) (n : ℕ) → numbered (map f xs) n ≡ option_map f (numbered xs n)
numbered_map f xs zero = refl
numbered_map f xs (suc n) = get_map f xs n

pub sound_first : (k : Config) (m : Limits) (clients servers disks blocks : ℕ) → Sound (third_world k m clients servers disks blocks 3)
unfolding third_world fresh_world with_limits plain.fresh_client fresh_beside_client
sound_first k m clients servers disks blocks = record { fits = record { sites = sites; there = there; pairs = pairs }; form = refl }
  where
    w : ThirdWorld
    w = third_world k m clients servers disks blocks 3

    v : World
    v = fresh_world k clients servers disks blocks 3

    -- a client at the start
    site_is : (n : ℕ) (site : WorldClient) → numbered w.world.clients n ≡ Some site →
        (x : WorldClient) × (numbered v.clients n ≡ Some x) × (site ≡ limited_site m x)
    site_is n site e = go (numbered v.clients n) refl (sym (numbered_map (limited_site m) v.clients n) ∙ e)
      where
        go : (o : Option WorldClient) → numbered v.clients n ≡ o → option_map (limited_site m) o ≡ Some site →
            (x : WorldClient) × (numbered v.clients n ≡ Some x) × (site ≡ limited_site m x)
        go None q r = cc r
        go (Some x) q r = (x, q, sym (some_is r))

    fresh_is : (n : ℕ) (x : WorldClient) → numbered v.clients n ≡ Some x → (i : ℕ) × (x ≡ fresh_site k servers i)
    fresh_is n x q = let h = has_map (fresh_site k servers) (numbers 1 clients) x (numbered_has v.clients n x q) in (h.0, h.2)

    sites : (n : ℕ) (site : WorldClient) → numbered w.world.clients n ≡ Some site → ClientFits k site
    sites n site e =
        let z = site_is n site e in
        let y = fresh_is n z.0 z.1 in
        subst (ClientFits k) (sym (z.2 ∙ ap (limited_site m) y.1))
        (record {
          config = refl;
          fit = λ a h. fits a h;
        })
      where
        fits : (a : Association) → Has a (map (limited_association m) (map plain.fresh_association (numbers 1 servers))) → Fit a
        fits a h =
            let x = has_map (limited_association m) (map plain.fresh_association (numbers 1 servers)) a h in
            let y = has_map plain.fresh_association (numbers 1 servers) x.0 x.1 in
            subst Fit (sym x.2) (subst (λ z. Fit (limited_association m z)) (sym y.2) (begun_fit m (plain.fresh_association y.0) refl refl))

    there : (n : ℕ) (site : WorldClient) → numbered w.world.clients n ≡ Some site → (b : ClientBeside) × (numbered w.besides n ≡ Some b)
    there n site e =
        let z = site_is n site e in
        (worlds.beside_site z.0, numbered_map worlds.beside_site v.clients n ∙ ap (option_map worlds.beside_site) z.1)

    pairs : (n : ℕ) (site : WorldClient) (b : ClientBeside) → numbered w.world.clients n ≡ Some site → numbered w.besides n ≡ Some b →
        length b.besides ≡ length site.node.state.associations
    pairs n site b e h =
        let z = site_is n site e in
        let c : b ≡ worlds.beside_site z.0 = some_is (sym h ∙ numbered_map worlds.beside_site v.clients n ∙ ap (option_map worlds.beside_site) z.1) in
        ap (λ (x : ClientBeside). length x.besides) c
        ∙ length-map z.0.node.state.associations beside_of
        ∙ sym (length-map z.0.node.state.associations (limited_association m))
        ∙ sym (ap (λ (x : WorldClient). length x.node.state.associations) z.2)

pub every_client_fits : EveryClientFits
every_client_fits k m clients servers disks blocks es =
    kept_throughout ClientsFit (λ past t e so q move. (sound_after t.third _ so move).fits) es []
    (steps.third_traced (third_world k m clients servers disks blocks 3))
    (sound_first k m clients servers disks blocks)
