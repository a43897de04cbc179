-- What holds of each association of every client, with what is beside it and the number of the client's next command, in a world of the third form: at its
-- start, and after each event.
use Rattle.st_lemmas.proofs.Words
use Words.{◌≡◌, ◌==◌, ℕ, Bool, true, false, List, [], ◌∷◌, map, option_map, Option, Some, None, refl, sym, ap, ◌∙◌, subst, inl, inr}
use Words.{eqb-true, ClientId, Config, Stamp}
use Words.nodes
use Words.Client as plain
use Words.ClientPages as pages
use Words.ClientState.{Association, ClientState}
use Words.Lists.{Has}
use Words.Lookups.{some_is}
use Words.Numbers.{numbered_has}
use Words.Tables.{has_map}
use Words.World.{World, WorldClient, clock_of, fresh_site, fresh_world, numbered, site_of}
use Rattle.st_rules.specs.Extents.{numbers}
use Rattle.st_third.specs.declared.event.ThirdInput.{ThirdInput}
use Rattle.st_third.specs.declared.limits.Limits.{Limits}
use Rattle.st_third.specs.declared.output.ThirdOutput.{ThirdOutput}
use Rattle.st_third.specs.Limits.{limited_association, limited_client, limited_site, with_limits}
use Rattle.st_third.specs.Client.{client_step}
use Rattle.st_third.specs.State.{Beside, ClientBeside, ThirdClient, beside_of, fresh_beside, fresh_beside_client}
use Rattle.st_third.specs.World as worlds
use Rattle.st_third.specs.World.{ThirdWorld, third_world}
use Rattle.st_laws_third.proofs.Folds.{Both, KeepsBy, anything, client_holds_by, provided}
use Rattle.st_laws_third.proofs.Moves.{Becomes, Moved, Rests, Changes, Stepped, Crashed, Started}
use Rattle.st_laws_third.proofs.Sound.{Sound, apart, begun_fit, numbered_map}
use Rattle.st_laws_third.proofs.Told.{Said_by}

module _ (good : Config → Limits → ℕ → Association → Beside → Type 0) (fine : Limits → ThirdOutput → Type 0)
    (law : (k : Config) (m : Limits) (now : Stamp) → KeepsBy anything k m now (good k m) (fine m))
    (begun : (k : Config) (m : Limits) (n : ℕ) (a : Association) → a.session ≡ None → a.store ≡ pages.empty_store →
    good k m n (limited_association m a) fresh_beside)
  where
    -- So it is with each client.
    abbrev pub AllGood : ThirdWorld → Type 0
    AllGood w =
        (n : ℕ) (site : WorldClient) (b : ClientBeside) → numbered w.world.clients n ≡ Some site → numbered w.besides n ≡ Some b →
        Both (good w.world.config w.limits site.node.state.next_command) site.node.state.associations b.besides

    -- associations without a session, of which nothing is known
    begun_both : (k : Config) (m : Limits) (n : ℕ) (as_ : List Association) → ((a : Association) → Has a as_ → (a.session ≡ None) × (a.store ≡ pages.empty_store)) →
        Both (good k m n) (map (limited_association m) as_) (map beside_of as_)
    begun_both k m n [] f = tt
    begun_both k m n (a ∷ as_) f =
        let z = f a (inl refl) in
        record { fit = begun_fit m a z.0 z.1; one = begun k m n a z.0 z.1; rest = begun_both k m n as_ (λ x h. f x (inr h)) }

    begun_all : {A : Type 0} (k : Config) (m : Limits) (i : ℕ) (f : A → Association) → ((a : A) → (f a).session ≡ None) →
        ((a : A) → (f a).store ≡ pages.empty_store) → (xs : List A) →
        Both (good k m i) (map (limited_association m) (map f xs)) (map beside_of (map f xs))
    begun_all k m i f n e xs =
        begun_both k m i (map f xs)
        (λ a h. let y = has_map f xs a h in
        (ap (λ (x : Association). x.session) y.2 ∙ n y.0, ap (λ (x : Association). x.store) y.2 ∙ e y.0))

    module _ (w v : ThirdWorld) (so : Sound w) (h : AllGood w) where
      abbrev G : ℕ → Association → Beside → Type 0
      G = good w.world.config w.limits

      becomes_good : (c : ClientId) (old new : WorldClient) (d : ClientBeside) → site_of w.world c ≡ Some old → Becomes w v c old new d →
          Both (G new.node.state.next_command) new.node.state.associations d.besides
      unfolding plain.crash plain.start fresh_beside_client
      becomes_good c old new d there (Stepped b input q t u z) =
          let now : Stamp = clock_of w.world (nodes.Client c) in
          let x : ThirdClient = record { plain = old.node.state; beside = b } in
          subst (λ (s : ClientState). Both (G s.next_command) s.associations d.besides) (sym u)
          (subst (λ (e : ClientBeside). Both (G (client_step w.limits x now input).client.plain.next_command) (client_step w.limits x now input).client.plain.associations e.besides) (sym z)
          (client_holds_by anything w.world.config w.limits now G (fine w.limits) (law w.world.config w.limits now) x input
          (provided w.world.config w.limits now G (fine w.limits) (law w.world.config w.limits now) x input) (so.fits.sites c.0 old there).config
          (h c.0 old b there q)).0)
      becomes_good c old new d there (Crashed u z) =
          subst (λ (s : ClientState). Both (G s.next_command) s.associations d.besides) (sym u)
          (subst (λ (e : ClientBeside). Both (G (plain.crash old.node.state).next_command) (limited_client w.limits (plain.crash old.node.state)).associations e.besides) (sym z)
          (begun_all w.world.config w.limits _ plain.crashed_association (λ a. refl) (λ a. refl) old.node.state.associations))
      becomes_good c old new d there (Started u z) =
          subst (λ (s : ClientState). Both (G s.next_command) s.associations d.besides) (sym u)
          (subst (λ (e : ClientBeside). Both (G (plain.start old.node.state).next_command) (limited_client w.limits (plain.start old.node.state)).associations e.besides) (sym z)
          (begun_all w.world.config w.limits _ plain.started_association (λ a. refl) (λ a. refl) old.node.state.associations))

      -- with the settings and the limits from before
      abbrev Same : Config → Limits → Type 0
      Same k m =
          (n : ℕ) (site : WorldClient) (b : ClientBeside) → numbered v.world.clients n ≡ Some site → numbered v.besides n ≡ Some b →
          Both (good k m site.node.state.next_command) site.node.state.associations b.besides

      pub good_after : Moved w v → AllGood v
      good_after (Rests p k q) =
          subst (λ x. Same x v.limits) (sym k.config)
          (subst (λ x. Same w.world.config x) (sym k.limits)
          (λ n site b e i. h n site b (sym (ap (λ xs. numbered xs n) p) ∙ e) (sym (ap (λ xs. numbered xs n) q) ∙ i)))
      good_after (Changes c old new d there k own others x y b) =
          subst (λ z. Same z v.limits) (sym k.config)
          (subst (λ z. Same w.world.config z) (sym k.limits) (λ n site z e i. at n site z e i (n == c.0) refl))
        where
          before : (b : ClientBeside) × (numbered w.besides c.0 ≡ Some b)
          before = so.fits.there c.0 old there

          at : (n : ℕ) (site : WorldClient) (z : ClientBeside) → numbered v.world.clients n ≡ Some site → numbered v.besides n ≡ Some z → (r : Bool) →
              (n == c.0) ≡ r → Both (G site.node.state.next_command) site.node.state.associations z.besides
          at n site z e i true r =
              let j = eqb-true n c.0 r in
              let s : new ≡ site = some_is (sym own ∙ sym (ap (numbered v.world.clients) j) ∙ e) in
              let t : d ≡ z = some_is (sym (x before.0 before.1) ∙ sym (ap (numbered v.besides) j) ∙ i) in
              subst (λ (u : WorldClient). Both (G u.node.state.next_command) u.node.state.associations z.besides) s
              (subst (λ (u : ClientBeside). Both (G new.node.state.next_command) new.node.state.associations u.besides) t (becomes_good c old new d there b))
          at n site z e i false r = h n site z (sym (others n (apart n c.0 r)) ∙ e) (sym (y n (apart n c.0 r)) ∙ i)

    -- each word of a client
    pub good_said : (w : ThirdWorld) → Sound w → AllGood w → (c : ClientId) (site : WorldClient) (b : ClientBeside) (input : ThirdInput) →
        site_of w.world c ≡ Some site → worlds.beside_of w c ≡ Some b → (o : ThirdOutput) → Has o (Said_by w c site b input) → fine w.limits o
    good_said w so h c site b input there q =
        let now : Stamp = clock_of w.world (nodes.Client c) in
        (client_holds_by anything w.world.config w.limits now (good w.world.config w.limits) (fine w.limits) (law w.world.config w.limits now)
        (record { plain = site.node.state; beside = b }) input
        (provided w.world.config w.limits now (good w.world.config w.limits) (fine w.limits) (law w.world.config w.limits now)
        (record { plain = site.node.state; beside = b }) input) (so.fits.sites c.0 site there).config (h c.0 site b there q)).1

    pub good_first : (k : Config) (m : Limits) (clients servers disks blocks : ℕ) → AllGood (third_world k m clients servers disks blocks 3)
    unfolding third_world fresh_world with_limits plain.fresh_client fresh_beside_client
    good_first k m clients servers disks blocks n site b e i = go (numbered v.clients n) refl (sym (numbered_map (limited_site m) v.clients n) ∙ e)
      where
        v : World
        v = fresh_world k clients servers disks blocks 3

        fresh : (x : WorldClient) → numbered v.clients n ≡ Some x → (j : ℕ) × (x ≡ fresh_site k servers j)
        fresh x q = let h = has_map (fresh_site k servers) (numbers 1 clients) x (numbered_has v.clients n x q) in (h.0, h.2)

        go : (o : Option WorldClient) → numbered v.clients n ≡ o → option_map (limited_site m) o ≡ Some site →
            Both (good k m site.node.state.next_command) site.node.state.associations b.besides
        go None q r = cc r
        go (Some x) q r =
            let f = fresh x q in
            let beside : b ≡ worlds.beside_site x = some_is (sym i ∙ numbered_map worlds.beside_site v.clients n ∙ ap (option_map worlds.beside_site) q) in
            subst (λ (z : WorldClient). Both (good k m z.node.state.next_command) z.node.state.associations b.besides) (some_is r)
            (subst (λ (z : ClientBeside). Both (good k m x.node.state.next_command) (limited_site m x).node.state.associations z.besides) (sym beside)
            (subst (λ (z : WorldClient). Both (good k m z.node.state.next_command) (limited_site m z).node.state.associations (worlds.beside_site z).besides) (sym f.1)
            (begun_all k m _ plain.fresh_association (λ a. refl) (λ a. refl) (numbers 1 servers))))
