-- An owner of an old entry whose life is present after an event: it was so before it, at the same instance of its client.
use Rattle.st_lemmas.proofs.Words
use Words.{◌≡◌, ◌≤◌, Bool, true, false, List, [], ◌∷◌, Some, refl, sym, ap, ◌∙◌, subst, inl, inr, arith}
use Words.{find, map, ClientId, Event, Life, LogOwner, Stamp}
use Words.nodes
use Words.Client as cl
use Words.ClientState.{Association, is_at}
use Words.Events as ev
use Words.Events.{WorldTurn}
use Words.Lists.{Has}
use Words.Lookups.{some_is}
use Words.Tables.{has_map}
use Words.Truth.{clash}
use Words.World.{World, WorldClient, clock_of, site_of}
use Rattle.st_laws_steps.specs.Client.Losses.{is_ended}
use Rattle.st_laws_steps.specs.Lives.Lives.{LifeNext, LivesHold, NodeHolds, Pairwise, owner_of}
use Rattle.st_laws_steps.proofs.Lives.Associations.{own_found}
use Rattle.st_laws_pages.proofs.Lives.LifeSteps.{steps_so}
use Rattle.st_laws_volume.proofs.EventClients.{Crashes, SiteNext, SiteStep, Starts, Stays, Steps}
use Rattle.st_laws_volume.proofs.FailureLives.{PresentOf, life_upto}
use Rattle.st_rules.specs.ClientState.{ClientState}

-- the partner of a row of the second list
pub pairs_back : {A : Type 0} (R : A → A → Type 0) (xs ys : List A) (y : A) → Pairwise R xs ys → Has y ys → (x : A) × Has x xs × R x y
pairs_back R [] [] y r h = absurd h
pairs_back R [] (z ∷ ys) y r h = absurd r
pairs_back R (x ∷ xs) [] y r h = absurd r
pairs_back R (x ∷ xs) (z ∷ ys) y r (inl e) = (x, inl refl, subst (R x) (sym e) r.one)
pairs_back R (x ∷ xs) (z ∷ ys) y r (inr h) = let b = pairs_back R xs ys y r.rest h in (b.0, inr b.1, b.2)

-- a life never falls
pub next_life_upto : (now : Stamp) (s : ClientState) (a b : Association) → LifeNext now s a b → a.life.0 ≤ b.life.0
next_life_upto now s a b n = go (is_ended s.config now a.session) refl
  where
    go : (k : Bool) → is_ended s.config now a.session ≡ k → a.life.0 ≤ b.life.0
    go true q = let z = ap (λ (l : Life). l.0) (n.lost q) in omega (arith, z)
    go false q = let z = ap (λ (l : Life). l.0) (n.lasts q).0 in omega (arith, z)

module _ (t : World) (e : Event) (sc : WorldTurn) (lives : LivesHold t) where
  -- an association after a step of its client, and what it was before
  pub stepped : (d : ClientId) (s : SiteStep t sc d) (b : Association) → Has b s.after.node.state.associations →
      (a : Association) × Has a s.site.node.state.associations × LifeNext (clock_of t (nodes.Client d)) s.site.node.state a b
  stepped d s b i =
      pairs_back (LifeNext (clock_of t (nodes.Client d)) s.site.node.state) s.site.node.state.associations
      (cl.node_turn s.site.node (cl.client_step s.site.node.state (clock_of t (nodes.Client d)) s.input)).node.state.associations b
      (steps_so t d s.site s.site s.input s.there refl lives).pairs (subst (λ (n : cl.ClientNode). Has b n.state.associations) s.node i)

  -- what was before
  pub record Before (o : LogOwner) (p : PresentOf sc.world o) : Type 0 where
    pub was : PresentOf t o
    pub starts : was.site.starts ≡ p.site.starts

  module _ (o : LogOwner) (i : Has o (map owner_of t.log)) (p : PresentOf sc.world o) where
    by_step : (s : SiteStep t sc o.client) → Before o p
    by_step s = go (stepped o.client s p.a (subst (λ (z : WorldClient). Has p.a z.node.state.associations) same p.has))
      where
        same : p.site ≡ s.after
        same = some_is (sym p.there ∙ s.left)

        n : NodeHolds t.config t.clocks t.ended o.client s.site.node
        n = lives.lives.sites o.client s.site s.there

        go : (a : Association) × Has a s.site.node.state.associations × LifeNext (clock_of t (nodes.Client o.client)) s.site.node.state a p.a → Before o p
        go (a, j, next) =
            record {
              was =
                  record {
                    site = s.site;
                    there = s.there;
                    runs = s.runs;
                    a = a;
                    has = j;
                    place = place;
                    server = server;
                    life = ap (λ k. record { 0 = k }) life;
                  };
              starts = sym s.starts ∙ ap (λ (z : WorldClient). z.starts) (sym same);
            }
          where
            server : a.server ≡ o.file.server
            server = next.server ∙ p.server

            place : find (is_at o.file.server) s.site.node.state.associations ≡ Some a
            place = ap (λ v. find (is_at v) s.site.node.state.associations) (sym server) ∙ own_found s.site.node.state.associations n.once a j

            life : a.life.0 ≡ o.life.0
            life =
                let low = life_upto t lives o i s.site s.there a place in
                let up = next_life_upto (clock_of t (nodes.Client o.client)) s.site.node.state a p.a next in
                let own = ap (λ (l : Life). l.0) p.life in omega (arith, low, up, own)

    by_start : (old : WorldClient) → site_of t o.client ≡ Some old → site_of sc.world o.client ≡ Some (ev.started_site old) → Before o p
    unfolding cl.start
    by_start old there left =
        go (has_map cl.started_association old.node.state.associations p.a
        (subst (λ (z : WorldClient). Has p.a z.node.state.associations) (some_is (sym p.there ∙ left)) p.has))
      where
        n : NodeHolds t.config t.clocks t.ended o.client old.node
        n = lives.lives.sites o.client old there

        go : (x : Association) × Has x old.node.state.associations × (p.a ≡ cl.started_association x) → Before o p
        go (x, j, q) =
            let server : x.server ≡ o.file.server = ap (λ (z : Association). z.server) (sym q) ∙ p.server in
            let low =
            life_upto t lives o i old there x
            (ap (λ v. find (is_at v) old.node.state.associations) (sym server) ∙ own_found old.node.state.associations n.once x j) in
            let own = ap (λ (l : Life). l.0) p.life in
            let next = ap (λ (z : Association). z.life.0) q in absurd (omega (arith, low, own, next))

    pub present_before : SiteNext t e sc o.client → Before o p
    present_before (Stays q) =
        record {
          was =
              record {
                site = p.site;
                there = sym q ∙ p.there;
                runs = p.runs;
                a = p.a;
                has = p.has;
                place = p.place;
                server = p.server;
                life = p.life;
              };
          starts = refl;
        }
    present_before (Steps s r q) = by_step s
    present_before (Crashes site q left stopped) = absurd (clash p.runs (ap (λ (z : WorldClient). z.node.running) (some_is (sym p.there ∙ left)) ∙ stopped))
    present_before (Starts old there stopped left) = by_start old there left
