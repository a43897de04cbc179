-- Each present lease, and each that a life had when it ended, is among the dates: after every event.
use Rattle.st_lemmas.proofs.Words
use Words.{◌≡◌, ℕ, ◌≤◌, Bool, true, false, List, ◌++◌, ◌==◌, Option, Some, None, refl, sym, ap, ◌∙◌, subst, inl, inr, arith, ◌⊎◌, find, option_map}
use Words.{suc, zero, eq-eqb, ClientId, Life, ServerId, Stamp, Event, ClientInput, LeaseLife}
use Words.nodes
use Words.events
use Words.Client as cl
use Words.ClientLease as lease
use Words.ClientState.{ClientSession, Association, ClientState, is_at}
use Words.Events as ev
use Words.Events.{WorldTurn, present_life, present_lives}
use Words.History.{History, LeaseDate, remember}
use Words.Safety.{all_lives}
use Words.World as world
use Words.World.{World, WorldClient, site_of, numbered, with_numbered, clock_of, lives_of, life_of_association}
use Words.Lists.{Has}
use Words.Lookups.{some_is}
use Words.Numbers.{numbered_own}
use Words.Tables.{has_append, has_map, has_map_in, found_at}
use Words.Members.{has_left, has_right}
use Words.Worlds.{present_at, present_in}
use Rattle.st_laws_steps.specs.Client.Losses.{is_ended}
use Rattle.st_laws_steps.specs.Lives.Lives.{LivesHold, NodeHolds, Stepped, LifeNext, ended_rows, rows_lost}
use Rattle.st_laws_steps.proofs.Lives.Associations.{own_found, pair_found, PairFound, lost_has, LostOf}
use Rattle.st_laws_pages.proofs.Lives.Lasting.{Flushed, flush_parts}
use Rattle.st_laws_steps.proofs.Client.Stepping.{step_lives}
use Rattle.st_laws_pages.proofs.Lives.Turning.{Said, says_lives}
use Rattle.st_laws_pages.proofs.Losses.Emptied.{Emptied, step_empties}
use Rattle.st_laws_pages.proofs.Asks.World.{site_case}
use Rattle.st_laws_leases.proofs.History.Step.{step_noted, ends_before}
use Rattle.st_laws_leases.proofs.History.Dates.{Dated, dates_out, dated_other, dated_own}

-- the lease end of a life is among the dates
abbrev pub LifeDated : List LeaseDate → LeaseLife → Type 0
LifeDated ds e = Dated ds e.client e.server e.life e.end

-- of all lives
abbrev pub AllDated : List LeaseDate → World → Type 0
AllDated ds w = (e : LeaseLife) → Has e (all_lives w) → LifeDated ds e

-- a present life belongs to a client
pub record Present (w : World) (e : LeaseLife) : Type 0 where
  pub client : ClientId
  pub site : WorldClient
  pub there : site_of w client ≡ Some site
  pub among : Has e (lives_of site.node.state)

pub is_present : (w : World) (e : LeaseLife) → Has e (present_lives w.clients) → Present w e
is_present w e h = let z = present_at w.clients e h in record { client = record { 0 = suc z.0 }; site = z.1; there = z.2; among = z.3 }

pub present_dated : (ds : List LeaseDate) (w : World) (c : ClientId) (site : WorldClient) → AllDated ds w → site_of w c ≡ Some site → (e : LeaseLife) → Has e (lives_of site.node.state) → LifeDated ds e
present_dated ds w c site h i e j = go c.0 i
  where
    go : (n : ℕ) → numbered w.clients n ≡ Some site → LifeDated ds e
    go zero q = cc
    go (suc n) q = h e (has_left (present_lives w.clients) w.ended e (present_in w.clients n site e q j))

pub remembered : (w : World) (e : Event) (h : History) → (remember w e h).dates ≡ h.dates
unfolding remember
remembered w (events.Crash (nodes.Server s)) h = refl
remembered w (events.Crash (nodes.Client c)) h = refl
remembered w (events.Start (nodes.Server s)) h = refl
remembered w (events.Start (nodes.Client c)) h = refl
remembered w e h = refl

-- A step of a client.
module _ (w : World) (c : ClientId) (old site : WorldClient) (input : ClientInput) (there : site_of w c ≡ Some old) (same : old.node ≡ site.node) (runs : site.node.running ≡ true) (lives : LivesHold w) where
  abbrev pub now : Stamp
  now = clock_of w (nodes.Client c)

  abbrev pub st : ClientState
  st = site.node.state

  abbrev pub u : Rattle.st_rules.specs.ClientState.ClientTurn
  u = cl.client_step st now input

  abbrev pub t : cl.NodeTurn
  t = cl.node_turn site.node u

  abbrev pub v0 : World
  v0 = ev.with_site c (ev.at_node t.node site) w

  abbrev pub says : WorldTurn
  says = ev.client_says_all c st t.out (ev.quiet v0)

  abbrev pub v : World
  v = ev.flushes c t.node.state (world.all_servers says.world) says.world

  node : NodeHolds w.config w.clocks w.ended c site.node
  node = subst (NodeHolds w.config w.clocks w.ended c) same (lives.lives.sites c old there)

  stepped : Stepped now c st u.state u.out
  stepped = step_lives c st now input node.fit

  said : Said c (ended_rows c st t.out) v0 says.world
  said = says_lives c st t.out (ev.quiet v0)

  fl : Flushed says.world v
  fl = flush_parts c t.node.state (world.all_servers says.world) says.world

  clients : v.clients ≡ with_numbered c.0 (ev.at_node t.node site) w.clients
  clients = fl.clients ∙ said.clients

  ended : v.ended ≡ w.ended ++ rows_lost c st now st.associations
  ended = fl.ended ∙ said.ended ∙ ap (λ z. w.ended ++ z) stepped.rows

  own_site : site_of v c ≡ Some (ev.at_node t.node site)
  own_site = ap (λ z. numbered z c.0) clients ∙ numbered_own w.clients c.0 (ev.at_node t.node site) old there

  module _ (after : LivesHold v) (ds : List LeaseDate) (before : AllDated ds w) where
    abbrev pub new : List LeaseDate
    new = dates_out v c u.out ds

    node_after : NodeHolds v.config v.clocks v.ended c t.node
    node_after = after.lives.sites c (ev.at_node t.node site) own_site

    -- the present life of the client, by its association
    life_is : (s : ServerId) (o : Option Association) → find (is_at s) u.state.associations ≡ o → present_life v c s ≡ world.life_at o
    life_is s o e = ap (λ z. ev.life_of_site s z) own_site ∙ ap world.life_at e

    -- a life that ended is not the present one
    not_present : (e : LeaseLife) → Has e v.ended → c.0 ≡ e.client.0 → (present_life v c e.server).0 ≡ e.life.0 → ⊥
    not_present e h q l = go (find (is_at e.server) u.state.associations) refl
      where
        born : 1 ≤ e.life.0
        born = (after.lives.ends e h).born

        go : (o : Option Association) → find (is_at e.server) u.state.associations ≡ o → ⊥
        go None i = let z = ap (λ (y : Life). y.0) (life_is e.server None i) in let b = born in absurd (omega (arith, z, l, b))
        go (Some a) i =
            let z = ap (λ (y : Life). y.0) (life_is e.server (Some a) i) in
            let b = (node_after.below e h (ap (λ n. record { 0 = n }) (sym q)) a i).below runs in
            absurd (omega (arith, z, l, b))

    -- of an association before the step
    old_dated : (a : Association) → Has a st.associations → Dated ds c a.server a.life (cl.lease_end_with st a.server)
    old_dated a h =
        subst (λ o. Dated ds c a.server a.life (lease.end_at st.config (cl.lease_at o))) (sym (own_found st.associations node.once a h))
        (subst (λ (d : ClientId). Dated ds d a.server a.life (lease.end_at st.config (cl.lease_at (Some a)))) node.id
        (subst (λ (n : cl.ClientNode). (e : LeaseLife) → Has e (lives_of n.state) → LifeDated ds e) same (present_dated ds w c old before there) (life_of_association st.config st.id a) (has_map_in (life_of_association st.config st.id) st.associations a h)))

    ended_dated : (e : LeaseLife) → Has e v.ended → LifeDated new e
    ended_dated e h = dated_other v c e.client e.server e.life e.end u.out ds (not_present e h) (go (has_append w.ended (rows_lost c st now st.associations) e (subst (Has e) ended h)))
      where
        lost : LostOf c st now st.associations e → LifeDated ds e
        lost l = subst (LifeDated ds) (sym l.is) (old_dated l.a l.has)

        go : Has e w.ended ⊎ Has e (rows_lost c st now st.associations) → LifeDated ds e
        go (inl i) = before e (has_right (present_lives w.clients) w.ended e i)
        go (inr i) = lost (lost_has c st now st.associations e i)

    -- an association after the step
    mine : (a : Association) → Has a u.state.associations → Dated new c a.server a.life (lease.end_at u.state.config (cl.lease_at (Some a)))
    mine a h = go a.session refl
      where
        found : find (is_at a.server) u.state.associations ≡ Some a
        found = own_found u.state.associations node_after.once a h

        same_life : a.life ≡ present_life v c a.server
        same_life = sym (life_is a.server (Some a) found)

        go : (o : Option ClientSession) → a.session ≡ o → Dated new c a.server a.life (lease.end_at u.state.config (option_map cl.lease_of_session o))
        go None e = tt
        go (Some x) e = at (pair_found (LifeNext now st) (λ y z p. p.server) a.server st.associations u.state.associations stepped.pairs a found)
          where
            at : PairFound (LifeNext now st) a.server st.associations a → Dated new c a.server a.life (Some (lease.end_of u.state.config x.lease))
            at p = by (is_ended st.config now p.a.session) refl
              where
                has_old : Has p.a st.associations
                has_old = (found_at (is_at a.server) st.associations p.a p.is).1

                by : (b : Bool) → is_ended st.config now p.a.session ≡ b → Dated new c a.server a.life (Some (lease.end_of u.state.config x.lease))
                by true q = absurd (none (step_empties c st now input node.fit a.server p.a p.is q))
                  where
                    none : Emptied a.server p.a u.state.associations → ⊥
                    none m = cc (sym m.empty.session ∙ ap (λ (z : Association). z.session) (some_is (sym m.found ∙ found)) ∙ e)
                by false q =
                    subst (λ (l : Life). Dated new c a.server l (Some (lease.end_of u.state.config x.lease))) (sym same_life)
                    (subst (λ o. Dated new c a.server (present_life v c a.server) o) (step_noted st now input node.once a h x e ∙ ap (λ z. Some (lease.end_of z x.lease)) stepped.config)
                    (dated_own v c a.server u.out ds (ends_before st a.server)
                    (subst (λ (l : Life). Dated ds c a.server l (cl.lease_end_with st a.server)) ((p.pair.lasts q).0 ∙ same_life)
                    (subst (λ (s : ServerId). Dated ds c s p.a.life (cl.lease_end_with st s)) p.pair.server (old_dated p.a has_old)))))

    present_one : (e : LeaseLife) → Present v e → LifeDated new e
    present_one e p = go (site_case w c old (ev.at_node t.node site) v.clients there clients p.client p.site p.there)
      where
        go : ((c ≡ p.client) × (p.site ≡ ev.at_node t.node site)) ⊎ (((c.0 == p.client.0) ≡ false) × (site_of w p.client ≡ Some p.site)) → LifeDated new e
        go (inl (q, s)) = at (has_map (life_of_association u.state.config u.state.id) u.state.associations e (subst (λ (y : WorldClient). Has e (lives_of y.node.state)) s p.among))
          where
            at : (a : Association) × Has a u.state.associations × (e ≡ life_of_association u.state.config u.state.id a) → LifeDated new e
            at (a, h, z) = subst (LifeDated new) (sym z) (subst (λ (d : ClientId). Dated new d a.server a.life (lease.end_at u.state.config (cl.lease_at (Some a)))) (sym node_after.id) (mine a h))
        go (inr (q, s)) = dated_other v c e.client e.server e.life e.end u.out ds (λ z l. other z) (present_dated ds w p.client p.site before s e p.among)
          where
            no : (c.0 == p.client.0) ≡ true → ⊥
            no z = cc (z, q)

            id_is : (a : Association) × Has a p.site.node.state.associations × (e ≡ life_of_association p.site.node.state.config p.site.node.state.id a) → e.client ≡ p.client
            id_is (a, h, z) = ap (λ (y : LeaseLife). y.client) z ∙ (lives.lives.sites p.client p.site s).id

            other : c.0 ≡ e.client.0 → ⊥
            other z = no (eq-eqb c.0 p.client.0 (z ∙ ap (λ (y : ClientId). y.0) (id_is (has_map (life_of_association p.site.node.state.config p.site.node.state.id) p.site.node.state.associations e p.among))))

    pub stepped_dated : AllDated new v
    stepped_dated e h = go (has_append (present_lives v.clients) v.ended e h)
      where
        go : Has e (present_lives v.clients) ⊎ Has e v.ended → LifeDated new e
        go (inl i) = present_one e (is_present v e i)
        go (inr i) = ended_dated e i
