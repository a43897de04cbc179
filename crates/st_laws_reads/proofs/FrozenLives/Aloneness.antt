-- What is pending of lives that are over stands alone: such a life is frozen with an exclusive lock on the file.
use Rattle.st_lemmas.proofs.Words
use Words.{◌≡◌, ℕ, ◌+◌, ◌<◌, ◌≤◌, Bool, true, false, ◌&&◌, ◌==◌, List, [], ◌∷◌, Option, Some, None, refl, sym, ap, ◌∙◌, subst, inl, inr, arith, length, find}
use Words.{option_map, eq-eqb, ClientId, ServerId, LogEntry, LogOwner, LeaseLife}
use Words.nodes
use Words.Client as cl
use Words.ClientLease as lease
use Words.ClientState.{Association, ClientSession, is_at}
use Words.Events as ev
use Words.FlatLog.{is_of_life, is_pending}
use Words.Keys.{client, server_node}
use Words.Server.{ServerNode}
use Words.World as world
use Words.World.{World, WorldClient, clock_of, end_or_present, ended_of, node_of, server, site_of}
use Words.Lists.{Has}
use Words.Lengths.{numbered_there}
use Words.Truth.{none_not_some}
use Rattle.st_protocol.specs.Assoc as net
use Rattle.st_protocol.specs.Assoc.{Alive, Config}
use Rattle.st_laws_refine.specs.Views.Halves.{client_of, held_in, leased_in}
use Rattle.st_laws_refine.specs.Client.Invariants.{Lasts}
use Rattle.st_laws_refine.specs.Server.Pair.{client_in, stamp_number}
use Rattle.st_laws_pages.specs.Fates.Fates.{BeforeEnd}
use Rattle.st_laws_steps.specs.Lives.Lives.{IsKnown}
use Rattle.st_laws_steps.proofs.Lives.Associations.{found_has}
use Rattle.st_laws_pages.proofs.Lives.NodeTurns.{row_is}
use Rattle.st_laws_leases.specs.Sides.Invariants.{Standing}
use Rattle.st_laws_leases.specs.Sides.World.{ServerStands, There}
use Rattle.st_laws_leases.proofs.Sides.Pairs.{only_here, own_view}
use Rattle.st_laws_reads.specs.Copies.World.{Unheld}
use Rattle.st_laws_reads.specs.AllClients.Events.{OfFrozen, FrozenStandAlone}
use Rattle.st_laws_reads.specs.AllClients.Law.{Running}
use Rattle.st_laws_reads.specs.AllClients.World.{AllThere}
use Rattle.st_laws_reads.specs.FrozenLives.PendingEntries.{FrozenHold, OfCrashed, StandsStill, StoodLife}
use Rattle.st_laws_leases.specs.Sides.Paths.{pairs_of}
use Rattle.st_laws_reads.proofs.FrozenLives.Stepping.{ahead, site_there}
use Rattle.st_laws_reads.proofs.FrozenLives.Walks.{stand_alone}
use Rattle.st_laws_pages.proofs.Fates.GoneLaw.{owner_has}
use Rattle.st_laws_reads.proofs.AllClients.Alone.{lasts_date, owner_at}
use Rattle.st_laws_refine.proofs.Server.Late.{clock_in}

module _ (k : Config) (count : ℕ) (w : World) (h : FrozenHold k count w) (e : LogEntry) (logged : Has e w.log) (pending : is_pending e.fate ≡ true) (elder : OfFrozen w e) where
  abbrev o : LogOwner
  o = e.of

  before : BeforeEnd w o
  before = owner_at (BeforeEnd w) w.log e h.all.fates.pending logged pending

  -- the life is over, and a crash ended it
  record CrashedRow : Type 0 where
    row : LeaseLife
    is : ended_of w o.client o.file.server o.life ≡ Some row
    crashed : row.crashed ≡ true

  -- a present life has an association with a session, so its client runs
  present : ended_of w o.client o.file.server o.life ≡ None → (ev.life_of_site o.file.server (site_of w o.client)).0 ≡ o.life.0 → ⊥
  present n l = at_site (site_of w o.client) refl l (ap (end_or_present w o.client o.file.server) (sym n) ∙ before.is)
    where
      at_site : (s : Option WorldClient) → site_of w o.client ≡ s → (ev.life_of_site o.file.server s).0 ≡ o.life.0 → world.present_end w o.file.server s ≡ Some before.end → ⊥
      at_site None f l q = none_not_some before.end q
      at_site (Some site) f l q = at (find (is_at o.file.server) site.node.state.associations) refl l q
        where
          at : (x : Option Association) → find (is_at o.file.server) site.node.state.associations ≡ x → (world.life_at x).0 ≡ o.life.0 → lease.end_at site.node.state.config (cl.lease_at x) ≡ Some before.end → ⊥
          at None g l q = none_not_some before.end q
          at (Some a) g l q = by site.node.running refl
            where
              found : Has a site.node.state.associations × (a.server ≡ o.file.server)
              found = found_has o.file.server site.node.state.associations a g

              own : is_of_life (client o.client.0) a.server a.life o ≡ true
              own =
                  ap (λ z. z && ((o.file.server.0 == a.server.0) && (o.life.0 == a.life.0))) (eq-eqb o.client.0 o.client.0 refl)
                  ∙ ap (λ z. z && (o.life.0 == a.life.0)) (eq-eqb o.file.server.0 a.server.0 (ap (λ (d : ServerId). d.0) (sym found.1))) ∙ eq-eqb o.life.0 a.life.0 (sym l)

              by : (b : Bool) → site.node.running ≡ b → ⊥
              by true r = elder o.client.0 site a (record { there = f; runs = r }) found.0 own
              by false r =
                  none_not_some before.end
                  (ap (λ s. lease.end_at site.node.state.config (option_map cl.lease_of_session s)) (sym ((h.all.fates.lives.lives.sites o.client site f).stopped r a found.0).session) ∙ q)

  crashed_row : CrashedRow
  crashed_row = go (ended_of w o.client o.file.server o.life) refl (h.all.fates.lives.known.owners o (owner_has w.log e logged))
    where
      go : (x : Option LeaseLife) → ended_of w o.client o.file.server o.life ≡ x → IsKnown w.clients w.ended o.client o.file.server o.life → CrashedRow
      go None q (inl (y, f)) = absurd (none_not_some y (sym q ∙ f))
      go None q (inr l) = absurd (present q l)
      go (Some row) q kn = by row.crashed refl
        where
          by : (b : Bool) → row.crashed ≡ b → CrashedRow
          by true c = record { row = row; is = q; crashed = c }
          by false c =
              let y = row_is o.client o.file.server o.life w.ended row q in
              let over = (h.all.fates.lives.lives.ends row y.0).over c in
              let late : over.0.0 ≤ (clock_of w (nodes.Client o.client)).0 = subst (λ (d : ClientId). over.0.0 ≤ (clock_of w (nodes.Client d)).0) y.1 over.2 in
              let a = ahead w o before row q in
              let end = ap stamp_number over.1 in
              absurd (omega (arith, late, a, end))

  -- no lock of a client that runs
  unheld : (d : ℕ) (other : WorldClient) → Running w d other → (y : Association) → Has y other.node.state.associations → There w y.server → Lasts other.node.state.config.lease (clock_of w (nodes.Client (client d))).0 y.session → o.file.server ≡ y.server →
      (held_in y.session o.file.ino).mode ≡ 0
  unheld d other run y here there lasts sv = go (leased_in y.session) refl
    where
      s : ℕ
      s = o.file.server.0

      node : ServerNode
      node = there.node

      at : node_of w (server s) ≡ Some node
      at = ap (λ (v : ServerId). node_of w v) sv ∙ there.is

      z : ServerStands k w s node
      z = h.all.servers s node at

      x : StoodLife k w s node z crashed_row.row o
      x = owner_at (OfCrashed (StandsStill k count w h.all) w) w.log e h.frozen_lives logged pending crashed_row.row crashed_row.is crashed_row.crashed node at

      q : Standing k s d other w.ended (z.ghosts d).net
      q = z.both.clients d other run.there

      is : y ≡ q.association
      is = only_here s other.node.state.associations q.association q.sim.place y here (ap server_node (sym sv))

      view : client_in w d s (z.ended d) ≡ client_of (z.ended d) (clock_of w (nodes.Client (client d))).0 y
      view = own_view w d s (z.ended d) other q.association run.there run.runs q.sim.place ∙ ap (client_of (z.ended d) (clock_of w (nodes.Client (client d))).0) (sym is)

      clock : (client_in w o.client.0 s (z.ended o.client.0)).clock < x.half.date + k.lease
      clock =
          let f = site_there w h.all.fates.lives o crashed_row.row crashed_row.is in
          let t = clock_in w o.client.0 s (z.ended o.client.0) f.0 f.1 in
          let a = ahead w o before crashed_row.row crashed_row.is in
          let b = x.end in omega (arith, t, a, b)

      none : (p : Option ClientSession) → leased_in p ≡ false → (held_in p o.file.ino).mode ≡ 0
      none None f = refl
      none (Some t) f = cc f

      go : (b : Bool) → leased_in y.session ≡ b → (held_in y.session o.file.ino).mode ≡ 0
      go false f = none y.session f
      go true f =
          ap (λ (C : net.Client). (C.held o.file.ino).mode) (sym view)
          ∙ stand_alone k o.client.0 o.file.ino d x.half (pairs_of k w s node z) h.all.sound x.locked clock x.frozen
          (subst (Alive k) (sym view) (record { leased = f; lasts = let t = q.sim.terms in let u = lasts_date other.node.state.config.lease (clock_of w (nodes.Client (client d))).0 y.session f lasts in omega (arith, t, u) }))

  pub all_unheld : (d : ℕ) (other : WorldClient) → Running w d other → (xs : List Association) → ((y : Association) → Has y xs → Has y other.node.state.associations) → AllThere w xs →
      Unheld e.of.file other.node.state.config.lease (clock_of w (nodes.Client (client d))).0 xs
  all_unheld d other run [] f t = record {}
  all_unheld d other run (y ∷ xs) f t = record { one = λ l sv. unheld d other run y (f y (inl refl)) t.one l sv; rest = all_unheld d other run xs (λ x i. f x (inr i)) t.rest }

pub frozen_alone : (k : Config) (count : ℕ) (w : World) → FrozenHold k count w →
    ((d : ℕ) (site : WorldClient) → site_of w (client d) ≡ Some site → (a : Association) → Has a site.node.state.associations → (1 ≤ a.server.0) × (a.server.0 ≤ length w.servers)) → FrozenStandAlone w
frozen_alone k count w h placed e logged pending elder d other run =
    all_unheld k count w h e logged pending elder d other run other.node.state.associations (λ y i. i) (there other.node.state.associations (λ y i. placed d other run.there y i))
  where
    there : (xs : List Association) → ((a : Association) → Has a xs → (1 ≤ a.server.0) × (a.server.0 ≤ length w.servers)) → AllThere w xs
    there [] f = record {}
    there (a ∷ xs) f = let z = f a (inl refl) in let n = numbered_there w.servers a.server.0 z.0 z.1 in record { one = record { node = n.0; is = n.1 }; rest = there xs (λ y i. f y (inr i)) }
