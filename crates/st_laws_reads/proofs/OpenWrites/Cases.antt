-- A write that may have its effect belongs to a present life whose lease lasts, and is outstanding there, or to a life that a crash ended, which is frozen.
use Rattle.st_lemmas.proofs.Words
use Words.{◌≡◌, ◌≢◌, ℕ, ◌+◌, ◌<◌, ◌≤◌, ◌⊎◌, Bool, true, false, List, [], ◌∷◌, ◌++◌, Option, Some, None, refl, sym, ap, ◌∙◌, subst, inl, inr, arith, find}
use Words.{option_map, BlockAt, Tag, ClientId, ServerId, Stamp, Ask, IssuedCommand, LeaseLife}
use Words.nodes
use Words.Client as cl
use Words.ClientLease as lease
use Words.ClientState.{Association, ClientSession, is_at}
use Words.Events as ev
use Words.Keys.{client, server_node}
use Words.Server.{ServerNode}
use Words.World as world
use Words.World.{World, WorldClient, clock_of, end_or_present, ended_of, lease_end_of, node_of, present_end, server, site_of}
use Words.Lists.{Has}
use Words.Numbers.{numbered_has}
use Words.Tables.{same_or_not}
use Words.Truth.{none_not_some}
use Rattle.st_protocol.specs.Assoc as net
use Rattle.st_protocol.specs.Assoc.{Alive, Config}
use Rattle.st_laws_refine.specs.Views.Halves.{client_of, held_in, leased_in}
use Rattle.st_laws_refine.specs.Client.Invariants.{Lasts}
use Rattle.st_laws_refine.specs.Server.Pair.{client_in, stamp_number}
use Rattle.st_laws_steps.specs.Lives.Lives.{IsKnown}
use Rattle.st_laws_pages.specs.Disks.World.{Living, Timely}
use Rattle.st_laws_steps.proofs.Lives.Associations.{own_found}
use Rattle.st_laws_pages.proofs.Lives.NodeTurns.{row_is}
use Rattle.st_laws_leases.specs.Sides.Invariants.{Standing}
use Rattle.st_laws_leases.specs.Sides.World.{AllStand, ServerStands, There}
use Rattle.st_laws_leases.proofs.Sides.Pairs.{only_here, own_view}
use Rattle.st_laws_reads.specs.Copies.Law.{StandsAt}
use Rattle.st_laws_reads.specs.AllClients.Law.{Running}
use Rattle.st_laws_reads.specs.AllClients.World.{CopiesHold}
use Rattle.st_laws_reads.proofs.AllClients.Alone.{while_at, lasts_date}
use Rattle.st_laws_reads.proofs.OpenWrites.Locked.{no_lock, timely_end}
use Rattle.st_laws_pages.specs.Writes.Writes.{ListedSince, OpenHold}
use Rattle.st_laws_reads.specs.OpenWrites.StandAlone.{OfLife}
use Rattle.st_laws_reads.specs.FrozenLives.PendingEntries.{StoodLife}
use Rattle.st_laws_leases.specs.Sides.Paths.{pairs_of}
use Rattle.st_laws_reads.proofs.FrozenLives.Stepping.{site_there}
use Rattle.st_laws_reads.proofs.FrozenLives.Walks.{stand_alone}
use Rattle.st_laws_reads.specs.OpenWrites.StandStill.{OpenWrite, OverOrStill, WritesHold, writer}
use Rattle.st_laws_refine.proofs.Server.Late.{clock_in}

-- It belongs to a present life.
pub record PresentWrite (w : World) (x : IssuedCommand) (tag : Tag) : Type 0 where
  pub site : WorldClient
  pub running : Running w x.client.0 site
  pub a : Association
  pub here : Has a site.node.state.associations
  pub server : x.server ≡ a.server
  pub life : x.life ≡ a.life
  pub lasts : Lasts site.node.state.config.lease (clock_of w (nodes.Client x.client)).0 a.session
  pub listed : ListedSince site.starts a x tag

-- Or a crash ended its life, and the lease of that life is not over.
pub record CrashedWrite (k : Config) (count : ℕ) (w : World) (all : AllStand k count w) (x : IssuedCommand) (tag : Tag) : Type 0 where
  pub row : LeaseLife
  pub is : ended_of w x.client x.server x.life ≡ Some row
  pub crashed : row.crashed ≡ true
  pub end : Stamp
  pub end_is : row.end ≡ Some end
  pub before : (clock_of w (nodes.Client x.client)).0 < end.0
  pub still : (node : ServerNode) (at : node_of w (server x.server.0) ≡ Some node) → StoodLife k w x.server.0 node (all.servers x.server.0 node at) row (writer x tag)

module _ (k : Config) (count : ℕ) (w : World) (h : WritesHold k count w) (open_ : OpenHold w) (n : ℕ) (x : IssuedCommand) (at : BlockAt) (tag : Tag) (bytes : List ℕ) (l : Living (Timely w) w.commands w.disks.commands n x at tag bytes) (there : (node : ServerNode) × (node_of w (server x.server.0) ≡ Some node)) where
  an_open : OpenWrite w n x at tag bytes
  an_open = record { issued = l.issued; command = l.command; is = l.is; what = l.what; unreported = l.unreported }

  -- of an end that its life has
  before_end : (e : Stamp) → lease_end_of w x.client x.server x.life ≡ Some e → (clock_of w (nodes.Client x.client)).0 < e.0
  before_end e q = timely_end (clock_of w (nodes.Client x.client)) (lease_end_of w x.client x.server x.life) e q l.timely

  by_row : (row : LeaseLife) → ended_of w x.client x.server x.life ≡ Some row → CrashedWrite k count w h.all x tag
  by_row row q = go row.crashed refl
    where
      y : Has row w.ended × (row.client ≡ x.client) × (row.server ≡ x.server) × (row.life ≡ x.life)
      y = row_is x.client x.server x.life w.ended row q

      ends : (e : Stamp) → row.end ≡ Some e → (clock_of w (nodes.Client x.client)).0 < e.0
      ends e z = before_end e (ap (end_or_present w x.client x.server) q ∙ z)

      go : (b : Bool) → row.crashed ≡ b → CrashedWrite k count w h.all x tag
      go false c =
          let over = (h.all.fates.lives.lives.ends row y.0).over c in
          let late : over.0.0 ≤ (clock_of w (nodes.Client x.client)).0 = subst (λ (d : ClientId). over.0.0 ≤ (clock_of w (nodes.Client d)).0) y.1 over.2 in
          let b = ends over.0 over.1 in absurd (omega (arith, late, b))
      go true c = record { row = row; is = q; crashed = c; end = z.end; end_is = z.is; before = ends z.end z.is; still = λ node i. still (ends z.end z.is) (z.still node i) }
        where
          z : OverOrStill k count w h.all row (writer x tag)
          z = h.writes n x at tag bytes an_open row q c

          still : {S : Type 0} → (clock_of w (nodes.Client x.client)).0 < z.end.0 → (z.end.0 ≤ (clock_of w (nodes.Client x.client)).0) ⊎ S → S
          still b (inl late) = absurd (omega (arith, b, late))
          still b (inr s) = s

  present : ended_of w x.client x.server x.life ≡ None → (ev.life_of_site x.server (site_of w x.client)).0 ≡ x.life.0 → PresentWrite w x tag
  present none life = go site.node.running refl
    where
      site : WorldClient
      site = (h.there n x at tag bytes an_open).0

      f : site_of w x.client ≡ Some site
      f = (h.there n x at tag bytes an_open).1

      st : Standing k x.server.0 x.client.0 site w.ended ((h.all.servers x.server.0 there.0 there.1).ghosts x.client.0).net
      st = (h.all.servers x.server.0 there.0 there.1).both.clients x.client.0 site f

      a : Association
      a = st.association

      here : Has a site.node.state.associations
      here = subst (λ xs. Has a xs) (sym st.sim.place.is) (among st.sim.place.before)
        where
          among : (xs : List Association) → Has a (xs ++ a ∷ st.sim.place.after)
          among [] = inl refl
          among (y ∷ ys) = inr (among ys)

      found : find (is_at x.server) site.node.state.associations ≡ Some a
      found = ap (λ s. find (is_at s) site.node.state.associations) (sym st.sim.place.here) ∙ own_found site.node.state.associations (h.all.fates.lives.lives.sites x.client site f).once a here

      same_life : x.life ≡ a.life
      same_life = ap (λ z. record { 0 = z }) (sym life ∙ ap (λ o. (ev.life_of_site x.server o).0) f ∙ ap (λ o. (world.life_at o).0) found)

      end : lease_end_of w x.client x.server x.life ≡ lease.end_at site.node.state.config (cl.lease_at (Some a))
      end = ap (end_or_present w x.client x.server) none ∙ ap (present_end w x.server) f ∙ ap (λ o. lease.end_at site.node.state.config (cl.lease_at o)) found

      lasting : Lasts site.node.state.config.lease (clock_of w (nodes.Client x.client)).0 a.session
      lasting = by a.session refl
        where
          by : (o : Option ClientSession) → a.session ≡ o → Lasts site.node.state.config.lease (clock_of w (nodes.Client x.client)).0 o
          by None q = tt
          by (Some s) q = before_end (lease.end_of site.node.state.config s.lease) (end ∙ ap (λ z. lease.end_at site.node.state.config (option_map cl.lease_of_session z)) q)

      go : (b : Bool) → site.node.running ≡ b → PresentWrite w x tag
      go true r =
          record {
            site = site;
            running = record { there = f; runs = r };
            a = a;
            here = here;
            server = sym st.sim.place.here;
            life = same_life;
            lasts = lasting;
            listed = open_ x.client site f r a here n x l.command at tag bytes l.issued l.is l.what l.unreported refl (sym st.sim.place.here) same_life;
          }
      go false r =
          let s = (h.all.fates.lives.lives.sites x.client site f).stopped r a here in
          absurd (none_not_some s.row (sym none ∙ ap (λ z. ended_of w x.client x.server z) same_life ∙ ap (λ z. ended_of w x.client z a.life) (sym st.sim.place.here) ∙ s.is))

  pub living_is : PresentWrite w x tag ⊎ CrashedWrite k count w h.all x tag
  living_is = go (ended_of w x.client x.server x.life) refl (h.all.fates.lives.known.commands x (numbered_has w.commands n x l.issued))
    where
      go : (o : Option LeaseLife) → ended_of w x.client x.server x.life ≡ o → IsKnown w.clients w.ended x.client x.server x.life → PresentWrite w x tag ⊎ CrashedWrite k count w h.all x tag
      go (Some row) q z = inr (by_row row q)
      go None q (inl (y, f)) = absurd (none_not_some y (sym q ∙ f))
      go None q (inr life) = inl (present q life)

-- Beside a life that is frozen with an exclusive lock on a file no client that runs has a lock on it.
pub crashed_alone : (k : Config) (count : ℕ) (w : World) (all : AllStand k count w) (x : IssuedCommand) (tag : Tag) → CrashedWrite k count w all x tag → (d : ℕ) (other : WorldClient) → Running w d other → (y : Association) → Has y other.node.state.associations → There w y.server →
    Lasts other.node.state.config.lease (clock_of w (nodes.Client (client d))).0 y.session → x.server ≡ y.server → (held_in y.session tag.file.ino).mode ≡ 0
crashed_alone k count w all x tag z d other run y here there lasts sv = go (leased_in y.session) refl
  where
    s : ℕ
    s = x.server.0

    node : ServerNode
    node = there.node

    at : node_of w (server s) ≡ Some node
    at = ap (λ (v : ServerId). node_of w v) sv ∙ there.is

    v : ServerStands k w s node
    v = all.servers s node at

    st : StoodLife k w s node v z.row (writer x tag)
    st = z.still node at

    q : Standing k s d other w.ended (v.ghosts d).net
    q = v.both.clients d other run.there

    is : y ≡ q.association
    is = only_here s other.node.state.associations q.association q.sim.place y here (ap server_node (sym sv))

    view : client_in w d s (v.ended d) ≡ client_of (v.ended d) (clock_of w (nodes.Client (client d))).0 y
    view = own_view w d s (v.ended d) other q.association run.there run.runs q.sim.place ∙ ap (client_of (v.ended d) (clock_of w (nodes.Client (client d))).0) (sym is)

    clock : (client_in w x.client.0 s (v.ended x.client.0)).clock < st.half.date + k.lease
    clock =
        let f = site_there w all.fates.lives (writer x tag) z.row z.is in
        let t = clock_in w x.client.0 s (v.ended x.client.0) f.0 f.1 in
        let a = z.before in
        let e = ap stamp_number z.end_is in
        let b = st.end in omega (arith, t, a, b, e)

    none : (p : Option ClientSession) → leased_in p ≡ false → (held_in p tag.file.ino).mode ≡ 0
    none None f = refl
    none (Some t) f = cc f

    go : (b : Bool) → leased_in y.session ≡ b → (held_in y.session tag.file.ino).mode ≡ 0
    go false f = none y.session f
    go true f =
        ap (λ (C : net.Client). (C.held tag.file.ino).mode) (sym view)
        ∙ stand_alone k x.client.0 tag.file.ino d st.half (pairs_of k w s node v) all.sound st.locked clock st.frozen
        (subst (Alive k) (sym view) (record { leased = f; lasts = let t = q.sim.terms in let u = lasts_date other.node.state.config.lease (clock_of w (nodes.Client (client d))).0 y.session f lasts in omega (arith, t, u) }))

-- The page of a write of a present life is dirty there, under an exclusive lock.
pub present_locked : (asks : ℕ → ℕ → Option Ask) (w : World) (x : IssuedCommand) (tag : Tag) → CopiesHold asks w → (z : PresentWrite w x tag) → 2 ≤ (held_in z.a.session tag.file.ino).mode
present_locked asks w x tag copies z =
    let c = (copies x.client.0 z.site z.running.there).runs z.running.runs in
    let s : StandsAt x.client w.log z.a = (while_at _ _ x.client w.log z.site.node.state.associations z.a c.copies z.here).lasting z.lasts in
    subst (λ i. 2 ≤ (held_in z.a.session i).mode) z.listed.listed.ino ((s.pages z.listed.listed.command.ino z.listed.listed.command.page).mode z.listed.listed.dirty z.listed.listed.dirty_is)

-- A write that may have its effect on a file on which a client has a lock belongs to that client's present life.
pub record OwnWrite (w : World) (d : ℕ) (other : WorldClient) (y : Association) (x : IssuedCommand) (tag : Tag) : Type 0 where
  pub of : OfLife d y x
  pub listed : ListedSince other.starts y x tag

module _ (asks : ℕ → ℕ → Option Ask) (k : Config) (count : ℕ) (w : World) (h : WritesHold k count w) (open_ : OpenHold w) (copies : CopiesHold asks w) (d : ℕ) (other : WorldClient) (run : Running w d other) (y : Association) (here : Has y other.node.state.associations) (there : There w y.server)
    (lasts : Lasts other.node.state.config.lease (clock_of w (nodes.Client (client d))).0 y.session) where
  pub living_own : (n : ℕ) (x : IssuedCommand) (at : BlockAt) (tag : Tag) (bytes : List ℕ) → Living (Timely w) w.commands w.disks.commands n x at tag bytes → x.server ≡ y.server → 1 ≤ (held_in y.session tag.file.ino).mode → OwnWrite w d other y x tag
  living_own n x at tag bytes l sv mode = go (living_is k count w h open_ n x at tag bytes l (there.node, ap (λ (v : ServerId). node_of w v) sv ∙ there.is))
    where
      go : PresentWrite w x tag ⊎ CrashedWrite k count w h.all x tag → OwnWrite w d other y x tag
      go (inr z) = let m = crashed_alone k count w h.all x tag z d other run y here there lasts sv in absurd (omega (arith, m, mode))
      go (inl z) = by (same_or_not x.client.0 d)
        where
          node : node_of w (server y.server.0) ≡ Some there.node
          node = there.is

          by : (x.client.0 ≡ d) ⊎ (x.client.0 ≢ d) → OwnWrite w d other y x tag
          by (inr ne) =
              let m = no_lock k count w h.all y.server.0 there.node node x.client.0 d tag.file.ino z.site other z.a y ne z.running run z.here (sym z.server ∙ sv) z.lasts (present_locked asks w x tag copies z) here refl lasts in
              absurd (omega (arith, m, mode))
          by (inl e) = record { of = record { client = ap client e; server = sv; life = z.life ∙ ap (λ (b : Association). b.life) same }; listed = subst (λ (s : WorldClient). ListedSince s.starts y x tag) site_same (subst (λ b. ListedSince z.site.starts b x tag) same z.listed) }
            where
              site_same : z.site ≡ other
              site_same = Rattle.st_lemmas.proofs.Lookups.some_is (sym z.running.there ∙ ap (λ m. site_of w (client m)) e ∙ run.there)

              once_in : Has z.a other.node.state.associations
              once_in = subst (λ (s : WorldClient). Has z.a s.node.state.associations) site_same z.here

              same : z.a ≡ y
              same =
                  let m = (h.all.fates.lives.lives.sites (client d) other run.there).once in
                  Rattle.st_lemmas.proofs.Lookups.some_is (sym (own_found other.node.state.associations m z.a once_in) ∙ ap (λ s. find (is_at s) other.node.state.associations) (sym z.server ∙ sv) ∙ own_found other.node.state.associations m y here)
