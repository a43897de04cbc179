-- A request to cut or to remove a file names a grant. While its server may serve it, all requests
-- before it were served, and its client has the exclusive row of that file under this grant. So it
-- is after every event.
use Rattle.st_lemmas.proofs.Words
use Words.{◌≡◌, ◌≢◌, ◌⊎◌, ℕ, ◌-◌, ◌<◌, ◌≤◌, arith, Bool, true, false, List, [], ◌∷◌, ◌++◌, Option, Some, None, Ok, refl, sym, ap, ◌∙◌, subst, inl, inr}
use Words.{leb-true, nat_le, Body, ClientId, Event, GrantNo, Message, ServerId}
use Words.bodies
use Words.nodes
use Words.ops
use Words.ClientState.{Association, reasserts}
use Words.Events.{WorldTurn, world_step}
use Words.History.{Traced, traced_after}
use Words.Keys.{server_node}
use Words.Lists.{Has}
use Words.Safety.{Step, is_event, step}
use Words.Server.{ServerNode, is_client_node}
use Words.Tables.{and_true, same_or_not}
use Words.Truth.{none_not_some}
use Words.World as world
use Words.World.{World, WorldClient, clock_of, node_of, site_of}
use Words.Worlds.{site_there}
use Rattle.st_protocol.specs.Assoc.{Config}
use Rattle.st_laws_pages.specs.LockedCuts.CutLocks.{WaitsHold}
use Rattle.st_laws_leases.specs.Dates.Dates.{messages}
use Rattle.st_laws_refine.specs.Client.Invariants.{Lasts}
use Rattle.st_laws_reads.specs.AllClients.Law.{Running}
use Rattle.st_laws_requests.specs.Cuts.Cuts.{Between, IsSent, Keyed, Numbers, SameBody}
use Rattle.st_laws_requests.specs.Cuts.Cuts as cuts
use Rattle.st_laws_cuts.specs.EndedRequests.{AllPast}
use Rattle.st_laws_cuts.proofs.Law.{AllHold}
use Rattle.st_laws_cuts.proofs.Open.{association_there}
use Rattle.st_laws_cuts.proofs.OverAfter.{past_on}
use Rattle.st_laws_volume.proofs.AskedBlocks.{WasAsked}
use Rattle.st_laws_volume.proofs.BlocksWanted.{past_as}
use Rattle.st_laws_volume.proofs.EarlierRequests.{earlier}
use Rattle.st_laws_volume.proofs.HeldAsks.{requests_asked}
use Rattle.st_laws_volume.proofs.HeldSteps.{AskedRight, IsLocked, JustAsked, RightIn}
use Rattle.st_laws_volume.proofs.OutstandingRows.{IsOutstanding, its_row, outstanding, served_before}
use Rattle.st_laws_volume.proofs.PastLives.{was_sent}
use Rattle.st_laws_volume.proofs.RowsOn.{HasRowUnder, rows_on}

-- the grants of this number
abbrev pub Under : GrantNo → GrantNo → Type 0
Under g h = h.0 ≡ g.0

-- What holds of a request under this grant of a file, while its server may serve it.
pub record HeldRow (w : World) (c : ClientId) (s : ServerId) (m : Message) (ino : ℕ) (g : GrantNo) : Type 0 where
  pub before : AllPast w c s (earlier m)
  pub row : HasRowUnder (Under g) w c s ino

abbrev pub HeldFor : World → ClientId → ServerId → Message → Body → Type 0
HeldFor w c s m (bodies.Cut ino g from) = HeldRow w c s m ino g
HeldFor w c s m (bodies.Name (ops.Remove dir name g)) = 1 ≤ g.0 → (ino : ℕ) × HeldRow w c s m ino g
HeldFor w c s m b = Unit {0}

abbrev pub PastOrHeld : World → ClientId → ServerId → Message → Body → Type 0
PastOrHeld w c s m b = AllPast w c s m ⊎ HeldFor w c s m b

abbrev pub AllHeld : World → Type 0
AllHeld w =
    (c : ClientId) (s : ServerId) (m : Message) → Has m (messages w) → Between c s m → is_client_node m.header.from ≡ true → 1 ≤ m.header.number →
    PastOrHeld w c s m m.body

-- A remove under a grant above 0, or under none.
of_remove : (w : World) (c : ClientId) (s : ServerId) (m : Message) (g : GrantNo) →
    (1 ≤ g.0 → AllPast w c s m ⊎ ((ino : ℕ) × HeldRow w c s m ino g)) → AllPast w c s m ⊎ (1 ≤ g.0 → (ino : ℕ) × HeldRow w c s m ino g)
of_remove w c s m g f = go (same_or_not g.0 0)
  where
    by : AllPast w c s m ⊎ ((ino : ℕ) × HeldRow w c s m ino g) → AllPast w c s m ⊎ (1 ≤ g.0 → (ino : ℕ) × HeldRow w c s m ino g)
    by (inl p) = inl p
    by (inr z) = inr (λ l. z)

    go : (g.0 ≡ 0) ⊎ (g.0 ≢ 0) → AllPast w c s m ⊎ (1 ≤ g.0 → (ino : ℕ) × HeldRow w c s m ino g)
    go (inl q) = inr (λ l. absurd (omega (arith, l, q)))
    go (inr n) = by (f (omega (arith, n)))

-- All this depends only on the key under which a message was sent, and on what it asks.
state_as : (w : World) (c : ClientId) (s : ServerId) (m p : Message) → p.header.life ≡ m.header.life → p.header.epoch ≡ m.header.epoch →
    p.header.number ≡ m.header.number → p.body ≡ m.body → PastOrHeld w c s p p.body → PastOrHeld w c s m m.body
state_as w c s m p life epoch number body (inl h) = inl (past_as w c s m p life epoch number h)
state_as w c s m p life epoch number body (inr h) = inr (subst (HeldFor w c s m) body (go p.body h))
  where
    row : (ino : ℕ) (g : GrantNo) → HeldRow w c s p ino g → HeldRow w c s m ino g
    row ino g z = record { before = past_as w c s (earlier m) (earlier p) life epoch (ap (λ x. x - 1) number) z.before; row = z.row }

    go : (b : Body) → HeldFor w c s p b → HeldFor w c s m b
    go (bodies.Cut ino g from) z = row ino g z
    go (bodies.Name (ops.Remove dir name g)) z = λ l. let y = z l in (y.0, row y.0 g y.1)
    go b z = tt

-- One event.
module _ (k : Config) (count : ℕ) (past : List Step) (t : Traced) (e : Event) (sc : WorldTurn) (ranges : is_event count e ≡ true)
    (taken : world_step t.world e ≡ Ok sc) (all : AllHold k count past t) (all2 : AllHold k count (past ++ step t e sc ∷ []) (traced_after e t sc))
    (waits : WaitsHold sc.world) (fine : AllHeld t.world) where
  abbrev w : World
  w = t.world

  abbrev After : ClientId → ServerId → Message → Type 0
  After c s m = PastOrHeld sc.world c s m m.body

  on_past : (c : ClientId) (s : ServerId) (m : Message) → AllPast w c s m → AllPast sc.world c s m
  on_past c s m p = past_on k count past t e sc ranges all.base taken c s m p

  -- A message that was there before.
  row_on : (c : ClientId) (s : ServerId) (m : Message) (ino : ℕ) (g : GrantNo) → HeldRow w c s m ino g →
      AllPast sc.world c s m ⊎ HeldRow sc.world c s m ino g
  row_on c s m ino g f = go (rows_on k count past t e sc ranges all.base taken c s ino m f.before (Under g) f.row)
    where
      go : AllPast sc.world c s m ⊎ HasRowUnder (Under g) sc.world c s ino → AllPast sc.world c s m ⊎ HeldRow sc.world c s m ino g
      go (inl p) = inl p
      go (inr r) = inr (record { before = on_past c s (earlier m) f.before; row = r })

  carry : (c : ClientId) (s : ServerId) (m : Message) → PastOrHeld w c s m m.body → After c s m
  carry c s m (inl p) = inl (on_past c s m p)
  carry c s m (inr z) = by m.body z
    where
      by : (b : Body) → HeldFor w c s m b → PastOrHeld sc.world c s m b
      by (bodies.Cut ino g from) f = row_on c s m ino g f
      by (bodies.Name (ops.Remove dir name g)) f = of_remove sc.world c s m g (λ l. go (f l).0 (row_on c s m (f l).0 g (f l).1))
        where
          go : (ino : ℕ) → AllPast sc.world c s m ⊎ HeldRow sc.world c s m ino g → AllPast sc.world c s m ⊎ ((i : ℕ) × HeldRow sc.world c s m i g)
          go ino (inl p) = inl p
          go ino (inr r) = inr (ino, r)
      by b f = inr tt

  -- A request that was outstanding before: the message by which it was sent.
  module _ (c : ClientId) (server : ServerId) (life epoch number : ℕ) (body : Body) (z : WasAsked w c server life epoch number body) where
    abbrev S : Message → Type 0
    S m = Has m (messages w)

    numbers : Numbers S c z.association.server z.association.life.0 (cuts.view (Some z.session))
    numbers =
        subst (λ o. Numbers S c z.association.server z.association.life.0 (cuts.view o)) z.has
        ((all.base.cuts.clients c z.site z.there).all z.runs z.association z.among).numbers

    its : (p : Message) × S p × Keyed c z.association.server z.association.life.0 z.session.epoch.0 z.request.number p
    its = subst (IsSent S c z.association.server z.association.life.0 z.session.epoch.0) z.asked numbers.sent

    its_body : 1 ≤ z.request.number → its.0.body ≡ z.request.body
    its_body pos =
        let l = its.2.under in
        let n = numbers.placed its.0 its.1 its.2.between its.2.of_life (omega (arith, l, pos)) in
        subst (λ o. SameBody o its.0) z.asked (n.same its.2.of_epoch) its.2.under

    sent_before : (m : Message) → is_client_node m.header.from ≡ true → m.header.from ≡ c.0 → m.header.life ≡ life → m.header.epoch ≡ epoch →
        m.header.number ≡ number → m.body ≡ body → 1 ≤ number → After c server m
    sent_before m from c_is l ep n b pos =
        state_as sc.world c server m its.0 (its.2.of_life ∙ (z.of_life ∙ sym l)) (its.2.of_epoch ∙ (z.of_epoch ∙ sym ep))
        (its.2.under ∙ (z.of_number ∙ sym n)) (its_body (let q = z.of_number in omega (arith, q, pos)) ∙ (z.of_body ∙ sym b))
        (subst (λ (r : ServerId). After c r its.0) z.at
        (carry c z.association.server its.0
        (fine c z.association.server its.0 its.1 its.2.between (ap is_client_node (its.2.between.0 ∙ sym c_is) ∙ from)
        (let q = z.of_number in let y = its.2.under in omega (arith, q, y, pos)))))

  -- A message after the event.
  module _ (c : ClientId) (s : ServerId) (m : Message) (among : Has m (messages sc.world)) (between : Between c s m)
      (from : is_client_node m.header.from ≡ true) (pos : 1 ≤ m.header.number) where
    was : Has m (messages w) → After c s m
    was i = carry c s m (fine c s m i between from pos)

    -- at a server that is there
    module _ (node : ServerNode) (at : node_of sc.world s ≡ Some node) (site : WorldClient) (here : site_of sc.world c ≡ Some site) where
      y : (a : Association) × Has a site.node.state.associations × (a.server ≡ world.server s.0)
      y =
          association_there k s.0 c.0 site sc.world.ended ((all2.base.all.servers s.0 node at).ghosts c.0).net
          ((all2.base.all.servers s.0 node at).both.clients c.0 site here)

      abbrev a : Association
      a = y.0

      mine : Between c a.server m
      mine = (between.0, between.1 ∙ ap server_node (sym y.2))

      up : m.header.life ≤ a.life.0
      up = (all2.base.cuts.clients c site here).lives a y.1 m among mine

      ended : (m.header.life < a.life.0) ⊎ (site.node.running ≡ false) → After c s m
      ended l = was (was_sent k count past t e sc all.base all.owners.owned all.owners.few taken c site here a y.1 m among mine l)

      -- the outstanding request of a session
      module _ (runs : site.node.running ≡ true) (life : m.header.life ≡ a.life.0) (o : IsOutstanding a m) where
        before : WasAsked w c a.server a.life.0 o.session.epoch.0 o.request.number o.request.body → After c s m
        before z =
            subst (λ (r : ServerId). After c r m) y.2
            (sent_before c a.server a.life.0 o.session.epoch.0 o.request.number o.request.body z m from between.0 life o.epoch o.number o.body
            (let q = o.number in omega (arith, q, pos)))

        -- one that has just been sent
        just : (ino : ℕ) (g : GrantNo) → reasserts m.body ≡ false →
            IsLocked (clock_of sc.world (nodes.Client c)) site.node.state.config o.session ino g →
            AllPast sc.world c s m ⊎ HeldRow sc.world c s m ino g
        just ino g plain z = go row
          where
            running : Running sc.world c.0 site
            running = record { there = here; runs = runs }

            lasts : Lasts site.node.state.config.lease (clock_of sc.world (nodes.Client c)).0 a.session
            lasts = subst (Lasts site.node.state.config.lease (clock_of sc.world (nodes.Client c)).0) (sym o.has) z.lasts

            sooner : AllPast sc.world c s (earlier m)
            sooner =
                subst (λ (r : ServerId). AllPast sc.world c r (earlier m)) y.2
                (served_before k count (past ++ step t e sc ∷ []) (traced_after e t sc) all2.base c site running a y.1 m life pos o plain)

            row : AllPast sc.world c s m ⊎ HasRowUnder (Under z.lock.g) sc.world c s ino
            row =
                subst (λ (r : ServerId). AllPast sc.world c r m ⊎ HasRowUnder (Under z.lock.g) sc.world c r ino) y.2
                (its_row k count (past ++ step t e sc ∷ []) (traced_after e t sc) all2.base c site running a y.1 m life pos o plain waits ino z.lock
                z.held z.exclusive lasts)

            go : AllPast sc.world c s m ⊎ HasRowUnder (Under z.lock.g) sc.world c s ino → AllPast sc.world c s m ⊎ HeldRow sc.world c s m ino g
            go (inl p) = inl p
            go (inr r) = inr (record { before = sooner; row = subst (λ h. HasRowUnder (Under h) sc.world c s ino) z.under r })

        asked : After c s m
        asked = go known
          where
            now_asked : (b : Body) → m.body ≡ b → JustAsked (clock_of sc.world (nodes.Client c)) site.node.state.config o.session b →
                PastOrHeld sc.world c s m b
            now_asked (bodies.Cut ino g p) q j = just ino g (ap reasserts q) j
            now_asked (bodies.Name (ops.Remove dir name g)) q j =
                of_remove sc.world c s m g (λ l. by (j l).0 (just (j l).0 g (ap reasserts q) (j l).1))
              where
                by : (ino : ℕ) → AllPast sc.world c s m ⊎ HeldRow sc.world c s m ino g → AllPast sc.world c s m ⊎ ((i : ℕ) × HeldRow sc.world c s m i g)
                by ino (inl p) = inl p
                by ino (inr r) = inr (ino, r)
            now_asked b q j = inr tt

            right : RightIn (WasAsked w c) (clock_of sc.world (nodes.Client c)) site.node.state.config a.server a.life.0 (Some o.session)
            right =
                subst (RightIn (WasAsked w c) (clock_of sc.world (nodes.Client c)) site.node.state.config a.server a.life.0) o.has
                (requests_asked w e sc taken all.base.cuts.fates.lives c site here runs a y.1)

            known : WasAsked w c a.server a.life.0 o.session.epoch.0 o.request.number o.request.body
                ⊎ JustAsked (clock_of sc.world (nodes.Client c)) site.node.state.config o.session o.request.body
            known =
                subst
                (AskedRight (WasAsked w c a.server a.life.0 o.session.epoch.0)
                (JustAsked (clock_of sc.world (nodes.Client c)) site.node.state.config o.session)) o.asked right

            go : WasAsked w c a.server a.life.0 o.session.epoch.0 o.request.number o.request.body
                ⊎ JustAsked (clock_of sc.world (nodes.Client c)) site.node.state.config o.session o.request.body → After c s m
            go (inl z) = before z
            go (inr z) =
                now_asked m.body refl
                (subst (JustAsked (clock_of sc.world (nodes.Client c)) site.node.state.config o.session) (sym o.body) z)

      its_state : After c s m
      its_state = go site.node.running refl (same_or_not m.header.life a.life.0)
        where
          running : site.node.running ≡ true → m.header.life ≡ a.life.0 → AllPast sc.world c a.server m ⊎ IsOutstanding a m → After c s m
          running r l (inl p) = inl (subst (λ (z : ServerId). AllPast sc.world c z m) y.2 p)
          running r l (inr o) = asked r l o

          go : (b : Bool) → site.node.running ≡ b → (m.header.life ≡ a.life.0) ⊎ (m.header.life ≢ a.life.0) → After c s m
          go false r l = ended (inr r)
          go true r (inr n) = ended (inl (omega (arith, n, up)))
          go true r (inl l) =
              running r l
              (outstanding k count (past ++ step t e sc ∷ []) (traced_after e t sc) all2.base c site (record { there = here; runs = r }) a y.1 m among mine
              l pos)

    its_after : After c s m
    its_after = go (node_of sc.world s) refl
      where
        bounds : 1 ≤ c.0
        bounds =
            let q = leb-true 1 m.header.from (and_true (nat_le 1 m.header.from) (nat_le m.header.from 16) from).0 in
            let z = between.0 in
            omega (arith, q, z)

        place : (site : WorldClient) × (site_of sc.world c ≡ Some site)
        place = site_there sc.world c bounds (let q = all2.owners.senders m among from in let z = between.0 in omega (arith, q, z))

        go : (o : Option ServerNode) → node_of sc.world s ≡ o → After c s m
        go None at = inl (λ n q. absurd (none_not_some n (sym at ∙ q)))
        go (Some node) at = its_state node at place.0 place.1

  pub held_on : AllHeld sc.world
  held_on c s m among between from pos = its_after c s m among between from pos
