-- A request for a block asks for one page, and room is wanted in the volume for that page, while
-- its server may still serve the request. All requests before it were served, and its client has an
-- exclusive row of the file. So it is after every event.
use Rattle.st_lemmas.proofs.Words
use Words.{◌≡◌, ◌≢◌, ◌⊎◌, ℕ, ◌-◌, ◌<◌, ◌≤◌, arith, Bool, true, false, List, [], ◌∷◌, ◌++◌, Option, Some, None, Ok, refl, sym, ap, ◌∙◌, subst, inl, inr}
use Words.{◌==◌, eqb-true, leb-true, nat_le, Ask, Body, ClientId, Event, FileId, Message, PageNo, ServerId}
use Words.bodies
use Words.events
use Words.nodes
use Words.ClientState.{Association, reasserts}
use Words.Events.{WorldTurn, world_step}
use Words.History.{Traced, traced_after}
use Words.Keys.{server_node}
use Words.Lists.{Has}
use Words.Safety.{Step, is_event, step}
use Words.Server.{ServerNode, is_client_node}
use Words.Sessions as sessions
use Words.Tables.{and_true, has_filter, has_map, has_map_in, same_or_not}
use Words.World as world
use Words.World.{World, WorldClient, clock_of, node_of, site_of}
use Words.Truth.{none_not_some}
use Words.Worlds.{site_there}
use Rattle.st_rules.specs.Lines as lines
use Rattle.st_protocol.specs.Assoc.{Config}
use Rattle.st_laws_pages.specs.LockedCuts.CutLocks.{WaitsHold}
use Rattle.st_laws_leases.specs.Dates.Dates.{messages}
use Rattle.st_laws_refine.specs.Client.Invariants.{Lasts}
use Rattle.st_laws_reads.specs.AllClients.Law.{Running}
use Rattle.st_laws_requests.specs.Cuts.Cuts.{Between, IsSent, Keyed, Numbers, SameBody, SentIn}
use Rattle.st_laws_requests.specs.Cuts.Cuts as cuts
use Rattle.st_laws_requests.specs.Replies.ServedRequests.{IsBehind}
use Rattle.st_laws_extents.specs.CutRequests.EndedLives.{IsPast}
use Rattle.st_laws_extents.proofs.CutRequests.Seen.{cuts_known}
use Rattle.st_laws_cuts.specs.EndedRequests.{AllPast}
use Rattle.st_laws_cuts.proofs.Law.{AllHold}
use Rattle.st_laws_cuts.proofs.Open.{association_there}
use Rattle.st_laws_cuts.proofs.OverAfter.{past_on}
use Rattle.st_laws_volume.specs.Asks.{AsksOf, HasAsksOf, ask_key, at_site, operation_key}
use Rattle.st_laws_volume.specs.Logs.{IsLogOf}
use Rattle.st_laws_volume.specs.Witness.{Witness, steps_of}
use Rattle.st_laws_volume.proofs.AllocateSteps.{AllKnown, AskedRight, JustAsked, RightIn, is_allocation}
use Rattle.st_laws_volume.proofs.AskedBlocks.{WasAsked, blocks_asked}
use Rattle.st_laws_volume.proofs.CutPast.{cut_past}
use Rattle.st_laws_volume.proofs.EarlierRequests.{earlier}
use Rattle.st_laws_volume.proofs.OutstandingRows.{IsOutstanding, its_row, outstanding, served_before}
use Rattle.st_laws_volume.proofs.PastLives.{was_sent}
use Rattle.st_laws_volume.proofs.RoomClaims.{OpenWanted, Place}
use Rattle.st_laws_volume.proofs.RoomCuts.{CutSeen, asked_or_cut, kept_or_cut}
use Rattle.st_laws_volume.proofs.RowsOn.{AnyGrant, HasRow, HasRowUnder, rows_on}
use Rattle.st_volume.specs.Pages.{place_of, same_file}
use Rattle.st_volume.specs.Volume.{Volume, is_of_client, open_of, run}

abbrev pub file_at : ServerId → ℕ → FileId
file_at s ino = record { server = s; ino = ino }

-- What holds of a request for a block of this page, while its server may serve it.
pub record WantedBlock (w : World) (v : Volume) (c : ClientId) (s : ServerId) (m : Message)
    (ino : ℕ) (p : PageNo) (n : ℕ) : Type 0 where
  pub before : AllPast w c s (earlier m)
  pub row : HasRow w c s ino
  pub wanted : Has (file_at s ino, p) v.claims
  pub one : n ≡ 1

abbrev pub WantedFor : World → Volume → ClientId → ServerId → Message → Body → Type 0
WantedFor w v c s m (bodies.Allocate ino g p n) = WantedBlock w v c s m ino p n
WantedFor w v c s m b = Unit {0}

abbrev pub PastOrWanted : World → Volume → ClientId → ServerId → Message → Type 0
PastOrWanted w v c s m = AllPast w c s m ⊎ WantedFor w v c s m m.body

abbrev pub AllWanted : World → Volume → Type 0
AllWanted w v =
    (c : ClientId) (s : ServerId) (m : Message) → Has m (messages w) → Between c s m →
    is_client_node m.header.from ≡ true → 1 ≤ m.header.number →
    PastOrWanted w v c s m

-- All this depends only on the key under which a message was sent, and on what it asks.
pub past_as : (w : World) (c : ClientId) (s : ServerId) (m p : Message) →
    p.header.life ≡ m.header.life → p.header.epoch ≡ m.header.epoch →
    p.header.number ≡ m.header.number → AllPast w c s p → AllPast w c s m
past_as w c s m p life epoch number h node at = go (h node at)
  where
    go : IsPast c node p → IsPast c node m
    go (inl l) = inl (omega (arith, l, epoch))
    go (inr z) =
        inr (
          sym epoch ∙ z.0,
          λ r. subst (λ x. IsBehind (sessions.session_of node.state.sessions c) x m.header.number)
              life
              (subst (λ x. IsBehind (sessions.session_of node.state.sessions c) p.header.life x)
              number (z.1 r)),
        )

state_as : (w : World) (v : Volume) (c : ClientId) (s : ServerId) (m p : Message) →
    p.header.life ≡ m.header.life → p.header.epoch ≡ m.header.epoch →
    p.header.number ≡ m.header.number → p.body ≡ m.body → PastOrWanted w v c s p →
    PastOrWanted w v c s m
state_as w v c s m p life epoch number body (inl h) = inl (past_as w c s m p life epoch number h)
state_as w v c s m p life epoch number body (inr h) =
    inr (subst (WantedFor w v c s m) body (go p.body h))
  where
    go : (b : Body) → WantedFor w v c s p b → WantedFor w v c s m b
    go (bodies.Allocate ino g q n) z =
        record {
          before = past_as w c s (earlier m) (earlier p) life epoch (ap (λ x. x - 1) number)
              z.before;
          row = z.row;
          wanted = z.wanted;
          one = z.one;
        }
    go b z = tt

-- One event.
module _ (k : Config) (count : ℕ) (past : List Step) (t : Traced) (e : Event) (sc : WorldTurn)
    (ranges : is_event count e ≡ true)
    (taken : world_step t.world e ≡ Ok sc) (all : AllHold k count past t)
    (all2 : AllHold k count (past ++ step t e sc ∷ []) (traced_after e t sc))
    (waits : WaitsHold sc.world) (it : Witness) (v u : Volume)
    (led : run (steps_of it v (step t e sc)) v ≡ Some u) (old : IsLogOf t.world.log v)
    (told : lines.IsLogTold sc.world t.world.log sc.seen) (new : IsLogOf sc.world.log u)
    (agree : HasAsksOf t.world v) (open_ : OpenWanted v)
    (fine : AllWanted t.world v) where
  abbrev w : World
  w = t.world

  abbrev After : ClientId → ServerId → Message → Type 0
  After c s m = PastOrWanted sc.world u c s m

  on_past : (c : ClientId) (s : ServerId) (m : Message) → AllPast w c s m → AllPast sc.world c s m
  on_past c s m p = past_on k count past t e sc ranges all.base taken c s m p

  kept : (y : Place) → Has y v.claims → Has y u.claims ⊎ CutSeen y sc.seen
  kept = kept_or_cut it (step t e sc) v u led old told new

  cut_at : (c : ClientId) (s : ServerId) (m : Message) → AllPast w c s (earlier m) →
      (ino : ℕ) (p : PageNo) → CutSeen (file_at s ino, p) sc.seen →
      HasRow w c s ino → AllPast sc.world c s m
  cut_at c s m before ino p x row =
      let f = and_true (s.0 == x.file.server.0) (ino == x.file.ino)
      (and_true (same_file (file_at s ino) x.file) (nat_le x.page.0 p.0) x.cuts).0 in
      cut_past k count past t e sc ranges all.base taken c s m before x.file x.page
      (subst (HasRow w c s) (eqb-true ino x.file.ino f.1) row)
      (ap (λ (n : ℕ). record { 0 = n }) (sym (eqb-true s.0 x.file.server.0 f.0))) x.index x.among

  -- A message that was there before.
  carry : (c : ClientId) (s : ServerId) (m : Message) → PastOrWanted w v c s m → After c s m
  carry c s m (inl p) = inl (on_past c s m p)
  carry c s m (inr z) = by m.body z
    where
      by : (b : Body) → WantedFor w v c s m b →
          AllPast sc.world c s m ⊎ WantedFor sc.world u c s m b
      by (bodies.Allocate ino g p n) f =
          go (rows_on k count past t e sc ranges all.base taken c s ino m f.before AnyGrant f.row)
          (kept (file_at s ino, p) f.wanted)
        where
          go : AllPast sc.world c s m ⊎ HasRow sc.world c s ino →
              Has (file_at s ino, p) u.claims ⊎ CutSeen (file_at s ino, p) sc.seen →
              AllPast sc.world c s m ⊎ WantedBlock sc.world u c s m ino p n
          go (inl q) y = inl q
          go (inr r) (inl i) = inr
              (record
              { before = on_past c s (earlier m) f.before; row = r; wanted = i; one = f.one })
          go (inr r) (inr x) = inl (cut_at c s m f.before ino p x f.row)
      by b f = inr tt

  -- What is known of the asks of operations: room is wanted for their pages, or a cut of these is
  -- seen.
  abbrev C : ClientId → Ask → Type 0
  C c ask = (y : Place) → place_of ask ≡ Some y → Has y u.claims ⊎ CutSeen y sc.seen

  operations : (c : ClientId) (site : WorldClient) → site_of w c ≡ Some site →
      AllKnown (C c) site.node.state.operations
  operations c site at o i y q =
      let l =
      has_map ask_key (open_of v c) (operation_key o)
      (subst (Has (operation_key o))
      (sym (ap (λ (d : AsksOf). d.pending) (agree c ∙ ap at_site at)))
      (has_map_in operation_key site.node.state.operations o i)) in
      let f = has_filter (is_of_client c) v.pending l.0 l.1 in
      kept y (open_ l.0 f.0 y (ap place_of (sym (ap (λ (d : ℕ × Ask). d.1) l.2)) ∙ q))

  comes : (c : ClientId) (ask : Ask) → e ≡ events.App c ask → C c ask
  comes c ask is y q = asked_or_cut it (step t e sc) v u led old told new c ask is y q

  -- A request that was outstanding before: the message by which it was sent.
  module _ (c : ClientId) (server : ServerId) (life epoch number : ℕ) (body : Body)
      (z : WasAsked w c server life epoch number body) where
    abbrev S : Message → Type 0
    S m = Has m (messages w)

    numbers : Numbers S c z.association.server z.association.life.0 (cuts.view (Some z.session))
    numbers =
        subst (λ o. Numbers S c z.association.server z.association.life.0 (cuts.view o)) z.has
        ((all.base.cuts.clients c z.site z.there).all z.runs z.association z.among).numbers

    its : (p : Message) × S p × Keyed c z.association.server z.association.life.0 z.session.epoch.0
        z.request.number p
    its = subst (IsSent S c z.association.server z.association.life.0 z.session.epoch.0) z.asked
        numbers.sent

    its_body : 1 ≤ z.request.number → its.0.body ≡ z.request.body
    its_body pos =
        let l = its.2.under in
        let n = numbers.placed its.0 its.1 its.2.between its.2.of_life (omega (arith, l, pos)) in
        subst (λ o. SameBody o its.0) z.asked (n.same its.2.of_epoch) its.2.under

    sent_before : (m : Message) → is_client_node m.header.from ≡ true → m.header.from ≡ c.0 →
        m.header.life ≡ life → m.header.epoch ≡ epoch →
        m.header.number ≡ number → m.body ≡ body → 1 ≤ number → After c server m
    sent_before m from c_is l ep n b pos =
        state_as sc.world u c server m its.0 (its.2.of_life ∙ (z.of_life ∙ sym l))
        (its.2.of_epoch ∙ (z.of_epoch ∙ sym ep))
        (its.2.under ∙ (z.of_number ∙ sym n))
        (its_body (let q = z.of_number in omega (arith, q, pos)) ∙ (z.of_body ∙ sym b))
        (subst (λ (r : ServerId). After c r its.0) z.at
        (carry c z.association.server its.0
        (fine c z.association.server its.0 its.1 its.2.between
        (ap is_client_node (its.2.between.0 ∙ sym c_is) ∙ from)
        (let q = z.of_number in let y = its.2.under in omega (arith, q, y, pos)))))

  -- A message after the event.
  module _ (c : ClientId) (s : ServerId) (m : Message) (among : Has m (messages sc.world))
      (between : Between c s m)
      (from : is_client_node m.header.from ≡ true) (pos : 1 ≤ m.header.number) where
    was : Has m (messages w) → After c s m
    was i = carry c s m (fine c s m i between from pos)

    -- at a server that is there
    module _ (node : ServerNode) (at : node_of sc.world s ≡ Some node) (site : WorldClient)
        (here : site_of sc.world c ≡ Some site) where
      y : (a : Association) × Has a site.node.state.associations × (a.server ≡ world.server s.0)
      y =
          association_there k s.0 c.0 site sc.world.ended
          ((all2.base.all.servers s.0 node at).ghosts c.0).net
          ((all2.base.all.servers s.0 node at).both.clients c.0 site here)

      abbrev a : Association
      a = y.0

      mine : Between c a.server m
      mine = (between.0, between.1 ∙ ap server_node (sym y.2))

      up : m.header.life ≤ a.life.0
      up = (all2.base.cuts.clients c site here).lives a y.1 m among mine

      ended : (m.header.life < a.life.0) ⊎ (site.node.running ≡ false) → After c s m
      ended l =
          was (was_sent k count past t e sc all.base all.owners.owned all.owners.few taken c site
          here a y.1 m among mine l)

      -- the outstanding request of a session
      module _ (runs : site.node.running ≡ true) (life : m.header.life ≡ a.life.0)
          (o : IsOutstanding a m) where
        before : WasAsked w c a.server a.life.0 o.session.epoch.0 o.request.number o.request.body →
            After c s m
        before z =
            subst (λ (r : ServerId). After c r m) y.2
            (sent_before c a.server a.life.0 o.session.epoch.0 o.request.number o.request.body z m
            from between.0 life o.epoch o.number o.body
            (let q = o.number in omega (arith, q, pos)))

        -- no client takes a step
        unmoved : sc.world.clients ≡ w.clients → After c s m
        unmoved cs =
            before
            (record {
              site = site;
              there = ap (λ xs. world.numbered xs c.0) (sym cs) ∙ here;
              runs = runs;
              association = a;
              among = y.1;
              at = refl;
              session = o.session;
              has = o.has;
              request = o.request;
              asked = o.asked;
              of_life = refl;
              of_epoch = refl;
              of_number = refl;
              of_body = refl;
            })

        just : JustAsked (C c) (clock_of sc.world (nodes.Client c)) site.node.state.config a.server
            o.session o.request.body → After c s m
        just z = go (z.known (z.file, z.page) z.place)
          where
            body : m.body ≡ bodies.Allocate z.file.ino z.g z.page 1
            body = o.body ∙ z.is

            plain : reasserts m.body ≡ false
            plain = ap reasserts body

            running : Running sc.world c.0 site
            running = record { there = here; runs = runs }

            lasts : Lasts site.node.state.config.lease (clock_of sc.world (nodes.Client c)).0
                a.session
            lasts =
                subst (Lasts site.node.state.config.lease (clock_of sc.world (nodes.Client c)).0)
                (sym o.has)
                z.lasts

            sooner : AllPast sc.world c s (earlier m)
            sooner =
                subst (λ (r : ServerId). AllPast sc.world c r (earlier m)) y.2
                (served_before k count (past ++ step t e sc ∷ []) (traced_after e t sc) all2.base c
                site running a y.1 m life pos o plain)

            any_row : AllPast sc.world c a.server m
                ⊎ HasRowUnder (λ g. g.0 ≡ z.lock.g.0) sc.world c a.server z.file.ino →
                AllPast sc.world c a.server m ⊎ HasRow sc.world c a.server z.file.ino
            any_row (inl p) = inl p
            any_row (inr r) =
                inr (λ n f. let q = r n f in
                record {
                  row = q.row;
                  is = q.is;
                  exclusive = q.exclusive;
                  under = tt;
                  unwaited = q.unwaited;
                })

            row : AllPast sc.world c s m ⊎ HasRow sc.world c s z.file.ino
            row =
                subst (λ (r : ServerId). AllPast sc.world c r m ⊎ HasRow sc.world c r z.file.ino)
                y.2
                (any_row
                (its_row k count (past ++ step t e sc ∷ []) (traced_after e t sc) all2.base c site
                running a y.1 m life pos o plain waits z.file.ino z.lock
                z.held z.exclusive lasts))

            by : Has (z.file, z.page) u.claims →
                AllPast sc.world c s m ⊎ HasRow sc.world c s z.file.ino → After c s m
            by i (inl p) = inl p
            by i (inr r) =
                inr (subst (WantedFor sc.world u c s m) (sym body)
                (record {
                  before = sooner;
                  row = r;
                  wanted = subst (λ (f : FileId). Has (f, z.page) u.claims)
                      (ap (λ (r : ServerId). record { server = r; ino = z.file.ino }) (z.of ∙ y.2))
                      i;
                  one = refl;
                }))

            go : Has (z.file, z.page) u.claims ⊎ CutSeen (z.file, z.page) sc.seen → After c s m
            go (inl i) = by i row
            go (inr x) =
                unmoved
                (cuts_known w e sc (λ r n at2. (all.base.cuts.servers r n at2).id) taken x.index
                x.file x.page x.among).1.clients

        asked : After c s m
        asked = by m.body refl
          where
            right : RightIn (WasAsked w c) (C c) (clock_of sc.world (nodes.Client c))
                site.node.state.config a.server a.life.0 (Some o.session)
            right =
                subst (RightIn (WasAsked w c) (C c) (clock_of sc.world (nodes.Client c))
                site.node.state.config a.server a.life.0) o.has
                (blocks_asked w e sc taken all.base.cuts.fates.lives C operations comes c site here
                runs a y.1)

            known : is_allocation o.request.body ≡ true →
                WasAsked w c a.server a.life.0 o.session.epoch.0 o.request.number o.request.body
                ⊎ JustAsked (C c) (clock_of sc.world (nodes.Client c)) site.node.state.config
                a.server o.session o.request.body
            known =
                subst
                (AskedRight (WasAsked w c a.server a.life.0 o.session.epoch.0)
                (JustAsked (C c) (clock_of sc.world (nodes.Client c)) site.node.state.config
                a.server o.session)) o.asked right

            go : WasAsked w c a.server a.life.0 o.session.epoch.0 o.request.number o.request.body
                ⊎ JustAsked (C c) (clock_of sc.world (nodes.Client c)) site.node.state.config
                a.server o.session o.request.body → After c s m
            go (inl z) = before z
            go (inr z) = just z

            by : (b : Body) → m.body ≡ b → After c s m
            by (bodies.Allocate ino g p n) q = go (known (ap is_allocation (sym o.body ∙ q)))
            by b q = inr (subst (WantedFor sc.world u c s m) (sym q) tt)

      its_state : After c s m
      its_state = go site.node.running refl (same_or_not m.header.life a.life.0)
        where
          running : site.node.running ≡ true → m.header.life ≡ a.life.0 →
              AllPast sc.world c a.server m ⊎ IsOutstanding a m → After c s m
          running r l (inl p) = inl (subst (λ (z : ServerId). AllPast sc.world c z m) y.2 p)
          running r l (inr o) = asked r l o

          go : (b : Bool) → site.node.running ≡ b →
              (m.header.life ≡ a.life.0) ⊎ (m.header.life ≢ a.life.0) → After c s m
          go false r l = ended (inr r)
          go true r (inr n) = ended (inl (omega (arith, n, up)))
          go true r (inl l) =
              running r l
              (outstanding k count (past ++ step t e sc ∷ []) (traced_after e t sc) all2.base c site
              (record { there = here; runs = r }) a y.1 m among mine l pos)

    its_after : After c s m
    its_after = go (node_of sc.world s) refl
      where
        bounds : 1 ≤ c.0
        bounds = let q = leb-true 1 m.header.from
            (and_true (nat_le 1 m.header.from) (nat_le m.header.from 16) from).0 in
            let z = between.0 in
            omega (arith, q, z)

        place : (site : WorldClient) × (site_of sc.world c ≡ Some site)
        place = site_there sc.world c bounds
            (let q = all2.owners.senders m among from in let z = between.0 in omega (arith, q, z))

        go : (o : Option ServerNode) → node_of sc.world s ≡ o → After c s m
        go None at = inl (λ n q. absurd (none_not_some n (sym at ∙ q)))
        go (Some node) at = its_state node at place.0 place.1

  pub blocks_on : AllWanted sc.world u
  blocks_on c s m among between from pos = its_after c s m among between from pos
