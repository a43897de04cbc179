-- In every run, after every event, what a client that runs knows of extents, under a lease that isn't over, is of files that their servers have.
use Rattle.st_lemmas.proofs.Words
use Words.{◌≡◌, ◌≢◌, ◌⊎◌, ℕ, ◌+◌, ◌≤◌, arith, Bool, true, false, List, [], ◌∷◌, ◌++◌, Option, Some, None, Ok, Err, refl, sym, ap, ◌∙◌, subst, inl, inr, if◌then◌else◌, eqb-true}
use Words.{Ask, Body, ClientId, ClientInput, Event, IssuedCommand, KnownExtent, Message, NodeId, Operation, PageNo, SentMessage, ServerId, Stamp}
use Words.{HeldLock}
use Words.bodies
use Words.events
use Words.inputs
use Words.nodes
use Words.Client as cl
use Words.ClientLocks as locks
use Words.ClientPages as pages
use Words.ClientReplies as cr
use Words.ClientState as cs
use Words.ClientState.{Association, ClientSession, ClientState, client_turn}
use Words.Disks as disks
use Words.Events as ev
use Words.Events.{WorldTurn, counted, world_step}
use Words.Extents.{numbers}
use Words.History.{Traced, traced, traced_after}
use Words.Keys.{client}
use Words.Lists.{Has}
use Words.Lookups.{some_is}
use Words.Names as names
use Words.Numbers.{numbered_below, numbered_has, numbered_other, numbered_own}
use Words.Safety.{IsHead, Step, is_event, step}
use Words.Server.{ServerNode, ServerTurn, server_step}
use Words.Tables.{has_map, has_map_in, same_or_not}
use Words.Worlds.{client_at_node}
use Words.World as world
use Words.World.{World, WorldClient, clock_of, fresh_world, issued_of, message_of, node_of, numbered, receiver_of, site_of, with_numbered}
use Rattle.st_base.specs.declared.config.Config as base
use Rattle.st_rules.specs.declared.node.StepRefusal.TheVariants.{Crashed}
use Rattle.st_protocol.specs.Assoc.{Config}
use Rattle.st_lemmas.proofs.Steps.{step_happens}
use Rattle.st_laws_steps.specs.Client.Inputs.{Each}
use Rattle.st_laws_steps.specs.Client.Losses.{Fit}
use Rattle.st_laws_steps.specs.Lives.Lives.{clock_in}
use Rattle.st_laws_refine.specs.Client.Invariants.{Lasts}
use Rattle.st_laws_refine.specs.Client.World.{WorldLeft, site_left, world_left}
use Rattle.st_laws_refine.proofs.Client.Sim.{world_is}
use Rattle.st_laws_refine.specs.Server.Pair.{terms_of}
use Rattle.st_laws_pages.proofs.Disks.Whole.{site_is}
use Rattle.st_laws_leases.specs.Dates.Dates.{message_in, messages}
use Rattle.st_laws_leases.proofs.Dates.Leaving.{set_cases}
use Rattle.st_laws_reads.specs.AllClients.CutFiles.{AllCleared, Cuts}
use Rattle.st_laws_reads.specs.Copies.World.{Taking, asking, receiving, receiving_of, now_at, taken, taking, told_at, told_of, turn_of}
use Rattle.st_laws_reads.proofs.AllClients.Behind.{Behind, behind}
use Rattle.st_laws_reads.proofs.AllClients.Cleared.{clear_step, fresh_clear}
use Rattle.st_laws_reads.proofs.AllClients.Takings.{Takes, takes_event}
use Rattle.st_laws_extents.specs.ExtentReplies.Events.{ServerSteps}
use Rattle.st_laws_extents.specs.ExtentReplies.Law.{IsAsked}
use Rattle.st_laws_extents.specs.Known.Known.{HasLock, Locked}
use Rattle.st_laws_extents.specs.Known.WritePlaces.{AllLocked, anything}
use Rattle.st_laws_extents.proofs.CutRequests.Law as cutters
use Rattle.st_laws_extents.proofs.Known.Held.{held_mode}
use Rattle.st_laws_extents.proofs.Known.Locked.{fresh_locked, locked_step}
use Rattle.st_laws_extents.proofs.Known.Locks.{lock_found}
use Rattle.st_laws_extents.proofs.Known.Step.{lost_knows}
use Rattle.st_laws_volume.specs.KnownFiles.{AllKnowFiles, SiteKnowsFiles}
use Rattle.st_laws_volume.proofs.ClientAnswers.{Tells}
use Rattle.st_laws_volume.proofs.ExtentFiles.{AskedOfFiles, asked_of_files, removed_asked}
use Rattle.st_laws_volume.proofs.FileEvents.{EventFiles, SitesStay, event_files, none_stays}
use Rattle.st_laws_volume.proofs.KnownPages.{Stored, empty_stored}
use Rattle.st_laws_volume.proofs.KnownReads.{Done, InputTellsFiles, Keeps, losses_keep, step_done}
use Rattle.st_laws_volume.proofs.RemovedFiles.{IsRemoved, file_goes}
use Rattle.st_laws_volume.proofs.TreeWorld.{AllSound}

-- nothing is asked of a file
abbrev Any : ServerId → ℕ → Type 0
Any server ino = Unit {0}

-- each page that a client has of a server lies where it is known
abbrev pub AllStored : World → Type 0
AllStored w = (c : ClientId) (site : WorldClient) → site_of w c ≡ Some site → Each (Keeps Any (record { 0 = 0 })) site.node.state.associations

-- A client that runs has a lock of a file, under a lease that isn't over, and the server has the file.
pub record FoundFile (w : World) (c : ClientId) (server : ServerId) (ino : ℕ) : Type 0 where
  pub site : WorldClient
  pub there : site_of w c ≡ Some site
  pub runs : site.node.running ≡ true
  pub association : Association
  pub has : Has association site.node.state.associations
  pub at : association.server ≡ server
  pub lasts : Lasts site.node.state.config.lease (clock_of w (nodes.Client c)).0 association.session
  pub locked : Locked association.session ino
  pub file : (node : ServerNode) → node_of w server ≡ Some node → names.is_file node.state.stable.names ino ≡ true

-- the lock under which extents were asked is held
asked_lock : (c : locks.LockCache) (ino : ℕ) (asked : Body) → cs.maps ino asked ≡ true → cr.is_current c asked ≡ true → HasLock c.rows ino
asked_lock c ino (bodies.Map i g p) m e = at (locks.lock_of c i) refl e
  where
    at : (o : Option HeldLock) → locks.lock_of c i ≡ o → cr.is_grant g o ≡ true → HasLock c.rows ino
    at None q z = cc z
    at (Some l) q z = subst (HasLock c.rows) (eqb-true i ino m) (lock_found c i l q)
asked_lock c ino (bodies.Allocate i g p count) m e = at (locks.lock_of c i) refl e
  where
    at : (o : Option HeldLock) → locks.lock_of c i ≡ o → cr.is_grant g o ≡ true → HasLock c.rows ino
    at None q z = cc z
    at (Some l) q z = subst (HasLock c.rows) (eqb-true i ino m) (lock_found c i l q)
asked_lock c ino asked m e = cc m

-- a message that a client takes was sent to it
abbrev pub Comes : World → ClientId → ClientInput → Type 0
Comes w c i = (m : Message) → i ≡ inputs.Control m → Has m (messages w) × (m.header.to ≡ c.0)

taken_comes : (w : World) (e : Event) (x : Taking) → taken (counted w) e ≡ Some x → Comes w x.client x.input
taken_comes w e x q m i = go e q
  where
    site_none : (v : World) (c : ClientId) (j : ClientInput) (o : Option WorldClient) → taking v c j o ≡ Some x → x.input ≡ j
    site_none v c j None q = cc q
    site_none v c j (Some s) q = ap (λ (y : Taking). y.input) (sym (some_is q))

    ask_is : (c : ClientId) (ask : Ask) (o : Option WorldClient) → asking (counted w) c ask o ≡ Some x → inputs.Control m ≡ x.input → ⊥
    ask_is c ask None q = cc q
    ask_is c ask (Some s) q = λ z. absurd (no (s.asks + 1) ask (z ∙ ap (λ (y : Taking). y.input) (sym (some_is q))))
      where
        no : (n : ℕ) (ask : Ask) → inputs.Control m ≡ inputs.App n ask → ⊥
        no n ask e = cc

    ticks : inputs.Control m ≡ inputs.Tick → ⊥
    ticks e = cc

    client_of : (v : World) (c : ClientId) (j : ClientInput) (o : Option WorldClient) → taking v c j o ≡ Some x → c ≡ x.client
    client_of v c j None q = cc q
    client_of v c j (Some s) q = ap (λ (y : Taking). y.client) (some_is q)

    received : (s : SentMessage) (k : ℕ) → message_of (counted w) k ≡ Some s → (n : NodeId) → receiver_of s ≡ n → receiving (counted w) s.message n ≡ Some x →
        Has m (messages w) × (m.header.to ≡ x.client.0)
    received s k f (nodes.Server y) r q = cc q
    received s k f (nodes.Client c) r q = (
      subst (λ z. Has z (messages w)) body (has_map_in message_in w.net.messages s (numbered_has w.net.messages k s f)),
      ap (λ (z : Message). z.header.to) (sym body)
          ∙ (client_at_node s.message.header.to c r
          ∙ ap (λ (d : ClientId). d.0) (client_of (counted w) c (inputs.Control s.message) (site_of (counted w) c) q)),
    )
      where
        input_is : (a b : Message) → inputs.Control a ≡ inputs.Control b → a ≡ b
        input_is a b e = cc

        body : s.message ≡ m
        body = input_is s.message m (sym (site_none (counted w) c (inputs.Control s.message) (site_of (counted w) c) q) ∙ i)

    delivered : (k : ℕ) (o : Option SentMessage) → message_of (counted w) k ≡ o → receiving_of (counted w) o ≡ Some x →
        Has m (messages w) × (m.header.to ≡ x.client.0)
    delivered k None f q = cc q
    delivered k (Some s) f q = received s k f (receiver_of s) refl q

    ended : (v : World) (k : ℕ) (ok : Bool) (o : Option IssuedCommand) → told_of v k ok o ≡ Some x → Has m (messages w) × (m.header.to ≡ x.client.0)
    ended v k ok None q = cc q
    ended v k ok (Some y) q = at (site_of v y.client) q
      where
        no : (j : ClientInput) → j ≡ ev.end_told v k ok y → inputs.Control m ≡ j → ⊥
        no j e f = cc (f ∙ e)

        by : (s : WorldClient) (b : Bool) → (if b then taking v y.client (ev.end_told v k ok y) (Some s) else None) ≡ Some x →
            Has m (messages w) × (m.header.to ≡ x.client.0)
        by s true q = absurd (no (ev.end_told v k ok y) refl (sym i ∙ site_none v y.client (ev.end_told v k ok y) (Some s) q))
        by s false q = cc q

        at : (o : Option WorldClient) → told_at v k ok y o ≡ Some x → Has m (messages w) × (m.header.to ≡ x.client.0)
        at None q = cc q
        at (Some s) q = by s (ev.is_same_instance y s) q

    go : (e : Event) → taken (counted w) e ≡ Some x → Has m (messages w) × (m.header.to ≡ x.client.0)
    go (events.Tick (nodes.Client c)) q = absurd (ticks (sym i ∙ site_none (counted w) c inputs.Tick (site_of (counted w) c) q))
    go (events.App c ask) q = absurd (ask_is c ask (site_of (counted w) c) q (sym i))
    go (events.Deliver k) q = delivered k (message_of (counted w) k) refl q
    go (events.Report k ok) q =
        ended (ev.with_disks (ev.disks_after (counted w).disks (disks.done (counted w).disks k ok)) (counted w)) k ok (issued_of (counted w) k) q
    go e q = cc q

-- What holds after every event.
pub record FilesKnown (k : Config) (count : ℕ) (past : List Step) (t : Traced) : Type 0 where
  pub asks : cutters.Hold k count past t
  pub sound : AllSound t.world
  pub replied : AskedOfFiles t.world
  pub clear : AllCleared t.world
  pub locked : AllLocked t.world
  pub stored : AllStored t.world
  pub known : AllKnowFiles t.world

module _ (k : Config) (count : ℕ) (past : List Step) (t : Traced) (h : FilesKnown k count past t) where
  abbrev w : World
  w = t.world

  all_fit : (c : ClientId) (site : WorldClient) → site_of w c ≡ Some site → (a : Association) → Has a site.node.state.associations → Fit a
  all_fit c site q = (h.asks.all.fates.lives.lives.sites c site q).fit

  -- A client that runs takes an input.
  module _ (c : ClientId) (site : WorldClient) (there : site_of w c ≡ Some site) (runs : site.node.running ≡ true) (now : Stamp)
      (clock : now ≡ clock_of w (nodes.Client c)) (i : ClientInput) (comes : Comes w c i) where
    abbrev s : ClientState
    s = site.node.state

    abbrev left : List Association
    left = (cl.losses (client_turn s []) now).state.associations

    abbrev Found : ServerId → ℕ → Type 0
    Found = FoundFile w c

    was : (a : Association) → Has a left → (u : ClientSession) → a.session ≡ Some u →
        Has a s.associations × Lasts s.config.lease (clock_of w (nodes.Client c)).0 a.session
    was a j u e =
        let b : Behind s now a = behind c s now (all_fit c site there) a j u e in
        (b.was, subst (λ (n : Stamp). Lasts s.config.lease n.0 a.session) clock b.lasts)

    known_found : (a : Association) → Has a left → (e : KnownExtent) → Has e a.store.extents → Found a.server e.ino
    known_found a j e q = go a.session refl
      where
        lock : Locked a.session e.ino
        lock = (lost_knows anything s now (h.locked c site there) a j e q).locked

        go : (o : Option ClientSession) → a.session ≡ o → Found a.server e.ino
        go None f = absurd (subst (λ o. Locked o e.ino) f lock)
        go (Some u) f =
            let z = was a j u f in
            record {
              site = site;
              there = there;
              runs = runs;
              association = a;
              has = z.0;
              at = refl;
              lasts = z.1;
              locked = lock;
              file = λ node at. (h.known c site there).files runs a z.0 z.1 e q node at;
            }

    kept_left : Each (Keeps Found now) left
    kept_left a j =
        let z = losses_keep Any now s (h.stored c site there) a j in
        record { known = known_found a j; clean = z.clean; dirty = z.dirty; reads = z.reads }

    told : InputTellsFiles Found now left i
    told m q a j u r ino rows session from life epoch asked number body maps current =
        let z = was a j u session in
        let l : HasLock u.locks.rows ino = asked_lock u.locks ino r.body maps current in
        record {
          site = site;
          there = there;
          runs = runs;
          association = a;
          has = z.0;
          at = refl;
          lasts = z.1;
          locked = subst (λ o. Locked o ino) (sym session) l;
          file =
              λ node at.
              (h.replied c.0 site a u r
              (record { run = record { there = there; runs = runs }; has = z.0; session = session; lasts = z.1; asked = asked; current = current })
              node at).sent
              m ino rows (comes m q).0
              (record { from = from; to = (comes m q).1; of_life = life; of_epoch = epoch; under = sym number; body = body }) maps;
        }

    pub client_done : (Known : ℕ → Ask → Type 0) → ((o : Operation) → Has o s.operations → Known o.op o.ask) → Tells Known (λ v n. Unit {0}) i →
        Done Found now Known (cl.client_step s now i)
    client_done Known known tells = step_done Found now Known s i known tells kept_left told

  -- An event.
  module _ (e : Event) (sc : WorldTurn) (ranges : is_event count e ≡ true) (is : world_step w e ≡ Ok sc) (go_on : IsAsked past (step t e sc)) where
    files : EventFiles w sc.world
    files = event_files past t h.asks.replies h.asks.cuts.few e sc (cutters.owed k count past t e sc ranges h.asks is) is

    abbrev Both : World → Type 0
    Both v = AllStored v × AllKnowFiles v

    -- A client takes it.
    module _ (x : Taking) (q : taken (counted w) e ≡ Some x) where
      takes : Takes (counted w) sc x
      takes = subst (λ (z : WorldTurn). Takes (counted w) z x) (sym (step_happens w e sc is).1) (takes_event (counted w) e x q)

      same_world : (v : World) → v.clients ≡ w.clients → v.servers ≡ w.servers → v.clocks ≡ w.clocks → Both v
      same_world v cs ss ts = (
        λ c site at. h.stored c site (ap (λ xs. numbered xs c.0) (sym cs) ∙ at),
        λ c site at.
            record {
              files = λ run a i l e j node m.
                  (h.known c site (ap (λ xs. numbered xs c.0) (sym cs) ∙ at)).files run a i
                  (subst (λ ts. Lasts site.node.state.config.lease (clock_in ts c).0 a.session) ts l) e j node
                  (ap (λ ns. numbered ns a.server.0) (sym ss) ∙ m);
            },
      )

      stops : x.site.node.running ≡ false → Both sc.world
      unfolding ev.client_takes cl.node_step ev.client_took
      stops r =
          let same : sc.world ≡ x.world =
          ap (λ (z : WorldTurn). z.world) takes.is
          ∙ ap (λ b. (ev.client_took x.world x.client x.site (if b then Ok (cl.node_turn x.site.node (turn_of x)) else Err Crashed)).world) r in
          same_world sc.world (ap (λ (z : World). z.clients) same ∙ takes.clients) (ap (λ (z : World). z.servers) same ∙ takes.servers)
          (ap (λ (z : World). z.clocks) same ∙ takes.clocks)

      known_any : (i : ClientInput) → Tells (λ op ask. Unit {0}) (λ v n. Unit {0}) i
      known_any inputs.Tick = tt
      known_any (inputs.App op ask) = tt
      known_any (inputs.Control m) = λ v f. tt
      known_any (inputs.Done number result) = tt

      module _ (r : x.site.node.running ≡ true) where
        runs_old : takes.old.node.running ≡ true
        runs_old = ap (λ (n : cl.ClientNode). n.running) takes.same ∙ r

        clock : now_at x ≡ clock_of w (nodes.Client x.client)
        clock = ap (λ ts. clock_in ts x.client) takes.clocks

        done : Done (FoundFile w x.client) (now_at x) (λ op ask. Unit {0}) (turn_of x)
        done =
            subst (λ (n : cl.ClientNode). Done (FoundFile w x.client) (now_at x) (λ op ask. Unit {0}) (cl.client_step n.state (now_at x) x.input)) takes.same
            (client_done x.client takes.old takes.there runs_old (now_at x) clock x.input (taken_comes w e x q) (λ op ask. Unit {0}) (λ o i. tt)
            (known_any x.input))

        world_left_is : WorldLeft x.world x.client x.site x.input
        world_left_is = world_is x.world x.client x.site x.input

        goes : sc.world ≡ world_left x.world x.client x.site x.input
        unfolding ev.client_takes cl.node_step
        goes =
            ap (λ (z : WorldTurn). z.world) takes.is
            ∙ ap (λ b. (ev.client_took x.world x.client x.site (if b then Ok (cl.node_turn x.site.node (turn_of x)) else Err Crashed)).world) r

        clients_are : sc.world.clients ≡ with_numbered x.client.0 (site_left x.world x.client x.site x.input) w.clients
        clients_are =
            ap (λ (z : World). z.clients) goes
            ∙ (world_left_is.clients ∙ ap (λ ys. with_numbered x.client.0 (site_left x.world x.client x.site x.input) ys) takes.clients)

        servers_are : sc.world.servers ≡ w.servers
        servers_are = ap (λ (z : World). z.servers) goes ∙ (world_left_is.servers ∙ takes.servers)

        clocks_are : sc.world.clocks ≡ w.clocks
        clocks_are = ap (λ (z : World). z.clocks) goes ∙ (world_left_is.clocks ∙ takes.clocks)

        -- the client that takes it, or another one
        abbrev Which : ClientId → WorldClient → Type 0
        Which d site =
            ((d.0 ≡ x.client.0) × (site ≡ site_left x.world x.client x.site x.input)) ⊎ ((d.0 ≢ x.client.0) × (site_of w d ≡ Some site))

        which : (d : ClientId) (site : WorldClient) → site_of sc.world d ≡ Some site → Which d site
        which d site at =
            set_cases w.clients x.client.0 d.0 takes.old (site_left x.world x.client x.site x.input) site takes.there
            (ap (λ xs. numbered xs d.0) (sym clients_are) ∙ at)

        stored_next : AllStored sc.world
        stored_next d site at = by (which d site at)
          where
            by : Which d site → Each (Keeps Any (record { 0 = 0 })) site.node.state.associations
            by (inr z) = h.stored d site z.1
            by (inl z) =
                subst (λ (y : WorldClient). Each (Keeps Any (record { 0 = 0 })) y.node.state.associations) (sym z.1)
                (λ a i. let y = done.stored a i in record { known = λ b j. tt; clean = y.clean; dirty = y.dirty; reads = y.reads })

        known_next : AllKnowFiles sc.world
        known_next d site at = by (which d site at)
          where
            by : Which d site → SiteKnowsFiles sc.world d site
            by (inr z) =
                record {
                  files = λ run a i l b j node m.
                      (h.known d site z.1).files run a i (subst (λ ts. Lasts site.node.state.config.lease (clock_in ts d).0 a.session) clocks_are l) b j node
                      (ap (λ ns. numbered ns a.server.0) (sym servers_are) ∙ m);
                }
            by (inl z) =
                subst (SiteKnowsFiles sc.world d) (sym z.1)
                (record {
                  files = λ run a i l b j node m.
                      ((done.stored a i).known b j).file node (ap (λ ns. numbered ns a.server.0) (sym servers_are) ∙ m);
                })

      taken_both : Both sc.world
      taken_both = by x.site.node.running refl
        where
          by : (b : Bool) → x.site.node.running ≡ b → Both sc.world
          by true r = (stored_next r, known_next r)
          by false r = stops r

    -- No client takes an input.
    module _ (q : taken (counted w) e ≡ None) where
      sites : SitesStay w sc.world
      sites =
          let z = subst (λ (y : WorldTurn). SitesStay (counted w) y.world) (sym (step_happens w e sc is).1) (none_stays (counted w) e q) in
          record { sites = z.sites; clocks = z.clocks }

      none_stored : AllStored sc.world
      none_stored d site at = by (sites.sites d site at)
        where
          by : (site_of w d ≡ Some site) ⊎ ((a : Association) → Has a site.node.state.associations → a.store ≡ pages.empty_store) →
              Each (Keeps Any (record { 0 = 0 })) site.node.state.associations
          by (inl z) = h.stored d site z
          by (inr z) = λ a i. subst (Stored (Any a.server)) (sym (z a i)) (empty_stored (Any a.server))

      -- a file of which a client knows extents, as a server takes a step
      module _ (y : ServerSteps w sc.world) where
        abbrev u : ServerTurn
        u = server_step y.node.state y.now y.input

        abbrev next : ServerNode
        next = record y.node { state = u.state }

        module _ (d : ClientId) (site : WorldClient) (there : site_of w d ≡ Some site) (run : site.node.running ≡ true) (a : Association)
            (i : Has a site.node.state.associations) (l : Lasts site.node.state.config.lease (clock_of w (nodes.Client d)).0 a.session) (b : KnownExtent)
            (j : Has b a.store.extents) where
          -- the step doesn't remove it
          never : y.server ≡ a.server → IsRemoved y.node.state y.input b.ino → ⊥
          never f r =
              no
              (removed_asked k count past t h.asks y.server y.node y.there y.running y.input y.comes b.ino r d.0 site (record { there = there; runs = run }) a i
              f l
              (held_mode k count w h.asks.all d.0 site there a i (record { node = y.node; is = ap (node_of w) (sym f) ∙ y.there }) b.ino
              (h.locked d site there a i b j).locked))
            where
              no : (p : PageNo) × Cuts a.session b.ino p × (p.0 ≤ 0) → ⊥
              no (p, z, n) = (h.clear d site there a i b.ino p z).known b j refl (omega (arith, n))

          step_file : (p : ServerNode) → node_of sc.world a.server ≡ Some p → names.is_file p.state.stable.names b.ino ≡ true
          step_file p at = by (same_or_not a.server.0 y.server.0)
            where
              found : numbered (with_numbered y.server.0 next w.servers) a.server.0 ≡ Some p
              found = ap (λ xs. numbered xs a.server.0) (sym y.servers) ∙ at

              of : (n : ServerNode) → node_of w a.server ≡ Some n → names.is_file n.state.stable.names b.ino ≡ true
              of n m = (h.known d site there).files run a i l b j n m

              by : (a.server.0 ≡ y.server.0) ⊎ (a.server.0 ≢ y.server.0) → names.is_file p.state.stable.names b.ino ≡ true
              by (inr n) =
                  of p
                  (sym (numbered_other w.servers y.server.0 a.server.0 next (numbered_below w.servers y.server.0 y.node y.there).0 n) ∙ found)
              by (inl m) =
                  subst (λ (z : ServerNode). names.is_file z.state.stable.names b.ino ≡ true) its
                  (kept (file_goes y.node.state y.now y.input (h.sound y.node (numbered_has w.servers y.server.0 y.node y.there)) b.ino
                  (of y.node (ap (node_of w) (sym same) ∙ y.there))))
                where
                  same : y.server ≡ a.server
                  same = Words.Truth.server_is y.server a.server (sym m)

                  its : next ≡ p
                  its =
                      some_is
                      (sym (ap (numbered (with_numbered y.server.0 next w.servers)) m ∙ numbered_own w.servers y.server.0 next y.node y.there) ∙ found)

                  kept : (names.is_file u.state.stable.names b.ino ≡ true) ⊎ IsRemoved y.node.state y.input b.ino →
                      names.is_file u.state.stable.names b.ino ≡ true
                  kept (inl f) = f
                  kept (inr r) = absurd (never same r)

      none_known : AllKnowFiles sc.world
      none_known d site at = record { files = λ run a i l b j p m. by (sites.sites d site at) run a i l b j p m }
        where
          Wanted : Type 0
          Wanted =
              site.node.running ≡ true → (a : Association) → Has a site.node.state.associations →
              Lasts site.node.state.config.lease (clock_of sc.world (nodes.Client d)).0 a.session → (b : KnownExtent) → Has b a.store.extents →
              (p : ServerNode) → node_of sc.world a.server ≡ Some p → names.is_file p.state.stable.names b.ino ≡ true

          before : (o : Option ClientSession) → Lasts site.node.state.config.lease (clock_of sc.world (nodes.Client d)).0 o →
              Lasts site.node.state.config.lease (clock_of w (nodes.Client d)).0 o
          before None l = tt
          before (Some v) l = let c = sites.clocks d in omega (arith, l, c)

          old : site_of w d ≡ Some site → EventFiles w sc.world → Wanted
          old there (inl f) run a i l b j p m =
              let n = f.nodes a.server p m in
              ap (λ z. names.is_file z b.ino) n.3 ∙ (h.known d site there).files run a i (before a.session l) b j n.0 n.1
          old there (inr y) run a i l b j p m = step_file y d site there run a i (before a.session l) b j p m

          by : (site_of w d ≡ Some site) ⊎ ((a : Association) → Has a site.node.state.associations → a.store ≡ pages.empty_store) → Wanted
          by (inl there) = old there files
          by (inr empty) = λ run a i l b j p m. absurd (subst (λ (z : pages.Store). Has b z.extents) (empty a i) j)

    next_both : Both sc.world
    next_both = by (taken (counted w) e) refl
      where
        by : (o : Option Taking) → taken (counted w) e ≡ o → Both sc.world
        by None q = (none_stored q, none_known q)
        by (Some x) q = taken_both x q

    pub known_next_to : AllSound sc.world → FilesKnown k count (past ++ step t e sc ∷ []) (traced_after e t sc)
    known_next_to sound =
        record {
          asks = (cutters.one k count past t e sc ranges h.asks is).1;
          sound = sound;
          replied = asked_of_files k count past t e sc h.asks h.sound h.replied files go_on;
          clear = clear_step w e sc is all_fit h.clear;
          locked = locked_step w e sc is all_fit h.clear h.locked;
          stored = next_both.0;
          known = next_both.1;
        }

-- At the start nothing is known.
pub known_first : (k : base.Config) (clients servers disks blocks form : ℕ) → IsHead k clients servers disks blocks form →
    AllSound (fresh_world k clients servers disks blocks form) →
    FilesKnown (terms_of k) (clients + servers) [] (traced (fresh_world k clients servers disks blocks form))
unfolding fresh_world cl.fresh_client
known_first k clients servers disks blocks form head sound =
    record {
      asks = cutters.first k clients servers disks blocks form head;
      sound = sound;
      replied = λ c site a x q z node at.
          absurd (none x (sym (ap (λ (b : Association). b.session) (fresh c site z.run.there a z.has).1) ∙ z.session));
      clear = fresh_clear k clients servers disks blocks form;
      locked = fresh_locked k clients servers disks blocks form;
      stored = λ c site at a i. subst (λ (b : Association). Stored (Any a.server) b.store) (sym (fresh c.0 site at a i).1) (empty_stored (Any a.server));
      known = λ c site at.
          record { files = λ run a i l b j p m. absurd (subst (λ (z : Association). Has b z.store.extents) (fresh c.0 site at a i).1 j) };
    }
  where
    fresh : (c : ℕ) (site : WorldClient) → site_of (fresh_world k clients servers disks blocks form) (client c) ≡ Some site → (a : Association) →
        Has a site.node.state.associations → (s : ℕ) × (a ≡ cl.fresh_association s)
    fresh c site at a i =
        let z = has_map cl.fresh_association (numbers 1 servers) a
        (subst (λ (y : WorldClient). Has a y.node.state.associations) (site_is k clients servers c site at).0 i) in
        (z.0, z.2)

    none : (x : ClientSession) → ◌≡◌ {A = Option ClientSession} None (Some x) → ⊥
    none x e = cc
