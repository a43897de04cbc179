-- Every event: a server takes a step; or names, and what servers keep and said of extents, stay. And clients stay, or are empty, if none takes an input.
use Rattle.st_lemmas.proofs.Words
use Words.{◌≡◌, ◌≢◌, ◌⊎◌, ℕ, ◌≤◌, arith, Bool, true, false, List, [], Option, Some, None, Ok, Err, refl, sym, ap, ◌∙◌, subst, inl, inr, if◌then◌else◌, length}
use Words.{Ask, ClientId, ClientInput, Event, ExtentRow, IssuedCommand, Message, NodeId, SentMessage, ServerId, ServerInput, Session}
use Words.events
use Words.inputs
use Words.nodes
use Words.outputs
use Words.serving
use Words.Client as cl
use Words.ClientPages as pages
use Words.ClientState.{Association, ClientTurn}
use Words.Disks as disks
use Words.Events as ev
use Words.Events.{WorldTurn, world_step}
use Words.History.{Traced}
use Words.Keys.{server_node}
use Words.Lists.{Has}
use Words.Numbers.{numbered_below}
use Words.Safety.{Step}
use Words.Server as server
use Words.Server.{ServerNode}
use Words.Tables.{has_map}
use Words.Truth.{some_not_none}
use Words.World as world
use Words.World.{World, WorldClient, clock_of, issued_of, message_of, node_of, numbered, receiver_of, site_of, with_numbered}
use Rattle.st_rules.specs.declared.node.StepRefusal.TheVariants.{Crashed}
use Rattle.st_laws_steps.specs.Lives.Lives.{clock_in}
use Rattle.st_laws_refine.proofs.Server.Delivery.{all_parts}
use Rattle.st_laws_leases.specs.Dates.Dates.{ClientDated, messages}
use Rattle.st_laws_leases.proofs.Dates.Leaving.{Leaves, leaves_from, set_cases}
use Rattle.st_laws_pages.proofs.Disks.Moves.{clock_up}
use Rattle.st_laws_reads.specs.Copies.World.{asking, receiving, receiving_of, taken, taking, told_at, told_of}
use Rattle.st_laws_requests.specs.Replies.ServedRequests.{InputNew, NewOwed}
use Rattle.st_laws_requests.proofs.Replies.EachEvent.{Brings, ClientTook, Comes, NodeAfter, ServerLeft, ServerTook, SiteAfter, event_leaves}
use Rattle.st_laws_requests.proofs.Replies.Replies.{RepliesHold}
use Rattle.st_laws_requests.proofs.Replies.Served.{Served, served}
use Rattle.st_laws_extents.specs.ExtentReplies.Events.{NodeStays, ServerSteps}
use Rattle.st_laws_extents.specs.ExtentReplies.Steps.{KeptRows}
use Rattle.st_laws_extents.proofs.CutRequests.ServersGoOn.{lived_held}

-- each server has its names and extents, and keeps no reply of extents that it did not keep; and none says anything
pub record StillFiles (w v : World) : Type 0 where
  pub nodes : (s : ServerId) (p : ServerNode) → node_of v s ≡ Some p →
      (n : ServerNode) × (node_of w s ≡ Some n) × NodeStays n p × (p.state.stable.names ≡ n.state.stable.names)
  pub messages : (m : Message) → Has m (messages v) → (s : ServerId) → m.header.from ≡ server_node s → Has m (messages w)

-- one of these
abbrev pub EventFiles : World → World → Type 0
EventFiles w v = StillFiles w v ⊎ ServerSteps w v

-- a node that is as it was
node_same : (n : ServerNode) → NodeStays n n
node_same n = record { extents = refl; kept = λ run c life number ino rows k. (run, k, refl) }

module _ (past : List Step) (t : Traced) (r : RepliesHold past t) (few : length t.world.clients ≤ 16) where
  w : World
  w = ev.counted t.world

  abbrev F : World → Type 0
  F v = EventFiles t.world v

  abbrev NodeFrom : ServerId → ServerNode → Type 0
  NodeFrom s p = (n : ServerNode) × (node_of t.world s ≡ Some n) × NodeStays n p × (p.state.stable.names ≡ n.state.stable.names)

  still : (v : World) → v.servers ≡ t.world.servers → messages v ≡ messages t.world → F v
  still v ss ms =
      inl (record {
        nodes = λ s p q. (p, ap (λ xs. numbered xs s.0) (sym ss) ∙ q, node_same p, refl);
        messages = λ m h s e. subst (Has m) ms h;
      })

  nodes_placed : (s : ServerId) (old new : ServerNode) (v : World) → node_of t.world s ≡ Some old → v.servers ≡ with_numbered s.0 new t.world.servers →
      NodeStays old new → new.state.stable.names ≡ old.state.stable.names → (x : ServerId) (p : ServerNode) → node_of v x ≡ Some p → NodeFrom x p
  nodes_placed s old new v at ss g k x p q = it (set_cases t.world.servers s.0 x.0 old new p at (ap (λ xs. numbered xs x.0) (sym ss) ∙ q))
    where
      it : ((x.0 ≡ s.0) × (p ≡ new)) ⊎ ((x.0 ≢ s.0) × (node_of t.world x ≡ Some p)) → NodeFrom x p
      it (inl z) = (
        old,
        ap (λ n. numbered t.world.servers n) z.0 ∙ at,
        subst (NodeStays old) (sym z.1) g,
        ap (λ (y : ServerNode). y.state.stable.names) z.1 ∙ k,
      )
      it (inr z) = (p, z.1, node_same p, refl)

  placed : (s : ServerId) (old new : ServerNode) (v : World) → node_of t.world s ≡ Some old → v.servers ≡ with_numbered s.0 new t.world.servers →
      messages v ≡ messages t.world → NodeStays old new → new.state.stable.names ≡ old.state.stable.names → F v
  placed s old new v at ss ms g k = inl (record { nodes = nodes_placed s old new v at ss g k; messages = λ m h x e. subst (Has m) ms h })

  -- A step of a client.
  client_step : (v : World) → v.servers ≡ t.world.servers → (c : ClientId) (i : ClientInput) (site old : WorldClient) → site.node ≡ old.node →
      site_of t.world c ≡ Some old → Comes t.world i → (last : World) →
      Leaves (messages t.world) (ev.with_site c (SiteAfter v c i site) v) last (ClientTook v c i site).out → F last
  client_step v ss c i site old same at k last l =
      inl (record {
        nodes = λ s p q. (p, ap (λ xs. numbered xs s.0) (sym ss ∙ sym l.servers) ∙ q, node_same p, refl);
        messages = λ m h s e. sent m (leaves_from (messages t.world) (ev.with_site c (SiteAfter v c i site) v) last u.out l m h) s e;
      })
    where
      u : ClientTurn
      u = ClientTook v c i site

      below : c.0 ≤ 16
      below = let z = (numbered_below t.world.clients c.0 old at).1 in omega (arith, z, few)

      -- a client isn't a server
      sent : (m : Message) → Has m (messages t.world) ⊎ Has (outputs.Send m) u.out → (s : ServerId) → m.header.from ≡ server_node s →
          Has m (messages t.world)
      sent m (inl h) s e = h
      sent m (inr h) s e =
          let held =
          lived_held t.world c (clock_of v (nodes.Client c)) site.node.state i k
          (subst (λ (n : cl.ClientNode). ClientDated (messages t.world) c n.state) (sym same) (r.dated.clients c old at)) in
          let z = (held.outs m h).from in
          let b = below in absurd (omega (arith, z, e, b))

  -- what a server says leaves the clocks
  server_step : (s : ServerId) (i : ServerInput) (node : ServerNode) → node_of t.world s ≡ Some node → node.running ≡ true →
      InputNew (server.thefts (server.turn node.state []) (clock_of w (nodes.Server s))) (clock_of w (nodes.Server s)) i →
      ((m : Message) → i ≡ serving.Control m → Has m (messages t.world)) →
      Leaves (messages t.world) (ev.with_node s (NodeAfter t.world s i node) w) (ServerLeft t.world s i node).world (ServerTook t.world s i node).out →
      F (ServerLeft t.world s i node).world
  unfolding w
  server_step s i node at run owed comes l =
      inr (record {
        server = s;
        node = node;
        there = at;
        running = run;
        now = clock_of w (nodes.Server s);
        input = i;
        comes = comes;
        clients = l.clients;
        clocks = (all_parts s u.out (ev.quiet (ev.with_node s (NodeAfter t.world s i node) w))).clocks;
        servers = l.servers;
        messages = leaves_from (messages t.world) (ev.with_node s (NodeAfter t.world s i node) w) (ServerLeft t.world s i node).world u.out l;
        says = λ m h. (k.sent m h).0;
        dated = λ m h. (k.sent m h).1;
        epoch = ap (λ (y : Rattle.st_base.specs.declared.ids.Epoch.Epoch). y.0) k.epoch;
      })
    where
      u : server.ServerTurn
      u = ServerTook t.world s i node

      k : Served s node.state.stable.epoch i node.state.sessions u
      k =
          served s node.state.stable.epoch i node.state.sessions node.state (clock_of w (nodes.Server s)) owed
          (record { id = (r.dated.servers s node at).id; epoch = refl; goes = λ c life n h. h; sent = λ y h. absurd h })

  -- a message that comes to a server was sent
  brought : (i : ServerInput) → Brings t.world i → (m : Message) → i ≡ serving.Control m → Has m (messages t.world)
  brought serving.Tick k m e = cc e
  brought (serving.Control n) k m e = subst (λ x. Has x (messages t.world)) (input_is n m e) k
    where
      input_is : (n m : Message) → serving.Control n ≡ serving.Control m → n ≡ m
      input_is n m e = cc

  -- Crashes and starts.
  stopped : (c : ClientId) (site : WorldClient) → site_of t.world c ≡ Some site → F (ev.crashes_client w c (Some site)).world
  unfolding ev.crashes_client ev.marks w cl.crash
  stopped c site q = still (ev.crashes_client w c (Some site)).world refl refl

  begun : (c : ClientId) (site : WorldClient) → site_of t.world c ≡ Some site → F (ev.starts_client w c (Some site))
  unfolding ev.starts_client w cl.start
  begun c site q = still (ev.starts_client w c (Some site)) refl refl

  off : {A : Type 0} → false ≡ true → A
  off e = cc

  crashed : (s : ServerId) (node : ServerNode) → node_of t.world s ≡ Some node → F (ev.crashes_server w s (Some node))
  unfolding ev.crashes_server server.crash w
  crashed s node q =
      placed s node (server.crash_node node) (ev.crashes_server w s (Some node)) q refl refl (record { extents = refl; kept = λ run. off run }) refl

  started : (s : ServerId) (node : ServerNode) → node_of t.world s ≡ Some node → F (ev.starts_server w s (Some node))
  unfolding ev.starts_server server.start server.begin_epoch w
  started s node q =
      placed s node (server.start_node node (clock_of w (nodes.Server s))) (ev.starts_server w s (Some node)) q refl refl
      (record { extents = refl; kept = λ run c life number ino rows k. absurd (empty c life number ino rows k) }) refl
    where
      empty : {e : Rattle.st_base.specs.declared.ids.Epoch.Epoch} (c : ClientId) (life number ino : ℕ) (rows : List ExtentRow) →
          KeptRows (Rattle.st_rules.specs.Sessions.no_sessions e) c life number ino rows → ⊥
      empty c life number ino rows k = none k.session k.is
        where
          none : (y : Session) → ◌≡◌ {A = Option Session} None (Some y) → ⊥
          none y q = cc

  -- Every event.
  pub event_files : (e : Event) (sc : WorldTurn) → NewOwed (ev.counted t.world) e → world_step t.world e ≡ Ok sc → EventFiles t.world sc.world
  unfolding w
  event_files =
      event_leaves t.world F (λ v cs ss ms. still v ss ms) (λ v cs ss c i site old same run at k. client_step v ss c i site old same at k)
      (λ s i node at run k owed l. server_step s i node at run owed (brought i k) l) stopped begun crashed started

-- Clients that stay, or have nothing; and clocks that don't go back.
pub record SitesStay (w v : World) : Type 0 where
  pub sites : (c : ClientId) (site : WorldClient) → site_of v c ≡ Some site →
      (site_of w c ≡ Some site) ⊎ ((a : Association) → Has a site.node.state.associations → a.store ≡ pages.empty_store)
  pub clocks : (c : ClientId) → (clock_of w (nodes.Client c)).0 ≤ (clock_of v (nodes.Client c)).0

module _ (w : World) where
  abbrev S : World → Type 0
  S v = SitesStay w v

  same_clocks : (v : World) → v.clocks ≡ w.clocks → (c : ClientId) → (clock_of w (nodes.Client c)).0 ≤ (clock_of v (nodes.Client c)).0
  same_clocks v e c = let z = ap (λ ts. (clock_in ts c).0) e in omega (arith, z)

  stay : (v : World) → v.clients ≡ w.clients → v.clocks ≡ w.clocks → S v
  stay v cs ts = record { sites = λ c site q. inl (ap (λ xs. numbered xs c.0) (sym cs) ∙ q); clocks = same_clocks v ts }

  put : (v : World) (c : ClientId) (old new : WorldClient) → site_of w c ≡ Some old → v.clients ≡ with_numbered c.0 new w.clients → v.clocks ≡ w.clocks →
      ((a : Association) → Has a new.node.state.associations → a.store ≡ pages.empty_store) → S v
  put v c old new at cs ts e =
      record
      { sites = λ d site q. go d site (set_cases w.clients c.0 d.0 old new site at (ap (λ xs. numbered xs d.0) (sym cs) ∙ q)); clocks = same_clocks v ts }
    where
      go : (d : ClientId) (site : WorldClient) → ((d.0 ≡ c.0) × (site ≡ new)) ⊎ ((d.0 ≢ c.0) × (site_of w d ≡ Some site)) →
          (site_of w d ≡ Some site) ⊎ ((a : Association) → Has a site.node.state.associations → a.store ≡ pages.empty_store)
      go d site (inl z) = inr (λ a i. e a (subst (λ (x : WorldClient). Has a x.node.state.associations) z.1 i))
      go d site (inr z) = inl z.1

  at_node : (s : ServerId) (input : ServerInput) (o : Option ServerNode) → S (ev.at_server w s input o).world
  unfolding ev.at_server ev.server_takes ev.server_took server.node_step
  at_node s input None = stay w refl refl
  at_node s input (Some node) = go node.running
    where
      u : server.ServerTurn
      u = server.server_step node.state (clock_of w (nodes.Server s)) input

      go : (b : Bool) → S (ev.server_took w s (if b then Ok (server.node_turn node u) else Err Crashed)).world
      go false = stay w refl refl
      go true =
          let y = all_parts s u.out (ev.quiet (ev.with_node s (server.node_turn node u).node w)) in
          stay (ev.server_says_all s u.out (ev.quiet (ev.with_node s (server.node_turn node u).node w))).world y.clients y.clocks

  client_none : (c : ClientId) (input : ClientInput) (o : Option WorldClient) → taking w c input o ≡ None → S (ev.at_client w c input o).world
  unfolding ev.at_client
  client_none c input None e = stay w refl refl
  client_none c input (Some site) e = absurd (some_not_none _ e)

  ask_none : (c : ClientId) (ask : Ask) (o : Option WorldClient) → asking w c ask o ≡ None → S (ev.asks_at w c ask o).world
  unfolding ev.asks_at
  ask_none c ask None e = stay w refl refl
  ask_none c ask (Some site) e = absurd (some_not_none _ e)

  node_none : (m : Message) (n : NodeId) → receiving w m n ≡ None → S (ev.delivers_to w m n).world
  unfolding ev.delivers_to
  node_none m (nodes.Client c) e = client_none c (inputs.Control m) (site_of w c) e
  node_none m (nodes.Server s) e = at_node s (serving.Control m) (node_of w s)

  message_none : (o : Option SentMessage) → receiving_of w o ≡ None → S (ev.delivers w o).world
  unfolding ev.delivers
  message_none None e = stay w refl refl
  message_none (Some m) e = node_none m.message (receiver_of m) e

  told_none : (v : World) → S v → (k : ℕ) (ok : Bool) (o : Option IssuedCommand) → told_of v k ok o ≡ None → S (ev.tells v k ok o).world
  unfolding ev.tells ev.tells_client ev.tells_site
  told_none v n k ok None e = n
  told_none v n k ok (Some y) e = at_site (site_of v y.client) e
    where
      at : (site : WorldClient) (b : Bool) → (if b then taking v y.client (ev.end_told v k ok y) (Some site) else None) ≡ None →
          S (if b then ev.client_takes v y.client (ev.end_told v k ok y) site else ev.quiet v).world
      at site true e = absurd (some_not_none _ e)
      at site false e = n

      at_site : (s : Option WorldClient) → told_at v k ok y s ≡ None → S (ev.tells_client v k ok y s).world
      at_site None e = n
      at_site (Some site) e = at site (ev.is_same_instance y site) e

  pub none_stays : (e : Event) → taken w e ≡ None → S (ev.happens w e).world
  unfolding ev.happens ev.ticks ev.loses_message ev.reports_of ev.advances ev.effects ev.marks ev.crashes ev.crashes_client ev.crashes_server ev.starts
      ev.starts_client ev.starts_server cl.crash cl.start server.crash server.start server.begin_epoch
  none_stays (events.Tick (nodes.Client c)) t = client_none c inputs.Tick (site_of w c) t
  none_stays (events.Tick (nodes.Server s)) t = at_node s serving.Tick (node_of w s)
  none_stays (events.App c ask) t = ask_none c ask (site_of w c) t
  none_stays (events.Deliver n) t = message_none (message_of w n) t
  none_stays (events.Lose n) t = go (message_of w n)
    where
      go : (m : Option SentMessage) → S (ev.loses_message w n m)
      go None = stay w refl refl
      go (Some m) = stay (ev.with_lost n m w) refl refl
  none_stays (events.Cut x y) t = stay (ev.with_cut x y w) refl refl
  none_stays (events.Heal x y) t = stay (ev.without_cut x y w) refl refl
  none_stays (events.Advance steps) t =
      record { sites = λ c site q. inl q; clocks = clock_up w steps }
  none_stays (events.Effect n) t = stay (ev.effects w n).world refl refl
  none_stays (events.Report n ok) t =
      let v : World = ev.with_disks (ev.disks_after w.disks (disks.done w.disks n ok)) w in
      told_none v (stay v refl refl) n ok (issued_of w n) t
  none_stays (events.Crash (nodes.Client c)) t = go (site_of w c) refl
    where
      go : (s : Option WorldClient) → site_of w c ≡ s → S (ev.crashes_client w c s).world
      go None e = stay w refl refl
      go (Some site) e =
          put (ev.crashes_client w c (Some site)).world c site (ev.stopped_site site) e refl refl
          (λ a i. let z = has_map cl.crashed_association site.node.state.associations a i in ap (λ (y : Association). y.store) z.2)
  none_stays (events.Crash (nodes.Server s)) t = go (node_of w s)
    where
      go : (n : Option ServerNode) → S (ev.crashes_server w s n)
      go None = stay w refl refl
      go (Some node) = stay (ev.crashes_server w s (Some node)) refl refl
  none_stays (events.Start (nodes.Client c)) t = go (site_of w c) refl
    where
      go : (s : Option WorldClient) → site_of w c ≡ s → S (ev.starts_client w c s)
      go None e = stay w refl refl
      go (Some site) e =
          put (ev.starts_client w c (Some site)) c site (ev.started_site site) e refl refl
          (λ a i. let z = has_map cl.started_association site.node.state.associations a i in ap (λ (y : Association). y.store) z.2)
  none_stays (events.Start (nodes.Server s)) t = go (node_of w s)
    where
      go : (n : Option ServerNode) → S (ev.starts_server w s n)
      go None = stay w refl refl
      go (Some node) = stay (ev.starts_server w s (Some node)) refl refl
