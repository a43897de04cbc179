-- The epochs that clients know: each session and each message of a server has an epoch of that server, from 1 up to its present one; and only cuts and asks for
-- names are sent themselves.
use Rattle.st_lemmas.proofs.Words
use Words.{◌≡◌, ◌≢◌, ℕ, ◌+◌, ◌≤◌, ◌⊎◌, true, List, [], ◌∷◌, ◌++◌, Option, Some, None, Ok, refl, sym, ap, ◌∙◌, subst, inl, inr, arith, map}
use Words.{Config, ClientId, ServerId, Stamp, Ask, Message, Event, Output, ClientInput, ServerInput, Operation}
use Words.nodes
use Words.inputs
use Words.outputs
use Words.Keys.{server_node}
use Words.Client as cl
use Words.ClientState as cs
use Words.ClientState.{Association, ClientSession, ClientState, client_turn}
use Words.Events as ev
use Words.Events.{WorldTurn, world_step}
use Words.History.{Traced, traced, traced_after}
use Words.Server as server
use Words.Server.{ServerNode}
use Words.World.{World, WorldClient, clock_of, fresh_site, fresh_world, node_at_start, node_of, numbered, site_of, with_numbered}
use Words.Safety.{IsHead, Step, step}
use Words.Lists.{Has}
use Words.Lookups.{some_is}
use Words.Numbers.{numbered_below, numbered_has, numbered_other, numbered_own}
use Words.Tables.{has_map, same_or_not}
use Rattle.st_rules.specs.Extents.{numbers}
use Rattle.st_laws_leases.specs.Dates.Dates.{ClientDated, Dated, messages}
use Rattle.st_laws_leases.proofs.Dates.Law as dates
use Rattle.st_laws_leases.proofs.Dates.Leaving.{Leaves, leaves_from, server_not_client, set_cases}
use Rattle.st_laws_leases.proofs.Dates.Receiving.{Ever, Held, ever_on, step_held}
use Rattle.st_laws_leases.proofs.Dates.Receiving as receiving
use Rattle.st_laws_requests.specs.Replies.ServedRequests.{InputNew, ReassertionsNew}
use Rattle.st_laws_requests.proofs.Replies.EachEvent.{ClientTook, Comes, NodeAfter, ServerLeft, ServerTook, SiteAfter, event_leaves}
use Rattle.st_laws_requests.proofs.Replies.Served.{Served, served}
use Rattle.st_laws_volume.proofs.ClientAnswers.{AllHold, Keeps, KeepsLosses, SessionIn, Tells, stepped}

-- an epoch of a server
abbrev pub Within : World → ServerId → ℕ → Type 0
Within w s n = (1 ≤ n) × ((node : ServerNode) × ((node_of w s ≡ Some node) × (n ≤ node.state.stable.epoch.0)))

-- of a client
pub record ClientRight (w : World) (s : ClientState) : Type 0 where
  pub sessions : (a : Association) → Has a s.associations → SessionIn (Within w) a.server a.session
  pub sent : (o : Operation) → Has o s.operations → cs.is_sent o ≡ true → cs.is_cut_or_name o.ask ≡ true

-- of all clients, servers and messages
pub record EpochsRight (w : World) : Type 0 where
  pub clients : (c : ClientId) (site : WorldClient) → site_of w c ≡ Some site → ClientRight w site.node.state
  pub servers : (s : ServerId) (node : ServerNode) → node_of w s ≡ Some node → 1 ≤ node.state.stable.epoch.0
  pub messages : (m : Message) → Has m (messages w) → (s : ServerId) → m.header.from ≡ server_node s → Within w s m.header.epoch

-- Epochs of servers only rise.
abbrev Rise : World → World → Type 0
Rise w v =
    (s : ServerId) (old : ServerNode) → node_of w s ≡ Some old →
    (new : ServerNode) × ((node_of v s ≡ Some new) × (old.state.stable.epoch.0 ≤ new.state.stable.epoch.0))

within_rises : (w v : World) → Rise w v → (s : ServerId) (n : ℕ) → Within w s n → Within v s n
within_rises w v r s n (l, (node, (at, m))) = let z = r s node at in (l, (z.0, (z.1.0, (let k = z.1.1 in omega (arith, m, k)))))

session_rises : (w v : World) → Rise w v → (s : ServerId) (o : Option ClientSession) → SessionIn (Within w) s o → SessionIn (Within v) s o
session_rises w v r s None h = tt
session_rises w v r s (Some x) h = within_rises w v r s x.epoch.0 h

client_rises : (w v : World) → Rise w v → (s : ClientState) → ClientRight w s → ClientRight v s
client_rises w v r s h = record { sessions = λ a i. session_rises w v r a.server a.session (h.sessions a i); sent = h.sent }

same_rise : (w v : World) → v.servers ≡ w.servers → Rise w v
same_rise w v e s old at = (old, (ap (λ xs. numbered xs s.0) e ∙ at, omega arith))

-- one server is replaced
placed_rises : (w v : World) (s : ServerId) (old new : ServerNode) → node_of w s ≡ Some old → v.servers ≡ with_numbered s.0 new w.servers →
    old.state.stable.epoch.0 ≤ new.state.stable.epoch.0 → Rise w v
placed_rises w v s old new at e l x node there = go (same_or_not x.0 s.0)
  where
    go : (x.0 ≡ s.0) ⊎ (x.0 ≢ s.0) → (y : ServerNode) × ((node_of v x ≡ Some y) × (node.state.stable.epoch.0 ≤ y.state.stable.epoch.0))
    go (inl q) = (
      new,
      (
        ap (λ xs. numbered xs x.0) e ∙ (ap (numbered (with_numbered s.0 new w.servers)) q ∙ numbered_own w.servers s.0 new old at),
        subst (λ (y : ServerNode). y.state.stable.epoch.0 ≤ new.state.stable.epoch.0)
            (some_is (sym at ∙ (ap (numbered w.servers) (sym q) ∙ there))) l,
      ),
    )
    go (inr n) =
        (node, (ap (λ xs. numbered xs x.0) e ∙ (numbered_other w.servers s.0 x.0 new (numbered_below w.servers s.0 old at).0 n ∙ there), omega arith))

servers_kept : (w v : World) (s : ServerId) (old new : ServerNode) → node_of w s ≡ Some old → v.servers ≡ with_numbered s.0 new w.servers →
    1 ≤ new.state.stable.epoch.0 → ((x : ServerId) (node : ServerNode) → node_of w x ≡ Some node → 1 ≤ node.state.stable.epoch.0) → (x : ServerId)
    (node : ServerNode) → node_of v x ≡ Some node → 1 ≤ node.state.stable.epoch.0
servers_kept w v s old new at e l h x node there = go (set_cases w.servers s.0 x.0 old new node at (ap (λ xs. numbered xs x.0) (sym e) ∙ there))
  where
    go : ((x.0 ≡ s.0) × (node ≡ new)) ⊎ ((x.0 ≢ s.0) × (node_of w x ≡ Some node)) → 1 ≤ node.state.stable.epoch.0
    go (inl z) = subst (λ (y : ServerNode). 1 ≤ y.state.stable.epoch.0) (sym z.1) l
    go (inr z) = h x node z.1

-- The walk over a step of a client, for its sessions and operations alone.
module _ (w : World) (s : ClientState) (now : Stamp) (input : ClientInput) where
  abbrev Any : ℕ → Ask → Type 0
  Any op ask = Unit {0}

  abbrev Cuts : Ask → Type 0
  Cuts a = cs.is_cut_or_name a ≡ true

  abbrev There : Association → Type 0
  There a = Unit {0}

  abbrev P : List Output → Type 0
  P out = Unit {0}

  abbrev Free : ℕ → Type 0
  Free op = Unit {0}

  losses : KeepsLosses Any Free Cuts (λ a e. e) (Within w) There P now
  losses =
      record {
        silent = λ out o e h. tt;
        plain = λ out op a e h. tt;
        uncertain = λ out v o e a b d f h. tt;
        quiesced = λ out o e u h. tt;
      }

  keeps : Keeps Any Free Cuts (λ a e. e) (Within w) There P now input (cl.losses (client_turn s []) now)
  keeps =
      record {
        comes = λ op ask i. tt;
        silent = λ out o e h. tt;
        plain = λ out op a e h. tt;
        quiesced = λ out o e u n h. tt;
        newer = λ out v o e m a b d f g l h. tt;
        full = λ op ask i f h. tt;
        unknown = λ op ask i f h. tt;
        refused = λ out t v q m o y a b answer i z r e x u h. tt;
        failed = λ out t number x o i z y k u h. tt;
      }

  pub client_right : ClientRight w s → Tells Any (Within w) input → ClientRight w (cl.client_step s now input).state
  client_right h f =
      let z : AllHold Any Free Cuts (λ a e. e) (Within w) There P now (λ a. SessionIn (Within w) a.server a.session) (cl.client_step s now input) =
      stepped Any Free Cuts (λ a e. e) (Within w) There P now s input losses keeps (λ a. tt) (λ a i. (h.sessions a i, tt))
      (λ o i. (tt, record { sent = h.sent o i; unsent = λ e. tt })) tt f in
      record { sessions = z.each; sent = λ o i. (z.operations o i).1.sent }

-- A client that crashed, or started, has no session and no operation.
none_right : {A : Type 0} (w : World) (f : A → Association) (s : ClientState) (as_ : List A) → ((a : A) → (f a).session ≡ None) →
    s.associations ≡ map f as_ → s.operations ≡ [] → ClientRight w s
none_right w f s as_ e q n =
    record {
      sessions = λ a i. let z = has_map f as_ a (subst (Has a) q i) in
          subst (SessionIn (Within w) a.server) (sym (ap (λ (b : Association). b.session) z.2 ∙ e z.0)) tt;
      sent = λ o i. absurd (subst (Has o) n i);
    }

module _ (past : List Step) (t : Traced) (d : Dated past t) (h : EpochsRight t.world) where
  -- the world with other clients
  clients_kept : (v : World) (c : ClientId) (old new : WorldClient) → site_of t.world c ≡ Some old → v.clients ≡ with_numbered c.0 new t.world.clients →
      Rise t.world v → ClientRight t.world new.node.state → (x : ClientId) (site : WorldClient) → site_of v x ≡ Some site → ClientRight v site.node.state
  clients_kept v c old new at e r k x site there = go (set_cases t.world.clients c.0 x.0 old new site at (ap (λ xs. numbered xs x.0) (sym e) ∙ there))
    where
      go : ((x.0 ≡ c.0) × (site ≡ new)) ⊎ ((x.0 ≢ c.0) × (site_of t.world x ≡ Some site)) → ClientRight v site.node.state
      go (inl z) = client_rises t.world v r site.node.state (subst (λ (y : WorldClient). ClientRight t.world y.node.state) (sym z.1) k)
      go (inr z) = client_rises t.world v r site.node.state (h.clients x site z.1)

  all_clients : (v : World) → v.clients ≡ t.world.clients → Rise t.world v → (x : ClientId) (site : WorldClient) → site_of v x ≡ Some site →
      ClientRight v site.node.state
  all_clients v e r x site there =
      client_rises t.world v r site.node.state (h.clients x site (ap (λ xs. numbered xs x.0) (sym e) ∙ there))

  all_servers : (v : World) → v.servers ≡ t.world.servers → (s : ServerId) (node : ServerNode) → node_of v s ≡ Some node → 1 ≤ node.state.stable.epoch.0
  all_servers v e s node at = h.servers s node (ap (λ xs. numbered xs s.0) (sym e) ∙ at)

  all_messages : (v : World) → messages v ≡ messages t.world → Rise t.world v → (m : Message) → Has m (messages v) → (s : ServerId) →
      m.header.from ≡ server_node s → Within v s m.header.epoch
  all_messages v e r m i s f = within_rises t.world v r s m.header.epoch (h.messages m (subst (Has m) e i) s f)

  alike : (v : World) → v.clients ≡ t.world.clients → v.servers ≡ t.world.servers → messages v ≡ messages t.world → EpochsRight v
  alike v cs ss ms =
      record {
        clients = all_clients v cs (same_rise t.world v ss);
        servers = all_servers v ss;
        messages = all_messages v ms (same_rise t.world v ss);
      }

  client_step : (v : World) → v.clients ≡ t.world.clients → v.servers ≡ t.world.servers → (c : ClientId) (i : ClientInput) (site old : WorldClient) →
      site.node ≡ old.node → site_of t.world c ≡ Some old → Comes t.world i → (last : World) →
      Leaves (messages t.world) (ev.with_site c (SiteAfter v c i site) v) last (ClientTook v c i site).out → EpochsRight last
  client_step v cs ss c i site old same at k last l =
      record {
        clients =
            clients_kept last c old (SiteAfter v c i site) at (l.clients ∙ ap (with_numbered c.0 (SiteAfter v c i site)) cs) rise
            (client_right t.world site.node.state now i
            (subst (λ (n : cl.ClientNode). ClientRight t.world n.state) (sym same) (h.clients c old at)) (tells i k));
        servers = all_servers last (l.servers ∙ ss);
        messages = λ m j s f. it m s f (leaves_from (messages t.world) (ev.with_site c (SiteAfter v c i site) v) last (ClientTook v c i site).out l m j);
      }
    where
      now : Stamp
      now = clock_of v (nodes.Client c)

      rise : Rise t.world last
      rise = same_rise t.world last (l.servers ∙ ss)

      few : c.0 ≤ 16
      few = let z = (numbered_below t.world.clients c.0 old at).1 in let y = d.few in omega (arith, z, y)

      comes : (i : ClientInput) → Comes t.world i → receiving.Comes (messages t.world) c now Ever ever_on i
      comes inputs.Tick k = tt
      comes (inputs.App op ask) k = tt
      comes (inputs.Control m) k = k
      comes (inputs.Done number result) k = tt

      tells : (i : ClientInput) → Comes t.world i → Tells (λ op ask. Unit {0}) (Within t.world) i
      tells inputs.Tick k = tt
      tells (inputs.App op ask) k = tt
      tells (inputs.Control m) k = λ s f. h.messages m k s f
      tells (inputs.Done number result) k = tt

      held : Held (messages t.world) c now Ever ever_on (ClientTook v c i site)
      held =
          step_held (messages t.world) c now Ever ever_on site.node.state i (comes i k)
          (subst (λ (n : cl.ClientNode). ClientDated (messages t.world) c n.state) (sym same) (d.clients c old at)) (λ a j. tt)

      it : (m : Message) (s : ServerId) → m.header.from ≡ server_node s → Has m (messages t.world) ⊎ Has (outputs.Send m) (ClientTook v c i site).out →
          Within last s m.header.epoch
      it m s f (inl j) = within_rises t.world last rise s m.header.epoch (h.messages m j s f)
      it m s f (inr j) = absurd (server_not_client c.0 s.0 few (sym (held.outs m j).from ∙ f))

  server_step : (s : ServerId) (i : ServerInput) (node : ServerNode) → node_of t.world s ≡ Some node →
      InputNew (server.thefts (server.turn node.state []) (clock_of (ev.counted t.world) (nodes.Server s))) (clock_of (ev.counted t.world) (nodes.Server s)) i →
      Leaves (messages t.world) (ev.with_node s (NodeAfter t.world s i node) (ev.counted t.world)) (ServerLeft t.world s i node).world
      (ServerTook t.world s i node).out → EpochsRight (ServerLeft t.world s i node).world
  server_step s i node at owed l =
      record {
        clients = all_clients last l.clients rise;
        servers =
            servers_kept t.world last s node next at l.servers (let y = h.servers s node at in omega (arith, y, same)) h.servers;
        messages = λ m j x f. it m x f (leaves_from (messages t.world) (ev.with_node s next (ev.counted t.world)) last u.out l m j);
      }
    where
      now : Stamp
      now = clock_of (ev.counted t.world) (nodes.Server s)

      u : server.ServerTurn
      u = ServerTook t.world s i node

      next : ServerNode
      next = NodeAfter t.world s i node

      last : World
      last = (ServerLeft t.world s i node).world

      k : Served s node.state.stable.epoch i node.state.sessions u
      k =
          served s node.state.stable.epoch i node.state.sessions node.state now owed
          (record { id = (d.servers s node at).id; epoch = refl; goes = λ c life n h. h; sent = λ y h. absurd h })

      same : u.state.stable.epoch.0 ≡ node.state.stable.epoch.0
      same = ap (λ (y : Rattle.st_base.specs.declared.ids.Epoch.Epoch). y.0) k.epoch

      rise : Rise t.world last
      rise = placed_rises t.world last s node next at l.servers (omega (arith, same))

      there : (x : ServerId) → x.0 ≡ s.0 → (y : ServerNode) × ((node_of last x ≡ Some y) × (node.state.stable.epoch.0 ≤ y.state.stable.epoch.0))
      there x e = rise x node (ap (numbered t.world.servers) e ∙ at)

      it : (m : Message) (x : ServerId) → m.header.from ≡ server_node x → Has m (messages t.world) ⊎ Has (outputs.Send m) u.out → Within last x m.header.epoch
      it m x f (inl j) = within_rises t.world last rise x m.header.epoch (h.messages m j x f)
      it m x f (inr j) =
          let z = k.sent m j in
          let o = z.0 in
          let q = there x (omega (arith, o, f)) in
          let e = z.1 in
          let y = h.servers s node at in
          let b = q.1.1 in
          ((omega (arith, e, y)), (q.0, (q.1.0, omega (arith, e, b))))

  -- Crashes and starts.
  w : World
  w = ev.counted t.world

  stopped : (c : ClientId) (site : WorldClient) → site_of t.world c ≡ Some site → EpochsRight (ev.crashes_client w c (Some site)).world
  unfolding ev.crashes_client ev.marks cl.crash w
  stopped c site at =
      record {
        clients =
            clients_kept (ev.crashes_client w c (Some site)).world c site (ev.stopped_site site) at refl
            (same_rise t.world (ev.crashes_client w c (Some site)).world refl)
            (none_right t.world cl.crashed_association _ site.node.state.associations (λ a. refl) refl refl);
        servers = all_servers (ev.crashes_client w c (Some site)).world refl;
        messages = all_messages (ev.crashes_client w c (Some site)).world refl (same_rise t.world (ev.crashes_client w c (Some site)).world refl);
      }

  begun : (c : ClientId) (site : WorldClient) → site_of t.world c ≡ Some site → EpochsRight (ev.starts_client w c (Some site))
  unfolding ev.starts_client cl.start w
  begun c site at =
      record {
        clients =
            clients_kept (ev.starts_client w c (Some site)) c site (ev.started_site site) at refl
            (same_rise t.world (ev.starts_client w c (Some site)) refl)
            (none_right t.world cl.started_association _ site.node.state.associations (λ a. refl) refl refl);
        servers = all_servers (ev.starts_client w c (Some site)) refl;
        messages = all_messages (ev.starts_client w c (Some site)) refl (same_rise t.world (ev.starts_client w c (Some site)) refl);
      }

  server_placed : (v : World) (s : ServerId) (old new : ServerNode) → node_of t.world s ≡ Some old → v.clients ≡ t.world.clients →
      v.servers ≡ with_numbered s.0 new t.world.servers → messages v ≡ messages t.world → old.state.stable.epoch.0 ≤ new.state.stable.epoch.0 → EpochsRight v
  server_placed v s old new at cs ss ms l =
      let r = placed_rises t.world v s old new at ss l in
      record {
        clients = all_clients v cs r;
        servers = servers_kept t.world v s old new at ss (let y = h.servers s old at in omega (arith, y, l)) h.servers;
        messages = all_messages v ms r;
      }

  crashed : (s : ServerId) (node : ServerNode) → node_of t.world s ≡ Some node → EpochsRight (ev.crashes_server w s (Some node))
  unfolding ev.crashes_server server.crash w
  crashed s node at = server_placed (ev.crashes_server w s (Some node)) s node (server.crash_node node) at refl refl refl (omega arith)

  started : (s : ServerId) (node : ServerNode) → node_of t.world s ≡ Some node → EpochsRight (ev.starts_server w s (Some node))
  unfolding ev.starts_server server.start server.begin_epoch w
  started s node at =
      server_placed (ev.starts_server w s (Some node)) s node (server.start_node node (clock_of w (nodes.Server s))) at refl refl refl (omega arith)

  pub event_epochs : (e : Event) (sc : WorldTurn) → ReassertionsNew past (step t e sc) → world_step t.world e ≡ Ok sc → EpochsRight sc.world
  unfolding w
  event_epochs e sc =
      event_leaves t.world EpochsRight alike (λ v cs ss c i site old same run at k last l. client_step v cs ss c i site old same at k last l)
      (λ s i node at run b owed l. server_step s i node at owed l) stopped begun crashed started e sc

-- At the start.
abbrev one : ServerNode → Type 0
one node = 1 ≤ node.state.stable.epoch.0

begins_with_one : (k : Config) (servers disks blocks i : ℕ) → one (node_at_start k servers disks blocks i)
unfolding server.fresh_server
begins_with_one k servers disks blocks i = omega arith

begins_right : (w : World) (k : Config) (servers i : ℕ) → ClientRight w (fresh_site k servers i).node.state
unfolding cl.fresh_client
begins_right w k servers i = none_right w cl.fresh_association (fresh_site k servers i).node.state (numbers 1 servers) (λ a. refl) refl refl

fresh_right : (k : Config) (clients servers disks blocks form : ℕ) → EpochsRight (fresh_world k clients servers disks blocks form)
unfolding fresh_world
fresh_right k clients servers disks blocks form =
    record {
      clients = λ c site at.
          let z = has_map (fresh_site k servers) (numbers 1 clients) site (numbered_has (map (fresh_site k servers) (numbers 1 clients)) c.0 site at) in
          subst (λ (y : WorldClient). ClientRight (fresh_world k clients servers disks blocks form) y.node.state) (sym z.2)
          (begins_right (fresh_world k clients servers disks blocks form) k servers z.0);
      servers = λ s node at.
          let z =
          has_map (node_at_start k servers disks blocks) (numbers 1 servers) node
          (numbered_has (map (node_at_start k servers disks blocks) (numbers 1 servers)) s.0 node at) in
          subst one (sym z.2) (begins_with_one k servers disks blocks z.0);
      messages = λ m i s f. absurd i;
    }

-- What is carried.
pub record KnowsEpochs (past : List Step) (t : Traced) : Type 0 where
  pub dated : Dated past t
  pub right : EpochsRight t.world

pub knows_on : (past : List Step) (t : Traced) (e : Event) (sc : WorldTurn) → world_step t.world e ≡ Ok sc → ReassertionsNew past (step t e sc) →
    KnowsEpochs past t → KnowsEpochs (past ++ step t e sc ∷ []) (traced_after e t sc)
knows_on past t e sc f g h = record { dated = (dates.one past t e sc h.dated f).1; right = event_epochs past t h.dated h.right e sc g f }

pub knows_begin : (k : Config) (clients servers disks blocks form : ℕ) → IsHead k clients servers disks blocks form →
    KnowsEpochs [] (traced (fresh_world k clients servers disks blocks form))
knows_begin k clients servers disks blocks form head =
    record { dated = dates.fresh_dated k clients servers disks blocks form head; right = fresh_right k clients servers disks blocks form }
