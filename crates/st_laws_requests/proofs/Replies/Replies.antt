-- Every event keeps what the messages of servers say, and so does every run.
use Rattle.st_lemmas.proofs.Words
use Words.{◌≡◌, ◌≢◌, ◌+◌, ◌≤◌, ◌⊎◌, true, false, List, [], ◌∷◌, ◌++◌, Some, Result, Ok, Err, refl, sym, ap, ◌∙◌, subst, inl, inr, arith, ClientId, ServerId}
use Words.{Stamp, Message, Event, ClientInput, ServerInput, WorldRefusal}
use Words.nodes
use Words.outputs
use Words.inputs
use Words.Keys.{client, server_node}
use Words.Client as cl
use Words.Events as ev
use Words.Events.{WorldTurn, world_step}
use Words.History.{Traced, traced, traced_after}
use Words.Sessions as sessions
use Words.Server as server
use Words.Server.{ServerNode}
use Words.World as world
use Words.World.{World, WorldClient, fresh_world, site_of, node_of, numbered, with_numbered, clock_of}
use Words.Safety as safety
use Words.Safety.{Step, Throughout, step, steps}
use Words.Lists.{Has}
use Words.Numbers.{numbered_below}
use Rattle.st_laws_leases.specs.Dates.Dates.{Dated, messages}
use Rattle.st_laws_leases.proofs.Dates.Leaving.{Leaves, leaves_from, server_not_client, set_cases}
use Rattle.st_laws_leases.proofs.Dates.Receiving.{Ever, Held, ever_on, step_held}
use Rattle.st_laws_leases.proofs.Dates.Law as dates
use Rattle.st_laws_requests.specs.Replies.ServedRequests.{InputNew, IsBehind, NewOwed, ReassertionsNew, Refusal, RepliesAfter, RepliesAreReached, RepliesSay}
use Rattle.st_laws_requests.specs.Replies.ServedRequests.{Says}
use Rattle.st_laws_requests.proofs.Replies.EachEvent.{Brings, ClientTook, Comes, NodeAfter, ServerLeft, ServerTook, SiteAfter, event_leaves}
use Rattle.st_laws_requests.proofs.Replies.Served.{Refused, Served, served}

-- among more messages
says_more : (ms ns : List Message) → ((m : Message) → Has m ms → Has m ns) → (s : ServerId) (n : ServerNode) (m : Message) → Says ms s n m → Says ns s n m
says_more ms ns f s n m k = record { up_to = k.up_to; behind = λ run e b l. go (k.behind run e b l) }
  where
    go : IsBehind (sessions.session_of n.state.sessions (client m.header.to)) m.header.life m.header.number ⊎ Refusal ms s m →
        IsBehind (sessions.session_of n.state.sessions (client m.header.to)) m.header.life m.header.number ⊎ Refusal ns s m
    go (inl h) = inl h
    go (inr r) = inr (record { by = r.by; among = f r.by r.among; from = r.from; there = r.there; of_life = r.of_life; of_epoch = r.of_epoch; under = r.under; rows = r.rows; asks = r.asks; beyond = r.beyond })

-- What holds after every event.
pub record RepliesHold (past : List Step) (t : Traced) : Type 0 where
  pub dated : Dated past t
  pub replies : RepliesSay t.world

module _ (past : List Step) (t : Traced) (d : RepliesHold past t) where
  -- An event that leaves servers and messages.
  still : (v : World) → v.servers ≡ t.world.servers → messages v ≡ messages t.world → RepliesSay v
  still v ss ms s n at m h r = subst (λ l. Says l s n m) (sym ms) (d.replies s n (ap (λ z. numbered z s.0) (sym ss) ∙ at) m (subst (Has m) ms h) r)

  -- A server at its place is replaced, and no message is sent.
  server_placed : (s : ServerId) (old new : ServerNode) (v : World) → node_of t.world s ≡ Some old → v.servers ≡ with_numbered s.0 new t.world.servers → messages v ≡ messages t.world →
      ((m : Message) → Says (messages t.world) s old m → Says (messages t.world) s new m) → RepliesSay v
  server_placed s old new v at ss ms k x n i m h r = subst (λ l. Says l x n m) (sym ms) (it (set_cases t.world.servers s.0 x.0 old new n at (ap (λ z. numbered z x.0) (sym ss) ∙ i)))
    where
      it : ((x.0 ≡ s.0) × (n ≡ new)) ⊎ ((x.0 ≢ s.0) × (node_of t.world x ≡ Some n)) → Says (messages t.world) x n m
      it (inl z) =
          subst (λ y. Says (messages t.world) x y m) (sym z.1)
          (subst (λ y. Says (messages t.world) (record { 0 = y }) new m) (sym z.0) (k m (d.replies s old at m (subst (Has m) ms h) (r ∙ ap (λ y. server_node (record { 0 = y })) z.0))))
      it (inr z) = d.replies x n z.1 m (subst (Has m) ms h) r

  -- A step of a client.
  client_step : (v : World) → v.servers ≡ t.world.servers → (c : ClientId) (i : ClientInput) (site old : WorldClient) → site.node ≡ old.node → site_of t.world c ≡ Some old → Comes t.world i →
      (last : World) → Leaves (messages t.world) (ev.with_site c (SiteAfter v c i site) v) last (ClientTook v c i site).out → RepliesSay last
  client_step v ss c i site old same at k last l s n q m h r = it (leaves_from (messages t.world) (ev.with_site c (SiteAfter v c i site) v) last (ClientTook v c i site).out l m h)
    where
      now : Stamp
      now = clock_of v (nodes.Client c)

      few : c.0 ≤ 16
      few = let z = (numbered_below t.world.clients c.0 old at).1 in let y = d.dated.few in omega (arith, z, y)

      comes : (i : ClientInput) → Comes t.world i → Rattle.st_laws_leases.proofs.Dates.Receiving.Comes (messages t.world) c now Ever ever_on i
      comes inputs.Tick k = tt
      comes (inputs.App op ask) k = tt
      comes (inputs.Control m) k = k
      comes (inputs.Done number result) k = tt

      held : Held (messages t.world) c now Ever ever_on (ClientTook v c i site)
      held = step_held (messages t.world) c now Ever ever_on site.node.state i (comes i k) (subst (λ (n : cl.ClientNode). Rattle.st_laws_leases.specs.Dates.Dates.ClientDated (messages t.world) c n.state) (sym same) (d.dated.clients c old at)) (λ a h. tt)

      it : Has m (messages t.world) ⊎ Has (outputs.Send m) (ClientTook v c i site).out → Says (messages last) s n m
      it (inl j) = says_more (messages t.world) (messages last) l.old s n m (d.replies s n (ap (λ w. numbered w s.0) (sym ss) ∙ ap (λ w. numbered w s.0) (sym l.servers) ∙ q) m j r)
      it (inr j) = absurd (server_not_client c.0 s.0 few (sym (held.outs m j).from ∙ r))

  -- A step of a server.
  server_step : (s : ServerId) (i : ServerInput) (node : ServerNode) → node_of t.world s ≡ Some node → Brings t.world i →
      InputNew (server.thefts (server.turn node.state []) (clock_of (ev.counted t.world) (nodes.Server s))) (clock_of (ev.counted t.world) (nodes.Server s)) i →
      Leaves (messages t.world) (ev.with_node s (NodeAfter t.world s i node) (ev.counted t.world)) (ServerLeft t.world s i node).world (ServerTook t.world s i node).out → RepliesSay (ServerLeft t.world s i node).world
  server_step s i node at brings owed l = taken
    where
      w : World
      w = ev.counted t.world

      now : Stamp
      now = clock_of w (nodes.Server s)

      u : server.ServerTurn
      u = ServerTook t.world s i node

      next : ServerNode
      next = NodeAfter t.world s i node

      sc : WorldTurn
      sc = ServerLeft t.world s i node

      M : List Message
      M = messages t.world

      k : Served s node.state.stable.epoch i node.state.sessions u
      k = served s node.state.stable.epoch i node.state.sessions node.state now owed (record { id = (d.dated.servers s node at).id; epoch = refl; goes = λ c life n h. h; sent = λ y h. absurd h })

      same : u.state.stable.epoch.0 ≡ node.state.stable.epoch.0
      same = ap (λ (y : Rattle.st_base.specs.declared.ids.Epoch.Epoch). y.0) k.epoch

      -- an old message at this server
      older : (m : Message) → Says M s node m → Says M s next m
      older m z = record { up_to = let y = z.up_to in omega (arith, y, same); behind = λ run e b l. on (z.behind run (e ∙ same) b l) }
        where
          on : IsBehind (sessions.session_of node.state.sessions (client m.header.to)) m.header.life m.header.number ⊎ Refusal M s m → IsBehind (sessions.session_of u.state.sessions (client m.header.to)) m.header.life m.header.number ⊎ Refusal M s m
          on (inl h) = inl (k.goes (client m.header.to) m.header.life m.header.number h)
          on (inr r) = inr r

      -- a message that it sends
      newer : (m : Message) → Has (outputs.Send m) u.out → Says (messages sc.world) s next m
      newer m h = let z = k.sent m h in record { up_to = let y = z.1 in omega (arith, y, same); behind = λ run e b l. on z.1 (z.2 b l) }
        where
          on : m.header.epoch ≡ node.state.stable.epoch.0 →
              IsBehind (sessions.session_of u.state.sessions (client m.header.to)) m.header.life m.header.number ⊎ Refused s node.state.stable.epoch i node.state.sessions m.header.to m.header.life m.header.number m.body →
              IsBehind (sessions.session_of u.state.sessions (client m.header.to)) m.header.life m.header.number ⊎ Refusal (messages sc.world) s m
          on e (inl h) = inl h
          on e (inr r) = inr (record { by = r.by; among = l.old r.by (subst (Brings t.world) r.is brings); from = r.from; there = r.there; of_life = r.of_life; of_epoch = r.of_epoch ∙ sym e; under = r.under; rows = r.rows; asks = r.asks; beyond = r.beyond })

      taken : RepliesSay sc.world
      taken y n q m h r = it (set_cases t.world.servers s.0 y.0 node next n at (ap (λ z. numbered z y.0) (sym l.servers) ∙ q)) (leaves_from M (ev.with_node s next w) sc.world u.out l m h)
        where
          own : (y.0 ≡ s.0) → m.header.from ≡ server_node s
          own e = r ∙ ap (λ v. server_node (record { 0 = v })) e

          at_own : (y.0 ≡ s.0) → Has m M ⊎ Has (outputs.Send m) u.out → Says (messages sc.world) s next m
          at_own e (inl h) = says_more M (messages sc.world) l.old s next m (older m (d.replies s node at m h (own e)))
          at_own e (inr h) = newer m h

          it : ((y.0 ≡ s.0) × (n ≡ next)) ⊎ ((y.0 ≢ s.0) × (node_of t.world y ≡ Some n)) → Has m M ⊎ Has (outputs.Send m) u.out → Says (messages sc.world) y n m
          it (inl z) o = subst (λ v. Says (messages sc.world) y v m) (sym z.1) (subst (λ v. Says (messages sc.world) (record { 0 = v }) next m) (sym z.0) (at_own z.0 o))
          it (inr z) (inl h) = says_more M (messages sc.world) l.old y n m (d.replies y n z.1 m h r)
          it (inr z) (inr h) = let f = (k.sent m h).0 in absurd (z.0 (omega (arith, f, r)))

  -- Crashes and starts.
  w : World
  w = ev.counted t.world

  stopped : (c : ClientId) (site : WorldClient) → RepliesSay (ev.crashes_client w c (Some site)).world
  unfolding ev.crashes_client ev.marks w
  stopped c site = still (ev.crashes_client w c (Some site)).world refl refl

  begun : (c : ClientId) (site : WorldClient) → RepliesSay (ev.starts_client w c (Some site))
  unfolding ev.starts_client w
  begun c site = still (ev.starts_client w c (Some site)) refl refl

  off : {A : Type 0} → false ≡ true → A
  off e = cc

  crashed : (s : ServerId) (node : ServerNode) → node_of t.world s ≡ Some node → RepliesSay (ev.crashes_server w s (Some node))
  unfolding ev.crashes_server server.crash w
  crashed s node q = server_placed s node (server.crash_node node) (ev.crashes_server w s (Some node)) q refl refl (λ m z. record { up_to = z.up_to; behind = λ run. off run })

  started : (s : ServerId) (node : ServerNode) → node_of t.world s ≡ Some node → RepliesSay (ev.starts_server w s (Some node))
  unfolding ev.starts_server server.start server.begin_epoch w
  started s node q =
      server_placed s node (server.start_node node (clock_of w (nodes.Server s))) (ev.starts_server w s (Some node)) q refl refl
      (λ m z. record { up_to = let y = z.up_to in omega (arith, y); behind = λ run e. let y = z.up_to in absurd (omega (arith, y, e)) })

  -- Every event.
  event_says : (e : Event) (sc : WorldTurn) → NewOwed (ev.counted t.world) e → world_step t.world e ≡ Ok sc → RepliesSay sc.world
  unfolding w
  event_says = event_leaves t.world RepliesSay (λ v cs ss ms. still v ss ms) (λ v cs ss c i site old same run. client_step v ss c i site old same) (λ s i node at run. server_step s i node at) (λ c site q. stopped c site) (λ c site q. begun c site) crashed started

pub one : (past : List Step) (t : Traced) (e : Event) (sc : WorldTurn) → RepliesHold past t → ReassertionsNew past (step t e sc) → world_step t.world e ≡ Ok sc → RepliesHold (past ++ step t e sc ∷ []) (traced_after e t sc)
one past t e sc d f h = record { dated = (dates.one past t e sc d.dated h).1; replies = event_says past t d e sc f h }

run : (es : List Event) (past : List Step) (t : Traced) → RepliesHold past t → Throughout ReassertionsNew past (steps es t) → Throughout RepliesAfter past (steps es t)
unfolding steps safety.steps_on Throughout
run [] past t d f = tt
run (e ∷ es) past t d f = go (world_step t.world e) refl f (run es)
  where
    go : (r : Result WorldTurn WorldRefusal) → world_step t.world e ≡ r → Throughout ReassertionsNew past (safety.steps_on (steps es) t e r) →
        ((past : List Step) (t : Traced) → RepliesHold past t → Throughout ReassertionsNew past (steps es t) → Throughout RepliesAfter past (steps es t)) → Throughout RepliesAfter past (safety.steps_on (steps es) t e r)
    go (Err r) q f k = tt
    go (Ok sc) q f k = let z = one past t e sc d f.0 q in (z.replies, k (past ++ step t e sc ∷ []) (traced_after e t sc) z f.1)

pub replies_are_reached : RepliesAreReached
unfolding fresh_world
replies_are_reached c clients servers disks blocks form es head f =
    run es [] (traced (fresh_world c clients servers disks blocks form)) (record { dated = dates.fresh_dated c clients servers disks blocks form head; replies = λ s n at m h. absurd h }) f
