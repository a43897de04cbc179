-- Every event keeps what holds of the requests of all sessions.
use Rattle.st_lemmas.proofs.Words
use Words.{◌≡◌, ◌≢◌, ℕ, ◌+◌, ◌≤◌, ◌⊎◌, true, false, List, [], Option, Some, None, Ok, refl, sym, ap, ◌∙◌, subst, inl, inr, arith, map, ClientId, ServerId}
use Words.{Stamp, Message, Event, ClientInput, ServerInput, Request, eqb-true, GrantNo}
use Words.nodes
use Words.inputs
use Words.Keys.{client, server_node}
use Words.Client as cl
use Words.ClientState.{ClientTurn, Association, ClientSession, ClientState, is_refusal, is_request_of, fits, reasserts}
use Words.Events as ev
use Words.Events.{WorldTurn, world_step}
use Words.History.{Traced}
use Words.Sessions as sessions
use Words.Server as server
use Words.Server.{ServerNode}
use Words.World as world
use Words.World.{World, WorldClient, site_of, node_of, numbered, with_numbered, clock_of}
use Words.Safety.{Step}
use Words.Lists.{Has}
use Words.Tables.{has_map, and_both, and_true}
use Words.ClientReplies.{refuses_reassertion}
use Words.bodies
use Words.Truth.{clash}
use Rattle.st_laws_leases.specs.Dates.Dates.{messages}
use Rattle.st_laws_requests.specs.Replies.ServedRequests.{Ends, InputNew, IsBehind, NewOwed, Refusal, Says}
use Rattle.st_laws_leases.proofs.Dates.Leaving.{Leaves, set_cases}
use Rattle.st_laws_requests.proofs.Replies.EachEvent.{ClientTook, Comes, NodeAfter, ServerLeft, ServerTook, SiteAfter, event_leaves}
use Rattle.st_laws_requests.proofs.Replies.Replies.{RepliesHold}
use Rattle.st_laws_requests.specs.Cuts.Cuts.{CutsHold, Numbers, Numbered, SameBody, view}
use Rattle.st_laws_extents.specs.CutRequests.Asks.{AsksBehind, AsksStand, Of, Tells}
use Rattle.st_laws_extents.specs.CutRequests.World.{AllAsk, AllAsked, Gifts, IsServed, ServedTo}
use Rattle.st_laws_extents.proofs.CutRequests.Requesting.{stays_at}
use Rattle.st_laws_extents.proofs.CutRequests.Step.{TellsEach, step_stands}
use Rattle.st_laws_requests.proofs.Replies.Served.{Served, served}

-- what was served is served in another way, too
behind_more : (B C : ServerId → ℕ → ℕ → ℕ → Type 0) (G : ServerId → ℕ → GrantNo → Type 0) → ((server : ServerId) (life epoch n : ℕ) → B server life epoch n → C server life epoch n) →
    (server : ServerId) (life : ℕ) (o : Option ClientSession) → AsksBehind B G server life o → AsksBehind C G server life o
behind_more B C G f server life None h = tt
behind_more B C G f server life (Some s) h = record { last = h.last; first = h.first; served = f server life s.epoch.0 _ h.served; cut = h.cut; remove = h.remove }

module _ (past : List Step) (t : Traced) (d : CutsHold past t) (r : RepliesHold past t) (G : Gifts) (asks : AllAsk G t.world) where
  w : World
  w = ev.counted t.world

  asks_behind_more : (C : ServerId → ℕ → ℕ → ℕ → Type 0) (c : ClientId) (site : WorldClient) → site_of t.world c ≡ Some site →
      ((server : ServerId) (life epoch n : ℕ) → IsServed t.world c server life epoch n → C server life epoch n) →
      (a : Association) → Has a site.node.state.associations → AsksBehind C (G c) a.server a.life.0 a.session
  asks_behind_more C c site at f a i = behind_more (IsServed t.world c) C (G c) f a.server a.life.0 a.session
      (stays_at (IsServed t.world c) (G c) a.server a.life.0 a.session (asks c site at a i))

  -- Clients that are as they were.
  carried : (v : World) → v.clients ≡ t.world.clients → ((c : ClientId) (server : ServerId) (life epoch n : ℕ) → IsServed t.world c server life epoch n → IsServed v c server life epoch n) → AllAsked G v
  carried v e f c site at a i = asks_behind_more (IsServed v c) c site (ap (λ xs. numbered xs c.0) (sym e) ∙ at) (f c) a i

  served_same : (v : World) → v.servers ≡ t.world.servers → (c : ClientId) (server : ServerId) (life epoch n : ℕ) → IsServed t.world c server life epoch n → IsServed v c server life epoch n
  served_same v e c server life epoch n h node q = h node (ap (λ xs. numbered xs server.0) (sym e) ∙ q)

  still : (v : World) → v.clients ≡ t.world.clients → v.servers ≡ t.world.servers → AllAsked G v
  still v cs ss = carried v cs (served_same v ss)

  -- A server at its place is replaced.
  placed : (s : ServerId) (old new : ServerNode) (v : World) → node_of t.world s ≡ Some old → v.clients ≡ t.world.clients → v.servers ≡ with_numbered s.0 new t.world.servers →
      ((c : ClientId) (life epoch n : ℕ) → ServedTo c old life epoch n → ServedTo c new life epoch n) → AllAsked G v
  placed s old new v at cs ss k = carried v cs (λ c server life epoch n h node q number pos is. it c server life epoch n h node number pos is (set_cases t.world.servers s.0 server.0 old new node at (ap (λ xs. numbered xs server.0) (sym ss) ∙ q)))
    where
      it : (c : ClientId) (server : ServerId) (life epoch n : ℕ) → IsServed t.world c server life epoch n → (node : ServerNode) (number : ℕ) → 1 ≤ number → number + 1 ≡ n →
          ((server.0 ≡ s.0) × (node ≡ new)) ⊎ ((server.0 ≢ s.0) × (node_of t.world server ≡ Some node)) → ServedTo c node life epoch number
      it c server life epoch n h node number pos is (inl z) =
          subst (λ y. ServedTo c y life epoch number) (sym z.1) (k c life epoch number (h old (ap (λ y. numbered t.world.servers y) z.0 ∙ at) number pos is))
      it c server life epoch n h node number pos is (inr z) = h node z.1 number pos is

  -- A message that comes to a client tells how far its requests were served.
  module _ (c : ClientId) (old : WorldClient) (there : site_of t.world c ≡ Some old) (runs : old.node.running ≡ true) (m : Message) (among : Has m (messages t.world)) (to : m.header.to ≡ c.0) where
    no_refusal : (a : Association) (x : ClientSession) (q : Request) → Numbers (λ m. Has m (messages t.world)) c a.server a.life.0 (view (Some x)) → AsksStand (IsServed t.world c) (G c) a.server a.life.0 x.epoch.0 x.requests x.cutting x.due →
        x.requests.asked ≡ Some q → m.header.life ≡ a.life.0 → m.header.epoch ≡ x.epoch.0 → m.header.number ≡ q.number → 1 ≤ m.header.number → refuses_reassertion m.body q.body ≡ false → Refusal (messages t.world) a.server m → ⊥
    no_refusal a x q numbers stands asked life epoch number pos fine z = go z.beyond
      where
        n : Numbered x.epoch.0 x.requests z.by
        n = numbers.placed z.by z.among (z.from ∙ to, z.there) (z.of_life ∙ life) (let y = z.under in omega (arith, y, pos))

        body : bodies.Reassert z.rows ≡ q.body
        body = sym z.asks ∙ subst (λ o. SameBody o z.by) asked (n.same (z.of_epoch ∙ epoch)) (z.under ∙ number)

        reassert : reasserts q.body ≡ true
        reassert = ap reasserts (sym body)

        first : q.number ≡ 1
        first = stands.first.first q asked reassert

        go : (2 ≤ m.header.number) ⊎ (is_refusal m.body ≡ true) → ⊥
        go (inl y) = omega (arith, y, first, number)
        go (inr y) = clash (and_both (is_refusal m.body) (reasserts q.body) y reassert) fine

    tells : (a : Association) → Has a old.node.state.associations → (o : Option ClientSession) → a.session ≡ o → Of (Tells (IsServed t.world c) m.header m.body) a.server a.life.0 o
    tells a i None e = tt
    tells a i (Some x) e = λ q asked from life epoch ends counts fine node at k pos is. served q asked from life epoch ends counts fine node at k pos is
      where
        numbers : Numbers (λ m. Has m (messages t.world)) c a.server a.life.0 (view (Some x))
        numbers = subst (λ o. Numbers (λ m. Has m (messages t.world)) c a.server a.life.0 (view o)) e ((d.clients c old there).all runs a i).numbers

        stands : AsksStand (IsServed t.world c) (G c) a.server a.life.0 x.epoch.0 x.requests x.cutting x.due
        stands = subst (Of (AsksStand (IsServed t.world c) (G c)) a.server a.life.0) e (asks c old there a i)

        served : (q : Request) → x.requests.asked ≡ Some q → m.header.from ≡ server_node a.server → m.header.life ≡ a.life.0 → m.header.epoch ≡ x.epoch.0 → Ends m.body →
            Rattle.st_rules.specs.ClientReplies.is_counting m.header.number m.body q ≡ true → refuses_reassertion m.body q.body ≡ false →
            (node : ServerNode) → node_of t.world a.server ≡ Some node → (k : ℕ) → 1 ≤ k → k + 1 ≡ q.number + 1 → ServedTo c node a.life.0 x.epoch.0 k
        served q asked from life epoch ends counts fine node at k pos is =
            record {
              up_to = let y = says.up_to in omega (arith, y, epoch);
              behind = λ run e2. go (says.behind run (epoch ∙ e2) ends more_than);
            }
          where
            number : m.header.number ≡ q.number
            number = sym (eqb-true q.number m.header.number (and_true (is_request_of m.header.number q) (fits m.body q.body) counts).0)

            more_than : 1 ≤ m.header.number
            more_than = omega (arith, number, pos, is)

            says : Says (messages t.world) a.server node m
            says = r.replies a.server node at m among from

            same : m.header.number ≡ k
            same = omega (arith, number, is)

            go : IsBehind (sessions.session_of node.state.sessions (client m.header.to)) m.header.life m.header.number ⊎ Refusal (messages t.world) a.server m → IsBehind (sessions.session_of node.state.sessions c) a.life.0 k
            go (inl h) = subst (IsBehind (sessions.session_of node.state.sessions c) a.life.0) same (subst (λ l. IsBehind (sessions.session_of node.state.sessions c) l m.header.number) life (subst (λ y. IsBehind (sessions.session_of node.state.sessions (client y)) m.header.life m.header.number) to h))
            go (inr z) = absurd (no_refusal a x q numbers stands asked life epoch number more_than fine z)

  -- A step of a client.
  start : (v : World) (c : ClientId) (server : ServerId) (life epoch : ℕ) → IsServed v c server life epoch 1
  start v c server life epoch n at k pos e = absurd (omega (arith, pos, e))

  client_step : (v : World) → v.clients ≡ t.world.clients → v.servers ≡ t.world.servers → (c : ClientId) (i : ClientInput) (site old : WorldClient) → site.node ≡ old.node → site.node.running ≡ true → site_of t.world c ≡ Some old → Comes t.world i →
      (last : World) → Leaves (messages t.world) (ev.with_site c (SiteAfter v c i site) v) last (ClientTook v c i site).out → AllAsked G last
  client_step v ps ss c i site old same run at k last l = taken
    where
      now : Stamp
      now = clock_of v (nodes.Client c)

      u : ClientTurn
      u = ClientTook v c i site

      after : WorldClient
      after = SiteAfter v c i site

      serving_same : last.servers ≡ t.world.servers
      serving_same = l.servers ∙ ss

      here : ClientState
      here = site.node.state

      tells_each : (i : ClientInput) → Comes t.world i → TellsEach (IsServed t.world c) (G c) (start t.world c) here i
      tells_each (inputs.Control m) k = λ e x j. tells c old at (ap (λ (n : cl.ClientNode). n.running) (sym same) ∙ run) m k (e ∙ id) x (subst (λ (n : cl.ClientNode). Has x n.state.associations) same j) x.session refl
        where
          id : here.id.0 ≡ c.0
          id = ap (λ (n : cl.ClientNode). n.state.id.0) same ∙ ap (λ (y : ClientId). y.0) (r.dated.clients c old at).id
      tells_each inputs.Tick k = tt
      tells_each (inputs.App op ask) k = tt
      tells_each (inputs.Done number result) k = tt

      own : (x : Association) → Has x u.state.associations → AsksBehind (IsServed t.world c) (G c) x.server x.life.0 x.session
      own = step_stands (IsServed t.world c) (G c) (start t.world c) here now i (tells_each i k)
          (λ x j. asks c old at x (subst (λ (n : cl.ClientNode). Has x n.state.associations) same j))

      taken : AllAsked G last
      taken e x q y j = it (set_cases v.clients c.0 e.0 old after x (ap (λ xs. numbered xs c.0) ps ∙ at) (ap (λ xs. numbered xs e.0) (sym l.clients) ∙ q))
        where
          it : ((e.0 ≡ c.0) × (x ≡ after)) ⊎ ((e.0 ≢ c.0) × (site_of v e ≡ Some x)) → AsksBehind (IsServed last e) (G e) y.server y.life.0 y.session
          it (inl z) =
              subst (λ z. AsksBehind (IsServed last z) (G z) y.server y.life.0 y.session) (ap (λ (n : ℕ). client n) (sym z.0))
              (behind_more (IsServed t.world c) (IsServed last c) (G c) (served_same last serving_same c) y.server y.life.0 y.session (own y (subst (λ (s : WorldClient). Has y s.node.state.associations) z.1 j)))
          it (inr z) = asks_behind_more (IsServed last e) e x (ap (λ xs. numbered xs e.0) (sym ps) ∙ z.1) (served_same last serving_same e) y j

  -- A step of a server.
  server_step : (s : ServerId) (i : ServerInput) (node : ServerNode) → node_of t.world s ≡ Some node →
      InputNew (server.thefts (server.turn node.state []) (clock_of w (nodes.Server s))) (clock_of w (nodes.Server s)) i →
      Leaves (messages t.world) (ev.with_node s (NodeAfter t.world s i node) w) (ServerLeft t.world s i node).world (ServerTook t.world s i node).out → AllAsked G (ServerLeft t.world s i node).world
  unfolding w
  server_step s i node at owed l =
      placed s node (NodeAfter t.world s i node) (ServerLeft t.world s i node).world at l.clients l.servers
      (λ c life epoch n z. record { up_to = let y = z.up_to in omega (arith, y, same); behind = λ run e. k.goes c life n (z.behind run (e ∙ same)) })
    where
      u : server.ServerTurn
      u = ServerTook t.world s i node

      k : Served s node.state.stable.epoch i node.state.sessions u
      k = served s node.state.stable.epoch i node.state.sessions node.state (clock_of w (nodes.Server s)) owed (record { id = (r.dated.servers s node at).id; epoch = refl; goes = λ c life n h. h; sent = λ y h. absurd h })

      same : u.state.stable.epoch.0 ≡ node.state.stable.epoch.0
      same = ap (λ (y : Rattle.st_base.specs.declared.ids.Epoch.Epoch). y.0) k.epoch

  -- Crashes and starts.
  -- a client without sessions
  emptied : (v : World) (c : ClientId) (old new : WorldClient) → site_of t.world c ≡ Some old → v.clients ≡ with_numbered c.0 new t.world.clients → v.servers ≡ t.world.servers →
      ((a : Association) → Has a new.node.state.associations → a.session ≡ None) → AllAsked G v
  emptied v c old new there cs ss n e x q a i = go (set_cases t.world.clients c.0 e.0 old new x there (ap (λ xs. numbered xs e.0) (sym cs) ∙ q))
    where
      go : ((e.0 ≡ c.0) × (x ≡ new)) ⊎ ((e.0 ≢ c.0) × (site_of t.world e ≡ Some x)) → AsksBehind (IsServed v e) (G e) a.server a.life.0 a.session
      go (inl z) = subst (AsksBehind (IsServed v e) (G e) a.server a.life.0) (sym (n a (subst (λ (s : WorldClient). Has a s.node.state.associations) z.1 i))) tt
      go (inr z) = asks_behind_more (IsServed v e) e x z.1 (served_same v ss e) a i

  none_of : (f : Association → Association) → ((x : Association) → (f x).session ≡ None) → (xs : List Association) → (a : Association) → Has a (map f xs) → a.session ≡ None
  none_of f n xs a i = let z = has_map f xs a i in ap (λ (y : Association). y.session) z.2 ∙ n z.0

  stopped : (c : ClientId) (site : WorldClient) → site_of t.world c ≡ Some site → AllAsked G (ev.crashes_client w c (Some site)).world
  unfolding ev.crashes_client ev.marks w cl.crash
  stopped c site q = emptied (ev.crashes_client w c (Some site)).world c site (ev.stopped_site site) q refl refl (none_of cl.crashed_association (λ a. refl) site.node.state.associations)

  begun : (c : ClientId) (site : WorldClient) → site_of t.world c ≡ Some site → AllAsked G (ev.starts_client w c (Some site))
  unfolding ev.starts_client w cl.start
  begun c site q = emptied (ev.starts_client w c (Some site)) c site (ev.started_site site) q refl refl (none_of cl.started_association (λ a. refl) site.node.state.associations)

  off : {A : Type 0} → false ≡ true → A
  off e = cc

  crashed : (s : ServerId) (node : ServerNode) → node_of t.world s ≡ Some node → AllAsked G (ev.crashes_server w s (Some node))
  unfolding ev.crashes_server server.crash w
  crashed s node q = placed s node (server.crash_node node) (ev.crashes_server w s (Some node)) q refl refl (λ c life epoch n z. record { up_to = z.up_to; behind = λ run. off run })

  started : (s : ServerId) (node : ServerNode) → node_of t.world s ≡ Some node → AllAsked G (ev.starts_server w s (Some node))
  unfolding ev.starts_server server.start server.begin_epoch w
  started s node q =
      placed s node (server.start_node node (clock_of w (nodes.Server s))) (ev.starts_server w s (Some node)) q refl refl
      (λ c life epoch n z. record { up_to = let y = z.up_to in omega (arith, y); behind = λ run e. let y = z.up_to in absurd (omega (arith, y, e)) })

  -- Every event.
  pub stand_again : (e : Event) (sc : WorldTurn) → NewOwed (ev.counted t.world) e → world_step t.world e ≡ Ok sc → AllAsked G sc.world
  unfolding w
  stand_again = event_leaves t.world (λ v. AllAsked G v) (λ v cs ss ms. still v cs ss) client_step (λ s i node at run k. server_step s i node at) stopped begun crashed started
