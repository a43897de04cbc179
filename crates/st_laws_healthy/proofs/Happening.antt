-- What an event does to one client and one server: one of the two steps, or neither does, or one of them does not run before it or after it.
use Rattle.st_lemmas.proofs.Words
use Words.{◌≡◌, ◌≢◌, ℕ, ◌+◌, ◌≤◌, ◌⊎◌, Bool, true, false, List, Option, Some, None, Ok, Err, refl, sym, ap, ◌∙◌, subst, inl, inr, arith, if◌then◌else◌, ◌-◌}
use Words.{length, map, pred, nat_le, le-leb, leb-true, ClientId, ServerId, Stamp, NodeId, Ask, Message, Event, Output, ClientInput, ServerInput, Session, IssuedCommand, SentMessage}
use Words.nodes
use Words.events
use Words.outputs
use Words.inputs
use Words.serving
use Words.seen
use Words.refusals
use Words.Keys.{client, server_node}
use Words.Admissible as adm
use Words.Client as cl
use Words.ClientState.{ClientTurn}
use Words.Events as ev
use Words.Events.{WorldTurn, world_step}
use Words.History.{Traced}
use Words.Server as server
use Words.Server.{ServerNode}
use Words.Sessions.{session_of}
use Words.Safety.{Step}
use Words.World as world
use Words.World.{World, WorldClient, clock_of, node_of, numbered, site_of, with_numbered}
use Words.Lists.{Has}
use Words.Lookups.{some_is}
use Words.Numbers.{numbered_below, numbered_has, numbered_other, numbered_own, set_length}
use Words.Tables.{has_map_in, same_or_not}
use Words.Worlds.{clocks_go_on, stands_not}
use Rattle.st_rules.specs.declared.node.StepRefusal.TheVariants.{Crashed}
use Rattle.st_lemmas.proofs.Steps.{step_happens}
use Rattle.st_laws_refine.proofs.Server.Delivery.{all_parts}
use Rattle.st_laws_pages.proofs.Lives.Lasting.{flush_parts}
use Rattle.st_laws_leases.specs.Dates.Dates.{Dated, Runs, message_in, messages}
use Rattle.st_laws_leases.proofs.Dates.Leaving.{Leaves, client_leaves, leaves_from, lost_same, server_leaves, server_not_client}
use Rattle.st_laws_leases.proofs.Dates.Receiving.{Comes, Ever, Held, ever_on, step_held}
use Rattle.st_laws_leases.proofs.Dates.SentMessages.{client_said, server_said}
use Rattle.st_laws_leases.proofs.Dates.Serving.{AnswersTo, P, step_good}
use Rattle.st_laws_leases.proofs.Sides.Fold.{second_none}
use Rattle.st_laws_lasting.specs.Lasting.{client_clock}
use Rattle.st_laws_lasting.proofs.Young.{after_clocks}

-- no message to this node is delivered
abbrev pub Deaf : World → Event → ℕ → Type 0
Deaf w e to = (n : ℕ) (x : SentMessage) → e ≡ events.Deliver n → world.message_of w n ≡ Some x → x.message.header.to ≡ to → ⊥

-- a message is delivered
pub record Delivers (w : World) (e : Event) (m : Message) : Type 0 where
  pub number : ℕ
  pub sent : SentMessage
  pub event : e ≡ events.Deliver number
  pub there : world.message_of w number ≡ Some sent
  pub is : m ≡ sent.message

-- what an event brings to a client that takes this input, and to a server
abbrev pub Brings : World → Event → ℕ → ClientInput → Type 0
Brings w e to (inputs.Control m) = Delivers w e m × (m.header.to ≡ to)
Brings w e to i = Deaf w e to

abbrev pub BringsServer : World → Event → ℕ → ServerInput → Type 0
BringsServer w e to (serving.Control m) = Delivers w e m × (m.header.to ≡ to)
BringsServer w e to serving.Tick = Deaf w e to

-- both run
pub record BothRun (c : ClientId) (s : ServerId) (w : World) : Type 0 where
  pub site : WorldClient
  pub there : site_of w c ≡ Some site
  pub runs : site.node.running ≡ true
  pub node : ServerNode
  pub is : node_of w s ≡ Some node
  pub up : node.running ≡ true

-- whichever of the two is there runs
pub record AllRun (c : ClientId) (s : ServerId) (w : World) : Type 0 where
  pub clients : (site : WorldClient) → site_of w c ≡ Some site → site.node.running ≡ true
  pub servers : (node : ServerNode) → node_of w s ≡ Some node → node.running ≡ true

-- numbers of clients and of servers
client_place : (n : ℕ) (c : ClientId) → world.node_at n ≡ nodes.Client c → (n ≡ c.0) × (n ≤ 16)
unfolding world.node_at
client_place n c e = go (nat_le n 16) refl e
  where
    go : (b : Bool) → nat_le n 16 ≡ b → (if b then nodes.Client (client n) else nodes.Server (world.server (n - 32768))) ≡ nodes.Client c → (n ≡ c.0) × (n ≤ 16)
    go true q f = (same f, leb-true n 16 q)
      where
        same : nodes.Client (client n) ≡ nodes.Client c → n ≡ c.0
        same f = cc
    go false q f = cc

at_client_node : (c : ClientId) → c.0 ≤ 16 → world.node_at c.0 ≡ nodes.Client c
unfolding world.node_at
at_client_node c l = ap (λ b. if b then nodes.Client (client c.0) else nodes.Server (world.server (c.0 - 32768))) (le-leb c.0 16 l)

at_server_node : (s : ServerId) → world.node_at (32768 + s.0) ≡ nodes.Server s
unfolding world.node_at
at_server_node s = go (nat_le (32768 + s.0) 16) refl
  where
    go : (b : Bool) → nat_le (32768 + s.0) 16 ≡ b → (if b then nodes.Client (client (32768 + s.0)) else nodes.Server (world.server ((32768 + s.0) - 32768))) ≡
        nodes.Server s
    go true q = let y = leb-true (32768 + s.0) 16 q in absurd (omega (arith, y))
    go false q = ap (λ n. nodes.Server (world.server n)) (let z : (32768 + s.0) - 32768 ≡ s.0 = omega arith in z)

to_server : (x : ServerId) (m : ℕ) → world.node_at m ≡ nodes.Server x → 1 ≤ x.0 → m ≡ server_node x
unfolding world.node_at
to_server x m q l = by (nat_le m 16) refl q
  where
    same : nodes.Server (world.server (m - 32768)) ≡ nodes.Server x → m - 32768 ≡ x.0
    same g = cc

    by : (b : Bool) → nat_le m 16 ≡ b → (if b then nodes.Client (client m) else nodes.Server (world.server (m - 32768))) ≡ nodes.Server x → m ≡ server_node x
    by true f g = cc
    by false f g = let z : m - 32768 ≡ x.0 = same g in omega (arith, z, l)

not_both : (n : ℕ) (c : ClientId) (s : ServerId) → world.node_at n ≡ nodes.Client c → world.node_at n ≡ nodes.Server s → ⊥
not_both n c s e f = no (sym e ∙ f)
  where
    no : nodes.Client c ≡ nodes.Server s → ⊥
    no q = cc

same_server_node : (s r : ServerId) → nodes.Server s ≡ nodes.Server r → s.0 ≡ r.0
same_server_node s r e = cc

module _ (past : List Step) (t : Traced) (d : Dated past t) (c : ClientId) (s : ServerId) (few : c.0 ≤ 16) (e : Event) where
  abbrev pub NewFrom : WorldTurn → List Output → Type 0
  NewFrom sc os = (m : Message) → Has m (messages sc.world) → Has m (messages t.world) ⊎ Has (outputs.Send m) os

  -- the server has no session of the client that it didn't have before
  abbrev pub Fewer : World → Type 0
  Fewer v =
      (node : ServerNode) → node_of v s ≡ Some node → (y : Session) → session_of node.state.sessions c ≡ Some y →
      (old : ServerNode) × (node_of t.world s ≡ Some old) × (session_of old.state.sessions c ≡ Some y)

  -- What the event does.
  pub data Happened (sc : WorldTurn) : Type 0 where
    ClientSteps : (site old : WorldClient) (i : ClientInput) (now : Stamp) → now.0 ≡ client_clock c t.world → site.node ≡ old.node →
        site_of t.world c ≡ Some old →
        Brings t.world e c.0 i → Deaf t.world e (server_node s) → site_of sc.world c ≡ Some
        (ev.at_node (record site.node { state = (cl.client_step site.node.state now i).state }) site) →
        node_of sc.world s ≡ node_of t.world s → sc.world.clocks ≡ t.world.clocks → length sc.world.clients ≡ length t.world.clients →
        NewFrom sc (cl.client_step site.node.state now i).out →
        ((m : Message) → Has (outputs.Send m) (cl.client_step site.node.state now i).out → m.header.from ≡ c.0) →
        ((m : Message) → Has (outputs.Send m) (cl.client_step site.node.state now i).out → (n : ℕ) × Has (seen.Sent n m) sc.seen) → Happened sc
    ServerSteps : (old : ServerNode) (i : ServerInput) → node_of t.world s ≡ Some old → BringsServer t.world e (server_node s) i → Deaf t.world e c.0 →
        node_of sc.world s ≡ Some (record old { state = (server.server_step old.state (clock_of t.world (nodes.Server s)) i).state }) →
        site_of sc.world c ≡ site_of t.world c →
        sc.world.clocks ≡ t.world.clocks → length sc.world.clients ≡ length t.world.clients →
        NewFrom sc (server.server_step old.state (clock_of t.world (nodes.Server s)) i).out →
        ((m : Message) → Has (outputs.Send m) (server.server_step old.state (clock_of t.world (nodes.Server s)) i).out → m.header.from ≡ server_node s) →
        ((m : Message) → Has (outputs.Send m) (server.server_step old.state (clock_of t.world (nodes.Server s)) i).out →
        (n : ℕ) × Has (seen.Sent n m) sc.seen) → Happened sc
    NeitherSteps : site_of sc.world c ≡ site_of t.world c → node_of sc.world s ≡ node_of t.world s → client_clock c t.world ≤ client_clock c sc.world →
        Deaf t.world e c.0 → Deaf t.world e (server_node s) →
        ((m : Message) → Has m (messages sc.world) → Has m (messages t.world) ⊎ ((m.header.from ≢ c.0) × (m.header.from ≢ server_node s))) → Happened sc
    IsBroken : (AllRun c s t.world → BothRun c s sc.world → ⊥) → messages sc.world ≡ messages t.world → Fewer sc.world → Happened sc

  abbrev w : World
  w = ev.counted t.world

  as_before : (v : World) → node_of v s ≡ node_of t.world s → Fewer v
  as_before v e node f y q = (node, sym e ∙ f, q)

  -- an event that leaves both, and the messages
  alike : (sc : WorldTurn) → sc.world.clients ≡ t.world.clients → sc.world.servers ≡ t.world.servers → messages sc.world ≡ messages t.world →
      client_clock c t.world ≤ client_clock c sc.world →
      Deaf t.world e c.0 → Deaf t.world e (server_node s) → Happened sc
  alike sc cs ss ms l f g = NeitherSteps (ap (λ z. numbered z c.0) cs) (ap (λ z. numbered z s.0) ss) l f g (λ m h. inl (subst (Has m) ms h))

  -- what a step of a client sends is from it
  from_client : (x : ClientId) (now : Stamp) (i : ClientInput) (old site : WorldClient) → site.node ≡ old.node → site_of t.world x ≡ Some old →
      Comes (messages t.world) x now Ever ever_on i →
      (m : Message) → Has (outputs.Send m) (cl.client_step site.node.state now i).out → m.header.from ≡ x.0
  from_client x now i old site same at k m h =
      let held : Held (messages t.world) x now Ever ever_on (cl.client_step site.node.state now i) =
      step_held (messages t.world) x now Ever ever_on site.node.state i k
      (subst (λ (n : cl.ClientNode). Rattle.st_laws_leases.specs.Dates.Dates.ClientDated (messages t.world) x n.state) (sym same) (d.clients x old at))
      (λ a j. tt) in
      (held.outs m h).from

  -- A step of a client.
  client_takes : (v : World) → v.clients ≡ t.world.clients → v.servers ≡ t.world.servers → v.net ≡ t.world.net → v.clocks ≡ t.world.clocks →
      (x : ClientId) (i : ClientInput) (site old : WorldClient) →
      site.node ≡ old.node → site_of t.world x ≡ Some old → Comes (messages t.world) x (clock_of v (nodes.Client x)) Ever ever_on i → Brings t.world e x.0 i →
      (x.0 ≢ c.0 → Deaf t.world e c.0) → Deaf t.world e (server_node s) → Happened (ev.client_takes v x i site)
  unfolding ev.client_takes ev.client_took cl.node_step
  client_takes v cs ss net clocks x i site old same at k brings deaf deaf_server = go site.node.running refl
    where
      now : Stamp
      now = clock_of v (nodes.Client x)

      u : ClientTurn
      u = cl.client_step site.node.state now i

      node : cl.ClientNode
      node = record site.node { state = u.state }

      a : WorldTurn
      a = ev.quiet (ev.with_site x (ev.at_node node site) v)

      b : WorldTurn
      b = ev.client_says_all x site.node.state u.out a

      last : World
      last = ev.flushes x node.state (world.all_servers b.world) b.world

      before : messages a.world ≡ messages t.world
      before = ap (λ (n : world.Net). map message_in n.messages) net

      l : Leaves (messages t.world) a.world last u.out
      l = client_leaves (messages t.world) x site.node.state node.state u.out a before

      same_clocks : last.clocks ≡ t.world.clocks
      same_clocks = (flush_parts x node.state (world.all_servers b.world) b.world).clocks ∙ after_clocks x site.node.state u.out a ∙ clocks

      clock : client_clock c last ≡ client_clock c t.world
      clock = ap (λ ts. (Rattle.std.specs.Prelude.unwrap_or (numbered ts c.0) (world.stamp 0)).0) same_clocks

      many : length last.clients ≡ length t.world.clients
      many =
          ap (λ z. length z) (l.clients ∙ ap (λ z. with_numbered x.0 (ev.at_node node site) z) cs)
          ∙ set_length t.world.clients (pred x.0) (ev.at_node node site)

      told : (m : Message) → Has (outputs.Send m) u.out → (n : ℕ) × Has (seen.Sent n m) b.seen
      told m h = (client_said x site.node.state u.out a).told m h

      sites : (y : ℕ) → numbered last.clients y ≡ numbered (with_numbered x.0 (ev.at_node node site) t.world.clients) y
      sites y = ap (λ z. numbered z y) (l.clients ∙ ap (λ z. with_numbered x.0 (ev.at_node node site) z) cs)

      servers : node_of last s ≡ node_of t.world s
      servers = ap (λ z. numbered z s.0) (l.servers ∙ ss)

      new : NewFrom (ev.world_turn last b.seen) u.out
      new m h = leaves_from (messages t.world) a.world last u.out l m h

      own : x.0 ≡ c.0 → Happened (ev.world_turn last b.seen)
      own q =
          ClientSteps site old i now (ap (λ ts. (Rattle.std.specs.Prelude.unwrap_or (numbered ts x.0) (world.stamp 0)).0) clocks ∙ ap
          (λ n. (Rattle.std.specs.Prelude.unwrap_or (numbered t.world.clocks n) (world.stamp 0)).0) q) same
          (ap (numbered t.world.clients) (sym q) ∙ at) (subst (λ n. Brings t.world e n i) q brings) deaf_server
          (sites c.0 ∙ ap (λ n. numbered (with_numbered x.0 (ev.at_node node site) t.world.clients) n) (sym q) ∙ numbered_own t.world.clients x.0
          (ev.at_node node site) old at) servers same_clocks many new (λ m h. from_client x now i old site same at k m h ∙ q) told

      other : x.0 ≢ c.0 → Happened (ev.world_turn last b.seen)
      other ne =
          NeitherSteps (sites c.0 ∙ numbered_other t.world.clients x.0 c.0 (ev.at_node node site) (numbered_below t.world.clients x.0 old at).0
          (λ q. ne (sym q))) servers
          (let z = clock in omega (arith, z)) (deaf ne) deaf_server (λ m h. by m (new m h))
        where
          place : x.0 ≤ 16
          place = let y = (numbered_below t.world.clients x.0 old at).1 in let z = d.few in omega (arith, y, z)

          by : (m : Message) → Has m (messages t.world) ⊎ Has (outputs.Send m) u.out → Has m (messages t.world) ⊎
              ((m.header.from ≢ c.0) × (m.header.from ≢ server_node s))
          by m (inl h) = inl h
          by m (inr h) = let f = from_client x now i old site same at k m h in inr (λ q. ne (sym f ∙ q), λ q. server_not_client x.0 s.0 place (sym f ∙ q))

      either : (x.0 ≡ c.0) ⊎ (x.0 ≢ c.0) → Happened (ev.world_turn last b.seen)
      either (inl q) = own q
      either (inr ne) = other ne

      stopped : site.node.running ≡ false → (x.0 ≡ c.0) ⊎ (x.0 ≢ c.0) → Happened (ev.quiet v)
      stopped r (inl q) = IsBroken (λ p z. clash site.node.running (ap (λ (n : cl.ClientNode). n.running) same ∙ p.clients old
          (ap (numbered t.world.clients) (sym q) ∙ at)) r) (ap (λ (n : world.Net). map message_in n.messages) net) (as_before v (ap (λ z. numbered z s.0) ss))
        where
          clash : (b : Bool) → b ≡ true → b ≡ false → ⊥
          clash true e f = cc
          clash false e f = cc
      stopped r (inr ne) = alike (ev.quiet v) cs ss (ap (λ (n : world.Net). map message_in n.messages) net)
          (let z = ap (λ ts. (Rattle.std.specs.Prelude.unwrap_or (numbered ts c.0) (world.stamp 0)).0) clocks in omega (arith, z)) (deaf ne) deaf_server

      go : (r : Bool) → site.node.running ≡ r → Happened (ev.client_took v x site (if r then Ok (cl.node_turn site.node u) else Err Crashed))
      go true r = either (same_or_not x.0 c.0)
      go false r = stopped r (same_or_not x.0 c.0)

  -- A step of a server: of this one, or of another.
  module _ (x : ServerId) (i : ServerInput) (old : ServerNode) (at : node_of t.world x ≡ Some old) where
    abbrev took : server.ServerTurn
    took = server.server_step old.state (clock_of t.world (nodes.Server x)) i

    abbrev left : WorldTurn
    left = ev.quiet (ev.with_node x (record old { state = took.state }) w)

    abbrev b : WorldTurn
    b = ev.server_says_all x took.out left

    leaves : Leaves (messages t.world) left.world b.world took.out
    leaves = server_leaves x took.out left

    clocks2 : b.world.clocks ≡ t.world.clocks
    clocks2 = (all_parts x took.out left).clocks

    clock2 : client_clock c b.world ≡ client_clock c t.world
    clock2 = ap (λ ts. (Rattle.std.specs.Prelude.unwrap_or (numbered ts c.0) (world.stamp 0)).0) clocks2

    sites2 : site_of b.world c ≡ site_of t.world c
    sites2 = ap (λ z. numbered z c.0) leaves.clients

    new2 : NewFrom b took.out
    new2 m h = leaves_from (messages t.world) left.world b.world took.out leaves m h

    -- what it sends is from it
    from_server : old.running ≡ true → (m : Message) → Has (outputs.Send m) took.out → m.header.from ≡ server_node x
    from_server run m h =
        let good : P t.world x t.history.timers old.state.authority (clock_of t.world (nodes.Server x)) (AnswersTo i) took =
        step_good t.world x t.history.timers old.state (clock_of t.world (nodes.Server x)) i (d.servers x old at)
        (λ y j q. let z = d.timers y j in
        subst (λ (n : ServerNode). Runs n.state.authority y.client) (some_is (sym z.is ∙ ap (numbered t.world.servers) q ∙ at)) z.on)
        (d.timed x old at run) in
        (good.outs m h).from

    other : x.0 ≢ s.0 → Deaf t.world e c.0 → Deaf t.world e (server_node s) → Happened (ev.server_takes w x i old)
    unfolding ev.server_takes ev.server_took server.node_step
    other ne deaf deaf_server = go old.running refl
      where
        nodes2 : node_of b.world s ≡ node_of t.world s
        nodes2 =
            ap (λ z. numbered z s.0) leaves.servers
            ∙ numbered_other t.world.servers x.0 s.0 (record old { state = took.state }) (numbered_below t.world.servers x.0 old at).0 (λ q. ne (sym q))

        by : old.running ≡ true → (m : Message) → Has m (messages t.world) ⊎ Has (outputs.Send m) took.out →
            Has m (messages t.world) ⊎ ((m.header.from ≢ c.0) × (m.header.from ≢ server_node s))
        by run m (inl h) = inl h
        by run m (inr h) =
            let f = from_server run m h in
            inr (
              λ q. server_not_client c.0 x.0 few (sym q ∙ f),
              λ q. ne (let z : 32768 + x.0 ≡ 32768 + s.0 = sym f ∙ q in let y : x.0 ≡ s.0 = omega
                  (arith, z) in y),
            )

        go : (r : Bool) → old.running ≡ r → Happened (ev.server_took w x (if r then Ok (server.node_turn old took) else Err Crashed))
        go true r = NeitherSteps sites2 nodes2 (let z = clock2 in omega (arith, z)) deaf deaf_server (λ m h. by r m (new2 m h))
        go false r = alike (ev.quiet w) refl refl refl (omega arith) deaf deaf_server

  own : (i : ServerInput) (old : ServerNode) → node_of t.world s ≡ Some old → BringsServer t.world e (server_node s) i → Deaf t.world e c.0 →
      Happened (ev.server_takes w s i old)
  unfolding ev.server_takes ev.server_took server.node_step
  own i old at brings deaf = go old.running refl
    where
      next : ServerNode
      next = record old { state = (took s i old at).state }

      go : (r : Bool) → old.running ≡ r → Happened (ev.server_took w s (if r then Ok (server.node_turn old (took s i old at)) else Err Crashed))
      go true r =
          ServerSteps old i at brings deaf (ap (λ z. numbered z s.0) (leaves s i old at).servers ∙ numbered_own t.world.servers s.0 next old at)
          (sites2 s i old at) (clocks2 s i old at) (ap length (leaves s i old at).clients)
          (new2 s i old at) (from_server s i old at r) (λ m h. (server_said s (took s i old at).out (left s i old at)).told m h)
      go false r = IsBroken (λ p z. clash old.running (p.servers old at) r) refl (as_before w refl)
        where
          clash : (b : Bool) → b ≡ true → b ≡ false → ⊥
          clash true e f = cc
          clash false e f = cc

  server_takes : (x : ServerId) (i : ServerInput) (old : ServerNode) → node_of t.world x ≡ Some old → BringsServer t.world e (server_node x) i →
      Deaf t.world e c.0 →
      (x.0 ≢ s.0 → Deaf t.world e (server_node s)) → Happened (ev.server_takes w x i old)
  server_takes x i old at brings deaf deaf_server = go (same_or_not x.0 s.0)
    where
      go : (x.0 ≡ s.0) ⊎ (x.0 ≢ s.0) → Happened (ev.server_takes w x i old)
      go (inl q) =
          subst (λ n. node_of t.world (world.server n) ≡ Some old → BringsServer t.world e (32768 + n) i →
          Happened (ev.server_takes w (world.server n) i old)) (sym q)
          (λ there f. own i old there f deaf) at brings
      go (inr ne) = other x i old at ne deaf (deaf_server ne)

  -- at a node of the world, if there is one
  at_client : (x : ClientId) (i : ClientInput) → Comes (messages t.world) x (clock_of w (nodes.Client x)) Ever ever_on i → Brings t.world e x.0 i →
      (x.0 ≢ c.0 → Deaf t.world e c.0) →
      Deaf t.world e (server_node s) → Happened (ev.at_client w x i (site_of w x))
  unfolding ev.at_client
  at_client x i k brings deaf deaf_server = go (site_of w x) refl
    where
      none : site_of t.world x ≡ None → (x.0 ≡ c.0) ⊎ (x.0 ≢ c.0) → Happened (ev.quiet w)
      none r (inl q) = IsBroken (λ p z. no z.site (sym r ∙ ap (numbered t.world.clients) q ∙ z.there)) refl (as_before w refl)
        where
          no : (y : WorldClient) → ◌≡◌ {A = Option WorldClient} None (Some y) → ⊥
          no y f = cc
      none r (inr ne) = alike (ev.quiet w) refl refl refl (omega arith) (deaf ne) deaf_server

      go : (o : Option WorldClient) → site_of w x ≡ o → Happened (ev.at_client w x i o)
      go None r = none r (same_or_not x.0 c.0)
      go (Some site) r = client_takes w refl refl refl refl x i site site refl r k brings deaf deaf_server

  at_server : (x : ServerId) (i : ServerInput) → BringsServer t.world e (server_node x) i → Deaf t.world e c.0 → (x.0 ≢ s.0 → Deaf t.world e (server_node s)) →
      Happened (ev.at_server w x i (node_of w x))
  unfolding ev.at_server
  at_server x i brings deaf deaf_server = go (node_of w x) refl
    where
      none : node_of t.world x ≡ None → (x.0 ≡ s.0) ⊎ (x.0 ≢ s.0) → Happened (ev.quiet w)
      none r (inl q) = IsBroken (λ p z. no z.node (sym r ∙ ap (numbered t.world.servers) q ∙ z.is)) refl (as_before w refl)
        where
          no : (y : ServerNode) → ◌≡◌ {A = Option ServerNode} None (Some y) → ⊥
          no y f = cc
      none r (inr ne) = alike (ev.quiet w) refl refl refl (omega arith) deaf (deaf_server ne)

      go : (o : Option ServerNode) → node_of w x ≡ o → Happened (ev.at_server w x i o)
      go None r = none r (same_or_not x.0 s.0)
      go (Some old) r = server_takes x i old r brings deaf deaf_server

  -- an event that delivers nothing
  silent : ((n : ℕ) → e ≡ events.Deliver n → ⊥) → (to : ℕ) → Deaf t.world e to
  silent f to n x q = absurd (f n q)

  -- an event of time, of the disks or of the network
  nothing : (sc : WorldTurn) → ((n : ℕ) → e ≡ events.Deliver n → ⊥) → sc.world.clients ≡ t.world.clients → sc.world.servers ≡ t.world.servers →
      messages sc.world ≡ messages t.world →
      client_clock c t.world ≤ client_clock c sc.world → Happened sc
  nothing sc f cs ss ms l = alike sc cs ss ms l (silent f c.0) (silent f (server_node s))

  -- a node that stops or starts, and which is one of these, is broken
  placed : (sc : WorldTurn) → ((n : ℕ) → e ≡ events.Deliver n → ⊥) → (AllRun c s t.world → BothRun c s sc.world → ⊥) ⊎
      ((site_of sc.world c ≡ site_of t.world c) × (node_of sc.world s ≡ node_of t.world s)) →
      messages sc.world ≡ messages t.world → client_clock c t.world ≤ client_clock c sc.world → Fewer sc.world → Happened sc
  placed sc f (inl broken) ms l fewer = IsBroken broken ms fewer
  placed sc f (inr (same, nodes)) ms l fewer = NeitherSteps same nodes l (silent f c.0) (silent f (server_node s)) (λ m h. inl (subst (Has m) ms h))

  client_placed : (v : World) (x : ClientId) (old new : WorldClient) → site_of t.world x ≡ Some old → v.clients ≡ with_numbered x.0 new t.world.clients →
      v.servers ≡ t.world.servers →
      (old.node.running ≡ true → new.node.running ≡ true → ⊥) → (AllRun c s t.world → BothRun c s v → ⊥) ⊎
      ((site_of v c ≡ site_of t.world c) × (node_of v s ≡ node_of t.world s))
  client_placed v x old new at cs ss broken = go (same_or_not x.0 c.0)
    where
      go : (x.0 ≡ c.0) ⊎ (x.0 ≢ c.0) → (AllRun c s t.world → BothRun c s v → ⊥) ⊎ ((site_of v c ≡ site_of t.world c) × (node_of v s ≡ node_of t.world s))
      go (inl q) =
          inl (λ p z. broken (p.clients old (ap (numbered t.world.clients) (sym q) ∙ at))
          (ap (λ (y : WorldClient). y.node.running)
          (some_is (sym (numbered_own t.world.clients x.0 new old at) ∙ ap (λ n. numbered (with_numbered x.0 new t.world.clients) n) q ∙ ap
          (λ zs. numbered zs c.0) (sym cs) ∙ z.there)) ∙ z.runs))
      go (inr ne) =
          inr (
            ap (λ zs. numbered zs c.0) cs ∙ numbered_other t.world.clients x.0 c.0 new (numbered_below t.world.clients x.0 old at).0 (λ q. ne (sym q)),
            ap
                (λ zs. numbered zs s.0) ss,
          )

  server_placed : (v : World) (x : ServerId) (old new : ServerNode) → node_of t.world x ≡ Some old → v.servers ≡ with_numbered x.0 new t.world.servers →
      v.clients ≡ t.world.clients →
      (old.running ≡ true → new.running ≡ true → ⊥) → (AllRun c s t.world → BothRun c s v → ⊥) ⊎
      ((site_of v c ≡ site_of t.world c) × (node_of v s ≡ node_of t.world s))
  server_placed v x old new at ss cs broken = go (same_or_not x.0 s.0)
    where
      go : (x.0 ≡ s.0) ⊎ (x.0 ≢ s.0) → (AllRun c s t.world → BothRun c s v → ⊥) ⊎ ((site_of v c ≡ site_of t.world c) × (node_of v s ≡ node_of t.world s))
      go (inl q) =
          inl (λ p z. broken (p.servers old (ap (numbered t.world.servers) (sym q) ∙ at))
          (ap (λ (y : ServerNode). y.running)
          (some_is (sym (numbered_own t.world.servers x.0 new old at) ∙ ap (λ n. numbered (with_numbered x.0 new t.world.servers) n) q ∙ ap
          (λ zs. numbered zs s.0) (sym ss) ∙ z.is)) ∙ z.up))
      go (inr ne) =
          inr (
            ap (λ zs. numbered zs c.0) cs,
            ap (λ zs. numbered zs s.0) ss ∙ numbered_other t.world.servers x.0 s.0 new
                (numbered_below t.world.servers x.0 old at).0 (λ q. ne (sym q)),
          )

  -- a server that stops or starts has no session
  server_fewer : (v : World) (x : ServerId) (old new : ServerNode) → node_of t.world x ≡ Some old → v.servers ≡ with_numbered x.0 new t.world.servers →
      session_of new.state.sessions c ≡ None → Fewer v
  server_fewer v x old new at ss none node f y q = go (same_or_not x.0 s.0)
    where
      no : ◌≡◌ {A = Option Session} None (Some y) → ⊥
      no e = cc

      found : numbered (with_numbered x.0 new t.world.servers) s.0 ≡ Some node
      found = ap (λ zs. numbered zs s.0) (sym ss) ∙ f

      go : (x.0 ≡ s.0) ⊎ (x.0 ≢ s.0) → (old : ServerNode) × (node_of t.world s ≡ Some old) × (session_of old.state.sessions c ≡ Some y)
      go (inl e) =
          let same : new ≡ node = some_is (sym (numbered_own t.world.servers x.0 new old at) ∙ ap
          (λ n. numbered (with_numbered x.0 new t.world.servers) n) e ∙ found) in
          absurd (no (sym none ∙ ap (λ (z : ServerNode). session_of z.state.sessions c) same ∙ q))
      go (inr ne) = (
        node,
        sym (numbered_other t.world.servers x.0 s.0 new (numbered_below t.world.servers x.0 old at).0 (λ e. ne (sym e))) ∙ found,
        q,
      )

  crash_empty : (node : ServerNode) → session_of (server.crash_node node).state.sessions c ≡ None
  unfolding server.crash
  crash_empty node = refl

  start_empty : (node : ServerNode) (now : Stamp) → session_of (server.start_node node now).state.sessions c ≡ None
  unfolding server.start server.begin_epoch
  start_empty node now = refl

  no_running : false ≡ true → ⊥
  no_running f = cc

  -- a client's, or a server's, events
  crashes_client : (x : ClientId) → ((n : ℕ) → e ≡ events.Deliver n → ⊥) → Happened (ev.crashes_client w x (site_of w x))
  unfolding ev.crashes_client ev.marks
  crashes_client x f = go (site_of w x) refl
    where
      go : (o : Option WorldClient) → site_of w x ≡ o → Happened (ev.crashes_client w x o)
      go None r = nothing (ev.quiet w) f refl refl refl (omega arith)
      go (Some site) r =
          placed (ev.crashes_client w x (Some site)) f (client_placed (ev.crashes_client w x (Some site)).world x site (ev.stopped_site site) r refl refl
          (λ a b. no_running b)) refl (omega arith) (as_before (ev.crashes_client w x (Some site)).world refl)

  starts_client : (x : ClientId) → ((n : ℕ) → e ≡ events.Deliver n → ⊥) → world.is_running t.world (nodes.Client x) ≡ false →
      Happened (ev.quiet (ev.starts_client w x (site_of w x)))
  unfolding ev.starts_client
  starts_client x f off = go (site_of w x) refl
    where
      go : (o : Option WorldClient) → site_of w x ≡ o → Happened (ev.quiet (ev.starts_client w x o))
      go None r = nothing (ev.quiet w) f refl refl refl (omega arith)
      go (Some site) r =
          placed (ev.quiet (ev.starts_client w x (Some site))) f
          (client_placed (ev.starts_client w x (Some site)) x site (ev.started_site site) r refl refl
          (λ a b. no_running (sym off ∙ ap world.site_runs r ∙ a))) refl (omega arith) (as_before (ev.starts_client w x (Some site)) refl)

  crashes_server : (x : ServerId) → ((n : ℕ) → e ≡ events.Deliver n → ⊥) → Happened (ev.quiet (ev.crashes_server w x (node_of w x)))
  unfolding ev.crashes_server
  crashes_server x f = go (node_of w x) refl
    where
      go : (o : Option ServerNode) → node_of w x ≡ o → Happened (ev.quiet (ev.crashes_server w x o))
      go None r = nothing (ev.quiet w) f refl refl refl (omega arith)
      go (Some node) r =
          placed (ev.quiet (ev.crashes_server w x (Some node))) f (server_placed (ev.crashes_server w x (Some node)) x node (server.crash_node node) r refl
          refl (λ a b. no_running b)) refl (omega arith)
          (server_fewer (ev.crashes_server w x (Some node)) x node (server.crash_node node) r refl (crash_empty node))

  starts_server : (x : ServerId) → ((n : ℕ) → e ≡ events.Deliver n → ⊥) → world.is_running t.world (nodes.Server x) ≡ false →
      Happened (ev.quiet (ev.starts_server w x (node_of w x)))
  unfolding ev.starts_server
  starts_server x f off = go (node_of w x) refl
    where
      go : (o : Option ServerNode) → node_of w x ≡ o → Happened (ev.quiet (ev.starts_server w x o))
      go None r = nothing (ev.quiet w) f refl refl refl (omega arith)
      go (Some node) r =
          placed (ev.quiet (ev.starts_server w x (Some node))) f
          (server_placed (ev.starts_server w x (Some node)) x node (server.start_node node (clock_of w (nodes.Server x))) r refl refl
          (λ a b. no_running (sym off ∙ ap world.node_runs r ∙ a))) refl (omega arith)
          (server_fewer (ev.starts_server w x (Some node)) x node (server.start_node node (clock_of w (nodes.Server x))) r refl
          (start_empty node (clock_of w (nodes.Server x))))

  -- a message is delivered
  delivers : (n : ℕ) → e ≡ events.Deliver n → Happened (ev.delivers w (world.message_of w n))
  unfolding ev.delivers ev.delivers_to ev.at_server
  delivers n is = go (world.message_of w n) refl
    where
      number_is : {k : ℕ} → events.Deliver n ≡ events.Deliver k → n ≡ k
      number_is q = cc

      -- a message to a node other than that of this number
      elsewhere : (x : SentMessage) (to : ℕ) (node : NodeId) → world.message_of t.world n ≡ Some x → world.receiver_of x ≡ node →
          (world.node_at to ≡ node → ⊥) → Deaf t.world e to
      elsewhere x to node q r ne k y f g h =
          ne (ap world.node_at (sym h) ∙ ap (λ (z : SentMessage). world.receiver_of z) (some_is
          (sym g ∙ ap (world.message_of t.world) (sym (number_is (sym is ∙ f))) ∙ q)) ∙ r)

      client_not : (x : ClientId) → x.0 ≢ c.0 → world.node_at c.0 ≡ nodes.Client x → ⊥
      client_not x ne q = ne (sym (client_place c.0 x q).0)

      server_not : (x : ServerId) → x.0 ≢ s.0 → world.node_at (server_node s) ≡ nodes.Server x → ⊥
      server_not x ne q = ne (sym (same_server_node s x (sym (at_server_node s) ∙ q)))

      to : (x : SentMessage) (k : NodeId) → world.message_of w n ≡ Some x → world.receiver_of x ≡ k → Happened (ev.delivers_to w x.message k)
      to x (nodes.Client y) q r =
          at_client y (inputs.Control x.message) (has_map_in message_in t.world.net.messages x (numbered_has t.world.net.messages n x q))
          (record { number = n; sent = x; event = is; there = q; is = refl }, (client_place x.message.header.to y r).0)
          (λ ne. elsewhere x c.0 (nodes.Client y) q r (client_not y ne)) (elsewhere x (server_node s) (nodes.Client y) q r
          (λ f. not_both (server_node s) y s f (at_server_node s)))
      to x (nodes.Server y) q r = served (node_of w y) refl
        where
          deaf : Deaf t.world e c.0
          deaf = elsewhere x c.0 (nodes.Server y) q r (λ f. not_both c.0 c y (at_client_node c few) f)

          deaf_server : y.0 ≢ s.0 → Deaf t.world e (server_node s)
          deaf_server ne = elsewhere x (server_node s) (nodes.Server y) q r (server_not y ne)

          none : node_of t.world y ≡ None → (y.0 ≡ s.0) ⊎ (y.0 ≢ s.0) → Happened (ev.quiet w)
          none f (inl g) = IsBroken (λ p z. no z.node (sym f ∙ ap (numbered t.world.servers) g ∙ z.is)) refl (as_before w refl)
            where
              no : (u : ServerNode) → ◌≡◌ {A = Option ServerNode} None (Some u) → ⊥
              no u h = cc
          none f (inr ne) = alike (ev.quiet w) refl refl refl (omega arith) deaf (deaf_server ne)

          served : (o : Option ServerNode) → node_of w y ≡ o → Happened (ev.at_server w y (serving.Control x.message) o)
          served None f = none f (same_or_not y.0 s.0)
          served (Some old) f =
              server_takes y (serving.Control x.message) old f (
                record { number = n; sent = x; event = is; there = q; is = refl },
                to_server y x.message.header.to r
                    (numbered_below t.world.servers y.0 old f).0,
              ) deaf deaf_server

      go : (o : Option SentMessage) → world.message_of w n ≡ o → Happened (ev.delivers w o)
      go None q = alike (ev.quiet w) refl refl refl (omega arith) (none c.0) (none (server_node s))
        where
          none : (k : ℕ) → Deaf t.world e k
          none k m x f g h = no (sym q ∙ ap (world.message_of t.world) (number_is (sym is ∙ f)) ∙ g)
            where
              no : ◌≡◌ {A = Option SentMessage} None (Some x) → ⊥
              no z = cc
      go (Some x) q = to x (world.receiver_of x) q refl

  loses : (k : ℕ) → ((n : ℕ) → e ≡ events.Deliver n → ⊥) → Happened (ev.quiet (ev.loses_message w k (world.message_of w k)))
  unfolding ev.loses_message
  loses k f = go (world.message_of w k) refl
    where
      go : (o : Option SentMessage) → world.message_of w k ≡ o → Happened (ev.quiet (ev.loses_message w k o))
      go None q = nothing (ev.quiet w) f refl refl refl (omega arith)
      go (Some m) q = nothing (ev.quiet (ev.with_lost k m w)) f refl refl (lost_same w k m q) (omega arith)

  asks_happen : (x : ClientId) (ask : Ask) → ((n : ℕ) → e ≡ events.Deliver n → ⊥) → Happened (ev.asks_at w x ask (site_of w x))
  unfolding ev.asks_at
  asks_happen x ask f = go (site_of w x) refl
    where
      go : (o : Option WorldClient) → site_of w x ≡ o → Happened (ev.asks_at w x ask o)
      go None r = nothing (ev.quiet w) f refl refl refl (omega arith)
      go (Some site) r =
          client_takes w refl refl refl refl x (inputs.App (site.asks + 1) ask) (ev.asked_once_more site) site refl r tt (silent f x.0) (λ ne. silent f c.0)
          (silent f (server_node s))

  reports : (k : ℕ) (ok : Bool) → ((n : ℕ) → e ≡ events.Deliver n → ⊥) → Happened (ev.reports_of w k ok)
  unfolding ev.reports_of ev.tells ev.tells_client ev.tells_site
  reports k ok f = go (world.issued_of w k)
    where
      v : World
      v = ev.with_disks (ev.disks_after w.disks (Rattle.st_rules.specs.Disks.done w.disks k ok)) w

      none : Happened (ev.quiet v)
      none = nothing (ev.quiet v) f refl refl refl (omega arith)

      same : (x : IssuedCommand) (site : WorldClient) → site_of w x.client ≡ Some site → (b : Bool) →
          Happened (if b then ev.client_takes v x.client (ev.end_told v k ok x) site else ev.quiet v)
      same x site q true = client_takes v refl refl refl refl x.client (ev.end_told v k ok x) site site refl q tt (silent f x.client.0) (λ ne. silent f c.0)
          (silent f (server_node s))
      same x site q false = none

      at : (x : IssuedCommand) (o : Option WorldClient) → site_of w x.client ≡ o → Happened (ev.tells_client v k ok x o)
      at x None q = none
      at x (Some site) q = same x site q (ev.is_same_instance x site)

      go : (o : Option IssuedCommand) → Happened (ev.tells v k ok o)
      go None = none
      go (Some x) = at x (site_of w x.client) refl

  -- what is frozen may start
  off : (x : NodeId) → adm.refusal t.world (events.Start x) ≡ None → world.is_running t.world x ≡ false
  unfolding adm.refusal
  off x r = stands_not (world.is_running t.world x) (refusals.Running x) (second_none (adm.no_node t.world x) (adm.still_running t.world x) r)

  happens : (x : Event) → e ≡ x → adm.refusal t.world x ≡ None → Happened (ev.happens w x)
  unfolding ev.happens ev.ticks ev.crashes ev.starts ev.advances ev.effects ev.marks
  happens (events.Tick (nodes.Client x)) is r = at_client x inputs.Tick tt (silent (λ n q. no (sym is ∙ q)) x.0) (λ ne. silent (λ n q. no (sym is ∙ q)) c.0)
      (silent (λ n q. no (sym is ∙ q)) (server_node s))
    where
      no : {n : ℕ} → events.Tick (nodes.Client x) ≡ events.Deliver n → ⊥
      no q = cc
  happens (events.Tick (nodes.Server x)) is r = at_server x serving.Tick (silent (λ n q. no (sym is ∙ q)) (server_node x))
      (silent (λ n q. no (sym is ∙ q)) c.0) (λ ne. silent (λ n q. no (sym is ∙ q)) (server_node s))
    where
      no : {n : ℕ} → events.Tick (nodes.Server x) ≡ events.Deliver n → ⊥
      no q = cc
  happens (events.App x ask) is r = asks_happen x ask (λ n q. no (sym is ∙ q))
    where
      no : {n : ℕ} → events.App x ask ≡ events.Deliver n → ⊥
      no q = cc
  happens (events.Deliver k) is r = delivers k is
  happens (events.Lose k) is r = loses k (λ n q. no (sym is ∙ q))
    where
      no : {n : ℕ} → events.Lose k ≡ events.Deliver n → ⊥
      no q = cc
  happens (events.Cut a b) is r = nothing (ev.happens w (events.Cut a b)) (λ n q. no (sym is ∙ q)) refl refl refl (omega arith)
    where
      no : {n : ℕ} → events.Cut a b ≡ events.Deliver n → ⊥
      no q = cc
  happens (events.Heal a b) is r = nothing (ev.happens w (events.Heal a b)) (λ n q. no (sym is ∙ q)) refl refl refl (omega arith)
    where
      no : {n : ℕ} → events.Heal a b ≡ events.Deliver n → ⊥
      no q = cc
  happens (events.Advance ds) is r = nothing (ev.happens w (events.Advance ds)) (λ n q. no (sym is ∙ q)) refl refl refl (clocks_go_on ds t.world.clocks c.0)
    where
      no : {n : ℕ} → events.Advance ds ≡ events.Deliver n → ⊥
      no q = cc
  happens (events.Effect k) is r = nothing (ev.happens w (events.Effect k)) (λ n q. no (sym is ∙ q)) refl refl refl (omega arith)
    where
      no : {n : ℕ} → events.Effect k ≡ events.Deliver n → ⊥
      no q = cc
  happens (events.Report k ok) is r = reports k ok (λ n q. no (sym is ∙ q))
    where
      no : {n : ℕ} → events.Report k ok ≡ events.Deliver n → ⊥
      no q = cc
  happens (events.Crash (nodes.Client x)) is r = crashes_client x (λ n q. no (sym is ∙ q))
    where
      no : {n : ℕ} → events.Crash (nodes.Client x) ≡ events.Deliver n → ⊥
      no q = cc
  happens (events.Crash (nodes.Server x)) is r = crashes_server x (λ n q. no (sym is ∙ q))
    where
      no : {n : ℕ} → events.Crash (nodes.Server x) ≡ events.Deliver n → ⊥
      no q = cc
  happens (events.Start (nodes.Client x)) is r = starts_client x (λ n q. no (sym is ∙ q)) (off (nodes.Client x) r)
    where
      no : {n : ℕ} → events.Start (nodes.Client x) ≡ events.Deliver n → ⊥
      no q = cc
  happens (events.Start (nodes.Server x)) is r = starts_server x (λ n q. no (sym is ∙ q)) (off (nodes.Server x) r)
    where
      no : {n : ℕ} → events.Start (nodes.Server x) ≡ events.Deliver n → ⊥
      no q = cc

  -- an event that the world takes
  pub happened : (sc : WorldTurn) → world_step t.world e ≡ Ok sc → Happened sc
  happened sc h = let z = step_happens t.world e sc h in subst Happened (sym z.1) (happens e refl z.0)
