-- What an event of the third form does to one client and one server that run all along: one of the two takes a step, or neither does.
use Rattle.st_lemmas.proofs.Words
use Words.{◌≡◌, ◌≢◌, ℕ, ◌+◌, ◌≤◌, ◌⊎◌, true, false, Some, sym, ap, ◌∙◌, subst, inl, inr, arith}
use Words.{length, pred, unwrap_or, ClientId, Config, Event, Message, ServerId, ServerInput}
use Words.nodes
use Words.outputs
use Words.seen
use Words.Keys.{server_node}
use Words.Lists.{Has}
use Words.Numbers.{numbered_below, numbered_other, set_length}
use Words.Server as server
use Words.Server.{ServerNode}
use Words.Tables.{same_or_not}
use Words.Truth.{not_both}
use Words.World.{WorldClient, clock_of, node_of, numbered, site_of, stamp, with_numbered}
use Rattle.st_laws_healthy.proofs.Happening.{AllRun, BothRun, Brings, BringsServer, Deaf}
use Rattle.st_laws_lasting.specs.Lasting.{client_clock}
use Rattle.st_laws_leases.specs.Dates.Dates.{messages}
use Rattle.st_laws_third.proofs.EventWalk.{Client_step, Server_step}
use Rattle.st_laws_third.proofs.Living.{clients_live_on}
use Rattle.st_third.specs.declared.event.ThirdInput.{ThirdInput}
use Rattle.st_third.specs.Events as every
use Rattle.st_third.specs.Events.{ThirdWorldTurn}
use Rattle.st_third.specs.State.{ClientBeside}
use Rattle.st_third.specs.Steps.{plainly_seen}
use Rattle.st_third.specs.World.{ThirdWorld, beside_of}
use Rattle.st_laws_third_leases.proofs.Idle.{Sent}
use Rattle.st_laws_third_leases.proofs.Nodes.{Known, fits_at, id_at, paired_at}
use Rattle.st_laws_third_leases.proofs.ServerSays.{Near, step_says, third_step_is}
use Rattle.st_laws_third_leases.proofs.Signing.{signed}
use Rattle.st_laws_third_leases.proofs.Stepping.{plain_input}
use Rattle.st_laws_third_leases.proofs.Stories.{ByClient, ByServer, IsOff, IsQuiet, NoNode, OffClient, OffServer, Restarts, Story, Took}

-- a step of a client
pub record ClientSteps (w : ThirdWorld) (e : Event) (sc : ThirdWorldTurn) (s : ServerId) (c : ClientId) : Type 0 where
  pub old : WorldClient
  pub site : WorldClient
  pub beside : ClientBeside
  pub input : ThirdInput
  pub there : site_of w.world c ≡ Some old
  pub same : site.node ≡ old.node
  pub up : old.node.running ≡ true
  pub is : beside_of w c ≡ Some beside
  pub brings : Brings w.world e c.0 (plain_input input)
  pub deaf : Deaf w.world e (server_node s)
  pub took : Took w c site (Client_step w c site beside input) sc

-- a step of a server
pub record ServerSteps (w : ThirdWorld) (e : Event) (sc : ThirdWorldTurn) (c : ClientId) (s : ServerId) : Type 0 where
  pub node : ServerNode
  pub input : ServerInput
  pub there : node_of w.world s ≡ Some node
  pub brings : BringsServer w.world e (server_node s) input
  pub deaf : Deaf w.world e c.0
  pub clients : sc.third.world.clients ≡ w.world.clients
  pub servers : sc.third.world.servers ≡ with_numbered s.0 (Server_step w s node input).node w.world.servers
  pub clocks : sc.third.world.clocks ≡ w.world.clocks
  pub new : (m : Message) → Has m (messages sc.third.world) → Has m (messages w.world) ⊎ Has (outputs.Send m) (Server_step w s node input).out
  pub told : (m : Message) → Has (outputs.Send m) (Server_step w s node input).out → (n : ℕ) × Has (seen.Sent n m) (plainly_seen sc.seen)

-- neither's
pub record NeitherSteps (w : ThirdWorld) (e : Event) (sc : ThirdWorldTurn) (c : ClientId) (s : ServerId) : Type 0 where
  pub sites : site_of sc.third.world c ≡ site_of w.world c
  pub nodes_same : node_of sc.third.world s ≡ node_of w.world s
  pub later : client_clock c w.world ≤ client_clock c sc.third.world
  pub server_later : (clock_of w.world (nodes.Server s)).0 ≤ (clock_of sc.third.world (nodes.Server s)).0
  pub deaf : Deaf w.world e c.0
  pub deaf_server : Deaf w.world e (server_node s)
  pub new : (m : Message) → Has m (messages sc.third.world) → Has m (messages w.world) ⊎ ((m.header.from ≢ c.0) × (m.header.from ≢ server_node s))

pub data Happened (w : ThirdWorld) (e : Event) (sc : ThirdWorldTurn) (c : ClientId) (s : ServerId) : Type 0 where
  ByTheClient : ClientSteps w e sc s c → Happened w e sc c s
  ByTheServer : ServerSteps w e sc c s → Happened w e sc c s
  ByNeither : NeitherSteps w e sc c s → Happened w e sc c s

pub client_is : (c d : ClientId) → c.0 ≡ d.0 → d ≡ c
client_is c d e = ap (λ n. record { 0 = n }) (sym e)

pub server_is : (s r : ServerId) → s.0 ≡ r.0 → r ≡ s
server_is s r e = ap (λ n. record { 0 = n }) (sym e)

pub server_number : (s r : ServerId) → server_node s ≡ server_node r → s.0 ≡ r.0
server_number s r g = let z : 32768 + s.0 ≡ 32768 + r.0 = g in omega (arith, z)

module _ {k : Config} (w : ThirdWorld) (o : Known k w) where
  -- what a client says is from it
  pub client_from : (d : ClientId) (old site : WorldClient) (b : ClientBeside) (input : ThirdInput) → site_of w.world d ≡ Some old → site.node ≡ old.node →
      beside_of w d ≡ Some b → (m : Message) → Sent (Client_step w d site b input).out m → m.header.from ≡ d.0
  client_from d old site b input there same q m h =
      (signed _ _ _ m (y.sent m h)).1.1.from ∙ ap (λ (z : ClientId). z.0) y.id ∙ id_at w o d old site there same
    where
      y : Rattle.st_laws_third.specs.Living.ClientLivesOn (Rattle.st_laws_third.specs.Living.heard_in input) (every.third_client site b)
          (Client_step w d site b input).client (Client_step w d site b input).out
      y =
          clients_live_on w.limits (every.third_client site b) (clock_of w.world (nodes.Client d)) input (paired_at w o d old site b there same q)
          (fits_at w o d old site there same)

  -- what a server says is from it
  pub server_from : (r : ServerId) (node : ServerNode) (i : ServerInput) → node_of w.world r ≡ Some node → (m : Message) →
      Has (outputs.Send m) (Server_step w r node i).out → m.header.from ≡ server_node r
  server_from r node i there m h =
      (step_says node.state Near (clock_of w.world (nodes.Server r)) i).from m
      (subst (λ (t : server.ServerTurn). Has (outputs.Send m) t.out)
      (third_step_is w.world.form o.sound.form node.state (clock_of w.world (nodes.Server r)) i) h)
      ∙ ap (λ n. 32768 + n) (o.servers r.0 node there)

module _ {k : Config} (w : ThirdWorld) (o : Known k w) (e : Event) (sc : ThirdWorldTurn) (c : ClientId) (s : ServerId) (runs : AllRun c s w.world)
    (both : BothRun c s sc.third.world) where
  clock_same : sc.third.world.clocks ≡ w.world.clocks → client_clock c w.world ≤ client_clock c sc.third.world
  clock_same q = let z = ap (λ ts. (unwrap_or (numbered ts c.0) (stamp 0)).0) q in omega (arith, z)

  -- the server's clock, among as many clients
  server_clock_on : length sc.third.world.clients ≡ length w.world.clients →
      ((n : ℕ) → (unwrap_or (numbered w.world.clocks n) (stamp 0)).0 ≤ (unwrap_or (numbered sc.third.world.clocks n) (stamp 0)).0) →
      (clock_of w.world (nodes.Server s)).0 ≤ (clock_of sc.third.world (nodes.Server s)).0
  server_clock_on many f =
      let z = f (length w.world.clients + s.0) in
      let y = ap (λ n. (unwrap_or (numbered sc.third.world.clocks (n + s.0)) (stamp 0)).0) many in
      omega (arith, z, y)

  clocks_on : sc.third.world.clocks ≡ w.world.clocks → (n : ℕ) →
      (unwrap_or (numbered w.world.clocks n) (stamp 0)).0 ≤ (unwrap_or (numbered sc.third.world.clocks n) (stamp 0)).0
  clocks_on q n = let z = ap (λ ts. (unwrap_or (numbered ts n) (stamp 0)).0) q in omega (arith, z)

  pub happened : Story w e sc → Happened w e sc c s
  happened (ByClient d old site b input there same up q brings told ticks took) = go (same_or_not c.0 d.0)
    where
      low : (1 ≤ d.0) × (d.0 ≤ 64)
      low = let z = numbered_below w.world.clients d.0 old there in let y = z.1 in let l = o.few in (z.0, omega (arith, y, l))

      apart : server_node s ≢ d.0
      apart g = let z : 32768 + s.0 ≡ d.0 = g in let y = low.1 in omega (arith, z, y)

      its : ClientSteps w e sc s d
      its = record {
        old = old;
        site = site;
        beside = b;
        input = input;
        there = there;
        same = same;
        up = up;
        is = q;
        brings = brings;
        deaf = told (server_node s) apart;
        took = took;
      }

      go : (c.0 ≡ d.0) ⊎ (c.0 ≢ d.0) → Happened w e sc c s
      go (inl z) = ByTheClient (subst (ClientSteps w e sc s) (client_is c d z) its)
      go (inr ne) =
          ByNeither (record {
            sites = ap (λ xs. numbered xs c.0) took.clients ∙ numbered_other w.world.clients d.0 c.0 _ low.0 ne;
            nodes_same = ap (λ xs. numbered xs s.0) took.servers;
            later = clock_same took.clocks;
            server_later = server_clock_on (ap (λ xs. length xs) took.clients ∙ set_length w.world.clients (pred d.0) _) (clocks_on took.clocks);
            deaf = told c.0 ne;
            deaf_server = told (server_node s) apart;
            new = λ m h. new m (took.new m h);
          })
        where
          new : (m : Message) → Has m (messages w.world) ⊎ Sent (Client_step w d site b input).out m →
              Has m (messages w.world) ⊎ ((m.header.from ≢ c.0) × (m.header.from ≢ server_node s))
          new m (inl h) = inl h
          new m (inr h) = let f = client_from w o d old site b input there same q m h in inr (λ g. ne (sym g ∙ f), λ g. apart (sym g ∙ f))
  happened (ByServer r node i there arrives brings told ticks cs ss clocks new said) = go (same_or_not s.0 r.0)
    where
      apart : c.0 ≢ server_node r
      apart g = let z : c.0 ≡ 32768 + r.0 = g in let y = (here_by cs).1 in omega (arith, z, y)
        where
          here_by : sc.third.world.clients ≡ w.world.clients → (1 ≤ c.0) × (c.0 ≤ 64)
          here_by q =
              let z = numbered_below sc.third.world.clients c.0 both.site both.there in
              let y = z.1 in
              let l = o.few in
              let n = ap (λ xs. length xs) q in
              (z.0, omega (arith, y, l, n))

      its : ServerSteps w e sc c r
      its = record {
        node = node;
        input = i;
        there = there;
        brings = brings;
        deaf = told c.0 apart;
        clients = cs;
        servers = ss;
        clocks = clocks;
        new = new;
        told = said;
      }

      go : (s.0 ≡ r.0) ⊎ (s.0 ≢ r.0) → Happened w e sc c s
      go (inl z) = ByTheServer (subst (ServerSteps w e sc c) (server_is s r z) its)
      go (inr ne) =
          ByNeither (record {
            sites = ap (λ xs. numbered xs c.0) cs;
            nodes_same = ap (λ xs. numbered xs s.0) ss ∙ numbered_other w.world.servers r.0 s.0 _ (numbered_below w.world.servers r.0 node there).0 ne;
            later = clock_same clocks;
            server_later = server_clock_on (ap (λ xs. length xs) cs) (clocks_on clocks);
            deaf = told c.0 apart;
            deaf_server = told (server_node s) (λ g. ne (server_number s r g));
            new = λ m h. only m (new m h);
          })
        where
          only : (m : Message) → Has m (messages w.world) ⊎ Has (outputs.Send m) (Server_step w r node i).out →
              Has m (messages w.world) ⊎ ((m.header.from ≢ c.0) × (m.header.from ≢ server_node s))
          only m (inl h) = inl h
          only m (inr h) = let f = server_from w o r node i there m h in inr (λ g. apart (sym g ∙ f), λ g. ne (server_number s r (sym g ∙ f)))
  happened (Restarts d old there broken none others told ticks many ss clocks ms) = go (same_or_not c.0 d.0)
    where
      some : 1 ≤ c.0
      some = (numbered_below sc.third.world.clients c.0 both.site both.there).0

      go : (c.0 ≡ d.0) ⊎ (c.0 ≢ d.0) → Happened w e sc c s
      go (inl z) = absurd (by (broken both.site (ap (numbered sc.third.world.clients) (sym z) ∙ both.there)))
        where
          by : (both.site.node.running ≡ false) ⊎ (old.node.running ≡ false) → ⊥
          by (inl f) = not_both both.site.node.running both.runs f
          by (inr f) = not_both old.node.running (runs.clients old (ap (numbered w.world.clients) z ∙ there)) f
      go (inr ne) =
          ByNeither (record {
            sites = others c ne;
            nodes_same = ap (λ xs. numbered xs s.0) ss;
            later = clock_same clocks;
            server_later = server_clock_on many (clocks_on clocks);
            deaf = told c.0 (λ g. omega (arith, g, some));
            deaf_server = told (server_node s) (λ g. let z : 32768 + s.0 ≡ 0 = g in omega (arith, z));
            new = λ m h. inl (subst (Has m) ms h);
          })
  happened (IsQuiet x off told ticks cs ss later ms) =
      ByNeither (record {
        sites = ap (λ xs. numbered xs c.0) cs;
        nodes_same = as_before (ss s.0 both.node both.is);
        later = later c.0;
        server_later = server_clock_on (ap (λ xs. length xs) cs) later;
        deaf = at_client (same_or_not c.0 x) off;
        deaf_server = at_server (same_or_not (server_node s) x) off;
        new = λ m h. inl (subst (Has m) ms h);
      })
    where
      there : site_of w.world c ≡ Some both.site
      there = sym (ap (λ xs. numbered xs c.0) cs) ∙ both.there

      low : (1 ≤ c.0) × (c.0 ≤ 64)
      low = let z = numbered_below w.world.clients c.0 both.site there in let y = z.1 in let l = o.few in (z.0, omega (arith, y, l))

      as_before : (old : ServerNode) × (numbered w.world.servers s.0 ≡ Some old) × (both.node.state.id ≡ old.state.id) ×
          Rattle.st_laws_third_leases.proofs.Stories.IsAsBefore old both.node → node_of sc.third.world s ≡ node_of w.world s
      as_before (old, was, id, kept) = by kept
        where
          by : Rattle.st_laws_third_leases.proofs.Stories.IsAsBefore old both.node → node_of sc.third.world s ≡ node_of w.world s
          by (inl z) = both.is ∙ ap (λ y. Some y) z ∙ sym was
          by (inr (empty, inl f)) = absurd (not_both both.node.running both.up f)
          by (inr (empty, inr f)) = absurd (not_both old.running (runs.servers old was) f)

      node_there : node_of w.world s ≡ Some both.node
      node_there = sym (as_before (ss s.0 both.node both.is)) ∙ both.is

      at_client : (c.0 ≡ x) ⊎ (c.0 ≢ x) → IsOff w e x → Deaf w.world e c.0
      at_client (inr ne) f = told c.0 ne
      at_client (inl z) (NoNode y) = let l = low.0 in absurd (omega (arith, l, z, y))
      at_client (inl z) (OffClient d y g near) =
          absurd (not_both both.site.node.running both.runs (g both.site (ap (numbered w.world.clients) (sym y ∙ sym z) ∙ there)))
      at_client (inl z) (OffServer far g) = let l = low.1 in absurd (omega (arith, l, far, z))

      at_server : (server_node s ≡ x) ⊎ (server_node s ≢ x) → IsOff w e x → Deaf w.world e (server_node s)
      at_server (inr ne) f = told (server_node s) ne
      at_server (inl z) (NoNode y) = let q : 32768 + s.0 ≡ x = z in absurd (omega (arith, q, y))
      at_server (inl z) (OffClient d y g (inl l)) = let q : 32768 + s.0 ≡ x = z in absurd (omega (arith, q, l))
      at_server (inl z) (OffClient d y g (inr deaf)) = deaf (server_node s)
      at_server (inl z) (OffServer far g) = absurd (not_both both.node.running both.up (g s both.node z node_there))
