-- Every event leaves as many clients and servers as there were, takes no message and no command away, and counts the bytes of messages.
use Rattle.st_lemmas.proofs.Words
use Words.{◌≡◌, ◌*◌, ◌+◌, ℕ, ◌≤◌, Bool, true, false, List, [], ◌∷◌, length, Option, Some, None, Ok, Err, refl, sym, ap, ◌∙◌, subst, arith, if◌then◌else◌}
use Words.{Result, pred, ClientId, ServerId, NodeId, Stamp, Message, Event, Note, Output, ClientInput, ServerInput, Phase, StepRefusal, IssuedCommand}
use Words.{SentMessage}
use Words.nodes
use Words.events
use Words.notes
use Words.outputs
use Words.phases
use Words.Client as cl
use Words.ClientState.{ClientState}
use Words.Server as server
use Words.Server.{ServerNode}
use Words.World as world
use Words.World.{World, WorldClient, site_of, node_of, message_of, receiver_of, issued_of, all_servers}
use Words.Disks as disks
use Words.Events as ev
use Words.Events.{WorldTurn, world_step, happens, counted}
use Words.Numbers.{set_length, length_more}
use Rattle.st_messages.specs.Sizes.{size_of}
use Rattle.st_lemmas.proofs.Steps.{step_happens}

-- Between two worlds: the numbers of clients and servers are the same, those of messages and commands have not fallen, and each new
-- message has at least 38 bytes.
pub record Sized (w v : World) : Type 0 where
  pub clients : length v.clients ≡ length w.clients
  pub servers : length v.servers ≡ length w.servers
  pub messages : length w.net.messages ≤ length v.net.messages
  pub commands : length w.commands ≤ length v.commands
  pub bytes : 38 * length v.net.messages + w.net.bytes ≤ v.net.bytes + 38 * length w.net.messages

same_size : (w : World) → Sized w w
same_size w = record { clients = refl; servers = refl; messages = omega arith; commands = omega arith; bytes = omega arith }

pub sized_then : (u v w : World) → Sized u v → Sized v w → Sized u w
sized_then u v w a b =
    record {
      clients = b.clients ∙ a.clients;
      servers = b.servers ∙ a.servers;
      messages = let x = a.messages in let y = b.messages in omega (arith, x, y);
      commands = let x = a.commands in let y = b.commands in omega (arith, x, y);
      bytes = let x = a.bytes in let y = b.bytes in omega (arith, x, y);
    }

-- what a change leaves that touches none of these
still : (w v : World) → v.clients ≡ w.clients → v.servers ≡ w.servers → v.net.messages ≡ w.net.messages → v.commands ≡ w.commands → v.net.bytes ≡ w.net.bytes → Sized w v
still w v c s m k b =
    record {
      clients = ap (λ (xs : List WorldClient). length xs) c;
      servers = ap (λ (xs : List ServerNode). length xs) s;
      messages = let z = ap (λ (xs : List SentMessage). length xs) m in omega (arith, z);
      commands = let z = ap (λ (xs : List IssuedCommand). length xs) k in omega (arith, z);
      bytes = let z = ap (λ (xs : List SentMessage). length xs) m in omega (arith, z, b);
    }

site_sized : (c : ClientId) (site : WorldClient) (w : World) → Sized w (ev.with_site c site w)
site_sized c site w = record { clients = set_length w.clients (pred c.0) site; servers = refl; messages = omega arith; commands = omega arith; bytes = omega arith }

node_sized : (s : ServerId) (node : ServerNode) (w : World) → Sized w (ev.with_node s node w)
node_sized s node w = record { clients = refl; servers = set_length w.servers (pred s.0) node; messages = omega arith; commands = omega arith; bytes = omega arith }

-- What is sent and submitted.
sends_sized : (m : Message) (sc : WorldTurn) → Sized sc.world (ev.sends sc m).world
unfolding ev.sends size_of
sends_sized m sc =
    record {
      clients = refl;
      servers = refl;
      messages = let z = length_more sc.world.net.messages (record { message = m; lost = false }) in omega (arith, z);
      commands = omega arith;
      bytes = let z = length_more sc.world.net.messages (record { message = m; lost = false }) in omega (arith, z);
    }

client_one : (c : ClientId) (before : ClientState) (o : Output) (sc : WorldTurn) → Sized sc.world (ev.client_says sc c before o).world
unfolding ev.client_says ev.answers_with ev.client_notes ev.loses ev.accepts ev.patches ev.submits
client_one c before (outputs.Send m) sc = sends_sized m sc
client_one c before (outputs.Submit number at what) sc = go (site_of sc.world c)
  where
    go : (o : Option WorldClient) → Sized sc.world (ev.submits sc c o number at what).world
    go None = same_size sc.world
    go (Some site) =
        record {
          clients = refl;
          servers = refl;
          messages = omega arith;
          commands = let z = length_more sc.world.commands (ev.issued sc.world c site number at what) in omega (arith, z);
          bytes = omega arith;
        }
client_one c before (outputs.Answer op a) sc = still sc.world _ refl refl refl refl refl
client_one c before (outputs.Note x) sc = note x
  where
    note : (x : Note) → Sized sc.world (ev.client_notes sc c before x).world
    note (notes.Accepted f p bytes) = still sc.world _ refl refl refl refl refl
    note (notes.Patched f p at bytes) = still sc.world _ refl refl refl refl refl
    note (notes.Lost s l) = still sc.world _ refl refl refl refl refl
    note x = still sc.world _ refl refl refl refl refl

client_all : (c : ClientId) (before : ClientState) (os : List Output) (sc : WorldTurn) → Sized sc.world (ev.client_says_all c before os sc).world
unfolding ev.client_says_all
client_all c before [] sc = same_size sc.world
client_all c before (o ∷ os) sc = sized_then sc.world (ev.client_says sc c before o).world _ (client_one c before o sc) (client_all c before os (ev.client_says sc c before o))

server_one : (s : ServerId) (o : Output) (sc : WorldTurn) → Sized sc.world (ev.server_says sc s o).world
unfolding ev.server_says ev.server_notes ev.cuts
server_one s (outputs.Send m) sc = sends_sized m sc
server_one s (outputs.Note x) sc = note x
  where
    note : (x : Note) → Sized sc.world (ev.server_notes sc s x).world
    note (notes.Stolen c l) = still sc.world _ refl refl refl refl refl
    note (notes.CutDone f p) = still sc.world _ refl refl refl refl refl
    note x = still sc.world _ refl refl refl refl refl
server_one s o sc = same_size sc.world

server_all : (s : ServerId) (os : List Output) (sc : WorldTurn) → Sized sc.world (ev.server_says_all s os sc).world
unfolding ev.server_says_all
server_all s [] sc = same_size sc.world
server_all s (o ∷ os) sc = sized_then sc.world (ev.server_says sc s o).world _ (server_one s o sc) (server_all s os (ev.server_says sc s o))

-- Flush steps.
flush_sized : (w : World) (c : ClientId) (s : ServerId) (end : Option Stamp) (phase : Option Phase) → Sized w (ev.flushed_in w c s end phase)
flush_sized w c s None (Some phases.Flush) = same_size w
flush_sized w c s (Some end) (Some phases.Flush) = still w _ refl refl refl refl refl
flush_sized w c s end phase = same_size w

flushes_sized : (c : ClientId) (state : ClientState) (ss : List ServerId) (w : World) → Sized w (ev.flushes c state ss w)
unfolding ev.flushes
flushes_sized c state [] w = same_size w
flushes_sized c state (s ∷ ss) w =
    sized_then w (ev.flushed_at w c s state) _ (flush_sized w c s (cl.lease_end_with state s) (cl.phase_with state s (world.clock_of w (nodes.Client c)))) (flushes_sized c state ss (ev.flushed_at w c s state))

-- A step of a client.
client_sized : (w : World) (c : ClientId) (input : ClientInput) (site : WorldClient) → Sized w (ev.client_takes w c input site).world
unfolding ev.client_takes ev.client_took
client_sized w c input site = go (cl.node_step site.node (world.clock_of w (nodes.Client c)) input)
  where
    go : (r : Result cl.NodeTurn StepRefusal) → Sized w (ev.client_took w c site r).world
    go (Ok t) =
        let v : World = ev.with_site c (ev.at_node t.node site) w in
        let u : World = (ev.client_says_all c site.node.state t.out (ev.quiet v)).world in
        sized_then w v _ (site_sized c (ev.at_node t.node site) w) (sized_then v u _ (client_all c site.node.state t.out (ev.quiet v)) (flushes_sized c t.node.state (all_servers u) u))
    go (Err r) = same_size w

client_there : (w : World) (c : ClientId) (input : ClientInput) (o : Option WorldClient) → Sized w (ev.at_client w c input o).world
unfolding ev.at_client
client_there w c input None = same_size w
client_there w c input (Some site) = client_sized w c input site

-- A step of a server.
server_there : (w : World) (s : ServerId) (input : ServerInput) (o : Option ServerNode) → Sized w (ev.at_server w s input o).world
unfolding ev.at_server ev.server_takes ev.server_took
server_there w s input None = same_size w
server_there w s input (Some node) = go (server.node_step node (world.clock_of w (nodes.Server s)) input)
  where
    go : (r : Result server.NodeTurn StepRefusal) → Sized w (ev.server_took w s r).world
    go (Ok t) = sized_then w (ev.with_node s t.node w) _ (node_sized s t.node w) (server_all s t.out (ev.quiet (ev.with_node s t.node w)))
    go (Err r) = same_size w

-- Each event.
ticks_sized : (w : World) (n : NodeId) → Sized w (ev.ticks w n).world
unfolding ev.ticks
ticks_sized w (nodes.Client c) = client_there w c _ (site_of w c)
ticks_sized w (nodes.Server s) = server_there w s _ (node_of w s)

asks_sized : (w : World) (c : ClientId) (ask : Rattle.st_messages.specs.declared.ask.Ask.Ask) (o : Option WorldClient) → Sized w (ev.asks_at w c ask o).world
unfolding ev.asks_at
asks_sized w c ask None = same_size w
asks_sized w c ask (Some site) = client_sized w c _ (ev.asked_once_more site)

delivers_sized : (w : World) (o : Option SentMessage) → Sized w (ev.delivers w o).world
unfolding ev.delivers ev.delivers_to
delivers_sized w None = same_size w
delivers_sized w (Some m) = go (receiver_of m)
  where
    go : (n : NodeId) → Sized w (ev.delivers_to w m.message n).world
    go (nodes.Client c) = client_there w c _ (site_of w c)
    go (nodes.Server s) = server_there w s _ (node_of w s)

loses_sized : (w : World) (k : ℕ) (o : Option SentMessage) → Sized w (ev.loses_message w k o)
unfolding ev.loses_message
loses_sized w k None = same_size w
loses_sized w k (Some m) =
    record {
      clients = refl;
      servers = refl;
      messages = let z = set_length w.net.messages (pred k) (record m { lost = true }) in omega (arith, z);
      commands = omega arith;
      bytes = let z = set_length w.net.messages (pred k) (record m { lost = true }) in omega (arith, z);
    }

told_sized : (w : World) (k : ℕ) (ok : Bool) (o : Option IssuedCommand) → Sized w (ev.tells w k ok o).world
unfolding ev.tells ev.tells_client ev.tells_site
told_sized w k ok None = same_size w
told_sized w k ok (Some c) = go (site_of w c.client)
  where
    go : (o : Option WorldClient) → Sized w (ev.tells_client w k ok c o).world
    go None = same_size w
    go (Some site) = by (ev.is_same_instance c site)
      where
        by : (b : Bool) → Sized w (if b then ev.client_takes w c.client (ev.end_told w k ok c) site else ev.quiet w).world
        by true = client_sized w c.client (ev.end_told w k ok c) site
        by false = same_size w

crashes_sized : (w : World) (n : NodeId) → Sized w (ev.crashes w n).world
unfolding ev.crashes ev.crashes_client ev.marks ev.crashes_server
crashes_sized w (nodes.Client c) = go (site_of w c)
  where
    go : (o : Option WorldClient) → Sized w (ev.crashes_client w c o).world
    go None = same_size w
    go (Some site) = record { clients = set_length w.clients (pred c.0) (ev.stopped_site site); servers = refl; messages = omega arith; commands = omega arith; bytes = omega arith }
crashes_sized w (nodes.Server s) = go (node_of w s)
  where
    go : (o : Option ServerNode) → Sized w (ev.crashes_server w s o)
    go None = same_size w
    go (Some node) = node_sized s _ w

starts_sized : (w : World) (n : NodeId) → Sized w (ev.starts w n)
unfolding ev.starts ev.starts_client ev.starts_server
starts_sized w (nodes.Client c) = go (site_of w c)
  where
    go : (o : Option WorldClient) → Sized w (ev.starts_client w c o)
    go None = same_size w
    go (Some site) = site_sized c _ w
starts_sized w (nodes.Server s) = go (node_of w s)
  where
    go : (o : Option ServerNode) → Sized w (ev.starts_server w s o)
    go None = same_size w
    go (Some node) = node_sized s _ w

-- the disks when a command was reported
abbrev disks_done : World → ℕ → Bool → World
disks_done w k ok = ev.with_disks (ev.disks_after w.disks (disks.done w.disks k ok)) w

happens_sized : (w : World) (e : Event) → Sized w (happens w e).world
unfolding happens ev.advances ev.effects ev.marks ev.reports_of
happens_sized w (events.Tick n) = ticks_sized w n
happens_sized w (events.App c ask) = asks_sized w c ask (site_of w c)
happens_sized w (events.Deliver k) = delivers_sized w (message_of w k)
happens_sized w (events.Lose k) = loses_sized w k (message_of w k)
happens_sized w (events.Cut from to) = still w _ refl refl refl refl refl
happens_sized w (events.Heal from to) = still w _ refl refl refl refl refl
happens_sized w (events.Advance steps) = still w _ refl refl refl refl refl
happens_sized w (events.Effect k) = still w _ refl refl refl refl refl
happens_sized w (events.Report k ok) = sized_then w (disks_done w k ok) _ (still w _ refl refl refl refl refl) (told_sized (disks_done w k ok) k ok (issued_of w k))
happens_sized w (events.Crash n) = crashes_sized w n
happens_sized w (events.Start n) = starts_sized w n

pub step_sized : (w : World) (e : Event) (sc : WorldTurn) → world_step w e ≡ Ok sc → Sized w sc.world
step_sized w e sc h = subst (λ (x : WorldTurn). Sized w x.world) (sym (step_happens w e sc h).1) (sized_then w (counted w) _ (still w _ refl refl refl refl refl) (happens_sized (counted w) e))
