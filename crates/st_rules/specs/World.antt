-- The world: clocks, nodes, the network, disks, the log, and what is kept of each command and each life. Its look-ups.
use Rattle.std.specs.Prelude.{ℕ, zero, suc, pred, ◌+◌, ◌*◌, ◌-◌, ◌%◌, Bool, false, ◌&&◌, ◌==◌, nat_le, nat_lt, if◌then◌else◌, List, [], ◌++◌, length, find, map, set, slice_get, Option, Some, None, unwrap_or, ⊤}
use Rattle.st_base.specs.declared.ids.ClientId.{ClientId}
use Rattle.st_base.specs.declared.ids.ServerId.{ServerId}
use Rattle.st_base.specs.declared.ids.Life.{Life}
use Rattle.st_base.specs.declared.ids.Stamp.{Stamp}
use Rattle.st_base.specs.declared.ids.NodeId.{NodeId}
use Rattle.st_base.specs.declared.ids.NodeId.TheVariants as nodes
use Rattle.st_base.specs.declared.config.Config.{Config}
use Rattle.st_base.specs.declared.disk.BlockAt.{BlockAt}
use Rattle.st_base.specs.Nodes.{SERVER_BASE}
use Rattle.st_rules.specs.declared.log.LogOwner.{LogOwner}
use Rattle.st_rules.specs.declared.log.LogEntry.{LogEntry}
use Rattle.st_rules.specs.declared.world.SentMessage.{SentMessage}
use Rattle.st_rules.specs.declared.world.CutLink.{CutLink}
use Rattle.st_rules.specs.declared.world.Carried.{Carried}
use Rattle.st_rules.specs.declared.world.IssuedCommand.{IssuedCommand}
use Rattle.st_rules.specs.declared.world.LeaseLife.{LeaseLife}
use Rattle.st_rules.specs.declared.world.FlushStep.{FlushStep}
use Rattle.st_rules.specs.Keys.{client, same_client, same_server}
use Rattle.st_rules.specs.Leases.{no_drift, leases_open}
use Rattle.st_rules.specs.Extents.{numbers}
use Rattle.st_rules.specs.Disks.{Disks, fresh_disks}
use Rattle.st_rules.specs.FlatLog.{owner}
use Rattle.st_rules.specs.Server as server_rules
use Rattle.st_rules.specs.Server.{ServerNode}
use Rattle.st_rules.specs.ClientState.{ClientState, Association}
use Rattle.st_rules.specs.Client as client_rules
use Rattle.st_rules.specs.Client.{ClientNode, association_with, lease_at, lease_end_with}
use Rattle.st_rules.specs.ClientLease.{end_at}

-- A client in the world: the node, how many asks it had, and how often it was started again.
pub record WorldClient : Type 0 where
  pub node : ClientNode
  pub asks : ℕ
  pub starts : ℕ

-- The network: every message that was sent, in order, the directions that are cut, and the bytes of all messages.
pub record Net : Type 0 where
  pub messages : List SentMessage
  pub cuts : List CutLink
  pub bytes : ℕ

-- What is counted: events, reads that were answered, and thefts.
pub record Tally : Type 0 where
  pub events : ℕ
  pub reads : ℕ
  pub stolen : ℕ

-- The world: the settings and the form of the head; a clock per node, clients in order and then servers in order; how far the
-- clocks drifted; the nodes; the network; the disks, and whose each command is; the log; the lives that ended; the flush steps.
pub record World : Type 0 where
  pub config : Config
  pub form : ℕ
  pub clocks : List Stamp
  pub drift : List (List ℕ)
  pub clients : List WorldClient
  pub servers : List ServerNode
  pub net : Net
  pub disks : Disks
  pub commands : List IssuedCommand
  pub log : List LogEntry
  pub ended : List LeaseLife
  pub flushed : List FlushStep
  pub tally : Tally

-- The world at the start: all nodes run, clients' clocks are at 0, and the clock of server j is at 1000 * j.

-- the server of a number
abbrev pub server : ℕ → ServerId
server n = record { 0 = n }

-- a clock reading
abbrev pub stamp : ℕ → Stamp
stamp n = record { 0 = n }

-- a client at the start
abbrev pub fresh_site : Config → ℕ → ℕ → WorldClient
fresh_site k servers n = record { node = client_rules.fresh_node (client n) k servers; asks = 0; starts = 0 }

-- a server at the start
abbrev pub node_at_start : Config → ℕ → ℕ → ℕ → ℕ → ServerNode
node_at_start k servers disks blocks n = server_rules.fresh_node (server n) k servers disks blocks

-- a client's clock at the start
abbrev pub client_clock : ℕ → Stamp
client_clock n = stamp 0

-- a server's clock at the start
abbrev pub server_clock : ℕ → Stamp
server_clock n = stamp (1000 * n)

-- the clocks at the start
abbrev pub fresh_clocks : ℕ → ℕ → List Stamp
fresh_clocks clients servers = map client_clock (numbers 1 clients) ++ map server_clock (numbers 1 servers)

-- nothing was sent
abbrev pub fresh_net : Net
fresh_net = record { messages = []; cuts = []; bytes = 0 }

-- nothing happened
abbrev pub fresh_tally : Tally
fresh_tally = record { events = 0; reads = 0; stolen = 0 }

-- the world that a head describes: its settings, the counts of clients, servers, disks and blocks, and its form
unfoldable pub fresh_world : Config → ℕ → ℕ → ℕ → ℕ → ℕ → World
fresh_world k clients servers disks blocks form =
    record {
      config = k;
      form = form;
      clocks = fresh_clocks clients servers;
      drift = no_drift (clients + servers);
      clients = map (fresh_site k servers) (numbers 1 clients);
      servers = map (node_at_start k servers disks blocks) (numbers 1 servers);
      net = fresh_net;
      disks = fresh_disks disks blocks;
      commands = [];
      log = [];
      ended = [];
      flushed = [];
      tally = fresh_tally;
    }

-- What goes by a number from 1.
abbrev pub numbered : {A : Type 0} → List A → ℕ → Option A
numbered xs zero = None
numbered xs (suc n) = slice_get xs n

-- with another one under a number
abbrev pub with_numbered : {A : Type 0} → ℕ → A → List A → List A
with_numbered n x xs = set xs (pred n) x

-- Nodes.

-- the client of a number in the world
abbrev pub site_of : World → ClientId → Option WorldClient
site_of w c = numbered w.clients c.0

-- the server of a number in the world
abbrev pub node_of : World → ServerId → Option ServerNode
node_of w s = numbered w.servers s.0

-- a client that is there runs
abbrev pub site_runs : Option WorldClient → Bool
site_runs None = false
site_runs (Some site) = site.node.running

-- a server that is there runs
abbrev pub node_runs : Option ServerNode → Bool
node_runs None = false
node_runs (Some node) = node.running

-- the node is there and runs
abbrev pub is_running : World → NodeId → Bool
is_running w (nodes.Client c) = site_runs (site_of w c)
is_running w (nodes.Server s) = node_runs (node_of w s)

-- there is such a node
abbrev pub is_known : World → NodeId → Bool
is_known w (nodes.Client c) = nat_le 1 c.0 && nat_le c.0 (length w.clients)
is_known w (nodes.Server s) = nat_le 1 s.0 && nat_le s.0 (length w.servers)

-- one node
abbrev pub same_node : NodeId → NodeId → Bool
same_node (nodes.Client c) (nodes.Client d) = same_client c d
same_node (nodes.Server s) (nodes.Server t) = same_server s t
same_node a b = false

-- the node of a number in a message: a client, or a server, above SERVER_BASE
unfoldable pub node_at : ℕ → NodeId
node_at n = if nat_le n 16 then nodes.Client (client n) else nodes.Server (server (n - SERVER_BASE))

-- the clients of the world, in order
abbrev pub all_clients : World → List ClientId
all_clients w = map client (numbers 1 (length w.clients))

-- the servers of the world, in order
abbrev pub all_servers : World → List ServerId
all_servers w = map server (numbers 1 (length w.servers))

-- Clocks.

-- the number of a node among the clocks
abbrev pub place_of : World → NodeId → ℕ
place_of w (nodes.Client c) = c.0
place_of w (nodes.Server s) = length w.clients + s.0

-- a node's clock
abbrev pub clock_of : World → NodeId → Stamp
clock_of w n = unwrap_or (numbered w.clocks (place_of w n)) (stamp 0)

-- the node of a place among the clocks, from 0
unfoldable pub node_of_place : World → ℕ → NodeId
node_of_place w p = if nat_lt p (length w.clients) then nodes.Client (client (p + 1)) else nodes.Server (server (p + 1 - length w.clients))

-- Messages and commands.

-- the message of a number
abbrev pub message_of : World → ℕ → Option SentMessage
message_of w k = numbered w.net.messages k

-- the node that a message is for
abbrev pub receiver_of : SentMessage → NodeId
receiver_of m = node_at m.message.header.to

-- the node that it is from
abbrev pub sender_of : SentMessage → NodeId
sender_of m = node_at m.message.header.from

-- whose the command of a number is
abbrev pub issued_of : World → ℕ → Option IssuedCommand
issued_of w k = numbered w.commands k

-- the server of a disk: disk d belongs to server 1 + (d - 1) mod servers
abbrev pub server_of_disk : World → BlockAt → ServerId
server_of_disk w at = server (pred at.disk.0 % length w.servers + 1)

-- the owner of the entry that a command carries
abbrev pub owner_carried : IssuedCommand → Carried → LogOwner
owner_carried c x = owner c.client c.life x.file x.page

-- Lives: the present ones and those that ended, each with the end of its lease.

-- the life of a client at a server, with its lease
abbrev pub life_of_association : Config → ClientId → Association → LeaseLife
life_of_association k c a = record { client = c; server = a.server; life = a.life; end = end_at k (lease_at (Some a)); crashed = false }

-- the present lives of a client
abbrev pub lives_of : ClientState → List LeaseLife
lives_of c = map (life_of_association c.config c.id) c.associations

-- a client's life at a server
abbrev pub is_life_of : ClientId → ServerId → Life → LeaseLife → Bool
is_life_of c s life e = same_client e.client c && (same_server e.server s && (e.life.0 == life.0))

-- that life among those that ended
abbrev pub ended_of : World → ClientId → ServerId → Life → Option LeaseLife
ended_of w c s life = find (is_life_of c s life) w.ended

-- the present lease end of a client at a server
abbrev pub present_end : World → ServerId → Option WorldClient → Option Stamp
present_end w s None = None
present_end w s (Some site) = lease_end_with site.node.state s

-- the lease end of a life: the one that it had when it ended, or else the present one
abbrev pub end_or_present : World → ClientId → ServerId → Option LeaseLife → Option Stamp
end_or_present w c s (Some e) = e.end
end_or_present w c s None = present_end w s (site_of w c)

-- the lease end of a client's life at a server
abbrev pub lease_end_of : World → ClientId → ServerId → Life → Option Stamp
lease_end_of w c s life = end_or_present w c s (ended_of w c s life)

-- the life of an association, if there is one
abbrev pub life_at : Option Association → Life
life_at None = record { 0 = 0 }
life_at (Some a) = a.life

-- the present life of a client at a server
abbrev pub life_with : ClientState → ServerId → Life
life_with c s = life_at (association_with c s)

-- a client's flush step at a server
abbrev pub is_flush_of : ClientId → ServerId → FlushStep → Bool
is_flush_of c s x = same_client x.client c && same_server x.server s

-- opens all of this file
unfoldable pub world_open : ⊤
unfolding leases_open numbers fresh_world node_at node_of_place
world_open = tt
