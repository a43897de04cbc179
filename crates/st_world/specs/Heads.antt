-- The counts of a head.
use Rattle.std.specs.Prelude.{◌≤◌, ℕ, List, map}
use Rattle.st_base.specs.declared.config.Config.{Config}
use Rattle.st_messages.specs.declared.event.Counts.{Counts}
use Rattle.st_rules.specs.Extents.{numbers}
use Rattle.st_rules.specs.Server.{ServerNode}
use Rattle.st_rules.specs.World.{node_at_start}

-- 1 to 16 clients, 1 to 4 servers, as many disks as servers or more and at most 8, and 1 to 4,096 blocks a disk
pub record HasCounts (k : Counts) : Type 0 where
  pub some_clients : 1 ≤ k.clients
  pub clients : k.clients ≤ 16
  pub some_servers : 1 ≤ k.servers
  pub servers : k.servers ≤ 4
  pub some_disks : k.servers ≤ k.disks
  pub disks : k.disks ≤ 8
  pub some_blocks : 1 ≤ k.blocks
  pub blocks : k.blocks ≤ 4096

-- the servers of a world at the start
abbrev pub nodes_at_start : Config → Counts → List ServerNode
nodes_at_start k n = map (node_at_start k n.servers n.disks n.blocks) (numbers 1 n.servers)

-- one client, one server and one disk of this number of blocks
abbrev pub least : ℕ → Counts
least blocks = record { clients = 1; servers = 1; disks = 1; blocks = blocks }
