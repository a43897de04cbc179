-- How many steps a node may still take, as far as its counters go.
use Rattle.std.specs.Prelude.{◌≡◌, ◌≤◌, ◌<◌, ◌+◌, ◌*◌, ◌^◌, ℕ, true}
use Rattle.st_laws_bounds.specs.Counters.Rises.{IsWithin}
use Rattle.st_rules.specs.Client.{ClientNode}
use Rattle.st_rules.specs.Server.{ServerNode}
use Rattle.st_server.specs.Room.{taken_locks}
use Rattle.st_node.specs.declared.node.Node.{Node}
use Rattle.st_node.specs.declared.node.Node.TheVariants.{Server, Client}

-- a server runs, and this many steps more keep its counters in their ranges: each takes at most one grant or wait, one inode number
-- and 64 births
pub record ServerHasRoom (steps : ℕ) (n : ServerNode) : Type 0 where
  pub running : n.running ≡ true
  pub locks : taken_locks n.state.locks + steps < 2 ^ 32
  pub inodes : n.state.stable.names.next + steps < 2 ^ 32
  pub births : n.state.stable.extents.births + 64 * steps ≤ 2 ^ 62

-- a client's counters are within a number to which this many steps more may add 2^15 each
pub record ClientHasRoom (steps : ℕ) (n : ClientNode) : Type 0 where
  pub most : ℕ
  pub within : IsWithin most n.state
  pub room : most + 32768 * steps < 2 ^ 62

-- a node's counters have room for this many steps more
abbrev pub HasRoomFor : ℕ → Node → Type 0
HasRoomFor steps (Server n) = ServerHasRoom steps n
HasRoomFor steps (Client n) = ClientHasRoom steps n
