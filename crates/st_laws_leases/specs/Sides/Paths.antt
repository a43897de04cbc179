-- Every event is steps of the machine of each server and its clients, which go on from where they were.
use Rattle.std.specs.Prelude.{◌≡◌, ℕ, Ok, Some}
use Rattle.st_messages.specs.declared.event.Event.{Event}
use Rattle.st_rules.specs.Events.{WorldTurn, world_step}
use Rattle.st_rules.specs.Server.{ServerNode}
use Rattle.st_rules.specs.World.{World, node_of, server}
use Rattle.st_protocol.specs.Assoc as net
use Rattle.st_protocol.specs.Assoc.{Config}
use Rattle.st_laws_refine.specs.Views.Halves.{Ghost}
use Rattle.st_laws_refine.specs.Server.Paths.{Leads, Path}
use Rattle.st_laws_refine.specs.Server.Invariants.{pairs}
use Rattle.st_laws_leases.specs.Sides.Invariants.{Both, Left}
use Rattle.st_laws_leases.specs.Sides.World.{AllStand, IsFull, ServerStands}

-- Everything holds again after an event of a client, and each path goes on.
pub record ClientPath (k : Config) (s : ℕ) (w v : World) (node : ServerNode) (ended : ℕ → ℕ → ℕ) (G : ℕ → Ghost) : Type 0 where
  pub ends_of : ℕ → ℕ → ℕ
  pub ghosts : ℕ → Ghost
  pub both : Both k s v node ends_of ghosts
  pub drift : (c : ℕ) → (ghosts c).drift ≡ (G c).drift
  pub left : Left w v
  pub keeps : (H : net.World) → Leads k H s ended w node G → Leads k H s ends_of v node ghosts

-- What holds of a server, at the end of a path from a world of the machine that has a fact.
pub record LedServer (k : Config) (w : World) (s : ℕ) (node : ServerNode) (H : net.World → Type 0) : Type 0 where
  pub stands : ServerStands k w s node
  pub from : net.World
  pub is : H from
  pub path : Leads k from s stands.ended w node stands.ghosts

-- Everything holds in a world, each server at the end of a path from its fact.
pub record Led (k : Config) (count : ℕ) (w : World) (H : ℕ → net.World → Type 0) : Type 0 where
  pub all : AllStand k count w
  pub servers : (s : ℕ) (node : ServerNode) → node_of w (server s) ≡ Some node → LedServer k w s node (H s)

-- the associations of a server whose invariant holds
abbrev pub pairs_of : (k : Config) (w : World) (s : ℕ) (node : ServerNode) → ServerStands k w s node → net.World
pairs_of k w s node z = pairs s z.ended w node z.ghosts

-- A server was there before, and a path leads from its associations then to those that it has now.
pub record CameFrom (k : Config) (count : ℕ) (w : World) (all : AllStand k count w) (v : World) (s : ℕ) (next : ServerNode)
    (z : ServerStands k v s next) : Type 0 where
  pub node : ServerNode
  pub before : node_of w (server s) ≡ Some node
  pub path : Path k (pairs_of k w s node (all.servers s node before)) (pairs_of k v s next z)

-- What an event leaves: everything holds, and each server came from where it was.
pub record Followed (k : Config) (count : ℕ) (w : World) (all : AllStand k count w) (v : World) : Type 0 where
  pub after : AllStand k count v
  pub came : (s : ℕ) (next : ServerNode) (at : node_of v (server s) ≡ Some next) → CameFrom k count w all v s next (after.servers s next at)

-- Every event is steps of the machine of each server and its clients.
abbrev pub EventsArePaths : Type 0
EventsArePaths =
    (k : Config) (count : ℕ) (w : World) (e : Event) (sc : WorldTurn) (all : AllStand k count w) → IsFull w e → world_step w e ≡ Ok sc →
    Followed k count w all sc.world
