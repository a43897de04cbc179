-- What holds of a server and all its clients, with the order of their locks.
use Rattle.std.specs.Prelude.{◌≡◌, ℕ, Ok, Some}
use Rattle.st_messages.specs.declared.event.Event.{Event}
use Rattle.st_rules.specs.Events.{WorldTurn, world_step}
use Rattle.st_rules.specs.Server.{ServerNode}
use Rattle.st_rules.specs.World.{World, node_of, server}
use Rattle.st_protocol.specs.Assoc.{Config}
use Rattle.st_laws_refine.specs.Views.Halves.{Ghost}
use Rattle.st_laws_refine.specs.Server.Pair.{pair}
use Rattle.st_laws_leases.specs.Sides.World.{AllStand, IsFull, ServerStands}
use Rattle.st_laws_leases.specs.Order.Order.{Below}

-- numbers of changes are below the locks of a server's associations
abbrev pub AllBelow : Config → (ℕ → ℕ) → ℕ → (ℕ → ℕ → ℕ) → World → ServerNode → (ℕ → Ghost) → Type 0
AllBelow k H s ended w node G = (c : ℕ) → Below k H (pair c s (ended c) w node (G c))

-- What holds of a server, with numbers below the locks of its associations.
pub record OrderedServer (k : Config) (w : World) (s : ℕ) (node : ServerNode) (H : ℕ → ℕ) : Type 0 where
  pub stands : ServerStands k w s node
  pub below : AllBelow k H s stands.ended w node stands.ghosts

-- Everything holds in a world, with numbers for each server and file below the locks.
pub record Ordered (k : Config) (count : ℕ) (w : World) (H : ℕ → ℕ → ℕ) : Type 0 where
  pub all : AllStand k count w
  pub servers : (s : ℕ) (node : ServerNode) → node_of w (server s) ≡ Some node → OrderedServer k w s node (H s)

-- Every event leaves them below.
abbrev pub EventsKeepOrder : Type 0
EventsKeepOrder =
    (k : Config) (count : ℕ) (H : ℕ → ℕ → ℕ) (w : World) (e : Event) (sc : WorldTurn) → Ordered k count w H →
    IsFull w e → world_step w e ≡ Ok sc → Ordered k count sc.world H
