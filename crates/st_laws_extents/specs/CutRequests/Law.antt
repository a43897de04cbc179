-- Each cut that a step logs is asked, over whole runs.
use Rattle.std.specs.Prelude.{◌≡◌, ℕ, Some}
use Rattle.st_rules.specs.Safety.{Promise}
use Rattle.st_rules.specs.Server.{ServerNode}
use Rattle.st_rules.specs.World.{World, node_of, server}
use Rattle.st_protocol.specs.Assoc.{Config}
use Rattle.st_laws_leases.specs.Sides.World.{AllStand}
use Rattle.st_laws_reads.specs.AllClients.Obligations.{CutsAsked}
use Rattle.st_laws_extents.specs.CutRequests.NamedGrants.{Given}
use Rattle.st_laws_extents.specs.CutRequests.World.{Gifts}

-- after a step
abbrev pub CutsAreAsked : Promise
CutsAreAsked past x = CutsAsked x

-- what the machine of a server was given to a client
abbrev pub gifts : (k : Config) (count : ℕ) (w : World) → AllStand k count w → Gifts
gifts k count w all c s ino g = (node : ServerNode) (at : node_of w (server s.0) ≡ Some node) → Given ((all.servers s.0 node at).ghosts c.0).net ino g.0
