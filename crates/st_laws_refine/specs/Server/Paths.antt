-- The way that the machine of a server and its clients went, from a world on: steps and works, one after another.
use Rattle.std.specs.Prelude.{ℕ}
use Rattle.st_rules.specs.Server.{ServerNode}
use Rattle.st_rules.specs.World.{World}
use Rattle.st_protocol.specs.Assoc as net
use Rattle.st_protocol.specs.Assoc.{Config, Step, Work}
use Rattle.st_laws_refine.specs.Views.Halves.{Ghost}
use Rattle.st_laws_refine.specs.Server.Invariants.{pairs}

-- steps of the machine from one world to another, one after another
pub data Path (k : Config) : net.World → net.World → Type 0 where
  Here : (a : net.World) → Path k a a
  SteppedOn : {u v w : net.World} → Path k u v → Step k v w → Path k u w
  WorkedOn : {u v w : net.World} → Path k u v → Work k v w → Path k u w

-- a path leads to the associations of a server
abbrev pub Leads : Config → net.World → ℕ → (ℕ → ℕ → ℕ) → World → ServerNode → (ℕ → Ghost) → Type 0
Leads k H s ended w node G = Path k H (pairs s ended w node G)
