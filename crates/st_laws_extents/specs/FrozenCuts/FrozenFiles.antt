-- Writes of lives that a crash ended, and the requests of those lives.
use Rattle.std.specs.Prelude.{ℕ}
use Rattle.st_rules.specs.declared.world.LeaseLife.{LeaseLife}
use Rattle.st_rules.specs.declared.log.LogOwner.{LogOwner}
use Rattle.st_rules.specs.World.{World}
use Rattle.st_protocol.specs.Assoc.{Config}
use Rattle.st_laws_leases.specs.Sides.World.{AllStand}
use Rattle.st_laws_reads.specs.OpenWrites.StandStill.{OpenCrashed}
use Rattle.st_laws_extents.specs.CutRequests.EndedLives.{LifeHarmless}
use Rattle.st_laws_extents.specs.CutRequests.Law.{gifts}

-- no message of the life cuts the file
abbrev pub UncutLife : (k : Config) (count : ℕ) (w : World) → AllStand k count w → World → LeaseLife → LogOwner → Type 0
UncutLife k count w all v row o = LifeHarmless (gifts k count w all o.client o.file.server) v o.client o.file.server o.life.0 o.file.ino

-- if a write of a life that a crash ended is not reported, no message of the life cuts its file
abbrev pub FrozenFilesUncut : (k : Config) (count : ℕ) (w : World) → AllStand k count w → Type 0
FrozenFilesUncut k count w all = OpenCrashed (UncutLife k count w all w) w
