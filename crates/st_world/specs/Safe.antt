-- Worlds to which safe runs lead, and runs of the volume.
use Rattle.std.specs.Prelude.{ℕ, List, [], ◌∷◌, ◌++◌}
use Rattle.st_base.specs.declared.config.Config.{Config}
use Rattle.st_messages.specs.declared.event.Event.{Event}
use Rattle.st_laws_volume.specs.VolumeRuns.{IsRunOfTheVolume}
use Rattle.st_promises.specs.Safe.{IsSafeRun}
use Rattle.st_rules.specs.World.{World, fresh_world}
use Rattle.st_world.specs.ReachedWorlds.{IsReached, IsReachedBy}

-- every run that leads to this world is safe
abbrev pub AreSafe : World → Type 0
AreSafe w =
    (k : Config) (clients servers disks blocks form : ℕ) (es : List Event)
    → IsReachedBy k clients servers disks blocks form es w
    → IsSafeRun (fresh_world k clients servers disks blocks form) es

-- a run leads to this world, and every run that leads to it is safe
pub record IsLedSafely (w : World) : Type 0 where
  pub reached : IsReached w
  pub safe : AreSafe w

-- every run that leads to this world is safe when this event follows, whether it is refused or not
abbrev pub GoesOnSafely : World → Event → Type 0
GoesOnSafely w e =
    (k : Config) (clients servers disks blocks form : ℕ) (es : List Event)
    → IsReachedBy k clients servers disks blocks form es w
    → IsSafeRun (fresh_world k clients servers disks blocks form) (es ++ e ∷ [])

-- every run that leads to this world is a run of the volume when this event follows, whether it is refused or not
abbrev pub GoesOnInTheVolume : World → Event → Type 0
GoesOnInTheVolume w e =
    (k : Config) (clients servers disks blocks form : ℕ) (es : List Event)
    → IsReachedBy k clients servers disks blocks form es w
    → IsRunOfTheVolume (fresh_world k clients servers disks blocks form) (es ++ e ∷ [])
