-- What is proved so far on the way to the law that every run of the world is a run of the volume.
use Rattle.std.specs.Prelude.{◌≡◌, ℕ, true, List, ◌++◌, filter, option_and_then}
use Rattle.st_base.specs.declared.config.Config.{Config}
use Rattle.st_rules.specs.Safety.{Step}
use Rattle.st_rules.specs.World.{World, fresh_world}
use Rattle.st_laws_volume.specs.Seen.{is_seen, seen_of}
use Rattle.st_laws_volume.specs.Witness.{Witness, begun, is_view, steps_of}
use Rattle.st_volume.specs.declared.step.VolumeStep.{VolumeStep}
use Rattle.st_volume.specs.Volume.{Volume, run}

-- Shown: what is seen of the steps that an event is is what is seen of the event, in its order.
abbrev pub StepsShowTheEvent : Type 0
StepsShowTheEvent = (t : Witness) (v : Volume) (x : Step) → filter is_seen (steps_of t v x) ≡ seen_of x

-- Parts: steps and then others are taken if the others are taken after the first ones.
abbrev pub RunsInParts : Type 0
RunsInParts =
    (xs ys : List VolumeStep) (v : Volume) → run (xs ++ ys) v ≡ option_and_then (run ys) (run xs v)

-- Agreed at the start: the volume of the world of a head is the view of that world.
abbrev pub agrees_at_start : World → Type 0
agrees_at_start w = is_view w (begun w w).volume ≡ true

abbrev pub TheStartAgrees : Type 0
TheStartAgrees =
    (k : Config) (clients servers disks blocks form : ℕ)
    → agrees_at_start (fresh_world k clients servers disks blocks form)
