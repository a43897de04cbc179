-- In every run of the third form, no request for blocks is for more pages than a run may have.
use Rattle.std.specs.Prelude.{ℕ, List, []}
use Rattle.st_base.specs.declared.config.Config.{Config}
use Rattle.st_third.specs.declared.event.ThirdEvent.{ThirdEvent}
use Rattle.st_third.specs.declared.limits.Limits.{Limits}
use Rattle.st_third.specs.Limits.{IsHead}
use Rattle.st_third.specs.Promises.{RunsAreShort, Throughout}
use Rattle.st_third.specs.Steps.{steps, third_traced}
use Rattle.st_third.specs.World.{third_world}

-- From the world of every head of the third form, over any events, up to the first that is refused
abbrev pub EveryAllocationIsShort : Type 0
EveryAllocationIsShort =
    (k : Config) (m : Limits) (clients servers disks blocks : ℕ) (es : List ThirdEvent) → IsHead k m clients servers disks blocks 3 →
    Throughout RunsAreShort [] (steps es (third_traced (third_world k m clients servers disks blocks 3)))
