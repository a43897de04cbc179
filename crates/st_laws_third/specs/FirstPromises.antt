-- Promises of the first two forms that are kept in every run of the third form, too.
use Rattle.std.specs.Prelude.{ℕ, List, [], map}
use Rattle.st_base.specs.declared.config.Config.{Config}
use Rattle.st_rules.specs.Safety.{HardStaysHard, Promise}
use Rattle.st_third.specs.declared.event.ThirdEvent.{ThirdEvent}
use Rattle.st_third.specs.declared.limits.Limits.{Limits}
use Rattle.st_third.specs.Promises.{ThirdPromise, Throughout}
use Rattle.st_third.specs.Steps.{plain_step, steps, third_traced}
use Rattle.st_third.specs.World.{third_world}

-- a promise of the first two forms, of the steps of the third as that promise sees them
abbrev pub Plainly : Promise → ThirdPromise
Plainly promise past x = promise (map plain_step past) (plain_step x)

-- An entry that is hard stays hard: from the world of any head of the third form, over any events, up to the first that is
-- refused.
abbrev pub EveryHardEntryStays : Type 0
EveryHardEntryStays =
    (k : Config) (m : Limits) (clients servers disks blocks : ℕ) (es : List ThirdEvent) →
    Throughout (Plainly HardStaysHard) [] (steps es (third_traced (third_world k m clients servers disks blocks 3)))
