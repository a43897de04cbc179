-- Leases of clients of the third form that tick in time.
use Rattle.std.specs.Prelude.{ℕ, List, []}
use Rattle.st_base.specs.declared.config.Config.{Config}
use Rattle.st_base.specs.declared.ids.ClientId.{ClientId}
use Rattle.st_rules.specs.Safety.{Promise}
use Rattle.st_laws_lasting.specs.Lasting.{ClientTicksInTime}
use Rattle.st_laws_third.specs.FirstPromises.{Plainly}
use Rattle.st_third.specs.declared.event.ThirdEvent.{ThirdEvent}
use Rattle.st_third.specs.declared.limits.Limits.{Limits}
use Rattle.st_third.specs.Limits.{IsHead}
use Rattle.st_third.specs.Promises.{Throughout}
use Rattle.st_third.specs.Steps.{steps, third_traced}
use Rattle.st_third.specs.World.{third_world}

-- What holds in every run of the third form in which a client ticks in time.
abbrev pub InThirdTickingRuns : (Config → ClientId → ℕ → Promise) → Type 0
InThirdTickingRuns promise =
    (k : Config) (m : Limits) (clients servers disks blocks : ℕ) (es : List ThirdEvent) (c : ClientId) (gap : ℕ) →
    IsHead k m clients servers disks blocks 3 →
    Throughout (Plainly (ClientTicksInTime c gap)) [] (steps es (third_traced (third_world k m clients servers disks blocks 3))) →
    Throughout (Plainly (promise k c gap)) [] (steps es (third_traced (third_world k m clients servers disks blocks 3)))
