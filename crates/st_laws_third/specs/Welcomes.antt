-- In every run of the third form, a session begins with a lease that is younger than `renew`.
use Rattle.std.specs.Prelude.{ℕ, List, []}
use Rattle.st_base.specs.declared.config.Config.{Config}
use Rattle.st_third.specs.declared.event.ThirdEvent.{ThirdEvent}
use Rattle.st_third.specs.declared.limits.Limits.{Limits}
use Rattle.st_third.specs.Promises.{Throughout, WelcomesAreFresh}
use Rattle.st_third.specs.Steps.{steps, third_traced}
use Rattle.st_third.specs.World.{third_world}

-- From the world of any head of the third form, over any events, up to the first that is refused
abbrev pub EveryWelcomeIsFresh : Type 0
EveryWelcomeIsFresh =
    (k : Config) (m : Limits) (clients servers disks blocks : ℕ) (es : List ThirdEvent) →
    Throughout WelcomesAreFresh [] (steps es (third_traced (third_world k m clients servers disks blocks 3)))
