-- In runs of the third form a server suspects a client only for a cause.
use Rattle.std.specs.Prelude.{ℕ, List, [], map}
use Rattle.st_base.specs.declared.config.Config.{Config}
use Rattle.st_base.specs.declared.ids.ServerId.{ServerId}
use Rattle.st_laws_waits.specs.Causes.{SuspicionsHaveACauseOf}
use Rattle.st_laws_waits.specs.Waits.{Runs}
use Rattle.st_third.specs.declared.event.ThirdEvent.{ThirdEvent}
use Rattle.st_third.specs.declared.limits.Limits.{Limits}
use Rattle.st_third.specs.Limits.{IsHead, is_client_node}
use Rattle.st_third.specs.Promises.{ThirdPromise, Throughout}
use Rattle.st_third.specs.Steps.{plain_step, steps, third_traced}
use Rattle.st_third.specs.World.{third_world}

-- After a step the server runs.
abbrev pub ServerRuns : ServerId → ThirdPromise
ServerRuns s past x = Runs s x.after.third.world

-- Suspicions have a cause, as in the first two forms, at a server that hears 64 clients.
abbrev pub HaveACause : Config → ServerId → ThirdPromise
HaveACause k s past x = SuspicionsHaveACauseOf (is_client_node 3) k s (map plain_step past) (plain_step x)

-- In every run of the third form in which the server never stops.
abbrev pub ThirdSuspicionsHaveACause : Type 0
ThirdSuspicionsHaveACause =
    (k : Config) (m : Limits) (clients servers disks blocks : ℕ) (es : List ThirdEvent) (s : ServerId) → IsHead k m clients servers disks blocks 3 →
    Throughout (ServerRuns s) [] (steps es (third_traced (third_world k m clients servers disks blocks 3))) →
    Throughout (HaveACause k s) [] (steps es (third_traced (third_world k m clients servers disks blocks 3)))
