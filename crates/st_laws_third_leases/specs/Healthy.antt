-- Healthy clients of the third form.
use Rattle.std.specs.Prelude.{ℕ, List, [], ◌∷◌}
use Rattle.st_base.specs.declared.config.Config.{Config}
use Rattle.st_base.specs.declared.ids.ClientId.{ClientId}
use Rattle.st_base.specs.declared.ids.NodeId.TheVariants as nodes
use Rattle.st_base.specs.declared.ids.ServerId.{ServerId}
use Rattle.st_messages.specs.declared.event.Event.TheVariants as events
use Rattle.st_rules.specs.Safety.{Promise}
use Rattle.st_laws_healthy.specs.Healthy.{IsHealthy, IsOutOfGrace}
use Rattle.st_laws_third.specs.FirstPromises.{Plainly}
use Rattle.st_third.specs.declared.event.ThirdEvent.{ThirdEvent}
use Rattle.st_third.specs.declared.event.ThirdEvent.TheVariants as third
use Rattle.st_third.specs.declared.limits.Limits.{Limits}
use Rattle.st_third.specs.Limits.{IsHead}
use Rattle.st_third.specs.Promises.{Throughout}
use Rattle.st_third.specs.Steps.{ThirdStep, ThirdTraced, steps, third_traced}
use Rattle.st_third.specs.World.{third_world}

-- What holds in every run of the third form in which a client is healthy at a server after each step.
abbrev pub InThirdHealthyRuns : (Config → ClientId → ServerId → ℕ → ℕ → Promise) → Type 0
InThirdHealthyRuns promise =
    (k : Config) (m : Limits) (clients servers disks blocks : ℕ) (es : List ThirdEvent) (c : ClientId) (s : ServerId) (gap d : ℕ) →
    IsHead k m clients servers disks blocks 3 →
    Throughout (Plainly (IsHealthy c s gap d)) [] (steps es (third_traced (third_world k m clients servers disks blocks 3))) →
    Throughout (Plainly (promise k c s gap d)) [] (steps es (third_traced (third_world k m clients servers disks blocks 3)))

-- what the last of these steps left
unfoldable pub third_left_by : ThirdTraced → List ThirdStep → ThirdTraced
third_left_by t [] = t
third_left_by t (x ∷ xs) = third_left_by x.after xs

-- What holds in every run of the third form from a start of a client on, if the server is out of grace then, and the client is healthy at it after each step
-- from the start on. Messages that were sent before the start may come at any time, or never.
abbrev pub InThirdRunsFromStarts : (Config → ClientId → ServerId → ℕ → ℕ → Promise) → Type 0
InThirdRunsFromStarts promise =
    (k : Config) (m : Limits) (clients servers disks blocks : ℕ) (earlier es : List ThirdEvent) (c : ClientId) (s : ServerId) (gap d : ℕ) →
    IsHead k m clients servers disks blocks 3 →
    IsOutOfGrace s (third_left_by (third_traced (third_world k m clients servers disks blocks 3))
    (steps earlier (third_traced (third_world k m clients servers disks blocks 3)))).third.world →
    Throughout (Plainly (IsHealthy c s gap d)) [] (steps (third.Plain (events.Start (nodes.Client c)) ∷ es)
    (third_left_by (third_traced (third_world k m clients servers disks blocks 3))
    (steps earlier (third_traced (third_world k m clients servers disks blocks 3))))) →
    Throughout (Plainly (promise k c s gap d)) (steps earlier (third_traced (third_world k m clients servers disks blocks 3)))
    (steps (third.Plain (events.Start (nodes.Client c)) ∷ es)
    (third_left_by (third_traced (third_world k m clients servers disks blocks 3))
    (steps earlier (third_traced (third_world k m clients servers disks blocks 3)))))
