-- In every run of the third form, faults have a cause; of *toomanylocks* nothing is said.
use Rattle.std.specs.Prelude.{◌≡◌, ℕ, Bool, true, List, []}
use Rattle.std.specs.List.{list_all}
use Rattle.st_base.specs.declared.config.Config.{Config}
use Rattle.st_messages.specs.declared.answer.AppAnswer.TheVariants as answers
use Rattle.st_rules.specs.declared.observation.Observation.TheVariants as plain_seen
use Rattle.st_third.specs.declared.event.ThirdEvent.{ThirdEvent}
use Rattle.st_third.specs.declared.limits.Limits.{Limits}
use Rattle.st_third.specs.declared.observation.ThirdObservation.{ThirdObservation}
use Rattle.st_third.specs.declared.observation.ThirdObservation.TheVariants as seen
use Rattle.st_third.specs.Limits.{IsHead}
use Rattle.st_third.specs.Promises.{ThirdPromise, Throughout, is_caused}
use Rattle.st_third.specs.Steps.{ThirdStep, steps, third_traced}
use Rattle.st_third.specs.World.{third_world}

-- an observation has a cause, if it isn't that one
abbrev pub is_caused_or_many : ThirdStep → ThirdObservation → Bool
is_caused_or_many x (seen.Plain (plain_seen.Answered c op answers.TooManyLocks)) = true
is_caused_or_many x o = is_caused x o

-- Faults have a cause, as is promised, but for *toomanylocks*
abbrev pub OtherFaultsHaveACause : ThirdPromise
OtherFaultsHaveACause past x = list_all (is_caused_or_many x) x.seen ≡ true

-- In every run of the third form
abbrev pub EveryOtherFaultHasACause : Type 0
EveryOtherFaultHasACause =
    (k : Config) (m : Limits) (clients servers disks blocks : ℕ) (es : List ThirdEvent) → IsHead k m clients servers disks blocks 3 →
    Throughout OtherFaultsHaveACause [] (steps es (third_traced (third_world k m clients servers disks blocks 3)))
