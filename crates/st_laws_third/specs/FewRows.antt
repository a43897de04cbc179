-- In every run of the third form, no reassertion is of more locks than a client may have.
use Rattle.std.specs.Prelude.{◌≡◌, ℕ, Bool, true, nat_le, List, [], length}
use Rattle.std.specs.List.{list_all}
use Rattle.st_base.specs.declared.config.Config.{Config}
use Rattle.st_messages.specs.declared.message.Body.{Body}
use Rattle.st_messages.specs.declared.message.Body.TheVariants as bodies
use Rattle.st_rules.specs.declared.observation.Observation.TheVariants as plain_seen
use Rattle.st_third.specs.declared.event.ThirdEvent.{ThirdEvent}
use Rattle.st_third.specs.declared.limits.Limits.{Limits}
use Rattle.st_third.specs.declared.observation.ThirdObservation.{ThirdObservation}
use Rattle.st_third.specs.declared.observation.ThirdObservation.TheVariants as seen
use Rattle.st_third.specs.Limits.{IsHead}
use Rattle.st_third.specs.Promises.{ThirdPromise, Throughout}
use Rattle.st_third.specs.Steps.{steps, third_traced}
use Rattle.st_third.specs.World.{third_world}

-- a message
abbrev pub has_few_rows : Limits → Body → Bool
has_few_rows m (bodies.Reassert rows) = nat_le (length rows) m.locks
has_few_rows m body = true

-- an observation
abbrev pub is_few : Limits → ThirdObservation → Bool
is_few m (seen.Plain (plain_seen.Sent k x)) = has_few_rows m x.body
is_few m o = true

-- each message that is sent
abbrev pub ReassertionsAreFew : ThirdPromise
ReassertionsAreFew past x = list_all (is_few x.before.third.limits) x.seen ≡ true

-- From the world of every head of the third form, over any events, up to the first that is refused
abbrev pub EveryReassertionIsFew : Type 0
EveryReassertionIsFew =
    (k : Config) (m : Limits) (clients servers disks blocks : ℕ) (es : List ThirdEvent) → IsHead k m clients servers disks blocks 3 →
    Throughout ReassertionsAreFew [] (steps es (third_traced (third_world k m clients servers disks blocks 3)))
