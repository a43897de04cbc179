-- In every run of the third form, of no client more operations and leaves are pending than may be.
use Rattle.std.specs.Prelude.{◌≡◌, ℕ, Bool, true, nat_le, List, []}
use Rattle.std.specs.List.{list_all}
use Rattle.st_base.specs.declared.config.Config.{Config}
use Rattle.st_base.specs.declared.ids.ClientId.{ClientId}
use Rattle.st_rules.specs.World.{all_clients}
use Rattle.st_third.specs.declared.event.ThirdEvent.{ThirdEvent}
use Rattle.st_third.specs.declared.limits.Limits.{Limits}
use Rattle.st_third.specs.Limits.{IsHead}
use Rattle.st_third.specs.Promises.{ThirdPromise, Throughout, pending}
use Rattle.st_third.specs.Steps.{steps, third_traced}
use Rattle.st_third.specs.World.{ThirdWorld, third_world}

-- of a client
abbrev pub has_few_pending : ThirdWorld → ClientId → Bool
has_few_pending w c = nat_le (pending w c) w.limits.operations

-- of each client, after an event
abbrev pub PendingAreFew : ThirdPromise
PendingAreFew past x = list_all (has_few_pending x.after.third) (all_clients x.after.third.world) ≡ true

-- In every run of the third form
abbrev pub EveryClientHasFewPending : Type 0
EveryClientHasFewPending =
    (k : Config) (m : Limits) (clients servers disks blocks : ℕ) (es : List ThirdEvent) → IsHead k m clients servers disks blocks 3 →
    Throughout PendingAreFew [] (steps es (third_traced (third_world k m clients servers disks blocks 3)))
