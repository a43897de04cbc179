-- In every run of the third form, no client has more locks of a server than it may.
use Rattle.std.specs.Prelude.{◌≡◌, ℕ, Bool, true, nat_le, List, []}
use Rattle.std.specs.List.{list_all}
use Rattle.st_base.specs.declared.config.Config.{Config}
use Rattle.st_base.specs.declared.ids.ClientId.{ClientId}
use Rattle.st_rules.specs.ClientLocks as locks
use Rattle.st_rules.specs.ClientState.{Association}
use Rattle.st_rules.specs.World.{all_clients, site_of}
use Rattle.st_third.specs.declared.event.ThirdEvent.{ThirdEvent}
use Rattle.st_third.specs.declared.limits.Limits.{Limits}
use Rattle.st_third.specs.Promises.{ThirdPromise, Throughout, associations_at, cache_at}
use Rattle.st_third.specs.Steps.{steps, third_traced}
use Rattle.st_third.specs.World.{ThirdWorld, third_world}

-- of a server
abbrev pub has_few_locks_at : Limits → Association → Bool
has_few_locks_at m a = nat_le (locks.count (cache_at a.session)) m.locks

-- of each server
abbrev pub has_few_locks : ThirdWorld → ClientId → Bool
has_few_locks w c = list_all (has_few_locks_at w.limits) (associations_at (site_of w.world c))

-- each client, after an event
abbrev pub LocksAreFew : ThirdPromise
LocksAreFew past x = list_all (has_few_locks x.after.third) (all_clients x.after.third.world) ≡ true

-- In every run of the third form
abbrev pub EveryClientHasFewLocks : Type 0
EveryClientHasFewLocks =
    (k : Config) (m : Limits) (clients servers disks blocks : ℕ) (es : List ThirdEvent) →
    Throughout LocksAreFew [] (steps es (third_traced (third_world k m clients servers disks blocks 3)))
