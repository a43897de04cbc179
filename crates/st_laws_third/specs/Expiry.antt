-- In every run of the third form, a lease that is over leaves nothing at its client.
use Rattle.std.specs.Prelude.{◌≡◌, ℕ, Bool, true, ◌||◌, not, List, []}
use Rattle.std.specs.List.{list_all}
use Rattle.st_base.specs.declared.config.Config.{Config}
use Rattle.st_base.specs.declared.ids.ClientId.{ClientId}
use Rattle.st_base.specs.declared.ids.ServerId.{ServerId}
use Rattle.st_rules.specs.Events.{present_life}
use Rattle.st_rules.specs.History.{association_of}
use Rattle.st_rules.specs.Safety.{is_emptied}
use Rattle.st_rules.specs.World.{all_clients, all_servers}
use Rattle.st_third.specs.declared.event.ThirdEvent.{ThirdEvent}
use Rattle.st_third.specs.declared.limits.Limits.{Limits}
use Rattle.st_third.specs.Promises.{ThirdPromise, Throughout, steps_expired}
use Rattle.st_third.specs.Steps.{ThirdStep, steps, third_traced}
use Rattle.st_third.specs.World.{third_world}

-- A client that takes a step while its lease at a server is over is in its next life there after it, and has neither a session
-- nor a page, a known place or a command of that server.
abbrev pub is_left_bare : ThirdStep → ClientId → ServerId → Bool
is_left_bare x c s = not (steps_expired x c s) || is_emptied (present_life x.before.third.world c s) (association_of x.after.third.world c s)

-- at each server
abbrev pub all_left_bare : ThirdStep → ClientId → Bool
all_left_bare x c = list_all (is_left_bare x c) (all_servers x.before.third.world)

-- each client
abbrev pub ExpiredLeasesLeaveNothing : ThirdPromise
ExpiredLeasesLeaveNothing past x = list_all (all_left_bare x) (all_clients x.before.third.world) ≡ true

-- In every run of the third form
abbrev pub EveryExpiredLeaseLeavesNothing : Type 0
EveryExpiredLeaseLeavesNothing =
    (k : Config) (m : Limits) (clients servers disks blocks : ℕ) (es : List ThirdEvent) →
    Throughout ExpiredLeasesLeaveNothing [] (steps es (third_traced (third_world k m clients servers disks blocks 3)))
