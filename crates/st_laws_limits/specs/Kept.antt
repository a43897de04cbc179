-- In every run of the third form limits are kept.
use Rattle.std.specs.Prelude.{◌≡◌, ℕ, Bool, true, List, []}
use Rattle.std.specs.List.{list_all}
use Rattle.st_base.specs.declared.config.Config.{Config}
use Rattle.st_base.specs.declared.ids.ClientId.{ClientId}
use Rattle.st_rules.specs.World.{all_clients, all_servers}
use Rattle.st_third.specs.declared.event.ThirdEvent.{ThirdEvent}
use Rattle.st_third.specs.declared.limits.Limits.{Limits}
use Rattle.st_third.specs.Limits.{IsHead}
use Rattle.st_third.specs.Promises.{LimitsAreKept, ThirdPromise, Throughout, has_few_files}
use Rattle.st_third.specs.Steps.{steps, third_traced}
use Rattle.st_third.specs.World.{ThirdWorld, third_world}

-- at each server a client has rows and waits of no more files than may be
abbrev pub has_few_everywhere : ThirdWorld → ClientId → Bool
has_few_everywhere w c = list_all (has_few_files w c) (all_servers w.world)

-- each client, after an event
abbrev pub FilesAreFew : ThirdPromise
FilesAreFew past x = list_all (has_few_everywhere x.after.third) (all_clients x.after.third.world) ≡ true

-- In every run of the third form
abbrev pub EveryServerHasFewFiles : Type 0
EveryServerHasFewFiles =
    (k : Config) (m : Limits) (clients servers disks blocks : ℕ) (es : List ThirdEvent) → IsHead k m clients servers disks blocks 3 →
    Throughout FilesAreFew [] (steps es (third_traced (third_world k m clients servers disks blocks 3)))

-- All limits are kept in every run of the third form.
abbrev pub EveryRunKeepsLimits : Type 0
EveryRunKeepsLimits =
    (k : Config) (m : Limits) (clients servers disks blocks : ℕ) (es : List ThirdEvent) → IsHead k m clients servers disks blocks 3 →
    Throughout LimitsAreKept [] (steps es (third_traced (third_world k m clients servers disks blocks 3)))
