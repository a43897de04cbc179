-- The law on the dates of leases, over whole runs.
use Rattle.std.specs.Prelude.{◌≡◌, ℕ, ◌+◌, true, List, []}
use Rattle.std.specs.List.{list_all}
use Rattle.st_base.specs.declared.config.Config.{Config}
use Rattle.st_messages.specs.declared.event.Event.{Event}
use Rattle.st_rules.specs.World.{fresh_world}
use Rattle.st_rules.specs.History.{traced}
use Rattle.st_base.specs.declared.ids.ClientId.{ClientId}
use Rattle.st_rules.specs.Safety.{Promise, Throughout, LeasesAreDatedFromRequests, NoConflictIsSent, IsHead, is_event, steps, takes_step}

-- In every run from the world of a head, over every list of events in their ranges, leases are dated from requests at every step.
abbrev pub LeasesAreDated : Type 0
LeasesAreDated =
    (k : Config) (clients servers disks blocks form : ℕ) (es : List Event)
    → IsHead k clients servers disks blocks form
    → list_all (is_event (clients + servers)) es ≡ true
    → Throughout LeasesAreDatedFromRequests [] (steps es (traced (fresh_world k clients servers disks blocks form)))

-- If a client takes a step, no refusal because of a conflict is sent.
abbrev pub ClientsSendNoConflict : Promise
ClientsSendNoConflict past x = (c : ClientId) → takes_step x.before.world c x.event ≡ true → NoConflictIsSent past x

-- In every run from the world of a head no client sends such a refusal.
abbrev pub RunsSendNoConflict : Type 0
RunsSendNoConflict =
    (k : Config) (clients servers disks blocks form : ℕ) (es : List Event)
    → IsHead k clients servers disks blocks form
    → Throughout ClientsSendNoConflict [] (steps es (traced (fresh_world k clients servers disks blocks form)))
