-- What a client has left of a server if it takes a step while its lease there is over.
use Rattle.std.specs.Prelude.{◌≡◌, ℕ, Bool, true, ◌||◌, not, List, []}
use Rattle.std.specs.List.{list_all}
use Rattle.st_base.specs.declared.config.Config.{Config}
use Rattle.st_base.specs.declared.ids.ClientId.{ClientId}
use Rattle.st_base.specs.declared.ids.ServerId.{ServerId}
use Rattle.st_messages.specs.declared.event.Event.{Event}
use Rattle.st_rules.specs.World.{all_clients, all_servers, fresh_world}
use Rattle.st_rules.specs.Events.{present_life}
use Rattle.st_rules.specs.History.{association_of, traced}
use Rattle.st_rules.specs.Safety.{Step, Promise, Throughout, steps_expired, is_emptied, steps}

-- if a client takes a step while its lease at a server is over, its association there is emptied and in the next life
abbrev pub is_left_empty : Step → ClientId → ServerId → Bool
is_left_empty x c s = not (steps_expired x c s) || is_emptied (present_life x.before.world c s) (association_of x.after.world c s)

-- at each server
abbrev pub all_left_empty : Step → ClientId → Bool
all_left_empty x c = list_all (is_left_empty x c) (all_servers x.before.world)

-- An expired lease empties its client's association.
abbrev pub ExpiredLeasesEmptyAssociations : Promise
ExpiredLeasesEmptyAssociations past x = list_all (all_left_empty x) (all_clients x.before.world) ≡ true

-- In every run from the world of a head an expired lease empties its client's association, with no premise.
abbrev pub RunsEmptyAssociations : Type 0
RunsEmptyAssociations =
    (k : Config) (clients servers disks blocks form : ℕ) (es : List Event) →
    Throughout ExpiredLeasesEmptyAssociations [] (steps es (traced (fresh_world k clients servers disks blocks form)))
