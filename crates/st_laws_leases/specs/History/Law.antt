-- The history is the world's, over whole runs.
use Rattle.std.specs.Prelude.{ℕ, List, []}
use Rattle.st_base.specs.declared.config.Config.{Config}
use Rattle.st_messages.specs.declared.event.Event.{Event}
use Rattle.st_rules.specs.World.{fresh_world}
use Rattle.st_rules.specs.History.{traced}
use Rattle.st_rules.specs.Safety.{Throughout, TheHistoryIsTheWorlds, IsHead, steps}
use Rattle.st_laws_leases.specs.History.Replies.{DatesAreOfReplies}

-- In every run from the world of a head the history that promises speak of is the world's.
abbrev pub HistoriesAreTheWorlds : Type 0
HistoriesAreTheWorlds =
    (k : Config) (clients servers disks blocks form : ℕ) (es : List Event) → IsHead k clients servers disks blocks form →
    Throughout TheHistoryIsTheWorlds [] (steps es (traced (fresh_world k clients servers disks blocks form)))

-- In every run each date of the history is of a reply, with no premise.
abbrev pub RunsDateFromReplies : Type 0
RunsDateFromReplies =
    (k : Config) (clients servers disks blocks form : ℕ) (es : List Event) →
    Throughout DatesAreOfReplies [] (steps es (traced (fresh_world k clients servers disks blocks form)))
