-- The laws of the pages over whole runs, from the world of any head.
use Rattle.std.specs.Prelude.{ℕ, List, []}
use Rattle.st_base.specs.declared.config.Config.{Config}
use Rattle.st_messages.specs.declared.event.Event.{Event}
use Rattle.st_rules.specs.World.{fresh_world}
use Rattle.st_rules.specs.History.{traced}
use Rattle.st_rules.specs.Safety.{Promise, Throughout, Step, steps}
use Rattle.st_laws_pages.specs.Disks.World.{PagesHold}
use Rattle.st_laws_pages.specs.Disks.Obligations.{FatesHold}

-- the pages hold after a step
abbrev pub PagesAfter : Promise
PagesAfter past x = PagesHold x.after.world

-- lives and fates hold after a step
abbrev pub FatesAfter : Promise
FatesAfter past x = FatesHold x.after.world

-- the steps of a run from the world of a head
abbrev pub steps_of : Config → ℕ → ℕ → ℕ → ℕ → ℕ → List Event → List Step
steps_of k clients servers disks blocks form es = steps es (traced (fresh_world k clients servers disks blocks form))

-- In every run lives and fates hold.
abbrev pub RunsKeepFates : Type 0
RunsKeepFates =
    (k : Config) (clients servers disks blocks form : ℕ) (es : List Event) → Throughout FatesAfter [] (steps_of k clients servers disks blocks form es)
