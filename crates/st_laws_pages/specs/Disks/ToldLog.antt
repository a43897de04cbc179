-- The report tells the log: the law, at each step and over whole runs.
use Rattle.std.specs.Prelude.{ℕ, List, []}
use Rattle.st_base.specs.declared.config.Config.{Config}
use Rattle.st_messages.specs.declared.event.Event.{Event}
use Rattle.st_rules.specs.Safety.{Throughout, TheReportTellsTheLog}
use Rattle.st_laws_pages.specs.Disks.Runs.{steps_of}

-- In every run the lines of each event tell the log after it, with no premise.
abbrev pub RunsTellTheLog : Type 0
RunsTellTheLog =
    (k : Config) (clients servers disks blocks form : ℕ) (es : List Event) →
    Throughout TheReportTellsTheLog [] (steps_of k clients servers disks blocks form es)
