-- What is promised about how many messages and commands the run of a generated schedule has.
use Rattle.std.specs.Prelude.{ℕ, ◌≤◌}
use Rattle.std.specs.List.{AllByRecursion}
use Rattle.st_schedule.specs.Grammar.{Fits}
use Rattle.st_schedule.specs.Reader.{MOST_EVENTS}
use Rattle.st_rules.specs.Generator.{generate}
use Rattle.st_generate.specs.Law.{HasFew}

-- Messages and commands have numbers of a line, whatever the length and the seed.
abbrev pub RunsAreFew : Type 0
RunsAreFew = (n seed : ℕ) → n ≤ MOST_EVENTS → HasFew n seed

-- So each event has a line.
abbrev pub EventsHaveLines : Type 0
EventsHaveLines = (n seed : ℕ) → n ≤ MOST_EVENTS → AllByRecursion (Fits 1 5) (generate n seed)
