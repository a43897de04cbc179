-- Short words for what no short run leads to: checks of an event in such a world; and what opens the texts of a report.
use Rattle.std.specs.Prelude.{ℕ, List, ⊤}
use Rattle.std.specs.Fmt.{digits}
use Rattle.st_base.specs.declared.disk.Command.TheVariants as commands
use Rattle.st_messages.specs.declared.event.Event.{Event}
use Rattle.st_rules.specs.Disks as disks
use Rattle.st_rules.specs.Report.{report_open}
use Rattle.st_rules.specs.Run.{run}
use Rattle.st_rules.specs.World.{World}
use Rattle.st_rows.specs.Words.{at}
use Rattle.st_rows_world.specs.WorldWords.{world_of, world_words_open}

-- a world whose messages have this number of bytes
abbrev pub with_bytes : ℕ → World → World
with_bytes n w = record w { net = record w.net { bytes = n } }

-- a world of two clients and a server whose messages have this number of bytes
abbrev pub filled_to : ℕ → World
filled_to n = with_bytes n (world_of 2 1 1 8)

-- a world with a command that was submitted
abbrev pub with_command : World → World
with_command w = record w { disks = disks.submit w.disks (commands.Read (at 1 0)) }

-- the world of two clients and a server after some events
abbrev pub after : List Event → World
after es = (run es (world_of 2 1 1 8)).world

-- opens the words of whole runs and all texts
unfoldable pub texts_open : ⊤
unfolding world_words_open report_open digits
texts_open = tt
