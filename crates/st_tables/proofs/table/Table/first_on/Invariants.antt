use Rattle.std.proofs.Common.{◌≡◌}
use Rattle.st_tables.specs.Tables.{place_of}
use Rattle.st_tables.proofs.Places.{least_of}
use Rattle.st_tables.proofs.table.Table.first_on.Given as goal

abbrev pub invariant-loop-i : goal.invariant-loop-i
invariant-loop-i g l = l.least ≡ least_of (place_of l.self-inside.places.entries) l.second l.self-inside.next l.i
