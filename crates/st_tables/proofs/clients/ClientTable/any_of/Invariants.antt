use Rattle.std.proofs.Common.{◌≡◌, drop}
use Rattle.std.specs.Prelude.{◌||◌}
use Rattle.std.specs.List.{list_any}
use Rattle.st_tables.proofs.Indexes.{met}
use Rattle.st_tables.proofs.clients.ClientTable.any_of.Given as goal

abbrev pub invariant-loop-second : goal.invariant-loop-second
invariant-loop-second g l =
    l.found || list_any (met g.V.Row.key_of l.first (g.T.Test.passes l.test) l.self-inside.table) (drop l.second-index l.seconds)
    ≡ list_any (met g.V.Row.key_of l.first (g.T.Test.passes l.test) l.self-inside.table) l.seconds
