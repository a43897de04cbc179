use Rattle.std.proofs.Common.{◌≡◌, drop}
use Rattle.std.specs.Prelude.{◌||◌}
use Rattle.std.specs.List.{list_any}
use Rattle.st_tables.proofs.Indexes.{seen}
use Rattle.st_tables.proofs.clients.ClientTable.any_on.Given as goal

abbrev pub invariant-loop-first : goal.invariant-loop-first
invariant-loop-first g l =
    l.found || list_any (seen g.V.Row.key_of l.second (g.T.Test.passes l.test) l.self-inside.table) (drop l.first-index l.waiting)
    ≡ list_any (seen g.V.Row.key_of l.second (g.T.Test.passes l.test) l.self-inside.table) l.waiting
