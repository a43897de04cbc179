use Rattle.std.proofs.Common.{◌≡◌, map, filter}
use Rattle.st_rules.specs.Keys.{client}
use Rattle.st_tables.proofs.RisingKeys.{numbers}
use Rattle.st_tables.proofs.ClientRows.{looked}
use Rattle.st_tables.proofs.clients.ClientTable.clients_on.Given as goal

abbrev pub invariant-loop-i : goal.invariant-loop-i
invariant-loop-i g l = l.found.items ≡ map client (filter (looked g.V.Row.key_of l.second (g.T.Test.passes l.test) l.self) (numbers 1 l.i))
