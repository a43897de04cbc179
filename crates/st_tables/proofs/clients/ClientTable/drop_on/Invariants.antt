use Rattle.std.proofs.Common.{◌≡◌, filter}
use Rattle.std.specs.Prelude.{not}
use Rattle.st_tables.proofs.ClientRows.{is_dropped}
use Rattle.st_tables.proofs.clients.ClientTable.drop_on.Given as goal

abbrev pub invariant-loop-i : goal.invariant-loop-i
invariant-loop-i g l = l.self ≡ filter (λ v. not (is_dropped g.V.Row.key_of l.second l.i v)) l.fn.self
