use Rattle.std.proofs.Common.{◌≡◌}
use Rattle.st_tables.proofs.Changes.{changed_to}
use Rattle.st_tables.proofs.arrival_order.Ordered.change_each.Given as goal

abbrev pub invariant-loop-i : goal.invariant-loop-i
invariant-loop-i g l = l.self ≡ changed_to (g.C.Change.changed l.fn.change) l.fn.self l.i
