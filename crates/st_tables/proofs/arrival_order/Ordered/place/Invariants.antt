use Rattle.std.proofs.Common.{◌≡◌, take, false}
use Rattle.std.specs.List.{list_any}
use Rattle.st_tables.proofs.arrival_order.Ordered.place.Given as goal

abbrev pub invariant-loop-i : goal.invariant-loop-i
invariant-loop-i g l = list_any (g.T.Test.passes l.fn.test) (take l.i l.self) ≡ false
