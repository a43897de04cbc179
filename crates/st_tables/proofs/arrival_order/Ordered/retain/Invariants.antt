use Rattle.std.proofs.Common.{◌≡◌, ◌++◌, filter, length, take, drop}
use Rattle.st_tables.proofs.arrival_order.Ordered.retain.Given as goal

abbrev pub invariant-loop-i : goal.invariant-loop-i
invariant-loop-i g l = record {
  left : l.self ≡ filter (g.T.Test.passes l.fn.test) (take l._i l.fn.self) ++ drop l._i l.fn.self;
  place : l.place ≡ length (filter (g.T.Test.passes l.fn.test) (take l._i l.fn.self));
}
