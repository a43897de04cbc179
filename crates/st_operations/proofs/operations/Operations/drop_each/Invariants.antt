use Rattle.std.proofs.Common.{◌≡◌, ◌++◌, filter, length, take, drop, not}
use Rattle.st_operations.proofs.operations.Operations.drop_each.Given as goal

abbrev pub invariant-loop-i : goal.invariant-loop-i
invariant-loop-i g l = record {
  left : l.self ≡ filter (λ o. not (g.T.Test.passes l.fn.test o)) (take l._i l.fn.self) ++ drop l._i l.fn.self;
  place : l.place ≡ length (filter (λ o. not (g.T.Test.passes l.fn.test o)) (take l._i l.fn.self));
}
