use Rattle.std.proofs.Common.{◌≡◌, ◌++◌, length}
use Rattle.std.specs.Prelude.{filter, not}
use Rattle.st_operations.proofs.operations.Operations.split.Given as goal

abbrev pub invariant-loop-operation : goal.invariant-loop-operation
invariant-loop-operation g l = record {
  left : l.self ++ filter (λ o. not (g.T.Test.passes l.test o)) l.rest ≡ filter (λ o. not (g.T.Test.passes l.test o)) l.fn.self;
  picked : l.picked ++ filter (g.T.Test.passes l.test) l.rest ≡ filter (g.T.Test.passes l.test) l.fn.self;
}

abbrev pub decreases-loop-operation : goal.decreases-loop-operation
decreases-loop-operation g l = length l.rest
