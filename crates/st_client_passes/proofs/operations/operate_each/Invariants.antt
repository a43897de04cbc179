use Rattle.std.proofs.Common.{◌≡◌, ◌-◌, [], length}
use Rattle.st_client_passes.proofs.Remaining.{remaining}
use Rattle.st_client_passes.proofs.operations.operate_each.Given as goal

abbrev pub invariant-loop-place : goal.invariant-loop-place
invariant-loop-place l = record {
  none : l.t.operations ≡ [];
  rest : remaining l.sent l.now l.place l.all l.t ≡ remaining l.sent l.now 0 l.fn.all l.fn.t;
}

abbrev pub decreases-loop-place : goal.decreases-loop-place
decreases-loop-place l = length l.all - l.place
