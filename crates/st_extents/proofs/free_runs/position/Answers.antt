use Rattle.std.proofs.Common.{◌≡◌, ◌+◌, ◌-◌, ◌/◌, ap, arith, get_or}
use Rattle.st_extents.specs.declared.free_runs.FreeRun.{FreeRun}
use Rattle.st_extents.proofs.FreeRuns.{first_at}
use Rattle.st_extents.proofs.free_runs.position.Goals as goal

pub halves-preserved-then-place-index : goal.halves-preserved-then-place-index
halves-preserved-then-place-index c = record {
  order = omega (arith, c.halves-test.true);
  within = c.halves.invariant.within;
  behind = λ n l.
      let middle = c.halves.low + (c.halves.high - c.halves.low) / 2 in
      let x = c.index.result.now in
      let s : x.start ≡ (get_or c.args.runs.now.items middle x).start = ap (λ (r : FreeRun). r.start) c.index.ensures in
      let e = first_at n c.args.runs.now.items middle x (omega (arith, c.halves-test.true, c.halves.invariant.within)) in
      omega (arith, e, s, c.if-place-index.true);
  begun = c.halves.invariant.begun;
}
