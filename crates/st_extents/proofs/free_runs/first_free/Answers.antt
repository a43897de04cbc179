use Rattle.std.proofs.Common.{◌≡◌, ◌+◌, ◌-◌, ap, arith, length, sym, ◌∙◌}
use Rattle.st_extents.specs.declared.free_runs.FreeRun.{FreeRun}
use Rattle.st_extents.proofs.FreeRuns.{first_last}
use Rattle.st_extents.proofs.free_runs.first_free.Goals as goal

pub returns : goal.returns
returns c =
    let i = c.len-count.result - 1 in
    let e : i + 1 ≡ length c.args.runs.now.items = omega (arith, c.if-count-eq0.false, c.len-count.ensures, c.args.runs.now.ok.0) in
    ap (λ (r : FreeRun). r.start) c.index.ensures ∙ sym (first_last c.args.places c.args.runs.now.items i c.index.result.now e)
