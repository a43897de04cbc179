use Rattle.std.proofs.Common.{arith, ap, nat_eq, sym, ◌∙◌}
use Rattle.st_extents.specs.declared.free_runs.FreeRun.{FreeRun}
use Rattle.st_extents.proofs.FreeRuns.{first_front}
use Rattle.st_extents.proofs.free_runs.begins_at.Goals as goal

pub returns-else-index-eq0 : goal.returns-else-index-eq0
returns-else-index-eq0 c =
    ap (λ n. nat_eq n c.args.place)
    (ap (λ (r : FreeRun). r.start) c.index.ensures ∙ sym (first_front 0 c.args.runs.now.items c.args.index c.index.result.now (omega (arith, c.if-index-eq0.false)) c.requires.within))
