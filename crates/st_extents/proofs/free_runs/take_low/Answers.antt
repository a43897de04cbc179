use Rattle.std.proofs.Common.{ap, subst, sym, ◌∙◌}
use Rattle.st_extents.specs.declared.free_runs.FreeRun.{FreeRun}
use Rattle.st_extents.specs.FreeRuns.{IsTakenFrom}
use Rattle.st_extents.proofs.FreeRuns.{cut_start}
use Rattle.st_extents.proofs.free_runs.take_low.Goals as goal

pub returns-else-whole-place-clause-taken : goal.returns-else-whole-place-clause-taken
returns-else-whole-place-clause-taken c =
    let rs = c.args.runs.now.items in
    let x = c.args.whole in
    subst (IsTakenFrom c.args.place rs) (sym c.write.ensures.items)
    (cut_start rs c.args.index c.args.place x.end x c.requires.within (ap (λ (r : FreeRun). r.start) (c.requires.there x) ∙ c.requires.start)
    (ap (λ (r : FreeRun). r.end) (c.requires.there x)) c.requires.above c.if-whole-place.false)
