use Rattle.std.proofs.Common.{ap, subst, sym, ◌∙◌}
use Rattle.st_extents.specs.declared.free_runs.FreeRun.{FreeRun}
use Rattle.st_extents.specs.FreeRuns.{IsTakenFrom}
use Rattle.st_extents.proofs.FreeRuns.{cut_end}
use Rattle.st_extents.proofs.free_runs.take_high.Goals as goal

pub returns-then-whole-place-clause-taken : goal.returns-then-whole-place-clause-taken
returns-then-whole-place-clause-taken c =
    let rs = c.args.runs.now.items in
    let x = c.args.whole in
    subst (IsTakenFrom c.args.place rs) (sym c.write.ensures.items)
    (cut_end rs c.args.index c.args.place x.start x c.requires.within (ap (λ (r : FreeRun). r.start) (c.requires.there x))
    (ap (λ (r : FreeRun). r.end) (c.requires.there x) ∙ c.if-whole-place.true) c.requires.below)
