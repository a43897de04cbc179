use Rattle.std.proofs.Common.{subst, sym}
use Rattle.st_extents.specs.declared.free_runs.FreeRun.{FreeRun}
use Rattle.st_extents.specs.FreeRuns.{IsTakenFrom}
use Rattle.st_extents.proofs.FreeRuns.{cut_whole}
use Rattle.st_extents.proofs.free_runs.take_whole.Goals as goal

abbrev none : FreeRun
none = record { start = 0; end = 0 }

pub returns-clause-taken : goal.returns-clause-taken
returns-clause-taken c =
    let rs = c.args.runs.now.items in
    subst (IsTakenFrom c.args.place rs) (sym c.in-Some.ensures.items)
    (cut_whole rs c.args.index c.args.place none c.requires.within (c.requires.start none) (c.requires.end none))
