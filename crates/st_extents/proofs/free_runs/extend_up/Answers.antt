use Rattle.std.proofs.Common.{ap, subst, sym}
use Rattle.st_extents.specs.declared.free_runs.FreeRun.{FreeRun}
use Rattle.st_extents.specs.FreeRuns.{IsGivenTo}
use Rattle.st_extents.proofs.FreeRuns.{given_up}
use Rattle.st_extents.proofs.free_runs.extend_up.Goals as goal

pub returns-clause-given : goal.returns-clause-given
returns-clause-given c =
    let rs = c.args.runs.now.items in
    let x = c.index.result.now in
    subst (IsGivenTo c.args.place rs) (sym c.write.ensures.items)
    (given_up rs c.args.index c.args.place x.start x c.requires.within (ap (λ (r : FreeRun). r.start) (sym c.index.ensures)) c.requires.gap c.requires.above c.requires.below)
