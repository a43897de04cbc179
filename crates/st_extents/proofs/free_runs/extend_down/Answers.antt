use Rattle.std.proofs.Common.{◌≡◌, ◌+◌, ◌-◌, ap, arith, subst, sym}
use Rattle.st_extents.specs.declared.free_runs.FreeRun.{FreeRun}
use Rattle.st_extents.specs.FreeRuns.{IsGivenTo}
use Rattle.st_extents.proofs.FreeRuns.{given_down_at}
use Rattle.st_extents.proofs.free_runs.extend_down.Goals as goal

pub returns-clause-given : goal.returns-clause-given
returns-clause-given c =
    let rs = c.args.runs.now.items in
    let k = c.args.index - 1 in
    let x = c.index.result.now in
    let e : c.args.index ≡ k + 1 = omega (arith, c.requires.some) in
    subst (IsGivenTo c.args.place rs) (sym c.write.ensures.items)
    (given_down_at rs c.args.index k c.args.place x.end x e c.requires.within (ap (λ (r : FreeRun). r.end) (sym c.index.ensures)) c.requires.gap c.requires.above c.requires.below)
