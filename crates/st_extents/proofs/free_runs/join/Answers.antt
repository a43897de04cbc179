use Rattle.std.proofs.Common.{◌≡◌, ◌+◌, ◌-◌, ap, arith, set, subst, sym, ◌∙◌}
use Rattle.std.proofs.lemmas.List.{get_or_read}
use Rattle.st_extents.specs.declared.free_runs.FreeRun.{FreeRun}
use Rattle.st_extents.specs.FreeRuns.{IsGivenTo}
use Rattle.st_extents.proofs.FreeRuns.{given_join_at}
use Rattle.st_extents.proofs.free_runs.join.Goals as goal

pub returns-clause-given : goal.returns-clause-given
returns-clause-given c =
    let rs = c.args.runs.now.items in
    let k = c.args.index - 1 in
    let x = c.index.result.now in
    let y = c.in-Some.low in
    let e : c.args.index ≡ k + 1 = omega (arith, c.requires.some) in
    subst (IsGivenTo c.args.place rs) (sym (c.write.ensures.items ∙ ap (λ xs. set xs k (record { start = y.start; end = x.end })) c.in-Some.ensures.items))
    (given_join_at rs c.args.index k c.args.place y.start x.end x e c.requires.within
    (ap (λ (r : FreeRun). r.start) (sym (get_or_read rs c.args.index y c.requires.within c.in-Some.ensures.value x)))
    (ap (λ (r : FreeRun). r.end) (sym c.index.ensures)) c.requires.above c.requires.below)
