use Rattle.std.proofs.Common.{◌≡◌, ◌+◌, ◌-◌, ap, arith, length, subst, sym, take, ◌∙◌}
use Rattle.st_extents.specs.declared.free_runs.FreeRun.{FreeRun}
use Rattle.st_extents.specs.FreeRuns.{IsTakenFrom}
use Rattle.st_extents.proofs.FreeRuns.{first_last, taken_place, taken_whole}
use Rattle.st_extents.proofs.free_runs.take_first.Goals as goal

pub returns-then-end-place-clause-taken : goal.returns-then-end-place-clause-taken
returns-then-end-place-clause-taken c =
    let rs = c.args.runs.now.items in
    let i = c.len-last.result - 1 in
    let x = c.index.result.now in
    let e : i + 1 ≡ length rs = omega (arith, c.len-last.ensures, c.args.runs.now.ok.0, c.requires.some) in
    subst (IsTakenFrom c.args.place rs) (sym (c.pop_back-gone.ensures.rest ∙ ap (λ n. take (n - 1) rs) (sym c.len-last.ensures)))
    (taken_whole rs i c.args.place x e (sym (first_last 0 rs i x e) ∙ c.requires.first) (ap (λ (r : FreeRun). r.end) (sym c.index.ensures) ∙ c.if-end-place.true))

pub returns-else-end-place-clause-taken : goal.returns-else-end-place-clause-taken
returns-else-end-place-clause-taken c =
    let rs = c.args.runs.now.items in
    let i = c.len-last.result - 1 in
    let x = c.index.result.now in
    let e : i + 1 ≡ length rs = omega (arith, c.len-last.ensures, c.args.runs.now.ok.0, c.requires.some) in
    subst (IsTakenFrom c.args.place rs) (sym c.write.ensures.items)
    (taken_place rs i c.args.place x.end x e (sym (first_last 0 rs i x e) ∙ c.requires.first) (ap (λ (r : FreeRun). r.end) (sym c.index.ensures)) c.if-end-place.false)
