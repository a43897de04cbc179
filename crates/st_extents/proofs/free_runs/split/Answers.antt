use Rattle.std.proofs.Common.{◌≡◌, ◌+◌, ◌<◌, ◌≤◌, ap, arith, length, set, subst, sym, ◌∙◌}
use Rattle.std.specs.Prelude.{Err, Ok, OnErr, OnOk, Result}
use Rattle.std.specs.List.{insert}
use Rattle.st_extents.specs.declared.free_runs.FreeRun.{FreeRun}
use Rattle.st_extents.specs.FreeRuns.{IsTakenFrom}
use Rattle.st_extents.proofs.FreeRuns.{cut_middle, inserted_within}
use Rattle.st_extents.proofs.free_runs.split.Goals as goal

-- where an error is ruled out
ok_by : {T E : Type 0} (r : Result T E) (P Q : Type 0) → OnOk r P → OnErr r Q → (Q → ⊥) → P
ok_by (Ok x) P Q a b n = a
ok_by (Err e) P Q a b n = absurd (n b)

pub write-requires : goal.write-requires
write-requires c =
    let rs = c.args.runs.now.items in
    let b : FreeRun = record { start = c.args.place + 1; end = c.args.whole.end } in
    subst (λ xs. c.args.index + 1 < length xs)
    (sym (ok_by c.insert-done.result (c.insert-done.new.self.items ≡ insert rs c.args.index b) (c.args.runs.now.cap ≤ c.args.runs.now.len)
    c.insert-done.ensures.items c.insert-done.ensures.full (λ l. omega (arith, l, c.requires.space))))
    (inserted_within rs c.args.index b c.requires.within)

pub returns-clause-taken : goal.returns-clause-taken
returns-clause-taken c =
    let rs = c.args.runs.now.items in
    let x = c.args.whole in
    let b : FreeRun = record { start = c.args.place + 1; end = x.end } in
    let a : FreeRun = record { start = x.start; end = c.args.place } in
    let is = ok_by c.insert-done.result (c.insert-done.new.self.items ≡ insert rs c.args.index b) (c.args.runs.now.cap ≤ c.args.runs.now.len)
    c.insert-done.ensures.items c.insert-done.ensures.full (λ l. omega (arith, l, c.requires.space)) in
    subst (IsTakenFrom c.args.place rs) (sym (c.write.ensures.items ∙ ap (λ xs. set xs (c.args.index + 1) a) is))
    (cut_middle rs c.args.index c.args.place x.start x.end x c.requires.within (ap (λ (r : FreeRun). r.start) (c.requires.there x))
    (ap (λ (r : FreeRun). r.end) (c.requires.there x)) c.requires.below c.requires.above)
