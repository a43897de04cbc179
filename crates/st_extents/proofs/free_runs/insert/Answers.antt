use Rattle.std.proofs.Common.{◌≡◌, ◌+◌, ◌≤◌, arith, subst, sym}
use Rattle.std.specs.Prelude.{Err, Ok, OnErr, OnOk, Result}
use Rattle.std.specs.List.{insert}
use Rattle.st_extents.specs.FreeRuns.{IsGivenTo}
use Rattle.st_extents.proofs.FreeRuns.{given_alone}
use Rattle.st_extents.proofs.free_runs.insert.Goals as goal

-- if an error is ruled out
ok_by : {T E : Type 0} (r : Result T E) (P Q : Type 0) → OnOk r P → OnErr r Q → (Q → ⊥) → P
ok_by (Ok x) P Q a b n = a
ok_by (Err e) P Q a b n = absurd (n b)

pub returns-clause-given : goal.returns-clause-given
returns-clause-given c =
    let rs = c.args.runs.now.items in
    subst (IsGivenTo c.args.place rs)
    (sym (ok_by c.insert-done.result (c.insert-done.new.self.items ≡ insert rs c.args.index (record { start = c.args.place; end = c.args.place + 1 })) (c.args.runs.now.cap ≤ c.args.runs.now.len) c.insert-done.ensures.items c.insert-done.ensures.full (λ l. omega (arith, l, c.requires.space))))
    (given_alone rs c.args.index c.args.place c.requires.gap c.requires.above c.requires.below)
