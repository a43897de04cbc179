use Rattle.std.proofs.Common.{◌≡◌, ◌++◌, map}
use Rattle.st_rules.specs.Extents.{numbers}
use Rattle.st_extents.specs.Runs.{extent_in}
use Rattle.st_extents.proofs.runs.push_pages.Given as goal

abbrev pub invariant-loop-place : goal.invariant-loop-place
invariant-loop-place l = l.rows.items ≡ l.fn.rows.items ++ map (λ i. extent_in i (l.key, l.whole)) (numbers 0 l.place)
