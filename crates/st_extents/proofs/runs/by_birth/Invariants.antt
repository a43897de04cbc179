use Rattle.std.proofs.Common.{◌≡◌, ◌++◌}
use Rattle.st_extents.proofs.runs.by_birth.Given as goal

abbrev pub invariant-loop-key : goal.invariant-loop-key
invariant-loop-key l = l.order.items ++ l.key-iterator ≡ l.map.entries
