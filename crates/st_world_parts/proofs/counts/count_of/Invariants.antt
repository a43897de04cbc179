use Rattle.std.proofs.Common.{◌≡◌, ◌≤◌, ◌+◌, drop, length}
use Rattle.std.specs.Prelude.{filter}
use Rattle.st_world_parts.specs.Sorts.{picks}
use Rattle.st_world_parts.proofs.counts.count_of.Given as goal

abbrev pub invariant-loop-i : goal.invariant-loop-i
invariant-loop-i l = (l.found ≤ l.i) × (l.found + length (filter (picks l.sort) (drop l.i l.log)) ≡ length (filter (picks l.sort) l.log))
