use Rattle.std.proofs.Common.{◌≡◌, take}
use Rattle.std.specs.List.{flat_map}
use Rattle.st_extents.specs.Runs.{pages_of}
use Rattle.st_extents.proofs.runs.rows_of.Given as goal

abbrev pub invariant-loop-place : goal.invariant-loop-place
invariant-loop-place l = l.rows.items ≡ flat_map pages_of (take l.place l.order)
