use Rattle.std.proofs.Common.{◌≡◌, ◌≤◌, ◌++◌, length}
use Rattle.st_namespace.proofs.Rows.{rows_left}
use Rattle.st_namespace.proofs.listing.rows_from.Given as goal

abbrev pub invariant-loop-place : goal.invariant-loop-place
invariant-loop-place l = record {
  rows : l.rows.items ++ rows_left l.dir l.sorted l.place ≡ rows_left l.dir l.sorted l.start;
  few : length l.rows.items ≤ 256;
}
