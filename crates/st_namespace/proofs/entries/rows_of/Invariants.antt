use Rattle.std.proofs.Common.{◌≡◌, take}
use Rattle.st_namespace.specs.StoredEntries.{entries_of}
use Rattle.st_namespace.proofs.entries.rows_of.Given as goal

abbrev pub invariant-loop-place : goal.invariant-loop-place
invariant-loop-place l = l.rows.items ≡ entries_of (take l.place l.inodes) l.sorted
