use Rattle.std.proofs.Common.{◌≡◌, ◌++◌, take}
use Rattle.std.specs.List.{AllByRecursion}
use Rattle.st_snapshot.specs.Snapshots.{EntryFits, entry, rows}
use Rattle.st_snapshot.proofs.entry.put_entries.Given as goal

abbrev pub invariant-loop-place : goal.invariant-loop-place
invariant-loop-place l = record {
  bytes : l.out.items ≡ l.fn.out.items ++ rows entry (take l.place l.entries);
  fits : AllByRecursion EntryFits (take l.place l.entries);
}
