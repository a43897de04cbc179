use Rattle.std.proofs.Common.{◌≡◌, ◌++◌, take}
use Rattle.std.specs.List.{AllByRecursion}
use Rattle.st_snapshot.specs.Snapshots.{PageFits, page, rows}
use Rattle.st_snapshot.proofs.page.put_pages.Given as goal

abbrev pub invariant-loop-place : goal.invariant-loop-place
invariant-loop-place l = record {
  bytes : l.out.items ≡ l.fn.out.items ++ rows page (take l.place l.pages);
  fits : AllByRecursion PageFits (take l.place l.pages);
}
