use Rattle.st_snapshot.specs.Reading.{AreRead}
use Rattle.st_snapshot.specs.Snapshots.{PageFits, page}
use Rattle.st_snapshot.proofs.page.read_pages.Given as goal

abbrev pub invariant-loop-place : goal.invariant-loop-place
invariant-loop-place l = AreRead page PageFits l.bytes l._place l.pages.items l.rest
