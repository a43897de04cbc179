use Rattle.st_snapshot.specs.Reading.{AreRead}
use Rattle.st_snapshot.specs.Snapshots.{EntryFits, entry}
use Rattle.st_snapshot.proofs.entry.read_entries.Given as goal

abbrev pub invariant-loop-place : goal.invariant-loop-place
invariant-loop-place l = AreRead entry EntryFits l.bytes l._place l.entries.items l.rest
