use Rattle.st_journal_bytes.proofs.Scans.{IsReadTo}
use Rattle.std.proofs.Common.{length}
use Rattle.st_journal_bytes.proofs.area.read_records.Given as goal

abbrev pub invariant-records : goal.invariant-records
invariant-records l = IsReadTo l.bytes l.rest l.gate l.records

abbrev pub decreases-records : goal.decreases-records
decreases-records l = length l.rest
