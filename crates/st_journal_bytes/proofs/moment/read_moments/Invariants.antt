use Rattle.st_journal_bytes.proofs.Moments.{AreDatedTo}
use Rattle.std.proofs.Common.{length}
use Rattle.st_journal_bytes.proofs.moment.read_moments.Given as goal

abbrev pub invariant-records : goal.invariant-records
invariant-records l = AreDatedTo l.bytes l.rest l.gate l.fn.first l.last

abbrev pub decreases-records : goal.decreases-records
decreases-records l = length l.rest
