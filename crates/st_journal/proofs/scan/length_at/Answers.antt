use Rattle.std.proofs.Common.{sym, ◌∙◌}
use Rattle.st_journal.proofs.scan.length_at.Goals as goal

pub returns-clause-number : goal.returns-clause-number
returns-clause-number g c = sym c.in_ok-read_bytes.ensures.bytes ∙ sym c.number_of.ensures.number
