use Rattle.st_journal.proofs.Unique.{one_journal, undamaged}
use Rattle.st_journal.proofs.laws.bytes_have_one_journal.Goals as goal

pub returns-clause-one : goal.returns-clause-one
returns-clause-one c = one_journal

pub returns-clause-whole : goal.returns-clause-whole
returns-clause-whole c = undamaged
