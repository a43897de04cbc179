use Rattle.st_store.proofs.StoreBytes.{length-zeros}
use Rattle.st_journal.proofs.Stops.{zeros_journal}
use Rattle.st_journal.proofs.laws.zeros_are_an_empty_journal.Goals as goal

pub returns-clause-journal : goal.returns-clause-journal
returns-clause-journal c = zeros_journal

pub returns-clause-length : goal.returns-clause-length
returns-clause-length c = length-zeros
