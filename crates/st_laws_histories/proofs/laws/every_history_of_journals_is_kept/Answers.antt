use Rattle.st_laws_histories.proofs.JournalHistories.{every_journal, nothing_lost}
use Rattle.st_laws_histories.proofs.laws.every_history_of_journals_is_kept.Goals as goal

pub returns-clause-opens : goal.returns-clause-opens
returns-clause-opens c = every_journal

pub returns-clause-kept : goal.returns-clause-kept
returns-clause-kept c = nothing_lost
