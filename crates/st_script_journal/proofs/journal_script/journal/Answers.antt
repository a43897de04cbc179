use Rattle.st_script_journal.specs.JournalScripts.{fresh_journal}
use Rattle.st_script_journal.proofs.journal_script.journal.Goals as goal

pub returns-in-Ok-clause-report : goal.returns-in-Ok-clause-report
returns-in-Ok-clause-report g c = c.run_script.ensures.report fresh_journal c.in-Ok.ensures
