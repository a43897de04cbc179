use Rattle.st_script_journal.specs.JournalScripts.{next}
use Rattle.st_script_journal.proofs.journal_script.JournalScriptScript.play.Goals as goal

pub returns-in-Change-clause-stands : goal.returns-in-Change-clause-stands
unfolding next
returns-in-Change-clause-stands c = λ s h. rw c.in-Change.is (c.play_change.ensures.stands s h)

pub returns-in-Stop-clause-stands : goal.returns-in-Stop-clause-stands
unfolding next
returns-in-Stop-clause-stands c = λ s h. rw c.in-Stop.is (c.play_stop.ensures s h)
