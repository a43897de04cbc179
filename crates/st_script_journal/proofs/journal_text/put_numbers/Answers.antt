use Rattle.st_script_journal.proofs.JournalTexts.{six}
use Rattle.st_script_journal.proofs.journal_text.put_numbers.Goals as goal

pub returns : goal.returns
returns c = six c.put_text.result _ _ _ _ _ _ _ _ _ _ _ _ _ c.in_ok-put_count.ensures c.in_ok-put_count-2.ensures c.in_ok-put_count-3.ensures c.in_ok-put_count-4.ensures
    c.in_ok-put_count-5.ensures c.put_text.ensures
