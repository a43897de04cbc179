use Rattle.st_report.proofs.FilledRuns.{written_behind}
use Rattle.st_report.proofs.runs.put_page.Goals as goal

pub returns-in_ok-put_text-in-Some : goal.returns-in_ok-put_text-in-Some
returns-in_ok-put_text-in-Some c =
    rw c.in-Some.ensures.page (written_behind c.put_run.result _ _ _ c.in-Some.byte c.in_ok-put_text-in-Some.ensures c.put_run.ensures)
