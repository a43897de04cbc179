use Rattle.std.proofs.Common.{None}
use Rattle.st_script_journal.proofs.JournalRuns.{opened_on, store_alone}
use Rattle.st_script_journal.proofs.journal_run.append.Goals as goal

pub returns-clause-opened : goal.returns-clause-opened
returns-clause-opened c = λ changes state next o e.
    opened_on c.append.result c.args.journal.now c.append.new.self changes state next c.args.change.now o e (c.append.ensures.records changes None o.records) c.append.ensures.kept

pub returns-clause-fault : goal.returns-clause-fault
returns-clause-fault c = λ changes state next o e few.
    store_alone c.append.result (λ s. s.plan.faults) c.args.journal.now c.append.new.self changes state next c.args.change.now o e few c.append.ensures.err c.append.ensures.calls
