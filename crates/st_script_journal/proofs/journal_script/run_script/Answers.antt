use Rattle.st_script_journal.specs.JournalScripts.{journal_rules}
use Rattle.st_script.specs.Scripts.{script_from}
use Rattle.st_script_journal.proofs.JournalEnds.{fault_leaves, store_causes, store_leaves}
use Rattle.st_script_journal.proofs.journal_script.run_script.Goals as goal

pub returns-in-Ok-clause-report : goal.returns-in-Ok-clause-report
returns-in-Ok-clause-report g c = λ s h.
    store_leaves c.run.new.script.running (g.O.Sink.written c.args.out.now) (g.O.Sink.written c.run.new.out) c.store_of.result (g.I.Source.left c.args.input.now)
    (λ bytes. script_from journal_rules s bytes) c.store_of.ensures.store c.store_of.ensures.there (c.in-Ok.ensures.report s h)

pub returns-in-Ok-clause-causes : goal.returns-in-Ok-clause-causes
returns-in-Ok-clause-causes g c =
    store_causes c.store_of.result (g.I.Source.faults c.args.input.now) (g.I.Source.faults c.run.new.input) (g.O.Sink.faults c.args.out.now) (g.O.Sink.faults c.run.new.out)
    c.store_of.ensures.fault c.in-Ok.ensures.causes

pub returns-in-Err-clause-report : goal.returns-in-Err-clause-report
returns-in-Err-clause-report g c = λ s h.
    fault_leaves c.run.new.script.running (g.O.Sink.written c.args.out.now) (g.O.Sink.written c.run.new.out) c.in-Err.fault (g.I.Source.left c.args.input.now)
    (λ bytes. script_from journal_rules s bytes) (c.in-Err.ensures.report s h)
