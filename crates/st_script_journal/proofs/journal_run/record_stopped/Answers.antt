use Rattle.st_journal.specs.Parts.{stable_of}
use Rattle.st_journal.specs.Stops.{after_stop}
use Rattle.st_script_journal.specs.JournalRuns.{stable_after}
use Rattle.st_script_journal.proofs.JournalChanges.{leads_stopped, stopped_answer}
use Rattle.st_script_journal.proofs.JournalRuns.{known_stopped}
use Rattle.st_script_journal.proofs.journal_run.record_stopped.Goals as goal

pub reopen-requires : goal.reopen-requires
reopen-requires c =
    let a = c.requires.applies in
    let p = c.args.stop in
    let t = stable_of c.args.stable in
    let has = c.in_ok-store.ensures a.0 t a.1 a.2 a.3 in (
      after_stop p.call p.byte c.args.change.now a.0,
      stable_after p t a.1,
      has,
      leads_stopped p a.0 c.args.change.now t a.1 a.2.leads a.3,
      known_stopped c.args.journal c.in_ok-store.store a.0 t p c.args.change.now c.gate.result c.changes.result a.2 c.gate.ensures c.changes.ensures has,
    )

pub returns : goal.returns
returns c = λ changes next o e.
    let p = c.args.stop in
    let t = stable_of c.args.stable in
    let started = c.in_ok-running.ensures (after_stop p.call p.byte c.args.change.now changes) (stable_after p t next)
    (c.in_ok-store.ensures changes t next o e)
    (leads_stopped p changes c.args.change.now t next o.leads e) in (
      started,
      stopped_answer c.args.journal p changes c.args.change.now t (stable_after p t next) c.changes.result c.has_more-kept.result c.in_ok-running.running o
          c.changes.ensures
          c.has_more-kept.ensures started,
    )
