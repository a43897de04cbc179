use Rattle.std.proofs.Common.{◌≡◌, Ok, Err, sym, ◌∙◌, subst}
use Rattle.std.specs.Prelude.{IfOk}
use Rattle.st_journal.specs.Parts.{Applies, stable_of}
use Rattle.st_journal.specs.Stable.{apply}
use Rattle.st_journal.specs.Stops.{after_stop}
use Rattle.st_rules.specs.Server.{Stable}
use Rattle.st_script_journal.specs.JournalRuns.{IsOpen, Starts, stable_after}
use Rattle.st_script_journal.specs.JournalScripts.{keeps}
use Rattle.st_script_journal.specs.declared.journal_run.JournalAnswer.TheVariants.{Stopped}
use Rattle.st_script_journal.proofs.JournalChanges.{checked_applies, checked_refuses, comes_stopped}
use Rattle.st_script_journal.proofs.journal_run.change_stopped.Goals as goal

pub record_stopped-requires-clause-applies : goal.record_stopped-requires-clause-applies
record_stopped-requires-clause-applies c =
    let o = c.requires.opened in
    let next = checked_applies (apply (stable_of c.args.stable) c.args.change.now) (sym c.in-Ok.is ∙ c.check.ensures) in
    (o.0, next.0, o.1, next.1)

pub refuse-requires : goal.refuse-requires
refuse-requires c =
    let o = c.requires.opened in
    let t = stable_of c.args.stable in
    (o.0, t, c.args.change.now, o.1, checked_refuses t (apply t c.args.change.now) c.in-Err.refusal (sym c.in-Err.is ∙ c.check.ensures))

pub returns-in-Ok : goal.returns-in-Ok
returns-in-Ok c = λ s set is o.
    let t = stable_of c.args.stable in
    let x = c.args.change.now in
    let p = c.args.stop in
    let next = checked_applies (apply t x) (sym c.in-Ok.is ∙ c.check.ensures) in
    let stopped = c.record_stopped.ensures s.changes next.0 (subst (λ (u : Stable). IsOpen c.args.journal s.changes u) is o) next.1 in
    comes_stopped s x next.0 (subst (λ (u : Stable). apply u x ≡ Ok next.0) (sym is) next.1) p set c.record_stopped.result
    (subst (λ (u : Stable). IfOk c.record_stopped.result
    (λ y. Starts (after_stop p.call p.byte x s.changes) (stable_after p u next.0) y.0 × (y.1 ≡ Stopped (keeps p)))) (sym is) stopped)

pub returns-in-Err : goal.returns-in-Err
returns-in-Err c = λ s set is o.
    let t = stable_of c.args.stable in
    let refused = checked_refuses t (apply t c.args.change.now) c.in-Err.refusal (sym c.in-Err.is ∙ c.check.ensures) in
    c.refuse.ensures s c.args.change.now (sym set) o (subst (λ (u : Stable). Applies u t (Err c.in-Err.refusal) (apply u c.args.change.now)) (sym is) refused)
