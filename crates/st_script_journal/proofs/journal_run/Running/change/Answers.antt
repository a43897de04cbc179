use Rattle.std.proofs.Common.{sym, ◌∙◌, subst}
use Rattle.std.specs.Prelude.{IfOk}
use Rattle.st_script_journal.specs.JournalRuns.{Comes, Holds}
use Rattle.st_script_journal.proofs.journal_run.Running.change.Goals as goal

pub change_unstopped-requires-clause-opened : goal.change_unstopped-requires-clause-opened
change_unstopped-requires-clause-opened c = c.self.invariant

pub change_stopped-requires-clause-opened : goal.change_stopped-requires-clause-opened
change_stopped-requires-clause-opened c = c.self.invariant

pub returns-in-None : goal.returns-in-None
returns-in-None c = λ s h.
    let k = subst (λ r. Holds s r) (sym c.self.view_is) h in
    subst (λ y. IfOk c.change_unstopped.result (Comes s y)) c.get-change.ensures.change
    (c.change_unstopped.ensures s (sym k.stop ∙ c.in-None.is) (sym k.stable) k.opened)

pub returns-in-Some : goal.returns-in-Some
returns-in-Some c = λ s h.
    let k = subst (λ r. Holds s r) (sym c.self.view_is) h in
    subst (λ y. IfOk c.change_stopped.result (Comes s y)) c.get-change.ensures.change
    (c.change_stopped.ensures s (sym k.stop ∙ c.in-Some.is) (sym k.stable) k.opened)
