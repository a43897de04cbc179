use Rattle.std.proofs.Common.{◌≡◌, Ok, Err, sym, subst}
use Rattle.st_journal.specs.Parts.{Applies, stable_of}
use Rattle.st_journal.specs.Stable.{apply}
use Rattle.st_rules.specs.Server.{Stable}
use Rattle.st_script_journal.proofs.JournalChanges.{comes_done}
use Rattle.st_script_journal.proofs.JournalRuns.{has_room}
use Rattle.st_script_journal.proofs.journal_run.change_unstopped.Goals as goal

pub apply-requires-clause-room : goal.apply-requires-clause-room
apply-requires-clause-room c = let o = c.requires.opened in has_room c.args.journal o.0 (stable_of c.args.stable) c.args.change.now o.1

pub record-requires-clause-applies : goal.record-requires-clause-applies
record-requires-clause-applies c = let o = c.requires.opened in (o.0, stable_of c.args.stable, o.1, c.in-Ok.ensures)

pub refuse-requires : goal.refuse-requires
refuse-requires c = let o = c.requires.opened in (o.0, stable_of c.args.stable, c.args.change.now, o.1, c.in-Err.ensures)

pub returns-in-Ok : goal.returns-in-Ok
returns-in-Ok c = λ s unset is o.
    let e = subst (λ (t : Stable). apply t c.args.change.now ≡ Ok (stable_of c.apply.new.self)) (sym is) c.in-Ok.ensures in
    comes_done s c.args.change.now (stable_of c.apply.new.self) e c.record.result unset (c.record.ensures s.changes s.stable o e)

pub returns-in-Err : goal.returns-in-Err
returns-in-Err c = λ s unset is o.
    c.refuse.ensures s c.args.change.now (sym unset) o
    (subst (λ (t : Stable). Applies t (stable_of c.apply.new.self) (Err c.in-Err.refusal) (apply t c.args.change.now)) (sym is) c.in-Err.ensures)
