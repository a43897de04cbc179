use Rattle.std.proofs.Common.{◌≡◌, ◌∙◌, ap, subst, find}
use Rattle.std.specs.Prelude.{IfOk, Option, Some}
use Rattle.st_due.specs.Moments.{earliest, readable_by}
use Rattle.st_due.specs.ServerDue.{demands_for}
use Rattle.st_rules.specs.Locks.{Locks, is_wait_on}
use Rattle.st_rules.specs.declared.locks.Waiter.{Waiter}
use Rattle.st_lock_tables.proofs.table.PlainTable.file_due.Goals as goal

pub returns-in-Some : goal.returns-in-Some
returns-in-Some c =
    let e : Some c.in-Some.w ≡ find (is_wait_on c.args.ino) c.args.self.now.waiters = c.in-Some.ensures ∙ ap (λ (l : Locks). find (is_wait_on c.args.ino) l.waiters) c.self.view_is in
    subst (λ (o : Option Waiter). IfOk c.wait_due.result (λ m. m ≡ readable_by (earliest (demands_for c.args.config.now c.args.self.now c.args.suspects.now o)))) e c.wait_due.ensures
