use Rattle.std.proofs.Common.{◌∙◌, ap}
use Rattle.std.specs.List.{list_any}
use Rattle.st_due.specs.ServerDue.{may_grant_on}
use Rattle.st_rules.specs.Locks.{Locks, waited_files}
use Rattle.st_locks.proofs.lock_table.LockTable.may_grant_one.Goals as goal

pub returns : goal.returns
returns c =
    c.may_grant_one.ensures
    ∙ ap (list_any (may_grant_on c.self.inside.parts.table)) (c.as_slice.ensures.value ∙ c.in_ok-files.ensures)
    ∙ ap (λ (l : Locks). list_any (may_grant_on l) (waited_files l)) c.self.view_is
