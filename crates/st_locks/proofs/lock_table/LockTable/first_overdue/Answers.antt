use Rattle.std.proofs.Common.{◌∙◌, ap}
use Rattle.std.specs.Prelude.{filter_map}
use Rattle.st_due.specs.Moments.{earliest, readable_by}
use Rattle.st_rules.specs.Locks.{Locks}
use Rattle.st_lock_tables.specs.Overdue.{overdue_row}
use Rattle.st_locks.proofs.lock_table.LockTable.first_overdue.Goals as goal

pub returns : goal.returns
returns c =
    c.first_overdue.ensures
    ∙ ap (λ (l : Locks). readable_by (earliest (filter_map (overdue_row c.args.config.now c.args.suspects.now) l.rows))) c.self.view_is
