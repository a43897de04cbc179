use Rattle.std.proofs.Common.{◌∙◌, ap}
use Rattle.std.specs.Prelude.{nat_lt}
use Rattle.st_rules.specs.Locks.{is_row_by}
use Rattle.st_lock_tables.proofs.FoundRows.{any_counted}
use Rattle.st_lock_tables.proofs.table.PlainTable.has_rows.Goals as goal

pub returns : goal.returns
returns c = rw (← c.self.view_is) (ap (nat_lt 0) c.count.ensures ∙ any_counted (is_row_by c.args.client) c.self.inside.rows)
