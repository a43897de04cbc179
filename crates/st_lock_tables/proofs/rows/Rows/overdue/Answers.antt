use Rattle.std.proofs.Common.{◌≡◌, ◌∙◌, subst}
use Rattle.std.specs.Prelude.{◌&&◌, ◌==◌, false, slice_index_or}
use Rattle.std.specs.List.{list_any}
use Rattle.st_rules.specs.Locks.{is_overdue}
use Rattle.st_lock_tables.proofs.Overdue.{late_rows}
use Rattle.st_lock_tables.proofs.rows.Rows.overdue.Goals as goal

pub returns : goal.returns
returns c = λ d l.
    subst (λ rows. slice_index_or c.overdue.result d false ≡ list_any (λ r. is_overdue c.args.config c.args.now r && (r.client.0 == d)) rows) c.self.view_is
    (c.overdue.ensures d l ∙ late_rows c.self.inside.table c.self.inside.since c.self.invariant c.len-len.ensures.distinct c.args.config c.args.now d)
