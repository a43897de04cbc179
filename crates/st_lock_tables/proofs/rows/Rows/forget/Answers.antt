use Rattle.std.proofs.Common.{sym, subst}
use Rattle.st_lock_tables.specs.DemandStarts.{AreListed}
use Rattle.st_lock_tables.proofs.SinceRows.{listed_forgotten}
use Rattle.st_lock_tables.proofs.rows.Rows.forget.Goals as goal

pub invariant_of-self : goal.invariant_of-self
invariant_of-self c =
    subst (λ l. AreListed l c.forget-2.new.set) (sym c.forget.ensures)
    (listed_forgotten c.args.client c.self.inside.table c.self.inside.since c.forget-2.new.set c.self.invariant c.forget-2.ensures)
