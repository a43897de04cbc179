use Rattle.std.proofs.Common.{◌≡◌, ◌∙◌, sym, ap, subst, find}
use Rattle.st_rules.specs.Locks.{is_row_of}
use Rattle.st_lock_tables.specs.DemandStarts.{AreListed, since_of}
use Rattle.st_lock_tables.proofs.SinceRows.{listed_put}
use Rattle.st_lock_tables.proofs.rows.Rows.put.Goals as goal

pub invariant_of-self-2 : goal.invariant_of-self-2
invariant_of-self-2 c =
    let found : find (is_row_of c.args.row.client c.args.row.ino) c.self.inside.table ≡ c.args.old = rw (← c.self.view_is) at c.requires.found in
    subst (λ l. AreListed l c.take_out.new.set) (sym c.in_ok-put.ensures.ok)
    (listed_put c.args.row c.self.inside.table c.self.inside.since c.take_out.new.set c.since_of.result c.self.invariant
    (c.since_of.ensures ∙ ap since_of (sym found)) c.requires.fresh c.take_out.ensures)
