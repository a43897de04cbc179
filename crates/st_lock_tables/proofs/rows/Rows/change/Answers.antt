use Rattle.std.proofs.Common.{◌≡◌, ◌∙◌, sym, ap, subst, find, map, if◌then◌else◌}
use Rattle.std.specs.Prelude.{Some}
use Rattle.st_rules.specs.Locks.{is_row_of}
use Rattle.st_lock_tables.specs.DemandStarts.{AreListed, since_of}
use Rattle.st_lock_tables.proofs.SinceRows.{listed_changed}
use Rattle.st_lock_tables.proofs.rows.Rows.change.Goals as goal

pub invariant_of-self : goal.invariant_of-self
invariant_of-self c =
    let found : find (is_row_of c.args.row.client c.args.row.ino) c.self.inside.table ≡ Some c.args.old = rw (← c.self.view_is) at c.requires.found in
    subst (λ l. AreListed l c.take_out.new.set) (sym c.change.ensures.written)
    (listed_changed c.args.row c.self.inside.table c.self.inside.since c.take_out.new.set c.since_of.result c.self.invariant
    (c.since_of.ensures ∙ ap since_of (sym found)) c.requires.quiet c.take_out.ensures)

pub returns : goal.returns
returns c = λ f v found same.
    subst (λ l. c.change.new.self ≡ map (λ r. if is_row_of c.args.row.client c.args.row.ino r then f r else r) l) c.self.view_is
    (c.change.ensures.changed f v (subst (λ l. find (is_row_of c.args.row.client c.args.row.ino) l ≡ Some v) (sym c.self.view_is) found) same)
