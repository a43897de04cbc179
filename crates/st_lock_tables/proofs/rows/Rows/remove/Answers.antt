use Rattle.std.proofs.Common.{◌≡◌, ◌∙◌, sym, ap, subst, find, filter}
use Rattle.std.specs.Prelude.{Some, not}
use Rattle.st_rules.specs.Locks.{is_row_of}
use Rattle.st_tables.specs.Tables.{has_key, lock_key}
use Rattle.st_lock_tables.specs.DemandStarts.{AreListed, since_of}
use Rattle.st_lock_tables.proofs.SinceRows.{listed_gone}
use Rattle.st_lock_tables.proofs.rows.Rows.remove.Goals as goal

pub invariant_of-self : goal.invariant_of-self
invariant_of-self c =
    let found : find (is_row_of c.args.client c.args.ino) c.self.inside.table ≡ Some c.args.old = rw (← c.self.view_is) at c.requires in
    subst (λ l. AreListed l c.take_out.new.set) (sym (c.remove.ensures ∙ ap (λ k. filter (λ v. not (has_key lock_key k v)) c.self.inside.table) c.key.ensures))
    (listed_gone c.args.client c.args.ino c.self.inside.table c.self.inside.since c.take_out.new.set c.since_of.result c.self.invariant
    (c.since_of.ensures ∙ ap since_of (sym found)) c.take_out.ensures)
