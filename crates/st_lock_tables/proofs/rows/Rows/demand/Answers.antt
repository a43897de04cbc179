use Rattle.std.proofs.Common.{◌≡◌, ◌∙◌, sym, ap, subst, find, map, if◌then◌else◌}
use Rattle.std.specs.Prelude.{Some}
use Rattle.st_rules.specs.Locks.{is_row_of}
use Rattle.st_lock_tables.specs.DemandStarts.{AreListed, is_since, wait_order}
use Rattle.std.specs.BTreeSet.{contains}
use Rattle.std.specs.Prelude.{◌||◌, ◌&&◌}
use Rattle.st_lock_tables.proofs.SinceRows.{is_key, listed_demanded}
use Rattle.st_lock_tables.proofs.rows.Rows.demand.Goals as goal

pub invariant_of-self-2 : goal.invariant_of-self-2
invariant_of-self-2 c =
    subst (λ l. AreListed l c.put_in.new.set) (sym c.change.ensures.written)
    (listed_demanded c.args.row c.args.old c.self.inside.table c.self.inside.since c.put_in.new.set c.self.invariant
    (subst (λ l. find (is_row_of c.args.row.client c.args.row.ino) l ≡ Some c.args.old) (sym c.self.view_is) c.requires.found) c.requires.since
    (λ s i d. c.in_ok-put_in.ensures.ok s i d ∙ ap (λ o. contains wait_order c.self.inside.since (s, i, d) || (is_since s o && is_key c.args.row.client c.args.row.ino d i)) c.since_of_demand.ensures))

pub returns-clause-ok : goal.returns-clause-ok
returns-clause-ok c = λ f v found same.
    subst (λ l. c.change.new.self ≡ map (λ r. if is_row_of c.args.row.client c.args.row.ino r then f r else r) l) c.self.view_is
    (c.change.ensures.changed f v (subst (λ l. find (is_row_of c.args.row.client c.args.row.ino) l ≡ Some v) (sym c.self.view_is) found) same)
