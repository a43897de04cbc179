use Rattle.std.proofs.Common.{◌≡◌, ◌∙◌, sym, ap, subst, List, if◌then◌else◌, find, eq-eqb}
use Rattle.std.specs.Prelude.{Some, None, ◌==◌}
use Rattle.std.proofs.lemmas.Bool.{ne_eqb}
use Rattle.st_rules.specs.declared.locks.LockRow.{LockRow}
use Rattle.st_rules.specs.Locks.{Locks, demand_seen, answered_row, is_row_of}
use Rattle.st_tables.proofs.Places.{at_found}
use Rattle.st_lock_tables.specs.Calls.{IsSound}
use Rattle.st_lock_tables.proofs.Sound.{sound_rows, weakens_answered, weakens_some}
use Rattle.st_lock_tables.proofs.FoundRows.{not_seen, observe_map, found_moved, changed_moved}
use Rattle.st_lock_tables.proofs.table.PlainTable.answered.Goals as goal

pub returns-then-row-g : goal.returns-then-row-g
unfolding demand_seen
returns-then-row-g c =
    let same = c.in-Some.ensures.same in
    let p = c.seen.ensures.same.0 ∙ same.0 in
    let q = c.seen.ensures.same.1 ∙ same.1 in
    let found : find (is_row_of c.args.client c.args.ino) c.self.inside.rows ≡ Some c.in-Some.row = rw (← c.self.view_is) at (sym c.in-Some.ensures.row) in
    let f : LockRow → LockRow = λ x. if x.g.0 == c.args.g.0 then answered_row x else x in
    rw (← c.self.view_is)
    (ap (λ (rs : List LockRow). let m : Locks = record { epoch = c.self.inside.epoch; grants = c.self.inside.grants; rows = rs; waiters = c.self.inside.waits; limit = 1024 } in m)
    (changed_moved c.self.inside.rows c.change.new.self f c.args.client c.seen.result.client c.args.ino c.seen.result.ino p q
    (c.change.ensures f c.in-Some.row (found_moved c.self.inside.rows c.args.client c.seen.result.client c.args.ino c.seen.result.ino c.in-Some.row p q found)
    (c.seen.ensures.seen ∙ sym (ap (λ b. if b then answered_row c.in-Some.row else c.in-Some.row) (eq-eqb c.in-Some.row.g.0 c.args.g.0 c.if-row-g.true))))
    ∙ observe_map c.args.client c.args.ino c.args.g c.self.inside.rows))

pub returns-else-row-g : goal.returns-else-row-g
unfolding demand_seen
returns-else-row-g c =
    let found : find (is_row_of c.args.client c.args.ino) c.self.inside.rows ≡ Some c.in-Some.row = rw (← c.self.view_is) at (sym c.in-Some.ensures.row) in
    rw (← c.self.view_is)
    (ap (λ (rs : List LockRow). let m : Locks = record { epoch = c.self.inside.epoch; grants = c.self.inside.grants; rows = rs; waiters = c.self.inside.waits; limit = 1024 } in m)
    (sym (not_seen c.args.client c.args.ino c.args.g c.self.inside.rows c.len-rows.ensures.distinct (ap (at_found (λ r. r.g.0 == c.args.g.0)) found ∙ ne_eqb c.in-Some.row.g.0 c.args.g.0 c.if-row-g.false))))

pub returns-in_default : goal.returns-in_default
unfolding demand_seen
returns-in_default c =
    let none : find (is_row_of c.args.client c.args.ino) c.self.inside.rows ≡ None = rw (← c.self.view_is) at (sym c.in_default.ensures.row) in
    rw (← c.self.view_is)
    (ap (λ (rs : List LockRow). let m : Locks = record { epoch = c.self.inside.epoch; grants = c.self.inside.grants; rows = rs; waiters = c.self.inside.waits; limit = 1024 } in m)
    (sym (not_seen c.args.client c.args.ino c.args.g c.self.inside.rows c.len-rows.ensures.distinct (ap (at_found (λ r. r.g.0 == c.args.g.0)) none))))

pub invariant_of-self : goal.invariant_of-self
invariant_of-self c =
    let p = c.seen.ensures.same.0 ∙ c.in-Some.ensures.same.0 in
    let q = c.seen.ensures.same.1 ∙ c.in-Some.ensures.same.1 in
    let found : find (is_row_of c.args.client c.args.ino) c.self.inside.rows ≡ Some c.in-Some.row = rw (← c.self.view_is) at (sym c.in-Some.ensures.row) in
    subst (λ rows. IsSound c.self.inside.epoch c.self.inside.grants rows c.self.inside.waits)
    (sym (c.change.ensures answered_row c.in-Some.row (found_moved c.self.inside.rows c.args.client c.seen.result.client c.args.ino c.seen.result.ino c.in-Some.row p q found) c.seen.ensures.seen))
    (sound_rows c.self.inside.epoch c.self.inside.grants c.self.inside.rows c.self.inside.waits c.self.invariant (λ r. if is_row_of c.seen.result.client c.seen.result.ino r then answered_row r else r)
    (λ r. weakens_some (is_row_of c.seen.result.client c.seen.result.ino) answered_row r (weakens_answered r)))
