use Rattle.std.proofs.Common.{◌≡◌, ◌∙◌, List, ap, sym, subst, find, if◌then◌else◌}
use Rattle.std.specs.Prelude.{Some, not}
use Rattle.st_rules.specs.declared.locks.LockRow.{LockRow}
use Rattle.st_rules.specs.Locks.{Locks, release_to, lowered, is_row_of}
use Rattle.st_lock_tables.specs.Calls.{IsSound}
use Rattle.st_lock_tables.proofs.FoundRows.{found_moved, changed_moved}
use Rattle.st_lock_tables.proofs.Sound.{sound_fewer_rows, sound_rows, weakens_lowered, weakens_some}
use Rattle.st_lock_tables.proofs.table.PlainTable.release_to.Goals as goal

pub returns-in-S : goal.returns-in-S
unfolding release_to
returns-in-S c =
    let p = c.lowered.ensures.same.0 ∙ c.requires.same.0 in
    let q = c.lowered.ensures.same.1 ∙ c.requires.same.1 in
    let found : find (is_row_of c.args.client c.args.ino) c.self.inside.rows ≡ Some c.args.row = rw (← c.self.view_is) at c.requires.found in
    rw (c.in-S.is, ← c.self.view_is)
    (ap (λ (rs : List LockRow). let m : Locks = record { epoch = c.self.inside.epoch; grants = c.self.inside.grants; rows = rs; waiters = c.self.inside.waits; limit = 1024 } in m)
    (changed_moved c.self.inside.rows c.change.new.self lowered c.args.client c.lowered.result.client c.args.ino c.lowered.result.ino p q
    (c.change.ensures lowered c.args.row (found_moved c.self.inside.rows c.args.client c.lowered.result.client c.args.ino c.lowered.result.ino c.args.row p q found) c.lowered.ensures.lowered)))

pub returns-in-X : goal.returns-in-X
unfolding release_to
returns-in-X c =
    let p = c.lowered-in-X.ensures.same.0 ∙ c.requires.same.0 in
    let q = c.lowered-in-X.ensures.same.1 ∙ c.requires.same.1 in
    let found : find (is_row_of c.args.client c.args.ino) c.self.inside.rows ≡ Some c.args.row = rw (← c.self.view_is) at c.requires.found in
    rw (c.in-X.is, ← c.self.view_is)
    (ap (λ (rs : List LockRow). let m : Locks = record { epoch = c.self.inside.epoch; grants = c.self.inside.grants; rows = rs; waiters = c.self.inside.waits; limit = 1024 } in m)
    (changed_moved c.self.inside.rows c.change-in-X.new.self lowered c.args.client c.lowered-in-X.result.client c.args.ino c.lowered-in-X.result.ino p q
    (c.change-in-X.ensures lowered c.args.row (found_moved c.self.inside.rows c.args.client c.lowered-in-X.result.client c.args.ino c.lowered-in-X.result.ino c.args.row p q found) c.lowered-in-X.ensures.lowered)))

pub invariant_of-self : goal.invariant_of-self
invariant_of-self c =
    subst (λ rows. IsSound c.self.inside.epoch c.self.inside.grants rows c.self.inside.waits) (sym c.remove.ensures)
    (sound_fewer_rows c.self.inside.epoch c.self.inside.grants c.self.inside.rows c.self.inside.waits c.self.invariant (λ r. not (is_row_of c.args.client c.args.ino r)))

pub invariant_of-self-in-S : goal.invariant_of-self-in-S
invariant_of-self-in-S c =
    let p = c.lowered.ensures.same.0 ∙ c.requires.same.0 in
    let q = c.lowered.ensures.same.1 ∙ c.requires.same.1 in
    let found : find (is_row_of c.args.client c.args.ino) c.self.inside.rows ≡ Some c.args.row = rw (← c.self.view_is) at c.requires.found in
    subst (λ rows. IsSound c.self.inside.epoch c.self.inside.grants rows c.self.inside.waits)
    (sym (c.change.ensures lowered c.args.row (found_moved c.self.inside.rows c.args.client c.lowered.result.client c.args.ino c.lowered.result.ino c.args.row p q found) c.lowered.ensures.lowered))
    (sound_rows c.self.inside.epoch c.self.inside.grants c.self.inside.rows c.self.inside.waits c.self.invariant (λ r. if is_row_of c.lowered.result.client c.lowered.result.ino r then lowered r else r)
    (λ r. weakens_some (is_row_of c.lowered.result.client c.lowered.result.ino) lowered r (weakens_lowered r)))

pub invariant_of-self-in-X : goal.invariant_of-self-in-X
invariant_of-self-in-X c =
    let p = c.lowered-in-X.ensures.same.0 ∙ c.requires.same.0 in
    let q = c.lowered-in-X.ensures.same.1 ∙ c.requires.same.1 in
    let found : find (is_row_of c.args.client c.args.ino) c.self.inside.rows ≡ Some c.args.row = rw (← c.self.view_is) at c.requires.found in
    subst (λ rows. IsSound c.self.inside.epoch c.self.inside.grants rows c.self.inside.waits)
    (sym (c.change-in-X.ensures lowered c.args.row (found_moved c.self.inside.rows c.args.client c.lowered-in-X.result.client c.args.ino c.lowered-in-X.result.ino c.args.row p q found) c.lowered-in-X.ensures.lowered))
    (sound_rows c.self.inside.epoch c.self.inside.grants c.self.inside.rows c.self.inside.waits c.self.invariant (λ r. if is_row_of c.lowered-in-X.result.client c.lowered-in-X.result.ino r then lowered r else r)
    (λ r. weakens_some (is_row_of c.lowered-in-X.result.client c.lowered-in-X.result.ino) lowered r (weakens_lowered r)))
