use Rattle.std.proofs.Common.{◌≡◌, ◌∙◌, ap, sym, subst, true, false, List}
use Rattle.std.specs.List.{list_any}
use Rattle.st_rules.specs.declared.locks.LockRow.{LockRow}
use Rattle.st_rules.specs.Locks.{Locks, is_earlier_grant, is_row_of, installed, stands_against}
use Rattle.st_lock_tables.specs.Calls.{IsSound}
use Rattle.st_lock_tables.proofs.Sound.{earlier_given, sound_row}
use Rattle.st_tables.proofs.RowLists.{put_last}
use Rattle.st_lock_tables.proofs.table.PlainTable.push_installed.Goals as goal

pub returns : goal.returns
returns c =
    rw (← c.self.view_is)
    (ap (λ (rs : List LockRow). let m : Locks = record { epoch = c.self.inside.epoch; grants = c.self.inside.grants; rows = rs; waiters = c.self.inside.waits; limit = 1024 } in m)
    (c.in_ok-put.ensures.ok ∙ put_last (is_row_of c.args.client c.args.row.0) (installed c.args.client c.args.life c.args.row) c.self.inside.rows (rw (← c.self.view_is) at c.requires.new)))

pub invariant_of-self-2 : goal.invariant_of-self-2
invariant_of-self-2 c =
    let row : LockRow = installed c.args.client c.args.life c.args.row in
    let free : list_any (stands_against c.args.client c.args.row.0 c.args.row.2) c.self.inside.rows ≡ false = rw (← c.self.view_is) at c.requires.free in
    let earlier : is_earlier_grant c.self.inside.epoch c.args.row.1 ≡ true = rw (← c.self.view_is) at c.requires.earlier in
    subst (λ rows. IsSound c.self.inside.epoch c.self.inside.grants rows c.self.inside.waits) (sym c.in_ok-put.ensures.ok)
    (sound_row c.self.inside.epoch c.self.inside.grants c.self.inside.rows c.self.inside.waits c.self.invariant row free c.requires.lock (earlier_given c.self.inside.epoch c.self.inside.grants row earlier))
