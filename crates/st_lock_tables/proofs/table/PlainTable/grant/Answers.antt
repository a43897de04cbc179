use Rattle.std.proofs.Common.{◌≡◌, ◌+◌, None, sym, ap, subst, false, filter}
use Rattle.std.specs.Prelude.{not}
use Rattle.std.specs.List.{list_any}
use Rattle.st_rules.specs.declared.locks.LockRow.{LockRow}
use Rattle.st_rules.specs.Locks.{first_after, is_wait_of, stands_against}
use Rattle.st_lock_tables.specs.Calls.{IsSound}
use Rattle.st_lock_tables.proofs.Sound.{sound_grant}
use Rattle.st_lock_tables.proofs.table.PlainTable.grant.Goals as goal

pub invariant_of-self-2 : goal.invariant_of-self-2
invariant_of-self-2 c =
    let row : LockRow = record { ino = c.args.ino; client = c.args.client; life = c.args.life; g = c.next_grant-g.result; mode = c.args.mode; demand = None } in
    let free : list_any (stands_against c.args.client c.args.ino c.args.mode) c.self.inside.rows ≡ false = rw (← c.self.view_is) at c.requires.free in
    let number : row.g.0 ≡ first_after c.self.inside.epoch + c.self.inside.grants + 1 = ap (λ n. n.0) (rw (← c.self.view_is) at c.next_grant-g.ensures) in
    subst (λ ws. IsSound c.self.inside.epoch (c.self.inside.grants + 1) c.put.new.self ws) (sym c.remove_wait.ensures)
    (subst (λ rows. IsSound c.self.inside.epoch (c.self.inside.grants + 1) rows (filter (λ w. not (is_wait_of c.args.client c.args.ino w)) c.self.inside.waits)) (sym c.in_ok-put.ensures.ok)
    (sound_grant c.self.inside.epoch c.self.inside.grants c.self.inside.rows c.self.inside.waits c.self.invariant row (λ w. not (is_wait_of c.args.client c.args.ino w)) free c.requires.lock number (rw (← c.self.view_is) at c.requires.room)))
