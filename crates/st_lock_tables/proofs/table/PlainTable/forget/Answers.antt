use Rattle.std.proofs.Common.{sym, subst, filter}
use Rattle.std.specs.Prelude.{not, ◌==◌}
use Rattle.st_rules.specs.Locks.{is_row_by}
use Rattle.st_lock_tables.specs.Calls.{IsSound}
use Rattle.st_lock_tables.proofs.Sound.{sound_fewer_rows, sound_fewer_waits}
use Rattle.st_lock_tables.proofs.table.PlainTable.forget.Goals as goal

pub invariant_of-self : goal.invariant_of-self
invariant_of-self c =
    subst (λ ws. IsSound c.self.inside.epoch c.self.inside.grants c.forget.new.self ws) (sym c.forget-2.ensures)
    (subst (λ rows. IsSound c.self.inside.epoch c.self.inside.grants rows (filter (λ w. not (w.client.0 == c.args.client.0)) c.self.inside.waits)) (sym c.forget.ensures)
    (sound_fewer_waits c.self.inside.epoch c.self.inside.grants (filter (λ r. not (is_row_by c.args.client r)) c.self.inside.rows) c.self.inside.waits
    (sound_fewer_rows c.self.inside.epoch c.self.inside.grants c.self.inside.rows c.self.inside.waits c.self.invariant (λ r. not (is_row_by c.args.client r)))
    (λ w. not (w.client.0 == c.args.client.0))))
