use Rattle.std.proofs.Common.{sym, subst}
use Rattle.std.specs.Prelude.{not, ◌==◌}
use Rattle.st_lock_tables.specs.Calls.{IsSound}
use Rattle.st_lock_tables.proofs.Sound.{sound_fewer_waits}
use Rattle.st_lock_tables.proofs.table.PlainTable.drop_waits.Goals as goal

pub invariant_of-self : goal.invariant_of-self
invariant_of-self c =
    subst (λ ws. IsSound c.self.inside.epoch c.self.inside.grants c.self.inside.rows ws) (sym c.forget.ensures)
    (sound_fewer_waits c.self.inside.epoch c.self.inside.grants c.self.inside.rows c.self.inside.waits c.self.invariant (λ w. not (w.client.0 == c.args.client.0)))
