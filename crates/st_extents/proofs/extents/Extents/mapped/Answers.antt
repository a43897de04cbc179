use Rattle.std.proofs.Common.{◌≤◌, length, arith}
use Rattle.st_extents.proofs.Owned.{mapped_within}
use Rattle.st_extents.proofs.extents.Extents.mapped.Goals as goal

pub overflow_cast-result : goal.overflow_cast-result
overflow_cast-result c =
    let within : length c.self.inside.mapping.rows ≤ _ = mapped_within _ c.self.invariant.sound.owned in
    omega (arith, within, c.self.invariant.sound.few, c.len.ensures)

pub returns-clause-within : goal.returns-clause-within
returns-clause-within c =
    rw (← c.self.view_is) (let within : length c.self.inside.mapping.rows ≤ _ = mapped_within _ c.self.invariant.sound.owned in omega (arith, within, c.len.ensures))
