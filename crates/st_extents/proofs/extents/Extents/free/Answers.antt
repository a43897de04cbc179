use Rattle.std.proofs.Common.{◌∙◌, ap, arith, length}
use Rattle.st_extents.proofs.Blocks.{free_is, own_few}
use Rattle.st_extents.proofs.extents.Extents.free.Goals as goal

pub overflow_cast-result : goal.overflow_cast-result
overflow_cast-result c = omega (arith, c.free.ensures.few, own_few _ c.self.inside.mapping.rows c.self.inside.mapping.births c.self.inside.mapping.own c.self.invariant.own c.self.invariant.sound.few)

pub returns : goal.returns
returns c = rw (← c.self.view_is) (c.free.ensures.free ∙ ap length (free_is _ c.self.inside.mapping.rows c.self.inside.mapping.births c.self.inside.mapping.own c.self.invariant.own))
