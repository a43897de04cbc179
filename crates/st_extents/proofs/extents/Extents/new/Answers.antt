use Rattle.std.proofs.Common.{◌∙◌, arith}
use Rattle.st_extents.proofs.BlockOrder.{own_in_order}
use Rattle.st_extents.proofs.Owned.{none_sound, none_owned}
use Rattle.st_extents.proofs.extents.Extents.new.Goals as goal

pub new-requires-clause-order : goal.new-requires-clause-order
new-requires-clause-order c = rw c.in_ok-own.ensures.blocks (own_in_order _ (omega (arith, c.requires.few_blocks)))

pub invariant_of-result : goal.invariant_of-result
invariant_of-result c = record {
  own = c.in_ok-new.ensures.own ∙ c.in_ok-own.ensures.blocks;
  sound = rw (c.in_ok-new.ensures.rows, c.in_ok-new.ensures.births) (none_sound _ (rw c.in_ok-own.ensures.blocks at c.in_ok-own.ensures.few));
}

pub returns-clause-owned : goal.returns-clause-owned
returns-clause-owned c = rw (c.in_ok-new.ensures.rows, c.in_ok-new.ensures.births) (none_owned _ 0)
