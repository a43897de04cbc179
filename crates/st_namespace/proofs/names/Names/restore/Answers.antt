use Rattle.std.proofs.Common.{arith}
use Rattle.st_namespace.proofs.RestoredEntries.{restored_in_order}
use Rattle.st_namespace.proofs.names.Names.restore.Goals as goal

pub invariant_of-result : goal.invariant_of-result
invariant_of-result c = record {
  order = rw c.in_ok-entries.ensures.ok
      (restored_in_order c.in_ok-entries.ensures.sound.0 c.args.next c.args.limit c.args.rows.now c.in_ok-entries.ensures.sound.1
      (omega (arith, c.if-rows-limit.false)));
  small = omega (arith, c.ranges.limit.fits);
}

pub returns-clause-order : goal.returns-clause-order
returns-clause-order c = (invariant_of-result c).order
