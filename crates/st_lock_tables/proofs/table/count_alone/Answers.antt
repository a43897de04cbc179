use Rattle.std.proofs.Common.{◌+◌, ◌∙◌, sym, arith, if◌then◌else◌}
use Rattle.std.specs.Prelude.{not}
use Rattle.st_lock_tables.specs.Calls.{has_no_row}
use Rattle.st_lock_tables.proofs.AloneFiles.{counted_more}
use Rattle.st_lock_tables.proofs.table.count_alone.Goals as goal

pub loop-ino-preserved : goal.loop-ino-preserved
loop-ino-preserved c = record {
  counted = c.one_more-count.ensures.more ∙ (λ j. c.loop-ino.invariant.counted j + (if not (c.holds.ensures j) then 1 else 0)) ∙ sym (counted_more (has_no_row c.args.rows.now c.args.client) c.args.files.now c.loop-ino.ino-index 0 c.loop-ino-test.true);
  few = omega (arith, c.one_more-count.ensures.few, c.loop-ino.invariant.few);
}
