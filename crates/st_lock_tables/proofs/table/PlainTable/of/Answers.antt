use Rattle.std.proofs.Common.{◌∙◌, ◌++◌, get_or, sym}
use Rattle.std.specs.Prelude.{option_map, option_to_list}
use Rattle.st_rules.specs.Locks.{row_at, row_in_list}
use Rattle.st_tables.proofs.RisingKeys.{filter_map_take}
use Rattle.st_lock_tables.proofs.table.PlainTable.of.Goals as goal

pub loop-ino-preserved : goal.loop-ino-preserved
loop-ino-preserved c =
    c.in_ok-push_row.ensures ∙ (λ j. c.loop-ino.invariant j ++ option_to_list (option_map (row_in_list (get_or c.as_slice-ino-items.result.now c.loop-ino.ino-index 0)) (c.row_at.ensures.row j)))
    ∙ sym (filter_map_take (row_at c.args.self.now c.args.client) c.as_slice-ino-items.result.now c.loop-ino.ino-index 0 c.loop-ino-test.true)
