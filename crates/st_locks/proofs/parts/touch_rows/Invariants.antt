use Rattle.std.proofs.Common.{take}
use Rattle.std.specs.Prelude.{◌&&◌}
use Rattle.st_lock_tables.specs.WaitedFiles.{is_waited}
use Rattle.st_locks.specs.SettledFiles.{MarksAll, is_file_of}
use Rattle.st_locks.proofs.parts.touch_rows.Given as goal

abbrev pub invariant-loop-row : goal.invariant-loop-row
invariant-loop-row l = MarksAll (λ j. is_file_of (take l.row-index l.rows) j && is_waited l.table j) l.fn.marks l.marks
