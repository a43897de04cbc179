use Rattle.std.proofs.Common.{take}
use Rattle.st_locks.specs.SettledFiles.{MarksAll, is_wanted_of}
use Rattle.st_locks.proofs.parts.touch_files.Given as goal

abbrev pub invariant-loop-ino : goal.invariant-loop-ino
invariant-loop-ino l = MarksAll (is_wanted_of l.table l.client (take l.ino-index l.files)) l.fn.marks l.marks
