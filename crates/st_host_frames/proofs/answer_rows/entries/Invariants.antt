use Rattle.std.proofs.Common.{◌≡◌, ◌++◌, drop, map}
use Rattle.st_host_frames.specs.Answers.{entry_of}
use Rattle.st_host_frames.proofs.answer_rows.entries.Given as goal

abbrev pub invariant-loop-i : goal.invariant-loop-i
invariant-loop-i l = l.shown.items ++ map entry_of (drop l.i l.rows) ≡ map entry_of l.rows
