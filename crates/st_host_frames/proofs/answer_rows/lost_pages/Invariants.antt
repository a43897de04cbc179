use Rattle.std.proofs.Common.{◌≡◌, ◌++◌, drop, map}
use Rattle.st_host_frames.specs.Answers.{lost_page_of}
use Rattle.st_host_frames.proofs.answer_rows.lost_pages.Given as goal

abbrev pub invariant-loop-i : goal.invariant-loop-i
invariant-loop-i l = l.shown.items ++ map lost_page_of (drop l.i l.rows) ≡ map lost_page_of l.rows
