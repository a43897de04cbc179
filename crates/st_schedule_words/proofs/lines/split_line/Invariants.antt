use Rattle.std.proofs.Common.{◌≡◌, ◌≤◌, ◌-◌, length, take, drop}
use Rattle.st_schedule_words.specs.Lines.{lines_of}
use Rattle.st_schedule_words.proofs.Words.{front}
use Rattle.st_schedule_words.proofs.lines.split_line.Given as goal

abbrev pub invariant-loop-at : goal.invariant-loop-at
invariant-loop-at l = record {
  in_range : l.at ≤ length l.bytes;
  so_far : front (take l.at l.bytes) (lines_of (drop l.at l.bytes)) ≡ lines_of l.bytes;
}

abbrev pub decreases-loop-at : goal.decreases-loop-at
decreases-loop-at l = length l.bytes - l.at
