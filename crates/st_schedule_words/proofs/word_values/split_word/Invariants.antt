use Rattle.std.proofs.Common.{◌≡◌, ◌≤◌, ◌-◌, length, take, drop}
use Rattle.st_schedule_words.specs.Words.{split}
use Rattle.st_schedule_words.proofs.Words.{front}
use Rattle.st_schedule_words.proofs.word_values.split_word.Given as goal

abbrev pub invariant-loop-at : goal.invariant-loop-at
invariant-loop-at l = record {
  in_range : l.at ≤ length l.bytes;
  so_far : front (take l.at l.bytes) (split (drop l.at l.bytes)) ≡ split l.bytes;
}

abbrev pub decreases-loop-at : goal.decreases-loop-at
decreases-loop-at l = length l.bytes - l.at
