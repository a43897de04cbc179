use Rattle.std.proofs.Common.{◌≤◌, ◌<◌, ◌-◌, ℕ, drop, length, take}
use Rattle.st_extents.specs.FreeRuns.{BeginsUpTo, first_of}
use Rattle.st_extents.proofs.free_runs.position.Given as goal

abbrev pub invariant-halves : goal.invariant-halves
invariant-halves l = record {
  order : l.low ≤ l.high;
  within : l.high ≤ length l.runs.items;
  behind : (n : ℕ) → l.place < n → l.place < first_of n (take l.low l.runs.items);
  begun : BeginsUpTo l.place (drop l.high l.runs.items);
}

abbrev pub decreases-halves : goal.decreases-halves
decreases-halves l = l.high - l.low
