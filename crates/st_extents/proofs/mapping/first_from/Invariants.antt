use Rattle.std.proofs.Common.{◌≤◌, ◌<◌, ◌-◌, ℕ, get_or, length}
use Rattle.st_base.specs.declared.disk.BlockAt.{BlockAt}
use Rattle.st_extents.specs.Places.{rank}
use Rattle.st_extents.proofs.mapping.first_from.Given as goal

abbrev pub invariant-halves : goal.invariant-halves
invariant-halves l = record {
  order : l.low ≤ l.high;
  within : l.high ≤ length l.own;
  below : (j : ℕ) (d : BlockAt) → j < l.low → rank (get_or l.own j d) < rank l.at;
  above : (j : ℕ) (d : BlockAt) → l.high ≤ j → j < length l.own → rank l.at ≤ rank (get_or l.own j d);
}

abbrev pub decreases-halves : goal.decreases-halves
decreases-halves l = l.high - l.low
