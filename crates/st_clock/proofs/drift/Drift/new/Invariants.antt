use Rattle.std.proofs.Common.{◌≡◌, ◌≤◌, ◌-◌, ℕ, length}
use Rattle.std.specs.Prelude.{replicate}
use Rattle.st_clock.proofs.drift.Drift.new.Given as goal

abbrev pub invariant-rows : goal.invariant-rows
invariant-rows l = record {
  few : length l.rows.items ≤ l.nodes;
  zeros : l.rows.items ≡ replicate (length l.rows.items) (replicate {A = ℕ} l.nodes 0);
}

abbrev pub decreases-rows : goal.decreases-rows
decreases-rows l = l.nodes - length l.rows.items
