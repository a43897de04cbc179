use Rattle.std.proofs.Common.{◌≡◌, ℕ, ◌<◌, false}
use Rattle.std.specs.Prelude.{◌||◌, slice_index_or}
use Rattle.std.specs.List.{list_any}
use Rattle.std.specs.List.Sorted.{IsStrictlySortedBy}
use Rattle.st_lock_tables.specs.DemandStarts.{is_late_of, wait_order}
use Rattle.st_lock_tables.proofs.unanswered.overdue.Given as goal

abbrev pub invariant-loop-demand : goal.invariant-loop-demand
invariant-loop-demand l = record {
  ordered : IsStrictlySortedBy wait_order l.demand-iterator;
  marked : (c : ℕ) → c < 17 → slice_index_or l.late c false || list_any (is_late_of l.wait l.now c) l.demand-iterator ≡ list_any (is_late_of l.wait l.now c) l.set.keys;
}
