use Rattle.std.proofs.Common.{◌≡◌, ◌-◌, suc, ℕ, length}
use Rattle.st_tables.specs.Indexes.{numbers_in}
use Rattle.st_tables.proofs.owned_numbers.reach.Given as goal

abbrev pub invariant-loop-alloc : goal.invariant-loop-alloc
invariant-loop-alloc l = (n : ℕ) → numbers_in l.owned.items n ≡ numbers_in l.fn.owned.items n

abbrev pub decreases-loop-alloc : goal.decreases-loop-alloc
decreases-loop-alloc l = suc l.under - length l.owned.items
