-- The numbers of a drift: how great they are, and how many.
use Rattle.std.proofs.Common.{◌≡◌, ℕ, zero, suc, ◌+◌, ◌*◌, ◌≤◌, ◌^◌, Bool, true, false, List, [], ◌∷◌, length, arith, refl}
use Rattle.std.specs.Prelude.{nat_lt, Option, Some, None, replicate, if◌then◌else◌}
use Rattle.std.proofs.lemmas.Bool.{ltb-false}
use Rattle.std.proofs.lemmas.List.{length-replicate}
use Rattle.std.proofs.Math.Nat.{mul-le-mul}
use Rattle.st_rules.specs.declared.lease.Excess.{Excess}
use Rattle.st_rules.specs.Leases.{drift_after, excess_at, excess_from, excess_in_row, excess_of, excess_or, first_excess, raise_row, raise_rows}
use Rattle.st_clock.specs.Drifts.{AllLow, IsLow, IsWide}

-- if no number is above a limit, then neither is the first one nor any after it
split_at : (b : Bool) (m n e : ℕ) (rest : Option Excess) → (if b then excess_of m n e else rest) ≡ None → (b ≡ false) × (rest ≡ None)
unfolding excess_of
split_at true m n e rest h = absurd (cc)
split_at false m n e rest h = (refl, h)

none_at : (limit m n e : ℕ) (rest : Option Excess) → excess_at limit m n e rest ≡ None → (e ≤ limit) × (rest ≡ None)
unfolding excess_at
none_at limit m n e rest h = let q = split_at (nat_lt limit e) m n e rest h in (ltb-false limit e q.0, q.1)

none_or : (x rest : Option Excess) → excess_or x rest ≡ None → (x ≡ None) × (rest ≡ None)
unfolding excess_or
none_or None rest h = (refl, h)
none_or (Some x) rest h = absurd (cc)

low_row : (limit m n : ℕ) (es : List ℕ) → limit ≤ 2 ^ 60 → excess_in_row limit m n es ≡ None → IsLow es
unfolding excess_in_row
low_row limit m n [] b h = tt
low_row limit m n (e ∷ es) b h = let q = none_at limit m n e _ h in (omega (arith, q.0), low_row limit m (n + 1) es b q.1)

low_rows : (limit m : ℕ) (rows : List (List ℕ)) → limit ≤ 2 ^ 60 → excess_from limit m rows ≡ None → AllLow rows
unfolding excess_from
low_rows limit m [] b h = tt
low_rows limit m (row ∷ rows) b h = let q = none_or _ _ h in (low_row limit m 0 row b q.0, low_rows limit (m + 1) rows b q.1)

-- if no pair is above the limit, all numbers are low
pub low_after : (drift : List (List ℕ)) (den grain : ℕ) → den ≤ 1048576 → grain ≤ 2 ^ 40 → first_excess drift den grain ≡ None → AllLow drift
unfolding first_excess
low_after drift den grain d g h = low_rows (den * grain) 0 drift (let q = mul-le-mul d g in omega (arith, q)) h

-- an advance keeps the square
row_length : (num den sm : ℕ) (ss es : List ℕ) → length es ≡ length ss → length (raise_row num den sm ss es) ≡ length ss
unfolding raise_row
row_length num den sm [] es e = refl
row_length num den sm (s ∷ ss) [] e = absurd (omega arith)
row_length num den sm (s ∷ ss) (x ∷ es) e = let r = row_length num den sm ss es (omega arith) in omega arith

pub rows_length : (num den : ℕ) (steps ss : List ℕ) (rows : List (List ℕ)) → length rows ≡ length ss → length (raise_rows num den steps ss rows) ≡ length ss
unfolding raise_rows
rows_length num den steps [] rows e = refl
rows_length num den steps (s ∷ ss) [] e = absurd (omega arith)
rows_length num den steps (s ∷ ss) (row ∷ rows) e = let r = rows_length num den steps ss rows (omega arith) in omega arith

rows_wide : (num den : ℕ) (steps ss : List ℕ) (rows : List (List ℕ)) → IsWide (length steps) rows → IsWide (length steps) (raise_rows num den steps ss rows)
unfolding raise_rows
rows_wide num den steps [] rows w = tt
rows_wide num den steps (s ∷ ss) [] w = tt
rows_wide num den steps (s ∷ ss) (row ∷ rows) w = (row_length num den s steps row w.0, rows_wide num den steps ss rows w.1)

wide_of : (m n : ℕ) (rows : List (List ℕ)) → m ≡ n → IsWide m rows → IsWide n rows
wide_of m n rows e w = rw (← e) w

pub wide_after : (drift : List (List ℕ)) (steps : List ℕ) (num den : ℕ) → length steps ≡ length drift → IsWide (length drift) drift → IsWide (length (drift_after drift steps num den)) (drift_after drift steps num den)
unfolding drift_after
wide_after drift steps num den e w = wide_of (length steps) _ _ (let r = rows_length num den steps steps drift (omega (arith, e)) in omega (arith, r)) (rows_wide num den steps steps drift (wide_of (length drift) (length steps) drift (omega (arith, e)) w))

-- rows of zeros
zeros_wide : (nodes count : ℕ) → IsWide nodes (replicate count (replicate {A = ℕ} nodes 0))
zeros_wide nodes zero = tt
zeros_wide nodes (suc count) = (length-replicate {A = ℕ} nodes 0, zeros_wide nodes count)

pub square_zeros : (rows : List (List ℕ)) (nodes : ℕ) → rows ≡ replicate nodes (replicate {A = ℕ} nodes 0) → IsWide (length rows) rows
square_zeros rows nodes e = rw e (wide_of nodes _ _ (let r = length-replicate {A = List ℕ} nodes (replicate {A = ℕ} nodes 0) in omega (arith, r)) (zeros_wide nodes nodes))
