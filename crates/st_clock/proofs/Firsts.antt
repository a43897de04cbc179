-- The pair that is named is the first whose number is above the limit.
use Rattle.std.proofs.Common.{◌≡◌, ℕ, zero, suc, ◌+◌, ◌<◌, ◌≤◌, Bool, true, false, List, [], ◌∷◌, length, arith, refl, inl, inr}
use Rattle.std.specs.Prelude.{nat_lt, slice_index, Option, Some, None, ◌⊎◌, if◌then◌else◌}
use Rattle.std.proofs.lemmas.Bool.{ltb-false, ltb-true}
use Rattle.st_rules.specs.declared.lease.Excess.{Excess}
use Rattle.st_rules.specs.Leases.{excess_at, excess_from, excess_in_row, excess_of, excess_or}
use Rattle.st_clock.specs.Drifts.{Before}
use Rattle.st_rules.proofs.Drift.{pair_at, row_at}

-- a row whose first number is of node n: the named pair, and that those before it are within the limit
pub record FirstInRow (limit m n : ℕ) (es : List ℕ) (x : Excess) : Type 0 where
  pub place : ℕ
  pub inside : place < length es
  pub row : x.m ≡ m
  pub column : x.n ≡ n + place
  pub number : x.excess ≡ slice_index es place
  pub above : limit < x.excess
  pub before : (i : ℕ) → i < place → slice_index es i ≤ limit

-- no number of a row is above the limit
RowWithin : ℕ → List ℕ → Type 0
RowWithin limit es = (i : ℕ) → i < length es → slice_index es i ≤ limit

named : (m n e : ℕ) (x : Excess) → excess_of m n e ≡ Some x → x ≡ record { m = m; n = n; excess = e }
unfolding excess_of
named m n e x h = grind arith

split_at : (b : Bool) (m n e : ℕ) (rest : Option Excess) (x : Excess) → (if b then excess_of m n e else rest) ≡ Some x → ((b ≡ true) × (x ≡ record { m = m; n = n; excess = e })) ⊎ ((b ≡ false) × (rest ≡ Some x))
split_at true m n e rest x h = inl (refl, named m n e x h)
split_at false m n e rest x h = inr (refl, h)

some_at : (limit m n e : ℕ) (rest : Option Excess) (x : Excess) → excess_at limit m n e rest ≡ Some x → ((limit < e) × (x ≡ record { m = m; n = n; excess = e })) ⊎ ((e ≤ limit) × (rest ≡ Some x))
unfolding excess_at
some_at limit m n e rest x h = go (split_at (nat_lt limit e) m n e rest x h)
  where
    go : ((nat_lt limit e ≡ true) × (x ≡ record { m = m; n = n; excess = e })) ⊎ ((nat_lt limit e ≡ false) × (rest ≡ Some x)) → ((limit < e) × (x ≡ record { m = m; n = n; excess = e })) ⊎ ((e ≤ limit) × (rest ≡ Some x))
    go (inl q) = inl (ltb-true limit e q.0, q.1)
    go (inr q) = inr (ltb-false limit e q.0, q.1)

first_in_row : (limit m n : ℕ) (es : List ℕ) (x : Excess) → excess_in_row limit m n es ≡ Some x → FirstInRow limit m n es x
unfolding excess_in_row
first_in_row limit m n [] x h = absurd (cc)
first_in_row limit m n (e ∷ es) x h = go (λ q. first_in_row limit m (n + 1) es x q) (some_at limit m n e _ x h)
  where
    later : (place : ℕ) → (e ≤ limit) → ((i : ℕ) → i < place → slice_index es i ≤ limit) → (i : ℕ) → i < suc place → slice_index (e ∷ es) i ≤ limit
    later place low b zero l = low
    later place low b (suc i) l = b i (omega arith)

    go : (excess_in_row limit m (n + 1) es ≡ Some x → FirstInRow limit m (n + 1) es x) → ((limit < e) × (x ≡ record { m = m; n = n; excess = e })) ⊎ ((e ≤ limit) × (excess_in_row limit m (n + 1) es ≡ Some x)) → FirstInRow limit m n (e ∷ es) x
    go behind (inl q) = rw q.1 (record { place = 0; inside = omega arith; row = refl; column = omega arith; number = refl; above = q.0; before = λ i l. absurd (omega arith) })
    go behind (inr q) =
        let f = behind q.1 in
        record { place = suc f.place; inside = omega (arith, f.inside); row = f.row; column = omega (arith, f.column); number = f.number; above = f.above; before = later f.place q.0 f.before }

none_at : (limit m n e : ℕ) (rest : Option Excess) → excess_at limit m n e rest ≡ None → (e ≤ limit) × (rest ≡ None)
unfolding excess_at excess_of
none_at limit m n e rest h = go (nat_lt limit e) refl h
  where
    go : (b : Bool) → nat_lt limit e ≡ b → (if b then excess_of m n e else rest) ≡ None → (e ≤ limit) × (rest ≡ None)
    go true q z = absurd (cc)
    go false q z = (ltb-false limit e q, z)

none_in_row : (limit m n : ℕ) (es : List ℕ) → excess_in_row limit m n es ≡ None → RowWithin limit es
unfolding excess_in_row RowWithin
none_in_row limit m n [] h i l = absurd (omega arith)
none_in_row limit m n (e ∷ es) h zero l = (none_at limit m n e _ h).0
none_in_row limit m n (e ∷ es) h (suc i) l = none_in_row limit m (n + 1) es (none_at limit m n e _ h).1 i (omega arith)

-- the same of rows, of which the first is of node m
pub record FirstOfRows (limit m : ℕ) (rows : List (List ℕ)) (x : Excess) : Type 0 where
  pub place : ℕ
  pub inside : place < length rows
  pub row : x.m ≡ m + place
  pub column : x.n < length (row_at rows place)
  pub number : x.excess ≡ pair_at rows place x.n
  pub above : limit < x.excess
  pub before : (j i : ℕ) → j < length rows → i < length (row_at rows j) → Before j i place x.n → pair_at rows j i ≤ limit

some_or : (o rest : Option Excess) (x : Excess) → excess_or o rest ≡ Some x → (o ≡ Some x) ⊎ ((o ≡ None) × (rest ≡ Some x))
unfolding excess_or
some_or None rest x h = inr (refl, h)
some_or (Some y) rest x h = inl h

pub first_of_rows : (limit m : ℕ) (rows : List (List ℕ)) (x : Excess) → excess_from limit m rows ≡ Some x → FirstOfRows limit m rows x
unfolding excess_from RowWithin
first_of_rows limit m [] x h = absurd (cc)
first_of_rows limit m (row ∷ rows) x h = go (λ q. first_of_rows limit (m + 1) rows x q) (some_or _ _ x h)
  where
    here : (f : FirstInRow limit m 0 row x) (j i : ℕ) → Before j i 0 x.n → pair_at (row ∷ rows) j i ≤ limit
    here f j i (inl q) = absurd (omega (arith, q))
    here f zero i (inr q) = f.before i (omega (arith, q.1, f.column))
    here f (suc j) i (inr q) = absurd (omega (arith, q.0))

    there : RowWithin limit row → (f : FirstOfRows limit (m + 1) rows x) (j i : ℕ) → j < length (row ∷ rows) → i < length (row_at (row ∷ rows) j) → Before j i (suc f.place) x.n → pair_at (row ∷ rows) j i ≤ limit
    there low f zero i l w b = low i w
    there low f (suc j) i l w (inl q) = f.before j i (omega arith) w (inl (omega (arith, q)))
    there low f (suc j) i l w (inr q) = f.before j i (omega arith) w (inr (omega (arith, q.0), q.1))

    go : (excess_from limit (m + 1) rows ≡ Some x → FirstOfRows limit (m + 1) rows x) → (excess_in_row limit m 0 row ≡ Some x) ⊎ ((excess_in_row limit m 0 row ≡ None) × (excess_from limit (m + 1) rows ≡ Some x)) → FirstOfRows limit m (row ∷ rows) x
    go behind (inl q) =
        let f = first_in_row limit m 0 row x q in
        let column : x.n ≡ f.place = omega (arith, f.column) in
        record { place = 0; inside = omega arith; row = omega (arith, f.row); column = omega (arith, f.column, f.inside); number = rw column f.number; above = f.above; before = λ j i l w b. here f j i b }
    go behind (inr q) =
        let f = behind q.1 in
        record { place = suc f.place; inside = omega (arith, f.inside); row = omega (arith, f.row); column = f.column; number = f.number; above = f.above; before = there (none_in_row limit m 0 row q.0) f }
