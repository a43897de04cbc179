-- The pair that is named is one of the nodes.
use Rattle.st_lemmas.proofs.Words
use Words.{◌≡◌, ℕ, suc, ◌+◌, ◌*◌, ◌<◌, ◌≤◌, Bool, true, false, List, [], ◌∷◌, length, arith, refl, sym, ap, if◌then◌else◌, nat_lt, Option, Some, None, Result}
use Words.{Ok, Err, IfSome, AllByRecursion, Excess}
use Words.Leases.{drift_after, drift_judged, drift_step, excess_at, excess_from, excess_in_row, excess_of, excess_or, first_excess, raise_row, raise_rows}
use Rattle.st_clock.specs.Drifts.{after_step}
use Rattle.st_world.specs.AdvanceTests.{IsPair, excess_in}

judged_is : (r : Result Unit Excess) (d : List (List ℕ)) (o : Option Excess) → after_step r d ≡ drift_judged d o → excess_in r ≡ o
unfolding drift_judged
judged_is (Ok u) d None h = refl
judged_is (Ok u) d (Some x) h = absurd (cc)
judged_is (Err e) d None h = absurd (cc)
judged_is (Err e) d (Some x) h = cc

-- the first pair that a judgement of this advance names
pub first_is : (r : Result Unit Excess) (drift : List (List ℕ)) (steps : List ℕ) (num den grain : ℕ) → after_step r (drift_after drift steps num den) ≡ drift_step drift steps num den grain →
    excess_in r ≡ first_excess (drift_after drift steps num den) den grain
unfolding drift_step
first_is r drift steps num den grain h = judged_is r (drift_after drift steps num den) (first_excess (drift_after drift steps num den) den grain) h

-- a pair of a row
record IsIn (m n : ℕ) (x : Excess) : Type 0 where
  row : x.m ≡ m
  column : x.n < n

here : (m n e : ℕ) (x : Excess) → excess_of m n e ≡ Some x → IsIn m (suc n) x
unfolding excess_of
here m n e x h = let q : record { m = m; n = n; excess = e } ≡ x = cc in record { row = ap (λ (y : Excess). y.m) (sym q); column = let z = ap (λ (y : Excess). y.n) q in omega (arith, z) }

more_in : (m a b : ℕ) (x : Excess) → a ≤ b → IsIn m a x → IsIn m b x
more_in m a b x h q = record { row = q.row; column = omega (arith, q.column, h) }

at_in : (b : Bool) (m n e : ℕ) (rest : Option Excess) (x : Excess) → (if b then excess_of m n e else rest) ≡ Some x → (k : ℕ) → suc n ≤ k → (rest ≡ Some x → IsIn m k x) → IsIn m k x
at_in true m n e rest x h k l more = more_in m (suc n) k x l (here m n e x h)
at_in false m n e rest x h k l more = more h

row_in : (limit m n : ℕ) (es : List ℕ) (x : Excess) → excess_in_row limit m n es ≡ Some x → IsIn m (n + length es) x
unfolding excess_in_row excess_at
row_in limit m n [] x h = absurd (cc)
row_in limit m n (e ∷ es) x h =
    at_in (nat_lt limit e) m n e (excess_in_row limit m (n + 1) es) x h (n + length (e ∷ es)) (omega arith)
    (λ q. more_in m (n + 1 + length es) (n + length (e ∷ es)) x (omega arith) (row_in limit m (n + 1) es x q))

-- rows of at most this many numbers
abbrev AllShort : ℕ → List (List ℕ) → Type 0
AllShort k rows = AllByRecursion (λ row. length row ≤ k) rows

record IsAmong (m k : ℕ) (x : Excess) : Type 0 where
  row : x.m < m
  column : x.n < k

or_among : (o rest : Option Excess) (x : Excess) (m k : ℕ) → excess_or o rest ≡ Some x → (o ≡ Some x → IsAmong m k x) → (rest ≡ Some x → IsAmong m k x) → IsAmong m k x
unfolding excess_or
or_among None rest x m k h a b = b h
or_among (Some y) rest x m k h a b = a h

among : (limit m k : ℕ) (rows : List (List ℕ)) (x : Excess) → AllShort k rows → excess_from limit m rows ≡ Some x → IsAmong (m + length rows) k x
unfolding excess_from
among limit m k [] x short h = absurd (cc)
among limit m k (row ∷ rows) x short h =
    or_among (excess_in_row limit m 0 row) (excess_from limit (m + 1) rows) x (m + length (row ∷ rows)) k h
    (λ q. let i = row_in limit m 0 row x q in record { row = omega (arith, i.row); column = omega (arith, i.column, short.0) })
    (λ q. let i = among limit (m + 1) k rows x short.1 q in record { row = omega (arith, i.row); column = i.column })

raised_short : (num den sm : ℕ) (steps es : List ℕ) → length (raise_row num den sm steps es) ≤ length steps
unfolding raise_row
raised_short num den sm [] es = omega arith
raised_short num den sm (sn ∷ ss) [] = omega arith
raised_short num den sm (sn ∷ ss) (e ∷ es) = let z = raised_short num den sm ss es in omega (arith, z)

rows_short : (num den : ℕ) (steps ss : List ℕ) (rows : List (List ℕ)) → AllShort (length steps) (raise_rows num den steps ss rows)
unfolding raise_rows
rows_short num den steps [] rows = tt
rows_short num den steps (sm ∷ ss) [] = tt
rows_short num den steps (sm ∷ ss) (row ∷ rows) = (raised_short num den sm steps row, rows_short num den steps ss rows)

rows_few : (num den : ℕ) (steps ss : List ℕ) (rows : List (List ℕ)) → length (raise_rows num den steps ss rows) ≤ length ss
unfolding raise_rows
rows_few num den steps [] rows = omega arith
rows_few num den steps (sm ∷ ss) [] = omega arith
rows_few num den steps (sm ∷ ss) (row ∷ rows) = let z = rows_few num den steps ss rows in omega (arith, z)

-- it is a pair of the nodes that advance
pub first_pair : (drift : List (List ℕ)) (steps : List ℕ) (num den grain : ℕ) (x : Excess) → first_excess (drift_after drift steps num den) den grain ≡ Some x → IsPair (length steps) x
unfolding first_excess drift_after
first_pair drift steps num den grain x h =
    let i = among (den * grain) 0 (length steps) (raise_rows num den steps steps drift) x (rows_short num den steps steps drift) h in
    record { ahead = omega (arith, i.row, rows_few num den steps steps drift); behind = i.column }

-- the same, of at most 20 nodes
pub if_pair : (o : Option Excess) (drift : List (List ℕ)) (steps : List ℕ) (num den grain : ℕ) → length steps ≤ 20 → o ≡ first_excess (drift_after drift steps num den) den grain → IfSome o (IsPair 20)
if_pair None drift steps num den grain l h = tt
if_pair (Some x) drift steps num den grain l h =
    let p = first_pair drift steps num den grain x (sym h) in
    record { ahead = omega (arith, p.ahead, l); behind = omega (arith, p.behind, l) }
