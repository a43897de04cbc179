-- Advances that are in bound over every interval are all accepted.
use Rattle.std.proofs.Common.{◌≡◌, ℕ, suc, ◌+◌, ◌*◌, ◌<◌, ◌≤◌, List, [], ◌∷◌, ◌++◌, length, arith, subst, refl, sym, ap, inl, inr}
use Rattle.std.specs.Prelude.{slice_index, fold, Option, Some, None, Ok, ◌⊎◌}
use Rattle.std.proofs.lemmas.Bool.{le-ltb}
use Rattle.st_base.specs.declared.config.Config.{Config}
use Rattle.st_rules.specs.declared.lease.Excess.{Excess}
use Rattle.st_rules.specs.Leases.{IsInBound, AllAccepted, AllFull, InBoundIsAccepted, gain, raised, drift_after, no_drift, excess_at, excess_in_row, excess_or, excess_from, first_excess, drift_judged, drift_step}
use Rattle.st_rules.proofs.Drift.{IsSquare, row_at, pair_at, square_after, pair_after, square_first, pair_first}

-- a number of a pair is what the one gained over some last advances, without what the other did
record Attained (k : Config) (d done : List (List ℕ)) (m n : ℕ) : Type 0 where
  before : List (List ℕ)
  during : List (List ℕ)
  split : done ≡ before ++ during
  sum : pair_at d m n + k.num * gain n during ≡ k.den * gain m during

gain_more_from : (m a : ℕ) (q : List (List ℕ)) (s : List ℕ) → fold (λ x steps. x + slice_index steps m) a (q ++ (s ∷ [])) ≡ fold (λ x steps. x + slice_index steps m) a q + slice_index s m
gain_more_from m a [] s = refl
gain_more_from m a (x ∷ q) s = gain_more_from m (a + slice_index x m) q s

append_one : {A : Type 0} (p q : List A) (s : A) → (p ++ q) ++ (s ∷ []) ≡ p ++ (q ++ (s ∷ []))
append_one [] q s = refl
append_one (x ∷ p) q s = ap (λ l. x ∷ l) (append_one p q s)

append_nothing : {A : Type 0} (p : List A) → p ≡ p ++ []
append_nothing [] = refl
append_nothing (x ∷ p) = ap (λ l. x ∷ l) (append_nothing p)

append_cons : {A : Type 0} (p q : List A) (s : A) → (p ++ (s ∷ [])) ++ q ≡ p ++ (s ∷ q)
append_cons [] q s = refl
append_cons (x ∷ p) q s = ap (λ l. x ∷ l) (append_cons p q s)

append_three : {A : Type 0} (p q r : List A) → (p ++ q) ++ r ≡ p ++ (q ++ r)
append_three [] q r = refl
append_three (x ∷ p) q r = ap (λ l. x ∷ l) (append_three p q r)

-- a difference is exact, or 0
exact_or_zero : (num den e sm sn : ℕ) → (raised num den e sm sn + num * sn ≡ e + den * sm) ⊎ (raised num den e sm sn ≡ 0)
exact_or_zero num den e sm sn = grind arith

attained_more : (k : Config) (d done : List (List ℕ)) (s : List ℕ) (nodes m n : ℕ) → length s ≡ nodes → IsSquare d nodes → m < nodes → n < nodes → Attained k d done m n → Attained k (drift_after d s k.num k.den) (done ++ (s ∷ [])) m n
attained_more k d done s nodes m n full sq i j at = go (exact_or_zero k.num k.den (pair_at d m n) (slice_index s m) (slice_index s n))
  where
    p : pair_at (drift_after d s k.num k.den) m n ≡ raised k.num k.den (pair_at d m n) (slice_index s m) (slice_index s n)
    p = pair_after d s k.num k.den nodes m n full sq i j

    go : (raised k.num k.den (pair_at d m n) (slice_index s m) (slice_index s n) + k.num * slice_index s n ≡ pair_at d m n + k.den * slice_index s m) ⊎ (raised k.num k.den (pair_at d m n) (slice_index s m) (slice_index s n) ≡ 0) → Attained k (drift_after d s k.num k.den) (done ++ (s ∷ [])) m n
    go (inl e) = record {
      before = at.before;
      during = at.during ++ (s ∷ []);
      split = rw at.split (append_one at.before at.during s);
      sum =
          let gn : gain n (at.during ++ (s ∷ [])) ≡ gain n at.during + slice_index s n = gain_more_from n 0 at.during s in
          let gm : gain m (at.during ++ (s ∷ [])) ≡ gain m at.during + slice_index s m = gain_more_from m 0 at.during s in
          rw (gn, gm, p) (omega (arith, e, at.sum));
    }
    go (inr e) = record { before = done ++ (s ∷ []); during = []; split = append_nothing (done ++ (s ∷ [])); sum = let z : pair_at (drift_after d s k.num k.den) m n ≡ 0 = rw p e in omega arith }

-- all pairs within the limit
at_none : (limit m n e : ℕ) (rest : Option Excess) → e ≤ limit → rest ≡ None → excess_at limit m n e rest ≡ None
unfolding excess_at
at_none limit m n e rest h r = rw (le-ltb limit e h) r

row_none : (limit m n : ℕ) (es : List ℕ) → ((i : ℕ) → i < length es → slice_index es i ≤ limit) → excess_in_row limit m n es ≡ None
unfolding excess_in_row
row_none limit m n [] h = refl
row_none limit m n (e ∷ es) h = at_none limit m n e _ (h 0 (omega arith)) (row_none limit m (n + 1) es (λ i l. h (suc i) (omega arith)))

or_none : (x rest : Option Excess) → x ≡ None → rest ≡ None → excess_or x rest ≡ None
unfolding excess_or
or_none None rest e r = r
or_none (Some x) rest e r = absurd (cc)

rows_none : (limit m : ℕ) (rows : List (List ℕ)) → ((j i : ℕ) → j < length rows → i < length (row_at rows j) → pair_at rows j i ≤ limit) → excess_from limit m rows ≡ None
unfolding excess_from
rows_none limit m [] h = refl
rows_none limit m (row ∷ rows) h = or_none _ _ (row_none limit m 0 row (λ i l. h 0 i (omega arith) l)) (rows_none limit (m + 1) rows (λ j i l w. h (suc j) i (omega arith) w))

step_ok : (k : Config) (d : List (List ℕ)) (s : List ℕ) → first_excess (drift_after d s k.num k.den) k.den k.grain ≡ None → drift_step d s k.num k.den k.grain ≡ Ok (drift_after d s k.num k.den)
unfolding drift_step drift_judged
step_ok k d s h = rw h refl

first_none : (k : Config) (d : List (List ℕ)) → ((j i : ℕ) → j < length d → i < length (row_at d j) → pair_at d j i ≤ k.den * k.grain) → first_excess d k.den k.grain ≡ None
unfolding first_excess
first_none k d h = rows_none (k.den * k.grain) 0 d h

from_here : (k : Config) (nodes : ℕ) (d done rest : List (List ℕ)) → IsSquare d nodes → ((m n : ℕ) → m < nodes → n < nodes → Attained k d done m n) → AllFull nodes rest → IsInBound k nodes (done ++ rest) → AllAccepted k d rest
from_here k nodes d done [] sq at full bound = tt
from_here k nodes d done (s ∷ rest) sq at full bound = (step_ok k d s (first_none k d1 within), from_here k nodes d1 (done ++ (s ∷ [])) rest sq1 at1 full.1 bound1)
  where
    d1 : List (List ℕ)
    d1 = drift_after d s k.num k.den

    sq1 : IsSquare d1 nodes
    sq1 = square_after d s k.num k.den nodes full.0 sq

    at1 : (m n : ℕ) → m < nodes → n < nodes → Attained k d1 (done ++ (s ∷ [])) m n
    at1 m n i j = attained_more k d done s nodes m n full.0 sq i j (at m n i j)

    bound1 : IsInBound k nodes ((done ++ (s ∷ [])) ++ rest)
    bound1 = subst (IsInBound k nodes) (sym (append_cons done rest s)) bound

    within : (j i : ℕ) → j < length d1 → i < length (row_at d1 j) → pair_at d1 j i ≤ k.den * k.grain
    within j i l w =
        let jn : j < nodes = omega (arith, sq1.tall) in
        let on : i < nodes = omega (arith, sq1.wide j jn) in
        let a = at1 j i jn on in
        let e : (done ++ (s ∷ [])) ++ rest ≡ a.before ++ (a.during ++ rest) = rw a.split (append_three a.before a.during rest) in
        let b = bound1.over a.before a.during rest e j i jn on in
        omega (arith, a.sum)

pub in_bound_accepted : InBoundIsAccepted
in_bound_accepted k nodes advances full bound = from_here k nodes (no_drift nodes) [] advances (square_first nodes) (λ m n i j. record { before = []; during = []; split = refl; sum = let z = pair_first nodes m n i j in omega arith }) full bound
