-- Runs of free places: the first place, and what holds after one is taken or given back.
use Rattle.std.proofs.Common.{◌≡◌, ℕ, zero, suc, ◌+◌, ◌-◌, ◌*◌, ◌<◌, ◌≤◌, Bool, true, false, if◌then◌else◌, List, [], ◌∷◌, ◌++◌, length, filter, set, get_or, take, drop, append_assoc, length-append, add-zero, zero-add, arith, refl, sym, ap, subst, ◌∙◌, ⊎_elim, inl, inr, true≢false}
use Rattle.std.specs.Prelude.{not, replicate, nat_le, nat_lt, ◌&&◌, ◌||◌, ◌==◌, ◌⊎◌}
use Rattle.std.specs.List.{insert, remove}
use Rattle.std.proofs.lemmas.Bool.{and_from, and_left, and_parts, and_right, cases_eq, cases_lt, cases_order, cond-false, cond-true, eq-eqb, eqb-false, eqb-true, le-leb, le-ltb, leb-true, lt-leb, lt-ltb, ltb-false, ltb-true, ne_eqb, not-false, not-true, or_cases, or_from, or_left, or_right}
use Rattle.std.proofs.lemmas.List.{drop_all, drop_more, ext_get_or, get_or-set_other, get_or-set_same, get_or-replicate, length-replicate, length-set, length-take-le, set_at, set_split, take-append-drop, take_all, take_more}
use Rattle.std.proofs.lemmas.List.Folds.{list_any-append}
use Rattle.st_extents.specs.FreeRuns.{AreBelow, BeginsUpTo, IsFreeTable, IsGap, IsGivenTo, IsTakenFrom, begins_at, ends_above, ends_at, first_of, holds, is_free, taken_from}
use Rattle.st_extents.specs.declared.free_runs.FreeRun.{FreeRun}
use Rattle.st_extents.proofs.TakenPlaces.{few_free, one_given, one_taken}

-- Tests as facts on numbers.

holds_from : (j : ℕ) (r : FreeRun) → r.start ≤ j → j < r.end → holds j r ≡ true
holds_from j r l m = and_from (nat_le r.start j) (nat_lt j r.end) (le-leb r.start j l) (lt-ltb j r.end m)

holds_parts : (j : ℕ) (r : FreeRun) → holds j r ≡ true → (r.start ≤ j) × (j < r.end)
holds_parts j r h =
    let p = and_parts (nat_le r.start j) (nat_lt j r.end) h in
    (leb-true r.start j p.0, ltb-true j r.end p.1)

holds_low : (j : ℕ) (r : FreeRun) → j < r.start → holds j r ≡ false
holds_low j r l = and_left (nat_le r.start j) (nat_lt j r.end) (lt-leb r.start j l)

holds_high : (j : ℕ) (r : FreeRun) → r.end ≤ j → holds j r ≡ false
holds_high j r l = and_right (nat_le r.start j) (nat_lt j r.end) (le-ltb j r.end l)

-- Runs in order.

first_low : (n : ℕ) (rs : List FreeRun) → AreBelow n rs → first_of n rs ≤ n
first_low n [] b = omega arith
first_low n (r ∷ rs) b =
    let k = first_low r.start rs b.1.1 in
    let s = b.0 in
    let e = b.1.0 in
    omega (arith, k, s, e)

-- no place below the start of the last run is free
above_free : (n : ℕ) (rs : List FreeRun) (j : ℕ) → AreBelow n rs → j < first_of n rs → is_free rs j ≡ false
above_free n [] j b l = refl
above_free n (r ∷ rs) j b l =
    let k = first_low r.start rs b.1.1 in
    or_from (holds j r) (is_free rs j) (holds_low j r (omega (arith, k, l))) (above_free r.start rs j b.1.1 l)

-- no place from the number on is free
below_free : (n : ℕ) (rs : List FreeRun) (j : ℕ) → AreBelow n rs → n ≤ j + 1 → is_free rs j ≡ false
below_free n [] j b l = refl
below_free n (r ∷ rs) j b l =
    let s = b.0 in
    let e = b.1.0 in
    or_from (holds j r) (is_free rs j) (holds_high j r (omega (arith, e, l))) (below_free r.start rs j b.1.1 (omega (arith, s, e, l)))

pub below_few : (n : ℕ) (rs : List FreeRun) → AreBelow n rs → 2 * length rs ≤ n
below_few n [] b = omega arith
below_few n (r ∷ rs) b =
    let k = below_few r.start rs b.1.1 in
    let s = b.0 in
    let e = b.1.0 in
    omega (arith, k, s, e)

first_append : (n : ℕ) (xs ys : List FreeRun) → first_of n (xs ++ ys) ≡ first_of (first_of n xs) ys
first_append n [] ys = refl
first_append n (x ∷ xs) ys = first_append x.start xs ys

below_left : (n : ℕ) (xs ys : List FreeRun) → AreBelow n (xs ++ ys) → AreBelow n xs
below_left n [] ys b = tt
below_left n (x ∷ xs) ys b = (b.0, (b.1.0, below_left x.start xs ys b.1.1))

below_right : (n : ℕ) (xs ys : List FreeRun) → AreBelow n (xs ++ ys) → AreBelow (first_of n xs) ys
below_right n [] ys b = b
below_right n (x ∷ xs) ys b = below_right x.start xs ys b.1.1

below_join : (n : ℕ) (xs ys : List FreeRun) → AreBelow n xs → AreBelow (first_of n xs) ys → AreBelow n (xs ++ ys)
below_join n [] ys a b = b
below_join n (x ∷ xs) ys a b = (a.0, (a.1.0, below_join x.start xs ys a.1.1 b))

-- if there is a run, the number does not count
pub first_any : (m n : ℕ) (rs : List FreeRun) → 1 ≤ length rs → first_of m rs ≡ first_of n rs
first_any m n [] l = absurd (omega (arith, l))
first_any m n (r ∷ rs) l = refl

first_free : (n : ℕ) (rs : List FreeRun) → AreBelow n rs → 1 ≤ length rs → is_free rs (first_of n rs) ≡ true
first_free n [] b l = absurd (omega (arith, l))
first_free n (r ∷ []) b l = or_left (holds r.start r) false (holds_from r.start r (omega arith) b.0)
first_free n (r ∷ q ∷ rs) b l = or_right (holds (first_of n (r ∷ q ∷ rs)) r) (is_free (q ∷ rs) (first_of n (r ∷ q ∷ rs)))
    (first_free r.start (q ∷ rs) b.1.1 (omega arith))

-- the start of the run at an index
pub first_at : (n : ℕ) (rs : List FreeRun) (i : ℕ) (d : FreeRun) → i < length rs → first_of n (take (i + 1) rs) ≡ (get_or rs i d).start
first_at n rs i d l = ap (first_of n) (take_more rs i d l) ∙ first_append n (take i rs) (get_or rs i d ∷ [])

pub first_last : (n : ℕ) (rs : List FreeRun) (i : ℕ) (d : FreeRun) → i + 1 ≡ length rs → first_of n rs ≡ (get_or rs i d).start
first_last n rs i d e = ap (first_of n) (sym (take_all (i + 1) rs (omega (arith, e)))) ∙ first_at n rs i d (omega (arith, e))

-- the start of the run before an index
pub first_front : (n : ℕ) (rs : List FreeRun) (i : ℕ) (d : FreeRun) → 1 ≤ i → i ≤ length rs → first_of n (take i rs) ≡ (get_or rs (i - 1) d).start
first_front n rs i d l m =
    let e : i ≡ i - 1 + 1 = omega (arith, l) in
    ap (λ j. first_of n (take j rs)) e ∙ first_at n rs (i - 1) d (omega (arith, l, m))

free_append : (xs ys : List FreeRun) (j : ℕ) → is_free (xs ++ ys) j ≡ (is_free xs j || is_free ys j)
free_append xs ys j = list_any-append (holds j) xs ys

-- The first place.

pub first_within : (n : ℕ) (rs : List FreeRun) → AreBelow (n + 1) rs → first_of n rs ≤ n
first_within n [] b = omega arith
first_within n (r ∷ rs) b =
    let k = first_low r.start rs b.1.1 in
    let s = b.0 in
    let e = b.1.0 in
    omega (arith, k, s, e)

pub first_before : (n : ℕ) (rs : List FreeRun) (j : ℕ) → AreBelow (n + 1) rs → j < first_of n rs → is_free rs j ≡ false
first_before n [] j b l = refl
first_before n (r ∷ rs) j b l = above_free (n + 1) (r ∷ rs) j b l

pub first_there : (n : ℕ) (rs : List FreeRun) → AreBelow (n + 1) rs → first_of n rs < n → is_free rs (first_of n rs) ≡ true
first_there n [] b l = absurd (omega (arith, l))
first_there n (r ∷ rs) b l = first_free (n + 1) (r ∷ rs) b (omega arith)

-- a free place is the first one if no place before it is free
pub first_only : (n : ℕ) (rs : List FreeRun) (p : ℕ) → AreBelow (n + 1) rs → ((j : ℕ) → j < p → is_free rs j ≡ false) → p < n → is_free rs p ≡ true →
    first_of n rs ≡ p
first_only n rs p b before l h =
    ⊎_elim (λ e. e)
    (λ o. absurd (⊎_elim
    (λ m. true≢false (sym (first_there n rs b (omega (arith, m, l))) ∙ before (first_of n rs) m))
    (λ m. true≢false (sym h ∙ first_before n rs p b m))
    o))
    (cases_order (first_of n rs) p)

pub free_some : (rs : List FreeRun) (p : ℕ) → is_free rs p ≡ true → 1 ≤ length rs
free_some [] p h = absurd (true≢false (sym h))
free_some (r ∷ rs) p h = omega arith

-- Places, one by one.

pub taken_long : (rs : List FreeRun) (i n : ℕ) → length (taken_from rs i n) ≡ n
unfolding taken_from
taken_long rs i zero = refl
taken_long rs i (suc n) = ap suc (taken_long rs (i + 1) n)

taken_at : (rs : List FreeRun) (i n j : ℕ) (d : Bool) → j < n → get_or (taken_from rs i n) j d ≡ not (is_free rs (i + j))
unfolding taken_from
taken_at rs i zero j d l = absurd (omega (arith, l))
taken_at rs i (suc n) zero d l = ap (λ m. not (is_free rs m)) (sym (add-zero i))
taken_at rs i (suc n) (suc j) d l =
    let e : i + 1 + j ≡ i + suc j = omega arith in
    taken_at rs (i + 1) n j d (omega (arith, l)) ∙ ap (λ m. not (is_free rs m)) e

pub told_place : (rs : List FreeRun) (n j : ℕ) (d : Bool) → j < n → get_or (taken_from rs 0 n) j d ≡ not (is_free rs j)
told_place rs n j d l = taken_at rs 0 n j d l ∙ ap (λ m. not (is_free rs m)) (zero-add j)

-- two lists that tell the same of each place
told_same : (rs : List FreeRun) (n : ℕ) (ts : List Bool) → length ts ≡ n → ((j : ℕ) → j < n → get_or ts j true ≡ not (is_free rs j)) → taken_from rs 0 n ≡ ts
told_same rs n ts e h =
    let k = taken_long rs 0 n in
    ext_get_or true (taken_from rs 0 n) ts (k ∙ sym e) (λ j l. told_place rs n j true (omega (arith, l, k)) ∙ sym (h j (omega (arith, l, k))))

-- a place was taken
pub told_taken : (old new : List FreeRun) (n p : ℕ) → p < n → ((j : ℕ) → is_free new j ≡ (is_free old j && not (j == p))) →
    taken_from new 0 n ≡ set (taken_from old 0 n) p true
told_taken old new n p l h =
    let k = taken_long old 0 n in
    told_same new n (set (taken_from old 0 n) p true) (length-set (taken_from old 0 n) p true ∙ k)
    (λ j m. ⊎_elim
    (λ (e : j ≡ p).
    ap (λ i. get_or (set (taken_from old 0 n) p true) i true) e ∙ get_or-set_same (taken_from old 0 n) p true true (omega (arith, l, k))
    ∙ sym (ap not (h j ∙ ap (λ b. is_free old j && not b) (eq-eqb j p e) ∙ and_right (is_free old j) false refl)))
    (λ e.
    get_or-set_other (taken_from old 0 n) p j true true e ∙ told_place old n j true m
    ∙ sym (ap not (h j ∙ ap (λ b. is_free old j && not b) (ne_eqb j p e) ∙ and_one (is_free old j))))
    (cases_eq j p))
  where
    and_one : (b : Bool) → (b && true) ≡ b
    and_one true = refl
    and_one false = refl

-- a place was given back
pub told_given : (old new : List FreeRun) (n p : ℕ) → p < n → ((j : ℕ) → is_free new j ≡ (is_free old j || (j == p))) →
    taken_from new 0 n ≡ set (taken_from old 0 n) p false
told_given old new n p l h =
    let k = taken_long old 0 n in
    told_same new n (set (taken_from old 0 n) p false) (length-set (taken_from old 0 n) p false ∙ k)
    (λ j m. ⊎_elim
    (λ (e : j ≡ p).
    ap (λ i. get_or (set (taken_from old 0 n) p false) i true) e ∙ get_or-set_same (taken_from old 0 n) p false true (omega (arith, l, k))
    ∙ sym (ap not (h j ∙ or_right (is_free old j) (j == p) (eq-eqb j p e))))
    (λ e.
    get_or-set_other (taken_from old 0 n) p j false true e ∙ told_place old n j true m
    ∙ sym (ap not (h j ∙ ap (λ b. is_free old j || b) (ne_eqb j p e) ∙ or_none (is_free old j))))
    (cases_eq j p))
  where
    or_none : (b : Bool) → (b || false) ≡ b
    or_none true = refl
    or_none false = refl

-- none is taken
pub told_new : (rs : List FreeRun) (n : ℕ) → ((j : ℕ) → j < n → is_free rs j ≡ true) → taken_from rs 0 n ≡ replicate n false
told_new rs n h = told_same rs n (replicate n false) (length-replicate n false) (λ j l. get_or-replicate n j false true l ∙ sym (ap not (h j l)))

one_run : (rs : List FreeRun) (n : ℕ) → rs ≡ (if n == 0 then [] else record { start = 0; end = n } ∷ []) → 0 < n → rs ≡ record { start = 0; end = n } ∷ []
one_run rs n e l = e ∙ cond-false (n == 0) [] (record { start = 0; end = n } ∷ []) (ne_eqb n 0 (λ (z : n ≡ 0). omega (arith, z, l)))

pub all_in_one : (rs : List FreeRun) (n : ℕ) → rs ≡ (if n == 0 then [] else record { start = 0; end = n } ∷ []) → (j : ℕ) → j < n → is_free rs j ≡ true
all_in_one rs n e j l = ap (λ xs. is_free xs j) (one_run rs n e (omega (arith, l))) ∙
    or_left (holds j (record { start = 0; end = n })) false (holds_from j (record { start = 0; end = n }) (omega arith) l)

pub one_below : (rs : List FreeRun) (n : ℕ) → rs ≡ (if n == 0 then [] else record { start = 0; end = n } ∷ []) → AreBelow (n + 1) rs
one_below rs n e =
    ⊎_elim
    (λ (z : n ≡ 0). subst (AreBelow (n + 1)) (sym (e ∙ cond-true (n == 0) [] (record { start = 0; end = n } ∷ []) (eq-eqb n 0 z))) tt)
    (λ z. let l : 0 < n = omega (arith, z) in subst (AreBelow (n + 1)) (sym (one_run rs n e l)) (l, (omega arith, tt)))
    (cases_eq n 0)

-- The first place is taken.

last_split : (rs : List FreeRun) (i : ℕ) (d : FreeRun) → i + 1 ≡ length rs → take i rs ++ get_or rs i d ∷ [] ≡ rs
last_split rs i d e = sym (take_more rs i d (omega (arith, e))) ∙ take_all (i + 1) rs (omega (arith, e))

last_set : (rs : List FreeRun) (i : ℕ) (y : FreeRun) → i + 1 ≡ length rs → set rs i y ≡ take i rs ++ y ∷ []
last_set rs i y e = set_split rs i y (omega (arith, e)) ∙ ap (λ l. take i rs ++ y ∷ l) (drop_all (suc i) rs (omega (arith, e)))

-- a test on a last run that goes
gone_test : (l x e : Bool) → (x ≡ true → e ≡ true) → (e ≡ true → l ≡ false) → l ≡ ((l || (x || false)) && not e)
gone_test l x true f g = g refl ∙ sym (and_right (l || (x || false)) false refl)
gone_test l true false f g = absurd (true≢false (sym (f refl)))
gone_test true false false f g = refl
gone_test false false false f g = refl

-- a test on a last run that loses a place
less_test : (l x y e : Bool) → (y ≡ true → x ≡ true) → (x ≡ true → (y ≡ true) ⊎ (e ≡ true)) → (e ≡ true → (l ≡ false) × (y ≡ false)) →
    (l || (y || false)) ≡ ((l || (x || false)) && not e)
less_test l x y true f g h = or_from l (y || false) (h refl).0 (or_from y false (h refl).1 refl) ∙ sym (and_right (l || (x || false)) false refl)
less_test true x y false f g h = refl
less_test false true true false f g h = refl
less_test false true false false f g h = ⊎_elim (λ e. absurd (true≢false (sym e))) (λ e. absurd (true≢false (sym e))) (g refl)
less_test false false true false f g h = absurd (true≢false (sym (f refl)))
less_test false false false false f g h = refl

whole_gone : (n p : ℕ) (xs : List FreeRun) (x : FreeRun) → x.start ≡ p → x.end ≡ p + 1 → AreBelow n (xs ++ x ∷ []) →
    AreBelow n xs × ((j : ℕ) → is_free xs j ≡ (is_free (xs ++ x ∷ []) j && not (j == p)))
whole_gone n p xs x s e b =
    let low = below_left n xs (x ∷ []) b in
    let r = below_right n xs (x ∷ []) b in
    let under = r.0 in
    let over = r.1.0 in (
      low,
      λ j.
          gone_test (is_free xs j) (holds j x) (j == p)
          (λ h. let k = holds_parts j x h in let k0 = k.0 in let k1 = k.1 in eq-eqb j p (omega (arith, k0, k1, s, e)))
          (λ h. let q = eqb-true j p h in above_free n xs j low (omega (arith, q, s, under, over)))
          ∙ ap (λ t. t && not (j == p)) (sym (free_append xs (x ∷ []) j)),
    )

place_gone : (n p : ℕ) (xs : List FreeRun) (x y : FreeRun) → x.start ≡ p → y.start ≡ p + 1 → y.end ≡ x.end → p + 1 < x.end → AreBelow n (xs ++ x ∷ []) →
    AreBelow n (xs ++ y ∷ []) × ((j : ℕ) → is_free (xs ++ y ∷ []) j ≡ (is_free (xs ++ x ∷ []) j && not (j == p)))
place_gone n p xs x y s t e l b =
    let low = below_left n xs (x ∷ []) b in
    let r = below_right n xs (x ∷ []) b in
    let under = r.0 in
    let over = r.1.0 in (
      below_join n xs (y ∷ []) low (omega (arith, t, e, l), (omega (arith, e, over), tt)),
      λ j.
          free_append xs (y ∷ []) j
          ∙ less_test (is_free xs j) (holds j x) (holds j y) (j == p)
          (λ h. let k = holds_parts j y h in let k0 = k.0 in let k1 = k.1 in holds_from j x (omega (arith, k0, s, t)) (omega (arith, k1, e)))
          (λ h.
          let k = holds_parts j x h in
          let k0 = k.0 in
          let k1 = k.1 in
          ⊎_elim (λ q. inr (eq-eqb j p q)) (λ q. inl (holds_from j y (omega (arith, k0, s, t, q)) (omega (arith, k1, e)))) (cases_eq j p))
          (λ h.
          let q = eqb-true j p h in
          (above_free n xs j low (omega (arith, q, s, under, over)), holds_low j y (omega (arith, q, t))))
          ∙ ap (λ t. t && not (j == p)) (sym (free_append xs (x ∷ []) j)),
    )

pub taken_whole : (rs : List FreeRun) (i p : ℕ) (d : FreeRun) → i + 1 ≡ length rs → (get_or rs i d).start ≡ p → (get_or rs i d).end ≡ p + 1 →
    IsTakenFrom p rs (take i rs)
taken_whole rs i p d e s f = λ n b.
    let split = last_split rs i d e in
    subst (λ xs. AreBelow n (take i rs) × ((j : ℕ) → is_free (take i rs) j ≡ (is_free xs j && not (j == p)))) split
    (whole_gone n p (take i rs) (get_or rs i d) s f (subst (AreBelow n) (sym split) b))

pub taken_place : (rs : List FreeRun) (i p m : ℕ) (d : FreeRun) → i + 1 ≡ length rs → (get_or rs i d).start ≡ p → (get_or rs i d).end ≡ m → (m ≡ p + 1 → ⊥) →
    IsTakenFrom p rs (set rs i (record { start = p + 1; end = m }))
taken_place rs i p m d e s u f = λ n b.
    let split = last_split rs i d e in
    let c : AreBelow n (take i rs ++ get_or rs i d ∷ []) = subst (AreBelow n) (sym split) b in
    let r = below_right n (take i rs) (get_or rs i d ∷ []) c in
    let under = r.0 in
    subst (λ ys. AreBelow n ys × ((j : ℕ) → is_free ys j ≡ (is_free rs j && not (j == p)))) (sym (last_set rs i (record { start = p + 1; end = m }) e))
    (subst (λ xs. AreBelow n (take i rs ++ record { start = p + 1; end = m } ∷ []) ×
    ((j : ℕ) → is_free (take i rs ++ record { start = p + 1; end = m } ∷ []) j ≡ (is_free xs j && not (j == p)))) split
    (place_gone n p (take i rs) (get_or rs i d) (record { start = p + 1; end = m }) s refl (sym u) (omega (arith, under, s, u, f)) c))

-- A place is given back.

or_none : (b : Bool) → (b || false) ≡ b
or_none true = refl
or_none false = refl

-- a test on a run in the place of others
given_test : (l m r h e : Bool) → (h ≡ true → (m ≡ true) ⊎ (e ≡ true)) → (m ≡ true → h ≡ true) → (e ≡ true → h ≡ true) →
    (l || (h || r)) ≡ ((l || (m || r)) || e)
given_test true m r h e f g k = refl
given_test false true r true e f g k = refl
given_test false true r false e f g k = absurd (true≢false (sym (g refl)))
given_test false false r true true f g k = sym (or_right r true refl)
given_test false false r true false f g k = ⊎_elim (λ e. absurd (true≢false (sym e))) (λ e. absurd (true≢false (sym e))) (f refl)
given_test false false r false true f g k = absurd (true≢false (sym (k refl)))
given_test false false r false false f g k = sym (or_none r)

-- a run in the place of others that has their places and one more
given_by : (n p : ℕ) (xs ms ys : List FreeRun) (m : FreeRun) → AreBelow n (xs ++ (ms ++ ys)) → m.start ≤ p → p < m.end → m.end < first_of n xs →
    AreBelow m.start ys
    → ((j : ℕ) → is_free ms j ≡ true → (m.start ≤ j) × (j < m.end)) → ((j : ℕ) → m.start ≤ j → j < m.end → (j ≡ p → ⊥) → is_free ms j ≡ true)
    → AreBelow n (xs ++ m ∷ ys) × ((j : ℕ) → is_free (xs ++ m ∷ ys) j ≡ (is_free (xs ++ (ms ++ ys)) j || (j == p)))
given_by n p xs ms ys m b s e top bottom inside covers = (
  below_join n xs (m ∷ ys) (below_left n xs (ms ++ ys) b) (omega (arith, s, e), (top, bottom)),
  λ j.
      free_append xs (m ∷ ys) j
      ∙ given_test (is_free xs j) (is_free ms j) (is_free ys j) (holds j m) (j == p)
      (λ h.
      let k = holds_parts j m h in
      ⊎_elim (λ q. inr (eq-eqb j p q)) (λ q. inl (covers j k.0 k.1 q)) (cases_eq j p))
      (λ h. let k = inside j h in holds_from j m k.0 k.1)
      (λ h. let q = eqb-true j p h in holds_from j m (omega (arith, q, s)) (omega (arith, q, e)))
      ∙ ap (λ t. t || (j == p)) (sym (free_append xs (ms ++ ys) j ∙ ap (λ t. is_free xs j || t) (free_append ms ys j))),
)

gap_top : (n p : ℕ) (xs : List FreeRun) → begins_at (p + 1) xs ≡ false → p + 1 < n → p < first_of n xs → p + 1 < first_of n xs
gap_top n p [] a l k = l
gap_top n p (x ∷ xs) a l k = let e = eqb-false (first_of x.start xs) (p + 1) a in omega (arith, e, k)

gap_bottom : (m p : ℕ) (ys : List FreeRun) → AreBelow m ys → BeginsUpTo p ys → ends_above p ys ≡ false → ends_at p ys ≡ false → AreBelow p ys
gap_bottom m p [] b s u a = tt
gap_bottom m p (y ∷ ys) b s u a =
    let k = ltb-false p y.end u in
    let e = eqb-false y.end p a in
    (b.0, (omega (arith, k, e), b.1.1))

-- one run
only_holds : (j : ℕ) (x : FreeRun) → is_free (x ∷ []) j ≡ true → (x.start ≤ j) × (j < x.end)
only_holds j x h = holds_parts j x (sym (or_none (holds j x)) ∙ h)

-- where the rest begins
rest_split : (rs : List FreeRun) (i : ℕ) (d : FreeRun) → i < length rs → take i rs ++ (get_or rs i d ∷ drop (i + 1) rs) ≡ rs
rest_split rs i d l = ap (λ xs. take i rs ++ xs) (sym (drop_more rs i d l)) ∙ take-append-drop i rs

rest_set : (rs : List FreeRun) (i : ℕ) (m : FreeRun) → i < length rs → set rs i m ≡ take i rs ++ m ∷ drop (i + 1) rs
rest_set rs i m l = let e : suc i ≡ i + 1 = omega arith in set_split rs i m l ∙ ap (λ k. take i rs ++ m ∷ drop k rs) e

begins_there : (rs : List FreeRun) (k q : ℕ) (d : FreeRun) → k < length rs → begins_at q (take (k + 1) rs) ≡ true → (get_or rs k d).start ≡ q
begins_there rs k q d l a = sym (first_at 0 rs k d l) ∙ eqb-true (first_of 0 (take (k + 1) rs)) q a

ends_there : (rs : List FreeRun) (i p : ℕ) (d : FreeRun) → i < length rs → ends_at p (drop i rs) ≡ true → (get_or rs i d).end ≡ p
ends_there rs i p d l a = eqb-true (get_or rs i d).end p (sym (ap (ends_at p) (drop_more rs i d l)) ∙ a)

pub given_alone : (rs : List FreeRun) (i p : ℕ) → IsGap p (take i rs) (drop i rs) → begins_at (p + 1) (take i rs) ≡ false → ends_at p (drop i rs) ≡ false →
    IsGivenTo p rs (insert rs i (record { start = p; end = p + 1 }))
given_alone rs i p g a o = λ n l b.
    let split = take-append-drop i rs in
    let c : AreBelow n (take i rs ++ drop i rs) = subst (AreBelow n) (sym split) b in
    subst (λ xs. AreBelow n (insert rs i (record { start = p; end = p + 1 })) ×
    ((j : ℕ) → is_free (insert rs i (record { start = p; end = p + 1 })) j ≡ (is_free xs j || (j == p)))) split
    (given_by n p (take i rs) [] (drop i rs) (record { start = p; end = p + 1 }) c (omega arith) (omega arith)
    (gap_top n p (take i rs) a l (g.behind n (omega (arith, l))))
    (gap_bottom (first_of n (take i rs)) p (drop i rs) (below_right n (take i rs) (drop i rs) c) g.begun g.ended o)
    (λ j h. absurd (true≢false (sym h)))
    (λ j s e q. absurd (q (omega (arith, s, e)))))

-- the run above begins after the place
given_down : (rs : List FreeRun) (k p m : ℕ) (d : FreeRun) → k < length rs → (get_or rs k d).end ≡ m → IsGap p (take (k + 1) rs) (drop (k + 1) rs) →
    begins_at (p + 1) (take (k + 1) rs) ≡ true → ends_at p (drop (k + 1) rs) ≡ false → IsGivenTo p rs (set rs k (record { start = p; end = m }))
given_down rs k p m d w t g a o = λ n l b.
    let split = rest_split rs k d w in
    let x = get_or rs k d in
    let c : AreBelow n (take k rs ++ (x ∷ drop (k + 1) rs)) = subst (AreBelow n) (sym split) b in
    let r = below_right n (take k rs) (x ∷ drop (k + 1) rs) c in
    let under = r.0 in
    let over = r.1.0 in
    let s = begins_there rs k (p + 1) d w a in
    subst (λ ys. AreBelow n ys × ((j : ℕ) → is_free ys j ≡ (is_free rs j || (j == p)))) (sym (rest_set rs k (record { start = p; end = m }) w))
    (subst (λ xs. AreBelow n (take k rs ++ record { start = p; end = m } ∷ drop (k + 1) rs) ×
    ((j : ℕ) → is_free (take k rs ++ record { start = p; end = m } ∷ drop (k + 1) rs) j ≡ (is_free xs j || (j == p)))) split
    (given_by n p (take k rs) (x ∷ []) (drop (k + 1) rs) (record { start = p; end = m }) c (omega arith) (omega (arith, under, s, t)) (omega (arith, over, t))
    (gap_bottom x.start p (drop (k + 1) rs) r.1.1 g.begun g.ended o)
    (λ j h. let q = only_holds j x h in let q0 = q.0 in let q1 = q.1 in (omega (arith, q0, s), omega (arith, q1, t)))
    (λ j u e q. or_left (holds j x) false (holds_from j x (omega (arith, u, q, s)) (omega (arith, e, t))))))

-- the run below ends at the place
pub given_up : (rs : List FreeRun) (i p m : ℕ) (d : FreeRun) → i < length rs → (get_or rs i d).start ≡ m → IsGap p (take i rs) (drop i rs) →
    begins_at (p + 1) (take i rs) ≡ false → ends_at p (drop i rs) ≡ true → IsGivenTo p rs (set rs i (record { start = m; end = p + 1 }))
given_up rs i p m d w t g a o = λ n l b.
    let split = rest_split rs i d w in
    let y = get_or rs i d in
    let c : AreBelow n (take i rs ++ (y ∷ drop (i + 1) rs)) = subst (AreBelow n) (sym split) b in
    let r = below_right n (take i rs) (y ∷ drop (i + 1) rs) c in
    let under = r.0 in
    let s = ends_there rs i p d w o in
    subst (λ ys. AreBelow n ys × ((j : ℕ) → is_free ys j ≡ (is_free rs j || (j == p)))) (sym (rest_set rs i (record { start = m; end = p + 1 }) w))
    (subst (λ xs. AreBelow n (take i rs ++ record { start = m; end = p + 1 } ∷ drop (i + 1) rs) ×
    ((j : ℕ) → is_free (take i rs ++ record { start = m; end = p + 1 } ∷ drop (i + 1) rs) j ≡ (is_free xs j || (j == p)))) split
    (given_by n p (take i rs) (y ∷ []) (drop (i + 1) rs) (record { start = m; end = p + 1 }) c (omega (arith, under, s, t)) (omega arith)
    (gap_top n p (take i rs) a l (g.behind n (omega (arith, l))))
    (subst (λ z. AreBelow z (drop (i + 1) rs)) t r.1.1)
    (λ j h. let q = only_holds j y h in let q0 = q.0 in let q1 = q.1 in (omega (arith, q0, t), omega (arith, q1, s)))
    (λ j u e q. or_left (holds j y) false (holds_from j y (omega (arith, u, t)) (omega (arith, e, q, s))))))

joined_is : (rs : List FreeRun) (k : ℕ) (d m : FreeRun) → k + 1 < length rs → set (remove rs (k + 1)) k m ≡ take k rs ++ m ∷ drop (k + 1 + 1) rs
joined_is rs k d m w =
    let first : k < length rs = omega (arith, w) in
    let e : suc (k + 1) ≡ k + 1 + 1 = omega arith in
    let whole : remove rs (k + 1) ≡ take k rs ++ (get_or rs k d ∷ drop (k + 1 + 1) rs) =
    ap (λ xs. xs ++ drop (suc (k + 1)) rs) (take_more rs k d first) ∙ append_assoc (take k rs) (get_or rs k d ∷ []) (drop (suc (k + 1)) rs) ∙
    ap (λ i. take k rs ++ (get_or rs k d ∷ drop i rs)) e in
    ap (λ xs. set xs k m) whole ∙ set_at (take k rs) (get_or rs k d) (drop (k + 1 + 1) rs) m k (length-take-le k rs (omega (arith, w)))

-- the place lies between two runs
given_join : (rs : List FreeRun) (k p u v : ℕ) (d : FreeRun) → k + 1 < length rs → (get_or rs (k + 1) d).start ≡ u → (get_or rs k d).end ≡ v →
    begins_at (p + 1) (take (k + 1) rs) ≡ true → ends_at p (drop (k + 1) rs) ≡ true → IsGivenTo p rs (set (remove rs (k + 1)) k (record { start = u; end = v }))
given_join rs k p u v d w f g a o = λ n l b.
    let x = get_or rs k d in
    let y = get_or rs (k + 1) d in
    let first : k < length rs = omega (arith, w) in
    let split : take k rs ++ (x ∷ (y ∷ drop (k + 1 + 1) rs)) ≡ rs =
    ap (λ xs. take k rs ++ (x ∷ xs)) (sym (drop_more rs (k + 1) d w)) ∙ rest_split rs k d first in
    let c : AreBelow n (take k rs ++ (x ∷ (y ∷ drop (k + 1 + 1) rs))) = subst (AreBelow n) (sym split) b in
    let r = below_right n (take k rs) (x ∷ (y ∷ drop (k + 1 + 1) rs)) c in
    let high = r.0 in
    let over = r.1.0 in
    let low = r.1.1.0 in
    let s = begins_there rs k (p + 1) d first a in
    let e = ends_there rs (k + 1) p d w o in
    subst (λ ys. AreBelow n ys × ((j : ℕ) → is_free ys j ≡ (is_free rs j || (j == p)))) (sym (joined_is rs k d (record { start = u; end = v }) w))
    (subst (λ xs. AreBelow n (take k rs ++ record { start = u; end = v } ∷ drop (k + 1 + 1) rs) ×
    ((j : ℕ) → is_free (take k rs ++ record { start = u; end = v } ∷ drop (k + 1 + 1) rs) j ≡ (is_free xs j || (j == p)))) split
    (given_by n p (take k rs) (x ∷ (y ∷ [])) (drop (k + 1 + 1) rs) (record { start = u; end = v }) c (omega (arith, low, e, f)) (omega (arith, high, s, g))
    (omega (arith, over, g))
    (subst (λ z. AreBelow z (drop (k + 1 + 1) rs)) f r.1.1.1.1)
    (λ j h. ⊎_elim
    (λ t. let q = holds_parts j x t in let q0 = q.0 in let q1 = q.1 in (omega (arith, q0, s, e, low, f), omega (arith, q1, g)))
    (λ t. let q = only_holds j y t in let q0 = q.0 in let q1 = q.1 in (omega (arith, q0, f), omega (arith, q1, s, e, high, g)))
    (or_cases (holds j x) (is_free (y ∷ []) j) h))
    (λ j z z' q. ⊎_elim
    (λ m. or_right (holds j x) (is_free (y ∷ []) j) (or_left (holds j y) false (holds_from j y (omega (arith, z, f)) (omega (arith, m, e)))))
    (λ m. or_left (holds j x) (is_free (y ∷ []) j) (holds_from j x (omega (arith, m, q, s)) (omega (arith, z', g))))
    (cases_lt j p))))

-- the same, by the index of the run below
pub given_down_at : (rs : List FreeRun) (i k p m : ℕ) (d : FreeRun) → i ≡ k + 1 → i ≤ length rs → (get_or rs k d).end ≡ m → IsGap p (take i rs) (drop i rs) →
    begins_at (p + 1) (take i rs) ≡ true → ends_at p (drop i rs) ≡ false → IsGivenTo p rs (set rs k (record { start = p; end = m }))
given_down_at rs i k p m d e w t g a o =
    given_down rs k p m d (omega (arith, e, w)) t (subst (λ j. IsGap p (take j rs) (drop j rs)) e g) (subst (λ j. begins_at (p + 1) (take j rs) ≡ true) e a)
    (subst (λ j. ends_at p (drop j rs) ≡ false) e o)

pub given_join_at : (rs : List FreeRun) (i k p u v : ℕ) (d : FreeRun) → i ≡ k + 1 → i < length rs → (get_or rs i d).start ≡ u → (get_or rs k d).end ≡ v →
    begins_at (p + 1) (take i rs) ≡ true → ends_at p (drop i rs) ≡ true → IsGivenTo p rs (set (remove rs i) k (record { start = u; end = v }))
given_join_at rs i k p u v d e w f g a o =
    subst (λ j. IsGivenTo p rs (set (remove rs j) k (record { start = u; end = v }))) (sym e)
    (given_join rs k p u v d (omega (arith, e, w)) (subst (λ j. (get_or rs j d).start ≡ u) e f) g (subst (λ j. begins_at (p + 1) (take j rs) ≡ true) e a)
    (subst (λ j. ends_at p (drop j rs) ≡ true) e o))

-- a place that the first of the lower runs has
held_first : (p : ℕ) (ys : List FreeRun) → BeginsUpTo p ys → ends_above p ys ≡ true → is_free ys p ≡ true
held_first p [] s e = absurd (true≢false (sym e))
held_first p (y ∷ ys) s e = or_left (holds p y) (is_free ys p) (holds_from p y s (ltb-true p y.end e))

pub held : (rs : List FreeRun) (i p : ℕ) → BeginsUpTo p (drop i rs) → ends_above p (drop i rs) ≡ true → is_free rs p ≡ true
held rs i p s e = ap (λ xs. is_free xs p) (sym (take-append-drop i rs)) ∙ free_append (take i rs) (drop i rs) p ∙
    or_right (is_free (take i rs) p) (is_free (drop i rs) p) (held_first p (drop i rs) s e)

not_held : (m p : ℕ) (ys : List FreeRun) → AreBelow m ys → BeginsUpTo p ys → ends_above p ys ≡ false → is_free ys p ≡ false
not_held m p [] b s e = refl
not_held m p (y ∷ ys) b s e = or_from (holds p y) (is_free ys p) (holds_high p y (ltb-false p y.end e)) (below_free y.start ys p b.1.1 (omega (arith, s)))

-- a place between the runs is not free
pub gap_taken : (n : ℕ) (rs : List FreeRun) (i p : ℕ) → AreBelow n rs → p < n → IsGap p (take i rs) (drop i rs) → is_free rs p ≡ false
gap_taken n rs i p b l g =
    let split = take-append-drop i rs in
    let c : AreBelow n (take i rs ++ drop i rs) = subst (AreBelow n) (sym split) b in
    ap (λ xs. is_free xs p) (sym split) ∙ free_append (take i rs) (drop i rs) p
    ∙ or_from (is_free (take i rs) p) (is_free (drop i rs) p)
    (above_free n (take i rs) p (below_left n (take i rs) (drop i rs) c) (g.behind n l))
    (not_held (first_of n (take i rs)) p (drop i rs) (below_right n (take i rs) (drop i rs) c) g.begun g.ended)

-- The table.

pub table_few : (places count space : ℕ) (rs : List FreeRun) → IsFreeTable places count space rs → count ≤ places
table_few places count space rs t = omega (arith, t.counted, few_free (taken_from rs 0 places), taken_long rs 0 places)

pub table_room : (places count space : ℕ) (rs : List FreeRun) → IsFreeTable places count space rs → length rs < space
table_room places count space rs t = omega (arith, below_few (places + 1) rs t.below, t.room)

pub table_some : (places count space p : ℕ) (rs : List FreeRun) → IsFreeTable places count space rs → p < places → is_free rs p ≡ true → 1 ≤ count
table_some places count space p rs t l h =
    omega (arith, t.counted, one_taken (taken_from rs 0 places) p (omega (arith, l, taken_long rs 0 places)) (told_place rs places p true l ∙ ap not h))

-- more room
pub table_space : (places count space more : ℕ) (rs : List FreeRun) → space ≤ more → IsFreeTable places count space rs → IsFreeTable places count more rs
table_space places count space more rs l t = record { below = t.below; counted = t.counted; room = omega (arith, l, t.room); fits = t.fits }

-- a place of the table
pub told_within : (rs : List FreeRun) (n p : ℕ) → p < length (taken_from rs 0 n) → p < n
told_within rs n p l = omega (arith, l, taken_long rs 0 n)

pub told_free : (rs : List FreeRun) (n p : ℕ) (d : Bool) → p < n → get_or (taken_from rs 0 n) p d ≡ false → is_free rs p ≡ true
told_free rs n p d l h = not-false (is_free rs p) (sym (told_place rs n p d l) ∙ h)

told_not : (rs : List FreeRun) (n p : ℕ) (d : Bool) → p < n → get_or (taken_from rs 0 n) p d ≡ true → is_free rs p ≡ false
told_not rs n p d l h = not-true (is_free rs p) (sym (told_place rs n p d l) ∙ h)

-- the first place that is not taken is the start of the last run
pub table_first : (places count space p : ℕ) (rs : List FreeRun) → IsFreeTable places count space rs →
    ((j : ℕ) → j < p → get_or (taken_from rs 0 places) j false ≡ true) → p < length (taken_from rs 0 places) → get_or (taken_from rs 0 places) p true ≡ false →
    first_of 0 rs ≡ p
table_first places count space p rs t before l h =
    let within = told_within rs places p l in
    let free = told_free rs places p true within h in
    first_any 0 places rs (free_some rs p free) ∙ first_only places rs p t.below (λ j m. told_not rs places j false (omega (arith, m, within)) (before j m))
    within free

pub table_taken : (places count room p : ℕ) (old new : List FreeRun) → IsFreeTable places count room old → IsTakenFrom p old new → p < places →
    is_free old p ≡ true → IsFreeTable places (count - 1) room new
table_taken places count room p old new t k l h =
    let r = k (places + 1) t.below in
    let view = told_taken old new places p l r.1 in
    let one = one_taken (taken_from old 0 places) p (omega (arith, l, taken_long old 0 places)) (told_place old places p true l ∙ ap not h) in
    let less : length (filter not (taken_from new 0 places)) + 1 ≡ length (filter not (taken_from old 0 places)) =
    ap (λ ts. length (filter not ts) + 1) view ∙ one in
    record { below = r.0; counted = omega (arith, less, t.counted); room = t.room; fits = t.fits }

pub table_given : (places count room p : ℕ) (old new : List FreeRun) → IsFreeTable places count room old → IsGivenTo p old new → p < places →
    is_free old p ≡ false → IsFreeTable places (count + 1) room new
table_given places count room p old new t k l h =
    let r = k (places + 1) (omega (arith, l)) t.below in
    let view = told_given old new places p l r.1 in
    let one = one_given (taken_from old 0 places) p (omega (arith, l, taken_long old 0 places)) (told_place old places p true l ∙ ap not h) in
    let more : length (filter not (taken_from new 0 places)) ≡ length (filter not (taken_from old 0 places)) + 1 =
    ap (λ ts. length (filter not ts)) view ∙ one in
    record { below = r.0; counted = omega (arith, more, t.counted); room = t.room; fits = t.fits }

-- A place is taken out of a run.

-- a test on a run that loses a place
cut_test : (l h r k e : Bool) → k ≡ (h && not e) → (e ≡ true → (l ≡ false) × (r ≡ false)) → (l || (k || r)) ≡ ((l || (h || r)) && not e)
cut_test l h r k false z none = ap (λ b. l || (b || r)) (z ∙ one h) ∙ sym (one (l || (h || r)))
  where
    one : (b : Bool) → (b && true) ≡ b
    one true = refl
    one false = refl
cut_test l h r k true z none = or_from l (k || r) (none refl).0 (or_from k r (z ∙ and_right h false refl) (none refl).1) ∙
    sym (and_right (l || (h || r)) false refl)

-- a run is replaced by others that have its places but one
cut_by : (n p : ℕ) (xs ms ys : List FreeRun) (m : FreeRun) → AreBelow n (xs ++ m ∷ ys) → m.start ≤ p → p < m.end →
    (AreBelow (first_of n xs) (m ∷ ys) → AreBelow (first_of n xs) (ms ++ ys)) → ((j : ℕ) → is_free ms j ≡ (holds j m && not (j == p)))
    → AreBelow n (xs ++ (ms ++ ys)) × ((j : ℕ) → is_free (xs ++ (ms ++ ys)) j ≡ (is_free (xs ++ m ∷ ys) j && not (j == p)))
cut_by n p xs ms ys m b s e keep cut =
    let low = below_left n xs (m ∷ ys) b in
    let r = below_right n xs (m ∷ ys) b in
    let over = r.1.0 in (
      below_join n xs (ms ++ ys) low (keep r),
      λ j.
          free_append xs (ms ++ ys) j ∙ ap (λ t. is_free xs j || t) (free_append ms ys j)
          ∙ cut_test (is_free xs j) (holds j m) (is_free ys j) (is_free ms j) (j == p) (cut j)
          (λ h. let q = eqb-true j p h in (above_free n xs j low (omega (arith, q, e, over)), below_free m.start ys j r.1.1 (omega (arith, q, s))))
          ∙ ap (λ t. t && not (j == p)) (sym (free_append xs (m ∷ ys) j)),
    )

-- the same, by the index of the run
cut_at : (rs : List FreeRun) (i p : ℕ) (d : FreeRun) (ms new : List FreeRun) → i < length rs → (get_or rs i d).start ≤ p → p < (get_or rs i d).end →
    new ≡ take i rs ++ (ms ++ drop (i + 1) rs)
    → ((n : ℕ) (ys : List FreeRun) → AreBelow n (get_or rs i d ∷ ys) → AreBelow n (ms ++ ys)) →
    ((j : ℕ) → is_free ms j ≡ (holds j (get_or rs i d) && not (j == p))) → IsTakenFrom p rs new
cut_at rs i p d ms new l s e is keep cut = λ n b.
    let split = rest_split rs i d l in
    subst (λ zs. AreBelow n zs × ((j : ℕ) → is_free zs j ≡ (is_free rs j && not (j == p)))) (sym is)
    (subst (λ zs. AreBelow n (take i rs ++ (ms ++ drop (i + 1) rs)) ×
    ((j : ℕ) → is_free (take i rs ++ (ms ++ drop (i + 1) rs)) j ≡ (is_free zs j && not (j == p)))) split
    (cut_by n p (take i rs) ms (drop (i + 1) rs) (get_or rs i d) (subst (AreBelow n) (sym split) b) s e (keep (first_of n (take i rs)) (drop (i + 1) rs)) cut))

-- a test on numbers, from both sides
same_test : (a b : Bool) → (a ≡ true → b ≡ true) → (b ≡ true → a ≡ true) → a ≡ b
same_test true b f g = sym (f refl)
same_test false true f g = g refl
same_test false false f g = refl

not_here : (j p : ℕ) (b : Bool) → (b && not (j == p)) ≡ true → (b ≡ true) × (j ≡ p → ⊥)
not_here j p b h =
    let q = and_parts b (not (j == p)) h in
    (q.0, λ e. true≢false (sym q.1 ∙ ap not (eq-eqb j p e)))

here_not : (j p : ℕ) (b : Bool) → b ≡ true → (j ≡ p → ⊥) → (b && not (j == p)) ≡ true
here_not j p b t n = and_from b (not (j == p)) t (ap not (ne_eqb j p n))

-- the only place of a run
pub cut_whole : (rs : List FreeRun) (i p : ℕ) (d : FreeRun) → i < length rs → (get_or rs i d).start ≡ p → (get_or rs i d).end ≡ p + 1 →
    IsTakenFrom p rs (remove rs i)
cut_whole rs i p d l s e =
    let x = get_or rs i d in
    let k : suc i ≡ i + 1 = omega arith in
    cut_at rs i p d [] (remove rs i) l (omega (arith, s)) (omega (arith, e)) (ap (λ n. take i rs ++ drop n rs) k)
    (λ n ys b. lower n x.start ys b.0 b.1.0 b.1.1)
    (λ j. same_test false (holds j x && not (j == p)) (λ h. absurd (true≢false (sym h)))
    (λ h. let q = not_here j p (holds j x) h in let r = holds_parts j x q.0 in let r0 = r.0 in let r1 = r.1 in absurd (q.1 (omega (arith, r0, r1, s, e)))))
  where
    lower : (n m : ℕ) (ys : List FreeRun) → m < (get_or rs i d).end → (get_or rs i d).end < n → AreBelow m ys → AreBelow n ys
    lower n m [] a b c = tt
    lower n m (y ∷ ys) a b c = (c.0, (let t = c.1.0 in omega (arith, a, b, t), c.1.1))

-- the first place of a run
pub cut_start : (rs : List FreeRun) (i p m : ℕ) (d : FreeRun) → i < length rs → (get_or rs i d).start ≡ p → (get_or rs i d).end ≡ m → p < m → (m ≡ p + 1 → ⊥) →
    IsTakenFrom p rs (set rs i (record { start = p + 1; end = m }))
cut_start rs i p m d l s e w n =
    let x = get_or rs i d in
    let y : FreeRun = record { start = p + 1; end = m } in
    cut_at rs i p d (y ∷ []) (set rs i y) l (omega (arith, s)) (omega (arith, e, w)) (rest_set rs i y l)
    (λ k ys b. (omega (arith, w, n), (let t = b.1.0 in omega (arith, t, e), raised k (p + 1) ys (omega (arith, s)) b.1.1)))
    (λ j. same_test (holds j y || false) (holds j x && not (j == p))
    (λ h. let r = only_holds j y h in let r0 = r.0 in let r1 = r.1 in
    here_not j p (holds j x) (holds_from j x (omega (arith, r0, s)) (omega (arith, r1, e))) (λ (z : j ≡ p). omega (arith, z, r0)))
    (λ h. let q = not_here j p (holds j x) h in let r = holds_parts j x q.0 in let r0 = r.0 in let r1 = r.1 in let z = q.1 in
    or_left (holds j y) false (holds_from j y (omega (arith, r0, s, z)) (omega (arith, r1, e)))))
  where
    raised : (k a : ℕ) (ys : List FreeRun) → (get_or rs i d).start ≤ a → AreBelow (get_or rs i d).start ys → AreBelow a ys
    raised k a [] b c = tt
    raised k a (y ∷ ys) b c = (c.0, (let t = c.1.0 in omega (arith, b, t), c.1.1))

-- the last place of a run
pub cut_end : (rs : List FreeRun) (i p m : ℕ) (d : FreeRun) → i < length rs → (get_or rs i d).start ≡ m → (get_or rs i d).end ≡ p + 1 → m < p →
    IsTakenFrom p rs (set rs i (record { start = m; end = p }))
cut_end rs i p m d l s e w =
    let x = get_or rs i d in
    let y : FreeRun = record { start = m; end = p } in
    cut_at rs i p d (y ∷ []) (set rs i y) l (omega (arith, s, w)) (omega (arith, e)) (rest_set rs i y l)
    (λ k ys b. (w, (let t = b.1.0 in omega (arith, t, e), subst (λ z. AreBelow z ys) s b.1.1)))
    (λ j. same_test (holds j y || false) (holds j x && not (j == p))
    (λ h. let r = only_holds j y h in let r0 = r.0 in let r1 = r.1 in
    here_not j p (holds j x) (holds_from j x (omega (arith, r0, s)) (omega (arith, r1, e))) (λ (z : j ≡ p). omega (arith, z, r1)))
    (λ h. let q = not_here j p (holds j x) h in let r = holds_parts j x q.0 in let r0 = r.0 in let r1 = r.1 in let z = q.1 in
    or_left (holds j y) false (holds_from j y (omega (arith, r0, s)) (omega (arith, r1, e, z)))))

two_runs : (rs : List FreeRun) (i : ℕ) (a b d : FreeRun) → i < length rs → set (insert rs i b) (i + 1) a ≡ take i rs ++ (b ∷ (a ∷ drop (i + 1) rs))
two_runs rs i a b d l =
    let long : length (take i rs ++ b ∷ []) ≡ i + 1 = length-append (take i rs) (b ∷ []) ∙ ap (λ n. n + 1) (length-take-le i rs (omega (arith, l))) in
    ap (λ zs. set (take i rs ++ b ∷ zs) (i + 1) a) (drop_more rs i d l)
    ∙ ap (λ zs. set zs (i + 1) a) (sym (append_assoc (take i rs) (b ∷ []) (get_or rs i d ∷ drop (i + 1) rs)))
    ∙ set_at (take i rs ++ b ∷ []) (get_or rs i d) (drop (i + 1) rs) a (i + 1) long
    ∙ append_assoc (take i rs) (b ∷ []) (a ∷ drop (i + 1) rs)

pub inserted_within : (rs : List FreeRun) (i : ℕ) (b : FreeRun) → i < length rs → i + 1 < length (insert rs i b)
inserted_within rs i b l =
    let e : length (take i rs ++ b ∷ drop i rs) ≡ length (take i rs) + length (b ∷ drop i rs) = length-append (take i rs) (b ∷ drop i rs) in
    let k : length (take i rs) ≡ i = length-take-le i rs (omega (arith, l)) in
    let m : length (drop i rs) ≡ suc (length (drop (i + 1) rs)) = ap length (drop_more rs i b l) in
    omega (arith, e, k, m)

-- a place between others of its run
pub cut_middle : (rs : List FreeRun) (i p u v : ℕ) (d : FreeRun) → i < length rs → (get_or rs i d).start ≡ u → (get_or rs i d).end ≡ v → u < p → p + 1 < v →
    IsTakenFrom p rs (set (insert rs i (record { start = p + 1; end = v })) (i + 1) (record { start = u; end = p }))
cut_middle rs i p u v d l s e w m =
    let x = get_or rs i d in
    let a : FreeRun = record { start = u; end = p } in
    let b : FreeRun = record { start = p + 1; end = v } in
    cut_at rs i p d (b ∷ (a ∷ [])) (set (insert rs i b) (i + 1) a) l (omega (arith, s, w)) (omega (arith, e, m)) (two_runs rs i a b d l)
    (λ k ys z. (m, (let t = z.1.0 in omega (arith, t, e), (w, (omega arith, subst (λ q. AreBelow q ys) s z.1.1)))))
    (λ j. same_test (holds j b || (holds j a || false)) (holds j x && not (j == p))
    (λ h. ⊎_elim
    (λ t. let r = holds_parts j b t in let r0 = r.0 in let r1 = r.1 in
    here_not j p (holds j x) (holds_from j x (omega (arith, r0, s, w)) (omega (arith, r1, e))) (λ (z : j ≡ p). omega (arith, z, r0)))
    (λ t. let r = only_holds j a t in let r0 = r.0 in let r1 = r.1 in
    here_not j p (holds j x) (holds_from j x (omega (arith, r0, s)) (omega (arith, r1, e, m))) (λ (z : j ≡ p). omega (arith, z, r1)))
    (or_cases (holds j b) (holds j a || false) h))
    (λ h.
    let q = not_here j p (holds j x) h in
    let r = holds_parts j x q.0 in
    let r0 = r.0 in
    let r1 = r.1 in
    let z = q.1 in
    ⊎_elim
    (λ c. or_right (holds j b) (holds j a || false) (or_left (holds j a) false (holds_from j a (omega (arith, r0, s)) (omega (arith, c)))))
    (λ c. or_left (holds j b) (holds j a || false) (holds_from j b (omega (arith, c, z)) (omega (arith, r1, e))))
    (cases_lt j p)))

-- The run that has a place.

pub ends_index : (rs : List FreeRun) (i p : ℕ) → ends_above p (drop i rs) ≡ true → i < length rs
ends_index rs i p h = ⊎_elim (λ l. l) (λ l. absurd (true≢false (sym h ∙ ap (ends_above p) (drop_all i rs l)))) (cases_lt i (length rs))

pub held_there : (rs : List FreeRun) (i p : ℕ) → BeginsUpTo p (drop i rs) → ends_above p (drop i rs) ≡ true → (d : FreeRun) → holds p (get_or rs i d) ≡ true
held_there rs i p s e d =
    let l = ends_index rs i p e in
    let is = drop_more rs i d l in
    let a : (get_or rs i d).start ≤ p = subst (BeginsUpTo p) is s in
    holds_from p (get_or rs i d) a (ltb-true p (get_or rs i d).end (sym (ap (ends_above p) is) ∙ e))

-- a free place is in the run that was searched for
pub free_there : (n : ℕ) (rs : List FreeRun) (i p : ℕ) → AreBelow n rs → p < n → ((m : ℕ) → p < m → p < first_of m (take i rs)) → BeginsUpTo p (drop i rs) →
    is_free rs p ≡ true → ends_above p (drop i rs) ≡ true
free_there n rs i p b l before begun h = not_false_is (ends_above p (drop i rs))
    (λ f. true≢false (sym h ∙ gap_taken n rs i p b l (record { behind = before; begun = begun; ended = f })))
  where
    not_false_is : (t : Bool) → (t ≡ false → ⊥) → t ≡ true
    not_false_is true f = refl
    not_false_is false f = absurd (f refl)

-- whether a place is taken
pub searched_is : (n : ℕ) (rs : List FreeRun) (i p : ℕ) → AreBelow n rs → p < n → ((m : ℕ) → p < m → p < first_of m (take i rs)) → BeginsUpTo p (drop i rs) →
    is_free rs p ≡ ends_above p (drop i rs)
searched_is n rs i p b l before begun = same_test (is_free rs p) (ends_above p (drop i rs)) (free_there n rs i p b l before begun) (held rs i p begun)

-- in a table, a place that is not taken is in the run that was searched for
pub table_there : (places count space p i : ℕ) (rs : List FreeRun) → IsFreeTable places count space rs → p < places →
    get_or (taken_from rs 0 places) p true ≡ false → ((m : ℕ) → p < m → p < first_of m (take i rs)) → BeginsUpTo p (drop i rs) → ends_above p (drop i rs) ≡ true
table_there places count space p i rs t l h before begun =
    free_there (places + 1) rs i p t.below (omega (arith, l)) before begun (told_free rs places p true l h)
