-- The first moment of several spans is within one of them, and no moment before it is.
use Rattle.st_lemmas.proofs.Words
use Words.{◌≡◌, ℕ, ◌≤◌, ◌<◌, Bool, true, false, ◌&&◌, ◌||◌, not, List, [], ◌∷◌, ◌++◌, refl, sym, ap, ◌∙◌, subst, arith, cond, filter_map, list_any, max, min, nat_le, nat_lt, Option, Some, None, Stamp}
use Words.{◌⊎◌, inl, inr, and_parts, cases_lt, cons_option, flat_map, le-leb, le-ltb, leb-true, lt-leb, lt-ltb, ltb-true}
use Rattle.std.proofs.Math.Nat.{min-eq_left, min-eq_right}
use Rattle.std.proofs.lemmas.List.Folds.{list_any-append}
use Words.Tests.{none_of_fewer}
use Rattle.st_due.specs.Moments.{earlier, earliest, is_due}
use Rattle.st_due.proofs.EarliestFound.{any_filtered, comes, earliest_due}
use Rattle.st_client_due.specs.Spans.{Span, first_in, first_of, from_on, if_so, is_before, is_within, until}

-- Whether a moment is within one of several spans.

pub and_true : (b : Bool) → (b && true) ≡ b
and_true true = refl
and_true false = refl

pub or_false : (b : Bool) → (b || false) ≡ b
or_false true = refl
or_false false = refl

pub or_true : (b : Bool) → (b || true) ≡ true
or_true true = refl
or_true false = refl

-- a moment is before another, or has come
pub come_or_before : (m n : ℕ) → nat_le n m ≡ not (nat_lt m n)
come_or_before m n = by (cases_lt m n)
  where
    by : (m < n) ⊎ (n ≤ m) → nat_le n m ≡ not (nat_lt m n)
    by (inl l) = lt-leb n m l ∙ ap not (sym (lt-ltb m n l))
    by (inr l) = le-leb n m l ∙ ap not (sym (le-ltb m n l))

pub before_or_come : (m n : ℕ) → nat_lt m n ≡ not (nat_le n m)
before_or_come m n = twice (nat_lt m n) ∙ ap not (sym (come_or_before m n))
  where
    twice : (b : Bool) → b ≡ not (not b)
    twice true = refl
    twice false = refl

module _ (now : ℕ) where
  -- from the start on
  pub from_zero : nat_le 0 now ≡ true
  from_zero = le-leb 0 now (omega arith)

  pub within_on : (m : ℕ) → is_within now (from_on m) ≡ nat_le m now
  within_on m = and_true (nat_le m now)

  pub within_until : (m : ℕ) → is_within now (until m) ≡ nat_lt now m
  within_until m = ap (λ b. b && nat_lt now m) from_zero

  within_if : (b : Bool) (x : Span) → list_any (is_within now) (if_so b x) ≡ (b && is_within now x)
  within_if true x = or_false (is_within now x)
  within_if false x = refl

  pub if_on : (b : Bool) (m : ℕ) → list_any (is_within now) (if_so b (from_on m)) ≡ (b && nat_le m now)
  if_on b m = within_if b (from_on m) ∙ ap (λ c. b && c) (within_on m)

  pub if_until : (b : Bool) (m : ℕ) → list_any (is_within now) (if_so b (until m)) ≡ (b && nat_lt now m)
  if_until b m = within_if b (until m) ∙ ap (λ c. b && c) (within_until m)

  pub if_ever : (b : Bool) → list_any (is_within now) (if_so b (from_on 0)) ≡ b
  if_ever b = if_on b 0 ∙ ap (λ c. b && c) from_zero ∙ and_true b

  pub one_on : (m : ℕ) → list_any (is_within now) (from_on m ∷ []) ≡ nat_le m now
  one_on m = or_false (is_within now (from_on m)) ∙ within_on m

  pub within_cond : (b : Bool) (xs : List Span) → list_any (is_within now) (cond b xs []) ≡ (b && list_any (is_within now) xs)
  within_cond true xs = refl
  within_cond false xs = refl

  pub within_both : (xs ys : List Span) → list_any (is_within now) (xs ++ ys) ≡ (list_any (is_within now) xs || list_any (is_within now) ys)
  within_both xs ys = list_any-append (is_within now) xs ys

  pub within_each : {A : Type 0} (f : A → List Span) (xs : List A) →
      list_any (is_within now) (flat_map f xs) ≡ list_any (λ x. list_any (is_within now) (f x)) xs
  within_each f [] = refl
  within_each f (x ∷ xs) = within_both (f x) (flat_map f xs) ∙ ap (λ b. list_any (is_within now) (f x) || b) (within_each f xs)

-- The first moment.

-- it has come if a later moment is within the span
first_come : (from : ℕ) (now : Stamp) (x : Span) → from ≤ now.0 → is_within now.0 x ≡ true → is_due (first_in from x) now ≡ true
first_come from now x l e =
    let p = and_parts (nat_le x.start now.0) (is_before x.end now.0) e in
    let a = leb-true x.start now.0 p.0 in
    let m : max from x.start ≤ now.0 = omega (arith, l, a) in
    let b : nat_le x.start (max from x.start) ≡ true = le-leb x.start (max from x.start) (omega arith) in
    let c : is_before x.end (max from x.start) ≡ true = earlier_before x.end m p.1 in
    ap (λ v. is_due (cond (v && is_before x.end (max from x.start)) (Some (max from x.start)) None) now) b
    ∙ ap (λ v. is_due (cond v (Some (max from x.start)) None) now) c
    ∙ le-leb (max from x.start) now.0 m
  where
    earlier_before : (end : Option ℕ) → max from x.start ≤ now.0 → is_before end now.0 ≡ true → is_before end (max from x.start) ≡ true
    earlier_before None k f = refl
    earlier_before (Some end) k f = let g = ltb-true now.0 end f in lt-ltb (max from x.start) end (omega (arith, k, g))

-- so no moment from then on is within a span before it
pub none_before : (from : ℕ) (now : Stamp) (xs : List Span) → from ≤ now.0 → is_due (first_of from xs) now ≡ false → list_any (is_within now.0) xs ≡ false
none_before from now xs l e =
    none_of_fewer (is_within now.0) (comes now (first_in from)) (λ x f. first_come from now x l f) xs
    (sym (any_filtered (first_in from) now xs) ∙ sym (earliest_due (filter_map (first_in from) xs) now) ∙ e)

-- the moment is not before the given one, and is within one of the spans
abbrev pub IsFirst : ℕ → ℕ → List Span → Type 0
IsFirst from m xs = (from ≤ m) × (list_any (is_within m) xs ≡ true)

-- of one span
first_within : (from m : ℕ) (x : Span) → first_in from x ≡ Some m → (from ≤ m) × (is_within m x ≡ true)
first_within from m x e = by (is_within (max from x.start) x) refl e
  where
    value : {k n : ℕ} → ◌≡◌ {A = Option ℕ} (Some k) (Some n) → k ≡ n
    value f = cc

    by : (b : Bool) → is_within (max from x.start) x ≡ b → cond b (Some (max from x.start)) None ≡ Some m → (from ≤ m) × (is_within m x ≡ true)
    by true f g = let v : max from x.start ≡ m = value g in (omega (arith, v), subst (λ k. is_within k x ≡ true) v f)
    by false f g = cc

pub first_is : (from m : ℕ) (xs : List Span) → first_of from xs ≡ Some m → IsFirst from m xs
first_is from m [] e = cc
first_is from m (x ∷ xs) e = by (first_in from x) (first_of from xs) refl refl e (first_is from m xs)
  where
    value : {k n : ℕ} → ◌≡◌ {A = Option ℕ} (Some k) (Some n) → k ≡ n
    value f = cc

    here : first_in from x ≡ Some m → IsFirst from m (x ∷ xs)
    here f = let w = first_within from m x f in (w.0, ap (λ b. b || list_any (is_within m) xs) w.1)

    later : IsFirst from m xs → IsFirst from m (x ∷ xs)
    later w = (w.0, ap (λ b. is_within m x || b) w.1 ∙ or_true (is_within m x))

    -- the lesser of two is one of them
    lesser : (n k : ℕ) → min n k ≡ m → (n ≡ m) ⊎ (k ≡ m)
    lesser n k f = go (cases_lt n k)
      where
        go : (n < k) ⊎ (k ≤ n) → (n ≡ m) ⊎ (k ≡ m)
        go (inl l) = let i : n ≤ k = omega (arith, l) in inl (sym (min-eq_left i) ∙ f)
        go (inr l) = inr (sym (min-eq_right l) ∙ f)

    by : (o p : Option ℕ) → first_in from x ≡ o → first_of from xs ≡ p → earliest (cons_option o (filter_map (first_in from) xs)) ≡ Some m
        → (first_of from xs ≡ Some m → IsFirst from m xs) → IsFirst from m (x ∷ xs)
    by None p f g h i = later (i h)
    by (Some n) None f g h i = here (f ∙ ap Some (value (ap (λ q. Some (earlier n q)) (sym g) ∙ h)))
    by (Some n) (Some k) f g h i = go (lesser n k (value (ap (λ q. Some (earlier n q)) (sym g) ∙ h)))
      where
        go : (n ≡ m) ⊎ (k ≡ m) → IsFirst from m (x ∷ xs)
        go (inl r) = here (f ∙ ap Some r)
        go (inr r) = later (i (g ∙ ap Some r))
