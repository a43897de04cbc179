-- The earliest of several moments, found one after another.
use Rattle.std.proofs.Common.{◌≡◌, ℕ, ◌+◌, ◌^◌, ◌<◌, ◌≤◌, Bool, true, false, cond, List, [], ◌∷◌, ◌++◌, map, length, take, get_or, refl, sym, ap, subst, ◌∙◌, ◌⊎◌, inl, inr, arith, true≢false, leb-true, le-leb}
use Rattle.std.specs.Prelude.{filter_map, min, nat_le, Option, Some, None, ◌||◌}
use Rattle.std.specs.List.{cons_option, flat_map, list_any}
use Rattle.std.proofs.Math.Nat.{min-eq_left, min-eq_right}
use Rattle.std.proofs.lemmas.Bool.{cases_lt, lt-leb}
use Rattle.std.proofs.lemmas.List.{append-nil, map-append, take_more}
use Rattle.std.proofs.lemmas.List.Concat.{flat_map-append}
use Rattle.std.proofs.lemmas.List.Elements.{filter_map-append}
use Rattle.st_base.specs.declared.ids.Stamp.{Stamp}
use Rattle.st_due.specs.Moments.{earlier, earliest, has_come, is_due, readable, readable_by, sooner}

min_assoc : (m n k : ℕ) → min m (min n k) ≡ min (min m n) k
min_assoc m n k = by (cases_lt n k) (cases_lt m n) (cases_lt m k)
  where
    by : (n < k) ⊎ (k ≤ n) → (m < n) ⊎ (n ≤ m) → (m < k) ⊎ (k ≤ m) → min m (min n k) ≡ min (min m n) k
    by (inl a) (inl b) c =
        let x : n ≤ k = omega (arith, a) in
        let y : m ≤ n = omega (arith, b) in
        let z : m ≤ k = omega (arith, a, b) in
        ap (min m) (min-eq_left x) ∙ min-eq_left y ∙ sym (min-eq_left z) ∙ ap (λ i. min i k) (sym (min-eq_left y))
    by (inl a) (inr b) c =
        let x : n ≤ k = omega (arith, a) in
        ap (min m) (min-eq_left x) ∙ min-eq_right b ∙ sym (min-eq_left x) ∙ ap (λ i. min i k) (sym (min-eq_right b))
    by (inr a) (inl b) c =
        let y : m ≤ n = omega (arith, b) in
        ap (min m) (min-eq_right a) ∙ ap (λ i. min i k) (sym (min-eq_left y))
    by (inr a) (inr b) c =
        let z : k ≤ m = omega (arith, a, b) in
        ap (min m) (min-eq_right a) ∙ min-eq_right z ∙ sym (min-eq_right a) ∙ ap (λ i. min i k) (sym (min-eq_right b))

earlier_sooner : (m : ℕ) (a b : Option ℕ) → earlier m (sooner a b) ≡ earlier (earlier m a) b
earlier_sooner m None b = refl
earlier_sooner m (Some n) None = refl
earlier_sooner m (Some n) (Some k) = min_assoc m n k

-- of two lists
pub earliest_append : (ms ns : List ℕ) → earliest (ms ++ ns) ≡ sooner (earliest ms) (earliest ns)
earliest_append [] ns = refl
earliest_append (m ∷ ms) ns = ap (λ o. Some (earlier m o)) (earliest_append ms ns) ∙ ap Some (earlier_sooner m (earliest ms) (earliest ns))

-- of one moment that may be missing
earliest_one : (o : Option ℕ) → earliest (cons_option o []) ≡ o
earliest_one None = refl
earliest_one (Some m) = refl

-- A clock may read the earlier of two moments if it may read one of them.
pub readable_sooner : (a b : Option ℕ) → readable_by (sooner a b) ≡ sooner (readable_by a) (readable_by b)
readable_sooner None b = refl
readable_sooner (Some m) None = by (nat_le m (2 ^ 62))
  where
    by : (t : Bool) → cond t (Some m) None ≡ sooner (cond t (Some m) None) None
    by true = refl
    by false = refl
readable_sooner (Some m) (Some n) = by (cases_lt (2 ^ 62) m) (cases_lt (2 ^ 62) n)
  where
    yes : (k : ℕ) → k ≤ 2 ^ 62 → readable k ≡ Some k
    yes k l = ap (λ t. cond t (Some k) None) (le-leb k (2 ^ 62) l)

    no : (k : ℕ) → 2 ^ 62 < k → readable k ≡ None
    no k l = ap (λ t. cond t (Some k) None) (lt-leb k (2 ^ 62) l)

    -- which of the two it is
    lesser : (k : ℕ) → min m n ≡ k → readable (min m n) ≡ readable k
    lesser k e = ap readable e

    both : m ≤ 2 ^ 62 → n ≤ 2 ^ 62 → (m < n) ⊎ (n ≤ m) → readable (min m n) ≡ Some (min m n)
    both a b (inl l) =
        let x : m ≤ n = omega (arith, l) in
        yes (min m n) (subst (λ k. k ≤ 2 ^ 62) (sym (min-eq_left x)) a)
    both a b (inr l) = yes (min m n) (subst (λ k. k ≤ 2 ^ 62) (sym (min-eq_right l)) b)

    by : (2 ^ 62 < m) ⊎ (m ≤ 2 ^ 62) → (2 ^ 62 < n) ⊎ (n ≤ 2 ^ 62) → readable (min m n) ≡ sooner (readable m) (readable n)
    by (inr a) (inr b) = both a b (cases_lt m n) ∙ sym (λ i. sooner (yes m a i) (yes n b i))
    by (inr a) (inl b) =
        let x : m ≤ n = omega (arith, a, b) in
        lesser m (min-eq_left x) ∙ yes m a ∙ sym (λ i. sooner (yes m a i) (no n b i))
    by (inl a) (inr b) =
        let x : n ≤ m = omega (arith, a, b) in
        lesser n (min-eq_right x) ∙ sym (λ i. sooner (no m a i) (readable n))
    by (inl a) (inl b) = ends (cases_lt m n)
      where
        ends : (m < n) ⊎ (n ≤ m) → readable (min m n) ≡ sooner (readable m) (readable n)
        ends (inl l) =
            let x : m ≤ n = omega (arith, l) in
            lesser m (min-eq_left x) ∙ no m a ∙ sym (λ i. sooner (no m a i) (no n b i))
        ends (inr l) = lesser n (min-eq_right l) ∙ no n b ∙ sym (λ i. sooner (no m a i) (no n b i))

-- What was found in two lists is what is found in both.
pub next_found : (ms ns : List ℕ) (first o : Option ℕ) → first ≡ readable_by (earliest ms) → o ≡ readable_by (earliest ns) → sooner first o ≡ readable_by (earliest (ms ++ ns))
next_found ms ns first o e f =
    (λ i. sooner (e i) (f i)) ∙ sym (readable_sooner (earliest ms) (earliest ns)) ∙ ap readable_by (sym (earliest_append ms ns))

-- One item more has a moment.
pub next_mapped : {A : Type 0} (f : A → ℕ) (xs : List A) (i : ℕ) (d : A) (first o : Option ℕ) → i < length xs → first ≡ readable_by (earliest (map f (take i xs))) → o ≡ readable (f (get_or xs i d))
    → sooner first o ≡ readable_by (earliest (map f (take (i + 1) xs)))
next_mapped f xs i d first o l e g =
    next_found (map f (take i xs)) (f (get_or xs i d) ∷ []) first o e g
    ∙ ap (λ ms. readable_by (earliest ms)) (sym (map-append f (take i xs) (get_or xs i d ∷ [])) ∙ ap (map f) (sym (take_more xs i d l)))

-- One item more may have one.
pub next_filtered : {A : Type 0} (f : A → Option ℕ) (xs : List A) (i : ℕ) (d : A) (first o : Option ℕ) → i < length xs → first ≡ readable_by (earliest (filter_map f (take i xs)))
    → o ≡ readable_by (f (get_or xs i d)) → sooner first o ≡ readable_by (earliest (filter_map f (take (i + 1) xs)))
next_filtered f xs i d first o l e g =
    next_found (filter_map f (take i xs)) (cons_option (f (get_or xs i d)) []) first o e (g ∙ ap readable_by (sym (earliest_one (f (get_or xs i d)))))
    ∙ ap (λ ms. readable_by (earliest ms)) (sym (filter_map-append f (take i xs) (get_or xs i d ∷ [])) ∙ ap (filter_map f) (sym (take_more xs i d l)))

flat_map_append : {A : Type 0} (f : A → List ℕ) (xs : List A) (x : A) → flat_map f (xs ++ x ∷ []) ≡ flat_map f xs ++ f x
flat_map_append f xs x = flat_map-append f xs (x ∷ []) ∙ ap (λ l. flat_map f xs ++ l) (append-nil (f x))

-- One item more may have several.
pub next_joined : {A : Type 0} (f : A → List ℕ) (xs : List A) (i : ℕ) (d : A) (first o : Option ℕ) → i < length xs → first ≡ readable_by (earliest (flat_map f (take i xs)))
    → o ≡ readable_by (earliest (f (get_or xs i d))) → sooner first o ≡ readable_by (earliest (flat_map f (take (i + 1) xs)))
next_joined f xs i d first o l e g =
    next_found (flat_map f (take i xs)) (f (get_or xs i d)) first o e g
    ∙ ap (λ ms. readable_by (earliest ms)) (sym (flat_map_append f (take i xs) (get_or xs i d)) ∙ ap (flat_map f) (sym (take_more xs i d l)))

-- The earliest moment and whether it has come.

-- either of two tests, where one follows from the other
either_left : (a b : Bool) → (b ≡ true → a ≡ true) → a ≡ (a || b)
either_left true b h = refl
either_left false true h = h refl
either_left false false h = refl

either_right : (a b : Bool) → (a ≡ true → b ≡ true) → b ≡ (a || b)
either_right true b h = h refl
either_right false b h = refl

comes_before : (m n : ℕ) (now : Stamp) → m ≤ n → has_come now n ≡ true → has_come now m ≡ true
comes_before m n now l e = let k = leb-true n now.0 e in le-leb m now.0 (omega (arith, l, k))

-- the lesser of two has come if one of them has
min_come : (m n : ℕ) (now : Stamp) → has_come now (min m n) ≡ (has_come now m || has_come now n)
min_come m n now = by (cases_lt m n)
  where
    by : (m < n) ⊎ (n ≤ m) → has_come now (min m n) ≡ (has_come now m || has_come now n)
    by (inl l) =
        let k : m ≤ n = omega (arith, l) in
        ap (has_come now) (min-eq_left k) ∙ either_left (has_come now m) (has_come now n) (comes_before m n now k)
    by (inr l) = ap (has_come now) (min-eq_right l) ∙ either_right (has_come now m) (has_come now n) (comes_before n m now l)

earlier_come : (m : ℕ) (o : Option ℕ) (now : Stamp) → has_come now (earlier m o) ≡ (has_come now m || is_due o now)
earlier_come m None now = by (has_come now m)
  where
    by : (b : Bool) → b ≡ (b || false)
    by true = refl
    by false = refl
earlier_come m (Some n) now = min_come m n now

-- the earliest of these has come if one of them has
pub earliest_due : (ms : List ℕ) (now : Stamp) → is_due (earliest ms) now ≡ list_any (has_come now) ms
earliest_due [] now = refl
earliest_due (m ∷ ms) now = earlier_come m (earliest ms) now ∙ ap (λ b. has_come now m || b) (earliest_due ms now)

-- Two moments are the same if they have always come together.
same_moment : (a b : Option ℕ) → ((now : Stamp) → is_due a now ≡ is_due b now) → a ≡ b
same_moment None None h = refl
same_moment None (Some n) h = absurd (true≢false (sym (h (record { 0 = n }) ∙ le-leb n n (omega arith))))
same_moment (Some m) None h = absurd (true≢false (sym (le-leb m m (omega arith)) ∙ h (record { 0 = m })))
same_moment (Some m) (Some n) h =
    let a = leb-true n m (sym (h (record { 0 = m })) ∙ le-leb m m (omega arith)) in
    let b = leb-true m n (h (record { 0 = n }) ∙ le-leb n n (omega arith)) in
    let e : m ≡ n = omega (arith, a, b) in
    ap Some e

-- So are the earliest of two lists if one of the first has come whenever one of the second has.
pub same_earliest : (ms ns : List ℕ) → ((now : Stamp) → list_any (has_come now) ms ≡ list_any (has_come now) ns) → earliest ms ≡ earliest ns
same_earliest ms ns h = same_moment (earliest ms) (earliest ns) (λ now. earliest_due ms now ∙ h now ∙ sym (earliest_due ns now))

-- the moment of something has come, if it has one
abbrev pub comes : {A : Type 0} → Stamp → (A → Option ℕ) → A → Bool
comes now f x = is_due (f x) now

cons_come : (o : Option ℕ) (now : Stamp) (ms : List ℕ) → list_any (has_come now) (cons_option o ms) ≡ (is_due o now || list_any (has_come now) ms)
cons_come None now ms = refl
cons_come (Some m) now ms = refl

pub any_filtered : {A : Type 0} (f : A → Option ℕ) (now : Stamp) (xs : List A) → list_any (has_come now) (filter_map f xs) ≡ list_any (comes now f) xs
any_filtered f now [] = refl
any_filtered f now (x ∷ xs) = cons_come (f x) now (filter_map f xs) ∙ ap (λ b. is_due (f x) now || b) (any_filtered f now xs)

-- What is found in the rest of a list, one item after another.

sooner_assoc : (a b c : Option ℕ) → sooner (sooner a b) c ≡ sooner a (sooner b c)
sooner_assoc None b c = refl
sooner_assoc (Some m) b c = ap Some (sym (earlier_sooner m b c))

pub sooner_none : (a : Option ℕ) → sooner a None ≡ a
sooner_none None = refl
sooner_none (Some m) = refl

earliest_cons : (o : Option ℕ) (ms : List ℕ) → earliest (cons_option o ms) ≡ sooner o (earliest ms)
earliest_cons None ms = refl
earliest_cons (Some m) ms = refl

pub rest_filtered : {A : Type 0} (f : A → Option ℕ) (x : A) (xs : List A) (first o : Option ℕ) → o ≡ readable_by (f x)
    → sooner (sooner first o) (readable_by (earliest (filter_map f xs))) ≡ sooner first (readable_by (earliest (filter_map f (x ∷ xs))))
rest_filtered f x xs first o e =
    sooner_assoc first o (readable_by (earliest (filter_map f xs)))
    ∙ ap (sooner first)
    ((λ i. sooner (e i) (readable_by (earliest (filter_map f xs)))) ∙ sym (readable_sooner (f x) (earliest (filter_map f xs))) ∙ ap readable_by (sym (earliest_cons (f x) (filter_map f xs))))
