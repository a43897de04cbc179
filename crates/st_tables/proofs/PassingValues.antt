-- Values by their places: the first one that passes a test, and those that do.
use Rattle.std.proofs.Common.{◌≡◌, ℕ, zero, suc, ◌+◌, ◌<◌, ◌≤◌, Bool, true, false, cond, if◌then◌else◌, List, [], ◌∷◌, ◌++◌, length, take, drop, refl, sym, ap, ◌∙◌, true≢false, arith, add-one}
use Rattle.std.specs.Prelude.{filter, is_some, not, remove, slice_get, Some, None, ◌||◌}
use Rattle.std.specs.Option.{option_map_or}
use Rattle.std.specs.List.{list_any, position, position_or_len}
use Rattle.std.proofs.lemmas.Bool.{le-ltb, lt-ltb}
use Rattle.std.proofs.lemmas.List.Elements.{filter-append}

module _ {V : Type 0} (p : V → Bool) where
  -- the value at a place passes
  abbrev pub passes_at : List V → ℕ → Bool
  passes_at xs i = option_map_or p (slice_get xs i) false

  or_none : (b : Bool) → b || false ≡ b
  or_none true = refl
  or_none false = refl

  or_more : (a b d : Bool) → a || (b || d) ≡ (a || b) || d
  or_more true b d = refl
  or_more false b d = refl

  any_suc : (xs : List V) (i : ℕ) → list_any p (take (suc i) xs) ≡ list_any p (take i xs) || passes_at xs i
  any_suc [] zero = refl
  any_suc [] (suc i) = refl
  any_suc (x ∷ xs) zero = or_none (p x)
  any_suc (x ∷ xs) (suc i) = ap (λ b. p x || b) (any_suc xs i) ∙ or_more (p x) (list_any p (take i xs)) (passes_at xs i)

  -- one more value does not pass
  pub none_more : (xs : List V) (i : ℕ) → list_any p (take i xs) ≡ false → passes_at xs i ≡ false → list_any p (take (i + 1) xs) ≡ false
  none_more xs i h e = ap (λ n. list_any p (take n xs)) (add-one i) ∙ any_suc xs i ∙ (λ j. h j || e j)

  at_first : (x : V) (xs : List V) (i : ℕ) (b : Bool) → p x ≡ b → b || list_any p (take i xs) ≡ false →
      (list_any p (take i xs) ≡ false → position_or_len p xs ≡ i) → cond (not b) (1 + position_or_len p xs) 0 ≡ suc i
  at_first x xs i true q h r = absurd (true≢false h)
  at_first x xs i false q h r = let e = r h in omega (arith, e)

  zero_first : (n : ℕ) (b : Bool) → b ≡ true → cond (not b) (1 + n) 0 ≡ 0
  zero_first n true e = refl
  zero_first n false e = absurd (true≢false (sym e))

  first_place : (xs : List V) (i : ℕ) → list_any p (take i xs) ≡ false → passes_at xs i ≡ true → position_or_len p xs ≡ i
  first_place [] zero h e = absurd (true≢false (sym e))
  first_place [] (suc i) h e = absurd (true≢false (sym e))
  first_place (x ∷ xs) zero h e = zero_first (position_or_len p xs) (p x) e
  first_place (x ∷ xs) (suc i) h e = at_first x xs i (p x) refl h (λ g. first_place xs i g e)

  -- the first value that passes is there
  pub first_at : (xs : List V) (i : ℕ) → i < length xs → list_any p (take i xs) ≡ false → passes_at xs i ≡ true → Some i ≡ position p xs
  first_at xs i l h e =
      let q : position_or_len p xs ≡ i = first_place xs i h e in
      sym (ap (λ b. cond b (Some (position_or_len p xs)) None) (lt-ltb (position_or_len p xs) (length xs) (omega (arith, q, l))) ∙ ap Some q)

  past_by : (x : V) (xs : List V) (b : Bool) → b || list_any p xs ≡ false → (list_any p xs ≡ false → length xs ≤ position_or_len p xs) →
      suc (length xs) ≤ cond (not b) (1 + position_or_len p xs) 0
  past_by x xs true h r = absurd (true≢false h)
  past_by x xs false h r = let l = r h in omega (arith, l)

  past_all : (xs : List V) → list_any p xs ≡ false → length xs ≤ position_or_len p xs
  past_all [] h = omega arith
  past_all (x ∷ xs) h = past_by x xs (p x) h (past_all xs)

  take_all : (xs : List V) (i : ℕ) → i ≡ length xs → take i xs ≡ xs
  take_all [] zero e = refl
  take_all [] (suc i) e = absurd (omega arith)
  take_all (x ∷ xs) zero e = absurd (omega arith)
  take_all (x ∷ xs) (suc i) e = ap (λ l. x ∷ l) (take_all xs i (omega arith))

  -- no value passes
  pub first_none : (xs : List V) (i : ℕ) → i ≡ length xs → list_any p (take i xs) ≡ false → None ≡ position p xs
  first_none xs i e h =
      let l : length xs ≤ position_or_len p xs = past_all xs (ap (list_any p) (sym (take_all xs i e)) ∙ h) in
      sym (ap (λ b. cond b (Some (position_or_len p xs)) None) (le-ltb (position_or_len p xs) (length xs) l))

  before_by : (x : V) (xs : List V) (b : Bool) → b || list_any p xs ≡ true → (list_any p xs ≡ true → position_or_len p xs < length xs) →
      cond (not b) (1 + position_or_len p xs) 0 < suc (length xs)
  before_by x xs true h r = omega arith
  before_by x xs false h r = let l = r h in omega (arith, l)

  before_all : (xs : List V) → list_any p xs ≡ true → position_or_len p xs < length xs
  before_all [] h = absurd (true≢false (sym h))
  before_all (x ∷ xs) h = before_by x xs (p x) h (before_all xs)

  -- there is a first one that passes exactly if any does
  pub place_any : (xs : List V) → is_some (position p xs) ≡ list_any p xs
  place_any xs = by (list_any p xs) refl
    where
      by : (b : Bool) → list_any p xs ≡ b → is_some (position p xs) ≡ b
      by true e = ap (λ b. is_some (cond b (Some (position_or_len p xs)) None)) (lt-ltb (position_or_len p xs) (length xs) (before_all xs e))
      by false e = ap (λ b. is_some (cond b (Some (position_or_len p xs)) None)) (le-ltb (position_or_len p xs) (length xs) (past_all xs e))

  -- Those that pass, one after another.

  get_behind : (fs : List V) (v : V) (ds : List V) → slice_get (fs ++ v ∷ ds) (length fs) ≡ Some v
  get_behind [] v ds = refl
  get_behind (f ∷ fs) v ds = get_behind fs v ds

  remove_behind : (fs : List V) (v : V) (ds : List V) → remove (fs ++ v ∷ ds) (length fs) ≡ fs ++ ds
  remove_behind [] v ds = refl
  remove_behind (f ∷ fs) v ds = ap (λ l. f ∷ l) (remove_behind fs v ds)

  split_at : (xs : List V) (i : ℕ) → i < length xs → (v : V) × (drop i xs ≡ v ∷ drop (suc i) xs) × (take (suc i) xs ≡ take i xs ++ v ∷ [])
  split_at [] i l = absurd (omega arith)
  split_at (x ∷ xs) zero l = (x, refl, refl)
  split_at (x ∷ xs) (suc i) l = let r = split_at xs i (omega arith) in (r.0, r.1, ap (λ l. x ∷ l) r.2)

  append_assoc : (xs ys zs : List V) → (xs ++ ys) ++ zs ≡ xs ++ (ys ++ zs)
  append_assoc [] ys zs = refl
  append_assoc (x ∷ xs) ys zs = ap (λ l. x ∷ l) (append_assoc xs ys zs)

  kept_list : (fs : List V) (v : V) (ds : List V) (b : Bool) → (if b then fs ++ v ∷ ds else fs ++ ds) ≡ (fs ++ cond b (v ∷ []) []) ++ ds
  kept_list fs v ds true = sym (append_assoc fs (v ∷ []) ds)
  kept_list fs v ds false = sym (append_assoc fs [] ds)

  kept_count : (fs : List V) (v : V) (b : Bool) → (if b then length fs + 1 else length fs) ≡ length (fs ++ cond b (v ∷ []) [])
  kept_count [] v true = refl
  kept_count [] v false = refl
  kept_count (f ∷ fs) v true = let r = kept_count fs v true in omega (arith, r)
  kept_count (f ∷ fs) v false = ap suc (kept_count fs v false)

  module _ (xs : List V) (i : ℕ) (l : i < length xs) where
    -- the list so far: those before the place that pass, and the rest
    abbrev pub sifted : ℕ → List V
    sifted n = filter p (take n xs) ++ drop n xs

    next_filter : filter p (take (suc i) xs) ≡ filter p (take i xs) ++ cond (p (split_at xs i l).0) ((split_at xs i l).0 ∷ []) []
    next_filter = ap (filter p) (split_at xs i l).2 ∙ filter-append p (take i xs) ((split_at xs i l).0 ∷ [])

    here_passes : passes_at (sifted i) (length (filter p (take i xs))) ≡ p (split_at xs i l).0
    here_passes =
        let s = split_at xs i l in
        ap (λ ds. passes_at (filter p (take i xs) ++ ds) (length (filter p (take i xs)))) s.1
        ∙ ap (λ o. option_map_or p o false) (get_behind (filter p (take i xs)) s.0 (drop (suc i) xs))

    pub sift_list : (if passes_at (sifted i) (length (filter p (take i xs))) then sifted i else remove (sifted i) (length (filter p (take i xs)))) ≡ sifted
        (i + 1)
    sift_list =
        let s = split_at xs i l in
        let fs = filter p (take i xs) in
        (λ j. if here_passes j then fs ++ s.1 j else remove (fs ++ s.1 j) (length fs))
        ∙ ap (λ rest. if p s.0 then fs ++ s.0 ∷ drop (suc i) xs else rest) (remove_behind fs s.0 (drop (suc i) xs))
        ∙ kept_list fs s.0 (drop (suc i) xs) (p s.0) ∙ ap (λ l. l ++ drop (suc i) xs) (sym next_filter) ∙ ap sifted (sym (add-one i))

    pub sift_count : (if passes_at (sifted i) (length (filter p (take i xs))) then length (filter p (take i xs)) + 1 else length (filter p (take i xs))) ≡
        length (filter p (take (i + 1) xs))
    sift_count =
        ap (λ b. if b then length (filter p (take i xs)) + 1 else length (filter p (take i xs))) here_passes
        ∙ kept_count (filter p (take i xs)) (split_at xs i l).0 (p (split_at xs i l).0) ∙ ap length (sym next_filter) ∙
        ap (λ n. length (filter p (take n xs))) (sym (add-one i))

  drop_all : (xs : List V) (i : ℕ) → i ≡ length xs → drop i xs ≡ []
  drop_all [] zero e = refl
  drop_all [] (suc i) e = refl
  drop_all (x ∷ xs) zero e = absurd (omega arith)
  drop_all (x ∷ xs) (suc i) e = drop_all xs i (omega arith)

  append_none : (xs : List V) → xs ++ [] ≡ xs
  append_none [] = refl
  append_none (x ∷ xs) = ap (λ l. x ∷ l) (append_none xs)

  pub sift_end : (xs : List V) (i : ℕ) → i ≡ length xs → filter p (take i xs) ++ drop i xs ≡ filter p xs
  sift_end xs i e = (λ j. filter p (take_all xs i e j) ++ drop_all xs i e j) ∙ append_none (filter p xs)
