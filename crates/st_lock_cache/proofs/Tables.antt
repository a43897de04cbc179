-- A row that is put over the one of its key, and one that is put and taken out again.
use Rattle.st_lemmas.proofs.Words
use Words.{◌≡◌, ℕ, zero, suc, ◌-◌, ◌<◌, ◌≤◌, Bool, true, false, ◌||◌, not, cond, if◌then◌else◌, List, [], ◌∷◌, ◌++◌, length, map, drop, get_or, Some, None}
use Words.{refl, sym, ap, ◌∙◌, arith, find, filter, is_some, list_any, and_parts, not-true, eqb-true}
use Words.Keys.{put, rising, with_key}
use Words.ServerInvariants.{are_once}
use Rattle.st_tables.proofs.RowLists.{put_last}
use Rattle.st_lock_cache.proofs.Once.{has_key, same_key}

-- if no row passes, nothing is written over
none_written : {A : Type 0} (p : A → Bool) (x : A) (xs : List A) → list_any p xs ≡ false → map (λ r. if p r then x else r) xs ≡ xs
none_written p x [] h = refl
none_written {A} p x (y ∷ ys) h = go (p y) h (none_written p x ys)
  where
    go : (b : Bool) → (b || list_any p ys) ≡ false → (list_any p ys ≡ false → map (λ r. if p r then x else r) ys ≡ ys) →
        cond b x y ∷ map (λ r. if p r then x else r) ys ≡ y ∷ ys
    go true h i = cc
    go false h i = ap (λ l. y ∷ l) (i h)

-- the one row of a key is written over
pub put_over : {A : Type 0} (key : A → ℕ) (n : ℕ) (x : A) (xs : List A) → are_once (same_key key) xs ≡ true → is_some (find (has_key key n) xs) ≡ true →
    map (λ r. if has_key key n r then x else r) xs ≡ put (has_key key n) x xs
unfolding put are_once
put_over key n x [] h e = cc
put_over {A} key n x (y ∷ ys) h e =
    go (has_key key n y) refl e (and_parts (not (list_any (same_key key y) ys)) (are_once (same_key key) ys) h) (put_over key n x ys)
  where
    go : (b : Bool) → has_key key n y ≡ b → is_some (cond b (Some y) (find (has_key key n) ys)) ≡ true →
        (not (list_any (same_key key y) ys) ≡ true) × (are_once (same_key key) ys ≡ true) →
        (are_once (same_key key) ys ≡ true → is_some (find (has_key key n) ys) ≡ true → map (λ r. if has_key key n r then x else r) ys ≡ put (has_key key n) x ys) →
        cond b x y ∷ map (λ r. if has_key key n r then x else r) ys ≡ cond b (x ∷ ys) (y ∷ put (has_key key n) x ys)
    go true f e q i =
        ap (λ l. x ∷ l) (none_written (has_key key n) x ys (ap (λ m. list_any (has_key key m) ys) (sym (eqb-true (key y) n f)) ∙ not-true _ q.0))
    go false f e q i = ap (λ l. y ∷ l) (i q.1 e)

none_out : {A : Type 0} (p : A → Bool) (xs : List A) → find p xs ≡ None → filter (λ y. not (p y)) xs ≡ xs
none_out p [] e = refl
none_out {A} p (y ∷ ys) e = go (p y) e (none_out p ys)
  where
    go : (b : Bool) → cond b (Some y) (find p ys) ≡ None → (find p ys ≡ None → filter (λ y. not (p y)) ys ≡ ys) →
        cond (not b) (y ∷ filter (λ y. not (p y)) ys) (filter (λ y. not (p y)) ys) ≡ y ∷ ys
    go true e i = cc
    go false e i = ap (λ l. y ∷ l) (i e)

last_out : {A : Type 0} (p : A → Bool) (x : A) (xs : List A) → p x ≡ true → filter (λ y. not (p y)) (xs ++ x ∷ []) ≡ filter (λ y. not (p y)) xs
last_out p x [] e = ap (λ b. cond (not b) (x ∷ []) []) e
last_out p x (y ∷ ys) e = ap (λ l. cond (not (p y)) (y ∷ l) l) (last_out p x ys e)

-- a row of a new key that is taken out again
pub put_out : {A : Type 0} (p : A → Bool) (x : A) (xs : List A) → find p xs ≡ None → p x ≡ true → filter (λ y. not (p y)) (put p x xs) ≡ xs
put_out p x xs e f = ap (filter (λ y. not (p y))) (put_last p x xs e) ∙ last_out p x xs f ∙ none_out p xs e

pub filter_true : {A : Type 0} (xs : List A) → filter (λ x. true) xs ≡ xs
filter_true [] = refl
filter_true (x ∷ xs) = ap (λ l. x ∷ l) (filter_true xs)

-- The keys of rows, from the last row on.

pub keys_end : {A : Type 0} (key : A → ℕ) (xs : List A) → [] ≡ rising (map key (drop (length xs) xs))
unfolding rising
keys_end key [] = refl
keys_end key (x ∷ xs) = keys_end key xs

keys_at : {A : Type 0} (key : A → ℕ) (xs : List A) (i : ℕ) (d : A) → i < length xs → rising (map key (drop i xs)) ≡ with_key (key (get_or xs i d)) (rising (map key (drop (suc i) xs)))
unfolding rising
keys_at key [] i d l = absurd (omega arith)
keys_at key (x ∷ xs) zero d l = refl
keys_at key (x ∷ xs) (suc i) d l = keys_at key xs i d (omega arith)

-- one more row
pub keys_more : {A : Type 0} (key : A → ℕ) (xs : List A) (i : ℕ) (d : A) → 0 < i → i ≤ length xs →
    with_key (key (get_or xs (i - 1) d)) (rising (map key (drop i xs))) ≡ rising (map key (drop (i - 1) xs))
keys_more key xs i d p l =
    let e : suc (i - 1) ≡ i = omega arith in
    ap (λ n. with_key (key (get_or xs (i - 1) d)) (rising (map key (drop n xs)))) (sym e) ∙ sym (keys_at key xs (i - 1) d (omega (arith, p, l)))
