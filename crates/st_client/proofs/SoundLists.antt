-- Lists of which each element passes a test: appended, filtered, changed, and after a row was put.
use Rattle.st_lemmas.proofs.Words
use Words.{◌≡◌, ℕ, ◌+◌, ◌≤◌, Bool, true, false, ◌||◌, List, [], ◌∷◌, ◌++◌, length, refl, arith, filter, find, map, nat_lt, is_some, Option, Some}
use Words.{None, cond, list_all, cons_option, ltb-true}
use Words.Tables.{and_true, and_both}
use Words.Keys.{put, rising}
use Words.Lengths.{with_key_length}
use Words.Truth.{if_either}
use Rattle.std.specs.List.{filter_map}
use Rattle.st_lemmas.proofs.Puts.{length_put}

pub all_append : {A : Type 0} (p : A → Bool) (xs ys : List A) → list_all p xs ≡ true → list_all p ys ≡ true → list_all p (xs ++ ys) ≡ true
all_append p [] ys h g = g
all_append p (x ∷ xs) ys h g =
    let s = and_true (p x) (list_all p xs) h in
    and_both (p x) (list_all p (xs ++ ys)) s.0 (all_append p xs ys s.1 g)

pub all_filter : {A : Type 0} (p q : A → Bool) (xs : List A) → list_all p xs ≡ true → list_all p (filter q xs) ≡ true
all_filter p q [] h = refl
all_filter p q (x ∷ xs) h =
    let s = and_true (p x) (list_all p xs) h in
    let i = all_filter p q xs s.1 in
    if_either (λ ys. list_all p ys ≡ true) (q x) (x ∷ filter q xs) (filter q xs) (and_both (p x) (list_all p (filter q xs)) s.0 i) i

pub all_put : {A : Type 0} (p q : A → Bool) (x : A) (xs : List A) → p x ≡ true → list_all p xs ≡ true → list_all p (put q x xs) ≡ true
unfolding put
all_put p q x [] e h = and_both (p x) true e refl
all_put p q x (y ∷ ys) e h =
    let s = and_true (p y) (list_all p ys) h in
    if_either (λ zs. list_all p zs ≡ true) (q y) (x ∷ ys) (y ∷ put q x ys) (and_both (p x) (list_all p ys) e s.1)
    (and_both (p y) (list_all p (put q x ys)) s.0 (all_put p q x ys e s.1))

pub all_map : {A : Type 0} (p : A → Bool) (f : A → A) (same : (x : A) → p x ≡ true → p (f x) ≡ true) (xs : List A) → list_all p xs ≡ true → list_all p (map f xs) ≡ true
all_map p f same [] h = refl
all_map p f same (x ∷ xs) h =
    let s = and_true (p x) (list_all p xs) h in
    and_both (p (f x)) (list_all p (map f xs)) (same x s.0) (all_map p f same xs s.1)

pub all_made : {A B : Type 0} (p : B → Bool) (f : A → B) (each : (x : A) → p (f x) ≡ true) (xs : List A) → list_all p (map f xs) ≡ true
all_made p f each [] = refl
all_made p f each (x ∷ xs) = and_both (p (f x)) (list_all p (map f xs)) (each x) (all_made p f each xs)

-- a row that is put over one leaves the length
put_over : {A : Type 0} (q : A → Bool) (x : A) (xs : List A) → is_some (find q xs) ≡ true → length (put q x xs) ≡ length xs
unfolding put
put_over q x [] e = cc
put_over {A} q x (y ∷ ys) e = go (q y) e (put_over q x ys)
  where
    go : (b : Bool) → is_some (cond b (Some y) (find q ys)) ≡ true → (is_some (find q ys) ≡ true → length (put q x ys) ≡ length ys) →
        length (cond b (x ∷ ys) (y ∷ put q x ys)) ≡ length (y ∷ ys)
    go true e i = refl
    go false e i = let z = i e in omega arith

-- and a row has a place if one is found, or fewer than the most are there
pub put_fits : {A : Type 0} (q : A → Bool) (x : A) (xs : List A) (n : ℕ) → length xs ≤ n → (is_some (find q xs) || nat_lt (length xs) n) ≡ true → length (put q x xs) ≤ n
put_fits q x xs n l e = go (is_some (find q xs)) refl e
  where
    go : (b : Bool) → is_some (find q xs) ≡ b → (b || nat_lt (length xs) n) ≡ true → length (put q x xs) ≤ n
    go true f e = let z = put_over q x xs f in omega (arith, l)
    go false f e = let z = ltb-true (length xs) n e in let k = length_put q x xs in omega arith

pub filter_map_fits : {A B : Type 0} (f : A → Option B) (xs : List A) → length (filter_map f xs) ≤ length xs
filter_map_fits f [] = omega arith
filter_map_fits {A} {B} f (x ∷ xs) = go (f x) (filter_map_fits f xs)
  where
    go : (o : Option B) → length (filter_map f xs) ≤ length xs → length (cons_option o (filter_map f xs)) ≤ length (x ∷ xs)
    go None i = omega arith
    go (Some y) i = omega arith

pub rising_fits : (xs : List ℕ) → length (rising xs) ≤ length xs
unfolding rising
rising_fits [] = omega arith
rising_fits (x ∷ xs) = let i = rising_fits xs in let k = with_key_length x (rising xs) in omega arith
