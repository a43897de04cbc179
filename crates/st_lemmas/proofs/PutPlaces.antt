-- A row that is put in its place replaces the first one that passes the test, or goes last.
use Rattle.std.proofs.Common.{◌≡◌, ℕ, suc, ◌+◌, ◌<◌, ◌≤◌, Bool, true, false, cond, not, List, [], ◌∷◌, ◌++◌, length, set, Option, Some, None, arith, refl, ap}
use Rattle.std.specs.Prelude.{nat_lt}
use Rattle.std.specs.List.{position, position_or_len}
use Rattle.std.proofs.lemmas.Bool.{ltb-true, ltb-false}
use Rattle.st_rules.specs.Keys.{put}

-- one row, and the others
there_and : {A : Type 0} (x y : A) (ys rest : List A) (n : ℕ) (b : Bool) → (n < length ys → rest ≡ set ys n x) → cond (not b) (1 + n) 0 < suc (length ys) →
    cond b (x ∷ ys) (y ∷ rest) ≡ set (y ∷ ys) (cond (not b) (1 + n) 0) x
there_and x y ys rest n true more h = refl
there_and x y ys rest n false more h = let e : 1 + n ≡ suc n = omega arith in rw e (ap (λ l. y ∷ l) (more (omega arith)))

put_there : {A : Type 0} (p : A → Bool) (x : A) (xs : List A) → position_or_len p xs < length xs → put p x xs ≡ set xs (position_or_len p xs) x
unfolding put
put_there p x [] h = absurd (omega arith)
put_there p x (y ∷ ys) h = there_and x y ys (put p x ys) (position_or_len p ys) (p y) (put_there p x ys) h

last_and : {A : Type 0} (x y : A) (ys rest : List A) (n : ℕ) (b : Bool) → (length ys ≤ n → rest ≡ ys ++ x ∷ []) → suc (length ys) ≤ cond (not b) (1 + n) 0 →
    cond b (x ∷ ys) (y ∷ rest) ≡ y ∷ (ys ++ x ∷ [])
last_and x y ys rest n true more h = absurd (omega arith)
last_and x y ys rest n false more h = ap (λ l. y ∷ l) (more (omega arith))

put_last : {A : Type 0} (p : A → Bool) (x : A) (xs : List A) → length xs ≤ position_or_len p xs → put p x xs ≡ xs ++ x ∷ []
unfolding put
put_last p x [] h = refl
put_last p x (y ∷ ys) h = last_and x y ys (put p x ys) (position_or_len p ys) (p y) (put_last p x ys) h

-- by where the first one is
put_some : {A : Type 0} (p : A → Bool) (x : A) (xs : List A) (i n : ℕ) (b : Bool) → nat_lt n (length xs) ≡ b → Some i ≡ cond b (Some n) None →
    (n < length xs → put p x xs ≡ set xs n x) → put p x xs ≡ set xs i x
put_some p x xs i n true t e there = let q : i ≡ n = grind arith in rw q (there (ltb-true n (length xs) t))
put_some p x xs i n false t e there = absurd (cc)

put_none : {A : Type 0} (p : A → Bool) (x : A) (xs : List A) (n : ℕ) (b : Bool) → nat_lt n (length xs) ≡ b → None ≡ cond b (Some n) None →
    (length xs ≤ n → put p x xs ≡ xs ++ x ∷ []) → put p x xs ≡ xs ++ x ∷ []
put_none p x xs n true t e last = absurd (cc)
put_none p x xs n false t e last = last (ltb-false n (length xs) t)

pub put_at : {A : Type 0} (p : A → Bool) (x : A) (xs : List A) (i : ℕ) → Some i ≡ position p xs → put p x xs ≡ set xs i x
put_at p x xs i e = put_some p x xs i (position_or_len p xs) _ refl e (put_there p x xs)

pub put_behind : {A : Type 0} (p : A → Bool) (x : A) (xs : List A) → None ≡ position p xs → put p x xs ≡ xs ++ x ∷ []
put_behind p x xs e = put_none p x xs (position_or_len p xs) _ refl e (put_last p x xs)
