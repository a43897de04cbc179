-- A pass over a list: each of its steps leaves what it is given as it is, or makes it larger, by a test.
use Rattle.st_lemmas.proofs.Words
use Words.{◌≡◌, ℕ, ◌≤◌, ◌<◌, Bool, true, false, ◌||◌, ◌+◌, List, [], ◌∷◌, ◌++◌, refl, sym, ap, subst, arith, length, length-append, list_any}

-- if the test fails nothing changes, and if it passes the size grows
pub record IsBy {P : Type 0} (size : P → ℕ) (passes : Bool) (old new : P) : Type 0 where
  pub same : passes ≡ false → new ≡ old
  pub more : passes ≡ true → size old < size new

pub never_less : {P : Type 0} (size : P → ℕ) (b : Bool) (old new : P) → IsBy size b old new → size old ≤ size new
never_less size true old new h = let m = h.more refl in omega (arith, m)
never_less size false old new h = let e = ap size (h.same refl) in omega (arith, e)

-- one step and another, whose test is that of what the first was given
pub and_then : {P : Type 0} (size : P → ℕ) (a b : Bool) (x y z : P) → IsBy size a x y → ((y ≡ x) → IsBy size b x z) → size y ≤ size z → IsBy size (a || b) x z
and_then size true b x y z f g l = record {
  same = λ e. cc;
  more = λ e. let m = f.more refl in omega (arith, m, l);
}
and_then size false b x y z f g l = g (f.same refl)

-- a list of steps
abbrev pub fold_steps : {A P : Type 0} → (A → P → P) → List A → P → P
fold_steps step [] p = p
fold_steps step (x ∷ xs) p = fold_steps step xs (step x p)

module _ {A P : Type 0} (size : P → ℕ) (step : A → P → P) (test : A → P → Bool) (each : (x : A) (p : P) → IsBy size (test x p) p (step x p)) where
  pub steps_grow : (xs : List A) (p : P) → size p ≤ size (fold_steps step xs p)
  steps_grow [] p = omega arith
  steps_grow (x ∷ xs) p =
      let a = never_less size (test x p) p (step x p) (each x p) in
      let b = steps_grow xs (step x p) in
      omega (arith, a, b)

  pub steps_by : (xs : List A) (p : P) → IsBy size (list_any (λ x. test x p) xs) p (fold_steps step xs p)
  steps_by [] p = record { same = λ e. refl; more = λ e. cc }
  steps_by (x ∷ xs) p =
      and_then size (test x p) (list_any (λ y. test y p) xs) p (step x p) (fold_steps step xs (step x p)) (each x p)
      (λ e. subst (λ q. IsBy size (list_any (λ y. test y p) xs) p (fold_steps step xs q)) (sym e) (steps_by xs p))
      (steps_grow xs (step x p))

-- one more at the end
pub one_longer : {A : Type 0} (xs : List A) (x : A) → length (xs ++ x ∷ []) ≡ length xs + 1
one_longer xs x = length-append xs (x ∷ [])
