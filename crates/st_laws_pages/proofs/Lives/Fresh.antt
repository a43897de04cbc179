-- What goes by a number in a world at its start is the fresh one of that number.
use Rattle.st_lemmas.proofs.Words
use Words.{◌≡◌, ℕ, zero, suc, ◌+◌, Option, Some, None, refl, sym, ap, ◌∙◌, arith, map, slice_get, option_map}
use Words.Extents.{numbers}
use Words.World.{numbered}
use Words.Lookups.{some_is}
use Words.Numbers.{get_map}

pub numbers_get : (a c i m : ℕ) → slice_get (numbers a c) i ≡ Some m → m ≡ a + i
unfolding numbers
numbers_get a zero i m e = cc
numbers_get a (suc c) zero m e = let z = some_is e in omega (arith, z)
numbers_get a (suc c) (suc i) m e = let z = numbers_get (a + 1) c i m e in omega (arith, z)

-- what goes by a number at the start is the fresh one of that number
pub fresh_is : {A : Type 0} (f : ℕ → A) (count n : ℕ) (x : A) → numbered (map f (numbers 1 count)) n ≡ Some x → x ≡ f n
fresh_is f count zero x e = cc
fresh_is {A} f count (suc i) x e = at (slice_get (numbers 1 count) i) refl (sym (get_map f (numbers 1 count) i) ∙ e)
  where
    at : (o : Option ℕ) → slice_get (numbers 1 count) i ≡ o → option_map f o ≡ Some x → x ≡ f (suc i)
    at None q e = cc
    at (Some m) q e = sym (some_is e) ∙ ap f (numbers_get 1 count i m q ∙ (let z : 1 + i ≡ suc i = omega arith in z))
