-- What the lines of a step add to lists that only grow, and to counts: line by line, and one step after another.
use Rattle.st_lemmas.proofs.Words
use Words.{◌≡◌, ℕ, ◌+◌, Bool, List, [], ◌∷◌, ◌++◌, Option, Some, refl, sym, ap, ◌∙◌, arith, append_assoc, length-append, append-nil, length, filter, filter_map}
use Words.{map, set, slice_get, suc, zero, Observation}
use Rattle.std.proofs.lemmas.List.Elements.{filter_map-append, filter-append}
use Rattle.st_promises.specs.Counts.{count_lines, under_numbers}

-- the numbers go on
numbers_more : {A : Type 0} (n : ℕ) (xs ys : List A) → under_numbers n (xs ++ ys) ≡ under_numbers n xs ++ under_numbers (n + length xs) ys
unfolding under_numbers
numbers_more n [] ys = ap (λ k. under_numbers k ys) (let z : n ≡ n + 0 = omega arith in z)
numbers_more n (x ∷ xs) ys =
    ap (λ z. (n, x) ∷ z) (numbers_more (n + 1) xs ys)
    ∙ ap (λ k. (n, x) ∷ (under_numbers (n + 1) xs ++ under_numbers k ys)) (let z : n + 1 + length xs ≡ n + suc (length xs) = omega arith in z)

-- What lines add to a list whose members they tell under their numbers.
pub record Grows {A : Type 0} (line : Observation → Option (ℕ × A)) (before : List A) (os : List Observation) (after : List A) : Type 0 where
  pub new : List A
  pub lines : filter_map line os ≡ under_numbers (length before + 1) new
  pub is : after ≡ before ++ new

pub grows_none : {A : Type 0} (line : Observation → Option (ℕ × A)) (xs : List A) (os : List Observation) → filter_map line os ≡ [] → Grows line xs os xs
unfolding under_numbers
grows_none line xs os e = record { new = []; lines = e; is = sym (append-nil xs) }

pub grows_then : {A : Type 0} (line : Observation → Option (ℕ × A)) (xs ys zs : List A) (os ps : List Observation) → Grows line xs os ys → Grows line ys ps zs → Grows line xs (os ++ ps) zs
grows_then line xs ys zs os ps g h =
    record {
      new = g.new ++ h.new;
      lines =
          filter_map-append line os ps ∙ ap (λ z. z ++ filter_map line ps) g.lines ∙ ap (λ z. under_numbers (length xs + 1) g.new ++ z) h.lines
          ∙ ap (λ k. under_numbers (length xs + 1) g.new ++ under_numbers k h.new) place ∙ sym (numbers_more (length xs + 1) g.new h.new);
      is = h.is ∙ ap (λ z. z ++ h.new) g.is ∙ append_assoc xs g.new h.new;
    }
  where
    place : length ys + 1 ≡ length xs + 1 + length g.new
    place = ap (λ (z : List _). length z + 1) g.is ∙ ap (λ k. k + 1) (length-append xs g.new) ∙ (let z : length xs + length g.new + 1 ≡ length xs + 1 + length g.new = omega arith in z)

-- What lines add to a list whose members they tell.
pub record Adds {A : Type 0} (line : Observation → Option A) (before : List A) (os : List Observation) (after : List A) : Type 0 where
  pub is : after ≡ before ++ filter_map line os

pub adds_none : {A : Type 0} (line : Observation → Option A) (xs : List A) (os : List Observation) → filter_map line os ≡ [] → Adds line xs os xs
adds_none line xs os e = record { is = sym (append-nil xs) ∙ ap (λ z. xs ++ z) (sym e) }

pub adds_then : {A : Type 0} (line : Observation → Option A) (xs ys zs : List A) (os ps : List Observation) → Adds line xs os ys → Adds line ys ps zs → Adds line xs (os ++ ps) zs
adds_then line xs ys zs os ps g h =
    record { is = h.is ∙ ap (λ z. z ++ filter_map line ps) g.is ∙ append_assoc xs (filter_map line os) (filter_map line ps) ∙ ap (λ z. xs ++ z) (sym (filter_map-append line os ps)) }

-- how many of more lines pass a test
pub count_more : (p : Observation → Bool) (os ps : List Observation) → count_lines p (os ++ ps) ≡ count_lines p os + count_lines p ps
count_more p os ps = ap length (filter-append p os ps) ∙ length-append (filter p os) (filter p ps)

-- What is at a number is replaced by something that a function can't tell apart from it.
pub map_set : {A B : Type 0} (f : A → B) (xs : List A) (n : ℕ) (x y : A) → slice_get xs n ≡ Some y → f x ≡ f y → map f (set xs n x) ≡ map f xs
map_set f [] n x y e q = refl
map_set f (z ∷ xs) zero x y e q = ap (λ v. v ∷ map f xs) (q ∙ ap f (sym (some e)))
  where
    some : Some z ≡ Some y → z ≡ y
    some r = cc
map_set f (z ∷ xs) (suc n) x y e q = ap (λ v. f z ∷ v) (map_set f xs n x y e q)
