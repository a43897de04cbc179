-- A list from which one was taken out, the last one coming to its place, and one that is put back there.
use Rattle.st_lemmas.proofs.Words
use Words.{◌≡◌, ℕ, zero, suc, ◌+◌, ◌-◌, ◌<◌, ◌≤◌, List, [], ◌∷◌, ◌++◌, get_or, length, take, refl, ap, ◌∙◌, arith, insert, remove}
use Rattle.std.specs.Prelude.{slice_set, swap_remove}

all_but_last : {A : Type 0} (y : A) (ys : List A) (a : A) → take (length ys) (y ∷ ys) ++ get_or (y ∷ ys) (length ys) a ∷ [] ≡ y ∷ ys
all_but_last y [] a = refl
all_but_last y (z ∷ zs) a = ap (λ l. y ∷ l) (all_but_last z zs a)

last_is : {A : Type 0} (x : A) (xs : List A) (a b : A) → get_or (x ∷ xs) (length xs) a ≡ get_or (x ∷ xs) (length xs) b
last_is x [] a b = refl
last_is x (y ∷ ys) a b = last_is y ys a b

came_there : {A : Type 0} (x : A) (xs : List A) (i : ℕ) (z w : A) → i < length xs → get_or (take (length xs) (slice_set (x ∷ xs) i z)) i w ≡ z
came_there x [] i z w l = absurd (omega (arith, l))
came_there x (y ∷ ys) zero z w l = refl
came_there x (y ∷ ys) (suc i) z w l = came_there y ys i z w (omega (arith, l))

back_before : {A : Type 0} (x : A) (xs : List A) (i : ℕ) (z b : A) → i < length xs → z ≡ get_or (x ∷ xs) (length xs) z →
    slice_set (take (length xs) (slice_set (x ∷ xs) i z)) i b ++ z ∷ [] ≡ insert (remove (x ∷ xs) i) i b
back_before x [] i z b l e = absurd (omega (arith, l))
back_before x (y ∷ ys) zero z b l e = ap (λ r. b ∷ r) (ap (λ w. take (length ys) (y ∷ ys) ++ w ∷ []) e ∙ all_but_last y ys z)
back_before x (y ∷ ys) (suc i) z b l e = ap (λ r. x ∷ r) (back_before y ys i z b (omega (arith, l)) e)

one_less : (n : ℕ) → suc n - 1 ≡ n
one_less n = omega arith

taken_out : {A : Type 0} (x : A) (xs : List A) (i : ℕ) (d : A) → swap_remove (x ∷ xs) i d ≡ take (length xs) (slice_set (x ∷ xs) i (get_or (x ∷ xs) (length xs) d))
taken_out x xs i d = ap (λ m. take m (slice_set (x ∷ xs) i (get_or (x ∷ xs) m d))) (one_less (length xs))

-- another one came to the place, which goes last again
pub returned_before : {A : Type 0} (xs : List A) (i : ℕ) (d b last : A) (old new : List A) → i < length xs → length old + 1 ≡ length xs → old ≡ swap_remove xs i d → i < length old →
    last ≡ get_or old i last → new ≡ slice_set old i b ++ last ∷ [] → new ≡ insert (remove xs i) i b
returned_before [] i d b last old new l n e m g k = absurd (omega (arith, l))
returned_before (x ∷ xs) i d b last old new l n e m g k =
    let z = get_or (x ∷ xs) (length xs) d in
    let o : old ≡ take (length xs) (slice_set (x ∷ xs) i z) = e ∙ taken_out x xs i d in
    let f : i < length xs = omega (arith, n, m) in
    let w : last ≡ z = g ∙ ap (λ os. get_or os i last) o ∙ came_there x xs i z last f in
    k ∙ (λ j. slice_set (o j) i b ++ w j ∷ []) ∙ back_before x xs i z b f (last_is x xs d z)
