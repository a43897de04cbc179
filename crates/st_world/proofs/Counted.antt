-- What is made for each number from 1, one after another.
use Rattle.st_lemmas.proofs.Words
use Words.{◌≡◌, ℕ, ◌+◌, ◌-◌, ◌<◌, ◌≤◌, List, [], ◌∷◌, ◌++◌, refl, sym, ap, ◌∙◌, append_assoc, map}
use Words.Extents.{numbers}
use Rattle.st_world_events.proofs.Flushed.{numbers_end, numbers_on}

nothing_more : {A : Type 0} (xs : List A) → xs ++ [] ≡ xs
nothing_more [] = refl
nothing_more (x ∷ xs) = ap (λ l. x ∷ l) (nothing_more xs)

-- one more
pub counted_on : {A : Type 0} (f : ℕ → A) (xs : List A) (i n : ℕ) → i < n → (xs ++ f (i + 1) ∷ []) ++ map f (numbers (i + 1 + 1) (n - (i + 1))) ≡ xs ++ map f (numbers (i + 1) (n - i))
counted_on f xs i n h =
    append_assoc xs (f (i + 1) ∷ []) (map f (numbers (i + 1 + 1) (n - (i + 1))))
    ∙ sym (ap (λ ns. xs ++ map f ns) (numbers_on i n h))

-- all
pub counted_end : {A : Type 0} (f : ℕ → A) (xs : List A) (i n : ℕ) → n ≤ i → xs ≡ xs ++ map f (numbers (i + 1) (n - i))
counted_end f xs i n h = sym (ap (λ ns. xs ++ map f ns) (numbers_end i n h) ∙ nothing_more xs)
