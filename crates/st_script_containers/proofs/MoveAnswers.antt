-- The texts of several updates.
use Rattle.std.proofs.Common.{◌≡◌, ℕ, zero, suc, ◌+◌, List, [], ◌∷◌, ◌++◌, flat_map, take, sym, ◌∙◌, ap, add-one, append-nil, append_assoc}
use Rattle.std.specs.Prelude.{Some, slice_get}

text_step : {A : Type 0} (f : A → List ℕ) (xs : List A) (i : ℕ) (x : A) → slice_get xs i ≡ Some x → flat_map f (take (suc i) xs) ≡ flat_map f (take i xs) ++ f x
text_step f [] i x e = cc
text_step f (y ∷ ys) zero x e = let s : y ≡ x = cc in append-nil (f y) ∙ ap f s
text_step f (y ∷ ys) (suc i) x e = ap (λ l. f y ++ l) (text_step f ys i x e) ∙ sym (append_assoc (f y) (flat_map f (take i ys)) (f x))

-- the text of one more
pub text_next : {A : Type 0} (f : A → List ℕ) (xs : List A) (i : ℕ) (x : A) → slice_get xs i ≡ Some x → flat_map f (take (i + 1) xs) ≡ flat_map f (take i xs) ++ f x
text_next f xs i x e = ap (λ n. flat_map f (take n xs)) (add-one i) ∙ text_step f xs i x e
