-- Texts that are appended one after another.
use Rattle.std.proofs.Common.{◌≡◌, ℕ, List, ◌++◌, ◌∙◌, ap}
use Rattle.std.specs.Prelude.{Result, Ok, Err, OnOk}
use Rattle.std.proofs.lemmas.List.{append_assoc}

-- two texts are the same
pub both : (a b c t u : List ℕ) → b ≡ a ++ t → c ≡ b ++ u → c ≡ a ++ (t ++ u)
both a b c t u e f = f ∙ ap (λ x. x ++ u) e ∙ append_assoc a t u

-- and if the last call went well
pub both_ok : {A E : Type 0} (r : Result A E) (a b c t u : List ℕ) → b ≡ a ++ t → OnOk r (c ≡ b ++ u) → OnOk r (c ≡ a ++ (t ++ u))
both_ok (Err x) a b c t u e f = tt
both_ok (Ok x) a b c t u e f = both a b c t u e f

-- six texts, the last of them by a call that may fail
pub six : {A E : Type 0} (r : Result A E) (a b c d e f g t u v w x y : List ℕ) → b ≡ a ++ t → c ≡ b ++ u → d ≡ c ++ v → e ≡ d ++ w → f ≡ e ++ x → OnOk r (g ≡ f ++ y) →
    OnOk r (g ≡ a ++ (t ++ u ++ v ++ w ++ x ++ y))
six r a b c d e f g t u v w x y h i j k l m =
    both_ok r a f g (t ++ u ++ v ++ w ++ x) y (both a e f (t ++ u ++ v ++ w) x (both a d e (t ++ u ++ v) w (both a c d (t ++ u) v (both a b c t u h i) j) k) l) m
