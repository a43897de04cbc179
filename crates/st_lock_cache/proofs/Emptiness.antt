-- Whether anything is in a list.
use Rattle.st_lemmas.proofs.Words
use Words.{◌≡◌, List, [], ◌∷◌, length, refl, arith, nat_lt, lt-ltb}
use Words.Client.{is_any}

pub any_is : {A : Type 0} (xs : List A) → nat_lt 0 (length xs) ≡ is_any xs
any_is [] = refl
any_is (x ∷ xs) = lt-ltb 0 (length (x ∷ xs)) (omega arith)
