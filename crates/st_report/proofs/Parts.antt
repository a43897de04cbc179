-- Texts that are appended one after another.
use Rattle.std.proofs.Common.{◌≡◌, ℕ, List, ◌++◌, Result, Ok, Err, OnOk, ◌∙◌, ap}
use Rattle.std.proofs.lemmas.List.{append_assoc}

-- two texts more
next_two : (old one two front a b : List ℕ) → one ≡ old ++ front → two ≡ one ++ (a ++ b) → two ≡ old ++ (front ++ (a ++ b))
next_two old one two front a b h k = k ∙ ap (λ t. t ++ (a ++ b)) h ∙ append_assoc old front (a ++ b)

regrouped : (a b c d e f g h i j k l m n o p q : List ℕ) →
    ((((((((a ++ b) ++ (c ++ d)) ++ (e ++ f)) ++ (g ++ h)) ++ (i ++ j)) ++ (k ++ l)) ++ (m ++ n)) ++ (o ++ p)) ++ q
    ≡ (a ++ b ++ c ++ d ++ e ++ f) ++ (g ++ h ++ i ++ j ++ k ++ l) ++ m ++ n ++ o ++ p ++ q
regrouped a b c d e f g h i j k l m n o p q = simp append_assoc

-- eight times two texts, and then one
in_nine : (old s t u v w x y z new a b c d e f g h i j k l m n o p q : List ℕ) →
    s ≡ old ++ (a ++ b) → t ≡ s ++ (c ++ d) → u ≡ t ++ (e ++ f) → v ≡ u ++ (g ++ h) → w ≡ v ++ (i ++ j) → x ≡ w ++ (k ++ l) → y ≡ x ++ (m ++ n) →
    z ≡ y ++ (o ++ p) → new ≡ z ++ q →
    new ≡ old ++ ((a ++ b ++ c ++ d ++ e ++ f) ++ (g ++ h ++ i ++ j ++ k ++ l) ++ m ++ n ++ o ++ p ++ q)
in_nine old s t u v w x y z new a b c d e f g h i j k l m n o p q is it iu iv iw ix iy iz inew =
    let ft = next_two old s t _ c d is it in
    let fu = next_two old t u _ e f ft iu in
    let fv = next_two old u v _ g h fu iv in
    let fw = next_two old v w _ i j fv iw in
    let fx = next_two old w x _ k l fw ix in
    let fy = next_two old x y _ m n fx iy in
    let fz = next_two old y z _ o p fy iz in
    inew ∙ ap (λ r. r ++ q) fz ∙ append_assoc old _ q ∙ ap (λ r. old ++ r) (regrouped a b c d e f g h i j k l m n o p q)

-- the same, unless the last one was not written
pub in_parts : {A E : Type 0} → (r : Result A E) (old s t u v w x y z new a b c d e f g h i j k l m n o p q : List ℕ) →
    s ≡ old ++ (a ++ b) → t ≡ s ++ (c ++ d) → u ≡ t ++ (e ++ f) → v ≡ u ++ (g ++ h) → w ≡ v ++ (i ++ j) → x ≡ w ++ (k ++ l) → y ≡ x ++ (m ++ n) →
    z ≡ y ++ (o ++ p) → OnOk r (new ≡ z ++ q) →
    OnOk r (new ≡ old ++ ((a ++ b ++ c ++ d ++ e ++ f) ++ (g ++ h ++ i ++ j ++ k ++ l) ++ m ++ n ++ o ++ p ++ q))
in_parts (Ok done) old s t u v w x y z new a b c d e f g h i j k l m n o p q is it iu iv iw ix iy iz inew =
    in_nine old s t u v w x y z new a b c d e f g h i j k l m n o p q is it iu iv iw ix iy iz inew
in_parts (Err fault) old s t u v w x y z new a b c d e f g h i j k l m n o p q is it iu iv iw ix iy iz inew = inew
