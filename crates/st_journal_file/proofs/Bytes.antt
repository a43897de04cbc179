-- What a crash leaves of bytes of which some were written and not synced.
use Rattle.std.proofs.Common.{◌≡◌, ◌⊎◌, ℕ, Bool, true, false, List, [], ◌∷◌, ◌++◌, refl, sym, ap, ◌∙◌, subst, inl, inr}
use Rattle.st_journal_file.specs.Histories.{IsEither, AreEither, IsLeft}
use Rattle.st_journal_file.specs.Layout.{File, area_of}

pub either_same : (n z : ℕ) → IsEither n n z → z ≡ n
either_same n z (inl e) = e
either_same n z (inr e) = e

-- what was not written stays
pub are_same : (xs zs : List ℕ) → AreEither xs xs zs → zs ≡ xs
are_same [] [] u = refl
are_same [] (z ∷ zs) u = absurd u
are_same (x ∷ xs) [] u = absurd u
are_same (x ∷ xs) (z ∷ zs) u =
    let head : z ≡ x = either_same x z u.0 in
    let tail : zs ≡ xs = are_same xs zs u.1 in
    cc

-- the bytes begin with these, and what follows is either of what follows in the others
pub record GoesOn (front r q c : List ℕ) : Type 0 where
  pub rest : List ℕ
  pub parts : c ≡ front ++ rest
  pub either : AreEither r q rest

-- what is before all that was written stays
pub front_stays : (front r q c : List ℕ) → AreEither (front ++ r) (front ++ q) c → GoesOn front r q c
front_stays [] r q c u = record { rest = c; parts = refl; either = u }
front_stays (x ∷ xs) r q [] u = absurd u
front_stays (x ∷ xs) r q (z ∷ c) u =
    let on = front_stays xs r q c u.1 in
    let head : z ≡ x = either_same x z u.0 in
    let tail : c ≡ xs ++ on.rest = on.parts in
    record { rest = on.rest; parts = cc; either = on.either }

-- the first byte is either of two, and what follows was not written
pub record IsOneOf (a b : ℕ) (xs c : List ℕ) : Type 0 where
  pub mark : ℕ
  pub parts : c ≡ mark ∷ xs
  pub either : IsEither a b mark

pub mark_left : (a b : ℕ) (xs c : List ℕ) → AreEither (a ∷ xs) (b ∷ xs) c → IsOneOf a b xs c
mark_left a b xs [] u = absurd u
mark_left a b xs (z ∷ c) u = let tail : c ≡ xs = are_same xs c u.1 in record { mark = z; parts = ap (λ (ys : List ℕ). z ∷ ys) tail; either = u.0 }

pub area_left : (current : Bool) (synced seen left : File) → IsLeft synced seen left → AreEither (area_of current synced) (area_of current seen) (area_of current left)
area_left false synced seen left l = l.first
area_left true synced seen left l = l.second

-- of bytes that were written so and synced so
pub either_of : (old new n m : ℕ) → old ≡ n → new ≡ n → IsEither old new m → m ≡ n
either_of old new n m e f (inl g) = g ∙ e
either_of old new n m e f (inr g) = g ∙ f

pub are_of : (old new xs left : List ℕ) → old ≡ xs → new ≡ xs → AreEither old new left → left ≡ xs
are_of old new xs left e f u = are_same xs left (subst (λ (ys : List ℕ). AreEither xs ys left) f (subst (λ (ys : List ℕ). AreEither ys new left) e u))
