-- Places that differ are no more than those of a list that contains them.
use Rattle.st_lemmas.proofs.Words
use Words.{◌≡◌, ◌≤◌, suc, Bool, true, false, ◌==◌, List, [], ◌∷◌, ◌++◌, refl, sym, ap, ◌∙◌, subst, inl, inr, arith, if◌then◌else◌}
use Words.{eqb-true, length, list_any, FileId, PageNo}
use Words.Lists.{Has}
use Words.Members.{has_right, some_member_passes}
use Words.Tables.{and_true}
use Words.Truth.{file_is}
use Rattle.st_volume.specs.Pages.{same_file, same_place}
use Rattle.st_volume.specs.Volume.{distinct}

-- A list without one of its items.
without : {A : Type 0} (x : A) (ys : List A) → Has x ys → List A
without x [] h = absurd h
without x (y ∷ ys) (inl e) = ys
without x (y ∷ ys) (inr i) = y ∷ without x ys i

one_less : {A : Type 0} (x : A) (ys : List A) (h : Has x ys) → suc (length (without x ys h)) ≡ length ys
unfolding without
one_less x [] h = absurd h
one_less x (y ∷ ys) (inl e) = refl
one_less x (y ∷ ys) (inr i) = ap suc (one_less x ys i)

others_left : {A : Type 0} (x : A) (ys : List A) (h : Has x ys) (z : A) → Has z ys → (z ≡ x → ⊥) → Has z (without x ys h)
unfolding without
others_left x [] h z i n = absurd h
others_left x (y ∷ ys) (inl e) z (inl k) n = absurd (n (k ∙ sym e))
others_left x (y ∷ ys) (inl e) z (inr k) n = k
others_left x (y ∷ ys) (inr i) z (inl k) n = inl k
others_left x (y ∷ ys) (inr i) z (inr k) n = inr (others_left x ys i z k n)

-- no two are equal
abbrev pub AllApart : {A : Type 0} → List A → Type 0
AllApart [] = Unit {0}
AllApart {A} (x ∷ xs) = ((z : A) → Has z xs → z ≡ x → ⊥) × AllApart xs

pub apart_few : {A : Type 0} (xs ys : List A) → AllApart xs → ((x : A) → Has x xs → Has x ys) → length xs ≤ length ys
apart_few [] ys a h = omega (arith)
apart_few (x ∷ xs) ys a h =
    let i = h x (inl refl) in
    let few = apart_few xs (without x ys i) a.1 (λ z k. others_left x ys i z (h z (inr k)) (a.0 z k)) in
    let less = one_less x ys i in omega (arith, few, less)

-- Places.
pub place_is : (x y : FileId × PageNo) → same_place x y ≡ true → x ≡ y
place_is x y q =
    let b = and_true (same_file x.0 y.0) (x.1.0 == y.1.0) q in
    ap (λ f. (f, x.1)) (file_is x.0 y.0 b.0) ∙ ap (λ n. (y.0, record { 0 = n })) (eqb-true x.1.0 y.1.0 b.1)

pub distinct_has : (xs : List (FileId × PageNo)) (x : FileId × PageNo) → Has x xs → Has x (distinct same_place xs)
unfolding distinct
distinct_has [] x h = absurd h
distinct_has (y ∷ ys) x (inr h) = has_right (if list_any (same_place y) ys then [] else y ∷ []) (distinct same_place ys) x (distinct_has ys x h)
distinct_has (y ∷ ys) x (inl e) = go (list_any (same_place y) ys) refl (distinct_has ys x)
  where
    go : (b : Bool) → list_any (same_place y) ys ≡ b → (Has x ys → Has x (distinct same_place ys)) →
        Has x ((if b then [] else y ∷ []) ++ distinct same_place ys)
    go false q r = inl e
    go true q r = let m = some_member_passes (same_place y) ys q in r (subst (λ z. Has z ys) (sym (e ∙ place_is y m.0 m.2)) m.1)
