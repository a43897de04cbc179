-- Dirty pages join the lost ones, one after another.
use Rattle.st_lemmas.proofs.Words
use Words.{◌≡◌, ℕ, zero, suc, ◌+◌, List, [], ◌∷◌, ◌++◌, take, refl, sym, ap, ◌∙◌, arith, Some, slice_get, LostPage, PageCommand, DirtyPage}
use Words.ClientPages.{lost_page, with_lost, with_lost_pages}
use Words.Lookups.{some_is}

lost_last : (cs : List PageCommand) (ds : List DirtyPage) (d : DirtyPage) (lost : List LostPage) → with_lost_pages cs (ds ++ d ∷ []) lost ≡ with_lost (lost_page cs d) (with_lost_pages cs ds lost)
unfolding with_lost_pages
lost_last cs [] d lost = refl
lost_last cs (x ∷ xs) d lost = lost_last cs xs d (with_lost (lost_page cs x) lost)

take_place : {A : Type 0} (xs : List A) (i : ℕ) (x : A) → slice_get xs i ≡ Some x → take (suc i) xs ≡ take i xs ++ x ∷ []
take_place [] i x e = cc
take_place (y ∷ ys) zero x e = ap (λ z. z ∷ []) (some_is e)
take_place (y ∷ ys) (suc i) x e = ap (λ zs. y ∷ zs) (take_place ys i x e)

-- one more dirty page
pub lost_more : (cs : List PageCommand) (ds : List DirtyPage) (i : ℕ) (d : DirtyPage) (lost : List LostPage) → slice_get ds i ≡ Some d →
    with_lost (lost_page cs d) (with_lost_pages cs (take i ds) lost) ≡ with_lost_pages cs (take (i + 1) ds) lost
lost_more cs ds i d lost e =
    let n : suc i ≡ i + 1 = omega arith in
    sym (lost_last cs (take i ds) d lost) ∙ ap (λ xs. with_lost_pages cs xs lost) (sym (take_place ds i d e)) ∙ ap (λ n. with_lost_pages cs (take n ds) lost) n
