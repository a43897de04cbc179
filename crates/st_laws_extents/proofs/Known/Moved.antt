-- What a server's step leaves of an extent: it stays, or its page was cut.
use Rattle.st_lemmas.proofs.Words
use Words.{◌≡◌, ◌⊎◌, ◌≤◌, Bool, true, false, not, List, [], ◌∷◌, Some, refl, sym, ap, ◌∙◌, subst, inl, inr}
use Words.{nat_le, eqb-true, leb-true, BlockAt, FileId, PageNo, ServerId, Output, Extent}
use Words.notes
use Words.outputs
use Words.Extents as extents
use Words.Extents.{Extents}
use Words.Keys.{same_file, same_page}
use Words.Lists.{Has}
use Words.Tables.{and_true, found_at}
use Words.Tests.{find_filtered, find_longer}
use Words.Truth.{file_is}
use Rattle.st_laws_pages.specs.Disks.World.{Cuts, ExtentsMove, Maps, OneCut, Stays}

-- pages that are mapped stay mapped when others are placed
placed : (f : FileId) (ps : List PageNo) (x : Extents) (g : FileId) (p : PageNo) (e : Extent) → extents.extent_of x g p ≡ Some e → extents.extent_of (extents.place_pages f ps x) g p ≡ Some e
unfolding extents.place_pages extents.place_on
placed f [] x g p e h = h
placed f (q ∷ ps) x g p e h = placed f ps (extents.place_on x f q (extents.free_blocks x)) g p e (go (extents.free_blocks x))
  where
    go : (bs : List BlockAt) → extents.extent_of (extents.place_on x f q bs) g p ≡ Some e
    go [] = h
    go (b ∷ bs) = find_longer (extents.is_extent_of g p) e x.rows (extents.new_extent x f q b ∷ []) h

-- a page that is cut: from this page or an earlier one on
pub record CutNoted (f : FileId) (p : PageNo) (os : List Output) : Type 0 where
  pub from : PageNo
  pub up : from.0 ≤ p.0
  pub noted : Has (outputs.Note (notes.CutDone f from)) os

pub noted : (f : FileId) (p : PageNo) (os : List Output) → OneCut f p os → Has (outputs.Note (notes.CutDone f p)) os
noted f p [] h = absurd h
noted f p (o ∷ os) (inl h) = inl (sym h.here)
noted f p (o ∷ os) (inr h) = inr (noted f p os h.rest)

pub moved : (s : ServerId) (x y : Extents) (os : List Output) → ExtentsMove s x y os → (g : FileId) (p : PageNo) (e : Extent) → extents.extent_of x g p ≡ Some e → (extents.extent_of y g p ≡ Some e) ⊎ CutNoted g p os
unfolding extents.release_from
moved s x _ os (Stays _ n) g p e h = inl h
moved s x _ os (Maps _ f ps i n) g p e h = inl (placed f ps x g p e h)
moved s x _ os (Cuts _ f q i one) g p e h = go (extents.is_at_or_behind f q e) refl
  where
    is : extents.is_extent_of g p e ≡ true
    is = (found_at (extents.is_extent_of g p) x.rows e h).0

    go : (b : Bool) → extents.is_at_or_behind f q e ≡ b → (extents.extent_of (extents.release_from x f q) g p ≡ Some e) ⊎ CutNoted g p os
    go false r = inl (find_filtered (extents.is_extent_of g p) (λ z. not (extents.is_at_or_behind f q z)) e x.rows h (ap not r))
    go true r =
        let a = and_true (same_file e.file f) (nat_le q.0 e.page.0) r in
        let b = and_true (same_file e.file g) (same_page e.page p) is in
        let file : f ≡ g = sym (file_is e.file f a.0) ∙ file_is e.file g b.0 in
        inr (record { from = q; up = subst (λ n. q.0 ≤ n) (eqb-true e.page.0 p.0 b.1) (leb-true q.0 e.page.0 a.1); noted = subst (λ y. Has (outputs.Note (notes.CutDone y q)) os) file (noted f q os one) })
