-- What an allocation leaves: the pages that had no block are placed.
use Rattle.st_lemmas.proofs.Words
use Words.{◌≡◌, ℕ, Bool, true, false, List, length, if◌then◌else◌, Result, Ok, Err, nat_le, FileId, PageNo, AllocateRefusal}
use Words.wants.{NoSpace}
use Words.Extents as extents
use Words.Extents.{Extents}

pub allocated_pages_are_placed : (x : Extents) (f : FileId) (p : PageNo) (count : ℕ) (y : Extents) → extents.allocate x f p count ≡ Ok y →
    extents.place_pages f (extents.unmapped x f p count) x ≡ y
unfolding extents.allocate extents.allocate_pages
allocated_pages_are_placed x f p count y e = go (nat_le (length ps) (extents.free x)) e
  where
    ps : List PageNo
    ps = extents.unmapped x f p count

    go : (b : Bool) → ◌≡◌ {A = Result Extents AllocateRefusal} (if b then Ok (extents.place_pages f ps x) else Err
        (NoSpace (extents.free x) (length ps))) (Ok y) →
        extents.place_pages f ps x ≡ y
    go true q = cc
    go false q = cc
