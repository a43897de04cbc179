-- Disks hold what is hard if the pages hold.
use Rattle.st_lemmas.proofs.Words
use Words.{◌≡◌, ℕ, List, [], ◌∷◌, ◌++◌, Option, Some, None, refl, ◌∙◌, FileId, PageNo, Extent, LogEntry}
use Words.ClientPages.{found_under}
use Words.Safety.{Step, Throughout}
use Words.Server.{ServerNode}
use Words.World.{World, node_of}
use Rattle.st_promises.specs.Held.{all_pages, AreHeld, extent_at, hard_after, hard_from, held_at, IsHeld, DisksHoldWhatIsHard}
use Rattle.st_laws_pages.specs.Disks.Folds as folds
use Rattle.st_laws_pages.specs.Disks.Pages.{standing}
use Rattle.st_laws_pages.specs.Disks.Runs.{PagesAfter}
use Rattle.st_laws_pages.specs.Disks.World.{PagesHold, block_in, mapped_at}

-- the two folds over the hard entries are the same
same_fold : (page : List ℕ) (f : FileId) (p : PageNo) (es : List LogEntry) → folds.hard_from page f p es ≡ hard_from page f p es
unfolding hard_from
same_fold page f p [] = refl
same_fold page f p (e ∷ es) = same_fold (hard_after f p e page) f p es

-- so is what stands for a page and what the disks hold of it
same_extent : (w : World) (f : FileId) (p : PageNo) (o : Option ServerNode) → held_at w f p (extent_at f p o) ≡ standing f p (block_in w) (mapped_at f p o)
unfolding found_under
same_extent w f p None = refl
same_extent w f p (Some node) = go (mapped_at f p (Some node))
  where
    go : (o : Option Extent) → held_at w f p o ≡ standing f p (block_in w) o
    go None = refl
    go (Some e) = refl

one_held : (w : World) (x : FileId × PageNo) → PagesHold w → IsHeld w x
one_held w x h = same_extent w x.0 x.1 (node_of w x.0.server) ∙ h.pages.stands x.0 x.1 ∙ same_fold _ x.0 x.1 w.log

all_held : (w : World) (xs : List (FileId × PageNo)) → PagesHold w → AreHeld w xs
unfolding AreHeld
all_held w [] h = tt
all_held w (x ∷ xs) h = (one_held w x h, all_held w xs h)

pub held_throughout : (past xs : List Step) → Throughout PagesAfter past xs → Throughout DisksHoldWhatIsHard past xs
unfolding Throughout
held_throughout past [] h = tt
held_throughout past (x ∷ xs) h = (all_held x.after.world (all_pages x.after.world) h.0, held_throughout (past ++ x ∷ []) xs h.1)
