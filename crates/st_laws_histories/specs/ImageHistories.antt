-- Histories of a volume with images: writes, reads, takes and drops, and what is promised about all of them.
use Rattle.std.specs.Prelude.{◌≡◌, ◌≤◌, ◌==◌, ℕ, Bool, true, false, not, ◌&&◌, if◌then◌else◌, List, [], ◌∷◌, ◌++◌, Option, Some, Result, Ok, Err}
use Rattle.std.specs.List.{list_any}
use Rattle.st_snap.specs.Changes.{Change, Took, is_view, same_page}
use Rattle.st_snap.specs.Images.{forget, is_full, read, take, write}
use Rattle.st_snap.specs.declared.refusal.SnapRefusal.{SnapRefusal}

pub data Call : Type 0 where
  Write : (file page : ℕ) (bytes : List ℕ) → Call
  Read : (image file page : ℕ) → Call
  Take : Call
  Forget : (image : ℕ) → Call

-- what a call leaves: a refused one leaves all as it was
abbrev pub left_by : {T : Type 0} → List Change → Result (T × List Change) SnapRefusal → List Change
left_by changes (Ok r) = r.1
left_by changes (Err e) = changes

abbrev pub after_call : ℕ → List Change → Call → List Change
after_call blocks changes (Write file page bytes) = left_by changes (write blocks changes file page bytes)
after_call blocks changes (Read image file page) = changes
after_call blocks changes Take = left_by changes (take changes)
after_call blocks changes (Forget image) = left_by changes (forget changes image)

-- these calls, the latest first, on a fresh volume of that many blocks
abbrev pub after_calls : ℕ → List Call → List Change
after_calls blocks [] = []
after_calls blocks (call ∷ earlier) = after_call blocks (after_calls blocks earlier) call

-- what the live pages answer
abbrev pub live : List Change → ℕ → ℕ → Result (Option (List ℕ)) SnapRefusal
live changes file page = read changes 0 file page

-- An image answers what the live pages answered in one moment: right before the take that was answered with its number.
pub record IsOneMoment (blocks : ℕ) (calls : List Call) (image : ℕ) : Type 0 where
  pub later : List Call
  pub earlier : List Call
  pub are : calls ≡ later ++ Take ∷ earlier
  pub taken : take (after_calls blocks earlier) ≡ Ok (image, Took ∷ after_calls blocks earlier)
  pub same : (file page : ℕ) → read (after_calls blocks calls) image file page ≡ live (after_calls blocks earlier) file page

-- what a live page answers after a call: a write that is not refused changes only its page, and no other call changes any
abbrev pub live_after : ℕ → List Change → Call → ℕ → ℕ → Result (Option (List ℕ)) SnapRefusal
live_after blocks changes (Write file page bytes) f p = if not (is_full blocks changes file page) && same_page file page f p then Ok (Some bytes) else live changes f p
live_after blocks changes (Read image file page) f p = live changes f p
live_after blocks changes Take f p = live changes f p
live_after blocks changes (Forget image) f p = live changes f p

-- the call drops the image
abbrev pub drops : ℕ → Call → Bool
drops image (Write file page bytes) = false
drops image (Read other file page) = false
drops image Take = false
drops image (Forget other) = other == image

-- Each image that is there is of one moment, an image is there from its take until it is dropped, and the live pages have the last writes.
pub record EveryImageIsOneMoment : Type 0 where
  pub images : (blocks : ℕ) (calls : List Call) (image : ℕ) → 1 ≤ image → is_view (after_calls blocks calls) image ≡ true → IsOneMoment blocks calls image
  pub kept : (blocks : ℕ) (later earlier : List Call) (image : ℕ) → take (after_calls blocks earlier) ≡ Ok (image, Took ∷ after_calls blocks earlier) →
      is_view (after_calls blocks (later ++ Take ∷ earlier)) image ≡ not (list_any (drops image) later)
  pub pages : (blocks : ℕ) (earlier : List Call) (call : Call) (f p : ℕ) → live (after_calls blocks (call ∷ earlier)) f p ≡ live_after blocks (after_calls blocks earlier) call f p
