-- Images of a container: one list of changes, the latest first, and the pages that it gives.
use Rattle.std.specs.Prelude.{ℕ, zero, suc, ◌+◌, Bool, true, false, not, ◌&&◌, ◌==◌, nat_lt, if◌then◌else◌, List, [], ◌∷◌, ◌++◌, length, filter, Option, Some, None}
use Rattle.std.specs.List.{list_any}

-- A change of a volume: bytes were written to a page of a file, an image was taken, or an image was forgotten.
pub data Change : Type 0 where
  Wrote : (file page : ℕ) (bytes : List ℕ) → Change
  Took : Change
  Forgot : (image : ℕ) → Change

-- Images: they are numbered from 1 in the order in which they are taken.
abbrev pub takes : List Change → ℕ
takes [] = 0
takes (Wrote file page bytes ∷ past) = takes past
takes (Took ∷ past) = takes past + 1
takes (Forgot image ∷ past) = takes past

-- the images that are kept, oldest first: those that were taken and not forgotten
abbrev pub images : List Change → List ℕ
images [] = []
images (Wrote file page bytes ∷ past) = images past
images (Took ∷ past) = images past ++ (takes past + 1) ∷ []
images (Forgot image ∷ past) = filter (λ other. not (image == other)) (images past)

-- A write: how many changes came before it, and its bytes. Two writes are the same exactly if these numbers are.
pub record Write : Type 0 where
  pub number : ℕ
  pub bytes : List ℕ

-- one page of one file
abbrev pub same_page : ℕ → ℕ → ℕ → ℕ → Bool
same_page file page file2 page2 = (file == file2) && (page == page2)

-- the last write of a page
abbrev pub last_write : List Change → ℕ → ℕ → Option Write
last_write [] f p = None
last_write (Wrote file page bytes ∷ past) f p = if same_page file page f p then Some (record { number = length past; bytes = bytes }) else last_write past f p
last_write (Took ∷ past) f p = last_write past f p
last_write (Forgot image ∷ past) f p = last_write past f p

-- the changes before the take of an image: as many as come before that number of takes
abbrev pub before : ℕ → List Change → List Change
before image [] = []
before image (c ∷ past) = if nat_lt (takes (c ∷ past)) image then c ∷ past else before image past

-- An image's page is the last write before its take; the live page is the last write of all. Image 0 is the live one.
abbrev pub page_of : List Change → ℕ → ℕ → ℕ → Option Write
page_of changes zero f p = last_write changes f p
page_of changes (suc image) f p = last_write (before (suc image) changes) f p

-- what can be read: the live pages, and those of the kept images
abbrev pub views : List Change → List ℕ
views changes = 0 ∷ images changes

-- there is this image, or it is the live one
abbrev pub is_view : List Change → ℕ → Bool
is_view changes image = list_any (λ view. image == view) (views changes)

-- it is the write with this number
abbrev pub is_write : ℕ → Option Write → Bool
is_write number None = false
is_write number (Some w) = number == w.number

-- A write is shown if the live page or a kept image's page is it.
abbrev pub is_shown : List Change → ℕ → ℕ → ℕ → Bool
is_shown changes number f p = list_any (λ view. is_write number (page_of changes view f p)) (views changes)

-- a change that came after this many others is a write that is shown
abbrev pub shows : List Change → ℕ → Change → Bool
shows all number (Wrote file page bytes) = is_shown all number file page
shows all number Took = false
shows all number (Forgot image) = false

-- the numbers of the shown writes among the first changes
abbrev pub shown_among : List Change → List Change → List ℕ
shown_among all [] = []
shown_among all (c ∷ past) = if shows all (length past) c then length past ∷ shown_among all past else shown_among all past

-- how many writes are shown
unfoldable pub shown : List Change → ℕ
shown changes = length (shown_among changes changes)

-- a kept image's page is this write
abbrev pub is_shared : List Change → ℕ → ℕ → Option Write → Bool
is_shared changes f p None = true
is_shared changes f p (Some w) = list_any (λ image. is_write w.number (page_of changes image f p)) (images changes)

-- A write takes a block if the page was never written, or if a kept image's page is its last write.
unfoldable pub takes_block : List Change → ℕ → ℕ → Bool
takes_block changes f p = is_shared changes f p (last_write changes f p)
