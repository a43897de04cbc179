-- The places of the entries that a test picks, and a table of such lists by the page of a file.
use Rattle.std.specs.Prelude.{nat_le, ◌≡◌, ℕ, zero, suc, not, ◌+◌, Bool, true, false, ◌&&◌, ◌==◌, if◌then◌else◌, List, [], ◌∷◌, ◌++◌, drop, Option, Some, None, unwrap_or}
use Rattle.indexmap.specs.IndexMap.{IndexMap, get}
use Rattle.st_base.specs.declared.ids.FileId.{FileId}
use Rattle.st_base.specs.declared.ids.PageNo.{PageNo}
use Rattle.st_rules.specs.declared.log.Change.{Change}
use Rattle.st_rules.specs.declared.log.Change.TheVariants.{Write, Patch, Cut}
use Rattle.st_rules.specs.declared.log.LogOwner.{LogOwner}
use Rattle.st_rules.specs.declared.log.LogEntry.{LogEntry}
use Rattle.st_rules.specs.Keys.{page_no}
use Rattle.st_model.specs.declared.file_pages.FilePage.{FilePage}
use Rattle.st_rules.specs.FlatLog.{after}
use Rattle.st_model.specs.Walks.{nth}

-- one page of one file
abbrev pub same_file_page : FilePage → FilePage → Bool
same_file_page a b = (a.server == b.server) && ((a.ino == b.ino) && (a.page == b.page))

-- the key of a page of a file
abbrev pub file_page : FileId → PageNo → FilePage
file_page f p = record { server = f.server.0; ino = f.ino; page = p.0 }

-- the places of a page
abbrev pub at : {S : Type 0} → IndexMap FilePage (List ℕ) S → FilePage → List ℕ
at m q = unwrap_or (get same_file_page m q) []

-- places with one more, if a test holds
abbrev pub one_more : Bool → List ℕ → ℕ → List ℕ
one_more b ks k = if b then ks ++ k ∷ [] else ks

-- a write or a patch
abbrev pub is_bytes : Change → Bool
is_bytes (Write bytes) = true
is_bytes (Patch at bytes) = true
is_bytes Cut = false

-- a write or a patch of this page
abbrev pub is_change_at : FilePage → LogOwner → Change → Bool
is_change_at q of change = is_bytes change && same_file_page (file_page of.file of.page) q

-- the places of the entries that a test of owner and change picks, the first of these entries at this place
abbrev pub places_from : (LogOwner → Change → Bool) → ℕ → List LogEntry → List ℕ
places_from r k [] = []
places_from r k (e ∷ es) = if r e.of e.change then k ∷ places_from r (k + 1) es else places_from r (k + 1) es

-- the number of the last entry that a test picks, among these places
abbrev pub last_place : (LogEntry → Bool) → List LogEntry → ℕ → List ℕ → ℕ
last_place m es before [] = before
last_place m es before (k ∷ ks) = last_place m es (if m (nth es k) then k + 1 else before) ks

-- a cut of this page's file; cuts are under page 0 of their file
abbrev pub is_cut_at : FilePage → LogOwner → Change → Bool
is_cut_at q of change = not (is_bytes change) && same_file_page (file_page of.file (page_no 0)) q

-- each page has the places of its writes and patches
abbrev pub HasPages : {S : Type 0} → List LogEntry → IndexMap FilePage (List ℕ) S → Type 0
HasPages es m = (q : FilePage) → at m q ≡ places_from (is_change_at q) 0 es

-- page 0 of each file has the places of the file's cuts
abbrev pub HasCuts : {S : Type 0} → List LogEntry → IndexMap FilePage (List ℕ) S → Type 0
HasCuts es m = (q : FilePage) → at m q ≡ places_from (is_cut_at q) 0 es

-- the number of the last entry that a test picks, from a number on
abbrev pub last_num : (LogEntry → Bool) → ℕ → ℕ → List LogEntry → ℕ
last_num m number before [] = before
last_num m number before (e ∷ es) = last_num m (number + 1) (if m e then number else before) es

-- a number, if it is not 0
abbrev pub option_of : ℕ → Option ℕ
option_of zero = None
option_of (suc n) = Some (suc n)

-- a page after the entries of these places, except for those before a number
abbrev pub page_after : ℕ → FileId → PageNo → List LogEntry → List ℕ → List ℕ → List ℕ
page_after c f p es page [] = page
page_after c f p es page (k ∷ ks) = page_after c f p es (if nat_le c k then after f p (nth es k) page else page) ks

-- an entry after which nothing of the page is left
abbrev pub is_write : Change → Bool
is_write (Write bytes) = true
is_write (Patch at bytes) = false
is_write Cut = false

-- the page after the entries of these places is that after the places from an index on
abbrev pub Skips : ℕ → FileId → PageNo → List LogEntry → List ℕ → ℕ → Type 0
Skips c f p es ks j = (page : List ℕ) → page_after c f p es page ks ≡ page_after c f p es page (drop j ks)
