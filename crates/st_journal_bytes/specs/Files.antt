-- A journal's file as bytes: its header, the mark that says that it was made, the switch, and the areas.
use Rattle.std.specs.Prelude.{◌≡◌, ◌≢◌, ◌<◌, ◌≤◌, ◌*◌, ◌+◌, ◌^◌, ◌⊎◌, ℕ, List, [], ◌∷◌, ◌++◌, length, get_or}
use Rattle.st_journal_file.specs.Histories.{IsEither}
use Rattle.st_journal_file.specs.Layout.{CLOSED, OPEN, File, switch_of}
use Rattle.st_journal_bytes.specs.Headers.{HeaderFits, IsHeaded, IsNoHeader, IsOther, header}
use Rattle.st_journal_bytes.specs.declared.file.Current.{Current}
use Rattle.st_journal_bytes.specs.declared.file.FileFault.{FileFault}
use Rattle.st_journal_bytes.specs.declared.file.FileFault.TheVariants.{BadHeader, Damaged, Short}
use Rattle.st_journal_bytes.specs.declared.header.Header.{Header}
use Rattle.st_journal_bytes.specs.declared.header.Identity.{Identity}

-- how many bytes a header has, and the places after it
abbrev pub HEADER_LENGTH : ℕ
HEADER_LENGTH = 110

abbrev pub MADE_PLACE : ℕ
MADE_PLACE = 110

abbrev pub SWITCH_PLACE : ℕ
SWITCH_PLACE = 111

abbrev pub AREAS_PLACE : ℕ
AREAS_PLACE = 112

abbrev pub file_bytes : File → List ℕ
file_bytes b = b.header ++ (b.made ∷ (b.switch ∷ (b.first ++ b.second)))

-- the bytes are this file, whose areas have this many bytes, and others after it
pub record IsFile (bytes : List ℕ) (area : ℕ) (b : File) : Type 0 where
  pub rest : List ℕ
  pub parts : bytes ≡ file_bytes b ++ rest
  pub header : length b.header ≡ HEADER_LENGTH
  pub first : length b.first ≡ area
  pub second : length b.second ≡ area
  pub small : area < 2 ^ 32

-- A file that was made, and which of its areas counts.
pub record IsMadeFile (bytes : List ℕ) (wanted : Identity) (c : Current) : Type 0 where
  pub file : File
  pub found : IsFile bytes c.header.area file
  pub made : file.made ≡ OPEN
  pub header : file.header ≡ header c.header
  pub fits : HeaderFits c.header
  pub identity : c.header.identity ≡ wanted
  pub switch : file.switch ≡ switch_of c.second

-- the first bytes of a header
abbrev pub START : List ℕ
START = 84 ∷ 65 ∷ 78 ∷ 75 ∷ 74 ∷ 82 ∷ 78 ∷ 76 ∷ 0 ∷ 0 ∷ 0 ∷ 1 ∷ []

-- they may be written over zeros, of which some are left
abbrev pub MayBegin : List ℕ → Type 0
MayBegin bytes = (k : ℕ) → k < 12 → IsEither 0 (get_or START k 0) (get_or bytes k 0)

-- A file that was not made: its mark is closed, and its first bytes are those of a header, or zeros.
pub record IsUnmade (bytes : List ℕ) : Type 0 where
  pub long : AREAS_PLACE ≤ length bytes
  pub mark : get_or bytes MADE_PLACE 0 ≡ CLOSED
  pub begun : MayBegin bytes

-- neither closed nor open
abbrev pub IsNoMark : ℕ → Type 0
IsNoMark n = (n ≢ CLOSED) × (n ≢ OPEN)

-- the byte at this place is not the mark that it must be
abbrev pub HasNoMark : List ℕ → ℕ → Type 0
HasNoMark bytes at = ((at ≡ MADE_PLACE) × (get_or bytes at 0 ≢ OPEN)) ⊎ ((at ≡ SWITCH_PLACE) × IsNoMark (get_or bytes at 0))

-- the file ends before its marks, or before its areas
abbrev pub IsShort : List ℕ → Type 0
IsShort bytes = (length bytes < AREAS_PLACE) ⊎ ((h : Header) × IsHeaded bytes h × (length bytes < AREAS_PLACE + 2 * h.area))

-- Why a file is not opened as the journal that is wanted: it is short; its header has a fault, or is another journal's; or a mark is neither closed nor open.
abbrev pub IsRefused : List ℕ → Identity → FileFault → Type 0
IsRefused bytes wanted Short = IsShort bytes
IsRefused bytes wanted (BadHeader f) = IsNoHeader bytes f ⊎ ((h : Header) × IsHeaded bytes h × IsOther h.identity wanted f)
IsRefused bytes wanted (Damaged at) = HasNoMark bytes at
