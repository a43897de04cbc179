-- Areas as they are read: gate after gate.
use Rattle.std.specs.Prelude.{◌≡◌, ◌<◌, ◌^◌, ◌+◌, ◌⊎◌, ℕ, List, ◌∷◌, ◌++◌, length}
use Rattle.st_journal_file.specs.Layout.{CLOSED, IsArea, all_opened, front, opened, part}
use Rattle.st_journal_bytes.specs.Plain.{plain}
use Rattle.st_journal_bytes.specs.declared.area.AreaEnd.{AreaEnd}

-- a closed gate is in front
pub record IsClosed (bytes : List ℕ) : Type 0 where
  pub rest : List ℕ
  pub parts : bytes ≡ CLOSED ∷ rest

-- neither a closed gate is in front, nor an open one with a record after it
pub record IsUnread (bytes : List ℕ) : Type 0 where
  pub closed : IsClosed bytes → ⊥
  pub open_so : (record_bytes rest : List ℕ) → length record_bytes < 2 ^ 32 → bytes ≡ opened plain record_bytes ++ rest → ⊥

-- The bytes are records after open gates, this many of them, and then a closed gate after this many bytes.
pub record HasRecords (bytes : List ℕ) (e : AreaEnd) : Type 0 where
  pub records : List (List ℕ)
  pub rest : List ℕ
  pub parts : bytes ≡ all_opened plain records ++ CLOSED ∷ rest
  pub gate : e.gate ≡ length (all_opened plain records)
  pub count : e.records ≡ length records

-- They are some records after open gates, and then nothing that can be read; this many bytes are in front of it.
pub record StopsAt (bytes : List ℕ) (at : ℕ) : Type 0 where
  pub records : List (List ℕ)
  pub rest : List ℕ
  pub parts : bytes ≡ all_opened plain records ++ rest
  pub place : at ≡ length (all_opened plain records)
  pub none : IsUnread rest

-- An area: where its closed gate is, and how many records it has.
pub record IsRead (bytes : List ℕ) (e : AreaEnd) : Type 0 where
  pub snapshot : List ℕ
  pub records : List (List ℕ)
  pub area : IsArea plain bytes snapshot records
  pub gate : e.gate ≡ length (front plain snapshot records)
  pub count : e.records ≡ length records

-- No snapshot is in front.
abbrev pub HasNoSnapshot : List ℕ → Type 0
HasNoSnapshot bytes = (snapshot rest : List ℕ) → length snapshot < 2 ^ 32 → bytes ≡ part plain snapshot ++ rest → ⊥

-- A snapshot is in front, and after it nothing can be read at this place.
pub record StopsAfterSnapshot (bytes : List ℕ) (at : ℕ) : Type 0 where
  pub snapshot : List ℕ
  pub rest : List ℕ
  pub parts : bytes ≡ part plain snapshot ++ rest
  pub after : ℕ
  pub stops : StopsAt rest after
  pub place : at ≡ length (part plain snapshot) + after

-- an area is damaged at this place
abbrev pub IsDamaged : List ℕ → ℕ → Type 0
IsDamaged bytes at = ((at ≡ 0) × HasNoSnapshot bytes) ⊎ StopsAfterSnapshot bytes at
