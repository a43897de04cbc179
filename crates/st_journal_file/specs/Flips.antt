-- Bits that flip: one bit of some bytes changes.
use Rattle.std.specs.Prelude.{◌≡◌, ◌<◌, ◌^◌, ℕ, List, [], ◌∷◌, length, bit_xor}
use Rattle.st_crc32c.specs.Crc.{are_bytes, crc32c}
use Rattle.st_journal_file.specs.Layout.{Format}

-- the bytes are the same except for one bit
pub data IsFlipped : List ℕ → List ℕ → Type 0 where
  Here : (b k : ℕ) (bs : List ℕ) → k < 8 → IsFlipped (b ∷ bs) (bit_xor b (2 ^ k) ∷ bs)
  Later : (b : ℕ) (bs cs : List ℕ) → IsFlipped bs cs → IsFlipped (b ∷ bs) (b ∷ cs)

-- The sum is CRC-32C; snapshots and records are bytes, fewer than a word can tell, and no two states or changes are spelled alike.
pub record IsProper {S C : Type 0} (f : Format S C) : Type 0 where
  pub sum : (bytes : List ℕ) → f.sum bytes ≡ crc32c bytes
  pub snapshots : (s t : S) → f.snapshot s ≡ f.snapshot t → s ≡ t
  pub records : (x y : C) → f.spelled x ≡ f.spelled y → x ≡ y
  pub snapshot_bytes : (s : S) → are_bytes (f.snapshot s)
  pub record_bytes : (x : C) → are_bytes (f.spelled x)
  pub snapshot_short : (s : S) → length (f.snapshot s) < 2 ^ 32
  pub record_short : (x : C) → length (f.spelled x) < 2 ^ 32
