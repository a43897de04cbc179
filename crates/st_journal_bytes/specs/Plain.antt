-- A journal whose states and changes are plain bytes, as a program reads and writes them.
use Rattle.std.specs.Prelude.{◌≡◌, ℕ, List, Some}
use Rattle.st_crc32c.specs.Crc.{crc32c}
use Rattle.st_journal_file.specs.Layout.{Format}

abbrev pub plain : Format (List ℕ) (List ℕ)
plain = record { snapshot = λ s. s; spelled = λ x. x; apply = λ s x. Some s; sum = crc32c }

-- the sum is CRC-32C
abbrev pub HasSum : {S C : Type 0} → Format S C → Type 0
HasSum f = (bytes : List ℕ) → f.sum bytes ≡ crc32c bytes
