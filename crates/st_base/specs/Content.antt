-- How a page keeps its bytes.
use Rattle.std.specs.Prelude.{◌≡◌, ℕ, List, length, Option, Some, None}
use Rattle.st_base.specs.Page.{filled, repeated_of}
use Rattle.st_base.specs.declared.page.Content.{Content}
use Rattle.st_base.specs.declared.page.Content.TheVariants.{Filled, Mixed}

-- the bytes of a page
abbrev pub bytes_of : Content → List ℕ
bytes_of (Filled byte) = filled byte
bytes_of (Mixed bytes) = bytes.value.items

-- the byte that is kept in place of all others
abbrev pub kept_byte : Content → Option ℕ
kept_byte (Filled byte) = Some byte
kept_byte (Mixed bytes) = None

-- 4,096 bytes, kept as one byte exactly if they are all equal
pub record IsPage (content : Content) : Type 0 where
  pub whole : length (bytes_of content) ≡ 4096
  pub kept : kept_byte content ≡ repeated_of (bytes_of content)
