-- Pages of bytes.
use Rattle.std.specs.Prelude.{ℕ, List, [], ◌∷◌, replicate, ◌==◌, if◌then◌else◌, Option, Some, None}
use Rattle.std.specs.List.{list_all}

-- a page of one byte repeated; nothing unfolds it, so that no goal has 4,096 bytes in it
unfoldable pub filled : ℕ → List ℕ
filled byte = replicate 4096 byte

-- the byte that these bytes repeat, if they are all equal
unfoldable pub repeated_of : List ℕ → Option ℕ
repeated_of [] = None
repeated_of (b ∷ bytes) = if list_all (λ x. x == b) bytes then Some b else None
