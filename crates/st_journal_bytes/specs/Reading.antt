-- Reading from the left: a reader takes what it reads from the front of the bytes, or finds nothing there.
use Rattle.std.specs.Prelude.{ℕ, List, length, take, drop, nat_lt, if◌then◌else◌, Option, Some, None}
use Rattle.std.specs.Int.{w32, from_be_bytes}
use Rattle.std.specs.Str.{bytes_eq}
use Rattle.st_crc32c.specs.Crc.{crc32c}
use Rattle.st_journal_file.specs.Layout.{word32}

infixl 10 ◌>>=◌
abbrev pub ◌>>=◌ : {A B : Type 0} → Option A → (A → Option B) → Option B
(Some x) >>= f = f x
None >>= f = None

-- a number of four bytes, and what follows it
unfoldable pub word32_at : List ℕ → Option (ℕ × List ℕ)
word32_at bytes = if nat_lt (length bytes) 4 then None else Some (from_be_bytes w32 (take 4 bytes), drop 4 bytes)

-- this number of bytes, and what follows them
abbrev pub text_at : ℕ → List ℕ → Option (List ℕ × List ℕ)
text_at n bytes = if nat_lt (length bytes) n then None else Some (take n bytes, drop n bytes)

-- what follows these bytes, if they are in front
abbrev pub after_front : List ℕ → List ℕ → Option (List ℕ)
after_front front bytes = if bytes_eq (take (length front) bytes) front then Some (drop (length front) bytes) else None

-- what follows the sum of some bytes
unfoldable pub after_sum : List ℕ → List ℕ → Option (List ℕ)
after_sum summed bytes = after_front (word32 (crc32c summed)) bytes

-- the bytes of a part, and what follows it
unfoldable pub part_at : List ℕ → Option (List ℕ × List ℕ)
part_at bytes = do
  count ← word32_at bytes
  checked ← after_sum (word32 count.0) count.1
  body ← text_at count.0 checked
  rest ← after_sum body.0 body.1
  Some (body.0, rest)
