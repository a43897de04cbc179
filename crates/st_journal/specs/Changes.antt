-- The bytes of a change: a byte for its kind, and its fields, numbers with their highest byte first.
use Rattle.std.specs.Prelude.{◌≡◌, ℕ, ◌+◌, ◌^◌, Bool, true, ◌&&◌, nat_le, nat_lt, List, [], ◌∷◌, ◌++◌, length, ⊤}
use Rattle.std.specs.Int.{w16, w32, to_be_bytes}
use Rattle.st_journal.specs.declared.change.Change.{Change}
use Rattle.st_journal.specs.declared.change.Change.TheVariants.{Epoch, Allocate, Cut, Create, Mkdir, Remove, Rename}

unfoldable pub word16 : ℕ → List ℕ
word16 n = to_be_bytes w16 n

unfoldable pub word32 : ℕ → List ℕ
word32 n = to_be_bytes w32 n

-- a byte of length, and that many bytes
unfoldable pub name : List ℕ → List ℕ
name n = length n ∷ n

-- a directory and a name in it
abbrev pub entry : ℕ → List ℕ → List ℕ
entry dir n = word32 dir ++ name n

-- the bytes of a change
unfoldable pub bytes_of : Change → List ℕ
bytes_of Epoch = 1 ∷ []
bytes_of (Allocate ino page count) = 2 ∷ (word32 ino ++ word32 page.0 ++ word16 count)
bytes_of (Cut ino from) = 3 ∷ (word32 ino ++ word32 from.0)
bytes_of (Create dir n) = 4 ∷ entry dir n
bytes_of (Mkdir dir n) = 5 ∷ entry dir n
bytes_of (Remove dir n) = 6 ∷ entry dir n
bytes_of (Rename dir n dir2 n2) = 7 ∷ (entry dir n ++ entry dir2 n2)

-- Ranges.

abbrev pub between : ℕ → ℕ → ℕ → Bool
between least most n = nat_le least n && nat_le n most

-- what a word of four bytes can hold
abbrev pub is_word32 : ℕ → Bool
is_word32 n = nat_lt n (2 ^ 32)

abbrev pub is_ino : ℕ → Bool
is_ino n = between 1 4294967295 n

abbrev pub is_page : ℕ → Bool
is_page n = between 0 1048575 n

-- this number of pages from a page on
abbrev pub is_count : ℕ → ℕ → Bool
is_count page count = between 1 64 count && nat_le (page + count) 1048576

-- a name whose length a byte can hold
abbrev pub is_short : List ℕ → Bool
is_short n = nat_le (length n) 255

-- a directory and a name that can be spelled; the rules of names refuse those that are none
abbrev pub is_entry : ℕ → List ℕ → Bool
is_entry dir n = is_word32 dir && is_short n

-- The fields of the change are in their ranges.
unfoldable pub fits : Change → Bool
fits Epoch = true
fits (Allocate ino page count) = is_ino ino && (is_page page.0 && is_count page.0 count)
fits (Cut ino from) = is_ino ino && is_page from.0
fits (Create dir n) = is_entry dir n
fits (Mkdir dir n) = is_entry dir n
fits (Remove dir n) = is_entry dir n
fits (Rename dir n dir2 n2) = is_entry dir n && is_entry dir2 n2

-- these bytes are those of this change
pub record Spells (bytes : List ℕ) (x : Change) : Type 0 where
  pub text : bytes ≡ bytes_of x
  pub ranges : fits x ≡ true

-- The numbers of an Allocate or a Cut are in their ranges.
unfoldable pub is_ranged : Change → Bool
is_ranged (Allocate ino page count) = is_ino ino && (is_page page.0 && is_count page.0 count)
is_ranged (Cut ino from) = is_ino ino && is_page from.0
is_ranged x = true

-- The numbers of directories fit their words.
unfoldable pub has_words : Change → Bool
has_words (Create dir n) = is_word32 dir
has_words (Mkdir dir n) = is_word32 dir
has_words (Remove dir n) = is_word32 dir
has_words (Rename dir n dir2 n2) = is_word32 dir && is_word32 dir2
has_words x = true
