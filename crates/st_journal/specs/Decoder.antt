-- Reading a change from the left. A reader takes a field from the front of the bytes, or finds none there.
use Rattle.std.specs.Prelude.{ℕ, Bool, List, [], ◌∷◌, length, take, drop, ◌==◌, Option, Some, None, nat_lt, if◌then◌else◌, ⊤}
use Rattle.std.specs.Int.{Width, w16, w32, byte_len, from_be_bytes}
use Rattle.st_base.specs.declared.ids.PageNo.{PageNo}
use Rattle.st_journal.specs.Changes.{between, is_count}
use Rattle.st_journal.specs.declared.change.Change.{Change}
use Rattle.st_journal.specs.declared.change.Change.TheVariants.{Epoch, Allocate, Cut, Create, Mkdir, Remove, Rename}

-- a value and the bytes after it, or none
abbrev pub Reader : Type 0 → Type 0
Reader A = List ℕ → Option (A × List ℕ)

infixl 10 ◌>>=◌
abbrev pub ◌>>=◌ : {A B : Type 0} → Option A → (A → Option B) → Option B
(Some x) >>= f = f x
None >>= f = None

-- one field after another
abbrev pub seq : {A B : Type 0} → Reader A → (A → Reader B) → Reader (A × B)
seq first second bytes = do
  a ← first bytes
  b ← second a.0 a.1
  Some ((a.0, b.0), b.1)

-- what the fields make
abbrev pub made : {A B : Type 0} → (A → B) → Reader A → Reader B
made make fields bytes = do
  a ← fields bytes
  Some (make a.0, a.1)

-- a field in its range
abbrev pub checked : {A : Type 0} → (A → Bool) → Reader A → Reader A
checked test field bytes = do
  a ← field bytes
  if test a.0 then Some a else None

abbrev pub nothing : {A : Type 0} → A → Reader A
nothing a bytes = Some (a, bytes)

abbrev pub no_value : {A : Type 0} → Reader A
no_value bytes = None

abbrev pub byte_at : Reader ℕ
byte_at [] = None
byte_at (b ∷ rest) = Some (b, rest)

-- this number of bytes
abbrev pub text_at : ℕ → Reader (List ℕ)
text_at n bytes = if nat_lt (length bytes) n then None else Some (take n bytes, drop n bytes)

abbrev pub number_at : Width → Reader ℕ
number_at w bytes = if nat_lt (length bytes) (byte_len w) then None else Some (from_be_bytes w (take (byte_len w) bytes), drop (byte_len w) bytes)

unfoldable pub word16_at : Reader ℕ
word16_at bytes = number_at w16 bytes

unfoldable pub word32_at : Reader ℕ
word32_at bytes = number_at w32 bytes

unfoldable pub ino_at : Reader ℕ
ino_at bytes = checked (between 1 4294967295) word32_at bytes

unfoldable pub page_at : Reader PageNo
page_at bytes = made (λ n. record { 0 = n }) (checked (between 0 1048575) word32_at) bytes

-- a number of pages from this page on
unfoldable pub count_at : PageNo → Reader ℕ
count_at page bytes = checked (is_count page.0) word16_at bytes

-- a length in a byte, and that many bytes
unfoldable pub name_at : Reader (List ℕ)
name_at bytes = do
  n ← byte_at bytes
  text_at n.0 n.1

-- a directory and a name in it
unfoldable pub entry_at : Reader (ℕ × List ℕ)
entry_at bytes = seq word32_at (λ dir. name_at) bytes

-- the fields of each kind
unfoldable pub allocate_at : Reader Change
allocate_at bytes = made (λ t. Allocate t.0 t.1.0 t.1.1) (seq ino_at (λ ino. seq page_at count_at)) bytes

unfoldable pub cut_at : Reader Change
cut_at bytes = made (λ t. Cut t.0 t.1) (seq ino_at (λ ino. page_at)) bytes

unfoldable pub named_at : (ℕ → List ℕ → Change) → Reader Change
named_at make bytes = made (λ t. make t.0 t.1) entry_at bytes

unfoldable pub rename_at : Reader Change
rename_at bytes = made (λ t. Rename t.0.0 t.0.1 t.1.0 t.1.1) (seq entry_at (λ from. entry_at)) bytes

-- what follows the byte of a kind
unfoldable pub change_numbered : ℕ → Reader Change
change_numbered kind bytes =
    if kind == 1 then nothing Epoch bytes else (if kind == 2 then allocate_at bytes else (if kind == 3 then cut_at bytes else (if kind == 4 then named_at Create bytes
    else (if kind == 5 then named_at Mkdir bytes else (if kind == 6 then named_at Remove bytes else (if kind == 7 then rename_at bytes else no_value bytes))))))

-- a change
unfoldable pub change_at : Reader Change
change_at bytes = do
  kind ← byte_at bytes
  change_numbered kind.0 kind.1

-- nothing follows
abbrev pub ended : {A : Type 0} → A × List ℕ → Option A
ended (a, []) = Some a
ended (a, b ∷ rest) = None

-- the change that these bytes are, all of them
unfoldable pub change_of : List ℕ → Option Change
change_of bytes = do
  change ← change_at bytes
  ended change
