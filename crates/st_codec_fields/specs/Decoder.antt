-- Reading fields from left to right, with the first fault that is met: numbers, places, names, rows, and what is asked of names. A reader takes
-- a field from the front of the bytes.
use Rattle.std.specs.Prelude.{◌≡◌, ℕ, zero, suc, Bool, List, [], ◌∷◌, length, take, drop, ◌-◌, ◌==◌, Result, Ok, Err, nat_lt, nat_le, if◌then◌else◌}
use Rattle.std.specs.Int.{Width, w16, w32, w64, byte_len, from_be_bytes}
use Rattle.st_base.specs.declared.disk.BlockAt.{BlockAt}
use Rattle.st_base.specs.declared.disk.Tag.{Tag}
use Rattle.st_base.specs.declared.ids.FileId.{FileId}
use Rattle.st_base.specs.declared.ids.GrantNo.{GrantNo}
use Rattle.st_base.specs.declared.ids.PageNo.{PageNo}
use Rattle.st_base.specs.declared.mode.Mode.{Mode}
use Rattle.st_base.specs.declared.mode.Mode.TheVariants as modes
use Rattle.st_base.specs.declared.names.NameAsk.{NameAsk}
use Rattle.st_base.specs.declared.names.NameAsk.TheVariants as name_asks
use Rattle.st_base.specs.declared.names.NameRow.{NameRow}
use Rattle.st_base.specs.declared.rows.ExtentRow.{ExtentRow}
use Rattle.st_base.specs.declared.rows.LostRow.{LostRow}
use Rattle.st_codec_fields.specs.declared.fault.Fault.{Fault}
use Rattle.st_codec_fields.specs.declared.fault.Fault.TheVariants as faults
use Rattle.st_codec_fields.specs.declared.fault.ReadError.{ReadError}
use Rattle.st_codec_fields.specs.declared.fault.ReadError.TheVariants as errors
use Rattle.st_messages.specs.declared.message.NameOp.{NameOp}
use Rattle.st_messages.specs.declared.message.NameOp.TheVariants as ops
use Rattle.st_messages.specs.declared.message.NameReply.{NameReply}
use Rattle.st_messages.specs.declared.message.NameReply.TheVariants as replies
use Rattle.st_messages.specs.Kinds.{between}
use Rattle.st_messages.specs.Ranges.{after_lock, after_extent, after_lost, after_name}

-- a value and the bytes after it, or the first fault
abbrev pub Read : Type 0 → Type 0
Read A = Result (A × List ℕ) Fault

abbrev pub Reader : Type 0 → Type 0
Reader A = List ℕ → Read A

infixl 10 ◌>>=◌
abbrev pub ◌>>=◌ : {A B : Type 0} → Result A Fault → (A → Result B Fault) → Result B Fault
(Ok x) >>= f = f x
(Err e) >>= f = Err e

-- What a function returned, seen by view, is what reading gives, unless memory ran out.
abbrev pub Fails : {Y : Type 0} → ReadError → Result Y Fault → Type 0
Fails errors.Memory read = Unit {0}
Fails (errors.Fault f) read = read ≡ Err f

abbrev pub Gives : {X Y : Type 0} → (X → Y) → Result X ReadError → Result Y Fault → Type 0
Gives view (Ok x) read = read ≡ Ok (view x)
Gives view (Err e) read = Fails e read

-- the fault of a field that begins where these bytes begin
abbrev pub out_of_range : List ℕ → ReadError
out_of_range bytes = errors.Fault (faults.Value (length bytes))

-- one field after another
abbrev pub seq : {A B : Type 0} → Reader A → (A → Reader B) → Reader (A × B)
seq first second bytes = do
  a ← first bytes
  b ← second a.0 a.1
  Ok ((a.0, b.0), b.1)

-- what the fields make
abbrev pub made : {A B : Type 0} → (A → B) → Reader A → Reader B
made make fields bytes = do
  a ← fields bytes
  Ok (make a.0, a.1)

-- a field in its range; otherwise the fault is where the field begins
abbrev pub checked : {A : Type 0} → (A → Bool) → Reader A → Reader A
checked test field bytes = do
  a ← field bytes
  if test a.0 then Ok a else Err (faults.Value (length bytes))

abbrev pub nothing : {A : Type 0} → A → Reader A
nothing a bytes = Ok (a, bytes)

abbrev pub byte_at : Reader ℕ
byte_at [] = Err faults.Short
byte_at (b ∷ rest) = Ok (b, rest)

-- this number of bytes
abbrev pub text_at : ℕ → Reader (List ℕ)
text_at n bytes = if nat_lt (length bytes) n then Err faults.Short else Ok (take n bytes, drop n bytes)

abbrev pub number_at : Width → Reader ℕ
number_at w bytes = if nat_lt (length bytes) (byte_len w) then Err faults.Short else Ok (from_be_bytes w (take (byte_len w) bytes), drop (byte_len w) bytes)

unfoldable pub word16_at : Reader ℕ
word16_at bytes = number_at w16 bytes

unfoldable pub word32_at : Reader ℕ
word32_at bytes = number_at w32 bytes

unfoldable pub word64_at : Reader ℕ
word64_at bytes = number_at w64 bytes

unfoldable pub byte_in : ℕ → ℕ → Reader ℕ
byte_in least most bytes = checked (between least most) byte_at bytes

unfoldable pub word16_in : ℕ → ℕ → Reader ℕ
word16_in least most bytes = checked (between least most) word16_at bytes

unfoldable pub word32_in : ℕ → ℕ → Reader ℕ
word32_in least most bytes = checked (between least most) word32_at bytes

abbrev pub ino_at : Reader ℕ
ino_at bytes = word32_in 1 4294967295 bytes

unfoldable pub grant_at : Reader GrantNo
grant_at bytes = made (λ n. record { 0 = n }) word64_at bytes

unfoldable pub page_at : ℕ → Reader PageNo
page_at least bytes = made (λ n. record { 0 = n }) (word32_in least 1048575) bytes

abbrev pub mode_numbered : ℕ → Mode
mode_numbered zero = modes.None
mode_numbered (suc zero) = modes.S
mode_numbered (suc (suc n)) = modes.X

unfoldable pub mode_at : ℕ → ℕ → Reader Mode
mode_at least most bytes = made mode_numbered (byte_in least most) bytes

-- a length in a byte, and that many bytes
unfoldable pub name_at : ℕ → ℕ → Reader (List ℕ)
name_at least most bytes = do
  n ← byte_in least most bytes
  text_at n.0 n.1

unfoldable pub whole_page_at : Reader (List ℕ)
whole_page_at bytes = text_at 4096 bytes

-- the bytes of a patch end where the page ends, or before
unfoldable pub patch_bytes_at : ℕ → Reader (List ℕ)
patch_bytes_at at bytes = do
  n ← word16_in 1 (4096 - at) bytes
  text_at n.0 n.1

unfoldable pub file_at : ℕ → Reader FileId
file_at least bytes = made (λ t. record { server = record { 0 = t.0 }; ino = t.1 }) (seq (word16_in least 65535) (λ s. word32_in least 4294967295)) bytes

unfoldable pub block_at : Reader BlockAt
block_at bytes = made (λ t. record { disk = record { 0 = t.0 }; block = t.1 }) (seq (word16_in 1 8) (λ d. word32_in 0 4095)) bytes

unfoldable pub any_block_at : Reader BlockAt
any_block_at bytes = made (λ t. record { disk = record { 0 = t.0 }; block = t.1 }) (seq word16_at (λ d. word32_at)) bytes

unfoldable pub tag_at : ℕ → Reader Tag
tag_at least bytes = made (λ t. record { file = t.0; page = t.1.0; birth = t.1.1 }) (seq (file_at least) (λ f. seq (page_at 0) (λ p. word64_at))) bytes

-- Rows, of which the first is at least this.

unfoldable pub lock_row_at : ℕ → Reader (ℕ × GrantNo × Mode)
lock_row_at least bytes = made (λ t. (t.0, t.1.0, t.1.1)) (seq (word32_in least 4294967295) (λ i. seq grant_at (λ g. mode_at 1 2))) bytes

unfoldable pub extent_row_at : ℕ → Reader ExtentRow
extent_row_at least bytes = made (λ t. record { page = t.0; at = t.1.0; birth = t.1.1 }) (seq (page_at least) (λ p. seq block_at (λ b. word64_at))) bytes

unfoldable pub lost_row_at : ℕ → Reader LostRow
lost_row_at least bytes = made (λ t. record { page = t.0; command = t.1 }) (seq (page_at least) (λ p. word64_at)) bytes

abbrev pub is_directory : ℕ → Bool
is_directory n = nat_le 2 n

unfoldable pub entry_at : Reader Bool
entry_at bytes = made is_directory (byte_in 1 2) bytes

unfoldable pub name_row_at : ℕ → Reader NameRow
name_row_at least bytes =
    made (λ t. record { ino = t.0; directory = t.1.0; name = t.1.1 }) (seq (word32_in least 4294967295) (λ i. seq entry_at (λ k. name_at 1 64))) bytes

-- this number of rows
unfoldable pub rows_at : {R : Type 0} → (ℕ → Reader R) → (R → ℕ) → ℕ → ℕ → Reader (List R)
rows_at row after zero least bytes = Ok ([], bytes)
rows_at row after (suc n) least bytes = do
  first ← row least bytes
  others ← rows_at row after n (after first.0) first.1
  Ok (first.0 ∷ others.0, others.1)

abbrev pub counted : {R : Type 0} → ℕ → ℕ → (ℕ → Reader R) → (R → ℕ) → ℕ → Reader (List R)
counted fewest most row after least bytes = do
  n ← word16_in fewest most bytes
  rows_at row after n.0 least n.1

unfoldable pub locks_at : Reader (List (ℕ × GrantNo × Mode))
locks_at bytes = counted 0 1024 lock_row_at after_lock 1 bytes

unfoldable pub extents_at : Reader (List ExtentRow)
extents_at bytes = counted 0 64 extent_row_at after_extent 0 bytes

unfoldable pub lost_at : Reader (List LostRow)
lost_at bytes = counted 1 1024 lost_row_at after_lost 0 bytes

unfoldable pub names_at : Reader (List NameRow)
names_at bytes = counted 0 256 name_row_at after_name 1 bytes

-- a byte that says what comes, and what it says; left is how many bytes there are from that byte on
abbrev pub chosen : {A : Type 0} → (ℕ → ℕ → Reader A) → Reader A
chosen choice bytes = do
  n ← byte_at bytes
  choice n.0 (length bytes) n.1

-- a directory, and a name in it
unfoldable pub dir_name_at : ℕ → Reader (ℕ × List ℕ)
dir_name_at least bytes = seq ino_at (λ dir. name_at least 255) bytes

unfoldable pub remove_at : Reader NameOp
remove_at bytes = made (λ t. ops.Remove t.0 t.1.0 t.1.1) (seq ino_at (λ dir. seq (name_at 1 255) (λ name. grant_at))) bytes

unfoldable pub rename_at : Reader NameOp
rename_at bytes = made (λ t. ops.Rename t.0.0 t.0.1 t.1.0 t.1.1) (seq (dir_name_at 1) (λ from. dir_name_at 1)) bytes

unfoldable pub op_numbered : ℕ → ℕ → Reader NameOp
op_numbered n left bytes =
    if n == 1 then made (λ t. ops.Lookup t.0 t.1) (dir_name_at 1) bytes
    else if n == 2 then made (λ t. ops.Create t.0 t.1) (dir_name_at 1) bytes
    else if n == 3 then made (λ t. ops.Mkdir t.0 t.1) (dir_name_at 1) bytes
    else if n == 4 then remove_at bytes
    else if n == 5 then rename_at bytes
    else if n == 6 then made (λ t. ops.List t.0 t.1) (dir_name_at 0) bytes
    else Err (faults.Value left)

unfoldable pub name_op_at : Reader NameOp
name_op_at bytes = chosen op_numbered bytes

unfoldable pub remove_ask_at : Reader NameAsk
remove_ask_at bytes = made (λ t. name_asks.Remove t.0 t.1.0 t.1.1) (seq ino_at (λ dir. seq (name_at 1 255) (λ name. word32_at))) bytes

unfoldable pub rename_ask_at : Reader NameAsk
rename_ask_at bytes = made (λ t. name_asks.Rename t.0.0 t.0.1 t.1.0 t.1.1) (seq (dir_name_at 1) (λ from. dir_name_at 1)) bytes

unfoldable pub name_ask_numbered : ℕ → ℕ → Reader NameAsk
name_ask_numbered n left bytes =
    if n == 1 then made (λ t. name_asks.Lookup t.0 t.1) (dir_name_at 1) bytes
    else if n == 2 then made (λ t. name_asks.Create t.0 t.1) (dir_name_at 1) bytes
    else if n == 3 then made (λ t. name_asks.Mkdir t.0 t.1) (dir_name_at 1) bytes
    else if n == 4 then remove_ask_at bytes
    else if n == 5 then rename_ask_at bytes
    else if n == 6 then made (λ t. name_asks.List t.0 t.1) (dir_name_at 0) bytes
    else Err (faults.Value left)

unfoldable pub name_ask_at : Reader NameAsk
name_ask_at bytes = chosen name_ask_numbered bytes

unfoldable pub reply_numbered : ℕ → ℕ → Reader NameReply
reply_numbered n left bytes =
    if n == 0 then made replies.Ino ino_at bytes
    else if n == 1 then made replies.Listed names_at bytes
    else if n == 2 then made replies.Refused (byte_in 1 8) bytes
    else Err (faults.Value left)

unfoldable pub name_reply_at : Reader NameReply
name_reply_at bytes = chosen reply_numbered bytes
