-- The spelling of fields: numbers with their highest byte first, places, names, rows, and what is asked of names.
use Rattle.std.specs.Prelude.{ℕ, Bool, true, false, List, [], ◌∷◌, ◌++◌, length}
use Rattle.std.specs.List.{flat_map}
use Rattle.std.specs.Int.{w16, w32, w64, to_be_bytes}
use Rattle.st_base.specs.declared.disk.BlockAt.{BlockAt}
use Rattle.st_base.specs.declared.disk.Tag.{Tag}
use Rattle.st_base.specs.declared.ids.FileId.{FileId}
use Rattle.st_base.specs.declared.ids.GrantNo.{GrantNo}
use Rattle.st_base.specs.declared.mode.Mode.{Mode}
use Rattle.st_base.specs.declared.names.NameAsk.{NameAsk}
use Rattle.st_base.specs.declared.names.NameAsk.TheVariants as name_asks
use Rattle.st_base.specs.declared.names.NameRow.{NameRow}
use Rattle.st_base.specs.declared.rows.ExtentRow.{ExtentRow}
use Rattle.st_base.specs.declared.rows.LostRow.{LostRow}
use Rattle.st_base.specs.Mode as modes
use Rattle.st_messages.specs.declared.message.NameOp.{NameOp}
use Rattle.st_messages.specs.declared.message.NameOp.TheVariants as ops
use Rattle.st_messages.specs.declared.message.NameReply.{NameReply}
use Rattle.st_messages.specs.declared.message.NameReply.TheVariants as replies

abbrev pub byte : ℕ → List ℕ
byte n = n ∷ []

unfoldable pub word16 : ℕ → List ℕ
word16 n = to_be_bytes w16 n

unfoldable pub word32 : ℕ → List ℕ
word32 n = to_be_bytes w32 n

unfoldable pub word64 : ℕ → List ℕ
word64 n = to_be_bytes w64 n

abbrev pub mode : Mode → List ℕ
mode m = byte (modes.number_of m)

abbrev pub grant : GrantNo → List ℕ
grant g = word64 g.0

-- a byte of length, and that many bytes
unfoldable pub name : List ℕ → List ℕ
name n = length n ∷ n

unfoldable pub file : FileId → List ℕ
file f = word16 f.server.0 ++ word32 f.ino

unfoldable pub block : BlockAt → List ℕ
block b = word16 b.disk.0 ++ word32 b.block

unfoldable pub tag : Tag → List ℕ
tag t = file t.file ++ word32 t.page.0 ++ word64 t.birth

-- 1 for a file and 2 for a directory
abbrev pub entry_number : Bool → ℕ
entry_number false = 1
entry_number true = 2

-- Rows: their count in two bytes, and each of them.

unfoldable pub lock_row : ℕ × GrantNo × Mode → List ℕ
lock_row r = word32 r.0 ++ grant r.1 ++ mode r.2

unfoldable pub extent_row : ExtentRow → List ℕ
extent_row r = word32 r.page.0 ++ block r.at ++ word64 r.birth

unfoldable pub lost_row : LostRow → List ℕ
lost_row r = word32 r.page.0 ++ word64 r.command

unfoldable pub name_row : NameRow → List ℕ
name_row r = word32 r.ino ++ byte (entry_number r.directory) ++ name r.name

abbrev pub rows : {R : Type 0} → (R → List ℕ) → List R → List ℕ
rows row rs = word16 (length rs) ++ flat_map row rs

-- the fields of a renaming: the entry that is, and the entry that will be
abbrev pub two_entries : ℕ → List ℕ → ℕ → List ℕ → List ℕ
two_entries dir n dir2 n2 = word32 dir ++ name n ++ word32 dir2 ++ name n2

-- a byte for the op, and its fields
unfoldable pub name_op : NameOp → List ℕ
name_op (ops.Lookup dir n) = 1 ∷ (word32 dir ++ name n)
name_op (ops.Create dir n) = 2 ∷ (word32 dir ++ name n)
name_op (ops.Mkdir dir n) = 3 ∷ (word32 dir ++ name n)
name_op (ops.Remove dir n g) = 4 ∷ (word32 dir ++ name n ++ grant g)
name_op (ops.Rename dir n dir2 n2) = 5 ∷ two_entries dir n dir2 n2
name_op (ops.List dir after) = 6 ∷ (word32 dir ++ name after)

unfoldable pub name_ask : NameAsk → List ℕ
name_ask (name_asks.Lookup dir n) = 1 ∷ (word32 dir ++ name n)
name_ask (name_asks.Create dir n) = 2 ∷ (word32 dir ++ name n)
name_ask (name_asks.Mkdir dir n) = 3 ∷ (word32 dir ++ name n)
name_ask (name_asks.Remove dir n ino) = 4 ∷ (word32 dir ++ name n ++ word32 ino)
name_ask (name_asks.Rename dir n dir2 n2) = 5 ∷ two_entries dir n dir2 n2
name_ask (name_asks.List dir after) = 6 ∷ (word32 dir ++ name after)

unfoldable pub name_reply : NameReply → List ℕ
name_reply (replies.Ino ino) = 0 ∷ word32 ino
name_reply (replies.Listed rs) = 1 ∷ rows name_row rs
name_reply (replies.Refused code) = 2 ∷ byte code
