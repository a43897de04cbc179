-- The ranges of the fields of each message.
use Rattle.std.specs.Prelude.{ℕ, Bool, true, List, [], ◌∷◌, length, ◌+◌, ◌-◌, ◌^◌, ◌==◌, ◌&&◌, nat_lt, min}
use Rattle.st_base.specs.declared.disk.BlockAt.{BlockAt}
use Rattle.st_base.specs.declared.disk.Command.{Command}
use Rattle.st_base.specs.declared.disk.Command.TheVariants as commands
use Rattle.st_base.specs.declared.disk.Tag.{Tag}
use Rattle.st_base.specs.declared.ids.FileId.{FileId}
use Rattle.st_base.specs.declared.ids.GrantNo.{GrantNo}
use Rattle.st_base.specs.declared.mode.Mode.{Mode}
use Rattle.st_base.specs.declared.names.NameAsk.{NameAsk}
use Rattle.st_base.specs.declared.names.NameAsk.TheVariants as name_asks
use Rattle.st_base.specs.declared.names.NameRow.{NameRow}
use Rattle.st_base.specs.declared.rows.ExtentRow.{ExtentRow}
use Rattle.st_base.specs.declared.rows.LostRow.{LostRow}
use Rattle.st_base.specs.Mode as modes
use Rattle.st_messages.specs.declared.answer.AppAnswer.{AppAnswer}
use Rattle.st_messages.specs.declared.answer.AppAnswer.TheVariants as answers
use Rattle.st_messages.specs.declared.ask.Ask.{Ask}
use Rattle.st_messages.specs.declared.ask.Ask.TheVariants as asks
use Rattle.st_messages.specs.declared.kind.Kind.{Kind}
use Rattle.st_messages.specs.declared.message.Body.{Body}
use Rattle.st_messages.specs.declared.message.Body.TheVariants as bodies
use Rattle.st_messages.specs.declared.message.DiskResult.{DiskResult}
use Rattle.st_messages.specs.declared.message.DiskResult.TheVariants as results
use Rattle.st_messages.specs.declared.message.Header.{Header}
use Rattle.st_messages.specs.declared.message.Message.{Message}
use Rattle.st_messages.specs.declared.message.NameOp.{NameOp}
use Rattle.st_messages.specs.declared.message.NameOp.TheVariants as ops
use Rattle.st_messages.specs.declared.message.NameReply.{NameReply}
use Rattle.st_messages.specs.declared.message.NameReply.TheVariants as replies
use Rattle.st_messages.specs.Kinds.{between, is_word64, includes, allows, sender, receiver, kind_of_body, life_of, epoch_of, request_of, stamp_of}

-- what words of two and four bytes can hold
abbrev pub is_word16 : ℕ → Bool
is_word16 n = nat_lt n (2 ^ 16)

abbrev pub is_word32 : ℕ → Bool
is_word32 n = nat_lt n (2 ^ 32)

abbrev pub is_grant : GrantNo → Bool
is_grant g = is_word64 g.0

abbrev pub is_ino : ℕ → Bool
is_ino n = between 1 4294967295 n

-- a page at this place or above it
abbrev pub is_page : ℕ → ℕ → Bool
is_page least n = between least 1048575 n

-- a lock is held shared or exclusive, and is reduced to none or to shared
abbrev pub is_mode : ℕ → ℕ → Mode → Bool
is_mode least most m = between least most (modes.number_of m)

-- this number of bytes
abbrev pub has_length : ℕ → ℕ → List ℕ → Bool
has_length least most bytes = between least most (length bytes)

abbrev pub is_whole_page : List ℕ → Bool
is_whole_page bytes = length bytes == 4096

-- numbers of servers and inodes are at least these
abbrev pub is_file : ℕ → FileId → Bool
is_file least f = between least 65535 f.server.0 && between least 4294967295 f.ino

-- a block of one of the eight disks
abbrev pub is_block : BlockAt → Bool
is_block b = between 1 8 b.disk.0 && between 0 4095 b.block

-- a block that a command names: nothing bounds it
abbrev pub is_any_block : BlockAt → Bool
is_any_block b = is_word16 b.disk.0 && is_word32 b.block

abbrev pub is_tag : ℕ → Tag → Bool
is_tag least t = is_file least t.file && (is_page 0 t.page.0 && is_word64 t.birth)

-- Rows, of which the first is at least this.

abbrev pub is_lock_row : ℕ → ℕ × GrantNo × Mode → Bool
is_lock_row least r = between least 4294967295 r.0 && (is_grant r.1 && is_mode 1 2 r.2)

abbrev pub is_extent_row : ℕ → ExtentRow → Bool
is_extent_row least r = is_page least r.page.0 && (is_block r.at && is_word64 r.birth)

abbrev pub is_lost_row : ℕ → LostRow → Bool
is_lost_row least r = is_page least r.page.0 && is_word64 r.command

abbrev pub is_name_row : ℕ → NameRow → Bool
is_name_row least r = between least 4294967295 r.ino && has_length 1 64 r.name

-- the least that may follow a row
abbrev pub after_lock : ℕ × GrantNo × Mode → ℕ
after_lock r = r.0 + 1

abbrev pub after_extent : ExtentRow → ℕ
after_extent r = r.page.0 + 1

abbrev pub after_lost : LostRow → ℕ
after_lost r = r.page.0 + 1

-- names of a directory come in any order of inodes
abbrev pub after_name : NameRow → ℕ
after_name r = 1

-- each row fits after the one before it
abbrev pub are_rows : {R : Type 0} → (ℕ → R → Bool) → (R → ℕ) → ℕ → List R → Bool
are_rows is_row after least [] = true
are_rows is_row after least (r ∷ rs) = is_row least r && are_rows is_row after (after r) rs

unfoldable pub are_locks : List (ℕ × GrantNo × Mode) → Bool
are_locks rs = between 0 1024 (length rs) && are_rows is_lock_row after_lock 1 rs

unfoldable pub are_extents : List ExtentRow → Bool
are_extents rs = between 0 64 (length rs) && are_rows is_extent_row after_extent 0 rs

unfoldable pub are_lost : List LostRow → Bool
are_lost rs = between 1 1024 (length rs) && are_rows is_lost_row after_lost 0 rs

unfoldable pub are_names : List NameRow → Bool
are_names rs = between 0 256 (length rs) && are_rows is_name_row after_name 1 rs

-- a directory, and a name in it
abbrev pub is_dir_name : ℕ → ℕ → List ℕ → Bool
is_dir_name least dir n = is_ino dir && has_length least 255 n

unfoldable pub is_name_op : NameOp → Bool
is_name_op (ops.Lookup dir n) = is_dir_name 1 dir n
is_name_op (ops.Create dir n) = is_dir_name 1 dir n
is_name_op (ops.Mkdir dir n) = is_dir_name 1 dir n
is_name_op (ops.Remove dir n g) = is_ino dir && (has_length 1 255 n && is_grant g)
is_name_op (ops.Rename dir n dir2 n2) = is_dir_name 1 dir n && is_dir_name 1 dir2 n2
is_name_op (ops.List dir after) = is_dir_name 0 dir after

unfoldable pub is_name_ask : NameAsk → Bool
is_name_ask (name_asks.Lookup dir n) = is_dir_name 1 dir n
is_name_ask (name_asks.Create dir n) = is_dir_name 1 dir n
is_name_ask (name_asks.Mkdir dir n) = is_dir_name 1 dir n
is_name_ask (name_asks.Remove dir n ino) = is_ino dir && (has_length 1 255 n && is_word32 ino)
is_name_ask (name_asks.Rename dir n dir2 n2) = is_dir_name 1 dir n && is_dir_name 1 dir2 n2
is_name_ask (name_asks.List dir after) = is_dir_name 0 dir after

unfoldable pub is_name_reply : NameReply → Bool
is_name_reply (replies.Ino ino) = is_ino ino
is_name_reply (replies.Listed rs) = are_names rs
is_name_reply (replies.Refused code) = between 1 8 code

unfoldable pub is_ask : Ask → Bool
is_ask (asks.Write f page bytes) = is_file 1 f && (is_page 0 page.0 && is_whole_page bytes)
is_ask (asks.Read f page) = is_file 1 f && is_page 0 page.0
is_ask (asks.Sync f) = is_file 1 f
is_ask (asks.Cut f page) = is_file 1 f && is_page 0 page.0
is_ask (asks.Name server n) = between 1 65535 server.0 && is_name_ask n
is_ask (asks.Patch f page at bytes) = is_file 1 f && (is_page 0 page.0 && (between 0 4095 at && has_length 1 (4096 - at) bytes))

unfoldable pub is_answer : AppAnswer → Bool
is_answer (answers.Read bytes) = is_whole_page bytes
is_answer (answers.Named ino) = is_ino ino
is_answer (answers.Listed rs) = are_names rs
is_answer (answers.NoSpace free asked) = is_word64 free && is_word64 asked
is_answer (answers.DiskFault command) = is_word64 command
is_answer (answers.Uncertain old new) = is_word64 old && is_word64 new
is_answer (answers.Lost rs) = are_lost rs
is_answer a = true

abbrev pub is_same_block : BlockAt → BlockAt → Bool
is_same_block a b = a.disk.0 == b.disk.0 && a.block == b.block

-- the command is one on this block
unfoldable pub is_command : BlockAt → Command → Bool
is_command at (commands.Read there) = is_same_block at there
is_command at (commands.Write there t bytes) = is_same_block at there && (is_tag 1 t && is_whole_page bytes)

unfoldable pub is_disk_result : DiskResult → Bool
is_disk_result (results.ReadDone t bytes) = is_tag 0 t && is_whole_page bytes
is_disk_result r = true

-- a run of pages ends with the last page of a file at the latest
abbrev pub is_count : ℕ → ℕ → Bool
is_count page n = between 1 (min 64 (1048576 - page)) n

unfoldable pub is_body : Body → Bool
is_body (bodies.Acquire ino m) = is_ino ino && is_mode 1 2 m
is_body (bodies.Released ino g to) = is_ino ino && (is_grant g && is_mode 0 1 to)
is_body (bodies.Map ino g page) = is_ino ino && (is_grant g && is_page 0 page.0)
is_body (bodies.Allocate ino g page count) = is_ino ino && (is_grant g && (is_page 0 page.0 && is_count page.0 count))
is_body (bodies.Cut ino g from) = is_ino ino && (is_grant g && is_page 0 from.0)
is_body (bodies.Name op) = is_name_op op
is_body (bodies.Reassert rs) = are_locks rs
is_body (bodies.DemandSeen ino g) = is_ino ino && is_grant g
is_body (bodies.Nack why a b) = is_word64 a && is_word64 b
is_body (bodies.Granted ino g m) = is_ino ino && (is_grant g && is_mode 1 2 m)
is_body (bodies.Queued ino m) = is_ino ino && is_mode 1 2 m
is_body (bodies.Demand ino g to) = is_ino ino && (is_grant g && is_mode 0 1 to)
is_body (bodies.Extents ino rs) = is_ino ino && are_extents rs
is_body (bodies.Named reply) = is_name_reply reply
is_body (bodies.App op a) = is_word32 op && is_ask a
is_body (bodies.AppDone op a) = is_word32 op && is_answer a
is_body (bodies.Submit number at what) = is_word64 number && (is_any_block at && is_command at what)
is_body (bodies.Done number result) = is_word64 number && is_disk_result result
is_body b = true

abbrev pub are_nodes : Kind → Header → Bool
are_nodes k h = includes (sender k) h.from && includes (receiver k) h.to

abbrev pub are_ages : Kind → Header → Bool
are_ages k h = allows (life_of k) h.life && allows (epoch_of k) h.epoch

abbrev pub are_marks : Kind → Header → Bool
are_marks k h = allows (request_of k) h.number && allows (stamp_of k) h.stamp

unfoldable pub is_header : Kind → Header → Bool
is_header k h = are_nodes k h && (are_ages k h && are_marks k h)

-- every field of the message is in its range
unfoldable pub fits : Message → Bool
fits m = is_header (kind_of_body m.body) m.header && is_body m.body
