-- The length of each spelling.
use Rattle.std.proofs.Common.{◌≡◌, ℕ, ◌+◌, ◌*◌, List, [], ◌∷◌, ◌++◌, length, refl, ap, ◌∙◌, arith}
use Rattle.std.specs.List.{flat_map}
use Rattle.std.proofs.lemmas.List.{length-append}
use Rattle.std.proofs.lemmas.List.Concat.{flat_map-cons}
use Rattle.st_base.specs.declared.disk.Command.{Command}
use Rattle.st_base.specs.declared.disk.Command.TheVariants as commands
use Rattle.st_base.specs.declared.disk.Tag.{Tag}
use Rattle.st_base.specs.declared.ids.GrantNo.{GrantNo}
use Rattle.st_base.specs.declared.mode.Mode.{Mode}
use Rattle.st_base.specs.declared.names.NameAsk.{NameAsk}
use Rattle.st_base.specs.declared.names.NameAsk.TheVariants as name_asks
use Rattle.st_base.specs.declared.names.NameRow.{NameRow}
use Rattle.st_base.specs.declared.rows.ExtentRow.{ExtentRow}
use Rattle.st_base.specs.declared.rows.LostRow.{LostRow}
use Rattle.st_messages.specs.declared.answer.AppAnswer.{AppAnswer}
use Rattle.st_messages.specs.declared.answer.AppAnswer.TheVariants as answers
use Rattle.st_messages.specs.declared.ask.Ask.{Ask}
use Rattle.st_messages.specs.declared.ask.Ask.TheVariants as asks
use Rattle.st_messages.specs.declared.message.Body.{Body}
use Rattle.st_messages.specs.declared.message.Body.TheVariants as bodies
use Rattle.st_messages.specs.declared.message.DiskResult.{DiskResult}
use Rattle.st_messages.specs.declared.message.DiskResult.TheVariants as results
use Rattle.st_messages.specs.declared.kind.Kind.{Kind}
use Rattle.st_messages.specs.declared.message.Header.{Header}
use Rattle.st_messages.specs.declared.message.Message.{Message}
use Rattle.st_messages.specs.declared.message.NameOp.{NameOp}
use Rattle.st_messages.specs.declared.message.NameOp.TheVariants as ops
use Rattle.st_messages.specs.declared.message.NameReply.{NameReply}
use Rattle.st_messages.specs.declared.message.NameReply.TheVariants as replies
use Rattle.st_messages.specs.Sizes.{name_size, name_rows_size, op_size, name_ask_size, reply_size, ask_size, answer_size, command_size, result_size, body_size, size_of}
use Rattle.st_codec_fields.specs.Spelling.{word16, word32, word64, name, file, block, tag, lock_row, extent_row, lost_row, name_row, rows, name_op, name_ask, name_reply}
use Rattle.st_codec.specs.Spelling.{ask, answer, command, disk_result, body, kind, nodes, ages, marks, header, spelling}
use Rattle.st_messages.specs.Kinds.{kind_of_body}

-- rows of one length
rows_length : {R : Type 0} (row : R → List ℕ) (k : ℕ) → ((r : R) → length (row r) ≡ k) → (rs : List R) → length (flat_map row rs) ≡ k * length rs
rows_length row k h [] = omega arith
rows_length row k h (r ∷ rs) = ap length (flat_map-cons row r rs) ∙ grind (arith, length-append (row r) (flat_map row rs), h r, rows_length row k h rs)

lock_length : (r : ℕ × GrantNo × Mode) → length (lock_row r) ≡ 13
unfolding lock_row word16 word32 word64
lock_length r = simp length-append

extent_length : (r : ExtentRow) → length (extent_row r) ≡ 18
unfolding extent_row block word16 word32 word64
extent_length r = simp length-append

lost_length : (r : LostRow) → length (lost_row r) ≡ 12
unfolding lost_row word16 word32 word64
lost_length r = simp length-append

name_row_length : (r : NameRow) → length (name_row r) ≡ 5 + name_size r.name
unfolding name_row name word16 word32 word64
name_row_length r = simp length-append (omega arith)

names_length : (rs : List NameRow) → length (flat_map name_row rs) ≡ name_rows_size rs
names_length [] = refl
names_length (r ∷ rs) = ap length (flat_map-cons name_row r rs) ∙ omega (arith, length-append (name_row r) (flat_map name_row rs), name_row_length r, names_length rs)

tag_length : (t : Tag) → length (tag t) ≡ 18
unfolding tag file word16 word32 word64
tag_length t = simp length-append

op_length : (o : NameOp) → length (name_op o) ≡ op_size o
unfolding name_op name word16 word32 word64
op_length (ops.Lookup dir n) = simp length-append (omega arith)
op_length (ops.Create dir n) = simp length-append (omega arith)
op_length (ops.Mkdir dir n) = simp length-append (omega arith)
op_length (ops.Remove dir n g) = simp length-append (omega arith)
op_length (ops.Rename dir n dir2 n2) = simp length-append (omega arith)
op_length (ops.List dir n) = simp length-append (omega arith)

name_ask_length : (o : NameAsk) → length (name_ask o) ≡ name_ask_size o
unfolding name_ask name word16 word32 word64
name_ask_length (name_asks.Lookup dir n) = simp length-append (omega arith)
name_ask_length (name_asks.Create dir n) = simp length-append (omega arith)
name_ask_length (name_asks.Mkdir dir n) = simp length-append (omega arith)
name_ask_length (name_asks.Remove dir n ino) = simp length-append (omega arith)
name_ask_length (name_asks.Rename dir n dir2 n2) = simp length-append (omega arith)
name_ask_length (name_asks.List dir n) = simp length-append (omega arith)

reply_length : (o : NameReply) → length (name_reply o) ≡ reply_size o
unfolding name_reply word16 word32 word64
reply_length (replies.Ino ino) = refl
reply_length (replies.Listed rs) = omega (arith, names_length rs, length-append (word16 (length rs)) (flat_map name_row rs))
reply_length (replies.Refused code) = refl

ask_length : (a : Ask) → length (ask a) ≡ ask_size a
unfolding ask file word16 word32 word64
ask_length (asks.Write f page bytes) = simp length-append (omega arith)
ask_length (asks.Read f page) = refl
ask_length (asks.Sync f) = refl
ask_length (asks.Cut f page) = refl
ask_length (asks.Name server n) = omega (arith, length-append (word16 server.0) (name_ask n), name_ask_length n)
ask_length (asks.Patch f page at bytes) = simp length-append (omega arith)

answer_length : (a : AppAnswer) → length (answer a) ≡ answer_size a
unfolding answer word16 word32 word64
answer_length answers.Written = refl
answer_length (answers.Read bytes) = omega arith
answer_length answers.Hard = refl
answer_length answers.Cut = refl
answer_length (answers.Named ino) = refl
answer_length (answers.Listed rs) = omega (arith, names_length rs, length-append (word16 (length rs)) (flat_map name_row rs))
answer_length (answers.Refused code) = refl
answer_length answers.Quiesced = refl
answer_length answers.NoFile = refl
answer_length (answers.NoSpace free asked) = refl
answer_length (answers.DiskFault number) = refl
answer_length answers.OpsFull = refl
answer_length (answers.Uncertain old new) = refl
answer_length (answers.Lost rs) = omega (arith, rows_length lost_row 12 lost_length rs, length-append (word16 (length rs)) (flat_map lost_row rs))
answer_length answers.DirtyFull = refl
answer_length answers.NotHolder = refl
answer_length answers.TooManyLocks = refl

command_length : (o : Command) → length (command o) ≡ command_size o
unfolding command word16 word32 word64
command_length (commands.Read at) = refl
command_length (commands.Write at t bytes) = omega (arith, tag_length t, length-append (tag t) bytes)

result_length : (o : DiskResult) → length (disk_result o) ≡ result_size o
unfolding disk_result word16 word32 word64
result_length results.Failed = refl
result_length results.WriteDone = refl
result_length (results.ReadDone t bytes) = omega (arith, tag_length t, length-append (tag t) bytes)

body_length : (b : Body) → length (body b) ≡ body_size b
unfolding body block word16 word32 word64
body_length bodies.Hello = refl
body_length bodies.KeepAlive = refl
body_length (bodies.Acquire ino m) = refl
body_length (bodies.Released ino g to) = refl
body_length (bodies.Map ino g page) = refl
body_length (bodies.Allocate ino g page count) = refl
body_length (bodies.Cut ino g from) = refl
body_length (bodies.Name op) = op_length op
body_length (bodies.Reassert rs) = omega (arith, rows_length lock_row 13 lock_length rs, length-append (word16 (length rs)) (flat_map lock_row rs))
body_length (bodies.DemandSeen ino g) = refl
body_length bodies.Welcome = refl
body_length bodies.Ack = refl
body_length (bodies.Nack why a b) = refl
body_length (bodies.Granted ino g m) = refl
body_length (bodies.Queued ino m) = refl
body_length (bodies.Demand ino g to) = refl
body_length (bodies.Extents ino rs) = omega (arith, rows_length extent_row 18 extent_length rs, length-append (word16 (length rs)) (flat_map extent_row rs), length-append (word32 ino) (rows extent_row rs))
body_length (bodies.Named reply) = reply_length reply
body_length bodies.Reasserted = refl
body_length bodies.Tick = refl
body_length (bodies.App op a) = omega (arith, ask_length a, length-append (word32 op) (ask a))
body_length (bodies.AppDone op a) = omega (arith, answer_length a, length-append (word32 op) (answer a))
body_length (bodies.Submit number at what) = omega (arith, command_length what, length-append (word64 number ++ (word16 at.disk.0 ++ word32 at.block)) (command what), length-append (word64 number) (word16 at.disk.0 ++ word32 at.block), length-append (word16 at.disk.0) (word32 at.block))
body_length (bodies.Done number result) = omega (arith, result_length result, length-append (word64 number) (disk_result result))

kind_length : (k : Kind) → length (kind k) ≡ 2
unfolding kind
kind_length k = refl

header_length : (h : Header) → length (header h) ≡ 36
unfolding header nodes ages marks word16 word32 word64
header_length h = refl

pub spelling_length : (m : Message) → length (spelling m) ≡ size_of m
unfolding spelling size_of
spelling_length m = omega (arith, length-append (kind (kind_of_body m.body) ++ header m.header) (body m.body), length-append (kind (kind_of_body m.body)) (header m.header), kind_length (kind_of_body m.body), header_length m.header, body_length m.body)
