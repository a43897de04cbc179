-- How many bytes a message has: this follows from its fields.
use Rattle.std.specs.Prelude.{ℕ, List, [], ◌∷◌, length, ◌+◌, ◌*◌}
use Rattle.st_base.specs.declared.disk.Command.{Command}
use Rattle.st_base.specs.declared.disk.Command.TheVariants as commands
use Rattle.st_base.specs.declared.names.NameAsk.{NameAsk}
use Rattle.st_base.specs.declared.names.NameAsk.TheVariants as name_asks
use Rattle.st_base.specs.declared.names.NameRow.{NameRow}
use Rattle.st_messages.specs.declared.answer.AppAnswer.{AppAnswer}
use Rattle.st_messages.specs.declared.answer.AppAnswer.TheVariants as answers
use Rattle.st_messages.specs.declared.ask.Ask.{Ask}
use Rattle.st_messages.specs.declared.ask.Ask.TheVariants as asks
use Rattle.st_messages.specs.declared.message.Body.{Body}
use Rattle.st_messages.specs.declared.message.Body.TheVariants as bodies
use Rattle.st_messages.specs.declared.message.DiskResult.{DiskResult}
use Rattle.st_messages.specs.declared.message.DiskResult.TheVariants as results
use Rattle.st_messages.specs.declared.message.Message.{Message}
use Rattle.st_messages.specs.declared.message.NameOp.{NameOp}
use Rattle.st_messages.specs.declared.message.NameOp.TheVariants as ops
use Rattle.st_messages.specs.declared.message.NameReply.{NameReply}
use Rattle.st_messages.specs.declared.message.NameReply.TheVariants as replies

-- a name has a byte of length in front
abbrev pub name_size : List ℕ → ℕ
name_size n = 1 + length n

abbrev pub name_rows_size : List NameRow → ℕ
name_rows_size [] = 0
name_rows_size (r ∷ rs) = 5 + name_size r.name + name_rows_size rs

abbrev pub op_size : NameOp → ℕ
op_size (ops.Lookup dir n) = 5 + name_size n
op_size (ops.Create dir n) = 5 + name_size n
op_size (ops.Mkdir dir n) = 5 + name_size n
op_size (ops.Remove dir n g) = 13 + name_size n
op_size (ops.Rename dir n dir2 n2) = 9 + name_size n + name_size n2
op_size (ops.List dir after) = 5 + name_size after

abbrev pub name_ask_size : NameAsk → ℕ
name_ask_size (name_asks.Lookup dir n) = 5 + name_size n
name_ask_size (name_asks.Create dir n) = 5 + name_size n
name_ask_size (name_asks.Mkdir dir n) = 5 + name_size n
name_ask_size (name_asks.Remove dir n ino) = 9 + name_size n
name_ask_size (name_asks.Rename dir n dir2 n2) = 9 + name_size n + name_size n2
name_ask_size (name_asks.List dir after) = 5 + name_size after

abbrev pub reply_size : NameReply → ℕ
reply_size (replies.Ino ino) = 5
reply_size (replies.Listed rs) = 3 + name_rows_size rs
reply_size (replies.Refused code) = 2

abbrev pub ask_size : Ask → ℕ
ask_size (asks.Write f page bytes) = 11 + length bytes
ask_size (asks.Read f page) = 11
ask_size (asks.Sync f) = 7
ask_size (asks.Cut f page) = 11
ask_size (asks.Name server n) = 3 + name_ask_size n
ask_size (asks.Patch f page at bytes) = 15 + length bytes

abbrev pub answer_size : AppAnswer → ℕ
answer_size (answers.Read bytes) = 1 + length bytes
answer_size (answers.Named ino) = 5
answer_size (answers.Listed rs) = 3 + name_rows_size rs
answer_size (answers.Refused code) = 2
answer_size (answers.NoSpace free asked) = 17
answer_size (answers.DiskFault command) = 9
answer_size (answers.Uncertain old new) = 17
answer_size (answers.Lost rs) = 3 + 12 * length rs
answer_size a = 1

abbrev pub command_size : Command → ℕ
command_size (commands.Read at) = 1
command_size (commands.Write at t bytes) = 19 + length bytes

abbrev pub result_size : DiskResult → ℕ
result_size (results.ReadDone t bytes) = 19 + length bytes
result_size r = 1

abbrev pub body_size : Body → ℕ
body_size (bodies.Acquire ino m) = 5
body_size (bodies.Released ino g to) = 13
body_size (bodies.Map ino g page) = 16
body_size (bodies.Allocate ino g page count) = 18
body_size (bodies.Cut ino g from) = 16
body_size (bodies.Name op) = op_size op
body_size (bodies.Reassert rs) = 2 + 13 * length rs
body_size (bodies.DemandSeen ino g) = 12
body_size (bodies.Nack why a b) = 17
body_size (bodies.Granted ino g m) = 13
body_size (bodies.Queued ino m) = 5
body_size (bodies.Demand ino g to) = 13
body_size (bodies.Extents ino rs) = 6 + 18 * length rs
body_size (bodies.Named reply) = reply_size reply
body_size (bodies.App op a) = 4 + ask_size a
body_size (bodies.AppDone op a) = 4 + answer_size a
body_size (bodies.Submit number at what) = 14 + command_size what
body_size (bodies.Done number result) = 8 + result_size result
body_size b = 0

-- the header has 38 bytes
unfoldable pub size_of : Message → ℕ
size_of m = 38 + body_size m.body
