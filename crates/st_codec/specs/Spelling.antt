-- The spelling of each message: the fields of a kind in order.
use Rattle.std.specs.Prelude.{ℕ, List, [], ◌∷◌, ◌++◌, length}
use Rattle.st_base.specs.declared.disk.BlockAt.{BlockAt}
use Rattle.st_base.specs.declared.disk.Command.{Command}
use Rattle.st_base.specs.declared.disk.Command.TheVariants as commands
use Rattle.st_base.specs.declared.ids.FileId.{FileId}
use Rattle.st_base.specs.declared.ids.PageNo.{PageNo}
use Rattle.st_messages.specs.declared.answer.AppAnswer.{AppAnswer}
use Rattle.st_messages.specs.declared.answer.AppAnswer.TheVariants as answers
use Rattle.st_messages.specs.declared.ask.Ask.{Ask}
use Rattle.st_messages.specs.declared.ask.Ask.TheVariants as asks
use Rattle.st_messages.specs.declared.kind.Kind.{Kind}
use Rattle.st_messages.specs.declared.message.Body.{Body}
use Rattle.st_messages.specs.declared.message.Body.TheVariants as bodies
use Rattle.st_messages.specs.declared.message.DiskResult.{DiskResult}
use Rattle.st_messages.specs.declared.message.DiskResult.TheVariants as results
use Rattle.st_messages.specs.declared.message.Header.{Header}
use Rattle.st_messages.specs.declared.message.Message.{Message}
use Rattle.st_messages.specs.declared.message.Why.{Why}
use Rattle.st_messages.specs.declared.message.Why.TheVariants as whys
use Rattle.st_codec.specs.KindBytes.{version_of, number_of}
use Rattle.st_messages.specs.Kinds.{kind_of_body}
use Rattle.st_codec_fields.specs.Spelling.{byte, word16, word32, word64, mode, grant, file, block, tag, lock_row, extent_row, lost_row, name_row, rows, name_op, name_ask, name_reply}

abbrev pub why_number : Why → ℕ
why_number whys.Suspect = 1
why_number whys.NoSession = 2
why_number whys.OtherEpoch = 3
why_number whys.Grace = 4
why_number whys.GraceOver = 5
why_number whys.Conflict = 6
why_number whys.NotHolder = 7
why_number whys.NoFile = 8
why_number whys.NoSpace = 9
why_number whys.TooManyLocks = 10

-- the fields of a patch: its page, the place of its first byte there, and its bytes after their number
abbrev pub patch : FileId → PageNo → ℕ → List ℕ → List ℕ
patch f page at bytes = file f ++ word32 page.0 ++ word16 at ++ word16 (length bytes) ++ bytes

-- a byte for the ask, and its fields
unfoldable pub ask : Ask → List ℕ
ask (asks.Write f page bytes) = 1 ∷ (file f ++ word32 page.0 ++ bytes)
ask (asks.Read f page) = 2 ∷ (file f ++ word32 page.0)
ask (asks.Sync f) = 3 ∷ file f
ask (asks.Cut f page) = 4 ∷ (file f ++ word32 page.0)
ask (asks.Name server n) = 5 ∷ (word16 server.0 ++ name_ask n)
ask (asks.Patch f page at bytes) = 6 ∷ patch f page at bytes

-- a byte for the answer, and its fields
unfoldable pub answer : AppAnswer → List ℕ
answer answers.Written = byte 0
answer (answers.Read bytes) = 1 ∷ bytes
answer answers.Hard = byte 2
answer answers.Cut = byte 3
answer (answers.Named ino) = 4 ∷ word32 ino
answer (answers.Listed rs) = 5 ∷ rows name_row rs
answer (answers.Refused code) = 6 ∷ byte code
answer answers.Quiesced = byte 17
answer answers.NoFile = byte 18
answer (answers.NoSpace free asked) = 19 ∷ (word64 free ++ word64 asked)
answer (answers.DiskFault command) = 20 ∷ word64 command
answer answers.OpsFull = byte 21
answer (answers.Uncertain old new) = 22 ∷ (word64 old ++ word64 new)
answer (answers.Lost rs) = 23 ∷ rows lost_row rs
answer answers.DirtyFull = byte 24
answer answers.NotHolder = byte 25
answer answers.TooManyLocks = byte 26

abbrev pub command_at : Command → BlockAt
command_at (commands.Read at) = at
command_at (commands.Write at t bytes) = at

-- The block of a command comes before its kind.
unfoldable pub command : Command → List ℕ
command (commands.Read at) = byte 0
command (commands.Write at t bytes) = 1 ∷ (tag t ++ bytes)

unfoldable pub disk_result : DiskResult → List ℕ
disk_result results.Failed = byte 0
disk_result results.WriteDone = byte 1
disk_result (results.ReadDone t bytes) = 2 ∷ (tag t ++ bytes)

unfoldable pub body : Body → List ℕ
body bodies.Hello = []
body bodies.KeepAlive = []
body (bodies.Acquire ino m) = word32 ino ++ mode m
body (bodies.Released ino g to) = word32 ino ++ grant g ++ mode to
body (bodies.Map ino g page) = word32 ino ++ grant g ++ word32 page.0
body (bodies.Allocate ino g page count) = word32 ino ++ grant g ++ word32 page.0 ++ word16 count
body (bodies.Cut ino g from) = word32 ino ++ grant g ++ word32 from.0
body (bodies.Name op) = name_op op
body (bodies.Reassert rs) = rows lock_row rs
body (bodies.DemandSeen ino g) = word32 ino ++ grant g
body bodies.Welcome = []
body bodies.Ack = []
body (bodies.Nack why a b) = byte (why_number why) ++ word64 a ++ word64 b
body (bodies.Granted ino g m) = word32 ino ++ grant g ++ mode m
body (bodies.Queued ino m) = word32 ino ++ mode m
body (bodies.Demand ino g to) = word32 ino ++ grant g ++ mode to
body (bodies.Extents ino rs) = word32 ino ++ rows extent_row rs
body (bodies.Named reply) = name_reply reply
body bodies.Reasserted = []
body bodies.Tick = []
body (bodies.App op a) = word32 op ++ ask a
body (bodies.AppDone op a) = word32 op ++ answer a
body (bodies.Submit number at what) = word64 number ++ block at ++ command what
body (bodies.Done number result) = word64 number ++ disk_result result

unfoldable pub kind : Kind → List ℕ
kind k = version_of k ∷ number_of k ∷ []

unfoldable pub nodes : Header → List ℕ
nodes h = word16 h.from ++ word16 h.to

unfoldable pub ages : Header → List ℕ
ages h = word64 h.life ++ word64 h.epoch

unfoldable pub marks : Header → List ℕ
marks h = word64 h.number ++ word64 h.stamp

unfoldable pub header : Header → List ℕ
header h = nodes h ++ ages h ++ marks h

-- the one spelling of a message
unfoldable pub spelling : Message → List ℕ
spelling m = kind (kind_of_body m.body) ++ header m.header ++ body m.body
