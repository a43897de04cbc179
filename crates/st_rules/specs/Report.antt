-- The report: the text of each observation, of each refusal and of the last line, and of a whole run.
use Rattle.std.specs.Prelude.{ℕ, ◌+◌, Bool, ◌==◌, if◌then◌else◌, List, [], ◌∷◌, ◌++◌, length, codes, Option, Some, None, ⊤}
use Rattle.std.specs.List.{flat_map}
use Rattle.std.specs.Fmt.{decimal}
use Rattle.st_base.specs.Mode.{number_of}
use Rattle.st_base.specs.declared.ids.ClientId.{ClientId}
use Rattle.st_base.specs.declared.ids.ServerId.{ServerId}
use Rattle.st_base.specs.declared.ids.FileId.{FileId}
use Rattle.st_base.specs.declared.ids.NodeId.{NodeId}
use Rattle.st_base.specs.declared.ids.NodeId.TheVariants as nodes
use Rattle.st_base.specs.declared.disk.BlockAt.{BlockAt}
use Rattle.st_base.specs.declared.disk.Tag.{Tag}
use Rattle.st_base.specs.declared.disk.Command.{Command}
use Rattle.st_base.specs.declared.disk.Command.TheVariants as commands
use Rattle.st_base.specs.declared.names.NameRow.{NameRow}
use Rattle.st_base.specs.declared.rows.ExtentRow.{ExtentRow}
use Rattle.st_base.specs.declared.ids.GrantNo.{GrantNo}
use Rattle.st_base.specs.declared.mode.Mode.{Mode}
use Rattle.st_base.specs.declared.rows.LostRow.{LostRow}
use Rattle.st_messages.specs.declared.answer.AppAnswer.{AppAnswer}
use Rattle.st_messages.specs.declared.answer.AppAnswer.TheVariants as answers
use Rattle.st_messages.specs.declared.message.Message.{Message}
use Rattle.st_messages.specs.declared.message.Body.{Body}
use Rattle.st_messages.specs.declared.message.Body.TheVariants as bodies
use Rattle.st_messages.specs.declared.message.Why.{Why}
use Rattle.st_messages.specs.declared.message.Why.TheVariants as why
use Rattle.st_messages.specs.declared.message.NameOp.{NameOp}
use Rattle.st_messages.specs.declared.message.NameOp.TheVariants as ops
use Rattle.st_messages.specs.declared.message.NameReply.{NameReply}
use Rattle.st_messages.specs.declared.message.NameReply.TheVariants as replies
use Rattle.st_rules.specs.declared.log.Cause.{Cause}
use Rattle.st_rules.specs.declared.log.Cause.TheVariants as causes
use Rattle.st_rules.specs.declared.observation.Observation.{Observation}
use Rattle.st_rules.specs.declared.observation.Observation.TheVariants as seen
use Rattle.st_rules.specs.declared.observation.Summary.{Summary}
use Rattle.st_rules.specs.declared.observation.WorldRefusal.{WorldRefusal}
use Rattle.st_rules.specs.declared.observation.WorldRefusal.TheVariants as refusals
use Rattle.st_rules.specs.World.{node_at}
use Rattle.st_rules.specs.Events.{summary}
use Rattle.st_rules.specs.Run.{Run}

-- Words, each after a space.

-- a number
abbrev pub field : ℕ → List ℕ
field n = 32 ∷ decimal n

-- a client
abbrev pub client : ClientId → List ℕ
client c = codes " c" ++ decimal c.0

-- a server
abbrev pub server : ServerId → List ℕ
server s = codes " s" ++ decimal s.0

-- a node
abbrev pub node : NodeId → List ℕ
node (nodes.Client c) = client c
node (nodes.Server s) = server s

-- a file
abbrev pub file : FileId → List ℕ
file f = field f.server.0 ++ codes ":" ++ decimal f.ino

-- a name as it is
abbrev pub name : List ℕ → List ℕ
name bytes = 32 ∷ bytes

-- Runs of a page: how often a byte occurs, and the byte, for each run of equal bytes.
abbrev pub one_run : ℕ → ℕ → List ℕ
one_run count byte = decimal count ++ codes "x" ++ decimal byte

-- the runs, if this number of bytes of the first one was counted already
abbrev pub runs_from : ℕ → ℕ → List ℕ → List ℕ
runs_from count byte [] = one_run count byte
runs_from count byte (b ∷ bytes) =
    if b == byte then runs_from (count + 1) byte bytes else one_run count byte ++ codes "," ++ runs_from 1 b bytes

-- the runs of some bytes
unfoldable pub runs : List ℕ → List ℕ
runs [] = []
runs (b ∷ bytes) = codes " " ++ runs_from 1 b bytes

-- Messages: the kind, and the fields of the body in the order of the wire.
abbrev pub kind : Body → List ℕ
kind bodies.Hello = codes " hello"
kind bodies.KeepAlive = codes " keepalive"
kind (bodies.Acquire ino mode) = codes " acquire"
kind (bodies.Released ino g to) = codes " released"
kind (bodies.Map ino g page) = codes " map"
kind (bodies.Allocate ino g page count) = codes " allocate"
kind (bodies.Cut ino g from) = codes " cut"
kind (bodies.Name op) = codes " name"
kind (bodies.Reassert rows) = codes " reassert"
kind (bodies.DemandSeen ino g) = codes " demandseen"
kind bodies.Welcome = codes " welcome"
kind bodies.Ack = codes " ack"
kind (bodies.Nack why a b) = codes " nack"
kind (bodies.Granted ino g mode) = codes " granted"
kind (bodies.Queued ino mode) = codes " queued"
kind (bodies.Demand ino g to) = codes " demand"
kind (bodies.Extents ino rows) = codes " extents"
kind (bodies.Named reply) = codes " named"
kind bodies.Reasserted = codes " reasserted"
kind body = []

-- why a server refuses, by its number
abbrev pub number_of_why : Why → ℕ
number_of_why why.Suspect = 1
number_of_why why.NoSession = 2
number_of_why why.OtherEpoch = 3
number_of_why why.Grace = 4
number_of_why why.GraceOver = 5
number_of_why why.Conflict = 6
number_of_why why.NotHolder = 7
number_of_why why.NoFile = 8
number_of_why why.NoSpace = 9
number_of_why why.TooManyLocks = 10

-- a name that is above none
abbrev pub after : List ℕ → List ℕ
after [] = codes " -"
after (b ∷ bytes) = name (b ∷ bytes)

-- what is asked of names
abbrev pub name_op : NameOp → List ℕ
name_op (ops.Lookup dir n) = field 1 ++ field dir ++ name n
name_op (ops.Create dir n) = field 2 ++ field dir ++ name n
name_op (ops.Mkdir dir n) = field 3 ++ field dir ++ name n
name_op (ops.Remove dir n g) = field 4 ++ field dir ++ name n ++ field g.0
name_op (ops.Rename dir n dir2 n2) = field 5 ++ field dir ++ name n ++ field dir2 ++ name n2
name_op (ops.List dir n) = field 6 ++ field dir ++ after n

-- a file is kind 1 and a directory kind 2
unfoldable pub kind_of_row : Bool → ℕ
kind_of_row directory = if directory then 2 else 1

-- an entry of a listing
abbrev pub name_row : NameRow → List ℕ
name_row r = field r.ino ++ codes ":" ++ decimal (kind_of_row r.directory) ++ codes ":" ++ r.name

-- entries of a listing
abbrev pub name_rows : List NameRow → List ℕ
name_rows rows = field (length rows) ++ flat_map name_row rows

-- what names answer
abbrev pub name_reply : NameReply → List ℕ
name_reply (replies.Ino ino) = field 0 ++ field ino
name_reply (replies.Listed rows) = field 1 ++ name_rows rows
name_reply (replies.Refused code) = field 2 ++ field code

-- a lock that is reasserted
abbrev pub lock_row : ℕ × GrantNo × Mode → List ℕ
lock_row r = field r.0 ++ field r.1.0 ++ field (number_of r.2)

-- a page's place
abbrev pub extent_row : ExtentRow → List ℕ
extent_row r = field r.page.0 ++ field r.at.disk.0 ++ field r.at.block ++ field r.birth

-- the fields of a body
unfoldable pub fields : Body → List ℕ
fields (bodies.Acquire ino mode) = field ino ++ field (number_of mode)
fields (bodies.Released ino g to) = field ino ++ field g.0 ++ field (number_of to)
fields (bodies.Map ino g page) = field ino ++ field g.0 ++ field page.0
fields (bodies.Allocate ino g page count) = field ino ++ field g.0 ++ field page.0 ++ field count
fields (bodies.Cut ino g from) = field ino ++ field g.0 ++ field from.0
fields (bodies.Name op) = name_op op
fields (bodies.Reassert rows) = field (length rows) ++ flat_map lock_row rows
fields (bodies.DemandSeen ino g) = field ino ++ field g.0
fields (bodies.Nack why a b) = field (number_of_why why) ++ field a ++ field b
fields (bodies.Granted ino g mode) = field ino ++ field g.0 ++ field (number_of mode)
fields (bodies.Queued ino mode) = field ino ++ field (number_of mode)
fields (bodies.Demand ino g to) = field ino ++ field g.0 ++ field (number_of to)
fields (bodies.Extents ino rows) = field ino ++ field (length rows) ++ flat_map extent_row rows
fields (bodies.Named reply) = name_reply reply
fields body = []

-- the numbers of a header
abbrev pub header_fields : Message → List ℕ
header_fields m = field m.header.life ++ field m.header.epoch ++ field m.header.number ++ field m.header.stamp

-- a message
abbrev pub message : Message → List ℕ
message m = node (node_at m.header.from) ++ node (node_at m.header.to) ++ kind m.body ++ header_fields m ++ fields m.body

-- Disk commands: the block, and of a write the page and its runs.
abbrev pub block : BlockAt → List ℕ
block at = field at.disk.0 ++ field at.block

-- the page that a block is for
abbrev pub tag : Tag → List ℕ
tag t = field t.file.ino ++ field t.page.0 ++ field t.birth

-- a disk command
unfoldable pub command : Command → List ℕ
command (commands.Read at) = block at ++ codes " r"
command (commands.Write at t bytes) = block at ++ codes " w" ++ tag t ++ runs bytes

-- a page that was lost, and the command that should have written it
abbrev pub lost_row : LostRow → List ℕ
lost_row r = field r.page.0 ++ codes ":" ++ decimal r.command

-- Answers
unfoldable pub answer : AppAnswer → List ℕ
answer answers.Written = codes " written"
answer (answers.Read bytes) = codes " read" ++ runs bytes
answer answers.Hard = codes " hard"
answer answers.Cut = codes " cut"
answer (answers.Named ino) = codes " named" ++ field ino
answer (answers.Listed rows) = codes " listed" ++ name_rows rows
answer (answers.Refused code) = codes " refused" ++ field code
answer answers.Quiesced = codes " quiesced"
answer answers.NoFile = codes " nofile"
answer (answers.NoSpace free asked) = codes " nospace" ++ field free ++ field asked
answer (answers.DiskFault number) = codes " diskfault" ++ field number
answer answers.OpsFull = codes " opsfull"
answer (answers.Uncertain old new) = codes " uncertain" ++ field old ++ field new
answer (answers.Lost rows) = codes " lost" ++ field (length rows) ++ flat_map lost_row rows
answer answers.DirtyFull = codes " dirtyfull"
answer answers.NotHolder = codes " notholder"
answer answers.TooManyLocks = codes " toomanylocks"

-- Why an entry is gone
abbrev pub cause : Cause → List ℕ
cause causes.Crash = codes " crash"
cause (causes.Failed k) = codes " failed" ++ field k

-- Observations
unfoldable pub observation : Observation → List ℕ
observation (seen.Sent k m) = codes " send" ++ field k ++ message m
observation (seen.Submitted k c number what) = codes " submit" ++ field k ++ client c ++ field number ++ command what
observation (seen.Answered c op a) = codes " answer" ++ client c ++ field op ++ answer a
observation (seen.Wrote index c f page bytes) = codes " write" ++ field index ++ client c ++ file f ++ field page.0 ++ runs bytes
observation (seen.Patched index c f page at bytes) = codes " patch" ++ field index ++ client c ++ file f ++ field page.0 ++ field at ++ runs bytes
observation (seen.CutAt index f from) = codes " cut" ++ field index ++ file f ++ field from.0
observation (seen.Hardened index) = codes " hard" ++ field index
observation (seen.Dropped index why) = codes " drop" ++ field index ++ cause why
observation (seen.Leased c s end) = codes " lease" ++ client c ++ server s ++ field end.0
observation (seen.Lost c s life) = codes " lost" ++ client c ++ server s ++ field life.0
observation (seen.Suspected s c start) = codes " suspect" ++ server s ++ client c ++ field start.0
observation (seen.Stolen s c life) = codes " steal" ++ server s ++ client c ++ field life.0

-- an event's number and one of its observations
unfoldable pub line : ℕ → Observation → List ℕ
line event o = decimal event ++ observation o ++ codes "\n"

-- the observations of an event
abbrev pub lines : ℕ → List Observation → List ℕ
lines event os = flat_map (line event) os

-- the observations of events, from this one on
unfoldable pub lines_from : ℕ → List (List Observation) → List ℕ
lines_from event [] = []
lines_from event (os ∷ rest) = lines event os ++ lines_from (event + 1) rest

-- Refusals, with their values
unfoldable pub refusal : WorldRefusal → List ℕ
refusal (refusals.NoNode n) = codes " NoNode" ++ node n
refusal (refusals.NotRunning n) = codes " NotRunning" ++ node n
refusal (refusals.Running n) = codes " Running" ++ node n
refusal (refusals.NoMessage k) = codes " NoMessage" ++ field k
refusal (refusals.LostMessage k) = codes " LostMessage" ++ field k
refusal (refusals.LinkCut from to) = codes " LinkCut" ++ node from ++ node to
refusal (refusals.NoCommand k) = codes " NoCommand" ++ field k
refusal (refusals.DiskState k) = codes " DiskState" ++ field k
refusal (refusals.ClockRate greatest least) = codes " ClockRate" ++ field greatest ++ field least
refusal (refusals.LateDisk clock end) = codes " LateDisk" ++ field clock.0 ++ field end.0
refusal (refusals.FlushMissed c s) = codes " FlushMissed" ++ client c ++ server s
refusal (refusals.NetFull bytes) = codes " NetFull" ++ field bytes
refusal (refusals.ClockDrift m n excess) = codes " ClockDrift" ++ node m ++ node n ++ field excess

-- a line that is refused, by its number, and why
unfoldable pub refused : ℕ → List ℕ → List ℕ
refused number why = codes "line" ++ field number ++ why ++ codes "\n"

-- The last line: what was counted.
abbrev pub sent_text : Summary → List ℕ
sent_text s = codes "end events" ++ field s.events ++ codes " sent" ++ field s.sent ++ codes " commands" ++ field s.commands

-- writes, reads and fates
abbrev pub written_text : Summary → List ℕ
written_text s = codes " writes" ++ field s.writes ++ codes " reads" ++ field s.reads ++ codes " hard" ++ field s.hard

-- the last line
unfoldable pub ended : Summary → List ℕ
ended s = sent_text s ++ written_text s ++ codes " gone" ++ field s.gone ++ codes " stolen" ++ field s.stolen ++ codes "\n"

-- Report: the opening, what was observed at each event, and how the run ended. The head is line 1, so an event's line is its
-- number and 1.
abbrev pub opening : List ℕ
opening = codes "tank report 1\n"

-- a run that was refused, or one that reached its end
unfoldable pub ending : Run → Option WorldRefusal → List ℕ
ending r None = ended (summary r.world)
ending r (Some f) = refused (length r.seen + 2) (refusal f)

-- Report
unfoldable pub report : Run → List ℕ
report r = opening ++ lines_from 1 r.seen ++ ending r r.refused

-- opens all of this file
unfoldable pub report_open : ⊤
unfolding runs kind_of_row fields command answer observation line lines_from refusal refused ended ending report
report_open = tt
