-- The client machine's state: what a client has of each server, and what its applications asked; the outstanding request;
-- and the words by which rules change these.
use Rattle.std.specs.Prelude.{ℕ, ◌+◌, nat_le, Bool, true, false, ◌&&◌, ◌||◌, not, ◌==◌, if◌then◌else◌, List, [], ◌∷◌, ◌++◌, find, filter, map, Option, Some, None, ⊤}
use Rattle.std.specs.List.{list_any}
use Rattle.st_base.specs.declared.ids.ClientId.{ClientId}
use Rattle.st_base.specs.declared.ids.ServerId.{ServerId}
use Rattle.st_base.specs.declared.ids.Life.{Life}
use Rattle.st_base.specs.declared.ids.Epoch.{Epoch}
use Rattle.st_base.specs.declared.ids.GrantNo.{GrantNo}
use Rattle.st_base.specs.declared.ids.PageNo.{PageNo}
use Rattle.st_base.specs.declared.ids.Stamp.{Stamp}
use Rattle.st_base.specs.declared.config.Config.{Config}
use Rattle.st_base.specs.declared.mode.Mode.{Mode}
use Rattle.st_base.specs.Mode.{number_of}
use Rattle.st_base.specs.declared.names.NameAsk.{NameAsk}
use Rattle.st_base.specs.declared.names.NameAsk.TheVariants as names
use Rattle.st_messages.specs.declared.ask.Ask.{Ask}
use Rattle.st_messages.specs.declared.ask.Ask.TheVariants as asks
use Rattle.st_messages.specs.declared.answer.AppAnswer.{AppAnswer}
use Rattle.st_messages.specs.declared.message.Header.{Header}
use Rattle.st_messages.specs.declared.message.Body.{Body}
use Rattle.st_messages.specs.declared.message.Body.TheVariants as bodies
use Rattle.st_messages.specs.declared.message.NameOp.{NameOp}
use Rattle.st_messages.specs.declared.message.NameOp.TheVariants as ops
use Rattle.st_messages.specs.declared.output.Note.{Note}
use Rattle.st_messages.specs.declared.output.Output.{Output}
use Rattle.st_messages.specs.declared.output.Output.TheVariants as outputs
use Rattle.st_rules.specs.declared.client.Request.{Request}
use Rattle.st_rules.specs.declared.client.Release.{Release}
use Rattle.st_rules.specs.declared.client.LockWait.{LockWait}
use Rattle.st_rules.specs.declared.client.LostPage.{LostPage}
use Rattle.st_rules.specs.declared.client.Operation.{Operation}
use Rattle.st_rules.specs.declared.client.Stage.{Stage}
use Rattle.st_rules.specs.declared.client.Stage.TheVariants.{Unsent, Sent, Stuck}
use Rattle.st_rules.specs.Keys.{same_server, same_page, server_node}
use Rattle.st_rules.specs.ClientLease.{ClientLease, standing_of, may_use, client_lease_open}
use Rattle.st_rules.specs.ClientLocks.{LockCache, is_demanded, client_locks_open}
use Rattle.st_rules.specs.ClientPages.{Store, client_pages_open}

-- Requests: the next number, and the request that was sent and not yet answered.
pub record Requests : Type 0 where
  pub next : ℕ
  pub asked : Option Request

-- nothing was asked yet
abbrev pub no_requests : Requests
no_requests = record { next = 1; asked = None }

-- Asking: the request has the next number, and is outstanding.
unfoldable pub asking : Requests → Body → Stamp → Requests
asking r body now = record { next = r.next + 1; asked = Some (record { number = r.next; body = body; sent = now }) }

-- it was last sent this long ago
abbrev pub is_again_due : ℕ → Stamp → Request → Bool
is_again_due retry now q = nat_le (q.sent.0 + retry) now.0

-- Asking again: the outstanding request was sent now.
abbrev pub asked_again : Request → Stamp → Requests → Requests
asked_again q now r = record r { asked = Some (record q { sent = now }) }

-- Ending: nothing is outstanding.
abbrev pub request_ended : Requests → Requests
request_ended r = record r { asked = None }

-- the outstanding request has this number
abbrev pub is_request_of : ℕ → Request → Bool
is_request_of number q = q.number == number

-- A session with a server: its epoch, the lease, the requests, the file that the outstanding request cuts or removes, whether the locks must be reasserted, the
-- locks, the waits that were reported, and the releases to send, in order.
pub record ClientSession : Type 0 where
  pub epoch : Epoch
  pub lease : ClientLease
  pub requests : Requests
  pub cutting : Option ℕ
  pub due : Bool
  pub locks : LockCache
  pub waits : List LockWait
  pub releases : List Release

-- What a client has of a server: its life there, when it greeted, its session, its pages, and the lost pages that no application was told about.
pub record Association : Type 0 where
  pub server : ServerId
  pub life : Life
  pub greeting : Option Stamp
  pub session : Option ClientSession
  pub store : Store
  pub lost : List LostPage

-- The client's state: its number and settings, one association per server in rising order, the pending operations in order,
-- and the number of the next disk command.
pub record ClientState : Type 0 where
  pub id : ClientId
  pub config : Config
  pub associations : List Association
  pub operations : List Operation
  pub next_command : ℕ

-- a step so far: the state, and the outputs in order
pub record ClientTurn : Type 0 where
  pub state : ClientState
  pub out : List Output

-- a step that begins
abbrev pub client_turn : ClientState → List Output → ClientTurn
client_turn s out = record { state = s; out = out }

-- a step so far, at one server
pub record Turn : Type 0 where
  pub id : ClientId
  pub config : Config
  pub here : Association
  pub operations : List Operation
  pub next_command : ℕ
  pub out : List Output

-- At each server in turn: a rule for one association is done at each of them, in rising order.

-- a step at an association
abbrev pub enter : ClientTurn → Association → Turn
enter t a = record { id = t.state.id; config = t.state.config; here = a; operations = t.state.operations; next_command = t.state.next_command; out = t.out }

-- an association that a rule left goes last
abbrev pub leave : ClientTurn → Turn → ClientTurn
leave t r =
    record {
      state = record t.state { associations = t.state.associations ++ r.here ∷ []; operations = r.operations; next_command = r.next_command };
      out = r.out;
    }

-- the rule at these associations, in order
unfoldable pub at_these : (Turn → Turn) → List Association → ClientTurn → ClientTurn
at_these rule [] t = t
at_these rule (a ∷ rest) t = at_these rule rest (leave t (rule (enter t a)))

-- no association so far
abbrev pub with_associations : List Association → ClientTurn → ClientTurn
with_associations list t = record t { state = record t.state { associations = list } }

-- At each server in turn
unfoldable pub at_each : (Turn → Turn) → ClientTurn → ClientTurn
at_each rule t = at_these rule t.state.associations (with_associations [] t)

-- this server's association
abbrev pub is_at : ServerId → Association → Bool
is_at s a = same_server a.server s

-- Only at one server
unfoldable pub only_at : ServerId → (Turn → Turn) → Turn → Turn
only_at s rule t = if is_at s t.here then rule t else t

-- Changes of one part.

-- with this association
abbrev pub with_here : Association → Turn → Turn
with_here a t = record t { here = a }

-- with this session
abbrev pub with_session : ClientSession → Turn → Turn
with_session s t = record t { here = record t.here { session = Some s } }

-- with these pages and commands
abbrev pub with_store : Store → Turn → Turn
with_store st t = record t { here = record t.here { store = st } }

-- with these lost pages
abbrev pub with_lost_rows : List LostPage → Turn → Turn
with_lost_rows lost t = record t { here = record t.here { lost = lost } }

-- with these pending operations
abbrev pub with_operations : List Operation → Turn → Turn
with_operations os t = record t { operations = os }

-- with this lease
abbrev pub with_lease : ClientLease → ClientSession → ClientSession
with_lease l s = record s { lease = l }

-- with these locks
abbrev pub with_cache : LockCache → ClientSession → ClientSession
with_cache c s = record s { locks = c }

-- with one more release to send
abbrev pub with_release : ℕ → GrantNo → Mode → ClientSession → ClientSession
with_release ino g to s = record s { releases = s.releases ++ record { ino = ino; g = g; to = to } ∷ [] }

-- the outstanding request is ended
abbrev pub without_request : ClientSession → ClientSession
without_request s = record s { requests = request_ended s.requests; cutting = None }

-- Outputs.

-- one more output
abbrev pub say : Turn → Output → Turn
say t o = record t { out = t.out ++ o ∷ [] }

-- one more note
abbrev pub note : Turn → Note → Turn
note t n = say t (outputs.Note n)

-- one more answer
abbrev pub answered : Turn → ℕ → AppAnswer → Turn
answered t op answer = say t (outputs.Answer op answer)

-- what precedes a message to the server
abbrev pub header_of : Turn → ℕ → ℕ → ℕ → Header
header_of t epoch number stamp = record { from = t.id.0; to = server_node t.here.server; life = t.here.life.0; epoch = epoch; number = number; stamp = stamp }

-- one more message
unfoldable pub send : Turn → ℕ → ℕ → ℕ → Body → Turn
send t epoch number stamp body = say t (outputs.Send (record { header = header_of t epoch number stamp; body = body }))

-- Operations: their servers and files.

-- the server that is asked
abbrev pub server_of : Ask → ServerId
server_of (asks.Write f p bytes) = f.server
server_of (asks.Read f p) = f.server
server_of (asks.Sync f) = f.server
server_of (asks.Cut f p) = f.server
server_of (asks.Name s ask) = s
server_of (asks.Patch f p at bytes) = f.server

-- an inode that is meant; a directory is meant by none
unfoldable pub meant : ℕ → Option ℕ
meant ino = if ino == 0 then None else Some ino

-- the file of an ask for a name: a remove has the one that the asker means
abbrev pub file_of_name : NameAsk → Option ℕ
file_of_name (names.Remove dir name ino) = meant ino
file_of_name ask = None

-- the file of an ask
abbrev pub file_of : Ask → Option ℕ
file_of (asks.Write f p bytes) = Some f.ino
file_of (asks.Read f p) = Some f.ino
file_of (asks.Sync f) = Some f.ino
file_of (asks.Cut f p) = Some f.ino
file_of (asks.Name s ask) = file_of_name ask
file_of (asks.Patch f p at bytes) = Some f.ino

-- it is this file
abbrev pub is_file : ℕ → Option ℕ → Bool
is_file ino None = false
is_file ino (Some i) = i == ino

-- an operation of this server
abbrev pub is_of : ServerId → Operation → Bool
is_of s o = same_server (server_of o.ask) s

-- an operation on a file of this server
abbrev pub is_on : ServerId → ℕ → Operation → Bool
is_on s ino o = is_of s o && is_file ino (file_of o.ask)

-- a sync
abbrev pub is_sync : Ask → Bool
is_sync (asks.Sync f) = true
is_sync ask = false

-- a cut, or an ask for a name
abbrev pub is_cut_or_name : Ask → Bool
is_cut_or_name (asks.Cut f p) = true
is_cut_or_name (asks.Name s ask) = true
is_cut_or_name ask = false

-- a write or a patch of a page of a file of this server
abbrev pub changes_page : ServerId → ℕ → PageNo → Ask → Bool
changes_page s ino p (asks.Write f q bytes) = same_server f.server s && ((f.ino == ino) && same_page q p)
changes_page s ino p (asks.Patch f q at bytes) = same_server f.server s && ((f.ino == ino) && same_page q p)
changes_page s ino p ask = false

-- a read or a patch of a page of a file of this server
abbrev pub reads_page : ServerId → ℕ → PageNo → Ask → Bool
reads_page s ino p (asks.Read f q) = same_server f.server s && ((f.ino == ino) && same_page q p)
reads_page s ino p (asks.Patch f q at bytes) = same_server f.server s && ((f.ino == ino) && same_page q p)
reads_page s ino p ask = false

-- its request was sent
abbrev pub is_sent_at : Stage → Bool
is_sent_at Unsent = false
is_sent_at Sent = true
is_sent_at Stuck = true

-- its request was sent
abbrev pub is_sent : Operation → Bool
is_sent o = is_sent_at o.stage

-- its request is the outstanding one
abbrev pub is_asked_at : Stage → Bool
is_asked_at Sent = true
is_asked_at stage = false

-- the operation of the server's outstanding request
abbrev pub is_asked : ServerId → Operation → Bool
is_asked s o = is_of s o && is_asked_at o.stage

-- an operation at a stage
abbrev pub at_stage : Stage → Operation → Operation
at_stage stage o = record o { stage = stage }

-- an operation that just came
abbrev pub new_operation : ℕ → Ask → Operation
new_operation op ask = record { op = op; ask = ask; stage = Unsent }

-- Answering: the pending operations that a test picks are answered, in order, and are no longer pending.
abbrev pub answer_to : AppAnswer → Operation → Output
answer_to answer o = outputs.Answer o.op answer

-- Answering
unfoldable pub answer_each : (Operation → Bool) → AppAnswer → Turn → Turn
answer_each picked answer t =
    record t { operations = filter (λ o. not (picked o)) t.operations; out = t.out ++ map (answer_to answer) (filter picked t.operations) }

-- an operation stays pending, after those so far
abbrev pub keep : Operation → Turn → Turn
keep o t = record t { operations = t.operations ++ o ∷ [] }

-- Busy: a cut or a remove of the file was sent and not answered.
abbrev pub is_sent_on : ServerId → ℕ → Operation → Bool
is_sent_on s ino o = is_sent o && is_on s ino o

-- Busy, by the outstanding request and the pending operations
abbrev pub is_busy : List Operation → ServerId → ClientSession → ℕ → Bool
is_busy os server s ino = is_file ino s.cutting || list_any (is_sent_on server ino) os

-- Open: the file is neither demanded nor busy.
abbrev pub is_open : List Operation → ServerId → ClientSession → ℕ → Bool
is_open os server s ino = not (is_demanded s.locks ino) && not (is_busy os server s ino)

-- a file that is open, or none
abbrev pub is_open_file : List Operation → ServerId → ClientSession → Option ℕ → Bool
is_open_file os server s None = true
is_open_file os server s (Some ino) = is_open os server s ino

-- Serving: the session's lease is valid or in renewal.
abbrev pub is_serving : Config → ClientSession → Stamp → Bool
is_serving k s now = may_use (standing_of k s.lease now)

-- Waits that were reported.
abbrev pub is_wait_on : ℕ → LockWait → Bool
is_wait_on ino w = w.ino == ino

-- the wait for a file, if one was told
abbrev pub wait_of : List LockWait → ℕ → Option LockWait
wait_of waits ino = find (is_wait_on ino) waits

-- the waits except for the file's
abbrev pub without_wait : ℕ → List LockWait → List LockWait
without_wait ino waits = filter (λ w. not (is_wait_on ino w)) waits

-- the wait for a file is this one
abbrev pub with_wait : LockWait → List LockWait → List LockWait
with_wait w waits = without_wait w.ino waits ++ w ∷ []

-- the wait for a file is forgotten
abbrev pub forget_wait : ℕ → ClientSession → ClientSession
forget_wait ino s = record s { waits = without_wait ino s.waits }

-- a release that must be sent
abbrev pub is_release : ℕ → GrantNo → Mode → Release → Bool
is_release ino g to r = (r.ino == ino) && ((r.g.0 == g.0) && (number_of r.to == number_of to))

-- Requests: what is asked.

-- a request to release
abbrev pub releases_as : ℕ → GrantNo → Mode → Body → Bool
releases_as ino g to (bodies.Released i h m) = (i == ino) && ((h.0 == g.0) && (number_of m == number_of to))
releases_as ino g to body = false

-- the outstanding request is this release
abbrev pub is_releasing : ℕ → GrantNo → Mode → Option Request → Bool
is_releasing ino g to None = false
is_releasing ino g to (Some q) = releases_as ino g to q.body

-- a keep-alive, a release or a cut
abbrev pub is_acknowledged : Body → Bool
is_acknowledged bodies.KeepAlive = true
is_acknowledged (bodies.Released ino g to) = true
is_acknowledged (bodies.Cut ino g from) = true
is_acknowledged body = false

-- a request for a lock of the file
abbrev pub acquires : ℕ → Body → Bool
acquires ino (bodies.Acquire i mode) = i == ino
acquires ino body = false

-- a request for extents of the file
abbrev pub maps : ℕ → Body → Bool
maps ino (bodies.Map i g p) = i == ino
maps ino (bodies.Allocate i g p count) = i == ino
maps ino body = false

-- a request for a name
abbrev pub asks_name : Body → Bool
asks_name (bodies.Name op) = true
asks_name body = false

-- a reassertion
abbrev pub reasserts : Body → Bool
reasserts (bodies.Reassert rows) = true
reasserts body = false

-- a cut, or a request for a name
abbrev pub asks_cut_or_name : Body → Bool
asks_cut_or_name (bodies.Cut ino g from) = true
asks_cut_or_name (bodies.Name op) = true
asks_cut_or_name body = false

-- a request to remove
abbrev pub removes : NameOp → Bool
removes (ops.Remove dir name g) = true
removes op = false

-- a cut, or a request to remove
abbrev pub asks_cut_or_remove : Body → Bool
asks_cut_or_remove (bodies.Cut ino g from) = true
asks_cut_or_remove (bodies.Name op) = removes op
asks_cut_or_remove body = false

-- a refusal
abbrev pub is_refusal : Body → Bool
is_refusal (bodies.Nack why a b) = true
is_refusal body = false

-- Fitting: which replies are replies to a request. By the reply first: a refusal fits every request; an acknowledgement a
-- keep-alive, a release and a cut; a grant and a wait a request for a lock of the same file; extents a map or an allocation
-- of the same file; a name's reply a request for a name; and an accepted reassertion a reassertion.
abbrev pub fits : Body → Body → Bool
fits (bodies.Nack why a b) asked = true
fits bodies.Ack asked = is_acknowledged asked
fits (bodies.Granted ino g mode) asked = acquires ino asked
fits (bodies.Queued ino mode) asked = acquires ino asked
fits (bodies.Extents ino rows) asked = maps ino asked
fits (bodies.Named reply) asked = asks_name asked
fits bodies.Reasserted asked = reasserts asked
fits reply asked = false

-- The file of a request: its inode, or the one that is removed.
abbrev pub file_asked : Option ℕ → Body → Option ℕ
file_asked cutting (bodies.Acquire ino mode) = Some ino
file_asked cutting (bodies.Released ino g to) = Some ino
file_asked cutting (bodies.Map ino g p) = Some ino
file_asked cutting (bodies.Allocate ino g p count) = Some ino
file_asked cutting (bodies.Cut ino g from) = Some ino
file_asked cutting (bodies.Name op) = cutting
file_asked cutting body = None

-- The page of a request: of a map or an allocation.
abbrev pub page_asked : Body → Option PageNo
page_asked (bodies.Map ino g p) = Some p
page_asked (bodies.Allocate ino g p count) = Some p
page_asked body = None

-- opens all of this file and of the parts
unfoldable pub client_state_open : ⊤
unfolding client_lease_open client_locks_open client_pages_open asking at_these at_each only_at send meant answer_each
client_state_open = tt
