-- The server machine: from its state, a moment and an input, the state that it leaves and its outputs in order.
use Rattle.std.specs.Prelude.{ℕ, ◌+◌, Bool, not, true, false, ◌&&◌, ◌==◌, nat_le, if◌then◌else◌, List, [], ◌∷◌, ◌++◌, Option, Some, None, Result, Ok, Err, ⊤}
use Rattle.st_base.specs.declared.ids.ClientId.{ClientId}
use Rattle.st_base.specs.declared.ids.ServerId.{ServerId}
use Rattle.st_base.specs.declared.ids.Life.{Life}
use Rattle.st_base.specs.declared.ids.Epoch.{Epoch}
use Rattle.st_base.specs.declared.ids.GrantNo.{GrantNo}
use Rattle.st_base.specs.declared.ids.FileId.{FileId}
use Rattle.st_base.specs.declared.ids.PageNo.{PageNo}
use Rattle.st_base.specs.declared.ids.Stamp.{Stamp}
use Rattle.st_base.specs.declared.config.Config.{Config}
use Rattle.st_base.specs.declared.mode.Mode.{Mode}
use Rattle.st_base.specs.declared.mode.Mode.TheVariants as modes
use Rattle.st_base.specs.Mode.{covers}
use Rattle.st_base.specs.declared.names.NameRow.{NameRow}
use Rattle.st_messages.specs.declared.message.Header.{Header}
use Rattle.st_messages.specs.declared.message.Body.{Body}
use Rattle.st_messages.specs.declared.message.Body.TheVariants as bodies
use Rattle.st_messages.specs.declared.message.Why.TheVariants as why
use Rattle.st_messages.specs.declared.message.NameOp.{NameOp}
use Rattle.st_messages.specs.declared.message.NameOp.TheVariants.{Lookup, Create, Mkdir, Remove, Rename, List as ListFrom}
use Rattle.st_messages.specs.declared.message.NameReply.TheVariants.{Ino, Listed, Refused}
use Rattle.st_messages.specs.declared.output.Note.{Note}
use Rattle.st_messages.specs.declared.output.Note.TheVariants as notes
use Rattle.st_messages.specs.declared.output.Output.{Output}
use Rattle.st_messages.specs.declared.output.Output.TheVariants as outputs
use Rattle.st_rules.specs.declared.input.ServerInput.{ServerInput}
use Rattle.st_rules.specs.declared.input.ServerInput.TheVariants.{Tick, Control}
use Rattle.st_rules.specs.declared.locks.LockRow.{LockRow}
use Rattle.st_rules.specs.declared.locks.Verdict.{Verdict}
use Rattle.st_rules.specs.declared.locks.Verdict.TheVariants as verdicts
use Rattle.st_rules.specs.declared.locks.AcquireRefusal.{AcquireRefusal}
use Rattle.st_rules.specs.declared.sessions.Session.{Session}
use Rattle.st_rules.specs.declared.sessions.Hello.{Hello}
use Rattle.st_rules.specs.declared.sessions.Hello.TheVariants as hellos
use Rattle.st_rules.specs.declared.sessions.Taken.{Taken}
use Rattle.st_rules.specs.declared.sessions.Taken.TheVariants as takes
use Rattle.st_rules.specs.declared.authority.AcceptRefusal.{AcceptRefusal}
use Rattle.st_rules.specs.declared.authority.AcceptRefusal.TheVariants as refusals
use Rattle.st_rules.specs.declared.extents.AllocateRefusal.{AllocateRefusal}
use Rattle.st_rules.specs.declared.extents.AllocateRefusal.TheVariants as wants
use Rattle.st_rules.specs.declared.names.EntryRefusal.{EntryRefusal}
use Rattle.st_rules.specs.declared.names.EntryRefusal.TheVariants.{IsDir}
use Rattle.st_rules.specs.declared.node.StepRefusal.{StepRefusal}
use Rattle.st_rules.specs.declared.node.StepRefusal.TheVariants.{Crashed}
use Rattle.st_rules.specs.Keys.{client, page_no, server_node}
use Rattle.st_rules.specs.Leases as leases
use Rattle.st_rules.specs.Locks as locks
use Rattle.st_rules.specs.Locks.{Locks}
use Rattle.st_rules.specs.Sessions as sessions
use Rattle.st_rules.specs.Sessions.{Sessions}
use Rattle.st_rules.specs.Authority as authority
use Rattle.st_rules.specs.Authority.{Authority}
use Rattle.st_rules.specs.Grace as grace
use Rattle.st_rules.specs.Grace.{Grace}
use Rattle.st_rules.specs.Names as names
use Rattle.st_rules.specs.Names.{Names}
use Rattle.st_rules.specs.Extents as extents
use Rattle.st_rules.specs.Extents.{Extents}

-- The server's state: its number and settings; the stable part, which a crash keeps; and the parts that a crash empties.
pub record Stable : Type 0 where
  pub epoch : Epoch
  pub names : Names
  pub extents : Extents

-- all that a running server has
pub record ServerState : Type 0 where
  pub id : ServerId
  pub config : Config
  pub stable : Stable
  pub grace : Option Grace
  pub sessions : Sessions
  pub locks : Locks
  pub authority : Authority

-- a step so far: the state, and the outputs in order
pub record ServerTurn : Type 0 where
  pub state : ServerState
  pub out : List Output

-- a step that begins
abbrev pub turn : ServerState → List Output → ServerTurn
turn s out = record { state = s; out = out }

-- a request's rule: the step so far, and the reply, if there is one
pub record Replied : Type 0 where
  pub turn : ServerTurn
  pub reply : Option Body

-- a rule with this reply
abbrev pub replied : ServerTurn → Body → Replied
replied t body = record { turn = t; reply = Some body }

-- a rule without a reply
abbrev pub silent : ServerTurn → Replied
silent t = record { turn = t; reply = None }

-- Changes of one part.

-- with these sessions
abbrev pub with_sessions : Sessions → ServerTurn → ServerTurn
with_sessions v t = record t { state = record t.state { sessions = v } }

-- with these locks
abbrev pub with_locks : Locks → ServerTurn → ServerTurn
with_locks v t = record t { state = record t.state { locks = v } }

-- with these timers
abbrev pub with_authority : Authority → ServerTurn → ServerTurn
with_authority v t = record t { state = record t.state { authority = v } }

-- with these names
abbrev pub with_names : Names → ServerTurn → ServerTurn
with_names v t = record t { state = record t.state { stable = record t.state.stable { names = v } } }

-- with these extents
abbrev pub with_extents : Extents → ServerTurn → ServerTurn
with_extents v t = record t { state = record t.state { stable = record t.state.stable { extents = v } } }

-- Outputs.

-- one more output
abbrev pub say : ServerTurn → Output → ServerTurn
say t o = record t { out = t.out ++ o ∷ [] }

-- one more note
abbrev pub note : ServerTurn → Note → ServerTurn
note t n = say t (outputs.Note n)

-- one more message
abbrev pub send : ServerTurn → Header → Body → ServerTurn
send t header body = say t (outputs.Send (record { header = header; body = body }))

-- Reply: it has the request's life, number and stamp, and the server's epoch.
abbrev pub reply_header : ServerState → Header → Header
reply_header s h = record { from = server_node s.id; to = h.from; life = h.life; epoch = s.stable.epoch.0; number = h.number; stamp = h.stamp }

-- a reply to a request
unfoldable pub reply : ServerTurn → Header → Body → ServerTurn
reply t h body = send t (reply_header t.state h) body

-- A message that the server starts has the life of the row or the waiter, number 0 and stamp 0.
abbrev pub own_header : ServerState → ClientId → Life → Header
own_header s c life = record { from = server_node s.id; to = c.0; life = life.0; epoch = s.stable.epoch.0; number = 0; stamp = 0 }

-- a message that nobody asked for
unfoldable pub tell : ServerTurn → ClientId → Life → Body → ServerTurn
tell t c life body = send t (own_header t.state c life) body

-- Look-ups.

-- the client that sent it
abbrev pub sender : Header → ClientId
sender h = client h.from

-- its life
abbrev pub life_in : Header → Life
life_in h = record { 0 = h.life }

-- its epoch
abbrev pub epoch_in : Header → Epoch
epoch_in h = record { 0 = h.epoch }

-- grace is on
abbrev pub in_grace : ServerTurn → Stamp → Bool
in_grace t now = grace.is_on t.state.grace now

-- the inode is a file
abbrev pub is_file : ServerTurn → ℕ → Bool
is_file t ino = names.is_file t.state.stable.names ino

-- the file of an inode
abbrev pub file : ServerTurn → ℕ → FileId
file t ino = record { server = t.state.id; ino = ino }

-- Theft: at the end of its timer each suspect, in rising order, loses its rows and waits, and its session is ended.
unfoldable pub steal_from : ServerTurn → ClientId → Session → ServerTurn
steal_from t c s = with_sessions (sessions.end t.state.sessions c) (with_locks (locks.forget t.state.locks c) (note t (notes.Stolen c s.life)))

-- stolen from a client that has a session
unfoldable pub steal_at : ServerTurn → ClientId → Option Session → ServerTurn
steal_at t c None = t
steal_at t c (Some s) = steal_from t c s

-- stolen from a client
unfoldable pub steal : ServerTurn → ClientId → ServerTurn
steal t c = steal_at t c (sessions.session_of t.state.sessions c)

-- stolen from these clients, in order
unfoldable pub steal_each : List ClientId → ServerTurn → ServerTurn
steal_each [] t = t
steal_each (c ∷ cs) t = steal_each cs (steal t c)

-- all thefts of this moment
unfoldable pub thefts : ServerTurn → Stamp → ServerTurn
thefts t now = steal_each (authority.over t.state.authority now) (with_authority (authority.still_running t.state.authority now) t)

-- Suspicion: the client's timer starts now, with a note, and its waits are dropped.
unfoldable pub suspect_client : ServerTurn → Stamp → ClientId → ServerTurn
suspect_client t now c =
    with_locks (locks.drop_waits t.state.locks c) (with_authority (authority.suspect t.state.authority c now) (note t (notes.Suspected c now)))

-- Refusing a suspect: only a seen demand is ignored without a refusal.
unfoldable pub refuse_suspect : ServerTurn → Header → Stamp → Body → ServerTurn
refuse_suspect t h start (bodies.DemandSeen ino g) = t
refuse_suspect t h start body = reply t h (bodies.Nack why.Suspect start.0 0)

-- Greeting: by what becomes of it among the sessions; in grace it is refused.
unfoldable pub greet_as : ServerTurn → Stamp → Header → Hello → ServerTurn
greet_as t now h hellos.Welcome = reply t h bodies.Welcome
greet_as t now h hellos.Replaced = reply (with_locks (locks.drop_waits t.state.locks (sender h)) t) h bodies.Welcome
greet_as t now h hellos.Old = t
greet_as t now h hellos.Wait = reply (suspect_client t now (sender h)) h (bodies.Nack why.Suspect now.0 0)

-- greeted, with these sessions
unfoldable pub greet_by : ServerTurn → Stamp → Header → sessions.Greeted → ServerTurn
greet_by t now h g = greet_as (with_sessions g.sessions t) now h g.hello

-- a greeting outside grace
unfoldable pub greet : ServerTurn → Stamp → Header → ServerTurn
greet t now h = greet_by t now h (sessions.hello t.state.sessions (sender h) (life_in h) (locks.has_rows t.state.locks (sender h)))

-- a greeting in grace
unfoldable pub refuse_in_grace : ServerTurn → Header → ServerTurn
refuse_in_grace t h = reply t h (bodies.Nack why.Grace (grace.grace_start t.state.grace).0 0)

-- Greeting
unfoldable pub hello : ServerTurn → Stamp → Header → ServerTurn
hello t now h = if in_grace t now then refuse_in_grace t h else greet t now h

-- Seen demand: in this epoch and in the living session's life, the demand on that row waits for no answer.
abbrev pub serves_life : Life → Session → Bool
serves_life life s = sessions.is_live s && (s.life.0 == life.0)

-- there is a living session of this life
abbrev pub serves_at : Life → Option Session → Bool
serves_at life None = false
serves_at life (Some s) = serves_life life s

-- of this epoch and of the living life
abbrev pub is_served : ServerTurn → Header → Bool
is_served t h = (h.epoch == t.state.stable.epoch.0) && serves_at (life_in h) (sessions.session_of t.state.sessions (sender h))

-- the demand is answered
unfoldable pub observe_demand : ServerTurn → Header → ℕ → GrantNo → ServerTurn
observe_demand t h ino g = with_locks (locks.demand_seen t.state.locks (sender h) ino g) t

-- Seen demand
unfoldable pub demand_seen : ServerTurn → Header → ℕ → GrantNo → ServerTurn
demand_seen t h ino g = if is_served t h then observe_demand t h ino g else t

-- Refusing another epoch: the asked one and the present one.
unfoldable pub refuse_epoch : ServerTurn → Header → ServerTurn
refuse_epoch t h = reply t h (bodies.Nack why.OtherEpoch h.epoch t.state.stable.epoch.0)

-- Reassertion: if the life is new to the sessions it is accepted, or refused by the first refusal. A refusal is not kept.
abbrev pub refused_reassertion : AcceptRefusal → Body
refused_reassertion (refusals.GraceOver start now) = bodies.Nack why.GraceOver start.0 now.0
refused_reassertion (refusals.Conflict ino holder) = bodies.Nack why.Conflict ino holder.0
refused_reassertion (refusals.NotHolder ino g) = bodies.Nack why.NotHolder ino g.0

-- accepted or refused
unfoldable pub reassert_by : ServerTurn → Header → Result grace.Accepted AcceptRefusal → ServerTurn
reassert_by t h (Ok a) = reply (with_sessions a.sessions (with_locks a.locks t)) h bodies.Reasserted
reassert_by t h (Err r) = reply t h (refused_reassertion r)

-- a reassertion of a life that is new
unfoldable pub reassert_new : ServerTurn → Stamp → Header → List (ℕ × GrantNo × Mode) → ServerTurn
reassert_new t now h rows = reassert_by t h (grace.accept t.state.grace now (sender h) (life_in h) rows t.state.locks t.state.sessions)

-- and if it is not: the kept reply if the number is the last one, and otherwise nothing.
unfoldable pub reassert_again : ServerTurn → Header → Taken Body → ServerTurn
reassert_again t h (takes.Again body) = reply t h body
reassert_again t h taken = t

-- what becomes of the request by life and number
abbrev pub take : ServerTurn → Header → Taken Body
take t h = sessions.take t.state.sessions (sender h) (life_in h) (epoch_in h) h.number

-- Reassertion
unfoldable pub reassert : ServerTurn → Stamp → Header → List (ℕ × GrantNo × Mode) → ServerTurn
reassert t now h rows = if sessions.knows t.state.sessions (sender h) (life_in h) then reassert_again t h (take t h) else reassert_new t now h rows

-- Keep-alive: acknowledged.
unfoldable pub keep_alive : ServerTurn → Replied
keep_alive t = replied t bodies.Ack

-- Acquire: no file is refused; otherwise as the lock table says.
abbrev pub verdict_body : ℕ → Mode → Verdict → Body
verdict_body ino mode (verdicts.Granted g held) = bodies.Granted ino g held
verdict_body ino mode (verdicts.Queued clients) = bodies.Queued ino mode

-- granted, queued, or too many locks
unfoldable pub acquire_by : ServerTurn → ℕ → Mode → Result locks.Acquired AcquireRefusal → Replied
acquire_by t ino mode (Ok a) = replied (with_locks a.locks t) (verdict_body ino mode a.verdict)
acquire_by t ino mode (Err r) = replied t (bodies.Nack why.TooManyLocks t.state.locks.limit 0)

-- new locks may be granted
abbrev pub grants_now : ServerTurn → Stamp → Bool
grants_now t now = not (in_grace t now)

-- a lock on a file is asked for
unfoldable pub acquire_lock : ServerTurn → Stamp → Header → ℕ → Mode → Replied
acquire_lock t now h ino mode = acquire_by t ino mode (locks.acquire t.state.locks (sender h) (life_in h) ino mode (grants_now t now))

-- no file has this inode
unfoldable pub no_file : ServerTurn → ℕ → Replied
no_file t ino = replied t (bodies.Nack why.NoFile ino 0)

-- Acquire
unfoldable pub acquire : ServerTurn → Stamp → Header → ℕ → Mode → Replied
acquire t now h ino mode = if is_file t ino then acquire_lock t now h ino mode else no_file t ino

-- Release: as the lock table says, and acknowledged in any case.
unfoldable pub released_by : ServerTurn → locks.Released → Replied
released_by t r = replied (with_locks r.locks t) bodies.Ack

-- Release
unfoldable pub released : ServerTurn → Header → ℕ → GrantNo → Mode → Replied
released t h ino g to = released_by t (locks.released t.state.locks (sender h) (life_in h) ino g to)

-- Holding a file: the client has a row of the file with that grant number and at least that mode.
abbrev pub is_held : GrantNo → Mode → Option LockRow → Bool
is_held g mode None = false
is_held g mode (Some r) = (r.g.0 == g.0) && covers r.mode mode

-- the client holds the file under this grant number, in this mode at least
abbrev pub holds : ServerTurn → Header → ℕ → GrantNo → Mode → Bool
holds t h ino g mode = is_held g mode (locks.row_of t.state.locks (sender h) ino)

-- the client does not hold the file so
unfoldable pub not_holder : ServerTurn → ℕ → GrantNo → Replied
not_holder t ino g = replied t (bodies.Nack why.NotHolder ino g.0)

-- Map: no file, and no lock, are refused; otherwise the page's extent, or none.
abbrev pub extents_body : ServerTurn → ℕ → PageNo → ℕ → Body
extents_body t ino page count = bodies.Extents ino (extents.extent_rows t.state.stable.extents (file t ino) page count)

-- the extent of one page is sent
unfoldable pub map_page : ServerTurn → ℕ → PageNo → Replied
map_page t ino page = replied t (extents_body t ino page 1)

-- if the client holds the file
unfoldable pub map_held : ServerTurn → Header → ℕ → GrantNo → PageNo → Replied
map_held t h ino g page = if holds t h ino g modes.S then map_page t ino page else not_holder t ino g

-- Map
unfoldable pub map : ServerTurn → Header → ℕ → GrantNo → PageNo → Replied
map t h ino g page = if is_file t ino then map_held t h ino g page else no_file t ino

-- Allocate: no file, no exclusive lock, and too few free blocks are refused; otherwise the extents of all pages of the range.
abbrev pub refused_allocation : AllocateRefusal → Body
refused_allocation (wants.NoSpace free asked) = bodies.Nack why.NoSpace free asked

-- the extents of the range are sent
unfoldable pub with_extents_told : ServerTurn → ℕ → PageNo → ℕ → Replied
with_extents_told t ino page count = replied t (extents_body t ino page count)

-- allocated, or refused
unfoldable pub allocate_by : ServerTurn → ℕ → PageNo → ℕ → Result Extents AllocateRefusal → Replied
allocate_by t ino page count (Ok x) = with_extents_told (with_extents x t) ino page count
allocate_by t ino page count (Err r) = replied t (refused_allocation r)

-- the range is allocated
unfoldable pub allocate_pages : ServerTurn → ℕ → PageNo → ℕ → Replied
allocate_pages t ino page count = allocate_by t ino page count (extents.allocate t.state.stable.extents (file t ino) page count)

-- if the client holds the file exclusively
unfoldable pub allocate_held : ServerTurn → Header → ℕ → GrantNo → PageNo → ℕ → Replied
allocate_held t h ino g page count = if holds t h ino g modes.X then allocate_pages t ino page count else not_holder t ino g

-- Allocate
unfoldable pub allocate : ServerTurn → Header → ℕ → GrantNo → PageNo → ℕ → Replied
allocate t h ino g page count = if is_file t ino then allocate_held t h ino g page count else no_file t ino

-- Cut: no file, and no exclusive lock, are refused; otherwise the extents from that page on are released, with a note.
unfoldable pub cut_pages : ServerTurn → ℕ → PageNo → ServerTurn
cut_pages t ino from = note (with_extents (extents.release_from t.state.stable.extents (file t ino) from) t) (notes.CutDone (file t ino) from)

-- cut and acknowledged
unfoldable pub cut_from : ServerTurn → ℕ → PageNo → Replied
cut_from t ino from = replied (cut_pages t ino from) bodies.Ack

-- if the client holds the file exclusively
unfoldable pub cut_held : ServerTurn → Header → ℕ → GrantNo → PageNo → Replied
cut_held t h ino g from = if holds t h ino g modes.X then cut_from t ino from else not_holder t ino g

-- Cut
unfoldable pub cut : ServerTurn → Header → ℕ → GrantNo → PageNo → Replied
cut t h ino g from = if is_file t ino then cut_held t h ino g from else no_file t ino

-- Names: what they answer, except for remove.
unfoldable pub name_refused : ServerTurn → EntryRefusal → Replied
name_refused t r = replied t (bodies.Named (Refused (names.code_of r)))

-- the inode is sent
unfoldable pub name_found : ServerTurn → Result ℕ EntryRefusal → Replied
name_found t (Ok ino) = replied t (bodies.Named (Ino ino))
name_found t (Err r) = name_refused t r

-- the names change, and the inode is sent
unfoldable pub name_changed : ServerTurn → Result names.Changed EntryRefusal → Replied
name_changed t (Ok d) = replied (with_names d.names t) (bodies.Named (Ino d.ino))
name_changed t (Err r) = name_refused t r

-- the entries are sent
unfoldable pub names_listed : ServerTurn → Result (List NameRow) EntryRefusal → Replied
names_listed t (Ok rows) = replied t (bodies.Named (Listed rows))
names_listed t (Err r) = name_refused t r

-- Remove: the refusals of a look-up; a directory wants grant number 0 and must be empty; a file wants the client's
-- exclusive lock, and with it go its extents and its waits, with a note. Its row stays until it is released.
unfoldable pub remove_dir : ServerTurn → ℕ → List ℕ → GrantNo → Replied
remove_dir t dir name g = if g.0 == 0 then name_changed t (names.remove t.state.stable.names dir name) else name_refused t IsDir

-- a file that is gone: no waits, and no extents
unfoldable pub cut_whole : ServerTurn → ℕ → ServerTurn
cut_whole t ino = cut_pages (with_locks (locks.drop_file_waits t.state.locks ino) t) ino (page_no 0)

-- removed, with its extents and waits
unfoldable pub remove_by : ServerTurn → Result names.Changed EntryRefusal → Replied
remove_by t (Ok d) = replied (cut_whole (with_names d.names t) d.ino) (bodies.Named (Ino d.ino))
remove_by t (Err r) = name_refused t r

-- a file is removed by its exclusive holder
unfoldable pub remove_file : ServerTurn → Header → ℕ → List ℕ → GrantNo → ℕ → Replied
remove_file t h dir name g ino = if holds t h ino g modes.X then remove_by t (names.remove t.state.stable.names dir name) else not_holder t ino g

-- a file, or a directory
unfoldable pub remove_ino : ServerTurn → Header → ℕ → List ℕ → GrantNo → ℕ → Replied
remove_ino t h dir name g ino = if is_file t ino then remove_file t h dir name g ino else remove_dir t dir name g

-- if there is an entry
unfoldable pub remove_found : ServerTurn → Header → ℕ → List ℕ → GrantNo → Result ℕ EntryRefusal → Replied
remove_found t h dir name g (Ok ino) = remove_ino t h dir name g ino
remove_found t h dir name g (Err r) = name_refused t r

-- Remove
unfoldable pub remove : ServerTurn → Header → ℕ → List ℕ → GrantNo → Replied
remove t h dir name g = remove_found t h dir name g (names.lookup t.state.stable.names dir name)

-- Names, by what is asked
unfoldable pub name : ServerTurn → Header → NameOp → Replied
name t h (Lookup dir n) = name_found t (names.lookup t.state.stable.names dir n)
name t h (Create dir n) = name_changed t (names.create t.state.stable.names dir n)
name t h (Mkdir dir n) = name_changed t (names.mkdir t.state.stable.names dir n)
name t h (Remove dir n g) = remove t h dir n g
name t h (Rename dir n dir2 n2) = name_changed t (names.rename t.state.stable.names dir n dir2 n2)
name t h (ListFrom dir after) = names_listed t (names.list t.state.stable.names dir after)

-- The rule of a request whose number is the next one.
unfoldable pub rule : ServerTurn → Stamp → Header → Body → Replied
rule t now h bodies.KeepAlive = keep_alive t
rule t now h (bodies.Acquire ino mode) = acquire t now h ino mode
rule t now h (bodies.Released ino g to) = released t h ino g to
rule t now h (bodies.Map ino g page) = map t h ino g page
rule t now h (bodies.Allocate ino g page count) = allocate t h ino g page count
rule t now h (bodies.Cut ino g from) = cut t h ino g from
rule t now h (bodies.Name op) = name t h op
rule t now h body = silent t

-- Keeping: the number is the session's last one, its reply is kept, and sent.
unfoldable pub keep_and_reply : ServerTurn → Header → Body → ServerTurn
keep_and_reply t h body = reply (with_sessions (sessions.store t.state.sessions (sender h) h.number body) t) h body

-- if there is a reply
unfoldable pub keep : Header → ServerTurn → Option Body → ServerTurn
keep h t None = t
keep h t (Some body) = keep_and_reply t h body

-- the request is served, and its reply kept
unfoldable pub serve : Header → Replied → ServerTurn
serve h a = keep h a.turn a.reply

-- Requests by the session: without one, or above its life, refused; stale ones and those out of order are ignored; the last one is answered with its kept reply
-- and this request's stamp; and the next one is served.
unfoldable pub request_by : ServerTurn → Stamp → Header → Body → Taken Body → ServerTurn
request_by t now h body takes.OtherEpoch = refuse_epoch t h
request_by t now h body takes.NoSession = reply t h (bodies.Nack why.NoSession 0 0)
request_by t now h body takes.Stale = t
request_by t now h body (takes.Again kept) = reply t h kept
request_by t now h body takes.OutOfOrder = t
request_by t now h body takes.Fresh = serve h (rule t now h body)

-- a request of the present epoch
unfoldable pub request : ServerTurn → Stamp → Header → Body → ServerTurn
request t now h (bodies.Reassert rows) = reassert t now h rows
request t now h body = request_by t now h body (take t h)

-- a request of the present epoch, or of another
unfoldable pub of_epoch : ServerTurn → Stamp → Header → Body → ServerTurn
of_epoch t now h body = if h.epoch == t.state.stable.epoch.0 then request t now h body else refuse_epoch t h

-- The rule for a message of a client that isn't a suspect.
unfoldable pub by_body : ServerTurn → Stamp → Header → Body → ServerTurn
by_body t now h bodies.Hello = hello t now h
by_body t now h (bodies.DemandSeen ino g) = demand_seen t h ino g
by_body t now h body = of_epoch t now h body

-- a message of a suspect, or of another client
unfoldable pub by_suspicion : ServerTurn → Stamp → Header → Body → Option Stamp → ServerTurn
by_suspicion t now h body None = by_body t now h body
by_suspicion t now h body (Some start) = refuse_suspect t h start body

-- Receiving: a message that is not to this server, or not from a client, is ignored.
abbrev pub is_client_node : ℕ → Bool
is_client_node node = nat_le 1 node && nat_le node 16

-- from a client to this server
abbrev pub is_for : ServerState → Header → Bool
is_for s h = (h.to == server_node s.id) && is_client_node h.from

-- a message of a client
unfoldable pub receive_from : ServerTurn → Stamp → Header → Body → ServerTurn
receive_from t now h body = by_suspicion t now h body (authority.started t.state.authority (sender h))

-- Receiving
unfoldable pub receive : ServerTurn → Stamp → Header → Body → ServerTurn
receive t now h body = if is_for t.state h then receive_from t now h body else t

-- the rule for the input
unfoldable pub take_input : ServerTurn → Stamp → ServerInput → ServerTurn
take_input t now Tick = t
take_input t now (Control m) = receive t now m.header m.body

-- Suspecting, only on a tick: each client that left a demand unanswered too long and isn't a suspect, in rising order.
unfoldable pub suspect_unless : ServerTurn → Stamp → ClientId → ServerTurn
suspect_unless t now c = if authority.may_ack t.state.authority c then suspect_client t now c else t

-- these clients, in order
unfoldable pub suspect_each : Stamp → List ClientId → ServerTurn → ServerTurn
suspect_each now [] t = t
suspect_each now (c ∷ cs) t = suspect_each now cs (suspect_unless t now c)

-- all clients that are silent too long
unfoldable pub suspecting : ServerTurn → Stamp → ServerTurn
suspecting t now = suspect_each now (locks.unanswered t.state.locks now t.state.config) t

-- only on a tick
unfoldable pub suspecting_on : ServerTurn → Stamp → ServerInput → ServerTurn
suspecting_on t now Tick = suspecting t now
suspecting_on t now (Control m) = t

-- Granting, only outside grace: the first waiters that nobody's row conflicts with.
unfoldable pub tell_granted : List (ClientId × Life × ℕ × GrantNo × Mode) → ServerTurn → ServerTurn
tell_granted [] t = t
tell_granted (x ∷ xs) t = tell_granted xs (tell t x.0 x.1 (bodies.Granted x.2 x.3 x.4))

-- these grants
unfoldable pub grant_by : ServerTurn → locks.Granting → ServerTurn
grant_by t p = tell_granted p.granted (with_locks p.locks t)

-- all grants that may be made
unfoldable pub grant_waiting : ServerTurn → ServerTurn
grant_waiting t = grant_by t (locks.next_grants t.state.locks)

-- Granting
unfoldable pub granting : ServerTurn → Stamp → ServerTurn
granting t now = if in_grace t now then t else grant_waiting t

-- Demanding: what conflicts with the first waiters.
unfoldable pub tell_demanded : List (ClientId × Life × ℕ × GrantNo × Mode) → ServerTurn → ServerTurn
tell_demanded [] t = t
tell_demanded (x ∷ xs) t = tell_demanded xs (tell t x.0 x.1 (bodies.Demand x.2 x.3 x.4))

-- these demands
unfoldable pub demand_by : ServerTurn → locks.Demanding → ServerTurn
demand_by t p = tell_demanded p.due (with_locks p.locks t)

-- time passed
abbrev pub is_tick : ServerInput → Bool
is_tick Tick = true
is_tick (Control m) = false

-- Demanding
unfoldable pub demanding : ServerTurn → Stamp → ServerInput → ServerTurn
demanding t now input = demand_by t (locks.demands_due t.state.locks now (is_tick input) (authority.suspects_of t.state.authority) t.state.config)

-- The step: thefts, the rule for the input, and then suspecting, granting and demanding.
unfoldable pub server_step : ServerState → Stamp → ServerInput → ServerTurn
server_step s now input = demanding (granting (suspecting_on (take_input (thefts (turn s []) now) now input) now input) now) now input

-- The first epoch: without grace.
abbrev pub first_epoch : Epoch
first_epoch = record { 0 = 1 }

-- a server that was never started before
unfoldable pub fresh_server : ServerId → Config → ℕ → ℕ → ℕ → ServerState
fresh_server id k servers disks blocks =
    record {
      id = id;
      config = k;
      stable = record { epoch = first_epoch; names = names.fresh_names; extents = extents.no_extents id servers disks blocks };
      grace = grace.no_grace;
      sessions = sessions.no_sessions first_epoch;
      locks = locks.no_locks first_epoch;
      authority = authority.no_suspects k;
    }

-- Crash: the stable part is kept, and all else is emptied.
unfoldable pub crash : ServerState → ServerState
crash s =
    record s {
      grace = grace.no_grace;
      sessions = sessions.no_sessions s.stable.epoch;
      locks = locks.no_locks s.stable.epoch;
      authority = authority.no_suspects s.config;
    }

-- Start: the epoch rises, all but the stable part is empty, and grace begins now.
abbrev pub next_epoch : Epoch → Epoch
next_epoch e = record { 0 = e.0 + 1 }

-- the beginning of an epoch
unfoldable pub begin_epoch : ServerState → Stamp → Epoch → ServerState
begin_epoch s now epoch =
    record s {
      stable = record s.stable { epoch = epoch };
      grace = grace.begin_grace now s.config;
      sessions = sessions.no_sessions epoch;
      locks = locks.no_locks epoch;
      authority = authority.no_suspects s.config;
    }

-- Start
unfoldable pub start : ServerState → Stamp → ServerState
start s now = begin_epoch s now (next_epoch s.stable.epoch)

-- A node: its machine, and whether it runs.
pub record ServerNode : Type 0 where
  pub state : ServerState
  pub running : Bool

-- Fresh: a server that was never started before, and that runs.
abbrev pub fresh_node : ServerId → Config → ℕ → ℕ → ℕ → ServerNode
fresh_node id k servers disks blocks = record { state = fresh_server id k servers disks blocks; running = true }

-- Crash: it no longer runs.
abbrev pub crash_node : ServerNode → ServerNode
crash_node n = record { state = crash n.state; running = false }

-- Start: it runs, in its next epoch.
abbrev pub start_node : ServerNode → Stamp → ServerNode
start_node n now = record { state = start n.state now; running = true }

-- a node's step: the node that it leaves, and the outputs in order
pub record NodeTurn : Type 0 where
  pub node : ServerNode
  pub out : List Output

-- what a step of its machine leaves of a node
abbrev pub node_turn : ServerNode → ServerTurn → NodeTurn
node_turn n t = record { node = record n { state = t.state }; out = t.out }

-- Step: a node that does not run takes none.
unfoldable pub node_step : ServerNode → Stamp → ServerInput → Result NodeTurn StepRefusal
node_step n now input = if n.running then Ok (node_turn n (server_step n.state now input)) else Err Crashed

-- opens all of this file and of the parts
unfoldable pub server_open : ⊤
unfolding leases.leases_open locks.locks_open sessions.sessions_open authority.authority_open grace.grace_open names.names_open extents.extents_open reply tell steal_from steal_at steal steal_each thefts suspect_client refuse_suspect greet_as greet_by greet refuse_in_grace hello observe_demand demand_seen refuse_epoch reassert_by reassert_new reassert_again reassert keep_alive acquire_by acquire_lock no_file acquire released_by released not_holder map_page map_held map with_extents_told allocate_by allocate_pages allocate_held allocate cut_pages cut_from cut_held cut name_refused name_found name_changed names_listed remove_dir cut_whole remove_by remove_file remove_ino remove_found remove name rule keep_and_reply keep serve request_by request of_epoch by_body by_suspicion receive_from receive take_input suspect_unless suspect_each suspecting suspecting_on tell_granted grant_by grant_waiting granting tell_demanded demand_by demanding server_step fresh_server crash begin_epoch start node_step
server_open = tt
