-- The client machine: what it does at each server at the end of a step: operations, reductions, writes, greeting, requests.
use Rattle.std.specs.Prelude.{ℕ, ◌+◌, Bool, true, false, ◌&&◌, ◌||◌, not, nat_le, if◌then◌else◌, List, [], ◌∷◌, Option, Some, None, is_some, Result, Ok, Err, ⊤}
use Rattle.std.specs.List.{list_any}
use Rattle.st_base.specs.declared.ids.GrantNo.{GrantNo}
use Rattle.st_base.specs.declared.ids.FileId.{FileId}
use Rattle.st_base.specs.declared.ids.PageNo.{PageNo}
use Rattle.st_base.specs.declared.ids.Stamp.{Stamp}
use Rattle.st_base.specs.declared.config.Config.{Config}
use Rattle.st_base.specs.declared.disk.Command.{Command}
use Rattle.st_base.specs.declared.disk.Command.TheVariants as commands
use Rattle.st_base.specs.declared.mode.Mode.{Mode}
use Rattle.st_base.specs.declared.mode.Mode.TheVariants as modes
use Rattle.st_base.specs.Mode.{covers}
use Rattle.st_base.specs.Page.{filled}
use Rattle.st_base.specs.declared.names.NameAsk.{NameAsk}
use Rattle.st_base.specs.declared.names.NameAsk.TheVariants as names
use Rattle.st_messages.specs.declared.ask.Ask.{Ask}
use Rattle.st_messages.specs.declared.ask.Ask.TheVariants as asks
use Rattle.st_messages.specs.declared.answer.AppAnswer.{AppAnswer}
use Rattle.st_messages.specs.declared.answer.AppAnswer.TheVariants as answers
use Rattle.st_messages.specs.declared.message.Body.{Body}
use Rattle.st_messages.specs.declared.message.Body.TheVariants as bodies
use Rattle.st_messages.specs.declared.message.NameOp.{NameOp}
use Rattle.st_messages.specs.declared.message.NameOp.TheVariants as ops
use Rattle.st_messages.specs.declared.output.Note.{Note}
use Rattle.st_messages.specs.declared.output.Note.TheVariants as notes
use Rattle.st_messages.specs.declared.output.Output.TheVariants as outputs
use Rattle.st_rules.specs.declared.pages.DirtyPage.{DirtyPage}
use Rattle.st_rules.specs.declared.client.WriteRefusal.{WriteRefusal}
use Rattle.st_rules.specs.declared.client.HeldLock.{HeldLock}
use Rattle.st_rules.specs.declared.client.IoKind.{IoKind}
use Rattle.st_rules.specs.declared.client.IoKind.TheVariants.{Read, Write}
use Rattle.st_rules.specs.declared.client.KnownExtent.{KnownExtent}
use Rattle.st_rules.specs.declared.client.LockWait.{LockWait}
use Rattle.st_rules.specs.declared.client.MappedBlock.{MappedBlock}
use Rattle.st_rules.specs.declared.client.Operation.{Operation}
use Rattle.st_rules.specs.declared.client.Release.{Release}
use Rattle.st_rules.specs.declared.client.Request.{Request}
use Rattle.st_rules.specs.declared.client.Stage.TheVariants.{Sent}
use Rattle.st_rules.specs.Keys.{page_no}
use Rattle.st_rules.specs.FlatLog.{overlay}
use Rattle.st_rules.specs.ClientLease as lease
use Rattle.st_rules.specs.ClientLocks as locks
use Rattle.st_rules.specs.ClientPages as pages
use Rattle.st_rules.specs.ClientPages.{Pages, Store}
use Rattle.st_rules.specs.ClientState.{ClientSession, Turn, asking, is_again_due, asked_again, with_session, with_store, with_operations, with_cache, with_release, say, note, answered, send, is_of, is_on, is_sync, is_cut_or_name, is_sent, at_stage, file_of, keep, is_busy, is_open_file, is_serving, forget_wait, wait_of, client_state_open}

-- Disk commands of a page that is mapped: the command has the client's next number.

-- the file of this server
abbrev pub file : Turn → ℕ → FileId
file t ino = record { server = t.here.server; ino = ino }

-- a command is outstanding
abbrev pub with_command : ℕ → PageNo → IoKind → Turn → Turn
with_command ino p kind t =
    record t {
      here = record t.here { store = record t.here.store { commands = pages.begin_command t.here.store.commands t.next_command ino p kind } };
      next_command = t.next_command + 1;
    }

-- a command is submitted
unfoldable pub submit_command : Turn → ℕ → PageNo → IoKind → MappedBlock → Command → Turn
submit_command t ino p kind m what = say (with_command ino p kind t) (outputs.Submit t.next_command m.at what)

-- a read of a page
unfoldable pub submit_read : Turn → ℕ → PageNo → MappedBlock → Turn
submit_read t ino p m = submit_command t ino p Read m (commands.Read m.at)

-- a write of a dirty page
unfoldable pub submit_write : Turn → DirtyPage → MappedBlock → Turn
submit_write t d m =
    submit_command t d.ino d.page (Write d.version) m (commands.Write m.at (record { file = file t d.ino; page = d.page; birth = m.birth }) d.bytes)

-- Operations, in order; those that are not answered stay pending.

-- an operation is answered
abbrev pub answer : Operation → AppAnswer → Turn → Turn
answer o a t = answered t o.op a

-- Sync: hard if the file has no dirty page and no outstanding write.
unfoldable pub sync : Turn → Operation → FileId → Turn
sync t o f = if pages.is_hard t.here.store f.ino then answer o answers.Hard t else keep o t

-- Quiesced: in quiesce or later every operation but a sync is answered so that was not sent.
unfoldable pub quiesce : Turn → Operation → Turn
quiesce t o = if is_sent o then keep o t else answer o answers.Quiesced t

-- Changing a page: it is dirty with these bytes, an outstanding read of it is forgotten, and the change is noted.
abbrev pub with_pages_changed : Pages → ℕ → PageNo → Turn → Turn
with_pages_changed ps ino p t = with_store (record t.here.store { pages = ps; commands = pages.forget_read t.here.store.commands ino p }) t

-- the change is noted, and answered
unfoldable pub change : Turn → Operation → FileId → PageNo → Note → Pages → Turn
change t o f p n ps = answer o answers.Written (with_pages_changed ps f.ino p (note t n))

-- or too many other pages are dirty
unfoldable pub change_by : Turn → Operation → FileId → PageNo → Note → Result Pages WriteRefusal → Turn
change_by t o f p n (Ok ps) = change t o f p n ps
change_by t o f p n (Err r) = answer o answers.DirtyFull t

-- a page is changed to these bytes
unfoldable pub change_page : Turn → Operation → FileId → PageNo → List ℕ → Note → Turn
change_page t o f p bytes n = change_by t o f p n (pages.write t.here.store.pages f.ino p bytes)

-- Writing: with an exclusive lock and a mapped extent.
abbrev pub holds : ClientSession → Mode → FileId → Bool
holds s mode f = covers (locks.mode_of s.locks f.ino) mode

-- the page is mapped, and may be changed
abbrev pub may_write : Turn → ClientSession → FileId → PageNo → Bool
may_write t s f p = holds s modes.X f && pages.is_mapped t.here.store.extents f.ino p

-- Writing
unfoldable pub write : Turn → ClientSession → Operation → FileId → PageNo → List ℕ → Turn
write t s o f p bytes = if may_write t s f p then change_page t o f p bytes (notes.Accepted f p bytes) else keep o t

-- Fetching: a mapped page that is neither dirty nor clean is read from its disk, unless that is under way. The operation waits.
unfoldable pub fetch_mapped : Turn → FileId → PageNo → MappedBlock → Turn
fetch_mapped t f p m = if pages.is_being_read t.here.store.commands f.ino p then t else submit_read t f.ino p m

-- if it is mapped
unfoldable pub fetch_at : Turn → FileId → PageNo → Option MappedBlock → Turn
fetch_at t f p None = t
fetch_at t f p (Some m) = fetch_mapped t f p m

-- Fetching
unfoldable pub fetch : Turn → Operation → FileId → PageNo → Turn
fetch t o f p = keep o (fetch_at t f p (pages.mapping_of t.here.store.extents f.ino p))

-- Patching: with an exclusive lock, a mapped extent, and the page dirty or clean; its bytes with the range replaced.
unfoldable pub patch_bytes : Turn → Operation → FileId → PageNo → ℕ → List ℕ → List ℕ → Turn
patch_bytes t o f p at bytes old = change_page t o f p (overlay at bytes old) (notes.Patched f p at bytes)

-- the page's bytes are cached, or are fetched
unfoldable pub patch_at : Turn → Operation → FileId → PageNo → ℕ → List ℕ → Option (List ℕ) → Turn
patch_at t o f p at bytes None = fetch t o f p
patch_at t o f p at bytes (Some old) = patch_bytes t o f p at bytes old

-- Patching
unfoldable pub patch : Turn → ClientSession → Operation → FileId → PageNo → ℕ → List ℕ → Turn
patch t s o f p at bytes = if may_write t s f p then patch_at t o f p at bytes (pages.cached t.here.store.pages f.ino p) else keep o t

-- Reading, with a lock: from the dirty page, or from the clean one, which becomes the newest; zeros if the page is known as unmapped; and otherwise the page
-- is fetched if it is known as mapped.
unfoldable pub read_cached : Turn → Operation → FileId → PageNo → List ℕ → Turn
read_cached t o f p bytes = answer o (answers.Read bytes) (with_store (record t.here.store { pages = pages.use_page t.here.store.pages f.ino p }) t)

-- what is known of its place
unfoldable pub read_known : Turn → Operation → FileId → PageNo → KnownExtent → Option MappedBlock → Turn
read_known t o f p e None = answer o (answers.Read (filled 0)) t
read_known t o f p e (Some m) = fetch t o f p

-- by what is known
unfoldable pub read_uncached : Turn → Operation → FileId → PageNo → Option KnownExtent → Turn
read_uncached t o f p None = keep o t
read_uncached t o f p (Some e) = read_known t o f p e e.mapping

-- by what is cached
unfoldable pub read_at : Turn → Operation → FileId → PageNo → Option (List ℕ) → Turn
read_at t o f p None = read_uncached t o f p (pages.known_of t.here.store.extents f.ino p)
read_at t o f p (Some bytes) = read_cached t o f p bytes

-- Reading
unfoldable pub read : Turn → ClientSession → Operation → FileId → PageNo → Turn
read t s o f p = if holds s modes.S f then read_at t o f p (pages.cached t.here.store.pages f.ino p) else keep o t

-- Serving: writes, patches and reads of a file that is neither demanded nor busy; all else waits.
unfoldable pub serve_open : Turn → ClientSession → Operation → Ask → Turn
serve_open t s o (asks.Write f p bytes) = write t s o f p bytes
serve_open t s o (asks.Patch f p at bytes) = patch t s o f p at bytes
serve_open t s o (asks.Read f p) = read t s o f p
serve_open t s o ask = keep o t

-- the pending operations are those from before the pass
unfoldable pub serve : List Operation → Turn → ClientSession → Operation → Turn
serve all t s o = if is_open_file all t.here.server s (file_of o.ask) then serve_open t s o o.ask else keep o t

-- in valid and renewal, or later
unfoldable pub operate_under : List Operation → Turn → ClientSession → Stamp → Operation → Turn
operate_under all t s now o = if is_serving t.config s now then serve all t s o else quiesce t o

-- with a session, or without
unfoldable pub operate_by : List Operation → Turn → Stamp → Operation → Option ClientSession → Turn
operate_by all t now o None = keep o t
operate_by all t now o (Some s) = operate_under all t s now o

-- a sync, or another one
unfoldable pub operate_on : List Operation → Turn → Stamp → Operation → Ask → Turn
operate_on all t now o (asks.Sync f) = sync t o f
operate_on all t now o ask = operate_by all t now o t.here.session

-- an operation of this server
unfoldable pub operate : List Operation → Turn → Stamp → Operation → Turn
operate all t now o = if is_of t.here.server o then operate_on all t now o o.ask else keep o t

-- these operations, in order
unfoldable pub operate_each : List Operation → Stamp → List Operation → Turn → Turn
operate_each all now [] t = t
operate_each all now (o ∷ os) t = operate_each all now os (operate all t now o)

-- Operations
unfoldable pub operations : Stamp → Turn → Turn
operations now t = operate_each t.operations now t.operations (with_operations [] t)

-- Reductions, by rising file: a demanded file that is idle and not busy is reduced to what is demanded. To none its lock, clean
-- pages and extents go, and to shared they stay. Its release goes last; its demand and its wait are forgotten.
abbrev pub forgotten_at : ℕ → Mode → Store → Store
forgotten_at ino modes.None st = pages.forget_from st ino (page_no 0)
forgotten_at ino to st = st

-- the session after the release is queued
abbrev pub released : ClientSession → ℕ → GrantNo → Mode → ClientSession
released s ino g to = with_release ino g to (forget_wait ino s)

-- the file is reduced
unfoldable pub reduce_to : Turn → ClientSession → ℕ → GrantNo → Mode → Turn
reduce_to t s ino g to = with_store (forgotten_at ino to t.here.store) (with_session (released s ino g to) t)

-- by what is given up
unfoldable pub reduce_given : Turn → ClientSession → ℕ → Option (GrantNo × Mode) → Turn
reduce_given t s ino None = t
reduce_given t s ino (Some given) = reduce_to t s ino given.0 given.1

-- with the locks after it
unfoldable pub reduce_by : Turn → ClientSession → ℕ → locks.Reduced → Turn
reduce_by t s ino r = reduce_given t (with_cache r.locks s) ino r.given

-- the file is idle and not busy
abbrev pub may_reduce : Turn → ClientSession → ℕ → Bool
may_reduce t s ino = pages.is_idle t.here.store ino && not (is_busy t.operations t.here.server s ino)

-- a file that may be reduced
unfoldable pub reduce_idle : Turn → ClientSession → ℕ → Turn
reduce_idle t s ino = if may_reduce t s ino then reduce_by t s ino (locks.reduce s.locks ino) else t

-- with a session
unfoldable pub reduce : Turn → ℕ → Option ClientSession → Turn
reduce t ino None = t
reduce t ino (Some s) = reduce_idle t s ino

-- these files, in order
unfoldable pub reduce_each : List ℕ → Turn → Turn
reduce_each [] t = t
reduce_each (ino ∷ inos) t = reduce_each inos (reduce t ino t.here.session)

-- the files that are demanded
abbrev pub files_demanded : Option ClientSession → List ℕ
files_demanded None = []
files_demanded (Some s) = locks.demanded_files s.locks

-- Reductions
unfoldable pub reductions : Turn → Turn
reductions t = reduce_each (files_demanded t.here.session) t

-- Writes, by rising file and page, of the dirty pages without an outstanding write. In flush: those without a failed command. In other phases: those whose file
-- is wanted and which have no failed command, or the input is a tick.

-- Wanted: the file is demanded, or has a pending sync, or a pending unsent cut or remove and an exclusive lock.
abbrev pub is_sync_on : Turn → ℕ → Operation → Bool
is_sync_on t ino o = is_on t.here.server ino o && is_sync o.ask

-- an unsent cut or remove of the file
abbrev pub is_cut_on : Turn → ℕ → Operation → Bool
is_cut_on t ino o = is_on t.here.server ino o && (is_cut_or_name o.ask && not (is_sent o))

-- a cut or a remove waits for the file's pages
abbrev pub is_cut_wanted : Turn → ClientSession → ℕ → Bool
is_cut_wanted t s ino = covers (locks.mode_of s.locks ino) modes.X && list_any (is_cut_on t ino) t.operations

-- Wanted
abbrev pub is_wanted : Turn → ClientSession → ℕ → Bool
is_wanted t s ino = locks.is_demanded s.locks ino || (list_any (is_sync_on t ino) t.operations || is_cut_wanted t s ino)

-- no command of the page has failed
abbrev pub is_unfailed : DirtyPage → Bool
is_unfailed d = not (is_some d.failed)

-- in other phases than flush
abbrev pub is_due_by_need : Turn → ClientSession → Bool → DirtyPage → Bool
is_due_by_need t s tick d = is_wanted t s d.ino && (is_unfailed d || tick)

-- by the phase
unfoldable pub is_due : Turn → ClientSession → Stamp → Bool → DirtyPage → Bool
is_due t s now tick d = if lease.may_drain (lease.standing_of t.config s.lease now) then is_unfailed d else is_due_by_need t s tick d

-- the page must be written now
abbrev pub is_writable : Turn → ClientSession → Stamp → Bool → DirtyPage → Bool
is_writable t s now tick d = not (pages.is_being_written t.here.store.commands d.ino d.page) && is_due t s now tick d

-- where it lies
unfoldable pub write_out_at : Turn → DirtyPage → Option MappedBlock → Turn
write_out_at t d None = t
write_out_at t d (Some m) = submit_write t d m

-- a page that is due
unfoldable pub write_out : Turn → DirtyPage → Turn
write_out t d = write_out_at t d (pages.mapping_of t.here.store.extents d.ino d.page)

-- a dirty page
unfoldable pub write_due : Turn → ClientSession → Stamp → Bool → DirtyPage → Turn
write_due t s now tick d = if is_writable t s now tick d then write_out t d else t

-- if the page is dirty
unfoldable pub write_page : Turn → ClientSession → Stamp → Bool → Option DirtyPage → Turn
write_page t s now tick None = t
write_page t s now tick (Some d) = write_due t s now tick d

-- these pages, in order
unfoldable pub write_each : ClientSession → Stamp → Bool → List (ℕ × PageNo) → Turn → Turn
write_each s now tick [] t = t
write_each s now tick (x ∷ xs) t = write_each s now tick xs (write_page t s now tick (pages.dirty_of t.here.store.pages x.0 x.1))

-- with a session
unfoldable pub writes_by : Turn → Stamp → Bool → Option ClientSession → Turn
writes_by t now tick None = t
writes_by t now tick (Some s) = write_each s now tick (pages.dirty_places t.here.store.pages) t

-- Writes
unfoldable pub writes : Stamp → Bool → Turn → Turn
writes now tick t = writes_by t now tick t.here.session

-- Greeting: without a session, if an operation of this server is pending; again on a tick, when the last greeting is old.
abbrev pub is_greeting_due : Config → Stamp → Bool → Option Stamp → Bool
is_greeting_due k now tick None = true
is_greeting_due k now tick (Some at) = tick && nat_le (at.0 + k.retry) now.0

-- somebody waits for the server
abbrev pub must_greet : Turn → Stamp → Bool → Bool
must_greet t now tick = list_any (is_of t.here.server) t.operations && is_greeting_due t.config now tick t.here.greeting

-- it greeted now
abbrev pub with_greeting : Stamp → Turn → Turn
with_greeting now t = record t { here = record t.here { greeting = Some now } }

-- a greeting is sent
unfoldable pub hello : Turn → Stamp → Turn
hello t now = send (with_greeting now t) 0 0 now.0 bodies.Hello

-- if it is due
unfoldable pub greet : Turn → Stamp → Bool → Turn
greet t now tick = if must_greet t now tick then hello t now else t

-- without a session
unfoldable pub greeting_by : Turn → Stamp → Bool → Option ClientSession → Turn
greeting_by t now tick None = greet t now tick
greeting_by t now tick (Some s) = t

-- Greeting
unfoldable pub greeting : Stamp → Bool → Turn → Turn
greeting now tick t = greeting_by t now tick t.here.session

-- Requests, with a session that is not condemned: the outstanding one again, on a tick, when it is old; and with none
-- outstanding the first of the due reassertion, a release, what an operation asks, and a keep-alive.

-- Asking: the next number, now; the file that it cuts or removes is busy.
abbrev pub asking_session : ClientSession → Stamp → Body → Option ℕ → ClientSession
asking_session s now body cutting = record s { requests = asking s.requests body now; cutting = cutting }

-- a request is sent
unfoldable pub ask : Turn → ClientSession → Stamp → Body → Option ℕ → Turn
ask t s now body cutting = send (with_session (asking_session s now body cutting) t) s.epoch.0 s.requests.next now.0 body

-- Asking again: the same number and body, now.
abbrev pub again_session : ClientSession → Stamp → Request → ClientSession
again_session s now q = record s { requests = asked_again q now s.requests }

-- the outstanding request is sent once more
unfoldable pub ask_again : Turn → ClientSession → Stamp → Request → Turn
ask_again t s now q = send (with_session (again_session s now q) t) s.epoch.0 q.number now.0 q.body

-- on a tick, when it is old
abbrev pub is_old : Config → Stamp → Bool → Request → Bool
is_old k now tick q = tick && is_again_due k.retry now q

-- Asking again
unfoldable pub repeat : Turn → ClientSession → Stamp → Bool → Request → Turn
repeat t s now tick q = if is_old t.config now tick q then ask_again t s now q else t

-- Keep-alive: in renewal, quiesce and flush.
unfoldable pub keep_alive : Turn → ClientSession → Stamp → Turn
keep_alive t s now = if lease.is_renewing (lease.phase_of t.config s.lease now) then ask t s now bodies.KeepAlive None else t

-- What an operation asks: a body; whether the operation is sent with it; and the file and page from which on it cuts.
pub record Wanted : Type 0 where
  pub body : Body
  pub own : Bool
  pub cut : Option (ℕ × PageNo)

-- a request on behalf of an operation that stays unsent
abbrev pub wanted : Body → Option Wanted
wanted body = Some (record { body = body; own = false; cut = None })

-- the operation itself, which cuts no file
abbrev pub wanted_itself : Body → Option Wanted
wanted_itself body = Some (record { body = body; own = true; cut = None })

-- the operation itself, which cuts a file
abbrev pub wanted_cut : Body → ℕ → PageNo → Option Wanted
wanted_cut body ino p = Some (record { body = body; own = true; cut = Some (ino, p) })

-- Needs: a read needs a shared lock, and a write, a patch, a cut and a remove of a file an exclusive one.
abbrev pub need : Ask → Mode
need (asks.Read f p) = modes.S
need ask = modes.X

-- Asking for a lock: if no wait is known, or the wait's mode is lower, or it was reported long ago.
abbrev pub is_wait_old : Config → Stamp → Mode → Option LockWait → Bool
is_wait_old k now mode None = true
is_wait_old k now mode (Some w) = not (covers w.mode mode) || nat_le (w.at.0 + k.retry) now.0

-- Asking for a lock
unfoldable pub want_lock : Turn → ClientSession → Stamp → ℕ → Mode → Option Wanted
want_lock t s now ino mode = if is_wait_old t.config now mode (wait_of s.waits ino) then wanted (bodies.Acquire ino mode) else None

-- Asking where a page lies: it is neither cached nor known.
abbrev pub is_at_hand : Turn → ℕ → PageNo → Bool
is_at_hand t ino p = is_some (pages.cached t.here.store.pages ino p) || pages.is_known t.here.store.extents ino p

-- Asking where a page lies
unfoldable pub want_map : Turn → ℕ → GrantNo → PageNo → Option Wanted
want_map t ino g p = if is_at_hand t ino p then None else wanted (bodies.Map ino g p)

-- Asking for a block: the page is not known as mapped.
unfoldable pub want_block : Turn → ℕ → GrantNo → PageNo → Option Wanted
want_block t ino g p = if pages.is_mapped t.here.store.extents ino p then None else wanted (bodies.Allocate ino g p 1)

-- Cutting: if the file is idle.
unfoldable pub want_cut : Turn → ℕ → Body → PageNo → Option Wanted
want_cut t ino body p = if pages.is_idle t.here.store ino then wanted_cut body ino p else None

-- an ask for a name, as it is sent; a remove names the grant of the file
abbrev pub name_op : NameAsk → GrantNo → NameOp
name_op (names.Lookup dir name) g = ops.Lookup dir name
name_op (names.Create dir name) g = ops.Create dir name
name_op (names.Mkdir dir name) g = ops.Mkdir dir name
name_op (names.Remove dir name ino) g = ops.Remove dir name g
name_op (names.Rename dir name dir2 name2) g = ops.Rename dir name dir2 name2
name_op (names.List dir after) g = ops.List dir after

-- with the lock that is needed
unfoldable pub want_held : Turn → Ask → ℕ → GrantNo → Option Wanted
want_held t (asks.Read f p) ino g = want_map t ino g p
want_held t (asks.Write f p bytes) ino g = want_block t ino g p
want_held t (asks.Patch f p at bytes) ino g = want_block t ino g p
want_held t (asks.Cut f p) ino g = want_cut t ino (bodies.Cut ino g p) p
want_held t (asks.Name server ask) ino g = want_cut t ino (bodies.Name (name_op ask g)) (page_no 0)
want_held t (asks.Sync f) ino g = None

-- with a lock, which may be lower than needed
unfoldable pub want_under : Turn → ClientSession → Stamp → Ask → ℕ → HeldLock → Option Wanted
want_under t s now ask ino l = if covers l.mode (need ask) then want_held t ask ino l.g else want_lock t s now ino (need ask)

-- with a lock, or without
unfoldable pub want_by : Turn → ClientSession → Stamp → Ask → ℕ → Option HeldLock → Option Wanted
want_by t s now ask ino None = want_lock t s now ino (need ask)
want_by t s now ask ino (Some l) = want_under t s now ask ino l

-- an ask on a file
unfoldable pub want_on : Turn → ClientSession → Stamp → Ask → ℕ → Option Wanted
want_on t s now ask ino = want_by t s now ask ino (locks.lock_of s.locks ino)

-- an ask for a name that doesn't remove a file
unfoldable pub want_name : Ask → Option Wanted
want_name (asks.Name server ask) = wanted_itself (bodies.Name (name_op ask locks.no_grant))
want_name ask = None

-- by the file
unfoldable pub want_at : Turn → ClientSession → Stamp → Ask → Option ℕ → Option Wanted
want_at t s now ask None = want_name ask
want_at t s now ask (Some ino) = want_on t s now ask ino

-- a sync asks nothing
unfoldable pub want : Turn → ClientSession → Stamp → Ask → Option Wanted
want t s now (asks.Sync f) = None
want t s now ask = want_at t s now ask (file_of ask)

-- an operation of this server that was not sent, on a file that is neither demanded nor busy, or on none
abbrev pub may_ask : Turn → ClientSession → Operation → Bool
may_ask t s o = is_of t.here.server o && (not (is_sent o) && is_open_file t.operations t.here.server s (file_of o.ask))

-- What an operation asks
unfoldable pub asked_by : Turn → ClientSession → Stamp → Operation → Option Wanted
asked_by t s now o = if may_ask t s o then want t s now o.ask else None

-- The first operation that has something to ask, with the pending operations after it was sent.
pub record Asking : Type 0 where
  pub wanted : Wanted
  pub operations : List Operation

-- an operation whose request is sent
abbrev pub sent_if : Bool → Operation → Operation
sent_if true o = at_stage Sent o
sent_if false o = o

-- a later one asks
abbrev pub behind : Operation → Option Asking → Option Asking
behind o None = None
behind o (Some a) = Some (record a { operations = o ∷ a.operations })

-- this one asks, or a later one
unfoldable pub asks_or : Operation → List Operation → Option Asking → Option Wanted → Option Asking
asks_or o os later None = behind o later
asks_or o os later (Some w) = Some (record { wanted = w; operations = sent_if w.own o ∷ os })

-- the first of these that asks
unfoldable pub first_asking : Turn → ClientSession → Stamp → List Operation → Option Asking
first_asking t s now [] = None
first_asking t s now (o ∷ os) = asks_or o os (first_asking t s now os) (asked_by t s now o)

-- the file that is cut
abbrev pub file_cut : Option (ℕ × PageNo) → Option ℕ
file_cut None = None
file_cut (Some cut) = Some cut.0

-- the file's clean pages and extents are dropped from that page on
abbrev pub cut_store : Option (ℕ × PageNo) → Store → Store
cut_store None st = st
cut_store (Some cut) st = pages.forget_from st cut.0 cut.1

-- the request of an operation
unfoldable pub ask_for : Turn → ClientSession → Stamp → Asking → Turn
ask_for t s now a = ask (with_store (cut_store a.wanted.cut t.here.store) (with_operations a.operations t)) s now a.wanted.body (file_cut a.wanted.cut)

-- or a keep-alive
unfoldable pub ask_for_or : Turn → ClientSession → Stamp → Option Asking → Turn
ask_for_or t s now None = keep_alive t s now
ask_for_or t s now (Some a) = ask_for t s now a

-- operations ask only in valid and renewal
unfoldable pub ask_next : Turn → ClientSession → Stamp → Turn
ask_next t s now = if is_serving t.config s now then ask_for_or t s now (first_asking t s now t.operations) else keep_alive t s now

-- the first release
unfoldable pub ask_release : Turn → ClientSession → Stamp → Release → List Release → Turn
ask_release t s now r rs = ask t (record s { releases = rs }) now (bodies.Released r.ino r.g r.to) None

-- a release, or whatever else is due
unfoldable pub ask_by : Turn → ClientSession → Stamp → List Release → Turn
ask_by t s now [] = ask_next t s now
ask_by t s now (r ∷ rs) = ask_release t s now r rs

-- all locks are reasserted
unfoldable pub reassert : Turn → ClientSession → Stamp → Turn
reassert t s now = ask t s now (bodies.Reassert (locks.all_locks s.locks)) None

-- with none outstanding
unfoldable pub ask_new : Turn → ClientSession → Stamp → Turn
ask_new t s now = if s.due then reassert t s now else ask_by t s now s.releases

-- with one outstanding, or none
unfoldable pub requests_at : Turn → ClientSession → Stamp → Bool → Option Request → Turn
requests_at t s now tick None = ask_new t s now
requests_at t s now tick (Some q) = repeat t s now tick q

-- nothing is asked under a condemned lease
unfoldable pub requests_under : Turn → ClientSession → Stamp → Bool → Turn
requests_under t s now tick = if s.lease.condemned then t else requests_at t s now tick s.requests.asked

-- with a session
unfoldable pub requests_by : Turn → Stamp → Bool → Option ClientSession → Turn
requests_by t now tick None = t
requests_by t now tick (Some s) = requests_under t s now tick

-- Requests
unfoldable pub requests : Stamp → Bool → Turn → Turn
requests now tick t = requests_by t now tick t.here.session

-- At a server, at the end of a step: operations, reductions, writes, greeting, requests.
unfoldable pub passes : Stamp → Bool → Turn → Turn
passes now tick t = requests now tick (greeting now tick (writes now tick (reductions (operations now t))))

-- opens all of this file and of the state
unfoldable pub client_passes_open : ⊤
unfolding client_state_open submit_command submit_read submit_write sync quiesce change change_by change_page write fetch_mapped fetch_at fetch patch_bytes patch_at patch read_cached read_known read_uncached read_at read serve_open serve operate_under operate_by operate_on operate operate_each operations reduce_to reduce_given reduce_by reduce_idle reduce reduce_each reductions is_due write_out_at write_out write_due write_page write_each writes_by writes hello greet greeting_by greeting ask ask_again repeat keep_alive want_lock want_map want_block want_cut want_held want_under want_by want_on want_name want_at want asked_by asks_or first_asking ask_for ask_for_or ask_next ask_release ask_by reassert ask_new requests_at requests_under requests_by requests passes
client_passes_open = tt
