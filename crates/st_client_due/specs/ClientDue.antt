-- During which moments a tick does something at a client.
use Rattle.std.specs.Prelude.{◌≡◌, ◌≢◌, ℕ, ◌+◌, ◌≤◌, Bool, true, false, ◌&&◌, ◌||◌, not, if◌then◌else◌, min, List, [], ◌∷◌, ◌++◌, Option, Some, None, is_some}
use Rattle.std.specs.List.{flat_map, list_any}
use Rattle.st_base.specs.declared.config.Config.{Config}
use Rattle.st_base.specs.declared.ids.FileId.{FileId}
use Rattle.st_base.specs.declared.ids.PageNo.{PageNo}
use Rattle.st_base.specs.declared.ids.Stamp.{Stamp}
use Rattle.st_base.specs.declared.mode.Mode.{Mode}
use Rattle.st_base.specs.declared.mode.Mode.TheVariants as modes
use Rattle.st_base.specs.Mode.{covers}
use Rattle.st_messages.specs.declared.ask.Ask.{Ask}
use Rattle.st_messages.specs.declared.ask.Ask.TheVariants as asks
use Rattle.st_rules.specs.declared.client.ClientInput.TheVariants.{Tick}
use Rattle.st_rules.specs.declared.client.HeldLock.{HeldLock}
use Rattle.st_rules.specs.declared.client.KnownExtent.{KnownExtent}
use Rattle.st_rules.specs.declared.client.LockWait.{LockWait}
use Rattle.st_rules.specs.declared.client.Operation.{Operation}
use Rattle.st_rules.specs.declared.client.Release.{Release}
use Rattle.st_rules.specs.declared.client.Request.{Request}
use Rattle.st_rules.specs.declared.pages.DirtyPage.{DirtyPage}
use Rattle.st_rules.specs.Client.{client_step}
use Rattle.st_rules.specs.ClientLease.{ClientLease}
use Rattle.st_rules.specs.ClientLocks as locks
use Rattle.st_rules.specs.ClientPages as pages
use Rattle.st_rules.specs.ClientPasses.{holds, is_unfailed, is_wanted, may_ask, may_reduce, may_write, need, want_held, want_name}
use Rattle.st_rules.specs.ClientState.{Association, ClientSession, ClientState, Turn, client_turn, enter, file_of, is_of, is_open_file, is_sent, wait_of}
use Rattle.st_due.specs.Moments.{is_due}
use Rattle.st_client_due.specs.Spans.{Span, first_of, from_on, if_so, until}

-- Losses: a lease ends.
abbrev pub lease_end_at : Config → ClientLease → ℕ
lease_end_at k l = l.date.0 + k.lease

-- Flush: a lease is in its flush phase from here on.
abbrev pub flush_at : Config → ClientLease → ℕ
flush_at k l = l.date.0 + k.flush

-- Quiesce: operations are served before this moment; under a condemned lease none are.
abbrev pub quiesce_at : Config → ClientLease → ℕ
quiesce_at k l = if l.condemned then 0 else min (l.date.0 + k.quiesce) (flush_at k l)

-- Operations: a sync is hard; a write, a patch or a read is served until quiesce; and from quiesce on one that was not sent is answered so.

-- a page is cached
abbrev pub is_cached : Turn → FileId → PageNo → Bool
is_cached t f p = is_some (pages.cached t.here.store.pages f.ino p)

-- the read of a page is outstanding
abbrev pub is_being_fetched : Turn → FileId → PageNo → Bool
is_being_fetched t f p = pages.is_being_read t.here.store.commands f.ino p

-- a page is fetched: it is known as mapped, and isn't being read
abbrev pub is_fetched : Turn → FileId → PageNo → Bool
is_fetched t f p = pages.is_mapped t.here.store.extents f.ino p && not (is_being_fetched t f p)

-- a page is patched or fetched
abbrev pub is_patched : Turn → ClientSession → FileId → PageNo → Bool
is_patched t s f p = may_write t s f p && (is_cached t f p || is_fetched t f p)

-- a page that is known is read as zeros, or fetched
abbrev pub is_found : Turn → FileId → PageNo → Option KnownExtent → Bool
is_found t f p None = false
is_found t f p (Some e) = not (is_some e.mapping && is_being_fetched t f p)

-- a page is read or fetched
abbrev pub is_read : Turn → ClientSession → FileId → PageNo → Bool
is_read t s f p = holds s modes.S f && (is_cached t f p || is_found t f p (pages.known_of t.here.store.extents f.ino p))

-- an ask on a file that is open
abbrev pub is_served_open : Turn → ClientSession → Ask → Bool
is_served_open t s (asks.Write f p bytes) = may_write t s f p
is_served_open t s (asks.Patch f p at bytes) = is_patched t s f p
is_served_open t s (asks.Read f p) = is_read t s f p
is_served_open t s ask = false

-- an ask, while these operations are pending
abbrev pub is_served : List Operation → Turn → ClientSession → Ask → Bool
is_served all t s ask = is_open_file all t.here.server s (file_of ask) && is_served_open t s ask

-- with a session
abbrev pub served_during : List Operation → Turn → Operation → Option ClientSession → List Span
served_during all t o None = []
served_during all t o (Some s) =
    if_so (is_served all t s o.ask) (until (quiesce_at t.config s.lease)) ++ if_so (not (is_sent o)) (from_on (quiesce_at t.config s.lease))

-- a sync, or another ask
abbrev pub answered_during : List Operation → Turn → Operation → Ask → List Span
answered_during all t o (asks.Sync f) = if_so (pages.is_hard t.here.store f.ino) (from_on 0)
answered_during all t o ask = served_during all t o t.here.session

-- an operation of this server
abbrev pub operation_during : List Operation → Turn → Operation → List Span
operation_during all t o = if is_of t.here.server o then answered_during all t o o.ask else []

-- all operations
abbrev pub operations_during : Turn → List Span
operations_during t = flat_map (operation_during t.operations t) t.operations

-- Reductions: a demanded lock that is idle and not busy.
abbrev pub is_reduced : Turn → ClientSession → ℕ → Bool
is_reduced t s ino = may_reduce t s ino && is_some (locks.reduce s.locks ino).given

-- of all demanded files
abbrev pub reductions_during : Turn → ClientSession → List Span
reductions_during t s = if_so (list_any (is_reduced t s) (locks.demanded_files s.locks)) (from_on 0)

-- Writes: a dirty page that has a block and isn't being written, until flush if its file is wanted, and from flush on if no command of it has failed.
abbrev pub is_writable : Turn → DirtyPage → Bool
is_writable t d = not (pages.is_being_written t.here.store.commands d.ino d.page) && pages.is_mapped t.here.store.extents d.ino d.page

-- such a page
abbrev pub due_during : Turn → ClientSession → DirtyPage → List Span
due_during t s d = if_so (is_wanted t s d.ino) (until (flush_at t.config s.lease)) ++ if_so (is_unfailed d) (from_on (flush_at t.config s.lease))

-- a dirty page
abbrev pub dirty_during : Turn → ClientSession → DirtyPage → List Span
dirty_during t s d = if is_writable t d then due_during t s d else []

-- if the page is dirty
abbrev pub page_during : Turn → ClientSession → Option DirtyPage → List Span
page_during t s None = []
page_during t s (Some d) = dirty_during t s d

-- the page of a place
abbrev pub place_during : Turn → ClientSession → ℕ × PageNo → List Span
place_during t s x = page_during t s (pages.dirty_of t.here.store.pages x.0 x.1)

-- all dirty pages
abbrev pub writes_during : Turn → ClientSession → List Span
writes_during t s = flat_map (place_during t s) (pages.dirty_places t.here.store.pages)

-- Greeting: an operation of the server is pending; again when the last greeting is old.
abbrev pub greeting_at : Config → Option Stamp → ℕ
greeting_at k None = 0
greeting_at k (Some at) = at.0 + k.retry

-- without a session
abbrev pub greeting_during : Turn → List Span
greeting_during t = if_so (list_any (is_of t.here.server) t.operations) (from_on (greeting_at t.config t.here.greeting))

-- Requests, unless the lease is condemned: the outstanding one again, when it is old; or with none outstanding a reassertion that is due, a release, what
-- an operation asks, and a keep-alive.

-- a lock is asked for when no wait of that mode is known, or when it was reported long ago
abbrev pub wait_end : Config → Mode → Option LockWait → ℕ
wait_end k mode None = 0
wait_end k mode (Some w) = if covers w.mode mode then w.at.0 + k.retry else 0

-- the lock on a file
abbrev pub lock_during : Turn → ClientSession → ℕ → Mode → List Span
lock_during t s ino mode = from_on (wait_end t.config mode (wait_of s.waits ino)) ∷ []

-- with a lock, which may be lower than needed
abbrev pub wanted_under : Turn → ClientSession → Ask → ℕ → HeldLock → List Span
wanted_under t s ask ino l = if covers l.mode (need ask) then if_so (is_some (want_held t ask ino l.g)) (from_on 0) else lock_during t s ino (need ask)

-- with a lock, or without
abbrev pub wanted_by : Turn → ClientSession → Ask → ℕ → Option HeldLock → List Span
wanted_by t s ask ino None = lock_during t s ino (need ask)
wanted_by t s ask ino (Some l) = wanted_under t s ask ino l

-- by the file
abbrev pub wanted_at : Turn → ClientSession → Ask → Option ℕ → List Span
wanted_at t s ask None = if_so (is_some (want_name ask)) (from_on 0)
wanted_at t s ask (Some ino) = wanted_by t s ask ino (locks.lock_of s.locks ino)

-- a sync asks nothing
abbrev pub wanted_during : Turn → ClientSession → Ask → List Span
wanted_during t s (asks.Sync f) = []
wanted_during t s ask = wanted_at t s ask (file_of ask)

-- what an operation asks
abbrev pub asked_during : Turn → ClientSession → Operation → List Span
asked_during t s o = if may_ask t s o then wanted_during t s o.ask else []

-- a release must be sent
abbrev pub has_release : List Release → Bool
has_release [] = false
has_release (r ∷ rs) = true

-- Keep-alives: from renewal, quiesce or flush on.
abbrev pub kept_alive : Config → ClientLease → List Span
kept_alive k l = from_on (l.date.0 + k.renew) ∷ (from_on (l.date.0 + k.quiesce) ∷ (from_on (flush_at k l) ∷ []))

-- with none outstanding
abbrev pub new_request_during : Turn → ClientSession → List Span
new_request_during t s =
    if_so (s.due || has_release s.releases) (from_on 0) ++ (flat_map (asked_during t s) t.operations ++ kept_alive t.config s.lease)

-- with one outstanding, or none
abbrev pub request_during : Turn → ClientSession → Option Request → List Span
request_during t s None = new_request_during t s
request_during t s (Some q) = from_on (q.sent.0 + t.config.retry) ∷ []

-- nothing is asked under a condemned lease
abbrev pub requests_during : Turn → ClientSession → List Span
requests_during t s = if s.lease.condemned then [] else request_during t s s.requests.asked

-- All: at a server, with a session or without; and at each server.
abbrev pub session_during : Turn → Option ClientSession → List Span
session_during t None = greeting_during t
session_during t (Some s) = from_on (lease_end_at t.config s.lease) ∷ (reductions_during t s ++ (writes_during t s ++ requests_during t s))

-- at a server
abbrev pub during_at : Turn → List Span
during_at t = operations_during t ++ session_during t t.here.session

-- at the server of an association
abbrev pub during_here : ClientState → Association → List Span
during_here s a = during_at (enter (client_turn s []) a)

-- the moments at which a tick does something
abbrev pub busy_during : ClientState → List Span
busy_during s = flat_map (during_here s) s.associations

-- the first of them from a moment on, if there is one
abbrev pub client_due : ClientState → Stamp → Option ℕ
client_due s from = first_of from.0 (busy_during s)

-- a reading of a clock
abbrev pub reading : ℕ → Stamp
reading m = record { 0 = m }

-- From a moment on, a tick leaves the client as it is, without outputs, up to the first moment of these; and at that moment it doesn't.
pub record ClientTickIsDue (s : ClientState) (from : Stamp) : Type 0 where
  pub before : (now : Stamp) → from.0 ≤ now.0 → is_due (client_due s from) now ≡ false → client_step s now Tick ≡ client_turn s []
  pub first : (m : ℕ) → client_due s from ≡ Some m → (from.0 ≤ m) × (client_step s (reading m) Tick ≢ client_turn s [])

-- at each state and each moment
abbrev pub ClientTicksAreDue : Type 0
ClientTicksAreDue = (s : ClientState) (from : Stamp) → ClientTickIsDue s from
