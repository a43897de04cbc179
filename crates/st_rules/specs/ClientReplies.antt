-- The client machine: what it does with a server's messages.
use Rattle.std.specs.Prelude.{ℕ, ◌+◌, Bool, true, false, ◌&&◌, ◌||◌, not, ◌==◌, nat_lt, nat_le, if◌then◌else◌, List, [], ◌∷◌, map, Option, Some, None, is_some, ⊤}
use Rattle.std.specs.List.{list_any}
use Rattle.st_base.specs.declared.ids.Epoch.{Epoch}
use Rattle.st_base.specs.declared.ids.GrantNo.{GrantNo}
use Rattle.st_base.specs.declared.ids.PageNo.{PageNo}
use Rattle.st_base.specs.declared.ids.Stamp.{Stamp}
use Rattle.st_base.specs.declared.mode.Mode.{Mode}
use Rattle.st_base.specs.declared.mode.Mode.TheVariants as modes
use Rattle.st_base.specs.Mode.{covers}
use Rattle.st_base.specs.declared.rows.ExtentRow.{ExtentRow}
use Rattle.st_messages.specs.declared.answer.AppAnswer.{AppAnswer}
use Rattle.st_messages.specs.declared.answer.AppAnswer.TheVariants as answers
use Rattle.st_messages.specs.declared.message.Header.{Header}
use Rattle.st_messages.specs.declared.message.Body.{Body}
use Rattle.st_messages.specs.declared.message.Body.TheVariants as bodies
use Rattle.st_messages.specs.declared.message.NameReply.{NameReply}
use Rattle.st_messages.specs.declared.message.NameReply.TheVariants.{Ino, Listed, Refused}
use Rattle.st_messages.specs.declared.message.Why.{Why}
use Rattle.st_messages.specs.declared.message.Why.TheVariants as why
use Rattle.st_messages.specs.declared.output.Note.TheVariants as notes
use Rattle.st_rules.specs.declared.client.Request.{Request}
use Rattle.st_rules.specs.declared.client.LockWait.{LockWait}
use Rattle.st_rules.specs.declared.client.HeldLock.{HeldLock}
use Rattle.st_rules.specs.declared.client.Asked.{Asked}
use Rattle.st_rules.specs.declared.client.Asked.TheVariants.{Reduce, NotHeld, Stale}
use Rattle.st_rules.specs.declared.client.Operation.{Operation}
use Rattle.st_rules.specs.declared.client.Stage.TheVariants.{Stuck}
use Rattle.st_rules.specs.ClientLease as lease
use Rattle.st_rules.specs.ClientLease.{ClientLease}
use Rattle.st_rules.specs.ClientLocks as locks
use Rattle.st_rules.specs.ClientLocks.{LockCache}
use Rattle.st_rules.specs.ClientPages as pages
use Rattle.st_rules.specs.ClientPages.{Store}
use Rattle.st_rules.specs.ClientState.{ClientSession, Turn, ClientTurn, no_requests, is_request_of, with_session, with_store, with_operations, with_lease, with_cache, with_release, without_request, note, send, at_each, is_asked, is_on, is_sync, changes_page, at_stage, answer_each, forget_wait, with_wait, is_release, is_releasing, reasserts, is_refusal, asks_cut_or_remove, fits, file_asked, page_asked, client_state_open}
use Rattle.st_rules.specs.Keys.{server_node}

-- Welcome: a session begins in the message's epoch; its lease has the message's stamp, which is that of the greeting.
abbrev pub new_session : Epoch → Stamp → ClientSession
new_session epoch stamp =
    record {
      epoch = epoch;
      lease = lease.new_lease stamp;
      requests = no_requests;
      cutting = None;
      due = false;
      locks = locks.no_cached_locks;
      waits = [];
      releases = [];
    }

-- an association whose session begins
abbrev pub begin_here : ClientSession → Turn → Turn
begin_here s t = record t { here = record t.here { greeting = None; session = Some s } }

-- the lease is noted with its end
unfoldable pub note_lease : ClientLease → Turn → Turn
note_lease l t = note t (notes.Leased t.here.server (lease.end_of t.config l))

-- the session begins
unfoldable pub begin_session : Turn → Epoch → Stamp → Turn
begin_session t epoch stamp = note_lease (lease.new_lease stamp) (begin_here (new_session epoch stamp) t)

-- it greets, and the lease would not be over yet
abbrev pub is_timely : Turn → Stamp → Stamp → Bool
is_timely t now stamp = is_some t.here.greeting && nat_lt now.0 (stamp.0 + t.config.lease)

-- Welcome
unfoldable pub welcome : Turn → Stamp → Epoch → Stamp → Turn
welcome t now epoch stamp = if is_timely t now stamp then begin_session t epoch stamp else t

-- Without a session every other message is ignored.
unfoldable pub without_session : Turn → Stamp → Header → Body → Turn
without_session t now h bodies.Welcome = welcome t now (record { 0 = h.epoch }) (record { 0 = h.stamp })
without_session t now h body = t

-- A newer epoch: the outstanding request is given up, and if it is a cut or a name its operation is uncertain; waits, releases and demands are forgotten;
-- numbers begin anew, and the locks must be reasserted. Locks, with what was seen of them, and pages stay.
abbrev pub in_epoch : Epoch → ClientSession → ClientSession
in_epoch epoch s =
    record s { epoch = epoch; requests = no_requests; cutting = None; due = true; locks = locks.forget_demands s.locks; waits = []; releases = [] }

-- the epoch is this one now
unfoldable pub follow_epoch : Turn → ClientSession → Epoch → Turn
follow_epoch t s epoch = answer_each (is_asked t.here.server) (answers.Uncertain s.epoch.0 epoch.0) (with_session (in_epoch epoch s) t)

-- a later epoch, and the lease was not condemned
abbrev pub is_newer : ClientSession → Epoch → Bool
is_newer s epoch = nat_lt s.epoch.0 epoch.0 && not s.lease.condemned

-- A newer epoch
unfoldable pub newer_epoch : Turn → ClientSession → Epoch → Turn
newer_epoch t s epoch = if is_newer s epoch then follow_epoch t s epoch else t

-- only a refusal as of another epoch reports one
abbrev pub refused_in : Turn → ClientSession → Epoch → Why → Turn
refused_in t s epoch why.OtherEpoch = newer_epoch t s epoch
refused_in t s epoch other = t

-- Of another epoch: every other message is ignored.
unfoldable pub of_other_epoch : Turn → ClientSession → Epoch → Body → Turn
of_other_epoch t s epoch (bodies.Nack w a b) = refused_in t s epoch w
of_other_epoch t s epoch body = t

-- Condemning: the lease is no longer renewed.
unfoldable pub condemn : Turn → ClientSession → Turn
condemn t s = with_session (with_lease (lease.condemned s.lease) s) t

-- Granted: the wait is forgotten. A grant above the greatest seen is the greatest seen; it is installed if there is a place for it, and otherwise declined:
-- its release goes last.
unfoldable pub accept_grant : ClientSession → ℕ → GrantNo → Mode → ClientSession
accept_grant s ino g mode = with_cache (locks.installed s.locks ino g mode) s

-- the grant is given back
unfoldable pub decline : ClientSession → ℕ → GrantNo → ClientSession
decline s ino g = with_release ino g modes.None (with_cache (locks.observe s.locks ino g) s)

-- a grant above the greatest seen
unfoldable pub grant_new : ClientSession → ℕ → GrantNo → Mode → ClientSession
grant_new s ino g mode = if locks.has_place s.locks ino then accept_grant s ino g mode else decline s ino g

-- by what was seen
unfoldable pub grant : ClientSession → ℕ → GrantNo → Mode → ClientSession
grant s ino g mode = if locks.is_above_seen s.locks ino g then grant_new s ino g mode else s

-- Granted
unfoldable pub granted : Turn → ClientSession → ℕ → GrantNo → Mode → Turn
granted t s ino g mode = with_session (grant (forget_wait ino s) ino g mode) t

-- Queued: the wait was reported now, if the held mode is lower.
abbrev pub told_wait : ℕ → Mode → Stamp → LockWait
told_wait ino mode now = record { ino = ino; mode = mode; at = now }

-- the wait is known
unfoldable pub wait_told : ClientSession → ℕ → Mode → Stamp → ClientSession
wait_told s ino mode now = record s { waits = with_wait (told_wait ino mode now) s.waits }

-- by the held mode
unfoldable pub wait_unless_held : ClientSession → ℕ → Mode → Stamp → ClientSession
wait_unless_held s ino mode now = if covers (locks.mode_of s.locks ino) mode then s else wait_told s ino mode now

-- Queued
unfoldable pub queued : Turn → ClientSession → Stamp → ℕ → Mode → Turn
queued t s now ino mode = with_session (wait_unless_held s ino mode now) t

-- Extents: if the lock's grant is still the request's, the told rows are known; a map that found none makes its page known
-- as unmapped.
abbrev pub with_extents_known : ℕ → List ExtentRow → Store → Store
with_extents_known ino rows st = record st { extents = pages.with_known_rows ino rows st.extents }

-- the page has no block
abbrev pub with_unmapped : ℕ → PageNo → Store → Store
with_unmapped ino p st = record st { extents = pages.with_known (pages.known_unmapped ino p) st.extents }

-- a map's page, or none
abbrev pub learn_map : ℕ → PageNo → List ExtentRow → Store → Store
learn_map ino p [] st = with_unmapped ino p st
learn_map ino p (r ∷ rs) st = with_extents_known ino (r ∷ rs) st

-- by the request
abbrev pub learned : ℕ → List ExtentRow → Body → Store → Store
learned ino rows (bodies.Map i g p) st = learn_map ino p rows st
learned ino rows asked st = with_extents_known ino rows st

-- the lock has the grant of the request
abbrev pub is_grant : GrantNo → Option HeldLock → Bool
is_grant g None = false
is_grant g (Some l) = l.g.0 == g.0

-- the grant under which extents were asked
abbrev pub is_current : LockCache → Body → Bool
is_current c (bodies.Map ino g p) = is_grant g (locks.lock_of c ino)
is_current c (bodies.Allocate ino g p count) = is_grant g (locks.lock_of c ino)
is_current c asked = false

-- the rows are known
unfoldable pub learn : Turn → ℕ → List ExtentRow → Body → Turn
learn t ino rows asked = with_store (learned ino rows asked t.here.store) t

-- Extents
unfoldable pub extents : Turn → ClientSession → ℕ → List ExtentRow → Body → Turn
extents t s ino rows asked = if is_current s.locks asked then learn t ino rows asked else t

-- Acknowledged: if the request is a cut, its operation is answered. Only that of a cut or a name is marked as sent.
unfoldable pub acknowledged : Turn → Turn
acknowledged t = answer_each (is_asked t.here.server) answers.Cut t

-- Named: the operation is answered with the inode, the entries or the refusal's number. If the file was removed, its lock is dropped, and its demand with it,
-- and its release goes last.
abbrev pub name_answer : NameReply → AppAnswer
name_answer (Ino ino) = answers.Named ino
name_answer (Listed rows) = answers.Listed rows
name_answer (Refused code) = answers.Refused code

-- the lock goes
unfoldable pub drop_lock : Turn → ClientSession → ℕ → HeldLock → Turn
drop_lock t s ino l = with_session (with_release ino l.g modes.None (with_cache (locks.drop_lock s.locks ino) s)) t

-- if the lock is held
unfoldable pub drop_held : Turn → ClientSession → ℕ → Option HeldLock → Turn
drop_held t s ino None = t
drop_held t s ino (Some l) = drop_lock t s ino l

-- the file that was removed, if one was
unfoldable pub removed : Turn → ClientSession → Option ℕ → Turn
removed t s None = t
removed t s (Some ino) = drop_held t s ino (locks.lock_of s.locks ino)

-- by the reply
unfoldable pub named_as : Turn → ClientSession → Option ℕ → NameReply → Turn
named_as t s file (Ino ino) = removed t s file
named_as t s file reply = t

-- Named
unfoldable pub named : Turn → ClientSession → Option ℕ → NameReply → Turn
named t s file reply = named_as (answer_each (is_asked t.here.server) (name_answer reply) t) s file reply

-- Reasserted: the locks need no longer be reasserted.
unfoldable pub reasserted : Turn → ClientSession → Turn
reasserted t s = with_session (record s { due = false }) t

-- Refused: what is pending on the request's file, or on its page, is answered; an operation that is not, is stuck.

-- all of a file but its syncs
abbrev pub works_on : Turn → ℕ → Operation → Bool
works_on t ino o = is_on t.here.server ino o && not (is_sync o.ask)

-- the operations that write a page
abbrev pub writes_on : Turn → ℕ → PageNo → Operation → Bool
writes_on t ino p o = changes_page t.here.server ino p o.ask

-- on the file, if there is one
unfoldable pub refuse_file : Turn → AppAnswer → Option ℕ → Turn
refuse_file t answer None = t
refuse_file t answer (Some ino) = answer_each (works_on t ino) answer t

-- on the page, if there is one
unfoldable pub refuse_page : Turn → AppAnswer → Option ℕ → Option PageNo → Turn
refuse_page t answer (Some ino) (Some p) = answer_each (writes_on t ino p) answer t
refuse_page t answer file page = t

-- the operation of a cut or a remove
unfoldable pub refuse_holder : Turn → Body → Turn
refuse_holder t asked = if asks_cut_or_remove asked then answer_each (is_asked t.here.server) answers.NotHolder t else t

-- by the refusal
unfoldable pub refuse_as : Turn → Why → ℕ → ℕ → Option ℕ → Body → Turn
refuse_as t why.NoFile a b file asked = refuse_file t answers.NoFile file
refuse_as t why.TooManyLocks a b file asked = refuse_file t answers.TooManyLocks file
refuse_as t why.NoSpace a b file asked = refuse_page t (answers.NoSpace a b) file (page_asked asked)
refuse_as t why.NotHolder a b file asked = refuse_holder t asked
refuse_as t other a b file asked = t

-- the operation of the request that ended, if it is still pending
abbrev pub stuck : Turn → Operation → Operation
stuck t o = if is_asked t.here.server o then at_stage Stuck o else o

-- it was not answered
unfoldable pub leave_stuck : Turn → Turn
leave_stuck t = with_operations (map (stuck t) t.operations) t

-- Refused
unfoldable pub refused : Turn → Why → ℕ → ℕ → Option ℕ → Body → Turn
refused t w a b file asked = leave_stuck (refuse_as t w a b file asked)

-- What a counting reply does, besides renewing: by the reply, with the request that it ends and its file.
unfoldable pub effect : Turn → ClientSession → Stamp → Body → Option ℕ → Body → Turn
effect t s now (bodies.Granted ino g mode) file asked = granted t s ino g mode
effect t s now (bodies.Queued ino mode) file asked = queued t s now ino mode
effect t s now (bodies.Extents ino rows) file asked = extents t s ino rows asked
effect t s now bodies.Ack file asked = acknowledged t
effect t s now (bodies.Named reply) file asked = named t s file reply
effect t s now bodies.Reasserted file asked = reasserted t s
effect t s now (bodies.Nack w a b) file asked = refused t w a b file asked
effect t s now reply file asked = t

-- Renewing: if the lease is not condemned and the reply's stamp is later, that is the date, with a note.
abbrev pub with_renewed : Stamp → ClientSession → ClientSession
with_renewed stamp s = with_lease (lease.renewed stamp s.lease) s

-- the renewed lease is noted
unfoldable pub note_renewal : Turn → ClientSession → Stamp → Turn
note_renewal t s stamp = if lease.is_renewal stamp s.lease then note_lease (lease.renewed stamp s.lease) t else t

-- A counting reply ends the request, renews the lease, and has its effect.
abbrev pub ended_by : Stamp → ClientSession → ClientSession
ended_by stamp s = with_renewed stamp (without_request s)

-- the session after that
unfoldable pub end_request : Turn → ClientSession → Stamp → Turn
end_request t s stamp = with_session (ended_by stamp s) (note_renewal t s stamp)

-- the request ends
unfoldable pub reply_to : Turn → ClientSession → Stamp → Stamp → Body → Body → Turn
reply_to t s now stamp reply asked = effect (end_request t s stamp) (ended_by stamp s) now reply (file_asked s.cutting asked) asked

-- a refused reassertion
abbrev pub refuses_reassertion : Body → Body → Bool
refuses_reassertion reply asked = is_refusal reply && reasserts asked

-- Counting: a refused reassertion condemns the lease; every other counting reply ends the request.
unfoldable pub count_reply : Turn → ClientSession → Stamp → Stamp → Body → Body → Turn
count_reply t s now stamp reply asked = if refuses_reassertion reply asked then condemn t s else reply_to t s now stamp reply asked

-- a reply counts if its number is the outstanding one and it fits the request
abbrev pub is_counting : ℕ → Body → Request → Bool
is_counting number reply q = is_request_of number q && fits reply q.body

-- by the outstanding request
unfoldable pub by_request : Turn → ClientSession → Stamp → ℕ → Stamp → Body → Request → Turn
by_request t s now number stamp reply q = if is_counting number reply q then count_reply t s now stamp reply q.body else t

-- if there is one
unfoldable pub counted : Turn → ClientSession → Stamp → ℕ → Stamp → Body → Option Request → Turn
counted t s now number stamp reply None = t
counted t s now number stamp reply (Some q) = by_request t s now number stamp reply q

-- a reply of the session's epoch
unfoldable pub reply_of : Turn → ClientSession → Stamp → Header → Body → Turn
reply_of t s now h reply = counted t s now h.number (record { 0 = h.stamp }) reply s.requests.asked

-- Refusals of the session's epoch: some condemn the lease, two are ignored, and the others are replies.
abbrev pub nack : Turn → ClientSession → Stamp → Header → Why → ℕ → ℕ → Turn
nack t s now h why.Suspect a b = condemn t s
nack t s now h why.NoSession a b = condemn t s
nack t s now h why.OtherEpoch a b = t
nack t s now h why.Grace a b = t
nack t s now h why.GraceOver a b = condemn t s
nack t s now h why.Conflict a b = condemn t s
nack t s now h w a b = reply_of t s now h (bodies.Nack w a b)

-- A grant that answers no request has number 0, and does nothing but grant.
unfoldable pub grant_or_reply : Turn → ClientSession → Stamp → Header → ℕ → GrantNo → Mode → Turn
grant_or_reply t s now h ino g mode = if h.number == 0 then granted t s ino g mode else reply_of t s now h (bodies.Granted ino g mode)

-- Demand. Without a lock its release goes last, unless it is there or outstanding. A lock of a later grant is ignored. Otherwise the file is demanded, and the
-- demand is seen.
abbrev pub has_release : ClientSession → ℕ → GrantNo → Bool
has_release s ino g = list_any (is_release ino g modes.None) s.releases || is_releasing ino g modes.None s.requests.asked

-- the release goes last
unfoldable pub release_unheld : ClientSession → ℕ → GrantNo → ClientSession
release_unheld s ino g = if has_release s ino g then s else with_release ino g modes.None s

-- the demand is seen
unfoldable pub observe_demand : Turn → ClientSession → ℕ → GrantNo → Turn
observe_demand t s ino g = send (with_session s t) s.epoch.0 0 0 (bodies.DemandSeen ino g)

-- by what becomes of the demand
unfoldable pub demand_as : Turn → ClientSession → ℕ → GrantNo → Asked → Turn
demand_as t s ino g Reduce = observe_demand t s ino g
demand_as t s ino g NotHeld = with_session (release_unheld s ino g) t
demand_as t s ino g Stale = t

-- with the locks after it
unfoldable pub demand_by : Turn → ClientSession → ℕ → GrantNo → locks.Demanding → Turn
demand_by t s ino g d = demand_as t (with_cache d.locks s) ino g d.asked

-- Demand
unfoldable pub demand : Turn → ClientSession → ℕ → GrantNo → Mode → Turn
demand t s ino g to = demand_by t s ino g (locks.demand s.locks ino g to)

-- A message of the session's epoch: by what it says.
unfoldable pub of_epoch : Turn → ClientSession → Stamp → Header → Body → Turn
of_epoch t s now h (bodies.Nack w a b) = nack t s now h w a b
of_epoch t s now h (bodies.Granted ino g mode) = grant_or_reply t s now h ino g mode
of_epoch t s now h (bodies.Demand ino g to) = demand t s ino g to
of_epoch t s now h body = reply_of t s now h body

-- by its epoch
unfoldable pub with_a_session : Turn → ClientSession → Stamp → Header → Body → Turn
with_a_session t s now h body = if h.epoch == s.epoch.0 then of_epoch t s now h body else of_other_epoch t s (record { 0 = h.epoch }) body

-- with a session, or without
unfoldable pub by_session : Turn → Stamp → Header → Body → Option ClientSession → Turn
by_session t now h body None = without_session t now h body
by_session t now h body (Some s) = with_a_session t s now h body

-- Receiving: a message that is not to this client, not from a configured server, of another life than at that server, or of a later stamp than now, is ignored.
abbrev pub is_received : Turn → Stamp → Header → Bool
is_received t now h = (h.from == server_node t.here.server) && ((h.life == t.here.life.0) && nat_le h.stamp now.0)

-- at a server: whether it is from there
unfoldable pub receive_at : Stamp → Header → Body → Turn → Turn
receive_at now h body t = if is_received t now h then by_session t now h body t.here.session else t

-- it is addressed to this client
unfoldable pub receive_here : ClientTurn → Stamp → Header → Body → ClientTurn
receive_here t now h body = at_each (receive_at now h body) t

-- Receiving
unfoldable pub receive : ClientTurn → Stamp → Header → Body → ClientTurn
receive t now h body = if h.to == t.state.id.0 then receive_here t now h body else t

-- opens all of this file and of the state
unfoldable pub client_replies_open : ⊤
unfolding client_state_open note_lease begin_session welcome without_session follow_epoch newer_epoch of_other_epoch condemn accept_grant decline grant_new grant granted wait_told wait_unless_held queued learn extents acknowledged drop_lock drop_held removed named_as named reasserted refuse_file refuse_page refuse_holder refuse_as leave_stuck refused effect note_renewal end_request reply_to count_reply by_request counted reply_of grant_or_reply release_unheld observe_demand demand_as demand_by demand of_epoch with_a_session by_session receive_at receive_here receive send
client_replies_open = tt
