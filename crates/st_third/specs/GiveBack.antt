-- Give locks back: a full client asks for no lock of a further file; it demands one of its own
-- locks, down to none, for the first operation that needs a further file.
use Rattle.std.specs.Prelude.{ℕ, ◌+◌, Bool, false, ◌&&◌, ◌||◌, not, ◌==◌, nat_lt, nat_le, if◌then◌else◌, List, [], ◌∷◌, length, find, filter, Option, Some, None, is_some, ⊤}
use Rattle.std.specs.Option.{option_or}
use Rattle.std.specs.List.{list_any, list_all}
use Rattle.st_base.specs.declared.ids.Stamp.{Stamp}
use Rattle.st_base.specs.declared.config.Config.{Config}
use Rattle.st_base.specs.declared.mode.Mode.TheVariants as modes
use Rattle.st_base.specs.Mode.{number_of}
use Rattle.st_messages.specs.declared.answer.AppAnswer.TheVariants as answers
use Rattle.st_rules.specs.declared.client.DemandedFile.{DemandedFile}
use Rattle.st_rules.specs.declared.client.HeldLock.{HeldLock}
use Rattle.st_rules.specs.declared.client.LockWait.{LockWait}
use Rattle.st_rules.specs.declared.client.Operation.{Operation}
use Rattle.st_rules.specs.declared.pages.DirtyPage.{DirtyPage}
use Rattle.st_rules.specs.ClientLocks as locks
use Rattle.st_rules.specs.ClientPages as pages
use Rattle.st_rules.specs.ClientPages.{Store}
use Rattle.st_rules.specs.ClientReplies as replies
use Rattle.st_rules.specs.ClientState.{ClientSession, Turn, file_of, is_busy, is_on, is_sent, is_serving, is_sync, wait_of, with_cache}
use Rattle.st_third.specs.State.{ThirdTurn, here, is_active, is_operation_numbered, plainly, session, with_beside, with_its_session}
use Rattle.st_third.specs.Room.{is_hopeful}

-- Full: the files that the client holds a lock of, or waits for on behalf of a pending operation,
-- are as many as may be.

-- a pending operation is on the file
abbrev pub is_wanted_file : ThirdTurn → ℕ → Bool
is_wanted_file t ino = list_any (is_on (here t) ino) t.plain.operations

-- a useful wait: for a file without a lock, on behalf of a pending operation
abbrev pub is_useful : ThirdTurn → ClientSession → LockWait → Bool
is_useful t s w = is_wanted_file t w.ino && not (is_some (locks.lock_of s.locks w.ino))

-- the files that count
abbrev pub places : ThirdTurn → ClientSession → ℕ
places t s = locks.count s.locks + length (filter (is_useful t s) s.waits)

-- Full
abbrev pub is_full : ThirdTurn → ClientSession → Bool
is_full t s = nat_le t.limits.locks (places t s)

-- Stuck: a dirty page of the file failed and isn't being written.
abbrev pub is_stuck_page : Store → ℕ → DirtyPage → Bool
is_stuck_page st ino d = pages.is_dirty_on ino d && not (is_hopeful st.commands d)

-- the file is stuck
abbrev pub is_stuck : Store → ℕ → Bool
is_stuck st ino = list_any (is_stuck_page st ino) st.pages.dirty

-- the lock's file is stuck
abbrev pub is_stuck_lock : Store → HeldLock → Bool
is_stuck_lock st l = is_stuck st l.ino

-- as many locks as may be, and all their files are stuck
abbrev pub is_all_stuck : ThirdTurn → ClientSession → Bool
is_all_stuck t s = nat_le t.limits.locks (locks.count s.locks) && list_all (is_stuck_lock t.plain.here.store) s.locks.rows

-- A lock is on its way back: demanded to none, of a file that isn't stuck.
abbrev pub is_to_none : DemandedFile → Bool
is_to_none d = number_of d.to == 0

-- a demand by which a lock comes back
abbrev pub is_coming : Store → DemandedFile → Bool
is_coming st d = is_to_none d && not (is_stuck st d.ino)

-- a lock is on its way back
abbrev pub is_on_its_way : ThirdTurn → ClientSession → Bool
is_on_its_way t s = list_any (is_coming t.plain.here.store) s.locks.demanded

-- What is given back: a lock of a file that no operation before this one names, that isn't demanded
-- to none, busy or stuck.

-- an operation before this one names the file
abbrev pub is_named_before : ThirdTurn → Operation → ℕ → Operation → Bool
is_named_before t o ino x = is_on (here t) ino x && nat_lt x.op o.op

-- the file is demanded to none
abbrev pub is_given : ClientSession → ℕ → Bool
is_given s ino = list_any (λ d. locks.is_demand_on ino d && is_to_none d) s.locks.demanded

-- the lock may be given back
abbrev pub is_spare : ThirdTurn → ClientSession → Operation → HeldLock → Bool
is_spare t s o l =
    not (list_any (is_named_before t o l.ino) t.plain.operations)
    && (not (is_given s l.ino) && (not (is_busy t.plain.operations (here t) s l.ino) && not (is_stuck t.plain.here.store l.ino)))

-- the locks that may be given back
abbrev pub spare : ThirdTurn → ClientSession → Operation → List HeldLock
spare t s o = filter (is_spare t s o) s.locks.rows

-- the lock's file is idle
abbrev pub is_idle_lock : Store → HeldLock → Bool
is_idle_lock st l = pages.is_idle st l.ino

-- the lock with the lesser grant number
unfoldable pub lesser_lock : HeldLock → HeldLock → HeldLock
lesser_lock l m = if nat_le l.g.0 m.g.0 then l else m

-- this lock or another one, if there is one
abbrev pub lesser_of : HeldLock → Option HeldLock → HeldLock
lesser_of l None = l
lesser_of l (Some m) = lesser_lock l m

-- the lock with the lowest grant number
unfoldable pub lowest : List HeldLock → Option HeldLock
lowest [] = None
lowest (l ∷ ls) = Some (lesser_of l (lowest ls))

-- an idle file's lock before any other, and then the lowest grant number
unfoldable pub chosen : ThirdTurn → List HeldLock → Option HeldLock
chosen t ls = option_or (lowest (filter (is_idle_lock t.plain.here.store) ls)) (lowest ls)

-- the client demands the file to none
abbrev pub demanded : ℕ → ClientSession → ClientSession
demanded ino s = with_cache (record s.locks { demanded = locks.with_demand (locks.demanded_file ino modes.None) s.locks.demanded }) s

-- the lock is given back, if there is one
unfoldable pub give_lock : ThirdTurn → ClientSession → Option HeldLock → ThirdTurn
give_lock t s None = t
give_lock t s (Some l) = with_its_session (demanded l.ino s) t

-- unless a lock is on its way back already
unfoldable pub give_unless : ThirdTurn → ClientSession → Operation → ThirdTurn
give_unless t s o = if is_on_its_way t s then t else give_lock t s (chosen t (spare t s o))

-- the operations of the file are refused
abbrev pub too_many : Option ℕ → Turn → Turn
too_many file t = replies.refuse_file t answers.TooManyLocks file

-- Giving a lock back for an operation, or refusing the operations of its file
unfoldable pub give_back : ThirdTurn → ClientSession → Operation → ThirdTurn
give_back t s o = if is_all_stuck t s then plainly (too_many (file_of o.ask)) t else give_unless t s o

-- A further file: the operation needs a lock of a file that the client neither holds a lock of nor
-- waits for.
abbrev pub is_further : ClientSession → Option ℕ → Bool
is_further s None = false
is_further s (Some ino) = not (is_some (locks.lock_of s.locks ino)) && not (is_some (wait_of s.waits ino))

-- an active operation that was not sent
abbrev pub may_need : ThirdTurn → Operation → Bool
may_need t o = is_active t.leaves (here t) o && (not (is_sent o) && not (is_sync o.ask))

-- it needs a further file
abbrev pub needs_further : ThirdTurn → ClientSession → Operation → Bool
needs_further t s o = may_need t o && is_further s (file_of o.ask)

-- it is still pending
abbrev pub is_pending : ThirdTurn → Operation → Bool
is_pending t o = list_any (is_operation_numbered o.op) t.plain.operations

-- Giving back, for the first operation that needs a further file. One that is refused makes way for
-- the next.
unfoldable pub give_or_go_on : (ThirdTurn → ThirdTurn) → ThirdTurn → ClientSession → Operation → ThirdTurn
give_or_go_on go_on t s o = if is_all_stuck t s then go_on (give_back t s o) else give_back t s o

-- if the client is full
unfoldable pub give_if_full : (ThirdTurn → ThirdTurn) → ThirdTurn → ClientSession → Operation → ThirdTurn
give_if_full go_on t s o = if is_full t s then give_or_go_on go_on t s o else t

-- this operation, or a later one
unfoldable pub give_for : (ThirdTurn → ThirdTurn) → ThirdTurn → ClientSession → Operation → ThirdTurn
give_for go_on t s o = if is_pending t o && needs_further t s o then give_if_full go_on t s o else go_on t

-- the first of these operations that needs a further file
unfoldable pub give_each : ClientSession → List Operation → ThirdTurn → ThirdTurn
give_each s [] t = t
give_each s (o ∷ os) t = give_for (give_each s os) t s o

-- in valid and renewal
unfoldable pub giving_under : ThirdTurn → ClientSession → Stamp → ThirdTurn
giving_under t s now = if is_serving t.plain.config s now then give_each s t.plain.operations t else t

-- with a session
unfoldable pub giving_by : ThirdTurn → Stamp → Option ClientSession → ThirdTurn
giving_by t now None = t
giving_by t now (Some s) = giving_under t s now

-- Giving back
unfoldable pub giving : Stamp → ThirdTurn → ThirdTurn
giving now t = giving_by t now (session t)

-- The server is full: it refused a lock of a file as too many. Nobody is answered; a lock is given
-- back for the first active operation that needs one of the file.

-- the refusal came now
abbrev pub with_full : Stamp → ThirdTurn → ThirdTurn
with_full now t = with_beside (record t.beside { full = Some now }) t

-- an active operation that needs a lock of the file
abbrev pub needs_file : ThirdTurn → ℕ → Operation → Bool
needs_file t ino o = is_on (here t) ino o && (is_active t.leaves (here t) o && not (is_sync o.ask))

-- for this operation, if there is one
unfoldable pub give_at : ThirdTurn → ClientSession → Option Operation → ThirdTurn
give_at t s None = t
give_at t s (Some o) = give_back t s o

-- The server is full
unfoldable pub full_at : ThirdTurn → ClientSession → Stamp → ℕ → ThirdTurn
full_at t s now ino = give_at (with_full now t) s (find (needs_file t ino) t.plain.operations)

-- the server refused a lock as too many a short while ago
abbrev pub was_full : Config → Stamp → Option Stamp → Bool
was_full k now None = false
was_full k now (Some at) = nat_lt now.0 (at.0 + k.retry)

-- no lock of a further file is asked for
abbrev pub waits_for_place : ThirdTurn → ClientSession → Stamp → Operation → Bool
waits_for_place t s now o = is_further s (file_of o.ask) && (is_full t s || was_full t.plain.config now t.beside.full)

-- opens all of this file and of those below it
unfoldable pub give_back_open : ⊤
unfolding lesser_lock lowest chosen give_lock give_unless give_back give_or_go_on give_if_full give_for give_each giving_under giving_by giving give_at full_at
give_back_open = tt
