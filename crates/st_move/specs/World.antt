-- Servers with containers, their lock tables, and the messages between them: what may happen, and what is answered.
-- docs/PROTOCOL.md, "A container moves by order".
use Rattle.std.specs.Prelude.{ℕ, zero, suc, ◌+◌, Bool, true, false, if◌then◌else◌, List, [], ◌∷◌, ◌++◌, length, map, Option, Some, None, is_some, Result, Ok, Err, ⊤}
use Rattle.st_base.specs.declared.ids.ClientId.{ClientId}
use Rattle.st_base.specs.declared.ids.ServerId.{ServerId}
use Rattle.st_base.specs.declared.ids.Life.{Life}
use Rattle.st_base.specs.declared.mode.Mode.TheVariants as modes
use Rattle.st_rules.specs.Locks.{Locks, grant, no_locks, row_of, without_row}
use Rattle.st_rules.specs.World.{numbered, with_numbered}
use Rattle.st_move.specs.declared.record.ContainerRecord.{ContainerRecord}
use Rattle.st_move.specs.declared.record.MoveMessage.{MoveMessage}
use Rattle.st_move.specs.declared.refusal.MoveRefusal.{MoveRefusal}
use Rattle.st_move.specs.declared.site.MoveSite.{MoveSite}
use Rattle.st_move.specs.declared.world.MoveAnswer.{MoveAnswer}
use Rattle.st_move.specs.declared.world.MoveAnswer.TheVariants.{Done, Counted, Listed, Refused, NoServer, NoLock, NoMessage, LostMessage, Sends}
use Rattle.st_move.specs.declared.world.MoveEvent.{MoveEvent}
use Rattle.st_move.specs.declared.world.MoveEvent.TheVariants as events
use Rattle.st_move.specs.declared.world.SentMove.{SentMove}
use Rattle.st_move.specs.Calls.{count_at}
use Rattle.st_move.specs.Containers.{Containers, after_order, after_put, after_take, after_tick, answer_to, fresh_containers, held, images, listed}

-- The servers by their numbers from 1, and every message that was sent, by its number from 1.
pub record MoveWorld : Type 0 where
  pub sites : List MoveSite
  pub sent : List SentMove

-- The world after an event, and the answers.
pub record MoveTurn : Type 0 where
  pub world : MoveWorld
  pub answers : List MoveAnswer

-- one answer
abbrev pub told : MoveWorld → MoveAnswer → MoveTurn
told w a = record { world = w; answers = a ∷ [] }

-- The beginning.
abbrev pub server : ℕ → ServerId
server n = record { 0 = n }

-- a server as it begins, without locks, in epoch 1
abbrev pub fresh_site : ℕ → ℕ → ℕ → MoveSite
fresh_site servers containers s = record { containers = fresh_containers (server s) servers containers; locks = no_locks (record { 0 = 1 }) }

-- that many servers after this one, as they begin
unfoldable pub sites_behind : ℕ → ℕ → ℕ → ℕ → List MoveSite
sites_behind servers containers s zero = []
sites_behind servers containers s (suc n) = fresh_site servers containers (s + 1) ∷ sites_behind servers containers (s + 1) n

-- that many servers with this many containers
abbrev pub fresh_world : ℕ → ℕ → MoveWorld
fresh_world servers containers = record { sites = sites_behind servers containers 0 servers; sent = [] }

-- Changes of a server.
abbrev pub with_site : ServerId → MoveSite → MoveWorld → MoveWorld
with_site s x w = record { sites = with_numbered s.0 x w.sites; sent = w.sent }

-- with other containers
abbrev pub with_containers : ServerId → MoveSite → Containers → MoveWorld → MoveWorld
with_containers s x m w = with_site s (record { containers = m; locks = x.locks }) w

-- with another lock table
abbrev pub with_locks : ServerId → MoveSite → Locks → MoveWorld → MoveWorld
with_locks s x l w = with_site s (record { containers = x.containers; locks = l }) w

-- Put.
unfoldable pub put_told : MoveWorld → ServerId → MoveSite → ℕ → Result Containers MoveRefusal → MoveTurn
put_told w s x c (Ok m) = told (with_containers s x m w) (Counted (count_at c m))
put_told w s x c (Err e) = told w (Refused e)

-- an update is put at this server, if there is one
unfoldable pub put_at : MoveWorld → ServerId → ℕ → List ℕ → Option MoveSite → MoveTurn
put_at w s c u None = told w (NoServer s)
put_at w s c u (Some x) = put_told w s x c (after_put x.containers c u)

-- List.
unfoldable pub list_told : MoveWorld → Result (List (List ℕ)) MoveRefusal → MoveTurn
list_told w (Ok us) = told w (Listed us)
list_told w (Err e) = told w (Refused e)

-- the updates are listed at this server, if there is one
unfoldable pub list_at : MoveWorld → ServerId → ℕ → Option MoveSite → MoveTurn
list_at w s c None = told w (NoServer s)
list_at w s c (Some x) = list_told w (listed x.containers c)

-- Lock and unlock: client 1 has an exclusive lock of the container, or has none. A lock is granted if the container is
-- served, and refused as a put is.
abbrev pub one : ClientId
one = record { 0 = 1 }

-- the life of client 1
abbrev pub first : Life
first = record { 0 = 1 }

-- client 1 has a lock of the container
abbrev pub has_lock : Locks → ℕ → Bool
has_lock l c = is_some (row_of l one c)

-- the lock table in which client 1 has a lock of the container
unfoldable pub locked : Locks → ℕ → Locks
locked l c = if has_lock l c then l else grant l one first c modes.X

-- the lock is granted, or refused
unfoldable pub lock_told : MoveWorld → ServerId → MoveSite → ℕ → Result ContainerRecord MoveRefusal → MoveTurn
lock_told w s x c (Ok r) = told (with_locks s x (locked x.locks c) w) Done
lock_told w s x c (Err e) = told w (Refused e)

-- a lock is asked of this server, if there is one
unfoldable pub lock_at : MoveWorld → ServerId → ℕ → Option MoveSite → MoveTurn
lock_at w s c None = told w (NoServer s)
lock_at w s c (Some x) = lock_told w s x c (held x.containers c)

-- the lock table without the lock
unfoldable pub unlocked : Locks → ℕ → Locks
unlocked l c = record l { rows = without_row one c l.rows }

-- a lock is released at this server, if there is one
unfoldable pub unlock_at : MoveWorld → ServerId → ℕ → Option MoveSite → MoveTurn
unlock_at w s c None = told w (NoServer s)
unlock_at w s c (Some x) = if has_lock x.locks c then told (with_locks s x (unlocked x.locks c) w) Done else told w NoLock

-- Order. Both servers must be there, the first before the second.
unfoldable pub order_told : MoveWorld → ServerId → MoveSite → Result Containers MoveRefusal → MoveTurn
order_told w s x (Ok m) = told (with_containers s x m w) Done
order_told w s x (Err e) = told w (Refused e)

-- the order comes to this server for that one, if there is one
unfoldable pub order_for : MoveWorld → ServerId → MoveSite → ℕ → ServerId → Option MoveSite → MoveTurn
order_for w s x c to None = told w (NoServer to)
order_for w s x c to (Some y) = order_told w s x (after_order x.containers c to)

-- the order comes to this server, if there is one
unfoldable pub order_at : MoveWorld → ServerId → ℕ → ServerId → Option MoveSite → MoveTurn
order_at w s c to None = told w (NoServer s)
order_at w s c to (Some x) = order_for w s x c to (numbered w.sites to.0)

-- Sending: a message goes last, and its number is returned.
abbrev pub sent_move : ServerId → ServerId × MoveMessage → SentMove
sent_move from p = record { from = from; to = p.0; message = p.1; lost = false }

-- the messages that are reported, numbered after this one
unfoldable pub sends_behind : ℕ → List SentMove → List MoveAnswer
sends_behind k [] = []
sends_behind k (m ∷ ms) = Sends (k + 1) m ∷ sends_behind (k + 1) ms

-- these messages are sent
abbrev pub sends : List SentMove → MoveWorld → MoveTurn
sends ms w = record { world = record { sites = w.sites; sent = w.sent ++ ms }; answers = sends_behind (length w.sent) ms }

-- Tick.
unfoldable pub ticked : MoveWorld → ServerId → MoveSite → Containers → MoveTurn
ticked w s x m = sends (map (sent_move s) (images m)) (with_containers s x m w)

-- a tick of this server, if there is one
unfoldable pub tick_at : MoveWorld → ServerId → Option MoveSite → MoveTurn
tick_at w s None = told w (NoServer s)
tick_at w s (Some x) = ticked w s x (after_tick x.containers x.locks)

-- Deliver and lose.
unfoldable pub answer_sent : SentMove → Option MoveMessage → List SentMove
answer_sent m None = []
answer_sent m (Some message) = sent_move m.to (m.from, message) ∷ []

-- the message comes to its server, if there is one
unfoldable pub taken_by : MoveWorld → SentMove → Option MoveSite → MoveTurn
taken_by w m None = told w (NoServer m.to)
taken_by w m (Some x) = sends (answer_sent m (answer_to m.message)) (with_containers m.to x (after_take x.containers m.message) w)

-- the message of this number is delivered, if there is one that is not lost
unfoldable pub deliver_at : MoveWorld → ℕ → Option SentMove → MoveTurn
deliver_at w k None = told w (NoMessage k)
deliver_at w k (Some m) = if m.lost then told w (LostMessage k) else taken_by w m (numbered w.sites m.to.0)

-- a message that is lost
abbrev pub lost_move : SentMove → SentMove
lost_move m = record { from = m.from; to = m.to; message = m.message; lost = true }

-- with this message lost
abbrev pub with_lost : ℕ → SentMove → MoveWorld → MoveWorld
with_lost k m w = record { sites = w.sites; sent = with_numbered k (lost_move m) w.sent }

-- the message of this number is lost, if there is one that is not lost
unfoldable pub lose_at : MoveWorld → ℕ → Option SentMove → MoveTurn
lose_at w k None = told w (NoMessage k)
lose_at w k (Some m) = if m.lost then told w (LostMessage k) else record { world = with_lost k m w; answers = [] }

-- What an event does.
unfoldable pub happens : MoveWorld → MoveEvent → MoveTurn
happens w (events.Put s c u) = put_at w s c u (numbered w.sites s.0)
happens w (events.List s c) = list_at w s c (numbered w.sites s.0)
happens w (events.Lock s c) = lock_at w s c (numbered w.sites s.0)
happens w (events.Unlock s c) = unlock_at w s c (numbered w.sites s.0)
happens w (events.Order s c to) = order_at w s c to (numbered w.sites s.0)
happens w (events.Tick s) = tick_at w s (numbered w.sites s.0)
happens w (events.Deliver k) = deliver_at w k (numbered w.sent k)
happens w (events.Lose k) = lose_at w k (numbered w.sent k)

-- opens all of this file
unfoldable pub move_world_open : ⊤
unfolding sites_behind put_told put_at list_told list_at locked lock_told lock_at unlocked unlock_at order_told order_for order_at sends_behind ticked tick_at answer_sent taken_by deliver_at lose_at happens
move_world_open = tt
