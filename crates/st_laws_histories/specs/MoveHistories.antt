-- Histories of containers that move while servers crash and start, and what is promised about all of them.
use Rattle.std.specs.Prelude.{◌≡◌, ◌≤◌, ℕ, zero, suc, ◌+◌, Bool, not, ◌==◌, if◌then◌else◌, List, [], ◌∷◌, ◌++◌, length, filter, Option, Some, None}
use Rattle.std.specs.List.{list_any}
use Rattle.st_base.specs.declared.ids.ServerId.{ServerId}
use Rattle.st_rules.specs.World.{numbered}
use Rattle.st_move.specs.Law.{MoveHistory, OneHolder, fresh_history, noted, run_moves}
use Rattle.st_move.specs.World.{MoveWorld, happens}
use Rattle.st_move.specs.declared.world.MoveAnswer.TheVariants.{Counted}
use Rattle.st_move.specs.declared.world.MoveEvent.{MoveEvent}
use Rattle.st_move.specs.declared.world.MoveEvent.TheVariants as events
use Rattle.st_move.specs.declared.world.SentMove.{SentMove}

-- What happens: an event of the moves, or a server crashes or starts.
pub data Event : Type 0 where
  Moves : (event : MoveEvent) → Event
  Crashes : (server : ServerId) → Event
  Starts : (server : ServerId) → Event

-- a history, and the servers that are down, by their numbers
pub record Running : Type 0 where
  pub history : MoveHistory
  pub down : List ℕ

abbrev pub is_down : List ℕ → ℕ → Bool
is_down down s = list_any (λ d. s == d) down

-- the server for which a message is
abbrev pub receiver_in : Option SentMove → ℕ
receiver_in None = 0
receiver_in (Some m) = m.to.0

-- the server at which an event is; a loss is at none
abbrev pub place_of : MoveWorld → MoveEvent → ℕ
place_of w (events.Put s c u) = s.0
place_of w (events.List s c) = s.0
place_of w (events.Lock s c) = s.0
place_of w (events.Unlock s c) = s.0
place_of w (events.Order s c to) = s.0
place_of w (events.Tick s) = s.0
place_of w (events.Deliver k) = receiver_in (numbered w.sent k)
place_of w (events.Lose k) = 0

-- An event at a server that is down does nothing, and is answered nothing.
abbrev pub moves : Running → MoveEvent → Running
moves r e = if is_down r.down (place_of r.history.world e) then r else record r { history = noted r.history e (happens r.history.world e) }

-- A crash takes the locks: each of this many containers is unlocked. Records and messages stay.
abbrev pub unlocks : ServerId → ℕ → List MoveEvent
unlocks s zero = []
unlocks s (suc c) = unlocks s c ++ events.Unlock s (c + 1) ∷ []

abbrev pub crashes : ℕ → Running → ServerId → Running
crashes containers r s = record { history = run_moves r.history (unlocks s containers); down = s.0 ∷ r.down }

abbrev pub starts : Running → ServerId → Running
starts r s = record r { down = filter (λ d. not (s.0 == d)) r.down }

abbrev pub after_event : ℕ → Running → Event → Running
after_event containers r (Moves e) = moves r e
after_event containers r (Crashes s) = crashes containers r s
after_event containers r (Starts s) = starts r s

-- after these events
abbrev pub run : ℕ → Running → List Event → Running
run containers r [] = r
run containers r (e ∷ es) = run containers (after_event containers r e) es

-- all servers run, and nothing is accepted
abbrev pub fresh_running : ℕ → ℕ → Running
fresh_running servers containers = record { history = fresh_history servers containers; down = [] }

-- What holds after every list of events: there is one holder of each container and no update is lost, and the number that a put is answered
-- is that of the accepted updates with its own.
pub record IsKept (containers : ℕ) (h : MoveHistory) : Type 0 where
  pub held : OneHolder containers h
  pub counted : (s : ServerId) (c n : ℕ) (u : List ℕ) → (happens h.world (events.Put s c u)).answers ≡ Counted n ∷ [] → n ≡ length (h.accepted c) + 1

abbrev pub EveryMoveIsKept : Type 0
EveryMoveIsKept = (servers containers : ℕ) (es : List Event) → 1 ≤ servers → IsKept containers (run containers (fresh_running servers containers) es).history
