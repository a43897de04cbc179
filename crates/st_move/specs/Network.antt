-- Servers with containers in code: what a call at one of them does to all, and what holds of them after a run.
use Rattle.std.specs.Prelude.{◌≡◌, ◌≢◌, ◌≤◌, ◌<◌, ◌+◌, ℕ, true, List, [], ◌∷◌, length, Option, Some, None}
use Rattle.std.specs.List.{list_all}
use Rattle.st_base.specs.declared.ids.ServerId.{ServerId}
use Rattle.st_rules.specs.World.{numbered}
use Rattle.st_move.specs.declared.record.MoveMessage.{MoveMessage}
use Rattle.st_move.specs.declared.refusal.MoveRefusal.{MoveRefusal}
use Rattle.st_move.specs.declared.refusal.MoveRefusal.TheVariants as refusals
use Rattle.st_move.specs.declared.site.MoveSite.{MoveSite}
use Rattle.st_move.specs.declared.world.MoveAnswer.{MoveAnswer}
use Rattle.st_move.specs.declared.world.MoveAnswer.TheVariants.{Refused}
use Rattle.st_move.specs.declared.world.MoveEvent.{MoveEvent}
use Rattle.st_move.specs.declared.world.SentMove.{SentMove}
use Rattle.st_move.specs.Conditions.{CanLock}
use Rattle.st_move.specs.Containers.{Containers, container_of, has_next}
use Rattle.st_move.specs.Law.{OneHolder, fresh_history, run_moves}
use Rattle.st_move.specs.World.{MoveTurn, MoveWorld, told, with_site}

-- Calls at one server.

-- a call at a server leaves it and answers as the rule says, in every world in which the server was as it was
abbrev pub DoesAt : MoveSite → MoveSite → MoveAnswer → (MoveWorld → ServerId → MoveTurn) → Type 0
DoesAt old new answer rule = (w : MoveWorld) (s : ServerId) → numbered w.sites s.0 ≡ Some old → rule w s ≡ told (with_site s new w) answer

-- the answer to a refusal, which isn't lack of memory
abbrev pub Refuses : MoveRefusal → MoveAnswer → Type 0
Refuses why answer = (answer ≡ Refused why) × (why ≢ refusals.Memory)

-- the server with other containers
abbrev pub with_containers : MoveSite → Containers → MoveSite
with_containers x m = record { containers = m; locks = x.locks }

-- the place of a server among all, from 0, or none if there is no such server
abbrev pub IsSiteAt : List MoveSite → ServerId → Option ℕ → Type 0
IsSiteAt sites s None = numbered sites s.0 ≡ None
IsSiteAt sites s (Some p) = (s.0 ≡ p + 1) × (p < length sites)

-- the place of a message among those that were sent, from 0, or none if there is no such message
abbrev pub IsSentAt : List SentMove → ℕ → Option ℕ → Type 0
IsSentAt sent k None = numbered sent k ≡ None
IsSentAt sent k (Some p) = (k ≡ p + 1) × (p < length sent)

-- the answer to a message, with the server that it is for
abbrev pub addressed : ServerId → Option MoveMessage → List (ServerId × MoveMessage)
addressed to None = []
addressed to (Some answer) = (to, answer) ∷ []

-- the world and the answers after an event
abbrev pub turned : MoveWorld → List MoveAnswer → MoveTurn
turned w answers = record { world = w; answers = answers }

-- What the events need of a world.
pub record CanHappen (w : MoveWorld) : Type 0 where
  pub ticks : (s : ℕ) (x : MoveSite) → numbered w.sites s ≡ Some x → list_all has_next x.containers.records ≡ true
  pub locks : (s : ℕ) (x : MoveSite) → numbered w.sites s ≡ Some x → CanLock x.locks
  pub some : (k : ℕ) (m : SentMove) → numbered w.sent k ≡ Some m → 1 ≤ container_of m.message
  pub known : (k : ℕ) (m : SentMove) → numbered w.sent k ≡ Some m
      → (s : ℕ) (x : MoveSite) → numbered w.sites s ≡ Some x → container_of m.message ≤ length x.containers.records

-- A world, and how many events led to it.
pub record MoveNetwork : Type 0 where
  pub world : MoveWorld
  pub events : ℕ

-- These events lead from the beginning to this world.
pub record IsRun (servers containers : ℕ) (es : List MoveEvent) (r : MoveNetwork) : Type 0 where
  pub some : 1 ≤ servers
  pub few : containers < 1024
  pub count : length es ≡ r.events
  pub world : (run_moves (fresh_history servers containers) es).world ≡ r.world

-- a run leads here
pub record IsReached (r : MoveNetwork) : Type 0 where
  pub servers : ℕ
  pub containers : ℕ
  pub events : List MoveEvent
  pub by : IsRun servers containers events r

-- no update is lost in a run that leads here
abbrev pub AreKept : MoveNetwork → Type 0
AreKept r =
    (servers containers : ℕ) (es : List MoveEvent)
    → IsRun servers containers es r
    → OneHolder containers (run_moves (fresh_history servers containers) es)
