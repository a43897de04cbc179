-- No update of a container is lost, and one server holds it, whatever is put, ordered, locked, delivered, lost or repeated.
use Rattle.std.specs.Prelude.{◌≡◌, ◌≤◌, ℕ, Bool, true, false, ◌==◌, if◌then◌else◌, List, [], ◌∷◌, ◌++◌, Option, Some, None}
use Rattle.st_base.specs.declared.ids.ServerId.{ServerId}
use Rattle.st_rules.specs.World.{numbered}
use Rattle.st_move.specs.declared.record.ContainerRecord.{ContainerRecord}
use Rattle.st_move.specs.declared.record.ContainerState.{ContainerState}
use Rattle.st_move.specs.declared.record.ContainerState.TheVariants.{Holding, Leaving}
use Rattle.st_move.specs.declared.world.MoveEvent.{MoveEvent}
use Rattle.st_move.specs.declared.world.MoveEvent.TheVariants as events
use Rattle.st_move.specs.declared.site.MoveSite.{MoveSite}
use Rattle.st_move.specs.declared.world.MoveAnswer.{MoveAnswer}
use Rattle.st_move.specs.declared.world.MoveAnswer.TheVariants.{Counted, Listed}
use Rattle.st_move.specs.Containers.{is_locked}
use Rattle.st_move.specs.World.{MoveTurn, MoveWorld, fresh_world, happens}

-- The world, and of each container the list of its accepted updates: those whose put was answered with their number.
pub record MoveHistory : Type 0 where
  pub world : MoveWorld
  pub accepted : ℕ → List (List ℕ)

-- the accepted updates with one more of a container
abbrev pub accepts : (ℕ → List (List ℕ)) → ℕ → List ℕ → ℕ → List (List ℕ)
accepts accepted c u d = if d == c then accepted d ++ u ∷ [] else accepted d

-- the accepted updates after an event that is answered so
abbrev pub accepted_after : (ℕ → List (List ℕ)) → MoveEvent → List MoveAnswer → ℕ → List (List ℕ)
accepted_after accepted (events.Put s c u) (Counted n ∷ more) = accepts accepted c u
accepted_after accepted e answers = accepted

-- the history after an event
abbrev pub noted : MoveHistory → MoveEvent → MoveTurn → MoveHistory
noted h e t = record { world = t.world; accepted = accepted_after h.accepted e t.answers }

-- after these events
abbrev pub run_moves : MoveHistory → List MoveEvent → MoveHistory
run_moves h [] = h
run_moves h (e ∷ es) = run_moves (noted h e (happens h.world e)) es

-- the beginning: nothing is accepted
abbrev pub fresh_history : ℕ → ℕ → MoveHistory
fresh_history servers containers = record { world = fresh_world servers containers; accepted = λ c. [] }

-- what a server has of a container, if it has a record of it
abbrev pub known : Option (Option ContainerRecord) → Option ContainerRecord
known None = None
known (Some r) = r

-- the record of a container at a server that is there
abbrev pub record_in : Option MoveSite → ℕ → Option ContainerRecord
record_in None c = None
record_in (Some x) c = known (numbered x.containers.records c)

-- the record of a container at a server
abbrev pub record_at : MoveWorld → ℕ → ℕ → Option ContainerRecord
record_at w c s = record_in (numbered w.sites s) c

-- a server holds a container while it serves it and while it is about to send it
abbrev pub is_held : ContainerState → Bool
is_held Holding = true
is_held (Leaving to) = true
is_held s = false

-- the record is of a container that is held
abbrev pub holds_by : Option ContainerRecord → Bool
holds_by None = false
holds_by (Some r) = is_held r.state

-- the server holds the container
abbrev pub holds : MoveWorld → ℕ → ℕ → Bool
holds w c s = holds_by (record_at w c s)

-- a server that is there has a lock row of the container
abbrev pub locked_in : Option MoveSite → ℕ → Bool
locked_in None c = false
locked_in (Some x) c = is_locked x.locks c

-- the server has a lock row of the container
abbrev pub has_row : MoveWorld → ℕ → ℕ → Bool
has_row w c s = locked_in (numbered w.sites s) c

-- the updates are with a record: a server has it and has not been told that the container was taken
abbrev pub IsKeptBy : Option ContainerRecord → List (List ℕ) → Type 0
IsKeptBy None us = ⊥
IsKeptBy (Some r) us = r.updates ≡ us

-- What holds of the world after every list of events.
pub record OneHolder (containers : ℕ) (h : MoveHistory) : Type 0 where
  -- at most one server holds a container
  pub one : (c s t : ℕ) → holds h.world c s ≡ true → holds h.world c t ≡ true → s ≡ t
  -- what a list is answered is the list of accepted updates
  pub listed : (s : ServerId) (c : ℕ) (us : List (List ℕ)) → (happens h.world (events.List s c)).answers ≡ Listed us ∷ [] → us ≡ h.accepted c
  -- a server with a lock row of a container holds it, and no other server does
  pub locked : (c s : ℕ) → has_row h.world c s ≡ true → holds h.world c s ≡ true
  pub alone : (c s t : ℕ) → has_row h.world c s ≡ true → holds h.world c t ≡ true → s ≡ t
  -- some server has the accepted updates of each container
  pub kept : (c : ℕ) → 1 ≤ c → c ≤ containers → (s : ℕ) × IsKeptBy (record_at h.world c s) (h.accepted c)

-- over every list of events
abbrev pub NoUpdateIsLost : Type 0
NoUpdateIsLost = (servers containers : ℕ) (es : List MoveEvent) → 1 ≤ servers → OneHolder containers (run_moves (fresh_history servers containers) es)
