-- A server whose changes are kept in groups: what it holds, and what its calls make of it.
use Rattle.std.specs.Prelude.{◌≡◌, ◌≢◌, ◌⊎◌, if◌then◌else◌, ◌≤◌, ◌<◌, ◌+◌, ◌-◌, ◌^◌, ◌&&◌, ℕ, nat_le, Bool, true, false, List, [], length, Option, Some, None, Ok, is_some, ⊤}
use Rattle.st_base.specs.declared.ids.Stamp.{Stamp}
use Rattle.st_durable.specs.Durable.{DurableServer, IsAsked, IsMade, Tells, asked}
use Rattle.st_held_steps.specs.Held as held
use Rattle.st_held_steps.specs.Held.{Held}
use Rattle.st_journal.specs.Changes.{bytes_of}
use Rattle.st_journal.specs.declared.change.Change.{Change}
use Rattle.st_journal_bytes.specs.Moments.{dated_bytes}
use Rattle.st_kept_journal.specs.Keeping as keeping
use Rattle.st_kept_journal.specs.Keeping.{IsFullFor, Keeping, MovesSwitch, OpensGate, WritesGroup, WritesSnapshot, added}
use Rattle.st_kept_journal.specs.declared.task.Task.{Task}
use Rattle.st_kept_journal.specs.declared.task.Task.TheVariants as tasks
use Rattle.st_kept_journal.specs.declared.task.Write.{Write}
use Rattle.st_messages.specs.declared.output.Output.{Output}
use Rattle.st_rules.specs.Server as server
use Rattle.st_rules.specs.Server.{Stable}
use Rattle.st_rules.specs.declared.input.ServerInput.{ServerInput}
use Rattle.st_server.specs.Room.{HasRoom}
use Rattle.st_snapshot.specs.Snapshots.{snapshot}
use Rattle.st_kept_histories.specs.declared.fault.KeptRefusal.{KeptRefusal}
use Rattle.st_kept_histories.specs.declared.fault.KeptRefusal.TheVariants as refusals
use Rattle.st_kept_histories.specs.declared.stage.Stage.{Stage}
use Rattle.st_kept_histories.specs.declared.stage.Stage.TheVariants.{Rest, Writing, Written, Ending}

-- a snapshot of a stable part, with the moment of its last change
abbrev pub snapshot_of : ℕ → Stable → List ℕ
snapshot_of moment t = dated_bytes moment (snapshot t)

-- The server with the change of its last step or start; its journal's file; what steps gave and nobody took yet; how far the program is with a write; how many
-- changes are kept by what is under way; the moment of the last change, and that of the last step.
pub record KeptServer : Type 0 where
  pub server : DurableServer
  pub journal : Keeping
  pub steps : Held (List Output)
  pub stage : Stage
  pub covered : ℕ
  pub moment : ℕ
  pub last : ℕ

-- something is under way exactly while a write or a sync is due
abbrev pub IsStaged : Stage → Task → Type 0
IsStaged Rest tasks.Rest = ⊤
IsStaged Rest t = ⊥
IsStaged s tasks.Rest = ⊥
IsStaged s t = ⊤

-- the stable part, and whether the node runs
abbrev pub stable_now : KeptServer → Stable
stable_now e = e.server.node.state.stable

abbrev pub runs : KeptServer → Bool
runs e = e.server.node.running

-- Steps.

-- the record of a change that was made at this moment waits, if there is one
abbrev pub with_change : Keeping → ℕ → Option Change → Keeping
with_change j moment None = j
with_change j moment (Some x) = added j (dated_bytes moment (bytes_of x))

-- there is too little room for it
abbrev pub IsFullOf : Keeping → ℕ → Option Change → Type 0
IsFullOf j moment None = ⊥
IsFullOf j moment (Some x) = IsFullFor j (length (dated_bytes moment (bytes_of x)))

-- the moment of the last change
abbrev pub moment_after : ℕ → ℕ → Bool → ℕ
moment_after last now changed = if changed then now else last

-- moments never fall, and are at most 2^62
abbrev pub is_in_time : ℕ → Stamp → Bool
is_in_time last now = nat_le last now.0 && nat_le now.0 (2 ^ 62)

-- A step may be taken: an input that asks for a change has room for any record.
pub record MayStep (old : KeptServer) (now : Stamp) (input : ServerInput) : Type 0 where
  pub runs_so : runs old ≡ true
  pub in_time : is_in_time old.last now ≡ true
  pub counters : HasRoom old.server.node.state
  pub few : held.may_step old.steps ≡ true
  pub room : is_some (asked input) ≡ true → IsFullFor old.journal 529 → ⊥

-- A step: the node takes it; its change waits, if it made one, and what it gave is held until that change is kept, and each change before it.
pub record Steps (old new : KeptServer) (now : Stamp) (input : ServerInput) : Type 0 where
  pub may : MayStep old now input
  pub outputs : List Output
  pub node : server.node_step old.server.node now input ≡ Ok (record { node = new.server.node; out = outputs })
  pub told : Tells (stable_now old) (stable_now new) new.server.changed
  pub asked_so : IsAsked input new.server.changed
  pub journal : new.journal ≡ with_change old.journal now.0 new.server.changed
  pub steps : new.steps ≡ held.stepped old.steps outputs (is_some new.server.changed)
  pub moment : new.moment ≡ moment_after old.moment now.0 (is_some new.server.changed)
  pub last : new.last ≡ now.0
  pub stage : new.stage ≡ old.stage
  pub covered : new.covered ≡ old.covered

-- What a step gave is held, and its change waits.
abbrev pub holding : KeptServer → Stamp → List Output → KeptServer
holding e now outputs =
    record e {
      journal = with_change e.journal now.0 e.server.changed;
      steps = held.stepped e.steps outputs (is_some e.server.changed);
      moment = moment_after e.moment now.0 (is_some e.server.changed);
    }

-- the node is crashed, and what it held stays
abbrev pub stopped : KeptServer → KeptServer
stopped e = record e { server = record e.server { node = server.crash_node e.server.node } }

-- Memory ran out before the change waited, or after that.
abbrev pub Loses : KeptServer → KeptServer → Stamp → Type 0
Loses old new now = (new ≡ stopped old) ⊎ (new ≡ record (stopped old) { journal = with_change old.journal now.0 old.server.changed })

-- The change of a step that ran out of memory waits, although what the step gave is lost.
pub record IsRecorded (old new : KeptServer) (now : Stamp) : Type 0 where
  pub change : Change
  pub made : IsMade (stable_now old) (stable_now new) change
  pub journal : new.journal ≡ with_change old.journal now.0 (Some change)

-- Memory ran out in a step that may be taken: the node is crashed, and gives nothing; its change may wait.
pub record Starves (old new : KeptServer) (now : Stamp) (input : ServerInput) : Type 0 where
  pub may : MayStep old now input
  pub stopped : runs new ≡ false
  pub journal : (new.journal ≡ old.journal) ⊎ IsRecorded old new now
  pub steps : new.steps ≡ old.steps
  pub moment : new.moment ≡ old.moment
  pub last : new.last ≡ now.0
  pub stage : new.stage ≡ old.stage
  pub covered : new.covered ≡ old.covered

-- why a step is refused, in the order of the checks
abbrev pub Refuses : KeptServer → KeptServer → Stamp → ServerInput → KeptRefusal → Type 0
Refuses old new now input refusals.Crashed = (runs old ≡ false) × (new ≡ old)
Refuses old new now input refusals.Time = (runs old ≡ true) × (is_in_time old.last now ≡ false) × (new ≡ old)
Refuses old new now input refusals.Counters = (runs old ≡ true) × (is_in_time old.last now ≡ true) × (HasRoom old.server.node.state → ⊥) × (new ≡ old)
Refuses old new now input refusals.Waits = (runs old ≡ true) × (is_in_time old.last now ≡ true) × HasRoom old.server.node.state ×
    (held.may_step old.steps ≡ false) × (new ≡ old)
Refuses old new now input refusals.Full =
    (runs old ≡ true) × (is_in_time old.last now ≡ true) × HasRoom old.server.node.state × (held.may_step old.steps ≡ true) × (is_some (asked input) ≡ true)
    × IsFullFor old.journal 529 × (new ≡ old)
Refuses old new now input refusals.Starved = Starves old new now input

-- What the program writes.

-- A group of all that waits.
pub record BeginsGroup (old new : KeptServer) (w : Write) : Type 0 where
  pub rest : old.stage ≡ Rest
  pub some : old.journal.waiting ≢ []
  pub write : WritesGroup old.journal w
  pub new_so : new ≡ record old { journal = keeping.group_begun old.journal; stage = Writing; covered = old.steps.made - old.steps.kept }

-- A snapshot of the present stable part, with all that waits, because the area is half full.
pub record BeginsSnapshot (old new : KeptServer) (w : Write) : Type 0 where
  pub rest : old.stage ≡ Rest
  pub runs_so : runs old ≡ true
  pub half : keeping.is_half_full old.journal ≡ true
  pub write : WritesSnapshot old.journal (snapshot_of old.moment (stable_now old)) w
  pub new_so : new ≡ record old
      { journal = keeping.switch_begun old.journal (snapshot_of old.moment (stable_now old)); stage = Writing; covered = old.steps.made - old.steps.kept }

-- The gate of a group that was synced, or the switch after a snapshot that was.
abbrev pub WritesEnd : Keeping → Task → Write → Type 0
WritesEnd j tasks.Rest w = ⊥
WritesEnd j (tasks.Group count) w = OpensGate j w
WritesEnd j (tasks.Switch count gate) w = MovesSwitch j w

pub record Ends (old new : KeptServer) (w : Write) : Type 0 where
  pub written : old.stage ≡ Written
  pub write : WritesEnd old.journal old.journal.task w
  pub new_so : new ≡ record old { stage = Ending }

-- what is written next
abbrev pub Writes : KeptServer → KeptServer → Write → Type 0
Writes old new w = BeginsGroup old new w ⊎ (BeginsSnapshot old new w ⊎ Ends old new w)

-- Nothing is written: a sync is due, or nothing waits.
abbrev pub IsQuiet : KeptServer → Type 0
IsQuiet e = (e.stage ≡ Writing) ⊎ ((e.stage ≡ Ending) ⊎ ((e.stage ≡ Rest) × (e.journal.waiting ≡ [])))

-- Syncs.

-- the group, or what the snapshot has, is kept
abbrev pub ended : KeptServer → Task → KeptServer
ended e tasks.Rest = e
ended e (tasks.Group count) = record e { journal = keeping.group_kept e.journal count; steps = held.kept_more e.steps e.covered; stage = Rest }
ended e (tasks.Switch count gate) = record e { journal = keeping.switched e.journal count gate; steps = held.kept_more e.steps e.covered; stage = Rest }

-- what was written is synced
abbrev pub synced_at : KeptServer → Stage → KeptServer
synced_at e Rest = e
synced_at e Writing = record e { stage = Written }
synced_at e Written = e
synced_at e Ending = ended e e.journal.task

abbrev pub synced : KeptServer → KeptServer
synced e = synced_at e e.stage

-- what the first step gave is taken, if its change is kept, and each change before it
abbrev pub taken : KeptServer → KeptServer
taken e = record e { steps = record e.steps { steps = held.others e.steps.kept e.steps.steps } }
