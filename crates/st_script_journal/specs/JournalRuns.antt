-- A journal's script on its way: the opened journal, and the stable part that it stands for.
use Rattle.std.specs.Prelude.{◌≡◌, ℕ, true, List, [], Option, Some, None, Result, Ok, Err, if◌then◌else◌, codes}
use Rattle.st_store.specs.InMemory.{InMemory, MayLeave, fresh_contents, held, recorded}
use Rattle.st_journal.specs.Journal.{IsJournal}
use Rattle.st_journal.specs.OpenedJournal.{Opened, Records}
use Rattle.st_store.specs.Plans.{IsQuiet}
use Rattle.st_journal.specs.Scan.{IsReadTo}
use Rattle.st_journal.specs.Stable.{after_changes}
use Rattle.st_journal.specs.declared.change.Change.{Change}
use Rattle.st_journal.specs.declared.fault.JournalFault.{JournalFault}
use Rattle.st_journal.specs.declared.fault.JournalFault.TheVariants.{Store, Memory}
use Rattle.st_journal.specs.declared.scan.Scanned.{Scanned}
use Rattle.st_store.specs.declared.plan.Plan.{Plan}
use Rattle.st_rules.specs.Server as server
use Rattle.st_script.specs.declared.fault.ScriptFault.{ScriptFault}
use Rattle.st_script.specs.Ends.{Reports}
use Rattle.st_script_journal.specs.JournalScripts.{JournalState, after_change, change_answer, fresh_journal, keeps, kept_text, refusal}
use Rattle.st_script.specs.Scripts.{Outcome}
use Rattle.st_script_journal.specs.Stops.{SetStop}
use Rattle.st_script_journal.specs.declared.journal_run.JournalAnswer.{JournalAnswer}
use Rattle.st_script_journal.specs.declared.journal_run.JournalAnswer.TheVariants.{Done, Refused, Stopped}

-- the number of bytes of a script's store: 4 MiB
abbrev pub STORE_SIZE : ℕ
STORE_SIZE = 4194304

-- what a store reads as
abbrev pub read_as : InMemory → List ℕ
read_as s = (held s.contents).seen

-- what a crash may leave of it
abbrev pub left_by : InMemory → List ℕ → Type 0
left_by s c = MayLeave (recorded s.contents) c

-- no call of the store fails, no stop is set, and none came
pub record IsSound (p : Plan) : Type 0 where
  pub none : p.failing.items ≡ []
  pub quiet : IsQuiet p

-- the store of a script: of 4 MiB, and sound; it reads as the journal of these changes
pub record HasJournal (s : InMemory) (changes : List Change) : Type 0 where
  pub size : s.contents.size ≡ STORE_SIZE
  pub sound : IsSound s.plan
  pub journal : IsJournal (read_as s) changes

-- 4 MiB of zeros, with no call to fail and no stop
pub record IsFreshStore (s : InMemory) : Type 0 where
  pub zeros : s.contents ≡ fresh_contents STORE_SIZE
  pub sound : IsSound s.plan

-- the changes lead there from the stable part at the beginning
abbrev pub Leads : List Change → server.Stable → Type 0
Leads changes state = after_changes (Some fresh_journal.stable) changes ≡ Some state

-- an opened journal with these changes, all acknowledged, which lead to this stable part; its store is of 4 MiB, and sound
pub record IsOpen (j : Opened InMemory) (changes : List Change) (state : server.Stable) : Type 0 where
  pub records : Records read_as left_by j changes None
  pub leads : Leads changes state
  pub size : j.store.contents.size ≡ STORE_SIZE
  pub sound : IsSound j.store.plan

-- this many changes, up to the gate at this place, were read of the store's journal, and lead to this stable part
abbrev pub IsKnown : InMemory → server.Stable → Scanned → Type 0
IsKnown s state known = IsReadTo (read_as s) fresh_journal.stable state known

-- an opened journal, the stable part that its changes lead to, and the stop that no append has met yet
pub record Running : Type 0 where
  pub journal : Opened InMemory
  pub stable : server.Stable
  pub stop : Option SetStop

-- it stands for this state of a script
pub record Holds (s : JournalState) (r : Running) : Type 0 where
  pub opened : IsOpen r.journal s.changes s.stable
  pub stable : r.stable ≡ s.stable
  pub stop : r.stop ≡ s.stop

-- its journal has these changes, which lead to this stable part, and no stop is set
pub record Starts (changes : List Change) (state : server.Stable) (r : Running) : Type 0 where
  pub opened : IsOpen r.journal changes state
  pub stable : r.stable ≡ state
  pub unset : r.stop ≡ None

-- the stable part after an append in which the store stopped
abbrev pub stable_after : SetStop → server.Stable → server.Stable → server.Stable
stable_after p old new = if keeps p then new else old

-- The answer to a change, as its text.
abbrev pub answer_text : JournalAnswer → List ℕ
answer_text Done = codes " ok"
answer_text (Refused r) = refusal r
answer_text (Stopped kept) = kept_text kept

-- what a change comes to: the state after it, and its answer
abbrev pub Comes : JournalState → Change → Running × JournalAnswer → Type 0
Comes s x y = Holds (after_change s x) y.0 × (answer_text y.1 ≡ change_answer s x)

-- a script's value stands for this state: its journal is running
abbrev pub Stands : JournalState → Option Running → Type 0
Stands s None = ⊥
Stands s (Some r) = Holds s r

-- the bytes of the store are the journal of exactly the changes that were recorded
abbrev pub HasChanges : JournalState → InMemory → Type 0
HasChanges s store = IsJournal (read_as store) s.changes

-- Why an append of a script fails, if no stop is set: memory ran out, for the append or for the store's record of it.
abbrev pub IsWantOfMemory : InMemory → JournalFault → Type 0
IsWantOfMemory store Store = store.starved ≡ true
IsWantOfMemory store Memory = Unit {0}
IsWantOfMemory store f = ⊥

-- What was written, next to the outcome of all bytes, as `Reports` says; and if the script went through its end, the bytes of the
-- store that is given back are the journal of exactly the changes that were recorded.
abbrev pub Leaves : Result InMemory ScriptFault → Option (List ℕ) → Option (List ℕ) → Outcome JournalState → Type 0
Leaves (Ok store) before now o = Reports (λ s. HasChanges s store) (Ok tt) before now o
Leaves (Err e) before now o = Reports (λ s. Unit {0}) (Err e) before now o
