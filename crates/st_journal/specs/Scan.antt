-- What is read after a gate.
use Rattle.std.specs.Prelude.{◌≡◌, ◌≢◌, ◌≤◌, ◌<◌, ◌+◌, ◌*◌, ℕ, Bool, true, false, List, ◌∷◌, ◌++◌, length, drop, Option, Some, None, Result, Ok, IsOk}
use Rattle.std.specs.List.{list_all}
use Rattle.st_link.specs.Causes.{Rose}
use Rattle.st_journal.specs.Changes.{fits}
use Rattle.st_journal.specs.Journal.{framed, opened, all_opened, StandsFor, IsDamaged}
use Rattle.st_journal.specs.Stable.{after_changes, apply}
use Rattle.st_rules.specs.Server.{Stable}
use Rattle.st_journal.specs.declared.change.Change.{Change}
use Rattle.st_journal.specs.declared.scan.Scanned.{Scanned}
use Rattle.st_journal.specs.declared.stable.ChangeRefusal.{ChangeRefusal}
use Rattle.st_journal.specs.declared.fault.JournalFault.{JournalFault}
use Rattle.st_journal.specs.declared.fault.JournalFault.TheVariants.{Damaged, Full, Store, Broken, Memory}

-- a gate that is not open
pub record IsClosedAt (bytes : List ℕ) (at : ℕ) : Type 0 where
  pub gate : ℕ
  pub rest : List ℕ
  pub parts : drop at bytes ≡ gate ∷ rest
  pub closed : gate ≢ 1

-- a gate at this place, which is open or not
abbrev pub IsGateAt : List ℕ → ℕ → Bool → Type 0
IsGateAt bytes at true = drop at bytes ≡ 1 ∷ drop (at + 1) bytes
IsGateAt bytes at false = IsClosedAt bytes at

-- from this place on the number of a change's bytes, its bytes, and a gate; that many bytes come before the gate
pub record IsFramedAt (bytes : List ℕ) (at : ℕ) (x : Change) (count : ℕ) : Type 0 where
  pub gate : ℕ
  pub rest : List ℕ
  pub parts : drop at bytes ≡ framed x ++ gate ∷ rest
  pub ranges : fits x ≡ true
  pub counted : count ≡ length (framed x)

-- no change begins at this place with a gate after it
abbrev pub IsUnframedAt : List ℕ → ℕ → Type 0
IsUnframedAt bytes at = (x : Change) (gate : ℕ) (more : List ℕ) → fits x ≡ true → drop at bytes ≡ framed x ++ gate ∷ more → ⊥

-- an open gate, and after it this change, of that many bytes with the gate, and the next gate
pub record IsOpenAt (bytes : List ℕ) (at : ℕ) (x : Change) (count : ℕ) : Type 0 where
  pub gate : ℕ
  pub rest : List ℕ
  pub parts : drop at bytes ≡ opened x ++ gate ∷ rest
  pub ranges : fits x ≡ true
  pub counted : count ≡ length (opened x)

-- an open gate that no change follows with its next gate
pub record IsBareAt (bytes : List ℕ) (at : ℕ) : Type 0 where
  pub rest : List ℕ
  pub parts : drop at bytes ≡ 1 ∷ rest
  pub none : (x : Change) (gate : ℕ) (more : List ℕ) → fits x ≡ true → rest ≡ framed x ++ gate ∷ more → ⊥

-- what is at a gate
abbrev pub StandsAt : List ℕ → ℕ → Option (Change × ℕ) → Type 0
StandsAt bytes at None = IsClosedAt bytes at
StandsAt bytes at (Some found) = IsOpenAt bytes at found.0 found.1

-- the store failed, or memory ran out
abbrev pub NotReached : ℕ → ℕ → JournalFault → Type 0
NotReached before now Store = Rose before now
NotReached before now Memory = Unit {0}
NotReached before now (Damaged place) = ⊥
NotReached before now Broken = ⊥
NotReached before now (Full free asked) = ⊥

-- why nothing was read at a gate
abbrev pub NotRead : List ℕ → ℕ → ℕ → ℕ → JournalFault → Type 0
NotRead bytes at before now (Damaged place) = (place ≡ at) × IsBareAt bytes at
NotRead bytes at before now f = NotReached before now f

-- why a change that was read is not applied
abbrev pub NotApplied : ℕ → Result Stable ChangeRefusal → JournalFault → Type 0
NotApplied at rule (Damaged place) = (place ≡ at) × (IsOk rule → ⊥)
NotApplied at rule Memory = Unit {0}
NotApplied at rule f = ⊥

-- an open gate that no change follows which applies, or none with its next gate
pub record IsDeadAt (bytes : List ℕ) (state : Stable) (at : ℕ) : Type 0 where
  pub rest : List ℕ
  pub parts : drop at bytes ≡ 1 ∷ rest
  pub none : (x : Change) (gate : ℕ) (more : List ℕ) → fits x ≡ true → rest ≡ framed x ++ gate ∷ more → IsOk (apply state x) → ⊥

-- why a change was not taken
abbrev pub NotTaken : List ℕ → Stable → ℕ → ℕ → ℕ → JournalFault → Type 0
NotTaken bytes state at before now (Damaged place) = (place ≡ at) × IsDeadAt bytes state at
NotTaken bytes state at before now f = NotReached before now f

-- the counters after this many changes on a fresh stable part
pub record AreLow (n : ℕ) (t : Stable) : Type 0 where
  pub epochs : t.epoch.0 ≤ n
  pub inodes : t.names.next ≤ n + 10
  pub births : t.extents.births ≤ 64 * n

-- one more change is read and applied
pub record ReadsOn (bytes : List ℕ) (old new : Stable) (before now : Scanned) : Type 0 where
  pub change : Change
  pub count : ℕ
  pub found : IsOpenAt bytes before.gate change count
  pub applied : apply old change ≡ Ok new
  pub gate : now.gate ≡ before.gate + count
  pub grows : before.gate < now.gate
  pub changes : now.changes ≡ before.changes + 1

-- nothing more is read
pub record ReadsOut (bytes : List ℕ) (old new : Stable) (before now : Scanned) : Type 0 where
  pub closed : IsClosedAt bytes before.gate
  pub same : new ≡ old
  pub gate : now ≡ before

-- one turn of reading
abbrev pub ReadsOne : List ℕ → Stable → Stable → Scanned → Scanned → Bool → Type 0
ReadsOne bytes old new before now true = ReadsOn bytes old new before now
ReadsOne bytes old new before now false = ReadsOut bytes old new before now

-- so far these changes were read and applied
pub record IsReadTo (bytes : List ℕ) (start state : Stable) (s : Scanned) : Type 0 where
  pub changes : List Change
  pub parts : bytes ≡ all_opened changes ++ drop s.gate bytes
  pub gate : s.gate ≡ length (all_opened changes)
  pub within : s.gate < length bytes
  pub count : s.changes ≡ length changes
  pub ranges : list_all fits changes ≡ true
  pub applied : after_changes (Some start) changes ≡ Some state
  pub few : 6 * s.changes ≤ s.gate
  pub low : AreLow s.changes state

-- the whole journal was read and applied
pub record ReadsAll (bytes : List ℕ) (start state : Stable) (s : Scanned) : Type 0 where
  pub changes : List Change
  pub stands : StandsFor start bytes changes state
  pub gate : s.gate ≡ length (all_opened changes)
  pub count : s.changes ≡ length changes

-- why a journal was not read
abbrev pub NotAllRead : List ℕ → Stable → ℕ → ℕ → JournalFault → Type 0
NotAllRead bytes start before now (Damaged place) = IsDamaged start bytes place
NotAllRead bytes start before now f = NotReached before now f
