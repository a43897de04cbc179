-- What an area of a journal's file stands for, and why it is not opened.
use Rattle.std.specs.Prelude.{◌≡◌, ◌<◌, ◌≤◌, ◌+◌, ◌^◌, ◌⊎◌, ℕ, true, List, ◌∷◌, ◌++◌, length, Some, None, Result, Ok, Err, ⊤}
use Rattle.std.specs.List.{AllByRecursion}
use Rattle.st_extents.specs.Layout.{Shape}
use Rattle.st_journal.specs.Changes.{bytes_of, fits}
use Rattle.st_journal.specs.Parts.{stable_of}
use Rattle.st_journal.specs.Stable.{apply}
use Rattle.st_journal.specs.declared.change.Change.{Change}
use Rattle.st_journal_bytes.specs.Areas.{IsClosed, HasNoSnapshot}
use Rattle.st_journal_bytes.specs.Moments.{Dated, dated, dated_bytes}
use Rattle.st_journal_bytes.specs.Plain.{plain}
use Rattle.st_journal_file.specs.Layout.{CLOSED, IsArea, after_changes, all_opened, front, opened, part}
use Rattle.st_rules.specs.Server.{Stable}
use Rattle.st_snapshot.specs.Reading as snapshots
use Rattle.st_snapshot.specs.Snapshots.{CanBe, Fits, HasShape, snapshot}
use Rattle.st_snapshot.specs.declared.fault.SnapshotFault.{SnapshotFault}
use Rattle.st_snapshot.specs.declared.fault.SnapshotFault.TheVariants as snapshot_faults
use Rattle.st_stable_file.specs.Stables.{changed, stables}
use Rattle.st_stable_file.specs.declared.area.ChangesEnd.{ChangesEnd}
use Rattle.st_stable_file.specs.declared.area.OpenedArea.{OpenedArea}
use Rattle.st_stable_file.specs.declared.fault.StableFault.{StableFault}
use Rattle.st_stable_file.specs.declared.fault.StableFault.TheVariants as faults

-- the numbers of a dated change are in their ranges
abbrev pub DatedFits : Dated Change → Type 0
DatedFits x = fits x.made ≡ true

-- The bytes are those of a change that applies to this stable part, and was made at this moment, which is the last one or a later one.
pub record IsChange (t : Stable) (last : ℕ) (bytes : List ℕ) (u : Stable) (moment : ℕ) : Type 0 where
  pub change : Change
  pub parts : bytes ≡ dated_bytes moment (bytes_of change)
  pub ranges : fits change ≡ true
  pub small : moment < 2 ^ 64
  pub later : last ≤ moment
  pub applied : changed t change ≡ Some u

-- the change does not apply, or memory ran out
abbrev pub IsRefusedAt : Stable → Change → ℕ → StableFault → Type 0
IsRefusedAt t x at (faults.Damaged place) = (place ≡ at) × (changed t x ≡ None)
IsRefusedAt t x at (faults.Snapshot f) = ⊥
IsRefusedAt t x at faults.Memory = ⊤

-- the bytes are those of no change that applies, or memory ran out
abbrev pub IsNoChange : Stable → ℕ → List ℕ → ℕ → StableFault → Type 0
IsNoChange t last bytes at (faults.Damaged place) = (place ≡ at) × ((u : Stable) (moment : ℕ) → IsChange t last bytes u moment → ⊥)
IsNoChange t last bytes at (faults.Snapshot f) = ⊥
IsNoChange t last bytes at faults.Memory = ⊤

-- Changes after open gates were read, and these bytes are left. The changes make this stable part of the first one, at this moment.
pub record AreApplied (bytes : List ℕ) (first : Dated Stable) (rest : List ℕ) (t : Stable) (moment count : ℕ) : Type 0 where
  pub changes : List (Dated Change)
  pub parts : bytes ≡ all_opened (dated stables) changes ++ rest
  pub each : AllByRecursion DatedFits changes
  pub many : count ≡ length changes
  pub state : Dated Stable
  pub leads : after_changes (dated stables) (Some first) changes ≡ Some state
  pub made : state.made ≡ t
  pub when : state.moment ≡ moment

-- A closed gate follows them, at this place of an area with this many bytes.
pub record AreAllApplied (bytes : List ℕ) (first : Dated Stable) (whole : ℕ) (t : Stable) (e : ChangesEnd) : Type 0 where
  pub rest : List ℕ
  pub applied : AreApplied bytes first (CLOSED ∷ rest) t e.moment e.records
  pub gate : e.gate + (length rest + 1) ≡ whole

-- Neither a closed gate follows them nor an open one with a change that applies.
pub record StopsAt (bytes : List ℕ) (first : Dated Stable) (whole at : ℕ) : Type 0 where
  pub t : Stable
  pub moment : ℕ
  pub count : ℕ
  pub rest : List ℕ
  pub applied : AreApplied bytes first rest t moment count
  pub place : at + length rest ≡ whole
  pub closed : IsClosed rest → ⊥
  pub none : (record_bytes more : List ℕ) (u : Stable) (later : ℕ) → length record_bytes < 2 ^ 32 → rest ≡ opened plain record_bytes ++ more → IsChange t moment record_bytes u later
      → ⊥

abbrev pub AreNotApplied : List ℕ → Dated Stable → ℕ → StableFault → Type 0
AreNotApplied bytes first whole (faults.Damaged at) = StopsAt bytes first whole at
AreNotApplied bytes first whole (faults.Snapshot f) = ⊥
AreNotApplied bytes first whole faults.Memory = ⊤

-- the bytes are those of a snapshot of this stable part, made at this moment, in a world of this shape
pub record IsSnapshot (s : Shape) (bytes : List ℕ) (t : Stable) (moment : ℕ) : Type 0 where
  pub parts : bytes ≡ dated_bytes moment (snapshot t)
  pub small : moment < 2 ^ 64
  pub fits : Fits t
  pub shape : HasShape s t

-- no moment and no snapshot after it are read of these bytes
abbrev pub IsUnread : Shape → List ℕ → SnapshotFault → Type 0
IsUnread s bytes snapshot_faults.Memory = ⊥
IsUnread s bytes f = ((length bytes < 8) × (f ≡ snapshot_faults.NoCounters)) ⊎ ((moment : ℕ) × ((more : List ℕ) × ((bytes ≡ dated_bytes moment more) × snapshots.IsRefused s more f)))

abbrev pub IsNoSnapshot : Shape → List ℕ → StableFault → Type 0
IsNoSnapshot s bytes (faults.Damaged at) = ⊥
IsNoSnapshot s bytes (faults.Snapshot f) = IsUnread s bytes f
IsNoSnapshot s bytes faults.Memory = ⊤

-- What an area stands for: its changes make of its snapshot a stable part, at the moment of the last one.
pub record StandsForState (s : Shape) (bytes : List ℕ) (state : Dated Stable) : Type 0 where
  pub first : Dated Stable
  pub changes : List (Dated Change)
  pub area : IsArea (dated stables) bytes first changes
  pub fits : Fits first.made
  pub shape : HasShape s first.made
  pub each : AllByRecursion DatedFits changes
  pub leads : after_changes (dated stables) (Some first) changes ≡ Some state

-- an area stands for a state, and its snapshot is of what a server may have
pub record CanBeOpened (s : Shape) (bytes : List ℕ) (state : Dated Stable) : Type 0 where
  pub stands : StandsForState s bytes state
  pub can : CanBe stands.first.made

-- what an area stands for, with where its closed gate is, and how many changes there are
pub record Opens (s : Shape) (bytes : List ℕ) (o : OpenedArea) : Type 0 where
  pub state : Dated Stable
  pub stands : StandsForState s bytes state
  pub made : state.made ≡ stable_of o.stable
  pub when : state.moment ≡ o.end.moment
  pub gate : o.end.gate ≡ length (front (dated stables) stands.first stands.changes)
  pub many : o.end.records ≡ length stands.changes

-- a snapshot is in front, and after it changes stop at this place
pub record StopsAfter (s : Shape) (bytes : List ℕ) (at : ℕ) : Type 0 where
  pub first : Dated Stable
  pub fits : Fits first.made
  pub shape : HasShape s first.made
  pub rest : List ℕ
  pub parts : bytes ≡ part plain (dated_bytes first.moment (snapshot first.made)) ++ rest
  pub stops : StopsAt rest first (length bytes) at

-- a part is in front, which isn't a snapshot
pub record HasUnread (s : Shape) (bytes : List ℕ) (f : SnapshotFault) : Type 0 where
  pub snapshot_bytes : List ℕ
  pub rest : List ℕ
  pub parts : bytes ≡ part plain snapshot_bytes ++ rest
  pub why : IsUnread s snapshot_bytes f

-- why an area is not opened
abbrev pub IsNotOpened : Shape → List ℕ → StableFault → Type 0
IsNotOpened s bytes (faults.Damaged at) = ((at ≡ 0) × HasNoSnapshot bytes) ⊎ StopsAfter s bytes at
IsNotOpened s bytes (faults.Snapshot f) = HasUnread s bytes f
IsNotOpened s bytes faults.Memory = ⊤

-- this state is opened, or memory ran out
abbrev pub IsOpenedAs : Dated Stable → Result OpenedArea StableFault → Type 0
IsOpenedAs state (Ok o) = (stable_of o.stable ≡ state.made) × (o.end.moment ≡ state.moment)
IsOpenedAs state (Err f) = f ≡ faults.Memory
