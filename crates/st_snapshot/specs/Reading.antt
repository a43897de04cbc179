-- What is read of bytes as a snapshot, and why it is not read.
use Rattle.std.specs.Prelude.{◌≡◌, ◌<◌, ◌≤◌, ◌+◌, ℕ, List, [], ◌++◌, length, Result, Ok, Err, ⊤}
use Rattle.std.specs.List.{AllByRecursion}
use Rattle.st_extents.specs.Layout.{Shape, with_shape}
use Rattle.st_extents.specs.Restored as extents
use Rattle.st_extents.specs.declared.restored.RestoreRefusal.{RestoreRefusal as ExtentsRefusal}
use Rattle.st_extents.specs.declared.restored.RestoreRefusal.TheVariants as extents_refusals
use Rattle.st_journal.specs.Parts.{stable_of}
use Rattle.st_journal.specs.declared.stable.Stable.{Stable as Restored}
use Rattle.st_namespace.specs.Restored as names
use Rattle.st_namespace.specs.declared.restored.RestoreRefusal.{RestoreRefusal as NamesRefusal}
use Rattle.st_namespace.specs.declared.restored.RestoreRefusal.TheVariants as names_refusals
use Rattle.st_rules.specs.Extents.{Extents}
use Rattle.st_rules.specs.Names.{Names}
use Rattle.st_rules.specs.Server.{Stable}
use Rattle.st_rules.specs.declared.extents.Extent.{Extent}
use Rattle.st_rules.specs.declared.names.NameEntry.{NameEntry}
use Rattle.st_snapshot.specs.Snapshots.{COUNTERS_LENGTH, CountersFit, EntryFits, Fits, HasShape, PageFits, counters, entry, page, rows, snapshot}
use Rattle.st_snapshot.specs.declared.counters.Counters.{Counters}
use Rattle.st_snapshot.specs.declared.fault.SnapshotFault.{SnapshotFault}
use Rattle.st_snapshot.specs.declared.fault.SnapshotFault.TheVariants as faults

-- This many rows were read from the front, and these bytes are after them.
pub record AreRead {A : Type 0} (f : A → List ℕ) (fits : A → Type 0) (bytes : List ℕ) (count : ℕ) (xs : List A) (rest : List ℕ) : Type 0 where
  pub parts : bytes ≡ rows f xs ++ rest
  pub many : length xs ≡ count
  pub each : AllByRecursion fits xs

-- Fewer rows were read, and no row is in front of the bytes after them, which begin at this place of the whole snapshot.
pub record StopsAt {A : Type 0} (f : A → List ℕ) (fits : A → Type 0) (bytes : List ℕ) (count whole at : ℕ) : Type 0 where
  pub done : List A
  pub rest : List ℕ
  pub parts : bytes ≡ rows f done ++ rest
  pub fewer : length done < count
  pub each : AllByRecursion fits done
  pub place : at + length rest ≡ whole
  pub none : (x : A) (more : List ℕ) → fits x → rest ≡ f x ++ more → ⊥

abbrev pub IsNoEntry : List ℕ → ℕ → ℕ → SnapshotFault → Type 0
IsNoEntry bytes count whole (faults.NoEntry at) = StopsAt entry EntryFits bytes count whole at
IsNoEntry bytes count whole faults.Memory = ⊤
IsNoEntry bytes count whole f = ⊥

abbrev pub IsNoPage : List ℕ → ℕ → ℕ → SnapshotFault → Type 0
IsNoPage bytes count whole (faults.NoPage at) = StopsAt page PageFits bytes count whole at
IsNoPage bytes count whole faults.Memory = ⊤
IsNoPage bytes count whole f = ⊥

-- Counters are in front, and then as many entries and mapped pages as they say; and these bytes follow.
pub record ArePartsBefore (bytes : List ℕ) (c : Counters) (es : List NameEntry) (xs : List Extent) (more : List ℕ) : Type 0 where
  pub parts : bytes ≡ counters c ++ (rows entry es ++ (rows page xs ++ more))
  pub counters_fit : CountersFit c
  pub entries : length es ≡ c.entries
  pub pages : length xs ≡ c.pages
  pub entries_fit : AllByRecursion EntryFits es
  pub pages_fit : AllByRecursion PageFits xs

-- nothing follows
abbrev pub ArePartsOf : List ℕ → Counters → List NameEntry → List Extent → Type 0
ArePartsOf bytes c es xs = ArePartsBefore bytes c es xs []

-- after the counters, too few entries are there
pub record StopsInEntries (bytes : List ℕ) (at : ℕ) : Type 0 where
  pub c : Counters
  pub rest : List ℕ
  pub parts : bytes ≡ counters c ++ rest
  pub fit : CountersFit c
  pub stops : StopsAt entry EntryFits rest c.entries (length bytes) at

-- after the entries, too few mapped pages are there
pub record StopsInPages (bytes : List ℕ) (at : ℕ) : Type 0 where
  pub c : Counters
  pub es : List NameEntry
  pub rest : List ℕ
  pub parts : bytes ≡ counters c ++ (rows entry es ++ rest)
  pub fit : CountersFit c
  pub entries : length es ≡ c.entries
  pub entries_fit : AllByRecursion EntryFits es
  pub stops : StopsAt page PageFits rest c.pages (length bytes) at

-- a snapshot is in front, and bytes follow, from this place on
pub record GoesOn (bytes : List ℕ) (at : ℕ) : Type 0 where
  pub c : Counters
  pub es : List NameEntry
  pub xs : List Extent
  pub more : List ℕ
  pub parts : ArePartsBefore bytes c es xs more
  pub some : 1 ≤ length more
  pub place : at + length more ≡ length bytes

-- the bytes are not those of one snapshot, or memory ran out
abbrev pub HasNoParts : List ℕ → SnapshotFault → Type 0
HasNoParts bytes faults.NoCounters = length bytes < COUNTERS_LENGTH
HasNoParts bytes (faults.NoEntry at) = StopsInEntries bytes at
HasNoParts bytes (faults.NoPage at) = StopsInPages bytes at
HasNoParts bytes (faults.Longer at) = GoesOn bytes at
HasNoParts bytes (faults.Names r) = ⊥
HasNoParts bytes (faults.Extents r) = ⊥
HasNoParts bytes faults.Memory = ⊤

-- why names and extents are not those of a server; that memory ran out is no such reason

abbrev pub AreNoNames : NamesRefusal → Names → Type 0
AreNoNames names_refusals.Memory n = ⊥
AreNoNames r n = names.IsRefused r n

abbrev pub AreNoExtents : ExtentsRefusal → Extents → Type 0
AreNoExtents extents_refusals.Memory x = ⊥
AreNoExtents r x = extents.IsRefused r x

-- a refusal of names and one of extents, as they are told

abbrev pub names_fault : NamesRefusal → SnapshotFault
names_fault names_refusals.Memory = faults.Memory
names_fault r = faults.Names r

abbrev pub extents_fault : ExtentsRefusal → SnapshotFault
extents_fault extents_refusals.Memory = faults.Memory
extents_fault r = faults.Extents r

-- the stable part of a server in a world of this shape, of which the parts say this
abbrev pub stable_with : Shape → Counters → List NameEntry → List Extent → Stable
stable_with s c es xs = record { epoch = record { 0 = c.epoch }; names = names.names_of es c.next c.limit; extents = with_shape s xs c.births }

-- the names or the extents of a stable part are not those of a server, or memory ran out
abbrev pub IsNotRestored : Stable → SnapshotFault → Type 0
IsNotRestored t (faults.Names r) = AreNoNames r t.names
IsNotRestored t (faults.Extents r) = AreNoExtents r t.extents
IsNotRestored t faults.Memory = ⊤
IsNotRestored t f = ⊥

-- the bytes are a snapshot of names that no server has, or of extents

pub record HasOtherNames (s : Shape) (bytes : List ℕ) (r : NamesRefusal) : Type 0 where
  pub t : Stable
  pub parts : bytes ≡ snapshot t
  pub fits : Fits t
  pub shape : HasShape s t
  pub refused : AreNoNames r t.names

pub record HasOtherExtents (s : Shape) (bytes : List ℕ) (r : ExtentsRefusal) : Type 0 where
  pub t : Stable
  pub parts : bytes ≡ snapshot t
  pub fits : Fits t
  pub shape : HasShape s t
  pub refused : AreNoExtents r t.extents

-- Why no stable part of a world of this shape is read.
abbrev pub IsRefused : Shape → List ℕ → SnapshotFault → Type 0
IsRefused s bytes faults.NoCounters = length bytes < COUNTERS_LENGTH
IsRefused s bytes (faults.NoEntry at) = StopsInEntries bytes at
IsRefused s bytes (faults.NoPage at) = StopsInPages bytes at
IsRefused s bytes (faults.Longer at) = GoesOn bytes at
IsRefused s bytes (faults.Names r) = HasOtherNames s bytes r
IsRefused s bytes (faults.Extents r) = HasOtherExtents s bytes r
IsRefused s bytes faults.Memory = ⊤

-- this stable part was read, or memory ran out
abbrev pub IsReadAs : Stable → Result Restored SnapshotFault → Type 0
IsReadAs t (Ok s) = stable_of s ≡ t
IsReadAs t (Err f) = f ≡ faults.Memory
