-- Histories of a journal: appends, failed appends, crashes and openings, and what is promised about all of them.
use Rattle.std.specs.Prelude.{◌≡◌, ◌⊎◌, ◌≤◌, ◌+◌, ℕ, Bool, true, false, List, [], ◌∷◌, ◌++◌, length, Option, Some, None, Ok}
use Rattle.st_extents.specs.Layout.{Shape}
use Rattle.st_rules.specs.Server.{Stable}
use Rattle.st_store.specs.InMemory.{zeros}
use Rattle.st_journal.specs.Appends.{IsTornAppend, with_open_gate}
use Rattle.st_journal.specs.Changes.{fits}
use Rattle.st_journal.specs.Journal.{IsJournal, StandsFor, all_opened, framed}
use Rattle.st_journal.specs.Stable.{after_changes, apply, fresh}
use Rattle.st_journal.specs.declared.change.Change.{Change}

-- A moment in the history of a journal: the bytes of its store that are synced; the change whose append wrote bytes that are not; whether
-- the journal is open; the changes that count, which are those that the last opening found and those that were acknowledged since; and
-- the change whose append was begun since and is not acknowledged.
pub record Moment : Type 0 where
  pub bytes : List ℕ
  pub loose : Option Change
  pub running : Bool
  pub counted : List Change
  pub begun : Option Change

-- a store of zeros, which was never opened
abbrev pub first_moment : ℕ → Moment
first_moment size = record { bytes = zeros size; loose = None; running = false; counted = []; begun = None }

-- the bytes that are written after a gate
abbrev pub record_of : Change → List ℕ
record_of x = framed x ++ 0 ∷ []

-- the place of the gate after the changes that count
abbrev pub gate_of : Moment → ℕ
gate_of m = length (all_opened m.counted)

-- what may be found of synced bytes while an append writes after the gate at this place
abbrev pub MayBeFoundBy : Option Change → List ℕ → ℕ → List ℕ → Type 0
MayBeFoundBy None bytes gate c = c ≡ bytes
MayBeFoundBy (Some x) bytes gate c = IsTornAppend bytes gate (record_of x) c

-- What a crash at this moment may leave, and what an opening without a crash may read.
abbrev pub MayBeFound : Moment → List ℕ → Type 0
MayBeFound m c = MayBeFoundBy m.loose m.bytes (gate_of m) c

-- What an append needs: an open journal in which none failed, a change that fits and is not refused, and room.
pub record MayAppend (start : Stable) (m : Moment) (x : Change) : Type 0 where
  pub opened : m.running ≡ true
  pub whole : m.begun ≡ None
  pub ranges : fits x ≡ true
  pub state : Stable
  pub next : Stable
  pub leads : after_changes (Some start) m.counted ≡ Some state
  pub applied : apply state x ≡ Ok next
  pub room : gate_of m + 1 + length (record_of x) ≤ length m.bytes

-- An append is acknowledged; it is begun, and goes no further, by a failure of the store or a crash that comes; a crash leaves these
-- bytes; an opening reads these bytes, and finds these changes.
pub data Event : Type 0 where
  Acknowledged : (x : Change) → Event
  Begun : (x : Change) → Event
  Crashed : (bytes : List ℕ) → Event
  Opened : (bytes : List ℕ) (found : List Change) → Event

abbrev pub acknowledged : Moment → Change → Moment
acknowledged m x = record m { bytes = with_open_gate m.bytes (gate_of m) (record_of x); counted = m.counted ++ x ∷ [] }

abbrev pub begins : Moment → Change → Moment
begins m x = record m { loose = Some x; begun = Some x }

abbrev pub crashed : Moment → List ℕ → Moment
crashed m bytes = record m { bytes = bytes; loose = None; running = false }

abbrev pub opened : List ℕ → List Change → Moment
opened bytes found = record { bytes = bytes; loose = None; running = true; counted = found; begun = None }

-- an event leads from one moment to another
abbrev pub Happens : Stable → Moment → Event → Moment → Type 0
Happens start m (Acknowledged x) n = MayAppend start m x × (n ≡ acknowledged m x)
Happens start m (Begun x) n = MayAppend start m x × (n ≡ begins m x)
Happens start m (Crashed bytes) n = MayBeFound m bytes × (n ≡ crashed m bytes)
Happens start m (Opened bytes found) n = MayBeFound m bytes × (IsJournal bytes found × (n ≡ opened bytes found))

-- these events, one after another
abbrev pub Leads : Stable → Moment → List Event → Moment → Type 0
Leads start m [] n = n ≡ m
Leads start m (e ∷ es) n = (k : Moment) × (Happens start m e k × Leads start k es n)

-- the changes that count, and at most the one under way
abbrev pub IsPrefix : Moment → List Change → Type 0
IsPrefix m found = (found ≡ m.counted) ⊎ ((x : Change) × ((m.begun ≡ Some x) × (found ≡ m.counted ++ x ∷ [])))

-- Bytes are opened: they are the journal of these changes, which lead to this stable part. So they are not damaged.
pub record CanBeOpened (start : Stable) (m : Moment) (bytes : List ℕ) : Type 0 where
  pub found : List Change
  pub state : Stable
  pub stands : StandsFor start bytes found state
  pub prefix : IsPrefix m found

-- Whatever a crash leaves, at whatever moment, is opened, and gives a prefix.
abbrev pub EveryJournalIsKept : Type 0
EveryJournalIsKept = (shape : Shape) (size : ℕ) (es : List Event) (m : Moment) → 1 ≤ size → Leads (fresh shape) (first_moment size) es m → (bytes : List ℕ) → MayBeFound m bytes →
    CanBeOpened (fresh shape) m bytes

-- What counted once counts in all that follows.
abbrev pub NothingCountedIsLost : Type 0
NothingCountedIsLost = (shape : Shape) (size : ℕ) (es later : List Event) (m n : Moment) → 1 ≤ size → Leads (fresh shape) (first_moment size) es m → Leads (fresh shape) m later n →
    (more : List Change) × (n.counted ≡ m.counted ++ more)
