-- An opened journal: what its calls answer, and what a crash leaves of it.
use Rattle.std.specs.Prelude.{◌≡◌, ◌⊎◌, ◌<◌, ◌≤◌, ◌+◌, ◌-◌, ℕ, Bool, true, false, List, [], ◌∷◌, ◌++◌, length, Option, Some, None, is_some, Result, Ok, Err}
use Rattle.st_base.specs.declared.ids.ServerId.{ServerId}
use Rattle.st_link.specs.Causes.{Rose}
use Rattle.st_rules.specs.Server as server
use Rattle.st_journal.specs.Journal.{framed, all_opened, IsJournal, StandsFor, IsDamaged}
use Rattle.st_journal.specs.Parts.{stable_of}
use Rattle.st_journal.specs.Stable.{after_changes, fresh}
use Rattle.st_store.specs.Store.{Only, Step}
use Rattle.st_journal.specs.Appends.{Puts, with_open_gate}
use Rattle.st_link.specs.declared.link.Failed.{Failed}
use Rattle.st_journal.specs.declared.change.Change.{Change}
use Rattle.st_journal.specs.declared.fault.JournalFault.{JournalFault}
use Rattle.st_journal.specs.declared.fault.JournalFault.TheVariants.{Damaged, Full, Store, Broken, Memory}
use Rattle.st_journal.specs.declared.stable.Stable.{Stable}

-- the stable part of a server that never began an epoch, in a world with these counts
abbrev pub fresh_of : ServerId → ℕ → ℕ → ℕ → server.Stable
fresh_of server servers disks blocks = fresh (record { server = server; servers = servers; disks = disks; blocks = blocks })

-- an opened journal: its store, where its gate is, how many changes it has, and whether an append failed at the store
pub record Opened (D : Type 0) : Type 0 where
  pub store : D
  pub gate : ℕ
  pub changes : ℕ
  pub broken : Bool

-- The journal of the bytes is all of these changes that are acknowledged, and at most the one under way.
abbrev pub HasPrefix : List Change → Option Change → List ℕ → Type 0
HasPrefix acked None bytes = IsJournal bytes acked
HasPrefix acked (Some x) bytes = IsJournal bytes acked ⊎ IsJournal bytes (acked ++ x ∷ [])

-- What an opened journal records: these changes are acknowledged, and this one is under way, if an append failed at the store.
-- The store reads as such a journal, and a crash leaves one.
pub record Records {D : Type 0} (seen : D → List ℕ) (may_leave : D → List ℕ → Type 0) (j : Opened D) (acked : List Change) (under_way : Option Change) : Type 0 where
  pub gate : j.gate ≡ length (all_opened acked)
  pub count : j.changes ≡ length acked
  pub broken : j.broken ≡ is_some under_way
  pub reads : HasPrefix acked under_way (seen j.store)
  pub crash : (c : List ℕ) → may_leave j.store c → HasPrefix acked under_way c

-- the changes that are acknowledged when an append of this one has answered so
abbrev pub acked_after : Result Unit JournalFault → Change → List Change → List Change
acked_after (Ok done) x acked = acked ++ x ∷ []
acked_after (Err f) x acked = acked

-- and the one under way
abbrev pub under_way_after : Result Unit JournalFault → Change → Option Change → Option Change
under_way_after (Err Store) x under_way = Some x
under_way_after r x under_way = under_way

-- the change under way while this one is appended
abbrev pub under_way_in : Change → Option Change → Option Change
under_way_in x None = Some x
under_way_in x (Some y) = Some y

-- the acknowledged changes, and the one under way
abbrev pub all_of : List Change → Option Change → List Change
all_of acked None = acked
all_of acked (Some x) = acked ++ x ∷ []

-- the stable part after the acknowledged changes, and at most the one under way
abbrev pub IsPrefixState : server.Stable → List Change → Option Change → server.Stable → Type 0
IsPrefixState start acked None state = after_changes (Some start) acked ≡ Some state
IsPrefixState start acked (Some x) state = (after_changes (Some start) acked ≡ Some state) ⊎ (after_changes (Some start) (acked ++ x ∷ []) ≡ Some state)

-- Until an append fails at the store: the store reads as a journal, all of it on the disk. Its gate is after the changes, which are counted.
pub record IsAtRest {D : Type 0} (seen : D → List ℕ) (may_leave : D → List ℕ → Type 0) (j : Opened D) : Type 0 where
  pub changes : List Change
  pub journal : IsJournal (seen j.store) changes
  pub gate : j.gate ≡ length (all_opened changes)
  pub count : j.changes ≡ length changes
  pub durable : Only (seen j.store) (may_leave j.store)
  pub small : length (seen j.store) < 4294967296

-- the bytes after the gate, and the bytes that a change takes: its length, its own and the next gate
abbrev pub room_behind : ℕ → ℕ → ℕ
room_behind size gate = size - gate - 1

abbrev pub room_for : Change → ℕ
room_for x = length (framed x) + 1

-- an append that is acknowledged adds its change
pub record Appends {D : Type 0} (seen : D → List ℕ) (old new : Opened D) (x : Change) : Type 0 where
  pub whole : old.broken ≡ false
  pub room : room_for x ≤ room_behind (length (seen old.store)) old.gate
  pub left : new ≡ record old { store = new.store; gate = old.gate + room_for x; changes = old.changes + 1 }

-- Why an append answers a fault: the store failed in an earlier one; no room; no memory; or the store fails in this one. All
-- but the last leave the journal as it was.
abbrev pub NotAppended : {D : Type 0} → (D → List ℕ) → (D → ℕ) → Opened D → Opened D → Change → JournalFault → Type 0
NotAppended seen faults old new x Broken = (old.broken ≡ true) × (new ≡ old)
NotAppended seen faults old new x (Full free asked) =
    (old.broken ≡ false) × (free ≡ room_behind (length (seen old.store)) old.gate) × (asked ≡ room_for x) × (free < asked) × (new ≡ old)
NotAppended seen faults old new x Memory = (old.broken ≡ false) × (room_for x ≤ room_behind (length (seen old.store)) old.gate) × (new ≡ old)
NotAppended seen faults old new x Store =
    (old.broken ≡ false) × (room_for x ≤ room_behind (length (seen old.store)) old.gate) × Rose (faults old.store) (faults new.store) × (new ≡ record old { store = new.store; broken = true })
NotAppended seen faults old new x (Damaged at) = ⊥

-- which calls of the store an append made, if it made any
abbrev pub Calls : {D : Type 0} → (D → ℕ → List ℕ → Result Unit Failed → D → Type 0) → Step D → Opened D → Opened D → Change → Result Unit JournalFault → Type 0
Calls writes syncs old new x (Ok done) = Puts writes syncs old.gate (framed x ++ 0 ∷ []) old.store (Ok tt) new.store
Calls writes syncs old new x (Err Store) = (f : Failed) × Puts writes syncs old.gate (framed x ++ 0 ∷ []) old.store (Err f) new.store
Calls writes syncs old new x (Err f) = Unit {0}

-- the same, of a store with its gate at this place
abbrev pub PutCalls : {D : Type 0} → (D → ℕ → List ℕ → Result Unit Failed → D → Type 0) → Step D → D → D → ℕ → Change → Result ℕ JournalFault → Type 0
PutCalls writes syncs old new gate x (Ok count) = Puts writes syncs gate (framed x ++ 0 ∷ []) old (Ok tt) new
PutCalls writes syncs old new gate x (Err Store) = (f : Failed) × Puts writes syncs gate (framed x ++ 0 ∷ []) old (Err f) new
PutCalls writes syncs old new gate x (Err f) = Unit {0}

-- A record is put into a store after the gate, and the gate is opened: of that many bytes, for which there was room.
pub record PutsAt {D : Type 0} (seen : D → List ℕ) (may_leave : D → List ℕ → Type 0) (old new : D) (gate : ℕ) (x : Change) (count : ℕ) : Type 0 where
  pub counted : count ≡ room_for x
  pub room : room_for x ≤ room_behind (length (seen old)) gate
  pub seen_now : seen new ≡ with_open_gate (seen old) gate (framed x ++ 0 ∷ [])
  pub durable : Only (seen new) (may_leave new)

-- why it was not
abbrev pub NotPut : {D : Type 0} → (D → List ℕ) → (D → ℕ) → D → D → ℕ → Change → JournalFault → Type 0
NotPut seen faults old new gate x (Full free asked) = (free ≡ room_behind (length (seen old)) gate) × (asked ≡ room_for x) × (free < asked) × (new ≡ old)
NotPut seen faults old new gate x Memory = (room_for x ≤ room_behind (length (seen old)) gate) × (new ≡ old)
NotPut seen faults old new gate x Store = (room_for x ≤ room_behind (length (seen old)) gate) × Rose (faults old) (faults new)
NotPut seen faults old new gate x Broken = ⊥
NotPut seen faults old new gate x (Damaged at) = ⊥

-- what opening gives: the bytes stand for this stable part, all of them are on the disk, and the changes are counted
pub record Opens {D : Type 0} (seen : D → List ℕ) (may_leave : D → List ℕ → Type 0) (start : server.Stable) (store : D) (j : Opened D) (state : server.Stable) : Type 0 where
  pub changes : List Change
  pub stands : StandsFor start (seen store) changes state
  pub left : j ≡ record { store = j.store; gate = length (all_opened changes); changes = length changes; broken = false }
  pub same : seen j.store ≡ seen store
  pub durable : Only (seen j.store) (may_leave j.store)

-- why a journal is not opened: its bytes are damaged, the store fails, or no memory
abbrev pub NotOpened : server.Stable → List ℕ → ℕ → ℕ → JournalFault → Type 0
NotOpened start bytes before now (Damaged at) = IsDamaged start bytes at
NotOpened start bytes before now Store = Rose before now
NotOpened start bytes before now Memory = Unit {0}
NotOpened start bytes before now Broken = ⊥
NotOpened start bytes before now (Full free asked) = ⊥

-- what opening answers
abbrev pub Answer : Type 0 → Type 0
Answer D = Result (Opened D × Stable) (D × JournalFault)

-- the store that it gives back
abbrev pub store_of : {D : Type 0} → Answer D → D
store_of (Ok x) = x.0.store
store_of (Err e) = e.0

-- It reads the stable part after the acknowledged changes, and at most the one under way; or the store fails, or memory runs out.
abbrev pub ReadsPrefix : {D : Type 0} → server.Stable → List Change → Option Change → Answer D → Type 0
ReadsPrefix start acked under_way (Ok x) = IsPrefixState start acked under_way (stable_of x.1)
ReadsPrefix start acked under_way (Err e) = (e.1 ≡ Store) ⊎ (e.1 ≡ Memory)
