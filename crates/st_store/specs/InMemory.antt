-- The store in memory: what it holds after the calls that it recorded, and what each call does to it.
use Rattle.std.specs.Prelude.{◌≡◌, ◌⊎◌, ℕ, ◌≤◌, Bool, true, false, List, [], ◌∷◌, ◌++◌, length, get_or, take, replicate, Option, Some, None, Result, Ok, Err}
use Rattle.std.specs.List.{list_any}
use Rattle.st_link.specs.declared.link.Failed.{Failed}
use Rattle.st_store.specs.Plans as plans
use Rattle.st_store.specs.Store.{written, is_within}
use Rattle.st_store.specs.declared.plan.Plan.{Plan}
use Rattle.st_store.specs.declared.plan.Outcome.{Outcome}
use Rattle.st_store.specs.declared.plan.Outcome.TheVariants.{Works, Fails, Stops}
use Rattle.st_store.specs.declared.history.Span.{Span}
use Rattle.st_store.specs.declared.history.StoreCall.{StoreCall}
use Rattle.st_store.specs.declared.history.StoreCall.TheVariants.{Write, Sync}

-- what a store reads as, what it was at the last sync, and the ranges that were written since
pub record Held : Type 0 where
  pub seen : List ℕ
  pub synced : List ℕ
  pub loose : List Span

-- each byte of these ranges becomes this byte
abbrev pub filled : ℕ → List Span → List ℕ → List ℕ
filled byte [] bytes = bytes
filled byte (s ∷ spans) bytes = filled byte spans (written bytes s.at (replicate s.count byte))

-- the unsynced bytes became this byte by a stop, if one came
abbrev pub after_fill : Option ℕ → Held → Held
after_fill None h = h
after_fill (Some byte) h = record h { seen = filled byte h.loose h.seen }

abbrev pub after_write : ℕ → List ℕ → Held → Held
after_write at new h = record h { seen = written h.seen at new; loose = h.loose ++ record { at = at; count = length new } ∷ [] }

abbrev pub after_sync : Held → Held
after_sync h = record h { synced = h.seen; loose = [] }

-- after a recorded call
abbrev pub after : StoreCall → Held → Held
after (Write fill at new) h = after_write at new (after_fill fill h)
after (Sync fill) h = after_sync (after_fill fill h)

-- after these calls, the oldest first
abbrev pub after_all : List StoreCall → Held → Held
after_all [] h = h
after_all (c ∷ calls) h = after_all calls (after c h)

-- this many zeros; nothing unfolds it, so that no goal has them all in it
unfoldable pub zeros : ℕ → List ℕ
zeros size = replicate size 0

-- a store of zeros that is all synced
abbrev pub fresh_held : ℕ → Held
fresh_held size = record { seen = zeros size; synced = zeros size; loose = [] }

-- a byte that no write since the last sync may have changed
abbrev pub is_loose : List Span → ℕ → Bool
is_loose loose i = list_any (λ s. is_within s.at s.count i) loose

-- A crash may leave any bytes in the ranges that were written since the last sync. All others stay.
pub record MayLeave (h : Held) (c : List ℕ) : Type 0 where
  pub size : length c ≡ length h.seen
  pub others : (i : ℕ) → is_loose h.loose i ≡ false → get_or c i 0 ≡ get_or h.synced i 0

-- the bytes of a store: their number, the recorded calls, and the byte that a stop since the last of them left
pub record Contents : Type 0 where
  pub size : ℕ
  pub history : List StoreCall
  pub fill : Option ℕ

-- what it holds after its recorded calls
abbrev pub recorded : Contents → Held
recorded s = after_all s.history (fresh_held s.size)

-- what it holds now
abbrev pub held : Contents → Held
held s = after_fill s.fill (recorded s)

-- zeros, and no call
abbrev pub fresh_contents : ℕ → Contents
fresh_contents size = record { size = size; history = []; fill = None }

-- one more call is recorded
abbrev pub with_call : Contents → StoreCall → Contents
with_call s c = record s { history = s.history ++ c ∷ []; fill = None }

-- these bytes are written
abbrev pub with_write : Contents → ℕ → List ℕ → Contents
with_write s at new = with_call s (Write s.fill at new)

-- all is synced
abbrev pub with_sync : Contents → Contents
with_sync s = with_call s (Sync s.fill)

-- each unsynced byte becomes this byte
abbrev pub with_fill : Contents → ℕ → Contents
with_fill s byte = record s { fill = Some byte }

-- What a crash at some moment from that one on might have left. The moments are the numbers of recorded calls.
pub record LeftSince (s : Contents) (t : ℕ) (c : List ℕ) : Type 0 where
  pub moment : ℕ
  pub from : t ≤ moment
  pub to : moment ≤ length s.history
  pub left : MayLeave (after_all (take moment s.history) (fresh_held s.size)) c

-- the store: its bytes, which of its calls fail, and whether it found no memory for a record
pub record InMemory : Type 0 where
  pub contents : Contents
  pub plan : Plan
  pub starved : Bool

-- What a call does, by what becomes of it.

-- the call was counted
abbrev pub counted : InMemory → InMemory
counted s = record s { plan = plans.counted s.plan }

-- and failed
abbrev pub failed : InMemory → InMemory
failed s = record s { plan = plans.failed (plans.counted s.plan) }

-- and found no memory for its record
abbrev pub unrecorded : InMemory → InMemory
unrecorded s = record (failed s) { starved = true }

-- and the store stopped in it, and each byte that was written since the last sync became this byte
abbrev pub stopped : InMemory → ℕ → InMemory
stopped s byte = record s { contents = with_fill s.contents byte; plan = plans.halted (plans.failed (plans.counted s.plan)) }

-- the store stopped in it, and it found no memory for its record
abbrev pub stopped_unrecorded : InMemory → InMemory
stopped_unrecorded s = record s { plan = plans.halted (plans.failed (plans.counted s.plan)); starved = true }

-- the contents change
abbrev pub changed : InMemory → Contents → InMemory
changed s contents = record s { contents = contents }

-- A read works and changes nothing; or it fails; or the store stops.
abbrev pub ReadBy : Outcome → InMemory → InMemory → Result Unit Failed → Type 0
ReadBy Works old new (Ok done) = new ≡ counted old
ReadBy Works old new (Err e) = ⊥
ReadBy Fails old new (Ok done) = ⊥
ReadBy Fails old new (Err e) = new ≡ failed old
ReadBy (Stops byte) old new (Ok done) = ⊥
ReadBy (Stops byte) old new (Err e) = new ≡ stopped old byte

-- A write works, or runs out of memory for its record; or it fails; or the store stops when the bytes are written, or it ran out of memory.
abbrev pub WriteBy : Outcome → InMemory → InMemory → Contents → Result Unit Failed → Type 0
WriteBy Works old new next (Ok done) = new ≡ changed (counted old) next
WriteBy Works old new next (Err e) = new ≡ unrecorded old
WriteBy Fails old new next (Ok done) = ⊥
WriteBy Fails old new next (Err e) = new ≡ failed old
WriteBy (Stops byte) old new next (Ok done) = ⊥
WriteBy (Stops byte) old new next (Err e) = (new ≡ stopped (changed old next) byte) ⊎ (new ≡ stopped_unrecorded old)

-- A sync works, or runs out of memory for its record; or it fails; or the store stops and nothing is synced.
abbrev pub SyncBy : Outcome → InMemory → InMemory → Result Unit Failed → Type 0
SyncBy Works old new (Ok done) = new ≡ changed (counted old) (with_sync old.contents)
SyncBy Works old new (Err e) = new ≡ unrecorded old
SyncBy Fails old new (Ok done) = ⊥
SyncBy Fails old new (Err e) = new ≡ failed old
SyncBy (Stops byte) old new (Ok done) = ⊥
SyncBy (Stops byte) old new (Err e) = new ≡ stopped old byte

-- a read
abbrev pub Reads : InMemory → InMemory → Result Unit Failed → Type 0
Reads old new result = ReadBy (plans.outcome old.plan) old new result

-- a write of these bytes
abbrev pub Writes : InMemory → InMemory → ℕ → List ℕ → Result Unit Failed → Type 0
Writes old new at bytes result = WriteBy (plans.outcome old.plan) old new (with_write old.contents at bytes) result

-- a sync
abbrev pub Syncs : InMemory → InMemory → Result Unit Failed → Type 0
Syncs old new result = SyncBy (plans.outcome old.plan) old new result

-- What no call changes: the size; which calls fail; that no stop is set and none came; and that the store is starved.
pub record Keeps (old new : InMemory) : Type 0 where
  pub size : new.contents.size ≡ old.contents.size
  pub failing : new.plan.failing ≡ old.plan.failing
  pub quiet : plans.IsQuiet old.plan → plans.IsQuiet new.plan
  pub starved : old.starved ≡ true → new.starved ≡ true
