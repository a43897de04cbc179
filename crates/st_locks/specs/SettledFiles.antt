-- Which files a pass may leave alone.
use Rattle.std.specs.Prelude.{◌≡◌, ℕ, ◌+◌, nat_le, Bool, true, false, not, ◌==◌, ◌&&◌, ◌||◌, List, if◌then◌else◌, find, Option, Some, None}
use Rattle.std.specs.List.{list_any}
use Rattle.std.specs.declared.cmp.Ordering.{Ordering}
use Rattle.std.specs.Ordering.{nat_cmp, ordering_then}
use Rattle.st_base.specs.declared.config.Config.{Config}
use Rattle.st_base.specs.declared.ids.Stamp.{Stamp}
use Rattle.st_base.specs.declared.ids.ClientId.{ClientId}
use Rattle.st_base.specs.declared.ids.GrantNo.{GrantNo}
use Rattle.st_base.specs.declared.mode.Mode.{Mode}
use Rattle.st_rules.specs.declared.locks.LockRow.{LockRow}
use Rattle.st_rules.specs.declared.locks.RowDemand.{RowDemand}
use Rattle.st_rules.specs.declared.locks.Waiter.{Waiter}
use Rattle.st_rules.specs.Keys.{rising, same_client}
use Rattle.st_rules.specs.Locks.{Locks, is_among, is_below, is_row_of, is_wait_of, is_wait_on, next_waiter, row_of, stands_against, wish}
use Rattle.st_lock_tables.specs.WaitedFiles.{is_one_of, is_waited, is_waited_besides}

-- marked files: all, or those of a list
pub record TouchedFiles : Type 0 where
  pub all : Bool
  pub files : List ℕ

-- the file is marked
abbrev pub is_marked : TouchedFiles → ℕ → Bool
is_marked m ino = m.all || list_any (λ k. k == ino) m.files

-- the files that pass are marked too; others may be
abbrev pub MarksAll : (ℕ → Bool) → TouchedFiles → TouchedFiles → Type 0
MarksAll passes old new = (j : ℕ) → is_marked new j ≡ false → (is_marked old j ≡ false) × (passes j ≡ false)

-- one file is marked too; others may be
abbrev pub Marks : ℕ → TouchedFiles → TouchedFiles → Type 0
Marks ino old new = MarksAll (λ j. ino == j) old new

-- no file is marked
abbrev pub IsClear : TouchedFiles → Type 0
IsClear m = (j : ℕ) → is_marked m j ≡ false

-- all files are marked
abbrev pub IsFull : TouchedFiles → Type 0
IsFull m = (j : ℕ) → is_marked m j ≡ true

-- the files that a pass walks: all that are waited for, or those of the list
abbrev pub walked : TouchedFiles → List ℕ → List ℕ
walked m waited = if m.all then waited else rising m.files

-- the demand asks for this mode or a lower one
abbrev pub is_low : Mode → Option RowDemand → Bool
is_low to None = false
is_low to (Some d) = not (is_below to d.to)

-- the client has a row in the way of the wait
abbrev pub is_in_way : Waiter → ClientId → LockRow → Bool
is_in_way w c r = stands_against w.client w.ino w.mode r && same_client r.client c

-- the moments at which files must be looked at again, each with its file
abbrev pub Moments : Type 0
Moments = List (Stamp × ℕ)

-- the order of these moments: by the moment, then by the file
abbrev pub moment_order : Stamp × ℕ → Stamp × ℕ → Ordering
moment_order a b = ordering_then (nat_cmp a.0.0 b.0.0) (nat_cmp a.1 b.1)

-- a moment of this file that is no later than this one
abbrev pub is_by : ℕ → Stamp → Stamp × ℕ → Bool
is_by ino s k = (k.1 == ino) && nat_le k.0.0 s.0

-- the file is looked at again as soon as this moment is old
abbrev pub is_kept : Moments → ℕ → Stamp → Bool
is_kept ms ino s = list_any (is_by ino s) ms

-- the moment is old
abbrev pub is_old : Config → Stamp → Stamp × ℕ → Bool
is_old k now m = nat_le (m.0.0 + k.retry) now.0

-- the file is looked at again as soon as the demand is old
abbrev pub is_timed : Moments → ℕ → Option RowDemand → Bool
is_timed ms ino None = true
is_timed ms ino (Some d) = is_kept ms ino d.sent

-- what was kept still is
abbrev pub KeepsAll : Moments → Moments → Type 0
KeepsAll old new = (j : ℕ) (s : Stamp) → is_kept old j s ≡ true → is_kept new j s ≡ true

-- what was kept still is, except for one file
abbrev pub KeepsOthers : ℕ → Moments → Moments → Type 0
KeepsOthers ino old new = (j : ℕ) (s : Stamp) → (ino == j) ≡ false → is_kept old j s ≡ true → is_kept new j s ≡ true

-- on a tick no moment is old
abbrev pub IsQuiet : Config → Stamp → Bool → Moments → Type 0
IsQuiet k now tick ms = tick ≡ true → list_any (is_old k now) ms ≡ false

-- files that are no longer marked keep their moments; the others were marked or are marked now
abbrev pub Wakes : TouchedFiles → Moments → TouchedFiles → Moments → Type 0
Wakes old was new ms = (j : ℕ) → is_marked new j ≡ false → (is_marked old j ≡ false) × ((s : Stamp) → is_kept was j s ≡ true → is_kept ms j s ≡ true)

-- if some file is not marked, it was not, and the clients are the same
abbrev pub NotesSuspects : TouchedFiles → List ClientId → TouchedFiles → List ClientId → Type 0
NotesSuspects old was new cs = (j : ℕ) → is_marked new j ≡ false → (is_marked old j ≡ false) × (cs ≡ was)

-- the demand on the row of each client in the way of the file's first waiter, except for these clients, passes
abbrev pub EachInWay : Locks → List ClientId → ℕ → (Waiter → Option RowDemand → Bool) → Type 0
EachInWay l besides ino passes =
    (w : Waiter) → find (is_wait_on ino) l.waiters ≡ Some w → (c : ClientId) → list_any (is_in_way w c) l.rows && not (is_among besides c) ≡ true
    → (r : LockRow) → row_of l c w.ino ≡ Some r → passes w r.demand ≡ true

-- of each client in the way a mode is demanded that is low enough
abbrev pub AreDemanded : Locks → List ClientId → ℕ → Type 0
AreDemanded l besides ino = EachInWay l besides ino (λ w d. is_low (wish w.mode) d)

-- the file is looked at again as soon as the demand on a client in the way is old
abbrev pub AreTimed : Moments → Locks → List ClientId → ℕ → Type 0
AreTimed ms l besides ino = EachInWay l besides ino (λ w d. is_timed ms ino d)

-- the file is one of these, and another client waits for it
abbrev pub is_wanted_of : Locks → ClientId → List ℕ → ℕ → Bool
is_wanted_of l c files j = is_one_of files j && is_waited_besides l c j

-- the client has a row of the file, and another client waits for it
abbrev pub is_held_up : Locks → ClientId → ℕ → Bool
is_held_up l c j = list_any (is_row_of c j) l.rows && is_waited_besides l c j

-- the client waits for the file, and so does another client
abbrev pub is_shared_wait : Locks → ClientId → ℕ → Bool
is_shared_wait l c j = list_any (is_wait_of c j) l.waiters && is_waited_besides l c j

-- the file is one of those of these rows
abbrev pub is_file_of : List (ℕ × GrantNo × Mode) → ℕ → Bool
is_file_of rows j = list_any (λ r. r.0 == j) rows

-- the file is marked too, if somebody waits for it
abbrev pub MarksWaited : Locks → ℕ → TouchedFiles → TouchedFiles → Type 0
MarksWaited l ino old new = MarksAll (λ j. is_waited l ino && (ino == j)) old new

-- all files are timed, if those that were not walked were
abbrev pub Times : List ClientId → (ℕ → Bool) → Locks → Moments → Locks → Moments → Type 0
Times besides walked l was m ms = (j : ℕ) → (walked j ≡ false → AreTimed was l besides j) → AreTimed ms m besides j

-- the rows of these clients on the file are timed
abbrev pub TimesRows : Locks → List ClientId → ℕ → Moments → Type 0
TimesRows l cs ino ms = (c : ClientId) → is_among cs c ≡ true → (r : LockRow) → row_of l c ino ≡ Some r → is_timed ms ino r.demand ≡ true

-- an untouched file has no first waiter that may be granted; what is in its way is demanded, except for these clients; and it is looked at again as soon as one
-- of these demands is old
pub record IsSettled (l : Locks) (granting demanding : TouchedFiles) (moments : Moments) (besides : List ClientId) : Type 0 where
  pub granted : (ino : ℕ) → is_marked granting ino ≡ false → next_waiter l ino ≡ None
  pub demanded : (ino : ℕ) → is_marked demanding ino ≡ false → AreDemanded l besides ino
  pub timed : (ino : ℕ) → is_marked demanding ino ≡ false → AreTimed moments l besides ino
