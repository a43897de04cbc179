-- How a wait ends: what a step that leaves a wait no longer the first of its file has done.
use Rattle.std.specs.Prelude.{◌≡◌, ◌≢◌, ◌<◌, ◌⊎◌, ℕ, true, List, Option, Some, None, Ok, is_some}
use Rattle.st_base.specs.declared.ids.GrantNo.{GrantNo}
use Rattle.st_base.specs.declared.mode.Mode.{Mode}
use Rattle.st_messages.specs.declared.message.Body.TheVariants as bodies
use Rattle.st_messages.specs.declared.message.Message.{Message}
use Rattle.st_messages.specs.declared.message.NameOp.TheVariants.{Remove}
use Rattle.st_rules.specs.declared.locks.LockRow.{LockRow}
use Rattle.st_rules.specs.declared.locks.Waiter.{Waiter}
use Rattle.st_rules.specs.Authority.{Authority, suspect_of}
use Rattle.st_rules.specs.Locks.{Locks, row_of, wait_of}
use Rattle.st_rules.specs.Names as names
use Rattle.st_rules.specs.Names.{Names}
use Rattle.st_laws_waits.specs.Chase.{IsFirst}

-- The lock that was waited for is there: its client has a row of the wait's life and mode, and no longer waits for the file.
pub record IsGranted (w : Waiter) (l : Locks) : Type 0 where
  pub row : LockRow
  pub found : row_of l w.client w.ino ≡ Some row
  pub life : row.life ≡ w.life
  pub mode : row.mode ≡ w.mode
  pub waits_not : wait_of l w.client w.ino ≡ None

-- the wait's client greets in a later life
abbrev pub GreetsLater : Waiter → Message → Type 0
GreetsLater w m = (m.header.from ≡ w.client.0) × (m.body ≡ bodies.Hello) × (w.life.0 < m.header.life)

-- the wait's client asks for the file in another mode
abbrev pub AsksAnew : Waiter → Message → Type 0
AsksAnew w m = (m.header.from ≡ w.client.0) × ((mode : Mode) × ((mode ≢ w.mode) × (m.body ≡ bodies.Acquire w.ino mode)))

-- the entry of the wait's file, in these names, is removed
abbrev pub RemovesFile : Waiter → Names → Message → Type 0
RemovesFile w ns m =
    (dir : ℕ) × ((name : List ℕ) × ((g : GrantNo) × ((m.body ≡ bodies.Name (Remove dir name g)) × (names.lookup ns dir name ≡ Ok w.ino))))

-- Why a wait is no longer the first of its file, by the message that the server received, if it received one, the names that it had, and the timers and
-- locks that it has now.
pub data EndsBy (w : Waiter) (received : Option Message) (ns : Names) (a : Authority) (l : Locks) : Type 0 where
  Granted : IsGranted w l → EndsBy w received ns a l
  Suspected : is_some (suspect_of a w.client) ≡ true → EndsBy w received ns a l
  Greeted : (m : Message) → received ≡ Some m → GreetsLater w m → EndsBy w received ns a l
  Asked : (m : Message) → received ≡ Some m → AsksAnew w m → EndsBy w received ns a l
  Removed : (m : Message) → received ≡ Some m → RemovesFile w ns m → EndsBy w received ns a l

-- the wait is still the first of its file, or it ended for one of these reasons
abbrev pub GoesOnOrEnds : Waiter → Option Message → Names → Authority → Locks → Type 0
GoesOnOrEnds w received ns a l = IsFirst w l ⊎ EndsBy w received ns a l

-- the wait that the table has of its client for its file
abbrev pub IsWaiting : Waiter → Locks → Type 0
IsWaiting w l = wait_of l w.client w.ino ≡ Some w

-- the wait goes on, first or not, or it ended for one of these reasons
abbrev pub StaysOrEnds : Waiter → Option Message → Names → Authority → Locks → Type 0
StaysOrEnds w received ns a l = IsWaiting w l ⊎ EndsBy w received ns a l
