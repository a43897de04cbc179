-- The lock rows of the one file.
use Rattle.std.specs.Prelude.{◌≡◌, true, List, [], ◌∷◌, Option, Some, None}
use Rattle.st_base.specs.declared.ids.ClientId.{ClientId}
use Rattle.st_base.specs.declared.mode.Mode.TheVariants as modes
use Rattle.st_rules.specs.declared.locks.LockRow.{LockRow}
use Rattle.st_rules.specs.Locks.{Locks}
use Rattle.st_tables.specs.Tables.{is_client}

-- the client of the first row
abbrev pub holder_of : List LockRow → Option ClientId
holder_of [] = None
holder_of (r ∷ rows) = Some r.client

-- an exclusive row of the file, which is file 2 of its server
pub record IsFileRow (r : LockRow) : Type 0 where
  pub client : is_client r.client.0 ≡ true
  pub file : r.ino ≡ 2
  pub exclusive : r.mode ≡ modes.X

-- at most one row, and an exclusive one of the file
abbrev pub IsOneRow : List LockRow → Type 0
IsOneRow [] = Unit {0}
IsOneRow (r ∷ []) = IsFileRow r
IsOneRow (r ∷ (q ∷ rows)) = ⊥

-- the lock table of the file: nobody waits, and at most one client has a row, which is exclusive
pub record IsFileTable (l : Locks) : Type 0 where
  pub waits : l.waiters ≡ []
  pub rows : IsOneRow l.rows
