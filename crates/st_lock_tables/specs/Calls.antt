-- What the calls of a lock table answer.
use Rattle.std.specs.Prelude.{◌≡◌, ◌<◌, ◌+◌, ◌^◌, ◌&&◌, ◌==◌, ◌++◌, ◌∷◌, [], ℕ, Bool, true, false, not, is_some, find, filter, map, length, nat_le, List}
use Rattle.std.specs.List.{list_all}
use Rattle.std.specs.Prelude.{Option, None, Some, Result, Ok, Err}
use Rattle.st_base.specs.declared.ids.ClientId.{ClientId}
use Rattle.st_base.specs.declared.ids.Life.{Life}
use Rattle.st_base.specs.declared.ids.Epoch.{Epoch}
use Rattle.st_base.specs.declared.ids.GrantNo.{GrantNo}
use Rattle.st_base.specs.declared.mode.Mode.{Mode}
use Rattle.st_base.specs.declared.mode.Mode.TheVariants as modes
use Rattle.st_rules.specs.declared.locks.LockRow.{LockRow}
use Rattle.st_rules.specs.declared.locks.Waiter.{Waiter}
use Rattle.st_rules.specs.declared.locks.Verdict.{Verdict}
use Rattle.st_rules.specs.declared.locks.AcquireRefusal.{AcquireRefusal}
use Rattle.st_rules.specs.declared.locks.AcquireRefusal.TheVariants as acquiring
use Rattle.st_rules.specs.declared.locks.InstallRefusal.{InstallRefusal}
use Rattle.st_rules.specs.declared.locks.InstallRefusal.TheVariants as installing
use Rattle.st_lock_tables.specs.declared.refusal.LockRefusal.{LockRefusal}
use Rattle.st_lock_tables.specs.declared.refusal.LockRefusal.TheVariants.{TooManyLocks, Conflict, Memory}
use Rattle.st_rules.specs.Keys.{client, rising}
use Rattle.st_rules.specs.ServerInvariants.{is_compatible}
use Rattle.st_rules.specs.Locks.{Locks, Acquired, Granting, Demanding, client_of_row, first_after, is_earlier_grant, row_of, is_row_by, is_row_of, is_wait_by, is_wait_on}
use Rattle.st_rules.specs.Locks.{grant_file, demand_row, demand_clients, demand_files, demand_for}
use Rattle.st_lock_tables.specs.declared.passes.Pass.{Pass}

-- a mode of a lock: shared or exclusive
abbrev pub is_lock : Mode → Bool
is_lock modes.None = false
is_lock mode = true

-- the row is of a lock
abbrev pub is_locked : LockRow → Bool
is_locked r = is_lock r.mode

-- the wait is for a lock
abbrev pub is_wanted : Waiter → Bool
is_wanted w = is_lock w.mode

-- the row's grant number is one that this epoch or an earlier one gave
abbrev pub is_given : Epoch → ℕ → LockRow → Bool
is_given epoch grants r = nat_le r.g.0 (first_after epoch + grants)

-- what is always so of a lock table: of its counters; no row conflicts with another client's; no row has a grant number that will still be given; each row is
-- of a lock, and each wait is for one
pub record IsSound (epoch : Epoch) (grants : ℕ) (rows : List LockRow) (waits : List Waiter) : Type 0 where
  pub epochs : epoch.0 < 2 ^ 32
  pub counted : grants < 2 ^ 32
  pub compatible : list_all (is_compatible rows) rows ≡ true
  pub given : list_all (is_given epoch grants) rows ≡ true
  pub locked : list_all is_locked rows ≡ true
  pub wanted : list_all is_wanted waits ≡ true

-- the client has no row of the file
abbrev pub has_no_row : List LockRow → ClientId → ℕ → Bool
has_no_row rows c ino = not (is_some (find (is_row_of c ino) rows))

-- a wait of the client for a file of which it has no row
abbrev pub waits_alone : List LockRow → ClientId → Waiter → Bool
waits_alone rows c w = is_wait_by c w && has_no_row rows c w.ino

-- a row as it is reported
abbrev pub told : Option LockRow → Option (GrantNo × Mode)
told None = None
told (Some r) = Some (r.g, r.mode)

-- the table and the verdict after an acquire
abbrev pub acquired : Locks → Verdict → Acquired
acquired l v = record { locks = l; verdict = v }

-- an acquire answers as its definition says; if it refuses, or if memory runs out, nothing changes
abbrev pub Answers : Locks → Locks → Result Verdict LockRefusal → Result Acquired AcquireRefusal → Type 0
Answers old new (Ok v) machine = machine ≡ Ok (acquired new v)
Answers old new (Err Memory) machine = new ≡ old
Answers old new (Err TooManyLocks) machine = (machine ≡ Err acquiring.TooManyLocks) × (new ≡ old)
Answers old new (Err (Conflict ino holder)) machine = ⊥

-- an acquire that is not refused
abbrev pub Gives : Locks → Locks → Result Verdict LockRefusal → Acquired → Type 0
Gives old new (Ok v) a = a ≡ acquired new v
Gives old new (Err e) a = (e ≡ Memory) × (new ≡ old)

-- the table and the grants so far
abbrev pub granting : Locks → List (ClientId × Life × ℕ × GrantNo × Mode) → Granting
granting l g = record { locks = l; granted = g }

-- the table and the demands so far
abbrev pub demanding : Locks → List (ClientId × Life × ℕ × GrantNo × Mode) → Demanding
demanding l g = record { locks = l; due = g }

-- one file
abbrev pub same_file : ℕ × GrantNo × Mode → ℕ × GrantNo × Mode → Bool
same_file a b = a.0 == b.0

-- a row goes last
abbrev pub with_one : Locks → LockRow → Locks
with_one l r = record l { rows = l.rows ++ r ∷ [] }

-- an install answers as its definition says; if it refuses, nothing changes, and if memory runs out, nothing is promised
abbrev pub Installs : Locks → Locks → Result (Unit {0}) LockRefusal → Result Locks InstallRefusal → Type 0
Installs old new (Ok v) machine = machine ≡ Ok new
Installs old new (Err Memory) machine = Unit {0}
Installs old new (Err TooManyLocks) machine = ⊥
Installs old new (Err (Conflict ino holder)) machine = (machine ≡ Err (installing.Conflict ino holder)) × (new ≡ old)

-- the row is the client's, and of this life or a higher one
abbrev pub is_row_from : ClientId → Life → LockRow → Bool
is_row_from c life r = is_row_by c r && nat_le life.0 r.life.0

-- the clients with a row that passes, in rising order
abbrev pub clients_of : (LockRow → Bool) → List LockRow → List ClientId
clients_of p rows = map client (rising (map client_of_row (filter p rows)))

-- the grants of one file, of which there are at most as many as waiters
abbrev pub file_granted : ℕ → Granting → Granting
file_granted ino p = grant_file ino (length p.locks.waiters) p

-- the client's row of the file is demanded, if that is due
abbrev pub row_demanded : Pass → Mode → ClientId → ℕ → Demanding → Demanding
row_demanded pass to c ino d = demand_row pass.config pass.now pass.tick to (row_of d.locks c ino) d

-- the rows of these clients on a file are demanded
abbrev pub rows_demanded : Pass → ℕ → Mode → List ClientId → Demanding → Demanding
rows_demanded pass ino to cs d = demand_clients pass.config pass.now pass.tick ino to cs d

-- the rows in the way of a file's first waiter are demanded
abbrev pub file_demanded : Pass → List ClientId → ℕ → Demanding → Demanding
file_demanded pass suspects ino d = demand_for pass.config pass.now pass.tick suspects (find (is_wait_on ino) d.locks.waiters) d

-- the rows in the way of a wait are demanded
abbrev pub wait_demanded : Pass → List ClientId → Waiter → Demanding → Demanding
wait_demanded pass suspects w d = demand_for pass.config pass.now pass.tick suspects (Some w) d

-- the rows in the way of the first waiters of these files are demanded
abbrev pub files_demanded : Pass → List ClientId → List ℕ → Demanding → Demanding
files_demanded pass suspects files d = demand_files pass.config pass.now pass.tick suspects files d

-- a row that must be installed is of a lock
abbrev pub is_lock_row : ℕ × GrantNo × Mode → Bool
is_lock_row r = is_lock r.2

-- an earlier epoch gave the grant number of a row that must be installed
abbrev pub is_old_row : Epoch → ℕ × GrantNo × Mode → Bool
is_old_row epoch r = is_earlier_grant epoch r.1
