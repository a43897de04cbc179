-- What the calls of a server need holds after every list of events.
use Rattle.std.specs.Prelude.{◌≡◌, ◌≤◌, ◌<◌, ◌+◌, ◌^◌, ℕ, true, List, length, Some, Ok}
use Rattle.std.specs.List.{list_all}
use Rattle.st_base.specs.declared.mode.Mode.TheVariants as modes
use Rattle.st_rules.specs.declared.locks.LockRow.{LockRow}
use Rattle.st_rules.specs.declared.locks.Verdict.{Verdict}
use Rattle.st_rules.specs.Locks.{Locks, acquire, row_of}
use Rattle.st_rules.specs.World.{numbered}
use Rattle.st_locks.specs.Calls.{acquired}
use Rattle.st_move.specs.declared.record.ContainerRecord.{ContainerRecord}
use Rattle.st_move.specs.declared.world.MoveEvent.{MoveEvent}
use Rattle.st_move.specs.declared.world.SentMove.{SentMove}
use Rattle.st_move.specs.declared.site.MoveSite.{MoveSite}
use Rattle.st_move.specs.Containers.{container_of, has_next}
use Rattle.st_move.specs.Law.{fresh_history, record_at, run_moves}
use Rattle.st_move.specs.World.{MoveWorld, first, locked, one}

-- What a lock of client 1 needs: one more may be granted, it is granted wherever it is asked for, and it is for the first life.
pub record CanLock (l : Locks) : Type 0 where
  pub room : l.grants + 1 < 2 ^ 32
  pub acquires : (c : ℕ) → (v : Verdict) × (acquire l one first c modes.X true ≡ Ok (acquired (locked l c) v))
  pub releases : (c : ℕ) (r : LockRow) → row_of l one c ≡ Some r → r.life ≡ first

-- After that many events.
pub record CanGoOn (servers containers events : ℕ) (w : MoveWorld) : Type 0 where
  -- there are these servers, and each knows these containers
  pub servers_are : length w.sites ≡ servers
  pub whole : (s : ℕ) (x : MoveSite) → numbered w.sites s ≡ Some x → length x.containers.records ≡ containers
  -- a version is at most one more than the number of events, so a tick may come
  pub versions : (c s : ℕ) (r : ContainerRecord) → record_at w c s ≡ Some r → r.version ≤ events + 1
  pub ticks : (s : ℕ) (x : MoveSite) → numbered w.sites s ≡ Some x → events + 2 < 18446744073709551616 → list_all has_next x.containers.records ≡ true
  -- with fewer than 1,024 containers client 1 may ask for a lock of each
  pub locks : (s : ℕ) (x : MoveSite) → numbered w.sites s ≡ Some x → containers < 1024 → events + 1 < 2 ^ 32 → CanLock x.locks
  -- a message that was sent is of one of the containers, and for one of the servers
  pub known : (k : ℕ) (m : SentMove) → numbered w.sent k ≡ Some m → (1 ≤ container_of m.message) × (container_of m.message ≤ containers)
  pub there : (k : ℕ) (m : SentMove) → numbered w.sent k ≡ Some m → (1 ≤ m.to.0) × (m.to.0 ≤ servers)

-- over every list of events
abbrev pub MovesGoOn : Type 0
MovesGoOn = (servers containers : ℕ) (es : List MoveEvent) → CanGoOn servers containers (length es) (run_moves (fresh_history servers containers) es).world
