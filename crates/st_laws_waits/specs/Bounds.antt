-- What holds of the demands and the timers of a server that ticks in time.
use Rattle.std.specs.Prelude.{◌≡◌, ◌≤◌, ◌<◌, ◌+◌, ◌⊎◌, ℕ, Bool, true, find, Option, Some, None, is_some}
use Rattle.std.specs.List.{list_any}
use Rattle.st_base.specs.declared.config.Config.{Config}
use Rattle.st_base.specs.declared.ids.ClientId.{ClientId}
use Rattle.st_base.specs.declared.ids.Stamp.{Stamp}
use Rattle.st_rules.specs.declared.authority.Suspect.{Suspect}
use Rattle.st_rules.specs.declared.locks.LockRow.{LockRow}
use Rattle.st_rules.specs.declared.locks.RowDemand.{RowDemand}
use Rattle.st_rules.specs.declared.locks.Waiter.{Waiter}
use Rattle.st_rules.specs.Authority.{Authority, may_ack}
use Rattle.st_rules.specs.Grace as grace
use Rattle.st_rules.specs.Leases.{steal_wait}
use Rattle.st_rules.specs.Locks.{Locks, is_wait_on, row_of, stands_against}
use Rattle.st_rules.specs.Server.{ServerState}
use Rattle.st_rules.specs.Sessions.{session_of}
use Rattle.st_lemmas.specs.Lists.{Has}

-- A demand that waits for an answer was sent before now; of a client that isn't a suspect the last tick was before it is overdue.
abbrev pub SinceInTime : ℕ → ℕ → ℕ → Bool → Option Stamp → Type 0
SinceInTime last now demand free None = Unit {0}
SinceInTime last now demand free (Some t) = (t.0 ≤ now) × (free ≡ true → last < t.0 + demand)

-- of the demand on a row, if there is one
abbrev pub DemandInTime : ℕ → ℕ → ℕ → Bool → Option RowDemand → Type 0
DemandInTime last now demand free None = Unit {0}
DemandInTime last now demand free (Some d) = (d.sent.0 ≤ now) × SinceInTime last now demand free d.since

-- of each row of a table, with these timers
abbrev pub RowsInTime : ℕ → ℕ → ℕ → Authority → Locks → Type 0
RowsInTime last now demand a l = (r : LockRow) → Has r l.rows → DemandInTime last now demand (may_ack a r.client) r.demand

-- of each timer: it began before now, and the last tick was before it is over
abbrev pub TimersInTime : ℕ → ℕ → Authority → Type 0
TimersInTime last now a = (x : Suspect) → Has x a.suspects → (x.start.0 ≤ now) × (last < x.start.0 + a.wait)

-- Each row in the way of a first waiter, of a client that isn't a suspect, is demanded.
abbrev pub AllDemanded : Authority → Locks → Type 0
AllDemanded a l =
    (ino : ℕ) (w : Waiter) (c : ClientId) (r : LockRow) → find (is_wait_on ino) l.waiters ≡ Some w → row_of l c ino ≡ Some r →
    stands_against w.client w.ino w.mode r ≡ true → may_ack a c ≡ true → is_some r.demand ≡ true

-- Each first waiter has a row of another client in its way.
abbrev pub AllBlocked : Locks → Type 0
AllBlocked l = (ino : ℕ) (w : Waiter) → find (is_wait_on ino) l.waiters ≡ Some w → list_any (stands_against w.client w.ino w.mode) l.rows ≡ true

-- whoever has a row has a session
abbrev pub RowsHaveSessions : ServerState → Type 0
RowsHaveSessions n = (r : LockRow) → Has r n.locks.rows → is_some (session_of n.sessions r.client) ≡ true

-- What holds of a server that runs, whose last tick or start was at one moment, at another.
pub record InTime (k : Config) (last now : ℕ) (n : ServerState) : Type 0 where
  pub config : n.config ≡ k
  pub wait : n.authority.wait ≡ steal_wait k
  pub past : last ≤ now
  pub rows : RowsInTime last now k.demand n.authority n.locks
  pub timers : TimersInTime last now n.authority
  pub demanded : AllDemanded n.authority n.locks
  pub blocked : (grace.is_on n.grace (record { 0 = last }) ≡ true) ⊎ AllBlocked n.locks
