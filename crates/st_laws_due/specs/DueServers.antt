-- A server that gets its ticks when they are due: what its timers and demands are then like.
use Rattle.std.specs.Prelude.{◌≡◌, ◌≤◌, ◌+◌, ℕ, true, false, find, Some}
use Rattle.st_base.specs.declared.ids.Stamp.{Stamp}
use Rattle.st_rules.specs.declared.authority.Suspect.{Suspect}
use Rattle.st_rules.specs.declared.locks.LockRow.{LockRow}
use Rattle.st_rules.specs.declared.locks.RowDemand.{RowDemand}
use Rattle.st_rules.specs.declared.locks.Waiter.{Waiter}
use Rattle.st_rules.specs.Authority.{may_ack, suspects_of}
use Rattle.st_rules.specs.Locks.{is_among, is_wait_on, row_of, stands_against}
use Rattle.st_rules.specs.Server.{ServerState}
use Rattle.st_lemmas.specs.Lists.{Has}
use Rattle.st_due.specs.ServerDue.{grace_end, may_grant_on, server_due}

-- The server's clock is at most this gap past the first moment from which on a tick does something.
abbrev pub IsTickedWhenDue : ServerState → ℕ → ℕ → Type 0
IsTickedWhenDue s clock gap = (m : ℕ) → server_due s ≡ Some m → clock ≤ m + gap

-- A suspect is one for no longer than the steal wait and the gap. A demand of another client has waited for its answer for no longer than the demand time
-- and the gap. If the first wait of a file may be granted, the clock is at most the gap past the end of grace, or past 0 without grace. The demand on a row
-- in the way of a first wait was sent no longer ago than a retry and the gap, if the row's client isn't a suspect.
pub record KeepsTime (s : ServerState) (clock gap : ℕ) : Type 0 where
  pub robbed : (x : Suspect) → Has x s.authority.suspects → clock ≤ x.start.0 + s.authority.wait + gap
  pub answered : (r : LockRow) (d : RowDemand) (t : Stamp) → Has r s.locks.rows → r.demand ≡ Some d → d.since ≡ Some t → may_ack s.authority r.client ≡ true →
      clock ≤ t.0 + s.config.demand + gap
  pub granted : (w : Waiter) → Has w s.locks.waiters → may_grant_on s.locks w.ino ≡ true → clock ≤ grace_end s.grace + gap
  pub repeated : (w : Waiter) (r : LockRow) (d : RowDemand) → Has w s.locks.waiters → find (is_wait_on w.ino) s.locks.waiters ≡ Some w → Has r s.locks.rows →
      stands_against w.client w.ino w.mode r ≡ true → is_among (suspects_of s.authority) r.client ≡ false → row_of s.locks r.client w.ino ≡ Some r →
      r.demand ≡ Some d → clock ≤ d.sent.0 + s.config.retry + gap

-- So is every server that gets its ticks when they are due.
abbrev pub DueServersKeepTime : Type 0
DueServersKeepTime = (s : ServerState) (clock gap : ℕ) → IsTickedWhenDue s clock gap → KeepsTime s clock gap
