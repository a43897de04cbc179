-- From which moment on a tick does something at a server.
use Rattle.std.specs.Prelude.{◌≡◌, ◌≢◌, ℕ, ◌+◌, Bool, true, false, if◌then◌else◌, List, [], ◌∷◌, ◌++◌, filter_map, find, map, Option, Some, None, is_some}
use Rattle.std.specs.List.{flat_map, list_any}
use Rattle.st_base.specs.declared.config.Config.{Config}
use Rattle.st_base.specs.declared.ids.ClientId.{ClientId}
use Rattle.st_base.specs.declared.ids.Stamp.{Stamp}
use Rattle.st_base.specs.declared.mode.Mode.{Mode}
use Rattle.st_rules.specs.declared.authority.Suspect.{Suspect}
use Rattle.st_rules.specs.declared.input.ServerInput.TheVariants.{Tick}
use Rattle.st_rules.specs.declared.locks.LockRow.{LockRow}
use Rattle.st_rules.specs.declared.locks.RowDemand.{RowDemand}
use Rattle.st_rules.specs.declared.locks.Waiter.{Waiter}
use Rattle.st_rules.specs.Authority.{Authority, may_ack, suspects_of}
use Rattle.st_rules.specs.Grace.{Grace}
use Rattle.st_rules.specs.Locks.{Locks, is_below, is_wait_on, next_waiter, row_of, to_demand, waited_files, wish}
use Rattle.st_rules.specs.Server.{ServerState, server_step, turn}
use Rattle.st_due.specs.Moments.{earliest, is_due}

-- Thefts: a suspect's timer ends.
abbrev pub theft_of : ℕ → Suspect → ℕ
theft_of wait s = s.start.0 + wait

-- the ends of all timers
abbrev pub thefts_at : Authority → List ℕ
thefts_at a = map (theft_of a.wait) a.suspects

-- Suspicions: a demand on a row of a client that isn't a suspect has waited too long for its answer.
abbrev pub overdue_since : Config → Option Stamp → Option ℕ
overdue_since k None = None
overdue_since k (Some since) = Some (since.0 + k.demand)

-- if the row is demanded
abbrev pub overdue_demand : Config → Option RowDemand → Option ℕ
overdue_demand k None = None
overdue_demand k (Some d) = overdue_since k d.since

-- of a row
abbrev pub suspicion_at : Config → Authority → LockRow → Option ℕ
suspicion_at k a r = if may_ack a r.client then overdue_demand k r.demand else None

-- of all rows
abbrev pub suspicions_at : Config → Authority → Locks → List ℕ
suspicions_at k a l = filter_map (suspicion_at k a) l.rows

-- Grants: the first waiter of a file may be granted, once grace is over.
abbrev pub grace_end : Option Grace → ℕ
grace_end None = 0
grace_end (Some g) = g.start.0 + g.wait

-- the first waiter of a file may be granted
abbrev pub may_grant_on : Locks → ℕ → Bool
may_grant_on l ino = is_some (next_waiter l ino)

-- a first waiter may be granted
abbrev pub grants_at : Option Grace → Locks → List ℕ
grants_at g l = if list_any (may_grant_on l) (waited_files l) then grace_end g ∷ [] else []

-- Demands: a row in the way of a first waiter was never demanded, or not down to what the waiter needs; or the last demand is old.
abbrev pub demand_again_at : Config → Mode → RowDemand → ℕ
demand_again_at k to d = if is_below to d.to then 0 else d.sent.0 + k.retry

-- if it was demanded
abbrev pub demand_at : Config → Mode → Option RowDemand → ℕ
demand_at k to None = 0
demand_at k to (Some d) = demand_again_at k to d

-- of a row, if there is one
abbrev pub demand_of_row : Config → Mode → Option LockRow → Option ℕ
demand_of_row k to None = None
demand_of_row k to (Some r) = Some (demand_at k to r.demand)

-- of a client's row of a file
abbrev pub demand_of_client : Config → Locks → ℕ → Mode → ClientId → Option ℕ
demand_of_client k l ino to c = demand_of_row k to (row_of l c ino)

-- of the rows in the way of a waiter
abbrev pub demands_for : Config → Locks → List ClientId → Option Waiter → List ℕ
demands_for k l suspects None = []
demands_for k l suspects (Some w) = filter_map (demand_of_client k l w.ino (wish w.mode)) (to_demand l suspects w)

-- of the rows in the way of a file's first waiter
abbrev pub demands_on : Config → Locks → List ClientId → ℕ → List ℕ
demands_on k l suspects ino = demands_for k l suspects (find (is_wait_on ino) l.waiters)

-- of all rows
abbrev pub demands_at : Config → Locks → List ClientId → List ℕ
demands_at k l suspects = flat_map (demands_on k l suspects) (waited_files l)

-- the moments of all timers
abbrev pub moments : ServerState → List ℕ
moments s =
    thefts_at s.authority ++
    (suspicions_at s.config s.authority s.locks ++ (grants_at s.grace s.locks ++ demands_at s.config s.locks (suspects_of s.authority)))

-- the moment from which on a tick does something; none if no tick ever does
abbrev pub server_due : ServerState → Option ℕ
server_due s = earliest (moments s)

-- A tick before that moment leaves the server as it is, without outputs; at that moment and later it doesn't.
pub record TickIsDue (s : ServerState) (now : Stamp) : Type 0 where
  pub before : is_due (server_due s) now ≡ false → server_step s now Tick ≡ turn s []
  pub after : is_due (server_due s) now ≡ true → server_step s now Tick ≢ turn s []

-- at each state and each moment
abbrev pub TicksAreDue : Type 0
TicksAreDue = (s : ServerState) (now : Stamp) → TickIsDue s now
