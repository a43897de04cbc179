-- When a demand is overdue, unless it is on a row of one of some clients.
use Rattle.std.specs.Prelude.{ℕ, ◌+◌, if◌then◌else◌, List, Option, Some, None}
use Rattle.st_base.specs.declared.config.Config.{Config}
use Rattle.st_base.specs.declared.ids.ClientId.{ClientId}
use Rattle.st_base.specs.declared.ids.Stamp.{Stamp}
use Rattle.st_due.specs.ServerDue.{overdue_demand}
use Rattle.st_rules.specs.Locks.{is_among}
use Rattle.st_rules.specs.declared.locks.LockRow.{LockRow}

-- by the moment since which it waits, and its client
abbrev pub overdue_wait : Config → List ClientId → Stamp × ℕ × ClientId → Option ℕ
overdue_wait k besides w = if is_among besides w.2 then None else Some (w.0.0 + k.demand)

-- by its row
abbrev pub overdue_row : Config → List ClientId → LockRow → Option ℕ
overdue_row k besides r = if is_among besides r.client then None else overdue_demand k r.demand
