-- Grace and reassertion: for one steal wait after a start a server makes no new grants, and clients reassert the locks
-- that they hold from earlier epochs.
use Rattle.std.specs.Prelude.{ℕ, ◌+◌, Bool, false, ◌&&◌, not, nat_lt, if◌then◌else◌, List, find, filter, map, Option, Some, None, Result, Ok, Err, ⊤}
use Rattle.st_base.specs.declared.ids.ClientId.{ClientId}
use Rattle.st_base.specs.declared.ids.Life.{Life}
use Rattle.st_base.specs.declared.ids.GrantNo.{GrantNo}
use Rattle.st_base.specs.declared.ids.Stamp.{Stamp}
use Rattle.st_base.specs.declared.config.Config.{Config}
use Rattle.st_base.specs.declared.mode.Mode.{Mode}
use Rattle.st_rules.specs.declared.locks.LockRow.{LockRow}
use Rattle.st_rules.specs.declared.locks.InstallRefusal.{InstallRefusal}
use Rattle.st_rules.specs.declared.locks.InstallRefusal.TheVariants as installs
use Rattle.st_rules.specs.declared.authority.AcceptRefusal.{AcceptRefusal}
use Rattle.st_rules.specs.declared.authority.AcceptRefusal.TheVariants.{GraceOver, Conflict, NotHolder}
use Rattle.st_rules.specs.Keys.{least}
use Rattle.st_rules.specs.Leases.{steal_wait, leases_open}
use Rattle.st_rules.specs.Locks.{Locks, is_row_by, ino_of_row, is_earlier_grant, install, locks_open}
use Rattle.st_rules.specs.Sessions.{Sessions, reasserted, sessions_open}

-- the grace of an epoch: when it began, and how long it lasts
pub record Grace : Type 0 where
  pub start : Stamp
  pub wait : ℕ

-- an epoch without grace
abbrev pub no_grace : Option Grace
no_grace = None

-- grace begins now, and lasts for the steal wait
abbrev pub begin_grace : Stamp → Config → Option Grace
begin_grace now k = Some (record { start = now; wait = steal_wait k })

-- Grace: it is on below start + wait. The start is kept until the server stops.
abbrev pub is_within : Grace → Stamp → Bool
is_within g now = nat_lt now.0 (g.start.0 + g.wait)

-- grace is on at this moment
abbrev pub is_on : Option Grace → Stamp → Bool
is_on None now = false
is_on (Some g) now = is_within g now

-- when the grace of this epoch began, or 0 if it had none
abbrev pub grace_start : Option Grace → Stamp
grace_start None = record { 0 = 0 }
grace_start (Some g) = g.start

-- Accepting a reassertion: or its first refusal, in this order: grace is over; a grant number that no earlier epoch gave;
-- the client's own least row of a lower life; a row that conflicts with another client's.
pub record Accepted : Type 0 where
  pub locks : Locks
  pub sessions : Sessions

-- the row has a grant number of this epoch
abbrev pub is_new_grant : Locks → ℕ × GrantNo × Mode → Bool
is_new_grant l row = not (is_earlier_grant l.epoch row.1)

-- the client's row of a lower life
abbrev pub is_row_below : ClientId → Life → LockRow → Bool
is_row_below c life r = is_row_by c r && nat_lt r.life.0 life.0

-- the client's least file with a row of a lower life
abbrev pub own_older : Locks → ClientId → Life → Option ℕ
own_older l c life = least (map ino_of_row (filter (is_row_below c life) l.rows))

-- with these locks, the session has served its first request
unfoldable pub accepted : Locks → Sessions → ClientId → Life → Accepted
accepted l t c life = record { locks = l; sessions = reasserted t c life }

-- rows that are not installed
abbrev pub not_installed : InstallRefusal → AcceptRefusal
not_installed (installs.Conflict ino holder) = Conflict ino holder

-- accepted if the rows are installed
unfoldable pub accept_installed : Sessions → ClientId → Life → Result Locks InstallRefusal → Result Accepted AcceptRefusal
accept_installed t c life (Ok l) = Ok (accepted l t c life)
accept_installed t c life (Err r) = Err (not_installed r)

-- the client has no row of a lower life
unfoldable pub accept_own : Locks → Sessions → ClientId → Life → List (ℕ × GrantNo × Mode) → Option ℕ → Result Accepted AcceptRefusal
accept_own l t c life rows None = accept_installed t c life (install l c life rows)
accept_own l t c life rows (Some ino) = Err (Conflict ino c)

-- all grant numbers are of earlier epochs
unfoldable pub accept_earlier : Locks → Sessions → ClientId → Life → List (ℕ × GrantNo × Mode) → Option (ℕ × GrantNo × Mode) → Result Accepted AcceptRefusal
accept_earlier l t c life rows None = accept_own l t c life rows (own_older l c life)
accept_earlier l t c life rows (Some row) = Err (NotHolder row.0 row.1)

-- accepting in grace
unfoldable pub accept_rows : Locks → Sessions → ClientId → Life → List (ℕ × GrantNo × Mode) → Result Accepted AcceptRefusal
accept_rows l t c life rows = accept_earlier l t c life rows (find (is_new_grant l) rows)

-- Accepting a reassertion at this moment
unfoldable pub accept : Option Grace → Stamp → ClientId → Life → List (ℕ × GrantNo × Mode) → Locks → Sessions → Result Accepted AcceptRefusal
accept g now c life rows l t = if is_on g now then accept_rows l t c life rows else Err (GraceOver (grace_start g) now)

-- opens all of this file and of those below it
unfoldable pub grace_open : ⊤
unfolding leases_open locks_open sessions_open accepted accept_installed accept_own accept_earlier accept_rows accept
grace_open = tt
