-- A client's lease at a server: its date, its phase at a moment, and what that permits.
use Rattle.std.specs.Prelude.{Bool, true, false, ◌&&◌, not, nat_lt, if◌then◌else◌, Option, Some, None, option_map, ⊤}
use Rattle.st_base.specs.declared.ids.Stamp.{Stamp}
use Rattle.st_base.specs.declared.config.Config.{Config}
use Rattle.st_rules.specs.declared.lease.Phase.{Phase}
use Rattle.st_rules.specs.declared.lease.Phase.TheVariants.{Valid, Renewal, Quiesce, Flush, Expired}
use Rattle.st_rules.specs.declared.client.StandingKind.{StandingKind}
use Rattle.st_rules.specs.declared.client.StandingKind.TheVariants.{Idle, Serve, Hold, Drain, Lost}
use Rattle.st_rules.specs.Leases.{phase, lease_end, leases_open}

-- A lease that is held: the client's own reading when it asked for it, and whether it must no longer be renewed.
pub record ClientLease : Type 0 where
  pub date : Stamp
  pub condemned : Bool

-- a lease that begins
abbrev pub new_lease : Stamp → ClientLease
new_lease stamp = record { date = stamp; condemned = false }

-- The phase of a lease that is held.
abbrev pub phase_of : Config → ClientLease → Stamp → Phase
phase_of k l now = phase k l.date l.condemned now

-- the phase, if a lease is held
abbrev pub phase_at : Config → Option ClientLease → Stamp → Option Phase
phase_at k None now = None
phase_at k (Some l) now = Some (phase_of k l now)

-- the end of a lease
abbrev pub end_of : Config → ClientLease → Stamp
end_of k l = lease_end k l.date

-- the end, if a lease is held
abbrev pub end_at : Config → Option ClientLease → Option Stamp
end_at k l = option_map (end_of k) l

-- Standing: idle without a lease; it serves in valid and renewal, holds in quiesce, drains in flush, and is lost when expired.
abbrev pub standing_by : Phase → StandingKind
standing_by Valid = Serve
standing_by Renewal = Serve
standing_by Quiesce = Hold
standing_by Flush = Drain
standing_by Expired = Lost

-- the standing, if there may be no lease
abbrev pub standing_at : Option Phase → StandingKind
standing_at None = Idle
standing_at (Some p) = standing_by p

-- Standing at a moment
abbrev pub standing : Config → Option ClientLease → Stamp → StandingKind
standing k l now = standing_at (phase_at k l now)

-- What a standing permits.

-- a session may begin
abbrev pub may_begin : StandingKind → Bool
may_begin Idle = true
may_begin other = false

-- pages are read and written for applications
abbrev pub may_use : StandingKind → Bool
may_use Serve = true
may_use other = false

-- disk commands are submitted
abbrev pub may_submit : StandingKind → Bool
may_submit Serve = true
may_submit Hold = true
may_submit Drain = true
may_submit other = false

-- all dirty pages are submitted at once
abbrev pub may_drain : StandingKind → Bool
may_drain Drain = true
may_drain other = false

-- the lease may be renewed or condemned
abbrev pub may_renew : StandingKind → Bool
may_renew standing = may_submit standing

-- all that rests on the lease is discarded
abbrev pub must_discard : StandingKind → Bool
must_discard Lost = true
must_discard other = false

-- the standing of a lease that is held
abbrev pub standing_of : Config → ClientLease → Stamp → StandingKind
standing_of k l now = standing_by (phase_of k l now)

-- keep-alives are sent: from renewal on
abbrev pub is_renewing : Phase → Bool
is_renewing Renewal = true
is_renewing Quiesce = true
is_renewing Flush = true
is_renewing other = false

-- Renewing: the date moves to a later stamp, if the lease is not condemned.
abbrev pub is_renewal : Stamp → ClientLease → Bool
is_renewal stamp l = not l.condemned && nat_lt l.date.0 stamp.0

-- a lease with this date
unfoldable pub dated : Stamp → ClientLease → ClientLease
dated stamp l = record l { date = stamp }

-- Renewing
unfoldable pub renewed : Stamp → ClientLease → ClientLease
renewed stamp l = if is_renewal stamp l then dated stamp l else l

-- Condemning: the lease is no longer renewed, and is at least in quiesce.
unfoldable pub condemned : ClientLease → ClientLease
condemned l = record l { condemned = true }

-- opens all of this file and of those below it
unfoldable pub client_lease_open : ⊤
unfolding leases_open dated renewed condemned
client_lease_open = tt
