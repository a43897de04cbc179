-- A client's lease at a server, and what each call leaves of it.
use Rattle.std.specs.Prelude.{Option, Some, None, option_map}
use Rattle.st_base.specs.declared.ids.ServerId.{ServerId}
use Rattle.st_base.specs.declared.ids.Stamp.{Stamp}
use Rattle.st_base.specs.declared.config.Config.{Config}
use Rattle.st_rules.specs.declared.lease.Phase.{Phase}
use Rattle.st_rules.specs.declared.client.StandingKind.{StandingKind}
use Rattle.st_rules.specs.ClientLease.{ClientLease}
use Rattle.st_rules.specs.ClientLease as leases
use Rattle.st_lease_client.specs.declared.permits.SettledAt.{SettledAt}
use Rattle.st_lease_client.specs.declared.standing.Standing.{Standing}
use Rattle.st_lease_client.specs.Standings.{standing_as}

-- the server, the settings, and the lease that is held, if one is
pub record ServerLease : Type 0 where
  pub server : ServerId
  pub config : Config
  pub lease : Option ClientLease

-- no lease is held
abbrev pub no_lease : ServerId → Config → ServerLease
no_lease server config = record { server = server; config = config; lease = None }

-- the phase, if a lease is held
abbrev pub phase : ServerLease → Stamp → Option Phase
phase l now = leases.phase_at l.config l.lease now

-- the end, if a lease is held
abbrev pub end : ServerLease → Option Stamp
end l = leases.end_at l.config l.lease

-- the kind of its standing
abbrev pub kind : ServerLease → Stamp → StandingKind
kind l now = leases.standing l.config l.lease now

-- a moment at the lease's server
abbrev pub settled_at : ServerLease → Stamp → SettledAt
settled_at l now = record { server = l.server; moment = now }

-- the standing at a moment
abbrev pub settled : ServerLease → Stamp → Standing
settled l now = standing_as (kind l now) (settled_at l now)

-- a lease that began
abbrev pub begun : Stamp → ServerLease → ServerLease
begun stamp l = record l { lease = Some (leases.new_lease stamp) }

-- a lease that was renewed
abbrev pub renewed : Stamp → ServerLease → ServerLease
renewed stamp l = record l { lease = option_map (leases.renewed stamp) l.lease }

-- a lease that was condemned
abbrev pub condemned : ServerLease → ServerLease
condemned l = record l { lease = option_map leases.condemned l.lease }

-- a lease that was lost
abbrev pub closed : ServerLease → ServerLease
closed l = record l { lease = None }
