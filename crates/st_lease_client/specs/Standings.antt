-- Standings: what a standing shows, and the standing of each kind.
use Rattle.st_base.specs.declared.ids.ServerId.{ServerId}
use Rattle.st_base.specs.declared.ids.Stamp.{Stamp}
use Rattle.st_rules.specs.declared.client.StandingKind.{StandingKind}
use Rattle.st_rules.specs.declared.client.StandingKind.TheVariants as kinds
use Rattle.st_lease_client.specs.declared.permits.SettledAt.{SettledAt}
use Rattle.st_lease_client.specs.declared.standing.Standing.{Standing}
use Rattle.st_lease_client.specs.declared.standing.Standing.TheVariants as standings

-- the standing of a kind
abbrev pub standing_as : StandingKind → SettledAt → Standing
standing_as kinds.Idle at = standings.Idle at
standing_as kinds.Serve at = standings.Serve at
standing_as kinds.Hold at = standings.Hold at
standing_as kinds.Drain at = standings.Drain at
standing_as kinds.Lost at = standings.Lost at

-- the kind of a standing
abbrev pub kind_of : Standing → StandingKind
kind_of (standings.Idle receipt) = kinds.Idle
kind_of (standings.Serve permit) = kinds.Serve
kind_of (standings.Hold permit) = kinds.Hold
kind_of (standings.Drain permit) = kinds.Drain
kind_of (standings.Lost permit) = kinds.Lost

-- its server and its moment
abbrev pub at_of : Standing → SettledAt
at_of (standings.Idle receipt) = receipt
at_of (standings.Serve permit) = permit
at_of (standings.Hold permit) = permit
at_of (standings.Drain permit) = permit
at_of (standings.Lost permit) = permit

-- its server
abbrev pub server_of : Standing → ServerId
server_of standing = (at_of standing).server

-- its moment
abbrev pub moment_of : Standing → Stamp
moment_of standing = (at_of standing).moment
