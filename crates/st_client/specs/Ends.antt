-- The ends of a client's leases.
use Rattle.std.specs.Prelude.{Option, None, unwrap_or}
use Rattle.st_base.specs.declared.ids.ServerId.{ServerId}
use Rattle.st_base.specs.declared.ids.Stamp.{Stamp}
use Rattle.st_rules.specs.World.{numbered}
use Rattle.st_client.specs.declared.ends.LeaseEnds.{LeaseEnds}

-- the end of the lease at a server
abbrev pub end_in : LeaseEnds → ServerId → Option Stamp
end_in e s = unwrap_or (numbered e.ends s.0) None
