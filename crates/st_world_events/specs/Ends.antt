-- The ends of a client's leases.
use Rattle.std.specs.Prelude.{◌≡◌}
use Rattle.st_base.specs.declared.ids.ServerId.{ServerId}
use Rattle.st_client.specs.declared.ends.LeaseEnds.{LeaseEnds}
use Rattle.st_client.specs.Ends.{end_in}
use Rattle.st_rules.specs.Client.{lease_end_with}
use Rattle.st_rules.specs.ClientState.{ClientState}

-- these are the ends of the leases of a client in this state
abbrev pub HasEnds : ClientState → LeaseEnds → Type 0
HasEnds before ends = (s : ServerId) → end_in ends s ≡ lease_end_with before s
