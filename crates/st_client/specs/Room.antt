-- The counters that a step of a client may raise.
use Rattle.std.specs.Prelude.{◌≡◌, ◌<◌, ◌^◌, Bool, true, ◌&&◌, nat_lt}
use Rattle.std.specs.List.{list_all}
use Rattle.st_client_association.specs.Associations.{has_room_at}
use Rattle.st_rules.specs.ClientState.{ClientState}

-- A step may be taken: the number of the next command is below 2^62, and so are, at each server, the next version of a page,
-- the life, and the number of the next request.
pub record HasRoom (c : ClientState) : Type 0 where
  pub commands : c.next_command < 2 ^ 62
  pub each : list_all has_room_at c.associations ≡ true

-- the test of it
abbrev pub has_room : ClientState → Bool
has_room c = nat_lt c.next_command (2 ^ 62) && list_all has_room_at c.associations
