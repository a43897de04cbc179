-- What crashes leave.
use Rattle.std.specs.Prelude.{ℕ, List, ◌++◌, set}
use Rattle.st_world_parts.specs.Clocks.{Lives}
use Rattle.st_base.specs.declared.ids.ClientId.{ClientId}
use Rattle.st_rules.specs.declared.world.LeaseLife.{LeaseLife}
use Rattle.st_model.specs.declared.marking.Spare.{Spare}
use Rattle.st_model.specs.Walks.{without_crashed}
use Rattle.st_rules.specs.Events.{WorldTurn, fates_from, log_crashed, marks, world_turn, with_log, stopped_site, with_crashed_lives}
use Rattle.st_rules.specs.World.{WorldClient, World}

-- with more lives that ended
abbrev pub with_all_ended : List LeaseLife → Lives → Lives
with_all_ended es l = record l { ended = l.ended ++ es }

-- a world with this client at a place
abbrev pub with_site_at : ℕ → WorldClient → World → World
with_site_at i site w = record w { clients = set w.clients i site }

-- the scene after a crash, if these spares were found
abbrev pub crash_marked : ClientId → List Spare → World → WorldTurn
crash_marked c spared w = world_turn (with_log (without_crashed c spared w.log) w) (fates_from 1 w.log (without_crashed c spared w.log))

-- a world in which the client at this place crashed
abbrev pub crashed_at : ClientId → ℕ → WorldClient → World → WorldTurn
crashed_at c i site w = marks (with_site_at i (stopped_site site) (with_crashed_lives site w)) (log_crashed w c)
