-- The clocks of a world and the lives that ended, and what is kept beside them.
use Rattle.std.specs.Prelude.{◌≡◌, List, filter, find}
use Rattle.indexmap.specs.IndexMap.{IndexMap, get}
use Rattle.st_base.specs.declared.ids.ClientId.{ClientId}
use Rattle.st_base.specs.declared.ids.Life.{Life}
use Rattle.st_base.specs.declared.ids.ServerId.{ServerId}
use Rattle.st_base.specs.declared.ids.Stamp.{Stamp}
use Rattle.st_world_parts.specs.declared.firsts.LifeKey.{LifeKey}
use Rattle.st_rules.specs.declared.world.LeaseLife.{LeaseLife}
use Rattle.st_rules.specs.World.{is_life_of}
use Rattle.st_world_parts.specs.Clocks.{is_ahead}
use Rattle.st_world_parts.specs.Firsts.{life_key, same_key}

-- what is kept beside the clocks and the lives
pub record IsKept {S : Type 0} (clocks : List Stamp) (ended : List LeaseLife) (firsts : IndexMap LifeKey LeaseLife S) (still : List LeaseLife) : Type 0 where
  pub first : (c : ClientId) (s : ServerId) (life : Life) → get same_key firsts (life_key c s life) ≡ find (is_life_of c s life) ended
  pub later : still ≡ filter (is_ahead clocks) ended
