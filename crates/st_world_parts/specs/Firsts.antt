-- The first life of each key.
use Rattle.std.specs.Prelude.{Bool, ◌&&◌, ◌==◌, Option, Some, None}
use Rattle.st_base.specs.declared.ids.ClientId.{ClientId}
use Rattle.st_base.specs.declared.ids.Life.{Life}
use Rattle.st_base.specs.declared.ids.ServerId.{ServerId}
use Rattle.st_world_parts.specs.declared.firsts.LifeKey.{LifeKey}
use Rattle.st_rules.specs.declared.world.LeaseLife.{LeaseLife}

-- one key
abbrev pub same_key : LifeKey → LifeKey → Bool
same_key a b = (a.client == b.client) && ((a.server == b.server) && (a.life == b.life))

-- the key of a client's life at a server
abbrev pub life_key : ClientId → ServerId → Life → LifeKey
life_key c s life = record { client = c.0; server = s.0; life = life.0 }

-- the key of a life
abbrev pub key_of : LeaseLife → LifeKey
key_of e = life_key e.client e.server e.life

-- the first of two, if there is one
abbrev pub first_of : Option LeaseLife → Option LeaseLife → Option LeaseLife
first_of None x = x
first_of (Some e) x = Some e
