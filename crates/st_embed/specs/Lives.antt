-- The lives of a client at its servers.
use Rattle.std.specs.Prelude.{Bool, ◌==◌, ◌&&◌}
use Rattle.st_rules.specs.ClientState.{ClientState}
use Rattle.st_rules.specs.World.{life_with}
use Rattle.st_embed.specs.declared.lives.FourLives.{FourLives}

-- the lives at servers 1 to 4
abbrev pub four_lives : ClientState → FourLives
four_lives c = record { first = life_with c (record { 0 = 1 }); second = life_with c (record { 0 = 2 }); third = life_with c (record { 0 = 3 }); fourth = life_with c (record { 0 = 4 }) }

-- these are the same
abbrev pub same_lives : FourLives → FourLives → Bool
same_lives a b = a.first.0 == b.first.0 && (a.second.0 == b.second.0 && (a.third.0 == b.third.0 && a.fourth.0 == b.fourth.0))
