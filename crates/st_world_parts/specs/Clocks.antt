-- Clocks, by their numbers from 1; lives whose lease ends are reached or are still ahead.
use Rattle.std.specs.Prelude.{ℕ, ◌^◌, Bool, false, nat_le, nat_lt, List, [], ◌∷◌, ◌++◌, Option, Some, None, unwrap_or}
use Rattle.st_base.specs.declared.ids.Stamp.{Stamp}
use Rattle.st_rules.specs.declared.world.LeaseLife.{LeaseLife}
use Rattle.st_rules.specs.Admissible.{reaches}
use Rattle.st_rules.specs.World.{numbered, stamp}

-- clocks, and lives that ended
pub record Lives : Type 0 where
  pub clocks : List Stamp
  pub ended : List LeaseLife

-- the clock of a number, or 0
abbrev pub clock_at : List Stamp → ℕ → Stamp
clock_at clocks n = unwrap_or (numbered clocks n) (stamp 0)

-- the increment of a number, or 0
abbrev pub step_at : List ℕ → ℕ → ℕ
step_at steps n = unwrap_or (numbered steps n) 0

-- the lease end is above the clock
abbrev pub ends_after : Stamp → Option Stamp → Bool
ends_after clock None = false
ends_after clock (Some end) = nat_lt clock.0 end.0

-- the lease end of a life is above its client's clock
abbrev pub is_ahead : List Stamp → LeaseLife → Bool
is_ahead clocks e = ends_after (clock_at clocks e.client.0) e.end

-- an advance reaches the lease end of a life
abbrev pub is_reached : List Stamp → List ℕ → LeaseLife → Bool
is_reached clocks steps e = reaches (clock_at clocks e.client.0) (step_at steps e.client.0) e.end

-- a clock that is at most this
abbrev pub is_at_most : ℕ → Stamp → Bool
is_at_most n t = nat_le t.0 n

-- an increment
abbrev pub is_step : ℕ → Bool
is_step d = nat_lt d (2 ^ 32)

-- with one more life that ended
abbrev pub with_ended : LeaseLife → Lives → Lives
with_ended e l = record l { ended = l.ended ++ e ∷ [] }

-- with these clocks
abbrev pub with_clocks : List Stamp → Lives → Lives
with_clocks clocks l = record l { clocks = clocks }
