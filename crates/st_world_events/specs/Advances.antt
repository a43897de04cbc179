-- What an advance needs.
use Rattle.std.specs.Prelude.{◌≡◌, ◌≤◌, ◌^◌, ◌==◌, ℕ, List, true, false, None, length}
use Rattle.std.specs.List.{list_all}
use Rattle.st_world_parts.specs.Clocks.{is_at_most, is_step}
use Rattle.st_rules.specs.Leases.{drift_after, first_excess}
use Rattle.st_rules.specs.World.{World}

-- An advance that is accepted: each clock has an increment below 2^32 and is at most 2^62, and under the second form no clocks
-- run apart too far.
pub record IsAccepted (w : World) (steps : List ℕ) : Type 0 where
  pub each : length steps ≡ length w.clocks
  pub nodes : length steps ≡ length w.drift
  pub clocks : list_all (is_at_most (2 ^ 62)) w.clocks ≡ true
  pub small : list_all is_step steps ≡ true
  pub rate : w.config.den ≤ 1048576
  pub grain : w.config.grain ≤ 2 ^ 40
  pub drift : (w.form == 1) ≡ false → first_excess (drift_after w.drift steps w.config.num w.config.den) w.config.den w.config.grain ≡ None
