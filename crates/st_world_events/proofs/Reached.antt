-- The lives whose lease ends are reached: present ones, and those that ended.
use Rattle.std.proofs.Common.{◌≡◌, ℕ, List, ◌++◌, sym}
use Rattle.std.specs.Prelude.{filter}
use Rattle.std.proofs.lemmas.List.Elements.{filter-append}
use Rattle.st_rules.specs.Events.{is_reached, lives_reached, present_lives}
use Rattle.st_rules.specs.World.{World}
use Rattle.st_world_parts.specs.Clocks as clocked

-- the lives that an advance reaches
pub reached_is : (w : World) (steps : List ℕ) → filter (clocked.is_reached w.clocks steps) (present_lives w.clients) ++ filter (clocked.is_reached w.clocks steps) w.ended ≡ lives_reached w steps
unfolding lives_reached
reached_is w steps = sym (filter-append (is_reached w steps) (present_lives w.clients) w.ended)
