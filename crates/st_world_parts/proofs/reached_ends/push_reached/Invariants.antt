use Rattle.std.proofs.Common.{◌≡◌, ◌++◌, drop}
use Rattle.std.specs.Prelude.{filter}
use Rattle.st_world_parts.specs.Clocks.{is_reached}
use Rattle.st_world_parts.proofs.reached_ends.push_reached.Given as goal

abbrev pub invariant-loop-life : goal.invariant-loop-life
invariant-loop-life l =
    l.found.items ++ filter (is_reached l.clocks l.steps) (drop l.life-index l.lives) ≡ l.initial.found.items ++ filter (is_reached l.clocks l.steps) l.lives
