use Rattle.std.proofs.Common.{◌≡◌, ◌++◌, ◌^◌, drop, take, length, true}
use Rattle.std.specs.List.{list_all}
use Rattle.st_world_parts.specs.Clocks.{is_at_most, is_step}
use Rattle.st_rules.specs.Events.{advanced}
use Rattle.st_world_parts.proofs.clocks.advance.Given as goal

abbrev pub invariant-loop-i : goal.invariant-loop-i
invariant-loop-i l = record {
  whole : length l.clocks ≡ length l.steps;
  low : list_all (is_at_most (2 ^ 62)) (drop l.i l.clocks) ≡ true;
  small : list_all is_step (drop l.i l.steps) ≡ true;
  so_far : take l.i l.clocks ++ advanced (drop l.i l.steps) (drop l.i l.clocks) ≡ advanced l.steps l.initial.clocks;
}
