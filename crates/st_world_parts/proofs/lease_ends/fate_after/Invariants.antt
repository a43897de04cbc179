use Rattle.std.proofs.Common.{◌≡◌, drop}
use Rattle.st_world_parts.specs.LifeEnds.{ends}
use Rattle.st_world_parts.proofs.lease_ends.fate_after.Given as goal

abbrev pub invariant-loop-life : goal.invariant-loop-life
invariant-loop-life l = ends l.commands.commands (drop l.life-index l.lives) l.of ≡ ends l.commands.commands l.lives l.of
