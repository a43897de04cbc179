use Rattle.std.proofs.Common.{◌≡◌, ◌++◌, drop, length, true}
use Rattle.std.specs.List.{list_all}
use Rattle.st_world_parts.specs.OutstandingCommands.{is_below, spares_at}
use Rattle.st_world_parts.proofs.spares.spares_of.Given as goal

abbrev pub invariant-loop-i : goal.invariant-loop-i
invariant-loop-i l = record {
  below : list_all (is_below (length l.issued)) (drop l.i l.outstanding) ≡ true;
  so_far : l.found.items ++ spares_at l.issued (drop l.i l.outstanding) ≡ spares_at l.issued l.outstanding;
}
