use Rattle.std.proofs.Common.{◌≡◌, drop, length, true}
use Rattle.std.specs.List.{list_all, list_any}
use Rattle.st_world_parts.specs.OutstandingCommands.{is_below, is_write_of}
use Rattle.st_world_parts.proofs.outstanding.any_write_of.Given as goal

abbrev pub invariant-loop-i : goal.invariant-loop-i
invariant-loop-i l = record {
  below : list_all (is_below (length l.issued)) (drop l.i l.outstanding) ≡ true;
  so_far : list_any (is_write_of l.client l.server l.starts l.life l.issued) (drop l.i l.outstanding) ≡ list_any (is_write_of l.client l.server l.starts l.life l.issued) l.outstanding;
}
