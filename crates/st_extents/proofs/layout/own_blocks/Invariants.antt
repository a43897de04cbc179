use Rattle.std.proofs.Common.{◌≡◌, ◌*◌, ◌≤◌, ◌++◌, vec_len}
use Rattle.st_rules.specs.Extents as extents
use Rattle.st_extents.proofs.Blocks.{rows_from}
use Rattle.st_extents.proofs.layout.own_blocks.Given as goal

abbrev pub invariant-loop-place : goal.invariant-loop-place
invariant-loop-place l = record {
  added : l.own.items ++ rows_from (extents.blocks_of (extents.no_extents l.server l.servers l.disks l.blocks)) (extents.is_own_disk (extents.no_extents l.server l.servers l.disks l.blocks)) l.place l.disks ≡ extents.own_blocks (extents.no_extents l.server l.servers l.disks l.blocks);
  bounded : vec_len l.own ≤ l.place * 4096;
}
