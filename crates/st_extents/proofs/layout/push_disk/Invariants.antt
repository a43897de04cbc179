use Rattle.std.proofs.Common.{◌≡◌, ◌+◌, ◌-◌, ◌++◌, map, vec_len}
use Rattle.st_rules.specs.Extents as extents
use Rattle.st_extents.proofs.layout.push_disk.Given as goal

abbrev pub invariant-loop-block : goal.invariant-loop-block
invariant-loop-block l = record {
  added : l.own.items ++ map (extents.block_at l.place) (extents.numbers l.block (l.blocks - l.block)) ≡ l.fn.own.items ++ map (extents.block_at l.place) (extents.numbers 0 l.blocks);
  bounded : vec_len l.own ≡ vec_len l.fn.own + l.block;
}
