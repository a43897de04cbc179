use Rattle.std.proofs.Common.{◌≡◌, ◌+◌, ◌-◌, take, drop, ap, arith}
use Rattle.st_world_parts.specs.Pieces.{piece}
use Rattle.st_world_parts.proofs.network.slice_at.Goals as goal

pub returns : goal.returns
unfolding piece
returns c =
    let e : c.args.place.start + c.args.place.len - c.args.place.start ≡ c.args.place.len = omega arith in
    ap (λ k. take k (drop c.args.place.start c.args.bytes.now)) e
