use Rattle.st_lemmas.proofs.Words
use Words.{◌≡◌, ◌∙◌, length, ap, arith}
use Rattle.st_move.proofs.Loops.{beginnings_length}
use Rattle.st_move.proofs.mover.Mover.new.Goals as goal

pub invariant_of-result : goal.invariant_of-result
invariant_of-result c =
    let e : length c.in_ok-records.records.items ≡ c.args.count = ap length c.in_ok-records.ensures ∙ beginnings_length c.args.server c.args.servers 0 c.args.count in
    omega (arith, c.ranges.count.fits)
