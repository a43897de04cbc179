use Rattle.st_lemmas.proofs.Words
use Words.{◌≤◌, length, arith}
use Rattle.st_move.specs.Updates.{bytes_of}
use Rattle.st_move.proofs.Bytes.{count_few}
use Rattle.st_move.proofs.updates.Updates.len.Goals as goal

pub len-requires : goal.len-requires
len-requires c =
    let n : length c.self.inside.items ≤ bytes_of c.self.inside.items = count_few c.self.inside.items c.self.invariant.0.each in
    omega (arith, n, c.self.invariant.0.few)

pub returns-clause-few : goal.returns-clause-few
returns-clause-few c =
    let n : length c.self.inside.items ≤ bytes_of c.self.inside.items = count_few c.self.inside.items c.self.invariant.0.each in
    omega (arith, n, c.self.invariant.0.few, c.len.ensures)
