use Rattle.st_lemmas.proofs.Words
use Words.{ap, length, arith}
use Rattle.st_move.specs.Chunks.{chunks_of}
use Rattle.st_move.proofs.InChunks.{kept_length}
use Rattle.st_move.proofs.chunks.UpdateList.len.Goals as goal

pub overflow_mul-result : goal.overflow_mul-result
overflow_mul-result c =
    let k = kept_length (chunks_of c.self.inside.chunks) c.self.inside.last.items c.self.invariant in
    let v = ap length c.self.view_is in
    omega (arith, k, v, c.len.ensures, c.requires)

pub overflow_add-result : goal.overflow_add-result
overflow_add-result c =
    let k = kept_length (chunks_of c.self.inside.chunks) c.self.inside.last.items c.self.invariant in
    let v = ap length c.self.view_is in
    omega (arith, k, v, c.len.ensures, c.len-2.ensures, c.requires)

pub returns : goal.returns
returns c =
    let k = kept_length (chunks_of c.self.inside.chunks) c.self.inside.last.items c.self.invariant in
    let v = ap length c.self.view_is in
    omega (arith, k, v, c.len.ensures, c.len-2.ensures)
