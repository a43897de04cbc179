use Rattle.st_lemmas.proofs.Words
use Words.{◌≡◌, take}
use Rattle.st_move.proofs.chunks.chunk_copies.Given as goal

abbrev pub invariant-loop-chunk : goal.invariant-loop-chunk
invariant-loop-chunk l = l.copies.items ≡ take l.chunk-index l.chunks
