use Rattle.st_lemmas.proofs.Words
use Words.{◌≡◌, take}
use Rattle.st_move.proofs.chunks.copies.Given as goal

abbrev pub invariant-loop-item : goal.invariant-loop-item
invariant-loop-item l = l.copies.items ≡ take l.item-index l.items
