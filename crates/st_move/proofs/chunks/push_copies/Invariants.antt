use Rattle.st_lemmas.proofs.Words
use Words.{◌≡◌, ◌++◌, take}
use Rattle.st_move.proofs.chunks.push_copies.Given as goal

abbrev pub invariant-loop-item : goal.invariant-loop-item
invariant-loop-item l = l.list ≡ l.fn.list ++ take l.item-index l.items
