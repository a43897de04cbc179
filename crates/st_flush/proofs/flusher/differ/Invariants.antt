use Rattle.st_lemmas.proofs.Words
use Words.{◌≡◌, drop}
use Words.ServerInvariants.{are_once}
use Rattle.st_flush.specs.Calls.{same_page_write}
use Rattle.st_flush.proofs.flusher.differ.Given as goal

abbrev pub invariant-loop-i : goal.invariant-loop-i
invariant-loop-i l = are_once same_page_write (drop l.i l.writes) ≡ are_once same_page_write l.writes
