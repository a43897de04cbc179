use Rattle.st_lemmas.proofs.Words
use Words.{◌≡◌, length}
use Words.Client.{end_each, end_operations}
use Rattle.st_client_rules.specs.Inputs.{session_in}
use Rattle.st_client_rules.proofs.losses.end_operations.Given as goal

abbrev pub invariant-loop-o : goal.invariant-loop-o
invariant-loop-o l = end_each (session_in l.epoch) l.ended l.turn ≡ end_operations l.fn.turn (session_in l.epoch)

abbrev pub decreases-loop-o : goal.decreases-loop-o
decreases-loop-o l = length l.ended
