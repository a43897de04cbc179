use Rattle.st_lemmas.proofs.Words
use Words.{◌≡◌, drop, find, option_map}
use Rattle.st_third.specs.State.{op_of}
use Rattle.st_third_turn.proofs.owing.first_number.Given as goal

abbrev pub invariant-loop-i : goal.invariant-loop-i
invariant-loop-i g l = option_map op_of (find (g.T.Test.passes l.test) (drop l.i l.operations)) ≡ option_map op_of (find (g.T.Test.passes l.test) l.operations)
