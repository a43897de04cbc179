use Rattle.st_lemmas.proofs.Words
use Words.{◌≡◌, drop, find}
use Rattle.st_flush.proofs.picks.find_command.Given as goal

abbrev pub invariant-loop-i : goal.invariant-loop-i
invariant-loop-i g l = find (g.T.Test.passes l.test) (drop l.i l.commands) ≡ find (g.T.Test.passes l.test) l.commands
