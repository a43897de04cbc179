use Rattle.st_lemmas.proofs.Words
use Words.ClientState.{at_each}
use Rattle.st_client.proofs.Placing.{IsDone}
use Rattle.st_client.proofs.turn.ClientTurn.at_each.Given as goal

abbrev pub invariant-loop-place : goal.invariant-loop-place
invariant-loop-place g l = IsDone (g.R.Rule.run l.rule) (g.R.Rule.is_ready l.rule) l.count l.place l.machine (at_each (g.R.Rule.run l.rule) l.fn.self)
