use Rattle.st_lemmas.proofs.Words
use Words.{◌≡◌, ◌++◌, drop}
use Rattle.st_move.specs.Calls.{leaving_from}
use Rattle.st_move.proofs.ticks.leaving.Given as goal

abbrev pub invariant-loop-place : goal.invariant-loop-place
invariant-loop-place l = l.found.items ++ leaving_from l.locks l.place (drop l.place l.records) ≡ leaving_from l.locks 0 l.records
