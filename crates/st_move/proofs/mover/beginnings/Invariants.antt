use Rattle.st_lemmas.proofs.Words
use Words.{◌≡◌, ◌++◌, ◌-◌}
use Rattle.st_move.specs.Containers.{beginnings}
use Rattle.st_move.proofs.mover.beginnings.Given as goal

abbrev pub invariant-loop-place : goal.invariant-loop-place
invariant-loop-place l = l.records.items ++ beginnings l.server l.servers l.place (l.count - l.place) ≡ beginnings l.server l.servers 0 l.count
