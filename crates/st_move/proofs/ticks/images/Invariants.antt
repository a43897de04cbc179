use Rattle.st_lemmas.proofs.Words
use Words.{◌≡◌, ◌++◌, drop}
use Rattle.st_move.specs.Calls.{sent_by}
use Rattle.st_move.specs.Containers.{images_from}
use Rattle.st_move.proofs.ticks.images.Given as goal

abbrev pub invariant-loop-place : goal.invariant-loop-place
invariant-loop-place l = l.images.items ++ images_from l.place (sent_by (drop l.place l.leaving) (drop l.place l.records)) ≡ images_from 0 (sent_by l.leaving l.records)
