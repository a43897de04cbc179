use Rattle.st_lemmas.proofs.Words
use Words.{◌≡◌, ◌++◌, take, drop, true, list_all}
use Rattle.st_move.specs.Calls.{sent_by}
use Rattle.st_move.specs.Containers.{has_next}
use Rattle.st_move.proofs.ticks.send.Given as goal

abbrev pub invariant-loop-place : goal.invariant-loop-place
invariant-loop-place l = record {
  left : list_all has_next (drop l.place l.records) ≡ true;
  so_far : take l.place l.records ++ sent_by (drop l.place l.leaving) (drop l.place l.records) ≡ sent_by l.leaving l.initial.records;
}
