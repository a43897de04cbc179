use Rattle.st_lemmas.proofs.Words
use Words.{◌≡◌, take, true, list_all}
use Rattle.st_move.specs.Updates.{bytes_of, is_update}
use Rattle.st_move.proofs.updates.total.Given as goal

abbrev pub invariant-loop-item : goal.invariant-loop-item
invariant-loop-item l = record {
  total : l.total ≡ bytes_of (take l.item-index l.items);
  each : list_all is_update (take l.item-index l.items) ≡ true;
}
