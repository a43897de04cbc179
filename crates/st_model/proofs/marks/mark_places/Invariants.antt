use Rattle.std.proofs.Common.{◌≡◌, ◌++◌, ◌≤◌, length, take, drop}
use Rattle.st_model.specs.Walks as walks
use Rattle.st_model.proofs.marks.mark_places.Given as goal

abbrev pub invariant-loop-i : goal.invariant-loop-i
invariant-loop-i g l =
    let next = g.M.Marking.becomes l.marking in
    record {
      kept : l.kept ≤ l.i;
      places : length l.places ≡ length l.initial.places;
      entries : length l.entries ≡ length l.initial.entries;
      rest : drop l.i l.places ≡ drop l.i l.initial.places;
      walked : walks.walk next (drop l.i l.initial.places) l.entries ≡ walks.mark_from next 1 l.initial.entries;
      left : take l.kept l.places ++ walks.left next (drop l.i l.initial.places) l.entries ≡ walks.pending_from 0 (walks.mark_from next 1 l.initial.entries);
    }
