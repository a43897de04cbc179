use Rattle.std.proofs.Common.{◌≡◌, ◌++◌, drop}
use Rattle.st_model.specs.Walks as walks
use Rattle.st_rules.specs.Events as events
use Rattle.st_model.proofs.marks.seen_of.Given as goal

abbrev pub invariant-loop-i : goal.invariant-loop-i
invariant-loop-i g l =
    let next = g.M.Marking.becomes l.marking in
    l.seen.items ++ walks.seen_at next (drop l.i l.places) l.entries ≡ l.initial.seen.items ++ events.fates_from 1 l.entries (walks.mark_from next 1 l.entries)
