use Rattle.std.proofs.Common.{◌∙◌, sym, ap, refl}
use Rattle.st_rules.specs.Events.{latest, latest_from}
use Rattle.st_model.specs.Walks.{pending_from}
use Rattle.st_model.proofs.log.FlatLog.new.Goals as goal

pub invariant_of-result : goal.invariant_of-result
unfolding latest latest_from
invariant_of-result c = record {
  blank = c.filled.ensures;
  pending = c.new-2.ensures.items ∙ sym (ap (pending_from 0) c.new.ensures.items);
  index = λ k f p. rw (c.new.ensures.items, c.new-3.ensures.empty) refl;
  pages_of = λ q. rw (c.new.ensures.items, c.new-4.ensures.empty) refl;
  cuts_of = λ q. rw (c.new.ensures.items, c.new-5.ensures.empty) refl;
  ranges = rw c.new.ensures.items tt;
}
