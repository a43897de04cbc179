use Rattle.st_lemmas.proofs.Words
use Words.{AllByRecursion, List, Output, ap, subst, sym}
use Rattle.st_held_steps.specs.Held.{Held}
use Rattle.st_held_steps.specs.declared.held.Marked.{Marked}
use Rattle.st_kept_journal.specs.Keeping.{Keeping}
use Rattle.st_kept_server.proofs.Stages.{at_rest}
use Rattle.st_kept_server.specs.Whole.{IsSent}
use Rattle.st_kept_server.proofs.server.KeptServer.ended.Goals as goal

abbrev AllSent : List (Marked (List Output)) → Type 0
AllSent ms = AllByRecursion IsSent ms

pub invariant_of-self : goal.invariant_of-self
invariant_of-self c = record {
  staged = at_rest c.group_kept.new.self.task (ap (λ (k : Keeping). k.task) (c.group_kept.ensures.kept c.in-Group.count (cc)));
  sent = subst AllSent (sym (ap (λ (h : Held (List Output)). h.steps) c.keep.ensures)) c.self.invariant.sent;
}

pub invariant_of-self-in-Switch : goal.invariant_of-self-in-Switch
invariant_of-self-in-Switch c = record {
  staged = at_rest c.switched.new.self.task (ap (λ (k : Keeping). k.task) (c.switched.ensures.kept c.in-Switch.count c.in-Switch.gate (cc)));
  sent = subst AllSent (sym (ap (λ (h : Held (List Output)). h.steps) c.keep-in-Switch.ensures)) c.self.invariant.sent;
}
