use Rattle.std.proofs.Common.{ap, sym, ◌∙◌, length, refl}
use Rattle.st_rules.specs.Events.{last_write, last_write_from}
use Rattle.st_world_parts.specs.OutstandingCommands.{open_from}
use Rattle.st_world_parts.proofs.commands.Commands.new.Goals as goal

pub invariant_of-result : goal.invariant_of-result
unfolding last_write last_write_from
invariant_of-result c = record {
  each = ap length c.new-2.ensures.items ∙ sym (ap (λ d. length d.commands) c.new.ensures);
  unreported = c.new-3.ensures.items ∙ sym (ap (λ d. open_from 0 d.commands) c.new.ensures);
  last = λ o. rw (c.new-2.ensures.items, c.new-4.ensures.empty) refl;
}
