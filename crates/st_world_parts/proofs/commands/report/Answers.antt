use Rattle.std.proofs.Common.{ap, sym, ◌∙◌, ◌-◌}
use Rattle.std.specs.Prelude.{filter, not, ◌==◌}
use Rattle.st_rules.specs.Disks.{done}
use Rattle.st_world_parts.proofs.Effects.{done_closes, told_ok}
use Rattle.st_world_parts.proofs.commands.report.Goals as goal

pub overflow_sub-k : goal.overflow_sub-k
overflow_sub-k c = (done_closes c.args.disks.now c.args.k c.args.ok c.done.new.self (told_ok c.done.new.self (done c.args.disks.now c.args.k c.args.ok) c.in-Ok.ensures.exact)).some

pub returns-in-Ok-clause-outstanding : goal.returns-in-Ok-clause-outstanding
returns-in-Ok-clause-outstanding c =
    c.close.ensures
    ∙ ap (filter (λ x. not (x == c.args.k - 1))) c.requires
    ∙ sym (done_closes c.args.disks.now c.args.k c.args.ok c.done.new.self (told_ok c.done.new.self (done c.args.disks.now c.args.k c.args.ok) c.in-Ok.ensures.exact)).unreported

pub returns-in-Ok-clause-each : goal.returns-in-Ok-clause-each
returns-in-Ok-clause-each c = (done_closes c.args.disks.now c.args.k c.args.ok c.done.new.self (told_ok c.done.new.self (done c.args.disks.now c.args.k c.args.ok) c.in-Ok.ensures.exact)).each
