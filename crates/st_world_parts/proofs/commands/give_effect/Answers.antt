use Rattle.st_world_parts.proofs.Effects.{effect_opens}
use Rattle.st_world_parts.proofs.commands.give_effect.Goals as goal

pub returns-in-Ok-clause-kept : goal.returns-in-Ok-clause-kept
returns-in-Ok-clause-kept c = effect_opens c.args.disks.now c.args.k c.effect.new.self c.in-Ok.ensures.exact
