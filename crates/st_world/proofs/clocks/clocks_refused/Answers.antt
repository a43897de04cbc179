use Rattle.st_world.proofs.Excesses.{if_pair}
use Rattle.st_world.proofs.clocks.clocks_refused.Goals as goal

pub drift_refused-requires : goal.drift_refused-requires
drift_refused-requires c =
    if_pair c.excess_after.result c.machine.inside.drift c.args.steps.now c.machine.inside.config.num c.machine.inside.config.den c.machine.inside.config.grain c.requires.most c.excess_after.ensures
