use Rattle.st_world.proofs.SafeRuns.{goes_on_in_the_volume, goes_on_safely}
use Rattle.st_world.proofs.parts.WorldParts.runs_on_are_safe.Goals as goal

pub returns-clause-safe : goal.returns-clause-safe
returns-clause-safe c = goes_on_safely c.every_run_is_safe.ensures c.args.self.now c.args.event.now c.requires

pub returns-clause-volume : goal.returns-clause-volume
returns-clause-volume c =
    goes_on_in_the_volume c.every_run_is_a_run_of_the_volume.ensures c.args.self.now c.args.event.now c.requires
