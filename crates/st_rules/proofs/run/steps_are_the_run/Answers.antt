use Rattle.st_rules.proofs.Runs.{end_with_the_run, take_the_events, tell_the_run}
use Rattle.st_rules.proofs.run.steps_are_the_run.Goals as goal

pub returns-clause-events : goal.returns-clause-events
returns-clause-events c = take_the_events

pub returns-clause-seen : goal.returns-clause-seen
returns-clause-seen c = tell_the_run

pub returns-clause-world : goal.returns-clause-world
returns-clause-world c = end_with_the_run
