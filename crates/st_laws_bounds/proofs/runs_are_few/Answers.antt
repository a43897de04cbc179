use Rattle.st_laws_bounds.proofs.FewMessages.Runs.{runs_few}
use Rattle.st_laws_bounds.proofs.runs_are_few.Goals as goal

pub returns : goal.returns
returns c = runs_few c.schedules_are_long_enough.ensures.length c.messages_are_few.ensures
