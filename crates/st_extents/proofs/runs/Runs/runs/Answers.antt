use Rattle.st_extents.proofs.RunsFound.{are_runs}
use Rattle.st_extents.proofs.runs.Runs.runs.Goals as goal

pub returns : goal.returns
returns c = rw (← c.self.view_is) (are_runs c.self.inside.map.entries c.self.invariant.ordered c.self.inside.births c.self.invariant.kept)
