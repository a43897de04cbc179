use Rattle.st_extents.proofs.RestoredRuns.{same_rows, table_past}
use Rattle.st_extents.proofs.runs.Runs.pass.Goals as goal

pub invariant_of-self : goal.invariant_of-self
invariant_of-self c = table_past c.self.inside.map.entries c.self.inside.births c.self.inside.count c.args.births c.self.invariant
    (rw (← c.self.view_is) at c.requires.more) c.requires.few

pub returns-clause-rows : goal.returns-clause-rows
returns-clause-rows c =
    rw (← c.self.view_is)
    (same_rows c.self.inside.map.entries c.self.invariant.ordered c.self.inside.births c.self.invariant.kept c.args.births
    (rw (← c.self.view_is) at c.requires.more))
