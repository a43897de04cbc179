use Rattle.st_operations.proofs.Firsts.{fit_got}
use Rattle.st_operations.proofs.operations.Operations.get.Goals as goal

pub returns-clause-fit : goal.returns-clause-fit
returns-clause-fit c = fit_got c.self.inside.rows c.args.place c.get.result c.self.invariant.fit c.get.ensures.found
