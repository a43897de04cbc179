use Rattle.std.proofs.Common.{◌∙◌, ap}
use Rattle.std.specs.Prelude.{is_some}
use Rattle.st_tables.proofs.PassingValues.{place_any}
use Rattle.st_tables.proofs.arrival_order.Ordered.any.Goals as goal

pub returns : goal.returns
returns g c = c.is_some.ensures ∙ ap is_some c.place.ensures ∙ place_any (g.T.Test.passes c.args.test.now) c.args.self.now
