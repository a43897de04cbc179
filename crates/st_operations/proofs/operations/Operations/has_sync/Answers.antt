use Rattle.std.proofs.Common.{◌∙◌, ap}
use Rattle.std.specs.List.{list_any}
use Rattle.st_operations.specs.PendingOperations.{asks_sync}
use Rattle.st_operations.proofs.Firsts.{any_sync}
use Rattle.st_operations.proofs.operations.Operations.has_sync.Goals as goal

pub returns : goal.returns
returns c = any_sync c.self.inside.rows c.self.inside.syncs c.self.invariant ∙ ap (list_any asks_sync) c.self.view_is
