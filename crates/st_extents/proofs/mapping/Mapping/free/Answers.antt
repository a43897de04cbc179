use Rattle.std.proofs.Common.{◌∙◌}
use Rattle.st_extents.proofs.LaidPages.{free_counted}
use Rattle.st_extents.proofs.mapping.Mapping.free.Goals as goal

pub returns-clause-free : goal.returns-clause-free
returns-clause-free c = rw (← c.self.view_is) (c.free.ensures.free ∙ free_counted c.self.inside.own.items c.self.inside.taken c.self.inside.runs.rows c.self.invariant)
