use Rattle.std.proofs.Common.{arith}
use Rattle.st_extents.proofs.FreeRuns.{table_few, taken_long}
use Rattle.st_extents.proofs.taken_blocks.TakenBlocks.free.Goals as goal

pub returns-clause-few : goal.returns-clause-few
returns-clause-few c =
    rw (← c.self.view_is)
    (omega (arith, table_few c.self.inside.places c.self.inside.free c.self.inside.runs.cap c.self.inside.runs.items c.self.invariant, taken_long c.self.inside.runs.items 0 c.self.inside.places))
