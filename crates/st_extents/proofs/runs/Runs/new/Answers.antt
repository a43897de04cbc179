use Rattle.std.proofs.Common.{ap, ◌∙◌}
use Rattle.st_extents.specs.Runs.{rows_of}
use Rattle.st_extents.proofs.RunsTold.{no_rows, no_runs}
use Rattle.st_extents.proofs.runs.Runs.new.Goals as goal

pub invariant_of-result : goal.invariant_of-result
invariant_of-result c = rw c.new.ensures.empty no_runs

pub returns-clause-rows : goal.returns-clause-rows
returns-clause-rows c = ap (rows_of 0) c.new.ensures.empty ∙ no_rows
