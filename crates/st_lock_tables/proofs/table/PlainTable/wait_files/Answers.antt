use Rattle.std.proofs.Common.{◌∙◌}
use Rattle.st_lock_tables.proofs.Waited.{one_turned}
use Rattle.st_lock_tables.proofs.table.PlainTable.wait_files.Goals as goal

pub returns : goal.returns
returns c = rw (← c.self.view_is) (λ i. one_turned c.numbers.result.now i ∙ c.numbers.ensures i)
