use Rattle.std.proofs.Common.{◌≡◌, drop}
use Rattle.st_messages.specs.Ranges.{are_rows}
use Rattle.st_messages.proofs.row.rows_fit.Given as goal

abbrev pub invariant-loop-row : goal.invariant-loop-row
invariant-loop-row g l = are_rows g.T.Row.is_row g.T.Row.next l.least (drop l.row-index l.rows) ≡ are_rows g.T.Row.is_row g.T.Row.next l.fn.least l.rows
