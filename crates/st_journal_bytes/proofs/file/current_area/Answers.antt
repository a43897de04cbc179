use Rattle.std.proofs.Common.{arith}
use Rattle.st_journal_bytes.proofs.Marks.{first_area, second_area}
use Rattle.st_journal_bytes.proofs.file.current_area.Goals as goal

pub returns-then-current-clause-area : goal.returns-then-current-clause-area
returns-then-current-clause-area c = λ wanted m. second_area c.args.bytes.now wanted c.args.current.now _ _ m c.if-current.true (omega arith) (omega arith)

pub returns-else-current-clause-area : goal.returns-else-current-clause-area
returns-else-current-clause-area c = λ wanted m. first_area c.args.bytes.now wanted c.args.current.now _ m c.if-current.false (omega arith)
