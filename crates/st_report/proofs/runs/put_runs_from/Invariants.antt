use Rattle.std.proofs.Common.{◌≡◌, ◌++◌, ◌+◌, ◌≤◌, drop}
use Rattle.st_rules.specs.Report as text
use Rattle.st_report.proofs.runs.put_runs_from.Given as goal

abbrev pub invariant-loop-b : goal.invariant-loop-b
invariant-loop-b l = (l.out.items ++ text.runs_from l.count l.byte (drop l.b-index l.bytes) ≡ l.fn.out.items ++ text.runs_from 1 l.first l.bytes)
    × (l.count ≤ l.b-index + 1)
