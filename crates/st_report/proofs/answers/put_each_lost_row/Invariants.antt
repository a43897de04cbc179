use Rattle.std.proofs.Common.{◌≡◌, ◌++◌, take}
use Rattle.std.specs.List.{flat_map}
use Rattle.st_rules.specs.Report as text
use Rattle.st_report.proofs.answers.put_each_lost_row.Given as goal

abbrev pub invariant-loop-r : goal.invariant-loop-r
invariant-loop-r l = l.out.items ≡ l.fn.out.items ++ flat_map text.lost_row (take l.r-index l.rows)
