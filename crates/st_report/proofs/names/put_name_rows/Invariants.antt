use Rattle.std.proofs.Common.{◌≡◌, ◌++◌, take}
use Rattle.std.specs.List.{flat_map}
use Rattle.st_rules.specs.Report as text
use Rattle.st_report.proofs.names.put_name_rows.Given as goal

abbrev pub invariant-loop-r : goal.invariant-loop-r
invariant-loop-r l = l.out.items ≡ l.initial.out.items ++ flat_map text.name_row (take l.r-index l.rows)
