use Rattle.std.proofs.Common.{◌≡◌, ◌++◌, take}
use Rattle.st_rules.specs.Report as text
use Rattle.st_report.proofs.observations.put_lines.Given as goal

abbrev pub invariant-loop-o : goal.invariant-loop-o
invariant-loop-o l = l.out.items ≡ l.fn.out.items ++ text.lines l.event (take l.o-index l.seen)
