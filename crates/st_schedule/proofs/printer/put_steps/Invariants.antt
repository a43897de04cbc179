use Rattle.std.proofs.Common.{◌≡◌, ◌++◌, drop}
use Rattle.st_schedule_words.specs.Words.{spaced}
use Rattle.st_schedule.specs.Grammar.{in_full}
use Rattle.st_schedule.proofs.printer.put_steps.Given as goal

abbrev pub invariant-loop-d : goal.invariant-loop-d
invariant-loop-d l = l.out.items ++ spaced (in_full (drop l.d-index l.steps)) ≡ l.fn.out.items ++ spaced (in_full l.steps)
