use Rattle.std.proofs.Common.{length}
use Rattle.st_locks.specs.SettledFiles.{Wakes}
use Rattle.st_locks.proofs.wake_times.WakeTimes.wake_old.Given as goal

abbrev pub invariant-loop-self : goal.invariant-loop-self
invariant-loop-self l = Wakes l.fn.marks l.fn.self l.marks l.self

abbrev pub decreases-loop-self : goal.decreases-loop-self
decreases-loop-self l = length l.self
