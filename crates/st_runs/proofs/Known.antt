-- The bytes of a source, if it knows them, are those of a schedule that runs safely.
use Rattle.std.proofs.Common.{ℕ, List}
use Rattle.std.specs.Prelude.{Option, Some, None, IfSome}
use Rattle.st_runs.specs.Schedule.{lines_of}
use Rattle.st_runs.specs.Safe.{EveryScheduleRunsSafely, RunsSafely}

pub if_known : (left : Option (List ℕ)) → EveryScheduleRunsSafely → IfSome left (λ bytes. RunsSafely (lines_of bytes))
if_known None every = tt
if_known (Some bytes) every = every (lines_of bytes)
