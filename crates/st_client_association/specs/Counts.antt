-- How many locks a session holds, and for how many it waits.
use Rattle.std.specs.Prelude.{ℕ, length, Option, Some, None}
use Rattle.st_rules.specs.ClientLocks.{count}
use Rattle.st_rules.specs.ClientState.{ClientSession}

-- the files with a lock
abbrev pub locks_in : Option ClientSession → ℕ
locks_in None = 0
locks_in (Some s) = count s.locks

-- the files with a wait that was reported
abbrev pub waits_in : Option ClientSession → ℕ
waits_in None = 0
waits_in (Some s) = length s.waits
