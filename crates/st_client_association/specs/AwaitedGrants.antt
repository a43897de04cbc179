-- Whether an operation waits for a grant of a file, or for what it needs with the lock that is held.
use Rattle.std.specs.Prelude.{ℕ, Bool, false, ◌&&◌, List, Option, Some, None}
use Rattle.std.specs.List.{list_any}
use Rattle.st_base.specs.declared.ids.ServerId.{ServerId}
use Rattle.st_operations.specs.AwaitedGrants.{awaits}
use Rattle.st_rules.specs.declared.client.Operation.{Operation}
use Rattle.st_rules.specs.ClientLocks.{mode_of}
use Rattle.st_rules.specs.ClientState.{ClientSession, is_open}

-- the file is open, and an operation on it waits for a lock, or for what else it needs with the lock that is held
abbrev pub is_awaited : List Operation → ServerId → ℕ → ClientSession → Bool
is_awaited os server ino s = is_open os server s ino && list_any (awaits server ino (mode_of s.locks ino)) os

-- with a session
abbrev pub is_awaited_by : List Operation → ServerId → ℕ → Option ClientSession → Bool
is_awaited_by os server ino None = false
is_awaited_by os server ino (Some s) = is_awaited os server ino s
