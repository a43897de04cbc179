-- The counters that a step of a server may raise.
use Rattle.std.specs.Prelude.{ℕ, ◌+◌, ◌-◌, ◌^◌, ◌<◌, Bool, ◌&&◌, nat_lt, nat_le, length}
use Rattle.st_rules.specs.Locks.{Locks}
use Rattle.st_rules.specs.Server.{ServerState}

-- the grants of this epoch, and the waits that may still become grants
abbrev pub taken_locks : Locks → ℕ
taken_locks l = l.grants + length l.waiters

-- A step may be taken: grants and waits together are below 2^32 - 1, so is the next inode number, and births are below 2^62.
pub record HasRoom (s : ServerState) : Type 0 where
  pub locks : taken_locks s.locks < 2 ^ 32 - 1
  pub inodes : s.stable.names.next < 2 ^ 32 - 1
  pub births : s.stable.extents.births < 2 ^ 62

-- the test of it; the next birth is returned
abbrev pub has_room : ServerState → Bool
has_room s = nat_lt (taken_locks s.locks) (2 ^ 32 - 1) && (nat_lt s.stable.names.next (2 ^ 32 - 1) && nat_le (s.stable.extents.births + 1) (2 ^ 62))
