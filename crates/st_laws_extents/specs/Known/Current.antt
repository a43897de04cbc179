-- Locks that go on: the greatest grant seen of a file only rises, and a grant that was seen no longer becomes a file's lock.
use Rattle.std.specs.Prelude.{◌≡◌, ℕ, ◌≤◌, true, Some}
use Rattle.st_base.specs.declared.ids.GrantNo.{GrantNo}
use Rattle.st_base.specs.declared.mode.Mode.{Mode}
use Rattle.st_rules.specs.declared.client.HeldLock.{HeldLock}
use Rattle.st_rules.specs.ClientLocks.{LockCache, demand, drop_lock, lock_of, reduce, seen_of}
use Rattle.st_rules.specs.ClientReplies.{grant, is_grant}
use Rattle.st_rules.specs.ClientState.{ClientSession}

-- the lock of a file has the greatest grant that was seen of it
abbrev pub LockSeen : LockCache → Type 0
LockSeen c = (ino : ℕ) (l : HeldLock) → lock_of c ino ≡ Some l → l.g.0 ≡ (seen_of c ino).0

-- locks after others
pub record LocksGoOn (c d : LockCache) : Type 0 where
  pub rises : (ino : ℕ) → (seen_of c ino).0 ≤ (seen_of d ino).0
  pub same : (ino : ℕ) (g : GrantNo) → g.0 ≤ (seen_of c ino).0 → is_grant g (lock_of d ino) ≡ true → is_grant g (lock_of c ino) ≡ true
  pub seen : LockSeen d

-- A grant, a demand, a reduction, and a lock that is dropped: locks go on.
abbrev pub OldGrantsStayGone : Type 0
OldGrantsStayGone =
    (s : ClientSession) (ino : ℕ) (g : GrantNo) (mode : Mode) → LockSeen s.locks →
    record {
      grant : LocksGoOn s.locks (grant s ino g mode).locks;
      demand : LocksGoOn s.locks (demand s.locks ino g mode).locks;
      reduce : LocksGoOn s.locks (reduce s.locks ino).locks;
      drop : LocksGoOn s.locks (drop_lock s.locks ino);
    }
