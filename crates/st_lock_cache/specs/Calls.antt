-- The locks that a client has cached of one server: what holds of them, and what their calls answer.
use Rattle.std.specs.Prelude.{◌≡◌, ℕ, Bool, true, List, Option}
use Rattle.std.specs.List.{list_all}
use Rattle.st_base.specs.declared.ids.GrantNo.{GrantNo}
use Rattle.st_base.specs.declared.ids.ServerId.{ServerId}
use Rattle.st_base.specs.declared.mode.Mode.{Mode}
use Rattle.st_rules.specs.declared.client.Asked.{Asked}
use Rattle.st_rules.specs.declared.client.HeldLock.{HeldLock}
use Rattle.st_rules.specs.declared.client.SeenGrant.{SeenGrant}
use Rattle.st_rules.specs.declared.client.DemandedFile.{DemandedFile}
use Rattle.st_rules.specs.ClientLocks.{LockCache, Demanding, Reduced, no_cached_locks, is_above_seen, install_grant}
use Rattle.st_rules.specs.ClientInvariants.{same_lock, same_seen, same_demand, is_held_for, is_seen}
use Rattle.st_rules.specs.ServerInvariants.{are_once}

-- the cached locks of a server
pub record ServerLocks : Type 0 where
  pub server : ServerId
  pub locks : LockCache

-- the three tables, with the limit of the first two forms
abbrev pub tables : List HeldLock → List SeenGrant → List DemandedFile → LockCache
tables rows seen demanded = record { rows = rows; seen = seen; demanded = demanded; limit = 1024 }

-- nothing is cached of a server
abbrev pub no_locks_of : ServerId → ServerLocks
no_locks_of s = record { server = s; locks = no_cached_locks }

-- other locks of the same server
abbrev pub with_locks : LockCache → ServerLocks → ServerLocks
with_locks c s = record s { locks = c }

-- What always holds: a file has one lock, one greatest grant and one demand; a lock is demanded only if it is held; no lock's grant is above the greatest
-- seen of its file.
pub record IsCached (c : LockCache) : Type 0 where
  pub rows_once : are_once same_lock c.rows ≡ true
  pub seen_once : are_once same_seen c.seen ≡ true
  pub demanded_once : are_once same_demand c.demanded ≡ true
  pub demanded_held : list_all (is_held_for c) c.demanded ≡ true
  pub rows_seen : list_all (is_seen c) c.rows ≡ true

-- an install takes the grant exactly if it is above the greatest seen
abbrev pub Installs : ServerLocks → ServerLocks → Bool → ℕ → GrantNo → Mode → Type 0
Installs old new taken ino g mode = (taken ≡ is_above_seen old.locks ino g) × (new ≡ with_locks (install_grant old.locks ino g mode) old)

-- a demand leaves and answers what its definition says
abbrev pub Demands : ServerLocks → ServerLocks → Asked → Demanding → Type 0
Demands old new asked d = (asked ≡ d.asked) × (new ≡ with_locks d.locks old)

-- a reduction leaves and gives up what its definition says
abbrev pub Reduces : ServerLocks → ServerLocks → Option (GrantNo × Mode) → Reduced → Type 0
Reduces old new given r = (given ≡ r.given) × (new ≡ with_locks r.locks old)
