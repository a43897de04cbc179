-- The locks that a client has cached of one server, and which of them are demanded.
use Rattle.std.specs.Prelude.{ℕ, Bool, ◌||◌, not, ◌==◌, nat_lt, nat_le, max, if◌then◌else◌, List, [], ◌∷◌, ◌++◌, length, find, filter, filter_map, map, Option, Some, None, is_some, option_map, unwrap_or, ⊤}
use Rattle.std.specs.List.{list_any}
use Rattle.st_base.specs.declared.ids.GrantNo.{GrantNo}
use Rattle.st_base.specs.declared.mode.Mode.{Mode}
use Rattle.st_base.specs.declared.mode.Mode.TheVariants as modes
use Rattle.st_base.specs.Mode.{covers}
use Rattle.st_rules.specs.declared.client.HeldLock.{HeldLock}
use Rattle.st_rules.specs.declared.client.SeenGrant.{SeenGrant}
use Rattle.st_rules.specs.declared.client.DemandedFile.{DemandedFile}
use Rattle.st_rules.specs.declared.client.Asked.{Asked}
use Rattle.st_rules.specs.declared.client.Asked.TheVariants.{Reduce, NotHeld, Stale}
use Rattle.st_rules.specs.Keys.{put, rising, keys_open}

-- The lock cache: the held locks, the greatest grant seen of each file, the demanded files, and the limit: how many files may have a lock.
pub record LockCache : Type 0 where
  pub rows : List HeldLock
  pub seen : List SeenGrant
  pub demanded : List DemandedFile
  pub limit : ℕ

-- nothing is held, seen or demanded; the limit is that of the first two forms
abbrev pub no_cached_locks : LockCache
no_cached_locks = record { rows = []; seen = []; demanded = []; limit = 1024 }

-- Look-ups.

-- the lock on a file
abbrev pub is_lock_on : ℕ → HeldLock → Bool
is_lock_on ino l = l.ino == ino

-- what was seen of a file
abbrev pub is_seen_on : ℕ → SeenGrant → Bool
is_seen_on ino s = s.ino == ino

-- what is demanded of a file
abbrev pub is_demand_on : ℕ → DemandedFile → Bool
is_demand_on ino d = d.ino == ino

-- the lock on the file, if one is held
abbrev pub lock_of : LockCache → ℕ → Option HeldLock
lock_of c ino = find (is_lock_on ino) c.rows

-- no lock is the mode none
abbrev pub mode_at : Option HeldLock → Mode
mode_at None = modes.None
mode_at (Some l) = l.mode

-- the held mode
abbrev pub mode_of : LockCache → ℕ → Mode
mode_of c ino = mode_at (lock_of c ino)

-- the lock's grant number
abbrev pub g_of : HeldLock → GrantNo
g_of l = l.g

-- the held grant, if one is held
abbrev pub grant_of : LockCache → ℕ → Option GrantNo
grant_of c ino = option_map g_of (lock_of c ino)

-- the grant that was seen
abbrev pub g_seen : SeenGrant → GrantNo
g_seen s = s.g

-- grant numbers begin above 0
abbrev pub no_grant : GrantNo
no_grant = record { 0 = 0 }

-- the greatest grant seen of a file, or 0
abbrev pub seen_of : LockCache → ℕ → GrantNo
seen_of c ino = unwrap_or (option_map g_seen (find (is_seen_on ino) c.seen)) no_grant

-- the demand on a file, if there is one
abbrev pub demand_of : LockCache → ℕ → Option DemandedFile
demand_of c ino = find (is_demand_on ino) c.demanded

-- the file is demanded
abbrev pub is_demanded : LockCache → ℕ → Bool
is_demanded c ino = list_any (is_demand_on ino) c.demanded

-- how many files have a lock
abbrev pub count : LockCache → ℕ
count c = length c.rows

-- a lock's file
abbrev pub ino_of_lock : HeldLock → ℕ
ino_of_lock l = l.ino

-- a demand's file
abbrev pub ino_of_demand : DemandedFile → ℕ
ino_of_demand d = d.ino

-- the demanded files, rising
abbrev pub demanded_files : LockCache → List ℕ
demanded_files c = rising (map ino_of_demand c.demanded)

-- a lock, as it is reasserted
abbrev pub lock_in_list : HeldLock → ℕ × GrantNo × Mode
lock_in_list l = (l.ino, l.g, l.mode)

-- the lock of a file, as it is reasserted
abbrev pub lock_row_at : LockCache → ℕ → Option (ℕ × GrantNo × Mode)
lock_row_at c ino = option_map lock_in_list (lock_of c ino)

-- all locks, by rising file
unfoldable pub all_locks : LockCache → List (ℕ × GrantNo × Mode)
all_locks c = filter_map (lock_row_at c) (rising (map ino_of_lock c.rows))

-- Changes of one table.

-- a lock in place of the file's lock
abbrev pub with_lock : HeldLock → List HeldLock → List HeldLock
with_lock l rows = put (is_lock_on l.ino) l rows

-- the locks except for the file's
abbrev pub without_lock : ℕ → List HeldLock → List HeldLock
without_lock ino rows = filter (λ r. not (is_lock_on ino r)) rows

-- a grant that was seen of a file
abbrev pub seen_grant : ℕ → GrantNo → SeenGrant
seen_grant ino g = record { ino = ino; g = g }

-- the greatest grant seen of a file is this one
abbrev pub with_seen : ℕ → GrantNo → List SeenGrant → List SeenGrant
with_seen ino g seen = put (is_seen_on ino) (seen_grant ino g) seen

-- the demands except for the file's
abbrev pub without_demand : ℕ → List DemandedFile → List DemandedFile
without_demand ino demanded = filter (λ d. not (is_demand_on ino d)) demanded

-- the demand on a file is this one
abbrev pub with_demand : DemandedFile → List DemandedFile → List DemandedFile
with_demand d demanded = without_demand d.ino demanded ++ d ∷ []

-- Seeing: the greatest grant seen of a file becomes this one.
unfoldable pub observe : LockCache → ℕ → GrantNo → LockCache
observe c ino g = record c { seen = with_seen ino g c.seen }

-- the grant is above the greatest seen
abbrev pub is_above_seen : LockCache → ℕ → GrantNo → Bool
is_above_seen c ino g = nat_lt (seen_of c ino).0 g.0

-- Installing a grant that is above the greatest seen: it is the file's lock and the greatest seen, and the file's demand is
-- forgotten.
abbrev pub held_lock : ℕ → GrantNo → Mode → HeldLock
held_lock ino g mode = record { ino = ino; g = g; mode = mode }

-- the grant is the file's lock
unfoldable pub installed : LockCache → ℕ → GrantNo → Mode → LockCache
installed c ino g mode = record c { rows = with_lock (held_lock ino g mode) c.rows; seen = with_seen ino g c.seen; demanded = without_demand ino c.demanded }

-- Installing
unfoldable pub install_grant : LockCache → ℕ → GrantNo → Mode → LockCache
install_grant c ino g mode = if is_above_seen c ino g then installed c ino g mode else c

-- there is a place for the file's lock: it has one already, or fewer files than the limit do
abbrev pub has_place : LockCache → ℕ → Bool
has_place c ino = is_some (lock_of c ino) || nat_lt (count c) c.limit

-- A demand: without a lock the grant was seen; a lock of a later grant makes it stale; otherwise the lock and the greatest seen have the demand's grant, and
-- the file is demanded with the lesser of this and any earlier demand.
pub record Demanding : Type 0 where
  pub locks : LockCache
  pub asked : Asked

-- the lesser of two modes
abbrev pub lesser : Mode → Mode → Mode
lesser m n = if covers n m then m else n

-- what was demanded before counts too
abbrev pub lesser_demand : Mode → Option DemandedFile → Mode
lesser_demand to None = to
lesser_demand to (Some d) = lesser to d.to

-- a demand on a file
abbrev pub demanded_file : ℕ → Mode → DemandedFile
demanded_file ino to = record { ino = ino; to = to }

-- the greater of two grants
abbrev pub greater_grant : GrantNo → GrantNo → GrantNo
greater_grant g h = record { 0 = max g.0 h.0 }

-- the lock must be lowered
unfoldable pub demand_lock : LockCache → ℕ → GrantNo → Mode → HeldLock → Demanding
demand_lock c ino g to l =
    record {
      locks =
          record c {
            rows = with_lock (held_lock ino g l.mode) c.rows;
            seen = with_seen ino g c.seen;
            demanded = with_demand (demanded_file ino (lesser_demand to (demand_of c ino))) c.demanded;
          };
      asked = Reduce;
    }

-- the lock has a later grant
unfoldable pub demand_stale : LockCache → Demanding
demand_stale c = record { locks = c; asked = Stale }

-- no lock is held
unfoldable pub demand_unheld : LockCache → ℕ → GrantNo → Demanding
demand_unheld c ino g = record { locks = observe c ino (greater_grant (seen_of c ino) g); asked = NotHeld }

-- by the lock's grant
unfoldable pub demand_held : LockCache → ℕ → GrantNo → Mode → HeldLock → Demanding
demand_held c ino g to l = if nat_le l.g.0 g.0 then demand_lock c ino g to l else demand_stale c

-- held, or not
unfoldable pub demand_at : LockCache → ℕ → GrantNo → Mode → Option HeldLock → Demanding
demand_at c ino g to None = demand_unheld c ino g
demand_at c ino g to (Some l) = demand_held c ino g to l

-- A demand for a file under this grant, to this mode
unfoldable pub demand : LockCache → ℕ → GrantNo → Mode → Demanding
demand c ino g to = demand_at c ino g to (lock_of c ino)

-- Reducing a demanded file's lock to what is demanded: to none the lock goes, and otherwise it is shared. The demand is forgotten.
pub record Reduced : Type 0 where
  pub locks : LockCache
  pub given : Option (GrantNo × Mode)

-- the lock goes, or is shared
abbrev pub lowered_rows : List HeldLock → ℕ → HeldLock → Mode → List HeldLock
lowered_rows rows ino l modes.None = without_lock ino rows
lowered_rows rows ino l to = with_lock (held_lock ino l.g modes.S) rows

-- the file's lock is lowered
unfoldable pub lower : LockCache → ℕ → HeldLock → Mode → LockCache
lower c ino l to = record c { rows = lowered_rows c.rows ino l to; demanded = without_demand ino c.demanded }

-- the lock of a demanded file
unfoldable pub reduce_lock : LockCache → DemandedFile → Option HeldLock → Reduced
reduce_lock c d None = record { locks = c; given = None }
reduce_lock c d (Some l) = record { locks = lower c d.ino l d.to; given = Some (l.g, d.to) }

-- demanded, or not
unfoldable pub reduce_at : LockCache → Option DemandedFile → Reduced
reduce_at c None = record { locks = c; given = None }
reduce_at c (Some d) = reduce_lock c d (lock_of c d.ino)

-- Reducing
unfoldable pub reduce : LockCache → ℕ → Reduced
reduce c ino = reduce_at c (demand_of c ino)

-- Dropping a lock: it goes, and its demand with it.
unfoldable pub drop_lock : LockCache → ℕ → LockCache
drop_lock c ino = record c { rows = without_lock ino c.rows; demanded = without_demand ino c.demanded }

-- Forgetting all demands.
unfoldable pub forget_demands : LockCache → LockCache
forget_demands c = record c { demanded = [] }

-- opens all of this file
unfoldable pub client_locks_open : ⊤
unfolding keys_open all_locks observe installed install_grant demand_lock demand_stale demand_unheld demand_held demand_at demand lower reduce_lock reduce_at reduce drop_lock forget_demands
client_locks_open = tt
