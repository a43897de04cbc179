-- What holds of a client before and after each of its steps: of what it has of each server, and of its operations.
use Rattle.std.specs.Prelude.{◌≡◌, ℕ, Bool, true, false, not, nat_le, nat_lt, List, length, filter, Option, Some, None, is_some, All, ⊤}
use Rattle.std.specs.List.{list_all, list_any}
use Rattle.st_base.specs.declared.config.Config.{Config}
use Rattle.st_base.specs.declared.ids.Stamp.{Stamp}
use Rattle.st_base.specs.declared.mode.Mode.TheVariants as modes
use Rattle.st_base.specs.Mode.{covers}
use Rattle.st_rules.specs.declared.client.CleanPage.{CleanPage}
use Rattle.st_rules.specs.declared.client.DemandedFile.{DemandedFile}
use Rattle.st_rules.specs.declared.client.HeldLock.{HeldLock}
use Rattle.st_rules.specs.declared.client.KnownExtent.{KnownExtent}
use Rattle.st_rules.specs.declared.client.Operation.{Operation}
use Rattle.st_rules.specs.declared.client.PageCommand.{PageCommand}
use Rattle.st_rules.specs.declared.client.Request.{Request}
use Rattle.st_rules.specs.declared.client.SeenGrant.{SeenGrant}
use Rattle.st_rules.specs.declared.pages.DirtyPage.{DirtyPage}
use Rattle.st_rules.specs.ClientLease.{must_discard, standing_of}
use Rattle.st_rules.specs.ClientLocks.{LockCache, is_lock_on, is_seen_on, is_demand_on, lock_of, mode_of, seen_of}
use Rattle.st_rules.specs.ClientPages.{Pages, Store, empty_store, is_clean_of, is_dirty_of, is_known_of, is_mapped, is_numbered, is_command_of}
use Rattle.st_rules.specs.ClientState.{ClientSession, Association, ClientState, is_at, is_asked, asks_cut_or_name}
use Rattle.st_rules.specs.ServerInvariants.{are_once}

-- The lock cache.

-- two locks on one file
abbrev pub same_lock : HeldLock → HeldLock → Bool
same_lock l k = is_lock_on l.ino k

-- two greatest grants of one file
abbrev pub same_seen : SeenGrant → SeenGrant → Bool
same_seen s t = is_seen_on s.ino t

-- two demands on one file
abbrev pub same_demand : DemandedFile → DemandedFile → Bool
same_demand d e = is_demand_on d.ino e

-- a lock on the demanded file is held
abbrev pub is_held_for : LockCache → DemandedFile → Bool
is_held_for c d = is_some (lock_of c d.ino)

-- the lock's grant number is not above the greatest seen of its file
abbrev pub is_seen : LockCache → HeldLock → Bool
is_seen c l = nat_le l.g.0 (seen_of c l.ino).0

-- A lock cache: a file has one lock, one greatest grant and one demand; a lock is demanded only if it is held; no
-- more locks are held than the limit, which is at most 1,024.
pub record IsLockCache (c : LockCache) : Type 0 where
  pub rows_once : are_once same_lock c.rows ≡ true
  pub seen_once : are_once same_seen c.seen ≡ true
  pub demanded_once : are_once same_demand c.demanded ≡ true
  pub demanded_held : list_all (is_held_for c) c.demanded ≡ true
  pub rows_seen : list_all (is_seen c) c.rows ≡ true
  pub few : nat_le (length c.rows) c.limit ≡ true
  pub limit : nat_le c.limit 1024 ≡ true

-- The pages.

-- two copies of one clean page
abbrev pub same_clean : CleanPage → CleanPage → Bool
same_clean c d = is_clean_of c.ino c.page d

-- two copies of one dirty page
abbrev pub same_dirty : DirtyPage → DirtyPage → Bool
same_dirty d e = is_dirty_of d.ino d.page e

-- what is known of one page, twice
abbrev pub same_known : KnownExtent → KnownExtent → Bool
same_known e x = is_known_of e.ino e.page x

-- two commands for one page
abbrev pub same_page_command : PageCommand → PageCommand → Bool
same_page_command c d = is_command_of c.ino c.page d

-- two commands of one number
abbrev pub same_command_number : PageCommand → PageCommand → Bool
same_command_number c d = is_numbered c.number d

-- a dirty page has no clean copy
abbrev pub is_only_dirty : Pages → DirtyPage → Bool
is_only_dirty ps d = not (list_any (is_clean_of d.ino d.page) ps.clean)

-- a dirty page's version was given
abbrev pub has_version : Pages → DirtyPage → Bool
has_version ps d = nat_lt d.version ps.next_version

-- a dirty page has a known block
abbrev pub has_block : Store → DirtyPage → Bool
has_block st d = is_mapped st.extents d.ino d.page

-- a command's number is below the next one
abbrev pub is_below : ℕ → PageCommand → Bool
is_below next c = nat_lt c.number next

-- The pages and commands of a server: a page is dirty or clean, not both, and in each once; no more are clean than may be,
-- and at most 256 may be; at most 64 are dirty; a dirty page has a known block and a version that was given; a page has at
-- most one outstanding command, and each number is one that was given, once.
pub record IsStore (next : ℕ) (st : Store) : Type 0 where
  pub clean_once : are_once same_clean st.pages.clean ≡ true
  pub dirty_once : are_once same_dirty st.pages.dirty ≡ true
  pub apart : list_all (is_only_dirty st.pages) st.pages.dirty ≡ true
  pub few_clean : nat_le (length st.pages.clean) st.pages.most_clean ≡ true
  pub most_clean : nat_le st.pages.most_clean 256 ≡ true
  pub few_dirty : nat_le (length st.pages.dirty) 64 ≡ true
  pub versions : list_all (has_version st.pages) st.pages.dirty ≡ true
  pub mapped : list_all (has_block st) st.pages.dirty ≡ true
  pub known_once : are_once same_known st.extents ≡ true
  pub one_command : are_once same_page_command st.commands ≡ true
  pub numbers_once : are_once same_command_number st.commands ≡ true
  pub numbers_given : list_all (is_below next) st.commands ≡ true

-- Sessions.

-- an exclusive lock on the dirty page's file is listed
abbrev pub is_locked : LockCache → DirtyPage → Bool
is_locked c d = covers (mode_of c d.ino) modes.X

-- the request asks for a cut or a name
abbrev pub is_for_operation : Option Request → Bool
is_for_operation None = false
is_for_operation (Some q) = asks_cut_or_name q.body

-- the outstanding request of a session asks for a cut or a name
abbrev pub asks_for_operation : Option ClientSession → Bool
asks_for_operation None = false
asks_for_operation (Some s) = is_for_operation s.requests.asked

-- Without a session nothing is cached; with one, its lock cache is as it must be, and each dirty page is under an exclusive lock.
abbrev pub IsHeldBy : Option ClientSession → Store → Type 0
IsHeldBy None st = st ≡ empty_store
IsHeldBy (Some s) st = list_all (is_locked s.locks) st.pages.dirty ≡ true

-- the lock cache of a session, if there is one
abbrev pub HasLockCache : Option ClientSession → Type 0
HasLockCache None = ⊤
HasLockCache (Some s) = IsLockCache s.locks

-- What a client has of a server: the store and the locks are as they must be; exactly if the outstanding request asks for a cut or a name, one operation
-- waits for its reply.
pub record IsAssociation (operations : List Operation) (next : ℕ) (a : Association) : Type 0 where
  pub store : IsStore next a.store
  pub held : IsHeldBy a.session a.store
  pub locks : HasLockCache a.session
  pub asked : list_any (is_asked a.server) operations ≡ asks_for_operation a.session
  pub one_asked : nat_le (length (filter (is_asked a.server) operations)) 1 ≡ true

-- two associations with one server
abbrev pub same_association : Association → Association → Bool
same_association a b = is_at a.server b

-- A client: one association a server, each as it must be, and at most 16 pending operations.
pub record IsClient (c : ClientState) : Type 0 where
  pub once : are_once same_association c.associations ≡ true
  pub associations : All (IsAssociation c.operations c.next_command) c.associations
  pub few : nat_le (length c.operations) 16 ≡ true

-- Leases that last.

-- the lease of a session is not over at this moment
abbrev pub lasts_in : Config → Stamp → Option ClientSession → Bool
lasts_in k now None = true
lasts_in k now (Some s) = not (must_discard (standing_of k s.lease now))

-- the lease of an association is not over at this moment
abbrev pub lasts_here : Config → Stamp → Association → Bool
lasts_here k now a = lasts_in k now a.session

-- No lease of the client is over at this moment: so it is after the losses of a step, and at its end.
abbrev pub all_last : ClientState → Stamp → Bool
all_last c now = list_all (lasts_here c.config now) c.associations
