-- All that a client has of a server's disks, as its server sees it; what always holds of it, and what each call leaves.
use Rattle.std.specs.Prelude.{◌≡◌, ℕ, Bool, true, false, not, List, find, is_some, Result, Ok, Err}
use Rattle.std.specs.List.{list_all}
use Rattle.st_base.specs.declared.ids.PageNo.{PageNo}
use Rattle.st_base.specs.declared.ids.ServerId.{ServerId}
use Rattle.st_page_cache.specs.declared.refusal.CacheRefusal.{CacheRefusal}
use Rattle.st_page_cache.specs.declared.refusal.CacheRefusal.TheVariants.{DirtyFull, Memory}
use Rattle.st_rules.specs.declared.client.Ended.{Ended}
use Rattle.st_rules.specs.declared.client.PageCommand.{PageCommand}
use Rattle.st_rules.specs.declared.client.WriteRefusal.{WriteRefusal}
use Rattle.st_rules.specs.declared.client.WriteRefusal.TheVariants as writing
use Rattle.st_rules.specs.declared.pages.DirtyPage.{DirtyPage}
use Rattle.st_rules.specs.ClientPages as pages
use Rattle.st_rules.specs.ClientPages.{CommandEnd, Pages, Store, is_dirty_of, is_write}

-- a server, and all that a client has of its disks
pub record ServerStore : Type 0 where
  pub server : ServerId
  pub store : Store

-- nothing of a server's disks
abbrev pub empty_store_of : ServerId → ServerStore
empty_store_of s = record { server = s; store = pages.empty_store }

-- with this store
abbrev pub with_store : Store → ServerStore → ServerStore
with_store st s = record s { store = st }

-- both, or neither
abbrev pub agree : Bool → Bool → Bool
agree true b = b
agree false b = not b

-- a command writes exactly if its page is dirty
abbrev pub is_matched : List DirtyPage → PageCommand → Bool
is_matched dirty c = agree (is_write c.kind) (is_some (find (is_dirty_of c.ino c.page) dirty))

-- What always holds: a page with an outstanding write is dirty, and one with an outstanding read is not.
abbrev pub AreMatched : List DirtyPage → List PageCommand → Type 0
AreMatched dirty cs = list_all (is_matched dirty) cs ≡ true

-- a page was changed: an outstanding read of it is forgotten
abbrev pub changed : ℕ → PageNo → Pages → ServerStore → ServerStore
changed ino p ps s = record s { store = record s.store { pages = ps; commands = pages.forget_read s.store.commands ino p } }

-- a change answers as its definition says; if it refuses, or if memory runs out, nothing changes
abbrev pub Changes : ServerStore → ServerStore → Result (Unit {0}) CacheRefusal → ℕ → PageNo → Result Pages WriteRefusal → Type 0
Changes old new (Ok v) ino p machine = record { written : machine ≡ Ok new.store.pages; left : new ≡ changed ino p new.store.pages old }
Changes old new (Err DirtyFull) ino p machine = record { full : machine ≡ Err writing.DirtyFull; same : new ≡ old }
Changes old new (Err Memory) ino p machine = new ≡ old

-- with these commands
abbrev pub with_commands : List PageCommand → ServerStore → ServerStore
with_commands cs s = record s { store = record s.store { commands = cs } }

-- with these pages
abbrev pub with_pages : Pages → ServerStore → ServerStore
with_pages ps s = record s { store = record s.store { pages = ps } }

-- the end of a command leaves and answers what its definition says
abbrev pub Ends : ServerStore → ServerStore → Ended → CommandEnd → Type 0
Ends old new ended e = (ended ≡ e.ended) × (new ≡ with_commands e.commands old)
