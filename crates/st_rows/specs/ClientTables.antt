-- Clients at their limits, and what they say about themselves.
use Rattle.std.specs.Prelude.{ℕ, ◌+◌, true, false, List, [], ◌∷◌, map, Option, Some, None, ⊤}
use Rattle.st_base.specs.Page.{filled}
use Rattle.st_base.specs.declared.mode.Mode.TheVariants as modes
use Rattle.st_rules.specs.declared.client.HeldLock.{HeldLock}
use Rattle.st_rules.specs.declared.client.SeenGrant.{SeenGrant}
use Rattle.st_rules.specs.declared.client.KnownExtent.{KnownExtent}
use Rattle.st_rules.specs.declared.client.CleanPage.{CleanPage}
use Rattle.st_rules.specs.declared.client.LostPage.{LostPage}
use Rattle.st_rules.specs.declared.pages.DirtyPage.{DirtyPage}
use Rattle.st_rules.specs.Extents.{numbers}
use Rattle.st_rules.specs.ClientLease.{ClientLease, new_lease}
use Rattle.st_rules.specs.ClientLocks.{LockCache}
use Rattle.st_rules.specs.ClientPages.{Store, empty_store, no_pages}
use Rattle.st_rules.specs.ClientState.{ClientSession, ClientState}
use Rattle.st_rows.specs.Script.{settings}
use Rattle.st_rows.specs.ClientScript.{client_script_open}
use Rattle.st_rows.specs.Words.{c, epoch, g, life, page, stamp, at}

-- a session of the first epoch, dated 0, that has sent two requests
abbrev pub session_with : LockCache → ClientSession
session_with cache =
    record {
      epoch = epoch 1;
      lease = new_lease (stamp 0);
      requests = record { next = 3; asked = None };
      cutting = None;
      due = false;
      locks = cache;
      waits = [];
      releases = [];
    }

-- the first client of a world with one server, with these locks and pages
abbrev pub client_with : LockCache → Store → ClientState
client_with cache st =
    record {
      id = c 1;
      config = settings;
      associations = record { server = record { 0 = 1 }; life = life 1; greeting = None; session = Some (session_with cache); store = st; lost = [] } ∷ [];
      operations = [];
      next_command = 1;
    }

-- the file 2 exclusively, under the first grant
abbrev pub one_lock : LockCache
one_lock =
    record {
      rows = record { ino = 2; g = g 4294967297; mode = modes.X } ∷ [];
      seen = record { ino = 2; g = g 4294967297 } ∷ [];
      demanded = [];
      limit = 1024;
    }

-- page p lies on block p of disk 1, and was the birth p + 1
abbrev pub mapped : ℕ → KnownExtent
mapped p = record { ino = 2; page = page p; mapping = Some (record { at = at 1 p; birth = p + 1 }) }

abbrev pub dirtied : ℕ → DirtyPage
dirtied p = record { ino = 2; page = page p; bytes = filled 7; version = p + 1; failed = None }

abbrev pub cleaned : ℕ → CleanPage
cleaned p = record { ino = 2; page = page p; bytes = filled 7 }

-- with this number of pages dirty, from the first, and one more mapped
unfoldable pub dirty_client : ℕ → ClientState
dirty_client n =
    client_with
    one_lock
    (record {
      extents = map mapped (numbers 0 (n + 1));
      pages = record { clean = []; dirty = map dirtied (numbers 0 n); next_version = n + 1; most_clean = 256 };
      commands = [];
    })

-- with this number of pages clean, from the first, page 0 the newest, and one more mapped
unfoldable pub clean_client : ℕ → ClientState
clean_client n =
    client_with one_lock (record { extents = map mapped (numbers 0 (n + 1)); pages = record no_pages { clean = map cleaned (numbers 0 n) }; commands = [] })

abbrev pub shared : ℕ → HeldLock
shared ino = record { ino = ino; g = g ino; mode = modes.S }

abbrev pub seen : ℕ → SeenGrant
seen ino = record { ino = ino; g = g ino }

-- with this number of shared locks, from the file 1001 on, each under a grant of its file's number
unfoldable pub locked_client : ℕ → ClientState
locked_client n = client_with (record { rows = map shared (numbers 1001 n); seen = map seen (numbers 1001 n); demanded = []; limit = 1024 }) empty_store

abbrev pub lost_of : ℕ → ℕ → ℕ → LostPage
lost_of ino p command = record { ino = ino; page = page p; command = command }

-- lost pages of two files
abbrev pub unsorted_pages : List LostPage
unsorted_pages = lost_of 2 7 2 ∷ lost_of 3 0 5 ∷ lost_of 2 1 0 ∷ lost_of 2 4 9 ∷ []

-- a lease of this date, condemned or not
abbrev pub held : ℕ → Option ClientLease
held date = Some (new_lease (stamp date))

abbrev pub condemned : ℕ → Option ClientLease
condemned date = Some (record (new_lease (stamp date)) { condemned = true })

unfoldable pub client_tables_open : ⊤
unfolding client_script_open numbers dirty_client clean_client locked_client
client_tables_open = tt
