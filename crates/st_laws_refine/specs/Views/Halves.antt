-- The two halves of an association: what its machine sees of a client's association, and of a server.
use Rattle.std.specs.Prelude.{ℕ, Bool, true, false, ◌||◌, List, Option, Some, None, is_some}
use Rattle.st_base.specs.declared.ids.ClientId.{ClientId}
use Rattle.st_base.specs.declared.ids.Stamp.{Stamp}
use Rattle.st_base.specs.Mode.{number_of}
use Rattle.st_rules.specs.declared.client.HeldLock.{HeldLock}
use Rattle.st_rules.specs.declared.locks.LockRow.{LockRow}
use Rattle.st_rules.specs.declared.sessions.Session.{Session}
use Rattle.st_rules.specs.ClientLocks.{lock_of, seen_of}
use Rattle.st_rules.specs.ClientPages.{Store, has_dirty, has_write_on}
use Rattle.st_rules.specs.ClientState.{ClientSession, Association}
use Rattle.st_rules.specs.Locks as locks
use Rattle.st_rules.specs.Sessions as sessions
use Rattle.st_rules.specs.Authority as authority
use Rattle.st_rules.specs.Grace as grace
use Rattle.st_rules.specs.Server.{ServerState}
use Rattle.st_protocol.specs.Assoc as net
use Rattle.st_protocol.specs.Assoc.{Lock, no_lock, Client, Msg}

-- The client's half.

-- a lock of the cache
abbrev pub held_at : Option HeldLock → Lock
held_at None = no_lock
held_at (Some l) = record { g = l.g.0; mode = number_of l.mode }

-- a page of the file is dirty, or a write of it is outstanding
abbrev pub busy_in : Store → ℕ → Bool
busy_in st i = has_dirty st.pages i || has_write_on st.commands i

-- by the session, each field separately: so what changes only the pages leaves the other fields by computation
abbrev pub epoch_in : Option ClientSession → ℕ
epoch_in None = 0
epoch_in (Some s) = s.epoch.0

-- a reassertion is due
abbrev pub due_in : Option ClientSession → Bool
due_in None = false
due_in (Some s) = s.due

-- a lease is held
abbrev pub leased_in : Option ClientSession → Bool
leased_in None = false
leased_in (Some s) = true

-- the date of the lease
abbrev pub date_in : Option ClientSession → ℕ
date_in None = 0
date_in (Some s) = s.lease.date.0

-- the lock on a file
abbrev pub held_in : Option ClientSession → ℕ → Lock
held_in None i = no_lock
held_in (Some s) i = held_at (lock_of s.locks i)

-- the greatest number seen of a file
abbrev pub seen_in : Option ClientSession → ℕ → ℕ
seen_in None i = 0
seen_in (Some s) i = (seen_of s.locks i).0

-- the client's half, by its session and its pages
abbrev pub client_at : ℕ → ℕ → Option ClientSession → Store → (ℕ → ℕ) → Client
client_at now life o st ended =
    record {
      clock = now;
      life = life;
      epoch = epoch_in o;
      due = due_in o;
      leased = leased_in o;
      date = date_in o;
      held = λ i. held_in o i;
      seen = λ i. seen_in o i;
      busy = λ i. busy_in st i;
      ended = ended;
    }

-- the ends of the lives that are over are in no state of the client
abbrev pub client_of : (ℕ → ℕ) → ℕ → Association → Client
client_of ended now a = client_at now a.life.0 a.session a.store ended

-- The server's half.

-- what no state keeps, or not longer than it is needed: both clocks when the last timer and when the last grace began; a number that no grant to this client is
-- above; how far the server's clock ran ahead of the client's; and all that was sent between the two
pub record Ghost : Type 0 where
  pub start : ℕ
  pub base : ℕ
  pub gstart : ℕ
  pub gbase : ℕ
  pub glife : ℕ
  pub top : ℕ
  pub drift : ℕ
  pub net : List Msg

-- a row of the table
abbrev pub row_seen : LockRow → net.Row
row_seen r = record { life = r.life.0; g = r.g.0; mode = number_of r.mode }

-- a row, if there is one
abbrev pub row_view : Option LockRow → Option net.Row
row_view None = None
row_view (Some r) = Some (row_seen r)

-- a row that is missing has no mode
abbrev pub row_or : Option net.Row → net.Row
row_or None = net.no_row
row_or (Some r) = r

-- the life of a session
abbrev pub life_view : Option Session → ℕ
life_view None = 0
life_view (Some s) = s.life.0

-- a session is served
abbrev pub live_view : Option Session → Bool
live_view None = false
live_view (Some s) = sessions.is_live s

-- the client's half of the server
abbrev pub half : ClientId → Stamp → ServerState → Ghost → net.Server
half c now n x =
    record {
      clock = now.0;
      drift = x.drift;
      up = true;
      epoch = n.stable.epoch.0;
      grace = grace.is_on n.grace now;
      gstart = x.gstart;
      gbase = x.gbase;
      glife = x.glife;
      session = life_view (sessions.session_of n.sessions c);
      live = live_view (sessions.session_of n.sessions c);
      row = λ i. row_or (row_view (locks.row_of n.locks c i));
      timed = is_some (authority.suspect_of n.authority c);
      start = x.start;
      base = x.base;
      top = x.top;
    }

-- the server's half, whether the server runs or not
abbrev pub half_of : ClientId → Stamp → Bool → ServerState → Ghost → net.Server
half_of c now running n x = record (half c now n x) { up = running }
