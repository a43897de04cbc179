-- A step at one server: its parts, what always holds of them, and the session in it.
use Rattle.std.specs.Prelude.{◌≡◌, ℕ, ◌+◌, ◌<◌, ◌^◌, Bool, true, false, if◌then◌else◌, List, [], ◌∷◌, length, Option, Some, None, is_some, unwrap_or, Ok, Err, ⊤}
use Rattle.std.specs.List.{list_all}
use Rattle.st_base.specs.Config.{check}
use Rattle.st_base.specs.declared.config.Config.{Config}
use Rattle.st_base.specs.declared.ids.ClientId.{ClientId}
use Rattle.st_base.specs.declared.ids.GrantNo.{GrantNo}
use Rattle.st_base.specs.declared.mode.Mode.{Mode}
use Rattle.st_base.specs.declared.ids.ServerId.{ServerId}
use Rattle.st_base.specs.declared.ids.Life.{Life}
use Rattle.st_base.specs.declared.ids.PageNo.{PageNo}
use Rattle.st_base.specs.declared.ids.Stamp.{Stamp}
use Rattle.st_base.specs.Nodes.{HasNode}
use Rattle.st_client_session.specs.Sessions.{Parties, ServerSession}
use Rattle.st_messages.specs.declared.output.Output.{Output}
use Rattle.st_messages.specs.declared.message.Message.{Message}
use Rattle.st_messages.specs.declared.output.Note.{Note}
use Rattle.st_messages.specs.declared.output.Output.TheVariants as outputs
use Rattle.st_rules.specs.declared.client.Release.{Release}
use Rattle.st_rules.specs.declared.client.Request.{Request}
use Rattle.st_rules.specs.declared.client.WriteRefusal.TheVariants as writing
use Rattle.st_rules.specs.ClientInvariants.{is_below}
use Rattle.st_rules.specs.ClientLocks as locks
use Rattle.st_rules.specs.ClientPages as pages
use Rattle.st_rules.specs.ClientPages.{Pages}
use Rattle.st_rules.specs.ClientPasses as passes
use Rattle.st_rules.specs.ClientReplies.{new_session}
use Rattle.st_rules.specs.ClientState.{ClientSession, Turn, is_again_due, note, say, with_cache, with_session, with_store}
use Rattle.st_client_store.specs.Stores.{ServerStore}

-- The session in a step; if there is none, one about which nothing is said.
abbrev pub session_of : Turn → ClientSession
session_of t = unwrap_or t.here.session (new_session (record { 0 = 0 }) (record { 0 = 0 }))

-- there is a session
abbrev pub has_session : Turn → Bool
has_session t = is_some t.here.session

-- the session, as the definitions have it
abbrev pub told_session : ServerSession → ClientSession
told_session s = s.session

-- the parties of a session at this server
abbrev pub parties_of : ClientId → ServerId → Life → Config → Parties
parties_of client server life config = record { client = client; server = server; life = life; config = config }

-- the session, if there is one, is of these parties
abbrev pub IsOf : Parties → Option ServerSession → Type 0
IsOf parties None = ⊤
IsOf parties (Some s) = s.of ≡ parties

-- the next number of the session's requests, if there is one, is below this
abbrev pub AsksBelow : ℕ → Option ServerSession → Type 0
AsksBelow most None = ⊤
AsksBelow most (Some s) = s.session.requests.next < most

-- if counters end: a counter rises only with an output
abbrev pub most_of : List Output → ℕ
most_of out = 2 ^ 62 + length out

-- What always holds: the settings are checked; the parts are of one server; the numbers of commands were given; and no counter is at its end.
pub record IsTurn (client : ClientId) (config : Config) (server : ServerId) (life : Life) (session : Option ServerSession) (store : ServerStore) (next : ℕ) (out : List Output) : Type 0 where
  pub checked : check config ≡ Ok tt
  pub node : HasNode server
  pub parties : IsOf (parties_of client server life config) session
  pub stored : store.server ≡ server
  pub given : list_all (is_below next) store.store.commands ≡ true
  pub commands : next < most_of out
  pub versions : store.store.pages.next_version < most_of out
  pub lives : life.0 < most_of out
  pub requests : AsksBelow (most_of out) session

-- with these pages
abbrev pub with_pages : Pages → Turn → Turn
with_pages ps t = with_store (record t.here.store { pages = ps }) t

-- a page that is dirty or clean is read, and used; any other is not, and nothing changes
abbrev pub Reads : Turn → Turn → Option (List ℕ) → ℕ → PageNo → Type 0
Reads old new None ino p = record { missing : pages.cached old.here.store.pages ino p ≡ None; same : new ≡ old }
Reads old new (Some bytes) ino p =
    record { cached : pages.cached old.here.store.pages ino p ≡ Some bytes; is : new ≡ with_pages (pages.use_page old.here.store.pages ino p) old }

-- a page is changed, with this note, or too many others are dirty
abbrev pub Changes : Turn → Turn → Bool → ℕ → PageNo → List ℕ → Note → Type 0
Changes old new true ino p bytes n =
    record { written : pages.write old.here.store.pages ino p bytes ≡ Ok new.here.store.pages; is : new ≡ passes.with_pages_changed new.here.store.pages ino p (note old n) }
Changes old new false ino p bytes n = record { full : pages.write old.here.store.pages ino p bytes ≡ Err writing.DirtyFull; same : new ≡ old }

-- a lock is reduced, and what is given up is reported
abbrev pub Reduces : Turn → Turn → Option (GrantNo × Mode) → ℕ → Type 0
Reduces old new given ino =
    record {
      given : given ≡ (locks.reduce (session_of old).locks ino).given;
      is : new ≡ with_session (with_cache (locks.reduce (session_of old).locks ino).locks (session_of old)) old;
    }

-- the first release is taken, and the others are left
abbrev pub TakesRelease : Turn → Option Release → Turn → Type 0
TakesRelease old None new = record { none : (session_of old).releases ≡ []; same : new ≡ old }
TakesRelease old (Some r) new =
    record {
      first : (session_of old).releases ≡ r ∷ (session_of new).releases;
      is : new ≡ with_session (record (session_of old) { releases = (session_of new).releases }) old;
    }

-- the outstanding request is sent once more, if it was last sent long ago
abbrev pub again_if_due : Turn → ClientSession → Stamp → Option Request → Turn
again_if_due t s now None = t
again_if_due t s now (Some q) = if is_again_due t.config.retry now q then passes.ask_again t s now q else t

-- the message of the outstanding request, and what is left before it is sent
abbrev pub SendsAgain : Turn → Turn → Option Message → Stamp → Option Request → Type 0
SendsAgain old new None now q = again_if_due old (session_of old) now q ≡ new
SendsAgain old new (Some m) now q = again_if_due old (session_of old) now q ≡ say new (outputs.Send m)
