-- How much a client has of a server, and whether one of its operations waits for a grant of a file.
use Rattle.std.specs.Prelude.{ℕ, Bool, length, filter, Option, Some, None}
use Rattle.st_base.specs.declared.ids.ServerId.{ServerId}
use Rattle.st_client_association.specs.AwaitedGrants.{is_awaited_by}
use Rattle.st_client_association.specs.Counts.{locks_in, waits_in}
use Rattle.st_rules.specs.Client.{association_with, store_at}
use Rattle.st_rules.specs.ClientState.{Association, ClientSession, ClientState, is_of}
use Rattle.st_client.specs.declared.counts.ClientCounts.{ClientCounts}

-- the session of an association
abbrev pub session_at : Option Association → Option ClientSession
session_at None = None
session_at (Some a) = a.session

-- what an association has, and this number of pending operations
abbrev pub counts_at : Option Association → ℕ → ClientCounts
counts_at a pending = record {
  locks = locks_in (session_at a);
  waits = waits_in (session_at a);
  dirty = length (store_at a).pages.dirty;
  clean = length (store_at a).pages.clean;
  commands = length (store_at a).commands;
  pending = pending;
}

-- what a client has of a server
abbrev pub counts_with : ClientState → ServerId → ClientCounts
counts_with c server = counts_at (association_with c server) (length (filter (is_of server) c.operations))

-- an operation of the client waits for a grant of the file, or for what else it needs with the lock that is held
abbrev pub is_awaited_with : ClientState → ServerId → ℕ → Bool
is_awaited_with c server ino = is_awaited_by c.operations server ino (session_at (association_with c server))
