-- From which moment on a tick at the node of a handle does something.
use Rattle.std.specs.Prelude.{◌≡◌, ◌-◌, ◌^◌, ℕ, Option, Some, None}
use Rattle.st_base.specs.declared.ids.Stamp.{Stamp}
use Rattle.st_client_due.specs.ClientDue.{client_due}
use Rattle.st_due.specs.Moments.{readable_by}
use Rattle.st_due.specs.ServerDue.{server_due}
use Rattle.st_embed.specs.Clients.{EmbeddedClient}
use Rattle.st_embed.specs.Servers.{EmbeddedServer}
use Rattle.tank_c.specs.Calls.{stamp}
use Rattle.tank_c.specs.Codes as codes

-- the number that is told for no moment
abbrev pub NEVER : ℕ
NEVER = 2 ^ 64 - 1

-- a moment that a clock may read, or the number for none
abbrev pub moment_told : Option ℕ → ℕ
moment_told None = NEVER
moment_told (Some m) = m

-- the moment from which on a tick at a server does something
abbrev pub server_due_told : EmbeddedServer → ℕ
server_due_told e = moment_told (readable_by (server_due e.server.node.state))

-- it is returned about a server that is there
abbrev pub TellsServerDue : Option EmbeddedServer → ℕ → Type 0
TellsServerDue None due = ⊥
TellsServerDue (Some e) due = due ≡ server_due_told e

-- the number of why it isn't: there is no server, or lack of memory
abbrev pub not_told : Option EmbeddedServer → ℕ
not_told None = codes.ABSENT
not_told (Some e) = codes.NO_MEMORY

-- the first moment from this one on at which a tick at a client does something
abbrev pub client_due_told : EmbeddedClient → Stamp → ℕ
client_due_told e from = moment_told (readable_by (client_due e.node.state from))

-- it is returned about a client that is there
abbrev pub TellsClientDue : Option EmbeddedClient → ℕ → ℕ → Type 0
TellsClientDue None from due = ⊥
TellsClientDue (Some e) from due = due ≡ client_due_told e (stamp from)

-- the number of why it isn't: there is no client, or lack of memory
abbrev pub client_not_told : Option EmbeddedClient → ℕ
client_not_told None = codes.ABSENT
client_not_told (Some e) = codes.NO_MEMORY
