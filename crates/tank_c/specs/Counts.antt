-- How much the node of a handle has, and whether one of a client's operations waits for a file.
use Rattle.std.specs.Prelude.{◌≡◌, ℕ, Option, Some, None}
use Rattle.st_client.specs.Counts.{counts_with, is_awaited_with}
use Rattle.st_client.specs.declared.counts.ClientCounts.{ClientCounts}
use Rattle.st_server.specs.Counts.{counts_of}
use Rattle.st_server.specs.declared.counts.ServerCounts.{ServerCounts}
use Rattle.st_embed.specs.Clients.{EmbeddedClient}
use Rattle.st_embed.specs.Servers.{EmbeddedServer}
use Rattle.tank_c.specs.Calls.{server_id}
use Rattle.tank_c.specs.Codes.{flag}
use Rattle.tank_c.specs.declared.counts.TankClientCounted.{TankClientCounted}
use Rattle.tank_c.specs.declared.counts.TankServerCounted.{TankServerCounted}

-- these numbers for C
abbrev pub client_counted : ClientCounts → TankClientCounted
client_counted k = record { locks = k.locks; waits = k.waits; dirty = k.dirty; clean = k.clean; commands = k.commands; pending = k.pending }

-- and those of a server, whose journal has this many bytes before its gate and this many in all
abbrev pub server_counted : ServerCounts → ℕ → ℕ → TankServerCounted
server_counted k gate size = record {
  sessions = k.sessions;
  locks = k.locks;
  waits = k.waits;
  suspects = k.suspects;
  names = k.names;
  mapped = k.mapped;
  free = k.free;
  journal = gate;
  journal_size = size;
}

-- what a client has of a server is returned about a client that is there
abbrev pub TellsClientCounts : Option EmbeddedClient → ℕ → TankClientCounted → Type 0
TellsClientCounts None server k = ⊥
TellsClientCounts (Some c) server k = k ≡ client_counted (counts_with c.node.state (server_id server))

-- so is whether an operation waits for a file of the server
abbrev pub TellsOwed : Option EmbeddedClient → ℕ → ℕ → ℕ → Type 0
TellsOwed None server ino owes = ⊥
TellsOwed (Some c) server ino owes = owes ≡ flag (is_awaited_with c.node.state (server_id server) ino)

-- what a server has is returned about a server that is there
abbrev pub TellsServerCounts : Option EmbeddedServer → TankServerCounted → Type 0
TellsServerCounts None k = ⊥
TellsServerCounts (Some e) k = k ≡ server_counted (counts_of e.server.node.state) e.gate e.size
