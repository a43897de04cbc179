-- What a slot owns.
use Rattle.std.specs.Prelude.{Option, Some, None}
use base.Fml.{Fml, ftrue}
use denote.RawPtr.{Ptr}
use Rattle.libc.specs.Heap.{chunk}
use Rattle.std_alloc.specs.Box.Ownership.{box_owns}
use Rattle.st_embed.specs.Clients.{EmbeddedClient}
use Rattle.st_embed.specs.Servers.{EmbeddedServer}
use Rattle.st_embed.specs.contracts.client.EmbeddedClient as machine
use Rattle.st_embed.specs.contracts.server.EmbeddedServer as server

-- nothing if there is no client, and otherwise the client at p and the right to free its block
abbrev pub client_owns : Ptr → Option EmbeddedClient → Fml
client_owns p None = ftrue
client_owns p (Some c) = box_owns chunk machine.the_row p c

-- the same of a server
abbrev pub server_owns : Ptr → Option EmbeddedServer → Fml
server_owns p None = ftrue
server_owns p (Some s) = box_owns chunk server.the_row p s
