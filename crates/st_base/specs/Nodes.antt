-- The numbers of nodes in messages.
use Rattle.std.specs.Prelude.{ℕ, ◌+◌, ◌<◌}
use Rattle.st_base.specs.declared.ids.ServerId.{ServerId}

-- what is added to a server's own number; numbers below it are of clients
abbrev pub SERVER_BASE : ℕ
SERVER_BASE = 32768

-- the number of a server as a node; clients have their own numbers
abbrev pub server_node : ServerId → ℕ
server_node s = SERVER_BASE + s.0

-- a server whose number as a node has sixteen bits
abbrev pub HasNode : ServerId → Type 0
HasNode s = s.0 < SERVER_BASE
