-- How much a server has.
use Rattle.std.specs.Prelude.{length}
use Rattle.st_rules.specs.Extents.{free}
use Rattle.st_rules.specs.Server.{ServerState}
use Rattle.st_server.specs.declared.counts.ServerCounts.{ServerCounts}

-- the clients with a session in this epoch; the locks and the waits of all clients; the clients whose timer runs; the entries of all directories; the mapped
-- pages, and the free blocks
abbrev pub counts_of : ServerState → ServerCounts
counts_of s = record {
  sessions = length s.sessions.rows;
  locks = length s.locks.rows;
  waits = length s.locks.waiters;
  suspects = length s.authority.suspects;
  names = length s.stable.names.entries;
  mapped = length s.stable.extents.rows;
  free = free s.stable.extents;
}
