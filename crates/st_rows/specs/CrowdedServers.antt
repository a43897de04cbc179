-- A server with many locks.
use Rattle.std.specs.Prelude.{ℕ, [], ◌∷◌, map, None}
use Rattle.st_rules.specs.Extents.{numbers}
use Rattle.st_rules.specs.Server.{ServerState}
use Rattle.st_rows.specs.Script.{server_with}
use Rattle.st_rows.specs.Tables.{living, sessions, shared, table}

-- a server whose first client has locks on this number of files, from file 10
abbrev pub crowded_server : ℕ → ServerState
crowded_server count = record (server_with 8) { locks = table count (map shared (numbers 10 count)) []; sessions = sessions (living 1 1 0 None ∷ []) }
