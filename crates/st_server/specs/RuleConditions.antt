-- What the rules for a message need of the server.
use Rattle.std.specs.Prelude.{◌≡◌, Bool, true, false, ◌&&◌, Option, Some, None}
use Rattle.std.specs.List.{list_all}
use Rattle.st_base.specs.declared.ids.Life.{Life}
use Rattle.st_messages.specs.Ranges.{fits, is_body}
use Rattle.st_rules.specs.declared.input.ServerInput.{ServerInput}
use Rattle.st_rules.specs.declared.input.ServerInput.TheVariants.{Tick, Control}
use Rattle.st_rules.specs.declared.locks.LockRow.{LockRow}
use Rattle.st_rules.specs.declared.sessions.Session.{Session}
use Rattle.st_rules.specs.Server.{ServerState}
use Rattle.st_rules.specs.Sessions.{Sessions, session_of, is_live, is_past}

-- the session lives, in this life or a later one
abbrev pub is_lived : Life → Option Session → Bool
is_lived life None = false
is_lived life (Some s) = is_live s && is_past life s

-- the client's session lives, in the row's life or a later one
abbrev pub is_row_lived : Sessions → LockRow → Bool
is_row_lived t r = is_lived r.life (session_of t r.client)

-- each row belongs to a life that its client's session has, which lives, or to one before it
abbrev pub AreServed : ServerState → Type 0
AreServed s = list_all (is_row_lived s.sessions) s.locks.rows ≡ true

-- the body of a message that comes has its fields in their ranges
abbrev pub has_body : ServerInput → Bool
has_body Tick = true
has_body (Control m) = is_body m.body

-- a message that comes has every field in its range
abbrev pub comes_fit : ServerInput → Bool
comes_fit Tick = true
comes_fit (Control m) = fits m
