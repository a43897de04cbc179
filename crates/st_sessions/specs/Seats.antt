-- Where the session of each client is.
use Rattle.std.specs.Prelude.{◌≡◌, ℕ, List, Option, None, get_or}
use Rattle.std.specs.List.{position}
use Rattle.st_base.specs.declared.ids.ClientId.{ClientId}
use Rattle.st_rules.specs.declared.sessions.Session.{Session}
use Rattle.st_rules.specs.Sessions.{is_session_of}

-- the entry at the client's number; past the end there is none
abbrev pub seat_of : List (Option ℕ) → ClientId → Option ℕ
seat_of seats c = get_or seats c.0 None

-- the entry at each client's number is the place of its session
abbrev pub AreSeated : List Session → List (Option ℕ) → Type 0
AreSeated rows seats = (c : ClientId) → seat_of seats c ≡ position (is_session_of c) rows

-- each client has the same entry
abbrev pub SameSeats : List (Option ℕ) → List (Option ℕ) → Type 0
SameSeats old new = (c : ClientId) → seat_of new c ≡ seat_of old c
