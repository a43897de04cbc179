-- What holds of a server before and after each of its steps: of each part by itself, and of the parts together.
use Rattle.std.specs.Prelude.{◌≡◌, ◌+◌, Bool, true, ◌&&◌, not, nat_le, nat_lt, List, [], ◌∷◌, Option, Some, None, is_some, ⊤}
use Rattle.std.specs.List.{list_all, list_any}
use Rattle.st_messages.specs.declared.message.Body.{Body}
use Rattle.st_messages.specs.Ranges.{is_body}
use Rattle.st_rules.specs.declared.authority.Suspect.{Suspect}
use Rattle.st_rules.specs.declared.locks.LockRow.{LockRow}
use Rattle.st_rules.specs.declared.locks.Waiter.{Waiter}
use Rattle.st_rules.specs.declared.sessions.Session.{Session}
use Rattle.st_rules.specs.declared.sessions.SessionState.{SessionState}
use Rattle.st_rules.specs.declared.sessions.SessionState.TheVariants.{Live, Ended}
use Rattle.st_rules.specs.Locks.{Locks, is_row_of, is_wait_of, is_wait_by, stands_against, first_after}
use Rattle.st_rules.specs.Server.{ServerState, serves_at}
use Rattle.st_rules.specs.Sessions.{Sessions, is_session_of, session_of}

-- no two members of a list are the same by this test
unfoldable pub are_once : {A : Type 0} → (A → A → Bool) → List A → Bool
are_once same [] = true
are_once same (x ∷ xs) = not (list_any (same x) xs) && are_once same xs

-- Locks.

-- two rows of one client on one file
abbrev pub same_row : LockRow → LockRow → Bool
same_row r q = is_row_of r.client r.ino q

-- two waits of one client for one file
abbrev pub same_wait : Waiter → Waiter → Bool
same_wait w v = is_wait_of w.client w.ino v

-- no row of another client conflicts with this one
abbrev pub is_compatible : List LockRow → LockRow → Bool
is_compatible rows r = not (list_any (stands_against r.client r.ino r.mode) rows)

-- the row's grant number is one that this epoch or an earlier one gave
abbrev pub is_granted : Locks → LockRow → Bool
is_granted l r = nat_le r.g.0 (first_after l.epoch + l.grants)

-- A lock table: a client has one row and one wait a file; the rows of a file are compatible; no row has a grant number that will still be given.
pub record IsLockTable (l : Locks) : Type 0 where
  pub rows_once : are_once same_row l.rows ≡ true
  pub waits_once : are_once same_wait l.waiters ≡ true
  pub compatible : list_all (is_compatible l.rows) l.rows ≡ true
  pub granted : list_all (is_granted l) l.rows ≡ true

-- Sessions.

-- two sessions of one client
abbrev pub same_session : Session → Session → Bool
same_session s t = is_session_of s.client t

-- the kept reply can be sent
abbrev pub is_reply : Option Body → Bool
is_reply None = true
is_reply (Some body) = is_body body

-- the reply that a session keeps can be sent
abbrev pub keeps_reply : SessionState → Bool
keeps_reply (Live last reply) = is_reply reply
keeps_reply Ended = true

-- the reply that a session keeps can be sent
abbrev pub has_reply : Session → Bool
has_reply s = keeps_reply s.state

-- The sessions: a client has one, and each kept reply can be sent.
pub record AreSessions (t : Sessions) : Type 0 where
  pub once : are_once same_session t.rows ≡ true
  pub replies : list_all has_reply t.rows ≡ true

-- Suspicion.

-- the timer's client is below those of these timers
abbrev pub is_below_all : Suspect → List Suspect → Bool
is_below_all s ss = list_all (λ t. nat_lt s.client.0 t.client.0) ss

-- Timers are in rising order of clients, one for each.
unfoldable pub are_rising : List Suspect → Bool
are_rising [] = true
are_rising (s ∷ ss) = is_below_all s ss && are_rising ss

-- The parts together.

-- the client's living session has the row's life
abbrev pub is_row_served : Sessions → LockRow → Bool
is_row_served t r = serves_at r.life (session_of t r.client)

-- the client's living session has the wait's life
abbrev pub is_wait_served : Sessions → Waiter → Bool
is_wait_served t w = serves_at w.life (session_of t w.client)

-- the timer's client has a session
abbrev pub has_session : Sessions → Suspect → Bool
has_session t s = is_some (session_of t s.client)

-- a client whose timer runs waits for no lock
abbrev pub waits_not : Locks → Suspect → Bool
waits_not l s = not (list_any (is_wait_by s.client) l.waiters)

-- A server: each part is as it must be; its parts' epochs agree; each row and each wait has the life of its client's living session; each client whose timer
-- runs has a session and waits for nothing.
pub record IsServer (n : ServerState) : Type 0 where
  pub locks : IsLockTable n.locks
  pub sessions : AreSessions n.sessions
  pub suspects : are_rising n.authority.suspects ≡ true
  pub lock_epoch : n.locks.epoch ≡ n.stable.epoch
  pub session_epoch : n.sessions.epoch ≡ n.stable.epoch
  pub rows_served : list_all (is_row_served n.sessions) n.locks.rows ≡ true
  pub waits_served : list_all (is_wait_served n.sessions) n.locks.waiters ≡ true
  pub known : list_all (has_session n.sessions) n.authority.suspects ≡ true
  pub quiet : list_all (waits_not n.locks) n.authority.suspects ≡ true
