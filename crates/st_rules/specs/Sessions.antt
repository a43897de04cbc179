-- Sessions: which life of each client a server serves in this epoch, and up to which request.
use Rattle.std.specs.Prelude.{ℕ, ◌+◌, Bool, true, false, ◌&&◌, ◌||◌, ◌==◌, nat_lt, nat_le, if◌then◌else◌, List, [], find, map, Option, Some, None, option_map, ⊤}
use denote.Ref.{Bor}
use Rattle.st_base.specs.declared.ids.ClientId.{ClientId}
use Rattle.st_base.specs.declared.ids.Life.{Life}
use Rattle.st_base.specs.declared.ids.Epoch.{Epoch}
use Rattle.st_messages.specs.declared.message.Body.{Body}
use Rattle.st_messages.specs.declared.message.Body.TheVariants.{Reasserted}
use Rattle.st_rules.specs.declared.sessions.SessionState.{SessionState}
use Rattle.st_rules.specs.declared.sessions.SessionState.TheVariants.{Live, Ended}
use Rattle.st_rules.specs.declared.sessions.Session.{Session}
use Rattle.st_rules.specs.declared.sessions.Hello.{Hello}
use Rattle.st_rules.specs.declared.sessions.Hello.TheVariants as hellos
use Rattle.st_rules.specs.declared.sessions.Taken.{Taken}
use Rattle.st_rules.specs.declared.sessions.Taken.TheVariants.{OtherEpoch, NoSession, Stale, Again, Fresh, OutOfOrder}
use Rattle.st_rules.specs.Keys.{same_client, put, keys_open}

-- the sessions of an epoch
pub record Sessions : Type 0 where
  pub epoch : Epoch
  pub rows : List Session

-- nobody greeted yet
abbrev pub no_sessions : Epoch → Sessions
no_sessions epoch = record { epoch = epoch; rows = [] }

-- Look-ups.

-- the client's session
abbrev pub is_session_of : ClientId → Session → Bool
is_session_of c s = same_client s.client c

-- a client's session, if it has one
abbrev pub session_of : Sessions → ClientId → Option Session
session_of t c = find (is_session_of c) t.rows

-- the session's life
abbrev pub life_of_session : Session → Life
life_of_session s = s.life

-- the life of a client's session
abbrev pub life_of : Sessions → ClientId → Option Life
life_of t c = option_map life_of_session (session_of t c)

-- requests are served
abbrev pub is_live_state : SessionState → Bool
is_live_state (Live last reply) = true
is_live_state Ended = false

-- the session lives
abbrev pub is_live : Session → Bool
is_live s = is_live_state s.state

-- a life of the session, or one that is past
abbrev pub is_past : Life → Session → Bool
is_past life s = nat_le life.0 s.life.0

-- Changes.

-- a session in place of its client's
abbrev pub with_session : Session → Sessions → Sessions
with_session s t = record t { rows = put (is_session_of s.client) s t.rows }

-- a session that served nothing yet
abbrev pub new_session : ClientId → Life → Session
new_session c life = record { client = c; life = life; state = Live 0 None }

-- a new session of the client
abbrev pub with_new_session : ClientId → Life → Sessions → Sessions
with_new_session c life t = with_session (new_session c life) t

-- Greeting: the first case that applies. Without a session a new one begins; a lower life than a living session's is old, and the same life is welcome; a
-- higher life than a living session's must wait if the client has locks, and otherwise replaces it; a life not above an ended session's is old, and a higher
-- one begins a new session.
pub record Greeted : Type 0 where
  pub sessions : Sessions
  pub hello : Hello

-- what becomes of a greeting
unfoldable pub greeted : Hello → Sessions → Greeted
greeted h t = record { sessions = t; hello = h }

-- a new session begins
unfoldable pub begin_session : Hello → ClientId → Life → Sessions → Greeted
begin_session h c life t = greeted h (with_new_session c life t)

-- a higher life than a living session's
unfoldable pub hello_higher : Sessions → ClientId → Life → Bool → Greeted
hello_higher t c life rows = if rows then greeted hellos.Wait t else begin_session hellos.Replaced c life t

-- no lower life than a living session's
unfoldable pub hello_again : Sessions → ClientId → Life → Bool → Session → Greeted
hello_again t c life rows s = if life.0 == s.life.0 then greeted hellos.Welcome t else hello_higher t c life rows

-- against a living session
unfoldable pub hello_live : Sessions → ClientId → Life → Bool → Session → Greeted
hello_live t c life rows s = if nat_lt life.0 s.life.0 then greeted hellos.Old t else hello_again t c life rows s

-- against an ended session
unfoldable pub hello_ended : Sessions → ClientId → Life → Session → Greeted
hello_ended t c life s = if is_past life s then greeted hellos.Old t else begin_session hellos.Welcome c life t

-- against a session
unfoldable pub hello_by : Sessions → ClientId → Life → Bool → Session → Greeted
hello_by t c life rows s = if is_live s then hello_live t c life rows s else hello_ended t c life s

-- with a session, or without
unfoldable pub hello_at : Sessions → ClientId → Life → Bool → Option Session → Greeted
hello_at t c life rows None = begin_session hellos.Welcome c life t
hello_at t c life rows (Some s) = hello_by t c life rows s

-- a client greets in this life; rows tells whether it has locks
unfoldable pub hello : Sessions → ClientId → Life → Bool → Greeted
hello t c life rows = hello_at t c life rows (session_of t c)

-- Taking a request: another epoch; no session, or a life above the session's; a life below a living session's or not
-- above an ended one's, or a number below the last one, is stale; the last number gets the kept reply again; a number
-- above the next one is out of order; and the next number is fresh.
unfoldable pub again : Option Body → Taken Body
again None = Stale
again (Some reply) = Again reply

-- the next number, or a later one
unfoldable pub take_next : ℕ → ℕ → Taken Body
take_next last number = if number == last + 1 then Fresh else OutOfOrder

-- the last number, or a later one
unfoldable pub take_from : ℕ → Option Body → ℕ → Taken Body
take_from last reply number = if number == last then again reply else take_next last number

-- by the number
unfoldable pub take_number : ℕ → Option Body → ℕ → Taken Body
take_number last reply number = if nat_lt number last then Stale else take_from last reply number

-- by the session of this life
unfoldable pub take_state : SessionState → ℕ → Taken Body
take_state (Live last reply) number = take_number last reply number
take_state Ended number = Stale

-- a life that is not above
unfoldable pub take_past : Session → Life → ℕ → Taken Body
take_past s life number = if nat_lt life.0 s.life.0 then Stale else take_state s.state number

-- by the life
unfoldable pub take_life : Session → Life → ℕ → Taken Body
take_life s life number = if nat_lt s.life.0 life.0 then NoSession else take_past s life number

-- with a session, or without
unfoldable pub take_at : Option Session → Life → ℕ → Taken Body
take_at None life number = NoSession
take_at (Some s) life number = take_life s life number

-- a request of this life, epoch and number
unfoldable pub take : Sessions → ClientId → Life → Epoch → ℕ → Taken Body
take t c life epoch number = if epoch.0 == t.epoch.0 then take_at (session_of t c) life number else OtherEpoch

-- what is taken, with the reply that the lent reference points to
abbrev pub taken_copied : Taken (Bor Body) → Taken Body
taken_copied OtherEpoch = OtherEpoch
taken_copied NoSession = NoSession
taken_copied Stale = Stale
taken_copied (Again reply) = Again reply.now
taken_copied Fresh = Fresh
taken_copied OutOfOrder = OutOfOrder

-- Keeping a reply: the number is the last one now, and its reply is kept.
abbrev pub kept_state : ℕ → Body → SessionState → SessionState
kept_state number reply (Live last old) = Live number (Some reply)
kept_state number reply Ended = Ended

-- a session with a kept reply
unfoldable pub keep_reply : ℕ → Body → Session → Session
keep_reply number reply s = record s { state = kept_state number reply s.state }

-- the client's session keeps the reply
abbrev pub keep_of : ClientId → ℕ → Body → Session → Session
keep_of c number reply s = if is_session_of c s then keep_reply number reply s else s

-- the sessions after a reply was kept
unfoldable pub store : Sessions → ClientId → ℕ → Body → Sessions
store t c number reply = record t { rows = map (keep_of c number reply) t.rows }

-- Reasserted: the session has this life, its last number is 1, and the reply to that is kept.
abbrev pub reasserted_session : ClientId → Life → Session
reasserted_session c life = record { client = c; life = life; state = Live 1 (Some Reasserted) }

-- the sessions after a reassertion was accepted
unfoldable pub reasserted : Sessions → ClientId → Life → Sessions
reasserted t c life = with_session (reasserted_session c life) t

-- Ending: a living session is ended, with its life.
unfoldable pub ended : Session → Session
ended s = record s { state = Ended }

-- the client's session is ended
abbrev pub end_of : ClientId → Session → Session
end_of c s = if is_session_of c s then ended s else s

-- the sessions after one was ended
unfoldable pub end : Sessions → ClientId → Sessions
end t c = record t { rows = map (end_of c) t.rows }

-- A living session of this life, or a session of a higher one.
abbrev pub knows_life : Life → Session → Bool
knows_life life s = nat_lt life.0 s.life.0 || (is_live s && (life.0 == s.life.0))

-- there is such a session
abbrev pub knows_at : Option Session → Life → Bool
knows_at None life = false
knows_at (Some s) life = knows_life life s

-- the client has such a session
abbrev pub knows : Sessions → ClientId → Life → Bool
knows t c life = knows_at (session_of t c) life

-- opens all of this file
unfoldable pub sessions_open : ⊤
unfolding keys_open greeted begin_session hello_higher hello_again hello_live hello_ended hello_by hello_at hello again take_next take_from take_number take_state take_past take_life take_at take keep_reply store reasserted ended end
sessions_open = tt
