-- What a server of the third form has of its clients, and what it may say.
use Rattle.std.specs.Prelude.{◌≡◌, ◌<◌, ◌≤◌, ◌⊎◌, ℕ, true, List, Some, None}
use Rattle.st_base.specs.declared.ids.ClientId.{ClientId}
use Rattle.st_base.specs.declared.ids.GrantNo.{GrantNo}
use Rattle.st_base.specs.declared.ids.Stamp.{Stamp}
use Rattle.st_base.specs.declared.mode.Mode.{Mode}
use Rattle.st_messages.specs.declared.message.Body.{Body}
use Rattle.st_messages.specs.declared.message.Body.TheVariants as bodies
use Rattle.st_messages.specs.declared.message.Header.{Header}
use Rattle.st_messages.specs.declared.message.Message.{Message}
use Rattle.st_messages.specs.declared.output.Output.TheVariants as outputs
use Rattle.st_rules.specs.declared.input.ServerInput.{ServerInput}
use Rattle.st_rules.specs.declared.input.ServerInput.TheVariants.{Control}
use Rattle.st_rules.specs.declared.locks.LockRow.{LockRow}
use Rattle.st_rules.specs.declared.locks.Waiter.{Waiter}
use Rattle.st_rules.specs.declared.sessions.Session.{Session}
use Rattle.st_rules.specs.declared.sessions.SessionState.{SessionState}
use Rattle.st_rules.specs.declared.sessions.SessionState.TheVariants.{Live, Ended}
use Rattle.st_rules.specs.Authority.{may_ack}
use Rattle.st_rules.specs.Keys.{client, server_node}
use Rattle.st_rules.specs.Server.{ServerState, ServerTurn}
use Rattle.st_rules.specs.Sessions.{Sessions, is_live, session_of}
use Rattle.st_lemmas.specs.Lists.{Has}
use Rattle.st_third.specs.Server.{server_step}

-- a client's session lives
pub record HasSession (v : Sessions) (c : ClientId) : Type 0 where
  pub session : Session
  pub is : session_of v c ≡ Some session
  pub live : is_live session ≡ true

-- a body that doesn't welcome
abbrev pub NoWelcome : Body → Type 0
NoWelcome bodies.Welcome = ⊥
NoWelcome b = Unit {0}

-- the reply that a session keeps doesn't
abbrev pub KeepsNoWelcome : SessionState → Type 0
KeepsNoWelcome (Live last (Some b)) = NoWelcome b
KeepsNoWelcome (Live last None) = Unit {0}
KeepsNoWelcome Ended = Unit {0}

-- Whoever has a row or a wait has a session that lives; and no session keeps a welcome.
pub record IsServing (n : ServerState) : Type 0 where
  pub rows : (r : LockRow) → Has r n.locks.rows → HasSession n.sessions r.client
  pub waits : (w : Waiter) → Has w n.locks.waiters → HasSession n.sessions w.client
  pub kept : (x : Session) → Has x n.sessions.rows → KeepsNoWelcome x.state

-- Whose life a session has: the session's from before, or that of the message that comes, which is the client's.
pub data LifeFrom (n : ServerState) (i : ServerInput) (c : ClientId) (life : ℕ) : Type 0 where
  WasThere : (x : Session) → session_of n.sessions c ≡ Some x → x.life.0 ≡ life → LifeFrom n i c life
  HasCome : (m : Message) → i ≡ Control m → m.header.from ≡ c.0 → m.header.life ≡ life → LifeFrom n i c life

-- the greeting that a welcome answers
pub record Answers (i : ServerInput) (m : Message) : Type 0 where
  pub greeting : Message
  pub is : i ≡ Control greeting
  pub hello : greeting.body ≡ bodies.Hello
  pub from : m.header.to ≡ greeting.header.from
  pub life : m.header.life ≡ greeting.header.life

-- A message of a server is from it and of its epoch; a welcome answers a greeting.
pub record SaysRight (n : ServerState) (i : ServerInput) (m : Message) : Type 0 where
  pub epoch : m.header.epoch ≡ n.stable.epoch.0
  pub from : m.header.from ≡ server_node n.id
  pub welcome : m.body ≡ bodies.Welcome → Answers i m

-- Clients that have nothing.

-- The server has neither a row nor a wait of the client, and no timer; and the client's session lives, if it has one.
pub record HasNothing (n : ServerState) (c : ClientId) : Type 0 where
  pub rows : (r : LockRow) → Has r n.locks.rows → r.client.0 ≡ c.0 → ⊥
  pub waits : (w : Waiter) → Has w n.locks.waiters → w.client.0 ≡ c.0 → ⊥
  pub free : may_ack n.authority c ≡ true
  pub live : (x : Session) → session_of n.sessions c ≡ Some x → is_live x ≡ true

-- a body that asks for nothing
abbrev pub IsCalm : Body → Type 0
IsCalm bodies.Hello = Unit {0}
IsCalm (bodies.DemandSeen ino g) = Unit {0}
IsCalm b = ⊥

-- A message is past if it is of an earlier epoch, or of an earlier life than the client's session.
abbrev pub IsPast : ServerState → ClientId → Header → Type 0
IsPast n c h =
    (h.epoch < n.stable.epoch.0) ⊎ ((h.epoch ≡ n.stable.epoch.0) × ((x : Session) × (session_of n.sessions c ≡ Some x) × (h.life < x.life.0)))

-- a message of a client that asks for nothing, or is past
abbrev pub IsHarmless : ServerState → ClientId → Message → Type 0
IsHarmless n c m = (IsCalm m.body) ⊎ (IsPast n c m.header)

-- who is welcomed has a session of the greeting's life
abbrev pub IsWelcomedTo : ServerState → Message → Type 0
IsWelcomedTo n m = (y : Session) × (session_of n.sessions (client m.header.to) ≡ Some y) × (y.life.0 ≡ m.header.life)

-- What holds of a server in a step that began in the state n with this input.
pub record ServesOn (n : ServerState) (i : ServerInput) (t : ServerTurn) : Type 0 where
  pub id : t.state.id ≡ n.id
  pub epoch : t.state.stable.epoch ≡ n.stable.epoch
  pub serving : IsServing t.state
  pub lives : (c : ClientId) (y : Session) → session_of t.state.sessions c ≡ Some y → LifeFrom n i c y.life.0
  pub said : (m : Message) → Has (outputs.Send m) t.out → SaysRight n i m
  pub welcomed : (m : Message) → Has (outputs.Send m) t.out → m.body ≡ bodies.Welcome → IsWelcomedTo t.state m

-- It holds after each step of a server of any form, if the server served its clients before.
abbrev pub ServersServeOn : Type 0
ServersServeOn =
    (form : ℕ) (n : ServerState) (now : Stamp) (i : ServerInput) → IsServing n → ServesOn n i (server_step form n now i)

-- the session of the client is of a life no lower than before
abbrev pub LivesOn : ServerState → ClientId → ServerState → Type 0
LivesOn n c v = (x : Session) → session_of n.sessions c ≡ Some x → (y : Session) × (session_of v.sessions c ≡ Some y) × (x.life.0 ≤ y.life.0)

-- what a client says to the server does no harm
abbrev pub ComesHarmlessly : ServerState → ServerInput → ClientId → Type 0
ComesHarmlessly n i c = (m : Message) → i ≡ Control m → m.header.from ≡ c.0 → IsHarmless n c m

-- In a step, a client that has nothing still has nothing if what it says does no harm; and its session lives on.
abbrev pub ServersStayQuiet : Type 0
ServersStayQuiet =
    (form : ℕ) (n : ServerState) (now : Stamp) (i : ServerInput) (c : ClientId) → ComesHarmlessly n i c → HasNothing n c →
    (HasNothing (server_step form n now i).state c) × LivesOn n c (server_step form n now i).state

-- it reasserts locks in this life
pub record Reasserts (i : ServerInput) (c : ClientId) (life : ℕ) : Type 0 where
  pub message : Message
  pub is : i ≡ Control message
  pub from : message.header.from ≡ c.0
  pub of_life : message.header.life ≡ life
  pub rows : List (ℕ × GrantNo × Mode)
  pub asks : message.body ≡ bodies.Reassert rows

-- the client's session isn't of this life
abbrev pub NotOfLife : ServerState → ClientId → ℕ → Type 0
NotOfLife n c life = (x : Session) → session_of n.sessions c ≡ Some x → x.life.0 ≡ life → ⊥

-- A session that begins in a step begins with nothing, unless the client reasserts locks.
abbrev pub SessionsBeginWithNothing : Type 0
SessionsBeginWithNothing =
    (form : ℕ) (n : ServerState) (now : Stamp) (i : ServerInput) (c : ClientId) (life : ℕ) → IsServing n → NotOfLife n c life →
    (NotOfLife (server_step form n now i).state c life) ⊎ ((HasNothing (server_step form n now i).state c) ⊎ (Reasserts i c life))
