-- What holds of one client at a server that runs.
use Rattle.std.specs.Prelude.{◌≡◌, ℕ, ◌+◌, ◌<◌, ◌≤◌, Bool, true, false, List, [], ◌∷◌, Option, Some, None, is_some}
use Rattle.st_base.specs.declared.ids.ClientId.{ClientId}
use Rattle.st_base.specs.declared.ids.Stamp.{Stamp}
use Rattle.st_base.specs.Mode.{number_of}
use Rattle.st_messages.specs.declared.message.Body.{Body}
use Rattle.st_messages.specs.declared.output.Output.{Output}
use Rattle.st_messages.specs.declared.output.Output.TheVariants as outputs
use Rattle.st_rules.specs.declared.locks.Waiter.{Waiter}
use Rattle.st_rules.specs.declared.sessions.Session.{Session}
use Rattle.st_rules.specs.declared.sessions.SessionState.{SessionState}
use Rattle.st_rules.specs.declared.sessions.SessionState.TheVariants.{Live, Ended}
use Rattle.st_rules.specs.declared.authority.Suspect.{Suspect}
use Rattle.st_rules.specs.Keys.{client}
use Rattle.st_rules.specs.Locks as locks
use Rattle.st_rules.specs.Sessions as sessions
use Rattle.st_rules.specs.Authority as authority
use Rattle.st_rules.specs.Grace as grace
use Rattle.st_rules.specs.Grace.{Grace}
use Rattle.st_rules.specs.Server.{ServerState, ServerTurn, crash, next_epoch}
use Rattle.st_protocol.specs.Assoc as net
use Rattle.st_protocol.specs.Assoc.{Msg, msg, In, Assoc}
use Rattle.st_lemmas.specs.Lists.{Has}
use Rattle.st_laws_refine.specs.Views.Messages.{shown, Shows, Shown}
use Rattle.st_laws_refine.specs.Views.Halves.{Ghost, half, row_view, row_or}

-- the association, of both halves
abbrev pub at : net.Client → ClientId → Stamp → ServerState → Ghost → Assoc
at cl c now n x = record { c = cl; s = half c now n x; net = x.net }

-- a timer or a grace that runs began then
abbrev pub TimerIs : Option Suspect → ℕ → Type 0
TimerIs None start = Unit {0}
TimerIs (Some s) start = s.start.0 ≡ start

-- a grace that runs began then
abbrev pub GraceIs : ℕ → Option Grace → ℕ → Type 0
GraceIs wait None start = Unit {0}
GraceIs wait (Some g) start = record { wait : g.wait ≡ wait; start : g.start.0 ≡ start }

-- what is sent to this client is in the network
abbrev pub SaidOne : ℕ → Output → List Msg → Type 0
SaidOne d (outputs.Send m) N = m.header.to ≡ d → Shown m N
SaidOne d (outputs.Submit n a w) N = Unit {0}
SaidOne d (outputs.Answer o a) N = Unit {0}
SaidOne d (outputs.Note n) N = Unit {0}

-- all that is sent to this client is in the network
abbrev pub Said : ℕ → List Output → List Msg → Type 0
Said d [] N = Unit {0}
Said d (o ∷ os) N = record { one : SaidOne d o N; rest : Said d os N }

-- What holds of this client at a server that runs.

-- a living session of this life
abbrev pub ServesLife : ℕ → Option Session → Type 0
ServesLife life None = ⊥
ServesLife life (Some s) = record { live : sessions.is_live s ≡ true; is : s.life.0 ≡ life }

-- a row has a mode, and a living session of its life
abbrev pub RowOk : Option Session → Option net.Row → Type 0
RowOk s None = Unit {0}
RowOk s (Some r) = record { served : ServesLife r.life s; some : 1 ≤ r.mode }

-- a plain request of this life and epoch was sent
pub record Asked (life epoch : ℕ) (N : List Msg) : Type 0 where
  pub stamp : ℕ
  pub is : In (msg life epoch stamp net.Plain) N

-- a waiter of a living session, above its row
pub record WaitOk (s : Option Session) (timed : Bool) (row : Option net.Row) (epoch : ℕ) (N : List Msg) (w : Waiter) : Type 0 where
  pub born : 1 ≤ w.life.0
  pub served : ServesLife w.life.0 s
  pub free : timed ≡ false
  pub higher : (row_or row).mode < number_of w.mode
  pub asked : Asked w.life.0 epoch N

-- bodies that a kept reply may have
abbrev pub AllKept : List net.Body → Type 0
AllKept [] = Unit {0}
AllKept (b ∷ bs) = record { one : net.of_kept b ≡ true; rest : AllKept bs }

-- a kept reply was sent once, at some stamp
pub record KeptAt (life epoch number : ℕ) (reply : Body) (N : List Msg) : Type 0 where
  pub old : ℕ
  pub shows : Shows life epoch old (shown number reply) N
  pub all : AllKept (shown number reply)

-- the kept reply of a session
abbrev pub KeptState : ℕ → ℕ → SessionState → List Msg → Type 0
KeptState life epoch (Live last None) N = Unit {0}
KeptState life epoch (Live last (Some reply)) N = KeptAt life epoch last reply N
KeptState life epoch Ended N = Unit {0}

-- the kept reply, if there is a session
abbrev pub Kept : ℕ → Option Session → List Msg → Type 0
Kept epoch None N = Unit {0}
Kept epoch (Some s) N = KeptState s.life.0 epoch s.state N

-- in grace no session was ended
abbrev pub NotEnded : Option Session → Type 0
NotEnded None = Unit {0}
NotEnded (Some s) = sessions.is_live s ≡ true

-- a wait of a client at a server is in order
abbrev pub WaitSound : ℕ → ServerState → List Msg → Waiter → Type 0
WaitSound d n N w =
    WaitOk (sessions.session_of n.sessions (client d)) (is_some (authority.suspect_of n.authority (client d)))
    (row_view (locks.row_of n.locks (client d) w.ino)) n.stable.epoch.0 N w

-- what holds between two steps
pub record Sound (d wait : ℕ) (now : Stamp) (n : ServerState) (x : Ghost) : Type 0 where
  pub lepoch : n.locks.epoch ≡ n.stable.epoch
  pub sepoch : n.sessions.epoch ≡ n.stable.epoch
  pub await : n.authority.wait ≡ wait
  pub gstart : GraceIs wait n.grace x.gstart
  pub begun : x.gstart ≤ now.0
  pub start : TimerIs (authority.suspect_of n.authority (client d)) x.start
  pub once : (s : Suspect) → Has s n.authority.suspects → s.client.0 ≡ d → authority.suspect_of n.authority (client d) ≡ Some s
  pub top : x.top ≤ locks.first_after n.locks.epoch + n.locks.grants
  -- in grace nothing was granted
  pub fresh : grace.is_on n.grace now ≡ true → x.top < locks.first_after n.stable.epoch
  pub timer : is_some (authority.suspect_of n.authority (client d)) ≡ true → x.gstart ≤ x.start
  pub graced : grace.is_on n.grace now ≡ true → NotEnded (sessions.session_of n.sessions (client d))
  pub rows : (i : ℕ) → RowOk (sessions.session_of n.sessions (client d)) (row_view (locks.row_of n.locks (client d) i))
  pub waits : (w : Waiter) → Has w n.locks.waiters → w.client.0 ≡ d → WaitSound d n x.net w
  pub kept : Kept n.stable.epoch.0 (sessions.session_of n.sessions (client d)) x.net

-- within a step
pub record Ready (d wait : ℕ) (now : Stamp) (t : ServerTurn) (x : Ghost) : Type 0 where
  pub said : Said d t.out x.net
  pub sound : Sound d wait now t.state x

-- What holds of a client at a server that is down: nothing but the stable part is left, and the grants of the next epoch are above all that this client was
-- given.
pub record Stopped (wait : ℕ) (n : ServerState) (x : Ghost) : Type 0 where
  pub emptied : crash n ≡ n
  pub top : x.top < locks.first_after (next_epoch n.stable.epoch)

-- what holds of a client at a server, whether the server runs or not
abbrev pub StandsAt : ℕ → ℕ → Stamp → Bool → ServerState → Ghost → Type 0
StandsAt d wait now true n x = Sound d wait now n x
StandsAt d wait now false n x = Stopped wait n x
