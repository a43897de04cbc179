-- What is promised about locks that are waited for. Under one premise, that a running server takes a tick at least once in a gap of its own clock:
-- demands are sent again and answered, or their clients are suspected; suspects are robbed; and no lock is kept for long from the client that waits
-- first for it. Under none: for which reasons a wait ends, and that grace ends.
use Rattle.std.specs.Prelude.{◌≡◌, ◌⊎◌, ℕ, ◌+◌, ◌*◌, ◌≤◌, ◌<◌, Bool, true, false, ◌&&◌, not, ◌==◌, if◌then◌else◌, List, [], ◌∷◌, ◌++◌, Option, Some, None}
use Rattle.std.specs.List.{list_all}
use Rattle.st_base.specs.declared.config.Config.{Config}
use Rattle.st_base.specs.declared.ids.ClientId.{ClientId}
use Rattle.st_base.specs.declared.ids.ServerId.{ServerId}
use Rattle.st_base.specs.declared.ids.Stamp.{Stamp}
use Rattle.st_base.specs.declared.ids.NodeId.TheVariants as nodes
use Rattle.st_messages.specs.declared.event.Event.{Event}
use Rattle.st_messages.specs.declared.event.Event.TheVariants as events
use Rattle.st_messages.specs.declared.message.Body.{Body}
use Rattle.st_messages.specs.declared.message.Message.{Message}
use Rattle.st_rules.specs.declared.authority.Suspect.{Suspect}
use Rattle.st_rules.specs.declared.locks.LockRow.{LockRow}
use Rattle.st_rules.specs.declared.locks.RowDemand.{RowDemand}
use Rattle.st_rules.specs.declared.locks.Waiter.{Waiter}
use Rattle.st_rules.specs.declared.world.SentMessage.{SentMessage}
use Rattle.st_rules.specs.Authority.{may_ack}
use Rattle.st_rules.specs.Grace as grace
use Rattle.st_rules.specs.Grace.{Grace}
use Rattle.st_rules.specs.History.{traced}
use Rattle.st_rules.specs.Keys.{client, same_server, server_node}
use Rattle.st_rules.specs.Leases.{steal_wait}
use Rattle.st_rules.specs.Locks.{row_of, stands_against}
use Rattle.st_rules.specs.Safety.{IsHead, Promise, Step, Throughout, is_event, steps}
use Rattle.st_rules.specs.Server.{ServerNode, ServerState}
use Rattle.st_rules.specs.World.{World, clock_of, fresh_world, message_of, node_of}
use Rattle.st_lemmas.specs.Lists.{Has}
use Rattle.st_laws_waits.specs.Bounds.{AllBlocked, AllDemanded}
use Rattle.st_laws_waits.specs.Chase.{IsFirst, answers_for}
use Rattle.st_laws_waits.specs.Ends.{GoesOnOrEnds, IsWaiting, StaysOrEnds}

-- Ticks.

-- an event at which the server counts as ticked: a tick of it, or its start
abbrev pub ticks_at : ServerId → Event → Bool
ticks_at s (events.Tick (nodes.Server t)) = same_server t s
ticks_at s (events.Start (nodes.Server t)) = same_server t s
ticks_at s e = false

-- a server's clock
abbrev pub server_clock : ServerId → World → ℕ
server_clock s w = (clock_of w (nodes.Server s)).0

-- when the server ticked last, after this step
abbrev pub ticked : ServerId → ℕ → Step → ℕ
ticked s last x = if ticks_at s x.event then server_clock s x.after.world else last

-- when it ticked last, after these steps
unfoldable pub last_tick : ServerId → ℕ → List Step → ℕ
last_tick s last [] = last
last_tick s last (x ∷ xs) = last_tick s (ticked s last x) xs

-- a server's clock at the start of a run
abbrev pub first_clock : ServerId → ℕ
first_clock s = 1000 * s.0

-- The server ticks in time: while it runs its clock is at most this gap past its last tick, or past its start.
abbrev pub TicksInTime : ServerId → ℕ → Promise
TicksInTime s gap past x =
    (node : ServerNode) → node_of x.after.world s ≡ Some node → node.running ≡ true →
    server_clock s x.after.world ≤ last_tick s (first_clock s) (past ++ x ∷ []) + gap

-- Bounds on demands and on suspects.

-- grace is on, or was over less than a gap ago
abbrev pub GraceNear : ℕ → ℕ → Option Grace → Type 0
GraceNear gap clock None = ⊥
GraceNear gap clock (Some g) = clock < g.start.0 + g.wait + gap

-- For a server that runs, at this clock: a demand of a client that isn't a suspect waits for its answer less than the demand time and a gap; a suspect is one
-- for less than the steal wait and a gap; each row in the way of a first waiter, of a client that isn't a suspect, is demanded; and each first waiter has such
-- a row in its way, except for grace.
pub record InBounds (k : Config) (gap clock : ℕ) (n : ServerState) : Type 0 where
  pub answered : (r : LockRow) (d : RowDemand) (t : Stamp) → Has r n.locks.rows → r.demand ≡ Some d → d.since ≡ Some t →
      may_ack n.authority r.client ≡ true → clock < t.0 + k.demand + gap
  pub robbed : (x : Suspect) → Has x n.authority.suspects → clock < x.start.0 + steal_wait k + gap
  pub demanded : AllDemanded n.authority n.locks
  pub blocked : GraceNear gap clock n.grace ⊎ AllBlocked n.locks

-- so it is after every event
abbrev pub DemandsAreAnswered : Config → ServerId → ℕ → Promise
DemandsAreAnswered k s gap past x =
    (node : ServerNode) → node_of x.after.world s ≡ Some node → node.running ≡ true → InBounds k gap (server_clock s x.after.world) node.state

-- Waits.

-- the server runs, and the wait is the first of its file there
pub record WaitsFirst (s : ServerId) (w : Waiter) (v : World) : Type 0 where
  pub node : ServerNode
  pub is : node_of v s ≡ Some node
  pub running : node.running ≡ true
  pub first : IsFirst w node.state.locks

-- the server is out of grace
abbrev pub OutOfGrace : ServerId → World → Type 0
OutOfGrace s v = (node : ServerNode) → node_of v s ≡ Some node → grace.is_on node.state.grace (clock_of v (nodes.Server s)) ≡ false

-- a body that answers a demand on this row of the file, if there is one
abbrev pub answers_row : ℕ → Body → Option LockRow → Bool
answers_row ino body None = false
answers_row ino body (Some r) = answers_for ino r.g body

-- the row that a client has of a file at a server that is there
abbrev pub row_at : Option ServerNode → ClientId → ℕ → Option LockRow
row_at None c ino = None
row_at (Some node) c ino = row_of node.state.locks c ino

-- A message of another client to the server that answers a demand on the wait's file: the demand was seen, or the lock is released, under
-- the grant number of the row that this client has there.
abbrev pub is_answer : ServerId → Waiter → World → Message → Bool
is_answer s w v m =
    (m.header.to == server_node s) && (not (m.header.from == w.client.0) && answers_row w.ino m.body (row_at (node_of v s) (client m.header.from) w.ino))

-- a message that is there
abbrev pub answers_in : ServerId → Waiter → World → Option SentMessage → Bool
answers_in s w v None = false
answers_in s w v (Some m) = is_answer s w v m.message

-- an event that delivers one
abbrev pub brings_answer : ServerId → Waiter → World → Event → Bool
brings_answer s w v (events.Deliver n) = answers_in s w v (message_of v n)
brings_answer s w v e = false

-- the wait is the first of its file from one moment to another
abbrev pub FirstFrom : ServerId → Waiter → Step → List Step → Type 0
FirstFrom s w i during = (y : Step) → Has y (i ∷ during) → WaitsFirst s w y.after.world

-- A wait that is the first of its file from one moment to another, the first of them out of grace.
pub record FirstSince (s : ServerId) (w : Waiter) (i : Step) (during : List Step) : Type 0 where
  pub out : OutOfGrace s i.after.world
  pub first : FirstFrom s w i during

-- no other client answers for the file at these steps
abbrev pub NoneAnswers : ServerId → Waiter → List Step → Type 0
NoneAnswers s w during = (y : Step) → Has y during → brings_answer s w y.before.world y.event ≡ false

-- Demands are sent again: while a wait is the first of its file, the demand on each row in its way, of a client that isn't a suspect, was sent less than a
-- retry and a gap ago; or the wait is the first since no more than a gap.
abbrev pub DemandsAreRepeated : Config → ServerId → ℕ → Promise
DemandsAreRepeated k s gap past x =
    (before : List Step) (i : Step) (during : List Step) (w : Waiter) → past ++ x ∷ [] ≡ before ++ i ∷ during → FirstSince s w i during →
    (node : ServerNode) → node_of x.after.world s ≡ Some node → node.running ≡ true →
    (r : LockRow) (d : RowDemand) → Has r node.state.locks.rows → stands_against w.client w.ino w.mode r ≡ true →
    may_ack node.state.authority r.client ≡ true → r.demand ≡ Some d →
    (server_clock s x.after.world < d.sent.0 + k.retry + gap) ⊎ (server_clock s x.after.world ≤ server_clock s i.after.world + gap)

-- Locks come back: while a wait is the first of its file and no other client answers for the file, at most a retry, the demand time, the
-- steal wait and three gaps go by, less three ticks, by the server's clock. So this long after the last answer it is no longer the first.
abbrev pub LocksComeBack : Config → ServerId → ℕ → Promise
LocksComeBack k s gap past x =
    (before : List Step) (i : Step) (during : List Step) (w : Waiter) → past ++ x ∷ [] ≡ before ++ i ∷ during → FirstSince s w i during →
    NoneAnswers s w during →
    server_clock s x.after.world + 3 ≤ server_clock s i.after.world + k.retry + k.demand + steal_wait k + 3 * gap

-- Locks come back after a start too: if the wait is the first of its file from any moment on, in grace too, the bound is one steal wait more, less
-- one tick.
abbrev pub LocksComeBackAfterStarts : Config → ServerId → ℕ → Promise
LocksComeBackAfterStarts k s gap past x =
    (before : List Step) (i : Step) (during : List Step) (w : Waiter) → past ++ x ∷ [] ≡ before ++ i ∷ during → FirstFrom s w i during →
    NoneAnswers s w during →
    server_clock s x.after.world + 4 ≤ server_clock s i.after.world + steal_wait k + k.retry + k.demand + steal_wait k + 3 * gap

-- How waits and graces end.

-- the message, if it goes to this server
abbrev pub received_in : ServerId → Option SentMessage → Option Message
received_in s None = None
received_in s (Some m) = if m.message.header.to == server_node s then Some m.message else None

-- the message that an event brings to the server, if it brings one
abbrev pub received : ServerId → World → Event → Option Message
received s v (events.Deliver n) = received_in s (message_of v n)
received s v e = None

-- A wait ends for a reason. If it is the first of its file before a step of a server that runs before and after it, then one of these holds: it is so after
-- the step; it was granted; its client is suspected, greeted in a later life or asked for the file again; or the file was removed.
abbrev pub WaitsEndForAReason : Config → ServerId → Promise
WaitsEndForAReason k s past x =
    (w : Waiter) (old new : ServerNode) → node_of x.before.world s ≡ Some old → old.running ≡ true → IsFirst w old.state.locks →
    node_of x.after.world s ≡ Some new → new.running ≡ true →
    GoesOnOrEnds w (received s x.before.world x.event) old.state.stable.names new.state.authority new.state.locks

-- Every wait ends for a reason, the first of its file or not. If the server has it before a step and
-- runs before and after it, then it has it after the step; or it was granted; its client is
-- suspected, greeted in a later life or asked for the file in another mode; or the file was removed.
abbrev pub EveryWaitEndsForAReason : Config → ServerId → Promise
EveryWaitEndsForAReason k s past x =
    (w : Waiter) (old new : ServerNode) → node_of x.before.world s ≡ Some old → old.running ≡ true → IsWaiting w old.state.locks →
    node_of x.after.world s ≡ Some new → new.running ≡ true →
    StaysOrEnds w (received s x.before.world x.event) old.state.stable.names new.state.authority new.state.locks

-- the server runs
pub record Runs (s : ServerId) (v : World) : Type 0 where
  pub node : ServerNode
  pub is : node_of v s ≡ Some node
  pub running : node.running ≡ true

-- the server runs from one moment to another
abbrev pub RunsFrom : ServerId → Step → List Step → Type 0
RunsFrom s i during = (y : Step) → Has y (i ∷ during) → Runs s y.after.world

-- Grace ends: while a server runs from one moment on, it is in grace for less than the steal wait.
abbrev pub GraceEnds : Config → ServerId → Promise
GraceEnds k s past x =
    (before : List Step) (i : Step) (during : List Step) → past ++ x ∷ [] ≡ before ++ i ∷ during → RunsFrom s i during →
    (node : ServerNode) → node_of x.after.world s ≡ Some node → grace.is_on node.state.grace (clock_of x.after.world (nodes.Server s)) ≡ true →
    server_clock s x.after.world < server_clock s i.after.world + steal_wait k

-- What holds in every run, of every server.
abbrev pub InEveryRun : (Config → ServerId → Promise) → Type 0
InEveryRun promise =
    (k : Config) (clients servers disks blocks form : ℕ) (es : List Event) (s : ServerId) →
    IsHead k clients servers disks blocks form → list_all (is_event (clients + servers)) es ≡ true →
    Throughout (promise k s) [] (steps es (traced (fresh_world k clients servers disks blocks form)))

-- What holds in every run in which a server ticks in time.
abbrev pub InTickingRuns : (Config → ServerId → ℕ → Promise) → Type 0
InTickingRuns promise =
    (k : Config) (clients servers disks blocks form : ℕ) (es : List Event) (s : ServerId) (gap : ℕ) →
    IsHead k clients servers disks blocks form → list_all (is_event (clients + servers)) es ≡ true →
    Throughout (TicksInTime s gap) [] (steps es (traced (fresh_world k clients servers disks blocks form))) →
    Throughout (promise k s gap) [] (steps es (traced (fresh_world k clients servers disks blocks form)))
