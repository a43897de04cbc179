-- History: what only promises need, as a record beside the world that the same events move. No code keeps it.
use Rattle.std.specs.Prelude.{◌≡◌, ℕ, Bool, ◌&&◌, not, ◌==◌, List, [], ◌∷◌, ◌++◌, length, find, filter, map, Option, Some, None, option_map, unwrap_or, Result, Ok, Err, ⊤}
use Rattle.st_base.specs.declared.ids.ClientId.{ClientId}
use Rattle.st_base.specs.declared.ids.ServerId.{ServerId}
use Rattle.st_base.specs.declared.ids.Life.{Life}
use Rattle.st_base.specs.declared.ids.Epoch.{Epoch}
use Rattle.st_base.specs.declared.ids.GrantNo.{GrantNo}
use Rattle.st_base.specs.declared.ids.FileId.{FileId}
use Rattle.st_base.specs.declared.ids.Stamp.{Stamp}
use Rattle.st_base.specs.declared.ids.NodeId.TheVariants as nodes
use Rattle.st_base.specs.declared.mode.Mode.TheVariants as modes
use Rattle.st_base.specs.Mode.{covers}
use Rattle.st_messages.specs.declared.event.Event.{Event}
use Rattle.st_messages.specs.declared.event.Event.TheVariants as events
use Rattle.st_rules.specs.declared.client.HeldLock.{HeldLock}
use Rattle.st_rules.specs.declared.locks.LockRow.{LockRow}
use Rattle.st_rules.specs.declared.observation.Observation.{Observation}
use Rattle.st_rules.specs.declared.observation.Observation.TheVariants as seen
use Rattle.st_rules.specs.declared.observation.WorldRefusal.{WorldRefusal}
use Rattle.st_rules.specs.Keys.{same_client, same_server}
use Rattle.st_rules.specs.ClientLocks.{is_lock_on}
use Rattle.st_rules.specs.ClientState.{ClientSession, Association}
use Rattle.st_rules.specs.Client.{association_with}
use Rattle.st_rules.specs.Server.{ServerNode}
use Rattle.st_rules.specs.World.{World, WorldClient, site_of, node_of, clock_of, all_clients}
use Rattle.st_rules.specs.Events.{WorldTurn, world_step, present_life}
use Rattle.st_rules.specs.Run.{Run, run}

-- A timer that runs: its client's clock when it started, and how many messages had been sent before the event that started it.
pub record TimerStart : Type 0 where
  pub server : ServerId
  pub client : ClientId
  pub clock : Stamp
  pub sent : ℕ

-- The grace with which a server's epoch began: all clients' clocks at its start, in the order of clients.
pub record GraceStart : Type 0 where
  pub server : ServerId
  pub clocks : List Stamp

-- A lease: the epoch whose reply dated it last, and its end.
pub record LeaseDate : Type 0 where
  pub client : ClientId
  pub server : ServerId
  pub life : Life
  pub epoch : Epoch
  pub end : Stamp

-- An entry of the log: its file, and the grant number of the lock under which it was accepted.
pub record EntryGrant : Type 0 where
  pub file : FileId
  pub g : GrantNo

-- The history of a run: the timers that run, the graces of running servers, every lease that was dated, and the grant of each entry
-- of the log, in its order.
pub record History : Type 0 where
  pub timers : List TimerStart
  pub graces : List GraceStart
  pub dates : List LeaseDate
  pub grants : List EntryGrant

-- before the first event
abbrev pub no_history : History
no_history = record { timers = []; graces = []; dates = []; grants = [] }

-- What a client has of a server.

-- of a client that is there
abbrev pub association_at : ServerId → Option WorldClient → Option Association
association_at s None = None
association_at s (Some site) = association_with site.node.state s

-- what a client of the world has of a server
abbrev pub association_of : World → ClientId → ServerId → Option Association
association_of w c s = association_at s (site_of w c)

-- the locks of a session
abbrev pub locks_of_session : Option ClientSession → List HeldLock
locks_of_session None = []
locks_of_session (Some s) = s.locks.rows

-- the locks that a client has listed of a server
abbrev pub locks_at : Option Association → List HeldLock
locks_at None = []
locks_at (Some a) = locks_of_session a.session

-- Timers.

-- a timer of a client at a server
abbrev pub is_timer_of : ServerId → ClientId → TimerStart → Bool
is_timer_of s c t = same_server t.server s && same_client t.client c

-- a timer at a server
abbrev pub is_timer_at : ServerId → TimerStart → Bool
is_timer_at s t = same_server t.server s

-- a client's clock
abbrev pub client_clock : World → ClientId → Stamp
client_clock w c = clock_of w (nodes.Client c)

-- a timer that starts in an event, from a world
abbrev pub timer_start : World → ServerId → ClientId → TimerStart
timer_start w s c = record { server = s; client = c; clock = client_clock w c; sent = length w.net.messages }

-- with this timer
abbrev pub with_timer : TimerStart → History → History
with_timer t h = record h { timers = h.timers ++ t ∷ [] }

-- a timer is over
abbrev pub without_timer : ServerId → ClientId → History → History
without_timer s c h = record h { timers = filter (λ t. not (is_timer_of s c t)) h.timers }

-- Graces.

-- a grace of a server
abbrev pub is_grace_at : ServerId → GraceStart → Bool
is_grace_at s g = same_server g.server s

-- all clients' clocks, in the order of clients
abbrev pub client_clocks : World → List Stamp
client_clocks w = map (client_clock w) (all_clients w)

-- a grace that begins in an event, from a world
abbrev pub grace_begun : World → ServerId → GraceStart
grace_begun w s = record { server = s; clocks = client_clocks w }

-- with this grace
abbrev pub with_grace : GraceStart → History → History
with_grace g h = record h { graces = h.graces ++ g ∷ [] }

-- Leases.

-- the epoch of a client's session
abbrev pub epoch_at_session : Option ClientSession → Epoch
epoch_at_session None = record { 0 = 0 }
epoch_at_session (Some s) = s.epoch

-- the epoch of a client's session at a server
abbrev pub epoch_at : Option Association → Epoch
epoch_at None = record { 0 = 0 }
epoch_at (Some a) = epoch_at_session a.session

-- a lease that was dated by an event that left this world
abbrev pub lease_date : World → ClientId → ServerId → Stamp → LeaseDate
lease_date w c s end = record { client = c; server = s; life = present_life w c s; epoch = epoch_at (association_of w c s); end = end }

-- a lease of the same life
abbrev pub is_date_of : LeaseDate → LeaseDate → Bool
is_date_of d e = same_client e.client d.client && (same_server e.server d.server && (e.life.0 == d.life.0))

-- with this date in place of the lease's older one
abbrev pub with_date : LeaseDate → History → History
with_date d h = record h { dates = filter (λ e. not (is_date_of d e)) h.dates ++ d ∷ [] }

-- Grants: a write or a patch is accepted under its client's exclusive lock on the file, and a cut under the exclusive row that the
-- file's server has of it, as the event left them.

-- an exclusive lock on a file
abbrev pub is_exclusive_on : ℕ → HeldLock → Bool
is_exclusive_on ino l = is_lock_on ino l && covers l.mode modes.X

-- an exclusive row on a file
abbrev pub is_exclusive_row : ℕ → LockRow → Bool
is_exclusive_row ino r = (r.ino == ino) && covers r.mode modes.X

-- a lock's grant number
abbrev pub grant_of_lock : HeldLock → GrantNo
grant_of_lock l = l.g

-- a row's grant number
abbrev pub grant_of_row : LockRow → GrantNo
grant_of_row r = r.g

-- the rows of a server that is there
abbrev pub rows_at : Option ServerNode → List LockRow
rows_at None = []
rows_at (Some node) = node.state.locks.rows

-- the grant number that was found, or 0
abbrev pub grant_or_zero : Option GrantNo → GrantNo
grant_or_zero g = unwrap_or g (record { 0 = 0 })

-- the grant number of a client's exclusive lock on a file, or 0
abbrev pub lock_grant : World → ClientId → FileId → GrantNo
lock_grant w c f = grant_or_zero (option_map grant_of_lock (find (is_exclusive_on f.ino) (locks_at (association_of w c f.server))))

-- the grant number of the exclusive row on a file at its server, or 0
abbrev pub row_grant : World → FileId → GrantNo
row_grant w f = grant_or_zero (option_map grant_of_row (find (is_exclusive_row f.ino) (rows_at (node_of w f.server))))

-- with the grant of one more entry
abbrev pub with_grant : FileId → GrantNo → History → History
with_grant f g h = record h { grants = h.grants ++ record { file = f; g = g } ∷ [] }

-- What is observed moves the history: a timer starts with a suspicion and ends with a theft, a lease is dated, and an entry joins
-- the log under its grant.
unfoldable pub recall : World → World → History → Observation → History
recall before after h (seen.Suspected s c start) = with_timer (timer_start before s c) h
recall before after h (seen.Stolen s c life) = without_timer s c h
recall before after h (seen.Leased c s end) = with_date (lease_date after c s end) h
recall before after h (seen.Wrote index c f p bytes) = with_grant f (lock_grant after c f) h
recall before after h (seen.Patched index c f p at bytes) = with_grant f (lock_grant after c f) h
recall before after h (seen.CutAt index f p) = with_grant f (row_grant after f) h
recall before after h o = h

-- what was observed at an event, in order
unfoldable pub recall_all : World → World → List Observation → History → History
recall_all before after [] h = h
recall_all before after (o ∷ os) h = recall_all before after os (recall before after h o)

-- a server that stops has no timers and no grace
abbrev pub without_server : ServerId → History → History
without_server s h = record h { timers = filter (λ t. not (is_timer_at s t)) h.timers; graces = filter (λ g. not (is_grace_at s g)) h.graces }

-- by the event, from a world: a server that starts begins its epoch with a grace
unfoldable pub remember : World → Event → History → History
remember before (events.Crash (nodes.Server s)) h = without_server s h
remember before (events.Start (nodes.Server s)) h = with_grace (grace_begun before s) h
remember before e h = h

-- the history after an event, by the event and by what was observed
abbrev pub history_after : World → Event → WorldTurn → History → History
history_after w e sc h = recall_all w sc.world sc.seen (remember w e h)

-- A traced run: the world beside its history.
pub record Traced : Type 0 where
  pub world : World
  pub history : History

-- before the first event
abbrev pub traced : World → Traced
traced w = record { world = w; history = no_history }

-- a run, and the history that it leaves
pub record TracedRun : Type 0 where
  pub run : Run
  pub history : History

-- where a traced run led
abbrev pub led_to : TracedRun → Traced
led_to r = record { world = r.run.world; history = r.history }

-- a traced run without events
abbrev pub no_traced : Traced → Option WorldRefusal → TracedRun
no_traced t refused = record { run = record { world = t.world; seen = []; refused = refused }; history = t.history }

-- the world and the history after an event
abbrev pub traced_after : Event → Traced → WorldTurn → Traced
traced_after e t sc = record { world = sc.world; history = history_after t.world e sc t.history }

-- a traced run after what was observed at its first event
abbrev pub traced_behind : List Observation → TracedRun → TracedRun
traced_behind os r = record { run = record { world = r.run.world; seen = os ∷ r.run.seen; refused = r.run.refused }; history = r.history }

-- the rest of a traced run, after its first event
unfoldable pub trace_on : (Traced → TracedRun) → Event → Traced → Result WorldTurn WorldRefusal → TracedRun
trace_on rest e t (Err r) = no_traced t (Some r)
trace_on rest e t (Ok sc) = traced_behind sc.seen (rest (traced_after e t sc))

-- Traced run
unfoldable pub trace : List Event → Traced → TracedRun
trace [] t = no_traced t None
trace (e ∷ es) t = trace_on (trace es) e t (world_step t.world e)

-- the run of a traced run is the run
abbrev pub TracedRunIsRun : Type 0
TracedRunIsRun = (es : List Event) (t : Traced) → (trace es t).run ≡ run es t.world

-- opens all of this file
unfoldable pub history_open : ⊤
unfolding recall recall_all remember trace_on trace
history_open = tt
