-- What is promised about the third form, besides what is promised about every form.
use Rattle.std.specs.Prelude.{ℕ, ◌+◌, ◌-◌, Bool, true, false, ◌&&◌, ◌||◌, not, ◌==◌, nat_lt, nat_le, if◌then◌else◌, List, [], ◌∷◌, ◌++◌, length, find, filter, map, Option, Some, None, is_some, ◌≡◌, ⊤}
use Rattle.std.specs.List.{list_any, list_all}
use Rattle.st_base.specs.declared.config.Config.{Config}
use Rattle.st_base.specs.declared.ids.ClientId.{ClientId}
use Rattle.st_base.specs.declared.ids.GrantNo.{GrantNo}
use Rattle.st_base.specs.declared.ids.Life.{Life}
use Rattle.st_base.specs.declared.ids.ServerId.{ServerId}
use Rattle.st_base.specs.declared.ids.Stamp.{Stamp}
use Rattle.st_base.specs.declared.ids.NodeId.TheVariants as nodes
use Rattle.st_base.specs.declared.mode.Mode.{Mode}
use Rattle.st_base.specs.Mode.{covers}
use Rattle.st_base.specs.declared.names.NameAsk.{NameAsk}
use Rattle.st_messages.specs.declared.ask.Ask.{Ask}
use Rattle.st_messages.specs.declared.ask.Ask.TheVariants as asks
use Rattle.st_messages.specs.declared.answer.AppAnswer.{AppAnswer}
use Rattle.st_messages.specs.declared.answer.AppAnswer.TheVariants as answers
use Rattle.st_messages.specs.declared.event.Event.TheVariants as events
use Rattle.st_messages.specs.declared.message.Body.{Body}
use Rattle.st_messages.specs.declared.message.Body.TheVariants as bodies
use Rattle.st_messages.specs.declared.message.Header.{Header}
use Rattle.st_messages.specs.declared.message.Message.{Message}
use Rattle.st_rules.specs.declared.client.Operation.{Operation}
use Rattle.st_rules.specs.declared.log.LogEntry.{LogEntry}
use Rattle.st_rules.specs.declared.observation.Observation.TheVariants as plain_seen
use Rattle.st_rules.specs.declared.world.SentMessage.{SentMessage}
use Rattle.st_base.specs.Nodes.{SERVER_BASE}
use Rattle.st_rules.specs.Keys.{client, same_client, same_server, server_node}
use Rattle.st_rules.specs.ClientLocks as locks
use Rattle.st_rules.specs.ClientLocks.{LockCache}
use Rattle.st_rules.specs.ClientPages.{Store}
use Rattle.st_rules.specs.ClientPasses.{need}
use Rattle.st_rules.specs.ClientState.{Association, ClientSession, is_on, is_sent, is_sync}
use Rattle.st_rules.specs.Client.{is_any}
use Rattle.st_rules.specs.Events.{is_hard_fate}
use Rattle.st_rules.specs.FlatLog as log
use Rattle.st_rules.specs.Grace as grace
use Rattle.st_rules.specs.History.{association_of}
use Rattle.st_rules.specs.Locks as rows
use Rattle.st_rules.specs.Names.{Names}
use Rattle.st_rules.specs.Safety.{ask_of, is_after_ask, is_discarded, is_event, is_expired}
use Rattle.st_rules.specs.Safety as safety
use Rattle.st_rules.specs.Server.{ServerNode}
use Rattle.st_promises.specs.Faults as faults
use Rattle.st_promises.specs.NameAnswers as name_answers
use Rattle.st_promises.specs.NameAnswers.{Saying, is_of_names, is_saying}
use Rattle.st_rules.specs.World.{World, WorldClient, all_clients, all_servers, clock_of, life_with, message_of, node_of, same_node, server, site_of}
use Rattle.st_third.specs.declared.beside.Leave.{Leave}
use Rattle.st_third.specs.declared.event.ThirdEvent.{ThirdEvent}
use Rattle.st_third.specs.declared.event.ThirdEvent.TheVariants as third
use Rattle.st_third.specs.declared.limits.Limits.{Limits}
use Rattle.st_third.specs.declared.observation.ThirdObservation.{ThirdObservation}
use Rattle.st_third.specs.declared.observation.ThirdObservation.TheVariants as seen
use Rattle.st_third.specs.GiveBack.{is_stuck_lock}
use Rattle.st_third.specs.Limits.{IsHead}
use Rattle.st_third.specs.Room.{is_hopeful}
use Rattle.st_third.specs.State.{ClientBeside, is_active, is_operation_numbered}
use Rattle.st_third.specs.Steps.{ThirdStep, plain_event, plain_step, steps, third_traced}
use Rattle.st_third.specs.World.{ThirdWorld, beside_of, receiver_of, third_world}

-- A promise is about a step and the steps before it.
abbrev pub ThirdPromise : Type 1
ThirdPromise = List ThirdStep → ThirdStep → Type 0

-- a promise is kept at each of these steps, after those that come before them
unfoldable pub Throughout : ThirdPromise → List ThirdStep → List ThirdStep → Type 0
Throughout promise past [] = ⊤
Throughout promise past (x ∷ rest) = promise past x × Throughout promise (past ++ x ∷ []) rest

-- The message that a step delivers.
abbrev pub message_at : Option SentMessage → Option Message
message_at None = None
message_at (Some m) = Some m.message

-- the event of the other forms, if it is one
abbrev pub delivered_by : World → ThirdEvent → Option Message
delivered_by w (third.Plain (events.Deliver k)) = message_at (message_of w k)
delivered_by w e = None

-- the message that is delivered
abbrev pub delivered : ThirdStep → Option Message
delivered x = delivered_by x.before.third.world x.event

-- from a server to a client
abbrev pub is_between : ServerId → ClientId → Header → Bool
is_between s c h = (h.from == server_node s) && (h.to == c.0)

-- the session of a client with a server, while the client runs
abbrev pub session_at : Option Association → Option ClientSession
session_at None = None
session_at (Some a) = a.session

-- the cached locks of a session
abbrev pub cache_at : Option ClientSession → LockCache
cache_at None = locks.no_cached_locks
cache_at (Some s) = s.locks

-- the session of a client with a server
abbrev pub session_of : World → ClientId → ServerId → Option ClientSession
session_of w c s = session_at (association_of w c s)

-- the cached locks of a client at a server
abbrev pub cache_of : World → ClientId → ServerId → LockCache
cache_of w c s = cache_at (session_of w c s)

-- the life of a client at a server
abbrev pub life_at : ServerId → Option WorldClient → Life
life_at s None = record { 0 = 0 }
life_at s (Some site) = life_with site.node.state s

-- the life of a client at a server
abbrev pub life_of : World → ClientId → ServerId → Life
life_of w c s = life_at s (site_of w c)

-- the pending operations of a client
abbrev pub operations_at : Option WorldClient → List Operation
operations_at None = []
operations_at (Some site) = site.node.state.operations

-- the pending operations of a client
abbrev pub operations_of : World → ClientId → List Operation
operations_of w c = operations_at (site_of w c)

-- the pending leaves of a client
abbrev pub leaves_at : Option ClientBeside → List Leave
leaves_at None = []
leaves_at (Some b) = b.leaves

-- the pending leaves of a client
abbrev pub leaves_of : ThirdWorld → ClientId → List Leave
leaves_of w c = leaves_at (beside_of w c)

-- Grants are used: when a grant is installed at a client, the first active operation of its file
-- that was not sent, isn't a sync and needs no more than its mode is owed a use. From then on,
-- until that operation is sent or answered, or the lease is lost, or the next grant of the file is
-- installed, the client has a lock of the file that the operation needs no more than.

-- a use that is owed
pub record Owing : Type 0 where
  pub client : ClientId
  pub server : ServerId
  pub life : Life
  pub ino : ℕ
  pub op : ℕ

-- the grant was taken, with a place for it
abbrev pub is_taken : ℕ → LockCache → LockCache → ℕ → GrantNo → Bool
is_taken limit old new ino g =
    (nat_lt (locks.seen_of old ino).0 g.0 && nat_le g.0 (locks.seen_of new ino).0) && locks.has_place (record old { limit = limit }) ino

-- the same life, with a session
abbrev pub is_same_life : World → World → ClientId → ServerId → Bool
is_same_life w v c s = is_some (session_of v c s) && ((life_of w c s).0 == (life_of v c s).0)

-- a client took a grant of a server in this step
abbrev pub takes_grant : ThirdStep → ClientId → ServerId → ℕ → GrantNo → Bool
takes_grant x c s ino g =
    is_same_life x.before.third.world x.after.third.world c s
    && is_taken x.before.third.limits.locks (cache_of x.before.third.world c s) (cache_of x.after.third.world c s) ino g

-- an operation that is owed a use
abbrev pub is_first_use : List Leave → ServerId → ℕ → Mode → Operation → Bool
is_first_use ls s ino mode o = is_active ls s o && (is_on s ino o && (not (is_sent o) && (not (is_sync o.ask) && covers mode (need o.ask))))

-- the use that is owed to an operation
abbrev pub owing : World → ClientId → ServerId → ℕ → Operation → Owing
owing w c s ino o = record { client = c; server = s; life = life_of w c s; ino = ino; op = o.op }

-- by the operation, if there is one
abbrev pub owing_to : World → ClientId → ServerId → ℕ → Option Operation → List Owing
owing_to w c s ino None = []
owing_to w c s ino (Some o) = owing w c s ino o ∷ []

-- of the same file
abbrev pub is_of_file : ClientId → ServerId → ℕ → Owing → Bool
is_of_file c s ino u = same_client u.client c && (same_server u.server s && (u.ino == ino))

-- what is owed when a grant was taken
abbrev pub with_grant_taken : ThirdStep → ClientId → ServerId → ℕ → Mode → List Owing → List Owing
with_grant_taken x c s ino mode us =
    filter (λ u. not (is_of_file c s ino u)) us
    ++ owing_to
    x.before.third.world
    c
    s
    ino
    (find (is_first_use (leaves_of x.before.third c) s ino mode) (operations_of x.before.third.world c))

-- if it was
unfoldable pub with_grant_of : ThirdStep → ClientId → ServerId → ℕ → GrantNo → Mode → List Owing → List Owing
with_grant_of x c s ino g mode us = if takes_grant x c s ino g then with_grant_taken x c s ino mode us else us

-- the server that a message is from
abbrev pub server_from : Header → ServerId
server_from h = server (h.from - SERVER_BASE)

-- what is owed after this message
abbrev pub with_message : ThirdStep → Header → Body → List Owing → List Owing
with_message x h (bodies.Granted ino g mode) us = with_grant_of x (client h.to) (server_from h) ino g mode us
with_message x h body us = us

-- what is owed after what a step delivers
abbrev pub with_delivered : ThirdStep → Option Message → List Owing → List Owing
with_delivered x None us = us
with_delivered x (Some m) us = with_message x m.header m.body us

-- the client runs
abbrev pub runs : Option WorldClient → Bool
runs None = false
runs (Some site) = site.node.running

-- the operation is neither sent nor answered
abbrev pub is_unused_by : List Operation → ℕ → Bool
is_unused_by os op = list_any (λ o. is_operation_numbered op o && not (is_sent o)) os

-- a use that is still owed
abbrev pub is_unused : World → Owing → Bool
is_unused w u =
    (runs (site_of w u.client) && is_some (session_of w u.client u.server))
    && (((life_of w u.client u.server).0 == u.life.0) && is_unused_by (operations_of w u.client) u.op)

-- the operation of a use
abbrev pub covers_use : Mode → Option Operation → Bool
covers_use mode None = true
covers_use mode (Some o) = covers mode (need o.ask)

-- there is a lock for it
abbrev pub has_its_lock : World → Owing → Bool
has_its_lock w u = covers_use (locks.mode_of (cache_of w u.client u.server) u.ino) (find (is_operation_numbered u.op) (operations_of w u.client))

-- a use that is owed has its lock
abbrev pub is_kept : World → Owing → Bool
is_kept w u = not (is_unused w u) || has_its_lock w u

-- what is owed at a step
abbrev pub owed_at : ThirdStep → List Owing → List Owing
owed_at x us = with_delivered x (delivered x) us

-- what is still owed after it
abbrev pub owed_after : ThirdStep → List Owing → List Owing
owed_after x us = filter (is_unused x.after.third.world) (owed_at x us)

-- what is owed after these steps
unfoldable pub owed_from : List Owing → List ThirdStep → List Owing
owed_from us [] = us
owed_from us (x ∷ xs) = owed_from (owed_after x us) xs

-- Grants are used
abbrev pub GrantsAreUsed : ThirdPromise
GrantsAreUsed past x = list_all (is_kept x.after.third.world) (owed_at x (owed_from [] past)) ≡ true

-- A client that left has nothing: after it was answered `left`, its server has neither row nor wait of
-- it, until the client sends the server anything but a greeting. And a greeting of its present life
-- that the server gets outside grace is welcomed at once.

-- a client that left a server
pub record Leaver : Type 0 where
  pub client : ClientId
  pub server : ServerId

-- the server of a leave
abbrev pub server_left : Option Ask → ServerId
server_left (Some (asks.Sync f)) = f.server
server_left ask = server 0

-- the server that a client left
abbrev pub leaver : List ThirdStep → ThirdStep → ClientId → ℕ → Leaver
leaver past x c op = record { client = c; server = server_left (ask_of (map plain_step past) (plain_step x) c op) }

-- a greeting
abbrev pub is_greeting : Body → Bool
is_greeting bodies.Hello = true
is_greeting body = false

-- the client sends its server something else
abbrev pub asks_again : Message → Leaver → Bool
asks_again m l = (m.header.from == l.client.0) && ((m.header.to == server_node l.server) && not (is_greeting m.body))

-- who has left after one more observation
abbrev pub left_behind : List ThirdStep → ThirdStep → List Leaver → ThirdObservation → List Leaver
left_behind past x ls (seen.Left c op) = ls ++ leaver past x c op ∷ []
left_behind past x ls (seen.Plain (plain_seen.Sent k m)) = filter (λ l. not (asks_again m l)) ls
left_behind past x ls o = ls

-- after these observations, in order
unfoldable pub left_along : List ThirdStep → ThirdStep → List Leaver → List ThirdObservation → List Leaver
left_along past x ls [] = ls
left_along past x ls (o ∷ os) = left_along past x (left_behind past x ls o) os

-- who has left after these steps
unfoldable pub left_from : List ThirdStep → List Leaver → List ThirdStep → List Leaver
left_from past ls [] = ls
left_from past ls (x ∷ xs) = left_from (past ++ x ∷ []) (left_along past x ls x.seen) xs

-- a server that is there has neither row nor wait of the client
abbrev pub has_nothing_at : ClientId → Option ServerNode → Bool
has_nothing_at c None = true
has_nothing_at c (Some node) = not (rows.has_rows node.state.locks c) && not (list_any (rows.is_wait_by c) node.state.locks.waiters)

-- its server has nothing of it
abbrev pub has_nothing : World → Leaver → Bool
has_nothing w l = has_nothing_at l.client (node_of w l.server)

-- a greeting of its present life to its server
abbrev pub is_its_greeting : World → Leaver → Message → Bool
is_its_greeting w l m =
    is_greeting m.body
    && (((m.header.from == l.client.0) && (m.header.to == server_node l.server)) && (m.header.life == (life_of w l.client l.server).0))

-- grace is on at a server
abbrev pub is_in_grace : Stamp → Option ServerNode → Bool
is_in_grace clock None = true
is_in_grace clock (Some node) = grace.is_on node.state.grace clock

-- a welcome
abbrev pub is_welcome : Body → Bool
is_welcome bodies.Welcome = true
is_welcome body = false

-- a welcome of its server
abbrev pub welcomes : Leaver → ThirdObservation → Bool
welcomes l (seen.Plain (plain_seen.Sent k m)) = is_welcome m.body && is_between l.server l.client m.header
welcomes l o = false

-- its greeting is delivered outside grace
abbrev pub greets : ThirdStep → Leaver → Option Message → Bool
greets x l None = false
greets x l (Some m) =
    is_its_greeting x.before.third.world l m
    && not (is_in_grace (clock_of x.before.third.world (nodes.Server l.server)) (node_of x.before.third.world l.server))

-- if it greets, it is welcomed
abbrev pub is_welcomed : ThirdStep → Leaver → Bool
is_welcomed x l = not (greets x l (delivered x)) || list_any (welcomes l) x.seen

-- A client that left has nothing
abbrev pub WhoLeftHasNothing : ThirdPromise
WhoLeftHasNothing past x =
    list_all (has_nothing x.after.third.world) (left_along past x (left_from [] [] past) x.seen)
    && list_all (is_welcomed x) (left_from [] [] past)
    ≡ true

-- A client that leaves loses nothing: when its life ends because it leaves, every write and patch of
-- that life is hard. When a leave is answered `left`, all lost rows of the server were reported.
abbrev pub is_hard_of : ClientId → ServerId → Life → LogEntry → Bool
is_hard_of c s life e = not (log.is_of_life c s life e.of) || is_hard_fate e.fate

-- no lost rows of the server haven't been reported
abbrev pub has_no_lost : Option Association → Bool
has_no_lost None = true
has_no_lost (Some a) = not (is_any a.lost)

-- the client has no lost rows of the server that it left
abbrev pub is_told_all : World → Leaver → Bool
is_told_all w l = has_no_lost (association_of w l.client l.server)

-- an observation that neither ends a life nor answers a leave owes nothing
abbrev pub loses_nothing : List ThirdStep → ThirdStep → ThirdObservation → Bool
loses_nothing past x (seen.Ended c s life) = list_all (is_hard_of c s life) x.after.third.world.log
loses_nothing past x (seen.Left c op) = is_told_all x.after.third.world (leaver past x c op)
loses_nothing past x o = true

-- A client that leaves loses nothing
abbrev pub WhoLeavesLosesNothing : ThirdPromise
WhoLeavesLosesNothing past x = list_all (loses_nothing past x) x.seen ≡ true

-- Demands are seen: a demand that a client gets in a session of its life and epoch, for a file of
-- which it has no lock, is answered as seen in the same step.

-- the answer to a demand
abbrev pub is_seen_body : ℕ → GrantNo → Body → Bool
is_seen_body ino g (bodies.DemandSeen i f) = (i == ino) && (f.0 == g.0)
is_seen_body ino g body = false

-- the demand of this header is answered
abbrev pub answers_demand : Header → ℕ → GrantNo → ThirdObservation → Bool
answers_demand h ino g (seen.Plain (plain_seen.Sent k m)) = ((m.header.from == h.to) && (m.header.to == h.from)) && is_seen_body ino g m.body
answers_demand h ino g o = false

-- a session of this epoch, without a lock of the file
abbrev pub is_unheld_in : Header → ℕ → Option ClientSession → Bool
is_unheld_in h ino None = false
is_unheld_in h ino (Some s) = (s.epoch.0 == h.epoch) && not (is_some (locks.lock_of s.locks ino))

-- the demand reaches a session of the client's life, before and after the step
abbrev pub is_heard : ThirdStep → Header → ℕ → ClientId → ServerId → Bool
is_heard x h ino c s =
    (((life_of x.before.third.world c s).0 == h.life) && ((life_of x.after.third.world c s).0 == h.life))
    && is_unheld_in h ino (session_of x.before.third.world c s)

-- if it does, it is answered
abbrev pub is_demand_seen : ThirdStep → Header → Body → Bool
is_demand_seen x h (bodies.Demand ino g to) = not (is_heard x h ino (client h.to) (server_from h)) || list_any (answers_demand h ino g) x.seen
is_demand_seen x h body = true

-- the message that is delivered
abbrev pub is_answered : ThirdStep → Option Message → Bool
is_answered x None = true
is_answered x (Some m) = is_demand_seen x m.header m.body

-- Demands are seen
abbrev pub DemandsAreSeen : ThirdPromise
DemandsAreSeen past x = is_answered x (delivered x) ≡ true

-- Welcomes are fresh: when a session begins, now is below the date of its lease plus `renew`.
abbrev pub is_fresh_in : ℕ → Stamp → Option ClientSession → Option ClientSession → Bool
is_fresh_in renew clock None (Some s) = nat_lt clock.0 (s.lease.date.0 + renew)
is_fresh_in renew clock before after = true

-- a client at a server
abbrev pub is_fresh_at : ThirdStep → ClientId → ServerId → Bool
is_fresh_at x c s =
    is_fresh_in
    x.after.third.world.config.renew
    (clock_of x.after.third.world (nodes.Client c))
    (session_of x.before.third.world c s)
    (session_of x.after.third.world c s)

-- a client
abbrev pub is_fresh : ThirdStep → ClientId → Bool
is_fresh x c = list_all (is_fresh_at x c) (all_servers x.after.third.world)

-- Welcomes are fresh
abbrev pub WelcomesAreFresh : ThirdPromise
WelcomesAreFresh past x = list_all (is_fresh x) (all_clients x.after.third.world) ≡ true

-- Runs are short: no request for blocks is for more than 64 pages.
abbrev pub is_short_body : Body → Bool
is_short_body (bodies.Allocate ino g p count) = nat_le count 64
is_short_body body = true

-- an observation
abbrev pub is_short : ThirdObservation → Bool
is_short (seen.Plain (plain_seen.Sent k m)) = is_short_body m.body
is_short o = true

-- Runs are short
abbrev pub RunsAreShort : ThirdPromise
RunsAreShort past x = list_all is_short x.seen ≡ true

-- Limits are kept: after each event no client has more locks, dirty pages, clean pages or pending
-- operations than it may, and no server has rows and waits of a client for more files.
abbrev pub are_few_pages : Limits → Store → Bool
are_few_pages m st = nat_le (length st.pages.dirty) m.dirty && nat_le (length st.pages.clean) m.clean

-- of a server
abbrev pub are_few_at : Limits → Association → Bool
are_few_at m a = nat_le (locks.count (cache_at a.session)) m.locks && are_few_pages m a.store

-- how many operations and leaves are pending
abbrev pub pending : ThirdWorld → ClientId → ℕ
pending w c = length (operations_of w.world c) + length (leaves_of w c)

-- the associations of a client
abbrev pub associations_at : Option WorldClient → List Association
associations_at None = []
associations_at (Some site) = site.node.state.associations

-- of a client
abbrev pub are_few : ThirdWorld → ClientId → Bool
are_few w c = nat_le (pending w c) w.limits.operations && list_all (are_few_at w.limits) (associations_at (site_of w.world c))

-- of a client at a server
abbrev pub are_few_files : ThirdWorld → ClientId → Option ServerNode → Bool
are_few_files w c None = true
are_few_files w c (Some node) = nat_le (length (rows.files_of node.state.locks c)) w.limits.locks

-- of a client at each server
abbrev pub has_few_files : ThirdWorld → ClientId → ServerId → Bool
has_few_files w c s = are_few_files w c (node_of w.world s)

-- all limits, for a client
abbrev pub keeps_limits : ThirdWorld → ClientId → Bool
keeps_limits w c = are_few w c && list_all (has_few_files w c) (all_servers w.world)

-- Limits are kept
abbrev pub LimitsAreKept : ThirdPromise
LimitsAreKept past x = list_all (keeps_limits x.after.third) (all_clients x.after.third.world) ≡ true

-- Faults have a cause, as in the first two forms, with three exceptions. `opsfull` is answered to a
-- client of which as many operations were pending before the event as may be, leaves among them.
-- `toomanylocks` is answered to a client that has as many locks of a server as may be, all of them
-- of stuck files; and `dirtyfull` to one of which as many pages of a server are dirty as may be,
-- each of which failed and isn't being written. This is so before the event, or after it, or the
-- event reports that a command failed.
abbrev pub is_full : ThirdWorld → ClientId → Bool
is_full w c = nat_le w.limits.operations (pending w c)

-- all locks of a server are stuck
abbrev pub is_stuck_at : Limits → Association → Bool
is_stuck_at m a = nat_le m.locks (locks.count (cache_at a.session)) && list_all (is_stuck_lock a.store) (cache_at a.session).rows

-- of some server
abbrev pub is_stuck : ThirdWorld → ClientId → Bool
is_stuck w c = list_any (is_stuck_at w.limits) (associations_at (site_of w.world c))

-- as many pages are dirty as may be, and none of them makes room
abbrev pub is_dirty_full_at : Limits → Association → Bool
is_dirty_full_at m a = nat_le m.dirty (length a.store.pages.dirty) && not (list_any (is_hopeful a.store.commands) a.store.pages.dirty)

-- of some server
abbrev pub is_dirty_full : ThirdWorld → ClientId → Bool
is_dirty_full w c = list_any (is_dirty_full_at w.limits) (associations_at (site_of w.world c))

-- the event reports that a command failed
abbrev pub reports_failure : ThirdEvent → Bool
reports_failure (third.Plain (events.Report k ok)) = not ok
reports_failure e = false

-- before the event, or after it, or it reports a failure
abbrev pub is_so : (ThirdWorld → Bool) → ThirdStep → Bool
is_so fact x = (fact x.before.third || fact x.after.third) || reports_failure x.event

-- an observation
abbrev pub is_caused : ThirdStep → ThirdObservation → Bool
is_caused x (seen.Plain (plain_seen.Answered c op answers.OpsFull)) = is_full x.before.third c
is_caused x (seen.Plain (plain_seen.Answered c op answers.TooManyLocks)) = is_so (λ w. is_stuck w c) x
is_caused x (seen.Plain (plain_seen.Answered c op answers.DirtyFull)) = is_so (λ w. is_dirty_full w c) x
is_caused x (seen.Plain (plain_seen.Answered c op answer)) = faults.is_fault_caused (plain_step x) (plain_seen.Answered c op answer)
is_caused x o = true

-- Faults have a cause
abbrev pub FaultsHaveACause : ThirdPromise
FaultsHaveACause past x = list_all (is_caused x) x.seen ≡ true

-- An expired lease empties its client, as in the first two forms, but at each client of the form:
-- those above 16 get messages, too.
abbrev pub is_receiver : World → ClientId → Option SentMessage → Bool
is_receiver w c None = false
is_receiver w c (Some m) = same_node (receiver_of w m) (nodes.Client c)

-- the client takes a step in this event
abbrev pub takes_step : World → ClientId → ThirdEvent → Bool
takes_step w c (third.Plain (events.Deliver k)) = is_receiver w c (message_of w k)
takes_step w c e = safety.takes_step w c (plain_event e)

-- while its lease at the server is over
abbrev pub steps_expired : ThirdStep → ClientId → ServerId → Bool
steps_expired x c s = takes_step x.before.third.world c x.event && is_expired x.before.third.world c s

-- a client whose lease is not over owes nothing
abbrev pub is_lost_whole : List ThirdStep → ThirdStep → ClientId → ServerId → Bool
is_lost_whole past x c s = not (steps_expired x c s) || is_discarded (map plain_step past) (plain_step x) c s

-- a client, at each server
abbrev pub all_lost_whole : List ThirdStep → ThirdStep → ClientId → Bool
all_lost_whole past x c = list_all (is_lost_whole past x c) (all_servers x.before.third.world)

-- An expired lease empties its client
abbrev pub ExpiredLeasesEmptyClients : ThirdPromise
ExpiredLeasesEmptyClients past x = list_all (all_lost_whole past x) (all_clients x.before.third.world) ≡ true

-- Names answer truly, as in the first two forms, by the limit of live inodes in the head.
abbrev pub says : ℕ → Names → NameAsk → List Saying
says limit n ask = name_answers.says (record n { limit = limit }) ask

-- from the names of a server before an event to those after it
abbrev pub says_at : ℕ → NameAsk → AppAnswer → Option ServerNode → Option ServerNode → Bool
says_at limit ask answer (Some before) (Some after) =
    list_any (is_saying after.state.stable.names answer) (says limit before.state.stable.names ask)
says_at limit ask answer before after = false

-- an event after a client's ask, at which the names of its server said so
abbrev pub is_moment : ClientId → ℕ → ServerId → NameAsk → AppAnswer → ThirdStep → Bool
is_moment c op s ask answer y =
    is_after_ask c op (plain_step y)
    && says_at y.before.third.limits.inodes ask answer (node_of y.before.third.world s) (node_of y.after.third.world s)

-- the names that were asked said so at one of these events
abbrev pub was_said : List ThirdStep → ClientId → ℕ → AppAnswer → Option Ask → Bool
was_said past c op answer (Some (asks.Name s ask)) = list_any (is_moment c op s ask answer) past
was_said past c op answer asked = false

-- an answer that is none of names owes nothing
abbrev pub is_true_answer : List ThirdStep → ThirdStep → ClientId → ℕ → AppAnswer → Bool
is_true_answer past x c op answer = not (is_of_names answer) || was_said past c op answer (ask_of (map plain_step past) (plain_step x) c op)

-- an observation that isn't an answer owes nothing
abbrev pub is_told_truly : List ThirdStep → ThirdStep → ThirdObservation → Bool
is_told_truly past x (seen.Plain (plain_seen.Answered c op answer)) = is_true_answer past x c op answer
is_told_truly past x o = true

-- Names answer truly
abbrev pub NamesAnswerTruly : ThirdPromise
NamesAnswerTruly past x = list_all (is_told_truly past x) x.seen ≡ true

-- What is promised about a run of the third form, besides what is promised about every form.
pub record IsThirdSafe (xs : List ThirdStep) : Type 0 where
  pub used : Throughout GrantsAreUsed [] xs
  pub left : Throughout WhoLeftHasNothing [] xs
  pub hard : Throughout WhoLeavesLosesNothing [] xs
  pub demands : Throughout DemandsAreSeen [] xs
  pub welcomes : Throughout WelcomesAreFresh [] xs
  pub short : Throughout RunsAreShort [] xs
  pub limits : Throughout LimitsAreKept [] xs
  pub faults : Throughout FaultsHaveACause [] xs
  pub named : Throughout NamesAnswerTruly [] xs
  pub emptied : Throughout ExpiredLeasesEmptyClients [] xs

-- The events of schedules: an ask is in its ranges, and an advance has one increment per node.
abbrev pub is_third_event : ℕ → ThirdEvent → Bool
is_third_event count (third.Plain e) = is_event count e
is_third_event count (third.Leave c s) = nat_le 1 s.0 && nat_le s.0 65535

-- Every run of the third form is safe, from the world of every head and over every list of events,
-- up to the first that is refused.
abbrev pub EveryThirdRunIsSafe : Type 0
EveryThirdRunIsSafe =
    (k : Config) (m : Limits) (clients servers disks blocks : ℕ) (es : List ThirdEvent)
    → IsHead k m clients servers disks blocks 3
    → list_all (is_third_event (clients + servers)) es ≡ true
    → IsThirdSafe (steps es (third_traced (third_world k m clients servers disks blocks 3)))

-- opens all of this file and of those below it
unfoldable pub third_promises_open : ⊤
unfolding Throughout with_grant_of owed_from left_along left_from
third_promises_open = tt
