-- What is promised: what safe means, over the steps of a run. No rule of a machine is used here but look-ups; the promise on
-- old messages says which rules they leave alone.
use Rattle.std.specs.Prelude.{◌≡◌, ℕ, ◌+◌, Bool, true, false, ◌&&◌, ◌||◌, not, ◌==◌, nat_le, nat_lt, if◌then◌else◌, List, [], ◌∷◌, ◌++◌, length, filter_map, map, take, Option, Some, None, is_some, option_map, Result, Ok, Err, ⊤}
use Rattle.std.specs.List.{list_all, list_any}
use Rattle.st_base.specs.declared.ids.ClientId.{ClientId}
use Rattle.st_base.specs.declared.ids.ServerId.{ServerId}
use Rattle.st_base.specs.declared.ids.Life.{Life}
use Rattle.st_base.specs.declared.ids.Epoch.{Epoch}
use Rattle.st_base.specs.declared.ids.FileId.{FileId}
use Rattle.st_base.specs.declared.ids.PageNo.{PageNo}
use Rattle.st_base.specs.declared.ids.Stamp.{Stamp}
use Rattle.st_base.specs.declared.ids.NodeId.TheVariants as nodes
use Rattle.st_base.specs.declared.config.Config.{Config}
use Rattle.st_base.specs.Config.{check}
use Rattle.st_base.specs.declared.disk.BlockAt.{BlockAt}
use Rattle.st_base.specs.declared.disk.Command.{Command}
use Rattle.st_base.specs.declared.disk.Command.TheVariants as commands
use Rattle.st_messages.specs.declared.ask.Ask.{Ask}
use Rattle.st_messages.specs.declared.ask.Ask.TheVariants as asks
use Rattle.st_messages.specs.declared.answer.AppAnswer.{AppAnswer}
use Rattle.st_messages.specs.declared.answer.AppAnswer.TheVariants as answers
use Rattle.st_messages.specs.declared.message.Message.{Message}
use Rattle.st_messages.specs.declared.message.Header.{Header}
use Rattle.st_messages.specs.declared.message.Body.{Body}
use Rattle.st_messages.specs.declared.message.Body.TheVariants as bodies
use Rattle.st_messages.specs.declared.message.Why.TheVariants as why
use Rattle.st_messages.specs.declared.event.Event.{Event}
use Rattle.st_messages.specs.declared.event.Event.TheVariants as events
use Rattle.st_messages.specs.Ranges.{is_ask}
use Rattle.st_rules.specs.declared.pages.DirtyPage.{DirtyPage}
use Rattle.st_rules.specs.declared.input.ServerInput.TheVariants as serving
use Rattle.st_rules.specs.declared.client.ClientInput.TheVariants as inputs
use Rattle.st_rules.specs.declared.log.Cause.{Cause}
use Rattle.st_rules.specs.declared.log.Cause.TheVariants as causes
use Rattle.st_rules.specs.declared.log.Fate.{Fate}
use Rattle.st_rules.specs.declared.log.Fate.TheVariants as fates
use Rattle.st_rules.specs.declared.log.LogOwner.{LogOwner}
use Rattle.st_rules.specs.declared.log.LogEntry.{LogEntry}
use Rattle.st_rules.specs.declared.observation.Observation.{Observation}
use Rattle.st_rules.specs.declared.observation.Observation.TheVariants as seen
use Rattle.st_rules.specs.declared.observation.WorldRefusal.{WorldRefusal}
use Rattle.st_rules.specs.declared.sessions.Session.{Session}
use Rattle.st_rules.specs.declared.world.SentMessage.{SentMessage}
use Rattle.st_rules.specs.declared.world.IssuedCommand.{IssuedCommand}
use Rattle.st_rules.specs.declared.world.LeaseLife.{LeaseLife}
use Rattle.st_rules.specs.Keys.{same_client, same_server, same_file, same_page, server_node}
use Rattle.st_rules.specs.ClientLocks.{is_lock_on}
use Rattle.st_rules.specs.ClientPages.{Store, is_dirty_of}
use Rattle.st_rules.specs.ClientState.{ClientState, ClientSession, Association, ClientTurn, server_of}
use Rattle.st_rules.specs.Client.{is_any}
use Rattle.st_rules.specs.Client as client
use Rattle.st_rules.specs.FlatLog as log
use Rattle.st_rules.specs.Authority as authority
use Rattle.st_rules.specs.Grace as grace
use Rattle.st_rules.specs.Locks as locks
use Rattle.st_rules.specs.Server as server
use Rattle.st_rules.specs.Server.{ServerNode}
use Rattle.st_rules.specs.Sessions as sessions
use Rattle.st_rules.specs.World.{World, WorldClient, site_of, node_of, same_node, all_clients, all_servers, clock_of, message_of, receiver_of, issued_of, server_of_disk, numbered, present_end, lease_end_of}
use Rattle.st_rules.specs.Events.{WorldTurn, world_step, present_life, present_lives, is_same_instance, is_hard_fate, last_write}
use Rattle.st_rules.specs.Run.{run}
use Rattle.st_rules.specs.Lines.{AtEach, IsLogTold, lines_open}
use Rattle.st_rules.specs.Dating.{dates_it, dating_open}
use Rattle.st_rules.specs.History.{Traced, History, TimerStart, GraceStart, LeaseDate, EntryGrant, association_of, locks_at, is_timer_of, is_grace_at, client_clock, client_clocks, is_exclusive_on, is_exclusive_row, rows_at, traced_after}

-- The steps of a run: the world before an event, the event, what was observed, and the world that it left.
pub record Step : Type 0 where
  pub before : Traced
  pub event : Event
  pub seen : List Observation
  pub after : Traced

-- the step of an event
abbrev pub step : Traced → Event → WorldTurn → Step
step t e sc = record { before = t; event = e; seen = sc.seen; after = traced_after e t sc }

-- the steps from an event on
unfoldable pub steps_on : (Traced → List Step) → Traced → Event → Result WorldTurn WorldRefusal → List Step
steps_on rest t e (Err r) = []
steps_on rest t e (Ok sc) = step t e sc ∷ rest (traced_after e t sc)

-- the steps of a run, up to the first event that is refused
unfoldable pub steps : List Event → Traced → List Step
steps [] t = []
steps (e ∷ es) t = steps_on (steps es) t e (world_step t.world e)

-- The steps are the run: they take its events in order, up to the first that is refused; what was observed at them, in order, is what
-- was observed in the run; and the last of them left the run's last world.

-- the event of a step
abbrev pub event_of : Step → Event
event_of x = x.event

-- what was observed at a step
abbrev pub seen_of : Step → List Observation
seen_of x = x.seen

-- what the last of these steps left, if they began from there
unfoldable pub left_by : Traced → List Step → Traced
left_by t [] = t
left_by t (x ∷ xs) = left_by x.after xs

-- the steps of a run take as many of its events as it had observations of
abbrev pub StepsTakeTheEvents : Type 0
StepsTakeTheEvents = (es : List Event) (t : Traced) → map event_of (steps es t) ≡ take (length (run es t.world).seen) es

-- what is observed at the steps of a run is what is observed in the run
abbrev pub StepsTellTheRun : Type 0
StepsTellTheRun = (es : List Event) (t : Traced) → map seen_of (steps es t) ≡ (run es t.world).seen

-- the steps of a run end with the run's last world
abbrev pub StepsEndWithTheRun : Type 0
StepsEndWithTheRun = (es : List Event) (t : Traced) → (left_by t (steps es t)).world ≡ (run es t.world).world

-- A promise is about a step and the steps before it.
abbrev pub Promise : Type 1
Promise = List Step → Step → Type 0

-- a promise is kept at each of these steps, after those that come before them
unfoldable pub Throughout : Promise → List Step → List Step → Type 0
Throughout promise past [] = ⊤
Throughout promise past (x ∷ rest) = promise past x × Throughout promise (past ++ x ∷ []) rest

-- Leases that last: the client runs, and its clock is below its lease end.
abbrev pub is_before : Stamp → Option Stamp → Bool
is_before clock None = false
is_before clock (Some end) = nat_lt clock.0 end.0

-- of a client that is there
abbrev pub lasts_at : Stamp → ServerId → Option WorldClient → Bool
lasts_at clock s None = false
lasts_at clock s (Some site) = site.node.running && is_before clock (client.lease_end_with site.node.state s)

-- the lease of a client at a server lasts
abbrev pub lasts : World → ClientId → ServerId → Bool
lasts w c s = lasts_at (clock_of w (nodes.Client c)) s (site_of w c)

-- the dirty pages that a client has listed of a server
abbrev pub dirty_at : Option Association → List DirtyPage
dirty_at None = []
dirty_at (Some a) = a.store.pages.dirty

-- Holding: a client holds a lock on a file while its lease lasts and it has the lock listed.
abbrev pub holds : World → ClientId → FileId → Bool
holds w c f = lasts w c f.server && list_any (is_lock_on f.ino) (locks_at (association_of w c f.server))

-- Having a row: the file's server runs and has a row of the client on the file.
abbrev pub has_row_at : ClientId → ℕ → Option ServerNode → Bool
has_row_at c ino None = false
has_row_at c ino (Some node) = node.running && is_some (locks.row_of node.state.locks c ino)

-- a client has a row on a file
abbrev pub has_row : World → ClientId → FileId → Bool
has_row w c f = has_row_at c f.ino (node_of w f.server)

-- Dirty pages stand alone: while a page of a file is dirty at one client, no other client holds a lock on the file or has a row
-- there. A dirty page wants an exclusive lock, with which every other lock conflicts.
abbrev pub is_apart : World → FileId → ClientId → ClientId → Bool
is_apart w f c other = same_client c other || not (holds w other f || has_row w other f)

-- no other client has a lock on the file
abbrev pub is_alone : World → ClientId → FileId → Bool
is_alone w c f = list_all (is_apart w f c) (all_clients w)

-- the file of a dirty page
abbrev pub file_of_dirty : ServerId → DirtyPage → FileId
file_of_dirty s d = record { server = s; ino = d.ino }

-- the files of which a client has dirty pages at a server
abbrev pub dirty_files : World → ClientId → ServerId → List FileId
dirty_files w c s = map (file_of_dirty s) (dirty_at (association_of w c s))

-- a client's dirty pages of a server stand alone
abbrev pub are_alone : World → ClientId → ServerId → Bool
are_alone w c s = not (lasts w c s) || list_all (is_alone w c) (dirty_files w c s)

-- a client's dirty pages stand alone
abbrev pub all_alone : World → ClientId → Bool
all_alone w c = list_all (are_alone w c) (all_servers w)

-- Dirty pages stand alone, after every event
abbrev pub DirtyPagesStandAlone : Promise
DirtyPagesStandAlone past x = list_all (all_alone x.after.world) (all_clients x.after.world) ≡ true

-- What was asked: the asks of a client are numbered from 1 over the whole run.
unfoldable pub ask_of_client : ClientId → ClientId → Ask → Option Ask
ask_of_client c d ask = if same_client c d then Some ask else None

-- the ask of a client, if the event is one
abbrev pub ask_in : ClientId → Event → Option Ask
ask_in c (events.App d ask) = ask_of_client c d ask
ask_in c e = None

-- what a client was asked under a number, up to a step
abbrev pub ask_of : List Step → Step → ClientId → ℕ → Option Ask
ask_of past x c op = numbered (filter_map (ask_in c) (map event_of (past ++ x ∷ []))) op

-- a fact of each observation of a step and the log at it
abbrev pub AtEachOf : Step → (List LogEntry → Observation → Type 0) → Type 0
AtEachOf x fact = AtEach fact x.after.world x.before.world.log x.seen

-- The report tells the log: after each event the log is what the lines of that event make of the log before it, in their order.
-- The line of a new entry has the next number, and a line that makes an entry hard or drops it names an entry that is pending at that line.
abbrev pub TheReportTellsTheLog : Promise
TheReportTellsTheLog past x = IsLogTold x.after.world x.before.world.log x.seen

-- Answers are logged: `written` follows directly the line of the write or the patch that was asked, with its client, file, page,
-- bytes and, for a patch, place in the page. `cut` comes only after a cut of the file from the page that was asked, since then.
abbrev pub IsLoggedWrite : ClientId → Option Ask → Observation → Type 0
IsLoggedWrite c (Some (asks.Write f p bytes)) (seen.Wrote i d g q old) = seen.Wrote i d g q old ≡ seen.Wrote i c f p bytes
IsLoggedWrite c (Some (asks.Patch f p at bytes)) (seen.Patched i d g q place old) = seen.Patched i d g q place old ≡ seen.Patched i c f p at bytes
IsLoggedWrite c asked o = ⊥

-- the line before the answer, if there is one
abbrev pub IsLoggedAfter : ClientId → Option Ask → Option Observation → Type 0
IsLoggedAfter c asked None = ⊥
IsLoggedAfter c asked (Some o) = IsLoggedWrite c asked o

-- a cut of a file from a page
abbrev pub is_cut_at : FileId → PageNo → Observation → Bool
is_cut_at f p (seen.CutAt index g q) = same_file g f && same_page q p
is_cut_at f p o = false

-- how many asks a client had
abbrev pub asks_at : Option WorldClient → ℕ
asks_at None = 0
asks_at (Some site) = site.asks

-- a step after a client's ask of this number
abbrev pub is_after_ask : ClientId → ℕ → Step → Bool
is_after_ask c op x = nat_le op (asks_at (site_of x.before.world c))

-- a step after the ask in which the file was cut from the page
abbrev pub cuts_after : ClientId → ℕ → FileId → PageNo → Step → Bool
cuts_after c op f p x = is_after_ask c op x && list_any (is_cut_at f p) x.seen

-- what was asked is a cut, and it was done
abbrev pub was_cut : List Step → ClientId → ℕ → Option Ask → Bool
was_cut past c op (Some (asks.Cut f p)) = list_any (cuts_after c op f p) past
was_cut past c op asked = false

-- an answer that is neither `written` nor `cut` owes nothing
abbrev pub IsLoggedAnswer : List Step → Step → Option Observation → ClientId → ℕ → AppAnswer → Type 0
IsLoggedAnswer past x line c op answers.Written = IsLoggedAfter c (ask_of past x c op) line
IsLoggedAnswer past x line c op answers.Cut = was_cut past c op (ask_of past x c op) ≡ true
IsLoggedAnswer past x line c op answer = ⊤

-- an observation that isn't an answer owes nothing
abbrev pub IsLogged : List Step → Step → Option Observation → Observation → Type 0
IsLogged past x line (seen.Answered c op answer) = IsLoggedAnswer past x line c op answer
IsLogged past x line o = ⊤

-- each of these observations, after the line before it
unfoldable pub AreLogged : List Step → Step → Option Observation → List Observation → Type 0
AreLogged past x line [] = ⊤
AreLogged past x line (o ∷ os) = IsLogged past x line o × AreLogged past x (Some o) os

-- Answers are logged
abbrev pub AnswersAreLogged : Promise
AnswersAreLogged past x = AreLogged past x None x.seen

-- Asks are answered once: each answer goes to an ask of its client that was not answered before, and the line of a write or a patch
-- is followed directly by a `written` to its client. So each such line is of one ask, and no ask has two.
abbrev pub is_answer_to : ClientId → ℕ → Observation → Bool
is_answer_to c op (seen.Answered d n answer) = same_client d c && (n == op)
is_answer_to c op o = false

-- the ask was answered in a step
abbrev pub answers_in : ClientId → ℕ → Step → Bool
answers_in c op x = list_any (is_answer_to c op) x.seen

-- the ask was answered in earlier steps, or by earlier lines
abbrev pub was_answered : List Step → List Observation → ClientId → ℕ → Bool
was_answered past lines c op = list_any (answers_in c op) past || list_any (is_answer_to c op) lines

-- it is the first answer to something that was asked
abbrev pub is_first_answer : List Step → Step → List Observation → ClientId → ℕ → Bool
is_first_answer past x lines c op = is_some (ask_of past x c op) && not (was_answered past lines c op)

-- an observation that isn't an answer owes nothing
abbrev pub is_answered_once : List Step → Step → List Observation → Observation → Bool
is_answered_once past x lines (seen.Answered c op answer) = is_first_answer past x lines c op
is_answered_once past x lines o = true

-- each of these observations, after these lines
unfoldable pub all_answered_once : List Step → Step → List Observation → List Observation → Bool
all_answered_once past x lines [] = true
all_answered_once past x lines (o ∷ os) = is_answered_once past x lines o && all_answered_once past x (lines ++ o ∷ []) os

-- a client is answered `written`
abbrev pub is_written_to : ClientId → Observation → Bool
is_written_to c (seen.Answered d op answers.Written) = same_client d c
is_written_to c o = false

-- the first of these lines answers a client `written`
abbrev pub begins_written : ClientId → List Observation → Bool
begins_written c [] = false
begins_written c (o ∷ os) = is_written_to c o

-- the line of a write or a patch is followed by its answer
abbrev pub is_followed : Observation → List Observation → Bool
is_followed (seen.Wrote index c f p bytes) os = begins_written c os
is_followed (seen.Patched index c f p at bytes) os = begins_written c os
is_followed o os = true

-- each of these lines is followed by what it owes
unfoldable pub all_followed : List Observation → Bool
all_followed [] = true
all_followed (o ∷ os) = is_followed o os && all_followed os

-- Asks are answered once
abbrev pub AsksAreAnsweredOnce : Promise
AsksAreAnsweredOnce past x = all_answered_once past x [] x.seen && all_followed x.seen ≡ true

-- Changes are locked: after an event that logged a write or a patch, its client's lease lasts, the client has an exclusive lock on
-- the file, and the page is dirty. After one that logged a cut, the file's server runs and has an exclusive row on the file.
abbrev pub has_exclusive : ℕ → Option Association → Bool
has_exclusive ino a = list_any (is_exclusive_on ino) (locks_at a)

-- the page is dirty
abbrev pub has_dirty_page : ℕ → PageNo → Option Association → Bool
has_dirty_page ino p a = list_any (is_dirty_of ino p) (dirty_at a)

-- a client's change of a page, after the event
abbrev pub changes_alone : World → ClientId → FileId → PageNo → Bool
changes_alone w c f p = lasts w c f.server && (has_exclusive f.ino (association_of w c f.server) && has_dirty_page f.ino p (association_of w c f.server))

-- a running server has an exclusive row on the file
abbrev pub cuts_under : ℕ → Option ServerNode → Bool
cuts_under ino None = false
cuts_under ino (Some node) = node.running && list_any (is_exclusive_row ino) (rows_at (Some node))

-- an observation that logs no change owes nothing
abbrev pub is_change_locked : World → Observation → Bool
is_change_locked w (seen.Wrote index c f p bytes) = changes_alone w c f p
is_change_locked w (seen.Patched index c f p at bytes) = changes_alone w c f p
is_change_locked w (seen.CutAt index f p) = cuts_under f.ino (node_of w f.server)
is_change_locked w o = true

-- Changes are locked
abbrev pub ChangesAreLocked : Promise
ChangesAreLocked past x = list_all (is_change_locked x.after.world) x.seen ≡ true

-- Changes go in the order of locks: the grant numbers under which a file's entries were accepted never fall along the log.
abbrev pub is_no_lesser : EntryGrant → EntryGrant → Bool
is_no_lesser e later = not (same_file later.file e.file) || nat_le e.g.0 later.g.0

-- each later entry of the same file has no lesser grant number
unfoldable pub never_fall : List EntryGrant → Bool
never_fall [] = true
never_fall (e ∷ es) = list_all (is_no_lesser e) es && never_fall es

-- Changes go in the order of locks
abbrev pub ChangesGoInTheOrderOfLocks : Promise
ChangesGoInTheOrderOfLocks past x = never_fall x.after.history.grants ≡ true

-- An expired lease empties its client. Suppose that a client takes a step while its lease at a server is over. Then after the step it is in its next life there
-- and has no session, page, known place or command of that server; and in the step nothing was submitted to that server's disks and no read or write of its
-- files was answered.
abbrev pub is_told_at : IssuedCommand → Option WorldClient → Bool
is_told_at k None = false
is_told_at k (Some site) = is_same_instance k site

-- the client is told the end of a command
abbrev pub is_told : World → ClientId → Option IssuedCommand → Bool
is_told w c None = false
is_told w c (Some k) = same_client k.client c && is_told_at k (site_of w c)

-- the client is the one that receives the message
abbrev pub is_receiver : ClientId → Option SentMessage → Bool
is_receiver c None = false
is_receiver c (Some m) = same_node (receiver_of m) (nodes.Client c)

-- the client takes a step in this event
abbrev pub takes_step : World → ClientId → Event → Bool
takes_step w c (events.Tick n) = same_node n (nodes.Client c)
takes_step w c (events.App d ask) = same_client d c
takes_step w c (events.Deliver k) = is_receiver c (message_of w k)
takes_step w c (events.Report k ok) = is_told w c (issued_of w k)
takes_step w c e = false

-- a clock has come to a lease end
abbrev pub has_reached : Stamp → Option Stamp → Bool
has_reached clock None = false
has_reached clock (Some end) = nat_le end.0 clock.0

-- a client's lease at a server is over
abbrev pub is_expired : World → ClientId → ServerId → Bool
is_expired w c s = has_reached (clock_of w (nodes.Client c)) (present_end w s (site_of w c))

-- the client takes a step while its lease at the server is over
abbrev pub steps_expired : Step → ClientId → ServerId → Bool
steps_expired x c s = takes_step x.before.world c x.event && is_expired x.before.world c s

-- nothing is known of pages, and no command is out
abbrev pub is_empty_store : Store → Bool
is_empty_store st = not (is_any st.extents) && (not (is_any st.pages.clean) && (not (is_any st.pages.dirty) && not (is_any st.commands)))

-- the life after this one, without a session and with nothing of pages
abbrev pub is_emptied : Life → Option Association → Bool
is_emptied life None = false
is_emptied life (Some a) = (a.life.0 == life.0 + 1) && (not (is_some a.session) && is_empty_store a.store)

-- the block of a command
abbrev pub block_of : Command → BlockAt
block_of (commands.Read at) = at
block_of (commands.Write at tag bytes) = at

-- a read or a write that was answered
abbrev pub is_use : AppAnswer → Bool
is_use (answers.Read bytes) = true
is_use answers.Written = true
is_use answer = false

-- the ask was one of this server
abbrev pub is_of_server : ServerId → Option Ask → Bool
is_of_server s None = false
is_of_server s (Some ask) = same_server (server_of ask) s

-- a command for the server's disks, or an answered read or write of its files
abbrev pub uses_server : List Step → Step → ServerId → Observation → Bool
uses_server past x s (seen.Submitted k c number what) = same_server (server_of_disk x.after.world (block_of what)) s
uses_server past x s (seen.Answered c op answer) = is_use answer && is_of_server s (ask_of past x c op)
uses_server past x s o = false

-- the client is emptied, and used nothing of the server
abbrev pub is_discarded : List Step → Step → ClientId → ServerId → Bool
is_discarded past x c s = is_emptied (present_life x.before.world c s) (association_of x.after.world c s) && not (list_any (uses_server past x s) x.seen)

-- a client whose lease is not over owes nothing
abbrev pub is_lost_whole : List Step → Step → ClientId → ServerId → Bool
is_lost_whole past x c s = not (steps_expired x c s) || is_discarded past x c s

-- a client, at each server
abbrev pub all_lost_whole : List Step → Step → ClientId → Bool
all_lost_whole past x c = list_all (is_lost_whole past x c) (all_servers x.before.world)

-- An expired lease empties its client
abbrev pub ExpiredLeasesEmptyClients : Promise
ExpiredLeasesEmptyClients past x = list_all (all_lost_whole past x) (all_clients x.before.world) ≡ true

-- Reads return the last write: each answer of a read has the page's bytes in the log at that answer. These are zeros, changed
-- by the writes, patches and cuts that touch the page and are not gone, in the order of the log.
abbrev pub IsLastRead : Option Ask → List LogEntry → List ℕ → Type 0
IsLastRead (Some (asks.Read f p)) es bytes = bytes ≡ log.content es f p
IsLastRead asked es bytes = ⊥

-- an answer that isn't a read owes nothing
abbrev pub IsLastAnswer : List Step → Step → ClientId → ℕ → List LogEntry → AppAnswer → Type 0
IsLastAnswer past x c op es (answers.Read bytes) = IsLastRead (ask_of past x c op) es bytes
IsLastAnswer past x c op es answer = ⊤

-- an observation that isn't an answer owes nothing
abbrev pub IsLast : List Step → Step → List LogEntry → Observation → Type 0
IsLast past x es (seen.Answered c op answer) = IsLastAnswer past x c op es answer
IsLast past x es o = ⊤

-- Reads return the last write
abbrev pub ReadsReturnLastWrites : Promise
ReadsReturnLastWrites past x = AtEachOf x (IsLast past x)

-- Drops have a cause: an entry that a crash dropped belongs to a life that a crash of its client ended; and one that a failed command
-- dropped has that command reported failed, which is the last write of its page and life.
abbrev pub is_crash_of : ClientId → Event → Bool
is_crash_of c (events.Crash (nodes.Client d)) = same_client c d
is_crash_of c e = false

-- the step is a crash that ended the owner's life
abbrev pub ends_life_of : LogOwner → Step → Bool
ends_life_of o x = is_crash_of o.client x.event && ((present_life x.before.world o.client o.file.server).0 == o.life.0)

-- the step is the failed report of this command
abbrev pub is_failure_of : ℕ → Event → Bool
is_failure_of k (events.Report j ok) = (j == k) && not ok
is_failure_of k e = false

-- the step is the failed report of this command
abbrev pub reports_failure : ℕ → Step → Bool
reports_failure k x = is_failure_of k x.event

-- the cause of a drop is among these steps, the last of which left this world
abbrev pub is_caused : List Step → World → LogOwner → Cause → Bool
is_caused steps w o causes.Crash = list_any (ends_life_of o) steps
is_caused steps w o (causes.Failed k) = list_any (reports_failure k) steps && (last_write w.commands o == k)

-- an entry that is not gone has no cause to show
abbrev pub has_cause_for : List Step → World → LogOwner → Fate → Bool
has_cause_for steps w o fates.Pending = true
has_cause_for steps w o fates.Hard = true
has_cause_for steps w o (fates.Gone cause) = is_caused steps w o cause

-- an entry that is gone has its cause
abbrev pub has_cause : List Step → World → LogEntry → Bool
has_cause steps w e = has_cause_for steps w e.of e.fate

-- Drops have a cause
abbrev pub DropsHaveACause : Promise
DropsHaveACause past x = list_all (has_cause (past ++ x ∷ []) x.after.world) x.after.world.log ≡ true

-- Hard stays hard: an entry that is hard before an event is hard after it.
abbrev pub keeps_hard : LogEntry → LogEntry → Bool
keeps_hard old new = not (is_hard_fate old.fate) || is_hard_fate new.fate

-- each entry that was hard is there and hard
unfoldable pub keep_hard : List LogEntry → List LogEntry → Bool
keep_hard [] new = true
keep_hard (e ∷ es) [] = false
keep_hard (e ∷ es) (f ∷ fs) = keeps_hard e f && keep_hard es fs

-- Hard stays hard
abbrev pub HardStaysHard : Promise
HardStaysHard past x = keep_hard x.before.world.log x.after.world.log ≡ true

-- Hard is hard: when a sync is answered hard, every write and patch of the asking client, in its present life, of that file is
-- hard in the log at that answer.
abbrev pub is_of_file : ClientId → Life → FileId → LogOwner → Bool
is_of_file c life f o = log.is_of_life c f.server life o && same_file o.file f

-- an entry of another client, life or file, or one that is hard
abbrev pub is_hard_of : ClientId → Life → FileId → LogEntry → Bool
is_hard_of c life f e = not (is_of_file c life f e.of) || is_hard_fate e.fate

-- the ask was a sync, and all of its file is hard
abbrev pub all_hard : World → ClientId → List LogEntry → Option Ask → Bool
all_hard w c es (Some (asks.Sync f)) = list_all (is_hard_of c (present_life w c f.server) f) es
all_hard w c es ask = false

-- an answer that is not hard owes nothing
abbrev pub answer_is_hard : List Step → Step → ClientId → ℕ → List LogEntry → AppAnswer → Bool
answer_is_hard past x c op es answers.Hard = all_hard x.after.world c es (ask_of past x c op)
answer_is_hard past x c op es answer = true

-- an observation that isn't an answer owes nothing
abbrev pub is_hard_at : List Step → Step → List LogEntry → Observation → Bool
is_hard_at past x es (seen.Answered c op answer) = answer_is_hard past x c op es answer
is_hard_at past x es o = true

-- it is hard
abbrev pub IsHardAt : List Step → Step → List LogEntry → Observation → Type 0
IsHardAt past x es o = is_hard_at past x es o ≡ true

-- Hard is hard
abbrev pub HardIsHard : Promise
HardIsHard past x = AtEachOf x (IsHardAt past x)

-- Thefts come late: when a client's locks are stolen, its clock has reached the lease end of that life, or the life had no lease
-- there; and it has reached the end of every lease that the client ever had at that server, in whichever life.
abbrev pub is_past : Stamp → Option Stamp → Bool
is_past clock None = true
is_past clock (Some end) = nat_le end.0 clock.0

-- a lease of this client at this server has ended; or it is another lease
abbrev pub is_date_past : ServerId → ClientId → Stamp → LeaseDate → Bool
is_date_past s c clock d = not (same_server d.server s && same_client d.client c) || nat_le d.end.0 clock.0

-- every lease of this client at this server has ended
abbrev pub all_dates_past : Traced → ServerId → ClientId → Bool
all_dates_past t s c = list_all (is_date_past s c (clock_of t.world (nodes.Client c))) t.history.dates

-- a theft that is late, or another observation
abbrev pub is_late : Traced → Observation → Bool
is_late t (seen.Stolen s c life) = is_past (clock_of t.world (nodes.Client c)) (lease_end_of t.world c s life) && all_dates_past t s c
is_late t o = true

-- Thefts come late
abbrev pub TheftsComeLate : Promise
TheftsComeLate past x = list_all (is_late x.before) x.seen ≡ true

-- Leases are dated from a request: a lease's date is the client's own reading when it sent a request of this life, and the
-- server sent that request's reply before any timer that runs for this client now.
abbrev pub dates_in : Traced → ClientId → ServerId → Life → Stamp → Step → Bool
dates_in now c s life date x = list_any (dates_it now x.before.world c s life date) x.seen

-- a lease is dated from a request among these steps
abbrev pub session_dated : List Step → Traced → ClientId → ServerId → Life → Option ClientSession → Bool
session_dated steps now c s life None = true
session_dated steps now c s life (Some session) = list_any (dates_in now c s life session.lease.date) steps

-- what a client has of a server
abbrev pub association_dated : List Step → Traced → ClientId → ServerId → Option Association → Bool
association_dated steps now c s None = true
association_dated steps now c s (Some a) = session_dated steps now c s a.life a.session

-- a client's lease at a server
abbrev pub is_dated : List Step → Traced → ClientId → ServerId → Bool
is_dated steps now c s = association_dated steps now c s (association_of now.world c s)

-- a client's leases
abbrev pub all_dated : List Step → Traced → ClientId → Bool
all_dated steps now c = list_all (is_dated steps now c) (all_servers now.world)

-- Leases are dated from a request
abbrev pub LeasesAreDatedFromRequests : Promise
LeasesAreDatedFromRequests past x = list_all (all_dated (past ++ x ∷ []) x.after) (all_clients x.after.world) ≡ true

-- Grace waits: while a server runs outside grace, every client has reached the end of each lease that it had from an earlier epoch of that server. This
-- includes leases that were reasserted, and servers that began their epoch without a grace.
abbrev pub is_waited_for : ServerId → ClientId → Epoch → Stamp → LeaseDate → Bool
is_waited_for s c epoch clock d = not (same_server d.server s && (same_client d.client c && nat_lt d.epoch.0 epoch.0)) || nat_le d.end.0 clock.0

-- a client's leases of earlier epochs have ended
abbrev pub client_waited_for : Traced → ServerId → Epoch → ClientId → Bool
client_waited_for t s epoch c = list_all (is_waited_for s c epoch (clock_of t.world (nodes.Client c))) t.history.dates

-- a server that runs and has no grace on
abbrev pub is_out_of_grace : Stamp → ServerNode → Bool
is_out_of_grace clock node = node.running && not (grace.is_on node.state.grace clock)

-- all clients' leases of earlier epochs have ended
abbrev pub all_waited_for : Traced → ServerId → ServerNode → Bool
all_waited_for t s node = list_all (client_waited_for t s node.state.stable.epoch) (all_clients t.world)

-- a server in grace, or one that waited for all clients
abbrev pub node_waited : Traced → ServerId → Option ServerNode → Bool
node_waited t s None = true
node_waited t s (Some node) = not (is_out_of_grace (clock_of t.world (nodes.Server s)) node) || all_waited_for t s node

-- a server waited for all clients
abbrev pub has_waited : Traced → ServerId → Bool
has_waited t s = node_waited t s (node_of t.world s)

-- Grace waits
abbrev pub GraceWaits : Promise
GraceWaits past x = list_all (has_waited x.after) (all_servers x.after.world) ≡ true

-- No conflict: no server refuses a reassertion because another client's lock conflicts.
abbrev pub is_conflict : Body → Bool
is_conflict (bodies.Nack why.Conflict a b) = true
is_conflict body = false

-- an observation that is no such refusal
abbrev pub is_no_conflict : Observation → Bool
is_no_conflict (seen.Sent k m) = not (is_conflict m.body)
is_no_conflict o = true

-- No conflict is ever sent
abbrev pub NoConflictIsSent : Promise
NoConflictIsSent past x = list_all is_no_conflict x.seen ≡ true

-- The history is the world's: a client has a timer in the history exactly if a running server suspects it, with the client's
-- clock and the messages of the step in which that server's own timer started; a server has a grace there exactly if it runs in
-- an epoch that began with one, with all clients' clocks at the step in which that grace began; each present lease, and each that a
-- life had when it ended, is among the dates with its end; and each entry of the log has one grant, of its file.
abbrev pub agree : Bool → Bool → Bool
agree true b = b
agree false b = not b

-- the history has a timer
abbrev pub has_timer : History → ServerId → ClientId → Bool
has_timer h s c = list_any (is_timer_of s c) h.timers

-- a running server suspects a client
abbrev pub suspects_at : ClientId → Option ServerNode → Bool
suspects_at c None = false
suspects_at c (Some node) = node.running && is_some (authority.suspect_of node.state.authority c)

-- a client at a server has a timer in both, or in neither
abbrev pub agree_on_timer : Traced → ServerId → ClientId → Bool
agree_on_timer t s c = agree (has_timer t.history s c) (suspects_at c (node_of t.world s))

-- a server's timers
abbrev pub agree_on_timers : Traced → ServerId → Bool
agree_on_timers t s = list_all (agree_on_timer t s) (all_clients t.world)

-- a moment is this one
abbrev pub is_moment : Stamp → Option Stamp → Bool
is_moment at None = false
is_moment at (Some moment) = moment.0 == at.0

-- since when a server's timer of a client runs
abbrev pub timer_since : ClientId → Option ServerNode → Option Stamp
timer_since c None = None
timer_since c (Some node) = authority.started node.state.authority c

-- the suspicion with which the timer started that runs now
abbrev pub is_suspicion : Traced → TimerStart → Observation → Bool
is_suspicion now k (seen.Suspected s c start) = is_timer_of s c k && is_moment start (timer_since c (node_of now.world s))
is_suspicion now k o = false

-- the client's clock and the messages were so before a step
abbrev pub is_start_from : TimerStart → World → Bool
is_start_from k before = ((client_clock before k.client).0 == k.clock.0) && (length before.net.messages == k.sent)

-- a timer that runs now started in a step
abbrev pub starts_timer : Traced → TimerStart → Step → Bool
starts_timer now k x = list_any (is_suspicion now k) x.seen && is_start_from k x.before.world

-- a timer that runs now started in one of these steps
abbrev pub has_started : List Step → Traced → TimerStart → Bool
has_started past now k = list_any (starts_timer now k) past

-- the history has a grace
abbrev pub has_grace : History → ServerId → Bool
has_grace h s = list_any (is_grace_at s) h.graces

-- the grace with which a running server's epoch began
abbrev pub grace_of : Option ServerNode → Option grace.Grace
grace_of None = None
grace_of (Some node) = if node.running then node.state.grace else None

-- a server's grace is in both, or in neither
abbrev pub agree_on_grace : Traced → ServerId → Bool
agree_on_grace t s = agree (has_grace t.history s) (is_some (grace_of (node_of t.world s)))

-- when a grace began
abbrev pub start_of : grace.Grace → Stamp
start_of g = g.start

-- a server starts
abbrev pub is_start_of : ServerId → Event → Bool
is_start_of s (events.Start (nodes.Server r)) = same_server r s
is_start_of s e = false

-- the same clock readings
unfoldable pub same_clocks : List Stamp → List Stamp → Bool
same_clocks [] [] = true
same_clocks [] (u ∷ us) = false
same_clocks (t ∷ ts) [] = false
same_clocks (t ∷ ts) (u ∷ us) = (t.0 == u.0) && same_clocks ts us

-- the server's clock showed the moment at which its grace began, and the clients' clocks were so
abbrev pub is_grace_from : Traced → GraceStart → World → Bool
is_grace_from now g before = is_moment (clock_of before (nodes.Server g.server)) (option_map start_of (grace_of (node_of now.world g.server))) && same_clocks g.clocks (client_clocks before)

-- a grace that a server has now began in a step
abbrev pub begins_grace : Traced → GraceStart → Step → Bool
begins_grace now g x = is_start_of g.server x.event && is_grace_from now g x.before.world

-- a grace that a server has now began in one of these steps
abbrev pub has_begun : List Step → Traced → GraceStart → Bool
has_begun past now g = list_any (begins_grace now g) past

-- a date of a life with this end
abbrev pub is_date_with : LeaseLife → Stamp → LeaseDate → Bool
is_date_with e end d = (same_client d.client e.client && same_server d.server e.server) && ((d.life.0 == e.life.0) && (d.end.0 == end.0))

-- a lease end is among the dates; or the life had no lease
abbrev pub has_date : History → LeaseLife → Option Stamp → Bool
has_date h e None = true
has_date h e (Some end) = list_any (is_date_with e end) h.dates

-- a life's lease end is among the dates
abbrev pub is_dated_life : History → LeaseLife → Bool
is_dated_life h e = has_date h e e.end

-- all lives, the present ones and those that ended
abbrev pub all_lives : World → List LeaseLife
all_lives w = present_lives w.clients ++ w.ended

-- each entry of the log has one grant, of its file
unfoldable pub fit_log : List EntryGrant → List LogEntry → Bool
fit_log [] [] = true
fit_log [] (e ∷ es) = false
fit_log (g ∷ gs) [] = false
fit_log (g ∷ gs) (e ∷ es) = same_file g.file e.of.file && fit_log gs es

-- The history is the world's
pub record IsWorldsHistory (past : List Step) (t : Traced) : Type 0 where
  pub timers : list_all (agree_on_timers t) (all_servers t.world) ≡ true
  pub started : list_all (has_started past t) t.history.timers ≡ true
  pub graces : list_all (agree_on_grace t) (all_servers t.world) ≡ true
  pub begun : list_all (has_begun past t) t.history.graces ≡ true
  pub dates : list_all (is_dated_life t.history) (all_lives t.world) ≡ true
  pub grants : fit_log t.history.grants t.world.log ≡ true

-- The history is the world's, after every event
abbrev pub TheHistoryIsTheWorlds : Promise
TheHistoryIsTheWorlds past x = IsWorldsHistory (past ++ x ∷ []) x.after

-- Old messages change nothing. At a client, a message of another life than its present one, or of another epoch than its
-- session's, leaves a step as it was after the losses, so that only the passes follow. But a refusal of an epoch from a later
-- one, and a welcome if there is no session, are heard.
abbrev pub is_other_epoch : ClientSession → Header → Bool
is_other_epoch s h = not (h.epoch == s.epoch.0)

-- a refusal of the epoch, from a later one
abbrev pub is_newer_epoch : ClientSession → Header → Body → Bool
is_newer_epoch s h (bodies.Nack why.OtherEpoch a b) = nat_lt s.epoch.0 h.epoch
is_newer_epoch s h body = false

-- a welcome
abbrev pub is_welcome : Body → Bool
is_welcome bodies.Welcome = true
is_welcome body = false

-- an old message, by the session
abbrev pub is_old_for : Option ClientSession → Header → Body → Bool
is_old_for None h body = not (is_welcome body)
is_old_for (Some s) h body = is_other_epoch s h && not (is_newer_epoch s h body)

-- an old message at an association
abbrev pub is_old_at : Header → Body → Association → Bool
is_old_at h body a = not (h.from == server_node a.server) || (not (h.life == a.life.0) || is_old_for a.session h body)

-- a message that is old at every association
abbrev pub is_old : ClientState → Message → Bool
is_old c m = list_all (is_old_at m.header m.body) c.associations

-- Old messages change nothing at a client
abbrev pub OldMessagesChangeNoClient : Type 0
OldMessagesChangeNoClient =
    (t : ClientTurn) (now : Stamp) (m : Message)
    → is_old t.state m ≡ true
    → client.take_input t now (inputs.Control m) ≡ t

-- At a server, a request of another epoch that isn't a greeting, and any request of a life below its session's, leaves the state as it was after the thefts, so
-- that only the passes follow.
abbrev pub is_greeting : Body → Bool
is_greeting bodies.Hello = true
is_greeting body = false

-- a request of another epoch
abbrev pub is_of_other_epoch : server.ServerState → Message → Bool
is_of_other_epoch s m = not (is_greeting m.body) && not (m.header.epoch == s.stable.epoch.0)

-- a life below a session's
abbrev pub is_below : Header → Option Session → Bool
is_below h None = false
is_below h (Some s) = nat_lt h.life s.life.0

-- a request of a life that is past
abbrev pub is_of_past_life : server.ServerState → Message → Bool
is_of_past_life s m = is_below m.header (sessions.session_of s.sessions (server.sender m.header))

-- Old messages change nothing at a server
abbrev pub OldMessagesChangeNoServer : Type 0
OldMessagesChangeNoServer =
    (t : server.ServerTurn) (now : Stamp) (m : Message)
    → is_of_other_epoch t.state m || is_of_past_life t.state m ≡ true
    → (server.take_input t now (serving.Control m)).state ≡ t.state

-- The heads of schedules: settings without a fault, and counts in their ranges; the first form has no grain.
pub record IsHead (k : Config) (clients servers disks blocks form : ℕ) : Type 0 where
  pub sound : check k ≡ Ok tt
  pub some_clients : nat_le 1 clients && nat_le clients 16 ≡ true
  pub some_servers : nat_le 1 servers && nat_le servers 4 ≡ true
  pub enough_disks : nat_le servers disks && nat_le disks 8 ≡ true
  pub some_blocks : nat_le 1 blocks && nat_le blocks 4096 ≡ true
  pub known_form : ((form == 1) && (k.grain == 0)) || (form == 2) ≡ true

-- The events of schedules: an ask is in its ranges, and an advance has one increment per node.
abbrev pub is_increment : ℕ → Bool
is_increment d = nat_le d 4294967295

-- an event of a world with this many nodes
abbrev pub is_event : ℕ → Event → Bool
is_event count (events.App c ask) = is_ask ask
is_event count (events.Advance steps) = (length steps == count) && list_all is_increment steps
is_event count e = true

-- opens all of this file and of the two that it uses
unfoldable pub safety_open : ⊤
unfolding lines_open dating_open steps_on steps left_by Throughout ask_of_client AreLogged all_answered_once all_followed never_fall same_clocks fit_log keep_hard
safety_open = tt
