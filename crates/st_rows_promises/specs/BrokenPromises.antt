-- Steps made by hand, each of which breaks one promise and keeps the others.
use Rattle.std.specs.Prelude.{ℕ, ◌+◌, ◌==◌, Bool, true, false, not, List, [], ◌∷◌, ◌++◌, filter, map, codes, Option, Some, None, ⊤}
use Rattle.std.specs.List.{list_any}
use Rattle.st_base.specs.Page.{filled}
use Rattle.st_base.specs.declared.disk.Command.TheVariants as commands
use Rattle.st_base.specs.declared.mode.Mode.TheVariants as modes
use Rattle.st_base.specs.declared.names.NameAsk.TheVariants as name_asks
use Rattle.st_messages.specs.declared.answer.AppAnswer.{AppAnswer}
use Rattle.st_messages.specs.declared.answer.AppAnswer.TheVariants as answers
use Rattle.st_messages.specs.declared.ask.Ask.TheVariants as asks
use Rattle.st_messages.specs.declared.event.Event.{Event}
use Rattle.st_messages.specs.declared.event.Event.TheVariants as events
use Rattle.st_messages.specs.declared.message.Body.{Body}
use Rattle.st_messages.specs.declared.message.Body.TheVariants as bodies
use Rattle.st_messages.specs.declared.message.Message.{Message}
use Rattle.st_messages.specs.declared.message.NameReply.TheVariants as replies
use Rattle.st_messages.specs.declared.message.Why.TheVariants as why
use Rattle.st_rules.specs.declared.client.HeldLock.{HeldLock}
use Rattle.st_rules.specs.declared.disks.DiskCommand.{DiskCommand}
use Rattle.st_rules.specs.declared.disks.Report.TheVariants as reports
use Rattle.st_rules.specs.declared.locks.LockRow.{LockRow}
use Rattle.st_rules.specs.declared.log.Cause.TheVariants as causes
use Rattle.st_rules.specs.declared.log.Fate.{Fate}
use Rattle.st_rules.specs.declared.log.Fate.TheVariants as fates
use Rattle.st_rules.specs.declared.log.LogEntry.{LogEntry}
use Rattle.st_rules.specs.declared.observation.Observation.{Observation}
use Rattle.st_rules.specs.declared.observation.Observation.TheVariants as seen
use Rattle.st_rules.specs.declared.authority.Suspect.{Suspect}
use Rattle.st_rules.specs.declared.world.IssuedCommand.{IssuedCommand}
use Rattle.st_rules.specs.declared.world.LeaseLife.{LeaseLife}
use Rattle.st_rules.specs.Grace.{Grace}
use Rattle.st_rules.specs.ClientState.{ClientState, ClientSession, Association}
use Rattle.st_rules.specs.FlatLog.{accept, cut as cut_log}
use Rattle.st_rules.specs.Client.{emptied}
use Rattle.st_rules.specs.Events.{counted}
use Rattle.st_rules.specs.Names as names
use Rattle.st_rules.specs.Names.{Names}
use Rattle.st_rules.specs.Server.{ServerNode}
use Rattle.st_rules.specs.World.{World, WorldClient}
use Rattle.st_rules.specs.History.{Traced, History, TimerStart, GraceStart, LeaseDate, led_to, trace, traced, with_grant}
use Rattle.st_rules.specs.Safety.{
  Step,
  steps,
  DirtyPagesStandAlone,
  ReadsReturnLastWrites,
  DropsHaveACause,
  HardStaysHard,
  HardIsHard,
  TheftsComeLate,
  LeasesAreDatedFromRequests,
  GraceWaits,
  NoConflictIsSent,
  TheReportTellsTheLog,
  AnswersAreLogged,
  AsksAreAnsweredOnce,
  ChangesAreLocked,
  ChangesGoInTheOrderOfLocks,
  ExpiredLeasesEmptyClients,
  TheHistoryIsTheWorlds,
}
use Rattle.st_promises.specs.Acknowledgements.{CutsAreAcknowledged}
use Rattle.st_promises.specs.CutAsks.{CutsAreAsked}
use Rattle.st_promises.specs.Faults.{FaultsHaveACause}
use Rattle.st_promises.specs.Grants.{GrantNumbersAreGivenOnce, GrantNumbersRise}
use Rattle.st_promises.specs.Held.{DisksHoldWhatIsHard}
use Rattle.st_promises.specs.Losses.{LossesAreTold}
use Rattle.st_promises.specs.NameAnswers.{NamesAnswerTruly}
use Rattle.st_promises.specs.NameChanges.{NamesChangeAsAsked}
use Rattle.st_promises.specs.NamesOnce.{NamesChangeOnce}
use Rattle.st_promises.specs.Numbers.{LinesGiveTheNextNumbers}
use Rattle.st_promises.specs.Refusals.{RefusalsChangeNothing}
use Rattle.st_rows.specs.Words.{at, c, life, epoch, page, stamp, g}
use Rattle.st_rows.specs.ClientWords.{lost_row, on, server}
use Rattle.st_rows_world.specs.WorldWords.{ask, client_node, server_node, world_of, answered, cut, dropped, failed, read_out, sent, stolen, suspected, wrote}
use Rattle.st_rows_promises.specs.SafeWords.{safe_words_open}

-- The promises except for some, by their numbers.
abbrev pub unless_so : Bool → Type 0 → Type 0
unless_so true fact = ⊤
unless_so false fact = fact

abbrev pub is_same : ℕ → ℕ → Bool
is_same m n = n == m

abbrev pub unless : List ℕ → ℕ → Type 0 → Type 0
unless ns m fact = unless_so (list_any (is_same m) ns) fact

-- every promise is kept except for those of these numbers; the counts are given by numbers
pub record IsKeptBut (ns : List ℕ) (past : List Step) (x : Step) : Type 0 where
  pub alone : unless ns 1 (DirtyPagesStandAlone past x)
  pub reads : unless ns 2 (ReadsReturnLastWrites past x)
  pub causes : unless ns 3 (DropsHaveACause past x)
  pub stays : unless ns 4 (HardStaysHard past x)
  pub hard : unless ns 5 (HardIsHard past x)
  pub thefts : unless ns 6 (TheftsComeLate past x)
  pub dates : unless ns 7 (LeasesAreDatedFromRequests past x)
  pub waits : unless ns 8 (GraceWaits past x)
  pub conflicts : unless ns 9 (NoConflictIsSent past x)
  pub told : unless ns 10 (TheReportTellsTheLog past x)
  pub logged : unless ns 11 (AnswersAreLogged past x)
  pub once : unless ns 12 (AsksAreAnsweredOnce past x)
  pub locked : unless ns 13 (ChangesAreLocked past x)
  pub order : unless ns 14 (ChangesGoInTheOrderOfLocks past x)
  pub emptied : unless ns 15 (ExpiredLeasesEmptyClients past x)
  pub history : unless ns 16 (TheHistoryIsTheWorlds past x)
  pub losses : unless ns 17 (LossesAreTold past x)
  pub held : unless ns 18 (DisksHoldWhatIsHard past x)
  pub faults : unless ns 19 (FaultsHaveACause past x)
  pub numbers : unless ns 20 (LinesGiveTheNextNumbers past x)
  pub cuts : unless ns 21 (CutsAreAsked past x)
  pub given : unless ns 22 (GrantNumbersAreGivenOnce past x)
  pub rising : unless ns 23 (GrantNumbersRise past x)
  pub acknowledged : unless ns 24 (CutsAreAcknowledged past x)
  pub named : unless ns 25 (NamesAnswerTruly past x)
  pub renamed : unless ns 26 (NamesChangeAsAsked past x)
  pub changed : unless ns 27 (NamesChangeOnce past x)
  pub refused : unless ns 28 (RefusalsChangeNothing past x)

-- A run in which a client writes a page, its lease is dated from a request that was sent at 400 and answered at 450, and an
-- ask follows.
unfoldable pub prepared : Event → List Event
prepared e =
    (events.Advance (100 ∷ 100 ∷ 100 ∷ []))
    ∷ (ask 1 (asks.Write (on 1 2) (page 0) (filled 77)))
    ∷ (events.Deliver 1)
    ∷ (events.Advance (300 ∷ 300 ∷ 300 ∷ []))
    ∷ (events.Deliver 2)
    ∷ (events.Deliver 3)
    ∷ (events.Deliver 4)
    ∷ (events.Deliver 5)
    ∷ (events.Advance (50 ∷ 50 ∷ 50 ∷ []))
    ∷ (events.Deliver 6)
    ∷ e
    ∷ []

-- asks that nobody answered yet
abbrev pub reading : Event
reading = ask 1 (asks.Read (on 1 2) (page 0))

abbrev pub syncing : Event
syncing = ask 1 (asks.Sync (on 1 2))

abbrev pub writing : Event
writing = ask 1 (asks.Write (on 1 3) (page 0) (filled 77))

abbrev pub cutting : Event
cutting = ask 1 (asks.Cut (on 1 2) (page 0))

abbrev pub looking : Event
looking = ask 1 (asks.Name (server 1) (name_asks.Lookup 1 (codes "f2")))

abbrev pub creating : Event
creating = ask 1 (asks.Name (server 1) (name_asks.Create 1 (codes "new")))

-- its steps, and where it led
unfoldable pub past : Event → List Step
past e = steps (prepared e) (traced (world_of 2 1 1 8))

unfoldable pub here : Event → Traced
here e = led_to (trace (prepared e) (traced (world_of 2 1 1 8)))

-- The same run, after which another client has a lease too.
unfoldable pub met : List Event
met = prepared (ask 2 (asks.Read (on 1 2) (page 0))) ++ (events.Deliver 7) ∷ (events.Deliver 8) ∷ []

unfoldable pub past_met : List Step
past_met = steps met (traced (world_of 2 1 1 8))

unfoldable pub here_met : Traced
here_met = led_to (trace met (traced (world_of 2 1 1 8)))

-- The same run, after which the client's write out failed, and it lost its lease with the page dirty.
unfoldable pub lost_run : List Event
lost_run =
    (ask 1 (asks.Write (on 1 2) (page 0) (filled 77)))
    ∷ (events.Deliver 1)
    ∷ (events.Deliver 2)
    ∷ (events.Deliver 3)
    ∷ (events.Deliver 4)
    ∷ (events.Deliver 5)
    ∷ (events.Deliver 6)
    ∷ (events.Advance (850 ∷ 850 ∷ 850 ∷ []))
    ∷ (events.Tick (client_node 1))
    ∷ (events.Report 1 false)
    ∷ (events.Advance (150 ∷ 150 ∷ 150 ∷ []))
    ∷ (events.Tick (client_node 1))
    ∷ []

unfoldable pub past_lost : List Step
past_lost = steps lost_run (traced (world_of 2 1 1 8))

unfoldable pub here_lost : Traced
here_lost = led_to (trace lost_run (traced (world_of 2 1 1 8)))

-- A step in which nothing happens but that the event is counted, and changes of it.
abbrev pub still : Traced → Step
still t = record { before = t; event = events.Tick (client_node 2); seen = []; after = record t { world = counted t.world } }

-- with these observations
abbrev pub seeing : List Observation → Step → Step
seeing os x = record x { seen = os }

-- it leaves another world
abbrev pub leaving : (World → World) → Step → Step
leaving change x = record x { after = record x.after { world = change x.after.world } }

-- it comes from another world
abbrev pub coming : (World → World) → Step → Step
coming change x = record x { before = record x.before { world = change x.before.world } }

-- it leaves another history
abbrev pub recalling : (History → History) → Step → Step
recalling change x = record x { after = record x.after { history = change x.after.history } }

-- it counts a read, or a theft
abbrev pub one_read : World → World
one_read w = record w { tally = record w.tally { reads = w.tally.reads + 1 } }

abbrev pub one_theft : World → World
one_theft w = record w { tally = record w.tally { stolen = w.tally.stolen + 1 } }

-- a message is on its way
abbrev pub with_message : Message → World → World
with_message m w = record w { net = record w.net { messages = w.net.messages ++ record { message = m; lost = false } ∷ [] } }

-- a client has a read under way
abbrev pub reading_command : DiskCommand
reading_command = record { what = commands.Read (at 1 0); effected = false; report = reports.Open; sample = None }

abbrev pub issued_read : IssuedCommand
issued_read = record { client = c 1; number = 1; starts = 0; server = server 1; life = life 1; carries = None }

abbrev pub with_command : World → World
with_command w = record w { disks = record w.disks { commands = w.disks.commands ++ reading_command ∷ [] }; commands = w.commands ++ issued_read ∷ [] }

-- another client has a row of the file
abbrev pub other_row : LockRow
other_row = record { ino = 2; client = c 2; life = life 1; g = g 4294967298; mode = modes.S; demand = None }

abbrev pub row_added : ServerNode → ServerNode
row_added node = record node { state = record node.state { locks = record node.state.locks { rows = node.state.locks.rows ++ other_row ∷ [] } } }

abbrev pub with_other_row : World → World
with_other_row w = record w { servers = map row_added w.servers }

-- every entry of the log has this fate
abbrev pub entry_fated : Fate → LogEntry → LogEntry
entry_fated fate e = record e { fate = fate }

abbrev pub all_fated : Fate → World → World
all_fated fate w = record w { log = map (entry_fated fate) w.log }

-- the leases of all clients have this date
abbrev pub session_dated : ℕ → ClientSession → ClientSession
session_dated n s = record s { lease = record s.lease { date = stamp n } }

abbrev pub session_in : ℕ → Option ClientSession → Option ClientSession
session_in n None = None
session_in n (Some s) = Some (session_dated n s)

abbrev pub association_dated : ℕ → Association → Association
association_dated n a = record a { session = session_in n a.session }

abbrev pub state_with : (Association → Association) → ClientState → ClientState
state_with change c = record c { associations = map change c.associations }

abbrev pub site_with : (Association → Association) → WorldClient → WorldClient
site_with change site = record site { node = record site.node { state = state_with change site.node.state } }

abbrev pub each_association : (Association → Association) → World → World
each_association change w = record w { clients = map (site_with change) w.clients }

abbrev pub all_dated : ℕ → World → World
all_dated n w = each_association (association_dated n) w

-- every client with a session holds a lock on the file
abbrev pub shared_lock : HeldLock
shared_lock = record { ino = 2; g = g 4294967298; mode = modes.S }

abbrev pub session_locked : ClientSession → ClientSession
session_locked s = record s { locks = record s.locks { rows = shared_lock ∷ [] } }

abbrev pub locked_in : Option ClientSession → Option ClientSession
locked_in None = None
locked_in (Some s) = Some (session_locked s)

abbrev pub association_locked : Association → Association
association_locked a = record a { session = locked_in a.session }

abbrev pub all_locked : World → World
all_locked w = each_association association_locked w

-- the leases of the history end so
abbrev pub date_ended : ℕ → LeaseDate → LeaseDate
date_ended n d = record d { end = stamp n }

abbrev pub dates_ended : ℕ → History → History
dates_ended n h = record h { dates = map (date_ended n) h.dates }

-- a timer runs for the client, since its clock showed this and that many messages were sent
abbrev pub timer : ℕ → ℕ → TimerStart
timer clock n = record { server = server 1; client = c 1; clock = stamp clock; sent = n }

abbrev pub with_timer : ℕ → ℕ → History → History
with_timer clock n h = record h { timers = timer clock n ∷ [] }

-- the server's epoch began with a grace, when the clients' clocks showed this
abbrev pub grace_from : ℕ → ℕ → GraceStart
grace_from first second = record { server = server 1; clocks = stamp first ∷ stamp second ∷ [] }

abbrev pub with_grace : ℕ → ℕ → History → History
with_grace first second h = record h { graces = grace_from first second ∷ [] }

-- the server suspects the client
abbrev pub suspicion : Suspect
suspicion = record { client = c 1; start = stamp 1450 }

abbrev pub node_suspecting : ServerNode → ServerNode
node_suspecting node = record node { state = record node.state { authority = record node.state.authority { suspects = suspicion ∷ [] } } }

abbrev pub suspecting : World → World
suspecting w = record w { servers = map node_suspecting w.servers }

-- a life of the client ended without a lease
abbrev pub leaseless : LeaseLife
leaseless = record { client = c 1; server = server 1; life = life 7; end = None; crashed = false }

abbrev pub with_leaseless : World → World
with_leaseless w = record w { ended = leaseless ∷ [] }

-- nothing is known of dates, or of grants
abbrev pub without_dates : History → History
without_dates h = record h { dates = [] }

abbrev pub without_grants : History → History
without_grants h = record h { grants = [] }

-- a client writes once more, and a file is cut
abbrev pub written_by : ℕ → World → World
written_by n w = record w { log = accept w.log (c n) (life 1) (on 1 2) (page 0) (filled 5) }

abbrev pub cut_once : World → World
cut_once w = record w { log = cut_log w.log (on 1 2) (page 0) }

-- no server has a row
abbrev pub rowless : ServerNode → ServerNode
rowless n = record n { state = record n.state { locks = record n.state.locks { rows = [] } } }

abbrev pub without_rows : World → World
without_rows w = record w { servers = map rowless w.servers }

-- it is later than every lease end
abbrev pub at_last : World → World
at_last w = record w { clocks = stamp 2000 ∷ stamp 2000 ∷ stamp 3000 ∷ [] }

-- each client has lost what it had
abbrev pub all_emptied : World → World
all_emptied w = each_association emptied w

-- it is another event
abbrev pub by_event : Event → Step → Step
by_event e x = record x { event = e }

-- the server is in its second epoch, under this grace
abbrev pub in_second : Option Grace → ServerNode → ServerNode
in_second grace node = record node { state = record node.state { stable = record node.state.stable { epoch = epoch 2 }; grace = grace } }

-- a grace that was over at once, one that lasts, and none
abbrev pub short_grace : Option Grace
short_grace = Some (record { start = stamp 1450; wait = 0 })

abbrev pub long_grace : Option Grace
long_grace = Some (record { start = stamp 1450; wait = 1110 })

abbrev pub never_grace : Option Grace
never_grace = None

abbrev pub second_epoch : Option Grace → World → World
second_epoch grace w = record w { servers = map (in_second grace) w.servers }

-- a step of the first client
abbrev pub ticking : Step → Step
ticking x = record x { event = events.Tick (client_node 1) }

-- the steps that break a promise each
unfoldable pub stale_read : Step
stale_read = by_event reading (seeing (answered 1 3 (answers.Read (filled 0)) ∷ []) (leaving one_read (still (here reading))))

unfoldable pub beside_a_lock : Step
beside_a_lock = leaving with_other_row (still (here reading))

unfoldable pub beside_a_held_lock : Step
beside_a_held_lock = leaving all_locked (still here_met)

unfoldable pub dropped_without_a_crash : Step
dropped_without_a_crash = seeing (dropped 1 ∷ []) (leaving (all_fated (fates.Gone causes.Crash)) (still (here reading)))

unfoldable pub dropped_without_a_report : Step
dropped_without_a_report = seeing (failed 1 1 ∷ []) (leaving (all_fated (fates.Gone (causes.Failed 1))) (still (here reading)))

unfoldable pub dropped_by_another_command : Step
dropped_by_another_command = by_event (events.Report 1 false) dropped_without_a_report

unfoldable pub hard_no_more : Step
hard_no_more = coming (all_fated fates.Hard) (still (here reading))

unfoldable pub hard_too_early : Step
hard_too_early = seeing (answered 1 2 answers.Hard ∷ []) (still (here syncing))

unfoldable pub stolen_early : Step
stolen_early = seeing (stolen 1 1 1 ∷ []) (leaving one_theft (still (here reading)))

unfoldable pub stolen_as_another_life : Step
stolen_as_another_life = seeing (stolen 1 1 7 ∷ []) (coming with_leaseless (leaving one_theft (still (here reading))))

unfoldable pub dated_from_the_arrival : Step
dated_from_the_arrival = recalling (dates_ended 1450) (leaving (all_dated 450) (still (here reading)))

unfoldable pub replied_behind_a_timer : Step
replied_behind_a_timer = recalling (with_timer 0 0) (leaving suspecting (still (here reading)))

-- the server suspected the client before the first event
unfoldable pub past_suspected : List Step
past_suspected = seeing (suspected 1 1 1450 ∷ []) (still (traced (world_of 2 1 1 8))) ∷ past reading

unfoldable pub grace_too_short : Step
grace_too_short = recalling (with_grace 450 450) (leaving (second_epoch short_grace) (still (here reading)))

-- the server started in the last step
unfoldable pub past_started : List Step
past_started = past reading ++ by_event (events.Start (server_node 1)) (still (here reading)) ∷ []

unfoldable pub grace_never_begun : Step
grace_never_begun = leaving (second_epoch never_grace) (still (here reading))

-- the server sends this to a client
abbrev pub message_to : ℕ → Body → Message
message_to n body = record { header = record { from = 32769; to = n; life = 1; epoch = 1; number = 1; stamp = 400 }; body = body }

-- its line, under the message's number in the world
abbrev pub told_to : ℕ → ℕ → Body → Observation
told_to k n body = sent k 32769 n 1 1 1 400 body

-- it is sent, and told under the next number
abbrev pub sends : ℕ → Body → Step → Step
sends n body x = seeing (told_to 7 n body ∷ []) (leaving (with_message (message_to n body)) x)

unfoldable pub conflict_sent : Step
conflict_sent = sends 1 (bodies.Nack why.Conflict 2 2) (still (here reading))

unfoldable pub hard_and_pending : Step
hard_and_pending = seeing (seen.Hardened 1 ∷ []) (still (here reading))

unfoldable pub hard_twice : Step
hard_twice = seeing (seen.Hardened 1 ∷ []) (coming (all_fated fates.Hard) (leaving (all_fated fates.Hard) (still (here reading))))

unfoldable pub written_and_not_logged : Step
written_and_not_logged = seeing (answered 1 2 answers.Written ∷ []) (still (here writing))

unfoldable pub cut_and_not_logged : Step
cut_and_not_logged = seeing (answered 1 2 answers.Cut ∷ []) (still (here cutting))

-- a cut from before the ask
unfoldable pub past_cut : List Step
past_cut = seeing (cut 1 1 2 0 ∷ []) (still (traced (world_of 2 1 1 8))) ∷ past cutting

-- a client writes once more: who it is, which of its asks it is, the number that is reported, and the grant number
abbrev pub writing_again : ℕ → Event
writing_again n = ask n (asks.Write (on 1 2) (page 0) (filled 5))

abbrev pub logs_again : ℕ → ℕ → List Observation → Step
logs_again n grant lines =
    by_event (writing_again n) (seeing lines (recalling (with_grant (on 1 2) (g grant)) (leaving (written_by n) (still (here reading)))))

abbrev pub writes_again : ℕ → ℕ → ℕ → ℕ → Step
writes_again n op index grant = logs_again n grant (wrote index n 1 2 0 (filled 5) ∷ answered n op answers.Written ∷ [])

unfoldable pub written_under_another_number : Step
written_under_another_number = writes_again 1 3 5 4294967297

unfoldable pub written_and_not_answered : Step
written_and_not_answered = logs_again 1 4294967297 (wrote 2 1 1 2 0 (filled 5) ∷ [])

unfoldable pub answered_twice : Step
answered_twice = seeing (answered 1 1 answers.Quiesced ∷ []) (still (here reading))

unfoldable pub written_without_a_lock : Step
written_without_a_lock = writes_again 2 1 2 4294967297

unfoldable pub written_under_a_lesser_grant : Step
written_under_a_lesser_grant = writes_again 1 3 2 4294967296

-- a file is cut while only one client has it, and nobody is told that it was done
abbrev pub cuts_untold : Event → Step
cuts_untold e = seeing (cut 2 1 2 0 ∷ []) (recalling (with_grant (on 1 2) (g 4294967297)) (leaving cut_once (still (here e))))

-- the same, and the client is told so
abbrev pub acknowledging : World → World
acknowledging w = with_message (message_to 1 bodies.Ack) w

abbrev pub cuts_after : Event → Step
cuts_after e = seeing (cut 2 1 2 0 ∷ told_to 7 1 bodies.Ack ∷ []) (leaving acknowledging (cuts_untold e))

unfoldable pub cut_without_a_lock : Step
cut_without_a_lock = leaving without_rows (cuts_after cutting)

unfoldable pub cut_and_not_asked : Step
cut_and_not_asked = cuts_after reading

unfoldable pub cut_as_asked : Step
cut_as_asked = cuts_after cutting

-- the ask was answered before
unfoldable pub past_answered : List Step
past_answered = past cutting ++ seeing (answered 1 2 answers.NotHolder ∷ []) (still (here cutting)) ∷ []

-- a step at a lease's end
abbrev pub late : Step → Step
late x = ticking (coming at_last (leaving at_last x))

unfoldable pub kept_after_the_end : Step
kept_after_the_end = late (still (here reading))

unfoldable pub submitted_after_the_end : Step
submitted_after_the_end = seeing (read_out 1 1 1 1 0 ∷ []) (leaving with_command (leaving all_emptied (late (still (here reading)))))

unfoldable pub read_after_the_end : Step
read_after_the_end = by_event reading (seeing (answered 1 3 (answers.Read (filled 77)) ∷ []) (leaving one_read (leaving all_emptied (late (still (here reading))))))

unfoldable pub timer_unknown : Step
timer_unknown = leaving suspecting (still (here reading))

unfoldable pub timer_without_a_suspect : Step
timer_without_a_suspect = recalling (with_timer 450 9) (still (here reading))

-- the server suspected the client in the last step
unfoldable pub past_suspecting : List Step
past_suspecting = past reading ++ seeing (suspected 1 1 1450 ∷ []) (still (here reading)) ∷ []

unfoldable pub timer_of_another_clock : Step
timer_of_another_clock = recalling (with_timer 449 6) (leaving suspecting (still (here reading)))

unfoldable pub timer_of_another_moment : Step
timer_of_another_moment = recalling (with_timer 450 9) (leaving suspecting (still (here reading)))

unfoldable pub grace_unknown : Step
grace_unknown = leaving (second_epoch long_grace) (still (here reading))

unfoldable pub grace_without_a_start : Step
grace_without_a_start = recalling (with_grace 450 450) (still (here reading))

unfoldable pub grace_of_other_clocks : Step
grace_of_other_clocks = recalling (with_grace 450 449) (leaving (second_epoch long_grace) (still (here reading)))

unfoldable pub date_unknown : Step
date_unknown = recalling without_dates (still (here reading))

unfoldable pub grant_unknown : Step
grant_unknown = recalling without_grants (still (here reading))

unfoldable pub loss_not_told : Step
loss_not_told = by_event syncing (seeing (answered 1 2 answers.Hard ∷ []) (still here_lost))

unfoldable pub loss_told_in_part : Step
loss_told_in_part = by_event syncing (seeing (answered 1 2 (answers.Lost []) ∷ []) (still here_lost))

unfoldable pub told_and_not_lost : Step
told_and_not_lost = seeing (answered 1 2 (answers.Lost (lost_row 0 1 ∷ [])) ∷ []) (still (here syncing))

unfoldable pub hard_and_not_held : Step
hard_and_not_held = seeing (seen.Hardened 1 ∷ []) (leaving (all_fated fates.Hard) (still (here reading)))

unfoldable pub fault_without_a_report : Step
fault_without_a_report = seeing (answered 1 2 (answers.DiskFault 1) ∷ []) (still (here syncing))

unfoldable pub full_without_operations : Step
full_without_operations = seeing (answered 1 2 answers.OpsFull ∷ []) (still (here syncing))

unfoldable pub refused_without_a_refusal : Step
refused_without_a_refusal = seeing (answered 1 2 answers.NotHolder ∷ []) (still (here cutting))

unfoldable pub told_and_not_sent : Step
told_and_not_sent = seeing (told_to 7 1 bodies.Ack ∷ []) (still (here reading))

unfoldable pub counted_and_not_told : Step
counted_and_not_told = leaving one_theft (still (here reading))

-- the server sends a grant: to which client, of which file, under which number
abbrev pub grants_once_more : ℕ → ℕ → ℕ → Step
grants_once_more to ino n = sends to (bodies.Granted ino (g n) modes.S) (still (here reading))

unfoldable pub given_to_another_client : Step
given_to_another_client = grants_once_more 2 2 4294967297

unfoldable pub given_of_another_file : Step
given_of_another_file = grants_once_more 1 3 4294967297

unfoldable pub given_below : Step
given_below = grants_once_more 2 2 4294967296

unfoldable pub given_again : Step
given_again = grants_once_more 1 2 4294967297

-- a cut about which the client is told nothing, and one that is acknowledged and refused
unfoldable pub cut_and_not_acknowledged : Step
cut_and_not_acknowledged = cuts_untold cutting

abbrev pub refusal : Body
refusal = bodies.Nack why.NotHolder 0 0

unfoldable pub cut_and_refused : Step
cut_and_refused =
    seeing (cut 2 1 2 0 ∷ told_to 7 1 bodies.Ack ∷ told_to 8 1 refusal ∷ []) (leaving (with_message (message_to 1 refusal)) (cuts_after cutting))

-- the cut was done and acknowledged, and its ask is answered: that it was not done, or that it was
unfoldable pub past_done : List Step
past_done = past cutting ++ cut_as_asked ∷ []

unfoldable pub done_and_quiesced : Step
done_and_quiesced = seeing (answered 1 2 answers.Quiesced ∷ []) (still cut_as_asked.after)

unfoldable pub done_and_told : Step
done_and_told = seeing (answered 1 2 answers.Cut ∷ []) (still cut_as_asked.after)

-- a refusal is sent after it, and comes to the asker
unfoldable pub refusal_sent : Step
refusal_sent = seeing (told_to 8 1 refusal ∷ []) (leaving (with_message (message_to 1 refusal)) (still cut_as_asked.after))

unfoldable pub past_sent : List Step
past_sent = past cutting ++ cut_as_asked ∷ refusal_sent ∷ []

unfoldable pub done_and_refused : Step
done_and_refused = by_event (events.Deliver 8) (seeing (answered 1 2 answers.NotHolder ∷ []) (still refusal_sent.after))

-- a step that follows the ask
unfoldable pub past_asked : Event → List Step
past_asked e = past e ++ still (here e) ∷ []

-- an inode is answered; the names have 2 under the name that is looked up, and no new file
unfoldable pub named_wrongly : Step
named_wrongly = seeing (answered 1 2 (answers.Named 42) ∷ []) (still (here looking))

unfoldable pub named_truly : Step
named_truly = seeing (answered 1 2 (answers.Named 2) ∷ []) (still (here looking))

unfoldable pub named_and_not_asked : Step
named_and_not_asked = seeing (answered 1 2 (answers.Named 2) ∷ []) (still (here syncing))

unfoldable pub named_and_not_created : Step
named_and_not_created = seeing (answered 1 2 (answers.Named 10) ∷ []) (still (here creating))

-- the server's names are changed
abbrev pub node_named : (Names → Names) → ServerNode → ServerNode
node_named change node =
    record node { state = record node.state { stable = record node.state.stable { names = change node.state.stable.names } } }

abbrev pub all_named : (Names → Names) → World → World
all_named change w = record w { servers = map (node_named change) w.servers }

-- a new file is there, or the next inode is skipped
abbrev pub with_file : Names → Names
with_file n = (names.added n 1 (codes "new") false).names

abbrev pub with_a_gap : Names → Names
with_a_gap n = record n { next = n.next + 1 }

unfoldable pub created_and_not_asked : Step
created_and_not_asked = leaving (all_named with_file) (still (here reading))

unfoldable pub created_otherwise : Step
created_otherwise = leaving (all_named with_a_gap) (still (here creating))

unfoldable pub created_as_asked : Step
created_as_asked = leaving (all_named with_file) (still (here creating))

-- the ask for the new file was refused before
unfoldable pub past_refused : List Step
past_refused = past creating ++ seeing (answered 1 2 (answers.Refused 8) ∷ []) (still (here creating)) ∷ []

-- the new file was made, and then a refusal is sent to the asker: the name is there
abbrev pub name_refusal : Body
name_refusal = bodies.Named (replies.Refused 2)

unfoldable pub name_refusal_sent : Step
name_refusal_sent = seeing (told_to 8 1 name_refusal ∷ []) (leaving (with_message (message_to 1 name_refusal)) (still created_as_asked.after))

unfoldable pub past_created : List Step
past_created = past creating ++ created_as_asked ∷ name_refusal_sent ∷ []

-- the ask is answered when the refusal comes: that the name was there, or that the file was made
abbrev pub created_and_answered : AppAnswer → Step
created_and_answered answer = by_event (events.Deliver 8) (seeing (answered 1 2 answer ∷ []) (still name_refusal_sent.after))

unfoldable pub created_and_refused : Step
created_and_refused = created_and_answered (answers.Refused 2)

unfoldable pub created_and_told : Step
created_and_told = created_and_answered (answers.Named 10)

-- two clients ask: the other one for the same new file, or to remove it
abbrev pub creating_too : Event
creating_too = ask 2 (asks.Name (server 1) (name_asks.Create 1 (codes "new")))

abbrev pub removing : Event
removing = ask 2 (asks.Name (server 1) (name_asks.Remove 1 (codes "new") 10))

abbrev pub both : Event → List Event
both e = prepared creating ++ e ∷ []

unfoldable pub here_both : Event → Traced
here_both e = led_to (trace (both e) (traced (world_of 2 1 1 8)))

unfoldable pub past_both : Event → List Step
past_both e = steps (both e) (traced (world_of 2 1 1 8))

-- the new file is there, and no more, and there again
abbrev pub without_file : Names → Names
without_file n = record n { entries = filter (λ d. not (names.is_entry_at 1 (codes "new") d)) n.entries }

unfoldable pub created_first : Event → Step
created_first e = leaving (all_named with_file) (still (here_both e))

unfoldable pub removed_then : Step
removed_then = leaving (all_named without_file) (still (created_first removing).after)

-- the steps up to the new file, and up to its removal
unfoldable pub past_first : Event → List Step
past_first e = past_both e ++ created_first e ∷ []

unfoldable pub past_removed : List Step
past_removed = past_first removing ++ removed_then ∷ []

unfoldable pub created_again : Step
created_again = leaving (all_named with_file) (still removed_then.after)

-- both are told about one new file
unfoldable pub told_first : Step
told_first = seeing (answered 1 2 (answers.Named 10) ∷ []) (still (created_first creating_too).after)

unfoldable pub past_told : List Step
past_told = past_first creating_too ++ told_first ∷ []

unfoldable pub told_too : Step
told_too = seeing (answered 2 1 (answers.Named 10) ∷ []) (still told_first.after)

unfoldable pub broken_open : ⊤
unfolding safe_words_open prepared past here met past_met here_met lost_run past_lost here_lost past_cut stale_read beside_a_lock beside_a_held_lock dropped_without_a_crash dropped_by_another_command dropped_without_a_report hard_no_more hard_too_early stolen_early stolen_as_another_life dated_from_the_arrival replied_behind_a_timer grace_too_short grace_never_begun conflict_sent hard_and_pending hard_twice written_and_not_logged cut_and_not_logged written_under_another_number written_and_not_answered answered_twice written_without_a_lock written_under_a_lesser_grant cut_without_a_lock cut_and_not_asked cut_as_asked past_answered kept_after_the_end submitted_after_the_end read_after_the_end timer_unknown timer_without_a_suspect past_suspected past_started past_suspecting timer_of_another_clock timer_of_another_moment grace_unknown grace_without_a_start grace_of_other_clocks date_unknown grant_unknown loss_not_told loss_told_in_part told_and_not_lost hard_and_not_held fault_without_a_report full_without_operations refused_without_a_refusal told_and_not_sent counted_and_not_told given_to_another_client given_of_another_file given_below given_again cut_and_not_acknowledged cut_and_refused past_asked named_wrongly named_truly named_and_not_asked named_and_not_created created_and_not_asked created_otherwise created_as_asked past_refused name_refusal_sent past_created created_and_refused created_and_told here_both past_both created_first removed_then past_first past_removed created_again told_first past_told told_too past_done done_and_quiesced done_and_told refusal_sent past_sent done_and_refused
broken_open = tt
