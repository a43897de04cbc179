-- Events: what each of them does to the world, and what is observed, in order.
use Rattle.std.specs.Prelude.{ℕ, ◌+◌, Bool, true, false, ◌&&◌, not, ◌==◌, nat_le, if◌then◌else◌, List, [], ◌∷◌, ◌++◌, length, filter, map, Option, Some, None, option_map, Result, Ok, Err, ⊤}
use Rattle.std.specs.List.{list_any, zip}
use Rattle.st_base.specs.declared.ids.ClientId.{ClientId}
use Rattle.st_base.specs.declared.ids.ServerId.{ServerId}
use Rattle.st_base.specs.declared.ids.Life.{Life}
use Rattle.st_base.specs.declared.ids.FileId.{FileId}
use Rattle.st_base.specs.declared.ids.PageNo.{PageNo}
use Rattle.st_base.specs.declared.ids.Stamp.{Stamp}
use Rattle.st_base.specs.declared.ids.NodeId.{NodeId}
use Rattle.st_base.specs.declared.ids.NodeId.TheVariants as nodes
use Rattle.st_base.specs.declared.disk.BlockAt.{BlockAt}
use Rattle.st_base.specs.declared.disk.Tag.{Tag}
use Rattle.st_base.specs.declared.disk.Command.{Command}
use Rattle.st_base.specs.declared.disk.Command.TheVariants as commands
use Rattle.st_messages.specs.declared.ask.Ask.{Ask}
use Rattle.st_messages.specs.declared.answer.AppAnswer.{AppAnswer}
use Rattle.st_messages.specs.declared.answer.AppAnswer.TheVariants as answers
use Rattle.st_messages.specs.declared.message.Message.{Message}
use Rattle.st_messages.specs.declared.output.Note.{Note}
use Rattle.st_messages.specs.declared.output.Note.TheVariants as notes
use Rattle.st_messages.specs.declared.output.Output.{Output}
use Rattle.st_messages.specs.declared.output.Output.TheVariants as outputs
use Rattle.st_messages.specs.declared.event.Event.{Event}
use Rattle.st_messages.specs.declared.event.Event.TheVariants as events
use Rattle.st_messages.specs.Sizes.{size_of}
use Rattle.st_rules.specs.declared.lease.Phase.{Phase}
use Rattle.st_rules.specs.declared.lease.Phase.TheVariants as phases
use Rattle.st_rules.specs.declared.input.ServerInput.{ServerInput}
use Rattle.st_rules.specs.declared.input.ServerInput.TheVariants as serving
use Rattle.st_rules.specs.declared.client.ClientInput.{ClientInput}
use Rattle.st_rules.specs.declared.client.ClientInput.TheVariants as inputs
use Rattle.st_rules.specs.declared.disks.Block.{Block}
use Rattle.st_rules.specs.declared.disks.DiskCommand.{DiskCommand}
use Rattle.st_rules.specs.declared.disks.CommandRefusal.{CommandRefusal}
use Rattle.st_rules.specs.declared.node.StepRefusal.{StepRefusal}
use Rattle.st_rules.specs.declared.log.Cause.{Cause}
use Rattle.st_rules.specs.declared.log.Cause.TheVariants as causes
use Rattle.st_rules.specs.declared.log.Change.{Change}
use Rattle.st_rules.specs.declared.log.Change.TheVariants as changes
use Rattle.st_rules.specs.declared.log.Fate.{Fate}
use Rattle.st_rules.specs.declared.log.Fate.TheVariants as fates
use Rattle.st_rules.specs.declared.log.LogOwner.{LogOwner}
use Rattle.st_rules.specs.declared.log.LogEntry.{LogEntry}
use Rattle.st_rules.specs.declared.observation.Observation.{Observation}
use Rattle.st_rules.specs.declared.observation.Observation.TheVariants as seen
use Rattle.st_rules.specs.declared.observation.WorldRefusal.{WorldRefusal}
use Rattle.st_rules.specs.declared.observation.Summary.{Summary}
use Rattle.st_rules.specs.declared.world.SentMessage.{SentMessage}
use Rattle.st_rules.specs.declared.world.Carried.{Carried}
use Rattle.st_rules.specs.declared.world.IssuedCommand.{IssuedCommand}
use Rattle.st_rules.specs.declared.world.LeaseLife.{LeaseLife}
use Rattle.st_rules.specs.declared.world.FlushStep.{FlushStep}
use Rattle.st_rules.specs.Keys.{same_file, same_page, put}
use Rattle.st_rules.specs.Leases.{drift_after}
use Rattle.st_rules.specs.Disks as disks
use Rattle.st_rules.specs.Disks.{Disks}
use Rattle.st_rules.specs.FlatLog as log
use Rattle.st_rules.specs.Server as server
use Rattle.st_rules.specs.Server.{ServerNode}
use Rattle.st_rules.specs.Client as client
use Rattle.st_rules.specs.Client.{ClientNode}
use Rattle.st_rules.specs.ClientState.{ClientState}
use Rattle.st_rules.specs.World.{World, WorldClient, with_numbered, site_of, node_of, clock_of, message_of, receiver_of, issued_of, server_of_disk, owner_carried, lives_of, life_with, is_flush_of, all_servers, world_open}
use Rattle.st_rules.specs.Admissible.{is_link, is_open, reaches, step_of, refusal, admissible_open}

-- A step so far: the world, and what was observed, in order.
pub record WorldTurn : Type 0 where
  pub world : World
  pub seen : List Observation

-- a step that begins
abbrev pub world_turn : World → List Observation → WorldTurn
world_turn w os = record { world = w; seen = os }

-- one more observation
abbrev pub observe : World → WorldTurn → Observation → WorldTurn
observe w sc o = record { world = w; seen = sc.seen ++ o ∷ [] }

-- Changes of one part.

-- with this client
abbrev pub with_site : ClientId → WorldClient → World → World
with_site c site w = record w { clients = with_numbered c.0 site w.clients }

-- with this server
abbrev pub with_node : ServerId → ServerNode → World → World
with_node s node w = record w { servers = with_numbered s.0 node w.servers }

-- a client with this node
abbrev pub at_node : ClientNode → WorldClient → WorldClient
at_node n site = record site { node = n }

-- one more event
abbrev pub counted : World → World
counted w = record w { tally = record w.tally { events = w.tally.events + 1 } }

-- Sending: the message is the last one, and its bytes count.
abbrev pub with_message : Message → World → World
with_message m w = record w { net = record w.net { messages = w.net.messages ++ record { message = m; lost = false } ∷ []; bytes = w.net.bytes + size_of m } }

-- Sending
unfoldable pub sends : WorldTurn → Message → WorldTurn
sends sc m = observe (with_message m sc.world) sc (seen.Sent (length sc.world.net.messages + 1) m)

-- Submitting: the command is the last one. A write carries the latest entry of its client to its page.
abbrev pub is_entry_of : ClientId → FileId → PageNo → LogEntry → Bool
is_entry_of c f p e = log.is_of_client c e.of && (same_file e.of.file f && same_page e.of.page p)

-- the number of this entry, or of one before it
unfoldable pub latest_at : ClientId → FileId → PageNo → ℕ → ℕ → LogEntry → ℕ
latest_at c f p number before e = if is_entry_of c f p e then number else before

-- the number of a client's latest entry to a page, from a number on
unfoldable pub latest_from : ℕ → ℕ → ClientId → FileId → PageNo → List LogEntry → ℕ
latest_from number before c f p [] = before
latest_from number before c f p (e ∷ es) = latest_from (number + 1) (latest_at c f p number before e) c f p es

-- the number of a client's latest entry to a page, or 0
unfoldable pub latest : List LogEntry → ClientId → FileId → PageNo → ℕ
latest es c f p = latest_from 1 0 c f p es

-- what a write of a page carries
abbrev pub carried : World → ClientId → Tag → Carried
carried w c tag = record { file = tag.file; page = tag.page; index = latest w.log c tag.file tag.page }

-- what a command carries
abbrev pub carries : World → ClientId → Command → Option Carried
carries w c (commands.Read at) = None
carries w c (commands.Write at tag bytes) = Some (carried w c tag)

-- a client's command, under its own number
abbrev pub issued : World → ClientId → WorldClient → ℕ → BlockAt → Command → IssuedCommand
issued w c site number at what =
    record {
      client = c;
      number = number;
      starts = site.starts;
      server = server_of_disk w at;
      life = life_with site.node.state (server_of_disk w at);
      carries = carries w c what;
    }

-- with this command
abbrev pub with_command : IssuedCommand → Command → World → World
with_command c what w = record w { disks = disks.submit w.disks what; commands = w.commands ++ c ∷ [] }

-- Submitting
unfoldable pub submits : WorldTurn → ClientId → Option WorldClient → ℕ → BlockAt → Command → WorldTurn
submits sc c None number at what = sc
submits sc c (Some site) number at what =
    observe (with_command (issued sc.world c site number at what) what sc.world) sc (seen.Submitted (length sc.world.commands + 1) c number what)

-- Answering: reads are counted.
abbrev pub reads_in : AppAnswer → ℕ
reads_in (answers.Read bytes) = 1
reads_in answer = 0

-- with the reads that this answers
abbrev pub with_read : AppAnswer → World → World
with_read answer w = record w { tally = record w.tally { reads = w.tally.reads + reads_in answer } }

-- Answering
unfoldable pub answers_with : WorldTurn → ClientId → ℕ → AppAnswer → WorldTurn
answers_with sc c op answer = observe (with_read answer sc.world) sc (seen.Answered c op answer)

-- Notes of a client: an accepted write or patch joins the log, under the client's life at the file's server; a lease that was lost leaves its life with the end
-- that it had. the life of a client, if there is one
abbrev pub life_of_site : ServerId → Option WorldClient → Life
life_of_site s None = record { 0 = 0 }
life_of_site s (Some site) = life_with site.node.state s

-- the present life of a client at a server
abbrev pub present_life : World → ClientId → ServerId → Life
present_life w c s = life_of_site s (site_of w c)

-- with this log
abbrev pub with_log : List LogEntry → World → World
with_log es w = record w { log = es }

-- an accepted write
unfoldable pub accepts : WorldTurn → ClientId → FileId → PageNo → List ℕ → WorldTurn
accepts sc c f p bytes =
    observe (with_log (log.accept sc.world.log c (present_life sc.world c f.server) f p bytes) sc.world) sc (seen.Wrote (length sc.world.log + 1) c f p bytes)

-- an accepted patch
unfoldable pub patches : WorldTurn → ClientId → FileId → PageNo → ℕ → List ℕ → WorldTurn
patches sc c f p at bytes =
    observe
    (with_log (log.patch sc.world.log c (present_life sc.world c f.server) f p at bytes) sc.world)
    sc
    (seen.Patched (length sc.world.log + 1) c f p at bytes)

-- a life that is over
abbrev pub life_over : ClientId → ServerId → Life → Option Stamp → LeaseLife
life_over c s life end = record { client = c; server = s; life = life; end = end; crashed = false }

-- with one more life that ended
abbrev pub with_ended : LeaseLife → World → World
with_ended e w = record w { ended = w.ended ++ e ∷ [] }

-- a lease that was lost
unfoldable pub loses : WorldTurn → ClientId → ClientState → ServerId → Life → WorldTurn
loses sc c before s life = observe (with_ended (life_over c s life (client.lease_end_with before s)) sc.world) sc (seen.Lost c s life)

-- a note of a client, which was in this state before its step
unfoldable pub client_notes : WorldTurn → ClientId → ClientState → Note → WorldTurn
client_notes sc c before (notes.Leased s end) = observe sc.world sc (seen.Leased c s end)
client_notes sc c before (notes.Lost s life) = loses sc c before s life
client_notes sc c before (notes.Accepted f p bytes) = accepts sc c f p bytes
client_notes sc c before (notes.Patched f p at bytes) = patches sc c f p at bytes
client_notes sc c before note = sc

-- an output of a client
unfoldable pub client_says : WorldTurn → ClientId → ClientState → Output → WorldTurn
client_says sc c before (outputs.Send m) = sends sc m
client_says sc c before (outputs.Submit number at what) = submits sc c (site_of sc.world c) number at what
client_says sc c before (outputs.Answer op answer) = answers_with sc c op answer
client_says sc c before (outputs.Note n) = client_notes sc c before n

-- the outputs of a client, in order
unfoldable pub client_says_all : ClientId → ClientState → List Output → WorldTurn → WorldTurn
client_says_all c before [] sc = sc
client_says_all c before (o ∷ os) sc = client_says_all c before os (client_says sc c before o)

-- Flush steps: after a client's step, each server at which it is in the flush phase has the lease end of that step.
abbrev pub flush_step : ClientId → ServerId → Stamp → FlushStep
flush_step c s end = record { client = c; server = s; end = end }

-- with this flush step in place of an older one
abbrev pub with_flush_step : FlushStep → World → World
with_flush_step x w = record w { flushed = put (is_flush_of x.client x.server) x w.flushed }

-- under a lease end, if there is one
abbrev pub flushed_under : World → ClientId → ServerId → Option Stamp → World
flushed_under w c s None = w
flushed_under w c s (Some end) = with_flush_step (flush_step c s end) w

-- in the flush phase
abbrev pub flushed_in : World → ClientId → ServerId → Option Stamp → Option Phase → World
flushed_in w c s end (Some phases.Flush) = flushed_under w c s end
flushed_in w c s end phase = w

-- a client, at a server
abbrev pub flushed_at : World → ClientId → ServerId → ClientState → World
flushed_at w c s state = flushed_in w c s (client.lease_end_with state s) (client.phase_with state s (clock_of w (nodes.Client c)))

-- a client, at these servers
unfoldable pub flushes : ClientId → ClientState → List ServerId → World → World
flushes c state [] w = w
flushes c state (s ∷ ss) w = flushes c state ss (flushed_at w c s state)

-- with the flush steps of a client
abbrev pub with_flushes : ClientId → ClientState → WorldTurn → WorldTurn
with_flushes c state sc = world_turn (flushes c state (all_servers sc.world) sc.world) sc.seen

-- nothing is observed
abbrev pub quiet : World → WorldTurn
quiet w = world_turn w []

-- A step of a client. One that does not run takes none.
unfoldable pub client_took : World → ClientId → WorldClient → Result client.NodeTurn StepRefusal → WorldTurn
client_took w c site (Ok t) = with_flushes c t.node.state (client_says_all c site.node.state t.out (quiet (with_site c (at_node t.node site) w)))
client_took w c site (Err r) = quiet w

-- a client takes an input at its clock
unfoldable pub client_takes : World → ClientId → ClientInput → WorldClient → WorldTurn
client_takes w c input site = client_took w c site (client.node_step site.node (clock_of w (nodes.Client c)) input)

-- a client that is there takes an input
unfoldable pub at_client : World → ClientId → ClientInput → Option WorldClient → WorldTurn
at_client w c input None = quiet w
at_client w c input (Some site) = client_takes w c input site

-- A step of a server. A theft is counted, and a cut joins the log.
abbrev pub with_theft : World → World
with_theft w = record w { tally = record w.tally { stolen = w.tally.stolen + 1 } }

-- a cut that was done
unfoldable pub cuts : WorldTurn → FileId → PageNo → WorldTurn
cuts sc f p = observe (with_log (log.cut sc.world.log f p) sc.world) sc (seen.CutAt (length sc.world.log + 1) f p)

-- a note of a server
unfoldable pub server_notes : WorldTurn → ServerId → Note → WorldTurn
server_notes sc s (notes.Suspected c start) = observe sc.world sc (seen.Suspected s c start)
server_notes sc s (notes.Stolen c life) = observe (with_theft sc.world) sc (seen.Stolen s c life)
server_notes sc s (notes.CutDone f p) = cuts sc f p
server_notes sc s note = sc

-- an output of a server
unfoldable pub server_says : WorldTurn → ServerId → Output → WorldTurn
server_says sc s (outputs.Send m) = sends sc m
server_says sc s (outputs.Note n) = server_notes sc s n
server_says sc s output = sc

-- the outputs of a server, in order
unfoldable pub server_says_all : ServerId → List Output → WorldTurn → WorldTurn
server_says_all s [] sc = sc
server_says_all s (o ∷ os) sc = server_says_all s os (server_says sc s o)

-- a server's step; one that does not run takes none
unfoldable pub server_took : World → ServerId → Result server.NodeTurn StepRefusal → WorldTurn
server_took w s (Ok t) = server_says_all s t.out (quiet (with_node s t.node w))
server_took w s (Err r) = quiet w

-- a server takes an input at its clock
unfoldable pub server_takes : World → ServerId → ServerInput → ServerNode → WorldTurn
server_takes w s input node = server_took w s (server.node_step node (clock_of w (nodes.Server s)) input)

-- a server that is there takes an input
unfoldable pub at_server : World → ServerId → ServerInput → Option ServerNode → WorldTurn
at_server w s input None = quiet w
at_server w s input (Some node) = server_takes w s input node

-- Tick
unfoldable pub ticks : World → NodeId → WorldTurn
ticks w (nodes.Client c) = at_client w c inputs.Tick (site_of w c)
ticks w (nodes.Server s) = at_server w s serving.Tick (node_of w s)

-- Ask: a client's asks are numbered from 1 over the whole run.
abbrev pub asked_once_more : WorldClient → WorldClient
asked_once_more site = record site { asks = site.asks + 1 }

-- an ask of a client that is there
unfoldable pub asks_at : World → ClientId → Ask → Option WorldClient → WorldTurn
asks_at w c ask None = quiet w
asks_at w c ask (Some site) = client_takes w c (inputs.App (site.asks + 1) ask) (asked_once_more site)

-- Delivery
unfoldable pub delivers_to : World → Message → NodeId → WorldTurn
delivers_to w m (nodes.Client c) = at_client w c (inputs.Control m) (site_of w c)
delivers_to w m (nodes.Server s) = at_server w s (serving.Control m) (node_of w s)

-- the message of a number is delivered
unfoldable pub delivers : World → Option SentMessage → WorldTurn
delivers w None = quiet w
delivers w (Some m) = delivers_to w m.message (receiver_of m)

-- Loss of a message: it is no longer delivered.
abbrev pub with_lost : ℕ → SentMessage → World → World
with_lost k m w = record w { net = record w.net { messages = with_numbered k (record m { lost = true }) w.net.messages } }

-- the message of a number is lost
unfoldable pub loses_message : World → ℕ → Option SentMessage → World
loses_message w k None = w
loses_message w k (Some m) = with_lost k m w

-- Cut and heal: a direction is cut once, and healed whole.
abbrev pub without_cut : NodeId → NodeId → World → World
without_cut from to w = record w { net = record w.net { cuts = filter (λ x. not (is_link from to x)) w.net.cuts } }

-- a direction is cut
abbrev pub with_cut : NodeId → NodeId → World → World
with_cut from to w = record w { net = record w.net { cuts = filter (λ x. not (is_link from to x)) w.net.cuts ++ record { from = from; to = to } ∷ [] } }

-- Fates: what is observed of a log whose fates changed, by rising number.
abbrev pub fate_seen : ℕ → Fate → Fate → List Observation
fate_seen number fates.Pending fates.Hard = seen.Hardened number ∷ []
fate_seen number fates.Pending (fates.Gone cause) = seen.Dropped number cause ∷ []
fate_seen number old new = []

-- of the entries from a number on, old and new
unfoldable pub fates_from : ℕ → List LogEntry → List LogEntry → List Observation
fates_from number [] new = []
fates_from number (e ∷ es) [] = []
fates_from number (e ∷ es) (f ∷ fs) = fate_seen number e.fate f.fate ++ fates_from (number + 1) es fs

-- a world whose log has new fates
unfoldable pub marks : World → List LogEntry → WorldTurn
marks w new = world_turn (with_log new w) (fates_from 1 w.log new)

-- Effect: of the disks' command; a write makes the entry that it carries hard, and the earlier pending ones of the same
-- client, life, file and page.
abbrev pub disks_after : Disks → Result Disks CommandRefusal → Disks
disks_after old (Ok d) = d
disks_after old (Err r) = old

-- with these disks
abbrev pub with_disks : Disks → World → World
with_disks d w = record w { disks = d }

-- the log when what is carried becomes hard
abbrev pub log_hard : List LogEntry → Option Carried → List LogEntry
log_hard es None = es
log_hard es (Some x) = log.harden es x.index

-- what a command carries, if there is one
abbrev pub carried_by : Option IssuedCommand → Option Carried
carried_by None = None
carried_by (Some c) = c.carries

-- the command of a number has its effect
unfoldable pub effects : World → ℕ → WorldTurn
effects w k = marks (with_disks (disks_after w.disks (disks.effect w.disks k)) w) (log_hard w.log (carried_by (issued_of w k)))

-- Report: it ends the command. The client takes it, if the instance that submitted the command still runs.
abbrev pub is_same_instance : IssuedCommand → WorldClient → Bool
is_same_instance c site = site.node.running && (site.starts == c.starts)

-- what a read found
abbrev pub tag_and_bytes : Block → Tag × List ℕ
tag_and_bytes b = (b.tag, b.bytes)

-- how a command ended: it failed, or it wrote, or it read this
abbrev pub result_of : Bool → Option Block → Option (Option (Tag × List ℕ))
result_of false sample = None
result_of true sample = Some (option_map tag_and_bytes sample)

-- the end of a command, for its client
abbrev pub end_told : World → ℕ → Bool → IssuedCommand → ClientInput
end_told w k ok c = inputs.Done c.number (result_of ok (disks.sample w.disks k))

-- a client is informed, or no longer runs
unfoldable pub tells_site : World → ℕ → Bool → IssuedCommand → WorldClient → WorldTurn
tells_site w k ok c site = if is_same_instance c site then client_takes w c.client (end_told w k ok c) site else quiet w

-- a client that is there is told
unfoldable pub tells_client : World → ℕ → Bool → IssuedCommand → Option WorldClient → WorldTurn
tells_client w k ok c None = quiet w
tells_client w k ok c (Some site) = tells_site w k ok c site

-- the client of a command is told
unfoldable pub tells : World → ℕ → Bool → Option IssuedCommand → WorldTurn
tells w k ok None = quiet w
tells w k ok (Some c) = tells_client w k ok c (site_of w c.client)

-- the command of a number is reported
unfoldable pub reports_of : World → ℕ → Bool → WorldTurn
reports_of w k ok = tells (with_disks (disks_after w.disks (disks.done w.disks k ok)) w) k ok (issued_of w k)

-- Advance: all clocks advance, also those of nodes that do not run. If a client's clock reaches the lease end of a life at
-- a server, every pending entry of that client, server and life is gone: by the crash that ended the life, or else by the
-- page's last write command of that client and life.
unfoldable pub advanced : List ℕ → List Stamp → List Stamp
advanced [] clocks = clocks
advanced (d ∷ ds) [] = []
advanced (d ∷ ds) (t ∷ ts) = record { 0 = t.0 + d } ∷ advanced ds ts

-- the numbers of drift after an advance: the second form counts them
unfoldable pub drift_with : World → List ℕ → List (List ℕ)
drift_with w steps = if w.form == 1 then w.drift else drift_after w.drift steps w.config.num w.config.den

-- with all clocks advanced
abbrev pub with_clocks : List ℕ → World → World
with_clocks steps w = record w { clocks = advanced steps w.clocks; drift = drift_with w steps }

-- a write of this owner's page
abbrev pub carries_for : LogOwner → IssuedCommand → Option Carried → Bool
carries_for o c None = false
carries_for o c (Some x) = log.same_owner (owner_carried c x) o

-- the number of this command, or of one before it
unfoldable pub last_write_at : LogOwner → ℕ → ℕ → IssuedCommand → ℕ
last_write_at o number before c = if carries_for o c c.carries then number else before

-- the number of the last write command of an owner's page, from a number on
unfoldable pub last_write_from : ℕ → ℕ → LogOwner → List IssuedCommand → ℕ
last_write_from number before o [] = before
last_write_from number before o (c ∷ cs) = last_write_from (number + 1) (last_write_at o number before c) o cs

-- the number of the last write command of an owner's page, or 0
unfoldable pub last_write : List IssuedCommand → LogOwner → ℕ
last_write cs o = last_write_from 1 0 o cs

-- the owner of a page's entries in a life
abbrev pub owner_in : LeaseLife → FileId → PageNo → LogOwner
owner_in e f p = log.owner e.client e.life f p

-- why the entries of a life are gone at its lease end
unfoldable pub cause_at_end : List IssuedCommand → LeaseLife → FileId → PageNo → Cause
cause_at_end cs e f p = if e.crashed then causes.Crash else causes.Failed (last_write cs (owner_in e f p))

-- an entry of a life
abbrev pub is_of_life_over : LeaseLife → ℕ → LogOwner → Bool
is_of_life_over e number o = log.is_of_life e.client e.server e.life o

-- the log when the entries of a life are gone
unfoldable pub log_ended : List IssuedCommand → LeaseLife → List LogEntry → List LogEntry
log_ended cs e es = log.drop_picked es (is_of_life_over e) (cause_at_end cs e)

-- the log when the entries of these lives are gone
unfoldable pub log_ended_all : List IssuedCommand → List LeaseLife → List LogEntry → List LogEntry
log_ended_all cs [] es = es
log_ended_all cs (e ∷ rest) es = log_ended_all cs rest (log_ended cs e es)

-- a life whose lease end is reached
abbrev pub is_reached : World → List ℕ → LeaseLife → Bool
is_reached w steps e = reaches (clock_of w (nodes.Client e.client)) (step_of e.client steps) e.end

-- the present lives of all clients
unfoldable pub present_lives : List WorldClient → List LeaseLife
present_lives [] = []
present_lives (site ∷ sites) = lives_of site.node.state ++ present_lives sites

-- the lives whose lease ends an advance reaches
unfoldable pub lives_reached : World → List ℕ → List LeaseLife
lives_reached w steps = filter (is_reached w steps) (present_lives w.clients ++ w.ended)

-- Advance
unfoldable pub advances : World → List ℕ → WorldTurn
advances w steps = marks (with_clocks steps w) (log_ended_all w.commands (lives_reached w steps) w.log)

-- Crash of a client: its lives end, with the lease ends that they had; its pending entries are gone, except for those that an unreported command carries, and
-- the earlier ones of the same life, file and page.
abbrev pub spares_by : ℕ → LogOwner → IssuedCommand → Option Carried → Bool
spares_by number o c None = false
spares_by number o c (Some x) = nat_le number x.index && log.same_owner (owner_carried c x) o

-- an unreported command spares an entry
abbrev pub spares : ℕ → LogOwner → IssuedCommand × DiskCommand → Bool
spares number o x = is_open x.1.report && spares_by number o x.0 x.0.carries

-- some unreported command spares an entry
abbrev pub is_spared : World → ℕ → LogOwner → Bool
is_spared w number o = list_any (spares number o) (zip w.commands w.disks.commands)

-- an entry that goes with its client
abbrev pub is_of_crashed : World → ClientId → ℕ → LogOwner → Bool
is_of_crashed w c number o = log.is_of_client c o && not (is_spared w number o)

-- the log when a client crashed
unfoldable pub log_crashed : World → ClientId → List LogEntry
log_crashed w c = log.drop_picked w.log (is_of_crashed w c) (log.always causes.Crash)

-- a life that a crash ended
abbrev pub crashed_life : LeaseLife → LeaseLife
crashed_life e = record e { crashed = true }

-- with the lives of a client that crashed
abbrev pub with_crashed_lives : WorldClient → World → World
with_crashed_lives site w = record w { ended = w.ended ++ map crashed_life (lives_of site.node.state) }

-- a client that stopped
abbrev pub stopped_site : WorldClient → WorldClient
stopped_site site = record site { node = client.crash_node site.node }

-- a client that is there crashes
unfoldable pub crashes_client : World → ClientId → Option WorldClient → WorldTurn
crashes_client w c None = quiet w
crashes_client w c (Some site) = marks (with_site c (stopped_site site) (with_crashed_lives site w)) (log_crashed w c)

-- a server that is there crashes
unfoldable pub crashes_server : World → ServerId → Option ServerNode → World
crashes_server w s None = w
crashes_server w s (Some node) = with_node s (server.crash_node node) w

-- Crash
unfoldable pub crashes : World → NodeId → WorldTurn
crashes w (nodes.Client c) = crashes_client w c (site_of w c)
crashes w (nodes.Server s) = quiet (crashes_server w s (node_of w s))

-- Start: a client begins its next life at every server; a server begins its next epoch, in grace.
abbrev pub started_site : WorldClient → WorldClient
started_site site = record { node = client.start_node site.node; asks = site.asks; starts = site.starts + 1 }

-- a client that is there starts
unfoldable pub starts_client : World → ClientId → Option WorldClient → World
starts_client w c None = w
starts_client w c (Some site) = with_site c (started_site site) w

-- a server that is there starts
unfoldable pub starts_server : World → ServerId → Option ServerNode → World
starts_server w s None = w
starts_server w s (Some node) = with_node s (server.start_node node (clock_of w (nodes.Server s))) w

-- Start
unfoldable pub starts : World → NodeId → World
starts w (nodes.Client c) = starts_client w c (site_of w c)
starts w (nodes.Server s) = starts_server w s (node_of w s)

-- What an admissible event does.
unfoldable pub happens : World → Event → WorldTurn
happens w (events.Tick n) = ticks w n
happens w (events.App c ask) = asks_at w c ask (site_of w c)
happens w (events.Deliver k) = delivers w (message_of w k)
happens w (events.Lose k) = quiet (loses_message w k (message_of w k))
happens w (events.Cut from to) = quiet (with_cut from to w)
happens w (events.Heal from to) = quiet (without_cut from to w)
happens w (events.Advance steps) = advances w steps
happens w (events.Effect k) = effects w k
happens w (events.Report k ok) = reports_of w k ok
happens w (events.Crash n) = crashes w n
happens w (events.Start n) = quiet (starts w n)

-- an event that is refused changes nothing
unfoldable pub world_by : World → Event → Option WorldRefusal → Result WorldTurn WorldRefusal
world_by w e None = Ok (happens (counted w) e)
world_by w e (Some r) = Err r

-- The step: of an event that is admissible, or its refusal.
unfoldable pub world_step : World → Event → Result WorldTurn WorldRefusal
world_step w e = world_by w e (refusal w e)

-- Summary: what is counted of a world. A cut isn't a write.
abbrev pub changes_page : Change → Bool
changes_page (changes.Write bytes) = true
changes_page (changes.Patch at bytes) = true
changes_page changes.Cut = false

-- the entry is a write or a patch
abbrev pub is_change : LogEntry → Bool
is_change e = changes_page e.change

-- the fate is hard
abbrev pub is_hard_fate : Fate → Bool
is_hard_fate fates.Hard = true
is_hard_fate fate = false

-- a write or a patch that is hard
abbrev pub is_hard : LogEntry → Bool
is_hard e = is_change e && is_hard_fate e.fate

-- an entry that is gone
abbrev pub is_gone : LogEntry → Bool
is_gone e = not (log.counts e.fate)

-- Summary
unfoldable pub summary : World → Summary
summary w =
    record {
      events = w.tally.events;
      sent = length w.net.messages;
      commands = length w.commands;
      writes = length (filter is_change w.log);
      reads = w.tally.reads;
      hard = length (filter is_hard w.log);
      gone = length (filter is_gone w.log);
      stolen = w.tally.stolen;
    }

-- opens all of this file and of those below it
unfoldable pub events_open : ⊤
unfolding world_open admissible_open sends latest_at latest_from latest submits answers_with accepts patches loses client_notes client_says client_says_all flushes client_took client_takes at_client cuts server_notes server_says server_says_all server_took server_takes at_server ticks asks_at delivers_to delivers loses_message fates_from marks effects tells_site tells_client tells reports_of advanced drift_with last_write_at last_write_from last_write cause_at_end log_ended log_ended_all present_lives lives_reached advances log_crashed crashes_client crashes_server crashes starts_client starts_server starts happens world_by world_step summary
events_open = tt
