-- The generator: numbers drawn from a seed, candidates for an event, the first admissible one of them, and the events of a whole schedule.
use Rattle.std.specs.Prelude.{ℕ, zero, suc, ◌+◌, ◌*◌, ◌-◌, ◌/◌, ◌%◌, ◌^◌, min, true, not, ◌==◌, nat_lt, nat_le, if◌then◌else◌, List, [], ◌∷◌, length, replicate, Option, Some, None, option_map, Result, Ok, Err, ⊤}
use Rattle.st_base.specs.declared.config.Config.{Config}
use Rattle.st_base.specs.declared.ids.ClientId.{ClientId}
use Rattle.st_base.specs.declared.ids.FileId.{FileId}
use Rattle.st_base.specs.declared.ids.NodeId.{NodeId}
use Rattle.st_base.specs.declared.ids.NodeId.TheVariants as nodes
use Rattle.st_base.specs.declared.ids.PageNo.{PageNo}
use Rattle.st_base.specs.Page.{filled}
use Rattle.st_messages.specs.declared.ask.Ask.TheVariants as asks
use Rattle.st_messages.specs.declared.event.Event.{Event}
use Rattle.st_messages.specs.declared.event.Event.TheVariants as events
use Rattle.st_rules.specs.declared.observation.Summary.{Summary}
use Rattle.st_rules.specs.declared.observation.WorldRefusal.{WorldRefusal}
use Rattle.st_rules.specs.Keys.{client, page_no}
use Rattle.st_rules.specs.World.{World, server, fresh_world}
use Rattle.st_rules.specs.Admissible.{refusal}
use Rattle.st_rules.specs.Events.{WorldTurn, world_step, summary}
use Rattle.st_rules.specs.Run.{run, run_open}

-- Draws. The state of the numbers begins as the seed, and each draw begins with a next state.

-- the next state
unfoldable pub next : ℕ → ℕ
next x = (x * 6364136223846793005 + 1442695040888963407) % 2 ^ 64

-- the number below n that a state gives: its upper 31 bits, mod n
unfoldable pub below : ℕ → ℕ → ℕ
below n x = x / 2 ^ 33 % n

-- the state after this many draws
unfoldable pub state_after : ℕ → ℕ → ℕ
state_after zero x = x
state_after (suc k) x = state_after k (next x)

-- the draw of this place, from 1, from a state on: a number below n
abbrev pub draw : ℕ → ℕ → ℕ → ℕ
draw k n x = below n (state_after k x)

-- What is drawn, each by the place of its first draw.

-- the node of a number from 0: c1, c2, c3, s1, s2
abbrev pub drawn_node : ℕ → NodeId
drawn_node n = if nat_lt n 3 then nodes.Client (client (n + 1)) else nodes.Server (server (n - 2))

-- a node
abbrev pub node : ℕ → ℕ → NodeId
node k x = drawn_node (draw k 5 x)

-- one of three clients
abbrev pub asker : ℕ → ℕ → ClientId
asker k x = client (1 + draw k 3 x)

-- a file of one of two servers, one of eight: two draws
abbrev pub file : ℕ → ℕ → FileId
file k x = record { server = server (1 + draw k 2 x); ino = 2 + draw (k + 1) 8 x }

-- one of the first four pages
abbrev pub page : ℕ → ℕ → PageNo
page k x = page_no (draw k 4 x)

-- One of the last messages or commands, out of this many: a number from 1. If there is none, nothing is drawn.
unfoldable pub recent : ℕ → ℕ → ℕ → Option ℕ × ℕ
recent count last x = if count == 0 then (None, x) else (Some (count - draw 1 (min count last) x), state_after 1 x)

-- Candidates, each with the state after it. If there is none, nothing more is drawn.

-- an event, after this many draws
abbrev pub after : ℕ → ℕ → Event → Option Event × ℕ
after k x e = (Some e, state_after k x)

-- the event of a number, if there is one
abbrev pub numbered_event : (ℕ → Event) → Option ℕ × ℕ → Option Event × ℕ
numbered_event event k = (option_map event k.0, k.1)

-- all clocks advance alike
unfoldable pub even_advance : ℕ → Option Event × ℕ
even_advance x = after 1 x (events.Advance (replicate 5 (1 + draw 1 60 x)))

-- a clock's increment if they advance one by one
abbrev pub increment : ℕ → ℕ → ℕ
increment k x = 100 + draw k 2 x

-- each clock advances by itself
unfoldable pub uneven_advance : ℕ → Option Event × ℕ
uneven_advance x = after 5 x (events.Advance (increment 1 x ∷ increment 2 x ∷ increment 3 x ∷ increment 4 x ∷ increment 5 x ∷ []))

-- a tick of a node
unfoldable pub tick : ℕ → Option Event × ℕ
tick x = after 1 x (events.Tick (node 1 x))

-- a write of a page of one byte
unfoldable pub ask_write : ℕ → Option Event × ℕ
ask_write x = after 5 x (events.App (asker 1 x) (asks.Write (file 2 x) (page 4 x) (filled (draw 5 256 x))))

-- a read
unfoldable pub ask_read : ℕ → Option Event × ℕ
ask_read x = after 4 x (events.App (asker 1 x) (asks.Read (file 2 x) (page 4 x)))

-- a sync
unfoldable pub ask_sync : ℕ → Option Event × ℕ
ask_sync x = after 3 x (events.App (asker 1 x) (asks.Sync (file 2 x)))

-- a delivery of one of the last 12 messages, of this many that were sent
unfoldable pub deliver : ℕ → ℕ → Option Event × ℕ
deliver sent x = numbered_event events.Deliver (recent sent 12 x)

-- an effect of one of the last 6 commands, of this many that were submitted
unfoldable pub effect : ℕ → ℕ → Option Event × ℕ
effect submitted x = numbered_event events.Effect (recent submitted 6 x)

-- a report of success
abbrev pub success : ℕ → Event
success k = events.Report k true

-- such a report of one of the last 6 commands
unfoldable pub report_success : ℕ → ℕ → Option Event × ℕ
report_success submitted x = numbered_event success (recent submitted 6 x)

-- one report in eight is of a failure
unfoldable pub outcome : Option ℕ → ℕ → Option Event × ℕ
outcome None x = (None, x)
outcome (Some k) x = after 1 x (events.Report k (not (draw 1 8 x == 0)))

-- the outcome of a command's report, after its draw
abbrev pub with_outcome : Option ℕ × ℕ → Option Event × ℕ
with_outcome k = outcome k.0 k.1

-- a report of one of the last 6 commands
unfoldable pub report : ℕ → ℕ → Option Event × ℕ
report submitted x = with_outcome (recent submitted 6 x)

-- a loss of one of the last 12 messages
unfoldable pub lose : ℕ → ℕ → Option Event × ℕ
lose sent x = numbered_event events.Lose (recent sent 12 x)

-- a direction is cut
unfoldable pub cut : ℕ → Option Event × ℕ
cut x = after 2 x (events.Cut (node 1 x) (node 2 x))

-- a direction is healed
unfoldable pub heal : ℕ → Option Event × ℕ
heal x = after 2 x (events.Heal (node 1 x) (node 2 x))

-- what happens to the network, by a number below 3
abbrev pub network_event : ℕ → ℕ → ℕ → Option Event × ℕ
network_event sent n = if n == 0 then lose sent else if n == 1 then cut else heal

-- a loss, a cut or a heal
unfoldable pub network : ℕ → ℕ → Option Event × ℕ
network sent x = network_event sent (draw 1 3 x) (state_after 1 x)

-- a crash
unfoldable pub crash : ℕ → Option Event × ℕ
crash x = after 1 x (events.Crash (node 1 x))

-- a start
unfoldable pub start : ℕ → Option Event × ℕ
start x = after 1 x (events.Start (node 1 x))

-- what a node does, by a number below 20
abbrev pub node_event : ℕ → ℕ → Option Event × ℕ
node_event n = if n == 0 then crash else if nat_le n 9 then start else tick

-- a crash, a start or a tick
unfoldable pub crash_or_start : ℕ → Option Event × ℕ
crash_or_start x = node_event (draw 1 20 x) (state_after 1 x)

-- the candidate of a kind below 16, if that many messages were sent and this many commands submitted
unfoldable pub candidate_of : ℕ → ℕ → ℕ → ℕ → Option Event × ℕ
candidate_of sent submitted kind =
    if kind == 0 then even_advance
    else if kind == 1 then uneven_advance
    else if nat_le kind 3 then tick
    else if kind == 4 then ask_write
    else if kind == 5 then ask_read
    else if kind == 6 then ask_sync
    else if nat_le kind 10 then deliver sent
    else if kind == 11 then effect submitted
    else if kind == 12 then report_success submitted
    else if kind == 13 then report submitted
    else if kind == 14 then network sent
    else crash_or_start

-- a candidate: its kind is drawn first
unfoldable pub candidate : ℕ → ℕ → ℕ → Option Event × ℕ
candidate sent submitted x = candidate_of sent submitted (draw 1 16 x) (state_after 1 x)

-- a candidate in a world
abbrev pub candidate_in : World → ℕ → Option Event × ℕ
candidate_in w x = candidate (length w.net.messages) (length w.commands) x

-- The choice of an event.

-- if none of the tries gives an admissible candidate, c1's messages to s1 can be delivered again
abbrev pub fallback : Event
fallback = events.Heal (nodes.Client (client 1)) (nodes.Server (server 1))

-- this event, if it is not refused; otherwise what the later tries give from this state
unfoldable pub unless_refused : (ℕ → Event × ℕ) → Event → ℕ → Option WorldRefusal → Event × ℕ
unless_refused later e x None = (e, x)
unless_refused later e x (Some f) = later x

-- this candidate, if there is one and it is admissible
unfoldable pub tried : World → (ℕ → Event × ℕ) → Option Event → ℕ → Event × ℕ
tried w later None x = later x
tried w later (Some e) x = unless_refused later e x (refusal w e)

-- a try, and the later ones after it
abbrev pub try_first : World → (ℕ → Event × ℕ) → Option Event × ℕ → Event × ℕ
try_first w later c = tried w later c.0 c.1

-- the first admissible candidate of this many tries
unfoldable pub choice : ℕ → World → ℕ → Event × ℕ
choice zero w x = (fallback, x)
choice (suc tries) w x = try_first w (choice tries w) (candidate_in w x)

-- an event of the run so far, and the state after it: the first admissible candidate of 16
abbrev pub chosen : World → ℕ → Event × ℕ
chosen w x = choice 16 w x

-- The events of a schedule.

-- the world after an event
unfoldable pub world_left : World → Result WorldTurn WorldRefusal → World
world_left w (Ok sc) = sc.world
world_left w (Err f) = w

-- an event, and those after it
abbrev pub followed : (World → ℕ → List Event) → World → Event × ℕ → List Event
followed rest w e = e.0 ∷ rest (world_left w (world_step w e.0)) e.1

-- that many events, from a world and a state on
unfoldable pub generated : ℕ → World → ℕ → List Event
generated zero w x = []
generated (suc n) w x = followed (generated n) w (chosen w x)

-- The settings and counts of the head: 3 clients, 2 servers, 2 disks of 64 blocks, the first form.
abbrev pub settings : Config
settings =
    record {
      lease = 1000;
      renew = 500;
      quiesce = 700;
      flush = 850;
      demand = 100;
      retry = 50;
      num = 101;
      den = 100;
      grain = 0;
    }

-- the world of the head
unfoldable pub generator_world : World
generator_world = fresh_world settings 3 2 2 64 1

-- the events of a length and a seed
unfoldable pub generate : ℕ → ℕ → List Event
generate n seed = generated n generator_world seed

-- what the run of these events counts
unfoldable pub work : ℕ → ℕ → Summary
work n seed = summary (run (generate n seed) generator_world).world

-- opens all of this file and of those below it
unfoldable pub generator_open : ⊤
unfolding run_open next below state_after recent even_advance uneven_advance tick ask_write ask_read ask_sync deliver effect report_success outcome report lose cut heal network crash start crash_or_start candidate_of candidate unless_refused tried choice world_left generated generator_world generate work
generator_open = tt
