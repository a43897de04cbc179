-- No event changes how many events were counted, or how many nodes and clocks there are.
use Rattle.st_lemmas.proofs.Words
use Words.{◌≡◌, ℕ, zero, suc, Bool, true, false, List, [], ◌∷◌, length, set, refl, sym, ap, ◌∙◌, arith, if◌then◌else◌, Result, Ok, Err, ◌==◌, Option, Some}
use Words.{None, BlockAt, Command, ClientId, NodeId, ServerId, Ask, Event, Message, Note, Output, ClientInput, ServerInput, StepRefusal, IssuedCommand}
use Words.{SentMessage}
use Words.nodes
use Words.events
use Words.notes
use Words.outputs
use Words.Client as client
use Words.ClientState.{ClientState}
use Words.Disks.{Disks}
use Words.Events as ev
use Words.Events.{WorldTurn}
use Words.Leases.{drift_after, raise_rows}
use Words.Server as server
use Words.Server.{ServerNode}
use Words.World.{WorldClient, World, all_servers, clock_of, message_of, node_of, receiver_of, site_of}
use Rattle.st_world_parts.proofs.Later.{length-advanced}
use Rattle.st_world_events.specs.FlushSteps.{flush_each}
use Rattle.st_world.specs.Shapes.{HasSteps, IsAfter, SameShape, SameTime}
use Rattle.st_world_events.proofs.Flushed.{flushes_is}

over : {u v w : World} → SameTime u v → SameTime v w → SameTime u w
over a b = record { events = b.events ∙ a.events; clocks = b.clocks ∙ a.clocks; drift = b.drift ∙ a.drift; clients = b.clients ∙ a.clients; servers = b.servers ∙ a.servers; config = b.config ∙ a.config }

same : (w : World) → SameTime w w
same w = record { events = refl; clocks = refl; drift = refl; clients = refl; servers = refl; config = refl }

set_length : {A : Type 0} (xs : List A) (i : ℕ) (y : A) → length (set xs i y) ≡ length xs
set_length [] i y = refl
set_length (x ∷ xs) zero y = refl
set_length (x ∷ xs) (suc i) y = ap suc (set_length xs i y)

site_shape : (w : World) (c : ClientId) (site : WorldClient) → SameTime w (ev.with_site c site w)
site_shape w c site = record { events = refl; clocks = refl; drift = refl; clients = set_length w.clients _ site; servers = refl; config = refl }

node_shape : (w : World) (s : ServerId) (node : ServerNode) → SameTime w (ev.with_node s node w)
node_shape w s node = record { events = refl; clocks = refl; drift = refl; clients = refl; servers = set_length w.servers _ node; config = refl }

-- Outputs.
submits_shape : (sc : WorldTurn) (c : ClientId) (o : Option WorldClient) (number : ℕ) (at : BlockAt) (what : Command) → SameTime sc.world (ev.submits sc c o number at what).world
unfolding ev.submits
submits_shape sc c None number at what = record { events = refl; clocks = refl; drift = refl; clients = refl; servers = refl; config = refl }
submits_shape sc c (Some site) number at what = record { events = refl; clocks = refl; drift = refl; clients = refl; servers = refl; config = refl }

client_note_shape : (sc : WorldTurn) (c : ClientId) (before : ClientState) (n : Note) → SameTime sc.world (ev.client_notes sc c before n).world
unfolding ev.client_notes ev.loses ev.accepts ev.patches
client_note_shape sc c before (notes.Leased s end) = record { events = refl; clocks = refl; drift = refl; clients = refl; servers = refl; config = refl }
client_note_shape sc c before (notes.Lost s life) = record { events = refl; clocks = refl; drift = refl; clients = refl; servers = refl; config = refl }
client_note_shape sc c before (notes.Accepted f p bytes) = record { events = refl; clocks = refl; drift = refl; clients = refl; servers = refl; config = refl }
client_note_shape sc c before (notes.Patched f p at bytes) = record { events = refl; clocks = refl; drift = refl; clients = refl; servers = refl; config = refl }
client_note_shape sc c before note = record { events = refl; clocks = refl; drift = refl; clients = refl; servers = refl; config = refl }

client_says_shape : (sc : WorldTurn) (c : ClientId) (before : ClientState) (o : Output) → SameTime sc.world (ev.client_says sc c before o).world
unfolding ev.client_says ev.sends ev.answers_with
client_says_shape sc c before (outputs.Send m) = record { events = refl; clocks = refl; drift = refl; clients = refl; servers = refl; config = refl }
client_says_shape sc c before (outputs.Submit number at what) = submits_shape sc c _ number at what
client_says_shape sc c before (outputs.Answer op answer) = record { events = refl; clocks = refl; drift = refl; clients = refl; servers = refl; config = refl }
client_says_shape sc c before (outputs.Note n) = client_note_shape sc c before n

client_all_shape : (c : ClientId) (before : ClientState) (os : List Output) (sc : WorldTurn) → SameTime sc.world (ev.client_says_all c before os sc).world
unfolding ev.client_says_all
client_all_shape c before [] sc = same sc.world
client_all_shape c before (o ∷ os) sc = over (client_says_shape sc c before o) (client_all_shape c before os (ev.client_says sc c before o))

server_note_shape : (sc : WorldTurn) (s : ServerId) (n : Note) → SameTime sc.world (ev.server_notes sc s n).world
unfolding ev.server_notes ev.cuts
server_note_shape sc s (notes.Suspected c start) = record { events = refl; clocks = refl; drift = refl; clients = refl; servers = refl; config = refl }
server_note_shape sc s (notes.Stolen c life) = record { events = refl; clocks = refl; drift = refl; clients = refl; servers = refl; config = refl }
server_note_shape sc s (notes.CutDone f p) = record { events = refl; clocks = refl; drift = refl; clients = refl; servers = refl; config = refl }
server_note_shape sc s note = record { events = refl; clocks = refl; drift = refl; clients = refl; servers = refl; config = refl }

server_says_shape : (sc : WorldTurn) (s : ServerId) (o : Output) → SameTime sc.world (ev.server_says sc s o).world
unfolding ev.server_says ev.sends
server_says_shape sc s (outputs.Send m) = record { events = refl; clocks = refl; drift = refl; clients = refl; servers = refl; config = refl }
server_says_shape sc s (outputs.Note n) = server_note_shape sc s n
server_says_shape sc s o = record { events = refl; clocks = refl; drift = refl; clients = refl; servers = refl; config = refl }

server_all_shape : (s : ServerId) (os : List Output) (sc : WorldTurn) → SameTime sc.world (ev.server_says_all s os sc).world
unfolding ev.server_says_all
server_all_shape s [] sc = same sc.world
server_all_shape s (o ∷ os) sc = over (server_says_shape sc s o) (server_all_shape s os (ev.server_says sc s o))

flushed_shape : (w v : World) (c : ClientId) (state : ClientState) → record w { flushed = flush_each c state (clock_of w (nodes.Client c)) (all_servers w) w.flushed } ≡ v → SameTime w v
flushed_shape w v c state h =
    record {
      events = sym (ap (λ (x : World). x.tally.events) h);
      clocks = sym (ap (λ (x : World). x.clocks) h);
      drift = sym (ap (λ (x : World). x.drift) h);
      clients = sym (ap (λ (x : World). length x.clients) h);
      servers = sym (ap (λ (x : World). length x.servers) h);
      config = sym (ap (λ (x : World). x.config) h);
    }

-- Steps of nodes.
client_took_shape : (w : World) (c : ClientId) (site : WorldClient) (r : Result client.NodeTurn StepRefusal) → SameTime w (ev.client_took w c site r).world
unfolding ev.client_took
client_took_shape w c site (Ok t) =
    let moved = ev.with_site c (ev.at_node t.node site) w in
    let said = ev.client_says_all c site.node.state t.out (ev.quiet moved) in
    over (site_shape w c (ev.at_node t.node site))
    (over (client_all_shape c site.node.state t.out (ev.quiet moved))
    (flushed_shape said.world (ev.flushes c t.node.state (all_servers said.world) said.world) c t.node.state (flushes_is c t.node.state (all_servers said.world) said.world)))
client_took_shape w c site (Err r) = same w

client_shape : (w : World) (c : ClientId) (input : ClientInput) (o : Option WorldClient) → SameTime w (ev.at_client w c input o).world
unfolding ev.at_client ev.client_takes
client_shape w c input None = same w
client_shape w c input (Some site) = client_took_shape w c site _

server_took_shape : (w : World) (s : ServerId) (r : Result server.NodeTurn StepRefusal) → SameTime w (ev.server_took w s r).world
unfolding ev.server_took
server_took_shape w s (Ok t) = over (node_shape w s t.node) (server_all_shape s t.out (ev.quiet (ev.with_node s t.node w)))
server_took_shape w s (Err r) = same w

server_shape : (w : World) (s : ServerId) (input : ServerInput) (o : Option ServerNode) → SameTime w (ev.at_server w s input o).world
unfolding ev.at_server ev.server_takes
server_shape w s input None = same w
server_shape w s input (Some node) = server_took_shape w s _

-- Events.
ticks_shape : (w : World) (n : NodeId) → SameTime w (ev.ticks w n).world
unfolding ev.ticks
ticks_shape w (nodes.Client c) = client_shape w c _ (site_of w c)
ticks_shape w (nodes.Server s) = server_shape w s _ (node_of w s)

asks_shape : (w : World) (c : ClientId) (ask : Ask) (o : Option WorldClient) → SameTime w (ev.asks_at w c ask o).world
unfolding ev.asks_at ev.client_takes
asks_shape w c ask None = same w
asks_shape w c ask (Some site) = client_took_shape w c (ev.asked_once_more site) _

to_shape : (w : World) (m : Message) (n : NodeId) → SameTime w (ev.delivers_to w m n).world
unfolding ev.delivers_to
to_shape w m (nodes.Client c) = client_shape w c _ (site_of w c)
to_shape w m (nodes.Server s) = server_shape w s _ (node_of w s)

delivers_shape : (w : World) (o : Option SentMessage) → SameTime w (ev.delivers w o).world
unfolding ev.delivers
delivers_shape w None = same w
delivers_shape w (Some m) = to_shape w m.message (receiver_of m)

loses_shape : (w : World) (k : ℕ) (o : Option SentMessage) → SameTime w (ev.loses_message w k o)
unfolding ev.loses_message
loses_shape w k None = same w
loses_shape w k (Some m) = record { events = refl; clocks = refl; drift = refl; clients = refl; servers = refl; config = refl }

rows_length : (num den : ℕ) (steps ss : List ℕ) (rows : List (List ℕ)) → length ss ≡ length rows → length (raise_rows num den steps ss rows) ≡ length rows
unfolding raise_rows
rows_length num den steps [] [] h = refl
rows_length num den steps [] (row ∷ rows) h = absurd (omega (arith, h))
rows_length num den steps (s ∷ ss) [] h = refl
rows_length num den steps (s ∷ ss) (row ∷ rows) h = ap suc (rows_length num den steps ss rows (omega (arith, h)))

drift_length : (w : World) (steps : List ℕ) (b : Bool) → length steps ≡ length w.drift → length (if b then w.drift else drift_after w.drift steps w.config.num w.config.den) ≡ length w.drift
unfolding drift_after
drift_length w steps true h = refl
drift_length w steps false h = rows_length w.config.num w.config.den steps steps w.drift h

advances_shape : (w : World) (steps : List ℕ) → length steps ≡ length w.clocks → length steps ≡ length w.drift → IsAfter w (ev.advances w steps).world (events.Advance steps)
unfolding ev.advances ev.marks ev.drift_with
advances_shape w steps h d =
    (record { events = refl; clocks = length-advanced steps w.clocks h; drift = drift_length w steps (w.form == 1) d; clients = refl; servers = refl; config = refl }, refl)

effects_shape : (w : World) (k : ℕ) → SameTime w (ev.effects w k).world
unfolding ev.effects ev.marks
effects_shape w k = record { events = refl; clocks = refl; drift = refl; clients = refl; servers = refl; config = refl }

if_shape : (w : World) (b : Bool) (x y : WorldTurn) → SameTime w x.world → SameTime w y.world → SameTime w (if b then x else y).world
if_shape w true x y p q = p
if_shape w false x y p q = q

site_told_shape : (w : World) (k : ℕ) (ok : Bool) (c : IssuedCommand) (site : WorldClient) → SameTime w (ev.tells_site w k ok c site).world
unfolding ev.tells_site ev.client_takes
site_told_shape w k ok c site = if_shape w (ev.is_same_instance c site) (ev.client_takes w c.client (ev.end_told w k ok c) site) (ev.quiet w) (client_took_shape w c.client site _) (same w)

client_told_shape : (w : World) (k : ℕ) (ok : Bool) (c : IssuedCommand) (o : Option WorldClient) → SameTime w (ev.tells_client w k ok c o).world
unfolding ev.tells_client
client_told_shape w k ok c None = same w
client_told_shape w k ok c (Some site) = site_told_shape w k ok c site

tells_shape : (w : World) (k : ℕ) (ok : Bool) (o : Option IssuedCommand) → SameTime w (ev.tells w k ok o).world
unfolding ev.tells
tells_shape w k ok None = same w
tells_shape w k ok (Some c) = client_told_shape w k ok c (site_of w c.client)

disks_shape : (w : World) (d : Disks) → SameTime w (ev.with_disks d w)
disks_shape w d = record { events = refl; clocks = refl; drift = refl; clients = refl; servers = refl; config = refl }

reports_shape : (w : World) (k : ℕ) (ok : Bool) → SameTime w (ev.reports_of w k ok).world
unfolding ev.reports_of
reports_shape w k ok = over (disks_shape w _) (tells_shape _ k ok _)

crash_client_shape : (w : World) (c : ClientId) (o : Option WorldClient) → SameTime w (ev.crashes_client w c o).world
unfolding ev.crashes_client ev.marks
crash_client_shape w c None = same w
crash_client_shape w c (Some site) = record { events = refl; clocks = refl; drift = refl; clients = set_length w.clients _ _; servers = refl; config = refl }

crash_server_shape : (w : World) (s : ServerId) (o : Option ServerNode) → SameTime w (ev.crashes_server w s o)
unfolding ev.crashes_server
crash_server_shape w s None = same w
crash_server_shape w s (Some node) = node_shape w s _

crashes_shape : (w : World) (n : NodeId) → SameTime w (ev.crashes w n).world
unfolding ev.crashes
crashes_shape w (nodes.Client c) = crash_client_shape w c (site_of w c)
crashes_shape w (nodes.Server s) = crash_server_shape w s (node_of w s)

start_client_shape : (w : World) (c : ClientId) (o : Option WorldClient) → SameTime w (ev.starts_client w c o)
unfolding ev.starts_client
start_client_shape w c None = same w
start_client_shape w c (Some site) = site_shape w c _

start_server_shape : (w : World) (s : ServerId) (o : Option ServerNode) → SameTime w (ev.starts_server w s o)
unfolding ev.starts_server
start_server_shape w s None = same w
start_server_shape w s (Some node) = node_shape w s _

starts_shape : (w : World) (n : NodeId) → SameTime w (ev.starts w n)
unfolding ev.starts
starts_shape w (nodes.Client c) = start_client_shape w c (site_of w c)
starts_shape w (nodes.Server s) = start_server_shape w s (node_of w s)

-- every event
pub happens_after : (w : World) (e : Event) → HasSteps w e → IsAfter w (ev.happens w e).world e
unfolding ev.happens
happens_after w (events.Tick n) h = ticks_shape w n
happens_after w (events.App c ask) h = asks_shape w c ask (site_of w c)
happens_after w (events.Deliver k) h = delivers_shape w (message_of w k)
happens_after w (events.Lose k) h = loses_shape w k (message_of w k)
happens_after w (events.Cut from to) h = record { events = refl; clocks = refl; drift = refl; clients = refl; servers = refl; config = refl }
happens_after w (events.Heal from to) h = record { events = refl; clocks = refl; drift = refl; clients = refl; servers = refl; config = refl }
happens_after w (events.Advance steps) h = let p = h steps refl in advances_shape w steps p.0 p.1
happens_after w (events.Effect k) h = effects_shape w k
happens_after w (events.Report k ok) h = reports_shape w k ok
happens_after w (events.Crash n) h = crashes_shape w n
happens_after w (events.Start n) h = starts_shape w n

as_shape : (v w : World) → SameTime v w → SameShape v w
as_shape v w s = record { events = s.events; clocks = ap length s.clocks; drift = ap length s.drift; clients = s.clients; servers = s.servers; config = s.config }

-- the shape that every event leaves
pub shape_after : (v w : World) (e : Event) → IsAfter v w e → SameShape v w
shape_after v w (events.Advance steps) a = a.0
shape_after v w e a = as_shape v w a

pub happens_shape : (w : World) (e : Event) → HasSteps w e → SameShape w (ev.happens w e).world
happens_shape w e h = shape_after w (ev.happens w e).world e (happens_after w e h)
