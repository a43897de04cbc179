-- Every event but an advance leaves the settings, the form of the head and the numbers of drift.
use Rattle.st_lemmas.proofs.Words
use Words.{◌≡◌, ℕ, Bool, true, false, List, [], ◌∷◌, refl, ◌∙◌, if◌then◌else◌, Option, Some, None, Result, Ok, Err, Config, ClientId, ServerId, NodeId, Stamp}
use Words.{Ask, Event, Note, Output, ClientInput, ServerInput, Phase, StepRefusal, IssuedCommand, SentMessage}
use Words.nodes
use Words.events
use Words.notes
use Words.outputs
use Words.phases
use Words.Client as client
use Words.ClientState.{ClientState}
use Words.Disks as disks
use Words.Server as server
use Words.Server.{ServerNode}
use Words.World.{World, WorldClient, all_servers, clock_of, message_of, node_of, receiver_of, site_of}
use Words.Events as ev
use Words.Events.{WorldTurn, accepts, answers_with, asks_at, at_client, at_node, at_server, client_notes, client_says, client_says_all, client_takes}
use Words.Events.{client_took, crashes, crashes_client, crashes_server, cuts, delivers, delivers_to, effects, flushed_at, flushed_in, flushes, happens}
use Words.Events.{is_same_instance, loses, loses_message, marks, patches, quiet, reports_of, sends, server_notes, server_says, server_says_all, server_takes}
use Words.Events.{server_took, starts, starts_client, starts_server, submits, tells, tells_client, tells_site, ticks, with_site}
use Rattle.st_laws_clocks.specs.Increments.{increments_of}

-- what the bound on clocks speaks of
abbrev pub rates : World → Config × ℕ × List (List ℕ)
rates w = (w.config, w.form, w.drift)

-- A client's step.

client_notes_keeps : (sc : WorldTurn) (c : ClientId) (before : ClientState) (n : Note) → rates (client_notes sc c before n).world ≡ rates sc.world
unfolding client_notes accepts patches loses
client_notes_keeps sc c before (notes.Leased s end) = refl
client_notes_keeps sc c before (notes.Lost s life) = refl
client_notes_keeps sc c before (notes.Accepted f p bytes) = refl
client_notes_keeps sc c before (notes.Patched f p at bytes) = refl
client_notes_keeps sc c before (notes.Suspected d start) = refl
client_notes_keeps sc c before (notes.Stolen d life) = refl
client_notes_keeps sc c before (notes.CutDone f p) = refl

client_says_keeps : (sc : WorldTurn) (c : ClientId) (before : ClientState) (o : Output) → rates (client_says sc c before o).world ≡ rates sc.world
unfolding client_says sends submits answers_with
client_says_keeps sc c before (outputs.Send m) = refl
client_says_keeps sc c before (outputs.Submit number at what) = go (site_of sc.world c)
  where
    go : (site : Option WorldClient) → rates (submits sc c site number at what).world ≡ rates sc.world
    go None = refl
    go (Some site) = refl
client_says_keeps sc c before (outputs.Answer op answer) = refl
client_says_keeps sc c before (outputs.Note n) = client_notes_keeps sc c before n

client_says_all_keeps : (c : ClientId) (before : ClientState) (os : List Output) (sc : WorldTurn) →
    rates (client_says_all c before os sc).world ≡ rates sc.world
unfolding client_says_all
client_says_all_keeps c before [] sc = refl
client_says_all_keeps c before (o ∷ os) sc = client_says_all_keeps c before os (client_says sc c before o) ∙ client_says_keeps sc c before o

flushed_keeps : (w : World) (c : ClientId) (s : ServerId) (end : Option Stamp) (phase : Option Phase) → rates (flushed_in w c s end phase) ≡ rates w
flushed_keeps w c s None (Some phases.Flush) = refl
flushed_keeps w c s (Some end) (Some phases.Flush) = refl
flushed_keeps w c s end (Some phases.Valid) = refl
flushed_keeps w c s end (Some phases.Renewal) = refl
flushed_keeps w c s end (Some phases.Quiesce) = refl
flushed_keeps w c s end (Some phases.Expired) = refl
flushed_keeps w c s end None = refl

flushes_keeps : (c : ClientId) (state : ClientState) (ss : List ServerId) (w : World) → rates (flushes c state ss w) ≡ rates w
unfolding flushes
flushes_keeps c state [] w = refl
flushes_keeps c state (s ∷ ss) w =
    flushes_keeps c state ss (flushed_at w c s state)
    ∙ flushed_keeps w c s (client.lease_end_with state s) (client.phase_with state s (clock_of w (nodes.Client c)))

client_took_keeps : (w : World) (c : ClientId) (site : WorldClient) (r : Result client.NodeTurn StepRefusal) → rates (client_took w c site r).world ≡ rates w
unfolding client_took
client_took_keeps w c site (Err r) = refl
client_took_keeps w c site (Ok t) =
    let said : WorldTurn = client_says_all c site.node.state t.out (quiet (with_site c (at_node t.node site) w)) in
    flushes_keeps c t.node.state (all_servers said.world) said.world ∙
    client_says_all_keeps c site.node.state t.out (quiet (with_site c (at_node t.node site) w))

client_takes_keeps : (w : World) (c : ClientId) (input : ClientInput) (site : WorldClient) → rates (client_takes w c input site).world ≡ rates w
unfolding client_takes
client_takes_keeps w c input site = client_took_keeps w c site (client.node_step site.node (clock_of w (nodes.Client c)) input)

at_client_keeps : (w : World) (c : ClientId) (input : ClientInput) (site : Option WorldClient) → rates (at_client w c input site).world ≡ rates w
unfolding at_client
at_client_keeps w c input None = refl
at_client_keeps w c input (Some site) = client_takes_keeps w c input site

-- A server's step.

server_notes_keeps : (sc : WorldTurn) (s : ServerId) (n : Note) → rates (server_notes sc s n).world ≡ rates sc.world
unfolding server_notes cuts
server_notes_keeps sc s (notes.Suspected c start) = refl
server_notes_keeps sc s (notes.Stolen c life) = refl
server_notes_keeps sc s (notes.CutDone f p) = refl
server_notes_keeps sc s (notes.Leased t end) = refl
server_notes_keeps sc s (notes.Lost t life) = refl
server_notes_keeps sc s (notes.Accepted f p bytes) = refl
server_notes_keeps sc s (notes.Patched f p at bytes) = refl

server_says_keeps : (sc : WorldTurn) (s : ServerId) (o : Output) → rates (server_says sc s o).world ≡ rates sc.world
unfolding server_says sends
server_says_keeps sc s (outputs.Send m) = refl
server_says_keeps sc s (outputs.Note n) = server_notes_keeps sc s n
server_says_keeps sc s (outputs.Submit number at what) = refl
server_says_keeps sc s (outputs.Answer op answer) = refl

server_says_all_keeps : (s : ServerId) (os : List Output) (sc : WorldTurn) → rates (server_says_all s os sc).world ≡ rates sc.world
unfolding server_says_all
server_says_all_keeps s [] sc = refl
server_says_all_keeps s (o ∷ os) sc = server_says_all_keeps s os (server_says sc s o) ∙ server_says_keeps sc s o

at_server_keeps : (w : World) (s : ServerId) (input : ServerInput) (node : Option ServerNode) → rates (at_server w s input node).world ≡ rates w
unfolding at_server server_takes server_took
at_server_keeps w s input None = refl
at_server_keeps w s input (Some node) = go (server.node_step node (clock_of w (nodes.Server s)) input)
  where
    go : (r : Result server.NodeTurn StepRefusal) → rates (server_took w s r).world ≡ rates w
    go (Ok t) = server_says_all_keeps s t.out (quiet (ev.with_node s t.node w))
    go (Err r) = refl

-- Events.

delivers_keeps : (w : World) (m : Option SentMessage) → rates (delivers w m).world ≡ rates w
unfolding delivers delivers_to
delivers_keeps w None = refl
delivers_keeps w (Some m) = go (receiver_of m)
  where
    go : (n : NodeId) → rates (delivers_to w m.message n).world ≡ rates w
    go (nodes.Client c) = at_client_keeps w c _ (site_of w c)
    go (nodes.Server s) = at_server_keeps w s _ (node_of w s)

loses_keeps : (w : World) (k : ℕ) (m : Option SentMessage) → rates (loses_message w k m) ≡ rates w
unfolding loses_message
loses_keeps w k None = refl
loses_keeps w k (Some m) = refl

tells_keeps : (w : World) (k : ℕ) (ok : Bool) (c : Option IssuedCommand) → rates (tells w k ok c).world ≡ rates w
unfolding tells tells_client tells_site
tells_keeps w k ok None = refl
tells_keeps w k ok (Some c) = go (site_of w c.client)
  where
    by_instance : (site : WorldClient) (b : Bool) → rates (if b then client_takes w c.client (ev.end_told w k ok c) site else quiet w).world ≡ rates w
    by_instance site true = client_takes_keeps w c.client (ev.end_told w k ok c) site
    by_instance site false = refl

    go : (site : Option WorldClient) → rates (tells_client w k ok c site).world ≡ rates w
    go None = refl
    go (Some site) = by_instance site (is_same_instance c site)

crashes_keeps : (w : World) (n : NodeId) → rates (crashes w n).world ≡ rates w
unfolding crashes crashes_client crashes_server marks
crashes_keeps w (nodes.Client c) = go (site_of w c)
  where
    go : (site : Option WorldClient) → rates (crashes_client w c site).world ≡ rates w
    go None = refl
    go (Some site) = refl
crashes_keeps w (nodes.Server s) = go (node_of w s)
  where
    go : (node : Option ServerNode) → rates (crashes_server w s node) ≡ rates w
    go None = refl
    go (Some node) = refl

starts_keeps : (w : World) (n : NodeId) → rates (starts w n) ≡ rates w
unfolding starts starts_client starts_server
starts_keeps w (nodes.Client c) = go (site_of w c)
  where
    go : (site : Option WorldClient) → rates (starts_client w c site) ≡ rates w
    go None = refl
    go (Some site) = refl
starts_keeps w (nodes.Server s) = go (node_of w s)
  where
    go : (node : Option ServerNode) → rates (starts_server w s node) ≡ rates w
    go None = refl
    go (Some node) = refl

ticks_keeps : (w : World) (n : NodeId) → rates (ticks w n).world ≡ rates w
unfolding ticks
ticks_keeps w (nodes.Client c) = at_client_keeps w c _ (site_of w c)
ticks_keeps w (nodes.Server s) = at_server_keeps w s _ (node_of w s)

asks_keeps : (w : World) (c : ClientId) (ask : Ask) (site : Option WorldClient) → rates (asks_at w c ask site).world ≡ rates w
unfolding asks_at
asks_keeps w c ask None = refl
asks_keeps w c ask (Some site) = client_takes_keeps w c _ _

-- after an event that isn't an advance
pub others_keep : (w : World) (e : Event) → increments_of e ≡ [] → rates (happens w e).world ≡ rates w
unfolding happens effects marks reports_of
others_keep w (events.Tick n) none = ticks_keeps w n
others_keep w (events.App c ask) none = asks_keeps w c ask (site_of w c)
others_keep w (events.Deliver k) none = delivers_keeps w (message_of w k)
others_keep w (events.Lose k) none = loses_keeps w k (message_of w k)
others_keep w (events.Cut from to) none = refl
others_keep w (events.Heal from to) none = refl
others_keep w (events.Advance steps) none = absurd cc
others_keep w (events.Effect k) none = refl
others_keep w (events.Report k ok) none = tells_keeps (ev.with_disks (ev.disks_after w.disks (disks.done w.disks k ok)) w) k ok _
others_keep w (events.Crash n) none = crashes_keeps w n
others_keep w (events.Start n) none = starts_keeps w n

-- after an advance
pub advance_keeps : (w : World) (steps : List ℕ) → rates (happens w (events.Advance steps)).world ≡ (w.config, w.form, ev.drift_with w steps)
unfolding happens ev.advances marks
advance_keeps w steps = refl
