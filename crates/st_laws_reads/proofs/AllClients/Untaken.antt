-- What is observed at an event at which no client takes an input has a fact that servers keep and fates have.
use Rattle.st_lemmas.proofs.Words
use Words.{◌≡◌, ℕ, Bool, true, false, List, [], Option, Some, None, Ok, Err, if◌then◌else◌, Result, ClientId, NodeId, ServerId, Ask, Event, Message, Output}
use Words.{ClientInput, ServerInput, LogEntry, StepRefusal, Observation, IssuedCommand, SentMessage}
use Words.nodes
use Words.events
use Words.inputs
use Words.serving
use Words.Disks as disks
use Words.Events as ev
use Words.Events.{WorldTurn, happens}
use Words.Server as server
use Words.Server.{ServerNode}
use Words.World.{World, WorldClient, clock_of, issued_of, message_of, node_of, receiver_of, site_of}
use Words.Truth.{some_not_none}
use Rattle.st_laws_reads.specs.Copies.World.{asking, receiving, receiving_of, taken, taking, told_at, told_of}

module _ (S : List Observation → Type 0) (none : S []) (says : (s : ServerId) (os : List Output) (sc : WorldTurn) → S sc.seen → S (ev.server_says_all s os sc).seen)
    (of_fates : (k : ℕ) (es fs : List LogEntry) → S (ev.fates_from k es fs)) where
  at_client : (w : World) (c : ClientId) (input : ClientInput) (o : Option WorldClient) → taking w c input o ≡ None → S (ev.at_client w c input o).seen
  unfolding ev.at_client
  at_client w c input None e = none
  at_client w c input (Some site) e = absurd (some_not_none _ e)

  at_ask : (w : World) (c : ClientId) (ask : Ask) (o : Option WorldClient) → asking w c ask o ≡ None → S (ev.asks_at w c ask o).seen
  unfolding ev.asks_at
  at_ask w c ask None e = none
  at_ask w c ask (Some site) e = absurd (some_not_none _ e)

  at_server : (w : World) (s : ServerId) (input : ServerInput) (o : Option ServerNode) → S (ev.at_server w s input o).seen
  unfolding ev.at_server ev.server_takes ev.server_took
  at_server w s input None = none
  at_server w s input (Some node) = go (server.node_step node (clock_of w (nodes.Server s)) input)
    where
      go : (r : Result server.NodeTurn StepRefusal) → S (ev.server_took w s r).seen
      go (Err e) = none
      go (Ok t) = says s t.out (ev.quiet (ev.with_node s t.node w)) none

  at_node : (w : World) (m : Message) (n : NodeId) → receiving w m n ≡ None → S (ev.delivers_to w m n).seen
  unfolding ev.delivers_to
  at_node w m (nodes.Client c) e = at_client w c (inputs.Control m) (site_of w c) e
  at_node w m (nodes.Server s) e = at_server w s (serving.Control m) (node_of w s)

  at_message : (w : World) (o : Option SentMessage) → receiving_of w o ≡ None → S (ev.delivers w o).seen
  unfolding ev.delivers
  at_message w None e = none
  at_message w (Some m) e = at_node w m.message (receiver_of m) e

  at_end : (w : World) (k : ℕ) (ok : Bool) (o : Option IssuedCommand) → told_of w k ok o ≡ None → S (ev.tells w k ok o).seen
  unfolding ev.tells ev.tells_client ev.tells_site
  at_end w k ok None e = none
  at_end w k ok (Some y) e = at_site (site_of w y.client) e
    where
      at : (site : WorldClient) (b : Bool) → (if b then taking w y.client (ev.end_told w k ok y) (Some site) else None) ≡ None → S (if b then ev.client_takes w y.client (ev.end_told w k ok y) site else ev.quiet w).seen
      at site true e = absurd (some_not_none _ e)
      at site false e = none

      at_site : (s : Option WorldClient) → told_at w k ok y s ≡ None → S (ev.tells_client w k ok y s).seen
      at_site None e = none
      at_site (Some site) e = at site (ev.is_same_instance y site) e

  pub others : (w : World) (e : Event) → taken w e ≡ None → S (happens w e).seen
  unfolding ev.happens ev.ticks ev.loses_message ev.reports_of ev.advances ev.effects ev.marks ev.crashes ev.crashes_client ev.starts
  others w (events.Tick (nodes.Client c)) t = at_client w c inputs.Tick (site_of w c) t
  others w (events.Tick (nodes.Server s)) t = at_server w s serving.Tick (node_of w s)
  others w (events.App c ask) t = at_ask w c ask (site_of w c) t
  others w (events.Deliver n) t = at_message w (message_of w n) t
  others w (events.Lose n) t = none
  others w (events.Cut x y) t = none
  others w (events.Heal x y) t = none
  others w (events.Advance steps) t = of_fates 1 w.log _
  others w (events.Effect n) t = of_fates 1 w.log _
  others w (events.Report n ok) t = at_end (ev.with_disks (ev.disks_after w.disks (disks.done w.disks n ok)) w) n ok (issued_of w n) t
  others w (events.Crash (nodes.Client c)) t = go (site_of w c)
    where
      go : (s : Option WorldClient) → S (ev.crashes_client w c s).seen
      go None = none
      go (Some site) = of_fates 1 w.log _
  others w (events.Crash (nodes.Server s)) t = none
  others w (events.Start (nodes.Client c)) t = none
  others w (events.Start (nodes.Server s)) t = none
