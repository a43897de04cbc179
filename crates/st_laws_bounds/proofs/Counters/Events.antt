-- The bounds of counters after each event, if they hold in a few cases.
use Rattle.st_lemmas.proofs.Words
use Words.{◌≡◌, ℕ, ◌+◌, ◌≤◌, Bool, true, false, List, [], ◌∷◌, Option, Some, None, Ok, Err, refl, ◌∙◌, arith, if◌then◌else◌, length, pred, ClientId, FileId}
use Words.{NodeId, PageNo, ServerId, Event, Message, ClientInput, ServerInput, Cause, LogEntry, LogOwner, Carried, IssuedCommand, LeaseLife, SentMessage}
use Words.nodes
use Words.events
use Words.inputs
use Words.Client as cl
use Words.Disks as disks
use Words.Disks.{Disks}
use Words.Events as ev
use Words.FlatLog as log
use Words.Server as sv
use Words.Server.{ServerNode}
use Words.World as world
use Words.World.{World, WorldClient, clock_of, issued_of, node_of, site_of}
use Words.Numbers.{set_length}
use Rattle.st_rules.specs.declared.node.StepRefusal.TheVariants.{Crashed}
use Rattle.st_lemmas.proofs.Marks.{length_drop, length_harden}

-- No nodes and no counts change, the rows of the world do not get fewer, and there are as many commands and messages.
pub record Beside (w v : World) : Type 0 where
  pub clients : v.clients ≡ w.clients
  pub servers : v.servers ≡ w.servers
  pub tally : v.tally ≡ w.tally
  pub commands : length v.commands ≡ length w.commands
  pub log : length w.log ≤ length v.log
  pub ended : length w.ended ≤ length v.ended
  pub messages : length v.net.messages ≡ length w.net.messages

-- the step of a client's node, and of a server's
abbrev pub ClientSteps : World → ClientId → WorldClient → ClientInput → cl.NodeTurn
ClientSteps w c site input = cl.node_turn site.node (cl.client_step site.node.state (clock_of w (nodes.Client c)) input)

abbrev pub ServerSteps : World → ServerId → ServerNode → ServerInput → sv.NodeTurn
ServerSteps w s node input = sv.node_turn node (sv.server_step node.state (clock_of w (nodes.Server s)) input)

-- the site that takes an input: as it was, or with one more ask
pub record Takes (old site : WorldClient) (input : ClientInput) : Type 0 where
  pub node : old.node ≡ site.node
  pub starts : old.starts ≡ site.starts
  pub asks : site.asks ≤ old.asks + 1

-- The cases, from what held before to what holds after.
pub record Cases (I O : World → Type 0) : Type 0 where
  pub beside : (w v : World) → Beside w v → I w → I v
  pub done : (w : World) → I w → O w
  pub client : (w : World) (c : ClientId) (input : ClientInput) (old site : WorldClient) → site_of w c ≡ Some old → Takes old site input → site.node.running ≡ true → I w → O (ev.client_took w c site (Ok (ClientSteps w c site input))).world
  pub server : (w : World) (s : ServerId) (input : ServerInput) (node : ServerNode) → node_of w s ≡ Some node → node.running ≡ true → I w → O (ev.server_took w s (Ok (ServerSteps w s node input))).world
  pub crash : (w : World) (c : ClientId) (site : WorldClient) (es : List LogEntry) → site_of w c ≡ Some site → length es ≡ length w.log → I w → O (ev.with_log es (ev.with_site c (ev.stopped_site site) (ev.with_crashed_lives site w)))
  pub start : (w : World) (c : ClientId) (site : WorldClient) → site_of w c ≡ Some site → I w → O (ev.with_site c (ev.started_site site) w)
  pub stop : (w : World) (s : ServerId) (node : ServerNode) → node_of w s ≡ Some node → I w → O (ev.with_node s (sv.crash_node node) w)
  pub begin : (w : World) (s : ServerId) (node : ServerNode) → node_of w s ≡ Some node → I w → O (ev.with_node s (sv.start_node node (clock_of w (nodes.Server s))) w)

-- The log keeps its length.
dropped_length : (es : List LogEntry) (picked : ℕ → LogOwner → Bool) (cause : FileId → PageNo → Cause) → length (log.drop_picked es picked cause) ≡ length es
unfolding log.drop_picked
dropped_length es picked cause = length_drop 1 picked cause es

ended_length : (cs : List IssuedCommand) (ls : List LeaseLife) (es : List LogEntry) → length (ev.log_ended_all cs ls es) ≡ length es
unfolding ev.log_ended_all ev.log_ended
ended_length cs [] es = refl
ended_length cs (e ∷ ls) es = ended_length cs ls (ev.log_ended cs e es) ∙ dropped_length es (ev.is_of_life_over e) (ev.cause_at_end cs e)

hard_length : (es : List LogEntry) (x : Option Carried) → length (ev.log_hard es x) ≡ length es
unfolding log.harden log.harden_at
hard_length es None = refl
hard_length es (Some x) = go (log.entry_at es x.index)
  where
    go : (o : Option LogEntry) → length (log.harden_at es x.index o) ≡ length es
    go None = refl
    go (Some e) = length_harden 1 x.index e.of es

no_fewer : (m n : ℕ) → m ≡ n → n ≤ m
no_fewer m n e = omega (arith, e)

-- worlds that differ in their clocks, the fates of entries, the disks, or what is lost or cut in the network
beside_log : (w : World) (es : List LogEntry) → length es ≡ length w.log → Beside w (ev.with_log es w)
beside_log w es e = record { clients = refl; servers = refl; tally = refl; commands = refl; log = no_fewer (length es) (length w.log) e; ended = omega arith; messages = refl }

beside_clocks : (steps : List ℕ) (w : World) → Beside w (ev.with_clocks steps w)
beside_clocks steps w = record { clients = refl; servers = refl; tally = refl; commands = refl; log = omega arith; ended = omega arith; messages = refl }

beside_disks : (d : Disks) (w : World) → Beside w (ev.with_disks d w)
beside_disks d w = record { clients = refl; servers = refl; tally = refl; commands = refl; log = omega arith; ended = omega arith; messages = refl }

beside_cut : (from to : NodeId) (w : World) → Beside w (ev.with_cut from to w)
beside_cut from to w = record { clients = refl; servers = refl; tally = refl; commands = refl; log = omega arith; ended = omega arith; messages = refl }

beside_heal : (from to : NodeId) (w : World) → Beside w (ev.without_cut from to w)
beside_heal from to w = record { clients = refl; servers = refl; tally = refl; commands = refl; log = omega arith; ended = omega arith; messages = refl }

beside_lost : (n : ℕ) (m : SentMessage) (w : World) → Beside w (ev.with_lost n m w)
beside_lost n m w =
    record {
      clients = refl;
      servers = refl;
      tally = refl;
      commands = refl;
      log = omega arith;
      ended = omega arith;
      messages = set_length w.net.messages (pred n) (record m { lost = true });
    }

module _ (I O : World → Type 0) (k : Cases I O) where
  takes : (w : World) (c : ClientId) (input : ClientInput) (old site : WorldClient) → site_of w c ≡ Some old → Takes old site input → I w → (site.node.running ≡ false → O w) → O (ev.client_takes w c input site).world
  unfolding cl.node_step ev.client_takes ev.client_took
  takes w c input old site there same h off = go site.node.running refl
    where
      go : (b : Bool) → site.node.running ≡ b → O (ev.client_took w c site (if b then Ok (ClientSteps w c site input) else Err Crashed)).world
      go true r = k.client w c input old site there same r h
      go false r = off r

  at_client : (w : World) (c : ClientId) (input : ClientInput) (o : Option WorldClient) → site_of w c ≡ o → I w → O (ev.at_client w c input o).world
  unfolding ev.at_client
  at_client w c input None e h = k.done w h
  at_client w c input (Some site) e h = takes w c input site site e (record { node = refl; starts = refl; asks = omega arith }) h (λ r. k.done w h)

  at_server : (w : World) (s : ServerId) (input : ServerInput) (o : Option ServerNode) → node_of w s ≡ o → I w → O (ev.at_server w s input o).world
  unfolding ev.at_server ev.server_takes ev.server_took sv.node_step
  at_server w s input None e h = k.done w h
  at_server w s input (Some node) e h = go node.running refl
    where
      go : (b : Bool) → node.running ≡ b → O (ev.server_took w s (if b then Ok (ServerSteps w s node input) else Err Crashed)).world
      go true r = k.server w s input node e r h
      go false r = k.done w h

  besides : (w v : World) → Beside w v → I w → O v
  besides w v b h = k.done v (k.beside w v b h)

  -- every event
  pub each_event : (w : World) (e : Event) → I w → O (ev.happens w e).world
  unfolding ev.happens ev.ticks ev.asks_at ev.delivers ev.delivers_to ev.loses_message ev.marks ev.effects ev.advances ev.reports_of ev.tells ev.tells_client ev.tells_site ev.crashes ev.crashes_client ev.crashes_server ev.starts ev.starts_client ev.starts_server ev.log_crashed
  each_event w (events.Tick (nodes.Client c)) h = at_client w c _ (site_of w c) refl h
  each_event w (events.Tick (nodes.Server s)) h = at_server w s _ (node_of w s) refl h
  each_event w (events.App c ask) h = go (site_of w c) refl
    where
      go : (o : Option WorldClient) → site_of w c ≡ o → O (ev.asks_at w c ask o).world
      go None e = k.done w h
      go (Some site) e = takes w c (inputs.App (site.asks + 1) ask) site (ev.asked_once_more site) e (record { node = refl; starts = refl; asks = omega arith }) h (λ r. k.done w h)
  each_event w (events.Deliver n) h = go (world.message_of w n)
    where
      to : (m : Message) (x : NodeId) → O (ev.delivers_to w m x).world
      to m (nodes.Client c) = at_client w c _ (site_of w c) refl h
      to m (nodes.Server s) = at_server w s _ (node_of w s) refl h

      go : (m : Option SentMessage) → O (ev.delivers w m).world
      go None = k.done w h
      go (Some m) = to m.message (world.receiver_of m)
  each_event w (events.Lose n) h = go (world.message_of w n)
    where
      go : (m : Option SentMessage) → O (ev.loses_message w n m)
      go None = k.done w h
      go (Some m) = besides w (ev.with_lost n m w) (beside_lost n m w) h
  each_event w (events.Cut from to) h = besides w (ev.with_cut from to w) (beside_cut from to w) h
  each_event w (events.Heal from to) h = besides w (ev.without_cut from to w) (beside_heal from to w) h
  each_event w (events.Advance steps) h =
      let v = ev.with_clocks steps w in
      let es = ev.log_ended_all w.commands (ev.lives_reached w steps) w.log in
      besides v (ev.with_log es v) (beside_log v es (ended_length w.commands (ev.lives_reached w steps) w.log)) (k.beside w v (beside_clocks steps w) h)
  each_event w (events.Effect n) h =
      let v = ev.with_disks (ev.disks_after w.disks (disks.effect w.disks n)) w in
      let es = ev.log_hard w.log (ev.carried_by (issued_of w n)) in
      besides v (ev.with_log es v) (beside_log v es (hard_length w.log (ev.carried_by (issued_of w n)))) (k.beside w v (beside_disks _ w) h)
  each_event w (events.Report n ok) h = go (issued_of w n)
    where
      v : World
      v = ev.with_disks (ev.disks_after w.disks (disks.done w.disks n ok)) w

      g : I v
      g = k.beside w v (beside_disks _ w) h

      same : (x : IssuedCommand) (site : WorldClient) → site_of v x.client ≡ Some site → (b : Bool) → O (if b then ev.client_takes v x.client (ev.end_told v n ok x) site else ev.quiet v).world
      same x site e true = takes v x.client (ev.end_told v n ok x) site site e (record { node = refl; starts = refl; asks = omega arith }) g (λ r. k.done v g)
      same x site e false = k.done v g

      told : (x : IssuedCommand) (o : Option WorldClient) → site_of v x.client ≡ o → O (ev.tells_client v n ok x o).world
      told x None e = k.done v g
      told x (Some site) e = same x site e (ev.is_same_instance x site)

      go : (o : Option IssuedCommand) → O (ev.tells v n ok o).world
      go None = k.done v g
      go (Some x) = told x (site_of v x.client) refl
  each_event w (events.Crash (nodes.Client c)) h = go (site_of w c) refl
    where
      go : (o : Option WorldClient) → site_of w c ≡ o → O (ev.crashes_client w c o).world
      go None e = k.done w h
      go (Some site) e = k.crash w c site (ev.log_crashed w c) e (dropped_length w.log _ _) h
  each_event w (events.Crash (nodes.Server s)) h = go (node_of w s) refl
    where
      go : (o : Option ServerNode) → node_of w s ≡ o → O (ev.crashes_server w s o)
      go None e = k.done w h
      go (Some node) e = k.stop w s node e h
  each_event w (events.Start (nodes.Client c)) h = go (site_of w c) refl
    where
      go : (o : Option WorldClient) → site_of w c ≡ o → O (ev.starts_client w c o)
      go None e = k.done w h
      go (Some site) e = k.start w c site e h
  each_event w (events.Start (nodes.Server s)) h = go (node_of w s) refl
    where
      go : (o : Option ServerNode) → node_of w s ≡ o → O (ev.starts_server w s o)
      go None e = k.done w h
      go (Some node) e = k.begin w s node e h
