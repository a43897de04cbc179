-- What holds of a world holds after each event if it does so in a few cases.
use Rattle.st_lemmas.proofs.Words
use Words.{◌≡◌, ℕ, Bool, true, false, List, [], ◌∷◌, ◌++◌, Option, Some, None, Ok, Err, refl, if◌then◌else◌, Result, ClientId, FileId, PageNo, ServerId, NodeId}
use Words.{Message, Event, Note, Output, ClientInput, ServerInput, StepRefusal, Carried, IssuedCommand, SentMessage}
use Words.nodes
use Words.events
use Words.notes
use Words.outputs
use Words.FlatLog as log
use Words.Disks as disks
use Words.Disks.{Disks}
use Words.Client as cl
use Words.Server as server
use Words.Server.{ServerNode}
use Words.World as world
use Words.World.{World, WorldClient, Net, Tally, site_of, node_of, issued_of, clock_of}
use Words.Admissible as adm
use Words.Events as ev
use Words.Events.{WorldTurn}
use Rattle.st_rules.specs.declared.node.StepRefusal.TheVariants.{Crashed}
use Rattle.st_laws_pages.proofs.Disks.Opens.{GoesOn, goes_effect, goes_report, goes_same}
use Rattle.st_laws_pages.proofs.Lives.LifeSteps.{runs_is, stopped_is}

-- a world with another network, other servers, disks and counts
abbrev pub Besides : World → Net → List ServerNode → Disks → Tally → World
Besides w n s d t = record w { net = n; servers = s; disks = d; tally = t }

-- the step of a client's node
abbrev pub SteppedNode : World → ClientId → WorldClient → ClientInput → cl.NodeTurn
SteppedNode w c site input = cl.node_turn site.node (cl.client_step site.node.state (clock_of w (nodes.Client c)) input)

-- The cases: Crash says which crashes of clients there are.
pub record Cases (Crash : ClientId → Type 0) (I : World → Type 0) : Type 0 where
  pub besides : (w : World) (n : Net) (s : List ServerNode) (d : Disks) (t : Tally) → GoesOn w.disks.commands d.commands → I w → I (Besides w n s d t)
  pub cut : (w : World) (f : FileId) (p : PageNo) → I w → I (ev.with_log (w.log ++ log.hard_cut f p ∷ []) w)
  pub hard : (w : World) (x : Option Carried) → I w → I (ev.with_log (ev.log_hard w.log x) w)
  pub client : (w : World) (c : ClientId) (input : ClientInput) (old site : WorldClient) → site_of w c ≡ Some old → old.node ≡ site.node → site.node.running ≡ true → I w → I (ev.client_took w c site (Ok (SteppedNode w c site input))).world
  pub advance : (w : World) (steps : List ℕ) → I w → I (ev.advances w steps).world
  pub crash : (w : World) (c : ClientId) (site : WorldClient) → Crash c → site_of w c ≡ Some site → site.node.running ≡ true → I w → I (ev.crashes_client w c (Some site)).world
  pub start : (w : World) (c : ClientId) (site : WorldClient) → site_of w c ≡ Some site → site.node.running ≡ false → I w → I (ev.starts_client w c (Some site))

module _ (Crash : ClientId → Type 0) (I : World → Type 0) (k : Cases Crash I) where
  takes : (w : World) (c : ClientId) (input : ClientInput) (old site : WorldClient) → site_of w c ≡ Some old → old.node ≡ site.node → I w → I (ev.client_takes w c input site).world
  unfolding cl.node_step ev.client_takes ev.client_took
  takes w c input old site there same h = go site.node.running refl
    where
      go : (b : Bool) → site.node.running ≡ b → I (ev.client_took w c site (if b then Ok (SteppedNode w c site input) else Err Crashed)).world
      go true r = k.client w c input old site there same r h
      go false r = h

  at_client : (w : World) (c : ClientId) (input : ClientInput) (o : Option WorldClient) → site_of w c ≡ o → I w → I (ev.at_client w c input o).world
  unfolding ev.at_client
  at_client w c input None e h = h
  at_client w c input (Some site) e h = takes w c input site site e refl h

  one : (s : ServerId) (o : Output) (sc : WorldTurn) → I sc.world → I (ev.server_says sc s o).world
  unfolding ev.server_says ev.server_notes ev.cuts ev.sends log.cut
  one s (outputs.Send m) sc h = k.besides sc.world (ev.with_message m sc.world).net sc.world.servers sc.world.disks sc.world.tally (goes_same sc.world.disks.commands) h
  one s (outputs.Note n) sc h = noted n
    where
      noted : (n : Note) → I (ev.server_notes sc s n).world
      noted (notes.CutDone f p) = k.cut sc.world f p h
      noted (notes.Stolen c life) = k.besides sc.world sc.world.net sc.world.servers sc.world.disks (ev.with_theft sc.world).tally (goes_same sc.world.disks.commands) h
      noted n = h
  one s o sc h = h

  says : (s : ServerId) (os : List Output) (sc : WorldTurn) → I sc.world → I (ev.server_says_all s os sc).world
  unfolding ev.server_says_all
  says s [] sc h = h
  says s (o ∷ os) sc h = says s os (ev.server_says sc s o) (one s o sc h)

  at_server : (w : World) (s : ServerId) (input : ServerInput) (o : Option ServerNode) → I w → I (ev.at_server w s input o).world
  unfolding ev.at_server ev.server_takes ev.server_took
  at_server w s input None h = h
  at_server w s input (Some node) h = go (server.node_step node (clock_of w (nodes.Server s)) input)
    where
      go : (r : Result server.NodeTurn StepRefusal) → I (ev.server_took w s r).world
      go (Err e) = h
      go (Ok t) = says s t.out (ev.quiet (ev.with_node s t.node w)) (k.besides w w.net (ev.with_node s t.node w).servers w.disks w.tally (goes_same w.disks.commands) h)

  -- with other disks
  at_disks : (w : World) (d : Disks) → GoesOn w.disks.commands d.commands → I w → I (ev.with_disks d w)
  at_disks w d g h = k.besides w w.net w.servers d w.tally g h

  with_net : (w : World) (n : Net) → I w → I (record w { net = n })
  with_net w n h = k.besides w n w.servers w.disks w.tally (goes_same w.disks.commands) h

  with_server : (w : World) (s : ServerId) (n : ServerNode) → I w → I (ev.with_node s n w)
  with_server w s n h = k.besides w w.net (ev.with_node s n w).servers w.disks w.tally (goes_same w.disks.commands) h

  pub each_event : (w : World) (e : Event) → ((c : ClientId) → e ≡ events.Crash (nodes.Client c) → Crash c) → adm.refusal w e ≡ None → I w → I (ev.happens w e).world
  unfolding ev.happens ev.ticks ev.asks_at ev.delivers ev.delivers_to ev.loses_message ev.marks ev.effects ev.reports_of ev.tells ev.tells_client ev.tells_site ev.crashes ev.crashes_client ev.crashes_server ev.starts ev.starts_client ev.starts_server
  each_event w (events.Tick (nodes.Client c)) may r h = at_client w c _ (site_of w c) refl h
  each_event w (events.Tick (nodes.Server s)) may r h = at_server w s _ (node_of w s) h
  each_event w (events.App c ask) may r h = go (site_of w c) refl
    where
      go : (o : Option WorldClient) → site_of w c ≡ o → I (ev.asks_at w c ask o).world
      go None e = h
      go (Some site) e = takes w c _ site (ev.asked_once_more site) e refl h
  each_event w (events.Deliver n) may r h = go (world.message_of w n)
    where
      to : (m : Message) (x : NodeId) → I (ev.delivers_to w m x).world
      to m (nodes.Client c) = at_client w c _ (site_of w c) refl h
      to m (nodes.Server s) = at_server w s _ (node_of w s) h

      go : (m : Option SentMessage) → I (ev.delivers w m).world
      go None = h
      go (Some m) = to m.message (world.receiver_of m)
  each_event w (events.Lose n) may r h = go (world.message_of w n)
    where
      go : (m : Option SentMessage) → I (ev.loses_message w n m)
      go None = h
      go (Some m) = with_net w (ev.with_lost n m w).net h
  each_event w (events.Cut from to) may r h = with_net w (ev.with_cut from to w).net h
  each_event w (events.Heal from to) may r h = with_net w (ev.without_cut from to w).net h
  each_event w (events.Advance steps) may r h = k.advance w steps h
  each_event w (events.Effect n) may r h = k.hard (ev.with_disks (ev.disks_after w.disks (disks.effect w.disks n)) w) (ev.carried_by (issued_of w n)) (at_disks w (ev.disks_after w.disks (disks.effect w.disks n)) (goes_effect w.disks n) h)
  each_event w (events.Report n ok) may r h = go (issued_of w n)
    where
      v : World
      v = ev.with_disks (ev.disks_after w.disks (disks.done w.disks n ok)) w

      g : I v
      g = at_disks w (ev.disks_after w.disks (disks.done w.disks n ok)) (goes_report w.disks n ok) h

      same : (x : IssuedCommand) (site : WorldClient) → site_of v x.client ≡ Some site → (b : Bool) → I (if b then ev.client_takes v x.client (ev.end_told v n ok x) site else ev.quiet v).world
      same x site e true = takes v x.client (ev.end_told v n ok x) site site e refl g
      same x site e false = g

      told : (x : IssuedCommand) (o : Option WorldClient) → site_of v x.client ≡ o → I (ev.tells_client v n ok x o).world
      told x None e = g
      told x (Some site) e = same x site e (ev.is_same_instance x site)

      go : (o : Option IssuedCommand) → I (ev.tells v n ok o).world
      go None = g
      go (Some x) = told x (site_of v x.client) refl
  each_event w (events.Crash (nodes.Client c)) may r h = go (site_of w c) refl
    where
      go : (o : Option WorldClient) → site_of w c ≡ o → I (ev.crashes_client w c o).world
      go None e = h
      go (Some site) e = k.crash w c site (may c refl) e (runs_is w c site e r) h
  each_event w (events.Crash (nodes.Server s)) may r h = go (node_of w s)
    where
      go : (o : Option ServerNode) → I (ev.crashes_server w s o)
      go None = h
      go (Some node) = with_server w s (server.crash_node node) h
  each_event w (events.Start (nodes.Client c)) may r h = go (site_of w c) refl
    where
      go : (o : Option WorldClient) → site_of w c ≡ o → I (ev.starts_client w c o)
      go None e = h
      go (Some site) e = k.start w c site e (stopped_is w c site e r) h
  each_event w (events.Start (nodes.Server s)) may r h = go (node_of w s)
    where
      go : (o : Option ServerNode) → I (ev.starts_server w s o)
      go None = h
      go (Some node) = with_server w s (server.start_node node (clock_of w (nodes.Server s))) h
