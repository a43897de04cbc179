-- The law on events at which no client takes an input.
use Rattle.st_lemmas.proofs.Words
use Words.{◌≡◌, ℕ, Bool, true, false, Option, Some, None, refl, sym, ap, ◌∙◌, subst, if◌then◌else◌, ClientId, NodeId, Ask, Event, Message, ClientInput}
use Words.{IssuedCommand, SentMessage}
use Words.nodes
use Words.events
use Words.inputs
use Words.serving
use Words.Admissible as adm
use Words.Disks as disks
use Words.Events as ev
use Words.Events.{WorldTurn, counted, happens}
use Words.Server as server
use Words.Server.{ServerNode}
use Words.World.{World, WorldClient, issued_of, message_of, node_of, receiver_of, site_of, site_runs}
use Words.Numbers.{set_length}
use Words.Tables.{not_false}
use Words.Truth.{some_not_none}
use Words.Worlds.{stands_not}
use Rattle.st_protocol.specs.Assoc.{Config}
use Rattle.st_lemmas.proofs.Steps.{step_happens}
use Rattle.st_laws_pages.proofs.Disks.Effects.{or_none}
use Rattle.st_laws_leases.specs.Sides.World.{AllStand}
use Rattle.st_laws_reads.specs.Copies.World.{asking, receiving, receiving_of, taken, taking, told_at, told_of}
use Rattle.st_laws_reads.specs.AllClients.Events.{FrozenStandAlone, MessageFree, OthersKeepCopies, OthersOwed, ReceiverFree}
use Rattle.st_laws_reads.specs.AllClients.World.{CopiesHold}
use Rattle.st_laws_reads.proofs.AllClients.Events.{advance_keeps, crash_keeps, effect_keeps, quiet_keeps, server_keeps, start_keeps}

-- a client that crashes runs, and one that starts does not
pub crash_runs : (w : World) (c : ClientId) → adm.refusal w (events.Crash (nodes.Client c)) ≡ None → site_runs (site_of w c) ≡ true
unfolding adm.refusal
crash_runs w c r = not_false _ (stands_not _ _ (or_none _ _ r).1)

start_stopped : (w : World) (c : ClientId) → adm.refusal w (events.Start (nodes.Client c)) ≡ None → site_runs (site_of w c) ≡ false
unfolding adm.refusal
start_stopped w c r = stands_not _ _ (or_none _ _ r).1

module _ (asks : ℕ → ℕ → Option Ask) where
  -- nobody takes it
  client_none : (w : World) (c : ClientId) (input : ClientInput) (o : Option WorldClient) → taking w c input o ≡ None → CopiesHold asks w → CopiesHold asks (ev.at_client w c input o).world
  unfolding ev.at_client
  client_none w c input None e h = h
  client_none w c input (Some site) e h = absurd (some_not_none _ e)

  ask_none : (w : World) (c : ClientId) (ask : Ask) (o : Option WorldClient) → asking w c ask o ≡ None → CopiesHold asks w → CopiesHold asks (ev.asks_at w c ask o).world
  unfolding ev.asks_at
  ask_none w c ask None e h = h
  ask_none w c ask (Some site) e h = absurd (some_not_none _ e)

  node_none : (w : World) (m : Message) (n : NodeId) → receiving w m n ≡ None → ReceiverFree w m n → CopiesHold asks w → CopiesHold asks (ev.delivers_to w m n).world
  unfolding ev.delivers_to
  node_none w m (nodes.Client c) e g h = client_none w c (inputs.Control m) (site_of w c) e h
  node_none w m (nodes.Server s) e g h = server_keeps asks w s (serving.Control m) (node_of w s) g h

  message_none : (w : World) (o : Option SentMessage) → receiving_of w o ≡ None → MessageFree w o → CopiesHold asks w → CopiesHold asks (ev.delivers w o).world
  unfolding ev.delivers
  message_none w None e g h = h
  message_none w (Some m) e g h = node_none w m.message (receiver_of m) e g h

  told_none : (w : World) (k : ℕ) (ok : Bool) (o : Option IssuedCommand) → told_of w k ok o ≡ None → CopiesHold asks w → CopiesHold asks (ev.tells w k ok o).world
  unfolding ev.tells ev.tells_client ev.tells_site
  told_none w k ok None e h = h
  told_none w k ok (Some y) e h = at_site (site_of w y.client) e
    where
      at : (site : WorldClient) (b : Bool) → (if b then taking w y.client (ev.end_told w k ok y) (Some site) else None) ≡ None → CopiesHold asks (if b then ev.client_takes w y.client (ev.end_told w k ok y) site else ev.quiet w).world
      at site true e = absurd (some_not_none _ e)
      at site false e = h

      at_site : (s : Option WorldClient) → told_at w k ok y s ≡ None → CopiesHold asks (ev.tells_client w k ok y s).world
      at_site None e = h
      at_site (Some site) e = at site (ev.is_same_instance y site) e

  still : (w v : World) → v.clients ≡ w.clients → Rattle.std.specs.Prelude.length v.servers ≡ Rattle.std.specs.Prelude.length w.servers → v.log ≡ w.log → v.clocks ≡ w.clocks → CopiesHold asks w → CopiesHold asks v
  still w v a b c d h = quiet_keeps asks w v a b c d h

  frozen_lives : (w : World) → FrozenStandAlone (counted w) → FrozenStandAlone w
  frozen_lives w o e i p el d other run = o e i p (λ c site a r h q. el c site a (record { there = r.there; runs = r.runs }) h q) d other (record { there = run.there; runs = run.runs })

  happens_keeps : (k : Config) (count : ℕ) (w : World) (e : Event) → AllStand k count w → adm.refusal w e ≡ None → taken (counted w) e ≡ None → OthersOwed (counted w) e → CopiesHold asks w → CopiesHold asks (happens (counted w) e).world
  unfolding ev.happens ev.ticks ev.loses_message ev.reports_of ev.advances ev.marks ev.crashes ev.crashes_client ev.crashes_server ev.starts ev.starts_client ev.starts_server ev.lives_reached ev.log_crashed adm.refusal
  happens_keeps k count w (events.Tick (nodes.Client c)) all r t o h = client_none (counted w) c inputs.Tick (site_of w c) t (still w (counted w) refl refl refl refl h)
  happens_keeps k count w (events.Tick (nodes.Server s)) all r t o h = server_keeps asks (counted w) s serving.Tick (node_of w s) o (still w (counted w) refl refl refl refl h)
  happens_keeps k count w (events.App c ask) all r t o h = ask_none (counted w) c ask (site_of w c) t (still w (counted w) refl refl refl refl h)
  happens_keeps k count w (events.Deliver n) all r t o h = message_none (counted w) (message_of w n) t o (still w (counted w) refl refl refl refl h)
  happens_keeps k count w (events.Lose n) all r t o h = go (message_of w n)
    where
      go : (m : Option SentMessage) → CopiesHold asks (ev.loses_message (counted w) n m)
      go None = still w (counted w) refl refl refl refl h
      go (Some m) = still w (ev.with_lost n m (counted w)) refl refl refl refl h
  happens_keeps k count w (events.Cut x y) all r t o h = still w (ev.with_cut x y (counted w)) refl refl refl refl h
  happens_keeps k count w (events.Heal x y) all r t o h = still w (ev.without_cut x y (counted w)) refl refl refl refl h
  happens_keeps k count w (events.Advance steps) all r t o h = still (ev.advances w steps).world (ev.advances (counted w) steps).world refl refl refl refl (advance_keeps asks k count w steps all (frozen_lives w o) h)
  happens_keeps k count w (events.Effect n) all r t o h = effect_keeps asks (counted w) n (still w (counted w) refl refl refl refl h)
  happens_keeps k count w (events.Report n ok) all r t o h =
      told_none (ev.with_disks (ev.disks_after w.disks (disks.done w.disks n ok)) (counted w)) n ok (issued_of w n) t (still w (ev.with_disks (ev.disks_after w.disks (disks.done w.disks n ok)) (counted w)) refl refl refl refl h)
  happens_keeps k count w (events.Crash (nodes.Client c)) all r t o h = go (site_of w c) refl
    where
      go : (s : Option WorldClient) → site_of w c ≡ s → CopiesHold asks (ev.crashes_client (counted w) c s).world
      go None e = still w (counted w) refl refl refl refl h
      go (Some site) e = still (ev.crashes_client w c (Some site)).world (ev.crashes_client (counted w) c (Some site)).world refl refl refl refl (crash_keeps asks k count w c site e (ap site_runs (sym e) ∙ crash_runs w c r) all (frozen_lives w o) h)
  happens_keeps k count w (events.Crash (nodes.Server s)) all r t o h = go (node_of w s)
    where
      go : (n : Option ServerNode) → CopiesHold asks (ev.crashes_server (counted w) s n)
      go None = still w (counted w) refl refl refl refl h
      go (Some node) = still w (ev.with_node s (server.crash_node node) (counted w)) refl (set_length w.servers _ (server.crash_node node)) refl refl h
  happens_keeps k count w (events.Start (nodes.Client c)) all r t o h = go (site_of w c) refl
    where
      go : (s : Option WorldClient) → site_of w c ≡ s → CopiesHold asks (ev.starts_client (counted w) c s)
      go None e = still w (counted w) refl refl refl refl h
      go (Some site) e = start_keeps asks (counted w) c site e (ap site_runs (sym e) ∙ start_stopped w c r) (still w (counted w) refl refl refl refl h)
  happens_keeps k count w (events.Start (nodes.Server s)) all r t o h = go (node_of w s)
    where
      go : (n : Option ServerNode) → CopiesHold asks (ev.starts_server (counted w) s n)
      go None = still w (counted w) refl refl refl refl h
      go (Some node) = still w (ev.with_node s _ (counted w)) refl (set_length w.servers _ _) refl refl h

pub others_keep_copies : OthersKeepCopies
others_keep_copies asks k count w e sc all step t o h =
    let p = step_happens w e sc step in
    subst (λ (s : WorldTurn). CopiesHold asks s.world) (sym p.1) (happens_keeps asks k count w e all p.0 t o h)
