-- Every event: a request that is outstanding under its lock after an event was so before, or nothing was reported under its number.
use Rattle.st_lemmas.proofs.Words
use Words.{◌≡◌, ◌≢◌, ◌⊎◌, ℕ, ◌≤◌, Bool, true, false, Option, Some, None, Ok, Err, refl, sym, ap, ◌∙◌, subst, inl, inr, arith, if◌then◌else◌, ClientId, NodeId}
use Words.{ServerId, Ask, Event, Message, ClientInput, Request, ServerInput, IssuedCommand, SentMessage}
use Words.nodes
use Words.events
use Words.inputs
use Words.serving
use Words.Client as cl
use Words.ClientState.{Association, ClientSession}
use Words.Disks as disks
use Words.Events as ev
use Words.Events.{happens}
use Words.Keys.{client}
use Words.Server as server
use Words.Server.{ServerNode}
use Words.World.{World, WorldClient, clock_of, issued_of, message_of, node_of, numbered, receiver_of, site_of, with_numbered}
use Words.Lists.{Has}
use Words.Tables.{has_map}
use Words.Truth.{some_not_none}
use Rattle.st_rules.specs.declared.node.StepRefusal.TheVariants.{Crashed}
use Rattle.st_laws_steps.specs.Lives.Lives.{clock_in}
use Rattle.st_laws_pages.proofs.Disks.Moves.{clock_up}
use Rattle.st_laws_refine.proofs.Server.Delivery.{all_parts}
use Rattle.st_laws_reads.specs.Copies.World.{asking, receiving, receiving_of, taken, taking, told_at, told_of}
use Rattle.st_laws_leases.proofs.Dates.Leaving.{set_cases}
use Rattle.st_laws_extents.specs.ExtentReplies.Law.{WasAsked}
use Rattle.st_laws_extents.specs.ExtentReplies.ToldExtents.{AskedAt}
use Rattle.st_laws_extents.proofs.Known.World.{lasts_before}

-- what is outstanding after it was outstanding before
abbrev pub Back : World → World → Type 0
Back w v = (c : ℕ) (site : WorldClient) (a : Association) (x : ClientSession) (q : Request) → AskedAt v c site a x q → WasAsked w c a x q

-- a client that is as it was
pub was_at : (w v : World) (c : ℕ) (site : WorldClient) (a : Association) (x : ClientSession) (q : Request) → site_of w (client c) ≡ Some site → (clock_of w (nodes.Client (client c))).0 ≤ (clock_of v (nodes.Client (client c))).0 → AskedAt v c site a x q → WasAsked w c a x q
was_at w v c site a x q there ts z =
    record {
      site = site;
      by = a;
      session = x;
      request = q;
      at = record { run = record { there = there; runs = z.run.runs }; has = z.has; session = z.session; lasts = lasts_before _ _ _ a.session ts z.lasts; asked = z.asked; current = z.current };
      server = refl;
      life = refl;
      epoch = refl;
      number = refl;
      body = refl;
    }

pub back_up : (w v : World) → v.clients ≡ w.clients → ((c : ClientId) → (clock_of w (nodes.Client c)).0 ≤ (clock_of v (nodes.Client c)).0) → Back w v
back_up w v cs ts c site a x q z = was_at w v c site a x q (ap (λ xs. numbered xs c) (sym cs) ∙ z.run.there) (ts (client c)) z

pub back_same : (w v : World) → v.clients ≡ w.clients → v.clocks ≡ w.clocks → Back w v
back_same w v cs ts = back_up w v cs (λ c. let z = ap (λ xs. (clock_in xs c).0) ts in omega (arith, z))

none_session : {A : Type 0} (x : ClientSession) → ◌≡◌ {A = Option ClientSession} None (Some x) → A
none_session x e = cc

-- a client that loses all its sessions
placed : (w v : World) (c : ClientId) (old new : WorldClient) → site_of w c ≡ Some old → v.clients ≡ with_numbered c.0 new w.clients → v.clocks ≡ w.clocks → ((a : Association) → Has a new.node.state.associations → a.session ≡ None) → Back w v
placed w v c old new there cs ts n d site a x q z = go (set_cases w.clients c.0 d old new site there (ap (λ xs. numbered xs d) (sym cs) ∙ z.run.there))
  where
    go : ((d ≡ c.0) × (site ≡ new)) ⊎ ((d ≢ c.0) × (numbered w.clients d ≡ Some site)) → WasAsked w d a x q
    go (inl y) = none_session x (sym (n a (subst (λ (s : WorldClient). Has a s.node.state.associations) y.1 z.has)) ∙ z.session)
    go (inr y) = was_at w v d site a x q y.1 (let u = ap (λ xs. (clock_in xs (client d)).0) ts in omega (arith, u)) z

-- Nobody takes an input.
module _ (w : World) where
  same : Back w w
  same = back_same w w refl refl

  at_node : (s : ServerId) (input : ServerInput) → Back w (ev.at_server w s input (node_of w s)).world
  unfolding ev.at_server ev.server_takes ev.server_took server.node_step
  at_node s input = at (node_of w s)
    where
      at : (o : Option ServerNode) → Back w (ev.at_server w s input o).world
      at None = same
      at (Some node) = go node.running
        where
          u : server.ServerTurn
          u = server.server_step node.state (clock_of w (nodes.Server s)) input

          new : ServerNode
          new = (server.node_turn node u).node

          v : World
          v = (ev.server_says_all s u.out (ev.quiet (ev.with_node s new w))).world

          go : (b : Bool) → Back w (ev.server_took w s (if b then Ok (server.node_turn node u) else Err Crashed)).world
          go false = same
          go true = let y = all_parts s u.out (ev.quiet (ev.with_node s new w)) in back_same w v y.clients y.clocks

  client_none : (c : ClientId) (input : ClientInput) (o : Option WorldClient) → taking w c input o ≡ None → Back w (ev.at_client w c input o).world
  unfolding ev.at_client
  client_none c input None e = same
  client_none c input (Some site) e = absurd (some_not_none _ e)

  ask_none : (c : ClientId) (ask : Ask) (o : Option WorldClient) → asking w c ask o ≡ None → Back w (ev.asks_at w c ask o).world
  unfolding ev.asks_at
  ask_none c ask None e = same
  ask_none c ask (Some site) e = absurd (some_not_none _ e)

  node_none : (m : Message) (n : NodeId) → receiving w m n ≡ None → Back w (ev.delivers_to w m n).world
  unfolding ev.delivers_to
  node_none m (nodes.Client c) e = client_none c (inputs.Control m) (site_of w c) e
  node_none m (nodes.Server s) e = at_node s (serving.Control m)

  message_none : (o : Option SentMessage) → receiving_of w o ≡ None → Back w (ev.delivers w o).world
  unfolding ev.delivers
  message_none None e = same
  message_none (Some m) e = node_none m.message (receiver_of m) e

  told_none : (v : World) → Back w v → (k : ℕ) (ok : Bool) (o : Option IssuedCommand) → told_of v k ok o ≡ None → Back w (ev.tells v k ok o).world
  unfolding ev.tells ev.tells_client ev.tells_site
  told_none v n k ok None e = n
  told_none v n k ok (Some y) e = at_site (site_of v y.client) e
    where
      at : (site : WorldClient) (b : Bool) → (if b then taking v y.client (ev.end_told v k ok y) (Some site) else None) ≡ None → Back w (if b then ev.client_takes v y.client (ev.end_told v k ok y) site else ev.quiet v).world
      at site true e = absurd (some_not_none _ e)
      at site false e = n

      at_site : (s : Option WorldClient) → told_at v k ok y s ≡ None → Back w (ev.tells_client v k ok y s).world
      at_site None e = n
      at_site (Some site) e = at site (ev.is_same_instance y site) e

  pub none_taken : (e : Event) → taken w e ≡ None → Back w (happens w e).world
  unfolding ev.happens ev.ticks ev.loses_message ev.reports_of ev.advances ev.effects ev.marks ev.crashes ev.crashes_client ev.crashes_server ev.starts ev.starts_client ev.starts_server cl.crash cl.start server.crash server.start server.begin_epoch
  none_taken (events.Tick (nodes.Client c)) t = client_none c inputs.Tick (site_of w c) t
  none_taken (events.Tick (nodes.Server s)) t = at_node s serving.Tick
  none_taken (events.App c ask) t = ask_none c ask (site_of w c) t
  none_taken (events.Deliver n) t = message_none (message_of w n) t
  none_taken (events.Lose n) t = go (message_of w n)
    where
      go : (m : Option SentMessage) → Back w (ev.loses_message w n m)
      go None = same
      go (Some m) = back_same w (ev.with_lost n m w) refl refl
  none_taken (events.Cut x y) t = back_same w (ev.with_cut x y w) refl refl
  none_taken (events.Heal x y) t = back_same w (ev.without_cut x y w) refl refl
  none_taken (events.Advance steps) t = back_up w (ev.advances w steps).world refl (clock_up w steps)
  none_taken (events.Effect n) t = back_same w (ev.effects w n).world refl refl
  none_taken (events.Report n ok) t = let v : World = ev.with_disks (ev.disks_after w.disks (disks.done w.disks n ok)) w in told_none v (back_same w v refl refl) n ok (issued_of w n) t
  none_taken (events.Crash (nodes.Client c)) t = go (site_of w c) refl
    where
      go : (s : Option WorldClient) → site_of w c ≡ s → Back w (ev.crashes_client w c s).world
      go None e = same
      go (Some site) e = placed w (ev.crashes_client w c (Some site)).world c site (ev.stopped_site site) e refl refl (λ a i. let z = has_map cl.crashed_association site.node.state.associations a i in ap (λ (y : Association). y.session) z.2)
  none_taken (events.Crash (nodes.Server s)) t = go (node_of w s)
    where
      go : (n : Option ServerNode) → Back w (ev.crashes_server w s n)
      go None = same
      go (Some node) = back_same w (ev.crashes_server w s (Some node)) refl refl
  none_taken (events.Start (nodes.Client c)) t = go (site_of w c) refl
    where
      go : (s : Option WorldClient) → site_of w c ≡ s → Back w (ev.starts_client w c s)
      go None e = same
      go (Some site) e = placed w (ev.starts_client w c (Some site)) c site (ev.started_site site) e refl refl (λ a i. let z = has_map cl.started_association site.node.state.associations a i in ap (λ (y : Association). y.session) z.2)
  none_taken (events.Start (nodes.Server s)) t = go (node_of w s)
    where
      go : (n : Option ServerNode) → Back w (ev.starts_server w s n)
      go None = same
      go (Some node) = back_same w (ev.starts_server w s (Some node)) refl refl
