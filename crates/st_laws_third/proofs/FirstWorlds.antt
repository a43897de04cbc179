-- An event of the first two forms does to a world of every form what it does to a world of theirs.
use Rattle.st_lemmas.proofs.Words
use Words.{◌≡◌, ℕ, Bool, true, false, map, refl, sym, ap, subst, ◌+◌, if◌then◌else◌, nat_le, Option, Some, None, Ok, Err}
use Words.{Ask, ClientId, ClientInput, Event, IssuedCommand, NodeId, SentMessage, ServerId, ServerInput, Stamp}
use Words.{DiskCommand}
use Words.events
use Words.nodes
use Words.refusals
use Words.Admissible as admissible
use Words.Admissible.{is_cut, is_lost, is_told, no_node, not_running, stands}
use Words.Client as client
use Words.Disks as disks
use Words.Events as ev
use Words.Events.{WorldTurn, asked_once_more, is_same_instance, quiet}
use Words.Server as server
use Words.Server.{ServerNode}
use Words.World.{World, WorldClient, clock_of, issued_of, message_of, node_of, receiver_of, site_of}
use Rattle.std.specs.Option.{option_or}
use Rattle.st_rules.specs.declared.client.ClientInput.TheVariants as inputs
use Rattle.st_rules.specs.declared.input.ServerInput.TheVariants as serving
use Rattle.st_rules.specs.declared.node.StepRefusal.TheVariants.{Crashed}
use Rattle.st_third.specs.declared.event.ThirdEvent.TheVariants as third
use Rattle.st_third.specs.declared.event.ThirdInput.TheVariants as takes
use Rattle.st_third.specs.Events as every
use Rattle.st_third.specs.Events.{ThirdWorldTurn, plain_seen, unseen}
use Rattle.st_third.specs.Limits.{is_third, most_bytes}
use Rattle.st_third.specs.Server.{node_step}
use Rattle.st_third.specs.World as worlds
use Rattle.st_third.specs.World.{ThirdWorld}
use Rattle.st_laws_third.proofs.FirstServers.{node_is, node_step_is}

-- what an event does to a world is this turn of the first two forms
pub record IsTurn (sc : ThirdWorldTurn) (t : WorldTurn) : Type 0 where
  pub world : sc.third.world ≡ t.world
  pub seen : sc.seen ≡ map plain_seen t.seen

plainly : (w : ThirdWorld) (t : WorldTurn) → IsTurn (every.as_plain w t) t
plainly w t = record { world = refl; seen = refl }

nothing : (w : ThirdWorld) → IsTurn (unseen w) (quiet w.world)
nothing w = record { world = refl; seen = refl }

-- Clients.

stopped : (w : World) (c : ClientId) (input : ClientInput) (site : WorldClient) → site.node.running ≡ false → quiet w ≡ ev.client_takes w c input site
unfolding ev.client_takes ev.client_took client.node_step
stopped w c input site e =
    let t : client.NodeTurn = client.node_turn site.node (client.client_step site.node.state (clock_of w (nodes.Client c)) input) in
    sym (ap (λ b. ev.client_took w c site (if b then Ok t else Err Crashed)) e)

module _ (w : ThirdWorld) (f : is_third w.world.form ≡ false) where
  running_is : (c : ClientId) (input : ClientInput) (site : WorldClient) →
      IsTurn (every.running_takes w c (takes.Plain input) site) (ev.client_takes w.world c input site)
  unfolding every.running_takes every.plain_takes
  running_is c input site = go (is_third w.world.form) f
    where
      go : (b : Bool) → b ≡ false →
          IsTurn
          (if b then every.third_takes w c (takes.Plain input) site (worlds.beside_of w c) else every.plain_takes w c (takes.Plain input) site)
          (ev.client_takes w.world c input site)
      go false e = plainly w (ev.client_takes w.world c input site)
      go true e = absurd cc

  client_is : (c : ClientId) (input : ClientInput) (site : WorldClient) →
      IsTurn (every.client_takes w c (takes.Plain input) site) (ev.client_takes w.world c input site)
  unfolding every.client_takes
  client_is c input site = go site.node.running refl
    where
      go : (b : Bool) → site.node.running ≡ b →
          IsTurn (if b then every.running_takes w c (takes.Plain input) site else unseen w) (ev.client_takes w.world c input site)
      go true e = running_is c input site
      go false e = subst (IsTurn (unseen w)) (stopped w.world c input site e) (nothing w)

  at_client_is : (c : ClientId) (input : ClientInput) (site : Option WorldClient) →
      IsTurn (every.at_client w c (takes.Plain input) site) (ev.at_client w.world c input site)
  unfolding every.at_client ev.at_client
  at_client_is c input None = nothing w
  at_client_is c input (Some site) = client_is c input site

  asks_is : (c : ClientId) (ask : Ask) (site : Option WorldClient) →
      IsTurn (every.asks_at w c (λ op. takes.Plain (inputs.App op ask)) site) (ev.asks_at w.world c ask site)
  unfolding every.asks_at ev.asks_at
  asks_is c ask None = nothing w
  asks_is c ask (Some site) = client_is c (inputs.App (site.asks + 1) ask) (asked_once_more site)

  tells_is : (k : ℕ) (ok : Bool) (c : Option IssuedCommand) → IsTurn (every.tells w k ok c) (ev.tells w.world k ok c)
  unfolding every.tells every.tells_client every.tells_site ev.tells ev.tells_client ev.tells_site
  tells_is k ok None = nothing w
  tells_is k ok (Some c) = at (site_of w.world c.client)
    where
      by_instance : (site : WorldClient) (b : Bool) →
          IsTurn (if b then every.client_takes w c.client (takes.Plain (ev.end_told w.world k ok c)) site else unseen w)
          (if b then ev.client_takes w.world c.client (ev.end_told w.world k ok c) site else quiet w.world)
      by_instance site true = client_is c.client (ev.end_told w.world k ok c) site
      by_instance site false = nothing w

      at : (site : Option WorldClient) → IsTurn (every.tells_client w k ok c site) (ev.tells_client w.world k ok c site)
      at None = nothing w
      at (Some site) = by_instance site (is_same_instance c site)

  -- Servers.
  at_server_is : (s : ServerId) (input : ServerInput) (node : Option ServerNode) →
      IsTurn (every.at_server w s input node) (ev.at_server w.world s input node)
  unfolding every.at_server every.server_takes ev.at_server ev.server_takes
  at_server_is s input None = nothing w
  at_server_is s input (Some node) =
      let now : Stamp = clock_of w.world (nodes.Server s) in
      let e : node_step w.world.form node now input ≡ server.node_step node now input = node_step_is w.world.form node now input f in
      subst (λ r. IsTurn (every.as_plain w (ev.server_took w.world s r)) (ev.server_took w.world s (server.node_step node now input))) (sym e)
      (plainly w (ev.server_took w.world s (server.node_step node now input)))

  ticks_is : (n : NodeId) → IsTurn (every.ticks w n) (ev.ticks w.world n)
  unfolding every.ticks ev.ticks
  ticks_is (nodes.Client c) = at_client_is c inputs.Tick (site_of w.world c)
  ticks_is (nodes.Server s) = at_server_is s serving.Tick (node_of w.world s)

  delivers_is : (m : Option SentMessage) → IsTurn (every.delivers w m) (ev.delivers w.world m)
  unfolding every.delivers every.delivers_to ev.delivers ev.delivers_to
  delivers_is None = nothing w
  delivers_is (Some m) =
      subst (λ n. IsTurn (every.delivers_to w m.message n) (ev.delivers_to w.world m.message (receiver_of m)))
      (sym (node_is w.world.form m.message.header.to f)) (at (receiver_of m))
    where
      at : (n : NodeId) → IsTurn (every.delivers_to w m.message n) (ev.delivers_to w.world m.message n)
      at (nodes.Client c) = at_client_is c (inputs.Control m.message) (site_of w.world c)
      at (nodes.Server s) = at_server_is s (serving.Control m.message) (node_of w.world s)

-- Crashes and starts.

begins_is : (w : ThirdWorld) (n : NodeId) (t : WorldTurn) → is_third w.world.form ≡ false → IsTurn (every.begins w n (every.as_plain w t)) t
unfolding every.begins
begins_is w n t f =
    subst (λ b. IsTurn (if b then every.node_begins n (every.as_plain w t) else every.as_plain w t) t) (sym f) (plainly w t)

-- Events.

pub happens_is : (w : ThirdWorld) (e : Event) → is_third w.world.form ≡ false → IsTurn (every.happens w (third.Plain e)) (ev.happens w.world e)
unfolding every.happens every.plain_happens every.reports_of ev.happens ev.reports_of
happens_is w (events.Tick n) f = ticks_is w f n
happens_is w (events.App c ask) f = asks_is w f c ask (site_of w.world c)
happens_is w (events.Deliver k) f = delivers_is w f (message_of w.world k)
happens_is w (events.Lose k) f = plainly w (ev.happens w.world (events.Lose k))
happens_is w (events.Cut from to) f = plainly w (ev.happens w.world (events.Cut from to))
happens_is w (events.Heal from to) f = plainly w (ev.happens w.world (events.Heal from to))
happens_is w (events.Advance steps) f = plainly w (ev.happens w.world (events.Advance steps))
happens_is w (events.Effect k) f = plainly w (ev.happens w.world (events.Effect k))
happens_is w (events.Report k ok) f = tells_is (every.with_report k ok w) f k ok (issued_of w.world k)
happens_is w (events.Crash n) f = begins_is w n (ev.happens w.world (events.Crash n)) f
happens_is w (events.Start n) f = begins_is w n (ev.happens w.world (events.Start n)) f

-- Refusals.

module _ (w : World) (f : is_third w.form ≡ false) where
  full_is : worlds.net_full w ≡ admissible.net_full w
  unfolding most_bytes
  full_is = ap (λ b. stands (nat_le (if b then 4294967296 else 536870912) w.net.bytes) (refusals.NetFull w.net.bytes)) f

  step_is : (n : NodeId) → worlds.cannot_step w n ≡ admissible.cannot_step w n
  step_is n = ap (option_or (not_running w n)) full_is

  delivery_is : (k : ℕ) (m : Option SentMessage) → worlds.refused_delivery w k m ≡ admissible.refused_delivery w k m
  unfolding worlds.refused_delivery admissible.refused_delivery
  delivery_is k None = refl
  delivery_is k (Some m) =
      let to = node_is w.form m.message.header.to f in
      let from = node_is w.form m.message.header.from f in
      λ i. option_or (is_lost k m)
      (option_or (stands (is_cut w (from i) (to i)) (refusals.LinkCut (from i) (to i))) (option_or (not_running w (to i)) (full_is i)))

  report_is : (k : ℕ) (ok : Bool) (d : Option DiskCommand) → worlds.refused_report w k ok d ≡ admissible.refused_report w k ok d
  unfolding worlds.refused_report admissible.refused_report
  report_is k ok None = refl
  report_is k ok (Some d) = ap (option_or (stands (is_told ok d) (refusals.DiskState k))) full_is

  pub refusal_is : (e : Event) → worlds.plain_refusal w e ≡ admissible.refusal w e
  unfolding worlds.plain_refusal admissible.refusal
  refusal_is (events.Tick n) = ap (option_or (no_node w n)) (step_is n)
  refusal_is (events.App c ask) = ap (option_or (no_node w (nodes.Client c))) (step_is (nodes.Client c))
  refusal_is (events.Deliver k) = delivery_is k (message_of w k)
  refusal_is (events.Report k ok) = report_is k ok (disks.command w.disks k)
  refusal_is (events.Lose k) = refl
  refusal_is (events.Cut from to) = refl
  refusal_is (events.Heal from to) = refl
  refusal_is (events.Advance steps) = refl
  refusal_is (events.Effect k) = refl
  refusal_is (events.Crash n) = refl
  refusal_is (events.Start n) = refl
