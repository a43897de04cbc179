-- A delivery leaves a server's clock.
use Rattle.st_lemmas.proofs.Words
use Words.{◌≡◌, ℕ, pred, Bool, true, false, List, length, Option, Some, None, Ok, Err, refl, ap, ◌∙◌, if◌then◌else◌, ClientId, NodeId, SentMessage, ServerId, ServerInput}
use Words.events
use Words.nodes
use Words.Events as ev
use Words.Events.{quiet}
use Words.Numbers.{set_length}
use Words.Server as server
use Words.Server.{ServerNode}
use Words.World.{WorldClient, clock_of, message_of, node_of, site_of}
use Rattle.st_rules.specs.declared.node.StepRefusal.TheVariants.{Crashed}
use Rattle.st_laws_healthy.proofs.NotSuspected.{server_read}
use Rattle.st_laws_refine.proofs.Server.Delivery.{SameParts, all_parts}
use Rattle.st_laws_third.proofs.Moves.{took_core}
use Rattle.st_laws_waits.specs.Waits.{server_clock}
use Rattle.st_third.specs.declared.event.ThirdEvent.TheVariants as third
use Rattle.st_third.specs.declared.event.ThirdInput.{ThirdInput}
use Rattle.st_third.specs.declared.event.ThirdInput.TheVariants as takes
use Rattle.st_rules.specs.declared.client.ClientInput.TheVariants as inputs
use Rattle.st_third.specs.Events as every
use Rattle.st_third.specs.Events.{ThirdWorldTurn, unseen}
use Rattle.st_third.specs.Limits.{is_third}
use Rattle.st_third.specs.Server as hearing
use Rattle.st_third.specs.State.{ClientBeside, ThirdClientTurn}
use Rattle.st_third.specs.World.{ThirdWorld, beside_of, receiver_of}

module _ (s : ServerId) (w : ThirdWorld) (f : is_third w.world.form ≡ true) where
  abbrev Same : ThirdWorldTurn → Type 0
  Same sc = server_clock s sc.third.world ≡ server_clock s w.world

  took : (c : ClientId) (site : WorldClient) (t : ThirdClientTurn) → Same (every.client_took w c site t)
  took c site t =
      let h = took_core w c site t in
      server_read s (every.client_took w c site t).third.world w.world (ap (λ x. x.plain.clocks) h)
      (ap (λ x. length x.plain.clients) h ∙ set_length w.world.clients (pred c.0) _)

  client_takes : (c : ClientId) (input : ThirdInput) (site : WorldClient) → Same (every.client_takes w c input site)
  unfolding every.client_takes every.running_takes every.third_takes
  client_takes c input site = running site.node.running
    where
      by_beside : (b : Option ClientBeside) → Same (every.third_takes w c input site b)
      by_beside None = refl
      by_beside (Some b) = took c site _

      by_form : (x : Bool) → x ≡ true → Same (if x then every.third_takes w c input site (beside_of w c) else every.plain_takes w c input site)
      by_form true q = by_beside (beside_of w c)
      by_form false q = absurd (no q)
        where
          no : false ≡ true → ⊥
          no q = cc

      running : (x : Bool) → Same (if x then every.running_takes w c input site else unseen w)
      running true = by_form (is_third w.world.form) f
      running false = refl

  at_server : (r : ServerId) (i : ServerInput) (o : Option ServerNode) → Same (every.at_server w r i o)
  unfolding every.at_server every.server_takes ev.server_took hearing.node_step
  at_server r i None = refl
  at_server r i (Some node) = go node.running
    where
      t : server.NodeTurn
      t = server.node_turn node (hearing.server_step w.world.form node.state (clock_of w.world (nodes.Server r)) i)

      parts : SameParts (ev.with_node r t.node w.world) (ev.server_says_all r t.out (quiet (ev.with_node r t.node w.world))).world
      parts = all_parts r t.out (quiet (ev.with_node r t.node w.world))

      go : (b : Bool) → Same (every.as_plain w (ev.server_took w.world r (if b then Ok t else Err Crashed)))
      go true =
          server_read s (ev.server_says_all r t.out (quiet (ev.with_node r t.node w.world))).world w.world parts.clocks
          (ap (λ (xs : List WorldClient). length xs) parts.clients)
      go false = refl

  delivers : (o : Option SentMessage) → Same (every.delivers w o)
  unfolding every.delivers every.delivers_to every.at_client
  delivers None = refl
  delivers (Some m) = go (receiver_of w.world m)
    where
      to : (c : ClientId) (site : Option WorldClient) → Same (every.at_client w c (takes.Plain (inputs.Control m.message)) site)
      to c None = refl
      to c (Some site) = client_takes c _ site

      go : (n : NodeId) → Same (every.delivers_to w m.message n)
      go (nodes.Client c) = to c (site_of w.world c)
      go (nodes.Server r) = at_server r _ (node_of w.world r)

  pub delivery_clock : (n : ℕ) → Same (every.happens w (third.Plain (events.Deliver n)))
  unfolding every.happens every.plain_happens
  delivery_clock n = delivers (message_of w.world n)
