-- A client whose reassertion may be accepted waits for nothing: in grace it has no session yet.
use Rattle.st_lemmas.proofs.Words
use Words.{◌≡◌, ℕ, true, ◌==◌, [], Option, Some, None, refl, sym, ap, ◌∙◌, subst, eqb-true, NodeId, ServerId, Event, Body, SentMessage}
use Words.nodes
use Words.events
use Words.bodies as bd
use Words.Admissible as admissible
use Words.Events.{counted}
use Words.Keys.{server_node}
use Words.Server.{ServerNode, is_client_node, thefts, turn}
use Words.World.{World, clock_of, is_running, message_of, node_of, receiver_of, server}
use Words.Lookups.{some_is}
use Words.Tables.{and_true, not_false}
use Words.Truth.{or_first}
use Words.Worlds.{stands_not}
use Rattle.st_protocol.specs.Assoc.{Config}
use Rattle.st_laws_refine.specs.Views.Messages.{Received}
use Rattle.st_laws_pages.specs.LockedCuts.CutLocks.{AtMessage, AtReassertion, AtReceiver, MayAccept, WaitsForNone, WaitsOwed}
use Rattle.st_laws_refine.specs.Server.Edits.{InGrace}
use Rattle.st_laws_refine.proofs.Server.Conflicts.{no_waits}
use Rattle.st_laws_refine.proofs.Server.Delivery.{message_has, to_server}
use Rattle.st_laws_leases.specs.Sides.World.{AllStand, ServerStands}
use Rattle.st_laws_leases.proofs.Sides.AllAssociations.{positive, running_node}
use Rattle.st_laws_leases.proofs.Sides.Fold.{second_none}

module _ (k : Config) (count : ℕ) (w : World) (a : AllStand k count w) where
  -- at a server that runs, of a message that is delivered to it
  at_running : (n s : ℕ) (m : SentMessage) (node : ServerNode) → node_of w (server s) ≡ Some node → node.running ≡ true → message_of w n ≡ Some m → receiver_of m ≡ nodes.Server (server s) → (body : Body) → m.message.body ≡ body →
      WaitsForNone (thefts (turn node.state []) (clock_of w (nodes.Server (server s)))) (clock_of w (nodes.Server (server s))) m.message.header body
  at_running n s m node at runs em er (bd.Reassert rows) is =
      λ may x h e. no_waits k s z.ended w node z.ghosts a.sound runs z.both.stands m.message received (thefts (turn node.state []) (clock_of w (nodes.Server (server s)))) rows (grace may) x h e
    where
      z : ServerStands k w s node
      z = a.servers s node at

      received : is_client_node m.message.header.from ≡ true → Received m.message.header m.message.body (z.ghosts m.message.header.from).net
      received f = (((z.both.stands.served m.message.header.from).wires m (message_has w n m em)).to_server (to_server m.message.header.to s (positive k count w a s node at) er) f refl)

      grace : MayAccept (thefts (turn node.state []) (clock_of w (nodes.Server (server s)))) (clock_of w (nodes.Server (server s))) m.message.header → InGrace node.state (clock_of w (nodes.Server (server s))) (thefts (turn node.state []) (clock_of w (nodes.Server (server s)))) m.message rows
      grace may =
          let q = and_true (m.message.header.to == server_node (thefts (turn node.state []) (clock_of w (nodes.Server (server s)))).state.id) (is_client_node m.message.header.from) may.here in
          record { from = q.1; there = eqb-true _ _ q.0; body = is; first = refl; on = may.on; epoch = eqb-true _ _ may.epoch; new = may.new }
  at_running n s m node at runs em er body is = record {}

  -- every event
  pub waits_owed : (e : Event) → admissible.refusal w e ≡ None → WaitsOwed (counted w) e
  unfolding admissible.refusal admissible.refused_delivery
  waits_owed (events.Deliver n) r = go (message_of w n) refl
    where
      at : (m : SentMessage) → message_of w n ≡ Some m → (s : ServerId) → receiver_of m ≡ nodes.Server s → (o : Option ServerNode) → node_of w s ≡ o → AtReassertion (counted w) m.message s o
      at m em s er None e = record {}
      at m em s er (Some node) e =
          let q = subst (λ o. admissible.refused_delivery w n o ≡ None) em r in
          let runs = not_false _ (stands_not _ _ (or_first _ _ (second_none _ _ (second_none _ _ q)))) in
          let y = running_node (node_of w s) (ap (is_running w) (sym er) ∙ runs) in
          at_running n s.0 m node e (subst (λ (x : ServerNode). x.running ≡ true) (some_is (sym y.1 ∙ e)) y.2) em er m.message.body refl

      to : (m : SentMessage) → message_of w n ≡ Some m → (x : NodeId) → receiver_of m ≡ x → AtReceiver (counted w) m.message x
      to m em (nodes.Client c) er = record {}
      to m em (nodes.Server s) er = at m em s er (node_of w s) refl

      go : (o : Option SentMessage) → message_of w n ≡ o → AtMessage (counted w) o
      go None e = record {}
      go (Some m) e = to m e (receiver_of m) refl
  waits_owed e r = record {}
