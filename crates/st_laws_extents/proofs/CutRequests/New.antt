-- A reassertion that comes in grace finds no ended session of its life: in grace no session was ended.
use Rattle.st_lemmas.proofs.Words
use Words.{◌≡◌, ℕ, ◌+◌, true, [], Option, Some, None, refl, sym, ap, ◌∙◌, subst, NodeId, ServerId, Stamp, Event, Body, Header, Session, SentMessage}
use Words.nodes
use Words.events
use Words.bodies as bd
use Words.Admissible as admissible
use Words.Events.{counted}
use Words.Server.{ServerNode, thefts, turn}
use Words.Sessions as sessions
use Words.World.{World, clock_of, is_running, message_of, node_of, receiver_of, server, fresh_world}
use Words.History.{traced}
use Words.Lookups.{some_is}
use Words.Tables.{not_false}
use Words.Truth.{or_first}
use Words.Worlds.{stands_not}
use Rattle.st_protocol.specs.Assoc.{Config}
use Rattle.st_lemmas.proofs.Steps.{step_happens}
use Rattle.st_laws_refine.specs.Server.Pair.{Served, client_in, terms_of}
use Rattle.st_laws_refine.specs.Server.View.{NotEnded, Sound, StandsAt}
use Rattle.st_laws_refine.proofs.Server.Thefts.{thefts_go}
use Rattle.st_laws_leases.specs.Sides.Law.{InEveryRun}
use Rattle.st_laws_leases.specs.Sides.World.{AllStand, ServerStands}
use Rattle.st_laws_leases.proofs.Sides.FirstWorld.{begun}
use Rattle.st_laws_leases.proofs.Sides.AllAssociations.{running_node, stays}
use Rattle.st_laws_leases.proofs.Sides.Fold.{second_none}
use Rattle.st_laws_leases.proofs.Sides.Runs.{full, throughout_events}
use Rattle.st_laws_requests.specs.Replies.ServedRequests.{AtMessage, AtReceiver, AtServer, FindsNew, NewOwed, ReassertionsNew, RepliesAfter}
use Rattle.st_laws_requests.proofs.Replies.Replies as askers

module _ (k : Config) (count : ℕ) (w : World) (a : AllStand k count w) where
  -- a session that is there is not ended
  lives : (o : Option Session) (y : Session) → NotEnded o → o ≡ Some y → sessions.is_live y ≡ true
  lives None y n e = cc
  lives (Some x) y n e = subst (λ (z : Session). sessions.is_live z ≡ true) (some_is e) n

  -- at a server that runs
  at_running : (s : ℕ) (node : ServerNode) → node_of w (server s) ≡ Some node → node.running ≡ true → (h : Header) (body : Body) →
      FindsNew (thefts (turn node.state []) (clock_of w (nodes.Server (server s)))) (clock_of w (nodes.Server (server s))) h body
  at_running s node at runs h (bd.Reassert rows) = λ on y found life. lives _ y (behind.ready.sound.graced on) found
    where
      now : Stamp
      now = clock_of w (nodes.Server (server s))

      z : ServerStands k w s node
      z = a.servers s node at

      d : Served k.wait h.from s w node (z.ghosts h.from)
      d = z.both.stands.served h.from

      sound : Sound h.from k.wait now node.state (z.ghosts h.from)
      sound = subst (λ r. StandsAt h.from k.wait now r node.state (z.ghosts h.from)) runs d.stands

      behind : Rattle.st_laws_refine.proofs.Server.Goes.Result k (client_in w h.from s (z.ended h.from)) h.from now (turn node.state []) (thefts (turn node.state []) now) (z.ghosts h.from)
      behind = (thefts_go k (client_in w h.from s (z.ended h.from)) h.from now (turn node.state [])).go (z.ghosts h.from) (record { said = tt; sound = sound })
  at_running s node at runs h body = tt

  -- every event
  pub new_owed : (e : Event) → admissible.refusal w e ≡ None → NewOwed (counted w) e
  unfolding admissible.refusal admissible.refused_delivery
  new_owed (events.Deliver n) r = go (message_of w n) refl
    where
      at : (m : SentMessage) → message_of w n ≡ Some m → (s : ServerId) → receiver_of m ≡ nodes.Server s → (o : Option ServerNode) → node_of w s ≡ o → AtServer (counted w) m.message s o
      at m em s er None e = tt
      at m em s er (Some node) e =
          let q = subst (λ o. admissible.refused_delivery w n o ≡ None) em r in
          let runs = not_false _ (stands_not _ _ (or_first _ _ (second_none _ _ (second_none _ _ q)))) in
          let y = running_node (node_of w s) (ap (is_running w) (sym er) ∙ runs) in
          at_running s.0 node e (subst (λ (x : ServerNode). x.running ≡ true) (some_is (sym y.1 ∙ e)) y.2) m.message.header m.message.body

      to : (m : SentMessage) → message_of w n ≡ Some m → (x : NodeId) → receiver_of m ≡ x → AtReceiver (counted w) m.message x
      to m em (nodes.Client c) er = tt
      to m em (nodes.Server s) er = at m em s er (node_of w s) refl

      go : (o : Option SentMessage) → message_of w n ≡ o → AtMessage (counted w) o
      go None e = tt
      go (Some m) e = to m e (receiver_of m) refl
  new_owed e r = tt

pub reassertions_new : InEveryRun ReassertionsNew
reassertions_new k clients servers disks blocks form es head events =
    throughout_events (clients + servers) ReassertionsNew (λ past t. AllStand (terms_of k) (clients + servers) t.world)
    (λ past t e sc h s taken.
    (new_owed (terms_of k) (clients + servers) t.world s e (step_happens t.world e sc taken).0, stays (terms_of k) (clients + servers) t.world e sc s (full (clients + servers) t.world e s.nodes h) taken)) es events []
    (traced (fresh_world k clients servers disks blocks form)) (begun k clients servers disks blocks form head)

-- and so replies are reached in every run
pub replies : InEveryRun RepliesAfter
replies k clients servers disks blocks form es head events = askers.replies_are_reached k clients servers disks blocks form es head (reassertions_new k clients servers disks blocks form es head events)
