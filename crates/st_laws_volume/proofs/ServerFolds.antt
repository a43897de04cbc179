-- A fact of the part of servers that a crash keeps: it holds after an event if each step of a server keeps it.
use Rattle.st_lemmas.proofs.Words
use Words.{◌≡◌, ◌⊎◌, ℕ, Bool, true, false, List, Option, Some, None, refl, sym, subst, inl, inr, ServerId, Stamp, Event, Message, SentMessage, ServerInput}
use Words.events
use Words.inputs
use Words.nodes
use Words.serving
use Words.Client as cl
use Words.Events as ev
use Words.Lists.{Has}
use Words.Members.{has_set}
use Words.Numbers.{numbered_has}
use Words.Server as sv
use Words.Server.{ServerNode, ServerState, Stable}
use Words.World.{World, clock_of, message_of, node_of, receiver_of, site_of}
use Rattle.st_laws_pages.proofs.Disks.Walk.{step_id}
use Rattle.st_laws_volume.specs.TreeNames.{IsSound}
use Rattle.st_laws_volume.specs.Witness.{now_at}
use Rattle.st_laws_volume.proofs.TreeWorld.{AllSound, asks_servers, at_client_servers, crashes_client_servers, loses_servers, node_after, report_servers, starts_client_servers, stopped_servers, took_servers}

module _ (P : ServerId → Stable → Type 0) (alike : (s : ServerId) (y z : Stable) → z.names ≡ y.names → z.extents ≡ y.extents → P s y → P s z)
    (step : (n : ServerState) (now : Stamp) (i : ServerInput) → IsSound n.stable.names → P n.id n.stable → P n.id (sv.server_step n now i).state.stable) where
  abbrev NodeHas : ServerNode → Type 0
  NodeHas node = P node.state.id node.state.stable

  abbrev AllHave : World → Type 0
  AllHave t = (node : ServerNode) → Has node t.servers → NodeHas node

  module _ (t : World) (sound : AllSound t) (h : AllHave t) where
    same_servers : (w : World) → w.servers ≡ t.servers → AllHave w
    same_servers w e node i = h node (subst (Has node) e i)

    taken_has : (s : ServerId) (i : ServerInput) (node : ServerNode) → node_of t s ≡ Some node →
        AllHave (ev.server_takes (ev.counted t) s i node).world
    taken_has s i node at x j = go node.running refl
      where
        its : Has node t.servers
        its = numbered_has t.servers s.0 node at

        next : NodeHas (node_after node (now_at t s) i)
        next =
            subst (λ k. P k (sv.server_step node.state (now_at t s) i).state.stable) (sym (step_id node.state (now_at t s) i))
            (step node.state (now_at t s) i (sound node its) (h node its))

        put : (x ≡ node_after node (now_at t s) i) ⊎ Has x t.servers → NodeHas x
        put (inl e) = subst NodeHas (sym e) next
        put (inr k) = h x k

        go : (b : Bool) → node.running ≡ b → NodeHas x
        go true r = put (has_set t.servers (Words.pred s.0) (node_after node (now_at t s) i) x (subst (Has x) (took_servers t s i node r) j))
        go false r = h x (subst (Has x) (stopped_servers t s i node r) j)

    at_server_has : (s : ServerId) (i : ServerInput) (o : Option ServerNode) → node_of t s ≡ o → AllHave (ev.at_server (ev.counted t) s i o).world
    unfolding ev.at_server
    at_server_has s i None at = h
    at_server_has s i (Some node) at = taken_has s i node at

    put_has : (s : ServerId) (new : ServerNode) → NodeHas new → AllHave (ev.with_node s new (ev.counted t))
    put_has s new k x j = go (has_set t.servers (Words.pred s.0) new x j)
      where
        go : (x ≡ new) ⊎ Has x t.servers → NodeHas x
        go (inl e) = subst NodeHas (sym e) k
        go (inr i) = h x i

    crash_has : (s : ServerId) (o : Option ServerNode) → node_of t s ≡ o → AllHave (ev.crashes_server (ev.counted t) s o)
    unfolding ev.crashes_server sv.crash
    crash_has s None at = h
    crash_has s (Some node) at = put_has s (sv.crash_node node) (h node (numbered_has t.servers s.0 node at))

    start_has : (s : ServerId) (o : Option ServerNode) → node_of t s ≡ o → AllHave (ev.starts_server (ev.counted t) s o)
    unfolding ev.starts_server sv.start sv.begin_epoch
    start_has s None at = h
    start_has s (Some node) at = put_has s (sv.start_node node (clock_of (ev.counted t) (nodes.Server s)))
        (alike node.state.id node.state.stable (sv.start_node node (clock_of (ev.counted t) (nodes.Server s))).state.stable refl refl
        (h node (numbered_has t.servers s.0 node at)))

    message_has : (o : Option SentMessage) → AllHave (ev.delivers (ev.counted t) o).world
    unfolding ev.delivers ev.delivers_to
    message_has None = h
    message_has (Some m) = to (receiver_of m)
      where
        to : (n : Words.NodeId) → AllHave (ev.delivers_to (ev.counted t) m.message n).world
        to (nodes.Client c) =
            same_servers (ev.at_client (ev.counted t) c (inputs.Control m.message) (site_of t c)).world
            (at_client_servers (ev.counted t) c (inputs.Control m.message) (site_of t c))
        to (nodes.Server s) = at_server_has s (serving.Control m.message) (node_of t s) refl

    pub event_has : (e : Event) → AllHave (ev.happens (ev.counted t) e).world
    unfolding ev.happens ev.ticks ev.crashes ev.starts ev.advances ev.effects ev.marks
    event_has (events.Tick (nodes.Client c)) =
        same_servers (ev.at_client (ev.counted t) c inputs.Tick (site_of t c)).world (at_client_servers (ev.counted t) c inputs.Tick (site_of t c))
    event_has (events.Tick (nodes.Server s)) = at_server_has s serving.Tick (node_of t s) refl
    event_has (events.App c ask) = same_servers (ev.asks_at (ev.counted t) c ask (site_of t c)).world (asks_servers t c ask (site_of t c))
    event_has (events.Deliver k) = message_has (message_of t k)
    event_has (events.Lose k) = same_servers (ev.loses_message (ev.counted t) k (message_of t k)) (loses_servers t k (message_of t k))
    event_has (events.Cut from to) = h
    event_has (events.Heal from to) = h
    event_has (events.Advance increments) = h
    event_has (events.Effect k) = h
    event_has (events.Report k ok) = same_servers (ev.reports_of (ev.counted t) k ok).world (report_servers t k ok)
    event_has (events.Crash (nodes.Client c)) =
        same_servers (ev.crashes_client (ev.counted t) c (site_of t c)).world (crashes_client_servers t c (site_of t c))
    event_has (events.Crash (nodes.Server s)) = crash_has s (node_of t s) refl
    event_has (events.Start (nodes.Client c)) = same_servers (ev.starts_client (ev.counted t) c (site_of t c)) (starts_client_servers t c (site_of t c))
    event_has (events.Start (nodes.Server s)) = start_has s (node_of t s) refl
