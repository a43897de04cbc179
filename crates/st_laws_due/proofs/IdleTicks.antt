-- An idle tick of a node changes nothing in the world but the number of events and the flush steps.
use Rattle.st_lemmas.proofs.Words
use Words.{◌≡◌, ℕ, zero, suc, pred, Bool, true, false, not, List, [], ◌∷◌, refl, sym, ap, ◌∙◌, subst, cond, set, arith, Option, Some, None, Result, Ok, Err}
use Words.{ClientId, FlushStep, NodeId, Phase, ServerId, Stamp, StepRefusal, WorldRefusal}
use Words.events
use Words.inputs
use Words.nodes
use Words.phases
use Words.serving
use Rattle.st_rules.specs.declared.node.StepRefusal.TheVariants.{Crashed}
use Words.Client.{ClientNode, client_step, lease_end_with, phase_with}
use Words.ClientState.{ClientState, ClientTurn, client_turn}
use Words.Events.{WorldTurn, at_client, at_server, client_says_all, client_takes, client_took, counted, flushed_at, flushed_in, flushes, happens, server_says_all, server_takes, server_took, ticks, with_node, with_site, world_by, world_step}
use Words.Lengths.{set_same}
use Words.Server.{ServerNode, ServerState, ServerTurn, server_step}
use Words.World.{World, WorldClient, all_servers, clock_of, node_of, numbered, site_of, with_numbered}
use Rattle.st_due.specs.Moments.{is_due}
use Rattle.st_due.specs.ServerDue.{server_due}
use Rattle.st_client_due.specs.ClientDue.{client_due}
use Rattle.st_laws_due.specs.IdleTicks.{IdleTicksAreQuiet, IsQuiet, is_client_idle, is_idle, is_server_idle}
use Rattle.st_laws_due.proofs.ClientTickLaw.{client_tick_law}
use Rattle.st_laws_due.proofs.Ticks.{tick_law}

-- with these flush steps
abbrev pub with_flushed : List FlushStep → World → World
with_flushed xs w = record w { flushed = xs }

-- nothing is observed, and nothing changes but the flush steps
abbrev pub IsSame : World → WorldTurn → Type 0
IsSame w sc = (sc.seen ≡ []) × (sc.world ≡ with_flushed sc.world.flushed w)

not_so : (b : Bool) → not b ≡ true → b ≡ false
not_so true e = sym e
not_so false e = refl

numbered_same : {A : Type 0} (xs : List A) (n : ℕ) (x : A) → numbered xs n ≡ Some x → with_numbered n x xs ≡ xs
numbered_same xs zero x e = cc
numbered_same xs (suc n) x e = set_same xs n x e

-- Flush steps.

flushed_only : (w : World) (c : ClientId) (s : ServerId) (end : Option Stamp) (p : Option Phase) →
    flushed_in w c s end p ≡ with_flushed (flushed_in w c s end p).flushed w
flushed_only w c s end None = refl
flushed_only w c s None (Some phases.Flush) = refl
flushed_only w c s (Some end) (Some phases.Flush) = refl
flushed_only w c s end (Some phases.Valid) = refl
flushed_only w c s end (Some phases.Renewal) = refl
flushed_only w c s end (Some phases.Quiesce) = refl
flushed_only w c s end (Some phases.Expired) = refl

flushes_only : (c : ClientId) (state : ClientState) (ss : List ServerId) (w : World) → flushes c state ss w ≡ with_flushed (flushes c state ss w).flushed w
unfolding flushes
flushes_only c state [] w = refl
flushes_only c state (s ∷ ss) w =
    let v = flushed_at w c s state in
    flushes_only c state ss v
    ∙ ap (with_flushed (flushes c state ss v).flushed) (flushed_only w c s (lease_end_with state s) (phase_with state s (clock_of w (nodes.Client c))))

-- A client.

client_is : (w : World) (c : ClientId) (o : Option WorldClient) → site_of w c ≡ o → is_client_idle (clock_of w (nodes.Client c)) o ≡ true →
    IsSame w (at_client w c inputs.Tick o)
unfolding at_client client_takes client_took client_says_all Words.Client.node_step
client_is w c None e i = (refl, refl)
client_is w c (Some site) e i = by site.node.running
  where
    now : Stamp
    now = clock_of w (nodes.Client c)

    -- the world with the client as it was
    back : with_site c site w ≡ w
    back = ap (λ (xs : List WorldClient). record w { clients = xs }) (numbered_same w.clients c.0 site e)

    unmoved : client_step site.node.state now inputs.Tick ≡ client_turn site.node.state []
    unmoved = (client_tick_law site.node.state now).before now (omega arith) (not_so (is_due (client_due site.node.state now) now) i)

    kept : IsSame w (client_took w c site (Ok (Words.Client.node_turn site.node (client_turn site.node.state []))))
    kept =
        let v = with_site c site w in
        (refl, flushes_only c site.node.state (all_servers v) v ∙ ap (with_flushed (flushes c site.node.state (all_servers v) v).flushed) back)

    by : (b : Bool) →
        IsSame w (client_took w c site (cond b (Ok (Words.Client.node_turn site.node (client_step site.node.state now inputs.Tick))) (Err Crashed)))
    by true = subst (λ (t : ClientTurn). IsSame w (client_took w c site (Ok (Words.Client.node_turn site.node t)))) (sym unmoved) kept
    by false = (refl, refl)

-- A server.

server_is : (w : World) (s : ServerId) (o : Option ServerNode) → node_of w s ≡ o → is_server_idle (clock_of w (nodes.Server s)) o ≡ true →
    IsSame w (at_server w s serving.Tick o)
unfolding at_server server_takes server_took server_says_all Words.Server.node_step
server_is w s None e i = (refl, refl)
server_is w s (Some node) e i = by node.running
  where
    now : Stamp
    now = clock_of w (nodes.Server s)

    back : with_node s node w ≡ w
    back = ap (λ (xs : List ServerNode). record w { servers = xs }) (numbered_same w.servers s.0 node e)

    unmoved : server_step node.state now serving.Tick ≡ Words.Server.turn node.state []
    unmoved = (tick_law node.state now).before (not_so (is_due (server_due node.state) now) i)

    kept : IsSame w (server_took w s (Ok (Words.Server.node_turn node (Words.Server.turn node.state []))))
    kept = (refl, back ∙ ap (λ (v : World). with_flushed v.flushed w) (sym back))

    by : (b : Bool) → IsSame w (server_took w s (cond b (Ok (Words.Server.node_turn node (server_step node.state now serving.Tick))) (Err Crashed)))
    by true = subst (λ (t : ServerTurn). IsSame w (server_took w s (Ok (Words.Server.node_turn node t)))) (sym unmoved) kept
    by false = (refl, refl)

-- A node.

node_is : (w : World) (n : NodeId) → is_idle w n ≡ true → IsSame w (ticks w n)
unfolding ticks
node_is w (nodes.Client c) i = client_is w c (site_of w c) refl i
node_is w (nodes.Server s) i = server_is w s (node_of w s) refl i

step_is : (w : World) (n : NodeId) (sc : WorldTurn) (r : Option WorldRefusal) → is_idle w n ≡ true → world_by w (events.Tick n) r ≡ Ok sc → IsQuiet w sc
unfolding world_by happens
step_is w n sc None i e =
    subst (IsQuiet w) (value e) (let h = node_is (counted w) n i in record { quiet = h.0; same = h.1 })
  where
    value : {s t : WorldTurn} → ◌≡◌ {A = Result WorldTurn WorldRefusal} (Ok s) (Ok t) → s ≡ t
    value f = cc
step_is w n sc (Some r) i e = cc

pub idle_ticks : IdleTicksAreQuiet
unfolding world_step
idle_ticks w n sc i e = step_is w n sc (Words.Admissible.refusal w (events.Tick n)) i e
