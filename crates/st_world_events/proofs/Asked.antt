-- An ask is counted before its step.
use Rattle.std.proofs.Common.{◌≡◌, ℕ, zero, suc, ◌+◌, true, List, [], ◌∷◌, set, refl, sym, ap, ◌∙◌, arith}
use Rattle.std.specs.Prelude.{pred, Ok}
use Rattle.st_base.specs.declared.ids.ClientId.{ClientId}
use Rattle.st_base.specs.declared.ids.NodeId.TheVariants as nodes
use Rattle.st_base.specs.declared.ids.Stamp.{Stamp}
use Rattle.st_rules.specs.declared.client.ClientInput.{ClientInput}
use Rattle.st_rules.specs.Client.{ClientNode, NodeTurn, client_step, node_step, node_turn}
use Rattle.st_rules.specs.Events.{at_node, client_says_all, client_takes, client_took, quiet, with_flushes}
use Rattle.st_rules.specs.World.{WorldClient, World, clock_of}

set_again : {A : Type 0} (xs : List A) (i : ℕ) (x y : A) → set (set xs i x) i y ≡ set xs i y
set_again [] i x y = refl
set_again (z ∷ zs) zero x y = refl
set_again (z ∷ zs) (suc i) x y = ap (λ l. z ∷ l) (set_again zs i x y)

steps : (n : ClientNode) (now : Stamp) (input : ClientInput) → n.running ≡ true → node_step n now input ≡ Ok (node_turn n (client_step n.state now input))
unfolding node_step
steps n now input h = rw h refl

took_again : (w : World) (c : ClientId) (i : ℕ) (site : WorldClient) (t : NodeTurn) → i ≡ pred c.0 → client_took (record w { clients = set w.clients i site }) c site (Ok t) ≡ client_took w c site (Ok t)
unfolding client_took
took_again w c i site t p =
    ap (λ (xs : List WorldClient). with_flushes c t.node.state (client_says_all c site.node.state t.out (quiet (record w { clients = xs }))))
    (ap (λ k. set (set w.clients k site) (pred c.0) (at_node t.node site)) p ∙ set_again w.clients (pred c.0) site (at_node t.node site))

-- a client that runs takes an input, with its place already written
pub takes_again : (w : World) (c : ClientId) (i : ℕ) (input : ClientInput) (site : WorldClient) → c.0 ≡ i + 1 → site.node.running ≡ true →
    client_takes (record w { clients = set w.clients i site }) c input site ≡ client_takes w c input site
unfolding client_takes
takes_again w c i input site n h =
    let p : i ≡ pred c.0 = omega (arith, n) in
    let now = clock_of w (nodes.Client c) in
    let t = node_turn site.node (client_step site.node.state now input) in
    ap (client_took (record w { clients = set w.clients i site }) c site) (steps site.node now input h)
    ∙ took_again w c i site t p
    ∙ sym (ap (client_took w c site) (steps site.node now input h))
