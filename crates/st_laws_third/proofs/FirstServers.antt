-- A server of the first two forms does what their own server does.
use Rattle.st_lemmas.proofs.Words
use Words.{◌≡◌, ℕ, false, [], ap, if◌then◌else◌, ◌-◌, ◌&&◌, ◌==◌, Ok, Err, refl, nat_le}
use Words.{Stamp, Header, Body, ServerInput}
use Words.Keys.{client, server_node}
use Words.nodes
use Words.Server as server
use Words.Server.{ServerNode, ServerState, ServerTurn}
use Words.World as world
use Rattle.st_rules.specs.declared.input.ServerInput.TheVariants as inputs
use Rattle.st_rules.specs.declared.node.StepRefusal.TheVariants.{Crashed}
use Rattle.st_base.specs.Nodes.{SERVER_BASE}
use Rattle.st_third.specs.Limits as limits
use Rattle.st_third.specs.Limits.{is_third, most_clients}
use Rattle.st_third.specs.Server as every

-- Nodes.

clients_are : (form : ℕ) → is_third form ≡ false → most_clients form ≡ 16
unfolding most_clients
clients_are form f = ap (λ b. if b then 64 else 16) f

pub node_is : (form n : ℕ) → is_third form ≡ false → limits.node_at form n ≡ world.node_at n
unfolding limits.node_at world.node_at
node_is form n f = λ i. if nat_le n (clients_are form f i) then nodes.Client (client n) else nodes.Server (world.server (n - SERVER_BASE))

-- Messages.

for_is : (form : ℕ) (s : ServerState) (h : Header) → is_third form ≡ false → every.is_for form s h ≡ server.is_for s h
for_is form s h f = ap (λ most. (h.to == server_node s.id) && (nat_le 1 h.from && nat_le h.from most)) (clients_are form f)

receive_is : (form : ℕ) (t : ServerTurn) (now : Stamp) (h : Header) (body : Body) → is_third form ≡ false →
    every.receive form t now h body ≡ server.receive t now h body
unfolding every.receive server.receive
receive_is form t now h body f = ap (λ b. if b then server.receive_from t now h body else t) (for_is form t.state h f)

-- Steps.

input_is : (form : ℕ) (t : ServerTurn) (now : Stamp) (input : ServerInput) → is_third form ≡ false →
    every.take_input form t now input ≡ server.take_input t now input
unfolding every.take_input server.take_input
input_is form t now inputs.Tick f = refl
input_is form t now (inputs.Control m) f = receive_is form t now m.header m.body f

step_is : (form : ℕ) (s : ServerState) (now : Stamp) (input : ServerInput) → is_third form ≡ false →
    every.server_step form s now input ≡ server.server_step s now input
unfolding every.server_step server.server_step
step_is form s now input f = ap (λ t. every.passes t now input) (input_is form (server.thefts (server.turn s []) now) now input f)

pub node_step_is : (form : ℕ) (n : ServerNode) (now : Stamp) (input : ServerInput) → is_third form ≡ false →
    every.node_step form n now input ≡ server.node_step n now input
unfolding every.node_step server.node_step
node_step_is form n now input f =
    ap (λ (t : ServerTurn). if n.running then Ok (server.node_turn n t) else Err Crashed) (step_is form n.state now input f)
