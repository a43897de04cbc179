-- A step of a client takes away one of the steps for which its counters have room.
use Rattle.st_lemmas.proofs.Words
use Words.{◌≡◌, ℕ, ◌+◌, ◌*◌, ◌^◌, ◌<◌, ◌≤◌, Bool, true, false, Ok, Err, if◌then◌else◌, refl, arith, nat_lt, ◌&&◌, Option, Some, None, lt-ltb, Config, ClientId}
use Words.{Stamp, ClientInput}
use Words.Tables.{all_pass, and_both}
use Words.Client as client
use Words.Client.{ClientNode, client_step, node_step}
use Words.ClientState.{Association, ClientSession}
use Rattle.st_client.specs.Room.{HasRoom}
use Rattle.st_client_association.specs.Associations.{has_room_at, may_ask}
use Rattle.st_laws_bounds.specs.Counters.Counts.{AsksLow}
use Rattle.st_laws_bounds.specs.Counters.Rises.{FreshClientsBegin, IsWithinAt, StepsRaiseLittle}
use Rattle.st_rules.specs.declared.node.StepRefusal.TheVariants.{Crashed}
use Rattle.st_node.specs.Room.{ClientHasRoom, HasRoomFor}
use Rattle.st_node.specs.Runs.{MOST, client_stepped}

asks_low : (most : ℕ) (s : Option ClientSession) → most < 2 ^ 62 → AsksLow most s → may_ask s ≡ true
asks_low most None few low = refl
asks_low most (Some s) few low = lt-ltb _ _ (omega (arith, few, low))

room_at : (most : ℕ) (a : Association) → most < 2 ^ 62 → IsWithinAt most a → has_room_at a ≡ true
room_at most a few h =
    let versions : nat_lt a.store.pages.next_version (2 ^ 62) ≡ true = lt-ltb _ _ (omega (arith, h.versions, few)) in
    let lives : nat_lt a.life.0 (2 ^ 62) ≡ true = lt-ltb _ _ (omega (arith, h.lives, few)) in
    and_both _ _ versions (and_both _ _ lives (asks_low most a.session few h.requests))

-- room for a step
pub client_now : (k : ℕ) (n : ClientNode) → ClientHasRoom k n → HasRoom n.state
client_now k n r =
    let few : r.most < 2 ^ 62 = omega (arith, r.room) in
    record { commands = omega (arith, r.within.commands, few); each = all_pass has_room_at n.state.associations (λ a i. room_at r.most a few (r.within.each a i)) }

pub client_less : (k : ℕ) (n : ClientNode) → ClientHasRoom (k + 1) n → ClientHasRoom k n
client_less k n r = record { most = r.most; within = r.within; room = omega (arith, r.room) }

-- after a step
pub client_stepped_room : StepsRaiseLittle → (k : ℕ) (n : ClientNode) (now : Stamp) (i : ClientInput) → ClientHasRoom (k + 1) n → HasRoomFor k (client_stepped n (node_step n now i)).node
unfolding node_step
client_stepped_room law k n now i r = go n.running
  where
    go : (b : Bool) → HasRoomFor k (client_stepped n (if b then Ok (client.node_turn n (client_step n.state now i)) else Err Crashed)).node
    go true = record { most = r.most + 2 ^ 15; within = law n.state now i r.most r.within; room = omega (arith, r.room) }
    go false = client_less k n r

-- a client that was never started has room for all steps that a node takes
pub fresh_client_room : FreshClientsBegin → (id : ClientId) (k : Config) (servers : ℕ) → servers ≤ 4 → ClientHasRoom MOST (client.fresh_node id k servers)
unfolding MOST
fresh_client_room law id k servers few = record { most = 1; within = law id k servers few; room = omega arith }
