-- A step of a node takes away one of the steps for which its counters have room.
use Rattle.st_lemmas.proofs.Words
use Words.{◌≡◌, ℕ, ◌+◌, ◌-◌, ◌^◌, ◌≤◌, Bool, true, [], Ok, Err, if◌then◌else◌, refl, sym, subst, arith, min, nat_le, ◌&&◌, and_parts, leb-true, Config}
use Words.{ServerId, Stamp, Body, ServerInput}
use Words.bodies
use Words.Ranges.{fits, is_body, is_count, is_grant, is_header, is_ino, is_page}
use Words.Kinds.{kind_of_body}
use Words.serving.{Tick, Control}
use Words.Names as names
use Words.Server as server
use Words.Server.{ServerNode, turn, node_step, server_step}
use Rattle.st_rules.specs.declared.node.StepRefusal.TheVariants.{Crashed}
use Rattle.st_server.specs.RuleConditions.{comes_fit}
use Rattle.st_server.specs.Room.{HasRoom, taken_locks}
use Rattle.st_server.specs.Invariants.{IsSound}
use Rattle.st_server.proofs.SoundSteps.{step_turn, moment_word}
use Rattle.st_node.specs.Room.{HasRoomFor, ServerHasRoom}
use Rattle.st_node.specs.Runs.{MOST, server_stepped}
use Rattle.st_trace.specs.Server.Growth.{GrowsLittle, pages_asked, pages_in}
use Rattle.st_trace.proofs.Server.Growth.{step_grows}

-- room for a step
pub room_now : (k : ℕ) (n : ServerNode) → ServerHasRoom (k + 1) n → HasRoom n.state
room_now k n r = record { locks = omega (arith, r.locks); inodes = omega (arith, r.inodes); births = omega (arith, r.births) }

-- a request asks for at most 64 pages
count_few : (page n : ℕ) → is_count page n ≡ true → n ≤ 64
count_few page n e = let most : n ≤ min 64 (1048576 - page) = leb-true n (min 64 (1048576 - page)) (and_parts (nat_le 1 n) (nat_le n (min 64 (1048576 - page))) e).1 in omega (arith, most)

asked_few : (b : Body) → is_body b ≡ true → pages_asked b ≤ 64
unfolding is_body
asked_few (bodies.Allocate ino g page count) e = count_few page.0 count (and_parts (is_page 0 page.0) (is_count page.0 count)
    (and_parts (is_grant g) (is_page 0 page.0 && is_count page.0 count)
    (and_parts (is_ino ino) (is_grant g && (is_page 0 page.0 && is_count page.0 count)) e).1).1).1
asked_few b e = omega arith

input_few : (i : ServerInput) → comes_fit i ≡ true → pages_in i ≤ 64
unfolding fits
input_few Tick e = omega arith
input_few (Control m) e = asked_few m.body (and_parts (is_header (kind_of_body m.body) m.header) (is_body m.body) e).1

-- after a step
stepped_room : (k : ℕ) (n : ServerNode) (now : Stamp) (i : ServerInput) → IsSound n.state → now.0 ≤ 2 ^ 62 → comes_fit i ≡ true → ServerHasRoom (k + 1) n →
    ServerHasRoom k (record n { state = (server_step n.state now i).state })
unfolding server_step
stepped_room k n now i sound time fit r =
    let taken : taken_locks (server_step n.state now i).state.locks ≤ taken_locks n.state.locks + 1 =
    (step_turn (turn n.state []) now refl sound (room_now k n r) (moment_word now.0 time) i fit).sound.held.few in
    let grown : GrowsLittle (pages_in i) n.state.stable (server_step n.state now i).state.stable = step_grows n.state now i in
    let asked = input_few i fit in
    record {
      running = r.running;
      locks = omega (arith, taken, r.locks);
      inodes = omega (arith, grown.inodes, r.inodes);
      births = omega (arith, grown.births, asked, r.births);
    }

pub room_stepped : (k : ℕ) (n : ServerNode) (now : Stamp) (i : ServerInput) → IsSound n.state → now.0 ≤ 2 ^ 62 → comes_fit i ≡ true → ServerHasRoom (k + 1) n →
    HasRoomFor k (server_stepped n (node_step n now i)).node
unfolding node_step
room_stepped k n now i sound time fit r =
    let P : Bool → Type 0 = λ b. HasRoomFor k (server_stepped n (if b then Ok (server.node_turn n (server_step n.state now i)) else Err Crashed)).node in
    subst P (sym r.running) (stepped_room k n now i sound time fit r)

-- a server that was never started has room for all steps that a node takes
pub fresh_room : (id : ServerId) (k : Config) (servers disks blocks : ℕ) → ServerHasRoom MOST (server.fresh_node id k servers disks blocks)
unfolding MOST server.fresh_server names.fresh_names
fresh_room id k servers disks blocks = record { running = refl; locks = omega arith; inodes = omega arith; births = omega arith }
