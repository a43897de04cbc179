-- The test of a server's counters.
use Rattle.st_lemmas.proofs.Words
use Words.{◌≡◌, ◌+◌, ◌-◌, ◌^◌, ◌≤◌, Bool, true, sym, ◌∙◌, arith, IsTrue, ◌↔◌, nat_le, nat_lt, and_parts, and_from, le-leb, leb-true, lt-ltb, ltb-true}
use Words.Server.{ServerState}
use Rattle.st_server.specs.Room.{HasRoom, has_room, taken_locks}

room_from : (s : ServerState) → has_room s ≡ true → HasRoom s
room_from s e =
    let p = and_parts (nat_lt (taken_locks s.locks) (2 ^ 32 - 1)) _ e in
    let q = and_parts (nat_lt s.stable.names.next (2 ^ 32 - 1)) (nat_le (s.stable.extents.births + 1) (2 ^ 62)) p.1 in
    let b : s.stable.extents.births + 1 ≤ 2 ^ 62 = leb-true (s.stable.extents.births + 1) (2 ^ 62) q.1 in
    record { locks = ltb-true (taken_locks s.locks) (2 ^ 32 - 1) p.0; inodes = ltb-true s.stable.names.next (2 ^ 32 - 1) q.0; births = omega (arith, b) }

room_to : (s : ServerState) → HasRoom s → has_room s ≡ true
room_to s r =
    and_from (nat_lt (taken_locks s.locks) (2 ^ 32 - 1)) _ (lt-ltb (taken_locks s.locks) (2 ^ 32 - 1) r.locks)
    (and_from (nat_lt s.stable.names.next (2 ^ 32 - 1)) _ (lt-ltb s.stable.names.next (2 ^ 32 - 1) r.inodes)
    (le-leb (s.stable.extents.births + 1) (2 ^ 62) (omega (arith, r.births))))

pub room_is : (s : ServerState) (b : Bool) → b ≡ has_room s → IsTrue b ↔ HasRoom s
room_is s b e = ((λ f. room_from s (sym e ∙ f)), (λ r. e ∙ room_to s r))
