-- Lives that were kept are lives that began, and others may begin after them.
use Rattle.st_lemmas.proofs.Words
use Words.{◌≡◌, ℕ, ◌-◌, ◌^◌, true, ◌&&◌, List, [], ◌∷◌, map, refl, arith, list_all, and_from, and_parts, lt-ltb, ltb-true, Config, ClientId, Life, ServerId}
use Words.{length, nat_lt}
use Rattle.st_client.specs.Nodes.{crashed_at, crashed_node, is_begun, is_low, servers_to}
use Rattle.st_client.specs.Room.{HasRoom}
use Rattle.st_client_association.specs.Associations.{has_room_at}
use Rattle.st_embed.specs.Clients.{is_kept, life}

pub kept_begun : (ns : List ℕ) → list_all is_kept ns ≡ true → list_all is_begun (map life ns) ≡ true
kept_begun [] e = refl
kept_begun (n ∷ ns) e =
    let both = and_parts (is_kept n) (list_all is_kept ns) e in
    and_from (is_begun (life n)) (list_all is_begun (map life ns)) (and_parts (is_begun (life n)) (nat_lt n (2 ^ 62 - 1)) both.0).0 (kept_begun ns both.1)

kept_low : (ns : List ℕ) → list_all is_kept ns ≡ true → list_all is_low (map life ns) ≡ true
kept_low [] e = refl
kept_low (n ∷ ns) e =
    let both = and_parts (is_kept n) (list_all is_kept ns) e in
    let below = ltb-true n (2 ^ 62 - 1) (and_parts (is_begun (life n)) (nat_lt n (2 ^ 62 - 1)) both.0).1 in
    and_from (is_low (life n)) (list_all is_low (map life ns)) (lt-ltb n (2 ^ 62) (omega arith)) (kept_low ns both.1)

low_there : (ss : List ServerId) (ls : List Life) → list_all is_low ls ≡ true → list_all has_room_at (crashed_at ss ls) ≡ true
low_there [] ls e = refl
low_there (s ∷ ss) [] e = refl
low_there (s ∷ ss) (l ∷ ls) e =
    let both = and_parts (is_low l) (list_all is_low ls) e in
    and_from (is_low l && true) (list_all has_room_at (crashed_at ss ls)) (and_from (is_low l) true both.0 refl) (low_there ss ls both.1)

pub kept_room : (id : ClientId) (k : Config) (ns : List ℕ) → list_all is_kept ns ≡ true → HasRoom (crashed_node id k (map life ns)).state
kept_room id k ns e = record { commands = omega arith; each = low_there (servers_to (length (map life ns))) (map life ns) (kept_low ns e) }
