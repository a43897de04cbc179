-- A client that crashed in given lives.
use Rattle.st_lemmas.proofs.Words
use Words.{◌≡◌, ℕ, zero, suc, ◌+◌, ◌≤◌, true, List, [], ◌∷◌, length, map, refl, sym, ap, subst, ◌∙◌, None, Ok, nat_le, list_all, and_from, and_parts, le-leb}
use Words.{leb-true, length-map, Config, ClientId, Life, ServerId}
use Words.Client.{fresh_association, fresh_client}
use Words.ClientState.{ClientState}
use Words.Extents.{numbers}
use Rattle.st_base.specs.Config.{check}
use Rattle.st_client.proofs.Running.{known_from}
use Rattle.st_client.proofs.Sends.{fresh_sound}
use Rattle.st_client.specs.Nodes.{IsNode, crashed_at, is_begun, is_server, node_of, crashed_node, server_at, servers_to}
use Rattle.st_client.specs.Invariants.{AreSound, IsSound}

numbers_count : (n first : ℕ) → length (numbers first n) ≡ n
unfolding numbers
numbers_count zero first = refl
numbers_count (suc n) first = ap suc (numbers_count n (first + 1))

servers_count : (n : ℕ) → length (servers_to n) ≡ n
servers_count n =
    length-map (map fresh_association (numbers 1 n)) server_at ∙ length-map (numbers 1 n) fresh_association ∙ numbers_count n 1

lives_sound : (ss : List ServerId) (ls : List Life) → list_all is_server ss ≡ true → list_all is_begun ls ≡ true → AreSound (crashed_at ss ls)
lives_sound [] ls h k = tt
lives_sound (s ∷ ss) [] h k = tt
lives_sound (s ∷ ss) (l ∷ ls) h k =
    let a = and_parts (is_server s) (list_all is_server ss) h in
    let b = and_parts (is_begun l) (list_all is_begun ls) k in
    (record { server = a.0; life = leb-true 1 l.0 b.0; session = tt }, lives_sound ss ls a.1 b.1)

-- a client that was fresh gives the servers, and these are the lives
module _ (id : ClientId) (config : Config) (ss : List ServerId) (ls mine : List Life) (c : ClientState) (count : ℕ)
    (fresh : c ≡ fresh_client id config count) (told : ss ≡ map server_at c.associations) (copy : mine ≡ ls) (same : count ≡ length ls) where
  servers_are : ss ≡ servers_to (length ls)
  unfolding fresh_client
  servers_are = told ∙ ap (λ (d : ClientState). map server_at d.associations) fresh ∙ ap servers_to same

  pub restored_is : node_of id config ss mine None ≡ crashed_node id config ls
  restored_is = ap (λ xs. node_of id config xs mine None) servers_are ∙ ap (λ xs. node_of id config (servers_to (length ls)) xs None) copy

  pub restored_in : (capacity : ℕ) → check config ≡ Ok tt → 1 ≤ id.0 → id.0 ≤ 16 → length ls ≤ 4 → list_all is_begun ls ≡ true → length ls ≤ capacity → IsNode id config ss mine capacity None
  restored_in capacity checked one most few begun room =
      let h : IsSound c = subst IsSound (sym fresh) (fresh_sound id config count one most (subst (λ n. n ≤ 4) (sym same) few)) in
      let known : list_all is_server ss ≡ true = ap (list_all is_server) told ∙ known_from c.associations h.associations in
      let e : length ss ≡ length ls = ap length servers_are ∙ servers_count (length ls) in
      record {
        checked = checked;
        known = known;
        count = ap length copy ∙ sym e;
        room = subst (λ n. n ≤ capacity) (sym e) room;
        runs = tt;
        sound = record {
          client = and_from (nat_le 1 id.0) (nat_le id.0 16) (le-leb 1 id.0 one) (le-leb id.0 16 most);
          associations = lives_sound ss mine known (subst (λ xs. list_all is_begun xs ≡ true) (sym copy) begun);
          operations = refl;
        };
      }
