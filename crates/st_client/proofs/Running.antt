-- A node that runs: where it begins, and what its steps leave.
use Rattle.st_lemmas.proofs.Words
use Words.{◌≡◌, ℕ, zero, suc, ◌≤◌, ◌^◌, true, false, List, [], ◌∷◌, length, map, refl, sym, ap, subst, ◌∙◌, arith, Option, Some, None, find, Ok, list_all}
use Words.{and_parts, and_from, eqb-true, lt-leb, length-map, Config, ClientId, Life, ServerId, Stamp, Output, ClientInput}
use Words.Tables.{and_right, cond_either}
use Words.Kinds.{between}
use Words.Client.{ClientNode, client_step, crash_node, fresh_client, lease_at, lease_end_with, life_of_association, lives, start, started_association}
use Words.ClientLease.{end_at}
use Words.ClientState.{Association, ClientState, ClientTurn, client_turn, is_at}
use Words.Keys.{same_server}
use Rattle.st_base.specs.Config.{check}
use Rattle.st_client.proofs.Crashing.{crashes}
use Rattle.st_client.proofs.Sends.{crash_sound, fresh_sound, step_sound}
use Rattle.st_client.proofs.Servers.{step_keeps}
use Rattle.st_client.specs.Ends.{end_in}
use Rattle.st_client.specs.Inputs.{comes_fit}
use Rattle.st_client.specs.Nodes.{IsKept, IsNode, RunsAs, crashed_at, crashed_client, is_server, node_of, server_at, state_of, with_more}
use Rattle.st_client.specs.Room.{HasRoom}
use Rattle.st_client.specs.Invariants.{AreSound, IsSound}

pub known_from : (xs : List Association) → AreSound xs → list_all is_server (map server_at xs) ≡ true
known_from [] h = refl
known_from (a ∷ xs) h = and_from (is_server a.server) (list_all is_server (map server_at xs)) h.0.server (known_from xs h.1)

-- a node with this state
pub runs_in : (id : ClientId) (config : Config) (ss : List ServerId) (ls : List Life) (capacity : ℕ) (c : ClientState) → check config ≡ Ok tt → c.id ≡ id → c.config ≡ config →
    ss ≡ map server_at c.associations → ls ≡ lives c → length ss ≤ capacity → IsSound c → IsNode id config ss ls capacity (Some c)
runs_in id config ss ls capacity c k i f e l r h =
    record {
      checked = k;
      known = ap (list_all is_server) e ∙ known_from c.associations h.associations;
      count = ap length l ∙ length-map c.associations life_of_association ∙ sym (length-map c.associations server_at) ∙ sym (ap length e);
      room = r;
      runs = record { id = i; config = f; servers = sym e; lives = sym l };
      sound = h;
    }

-- a node that was never started before
pub fresh_in : (id : ClientId) (config : Config) (ss : List ServerId) (ls : List Life) (capacity servers : ℕ) (c : ClientState) → check config ≡ Ok tt → c ≡ fresh_client id config servers →
    ss ≡ map server_at c.associations → ls ≡ lives c → length ss ≤ capacity → 1 ≤ id.0 → id.0 ≤ 16 → servers ≤ 4 → IsNode id config ss ls capacity (Some c)
unfolding fresh_client
fresh_in id config ss ls capacity servers c k e s l r one most few =
    runs_in id config ss ls capacity c k (ap (λ (d : ClientState). d.id) e) (ap (λ (d : ClientState). d.config) e) s l r (subst IsSound (sym e) (fresh_sound id config servers one most few))

-- what a step leaves fits the lives as they were before it
pub kept_fits : (id : ClientId) (config : Config) (ss : List ServerId) (ls : List Life) (capacity : ℕ) (c s : ClientState) → IsNode id config ss ls capacity (Some c) → IsKept c s → length s.associations ≤ capacity
kept_fits id config ss ls capacity c s n k =
    let e = sym (length-map s.associations server_at) ∙ ap length (k.servers ∙ n.runs.servers) in
    let r = n.room in
    omega (arith, e, r)

-- the node after a step
pub steps_in : (id : ClientId) (config : Config) (ss : List ServerId) (ls more : List Life) (capacity room : ℕ) (c s : ClientState) → IsNode id config ss ls capacity (Some c) → IsKept c s →
    more ≡ lives s → room ≡ capacity → IsSound s → IsNode id config ss more room (Some s)
steps_in id config ss ls more capacity room c s n k l e h =
    let r = n.room in
    runs_in id config ss more room s n.checked (k.id ∙ n.runs.id) (k.config ∙ n.runs.config) (sym (k.servers ∙ n.runs.servers)) l (omega (arith, r, e)) h

-- the servers of a client that is started
servers_started : (ss : List ServerId) (ls : List Life) → length ls ≡ length ss → map server_at (map started_association (crashed_at ss ls)) ≡ ss
servers_started [] ls e = refl
servers_started (s ∷ ss) [] e = cc
servers_started (s ∷ ss) (l ∷ ls) e = ap (λ ys. s ∷ ys) (servers_started ss ls (omega (arith, e)))

pub started_fits : (id : ClientId) (config : Config) (ss : List ServerId) (ls : List Life) (capacity : ℕ) (s : ClientState) → s ≡ start (crashed_client id config ss ls) → length ls ≡ length ss →
    length ss ≤ capacity → length s.associations ≤ capacity
unfolding start
started_fits id config ss ls capacity s e n r =
    let k = ap (λ (c : ClientState). length c.associations) e ∙ sym (length-map (map started_association (crashed_at ss ls)) server_at) ∙ ap length (servers_started ss ls n) in
    omega (arith, k, r)

pub starts_in : (id : ClientId) (config : Config) (ss : List ServerId) (ls more : List Life) (capacity room : ℕ) (s : ClientState) → check config ≡ Ok tt → s ≡ start (crashed_client id config ss ls) →
    length ls ≡ length ss → length ss ≤ capacity → more ≡ lives s → room ≡ capacity → IsSound s → IsNode id config ss more room (Some s)
unfolding start
starts_in id config ss ls more capacity room s k e n r l f h =
    runs_in id config ss more room s k (ap (λ (c : ClientState). c.id) e) (ap (λ (c : ClientState). c.config) e)
    (sym (servers_started ss ls n) ∙ ap (λ (c : ClientState). map server_at c.associations) (sym e)) l (omega (arith, r, f)) h

-- the servers of a node
servers_crashed : (ss : List ServerId) (ls : List Life) → length ls ≡ length ss → map server_at (crashed_at ss ls) ≡ ss
servers_crashed [] ls e = refl
servers_crashed (s ∷ ss) [] e = cc
servers_crashed (s ∷ ss) (l ∷ ls) e = ap (λ ys. s ∷ ys) (servers_crashed ss ls (omega (arith, e)))

pub servers_of : (id : ClientId) (config : Config) (ss : List ServerId) (ls : List Life) (o : Option ClientState) → length ls ≡ length ss → RunsAs id config ss ls o →
    map server_at (state_of id config ss ls o).associations ≡ ss
servers_of id config ss ls None e r = servers_crashed ss ls e
servers_of id config ss ls (Some c) e r = r.servers

-- a client that is started, with nothing but these associations
pub start_is : (id : ClientId) (config : Config) (ss : List ServerId) (ls : List Life) (c : ClientState) → c ≡ record { id = id; config = config; associations = []; operations = []; next_command = 1 } →
    with_more (map started_association (crashed_at ss ls)) c ≡ start (crashed_client id config ss ls)
unfolding start
start_is id config ss ls c e = ap (with_more (map started_association (crashed_at ss ls))) e

-- a node that crashed
pub crashes_in : (id : ClientId) (config : Config) (ss : List ServerId) (ls : List Life) (capacity : ℕ) (o p : Option ClientState) → p ≡ None → IsNode id config ss ls capacity o → IsNode id config ss ls capacity p
crashes_in id config ss ls capacity o p e n =
    rw e
    (record {
      checked = n.checked;
      known = n.known;
      count = n.count;
      room = n.room;
      runs = tt;
      sound = subst IsSound (sym (crashes id config ss ls o n.runs)) (crash_sound (state_of id config ss ls o) n.sound);
    })

pub crashed_is : (id : ClientId) (config : Config) (ss : List ServerId) (ls : List Life) (capacity : ℕ) (o p : Option ClientState) (n : ClientNode) → p ≡ None → IsNode id config ss ls capacity o →
    node_of id config ss ls o ≡ n → node_of id config ss ls p ≡ crash_node n
crashed_is id config ss ls capacity o p n e i f =
    ap (node_of id config ss ls) e ∙ ap (λ (s : ClientState). record { state = s; running = false }) (crashes id config ss ls o i.runs) ∙ ap crash_node f

-- what holds after a step of a node that runs
pub record IsStepped (id : ClientId) (config : Config) (ss : List ServerId) (ls : List Life) (capacity : ℕ) (c s : ClientState) : Type 0 where
  pub node : IsNode id config ss ls capacity (Some c)
  pub kept : IsKept c s
  pub sound : IsSound s

pub stepped : (id : ClientId) (config : Config) (ss : List ServerId) (ls : List Life) (capacity : ℕ) (o : Option ClientState) (c s : ClientState) (n : ClientNode) (now : Stamp) (input : ClientInput) (out : List Output) →
    IsNode id config ss ls capacity o → o ≡ Some c → node_of id config ss ls o ≡ n → client_turn s out ≡ client_step c now input → HasRoom n.state → now.0 ≤ 2 ^ 62 → comes_fit input ≡ true →
    IsStepped id config ss ls capacity c s
stepped id config ss ls capacity o c s n now input out i e v r room time fits =
    let there = subst (λ p. IsNode id config ss ls capacity p) e i in
    let is = ap (λ (t : ClientTurn). t.state) r in
    let was = sym (ap (state_of id config ss ls) e) ∙ ap (λ (m : ClientNode). m.state) v in
    record {
      node = there;
      kept = subst (IsKept c) (sym is) (step_keeps c now input);
      sound = subst IsSound (sym is) (step_sound c now input there.sound (subst HasRoom (sym was) room) time fits);
    }

-- The ends of leases.

absent : (s : ServerId) (xs : List Association) → is_server s ≡ false → list_all is_server (map server_at xs) ≡ true → find (is_at s) xs ≡ None
absent s [] e k = refl
absent s (a ∷ xs) e k =
    let p = and_parts (is_server a.server) (list_all is_server (map server_at xs)) k in
    cond_either (λ (o : Option Association). o ≡ None) (same_server a.server s) (Some a) (find (is_at s) xs)
    (λ h. let bad : true ≡ false = sym p.0 ∙ ap (λ n. between 1 4 n) (eqb-true a.server.0 s.0 h) ∙ e in cc bad) (λ h. absent s xs e p.1)

no_end_at : (c : ClientState) (s : ServerId) → is_server s ≡ false → list_all is_server (map server_at c.associations) ≡ true → None ≡ lease_end_with c s
no_end_at c s e k = sym (ap (λ o. end_at c.config (lease_at o)) (absent s c.associations e k))

far : (m : ℕ) → is_server (record { 0 = suc (suc (suc (suc (suc m)))) }) ≡ false
far m = and_right _ _ (lt-leb (suc (suc (suc (suc (suc m))))) 4 (omega arith))

module _ (c : ClientState) (a b d e : Option Stamp) (k : list_all is_server (map server_at c.associations) ≡ true) (f : a ≡ lease_end_with c (record { 0 = 1 }))
    (g : b ≡ lease_end_with c (record { 0 = 2 })) (h : d ≡ lease_end_with c (record { 0 = 3 })) (i : e ≡ lease_end_with c (record { 0 = 4 })) where
  end_at_each : (n : ℕ) → end_in (record { ends = a ∷ b ∷ d ∷ e ∷ [] }) (record { 0 = n }) ≡ lease_end_with c (record { 0 = n })
  end_at_each zero = no_end_at c (record { 0 = 0 }) refl k
  end_at_each (suc zero) = f
  end_at_each (suc (suc zero)) = g
  end_at_each (suc (suc (suc zero))) = h
  end_at_each (suc (suc (suc (suc zero)))) = i
  end_at_each (suc (suc (suc (suc (suc m))))) = no_end_at c (record { 0 = suc (suc (suc (suc (suc m)))) }) (far m) k

  pub ends_are : (s : ServerId) → end_in (record { ends = a ∷ b ∷ d ∷ e ∷ [] }) s ≡ lease_end_with c s
  ends_are s = end_at_each s.0
