-- What a message of a client to a server has in its header, by its kind.
use Rattle.st_lemmas.proofs.Words
use Words.{◌≡◌, ℕ, ◌+◌, ◌^◌, ◌≤◌, true, ◌&&◌, ◌==◌, arith, nat_le, and_parts, eqb-true, leb-true, lt-ltb, Ask, Kind, Header, Body}
use Words.asks
use Words.parties
use Words.bodies
use Words.Kinds.{allows, includes, is_word64, kind_of_ask, kind_of_body, sender, receiver, life_of, epoch_of, request_of, stamp_of}
use Words.Ranges.{is_header}
use Words.Keys.{server_node}
use Words.Server.{ServerState, is_client_node, is_for}
use Rattle.st_messages.specs.declared.kind.Kind.TheVariants as kinds
use Rattle.st_messages.specs.declared.kind.Need.{Need}
use Rattle.st_messages.specs.declared.kind.Need.TheVariants.{Zero, Positive, Any}
use Rattle.st_server.proofs.Sending.{IsAsked}
use Rattle.st_server.proofs.SoundMessages.{IsNumbered}

-- a header's fields, by the kind
record Parts (k : Kind) (h : Header) : Type 0 where
  from : includes (sender k) h.from ≡ true
  to : includes (receiver k) h.to ≡ true
  life : allows (life_of k) h.life ≡ true
  epoch : allows (epoch_of k) h.epoch ≡ true
  number : allows (request_of k) h.number ≡ true
  stamp : allows (stamp_of k) h.stamp ≡ true

parts : (k : Kind) (h : Header) → is_header k h ≡ true → Parts k h
unfolding is_header
parts k h e =
    let p = and_parts (includes (sender k) h.from && includes (receiver k) h.to) _ e in
    let q = and_parts (includes (sender k) h.from) (includes (receiver k) h.to) p.0 in
    let r = and_parts (allows (life_of k) h.life && allows (epoch_of k) h.epoch) (allows (request_of k) h.number && allows (stamp_of k) h.stamp) p.1 in
    let u = and_parts (allows (life_of k) h.life) (allows (epoch_of k) h.epoch) r.0 in
    let v = and_parts (allows (request_of k) h.number) (allows (stamp_of k) h.stamp) r.1 in
    record { from = q.0; to = q.1; life = u.0; epoch = u.1; number = v.0; stamp = v.1 }

word : (need : Need) (n : ℕ) → allows need n ≡ true → is_word64 n ≡ true
word Zero n e = let z : n ≡ 0 = eqb-true n 0 e in lt-ltb n (2 ^ 64) (omega (arith, z))
word Positive n e = (and_parts (nat_le 1 n) (is_word64 n) e).1
word Any n e = e

-- what the rules use of a message
pub record IsMessage (h : Header) (b : Body) : Type 0 where
  pub asked : IsAsked h
  pub numbered : IsNumbered h b
  pub epoch : is_word64 h.epoch ≡ true

no_server : (n : ℕ) → is_client_node n ≡ true → includes parties.Server n ≡ true → ⊥
no_server n e f =
    let a : n ≤ 16 = leb-true n 16 (and_parts (nat_le 1 n) (nat_le n 16) e).1 in
    let b : 32769 ≤ n = leb-true 32769 n (and_parts (nat_le 32769 n) (nat_le n 32772) f).0 in
    omega (arith, a, b)

no_surroundings : (n : ℕ) → is_client_node n ≡ true → includes parties.Surroundings n ≡ true → ⊥
no_surroundings n e f =
    let a : 1 ≤ n = leb-true 1 n (and_parts (nat_le 1 n) (nat_le n 16) e).0 in
    let b : n ≡ 0 = eqb-true n 0 f in
    omega (arith, a, b)

not_there : (s : ServerState) (n : ℕ) → (n == server_node s.id) ≡ true → includes parties.Surroundings n ≡ true → ⊥
not_there s n e f =
    let a : n ≡ 32768 + s.id.0 = eqb-true n (32768 + s.id.0) e in
    let b : n ≡ 0 = eqb-true n 0 f in
    omega (arith, a, b)

module _ (s : ServerState) (h : Header) (for_it : is_for s h ≡ true) where
  there : (h.to == server_node s.id) ≡ true
  there = (and_parts (h.to == server_node s.id) (is_client_node h.from) for_it).0

  client : is_client_node h.from ≡ true
  client = (and_parts (h.to == server_node s.id) (is_client_node h.from) for_it).1

  asked : (k : Kind) → Parts k h → allows Positive h.life ≡ true → IsAsked h
  asked k p e = record { from = client; life = e; number = word (request_of k) h.number p.number; stamp = word (stamp_of k) h.stamp p.stamp }

  ask_absurd : (a : Ask) → Parts (kind_of_ask a) h → ⊥
  ask_absurd (asks.Patch f page at bytes) p = no_surroundings h.from client p.from
  ask_absurd (asks.Write f page bytes) p = no_surroundings h.from client p.from
  ask_absurd (asks.Read f page) p = no_surroundings h.from client p.from
  ask_absurd (asks.Sync f) p = no_surroundings h.from client p.from
  ask_absurd (asks.Cut f page) p = no_surroundings h.from client p.from
  ask_absurd (asks.Name server n) p = no_surroundings h.from client p.from

  by_kind : (b : Body) → Parts (kind_of_body b) h → IsMessage h b
  by_kind bodies.Hello p = record { asked = asked kinds.Hello p p.life; numbered = p.number; epoch = word Zero h.epoch p.epoch }
  by_kind (bodies.DemandSeen ino g) p = record { asked = asked kinds.DemandSeen p p.life; numbered = tt; epoch = word Positive h.epoch p.epoch }
  by_kind bodies.KeepAlive p = record { asked = asked kinds.KeepAlive p p.life; numbered = p.number; epoch = word Positive h.epoch p.epoch }
  by_kind (bodies.Acquire ino m) p = record { asked = asked kinds.Acquire p p.life; numbered = p.number; epoch = word Positive h.epoch p.epoch }
  by_kind (bodies.Released ino g to) p = record { asked = asked kinds.Released p p.life; numbered = p.number; epoch = word Positive h.epoch p.epoch }
  by_kind (bodies.Map ino g page) p = record { asked = asked kinds.Map p p.life; numbered = p.number; epoch = word Positive h.epoch p.epoch }
  by_kind (bodies.Allocate ino g page count) p = record { asked = asked kinds.Allocate p p.life; numbered = p.number; epoch = word Positive h.epoch p.epoch }
  by_kind (bodies.Cut ino g from) p = record { asked = asked kinds.Cut p p.life; numbered = p.number; epoch = word Positive h.epoch p.epoch }
  by_kind (bodies.Name op) p = record { asked = asked kinds.Name p p.life; numbered = p.number; epoch = word Positive h.epoch p.epoch }
  by_kind (bodies.Reassert rows) p = record { asked = asked kinds.Reassert p p.life; numbered = p.number; epoch = word Positive h.epoch p.epoch }
  by_kind bodies.Welcome p = elim (no_server h.from client p.from) [ ]
  by_kind bodies.Ack p = elim (no_server h.from client p.from) [ ]
  by_kind (bodies.Nack w x y) p = elim (no_server h.from client p.from) [ ]
  by_kind (bodies.Granted ino g m) p = elim (no_server h.from client p.from) [ ]
  by_kind (bodies.Queued ino m) p = elim (no_server h.from client p.from) [ ]
  by_kind (bodies.Demand ino g to) p = elim (no_server h.from client p.from) [ ]
  by_kind (bodies.Extents ino rows) p = elim (no_server h.from client p.from) [ ]
  by_kind (bodies.Named r) p = elim (no_server h.from client p.from) [ ]
  by_kind bodies.Reasserted p = elim (no_server h.from client p.from) [ ]
  by_kind bodies.Tick p = elim (no_surroundings h.from client p.from) [ ]
  by_kind (bodies.App op a) p = elim (ask_absurd a p) [ ]
  by_kind (bodies.AppDone op a) p = elim (not_there s h.to there p.to) [ ]
  by_kind (bodies.Submit number at what) p = elim (not_there s h.to there p.to) [ ]
  by_kind (bodies.Done number r) p = elim (no_surroundings h.from client p.from) [ ]

  pub message_is : (b : Body) → is_header (kind_of_body b) h ≡ true → IsMessage h b
  message_is b e = by_kind b (parts (kind_of_body b) h e)
