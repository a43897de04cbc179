-- The messages that a server sends fit.
use Rattle.st_lemmas.proofs.Words
use Words.{◌≡◌, ℕ, ◌+◌, ◌-◌, ◌^◌, ◌≤◌, Bool, true, ◌&&◌, ◌==◌, refl, arith, nat_le, list_all, and_parts, and_from, le-leb, leb-true, lt-ltb, ClientId, GrantNo}
use Words.{Life, Mode, Header, Body, Why, Note, Output}
use Words.parties
use Words.bodies
use Words.outputs
use Words.Kinds.{allows, includes, is_word64}
use Words.Ranges.{fits, is_body, is_header, is_grant, is_ino, is_mode}
use Words.Keys.{server_node}
use Words.Server as server
use Words.Server.{ServerState, ServerTurn, is_client_node, reply_header}
use Rattle.st_messages.specs.declared.kind.Need.TheVariants.{Positive}
use Rattle.st_server.specs.Invariants.{IsSoundTo, is_reply, is_sent, is_told}
use Rattle.st_server.proofs.Every.{every_last}
use Rattle.st_server.proofs.Holding.{is_good_sent}

-- A turn: the server is sound, and all messages so far fit.
pub record IsTurn (n : ℕ) (t : ServerTurn) : Type 0 where
  pub sound : IsSoundTo n t.state
  pub sent : list_all is_sent t.out ≡ true

pub say_turn : (n : ℕ) (t : ServerTurn) (o : Output) → is_sent o ≡ true → IsTurn n t → IsTurn n (server.say t o)
say_turn n t o e p = record { sound = p.sound; sent = every_last is_sent t.out o p.sent e }

pub note_turn : (n : ℕ) (t : ServerTurn) (x : Note) → IsTurn n t → IsTurn n (server.note t x)
note_turn n t x p = say_turn n t (outputs.Note x) refl p

-- a message of a client, whose number may be any
pub record IsAsked (h : Header) : Type 0 where
  pub from : is_client_node h.from ≡ true
  pub life : allows Positive h.life ≡ true
  pub number : is_word64 h.number ≡ true
  pub stamp : is_word64 h.stamp ≡ true

-- the server's own node number
own_node : (n : ℕ) (s : ServerState) → IsSoundTo n s → includes parties.Server (server_node s.id) ≡ true
own_node n s k =
    let p = and_parts (nat_le 1 s.id.0) (nat_le s.id.0 4) k.id in
    let low : 1 ≤ s.id.0 = leb-true 1 s.id.0 p.0 in
    let high : s.id.0 ≤ 4 = leb-true s.id.0 4 p.1 in
    and_from (nat_le 32769 (32768 + s.id.0)) (nat_le (32768 + s.id.0) 32772) (le-leb 32769 (32768 + s.id.0) (omega (arith, low))) (le-leb (32768 + s.id.0) 32772 (omega (arith, high)))

-- the server's epoch
own_epoch : (n : ℕ) (s : ServerState) → IsSoundTo n s → allows Positive s.stable.epoch.0 ≡ true
own_epoch n s k =
    let p = and_parts (nat_le 1 s.stable.epoch.0) (nat_le s.stable.epoch.0 (2 ^ 32 - 1)) k.epoch in
    let high : s.stable.epoch.0 ≤ 4294967295 = leb-true s.stable.epoch.0 4294967295 p.1 in
    and_from (nat_le 1 s.stable.epoch.0) (is_word64 s.stable.epoch.0) p.0 (lt-ltb s.stable.epoch.0 (2 ^ 64) (omega (arith, high)))

-- a header's three parts
three : (a b c d e f : Bool) → a ≡ true → b ≡ true → c ≡ true → d ≡ true → e ≡ true → f ≡ true → ((a && b) && ((c && d) && (e && f))) ≡ true
three a b c d e f p q r s u v = and_from (a && b) _ (and_from a b p q) (and_from (c && d) (e && f) (and_from c d r s) (and_from e f u v))

-- A kept reply fits.
kept_fits : (n : ℕ) (s : ServerState) (h : Header) (b : Body) → IsSoundTo n s → IsAsked h → allows Positive h.number ≡ true → is_reply b ≡ true →
    fits (record { header = reply_header s h; body = b }) ≡ true
unfolding fits is_header
kept_fits n s h bodies.Ack k a e r = and_from _ (is_body bodies.Ack) (three _ _ _ _ _ _ (own_node n s k) a.from a.life (own_epoch n s k) e a.stamp) r
kept_fits n s h bodies.Reasserted k a e r = and_from _ (is_body bodies.Reasserted) (three _ _ _ _ _ _ (own_node n s k) a.from a.life (own_epoch n s k) e a.stamp) r
kept_fits n s h (bodies.Nack w x y) k a e r = and_from _ (is_body (bodies.Nack w x y)) (three _ _ _ _ _ _ (own_node n s k) a.from a.life (own_epoch n s k) a.number a.stamp) r
kept_fits n s h (bodies.Granted ino g m) k a e r = and_from _ (is_body (bodies.Granted ino g m)) (three _ _ _ _ _ _ (own_node n s k) a.from a.life (own_epoch n s k) a.number a.stamp) r
kept_fits n s h (bodies.Queued ino m) k a e r = and_from _ (is_body (bodies.Queued ino m)) (three _ _ _ _ _ _ (own_node n s k) a.from a.life (own_epoch n s k) e a.stamp) r
kept_fits n s h (bodies.Extents ino rows) k a e r = and_from _ (is_body (bodies.Extents ino rows)) (three _ _ _ _ _ _ (own_node n s k) a.from a.life (own_epoch n s k) e a.stamp) r
kept_fits n s h (bodies.Named x) k a e r = and_from _ (is_body (bodies.Named x)) (three _ _ _ _ _ _ (own_node n s k) a.from a.life (own_epoch n s k) e a.stamp) r
kept_fits n s h b k a e r = cc

pub reply_turn : (n : ℕ) (t : ServerTurn) (h : Header) (b : Body) → IsAsked h → allows Positive h.number ≡ true → is_reply b ≡ true → IsTurn n t → IsTurn n (server.reply t h b)
unfolding server.reply
reply_turn n t h b a e r p = say_turn n t _ (kept_fits n t.state h b p.sound a e r) p

-- A refusal fits, whatever its request.
pub nack_turn : (n : ℕ) (t : ServerTurn) (h : Header) (w : Why) (x y : ℕ) → IsAsked h → is_word64 x ≡ true → is_word64 y ≡ true → IsTurn n t → IsTurn n (server.reply t h (bodies.Nack w x y))
unfolding server.reply fits is_header is_body
nack_turn n t h w x y a e f p =
    say_turn n t _ (and_from _ (is_word64 x && is_word64 y) (three _ _ _ _ _ _ (own_node n t.state p.sound) a.from a.life (own_epoch n t.state p.sound) a.number a.stamp) (and_from (is_word64 x) (is_word64 y) e f)) p

-- So does a welcome to a greeting, which has no number.
pub welcome_turn : (n : ℕ) (t : ServerTurn) (h : Header) → IsAsked h → (h.number == 0) ≡ true → IsTurn n t → IsTurn n (server.reply t h bodies.Welcome)
unfolding server.reply fits is_header is_body
welcome_turn n t h a z p =
    say_turn n t _ (and_from _ true (three _ _ _ _ _ _ (own_node n t.state p.sound) a.from a.life (own_epoch n t.state p.sound) z a.stamp) refl) p

-- What nobody asked for.
told_parts : (c : ClientId) (life : Life) (ino : ℕ) → is_told c life ino ≡ true → (is_client_node c.0 ≡ true) × (allows Positive life.0 ≡ true) × (is_ino ino ≡ true)
told_parts c life ino e = let p = and_parts (is_client_node c.0) (allows Positive life.0 && is_ino ino) e in let q = and_parts (allows Positive life.0) (is_ino ino) p.1 in (p.0, q.0, q.1)

pub granted_turn : (n : ℕ) (t : ServerTurn) (x : ClientId × Life × ℕ × GrantNo × Mode) → is_good_sent 1 2 x ≡ true → IsTurn n t → IsTurn n (server.tell t x.0 x.1 (bodies.Granted x.2 x.3 x.4))
unfolding server.tell fits is_header is_body
granted_turn n t x e p =
    let q = and_parts (is_told x.0 x.1 x.2) (is_grant x.3 && is_mode 1 2 x.4) e in
    let r = told_parts x.0 x.1 x.2 q.0 in
    say_turn n t _ (and_from _ (is_ino x.2 && (is_grant x.3 && is_mode 1 2 x.4)) (three _ _ _ _ _ _ (own_node n t.state p.sound) r.0 r.1 (own_epoch n t.state p.sound) refl refl) (and_from (is_ino x.2) (is_grant x.3 && is_mode 1 2 x.4) r.2 q.1)) p

pub demanded_turn : (n : ℕ) (t : ServerTurn) (x : ClientId × Life × ℕ × GrantNo × Mode) → is_good_sent 0 1 x ≡ true → IsTurn n t → IsTurn n (server.tell t x.0 x.1 (bodies.Demand x.2 x.3 x.4))
unfolding server.tell fits is_header is_body
demanded_turn n t x e p =
    let q = and_parts (is_told x.0 x.1 x.2) (is_grant x.3 && is_mode 0 1 x.4) e in
    let r = told_parts x.0 x.1 x.2 q.0 in
    say_turn n t _ (and_from _ (is_ino x.2 && (is_grant x.3 && is_mode 0 1 x.4)) (three _ _ _ _ _ _ (own_node n t.state p.sound) r.0 r.1 (own_epoch n t.state p.sound) refl refl) (and_from (is_ino x.2) (is_grant x.3 && is_mode 0 1 x.4) r.2 q.1)) p
