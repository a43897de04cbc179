-- Old messages change nothing at a client.
use Rattle.st_lemmas.proofs.Words
use Words.{◌≡◌, Bool, true, false, not, ◌&&◌, ◌||◌, List, [], ◌∷◌, ◌++◌, ◌==◌, Option, Some, None, refl, sym, ap, ◌∙◌, if◌then◌else◌, append_assoc, nat_lt}
use Words.{nat_le, list_all, Stamp, Header, Body, append-nil}
use Words.bodies
use Words.why
use Words.ClientState.{ClientSession, Association, Turn, ClientTurn, enter, leave, at_these, at_each, with_associations}
use Words.Keys.{server_node}
use Words.ClientReplies as cr
use Words.Client as cl
use Words.Safety as safety
use Words.Lookups.{if_false}
use Words.Tables.{and_true, not_true}

abbrev AllOld : Header → Body → List Association → Type 0
AllOld h body [] = Unit {0}
AllOld h body (a ∷ rest) = record { one : safety.is_old_at h body a ≡ true; rest : AllOld h body rest }

all_old : (h : Header) (body : Body) (list : List Association) → list_all (safety.is_old_at h body) list ≡ true → AllOld h body list
all_old h body [] e = record {}
all_old h body (a ∷ rest) e = let p = and_true (safety.is_old_at h body a) _ e in record { one = p.0; rest = all_old h body rest p.1 }

newer_not : (t : Turn) (s : ClientSession) (h : Header) → nat_lt s.epoch.0 h.epoch ≡ false → cr.newer_epoch t s (record { 0 = h.epoch }) ≡ t
unfolding cr.newer_epoch
newer_not t s h e = if_false _ _ t (ap (λ b. b && not s.lease.condemned) e)

other_epoch : (t : Turn) (s : ClientSession) (h : Header) (body : Body) → safety.is_newer_epoch s h body ≡ false → cr.of_other_epoch t s (record { 0 = h.epoch }) body ≡ t
unfolding cr.of_other_epoch
other_epoch t s h (bodies.Nack why.OtherEpoch a b) e = newer_not t s h e
other_epoch t s h (bodies.Nack w a b) e = refl
other_epoch t s h body e = refl

no_session : (t : Turn) (n : Stamp) (h : Header) (body : Body) → not (safety.is_welcome body) ≡ true → cr.without_session t n h body ≡ t
unfolding cr.without_session
no_session t n h bodies.Welcome e = cc
no_session t n h body e = refl

by_session : (t : Turn) (n : Stamp) (h : Header) (body : Body) (o : Option ClientSession) → safety.is_old_for o h body ≡ true → cr.by_session t n h body o ≡ t
unfolding cr.by_session cr.with_a_session
by_session t n h body None e = no_session t n h body e
by_session t n h body (Some s) e =
    let p = and_true (not (h.epoch == s.epoch.0)) (not (safety.is_newer_epoch s h body)) e in
    if_false (h.epoch == s.epoch.0) _ _ (not_true _ p.0) ∙ other_epoch t s h body (not_true _ p.1)

receives : (n : Stamp) (h : Header) (body : Body) (t : Turn) → safety.is_old_at h body t.here ≡ true → cr.receive_at n h body t ≡ t
unfolding cr.receive_at
receives n h body t e = go (cr.is_received t n h) refl
  where
    third : (a b c : Bool) → (not a || (not b || c)) ≡ true → a ≡ true → b ≡ true → c ≡ true
    third true true c e f g = e
    third true false c e f g = cc
    third false b c e f g = cc

    go : (b : Bool) → cr.is_received t n h ≡ b → (if b then cr.by_session t n h body t.here.session else t) ≡ t
    go false f = refl
    go true f =
        let p = and_true (h.from == server_node t.here.server) _ f in
        let q = and_true (h.life == t.here.life.0) (nat_le h.stamp n.0) p.1 in
        by_session t n h body t.here.session (third (h.from == server_node t.here.server) (h.life == t.here.life.0) (safety.is_old_for t.here.session h body) e p.0 q.0)

these_receive : (n : Stamp) (h : Header) (body : Body) (list : List Association) (T : ClientTurn) → AllOld h body list → at_these (cr.receive_at n h body) list T ≡ with_associations (T.state.associations ++ list) T
unfolding at_these
these_receive n h body [] T o = ap (λ x. with_associations x T) (sym (append-nil T.state.associations))
these_receive n h body (a ∷ rest) T o =
    ap (λ r. at_these (cr.receive_at n h body) rest (leave T r)) (receives n h body (enter T a) o.one)
    ∙ these_receive n h body rest (leave T (enter T a)) o.rest
    ∙ ap (λ x. with_associations x T) (append_assoc T.state.associations (a ∷ []) rest)

pub old_messages_change_no_client : safety.OldMessagesChangeNoClient
unfolding cl.take_input cr.receive cr.receive_here at_each
old_messages_change_no_client t n m e = go (m.header.to == t.state.id.0)
  where
    go : (b : Bool) → (if b then at_these (cr.receive_at n m.header m.body) t.state.associations (with_associations [] t) else t) ≡ t
    go true = these_receive n m.header m.body t.state.associations (with_associations [] t) (all_old m.header m.body t.state.associations e)
    go false = refl
