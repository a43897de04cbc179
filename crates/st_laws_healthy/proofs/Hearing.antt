-- A client of the first two forms hears a message. An association without a session hears a welcome that is in time, and all else passes it by.
use Rattle.st_lemmas.proofs.Words
use Words.{◌≡◌, ◌+◌, true, ◌==◌, None, refl, sym, ap, ◌∙◌, subst, ◌&&◌, nat_le, nat_lt, eq-eqb, eqb-true, leb-true, le-leb, lt-ltb, ltb-true}
use Words.{is_some, Stamp, Header, Body, Message, Why}
use Words.bodies
use Words.why
use Words.ClientReplies as cr
use Words.ClientState.{Turn}
use Words.Keys.{server_node}
use Words.Tables.{and_both, and_true, cond_either}
use Words.Truth.{not_both}
use Rattle.st_laws_healthy.proofs.Counting.{counted_ends}
use Rattle.st_laws_healthy.proofs.Receiving.{is_calm, received_is}
use Rattle.st_laws_healthy.proofs.Replies.{counts_for}
use Rattle.st_laws_healthy.proofs.Walking.{Hears, IsReceived, Meets, Met, Unmet}

pub received_from : (t : Turn) (now : Stamp) (h : Header) → cr.is_received t now h ≡ true → IsReceived t.here now h
received_from t now h r =
    let x = and_true (h.from == server_node t.here.server) ((h.life == t.here.life.0) && nat_le h.stamp now.0) r in
    let y = and_true (h.life == t.here.life.0) (nat_le h.stamp now.0) x.1 in
    record { from = eqb-true h.from (server_node t.here.server) x.0; life = eqb-true h.life t.here.life.0 y.0; stamp = leb-true h.stamp now.0 y.1 }

pub is_received : (t : Turn) (now : Stamp) (h : Header) → IsReceived t.here now h → cr.is_received t now h ≡ true
is_received t now h r =
    and_both (h.from == server_node t.here.server) ((h.life == t.here.life.0) && nat_le h.stamp now.0) (eq-eqb h.from (server_node t.here.server) r.from)
    (and_both (h.life == t.here.life.0) (nat_le h.stamp now.0) (eq-eqb h.life t.here.life.0 r.life) (le-leb h.stamp now.0 r.stamp))

-- what is not received changes nothing
passed_by : (t : Turn) (now : Stamp) (h : Header) (b : Body) → (IsReceived t.here now h → ⊥) → cr.receive_at now h b t ≡ t
unfolding cr.receive_at
passed_by t now h b e = cond_either (λ (u : Turn). u ≡ t) (cr.is_received t now h) (cr.by_session t now h b t.here.session) t
    (λ f. absurd (e (received_from t now h f))) (λ f. refl)

-- What becomes of an association without a session.
meets : (t : Turn) (now : Stamp) (m : Message) → t.here.session ≡ None →
    Meets t.config.lease now m t.here (cr.receive_at now m.header m.body t).here
unfolding cr.receive_at cr.by_session cr.without_session cr.welcome cr.begin_session cr.note_lease
meets t now m none =
    cond_either M (cr.is_received t now m.header) (cr.by_session t now m.header m.body t.here.session) t
    (λ r. subst (λ o. M (cr.by_session t now m.header m.body o)) (sym none) (by m.body refl r))
    (λ r. Unmet none refl (λ got e g l. not_both (cr.is_received t now m.header) (is_received t now m.header got) r))
  where
    M : Turn → Type 0
    M u = Meets t.config.lease now m t.here u.here

    stamp : Stamp
    stamp = record { 0 = m.header.stamp }

    by : (b : Body) → m.body ≡ b → cr.is_received t now m.header ≡ true → M (cr.without_session t now m.header b)
    by bodies.Welcome e r =
        cond_either M (cr.is_timely t now stamp) (cr.begin_session t (record { 0 = m.header.epoch }) stamp) t
        (λ f. Met (cr.new_session (record { 0 = m.header.epoch }) stamp) (received_from t now m.header r) e
        (ltb-true now.0 (m.header.stamp + t.config.lease) (and_true (is_some t.here.greeting) (nat_lt now.0 (m.header.stamp + t.config.lease)) f).1) refl
        (record { epoch = refl; settled = refl; sound = refl; next = refl; rests = refl; date = refl }))
        (λ f. Unmet none refl (λ got e g l. not_both (cr.is_timely t now stamp)
        (and_both (is_some t.here.greeting) (nat_lt now.0 (m.header.stamp + t.config.lease)) g (lt-ltb now.0 (m.header.stamp + t.config.lease) l)) f))
    by b e r = Unmet none refl (λ got f g l. no (sym e ∙ f))
      where
        no : b ≡ bodies.Welcome → ⊥
        no g = cc

-- a client of the first two forms
pub hears : (t : Turn) (now : Stamp) (m : Message) → Hears t.config.lease now m t.here (cr.receive_at now m.header m.body t).here
hears t now m =
    record {
      passes = λ e. ap (λ (u : Turn). u.here.session) (passed_by t now m.header m.body e);
      received = λ z there sound plain l calm. received_is t z now m.header there sound plain m.body l calm;
      counted = λ z q there sound asked number plain got epoch pos counts.
          counted_ends t z now m.header q sound asked number plain m.body there (is_received t now m.header got) epoch pos counts;
      meets = λ none. meets t now m none;
    }

-- a reply that counts condemns nothing
pub counting_calm : (asked b : Body) → counts_for asked b ≡ true → is_calm b ≡ true
counting_calm asked (bodies.Nack w x y) e = by w e
  where
    by : (w : Why) → counts_for asked (bodies.Nack w x y) ≡ true → is_calm (bodies.Nack w x y) ≡ true
    by why.NoFile e = refl
    by why.TooManyLocks e = refl
    by why.NoSpace e = refl
    by why.NotHolder e = refl
    by why.OtherEpoch e = refl
    by why.Grace e = refl
    by w e = cc
counting_calm asked b e = refl
