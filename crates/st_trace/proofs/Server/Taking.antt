-- What a request finds of its client's session at a server, and how a number is taken there.
use Rattle.st_lemmas.proofs.Words
use Words.{◌≡◌, ℕ, ◌+◌, Bool, true, false, ◌==◌, refl, sym, ap, ◌∙◌, arith, if◌then◌else◌, Option, Some, None, nat_lt, eqb-true, ltb-false, ClientId, Epoch}
use Words.{Life, Body, Session, SessionState, Taken}
use Words.states
use Words.takes
use Words.Sessions as sessions

pub if_cases : {A : Type 0} (P : A → Type 0) (b : Bool) (x y : A) → (b ≡ true → P x) → (b ≡ false → P y) → P (if b then x else y)
if_cases P true x y p q = p refl
if_cases P false x y p q = q refl

pub clash : {b : Bool} → b ≡ true → b ≡ false → ⊥
clash x y = cc

-- neither is below the other
pub alike : (a b : ℕ) → nat_lt a b ≡ false → nat_lt b a ≡ false → a ≡ b
alike a b x y = let p = ltb-false a b x in let q = ltb-false b a y in omega (arith, p, q)

-- What a request finds of its client's session.
pub record Found (t : sessions.Sessions) (c : ClientId) (life : Life) (P : SessionState → Type 0) : Type 0 where
  pub session : Session
  pub is : sessions.session_of t c ≡ Some session
  pub of_life : session.life.0 ≡ life.0
  pub state : P session.state

-- what is given again was kept under this number
pub again_state : (b : Body) (number : ℕ) (x : SessionState) → sessions.take_state x number ≡ takes.Again b → x ≡ states.Live number (Some b)
unfolding sessions.take_state sessions.take_number sessions.take_from sessions.take_next sessions.again
again_state b number states.Ended e = cc
again_state b number (states.Live last r) e = below (nat_lt number last) e
  where
    kept : (r2 : Option Body) → sessions.again r2 ≡ takes.Again b → r2 ≡ Some b
    kept None q = cc
    kept (Some d) q = ap Some (same d q)
      where
        same : (d : Body) → ◌≡◌ {A = Taken Body} (takes.Again d) (takes.Again b) → d ≡ b
        same d q = cc

    next : (z : Bool) → (if z then takes.Fresh else takes.OutOfOrder) ≡ takes.Again b → ⊥
    next true q = cc
    next false q = cc

    from : (z : Bool) → (number == last) ≡ z → (if z then sessions.again r else sessions.take_next last number) ≡ takes.Again b →
        states.Live last r ≡ states.Live number (Some b)
    from true f q = ap (λ n. states.Live n r) (sym (eqb-true number last f)) ∙ ap (λ y. states.Live number y) (kept r q)
    from false f q = absurd (next (number == last + 1) q)

    below : (z : Bool) → (if z then takes.Stale else sessions.take_from last r number) ≡ takes.Again b → states.Live last r ≡ states.Live number (Some b)
    below true q = cc
    below false q = from (number == last) refl q

pub found_for : (t : sessions.Sessions) (c : ClientId) (life : Life) (epoch : Epoch) (number : ℕ) (a : Taken Body) (P : SessionState → Type 0) →
    sessions.take t c life epoch number ≡ a →
    (takes.OtherEpoch ≡ a → ⊥) → (takes.NoSession ≡ a → ⊥) → (takes.Stale ≡ a → ⊥) → ((x : SessionState) → sessions.take_state x number ≡ a → P x) →
    Found t c life P
unfolding sessions.take sessions.take_at sessions.take_life sessions.take_past
found_for t c life epoch number a P e no1 no2 no3 f = at (epoch.0 == t.epoch.0) e
  where
    past : (x : Session) → sessions.session_of t c ≡ Some x → nat_lt x.life.0 life.0 ≡ false → (z : Bool) → nat_lt life.0 x.life.0 ≡ z →
        (if z then takes.Stale else sessions.take_state x.state number) ≡ a → Found t c life P
    past x i l true q r = absurd (no3 r)
    past x i l false q r = record { session = x; is = i; of_life = alike x.life.0 life.0 l q; state = f x.state r }

    of_life : (x : Session) → sessions.session_of t c ≡ Some x → (z : Bool) → nat_lt x.life.0 life.0 ≡ z →
        (if z then takes.NoSession else sessions.take_past x life number) ≡ a → Found t c life P
    of_life x i true q r = absurd (no2 r)
    of_life x i false q r = past x i q (nat_lt life.0 x.life.0) refl r

    found : (o : Option Session) → sessions.session_of t c ≡ o → sessions.take_at o life number ≡ a → Found t c life P
    found None i r = absurd (no2 r)
    found (Some x) i r = of_life x i (nat_lt x.life.0 life.0) refl r

    at : (z : Bool) → (if z then sessions.take_at (sessions.session_of t c) life number else takes.OtherEpoch) ≡ a → Found t c life P
    at true r = found (sessions.session_of t c) refl r
    at false r = absurd (no1 r)

-- what is fresh has the number after the last one
pub record FreshState (number : ℕ) (x : SessionState) : Type 0 where
  pub last : ℕ
  pub reply : Option Body
  pub is : x ≡ states.Live last reply
  pub next : number ≡ last + 1

pub fresh_state : (number : ℕ) (x : SessionState) → sessions.take_state x number ≡ takes.Fresh → FreshState number x
unfolding sessions.take_state sessions.take_number sessions.take_from sessions.take_next sessions.again
fresh_state number states.Ended e = cc
fresh_state number (states.Live last r) e = below (nat_lt number last) e
  where
    kept : (r2 : Option Body) → sessions.again r2 ≡ takes.Fresh → ⊥
    kept None q = cc
    kept (Some d) q = cc

    from : (z : Bool) → (if z then sessions.again r else sessions.take_next last number) ≡ takes.Fresh → FreshState number (states.Live last r)
    from true q = absurd (kept r q)
    from false q = at (number == last + 1) refl q
      where
        at : (z : Bool) → (number == last + 1) ≡ z → ◌≡◌ {A = Taken Body} (if z then takes.Fresh else takes.OutOfOrder) takes.Fresh →
            FreshState number (states.Live last r)
        at true f q = record { last = last; reply = r; is = refl; next = eqb-true number (last + 1) f }
        at false f q = cc

    below : (z : Bool) → (if z then takes.Stale else sessions.take_from last r number) ≡ takes.Fresh → FreshState number (states.Live last r)
    below true q = cc
    below false q = from (number == last) q
