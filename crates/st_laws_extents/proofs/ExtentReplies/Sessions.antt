-- If a session keeps a reply of extents after a change of the sessions, it was there before.
use Rattle.st_lemmas.proofs.Words
use Words.{◌≡◌, ℕ, ◌⊎◌, Bool, true, false, List, ◌==◌, refl, sym, ap, ◌∙◌, subst, inl, inr, if◌then◌else◌, Option, Some, None, option_map, eq-eqb, eqb-true}
use Words.{ClientId, Life, ExtentRow, Body, Session, SessionState}
use Words.bodies
use Words.states
use Words.Sessions as sessions
use Words.Lookups.{some_is}
use Words.Tables.{find_map, found_at}
use Words.Serving.{end_client}
use Words.Truth.{clash}
use Rattle.st_lemmas.proofs.Puts.{find_put_by, find_put_other}
use Rattle.st_laws_requests.proofs.Clients.{keep_client}
use Rattle.st_laws_extents.specs.ExtentReplies.Steps.{KeptRows}

pub no_some : {A B : Type 0} (x : A) → ◌≡◌ {A = Option A} None (Some x) → B
no_some x e = cc

-- a session keeps this reply
abbrev pub Keeps : Session → ℕ → ℕ → List ExtentRow → Type 0
Keeps y number ino rows = y.state ≡ states.Live number (Some (bodies.Extents ino rows))

-- each reply of extents that is kept was kept before, by the same session
abbrev pub From : sessions.Sessions → sessions.Sessions → Type 0
From t u = (c : ClientId) (y : Session) → sessions.session_of u c ≡ Some y → (number ino : ℕ) (rows : List ExtentRow) → Keeps y number ino rows →
    sessions.session_of t c ≡ Some y

pub from_rows : (t u : sessions.Sessions) → From t u → (c : ClientId) (life number ino : ℕ) (rows : List ExtentRow) →
    KeptRows u c life number ino rows → KeptRows t c life number ino rows
from_rows t u f c life number ino rows k = record { session = k.session; is = f c k.session k.is number ino rows k.state; of_life = k.of_life; state = k.state }

-- a session that keeps no extents is put in place of its client's
pub from_put : (t : sessions.Sessions) (x : Session) → ((number ino : ℕ) (rows : List ExtentRow) → Keeps x number ino rows → ⊥) →
    From t (sessions.with_session x t)
from_put t x never d y e number ino rows k = go (sessions.is_session_of d x) refl
  where
    other : (z : Session) → (x.client.0 == d.0) ≡ false → sessions.is_session_of d z ≡ true → sessions.is_session_of x.client z ≡ false
    other z f e = pick (z.client.0 == x.client.0) refl
      where
        pick : (b : Bool) → (z.client.0 == x.client.0) ≡ b → b ≡ false
        pick true g = clash (eq-eqb x.client.0 d.0 (sym (eqb-true _ _ g) ∙ eqb-true _ _ e)) f
        pick false g = refl

    go : (b : Bool) → sessions.is_session_of d x ≡ b → sessions.session_of t d ≡ Some y
    go true q =
        let i = find_put_by (sessions.is_session_of d) (sessions.is_session_of x.client) x t.rows q
        (λ z f. eq-eqb z.client.0 x.client.0 (eqb-true _ _ f ∙ sym (eqb-true _ _ q))) in
        absurd (never number ino rows (subst (λ (z : Session). Keeps z number ino rows) (sym (some_is (sym i ∙ e))) k))
    go false q = sym (find_put_other (sessions.is_session_of d) (sessions.is_session_of x.client) x t.rows q (λ z f. other z q f)) ∙ e

pub from_new : (t : sessions.Sessions) (c : ClientId) (life : Life) → From t (sessions.with_new_session c life t)
from_new t c life = from_put t (sessions.new_session c life) (λ number ino rows k. cc k)

pub from_ended : (t : sessions.Sessions) (c : ClientId) → From t (sessions.end t c)
unfolding sessions.end sessions.ended
from_ended t c d y e number ino rows k =
    go (sessions.session_of t d) refl
    (sym (find_map (sessions.is_session_of d) (sessions.end_of c) (λ x. ap (λ (z : ClientId). z.0 == d.0) (end_client c x)) t.rows) ∙ e)
  where
    ends : states.Ended ≡ states.Live number (Some (bodies.Extents ino rows)) → ⊥
    ends q = cc

    at : (x : Session) (b : Bool) → Some (if b then sessions.ended x else x) ≡ Some y → x ≡ y
    at x true q = absurd (ends (subst (λ (z : Session). Keeps z number ino rows) (sym (some_is q)) k))
    at x false q = some_is q

    go : (o : Option Session) → sessions.session_of t d ≡ o → option_map (sessions.end_of c) o ≡ Some y → o ≡ Some y
    go None f q = no_some y q
    go (Some x) f q = ap Some (at x (sessions.is_session_of c x) q)

pub from_reasserted : (t : sessions.Sessions) (c : ClientId) (life : Life) → From t (sessions.reasserted t c life)
unfolding sessions.reasserted
from_reasserted t c life = from_put t (sessions.reasserted_session c life) (λ number ino rows k. cc k)

-- What is kept now is the reply that is stored, or was kept before.
pub record IsStored (t : sessions.Sessions) (c d : ClientId) (life number : ℕ) (b : Body) (n ino : ℕ) (rows : List ExtentRow) : Type 0 where
  pub by : d ≡ c
  pub session : Session
  pub was : sessions.session_of t c ≡ Some session
  pub of_life : session.life.0 ≡ life
  pub under : number ≡ n
  pub body : b ≡ bodies.Extents ino rows

pub stored_rows : (t : sessions.Sessions) (c : ClientId) (number : ℕ) (b : Body) (d : ClientId) (life n ino : ℕ) (rows : List ExtentRow) →
    KeptRows (sessions.store t c number b) d life n ino rows → KeptRows t d life n ino rows ⊎ IsStored t c d life number b n ino rows
unfolding sessions.store sessions.keep_reply
stored_rows t c number b d life n ino rows k =
    go (sessions.session_of t d) refl
    (sym (find_map (sessions.is_session_of d) (sessions.keep_of c number b) (λ x. ap (λ (z : ClientId). z.0 == d.0) (keep_client c number b x)) t.rows) ∙ k.is)
  where
    Goal : Type 0
    Goal = KeptRows t d life n ino rows ⊎ IsStored t c d life number b n ino rows

    number_is : (s : SessionState) → sessions.kept_state number b s ≡ states.Live n (Some (bodies.Extents ino rows)) → number ≡ n
    number_is (states.Live last r) e = cc e
    number_is states.Ended e = cc e

    body_is : (s : SessionState) → sessions.kept_state number b s ≡ states.Live n (Some (bodies.Extents ino rows)) → b ≡ bodies.Extents ino rows
    body_is (states.Live last r) e = cc e
    body_is states.Ended e = cc e

    at : (x : Session) → sessions.session_of t d ≡ Some x → (z : Bool) → sessions.is_session_of c x ≡ z →
        Some (if z then sessions.keep_reply number b x else x) ≡ Some k.session → Goal
    at x e true q f =
        let own : d ≡ c = ap (λ m. record { 0 = m }) (sym (eqb-true x.client.0 d.0 (found_at (sessions.is_session_of d) t.rows x e).0)
        ∙ eqb-true x.client.0 c.0 q) in
        let s : sessions.kept_state number b x.state ≡ states.Live n (Some (bodies.Extents ino rows)) = ap (λ (y : Session). y.state) (some_is f) ∙ k.state in
        inr (record {
          by = own;
          session = x;
          was = subst (λ y. sessions.session_of t y ≡ Some x) own e;
          of_life = ap (λ (y : Session). y.life.0) (some_is f) ∙ k.of_life;
          under = number_is x.state s;
          body = body_is x.state s;
        })
    at x e false q f = inl (record { session = k.session; is = e ∙ f; of_life = k.of_life; state = k.state })

    go : (o : Option Session) → sessions.session_of t d ≡ o → option_map (sessions.keep_of c number b) o ≡ Some k.session → Goal
    go None e f = no_some k.session f
    go (Some x) e f = at x e (sessions.is_session_of c x) refl f
