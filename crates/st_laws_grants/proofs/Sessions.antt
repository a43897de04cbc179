-- Sessions: what is kept of a client has numbers of it, after each change of the table.
use Rattle.st_lemmas.proofs.Words
use Words.{◌≡◌, ℕ, Bool, true, false, ◌==◌, Option, Some, None, refl, sym, ap, ◌∙◌, subst, if◌then◌else◌, option_map, map, eqb-true, eq-eqb, ClientId, Life}
use Words.{Body, Session, SessionState}
use Words.bodies as bd
use Words.states
use Words.Sessions as sessions
use Words.Lookups.{some_is}
use Words.Tables.{find_map, found_at}
use Rattle.st_lemmas.proofs.Puts.{find_put_by, find_put_other}
use Rattle.st_trace.proofs.Server.Taking.{clash}
use Rattle.st_laws_grants.specs.Owners.{Fits, FitsState, Grows, Keeps, Owner}

-- With more numbers.

pub fits_more : (o p : Owner) → Grows o p → (c : ℕ) (b : Body) → Fits o c b → Fits p c b
fits_more o p f c (bd.Granted ino g mode) k = f g.0 (c, ino) k
fits_more o p f c (bd.Demand ino g to) k = f g.0 (c, ino) k
fits_more o p f c b k = k

state_more : (o p : Owner) → Grows o p → (c : ℕ) (x : SessionState) → FitsState o c x → FitsState p c x
state_more o p f c (states.Live last (Some b)) k = fits_more o p f c b k
state_more o p f c (states.Live last None) k = tt
state_more o p f c states.Ended k = tt

pub keeps_more : (o p : Owner) → Grows o p → (t : sessions.Sessions) → Keeps o t → Keeps p t
keeps_more o p f t k = λ c x e. state_more o p f c.0 x.state (k c x e)

-- Changes.
module _ (o : Owner) where
  pub kept_new : (t : sessions.Sessions) (x : Session) → FitsState o x.client.0 x.state → Keeps o t → Keeps o (sessions.with_session x t)
  kept_new t x k all d y h = go (sessions.is_session_of d x) refl
    where
      other : (z : Session) → (x.client.0 == d.0) ≡ false → sessions.is_session_of d z ≡ true → sessions.is_session_of x.client z ≡ false
      other z f e = pick (z.client.0 == x.client.0) refl
        where
          pick : (b : Bool) → (z.client.0 == x.client.0) ≡ b → b ≡ false
          pick true g = absurd (clash (eq-eqb x.client.0 d.0 (sym (eqb-true _ _ g) ∙ eqb-true _ _ e)) f)
          pick false g = refl

      go : (b : Bool) → sessions.is_session_of d x ≡ b → FitsState o d.0 y.state
      go true e =
          let i = find_put_by (sessions.is_session_of d) (sessions.is_session_of x.client) x t.rows e
          (λ z f. eq-eqb z.client.0 x.client.0 (eqb-true _ _ f ∙ sym (eqb-true _ _ e))) in
          subst (λ (z : Session). FitsState o d.0 z.state) (some_is (sym i ∙ h)) (subst (λ n. FitsState o n x.state) (eqb-true x.client.0 d.0 e) k)
      go false e = all d y (sym (find_put_other (sessions.is_session_of d) (sessions.is_session_of x.client) x t.rows e (λ z f. other z e f)) ∙ h)

  -- sessions that were changed in place
  kept_map : (t : sessions.Sessions) (f : Session → Session) → ((x : Session) → (f x).client ≡ x.client) →
      ((c : ClientId) (x : Session) → sessions.session_of t c ≡ Some x → FitsState o c.0 (f x).state) → Keeps o (record t { rows = map f t.rows })
  kept_map t f same k d y h =
      go (sessions.session_of t d) refl (sym (find_map (sessions.is_session_of d) f (λ x. ap (λ (z : ClientId). z.0 == d.0) (same x)) t.rows) ∙ h)
    where
      go : (q : Option Session) → sessions.session_of t d ≡ q → option_map f q ≡ Some y → FitsState o d.0 y.state
      go None e q = cc
      go (Some x) e q = subst (λ (z : Session). FitsState o d.0 z.state) (some_is q) (k d x e)

  keep_client : (c : ClientId) (number : ℕ) (b : Body) (x : Session) → (sessions.keep_of c number b x).client ≡ x.client
  unfolding sessions.keep_reply
  keep_client c number b x = go (sessions.is_session_of c x)
    where
      go : (z : Bool) → (if z then sessions.keep_reply number b x else x).client ≡ x.client
      go true = refl
      go false = refl

  pub kept_stored : (t : sessions.Sessions) (c : ClientId) (number : ℕ) (b : Body) → Fits o c.0 b → Keeps o t → Keeps o (sessions.store t c number b)
  unfolding sessions.store sessions.keep_reply
  kept_stored t c number b w all = kept_map t (sessions.keep_of c number b) (keep_client c number b) (λ d x e. go d x e (sessions.is_session_of c x) refl)
    where
      kept : (z : SessionState) → FitsState o c.0 (sessions.kept_state number b z)
      kept (states.Live last r) = w
      kept states.Ended = tt

      go : (d : ClientId) (x : Session) → sessions.session_of t d ≡ Some x → (z : Bool) → sessions.is_session_of c x ≡ z →
          FitsState o d.0 (if z then sessions.keep_reply number b x else x).state
      go d x e true q = subst (λ n. FitsState o n (sessions.kept_state number b x.state)) (sym (eqb-true x.client.0 c.0 q)
          ∙ eqb-true x.client.0 d.0 (found_at (sessions.is_session_of d) t.rows x e).0) (kept x.state)
      go d x e false q = all d x e

  end_client : (c : ClientId) (x : Session) → (sessions.end_of c x).client ≡ x.client
  unfolding sessions.ended
  end_client c x = go (sessions.is_session_of c x)
    where
      go : (z : Bool) → (if z then sessions.ended x else x).client ≡ x.client
      go true = refl
      go false = refl

  pub kept_ended : (t : sessions.Sessions) (c : ClientId) → Keeps o t → Keeps o (sessions.end t c)
  unfolding sessions.end sessions.ended
  kept_ended t c all = kept_map t (sessions.end_of c) (end_client c) (λ d x e. go d x e (sessions.is_session_of c x))
    where
      go : (d : ClientId) (x : Session) → sessions.session_of t d ≡ Some x → (z : Bool) → FitsState o d.0 (if z then sessions.ended x else x).state
      go d x e true = tt
      go d x e false = all d x e

  pub kept_reasserted : (t : sessions.Sessions) (c : ClientId) (life : Life) → Keeps o t → Keeps o (sessions.reasserted t c life)
  unfolding sessions.reasserted
  kept_reasserted t c life all = kept_new t (sessions.reasserted_session c life) tt all
