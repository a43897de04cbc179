-- Sessions, and what their kept replies grant: a fact of each client, its life and the file stays
-- through each change of the table.
use Rattle.st_lemmas.proofs.Words
use Words.{◌≡◌, ℕ, Bool, true, false, ◌==◌, Option, Some, None, refl, sym, ap, ◌∙◌, subst, if◌then◌else◌, option_map, map, eqb-true, eq-eqb, Body, ClientId, Life, Session, SessionState}
use Words.states
use Words.Lookups.{some_is}
use Words.Sessions as sessions
use Words.Tables.{find_map, found_at}
use Words.Truth.{clash}
use Rattle.st_lemmas.proofs.Puts.{find_put_by, find_put_other}
use Rattle.st_laws_volume.proofs.AskedWaits.{GrantedBody}

-- the kept reply of a state
abbrev pub GrantsKept : (ℕ → Type 0) → SessionState → Type 0
GrantsKept F (states.Live last (Some b)) = GrantedBody F b
GrantsKept F x = Unit {0}

module _ (W : ClientId → ℕ → ℕ → Type 0) where
  abbrev pub OfSession : ClientId → Session → Type 0
  OfSession c y = GrantsKept (W c y.life.0) y.state

  -- all kept replies
  abbrev pub KeepsGrants : sessions.Sessions → Type 0
  KeepsGrants t = (c : ClientId) (y : Session) → sessions.session_of t c ≡ Some y → OfSession c y

  client_id : (c d : ClientId) → (c.0 == d.0) ≡ true → c ≡ d
  client_id c d e = ap (λ n. record { 0 = n }) (eqb-true c.0 d.0 e)

  pub kept_new : (t : sessions.Sessions) (x : Session) → OfSession x.client x → KeepsGrants t →
      KeepsGrants (sessions.with_session x t)
  kept_new t x k all d y h = go (sessions.is_session_of d x) refl
    where
      other : (z : Session) → (x.client.0 == d.0) ≡ false → sessions.is_session_of d z ≡ true →
          sessions.is_session_of x.client z ≡ false
      other z f e = pick (z.client.0 == x.client.0) refl
        where
          pick : (b : Bool) → (z.client.0 == x.client.0) ≡ b → b ≡ false
          pick true g =
              absurd (clash (eq-eqb x.client.0 d.0 (sym (eqb-true z.client.0 x.client.0 g) ∙
              eqb-true z.client.0 d.0 e)) f)
          pick false g = refl

      go : (b : Bool) → sessions.is_session_of d x ≡ b → OfSession d y
      go true e =
          let i = find_put_by (sessions.is_session_of d) (sessions.is_session_of x.client) x t.rows
          e
          (λ z f. eq-eqb z.client.0 x.client.0 (eqb-true z.client.0 d.0 f ∙
          sym (eqb-true x.client.0 d.0 e))) in
          subst (OfSession d) (some_is (sym i ∙ h))
          (subst (λ c. OfSession c x) (client_id x.client d e) k)
      go false e =
          all d y
          (sym (find_put_other (sessions.is_session_of d) (sessions.is_session_of x.client) x t.rows
          e (λ z f. other z e f)) ∙ h)

  -- sessions that were changed in place
  kept_map : (t : sessions.Sessions) (f : Session → Session) →
      ((x : Session) → (f x).client ≡ x.client) →
      ((c : ClientId) (x : Session) → sessions.session_of t c ≡ Some x → OfSession c (f x)) →
      KeepsGrants (record t { rows = map f t.rows })
  kept_map t f same k d y h =
      go (sessions.session_of t d) refl
      (sym (find_map (sessions.is_session_of d) f
      (λ x. ap (λ (z : ClientId). z.0 == d.0) (same x)) t.rows) ∙ h)
    where
      go : (q : Option Session) → sessions.session_of t d ≡ q → option_map f q ≡ Some y →
          OfSession d y
      go None e q = cc
      go (Some x) e q = subst (OfSession d) (some_is q) (k d x e)

  keep_client : (c : ClientId) (number : ℕ) (b : Body) (x : Session) →
      (sessions.keep_of c number b x).client ≡ x.client
  unfolding sessions.keep_reply
  keep_client c number b x = go (sessions.is_session_of c x)
    where
      go : (z : Bool) → (if z then sessions.keep_reply number b x else x).client ≡ x.client
      go true = refl
      go false = refl

  pub kept_stored : (t : sessions.Sessions) (c : ClientId) (number : ℕ) (b : Body) →
      ((y : Session) → sessions.session_of t c ≡ Some y → GrantedBody (W c y.life.0) b) →
      KeepsGrants t → KeepsGrants (sessions.store t c number b)
  unfolding sessions.store sessions.keep_reply
  kept_stored t c number b w all =
      kept_map t (sessions.keep_of c number b) (keep_client c number b)
      (λ d x e. go d x e (sessions.is_session_of c x) refl)
    where
      kept : (x : Session) → sessions.session_of t c ≡ Some x → (z : SessionState) →
          GrantsKept (W c x.life.0) (sessions.kept_state number b z)
      kept x e (states.Live last r) = w x e
      kept x e states.Ended = tt

      go : (d : ClientId) (x : Session) → sessions.session_of t d ≡ Some x → (z : Bool) →
          sessions.is_session_of c x ≡ z →
          OfSession d (if z then sessions.keep_reply number b x else x)
      go d x e true q =
          let mine = client_id x.client d
          (found_at (sessions.is_session_of d) t.rows x e).0 in
          let same : c ≡ d = sym (client_id x.client c q) ∙ mine in
          subst (λ v. OfSession v (sessions.keep_reply number b x)) same
          (kept x (ap (sessions.session_of t) same ∙ e) x.state)
      go d x e false q = all d x e

  end_client : (c : ClientId) (x : Session) → (sessions.end_of c x).client ≡ x.client
  unfolding sessions.ended
  end_client c x = go (sessions.is_session_of c x)
    where
      go : (z : Bool) → (if z then sessions.ended x else x).client ≡ x.client
      go true = refl
      go false = refl

  pub kept_ended : (t : sessions.Sessions) (c : ClientId) → KeepsGrants t →
      KeepsGrants (sessions.end t c)
  unfolding sessions.end sessions.ended
  kept_ended t c all =
      kept_map t (sessions.end_of c) (end_client c)
      (λ d x e. go d x e (sessions.is_session_of c x))
    where
      go : (d : ClientId) (x : Session) → sessions.session_of t d ≡ Some x → (z : Bool) →
          OfSession d (if z then sessions.ended x else x)
      go d x e true = tt
      go d x e false = all d x e

  pub kept_reasserted : (t : sessions.Sessions) (c : ClientId) (life : Life) → KeepsGrants t →
      KeepsGrants (sessions.reasserted t c life)
  unfolding sessions.reasserted
  kept_reasserted t c life all = kept_new t (sessions.reasserted_session c life) tt all
