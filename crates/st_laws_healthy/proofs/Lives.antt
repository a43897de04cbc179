-- The life of a client's session at a server, through the rule for a message: it stays, or it is that of a message of the client.
use Rattle.st_lemmas.proofs.Words
use Words.{◌≡◌, ◌≢◌, ℕ, ◌⊎◌, refl, sym, ap, ◌∙◌, inl, inr, Option, Some, None, option_map, ClientId, Stamp, Header, Body, Session}
use Words.Server as sv
use Words.Server.{ServerTurn}
use Words.Sessions as sessions
use Words.Lookups.{some_is}
use Words.Tables.{cond_either, same_or_not}
use Rattle.st_laws_refine.proofs.Server.Changes.{session_other, session_own}
use Rattle.st_laws_healthy.proofs.Serving.{Accepts, Does, Passes, Refuses, Repeats, Serves, Welcomes}
use Rattle.st_laws_healthy.proofs.Sessions.{kept_of}

module _ (now : Stamp) (h : Header) (t u : ServerTurn) (b : Body) (c : ClientId) where
  -- where a session of the client comes from
  pub data ComesFrom (z : Session) : Type 0 where
    IsOlder : (y : Session) → sessions.session_of t.state.sessions c ≡ Some y → z.life ≡ y.life → ComesFrom z
    IsOf : h.from ≡ c.0 → z.life.0 ≡ h.life → ComesFrom z

  abbrev F : Option Session → Type 0
  F o = (z : Session) → o ≡ Some z → ComesFrom z

  same : u.state.sessions ≡ t.state.sessions → F (sessions.session_of u.state.sessions c)
  same e z q = IsOlder z (ap (λ v. sessions.session_of v c) (sym e) ∙ q) refl

  kept_life : (number : ℕ) (x : Body) (y : Session) → (sessions.keep_of (sv.sender h) number x y).life ≡ y.life
  unfolding sessions.keep_reply
  kept_life number x y = cond_either (λ (w : Session). w.life ≡ y.life) (sessions.is_session_of (sv.sender h) y) (sessions.keep_reply number x y) y
      (λ e. refl) (λ e. refl)

  serves : (number : ℕ) (x : Body) → u.state.sessions ≡ sessions.store t.state.sessions (sv.sender h) number x → F (sessions.session_of u.state.sessions c)
  serves number x e z q = go (sessions.session_of t.state.sessions c) refl
    where
      kept : (o : Option Session) → sessions.session_of t.state.sessions c ≡ o → option_map (sessions.keep_of (sv.sender h) number x) o ≡ Some z
      kept o f = ap (option_map (sessions.keep_of (sv.sender h) number x)) (sym f) ∙ sym (kept_of t.state.sessions (sv.sender h) c number x) ∙ ap
          (λ v. sessions.session_of v c) (sym e) ∙ q

      no : ◌≡◌ {A = Option Session} None (Some z) → ComesFrom z
      no f = cc

      go : (o : Option Session) → sessions.session_of t.state.sessions c ≡ o → ComesFrom z
      go None f = no (kept None f)
      go (Some y) f = IsOlder y f (ap (λ (w : Session). w.life) (sym (some_is (kept (Some y) f))) ∙ kept_life number x y)

  begins : (y : Session) → y.client ≡ sv.sender h → y.life.0 ≡ h.life → u.state.sessions ≡ sessions.with_session y t.state.sessions →
      F (sessions.session_of u.state.sessions c)
  begins y own l e z q = go (same_or_not h.from c.0)
    where
      there : sessions.session_of (sessions.with_session y t.state.sessions) c ≡ Some z
      there = ap (λ v. sessions.session_of v c) (sym e) ∙ q

      client : y.client.0 ≡ h.from
      client = ap (λ (x : ClientId). x.0) own

      go : (h.from ≡ c.0) ⊎ (h.from ≢ c.0) → ComesFrom z
      go (inl f) = IsOf f (ap (λ (w : Session). w.life.0) (some_is (sym there ∙ session_own t.state.sessions y c.0 (client ∙ f))) ∙ l)
      go (inr n) = IsOlder z (sym (session_other t.state.sessions y c.0 (λ f. n (sym client ∙ f))) ∙ there) refl

  pub comes_from : Does now h t b u → F (sessions.session_of u.state.sessions c)
  unfolding sessions.reasserted
  comes_from (Passes e o) = same e
  comes_from (Refuses w x y g e s) = same e
  comes_from (Repeats x e k s) = same e
  comes_from (Serves x v k n e s) = serves h.number x e
  comes_from (Welcomes q (inl e) s) = same e
  comes_from (Welcomes q (inr e) s) = begins (sessions.new_session (sv.sender h) (sv.life_in h)) refl refl e.0
  comes_from (Accepts rows q l e s) = begins (sessions.reasserted_session (sv.sender h) (sv.life_in h)) refl refl e
