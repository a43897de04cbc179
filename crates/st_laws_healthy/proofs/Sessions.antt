-- A living session through the rule for a message: it stays; or its client's next request is served, and the reply that is kept counts for it; or its client
-- comes in a later life.
use Rattle.st_lemmas.proofs.Words
use Words.{◌≡◌, ◌≢◌, ℕ, ◌+◌, ◌<◌, ◌⊎◌, true, refl, sym, ap, ◌∙◌, subst, inl, inr, Option, Some, option_map, eq-eqb, eqb-true, ClientId, Stamp}
use Words.{Header, Body, Session, SessionState}
use Words.states.{Live}
use Words.Keys.{client}
use Words.Server as sv
use Words.Server.{ServerTurn}
use Words.Sessions as sessions
use Words.Sessions.{Sessions}
use Words.Lookups.{some_is}
use Words.Tables.{cond_either, find_map, same_or_not}
use Words.Truth.{not_both}
use Rattle.st_laws_refine.proofs.Server.Changes.{session_other}
use Rattle.st_laws_refine.proofs.Server.Reasserting.{TakeOk, taken_ok}
use Rattle.st_laws_healthy.proofs.Replies.{counts_for, is_served}
use Rattle.st_laws_healthy.proofs.Serving.{Accepts, Does, Later, Passes, Refuses, Repeats, Serves, Welcomes}

-- What becomes of a living session that served up to this number.
pub data LivesOn (h : Header) (b : Body) (y : Session) (last : ℕ) (o : Option Session) : Type 0 where
  Stays : o ≡ Some y → LivesOn h b y last o
  Serves_next : (x : Body) → h.from ≡ y.client.0 → h.life ≡ y.life.0 → h.number ≡ last + 1 → is_served b ≡ true → counts_for b x ≡ true →
      o ≡ Some (record y { state = Live h.number (Some x) }) → LivesOn h b y last o
  Is_later : h.from ≡ y.client.0 → y.life.0 < h.life → LivesOn h b y last o

-- a kept reply, in its own session and in another
pub kept_of : (v : Sessions) (c d : ClientId) (number : ℕ) (x : Body) →
    sessions.session_of (sessions.store v c number x) d ≡ option_map (sessions.keep_of c number x) (sessions.session_of v d)
unfolding sessions.store sessions.keep_reply
kept_of v c d number x = find_map (sessions.is_session_of d) (sessions.keep_of c number x) same v.rows
  where
    same : (y : Session) → sessions.is_session_of d (sessions.keep_of c number x y) ≡ sessions.is_session_of d y
    same y = cond_either (λ (z : Session). sessions.is_session_of d z ≡ sessions.is_session_of d y) (sessions.is_session_of c y)
        (sessions.keep_reply number x y) y (λ e. refl) (λ e. refl)

pub kept_own : (c : ClientId) (number : ℕ) (x : Body) (y : Session) (last : ℕ) (old : Option Body) → y.client.0 ≡ c.0 → y.state ≡ Live last old →
    sessions.keep_of c number x y ≡ record y { state = Live number (Some x) }
unfolding sessions.keep_reply
kept_own c number x y last old e s =
    cond_either (λ (z : Session). z ≡ record y { state = Live number (Some x) }) (sessions.is_session_of c y) (sessions.keep_reply number x y) y
    (λ a. ap (λ (w : SessionState). record y { state = sessions.kept_state number x w }) s)
    (λ a. absurd (not_both (sessions.is_session_of c y) (eq-eqb y.client.0 c.0 e) a))

kept_other : (c : ClientId) (number : ℕ) (x : Body) (y : Session) → y.client.0 ≢ c.0 → sessions.keep_of c number x y ≡ y
kept_other c number x y ne =
    cond_either (λ (z : Session). z ≡ y) (sessions.is_session_of c y) (sessions.keep_reply number x y) y (λ a. absurd (ne (eqb-true y.client.0 c.0 a)))
    (λ a. refl)

module _ (now : Stamp) (h : Header) (t u : ServerTurn) (b : Body) (y : Session) (last : ℕ) (old : Option Body)
    (there : sessions.session_of t.state.sessions y.client ≡ Some y)
    (state : y.state ≡ Live last old) where
  abbrev pub L : Option Session → Type 0
  L = LivesOn h b y last

  live : sessions.is_live y ≡ true
  live = ap sessions.is_live_state state

  stays : u.state.sessions ≡ t.state.sessions → L (sessions.session_of u.state.sessions y.client)
  stays e = Stays (ap (λ v. sessions.session_of v y.client) e ∙ there)

  -- the message is the session's client's, or not
  mine : (h.from ≡ y.client.0) ⊎ (h.from ≢ y.client.0)
  mine = same_or_not h.from y.client.0

  its : h.from ≡ y.client.0 → sessions.session_of t.state.sessions (sv.sender h) ≡ Some y
  its e = ap (λ n. sessions.session_of t.state.sessions (client n)) e ∙ there

  -- a session of another client begins
  begins : (z : Session) → z.client ≡ sv.sender h → u.state.sessions ≡ sessions.with_session z t.state.sessions → Later now h t →
      L (sessions.session_of u.state.sessions y.client)
  begins z c e later = go mine
    where
      go : (h.from ≡ y.client.0) ⊎ (h.from ≢ y.client.0) → L (sessions.session_of u.state.sessions y.client)
      go (inl q) = Is_later q (later y (its q) live)
      go (inr ne) = Stays (ap (λ v. sessions.session_of v y.client) e ∙ session_other t.state.sessions z y.client.0
          (λ q. ne (ap (λ (x : ClientId). x.0) (sym c) ∙ q)) ∙ there)

  pub lives_on : Does now h t b u → L (sessions.session_of u.state.sessions y.client)
  unfolding sessions.reasserted
  lives_on (Passes e o) = stays e
  lives_on (Refuses w c d g e s) = stays e
  lives_on (Repeats x e k s) = stays e
  lives_on (Welcomes q (inl e) s) = stays e
  lives_on (Welcomes q (inr e) s) = begins (sessions.new_session (sv.sender h) (sv.life_in h)) refl e.0 e.1
  lives_on (Accepts rows q later e s) = begins (sessions.reasserted_session (sv.sender h) (sv.life_in h)) refl e later
  lives_on (Serves x served fresh counts e s) = go mine
    where
      kept : sessions.session_of u.state.sessions y.client ≡ option_map (sessions.keep_of (sv.sender h) h.number x) (Some y)
      kept = ap (λ v. sessions.session_of v y.client) e ∙ kept_of t.state.sessions (sv.sender h) y.client h.number x ∙ ap
          (option_map (sessions.keep_of (sv.sender h) h.number x)) there

      go : (h.from ≡ y.client.0) ⊎ (h.from ≢ y.client.0) → L (sessions.session_of u.state.sessions y.client)
      go (inr ne) = Stays (kept ∙ ap (λ (z : Session). Some z) (kept_other (sv.sender h) h.number x y (λ q. ne (sym q))))
      go (inl q) =
          let z = subst (TakeOk (sessions.session_of t.state.sessions (sv.sender h)) h.life h.number) fresh
          (taken_ok t.state.sessions (sv.sender h) (sv.life_in h) (sv.epoch_in h) h.number) in
          let same : z.0 ≡ y = some_is (sym z.1 ∙ its q) in
          Serves_next x q (sym z.2 ∙ ap (λ (w : Session). w.life.0) same) (z.6 ∙ ap (λ n. n + 1)
          (last_is (sym z.5 ∙ ap (λ (w : Session). w.state) same ∙ state))) served counts
          (kept ∙ ap (λ (w : Session). Some w) (kept_own (sv.sender h) h.number x y last old (sym q) state))
        where
          last_is : {m n : ℕ} {a b : Option Body} → ◌≡◌ {A = SessionState} (Live m a) (Live n b) → m ≡ n
          last_is e = cc
