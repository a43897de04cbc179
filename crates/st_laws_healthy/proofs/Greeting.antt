-- A greeting in a client's present life, outside grace, at a server that does not suspect the client: it is welcome, and its session lives. And a demand
-- that was seen changes no session, and is not answered.
use Rattle.st_lemmas.proofs.Words
use Words.{◌≡◌, ℕ, ◌<◌, ◌⊎◌, Bool, true, false, [], ◌∷◌, ◌++◌, ◌==◌, refl, sym, ap, subst, inl, inr, arith, nat_le, nat_lt, not, is_some, Option, Some, None}
use Words.{eq-eqb, leb-true, ltb-true, ClientId, GrantNo, Stamp, Body, Header, Suspect, Session}
use Words.bodies as bd
use Words.states.{Live}
use Words.hellos
use Words.serving.{Control}
use Words.Authority as authority
use Words.Authority.{Authority, may_ack}
use Words.Locks as locks
use Words.Server as sv
use Words.Server.{ServerTurn}
use Words.Sessions as sessions
use Words.Tables.{cond_either}
use Words.Truth.{not_both}
use Rattle.st_laws_refine.proofs.Server.Changes.{session_own}
use Rattle.st_trace.specs.Server.Steps.{hears, take_of}
use Rattle.st_laws_healthy.proofs.Serving.{reply_in}
use Rattle.st_laws_waits.proofs.Robbing.{not_free}

-- whoever isn't a suspect has no timer
pub no_timer : (a : Authority) (c : ClientId) → may_ack a c ≡ true → authority.started a c ≡ None
no_timer a c e = go (authority.suspect_of a c) refl
  where
    go : (o : Option Suspect) → authority.suspect_of a c ≡ o → authority.started a c ≡ None
    go None q = ap (λ (o : Option Suspect). Rattle.std.specs.Prelude.option_map authority.start_of o) q
    go (Some x) q = absurd (not_both (not (is_some (authority.suspect_of a c))) e (ap (λ (o : Option Suspect). not (is_some o)) q))

module _ (now : Stamp) (h : Header) (t : ServerTurn) where
  -- what a message leaves at a server that hears these nodes
  abbrev pub heard : (ℕ → Bool) → Body → ServerTurn
  heard clients b = take_of clients t now (Control (record { header = h; body = b }))

  -- What a welcome greeting leaves: only the welcome is said, and the sender's session belongs to the greeting's life, anew or as it was.
  pub record IsWelcome (u : ServerTurn) : Type 0 where
    pub out : u.out ≡ t.out ++ reply_in now h t bd.Welcome ∷ []
    pub session : Session
    pub is : sessions.session_of u.state.sessions (sv.sender h) ≡ Some session
    pub life : session.life.0 ≡ h.life
    pub begins : (session.state ≡ Live 0 None) ⊎ (sessions.session_of t.state.sessions (sv.sender h) ≡ Some session)

  -- the sender isn't a suspect
  abbrev Free : ServerTurn → Type 0
  Free u = may_ack u.state.authority (sv.sender h) ≡ true

  -- the sender's session belongs to an earlier life, or it lives in the greeting's
  abbrev pub NoLater : Type 0
  NoLater = (y : Session) → sessions.session_of t.state.sessions (sv.sender h) ≡ Some y → (y.life.0 < h.life) ⊎
      ((y.life.0 ≡ h.life) × (sessions.is_live y ≡ true))

  abbrev G : sessions.Greeted → Type 0
  G g = Free (sv.greet_by t now h g) → IsWelcome (sv.greet_by t now h g)

  begun : G (sessions.greeted hellos.Welcome (sessions.with_new_session (sv.sender h) (sv.life_in h) t.state.sessions))
  unfolding sv.greet_by sv.greet_as sv.reply sessions.greeted
  begun f =
      record {
        out = refl;
        session = sessions.new_session (sv.sender h) (sv.life_in h);
        is = session_own t.state.sessions (sessions.new_session (sv.sender h) (sv.life_in h)) h.from refl;
        life = refl;
        begins = inl refl;
      }

  replaced : G (sessions.greeted hellos.Replaced (sessions.with_new_session (sv.sender h) (sv.life_in h) t.state.sessions))
  unfolding sv.greet_by sv.greet_as sv.reply sessions.greeted
  replaced f =
      record {
        out = refl;
        session = sessions.new_session (sv.sender h) (sv.life_in h);
        is = session_own t.state.sessions (sessions.new_session (sv.sender h) (sv.life_in h)) h.from refl;
        life = refl;
        begins = inl refl;
      }

  -- a client that must wait is suspected
  waits : may_ack t.state.authority (sv.sender h) ≡ true → G (sessions.greeted hellos.Wait t.state.sessions)
  unfolding sv.greet_by sv.greet_as sv.reply sv.suspect_client sessions.greeted
  waits m f = absurd (not_free t.state.authority (sv.sender h) now m f)

  stays : (y : Session) → sessions.session_of t.state.sessions (sv.sender h) ≡ Some y → y.life.0 ≡ h.life → G (sessions.greeted hellos.Welcome t.state.sessions)
  unfolding sv.greet_by sv.greet_as sv.reply sessions.greeted
  stays y e l f = record { out = refl; session = y; is = e; life = l; begins = inr e }

  not_le : (a b : ℕ) → b < a → nat_le a b ≡ false
  not_le a b l = go (nat_le a b) refl
    where
      go : (x : Bool) → nat_le a b ≡ x → x ≡ false
      go false e = refl
      go true e = let z = leb-true a b e in absurd (omega (arith, z, l))

  at_sessions : may_ack t.state.authority (sv.sender h) ≡ true → NoLater → (rows : Bool) → G (sessions.hello t.state.sessions (sv.sender h) (sv.life_in h) rows)
  unfolding sessions.hello sessions.hello_at sessions.hello_by sessions.hello_live sessions.hello_again sessions.hello_higher sessions.hello_ended
      sessions.begin_session
  at_sessions m below rows = go (sessions.session_of t.state.sessions (sv.sender h)) refl
    where
      old : (y : Session) → sessions.session_of t.state.sessions (sv.sender h) ≡ Some y → (y.life.0 < h.life) ⊎
          ((y.life.0 ≡ h.life) × (sessions.is_live y ≡ true)) →
          G (sessions.hello_by t.state.sessions (sv.sender h) (sv.life_in h) rows y)
      old y e (inl l) =
          cond_either G (sessions.is_live y) (sessions.hello_live t.state.sessions (sv.sender h) (sv.life_in h) rows y)
          (sessions.hello_ended t.state.sessions (sv.sender h) (sv.life_in h) y)
          (λ a. cond_either G (nat_lt h.life y.life.0) (sessions.greeted hellos.Old t.state.sessions)
          (sessions.hello_again t.state.sessions (sv.sender h) (sv.life_in h) rows y)
          (λ b. let z = ltb-true h.life y.life.0 b in absurd (omega (arith, z, l)))
          (λ b. cond_either G (h.life == y.life.0) (sessions.greeted hellos.Welcome t.state.sessions)
          (sessions.hello_higher t.state.sessions (sv.sender h) (sv.life_in h) rows)
          (λ d. let z = Rattle.std.proofs.lemmas.Bool.eqb-true h.life y.life.0 d in absurd (omega (arith, z, l)))
          (λ d. cond_either G rows (sessions.greeted hellos.Wait t.state.sessions) (sessions.greeted hellos.Replaced
          (sessions.with_new_session (sv.sender h) (sv.life_in h) t.state.sessions)) (λ f. waits m)
          (λ f. replaced))))
          (λ a. cond_either G (sessions.is_past (sv.life_in h) y) (sessions.greeted hellos.Old t.state.sessions)
          (sessions.greeted hellos.Welcome (sessions.with_new_session (sv.sender h) (sv.life_in h) t.state.sessions))
          (λ b. absurd (not_both (nat_le h.life y.life.0) b (not_le h.life y.life.0 l))) (λ b. begun))
      old y e (inr (same, live)) =
          cond_either G (sessions.is_live y) (sessions.hello_live t.state.sessions (sv.sender h) (sv.life_in h) rows y)
          (sessions.hello_ended t.state.sessions (sv.sender h) (sv.life_in h) y)
          (λ a. cond_either G (nat_lt h.life y.life.0) (sessions.greeted hellos.Old t.state.sessions)
          (sessions.hello_again t.state.sessions (sv.sender h) (sv.life_in h) rows y)
          (λ b. let z = ltb-true h.life y.life.0 b in absurd (omega (arith, z, same)))
          (λ b. cond_either G (h.life == y.life.0) (sessions.greeted hellos.Welcome t.state.sessions)
          (sessions.hello_higher t.state.sessions (sv.sender h) (sv.life_in h) rows)
          (λ d. stays y e same) (λ d. absurd (not_both (h.life == y.life.0) (eq-eqb h.life y.life.0 (sym same)) d))))
          (λ a. absurd (not_both (sessions.is_live y) live a))

      go : (o : Option Session) → sessions.session_of t.state.sessions (sv.sender h) ≡ o →
          G (sessions.hello_at t.state.sessions (sv.sender h) (sv.life_in h) rows o)
      go None e = begun
      go (Some y) e = old y e (below y e)

  -- the greeting
  pub welcomed : (clients : ℕ → Bool) → hears clients t.state h ≡ true → may_ack t.state.authority (sv.sender h) ≡ true → sv.in_grace t now ≡ false →
      NoLater → Free (heard clients bd.Hello) → IsWelcome (heard clients bd.Hello)
  unfolding sv.receive_from sv.by_suspicion sv.by_body sv.hello sv.greet
  welcomed clients for m off below =
      cond_either F (hears clients t.state h) (sv.receive_from t now h bd.Hello) t
      (λ e. subst (λ o. F (sv.by_suspicion t now h bd.Hello o)) (sym (no_timer t.state.authority (sv.sender h) m))
      (cond_either F (sv.in_grace t now) (sv.refuse_in_grace t h) (sv.greet t now h) (λ g. absurd (not_both (sv.in_grace t now) g off))
      (λ g. at_sessions m below (locks.has_rows t.state.locks (sv.sender h))))) (λ e. absurd (not_both (hears clients t.state h) for e))
    where
      F : ServerTurn → Type 0
      F u = Free u → IsWelcome u

  -- A demand that was seen.
  pub record IsQuiet (u : ServerTurn) : Type 0 where
    pub sessions : u.state.sessions ≡ t.state.sessions
    pub out : u.out ≡ t.out

  pub seen_quiet : (clients : ℕ → Bool) (ino : ℕ) (g : GrantNo) → may_ack t.state.authority (sv.sender h) ≡ true →
      IsQuiet (heard clients (bd.DemandSeen ino g))
  unfolding sv.receive_from sv.by_suspicion sv.by_body sv.demand_seen sv.observe_demand
  seen_quiet clients ino g m =
      cond_either IsQuiet (hears clients t.state h) (sv.receive_from t now h (bd.DemandSeen ino g)) t
      (λ e. subst (λ o. IsQuiet (sv.by_suspicion t now h (bd.DemandSeen ino g) o)) (sym (no_timer t.state.authority (sv.sender h) m))
      (cond_either IsQuiet (sv.is_served t h) (sv.observe_demand t h ino g) t (λ f. record { sessions = refl; out = refl })
      (λ f. record { sessions = refl; out = refl })))
      (λ e. record { sessions = refl; out = refl })
