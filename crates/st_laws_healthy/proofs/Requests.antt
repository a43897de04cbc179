-- Requests of a client among messages, and which of them a server's session has a reply for.
use Rattle.st_lemmas.proofs.Words
use Words.{◌≡◌, ℕ, ◌+◌, ◌==◌, refl, sym, subst, arith, nat_lt, Option, Some, None, eqb-true, ltb-true, ClientId, Header, Body, Message, Session, SessionState}
use Words.{Taken}
use Words.states.{Live, Ended}
use Words.takes
use Words.Server as sv
use Words.Sessions as sessions
use Words.Tables.{cond_either}

-- a request of this client, life and epoch, under this number, among these messages
pub record IsRequest (S : Message → Type 0) (c : ClientId) (life epoch number : ℕ) (m : Message) : Type 0 where
  pub among : S m
  pub from : m.header.from ≡ c.0
  pub of_life : m.header.life ≡ life
  pub of_epoch : m.header.epoch ≡ epoch
  pub under : m.header.number ≡ number

-- a request of a living session of its life is not without a session
pub not_unknown : (v : sessions.Sessions) (h : Header) (y : Session) → sessions.session_of v (sv.sender h) ≡ Some y → y.life.0 ≡ h.life →
    sessions.take v (sv.sender h) (sv.life_in h) (sv.epoch_in h) h.number ≡ takes.NoSession → ⊥
unfolding sessions.take sessions.take_at sessions.take_life sessions.take_past sessions.take_state sessions.take_number sessions.take_from sessions.take_next
    sessions.again
not_unknown v h y there life =
    cond_either N ((sv.epoch_in h).0 == v.epoch.0) (sessions.take_at (sessions.session_of v (sv.sender h)) (sv.life_in h) h.number) takes.OtherEpoch
    (λ e. subst (λ o. N (sessions.take_at o (sv.life_in h) h.number)) (sym there)
    (cond_either N (nat_lt y.life.0 h.life) takes.NoSession (sessions.take_past y (sv.life_in h) h.number)
    (λ a f. let z = ltb-true y.life.0 h.life a in omega (arith, z, life))
    (λ a. cond_either N (nat_lt h.life y.life.0) takes.Stale (sessions.take_state y.state h.number) (λ b f. cc) (λ b. by y.state)))) (λ e f. cc)
  where
    N : Taken Body → Type 0
    N k = k ≡ takes.NoSession → ⊥

    kept : (o : Option Body) → N (sessions.again o)
    kept None f = cc
    kept (Some x) f = cc

    by : (st : SessionState) → N (sessions.take_state st h.number)
    by Ended = λ f. cc
    by (Live last old) =
        cond_either N (nat_lt h.number last) takes.Stale (sessions.take_from last old h.number) (λ a f. cc)
        (λ a. cond_either N (h.number == last) (sessions.again old) (sessions.take_next last h.number) (λ b. kept old)
        (λ b. cond_either N (h.number == last + 1) takes.Fresh takes.OutOfOrder (λ d f. cc) (λ d f. cc)))

-- what is taken anew, or again, belongs to the sessions' epoch
pub in_epoch : (v : sessions.Sessions) (h : Header) → (sessions.take v (sv.sender h) (sv.life_in h) (sv.epoch_in h) h.number ≡ takes.OtherEpoch → ⊥) →
    h.epoch ≡ v.epoch.0
unfolding sessions.take
in_epoch v h =
    cond_either (λ (k : Taken Body). (k ≡ takes.OtherEpoch → ⊥) → h.epoch ≡ v.epoch.0) ((sv.epoch_in h).0 == v.epoch.0)
    (sessions.take_at (sessions.session_of v (sv.sender h)) (sv.life_in h) h.number) takes.OtherEpoch (λ e f. eqb-true h.epoch v.epoch.0 e)
    (λ e f. absurd (f refl))
