-- A whole step of a server that ticks in time keeps what holds of it since its last tick, and a tick makes it hold since now: the thefts and the suspicions
-- look at every timer and every demand.
use Rattle.st_lemmas.proofs.Words
use Words.{◌≡◌, ℕ, ◌+◌, ◌≤◌, ◌⊎◌, Bool, true, false, [], refl, sym, ap, ◌∙◌, subst, inl, inr, arith, cond, Option, Some, None, ltb-true, lt-ltb, Config, Stamp}
use Words.{Message, ServerInput}
use Words.serving.{Tick, Control}
use Words.Grace as grace
use Words.Grace.{Grace}
use Words.Leases.{steal_wait}
use Words.Server.{ServerState, ServerTurn, demanding, granting, grant_waiting, in_grace, server_step, suspecting, suspecting_on, take_input, thefts, turn}
use Rattle.st_laws_refine.specs.Server.Edits.{WishInput}
use Rattle.st_laws_refine.proofs.Server.Walk.{kept_by_demands, kept_by_grants, kept_by_message, kept_by_suspicions}
use Rattle.st_trace.proofs.Server.Input.{thefts_begun}
use Rattle.st_laws_waits.specs.Bounds.{AllBlocked, InTime, RowsHaveSessions}
use Rattle.st_laws_waits.specs.WithinStep.{WithinStep}
use Rattle.st_laws_waits.proofs.Demanding.{pass_blocked, pass_demanded}
use Rattle.st_laws_waits.proofs.Edits.{edit}
use Rattle.st_laws_waits.proofs.Granting.{waiting_blocked}
use Rattle.st_laws_waits.proofs.Robbing.{stolen, ticked}

-- grace that is on at a moment was on before
pub graced_before : (g : Option Grace) (last now : ℕ) → last ≤ now → grace.is_on g (record { 0 = now }) ≡ true → grace.is_on g (record { 0 = last }) ≡ true
graced_before None last now l e = e
graced_before (Some g) last now l e = let z = ltb-true now (g.start.0 + g.wait) e in lt-ltb last (g.start.0 + g.wait) (omega (arith, l, z))

-- a granting pass outside grace leaves each first waiter blocked
granting_blocked : (t : ServerTurn) (now : Stamp) → (grace.is_on t.state.grace now ≡ true) ⊎ AllBlocked (granting t now).state.locks
unfolding granting
granting_blocked t now = go (in_grace t now) refl
  where
    go : (b : Bool) → in_grace t now ≡ b → (grace.is_on t.state.grace now ≡ true) ⊎ AllBlocked (cond b t (grant_waiting t)).state.locks
    go true e = inl e
    go false e = inr (waiting_blocked t)

module _ (k : Config) (now : Stamp) (n : ServerState) (i : ServerInput) (p : 1 ≤ k.demand) (q : 1 ≤ steal_wait k) (rp : 1 ≤ k.retry) where
  -- the passes after the suspicions
  passes : (last : ℕ) (t : ServerTurn) → last ≤ now.0 → WithinStep k (steal_wait k) last now n.grace t →
      WithinStep k (steal_wait k) last now n.grace (demanding (granting t now) now i)
  passes last t l o =
      kept_by_demands n now i (WithinStep k (steal_wait k) last now n.grace) (λ t u e o. edit k (steal_wait k) last now n.grace n i t u p q l e o)
      (granting t now)
      (kept_by_grants n now i (WithinStep k (steal_wait k) last now n.grace) (λ t u e o. edit k (steal_wait k) last now n.grace n i t u p q l e o) t o)

  granted : (last : ℕ) (t : ServerTurn) → last ≤ now.0 → WithinStep k (steal_wait k) last now n.grace t →
      WithinStep k (steal_wait k) last now n.grace (granting t now)
  granted last t l o = kept_by_grants n now i (WithinStep k (steal_wait k) last now n.grace)
      (λ t u e o. edit k (steal_wait k) last now n.grace n i t u p q l e o) t o

  -- what holds after the passes
  behind : (last : ℕ) (t : ServerTurn) → last ≤ now.0 → WithinStep k (steal_wait k) last now n.grace t →
      InTime k last now.0 (demanding (granting t now) now i).state
  behind last t l o =
      record {
        config = z.config;
        wait = z.wait_is;
        past = l;
        rows = z.rows;
        timers = λ x h. let y = z.timers x h in let y1 = y.1 in (y.0, omega (arith, l, y1));
        demanded = pass_demanded (granting t now) now i retries;
        blocked = by (granting_blocked t now);
      }
    where
      retries : 1 ≤ (granting t now).state.config.retry
      retries = subst (λ (kb : Config). 1 ≤ kb.retry) (sym (granted last t l o).config) rp

      z : WithinStep k (steal_wait k) last now n.grace (demanding (granting t now) now i)
      z = passes last t l o

      by : (grace.is_on t.state.grace now ≡ true) ⊎ AllBlocked (granting t now).state.locks →
          (grace.is_on (demanding (granting t now) now i).state.grace (record { 0 = last }) ≡ true) ⊎ AllBlocked (demanding (granting t now) now i).state.locks
      by (inl e) = inl (graced_before _ last now.0 l (ap (λ g. grace.is_on g now) (z.grace ∙ sym o.grace) ∙ e))
      by (inr b) = inr (pass_blocked (granting t now) now i retries b)

module _ (k : Config) (last : ℕ) (now : Stamp) (n : ServerState) (p : 1 ≤ k.demand) (q : 1 ≤ steal_wait k) (rp : 1 ≤ k.retry) (known : RowsHaveSessions n)
    (s : InTime k last now.0 n) where
  -- after the thefts
  pub robbed : WithinStep k (steal_wait k) last now n.grace (thefts (turn n []) now)
  robbed = stolen k (steal_wait k) last now n known s.config s.wait s.rows s.timers

  -- after a tick's suspicions
  pub suspected : WithinStep k (steal_wait k) now.0 now n.grace (suspecting (thefts (turn n []) now) now)
  suspected =
      ticked k (steal_wait k) last now n.grace (thefts (turn n []) now) robbed.config
      (kept_by_suspicions n now (WithinStep k (steal_wait k) last now n.grace) (λ t u e o. edit k (steal_wait k) last now n.grace n Tick t u p q s.past e o)
      (thefts (turn n []) now) (thefts_begun n now).quiet robbed)

  -- after a message's rule
  pub received : (m : Message) → WishInput (Control m) → WithinStep k (steal_wait k) last now n.grace (take_input (thefts (turn n []) now) now (Control m))
  received m w = kept_by_message n now m (WithinStep k (steal_wait k) last now n.grace)
      (λ t u e o. edit k (steal_wait k) last now n.grace n (Control m) t u p q s.past e o) w robbed

  pub tick_in_time : InTime k now.0 now.0 (server_step n now Tick).state
  unfolding server_step take_input suspecting_on
  tick_in_time = behind k now n Tick p q rp now.0 (suspecting (thefts (turn n []) now) now) (omega arith) suspected

  pub message_in_time : (m : Message) → WishInput (Control m) → InTime k last now.0 (server_step n now (Control m)).state
  unfolding server_step suspecting_on
  message_in_time m w = behind k now n (Control m) p q rp last (take_input (thefts (turn n []) now) now (Control m)) s.past (received m w)
