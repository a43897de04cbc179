-- A server welcomes at once whoever greets it and has nothing there, outside grace.
use Rattle.st_lemmas.proofs.Words
use Words.{◌≡◌, ◌≤◌, ◌==◌, ℕ, Bool, true, false, not, [], Option, Some, None, option_map, refl, sym, ap, ◌∙◌, subst, inl, inr, arith, if◌then◌else◌, is_some, eq-eqb, ltb-true, nat_lt, ne_eqb}
use Words.{ClientId, Message, ServerId, ServerInput, Session, Stamp, Suspect}
use Words.bodies
use Words.outputs
use Words.serving.{Control}
use Words.Authority as authority
use Words.Grace as grace
use Words.Keys.{server_node}
use Words.Lists.{Has}
use Words.Locks as locks
use Words.Locks.{is_row_by, is_wait_by}
use Words.Server as sv
use Words.Server.{ServerState, ServerTurn, life_in, reply, reply_header, sender, steal_from, tell, thefts, turn}
use Words.Sessions as sessions
use Words.Sessions.{session_of}
use Words.Tables.{and_both, has_filter}
use Words.Truth.{clash}
use Rattle.st_lemmas.proofs.Once.{none_any}
use Rattle.st_third.specs.Limits.{is_client_node}
use Rattle.st_third.specs.Server as every
use Rattle.st_trace.specs.Server.Edits as edits
use Rattle.st_trace.specs.Server.Edits.{AtDemands, AtGrants, AtThefts, EditOf}
use Rattle.st_trace.specs.Server.Steps.{hears, step_of, take_of}
use Rattle.st_trace.proofs.Server.Input.{walk_of_thefts_of}
use Rattle.st_trace.proofs.Server.Walk.{walk_of_demanding_of, walk_of_granting_of}
use Rattle.st_laws_third.proofs.Chains.{left_has, right_has}
use Rattle.st_laws_leaving.specs.Serving.{HasNothing}
use Rattle.st_laws_leaving.proofs.QuietClients.{over_other, own_rows, own_waits, quiet_as, running_free}
use Rattle.st_laws_leaving.proofs.ServedClients.{end_other, same_step}

-- it says a welcome to the one who sent this message
pub record WelcomedBy (n : ServerState) (m : Message) (t : ServerTurn) : Type 0 where
  pub message : Message
  pub said : Has (outputs.Send message) t.out
  pub body : message.body ≡ bodies.Welcome
  pub from : message.header.from ≡ server_node n.id
  pub to : message.header.to ≡ m.header.from

nothing_starts : (o : Option Suspect) → not (is_some o) ≡ true → o ≡ None
nothing_starts None e = refl
nothing_starts (Some x) e = cc e

module _ (form : ℕ) (n : ServerState) (now : Stamp) (m : Message) where
  abbrev Clients : ℕ → Bool
  Clients = is_client_node form

  abbrev Input : ServerInput
  Input = Control m

  abbrev Who : ClientId
  Who = sender m.header

  -- after the thefts
  record Ready (t : ServerTurn) : Type 0 where
    id : t.state.id ≡ n.id
    grace : t.state.grace ≡ n.grace
    nothing : HasNothing t.state Who
    session : session_of t.state.sessions Who ≡ session_of n.sessions Who

  abbrev Welcomed : ServerTurn → Type 0
  Welcomed t = WelcomedBy n m t

  replies : (t : ServerTurn) → t.state.id ≡ n.id → Welcomed (reply t m.header bodies.Welcome)
  unfolding reply
  replies t e =
      record {
        message = record { header = reply_header t.state m.header; body = bodies.Welcome };
        said = right_has t.out _ _ (inl refl);
        body = refl;
        from = ap (λ (s : ServerId). server_node s) e;
        to = refl;
      }

  module _ (free : authority.may_ack n.authority Who ≡ true) where
    stolen : (t u : ServerTurn) → EditOf Clients n now Input AtThefts t u → Ready t → Ready u
    unfolding steal_from locks.forget
    stolen t u (edits.TakesTimers _ e) q =
        record {
          id = q.id;
          grace = q.grace;
          nothing =
              quiet_as Clients n now Input Who t (sv.with_authority (authority.still_running t.state.authority now) t) (own_rows Clients n now Input Who t)
              (own_waits Clients n now Input Who t) (running_free t.state.authority Who now q.nothing.free) q.nothing.live q.nothing;
          session = q.session;
        }
    stolen t u (edits.Steals _ d x k e) q =
        let z = end_other t.state.sessions d Who (λ y. over_other n.authority Who d now free k (sym y)) in
        record {
          id = q.id;
          grace = q.grace;
          nothing =
              quiet_as Clients n now Input Who t (steal_from t d x)
              (λ r j. inr (r, (has_filter (λ y. not (is_row_by d y)) t.state.locks.rows r j).0, refl))
              (λ w j. inr (w, (has_filter (λ y. not (is_wait_by d y)) t.state.locks.waiters w j).0, refl)) q.nothing.free
              (λ y f. q.nothing.live y (sym z ∙ f)) q.nothing;
          session = z ∙ q.session;
        }

  greets : (t : ServerTurn) → Ready t → ((x : Session) → session_of n.sessions Who ≡ Some x → x.life.0 ≤ m.header.life) → Welcomed (sv.greet t now m.header)
  unfolding sv.greet sv.greet_by sv.greet_as sessions.hello sessions.hello_at sessions.hello_by sessions.hello_live sessions.hello_again sessions.hello_higher
      sessions.begin_session sessions.greeted
  greets t q later = go (session_of t.state.sessions Who) refl
    where
      none : locks.has_rows t.state.locks Who ≡ false
      none = none_any (is_row_by Who) t.state.locks.rows (λ r j. ne_eqb r.client.0 Who.0 (q.nothing.rows r j))

      begins : Welcomed (reply (sv.with_sessions (sessions.with_new_session Who (life_in m.header) t.state.sessions) t) m.header bodies.Welcome)
      begins = replies (sv.with_sessions (sessions.with_new_session Who (life_in m.header) t.state.sessions) t) q.id

      high : (b : Bool) → b ≡ false →
          Welcomed (sv.greet_by t now m.header
          (if b then sessions.greeted Words.hellos.Wait t.state.sessions else
          sessions.begin_session Words.hellos.Replaced Who (life_in m.header) t.state.sessions))
      high true e = cc e
      high false e =
          replies (sv.with_locks (locks.drop_waits t.state.locks Who) (sv.with_sessions (sessions.with_new_session Who (life_in m.header) t.state.sessions) t))
          q.id

      same : (s : Session) (b : Bool) →
          Welcomed (sv.greet_by t now m.header
          (if b then sessions.greeted Words.hellos.Welcome t.state.sessions else
          sessions.hello_higher t.state.sessions Who (life_in m.header) (locks.has_rows t.state.locks Who)))
      same s true = replies (sv.with_sessions t.state.sessions t) q.id
      same s false = high (locks.has_rows t.state.locks Who) none

      below : (s : Session) → session_of t.state.sessions Who ≡ Some s → (b : Bool) → nat_lt m.header.life s.life.0 ≡ b →
          Welcomed (sv.greet_by t now m.header
          (if b then sessions.greeted Words.hellos.Old t.state.sessions else
          sessions.hello_again t.state.sessions Who (life_in m.header) (locks.has_rows t.state.locks Who) s))
      below s there true e =
          let k = ltb-true m.header.life s.life.0 e in
          let l = later s (sym q.session ∙ there) in absurd (omega (arith, k, l))
      below s there false e = same s (m.header.life == s.life.0)

      live : (s : Session) → session_of t.state.sessions Who ≡ Some s → (b : Bool) → sessions.is_live s ≡ b →
          Welcomed (sv.greet_by t now m.header
          (if b then sessions.hello_live t.state.sessions Who (life_in m.header) (locks.has_rows t.state.locks Who) s else
          sessions.hello_ended t.state.sessions Who (life_in m.header) s))
      live s there true e = below s there (nat_lt m.header.life s.life.0) refl
      live s there false e = clash (q.nothing.live s there) e

      go : (o : Option Session) → session_of t.state.sessions Who ≡ o →
          Welcomed (sv.greet_by t now m.header (sessions.hello_at t.state.sessions Who (life_in m.header) (locks.has_rows t.state.locks Who) o))
      go None e = begins
      go (Some s) e = live s e (sessions.is_live s) refl

  module _ (is : m.body ≡ bodies.Hello) (to : m.header.to ≡ server_node n.id) (client : is_client_node form m.header.from ≡ true)
      (off : grace.is_on n.grace now ≡ false) (nothing : HasNothing n Who)
      (later : (x : Session) → session_of n.sessions Who ≡ Some x → x.life.0 ≤ m.header.life) where
    takes : (t : ServerTurn) → Ready t → Welcomed (take_of Clients t now Input)
    unfolding sv.receive_from sv.by_suspicion sv.by_body sv.hello
    takes t q =
        subst (λ b. Welcomed (if b then sv.receive_from t now m.header m.body else t)) (sym heard)
        (subst (λ y. Welcomed (sv.receive_from t now m.header y)) (sym is) (by_timer (authority.started t.state.authority Who) none))
      where
        heard : hears Clients t.state m.header ≡ true
        heard = and_both _ _ (eq-eqb m.header.to (server_node t.state.id) (to ∙ ap (λ (s : ServerId). server_node s) (sym q.id))) client

        none : authority.started t.state.authority Who ≡ None
        none = ap (option_map authority.start_of) (nothing_starts (authority.suspect_of t.state.authority Who) q.nothing.free)

        by_timer : (o : Option Stamp) → o ≡ None → Welcomed (sv.by_suspicion t now m.header bodies.Hello o)
        by_timer None e =
            subst (λ b. Welcomed (if b then sv.refuse_in_grace t m.header else sv.greet t now m.header))
            (sym (ap (λ g. grace.is_on g now) q.grace ∙ off)) (greets t q later)
        by_timer (Some x) e = cc e

    grants : (t u : ServerTurn) → EditOf Clients n now Input AtGrants t u → Welcomed t → Welcomed u
    unfolding tell
    grants t u (edits.Grants _ w g h e z) q =
        record { message = q.message; said = left_has t.out _ _ q.said; body = q.body; from = q.from; to = q.to }

    demands : (t u : ServerTurn) → EditOf Clients n now Input AtDemands t u → Welcomed t → Welcomed u
    unfolding tell
    demands t u (edits.Demands _ w r x e h o k d) q =
        record { message = q.message; said = left_has t.out _ _ q.said; body = q.body; from = q.from; to = q.to }

    stepped : Welcomed (step_of Clients n now Input)
    unfolding sv.suspecting_on
    stepped =
        walk_of_demanding_of Clients n now Input Welcomed demands _
        (walk_of_granting_of Clients n now Input Welcomed grants _
        (takes (thefts (turn n []) now)
        (walk_of_thefts_of Clients n now Input Ready (stolen nothing.free) (record { id = refl; grace = refl; nothing = nothing; session = refl }))))

    pub server_welcomes : Welcomed (every.server_step form n now Input)
    server_welcomes = subst Welcomed (sym (same_step form n now Input)) stepped
