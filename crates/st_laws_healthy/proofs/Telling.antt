-- A whole step of a server: what it sends under a number answers the message of this step, for all else that it sends has number 0; and its passes leave the
-- sessions.
use Rattle.st_lemmas.proofs.Words
use Words.{◌≡◌, ◌==◌, ℕ, ◌⊎◌, Bool, true, false, List, [], ◌∷◌, ◌++◌, refl, sym, ◌∙◌, subst, inl, inr, Option, Some, None, ClientId, GrantNo, Life, Stamp, Mode}
use Words.{Header, Body, Message, Note, Output, ServerInput, Session}
use Words.bodies
use Words.notes
use Words.outputs
use Words.serving.{Tick, Control}
use Words.takes
use Words.Authority as authority
use Words.Locks as locks
use Words.Server as sv
use Words.Server.{ServerState, ServerTurn, demanding, granting, server_step, steal_at, steal_each, suspecting, suspecting_on, take_input, tell, tell_demanded}
use Words.Server.{tell_granted, thefts, turn, with_locks}
use Words.Sessions as sessions
use Words.Lists.{Has}
use Words.Tables.{cond_either, has_append}
use Words.Members.{has_left}
use Words.Truth.{not_both}
use Rattle.st_trace.specs.Server.Steps.{hears, step_of, take_of}
use Rattle.st_laws_healthy.proofs.Replies.{counts_for, is_served}
use Rattle.st_laws_healthy.proofs.Replying.{IsAnswered, taken_answered}
use Rattle.st_laws_healthy.proofs.Serving.{Answers, does_of, no_note, sent_is, sent_same}
use Rattle.st_laws_waits.proofs.Edits.{more_suspects}

-- a grant or a demand
abbrev pub is_unasked : Body → Bool
is_unasked (bodies.Granted ino g mode) = true
is_unasked (bodies.Demand ino g to) = true
is_unasked b = false

-- a message that no request asked for
pub record IsUnasked (m : Message) : Type 0 where
  pub number : m.header.number ≡ 0
  pub body : is_unasked m.body ≡ true

-- what a pass says, and leaves: sessions stay, and what it sends is unasked
pub record Tells (t u : ServerTurn) : Type 0 where
  pub sessions : u.state.sessions ≡ t.state.sessions
  pub sends : (m : Message) → Has (outputs.Send m) u.out → Has (outputs.Send m) t.out ⊎ IsUnasked m
  pub grows : (o : Output) → Has o t.out → Has o u.out
  pub free : (c : ClientId) → authority.may_ack u.state.authority c ≡ true → authority.may_ack t.state.authority c ≡ true

tells_self : (t : ServerTurn) → Tells t t
tells_self t = record { sessions = refl; sends = λ m h. inl h; grows = λ o h. h; free = λ c h. h }

tells_then : (t u v : ServerTurn) → Tells t u → Tells u v → Tells t v
tells_then t u v a b = record {
  sessions = b.sessions ∙ a.sessions;
  sends = λ m h. go m (b.sends m h);
  grows = λ o h. b.grows o (a.grows o h);
  free = λ c h.
      a.free c (b.free c h);
}
  where
    go : (m : Message) → Has (outputs.Send m) u.out ⊎ IsUnasked m → Has (outputs.Send m) t.out ⊎ IsUnasked m
    go m (inl h) = a.sends m h
    go m (inr e) = inr e

-- a message that nobody asked for
told : (t : ServerTurn) (c : ClientId) (life : Life) (b : Body) → is_unasked b ≡ true → Tells t (tell t c life b)
unfolding tell
told t c life b n =
    record {
      sessions = refl;
      sends = λ m h. go m (has_append t.out (outputs.Send (record { header = sv.own_header t.state c life; body = b }) ∷ []) (outputs.Send m) h);
      grows = λ o h. has_left t.out (outputs.Send (record { header = sv.own_header t.state c life; body = b }) ∷ []) o h;
      free = λ c h. h;
    }
  where
    go : (m : Message) → Has (outputs.Send m) t.out ⊎ Has (outputs.Send m) (outputs.Send (record { header = sv.own_header t.state c life; body = b }) ∷ []) →
        Has (outputs.Send m) t.out ⊎ IsUnasked m
    go m (inl h) = inl h
    go m (inr (inl e)) = inr (subst IsUnasked (sym (sent_same e)) (record { number = refl; body = n }))
    go m (inr (inr h)) = elim h [ ]

-- a note
noted : (t u : ServerTurn) (n : Note) → u.state.sessions ≡ t.state.sessions → u.out ≡ t.out ++ outputs.Note n ∷ [] →
    ((c : ClientId) → authority.may_ack u.state.authority c ≡ true → authority.may_ack t.state.authority c ≡ true) → Tells t u
noted t u n s o f =
    record {
      sessions = s;
      sends = λ m h. go m (has_append t.out (outputs.Note n ∷ []) (outputs.Send m) (subst (Has (outputs.Send m)) o h));
      grows = λ y h. subst (Has y) (sym o) (has_left t.out (outputs.Note n ∷ []) y h);
      free = f;
    }
  where
    go : (m : Message) → Has (outputs.Send m) t.out ⊎ Has (outputs.Send m) (outputs.Note n ∷ []) → Has (outputs.Send m) t.out ⊎ IsUnasked m
    go m (inl h) = inl h
    go m (inr (inl e)) = absurd (no_note e)
    go m (inr (inr h)) = elim h [ ]

suspects : (now : Stamp) (cs : List ClientId) (t : ServerTurn) → Tells t (sv.suspect_each now cs t)
unfolding sv.suspect_each sv.suspect_unless sv.suspect_client
suspects now [] t = tells_self t
suspects now (c ∷ cs) t =
    let u = sv.suspect_unless t now c in
    tells_then t u (sv.suspect_each now cs u)
    (cond_either (Tells t) (authority.may_ack t.state.authority c) (sv.suspect_client t now c) t
    (λ e. noted t (sv.suspect_client t now c) (notes.Suspected c now) refl refl (λ d h. more_suspects t.state.authority c now d h)) (λ e. tells_self t))
    (suspects now cs u)

suspecting_tells : (t : ServerTurn) (now : Stamp) (i : ServerInput) → Tells t (suspecting_on t now i)
unfolding suspecting_on suspecting
suspecting_tells t now Tick = suspects now (locks.unanswered t.state.locks now t.state.config) t
suspecting_tells t now (Control m) = tells_self t

grants_tell : (xs : List (ClientId × Life × ℕ × GrantNo × Mode)) (t : ServerTurn) → Tells t (tell_granted xs t)
unfolding tell_granted
grants_tell [] t = tells_self t
grants_tell (x ∷ xs) t =
    tells_then t (tell t x.0 x.1 (bodies.Granted x.2 x.3 x.4)) (tell_granted xs (tell t x.0 x.1 (bodies.Granted x.2 x.3 x.4)))
    (told t x.0 x.1 (bodies.Granted x.2 x.3 x.4) refl)
    (grants_tell xs (tell t x.0 x.1 (bodies.Granted x.2 x.3 x.4)))

granting_tells : (t : ServerTurn) (now : Stamp) → Tells t (granting t now)
unfolding granting sv.grant_waiting sv.grant_by
granting_tells t now =
    cond_either (Tells t) (sv.in_grace t now) t (sv.grant_waiting t) (λ e. tells_self t)
    (λ e. let z = grants_tell (locks.next_grants t.state.locks).granted (with_locks (locks.next_grants t.state.locks).locks t) in record
    { sessions = z.sessions; sends = z.sends; grows = z.grows; free = z.free })

demands_tell : (xs : List (ClientId × Life × ℕ × GrantNo × Mode)) (t : ServerTurn) → Tells t (tell_demanded xs t)
unfolding tell_demanded
demands_tell [] t = tells_self t
demands_tell (x ∷ xs) t =
    tells_then t (tell t x.0 x.1 (bodies.Demand x.2 x.3 x.4)) (tell_demanded xs (tell t x.0 x.1 (bodies.Demand x.2 x.3 x.4)))
    (told t x.0 x.1 (bodies.Demand x.2 x.3 x.4) refl)
    (demands_tell xs (tell t x.0 x.1 (bodies.Demand x.2 x.3 x.4)))

demanding_tells : (t : ServerTurn) (now : Stamp) (i : ServerInput) → Tells t (demanding t now i)
unfolding demanding sv.demand_by
demanding_tells t now i =
    let p = locks.demands_due t.state.locks now (sv.is_tick i) (authority.suspects_of t.state.authority) t.state.config in
    let z = demands_tell p.due (with_locks p.locks t) in
    record { sessions = z.sessions; sends = z.sends; grows = z.grows; free = z.free }

passes_tell : (t : ServerTurn) (now : Stamp) (i : ServerInput) → Tells t (demanding (granting (suspecting_on t now i) now) now i)
passes_tell t now i =
    let a = suspecting_on t now i in
    let b = granting a now in
    tells_then t a (demanding b now i) (suspecting_tells t now i) (tells_then a b (demanding b now i) (granting_tells a now) (demanding_tells b now i))

-- thefts send nothing
theft_quiet : (t : ServerTurn) (c : ClientId) (o : Option Session) → ((m : Message) → Has (outputs.Send m) t.out → ⊥) → (m : Message) →
    Has (outputs.Send m) (steal_at t c o).out → ⊥
unfolding steal_at sv.steal_from
theft_quiet t c None q m h = q m h
theft_quiet t c (Some s) q m h = go (has_append t.out (outputs.Note (notes.Stolen c s.life) ∷ []) (outputs.Send m) h)
  where
    go : Has (outputs.Send m) t.out ⊎ Has (outputs.Send m) (outputs.Note (notes.Stolen c s.life) ∷ []) → ⊥
    go (inl j) = q m j
    go (inr (inl e)) = no_note e
    go (inr (inr j)) = elim j [ ]

thefts_quiet_of : (cs : List ClientId) (t : ServerTurn) → ((m : Message) → Has (outputs.Send m) t.out → ⊥) → (m : Message) →
    Has (outputs.Send m) (steal_each cs t).out → ⊥
unfolding steal_each sv.steal
thefts_quiet_of [] t q m h = q m h
thefts_quiet_of (c ∷ cs) t q m h = thefts_quiet_of cs (sv.steal t c) (theft_quiet t c (sessions.session_of t.state.sessions c) q) m h

pub quiet : (n : ServerState) (now : Stamp) (m : Message) → Has (outputs.Send m) (thefts (turn n []) now).out → ⊥
unfolding thefts
quiet n now m h = thefts_quiet_of (authority.over n.authority now) (sv.with_authority (authority.still_running n.authority now) (turn n []))
    (λ m h. elim h [ ]) m h

-- At a server that hears these nodes as clients.
module _ (clients : ℕ → Bool) where
  -- A step by a message.
  pub step_sends_of : (n : ServerState) (now : Stamp) (m r : Message) → Has (outputs.Send r) (step_of clients n now (Control m)).out →
      IsUnasked r ⊎ Answers now m.header (thefts (turn n []) now) m.body r
  step_sends_of n now m r h = go ((passes_tell (take_of clients u now (Control m)) now (Control m)).sends r h)
    where
      u : ServerTurn
      u = thefts (turn n []) now

      by : Has (outputs.Send r) u.out ⊎ Answers now m.header u m.body r → IsUnasked r ⊎ Answers now m.header u m.body r
      by (inl j) = absurd (quiet n now r j)
      by (inr a) = inr a

      go : Has (outputs.Send r) (take_of clients u now (Control m)).out ⊎ IsUnasked r → IsUnasked r ⊎ Answers now m.header u m.body r
      go (inl j) = by (sent_is now m.header u (take_of clients u now (Control m)) m.body (does_of now m.header clients u m.body) r j)
      go (inr e) = inl e

  -- A step by a tick.
  pub tick_sends_of : (n : ServerState) (now : Stamp) (r : Message) → Has (outputs.Send r) (step_of clients n now Tick).out → IsUnasked r
  tick_sends_of n now r h = go ((passes_tell (thefts (turn n []) now) now Tick).sends r h)
    where
      go : Has (outputs.Send r) (thefts (turn n []) now).out ⊎ IsUnasked r → IsUnasked r
      go (inl j) = absurd (quiet n now r j)
      go (inr e) = e

  -- the sessions after a step are those after its message's rule, or after the thefts
  pub step_sessions_of : (n : ServerState) (now : Stamp) (m : Message) →
      (step_of clients n now (Control m)).state.sessions ≡ (take_of clients (thefts (turn n []) now) now (Control m)).state.sessions
  step_sessions_of n now m = (passes_tell (take_of clients (thefts (turn n []) now) now (Control m)) now (Control m)).sessions

  pub tick_sessions_of : (n : ServerState) (now : Stamp) → (step_of clients n now Tick).state.sessions ≡ (thefts (turn n []) now).state.sessions
  tick_sessions_of n now = (passes_tell (thefts (turn n []) now) now Tick).sessions

  -- whoever isn't a suspect after a step wasn't one after its message's rule
  pub step_free_of : (n : ServerState) (now : Stamp) (m : Message) (c : ClientId) →
      authority.may_ack (step_of clients n now (Control m)).state.authority c ≡ true →
      authority.may_ack (take_of clients (thefts (turn n []) now) now (Control m)).state.authority c ≡ true
  step_free_of n now m c = (passes_tell (take_of clients (thefts (turn n []) now) now (Control m)) now (Control m)).free c

  -- what a step by a message says, its rule said, or nobody asked for it; and what the rule said is said
  pub step_says_of : (n : ServerState) (now : Stamp) (m r : Message) → Has (outputs.Send r) (step_of clients n now (Control m)).out →
      Has (outputs.Send r) (take_of clients (thefts (turn n []) now) now (Control m)).out ⊎ IsUnasked r
  step_says_of n now m r h = (passes_tell (take_of clients (thefts (turn n []) now) now (Control m)) now (Control m)).sends r h

  pub step_grows_of : (n : ServerState) (now : Stamp) (m : Message) (o : Output) →
      Has o (take_of clients (thefts (turn n []) now) now (Control m)).out → Has o (step_of clients n now (Control m)).out
  step_grows_of n now m o h = (passes_tell (take_of clients (thefts (turn n []) now) now (Control m)) now (Control m)).grows o h

-- A request that a session serves is dispatched to it.
by_served : (t : ServerTurn) (now : Stamp) (h : Header) (b : Body) → is_served b ≡ true → sv.by_body t now h b ≡ sv.of_epoch t now h b
unfolding sv.by_body
by_served t now h bodies.KeepAlive e = refl
by_served t now h (bodies.Acquire ino mode) e = refl
by_served t now h (bodies.Released ino g to) e = refl
by_served t now h (bodies.Map ino g p) e = refl
by_served t now h (bodies.Allocate ino g p n) e = refl
by_served t now h (bodies.Cut ino g p) e = refl
by_served t now h (bodies.Name op) e = refl
by_served t now h b e = cc

request_served : (t : ServerTurn) (now : Stamp) (h : Header) (b : Body) → is_served b ≡ true → sv.request t now h b ≡ sv.request_by t now h b (sv.take t h)
unfolding sv.request
request_served t now h bodies.KeepAlive e = refl
request_served t now h (bodies.Acquire ino mode) e = refl
request_served t now h (bodies.Released ino g to) e = refl
request_served t now h (bodies.Map ino g p) e = refl
request_served t now h (bodies.Allocate ino g p n) e = refl
request_served t now h (bodies.Cut ino g p) e = refl
request_served t now h (bodies.Name op) e = refl
request_served t now h b e = cc

-- A request of the present epoch, of a client that isn't a suspect, is answered in the step that receives it, if it is its session's next one, or the last
-- one, whose kept reply counts for it.
pub step_answers_of : (clients : ℕ → Bool) (n : ServerState) (now : Stamp) (m : Message) → hears clients (thefts (turn n []) now).state m.header ≡ true →
    authority.started (thefts (turn n []) now).state.authority (sv.sender m.header) ≡ None →
    (m.header.epoch == (thefts (turn n []) now).state.stable.epoch.0) ≡ true →
    is_served m.body ≡ true →
    (sv.take (thefts (turn n []) now) m.header ≡ takes.Fresh) ⊎ ((x : Body) × (sv.take (thefts (turn n []) now) m.header ≡ takes.Again x) ×
    (counts_for m.body x ≡ true)) →
    IsAnswered now m.header (thefts (turn n []) now) m.body (step_of clients n now (Control m)).out
unfolding sv.receive_from sv.by_suspicion sv.of_epoch
step_answers_of clients n now m for free epoch served k =
    let z = received in
    record {
      reply = z.reply;
      counts = z.counts;
      sent = (passes_tell (take_of clients u now (Control m)) now (Control m)).grows (outputs.Send
          (record { header = sv.reply_header u.state m.header; body = z.reply })) z.sent;
    }
  where
    u : ServerTurn
    u = thefts (turn n []) now

    A : ServerTurn → Type 0
    A t = IsAnswered now m.header u m.body t.out

    asked : A (sv.of_epoch u now m.header m.body)
    asked =
        cond_either A (m.header.epoch == u.state.stable.epoch.0) (sv.request u now m.header m.body) (sv.refuse_epoch u m.header)
        (λ e. subst A (sym (request_served u now m.header m.body served)) (taken_answered now m.header u m.body served (sv.take u m.header) k))
        (λ e. absurd (not_both (m.header.epoch == u.state.stable.epoch.0) epoch e))

    received : A (take_of clients u now (Control m))
    received =
        cond_either A (hears clients u.state m.header) (sv.receive_from u now m.header m.body) u
        (λ e. subst (λ o. A (sv.by_suspicion u now m.header m.body o)) (sym free) (subst A (sym (by_served u now m.header m.body served)) asked))
        (λ e. absurd (not_both (hears clients u.state m.header) for e))

-- At a server of the first two forms.
-- its step is one that hears 16 clients
pub first_step : (n : ServerState) (now : Stamp) (i : ServerInput) → step_of sv.is_client_node n now i ≡ server_step n now i
unfolding server_step take_input sv.receive
first_step n now Tick = refl
first_step n now (Control m) = refl

pub step_sends : (n : ServerState) (now : Stamp) (m r : Message) → Has (outputs.Send r) (server_step n now (Control m)).out →
    IsUnasked r ⊎ Answers now m.header (thefts (turn n []) now) m.body r
unfolding server_step take_input sv.receive
step_sends n now m r h = step_sends_of sv.is_client_node n now m r h

pub tick_sends : (n : ServerState) (now : Stamp) (r : Message) → Has (outputs.Send r) (server_step n now Tick).out → IsUnasked r
unfolding server_step take_input
tick_sends n now r h = tick_sends_of sv.is_client_node n now r h

pub step_sessions : (n : ServerState) (now : Stamp) (m : Message) →
    (server_step n now (Control m)).state.sessions ≡ (sv.receive (thefts (turn n []) now) now m.header m.body).state.sessions
unfolding server_step take_input sv.receive
step_sessions n now m = step_sessions_of sv.is_client_node n now m

pub tick_sessions : (n : ServerState) (now : Stamp) → (server_step n now Tick).state.sessions ≡ (thefts (turn n []) now).state.sessions
unfolding server_step take_input
tick_sessions n now = tick_sessions_of sv.is_client_node n now
