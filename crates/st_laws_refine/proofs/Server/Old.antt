-- Old messages leave a server as it was: requests of another epoch, and requests of a life that is past.
use Rattle.st_lemmas.proofs.Words
use Words.{◌≡◌, leb-false, ℕ, ◌<◌, ◌⊎◌, Bool, true, false, not, ◌&&◌, ◌||◌, List, ◌==◌, refl, sym, ap, ◌∙◌, subst, inl, inr, arith, lt-ltb, cond, Option, Some}
use Words.{None, ltb-true, le-ltb, ne_eqb, GrantNo, Stamp, Mode, Header, Message, Body, Session, Taken}
use Words.bodies as bd
use Words.hellos
use Words.takes
use Words.Locks as locks
use Words.Sessions as sessions
use Words.Safety.{OldMessagesChangeNoServer, is_of_other_epoch, is_of_past_life, is_below, is_greeting}
use Words.Server as sv
use Words.Server.{ServerTurn, sender, life_in, reply, refuse_in_grace, hello, greet, greet_by, greet_as, demand_seen, observe_demand, refuse_epoch}
use Words.Server.{reassert_again, reassert_new, reassert, request_by, request, of_epoch, by_body, refuse_suspect, by_suspicion, receive_from, receive}
use Words.Server.{take_input}
use Words.Tables.{cond_either, and_true, and_left, and_right, not_true}
use Words.Lookups.{or_cases}
use Words.Truth.{not_both}

-- the state is as it was
abbrev Still : ServerTurn → ServerTurn → Type 0
Still t u = u.state ≡ t.state

-- the message is old
abbrev Old : ServerTurn → Message → Type 0
Old t m = (is_of_other_epoch t.state m ≡ true) ⊎ (is_of_past_life t.state m ≡ true)

still_after_reply : (t : ServerTurn) (h : Header) (b : Body) → Still t (reply t h b)
unfolding reply
still_after_reply t h b = refl

-- a life below a session's
past_life : (o : Option Session) (h : Header) → is_below h o ≡ true → (s : Session) × (o ≡ Some s) × (h.life < s.life.0)
past_life None h e = cc
past_life (Some s) h e = (s, refl, ltb-true h.life s.life.0 e)

-- a greeting of a life that is past is ignored
greeting_past : (t : sessions.Sessions) (h : Header) (rows : Bool) (s : Session) → h.life < s.life.0 → sessions.hello_by t (sender h) (life_in h) rows s ≡ record { sessions = t; hello = hellos.Old }
unfolding sessions.hello_by sessions.hello_live sessions.hello_ended sessions.greeted
greeting_past t h rows s lt =
    cond_either (λ g. g ≡ record { sessions = t; hello = hellos.Old }) (sessions.is_live s) _ _
    (λ e. ap (λ b. cond b (sessions.greeted hellos.Old t) (sessions.hello_again t (sender h) (life_in h) rows s)) (lt-ltb h.life s.life.0 lt))
    (λ e. cond_either (λ g. g ≡ record { sessions = t; hello = hellos.Old }) (sessions.is_past (life_in h) s) (record { sessions = t; hello = hellos.Old }) _ (λ f. refl) (λ f. absurd (over f)))
  where
    over : sessions.is_past (life_in h) s ≡ false → ⊥
    over f = let z = leb-false h.life s.life.0 f in absurd (omega arith)

still_after_old : (t : ServerTurn) (now : Stamp) (h : Header) → Still t (greet_as t now h hellos.Old)
unfolding greet_as
still_after_old t now h = refl

still_after_hello : (t : ServerTurn) (now : Stamp) (h : Header) (s : Session) → sessions.session_of t.state.sessions (sender h) ≡ Some s → h.life < s.life.0 → Still t (hello t now h)
unfolding hello greet greet_by refuse_in_grace sessions.hello sessions.hello_at
still_after_hello t now h s e lt =
    cond_either (Still t) (sv.in_grace t now) _ _ (λ f. still_after_reply t h _)
    (λ f. subst (λ o. Still t (greet_by t now h (sessions.hello_at t.state.sessions (sender h) (life_in h) (locks.has_rows t.state.locks (sender h)) o))) (sym e)
    (subst (λ (g : sessions.Greeted). Still t (greet_as (sv.with_sessions g.sessions t) now h g.hello)) (sym (greeting_past t.state.sessions h (locks.has_rows t.state.locks (sender h)) s lt)) (still_after_old t now h)))

-- a request of a life that is past is of another epoch, or stale
abbrev Passed : Taken Body → Type 0
Passed k = (k ≡ takes.OtherEpoch) ⊎ (k ≡ takes.Stale)

taken_life : (s : Session) (h : Header) → h.life < s.life.0 → sessions.take_life s (life_in h) h.number ≡ takes.Stale
unfolding sessions.take_life sessions.take_past
taken_life s h lt =
    ap (λ b. cond b takes.NoSession (sessions.take_past s (life_in h) h.number)) (le-ltb s.life.0 h.life (omega arith))
    ∙ ap (λ b. cond b takes.Stale (sessions.take_state s.state h.number)) (lt-ltb h.life s.life.0 lt)

taken_past : (t : ServerTurn) (h : Header) (s : Session) → sessions.session_of t.state.sessions (sender h) ≡ Some s → h.life < s.life.0 → Passed (sv.take t h)
unfolding sessions.take sessions.take_at
taken_past t h s e lt =
    cond_either Passed (h.epoch == t.state.sessions.epoch.0) (sessions.take_at (sessions.session_of t.state.sessions (sender h)) (life_in h) h.number) takes.OtherEpoch
    (λ f. inr (ap (λ o. sessions.take_at o (life_in h) h.number) e ∙ taken_life s h lt)) (λ f. inl refl)

still_after_taken_request : (t : ServerTurn) (now : Stamp) (h : Header) (b : Body) (k : Taken Body) → Passed k → Still t (request_by t now h b k)
unfolding request_by refuse_epoch
still_after_taken_request t now h b takes.OtherEpoch p = still_after_reply t h _
still_after_taken_request t now h b takes.Stale p = refl
still_after_taken_request t now h b takes.NoSession (inl e) = cc
still_after_taken_request t now h b takes.NoSession (inr e) = cc
still_after_taken_request t now h b (takes.Again r) (inl e) = cc
still_after_taken_request t now h b (takes.Again r) (inr e) = cc
still_after_taken_request t now h b takes.Fresh (inl e) = cc
still_after_taken_request t now h b takes.Fresh (inr e) = cc
still_after_taken_request t now h b takes.OutOfOrder (inl e) = cc
still_after_taken_request t now h b takes.OutOfOrder (inr e) = cc

still_after_again : (t : ServerTurn) (h : Header) (k : Taken Body) → Still t (reassert_again t h k)
unfolding reassert_again
still_after_again t h (takes.Again r) = still_after_reply t h r
still_after_again t h takes.OtherEpoch = refl
still_after_again t h takes.Stale = refl
still_after_again t h takes.NoSession = refl
still_after_again t h takes.Fresh = refl
still_after_again t h takes.OutOfOrder = refl

-- a reassertion of a life that is past meets a session that knows it
still_after_reassert : (t : ServerTurn) (now : Stamp) (h : Header) (rs : List (ℕ × GrantNo × Mode)) (s : Session) → sessions.session_of t.state.sessions (sender h) ≡ Some s → h.life < s.life.0 → Still t (reassert t now h rs)
unfolding reassert
still_after_reassert t now h rs s e lt =
    cond_either (Still t) (sessions.knows t.state.sessions (sender h) (life_in h)) (reassert_again t h (sv.take t h)) (reassert_new t now h rs) (λ f. still_after_again t h (sv.take t h))
    (λ f. absurd (not_both _ known f))
  where
    known : sessions.knows t.state.sessions (sender h) (life_in h) ≡ true
    known = ap (λ o. sessions.knows_at o (life_in h)) e ∙ ap (λ b. b || (sessions.is_live s && (h.life == s.life.0))) (lt-ltb h.life s.life.0 lt)

still_after_request : (t : ServerTurn) (now : Stamp) (h : Header) (b : Body) (s : Session) → sessions.session_of t.state.sessions (sender h) ≡ Some s → h.life < s.life.0 → Still t (request t now h b)
unfolding request
still_after_request t now h (bd.Reassert rs) s e lt = still_after_reassert t now h rs s e lt
still_after_request t now h b s e lt = still_after_taken_request t now h b (sv.take t h) (taken_past t h s e lt)

-- what is old of a message with this body
data OfOld (t : ServerTurn) (h : Header) (b : Body) : Type 0 where
  EpochIsOther : (h.epoch == t.state.stable.epoch.0) ≡ false → OfOld t h b
  LifeIsPast : (s : Session) → sessions.session_of t.state.sessions (sender h) ≡ Some s → h.life < s.life.0 → OfOld t h b

still_after_message_of_epoch : (t : ServerTurn) (now : Stamp) (h : Header) (b : Body) → OfOld t h b → Still t (of_epoch t now h b)
unfolding of_epoch refuse_epoch
still_after_message_of_epoch t now h b (EpochIsOther e) = subst (λ c. Still t (cond c (request t now h b) (refuse_epoch t h))) (sym e) (still_after_reply t h _)
still_after_message_of_epoch t now h b (LifeIsPast s e lt) = cond_either (Still t) (h.epoch == t.state.stable.epoch.0) (request t now h b) (refuse_epoch t h) (λ f. still_after_request t now h b s e lt) (λ f. still_after_reply t h _)

not_served : (t : ServerTurn) (h : Header) (b : Body) → OfOld t h b → sv.is_served t h ≡ false
not_served t h b (EpochIsOther e) = and_left _ _ e
not_served t h b (LifeIsPast s e lt) = and_right (h.epoch == t.state.stable.epoch.0) _ (ap (sv.serves_at (life_in h)) e ∙ and_right (sessions.is_live s) _ (ne_eqb s.life.0 h.life (λ z. absurd (omega arith))))

still_after_seen : (t : ServerTurn) (h : Header) (ino : ℕ) (g : GrantNo) → sv.is_served t h ≡ false → Still t (demand_seen t h ino g)
unfolding demand_seen
still_after_seen t h ino g e = subst (λ c. Still t (cond c (observe_demand t h ino g) t)) (sym e) refl

old_kind : (t : ServerTurn) (m : Message) (b : Body) → m.body ≡ b → Old t m → (b ≡ bd.Hello → ⊥) → OfOld t m.header b
old_kind t m b e (inl o) n = EpochIsOther (let z = and_true _ _ o in not_true (m.header.epoch == t.state.stable.epoch.0) z.1)
old_kind t m b e (inr o) n = let z = past_life (sessions.session_of t.state.sessions (sender m.header)) m.header o in LifeIsPast z.0 z.1 z.2

old_greeting : (t : ServerTurn) (m : Message) → m.body ≡ bd.Hello → Old t m → (s : Session) × (sessions.session_of t.state.sessions (sender m.header) ≡ Some s) × (m.header.life < s.life.0)
old_greeting t m e (inl o) = let z = and_true (not (is_greeting m.body)) (not (m.header.epoch == t.state.stable.epoch.0)) o in let y = ap (λ b. not (is_greeting b)) e in cc
old_greeting t m e (inr o) = past_life (sessions.session_of t.state.sessions (sender m.header)) m.header o

still_after_body : (t : ServerTurn) (now : Stamp) (m : Message) (b : Body) → m.body ≡ b → Old t m → Still t (by_body t now m.header b)
unfolding by_body
still_after_body t now m bd.Hello e o = let z = old_greeting t m e o in still_after_hello t now m.header z.0 z.1 z.2
still_after_body t now m (bd.DemandSeen i g) e o = still_after_seen t m.header i g (not_served t m.header _ (old_kind t m _ e o (λ z. cc)))
still_after_body t now m b e o = still_after_message_of_epoch t now m.header b (old_kind t m b e o (λ z. cc))

still_after_refuse : (t : ServerTurn) (h : Header) (start : Stamp) (b : Body) → Still t (refuse_suspect t h start b)
unfolding refuse_suspect
still_after_refuse t h start (bd.DemandSeen i g) = refl
still_after_refuse t h start b = still_after_reply t h _

still_after_suspicion : (t : ServerTurn) (now : Stamp) (m : Message) (x : Option Stamp) → Old t m → Still t (by_suspicion t now m.header m.body x)
unfolding by_suspicion
still_after_suspicion t now m None o = still_after_body t now m m.body refl o
still_after_suspicion t now m (Some start) o = still_after_refuse t m.header start m.body

-- old messages change nothing at a server
pub old_messages : OldMessagesChangeNoServer
unfolding take_input receive receive_from
old_messages t now m o = cond_either (Still t) (sv.is_for t.state m.header) _ t (λ e. still_after_suspicion t now m _ (or_cases _ _ o)) (λ e. refl)
