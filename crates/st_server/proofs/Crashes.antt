-- What a crash leaves after rules that leave the stable part as it was.
use Rattle.st_lemmas.proofs.Words
use Words.{◌≡◌, ℕ, List, [], ◌∷◌, Option, Some, None, refl, sym, ap, ◌∙◌, inl, inr, option_map, Result, Ok, Err, OnErr, ClientId, GrantNo, Life, Stamp, Mode}
use Words.{Header, Body, ServerInput, Hello, Session}
use Words.bodies
use Words.serving.{Tick, Control}
use Words.Authority as authority
use Words.Locks as locks
use Words.Sessions as sessions
use Words.Sessions.{Sessions, session_of, life_of}
use Words.Server as server
use Words.Server.{ServerTurn, Replied, crash, sender, life_in}
use Words.Tables.{cond_either}
use Rattle.st_server.specs.Steps.{Fails, Keeps, stolen}

-- a fact that always holds
pub on_err : {T E P : Type 0} (r : Result T E) → P → OnErr r P
on_err (Ok v) p = tt
on_err (Err e) p = p

-- Keeping a reply.
keep_crash : (h : Header) (t : ServerTurn) (o : Option Body) → crash (server.keep h t o).state ≡ crash t.state
unfolding server.keep server.keep_and_reply server.reply crash
keep_crash h t None = refl
keep_crash h t (Some b) = refl

serve_crash : (h : Header) (a : Replied) → crash (server.serve h a).state ≡ crash a.turn.state
unfolding server.serve
serve_crash h a = keep_crash h a.turn a.reply

-- a request fails in its rule, or after it
pub serve_fails : (old new : ServerTurn) (h : Header) (a : Replied) → Fails old new a.turn → Fails old new (server.serve h a)
serve_fails old new h a (inl e) = inl e
serve_fails old new h a (inr e) = inr (e ∙ sym (serve_crash h a))

pub serve_fails_after : (old mid new : ServerTurn) (h : Header) (a : Replied) → mid ≡ a.turn → Keeps mid new → Fails old new (server.serve h a)
serve_fails_after old mid new h a e k = inr (k ∙ ap (λ (t : ServerTurn). crash t.state) e ∙ sym (serve_crash h a))

-- Theft by the life of the client's session.
steal_at_life : (t : ServerTurn) (c : ClientId) (life : Life) (o : Option Session) → option_map sessions.life_of_session o ≡ Some life → server.steal_at t c o ≡ stolen t c life
unfolding server.steal_at server.steal_from
steal_at_life t c life None e = cc
steal_at_life t c life (Some s) e = let same : s.life ≡ life = cc in ap (stolen t c) same

pub steal_life : (t : ServerTurn) (c : ClientId) (life : Life) → life_of t.state.sessions c ≡ Some life → server.steal t c ≡ stolen t c life
unfolding server.steal
steal_life t c life e = steal_at_life t c life (session_of t.state.sessions c) e

steal_at_none : (t : ServerTurn) (c : ClientId) (o : Option Session) → option_map sessions.life_of_session o ≡ None → server.steal_at t c o ≡ t
unfolding server.steal_at
steal_at_none t c None e = refl
steal_at_none t c (Some s) e = cc

pub steal_none : (t : ServerTurn) (c : ClientId) → life_of t.state.sessions c ≡ None → server.steal t c ≡ t
unfolding server.steal
steal_none t c e = steal_at_none t c (session_of t.state.sessions c) e

-- A greeting, by what becomes of it among the sessions.
pub greet_told : (t : ServerTurn) (now : Stamp) (h : Header) (x : Hello) (v : Sessions) →
    sessions.greeted x v ≡ sessions.hello t.state.sessions (sender h) (life_in h) (locks.has_rows t.state.locks (sender h)) →
    server.greet_as (server.with_sessions v t) now h x ≡ server.greet t now h
unfolding server.greet server.greet_by sessions.greeted
greet_told t now h x v e = ap (server.greet_by t now h) e

-- The passes.
suspect_crash : (t : ServerTurn) (now : Stamp) (c : ClientId) → crash (server.suspect_unless t now c).state ≡ crash t.state
unfolding server.suspect_unless server.suspect_client crash
suspect_crash t now c = cond_either (λ (u : ServerTurn). crash u.state ≡ crash t.state) (authority.may_ack t.state.authority c) (server.suspect_client t now c) t (λ q. refl) (λ q. refl)

suspects_crash : (now : Stamp) (cs : List ClientId) (t : ServerTurn) → crash (server.suspect_each now cs t).state ≡ crash t.state
unfolding server.suspect_each
suspects_crash now [] t = refl
suspects_crash now (c ∷ cs) t = suspects_crash now cs (server.suspect_unless t now c) ∙ suspect_crash t now c

suspecting_crash : (t : ServerTurn) (now : Stamp) (i : ServerInput) → crash (server.suspecting_on t now i).state ≡ crash t.state
unfolding server.suspecting_on server.suspecting
suspecting_crash t now Tick = suspects_crash now (locks.unanswered t.state.locks now t.state.config) t
suspecting_crash t now (Control m) = refl

granted_crash : (xs : List (ClientId × Life × ℕ × GrantNo × Mode)) (t : ServerTurn) → crash (server.tell_granted xs t).state ≡ crash t.state
unfolding server.tell_granted server.tell
granted_crash [] t = refl
granted_crash (x ∷ xs) t = granted_crash xs (server.tell t x.0 x.1 (bodies.Granted x.2 x.3 x.4))

demanded_crash : (xs : List (ClientId × Life × ℕ × GrantNo × Mode)) (t : ServerTurn) → crash (server.tell_demanded xs t).state ≡ crash t.state
unfolding server.tell_demanded server.tell
demanded_crash [] t = refl
demanded_crash (x ∷ xs) t = demanded_crash xs (server.tell t x.0 x.1 (bodies.Demand x.2 x.3 x.4))

locks_crash : (t : ServerTurn) (l : locks.Locks) → crash (server.with_locks l t).state ≡ crash t.state
unfolding crash
locks_crash t l = refl

granting_crash : (t : ServerTurn) (now : Stamp) → crash (server.granting t now).state ≡ crash t.state
unfolding server.granting server.grant_waiting server.grant_by
granting_crash t now =
    cond_either (λ (u : ServerTurn). crash u.state ≡ crash t.state) (server.in_grace t now) t (server.grant_waiting t) (λ q. refl)
    (λ q. granted_crash (locks.next_grants t.state.locks).granted (server.with_locks (locks.next_grants t.state.locks).locks t) ∙ locks_crash t (locks.next_grants t.state.locks).locks)

demanding_crash : (t : ServerTurn) (now : Stamp) (i : ServerInput) → crash (server.demanding t now i).state ≡ crash t.state
unfolding server.demanding server.demand_by
demanding_crash t now i =
    let due : locks.Demanding = locks.demands_due t.state.locks now (server.is_tick i) (authority.suspects_of t.state.authority) t.state.config in
    demanded_crash due.due (server.with_locks due.locks t) ∙ locks_crash t due.locks

-- all that comes after the rule for the input
pub passes_crash : (t : ServerTurn) (now : Stamp) (i : ServerInput) → crash (server.demanding (server.granting (server.suspecting_on t now i) now) now i).state ≡ crash t.state
passes_crash t now i =
    demanding_crash (server.granting (server.suspecting_on t now i) now) now i
    ∙ granting_crash (server.suspecting_on t now i) now
    ∙ suspecting_crash t now i
