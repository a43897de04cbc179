-- Each rule of a server keeps it sound, and sends what fits.
use Rattle.st_lemmas.proofs.Words
use Words.{◌≡◌, ℕ, ◌-◌, ◌^◌, ◌<◌, ◌≤◌, Bool, true, ◌==◌, not, List, [], ◌∷◌, Option, Some, None, refl, arith, nat_lt, nat_le, list_all, and_parts, and_from}
use Words.{leb-true, ClientId, GrantNo, Life, Stamp, Mode, Header, Suspect, Hello, Session}
use Words.bodies
use Words.why
use Words.notes
use Words.Kinds.{is_word64}
use Words.hellos
use Words.Authority as authority
use Words.Authority.{Authority}
use Words.Extents.{Extents}
use Words.Grace as grace
use Words.Locks as locks
use Words.Locks.{Locks}
use Words.Names.{Names}
use Words.Sessions as sessions
use Words.Sessions.{Sessions}
use Words.Server as server
use Words.Server.{ServerState, ServerTurn, sender, life_in}
use Words.Tables.{cond_either}
use Rattle.st_server.specs.Invariants.{AreHeld, AreNamed, AreMapped, IsSoundTo, has_start, is_good_session}
use Rattle.st_server.proofs.Every.{every_filter}
use Rattle.st_server.proofs.Holding.{is_good_sent, held_more, drop_waits_held, seen_held}
use Rattle.st_server.proofs.LockPasses.{next_granted, due_demanded}
use Rattle.st_server.proofs.SessionChanges.{Lives_on, held_on, forgotten, end_good, greets}
use Rattle.st_server.proofs.Sending.{IsTurn, IsAsked, note_turn, nack_turn, welcome_turn, granted_turn, demanded_turn}

-- Changes of one part.
pub locks_turn : (n m : ℕ) (t : ServerTurn) (l : Locks) → AreHeld m t.state.stable.epoch t.state.sessions l → IsTurn n t → IsTurn m (server.with_locks l t)
locks_turn n m t l h p =
    record { sound = record { id = p.sound.id; epoch = p.sound.epoch; held = h; kept = p.sound.kept; timed = p.sound.timed; graced = p.sound.graced; named = p.sound.named; mapped = p.sound.mapped }; sent = p.sent }

pub served_turn : (n m : ℕ) (t : ServerTurn) (v : Sessions) (l : Locks) → AreHeld m t.state.stable.epoch v l → list_all is_good_session v.rows ≡ true → IsTurn n t →
    IsTurn m (server.with_sessions v (server.with_locks l t))
served_turn n m t v l h k p =
    record { sound = record { id = p.sound.id; epoch = p.sound.epoch; held = h; kept = k; timed = p.sound.timed; graced = p.sound.graced; named = p.sound.named; mapped = p.sound.mapped }; sent = p.sent }

pub sessions_turn : (n : ℕ) (t : ServerTurn) (v : Sessions) → Lives_on t.state.sessions v → list_all is_good_session v.rows ≡ true → IsTurn n t → IsTurn n (server.with_sessions v t)
sessions_turn n t v on k p =
    record {
      sound = record {
        id = p.sound.id;
        epoch = p.sound.epoch;
        held = held_on n t.state.stable.epoch t.state.sessions v t.state.locks on p.sound.held;
        kept = k;
        timed = p.sound.timed;
        graced = p.sound.graced;
        named = p.sound.named;
        mapped = p.sound.mapped;
      };
      sent = p.sent;
    }

pub timers_turn : (n : ℕ) (t : ServerTurn) (a : Authority) → list_all has_start a.suspects ≡ true → IsTurn n t → IsTurn n (server.with_authority a t)
timers_turn n t a e p =
    record { sound = record { id = p.sound.id; epoch = p.sound.epoch; held = p.sound.held; kept = p.sound.kept; timed = e; graced = p.sound.graced; named = p.sound.named; mapped = p.sound.mapped }; sent = p.sent }

pub names_turn : (n : ℕ) (t : ServerTurn) (v : Names) → AreNamed v → IsTurn n t → IsTurn n (server.with_names v t)
names_turn n t v e p =
    record { sound = record { id = p.sound.id; epoch = p.sound.epoch; held = p.sound.held; kept = p.sound.kept; timed = p.sound.timed; graced = p.sound.graced; named = e; mapped = p.sound.mapped }; sent = p.sent }

pub extents_turn : (n : ℕ) (t : ServerTurn) (v : Extents) → AreMapped v → IsTurn n t → IsTurn n (server.with_extents v t)
extents_turn n t v e p =
    record { sound = record { id = p.sound.id; epoch = p.sound.epoch; held = p.sound.held; kept = p.sound.kept; timed = p.sound.timed; graced = p.sound.graced; named = p.sound.named; mapped = e }; sent = p.sent }

-- more may be taken
pub more_turn : (n m : ℕ) (t : ServerTurn) → n ≤ m → IsTurn n t → IsTurn m t
more_turn n m t b p =
    record {
      sound = record {
        id = p.sound.id;
        epoch = p.sound.epoch;
        held = held_more n m t.state.stable.epoch t.state.sessions t.state.locks b p.sound.held;
        kept = p.sound.kept;
        timed = p.sound.timed;
        graced = p.sound.graced;
        named = p.sound.named;
        mapped = p.sound.mapped;
      };
      sent = p.sent;
    }

-- Thefts.
steal_turn : (n : ℕ) (t : ServerTurn) (c : ClientId) (o : Option Session) → IsTurn n t → IsTurn n (server.steal_at t c o)
unfolding server.steal_at server.steal_from
steal_turn n t c None p = p
steal_turn n t c (Some s) p =
    served_turn n n (server.note t (notes.Stolen c s.life)) (sessions.end t.state.sessions c) (locks.forget t.state.locks c)
    (forgotten n t.state.stable.epoch t.state.sessions c t.state.locks p.sound.held) (end_good t.state.sessions c p.sound.kept) (note_turn n t (notes.Stolen c s.life) p)

steals_turn : (n : ℕ) (cs : List ClientId) (t : ServerTurn) → IsTurn n t → IsTurn n (server.steal_each cs t)
unfolding server.steal_each server.steal
steals_turn n [] t p = p
steals_turn n (c ∷ cs) t p = steals_turn n cs (server.steal t c) (steal_turn n t c (sessions.session_of t.state.sessions c) p)

pub thefts_turn : (n : ℕ) (t : ServerTurn) (now : Stamp) → IsTurn n t → IsTurn n (server.thefts t now)
unfolding server.thefts authority.still_running
thefts_turn n t now p =
    steals_turn n (authority.over t.state.authority now) (server.with_authority (authority.still_running t.state.authority now) t)
    (timers_turn n t (authority.still_running t.state.authority now) (every_filter has_start (λ s. not (authority.is_over t.state.authority.wait now s)) t.state.authority.suspects p.sound.timed) p)

-- Suspicion.
placed_timed : (s : Suspect) (xs : List Suspect) → has_start s ≡ true → list_all has_start xs ≡ true → list_all has_start (authority.with_suspect s xs) ≡ true
unfolding authority.with_suspect authority.suspect_placed
placed_timed s [] e h = and_from (has_start s) true e refl
placed_timed s (x ∷ xs) e h =
    let p = and_parts (has_start x) (list_all has_start xs) h in
    cond_either (λ (ys : List Suspect). list_all has_start ys ≡ true) (nat_lt s.client.0 x.client.0) (s ∷ (x ∷ xs)) (x ∷ authority.with_suspect s xs)
    (λ q. and_from (has_start s) _ e h) (λ q. and_from (has_start x) _ p.0 (placed_timed s xs e p.1))

suspect_timed : (a : Authority) (c : ClientId) (now : Stamp) → is_word64 now.0 ≡ true → list_all has_start a.suspects ≡ true → list_all has_start (authority.suspect a c now).suspects ≡ true
unfolding authority.suspect authority.start_timer
suspect_timed a c now e h =
    cond_either (λ (x : Authority). list_all has_start x.suspects ≡ true) (authority.may_ack a c) (authority.start_timer a c now) a
    (λ q. placed_timed (authority.new_suspect c now) a.suspects e h) (λ q. h)

pub suspect_turn : (n : ℕ) (t : ServerTurn) (now : Stamp) (c : ClientId) → is_word64 now.0 ≡ true → IsTurn n t → IsTurn n (server.suspect_client t now c)
unfolding server.suspect_client
suspect_turn n t now c e p =
    locks_turn n n (server.with_authority (authority.suspect t.state.authority c now) (server.note t (notes.Suspected c now))) (locks.drop_waits t.state.locks c)
    (drop_waits_held t.state.stable.epoch t.state.sessions n t.state.locks c p.sound.held)
    (timers_turn n (server.note t (notes.Suspected c now)) (authority.suspect t.state.authority c now) (suspect_timed t.state.authority c now e p.sound.timed) (note_turn n t (notes.Suspected c now) p))

-- The passes.
suspect_unless_turn : (n : ℕ) (t : ServerTurn) (now : Stamp) (c : ClientId) → is_word64 now.0 ≡ true → IsTurn n t → IsTurn n (server.suspect_unless t now c)
unfolding server.suspect_unless
suspect_unless_turn n t now c e p =
    cond_either (IsTurn n) (authority.may_ack t.state.authority c) (server.suspect_client t now c) t (λ q. suspect_turn n t now c e p) (λ q. p)

suspects_turn : (n : ℕ) (now : Stamp) (cs : List ClientId) (t : ServerTurn) → is_word64 now.0 ≡ true → IsTurn n t → IsTurn n (server.suspect_each now cs t)
unfolding server.suspect_each
suspects_turn n now [] t e p = p
suspects_turn n now (c ∷ cs) t e p = suspects_turn n now cs (server.suspect_unless t now c) e (suspect_unless_turn n t now c e p)

pub suspecting_turn : (n : ℕ) (t : ServerTurn) (now : Stamp) → is_word64 now.0 ≡ true → IsTurn n t → IsTurn n (server.suspecting t now)
unfolding server.suspecting
suspecting_turn n t now e p = suspects_turn n now (locks.unanswered t.state.locks now t.state.config) t e p

tell_granted_turn : (n : ℕ) (xs : List (ClientId × Life × ℕ × GrantNo × Mode)) (t : ServerTurn) → list_all (is_good_sent 1 2) xs ≡ true → IsTurn n t → IsTurn n (server.tell_granted xs t)
unfolding server.tell_granted
tell_granted_turn n [] t e p = p
tell_granted_turn n (x ∷ xs) t e p =
    let q = and_parts (is_good_sent 1 2 x) (list_all (is_good_sent 1 2) xs) e in
    tell_granted_turn n xs (server.tell t x.0 x.1 (bodies.Granted x.2 x.3 x.4)) q.1 (granted_turn n t x q.0 p)

tell_demanded_turn : (n : ℕ) (xs : List (ClientId × Life × ℕ × GrantNo × Mode)) (t : ServerTurn) → list_all (is_good_sent 0 1) xs ≡ true → IsTurn n t → IsTurn n (server.tell_demanded xs t)
unfolding server.tell_demanded
tell_demanded_turn n [] t e p = p
tell_demanded_turn n (x ∷ xs) t e p =
    let q = and_parts (is_good_sent 0 1 x) (list_all (is_good_sent 0 1) xs) e in
    tell_demanded_turn n xs (server.tell t x.0 x.1 (bodies.Demand x.2 x.3 x.4)) q.1 (demanded_turn n t x q.0 p)

-- the epoch is below 2^32
pub epoch_below : (n : ℕ) (s : ServerState) → IsSoundTo n s → s.stable.epoch.0 < 2 ^ 32
epoch_below n s k =
    let p = and_parts (nat_le 1 s.stable.epoch.0) (nat_le s.stable.epoch.0 (2 ^ 32 - 1)) k.epoch in
    let high : s.stable.epoch.0 ≤ 4294967295 = leb-true s.stable.epoch.0 4294967295 p.1 in
    omega (arith, high)

grant_waiting_turn : (n : ℕ) (t : ServerTurn) → n < 2 ^ 32 → IsTurn n t → IsTurn n (server.grant_waiting t)
unfolding server.grant_waiting server.grant_by
grant_waiting_turn n t b p =
    let g = next_granted n t.state.stable.epoch t.state.sessions (epoch_below n t.state p.sound) b t.state.locks p.sound.held in
    tell_granted_turn n (locks.next_grants t.state.locks).granted (server.with_locks (locks.next_grants t.state.locks).locks t) g.told
    (locks_turn n n t (locks.next_grants t.state.locks).locks g.held p)

pub granting_turn : (n : ℕ) (t : ServerTurn) (now : Stamp) → n < 2 ^ 32 → IsTurn n t → IsTurn n (server.granting t now)
unfolding server.granting
granting_turn n t now b p = cond_either (IsTurn n) (server.in_grace t now) t (server.grant_waiting t) (λ q. p) (λ q. grant_waiting_turn n t b p)

pub demanding_turn : (n : ℕ) (t : ServerTurn) (now : Stamp) (tick : Bool) → IsTurn n t →
    IsTurn n (server.demand_by t (locks.demands_due t.state.locks now tick (authority.suspects_of t.state.authority) t.state.config))
unfolding server.demand_by
demanding_turn n t now tick p =
    let due : locks.Demanding = locks.demands_due t.state.locks now tick (authority.suspects_of t.state.authority) t.state.config in
    let d = due_demanded n t.state.stable.epoch t.state.sessions t.state.locks now tick (authority.suspects_of t.state.authority) t.state.config p.sound.held in
    tell_demanded_turn n due.due (server.with_locks due.locks t) d.told (locks_turn n n t due.locks d.held p)

-- Greeting.
greet_as_turn : (n : ℕ) (t : ServerTurn) (now : Stamp) (h : Header) (x : Hello) → is_word64 now.0 ≡ true → IsAsked h → (h.number == 0) ≡ true → IsTurn n t → IsTurn n (server.greet_as t now h x)
unfolding server.greet_as
greet_as_turn n t now h hellos.Welcome e a z p = welcome_turn n t h a z p
greet_as_turn n t now h hellos.Replaced e a z p =
    welcome_turn n (server.with_locks (locks.drop_waits t.state.locks (sender h)) t) h a z
    (locks_turn n n t (locks.drop_waits t.state.locks (sender h)) (drop_waits_held t.state.stable.epoch t.state.sessions n t.state.locks (sender h) p.sound.held) p)
greet_as_turn n t now h hellos.Old e a z p = p
greet_as_turn n t now h hellos.Wait e a z p =
    nack_turn n (server.suspect_client t now (sender h)) h why.Suspect now.0 0 a e refl (suspect_turn n t now (sender h) e p)

pub hello_turn : (n : ℕ) (t : ServerTurn) (now : Stamp) (h : Header) → is_word64 now.0 ≡ true → IsAsked h → (h.number == 0) ≡ true → IsTurn n t → IsTurn n (server.hello t now h)
unfolding server.hello server.greet server.greet_by server.refuse_in_grace
hello_turn n t now h e a z p =
    let g : sessions.Greeted = sessions.hello t.state.sessions (sender h) (life_in h) (locks.has_rows t.state.locks (sender h)) in
    let k = greets t.state.sessions (sender h) (life_in h) p.sound.kept (locks.has_rows t.state.locks (sender h)) in
    cond_either (IsTurn n) (server.in_grace t now) (server.refuse_in_grace t h) (server.greet t now h)
    (λ q. nack_turn n t h why.Grace (grace.grace_start t.state.grace).0 0 a p.sound.graced refl p)
    (λ q. greet_as_turn n (server.with_sessions g.sessions t) now h g.hello e a z (sessions_turn n t g.sessions k.lives k.good p))

-- Seen demands.
pub seen_turn : (n : ℕ) (t : ServerTurn) (h : Header) (ino : ℕ) (g : GrantNo) → IsTurn n t → IsTurn n (server.demand_seen t h ino g)
unfolding server.demand_seen server.observe_demand
seen_turn n t h ino g p =
    cond_either (IsTurn n) (server.is_served t h) (server.observe_demand t h ino g) t
    (λ q. locks_turn n n t (locks.demand_seen t.state.locks (sender h) ino g) (seen_held t.state.stable.epoch t.state.sessions n t.state.locks (sender h) ino g p.sound.held) p) (λ q. p)
