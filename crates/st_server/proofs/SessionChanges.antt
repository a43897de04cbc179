-- What the changes of sessions keep: which lives live, and that each kept reply can be told.
use Rattle.st_lemmas.proofs.Words
use Words.{◌≡◌, ℕ, ◌+◌, ◌<◌, ◌≤◌, Bool, true, false, ◌&&◌, ◌==◌, not, List, [], ◌∷◌, length, Option, Some, None, refl, sym, ap, subst, ◌∙◌, arith, filter}
use Words.{option_map, nat_lt, list_all, and_parts, and_from, eqb-true, eq-eqb, ltb-false, leb-true, leb-false, le-leb, ClientId, Epoch, Life, Body, Hello}
use Words.{Session, SessionState, Taken}
use Words.hellos
use Words.states.{Live, Ended}
use Words.takes
use Words.Locks as locks
use Words.Locks.{Locks}
use Words.Sessions as sessions
use Words.Sessions.{Sessions, Greeted, session_of, is_session_of, is_live, is_past}
use Words.Tables.{cond_either, find_map, find_other, not_true}
use Words.Tests.{filtered_no_longer}
use Rattle.st_lemmas.proofs.Puts.{find_put_by, find_put_other}
use Rattle.st_server.specs.RuleConditions.{is_lived}
use Rattle.st_server.specs.Invariants.{AreHeld, is_good_row, is_good_wait, is_reply, keeps_reply, has_reply, is_good_session}
use Rattle.st_server.proofs.Every.{every_found, every_map, every_put, every_too}
use Rattle.st_server.proofs.Served.{late}

false_is : false ≡ true → ⊥
false_is e = cc

-- Each life that lived before lives after.
abbrev pub Lives_on : Sessions → Sessions → Type 0
Lives_on t u = (life : Life) (d : ClientId) → is_lived life (session_of t d) ≡ true → is_lived life (session_of u d) ≡ true

-- so rows and waits stay as they must be
pub held_on : (n : ℕ) (ep : Epoch) (t u : Sessions) (l : Locks) → Lives_on t u → AreHeld n ep t l → AreHeld n ep u l
held_on n ep t u l on h =
    record {
      rows = every_too (is_good_row t) (is_good_row u) (λ r e. let p = and_parts (is_lived r.life (session_of t r.client)) _ e in and_from (is_lived r.life (session_of u r.client)) _ (on r.life r.client p.0) p.1) l.rows h.rows;
      waits = every_too (is_good_wait t) (is_good_wait u) (λ w e. let p = and_parts (is_lived w.life (session_of t w.client)) _ e in and_from (is_lived w.life (session_of u w.client)) _ (on w.life w.client p.0) p.1) l.waiters h.waits;
      few = h.few;
      epoch = h.epoch;
      limit = h.limit;
    }

-- Keeping a reply.
kept_live : (number : ℕ) (b : Body) (s : SessionState) → sessions.is_live_state (sessions.kept_state number b s) ≡ sessions.is_live_state s
kept_live number b (Live last reply) = refl
kept_live number b Ended = refl

keep_lived : (c : ClientId) (number : ℕ) (b : Body) (life : Life) (o : Option Session) → is_lived life o ≡ true → is_lived life (option_map (sessions.keep_of c number b) o) ≡ true
unfolding sessions.keep_reply
keep_lived c number b life None e = e
keep_lived c number b life (Some s) e =
    cond_either (λ (x : Session). is_lived life (Some x) ≡ true) (is_session_of c s) (sessions.keep_reply number b s) s
    (λ q. ap (λ (v : Bool). v && is_past life s) (kept_live number b s.state) ∙ e) (λ q. e)

pub store_lives : (t : Sessions) (c : ClientId) (number : ℕ) (b : Body) → Lives_on t (sessions.store t c number b)
unfolding sessions.store sessions.keep_reply
store_lives t c number b life d e =
    ap (is_lived life)
    (find_map (is_session_of d) (sessions.keep_of c number b)
    (λ x. cond_either (λ (y : Session). is_session_of d y ≡ is_session_of d x) (is_session_of c x) (sessions.keep_reply number b x) x (λ q. refl) (λ q. refl)) t.rows)
    ∙ keep_lived c number b life (session_of t d) e

kept_good : (number : ℕ) (b : Body) (s : SessionState) → is_reply b ≡ true → has_reply s ≡ true → has_reply (sessions.kept_state number b s) ≡ true
kept_good number b (Live last reply) e f = e
kept_good number b Ended e f = f

pub store_good : (t : Sessions) (c : ClientId) (number : ℕ) (b : Body) → is_reply b ≡ true → list_all is_good_session t.rows ≡ true → list_all is_good_session (sessions.store t c number b).rows ≡ true
unfolding sessions.store sessions.keep_reply
store_good t c number b e h =
    every_map is_good_session is_good_session (sessions.keep_of c number b)
    (λ s f. cond_either (λ (x : Session). is_good_session x ≡ true) (is_session_of c s) (sessions.keep_reply number b s) s (λ q. kept_good number b s.state e f) (λ q. f)) t.rows h

pub put_lives : (t : Sessions) (s : Session) → ((life : Life) → is_lived life (session_of t s.client) ≡ true → is_lived life (Some s) ≡ true) → Lives_on t (sessions.with_session s t)
put_lives t s more life d e = go (s.client.0 == d.0) refl
  where
    go : (b : Bool) → (s.client.0 == d.0) ≡ b → is_lived life (session_of (sessions.with_session s t) d) ≡ true
    go true q =
        let same : s.client ≡ d = λ i. record { 0 = eqb-true s.client.0 d.0 q i } in
        ap (is_lived life) (find_put_by (is_session_of d) (is_session_of s.client) s t.rows q
        (λ y r. subst (λ (c : ClientId). is_session_of c y ≡ true) (sym same) r))
        ∙ more life (subst (λ (c : ClientId). is_lived life (session_of t c) ≡ true) (sym same) e)
    go false q =
        ap (is_lived life) (find_put_other (is_session_of d) (is_session_of s.client) s t.rows q (λ y r. other y r q))
        ∙ e
      where
        other : (y : Session) → is_session_of d y ≡ true → (s.client.0 == d.0) ≡ false → is_session_of s.client y ≡ false
        other y r q =
            let same : y.client.0 ≡ d.0 = eqb-true y.client.0 d.0 r in
            turned (y.client.0 == s.client.0) refl
          where
            turned : (b : Bool) → (y.client.0 == s.client.0) ≡ b → b ≡ false
            turned false f = refl
            turned true f =
                let p : s.client.0 ≡ d.0 = sym (eqb-true y.client.0 s.client.0 f) ∙ eqb-true y.client.0 d.0 r in
                sym (eq-eqb s.client.0 d.0 p) ∙ q

-- Beginning a session: no life of the client lived, or the new one is above them all.
pub begin_lives : (t : Sessions) (c : ClientId) (life : Life) → ((row : Life) → is_lived row (session_of t c) ≡ true → row.0 ≤ life.0) →
    Lives_on t (sessions.with_new_session c life t)
begin_lives t c life more = put_lives t (sessions.new_session c life) (λ row e. le-leb row.0 life.0 (more row e))

pub reasserted_lives : (t : Sessions) (c : ClientId) (life : Life) → sessions.knows t c life ≡ false → Lives_on t (sessions.reasserted t c life)
unfolding sessions.reasserted
reasserted_lives t c life k =
    put_lives t (sessions.reasserted_session c life)
    (λ row e. let b : row.0 < life.0 = leb-false life.0 row.0 (late (session_of t c) life row e k) in le-leb row.0 life.0 (omega (arith, b)))

pub reasserted_here : (t : Sessions) (c : ClientId) (life : Life) → is_lived life (session_of (sessions.reasserted t c life) c) ≡ true
unfolding sessions.reasserted
reasserted_here t c life =
    ap (is_lived life) (find_put_by (is_session_of c) (is_session_of c) (sessions.reasserted_session c life) t.rows (eq-eqb c.0 c.0 refl) (λ y r. r))
    ∙ le-leb life.0 life.0 (omega arith)

pub put_good : (t : Sessions) (s : Session) → is_good_session s ≡ true → list_all is_good_session t.rows ≡ true → list_all is_good_session (sessions.with_session s t).rows ≡ true
put_good t s e h = every_put is_good_session (is_session_of s.client) s t.rows e h

-- Greeting.
pub record Greets (t : Sessions) (g : Greeted) : Type 0 where
  pub lives : Lives_on t g.sessions
  pub good : list_all is_good_session g.sessions.rows ≡ true

module _ (t : Sessions) (c : ClientId) (life : Life) (h : list_all is_good_session t.rows ≡ true) where
  stays : (x : Hello) → Greets t (sessions.greeted x t)
  unfolding sessions.greeted
  stays x = record { lives = λ row d e. e; good = h }

  begins : (x : Hello) → ((row : Life) → is_lived row (session_of t c) ≡ true → row.0 ≤ life.0) → Greets t (sessions.begin_session x c life t)
  unfolding sessions.greeted sessions.begin_session
  begins x more = record { lives = begin_lives t c life more; good = put_good t (sessions.new_session c life) refl h }

  -- no life lives without a living session
  ended_lived : (o : Option Session) (s : Session) (row : Life) → o ≡ Some s → is_live s ≡ false → is_lived row o ≡ true → row.0 ≤ life.0
  ended_lived o s row e f g = cc_of (sym (ap (is_lived row) e) ∙ g)
    where
      cc_of : (is_live s && is_past row s) ≡ true → row.0 ≤ life.0
      cc_of k = let p = and_parts (is_live s) (is_past row s) k in elim (false_is (sym f ∙ p.0)) [ ]

  by_lived : (o : Option Session) (s : Session) (row : Life) → o ≡ Some s → s.life.0 ≤ life.0 → is_lived row o ≡ true → row.0 ≤ life.0
  by_lived o s row e b g =
      let p = and_parts (is_live s) (is_past row s) (sym (ap (is_lived row) e) ∙ g) in
      let q : row.0 ≤ s.life.0 = leb-true row.0 s.life.0 p.1 in
      omega (arith, q, b)

  none_lived : (o : Option Session) (row : Life) → o ≡ None → is_lived row o ≡ true → row.0 ≤ life.0
  none_lived o row e g = elim (false_is (sym (ap (is_lived row) e) ∙ g)) [ ]

  at_greets : (rows : Bool) (o : Option Session) → session_of t c ≡ o → Greets t (sessions.hello_at t c life rows o)
  unfolding sessions.hello_at sessions.hello_by sessions.hello_live sessions.hello_again sessions.hello_higher sessions.hello_ended
  at_greets rows None e = begins hellos.Welcome (λ row g. none_lived (session_of t c) row e g)
  at_greets rows (Some s) e =
      cond_either (Greets t) (is_live s) (sessions.hello_live t c life rows s) (sessions.hello_ended t c life s)
      (λ a. cond_either (Greets t) (nat_lt life.0 s.life.0) (sessions.greeted hellos.Old t) (sessions.hello_again t c life rows s) (λ b. stays hellos.Old)
      (λ b. cond_either (Greets t) (life.0 == s.life.0) (sessions.greeted hellos.Welcome t) (sessions.hello_higher t c life rows) (λ d. stays hellos.Welcome)
      (λ d. cond_either (Greets t) rows (sessions.greeted hellos.Wait t) (sessions.begin_session hellos.Replaced c life t) (λ f. stays hellos.Wait)
      (λ f. begins hellos.Replaced (λ row g. by_lived (session_of t c) s row e (ltb-false life.0 s.life.0 b) g)))))
      (λ a. cond_either (Greets t) (is_past life s) (sessions.greeted hellos.Old t) (sessions.begin_session hellos.Welcome c life t) (λ b. stays hellos.Old)
      (λ b. begins hellos.Welcome (λ row g. ended_lived (session_of t c) s row e a g)))

  pub greets : (rows : Bool) → Greets t (sessions.hello t c life rows)
  unfolding sessions.hello
  greets rows = at_greets rows (session_of t c) refl

-- Taking a request: the next one belongs to a life that lives, and a reply that is repeated can be told.
abbrev pub Takes : Option Session → Life → Taken Body → Type 0
Takes o life takes.Fresh = is_lived life o ≡ true
Takes o life (takes.Again b) = is_reply b ≡ true
Takes o life taken = Unit {0}

again_takes : (o : Option Session) (life : Life) (reply : Option Body) → keeps_reply reply ≡ true → Takes o life (sessions.again reply)
unfolding sessions.again
again_takes o life None e = tt
again_takes o life (Some b) e = e

state_takes : (s : Session) (life : Life) (number : ℕ) (state : SessionState) → s.state ≡ state → is_past life s ≡ true → has_reply state ≡ true → Takes (Some s) life (sessions.take_state state number)
unfolding sessions.take_state sessions.take_number sessions.take_from sessions.take_next
state_takes s life number (Live last reply) e p h =
    cond_either (Takes (Some s) life) (nat_lt number last) takes.Stale (sessions.take_from last reply number) (λ q. tt)
    (λ q. cond_either (Takes (Some s) life) (number == last) (sessions.again reply) (sessions.take_next last number) (λ r. again_takes (Some s) life reply h)
    (λ r. cond_either (Takes (Some s) life) (number == last + 1) takes.Fresh takes.OutOfOrder (λ v. and_from (is_live s) (is_past life s) (ap sessions.is_live_state e) p) (λ v. tt)))
state_takes s life number Ended e p h = tt

at_takes : (o : Option Session) (life : Life) (number : ℕ) → ((s : Session) → o ≡ Some s → is_good_session s ≡ true) → Takes o life (sessions.take_at o life number)
unfolding sessions.take_at sessions.take_life sessions.take_past
at_takes None life number good = tt
at_takes (Some s) life number good =
    cond_either (Takes (Some s) life) (nat_lt s.life.0 life.0) takes.NoSession (sessions.take_past s life number) (λ q. tt)
    (λ q. cond_either (Takes (Some s) life) (nat_lt life.0 s.life.0) takes.Stale (sessions.take_state s.state number) (λ r. tt)
    (λ r. state_takes s life number s.state refl (le-leb life.0 s.life.0 (ltb-false s.life.0 life.0 q)) (good s refl)))

pub taken : (t : Sessions) (c : ClientId) (life : Life) (epoch : Epoch) (number : ℕ) → list_all is_good_session t.rows ≡ true →
    Takes (session_of t c) life (sessions.take t c life epoch number)
unfolding sessions.take
taken t c life epoch number h =
    cond_either (Takes (session_of t c) life) (epoch.0 == t.epoch.0) (sessions.take_at (session_of t c) life number) takes.OtherEpoch
    (λ q. at_takes (session_of t c) life number (λ s e. every_found is_good_session (is_session_of c) t.rows s h e)) (λ q. tt)

-- Ending a session, with the rows and waits of its client.
end_other : (t : Sessions) (c d : ClientId) → (d.0 == c.0) ≡ false → session_of (sessions.end t c) d ≡ session_of t d
unfolding sessions.end sessions.ended
end_other t c d e =
    find_other (is_session_of d) (is_session_of c) sessions.ended (λ x. refl) (λ x q. differ x q (x.client.0 == c.0) refl) t.rows
  where
    differ : (x : Session) → is_session_of d x ≡ true → (b : Bool) → (x.client.0 == c.0) ≡ b → b ≡ false
    differ x q false f = refl
    differ x q true f = sym (eq-eqb d.0 c.0 (sym (eqb-true x.client.0 d.0 q) ∙ eqb-true x.client.0 c.0 f)) ∙ e

every_left : {A : Type 0} (p q r : A → Bool) → ((x : A) → p x ≡ true → q x ≡ true → r x ≡ true) → (xs : List A) → list_all p xs ≡ true → list_all r (filter q xs) ≡ true
every_left p q r h [] e = refl
every_left {A} p q r h (x ∷ xs) e =
    let both = and_parts (p x) (list_all p xs) e in
    let rest : list_all r (filter q xs) ≡ true = every_left p q r h xs both.1 in
    cond_either (λ (ys : List A). list_all r ys ≡ true) (q x) (x ∷ filter q xs) (filter q xs) (λ f. and_from (r x) (list_all r (filter q xs)) (h x both.0 f) rest) (λ f. rest)

lived_apart : (t : Sessions) (c d : ClientId) (life : Life) → not (d.0 == c.0) ≡ true → is_lived life (session_of t d) ≡ true → is_lived life (session_of (sessions.end t c) d) ≡ true
lived_apart t c d life e l = ap (is_lived life) (end_other t c d (not_true (d.0 == c.0) e)) ∙ l

pub forgotten : (n : ℕ) (ep : Epoch) (t : Sessions) (c : ClientId) (l : Locks) → AreHeld n ep t l → AreHeld n ep (sessions.end t c) (locks.forget l c)
unfolding locks.forget
forgotten n ep t c l h =
    record {
      rows =
          every_left (is_good_row t) (λ r. not (locks.is_row_by c r)) (is_good_row (sessions.end t c))
          (λ r e q. let p = and_parts (is_lived r.life (session_of t r.client)) _ e in and_from (is_lived r.life (session_of (sessions.end t c) r.client)) _ (lived_apart t c r.client r.life q p.0) p.1) l.rows h.rows;
      waits =
          every_left (is_good_wait t) (λ w. not (locks.is_wait_by c w)) (is_good_wait (sessions.end t c))
          (λ w e q. let p = and_parts (is_lived w.life (session_of t w.client)) _ e in and_from (is_lived w.life (session_of (sessions.end t c) w.client)) _ (lived_apart t c w.client w.life q p.0) p.1) l.waiters h.waits;
      few = let less : length (filter (λ w. not (locks.is_wait_by c w)) l.waiters) ≤ length l.waiters =
          filtered_no_longer (λ w. not (locks.is_wait_by c w)) l.waiters in omega (arith, less, h.few);
      epoch = h.epoch;
      limit = h.limit;
    }

pub end_good : (t : Sessions) (c : ClientId) → list_all is_good_session t.rows ≡ true → list_all is_good_session (sessions.end t c).rows ≡ true
unfolding sessions.end sessions.ended
end_good t c h =
    every_map is_good_session is_good_session (sessions.end_of c)
    (λ s e. cond_either (λ (x : Session). is_good_session x ≡ true) (is_session_of c s) (sessions.ended s) s (λ q. refl) (λ q. e)) t.rows h
