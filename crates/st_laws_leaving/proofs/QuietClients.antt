-- A client that has nothing at a server still has nothing after a step in which it does no harm; and a session begins with nothing.
use Rattle.st_lemmas.proofs.Words
use Words.{◌≡◌, ◌≢◌, ◌<◌, ◌≤◌, ℕ, ◌⊎◌, Bool, true, false, not, List, [], ◌∷◌, ◌==◌, refl, sym, ap, ◌∙◌, subst, inl, inr, arith, filter, find, map, Option, Some, None, option_map}
use Words.{if◌then◌else◌, eq-eqb, eqb-true, is_some, lt-ltb, ne_eqb, Body, ClientId, Header, Life, LockRow, Message, ServerInput, Session, Stamp, Suspect, Waiter}
use Words.bodies
use Words.Authority as authority
use Words.Authority.{Authority}
use Words.Lists.{Has}
use Words.Locks as locks
use Words.Locks.{is_row_by, is_wait_by}
use Words.Lookups.{or_left, some_is}
use Words.Members.{some_member_passes}
use Words.Server as sv
use Words.Server.{ServerState, ServerTurn, keep_and_reply, life_in, reply, sender, steal_from, suspect_client, tell}
use Words.Serving.{has_suspect}
use Words.Sessions as sessions
use Words.Sessions.{Sessions, is_live, session_of}
use Words.Tables.{found_at, has_append, has_filter, has_map, none_has, same_or_not}
use Words.Truth.{clash, none_not_some, not_both}
use Rattle.st_third.specs.Limits.{is_client_node}
use Rattle.st_trace.specs.Server.Edits as edits
use Rattle.st_trace.specs.Server.Edits.{EditOf, Phase}
use Rattle.st_trace.specs.Server.Steps.{step_of}
use Rattle.st_trace.proofs.Server.Walk.{walk_of}
use Rattle.st_laws_leaving.specs.Serving.{ComesHarmlessly, HasNothing, IsCalm, IsHarmless, IsPast, LivesOn}
use Rattle.st_laws_leaving.specs.Serving.{ServersStayQuiet}
use Rattle.st_laws_leaving.proofs.ServedClients.{RuleLeaves, demanded_client, end_other, granted_rows, granted_waits, kept_is, mapped_rows}
use Rattle.st_laws_leaving.proofs.ServedClients.{observed_client, put_other, put_own, rule_leaves, same_step}

-- Timers.

-- a test that nothing passes finds nothing
find_none : {A : Type 0} (p : A → Bool) (xs : List A) → ((x : A) → Has x xs → p x ≡ false) → find p xs ≡ None
find_none p [] f = refl
find_none {A} p (x ∷ xs) f = go (p x) (f x (inl refl)) (find_none p xs (λ y h. f y (inr h)))
  where
    go : (b : Bool) → b ≡ false → find p xs ≡ None → (if b then Some x else find p xs) ≡ None
    go true e h = cc e
    go false e h = h

-- nobody's timer runs for a client that may be answered
no_timer : (a : Authority) (c : ClientId) → authority.may_ack a c ≡ true → (s : Suspect) → Has s a.suspects → s.client.0 ≢ c.0
no_timer a c f s h e = not_both (s.client.0 == c.0) (eq-eqb s.client.0 c.0 e)
    (none_has (authority.is_suspect c) a.suspects (nothing (authority.suspect_of a c) f) s h)
  where
    nothing : (o : Option Suspect) → not (is_some o) ≡ true → o ≡ None
    nothing None e = refl
    nothing (Some x) e = cc e

may_be_answered : (a : Authority) (c : ClientId) → ((s : Suspect) → Has s a.suspects → s.client.0 ≢ c.0) → authority.may_ack a c ≡ true
may_be_answered a c f =
    ap (λ (o : Option Suspect). not (is_some o)) (find_none (authority.is_suspect c) a.suspects (λ s h. ne_eqb s.client.0 c.0 (f s h)))

-- a timer of another client
pub suspected_free : (a : Authority) (c d : ClientId) (now : Stamp) → d.0 ≢ c.0 → authority.may_ack a c ≡ true →
    authority.may_ack (authority.suspect a d now) c ≡ true
unfolding authority.suspect authority.start_timer
suspected_free a c d now ne f = may_be_answered (authority.suspect a d now) c (λ s h. at (authority.may_ack a d) s h)
  where
    at : (b : Bool) (s : Suspect) → Has s (if b then authority.start_timer a d now else a).suspects → s.client.0 ≢ c.0
    at false s h = no_timer a c f s h
    at true s h = go (has_suspect (authority.new_suspect d now) a.suspects s h)
      where
        go : (s ≡ authority.new_suspect d now) ⊎ Has s a.suspects → s.client.0 ≢ c.0
        go (inl e) = λ q. ne (ap (λ (x : Suspect). x.client.0) (sym e) ∙ q)
        go (inr i) = no_timer a c f s i

pub running_free : (a : Authority) (c : ClientId) (now : Stamp) → authority.may_ack a c ≡ true → authority.may_ack (authority.still_running a now) c ≡ true
unfolding authority.still_running
running_free a c now f = may_be_answered (authority.still_running a now) c (λ s h. no_timer a c f s (has_filter _ a.suspects s h).0)

pub over_other : (a : Authority) (c d : ClientId) (now : Stamp) → authority.may_ack a c ≡ true → Has d (authority.over a now) → d.0 ≢ c.0
unfolding authority.over
over_other a c d now f h =
    let z = has_map authority.client_of_suspect (filter (authority.is_over a.wait now) a.suspects) d h in
    λ e. no_timer a c f z.0 (has_filter (authority.is_over a.wait now) a.suspects z.0 z.1).0 (ap (λ (x : ClientId). x.0) (sym z.2) ∙ e)

-- who asks for nothing isn't served
asks_nothing : (t : ServerTurn) (now : Stamp) (h : Header) (y : Body) (u : ServerTurn) (b : Body) → IsCalm y → sv.rule t now h y ≡ sv.replied u b → ⊥
unfolding sv.rule
asks_nothing t now h bodies.Hello u b k z = none_not_some b (ap (λ (r : sv.Replied). r.reply) z)
asks_nothing t now h (bodies.DemandSeen ino g) u b k z = none_not_some b (ap (λ (r : sv.Replied). r.reply) z)
asks_nothing t now h y u b k z = absurd k

-- One change.

module _ (clients : ℕ → Bool) (n : ServerState) (now : Stamp) (i : ServerInput) (c : ClientId) where
  -- the client's session, in a step so far
  abbrev pub SessionIn : ServerTurn → Option Session
  SessionIn t = session_of t.state.sessions c

  -- with the rows and waits of no other clients, but for a client that isn't this one
  pub quiet_as : (t u : ServerTurn) →
      ((r : LockRow) → Has r u.state.locks.rows → (r.client.0 ≢ c.0) ⊎ ((q : LockRow) × Has q t.state.locks.rows × (q.client ≡ r.client))) →
      ((w : Waiter) → Has w u.state.locks.waiters → (w.client.0 ≢ c.0) ⊎ ((x : Waiter) × Has x t.state.locks.waiters × (x.client ≡ w.client))) →
      authority.may_ack u.state.authority c ≡ true → ((x : Session) → SessionIn u ≡ Some x → is_live x ≡ true) → HasNothing t.state c → HasNothing u.state c
  quiet_as t u rows waits free live h =
      record {
        rows = λ r j. row r (rows r j);
        waits = λ w j. wait w (waits w j);
        free = free;
        live = live;
      }
    where
      row : (r : LockRow) → (r.client.0 ≢ c.0) ⊎ ((q : LockRow) × Has q t.state.locks.rows × (q.client ≡ r.client)) → r.client.0 ≡ c.0 → ⊥
      row r (inl ne) = ne
      row r (inr z) = λ e. h.rows z.0 z.1 (ap (λ (x : ClientId). x.0) z.2 ∙ e)

      wait : (w : Waiter) → (w.client.0 ≢ c.0) ⊎ ((q : Waiter) × Has q t.state.locks.waiters × (q.client ≡ w.client)) → w.client.0 ≡ c.0 → ⊥
      wait w (inl ne) = ne
      wait w (inr z) = λ e. h.waits z.0 z.1 (ap (λ (x : ClientId). x.0) z.2 ∙ e)

  pub own_rows : (t : ServerTurn) (r : LockRow) → Has r t.state.locks.rows →
      (r.client.0 ≢ c.0) ⊎ ((q : LockRow) × Has q t.state.locks.rows × (q.client ≡ r.client))
  own_rows t r h = inr (r, h, refl)

  pub own_waits : (t : ServerTurn) (w : Waiter) → Has w t.state.locks.waiters →
      (w.client.0 ≢ c.0) ⊎ ((x : Waiter) × Has x t.state.locks.waiters × (x.client ≡ w.client))
  own_waits t w h = inr (w, h, refl)

  -- A step so far, in which the client has nothing: its session is of a life no lower than at the beginning.
  record Quiet (t : ServerTurn) : Type 0 where
    epoch : t.state.stable.epoch ≡ n.stable.epoch
    nothing : HasNothing t.state c
    lives : LivesOn n c t.state

  -- with the same session
  quiet_on : (t u : ServerTurn) → u.state.stable.epoch ≡ t.state.stable.epoch → SessionIn u ≡ SessionIn t →
      ((r : LockRow) → Has r u.state.locks.rows → (r.client.0 ≢ c.0) ⊎ ((q : LockRow) × Has q t.state.locks.rows × (q.client ≡ r.client))) →
      ((w : Waiter) → Has w u.state.locks.waiters → (w.client.0 ≢ c.0) ⊎ ((x : Waiter) × Has x t.state.locks.waiters × (x.client ≡ w.client))) →
      authority.may_ack u.state.authority c ≡ true → Quiet t → Quiet u
  quiet_on t u e s rows waits free q =
      record {
        epoch = e ∙ q.epoch;
        nothing = quiet_as t u rows waits free (λ x f. q.nothing.live x (sym s ∙ f)) q.nothing;
        lives = λ x f. let z = q.lives x f in (z.0, s ∙ z.1, z.2);
      }

  -- a new session of the client
  quiet_put : (t u : ServerTurn) (x : Session) → u.state.stable.epoch ≡ t.state.stable.epoch → SessionIn u ≡ Some x → is_live x ≡ true →
      ((y : Session) → SessionIn t ≡ Some y → y.life.0 ≤ x.life.0) →
      ((r : LockRow) → Has r u.state.locks.rows → (r.client.0 ≢ c.0) ⊎ ((q : LockRow) × Has q t.state.locks.rows × (q.client ≡ r.client))) →
      ((w : Waiter) → Has w u.state.locks.waiters → (w.client.0 ≢ c.0) ⊎ ((x : Waiter) × Has x t.state.locks.waiters × (x.client ≡ w.client))) →
      u.state.authority ≡ t.state.authority → Quiet t → Quiet u
  quiet_put t u x e s l later rows waits a q =
      record {
        epoch = e ∙ q.epoch;
        nothing = quiet_as t u rows waits (ap (λ z. authority.may_ack z c) a ∙ q.nothing.free) (λ y f. ap is_live (some_is (sym f ∙ s)) ∙ l) q.nothing;
        lives = λ y f. let z = q.lives y f in let m = later z.0 z.1 in let k = z.2 in (x, s, omega (arith, k, m));
      }

  -- whoever is heard is another client, or this one
  abbrev Says : Message → Type 0
  Says m = (sender m.header).0 ≡ c.0

  -- a session of another client
  other_session : (t : ServerTurn) (x : Session) → x.client.0 ≢ c.0 → session_of (sessions.with_session x t.state.sessions) c ≡ SessionIn t
  other_session t x ne = put_other t.state.sessions x c (λ e. ne (sym e))

  -- a timer of another client
  suspects_other : (t : ServerTurn) (d : ClientId) → d.0 ≢ c.0 → Quiet t → Quiet (suspect_client t now d)
  unfolding suspect_client locks.drop_waits
  suspects_other t d ne q =
      quiet_on t (suspect_client t now d) refl refl (own_rows t)
      (λ w h. inr (w, (has_filter (λ x. not (is_wait_by d x)) t.state.locks.waiters w h).0, refl))
      (suspected_free t.state.authority c d now ne q.nothing.free) q

  replies : (t : ServerTurn) (h : Header) (b : Body) → Quiet t → Quiet (reply t h b)
  unfolding reply
  replies t h b q = record { epoch = q.epoch; nothing = q.nothing; lives = q.lives }

  tells : (t : ServerTurn) (d : ClientId) (life : Life) (b : Body) → Quiet t → Quiet (tell t d life b)
  unfolding tell
  tells t d life b q = record { epoch = q.epoch; nothing = q.nothing; lives = q.lives }

  has_rows_not : (t : ServerTurn) (d : ClientId) → locks.has_rows t.state.locks d ≡ true → Quiet t → d.0 ≢ c.0
  has_rows_not t d e q =
      let z = some_member_passes (is_row_by d) t.state.locks.rows e in
      λ f. q.nothing.rows z.0 z.1 (eqb-true z.0.client.0 d.0 z.2 ∙ f)

  -- a request that is past isn't served
  past_life : (t : ServerTurn) (h : Header) → h.epoch ≡ t.state.stable.epoch.0 → IsPast n c h → Quiet t →
      (y : Session) × (SessionIn t ≡ Some y) × (h.life < y.life.0)
  past_life t h e (inl l) q = absurd (let k : t.state.stable.epoch.0 ≡ n.stable.epoch.0 = ap (λ (x : Words.Epoch). x.0) q.epoch in omega (arith, l, e, k))
  past_life t h e (inr p) q = let z = q.lives p.1.0 p.1.1 in let a = p.1.2 in let b = z.2 in (z.0, z.1, omega (arith, a, b))

  of_sender : (t : ServerTurn) (h : Header) → (sender h).0 ≡ c.0 → (y : Session) → SessionIn t ≡ Some y → session_of t.state.sessions (sender h) ≡ Some y
  of_sender t h e y q = ap (λ (m : ℕ). session_of t.state.sessions (record { 0 = m })) e ∙ q

  module _ (harmless : ComesHarmlessly n i c) where
    quiet_edit : (a : Phase) (t u : ServerTurn) → EditOf clients n now i a t u → authority.may_ack n.authority c ≡ true → Quiet t → Quiet u
    unfolding keep_and_reply locks.demand_seen locks.drop_waits steal_from locks.forget sessions.reasserted locks.with_rows
    quiet_edit _ _ _ (edits.TakesTimers t e) f q =
        quiet_on t _ refl refl (own_rows t) (own_waits t) (running_free t.state.authority c now q.nothing.free) q
    quiet_edit _ _ _ (edits.Steals t d x h e) f q =
        quiet_on t (steal_from t d x) refl (end_other t.state.sessions d c (λ z. over_other n.authority c d now f h (sym z)))
        (λ r j. inr (r, (has_filter (λ y. not (is_row_by d y)) t.state.locks.rows r j).0, refl))
        (λ w j. inr (w, (has_filter (λ y. not (is_wait_by d y)) t.state.locks.waiters w j).0, refl)) q.nothing.free q
    quiet_edit _ _ _ (edits.Welcomes t m x g e l k) f q = replies t m.header bodies.Welcome q
    quiet_edit _ _ _ (edits.Begins t m g k) f q = replies _ m.header bodies.Welcome (go (same_or_not (sender m.header).0 c.0))
      where
        s : Session
        s = sessions.new_session (sender m.header) (life_in m.header)

        u : ServerTurn
        u = sv.with_sessions (sessions.with_session s t.state.sessions) t

        go : ((sender m.header).0 ≡ c.0) ⊎ ((sender m.header).0 ≢ c.0) → Quiet u
        go (inl e) =
            quiet_put t u s refl (put_own t.state.sessions s c (sym e)) refl
            (λ y h. let z = (k y (of_sender t m.header e y h)).1 in omega (arith, z)) (own_rows t) (own_waits t) refl q
        go (inr ne) = quiet_on t u refl (other_session t s ne) (own_rows t) (own_waits t) q.nothing.free q
    quiet_edit _ _ _ (edits.Replaces t m x g e l b r) f q = replies _ m.header bodies.Welcome (go (same_or_not (sender m.header).0 c.0))
      where
        s : Session
        s = sessions.new_session (sender m.header) (life_in m.header)

        u : ServerTurn
        u = sv.with_locks (locks.drop_waits t.state.locks (sender m.header)) (sv.with_sessions (sessions.with_session s t.state.sessions) t)

        waits : (w : Waiter) → Has w u.state.locks.waiters → (w.client.0 ≢ c.0) ⊎ ((y : Waiter) × Has y t.state.locks.waiters × (y.client ≡ w.client))
        waits w j = inr (w, (has_filter (λ y. not (is_wait_by (sender m.header) y)) t.state.locks.waiters w j).0, refl)

        go : ((sender m.header).0 ≡ c.0) ⊎ ((sender m.header).0 ≢ c.0) → Quiet u
        go (inl d) =
            quiet_put t u s refl (put_own t.state.sessions s c (sym d)) refl
            (λ y h. let z : y.life.0 ≡ x.life.0 = ap (λ (v : Session). v.life.0) (some_is (sym (of_sender t m.header d y h) ∙ e)) in omega (arith, z, b))
            (own_rows t) waits refl q
        go (inr ne) = quiet_on t u refl (other_session t s ne) (own_rows t) waits q.nothing.free q
    quiet_edit _ _ _ (edits.PutsOff t m x g e l b r) f q = replies _ m.header _ (suspects_other t (sender m.header) (has_rows_not t (sender m.header) r q) q)
    quiet_edit _ _ _ (edits.Sees t m ino g h b x) f q =
        quiet_on t _ refl refl
        (λ r j. inr (mapped_rows (locks.observe (sender m.header) ino g) (observed_client (sender m.header) ino g) t.state.locks.rows r j))
        (own_waits t) q.nothing.free q
    quiet_edit _ _ _ (edits.Reasserts t m rows r g k) f q = replies _ m.header bodies.Reasserted (go (same_or_not (sender m.header).0 c.0))
      where
        s : Session
        s = sessions.reasserted_session (sender m.header) (life_in m.header)

        u : ServerTurn
        u = sv.with_sessions (sessions.with_session s t.state.sessions)
            (sv.with_locks (locks.with_rows t.state.locks (sender m.header) (life_in m.header) rows) t)

        past : (sender m.header).0 ≡ c.0 → IsHarmless n c m → ⊥
        past e (inl calm) = subst IsCalm r.asks calm
        past e (inr p) =
            let z = past_life t m.header r.asked.epoch p q in
            clash (ap (λ o. sessions.knows_at o (life_in m.header)) (of_sender t m.header e z.0 z.1) ∙ or_left _ _ (lt-ltb m.header.life z.0.life.0 z.2)) r.new

        go : ((sender m.header).0 ≡ c.0) ⊎ ((sender m.header).0 ≢ c.0) → Quiet u
        go (inl e) = absurd (past e (harmless m r.asked.heard.came.is e))
        go (inr ne) =
            quiet_on t u refl (other_session t s ne) (λ x j. row x (has_append t.state.locks.rows _ x j)) (own_waits t) q.nothing.free q
          where
            row : (x : LockRow) → (Has x t.state.locks.rows) ⊎ (Has x (map (locks.installed (sender m.header) (life_in m.header)) rows)) →
                (x.client.0 ≢ c.0) ⊎ ((y : LockRow) × Has y t.state.locks.rows × (y.client ≡ x.client))
            row x (inl h) = inr (x, h, refl)
            row x (inr h) =
                let z = has_map (locks.installed (sender m.header) (life_in m.header)) rows x h in
                inl (λ e. ne (ap (λ (y : LockRow). y.client.0) (sym z.2) ∙ e))
    quiet_edit _ _ _ (edits.Serves t m u b x e r) f q = replies _ m.header b (go (same_or_not (sender m.header).0 c.0))
      where
        l : RuleLeaves t (sender m.header) u
        l = rule_leaves now t m.header m.body u b r

        v : ServerTurn
        v = sv.with_sessions (sessions.store u.state.sessions (sender m.header) m.header.number b) u

        past : (sender m.header).0 ≡ c.0 → IsHarmless n c m → ⊥
        past d (inl calm) = asks_nothing t now m.header m.body u b calm e
        past d (inr p) =
            let z = past_life t m.header x.asked.epoch p q in
            let y : z.0.life.0 ≡ x.in_life.session.life.0 = ap (λ (s : Session). s.life.0) (some_is (sym (of_sender t m.header d z.0 z.1) ∙ x.in_life.is)) in
            let k = z.2 in let o = x.in_life.of_life in omega (arith, y, k, o)

        go : ((sender m.header).0 ≡ c.0) ⊎ ((sender m.header).0 ≢ c.0) → Quiet v
        go (inl d) = absurd (past d (harmless m x.asked.heard.came.is d))
        go (inr ne) =
            quiet_on t v l.epoch (session ∙ ap (λ (s : Sessions). session_of s c) l.sessions) (λ y j. row y (l.rows y j)) (λ y j. wait y (l.waits y j))
            (ap (λ a. authority.may_ack a c) l.authority ∙ q.nothing.free) q
          where
            keep_same : (o : Option Session) → session_of u.state.sessions c ≡ o →
                option_map (sessions.keep_of (sender m.header) m.header.number b) o ≡ o
            keep_same None z = refl
            keep_same (Some y) z =
                ap Some (Words.Tables.cond_false (sessions.is_session_of (sender m.header) y) (sessions.keep_reply m.header.number b y) y
                (ne_eqb y.client.0 (sender m.header).0
                (λ d. ne (sym d ∙ eqb-true y.client.0 c.0 (found_at (sessions.is_session_of c) u.state.sessions.rows y z).0))))

            session : session_of (sessions.store u.state.sessions (sender m.header) m.header.number b) c ≡ session_of u.state.sessions c
            session = kept_is u.state.sessions (sender m.header) c m.header.number b ∙ keep_same (session_of u.state.sessions c) refl

            row : (y : LockRow) → (y.client ≡ sender m.header) ⊎ ((z : LockRow) × Has z t.state.locks.rows × (z.client ≡ y.client)) →
                (y.client.0 ≢ c.0) ⊎ ((z : LockRow) × Has z t.state.locks.rows × (z.client ≡ y.client))
            row y (inl d) = inl (λ z. ne (ap (λ (k : ClientId). k.0) (sym d) ∙ z))
            row y (inr z) = inr z

            wait : (y : Waiter) → (y.client ≡ sender m.header) ⊎ ((z : Waiter) × Has z t.state.locks.waiters × (z.client ≡ y.client)) →
                (y.client.0 ≢ c.0) ⊎ ((z : Waiter) × Has z t.state.locks.waiters × (z.client ≡ y.client))
            wait y (inl d) = inl (λ z. ne (ap (λ (k : ClientId). k.0) (sym d) ∙ z))
            wait y (inr z) = inr z
    quiet_edit _ _ _ (edits.Repeats t m x b a k e l y) f q = replies t m.header b q
    quiet_edit _ _ _ (edits.Refuses t m b r) f q = replies t m.header b q
    quiet_edit _ _ _ (edits.Suspects t d r e k a h o l) f q = suspects_other t d (λ z. q.nothing.rows r h (ap (λ (x : ClientId). x.0) o ∙ z)) q
    quiet_edit _ _ _ (edits.Grants t w g h e z) f q =
        tells _ w.client w.life _
        (quiet_on t (sv.with_locks (locks.grant t.state.locks w.client w.life w.ino w.mode) t) refl refl
        (λ r j. row r (granted_rows t.state.locks w.client w.life w.ino w.mode r j))
        (λ x j. inr (x, granted_waits t.state.locks w.client w.life w.ino w.mode x j, refl)) q.nothing.free q)
      where
        row : (r : LockRow) → (r.client ≡ w.client) ⊎ Has r t.state.locks.rows →
            (r.client.0 ≢ c.0) ⊎ ((y : LockRow) × Has y t.state.locks.rows × (y.client ≡ r.client))
        row r (inl d) = inl (λ k. q.nothing.waits w h (ap (λ (x : ClientId). x.0) (sym d) ∙ k))
        row r (inr j) = inr (r, j, refl)
    quiet_edit _ _ _ (edits.Demands t w r x e h o k d) f q =
        tells _ r.client r.life _
        (quiet_on t _ refl refl (λ y j. inr (mapped_rows (locks.demand_of r.client r.ino x) (demanded_client r.client r.ino x) t.state.locks.rows y j))
        (own_waits t)
        q.nothing.free q)

    pub step_quiet : HasNothing n c → (HasNothing (step_of clients n now i).state c) × LivesOn n c (step_of clients n now i).state
    step_quiet h =
        let q : Quiet (step_of clients n now i) =
        walk_of clients n now i Quiet (λ a t u e q. quiet_edit a t u e h.free q)
        (record { epoch = refl; nothing = h; lives = λ x e. (x, e, omega arith) }) in
        (q.nothing, q.lives)

pub servers_stay_quiet : ServersStayQuiet
servers_stay_quiet form n now i c harmless h =
    subst (λ (t : ServerTurn). (HasNothing t.state c) × LivesOn n c t.state) (sym (same_step form n now i))
    (step_quiet (is_client_node form) n now i c harmless h)
