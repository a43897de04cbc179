-- A session that begins in a step of a server begins with nothing, unless the client reasserts locks.
use Rattle.st_lemmas.proofs.Words
use Words.{◌≡◌, ◌≢◌, ℕ, ◌⊎◌, Bool, true, false, not, [], refl, sym, ap, ◌∙◌, subst, inl, inr, Option, Some, None, option_map}
use Words.{eq-eqb, ClientId, Life, LockRow, Message, ServerInput, Session, Stamp, Waiter}
use Words.bodies
use Words.why
use Words.Authority as authority
use Words.Lists.{Has}
use Words.Locks as locks
use Words.Locks.{is_row_by, is_wait_by}
use Words.Lookups.{some_is}
use Words.Server as sv
use Words.Server.{ServerState, ServerTurn, keep_and_reply, life_in, reply, sender, steal_from, suspect_client, tell, turn}
use Words.Sessions as sessions
use Words.Sessions.{Sessions, is_live, session_of}
use Words.Tables.{has_filter, none_passes, not_true, same_or_not}
use Words.Truth.{not_both}
use Rattle.st_rules.specs.declared.input.ServerInput.TheVariants.{Tick, Control}
use Rattle.st_third.specs.Limits.{is_client_node}
use Rattle.st_trace.specs.Server.Edits as edits
use Rattle.st_trace.specs.Server.Edits.{AtDemands, AtGrants, AtInput, AtSuspicion, AtThefts, EditOf, Phase}
use Rattle.st_trace.specs.Server.Steps.{step_of, take_of}
use Rattle.st_trace.proofs.Server.Input.{input_once_of, thefts_begun, walk_of_thefts_of}
use Rattle.st_trace.proofs.Server.Walk.{walk_of_demanding_of, walk_of_granting_of, walk_of_suspecting_of}
use Rattle.st_laws_leaving.specs.Serving.{HasNothing, HasSession, IsServing, NotOfLife, Reasserts, ServesOn, SessionsBeginWithNothing, WasThere}
use Rattle.st_laws_leaving.proofs.ServedClients.{demanded_client, edit_serves, end_is, end_life, granted_rows, granted_waits, kept_is, kept_life, mapped_rows, put_other, put_own}
use Rattle.st_laws_leaving.proofs.ServedClients.{rule_leaves, same_step}
use Rattle.st_laws_leaving.proofs.QuietClients.{quiet_as, own_rows, own_waits, suspected_free}

-- after the input
abbrev IsLate : Phase → Type 0
IsLate AtThefts = ⊥
IsLate AtInput = ⊥
IsLate a = Unit {0}

module _ (clients : ℕ → Bool) (n : ServerState) (now : Stamp) (i : ServerInput) (c : ClientId) (life : ℕ) where
  abbrev E : Phase → ServerTurn → ServerTurn → Type 0
  E a t u = EditOf clients n now i a t u

  -- a timer of another client leaves this one nothing
  suspects_other : (t : ServerTurn) (d : ClientId) → d.0 ≢ c.0 → HasNothing t.state c → HasNothing (suspect_client t now d).state c
  unfolding suspect_client locks.drop_waits
  suspects_other t d ne h =
      quiet_as clients n now i c t (suspect_client t now d) (own_rows clients n now i c t)
      (λ w j. inr (w, (has_filter (λ x. not (is_wait_by d x)) t.state.locks.waiters w j).0, refl))
      (suspected_free t.state.authority c d now ne h.free) h.live h

  -- After the input: a client that has nothing still has nothing, and its session is the same.
  late : (a : Phase) (t u : ServerTurn) → E a t u → IsLate a →
      (HasNothing t.state c → HasNothing u.state c) × (session_of u.state.sessions c ≡ session_of t.state.sessions c)
  unfolding tell suspect_client
  late _ _ _ (edits.TakesTimers t e) l = absurd l
  late _ _ _ (edits.Steals t d x h e) l = absurd l
  late _ _ _ (edits.Welcomes t m x g e k q) l = absurd l
  late _ _ _ (edits.Begins t m g k) l = absurd l
  late _ _ _ (edits.Replaces t m x g e k b r) l = absurd l
  late _ _ _ (edits.PutsOff t m x g e k b r) l = absurd l
  late _ _ _ (edits.Sees t m ino g h b x) l = absurd l
  late _ _ _ (edits.Reasserts t m rows r g k) l = absurd l
  late _ _ _ (edits.Serves t m u b x e r) l = absurd l
  late _ _ _ (edits.Repeats t m x b a k e q y) l = absurd l
  late _ _ _ (edits.Refuses t m b r) l = absurd l
  late _ _ _ (edits.Suspects t d r e k a h o v) l =
      (λ q. suspects_other t d (λ z. q.rows r h (ap (λ (x : ClientId). x.0) o ∙ z)) q, refl)
  late _ _ _ (edits.Grants t w g h e z) l = (λ q. given q, refl)
    where
      u : ServerTurn
      u = sv.with_locks (locks.grant t.state.locks w.client w.life w.ino w.mode) t

      row : HasNothing t.state c → (r : LockRow) → (r.client ≡ w.client) ⊎ Has r t.state.locks.rows →
          (r.client.0 ≢ c.0) ⊎ ((y : LockRow) × Has y t.state.locks.rows × (y.client ≡ r.client))
      row q r (inl d) = inl (λ k. q.waits w h (ap (λ (x : ClientId). x.0) (sym d) ∙ k))
      row q r (inr j) = inr (r, j, refl)

      given : HasNothing t.state c → HasNothing u.state c
      given q =
          quiet_as clients n now i c t u (λ r j. row q r (granted_rows t.state.locks w.client w.life w.ino w.mode r j))
          (λ x j. inr (x, granted_waits t.state.locks w.client w.life w.ino w.mode x j, refl)) q.free q.live q
  late _ _ _ (edits.Demands t w r x e h o k d) l = (
    λ q. quiet_as clients n now i c t (sv.with_locks (locks.with_demand r x t.state.locks) t)
        (λ y j. inr (mapped_rows (locks.demand_of r.client r.ino x) (demanded_client r.client r.ino x) t.state.locks.rows y j))
        (own_waits clients n now i c t) q.free q.live q,
    refl,
  )

  -- what a session is of
  abbrev Not : ServerTurn → Type 0
  Not t = NotOfLife t.state c life

  not_same : (t u : ServerTurn) → session_of u.state.sessions c ≡ session_of t.state.sessions c → Not t → Not u
  not_same t u s f x e = f x (sym s ∙ e)

  -- before the input
  record Before (t : ServerTurn) : Type 0 where
    serves : ServesOn n i t
    other : Not t

  -- after it
  record After (t : ServerTurn) : Type 0 where
    serves : ServesOn n i t
    begun : (Not t) ⊎ ((HasNothing t.state c) ⊎ (Reasserts i c life))

  early : (t u : ServerTurn) → E AtThefts t u → Before t → Before u
  unfolding steal_from
  early t u e b = record { serves = edit_serves clients n now i AtThefts t u e b.serves; other = go AtThefts t u e refl b.other }
    where
      go : (a : Phase) (t u : ServerTurn) → E a t u → a ≡ AtThefts → Not t → Not u
      go _ _ _ (edits.TakesTimers t e) q f = f
      go _ _ _ (edits.Steals t d x h e) q f = λ y z. at (session_of t.state.sessions c) refl (sym (end_is t.state.sessions d c) ∙ z)
        where
          at : {y : Session} (o : Option Session) → session_of t.state.sessions c ≡ o → option_map (sessions.end_of d) o ≡ Some y → y.life.0 ≡ life → ⊥
          at None p r = cc r
          at {y} (Some v) p r = λ k. f v p (ap (λ (l : Life). l.0) (sym (end_life d v)) ∙ ap (λ (s : Session). s.life.0) (some_is r) ∙ k)
      go _ _ _ (edits.Welcomes t m x g e k q) p f = cc p
      go _ _ _ (edits.Begins t m g k) p f = cc p
      go _ _ _ (edits.Replaces t m x g e k b r) p f = cc p
      go _ _ _ (edits.PutsOff t m x g e k b r) p f = cc p
      go _ _ _ (edits.Sees t m ino g h b x) p f = cc p
      go _ _ _ (edits.Reasserts t m rows r g k) p f = cc p
      go _ _ _ (edits.Serves t m u b x e r) p f = cc p
      go _ _ _ (edits.Repeats t m x b a k e q y) p f = cc p
      go _ _ _ (edits.Refuses t m b r) p f = cc p
      go _ _ _ (edits.Suspects t d r e k a h o v) p f = cc p
      go _ _ _ (edits.Grants t w g h e z) p f = cc p
      go _ _ _ (edits.Demands t w r x e h o k d) p f = cc p

  -- the client's number tells it
  same_client : (d e : ClientId) → d.0 ≡ e.0 → d ≡ e
  same_client d e q = ap (λ m. record { 0 = m }) q

  -- A session that is put in its client's place begins with nothing, if it is of this life.
  module _ (t : ServerTurn) (m : Message) (b : Before t) (free : authority.may_ack t.state.authority (sender m.header) ≡ true) where
    abbrev new : Session
    new = sessions.new_session (sender m.header) (life_in m.header)

    put_in : (u : ServerTurn) → u.state.sessions ≡ sessions.with_session new t.state.sessions → u.state.authority ≡ t.state.authority →
        ((r : LockRow) → Has r u.state.locks.rows → r.client.0 ≡ c.0 → c.0 ≡ (sender m.header).0 → ⊥) →
        ((w : Waiter) → Has w u.state.locks.waiters → w.client.0 ≡ c.0 → c.0 ≡ (sender m.header).0 → ⊥) →
        (Not u) ⊎ ((HasNothing u.state c) ⊎ (Reasserts i c life))
    put_in u s a rows waits = go (same_or_not c.0 (sender m.header).0)
      where
        is : session_of u.state.sessions c ≡ session_of (sessions.with_session new t.state.sessions) c
        is = ap (λ (v : Sessions). session_of v c) s

        nothing : c.0 ≡ (sender m.header).0 → HasNothing u.state c
        nothing e =
            record {
              rows = λ r h q. rows r h q e;
              waits = λ w h q. waits w h q e;
              free = ap (λ z. authority.may_ack z c) a ∙ ap (λ z. authority.may_ack t.state.authority z) (same_client c (sender m.header) e) ∙ free;
              live = λ x q. ap is_live (some_is (sym q ∙ is ∙ put_own t.state.sessions new c e));
            }

        at : c.0 ≡ (sender m.header).0 → (m.header.life ≡ life) ⊎ (m.header.life ≢ life) → (Not u) ⊎ ((HasNothing u.state c) ⊎ (Reasserts i c life))
        at e (inl q) = inr (inl (nothing e))
        at e (inr q) = inl (λ x z l. q (ap (λ (s : Session). s.life.0) (some_is (sym (put_own t.state.sessions new c e) ∙ sym is ∙ z)) ∙ l))

        go : (c.0 ≡ (sender m.header).0) ⊎ (c.0 ≢ (sender m.header).0) → (Not u) ⊎ ((HasNothing u.state c) ⊎ (Reasserts i c life))
        go (inl e) = at e (same_or_not m.header.life life)
        go (inr ne) = inl (not_same t u (is ∙ put_other t.state.sessions new c ne) b.other)

    -- who has a row or a wait has a session that lives
    served : (d : ClientId) → HasSession t.state.sessions d → d.0 ≡ c.0 → c.0 ≡ (sender m.header).0 →
        ((x : Session) → session_of t.state.sessions (sender m.header) ≡ Some x → is_live x ≡ false) → ⊥
    served d h e f dead =
        not_both (is_live h.session) h.live (dead h.session (ap (session_of t.state.sessions) (sym (same_client d (sender m.header) (e ∙ f))) ∙ h.is))

  -- the same session, and perhaps a message
  keeps : (t u : ServerTurn) → session_of u.state.sessions c ≡ session_of t.state.sessions c → Before t →
      (Not u) ⊎ ((HasNothing u.state c) ⊎ (Reasserts i c life))
  keeps t u s b = inl (not_same t u s b.other)

  -- At the input.
  input : (a : Phase) (t u : ServerTurn) → E a t u → a ≡ AtInput → Before t → (Not u) ⊎ ((HasNothing u.state c) ⊎ (Reasserts i c life))
  unfolding reply suspect_client keep_and_reply locks.drop_waits sessions.reasserted
  input _ _ _ (edits.TakesTimers t e) p b = cc p
  input _ _ _ (edits.Steals t d x h e) p b = cc p
  input _ _ _ (edits.Welcomes t m x g e l q) p b = keeps t (reply t m.header bodies.Welcome) refl b
  input _ _ _ (edits.Begins t m g k) p b =
      put_in t m b g.heard.free (reply (sv.with_sessions (sessions.with_session (new t m b g.heard.free) t.state.sessions) t) m.header bodies.Welcome) refl refl
      (λ r h e f. served t m b g.heard.free r.client (b.serves.serving.rows r h) e f (λ x q. (k x q).0))
      (λ w h e f. served t m b g.heard.free w.client (b.serves.serving.waits w h) e f (λ x q. (k x q).0))
  input _ _ _ (edits.Replaces t m x g e l k r) p b =
      put_in t m b g.heard.free
      (reply (sv.with_locks (locks.drop_waits t.state.locks (sender m.header))
      (sv.with_sessions (sessions.with_session (new t m b g.heard.free) t.state.sessions) t)) m.header bodies.Welcome) refl refl
      (λ q h e f. not_both (is_row_by (sender m.header) q) (eq-eqb q.client.0 (sender m.header).0 (e ∙ f))
      (none_passes (is_row_by (sender m.header)) t.state.locks.rows r q h))
      (λ w h e f. not_both (is_wait_by (sender m.header) w) (eq-eqb w.client.0 (sender m.header).0 (e ∙ f))
      (not_true _ (has_filter (λ y. not (is_wait_by (sender m.header) y)) t.state.locks.waiters w h).1))
  input _ _ _ (edits.PutsOff t m x g e l k r) p b = keeps t (reply (suspect_client t now (sender m.header)) m.header (bodies.Nack why.Suspect now.0 0)) refl b
  input _ _ _ (edits.Sees t m ino g h k x) p b = keeps t (sv.with_locks (locks.demand_seen t.state.locks (sender m.header) ino g) t) refl b
  input _ _ _ (edits.Reasserts t m rows r g k) p b = go (same_or_not c.0 (sender m.header).0)
    where
      s : Session
      s = sessions.reasserted_session (sender m.header) (life_in m.header)

      u : ServerTurn
      u = reply (sv.with_sessions (sessions.with_session s t.state.sessions)
          (sv.with_locks (locks.with_rows t.state.locks (sender m.header) (life_in m.header) rows) t)) m.header bodies.Reasserted

      at : c.0 ≡ (sender m.header).0 → (m.header.life ≡ life) ⊎ (m.header.life ≢ life) → (Not u) ⊎ ((HasNothing u.state c) ⊎ (Reasserts i c life))
      at e (inl q) = inr (inr (record { message = m; is = r.asked.heard.came.is; from = sym e; of_life = q; rows = rows; asks = r.asks }))
      at e (inr q) = inl (λ x z l. q (ap (λ (y : Session). y.life.0) (some_is (sym (put_own t.state.sessions s c e) ∙ z)) ∙ l))

      go : (c.0 ≡ (sender m.header).0) ⊎ (c.0 ≢ (sender m.header).0) → (Not u) ⊎ ((HasNothing u.state c) ⊎ (Reasserts i c life))
      go (inl e) = at e (same_or_not m.header.life life)
      go (inr ne) = inl (not_same t u (put_other t.state.sessions s c ne) b.other)
  input _ _ _ (edits.Serves t m u k x e r) p b =
      inl (λ y z. at (session_of t.state.sessions c) refl
      (sym (kept_is u.state.sessions (sender m.header) c m.header.number k
      ∙ ap (λ (v : Sessions). option_map (sessions.keep_of (sender m.header) m.header.number k) (session_of v c))
      (rule_leaves now t m.header m.body u k r).sessions)
      ∙ z))
    where
      at : {y : Session} (o : Option Session) → session_of t.state.sessions c ≡ o →
          option_map (sessions.keep_of (sender m.header) m.header.number k) o ≡ Some y → y.life.0 ≡ life → ⊥
      at None p q = cc q
      at {y} (Some v) p q = λ l. b.other v p
          (ap (λ (z : Life). z.0) (sym (kept_life (sender m.header) m.header.number k v).0) ∙ ap (λ (s : Session). s.life.0) (some_is q) ∙ l)
  input _ _ _ (edits.Repeats t m x y a k e l q) p b = keeps t (reply t m.header y) refl b
  input _ _ _ (edits.Refuses t m y r) p b = keeps t (reply t m.header y) refl b
  input _ _ _ (edits.Suspects t d r e k a h o v) p b = cc p
  input _ _ _ (edits.Grants t w g h e z) p b = cc p
  input _ _ _ (edits.Demands t w r x e h o k d) p b = cc p

  takes : (t u : ServerTurn) → E AtInput t u → Before t → After u
  takes t u e b = record { serves = edit_serves clients n now i AtInput t u e b.serves; begun = input AtInput t u e refl b }

  goes_on : (a : Phase) → IsLate a → (t u : ServerTurn) → E a t u → After t → After u
  goes_on a l t u e s = record { serves = edit_serves clients n now i a t u e s.serves; begun = go s.begun }
    where
      go : (Not t) ⊎ ((HasNothing t.state c) ⊎ (Reasserts i c life)) → (Not u) ⊎ ((HasNothing u.state c) ⊎ (Reasserts i c life))
      go (inl f) = inl (not_same t u (late a t u e l).1 f)
      go (inr (inl h)) = inr (inl ((late a t u e l).0 h))
      go (inr (inr r)) = inr (inr r)

  first : (t : ServerTurn) → Before t → After t
  first t b = record { serves = b.serves; begun = inl b.other }

step_begins : (clients : ℕ → Bool) (n : ServerState) (now : Stamp) (i : ServerInput) (c : ClientId) (life : ℕ) → IsServing n → NotOfLife n c life →
    After clients n now i c life (step_of clients n now i)
unfolding sv.suspecting_on
step_begins clients n now Tick c life s f =
    let A = After clients n now Tick c life in
    let B = Before clients n now Tick c life in
    let began : B (turn n []) =
    record {
      serves = record { id = refl; epoch = refl; serving = s; lives = λ d y e. WasThere y e refl; said = λ m h. absurd h; welcomed = λ m h q. absurd h };
      other = f;
    } in
    walk_of_demanding_of clients n now Tick A (goes_on clients n now Tick c life AtDemands tt) _
    (walk_of_granting_of clients n now Tick A (goes_on clients n now Tick c life AtGrants tt) _
    (walk_of_suspecting_of clients n now Tick A (goes_on clients n now Tick c life AtSuspicion tt) (sv.thefts (turn n []) now) refl (thefts_begun n now).quiet
    (first clients n now Tick c life _ (walk_of_thefts_of clients n now Tick B (early clients n now Tick c life) began))))
step_begins clients n now (Control m) c life s f =
    let A = After clients n now (Control m) c life in
    let B = Before clients n now (Control m) c life in
    let began : B (turn n []) =
    record {
      serves = record { id = refl; epoch = refl; serving = s; lives = λ d y e. WasThere y e refl; said = λ x h. absurd h; welcomed = λ x h q. absurd h };
      other = f;
    } in
    let b : B (sv.thefts (turn n []) now) = walk_of_thefts_of clients n now (Control m) B (early clients n now (Control m) c life) began in
    walk_of_demanding_of clients n now (Control m) A (goes_on clients n now (Control m) c life AtDemands tt) _
    (walk_of_granting_of clients n now (Control m) A (goes_on clients n now (Control m) c life AtGrants tt) _ (go b (input_once_of clients n now (Control m))))
  where
    t0 : ServerTurn
    t0 = sv.thefts (turn n []) now

    go : Before clients n now (Control m) c life t0 →
        (take_of clients t0 now (Control m) ≡ t0) ⊎ EditOf clients n now (Control m) AtInput t0 (take_of clients t0 now (Control m)) →
        After clients n now (Control m) c life (take_of clients t0 now (Control m))
    go b (inl e) = subst (After clients n now (Control m) c life) (sym e) (first clients n now (Control m) c life t0 b)
    go b (inr x) = takes clients n now (Control m) c life t0 _ x b

pub sessions_begin_with_nothing : SessionsBeginWithNothing
sessions_begin_with_nothing form n now i c life s f =
    subst (λ (t : ServerTurn). (NotOfLife t.state c life) ⊎ ((HasNothing t.state c) ⊎ (Reasserts i c life))) (sym (same_step form n now i))
    (step_begins (is_client_node form) n now i c life s f).begun
