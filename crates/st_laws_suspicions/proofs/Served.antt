-- Whoever has a row or a wait at a server without grace is served there, in the life of the row or the wait; and a client has one row on a file. So it is after
-- each step of a server, whichever nodes it hears as clients.
use Rattle.st_lemmas.proofs.Words
use Words.{◌≡◌, ◌≢◌, ℕ, ◌⊎◌, Bool, true, false, not, [], ◌∷◌, ◌==◌, refl, sym, ap, ◌∙◌, subst, inl, inr, cond, map, Option, Some, None, option_map}
use Words.{eq-eqb, eqb-true, ne_eqb, Config, ClientId, Life, ServerId, Stamp, Mode, Header, Body, ServerInput, LockRow, Waiter, Session, SessionState}
use Words.modes
use Words.states
use Words.Grace as grace
use Words.Keys.{client}
use Words.Lists.{Has}
use Words.Locks as locks
use Words.Locks.{Locks, is_row_by, is_row_of, is_wait_by}
use Words.Server as sv
use Words.Server.{ServerState, ServerTurn, keep_and_reply, life_in, reply, sender, steal_from, suspect_client, tell}
use Words.ServerInvariants.{are_once, same_row}
use Words.Serving.{end_client}
use Words.Sessions as sessions
use Words.Sessions.{Sessions, is_live, session_of}
use Words.Tables.{cond_either, cond_false, find_map, found_at, has_append, has_filter, has_map, none_passes, not_true}
use Words.Truth.{not_both}
use Rattle.st_lemmas.proofs.Puts.{find_put_other, has_put}
use Rattle.st_laws_refine.proofs.Server.OneRow.{demanded_once, forget_once, granted_once, released_once, seen_once}
use Rattle.st_trace.specs.Server.Edits.{Acquires, AtOnce, Begins, Demands, EditOf, Gets, Grants, InLife, InTurn, Phase, PutsOff, Reasserts, Releases, RemovesFile}
use Rattle.st_trace.specs.Server.Edits.{Replaces, Ruled, Sees, Serves, Steals, Suspects}
use Rattle.st_trace.specs.Server.Steps.{step_of}
use Rattle.st_trace.proofs.Server.Walk.{walk_of}

-- a client that is heard is served, in this life
pub record IsServed (clients : ℕ → Bool) (v : Sessions) (c : ClientId) (life : Life) : Type 0 where
  pub heard : clients c.0 ≡ true
  pub session : Session
  pub is : session_of v c ≡ Some session
  pub live : is_live session ≡ true
  pub of_life : session.life ≡ life

-- What holds of a server.
pub record Holds (clients : ℕ → Bool) (k : Config) (s : ServerId) (n : ServerState) : Type 0 where
  pub config : n.config ≡ k
  pub id : n.id ≡ s
  pub calm : n.grace ≡ None
  pub once : are_once same_row n.locks.rows ≡ true
  pub rows : (r : LockRow) → Has r n.locks.rows → IsServed clients n.sessions r.client r.life
  pub waits : (w : Waiter) → Has w n.locks.waiters → IsServed clients n.sessions w.client w.life

-- Sessions after a change.

same_client : (c d : ClientId) → c.0 ≡ d.0 → c ≡ d
same_client c d e = ap (λ n. client n) e

-- of one client: the others are served on
put_other : (clients : ℕ → Bool) (v : Sessions) (s : Session) (c : ClientId) (life : Life) → c.0 ≢ s.client.0 → IsServed clients v c life →
    IsServed clients (sessions.with_session s v) c life
put_other clients v s c life ne h =
    record {
      heard = h.heard;
      session = h.session;
      is = find_put_other (sessions.is_session_of c) (sessions.is_session_of s.client) s v.rows (differs s.client.0 c.0 (λ e. ne (sym e)))
          (λ y e. differs y.client.0 s.client.0 (λ f. ne (sym (eqb-true y.client.0 c.0 e) ∙ f)))
          ∙ h.is;
      live = h.live;
      of_life = h.of_life;
    }
  where
    differs : (a b : ℕ) → a ≢ b → (a == b) ≡ false
    differs a b ne = ne_eqb a b ne

-- a client of another number is served on after one ends
end_other : (clients : ℕ → Bool) (v : Sessions) (c d : ClientId) (life : Life) → d.0 ≢ c.0 → IsServed clients v d life →
    IsServed clients (sessions.end v c) d life
unfolding sessions.end
end_other clients v c d life ne h =
    record {
      heard = h.heard;
      session = h.session;
      is = find_map (sessions.is_session_of d) (sessions.end_of c) (λ x. ap (λ (z : ClientId). z.0 == d.0) (end_client c x)) v.rows
          ∙ ap (option_map (sessions.end_of c)) h.is
          ∙ ap Some (cond_false (sessions.is_session_of c h.session) (sessions.ended h.session) h.session
          (ne_eqb h.session.client.0 c.0 (λ e. ne (sym (eqb-true h.session.client.0 d.0 (found_at (sessions.is_session_of d) v.rows h.session h.is).0) ∙ e))));
      live = h.live;
      of_life = h.of_life;
    }

-- a kept reply
kept : (clients : ℕ → Bool) (v : Sessions) (c d : ClientId) (number : ℕ) (b : Body) (life : Life) → IsServed clients v d life →
    IsServed clients (sessions.store v c number b) d life
unfolding sessions.store sessions.keep_reply
kept clients v c d number b life h =
    record {
      heard = h.heard;
      session = sessions.keep_of c number b h.session;
      is = find_map (sessions.is_session_of d) (sessions.keep_of c number b) same v.rows ∙ ap (option_map (sessions.keep_of c number b)) h.is;
      live = lives (sessions.is_session_of c h.session);
      of_life = lasts (sessions.is_session_of c h.session);
    }
  where
    same : (x : Session) → sessions.is_session_of d (sessions.keep_of c number b x) ≡ sessions.is_session_of d x
    same x = cond_either (λ (z : Session). sessions.is_session_of d z ≡ sessions.is_session_of d x) (sessions.is_session_of c x)
        (sessions.keep_reply number b x) x (λ e. refl) (λ e. refl)

    of_state : (x : SessionState) → sessions.is_live_state (sessions.kept_state number b x) ≡ sessions.is_live_state x
    of_state (states.Live last old) = refl
    of_state states.Ended = refl

    lives : (z : Bool) → is_live (cond z (sessions.keep_reply number b h.session) h.session) ≡ true
    lives true = of_state h.session.state ∙ h.live
    lives false = h.live

    lasts : (z : Bool) → (cond z (sessions.keep_reply number b h.session) h.session).life ≡ life
    lasts true = h.of_life
    lasts false = h.of_life

module _ (clients : ℕ → Bool) (k : Config) (s : ServerId) where
  -- a table with no other rows and waits, and the same sessions
  fewer : (n v : ServerState) → v.config ≡ n.config → v.id ≡ n.id → v.grace ≡ n.grace → v.sessions ≡ n.sessions → are_once same_row v.locks.rows ≡ true →
      ((r : LockRow) → Has r v.locks.rows → (q : LockRow) × Has q n.locks.rows × (q.client ≡ r.client) × (q.life ≡ r.life)) →
      ((w : Waiter) → Has w v.locks.waiters → (x : Waiter) × Has x n.locks.waiters × (x.client ≡ w.client) × (x.life ≡ w.life)) → Holds clients k s n →
      Holds clients k s v
  fewer n v a b c d once rows waits h =
      record {
        config = a ∙ h.config;
        id = b ∙ h.id;
        calm = c ∙ h.calm;
        once = once;
        rows = λ r i. let z = rows r i in moved r.client r.life z.0.client z.0.life z.2 z.3 (h.rows z.0 z.1);
        waits = λ w i. let z = waits w i in moved w.client w.life z.0.client z.0.life z.2 z.3 (h.waits z.0 z.1);
      }
    where
      moved : (c : ClientId) (l : Life) (e : ClientId) (m : Life) → e ≡ c → m ≡ l → IsServed clients n.sessions e m → IsServed clients v.sessions c l
      moved c l e m p q x = subst (λ z. IsServed clients z c l) (sym d)
          (subst (λ z. IsServed clients n.sessions c z) q (subst (λ z. IsServed clients n.sessions z m) p x))

  all_rows : (n : ServerState) (r : LockRow) → Has r n.locks.rows → (q : LockRow) × Has q n.locks.rows × (q.client ≡ r.client) × (q.life ≡ r.life)
  all_rows n r i = (r, i, refl, refl)

  all_waits : (n : ServerState) (w : Waiter) → Has w n.locks.waiters → (x : Waiter) × Has x n.locks.waiters × (x.client ≡ w.client) × (x.life ≡ w.life)
  all_waits n w i = (w, i, refl, refl)

  -- waits are dropped
  dropped : (n : ServerState) (a : Rattle.st_rules.specs.Authority.Authority) (c : ClientId) → Holds clients k s n →
      Holds clients k s (record n { authority = a; locks = locks.drop_waits n.locks c })
  unfolding locks.drop_waits
  dropped n a c h =
      fewer n (record n { authority = a; locks = locks.drop_waits n.locks c }) refl refl refl refl h.once (all_rows n)
      (λ w i. all_waits n w (has_filter (λ x. not (is_wait_by c x)) n.locks.waiters w i).0) h

  -- a change of each row that leaves its client and its life
  mapped : (n : ServerState) (f : LockRow → LockRow) (l : Locks) → l.rows ≡ map f n.locks.rows → l.waiters ≡ n.locks.waiters → are_once same_row l.rows ≡ true →
      ((r : LockRow) → ((f r).client ≡ r.client) × ((f r).life ≡ r.life)) → Holds clients k s n → Holds clients k s (record n { locks = l })
  mapped n f l e w once same h =
      fewer n (record n { locks = l }) refl refl refl refl once
      (λ r i. let z = has_map f n.locks.rows r (subst (Has r) e i) in
      let y = same z.0 in (z.0, z.1, sym y.0 ∙ ap (λ (q : LockRow). q.client) (sym z.2), sym y.1 ∙ ap (λ (q : LockRow). q.life) (sym z.2)))
      (λ x i. all_waits n x (subst (Has x) w i)) h

  -- a lock is granted to a client that is served
  granted : (n : ServerState) (c : ClientId) (life : Life) (ino : ℕ) (mode : Mode) → IsServed clients n.sessions c life → Holds clients k s n →
      Holds clients k s (record n { locks = locks.grant n.locks c life ino mode })
  unfolding locks.grant
  granted n c life ino mode x h =
      record {
        config = h.config;
        id = h.id;
        calm = h.calm;
        once = granted_once n.locks c life ino mode h.once;
        rows = λ r i. go r (has_put (is_row_of c ino) (locks.new_row n.locks c life ino mode) n.locks.rows r i);
        waits = λ w i. h.waits w (has_filter (λ y. not (locks.is_wait_of c ino y)) n.locks.waiters w i).0;
      }
    where
      go : (r : LockRow) → (r ≡ locks.new_row n.locks c life ino mode) ⊎ Has r n.locks.rows → IsServed clients n.sessions r.client r.life
      go r (inl e) = subst (λ (q : LockRow). IsServed clients n.sessions q.client q.life) (sym e) x
      go r (inr i) = h.rows r i

  -- a client that is served waits
  queued : (n : ServerState) (c : ClientId) (life : Life) (ino : ℕ) (mode : Mode) → IsServed clients n.sessions c life → Holds clients k s n →
      Holds clients k s (record n { locks = locks.queue n.locks c life ino mode })
  unfolding locks.queue locks.queue_at locks.wait_for
  queued n c life ino mode x h = go (locks.wait_of n.locks c ino)
    where
      go : (o : Option Waiter) → Holds clients k s (record n { locks = locks.queue_at n.locks c life ino mode o })
      go None =
          record {
            config = h.config;
            id = h.id;
            calm = h.calm;
            once = h.once;
            rows = h.rows;
            waits = λ w i. at w (has_append n.locks.waiters (locks.new_wait c life ino mode ∷ []) w i);
          }
        where
          at : (w : Waiter) → Has w n.locks.waiters ⊎ Has w (locks.new_wait c life ino mode ∷ []) → IsServed clients n.sessions w.client w.life
          at w (inl i) = h.waits w i
          at w (inr (inl e)) = subst (λ (y : Waiter). IsServed clients n.sessions y.client y.life) (sym e) x
          at w (inr (inr i)) = absurd i
      go (Some v) =
          fewer n (record n { locks = locks.queue_at n.locks c life ino mode (Some v) }) refl refl refl refl h.once (all_rows n)
          (λ w i. let z = has_map (locks.raise c ino mode) n.locks.waiters w i in
          let y = same z.0 in (z.0, z.1, sym y.0 ∙ ap (λ (q : Waiter). q.client) (sym z.2), sym y.1 ∙ ap (λ (q : Waiter). q.life) (sym z.2))) h
        where
          same : (w : Waiter) → ((locks.raise c ino mode w).client ≡ w.client) × ((locks.raise c ino mode w).life ≡ w.life)
          same w =
              cond_either (λ (y : Waiter). (y.client ≡ w.client) × (y.life ≡ w.life)) (locks.is_wait_of c ino w) (locks.wait_for mode w) w (λ e. (refl, refl))
              (λ e. (refl, refl))

  -- a lock is released
  released : (n : ServerState) (c : ClientId) (ino : ℕ) (to : Mode) → Holds clients k s n →
      Holds clients k s (record n { locks = locks.release_to n.locks c ino to })
  unfolding locks.release_to locks.lowered
  released n c ino modes.None h =
      fewer n (record n { locks = locks.release_to n.locks c ino modes.None }) refl refl refl refl (released_once n.locks c ino modes.None h.once)
      (λ r i. all_rows n r (has_filter (λ q. not (is_row_of c ino q)) n.locks.rows r i).0) (all_waits n) h
  released n c ino modes.S h = mapped n (locks.lower c ino) (locks.release_to n.locks c ino modes.S) refl refl (released_once n.locks c ino modes.S h.once)
      (lowers c ino) h
    where
      lowers : (c : ClientId) (ino : ℕ) (r : LockRow) → ((locks.lower c ino r).client ≡ r.client) × ((locks.lower c ino r).life ≡ r.life)
      lowers c ino r =
          cond_either (λ (y : LockRow). (y.client ≡ r.client) × (y.life ≡ r.life)) (is_row_of c ino r) (locks.lowered r) r (λ e. (refl, refl))
          (λ e. (refl, refl))
  released n c ino modes.X h = mapped n (locks.lower c ino) (locks.release_to n.locks c ino modes.X) refl refl (released_once n.locks c ino modes.X h.once)
      (lowers c ino) h
    where
      lowers : (c : ClientId) (ino : ℕ) (r : LockRow) → ((locks.lower c ino r).client ≡ r.client) × ((locks.lower c ino r).life ≡ r.life)
      lowers c ino r =
          cond_either (λ (y : LockRow). (y.client ≡ r.client) × (y.life ≡ r.life)) (is_row_of c ino r) (locks.lowered r) r (λ e. (refl, refl))
          (λ e. (refl, refl))

  same : (n v : ServerState) → v.config ≡ n.config → v.id ≡ n.id → v.grace ≡ n.grace → v.sessions ≡ n.sessions → v.locks ≡ n.locks → Holds clients k s n →
      Holds clients k s v
  same n v a b c d e h =
      fewer n v a b c d (ap (λ (l : Locks). are_once same_row l.rows) e ∙ h.once) (λ r i. all_rows n r (subst (λ (l : Locks). Has r l.rows) e i))
      (λ w i. all_waits n w (subst (λ (l : Locks). Has w l.waiters) e i)) h

  -- the rule of a request of a client that is served
  ruled : (now : Stamp) (t : ServerTurn) (h : Header) (b : Body) (u : ServerTurn) (r : Body) → IsServed clients t.state.sessions (sender h) (life_in h) →
      Ruled now t h b u r → Holds clients k s t.state → Holds clients k s u.state
  unfolding sv.cut_pages sv.cut_whole locks.drop_file_waits
  ruled now t h b u r x (Acquires ino mode a file lacks gets) y = taken gets
    where
      taken : {a : locks.Acquired} → Gets (sv.grants_now t now) t.state.locks (sender h) (life_in h) ino mode a →
          Holds clients k s (record t.state { locks = a.locks })
      taken (AtOnce on free first) = granted t.state (sender h) (life_in h) ino mode x y
      taken (InTurn held) = queued t.state (sender h) (life_in h) ino mode x y
  ruled now t h b u r x (Releases ino g to q is under) y = released t.state (sender h) ino to y
  ruled now t h b u r x (RemovesFile dir nm g ino d look is_file holds remove e) y =
      fewer t.state u.state refl refl refl refl y.once (all_rows t.state)
      (λ w i. all_waits t.state w (has_filter (λ v. not (locks.is_wait_on d.ino v)) t.state.locks.waiters w i).0) y
  ruled now t h b u r x rule y = same t.state u.state refl refl refl refl refl y

  in_life : (t : ServerTurn) (h : Header) → clients h.from ≡ true → InLife t h → IsServed clients t.state.sessions (sender h) (life_in h)
  in_life t h heard l =
      record { heard = heard; session = l.session; is = l.is; live = ap sessions.is_live_state l.state; of_life = ap (λ n. record { 0 = n }) l.of_life }

  stolen : (t : ServerTurn) (c : ClientId) (x : Session) → Holds clients k s t.state → Holds clients k s (steal_from t c x).state
  unfolding steal_from locks.forget
  stolen t c x h =
      record {
        config = h.config;
        id = h.id;
        calm = h.calm;
        once = forget_once t.state.locks c h.once;
        rows = λ r i. let z = has_filter (λ q. not (is_row_by c q)) t.state.locks.rows r i in
            end_other clients t.state.sessions c r.client r.life (λ e. not_both (r.client.0 == c.0) (eq-eqb r.client.0 c.0 e) (not_true _ z.1)) (h.rows r z.0);
        waits = λ w i. let z = has_filter (λ v. not (is_wait_by c v)) t.state.locks.waiters w i in
            end_other clients t.state.sessions c w.client w.life (λ e. not_both (w.client.0 == c.0) (eq-eqb w.client.0 c.0 e) (not_true _ z.1)) (h.waits w z.0);
      }

  -- a new session of a client that isn't served
  begun : (n : ServerState) (c : ClientId) (life : Life) → ((y : Session) → session_of n.sessions c ≡ Some y → is_live y ≡ false) → Holds clients k s n →
      Holds clients k s (record n { sessions = sessions.with_new_session c life n.sessions })
  begun n c life none h =
      record {
        config = h.config;
        id = h.id;
        calm = h.calm;
        once = h.once;
        rows = λ r i. go r.client r.life (h.rows r i);
        waits = λ w i. go w.client w.life (h.waits w i);
      }
    where
      go : (d : ClientId) (l : Life) → IsServed clients n.sessions d l → IsServed clients (sessions.with_new_session c life n.sessions) d l
      go d l x =
          put_other clients n.sessions (sessions.new_session c life) d l
          (λ e. not_both (is_live x.session) x.live (none x.session (ap (session_of n.sessions) (same_client c d (sym e)) ∙ x.is))) x

  -- a new session of a client without rows, whose waits are dropped
  replaced : (n : ServerState) (c : ClientId) (life : Life) → locks.has_rows n.locks c ≡ false → Holds clients k s n →
      Holds clients k s (record n { sessions = sessions.with_new_session c life n.sessions; locks = locks.drop_waits n.locks c })
  unfolding locks.drop_waits
  replaced n c life none h =
      record {
        config = h.config;
        id = h.id;
        calm = h.calm;
        once = h.once;
        rows = λ r i. put_other clients n.sessions (sessions.new_session c life) r.client r.life
            (λ e. not_both (is_row_by c r) (eq-eqb r.client.0 c.0 e) (none_passes (is_row_by c) n.locks.rows none r i)) (h.rows r i);
        waits = λ w i. let z = has_filter (λ v. not (is_wait_by c v)) n.locks.waiters w i in
            put_other clients n.sessions (sessions.new_session c life) w.client w.life
            (λ e. not_both (w.client.0 == c.0) (eq-eqb w.client.0 c.0 e) (not_true _ z.1)) (h.waits w z.0);
      }

  stored : (n : ServerState) (c : ClientId) (number : ℕ) (b : Body) → Holds clients k s n →
      Holds clients k s (record n { sessions = sessions.store n.sessions c number b })
  stored n c number b h =
      record {
        config = h.config;
        id = h.id;
        calm = h.calm;
        once = h.once;
        rows = λ r i. kept clients n.sessions c r.client number b r.life (h.rows r i);
        waits = λ w i. kept clients n.sessions c w.client number b w.life (h.waits w i);
      }

  -- One change.
  pub holds_edit : (n : ServerState) (now : Stamp) (i : ServerInput) (a : Phase) (t u : ServerTurn) → EditOf clients n now i a t u →
      Holds clients k s t.state → Holds clients k s u.state
  unfolding reply tell suspect_client keep_and_reply locks.demand_seen locks.answered_row locks.demanded
  holds_edit n now i a t u (Steals _ c x o e) h = stolen t c x h
  holds_edit n now i a t u (Begins _ m g f) h = begun t.state (sender m.header) (life_in m.header) (λ y e. (f y e).0) h
  holds_edit n now i a t u (Replaces _ m x g e live l none) h = replaced t.state (sender m.header) (life_in m.header) none h
  holds_edit n now i a t u (PutsOff _ m x g e live l some) h = dropped t.state _ (sender m.header) h
  holds_edit n now i a t u (Suspects _ c r is q f j e o) h = dropped t.state _ c h
  holds_edit n now i a t u (Sees _ m ino g x b e) h =
      mapped t.state (locks.observe (sender m.header) ino g) (locks.demand_seen t.state.locks (sender m.header) ino g) refl refl
      (seen_once t.state.locks (sender m.header) ino g h.once)
      (λ r. cond_either (λ (y : LockRow). (y.client ≡ r.client) × (y.life ≡ r.life)) _ (locks.answered_row r) r (λ e. (refl, refl)) (λ e. (refl, refl))) h
  holds_edit n now i a t u (Reasserts _ m rows r on f) h = absurd (off (sym (ap (λ g. grace.is_on g now) h.calm) ∙ on))
    where
      off : ◌≡◌ {A = Bool} false true → ⊥
      off e = cc
  holds_edit n now i a t u (Serves _ m v b x e r) h =
      stored v.state (sender m.header) m.header.number b (ruled now t m.header m.body v b (in_life t m.header x.asked.heard.came.from x.in_life) r h)
  holds_edit n now i a t u (Grants _ w off j e f) h = granted t.state w.client w.life w.ino w.mode (h.waits w j) h
  holds_edit n now i a t u (Demands _ w r x e j o f d) h =
      mapped t.state (locks.demand_of r.client r.ino x) (locks.with_demand r x t.state.locks) refl refl (demanded_once t.state.locks r x h.once)
      (λ q. cond_either (λ (y : LockRow). (y.client ≡ q.client) × (y.life ≡ q.life)) _ (locks.demanded x q) q (λ e. (refl, refl)) (λ e. (refl, refl))) h
  holds_edit n now i a t u edit h = same t.state u.state refl refl refl refl refl h

  -- So it is after a step.
  pub holds_on : (n : ServerState) (now : Stamp) (i : ServerInput) → Holds clients k s n → Holds clients k s (step_of clients n now i).state
  holds_on n now i h = walk_of clients n now i (λ t. Holds clients k s t.state) (holds_edit n now i) h
