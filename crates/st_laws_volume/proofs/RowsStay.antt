-- The exclusive row of a client on a file stays through a step of its server, or the server doesn't
-- serve the client's next request after it.
use Rattle.st_lemmas.proofs.Words
use Words.{◌≡◌, ◌≢◌, ◌⊎◌, ℕ, ◌+◌, ◌<◌, ◌≤◌, arith, Bool, true, false, not, ◌&&◌, ◌||◌, ◌==◌, List, [], ◌∷◌, ◌++◌, find, filter, map, Option, Some, None, refl, sym, ap, ◌∙◌, subst, inl, inr, if◌then◌else◌}
use Words.{eq-eqb, ne_eqb, nat_lt, lt-ltb, ltb-false, option_map, Body, ClientId, GrantNo, Header, Life, LockRow, Message, Mode, RowDemand, ServerInput, Session, SessionState, Stamp, Waiter}
use Words.bodies
use Words.modes
use Words.serving.{Control}
use Words.states
use Words.Grace as grace
use Words.Keys.{client}
use Words.Lists.{Has}
use Words.Locks as locks
use Words.Locks.{Locks, is_row_of, row_of}
use Words.Lookups.{or_false, some_is}
use Words.Server as sv
use Words.Server.{ServerState, ServerTurn, keep_and_reply, life_in, reply, sender, server_step, steal_from, suspect_client, tell, thefts, turn}
use Words.Sessions as sessions
use Words.Tables.{and_both, and_left, cond_either, find_kept, find_map, find_other, has_append, has_filter, has_map, same_or_not}
use Words.Truth.{client_is, clash}
use Rattle.st_laws_refine.proofs.Server.Changes.{end_other, end_own, forget_row, forget_wait, grant_elsewhere, grant_other, grant_wait, is_not, row_not, session_other, session_own}
use Rattle.st_laws_requests.specs.Replies.ServedRequests.{FindsNew, InputNew, IsBehind, Reached}
use Rattle.st_laws_requests.proofs.Replies.Served.{stored_reached}
use Rattle.st_laws_extents.proofs.CutRequests.EndedLives.{behind_less}
use Rattle.st_trace.specs.Server.Edits as edits
use Rattle.st_trace.specs.Server.Edits.{AtDemands, AtGrants, AtInput, AtSuspicion, AtThefts, AtOnce, Edit, Gets, InTurn, Reasserted, Ruled, Served, TakesTimers, Steals, Welcomes, Begins, Replaces, PutsOff, Sees, Reasserts, Serves, Repeats, Refuses, Suspects, Grants, Demands}
use Rattle.st_trace.proofs.Server.Taking.{FreshState}
use Rattle.st_trace.proofs.Server.Input.{walk_of_thefts}
use Rattle.st_trace.proofs.Server.Walk.{walk_in_two}

-- The client has an exclusive row of the file, and doesn't wait for it. Its grant has a given fact.
pub record RowStands (Under : GrantNo → Type 0) (c : ClientId) (ino : ℕ) (l : Locks) : Type 0 where
  pub row : LockRow
  pub is : row_of l c ino ≡ Some row
  pub exclusive : row.mode ≡ modes.X
  pub under : Under row.g
  pub unwaited : (w : Waiter) → Has w l.waiters → w.client ≡ c → w.ino ≡ ino → ⊥

-- Tables.
stands_same : (Under : GrantNo → Type 0) (c : ClientId) (ino : ℕ) (l v : Locks) → row_of v c ino ≡ row_of l c ino →
    ((w : Waiter) → Has w v.waiters → w.client ≡ c → w.ino ≡ ino → Has w l.waiters) →
    RowStands Under c ino l → RowStands Under c ino v
stands_same Under c ino l v e k h = record {
  row = h.row;
  is = e ∙ h.is;
  exclusive = h.exclusive;
  under = h.under;
  unwaited =
      λ w i q r. h.unwaited w (k w i q r) q r;
}

stands_map : (Under : GrantNo → Type 0) (c : ClientId) (ino : ℕ) (l v : Locks) (f : LockRow → LockRow) →
    v.rows ≡ map f l.rows → v.waiters ≡ l.waiters →
    ((r : LockRow) → is_row_of c ino (f r) ≡ is_row_of c ino r) →
    ((r : LockRow) → is_row_of c ino r ≡ true → (f r).mode ≡ r.mode) →
    ((r : LockRow) → (f r).g ≡ r.g) →
    RowStands Under c ino l → RowStands Under c ino v
stands_map Under c ino l v f e w same mode grant h =
    record {
      row = f h.row;
      is = ap (find (is_row_of c ino)) e ∙
          (find_map (is_row_of c ino) f same l.rows ∙ ap (option_map f) h.is);
      exclusive = mode h.row (Words.Tables.found_at (is_row_of c ino) l.rows h.row h.is).0 ∙
          h.exclusive;
      under = subst Under (sym (grant h.row)) h.under;
      unwaited = λ y i q r. h.unwaited y (subst (Has y) w i) q r;
    }

dropped : (Under : GrantNo → Type 0) (c : ClientId) (ino : ℕ) (l : Locks) (d : ClientId) → RowStands Under c ino l →
    RowStands Under c ino (locks.drop_waits l d)
unfolding locks.drop_waits
dropped Under c ino l d h = stands_same Under c ino l (locks.drop_waits l d) refl
    (λ w i q r. (has_filter (λ y. not (locks.is_wait_by d y)) l.waiters w i).0) h

file_dropped : (Under : GrantNo → Type 0) (c : ClientId) (ino : ℕ) (l : Locks) (f : ℕ) → RowStands Under c ino l →
    RowStands Under c ino (locks.drop_file_waits l f)
unfolding locks.drop_file_waits
file_dropped Under c ino l f h = stands_same Under c ino l (locks.drop_file_waits l f) refl
    (λ w i q r. (has_filter (λ y. not (locks.is_wait_on f y)) l.waiters w i).0) h

forgotten : (Under : GrantNo → Type 0) (c : ClientId) (ino : ℕ) (l : Locks) (d : ClientId) → d.0 ≢ c.0 → RowStands Under c ino l →
    RowStands Under c ino (locks.forget l d)
forgotten Under c ino l d n h = stands_same Under c ino l (locks.forget l d) (forget_row l d c.0 ino n)
    (λ w i q r. (forget_wait l d w i).0) h

observed : (Under : GrantNo → Type 0) (c : ClientId) (ino : ℕ) (l : Locks) (d : ClientId) (i : ℕ) (g : GrantNo) →
    RowStands Under c ino l → RowStands Under c ino (locks.demand_seen l d i g)
unfolding locks.demand_seen locks.answered_row
observed Under c ino l d i g h =
    stands_map Under c ino l (locks.demand_seen l d i g) (locks.observe d i g) refl refl
    (λ r. cond_either (λ (y : LockRow). is_row_of c ino y ≡ is_row_of c ino r)
    (is_row_of d i r && (r.g.0 == g.0)) (locks.answered_row r) r (λ e. refl)
    (λ e. refl))
    (λ r q. cond_either (λ (y : LockRow). y.mode ≡ r.mode) (is_row_of d i r && (r.g.0 == g.0))
    (locks.answered_row r) r (λ e. refl) (λ e. refl))
    (λ r. cond_either (λ (y : LockRow). y.g ≡ r.g) (is_row_of d i r && (r.g.0 == g.0))
    (locks.answered_row r) r (λ e. refl) (λ e. refl)) h

demanded : (Under : GrantNo → Type 0) (c : ClientId) (ino : ℕ) (l : Locks) (y : LockRow) (x : RowDemand) → RowStands Under c ino l →
    RowStands Under c ino (locks.with_demand y x l)
unfolding locks.demanded
demanded Under c ino l y x h =
    stands_map Under c ino l (locks.with_demand y x l) (locks.demand_of y.client y.ino x) refl refl
    (λ r. cond_either (λ (z : LockRow). is_row_of c ino z ≡ is_row_of c ino r)
    (is_row_of y.client y.ino r) (locks.demanded x r) r (λ e. refl) (λ e. refl))
    (λ r q. cond_either (λ (z : LockRow). z.mode ≡ r.mode) (is_row_of y.client y.ino r)
    (locks.demanded x r) r (λ e. refl) (λ e. refl))
    (λ r. cond_either (λ (z : LockRow). z.g ≡ r.g) (is_row_of y.client y.ino r)
    (locks.demanded x r) r (λ e. refl) (λ e. refl)) h

installed : (Under : GrantNo → Type 0) (c : ClientId) (ino : ℕ) (l : Locks) (d : ClientId) (life : Life)
    (rs : List (ℕ × GrantNo × Mode)) → RowStands Under c ino l →
    RowStands Under c ino (locks.with_rows l d life rs)
unfolding locks.with_rows
installed Under c ino l d life rs h =
    record { row = h.row; is = front l.rows h.is; exclusive = h.exclusive; under = h.under; unwaited = h.unwaited }
  where
    front : (xs : List LockRow) → find (is_row_of c ino) xs ≡ Some h.row →
        find (is_row_of c ino) (xs ++ map (locks.installed d life) rs) ≡ Some h.row
    front [] e = cc e
    front (x ∷ xs) e = go (is_row_of c ino x) e (front xs)
      where
        go : (b : Bool) → (if b then Some x else find (is_row_of c ino) xs) ≡ Some h.row →
            (find (is_row_of c ino) xs ≡ Some h.row →
            find (is_row_of c ino) (xs ++ map (locks.installed d life) rs) ≡ Some h.row) →
            (if b then Some x else find (is_row_of c ino) (xs ++ map (locks.installed d life) rs)) ≡
            Some h.row
        go true q k = q
        go false q k = k q

granted : (Under : GrantNo → Type 0) (c : ClientId) (ino : ℕ) (l : Locks) (d : ClientId) (life : Life) (i : ℕ) (mode : Mode) →
    (d.0 ≢ c.0) ⊎ (ino ≢ i) → RowStands Under c ino l →
    RowStands Under c ino (locks.grant l d life i mode)
granted Under c ino l d life i mode n h =
    stands_same Under c ino l (locks.grant l d life i mode) (go n)
    (λ w j q r. (grant_wait l d life i mode w j).0) h
  where
    go : (d.0 ≢ c.0) ⊎ (ino ≢ i) → row_of (locks.grant l d life i mode) c ino ≡ row_of l c ino
    go (inl y) = grant_other l d life i mode c.0 ino y
    go (inr y) = grant_elsewhere l d life i mode c.0 ino y

queued : (Under : GrantNo → Type 0) (c : ClientId) (ino : ℕ) (l : Locks) (d : ClientId) (life : Life) (i : ℕ) (mode : Mode) →
    d.0 ≢ c.0 → RowStands Under c ino l →
    RowStands Under c ino (locks.queue l d life i mode)
unfolding locks.queue locks.queue_at locks.wait_for
queued Under c ino l d life i mode n h = go (locks.wait_of l d i)
  where
    raised : (w y : Waiter) → (b : Bool) → w ≡ (if b then locks.wait_for mode y else y) →
        (w.client ≡ y.client) × (w.ino ≡ y.ino)
    raised w y true e = (ap (λ (z : Waiter). z.client) e, ap (λ (z : Waiter). z.ino) e)
    raised w y false e = (ap (λ (z : Waiter). z.client) e, ap (λ (z : Waiter). z.ino) e)

    go : (o : Option Waiter) → RowStands Under c ino (locks.queue_at l d life i mode o)
    go None =
        record {
          row = h.row;
          is = h.is;
          exclusive = h.exclusive;
          under = h.under;
          unwaited = λ w j q r. by w q r
              (has_append l.waiters (locks.new_wait d life i mode ∷ []) w j);
        }
      where
        by : (w : Waiter) → w.client ≡ c → w.ino ≡ ino →
            Has w l.waiters ⊎ Has w (locks.new_wait d life i mode ∷ []) → ⊥
        by w q r (inl j) = h.unwaited w j q r
        by w q r (inr (inl e)) = n
            (ap (λ (x : ClientId). x.0) (sym (ap (λ (z : Waiter). z.client) e) ∙ q))
        by w q r (inr (inr e)) = e
    go (Some v) =
        record {
          row = h.row;
          is = h.is;
          exclusive = h.exclusive;
          under = h.under;
          unwaited =
              λ w j q r.
              let z = has_map (locks.raise d i mode) l.waiters w j in
              let y = raised w z.0 (locks.is_wait_of d i z.0) z.2 in
              h.unwaited z.0 z.1 (sym y.0 ∙ q) (sym y.1 ∙ r);
        }

released : (Under : GrantNo → Type 0) (c : ClientId) (ino : ℕ) (l : Locks) (d : ClientId) (i : ℕ) (to : Mode) → d.0 ≢ c.0 →
    RowStands Under c ino l → RowStands Under c ino (locks.release_to l d i to)
unfolding locks.release_to locks.lowered
released Under c ino l d i to n h = go to
  where
    lower : RowStands Under c ino (record l { rows = map (locks.lower d i) l.rows })
    lower =
        stands_map Under c ino l (record l { rows = map (locks.lower d i) l.rows }) (locks.lower d i) refl
        refl
        (λ r. cond_either (λ (y : LockRow). is_row_of c ino y ≡ is_row_of c ino r) (is_row_of d i r)
        (locks.lowered r) r (λ e. refl) (λ e. refl))
        (λ r q. cond_either (λ (y : LockRow). y.mode ≡ r.mode) (is_row_of d i r) (locks.lowered r) r
        (λ e. clash e (row_not d c.0 ino i n r q)) (λ e. refl))
        (λ r. cond_either (λ (y : LockRow). y.g ≡ r.g) (is_row_of d i r) (locks.lowered r) r
        (λ e. refl) (λ e. refl)) h

    go : (to : Mode) → RowStands Under c ino (locks.release_to l d i to)
    go modes.None =
        stands_same Under c ino l (record l { rows = locks.without_row d i l.rows })
        (find_kept (is_row_of c ino) (λ r. not (is_row_of d i r))
        (λ r e. ap not (row_not d c.0 ino i n r e)) l.rows) (λ w j q r. j) h
    go modes.S = lower
    go modes.X = lower

-- The rule for a request of another client.
module _ (Under : GrantNo → Type 0) (c : ClientId) (ino : ℕ) (now : Stamp) (t : ServerTurn) (h : Header)
    (n : (sender h).0 ≢ c.0) (st : RowStands Under c ino t.state.locks) where
  gets : (grants : Bool) (i : ℕ) (mode : Mode) (a : locks.Acquired) →
      Gets grants t.state.locks (sender h) (life_in h) i mode a → RowStands Under c ino a.locks
  gets grants i mode _ (AtOnce on free first) =
      granted Under c ino t.state.locks (sender h) (life_in h) i mode (inl n) st
  gets grants i mode _ (InTurn held) = queued Under c ino t.state.locks (sender h) (life_in h) i mode n st

  ruled : (m : Body) (u : ServerTurn) (b : Body) → Ruled now t h m u b →
      RowStands Under c ino u.state.locks
  unfolding sv.cut_whole sv.cut_pages
  ruled m u b (edits.Tells _ _ k) = st
  ruled m u b (edits.Acquires i mode a f k g) = gets (sv.grants_now t now) i mode a g
  ruled m u b (edits.Releases i g to r e f) = released Under c ino t.state.locks (sender h) i to n st
  ruled m u b (edits.Allocates i g p count y f q e) = st
  ruled m u b (edits.Cuts i g p f q) = st
  ruled m u b (edits.Creates dir x d e) = st
  ruled m u b (edits.MakesDir dir x d e) = st
  ruled m u b (edits.Renames dir x dir2 x2 d e) = st
  ruled m u b (edits.RemovesDir dir x g i d l k z e q) = st
  ruled m u b (edits.RemovesFile dir x g i d l k z e q) = file_dropped Under c ino t.state.locks d.ino st

rule_sessions : (now : Stamp) (t : ServerTurn) (h : Header) (m : Body) (u : ServerTurn) (b : Body) →
    Ruled now t h m u b → u.state.sessions ≡ t.state.sessions
unfolding sv.cut_whole sv.cut_pages
rule_sessions now t h m u b (edits.Tells _ _ k) = refl
rule_sessions now t h m u b (edits.Acquires i mode a f k g) = refl
rule_sessions now t h m u b (edits.Releases i g to r e f) = refl
rule_sessions now t h m u b (edits.Allocates i g p count y f q e) = refl
rule_sessions now t h m u b (edits.Cuts i g p f q) = refl
rule_sessions now t h m u b (edits.Creates dir x d e) = refl
rule_sessions now t h m u b (edits.MakesDir dir x d e) = refl
rule_sessions now t h m u b (edits.Renames dir x dir2 x2 d e) = refl
rule_sessions now t h m u b (edits.RemovesDir dir x g i d l k z e q) = refl
rule_sessions now t h m u b (edits.RemovesFile dir x g i d l k z e q) = refl

store_other : (t : sessions.Sessions) (d c : ClientId) (number : ℕ) (b : Body) → d.0 ≢ c.0 →
    sessions.session_of (sessions.store t d number b) c ≡ sessions.session_of t c
unfolding sessions.store sessions.keep_reply
store_other t d c number b n =
    find_other (sessions.is_session_of c) (sessions.is_session_of d) (sessions.keep_reply number b)
    (λ s. refl) (λ s e. is_not d.0 c.0 s.client.0 n e) t.rows

-- A session that is ended, or of a greater life.
ended_behind : (o : Option Session) (life j k : ℕ) → IsBehind o life j →
    IsBehind (option_map sessions.ended o) life k
unfolding sessions.ended
ended_behind None life j k h = h
ended_behind (Some s) life j k (inl l) = inl l
ended_behind (Some s) life j k (inr r) = inr (r.0, tt)

lower_life : (o : Option Session) (l life j k : ℕ) → life < l → IsBehind o l j → IsBehind o life k
lower_life None l life j k q h = h
lower_life (Some s) l life j k q (inl r) = inl (omega (arith, q, r))
lower_life (Some s) l life j k q (inr r) = inl (let z = r.0 in omega (arith, q, z))

-- A step of a server that runs: the requests of the client before this number were served.
module _ (x : ServerState) (now : Stamp) (i : ServerInput) (Under : GrantNo → Type 0) (c : ClientId) (ino life low number : ℕ)
    (before : IsBehind (sessions.session_of x.sessions c) life low) (fit : number ≤ low + 1)
    (new : InputNew (thefts (turn x []) now) now i) where
  abbrev its : ServerTurn → Option Session
  its t = sessions.session_of t.state.sessions c

  abbrev Past : ServerTurn → Type 0
  Past t = IsBehind (its t) life number

  -- before the input, and after it
  abbrev P : ServerTurn → Type 0
  P t = Past t ⊎ ((its t ≡ sessions.session_of x.sessions c) × RowStands Under c ino t.state.locks)

  abbrev Q : ServerTurn → Type 0
  Q t = Past t ⊎ RowStands Under c ino t.state.locks

  becomes : (t : ServerTurn) → P t → Q t
  becomes t (inl p) = inl p
  becomes t (inr p) = inr p.1

  had : (t : ServerTurn) → P t → (j : ℕ) × IsBehind (its t) life j × (number ≤ j + 1)
  had t (inl p) = (number, p, omega arith)
  had t (inr p) = (low, subst (λ o. IsBehind o life low) (sym p.0) before, fit)

  -- the session of the client, of this life or a greater one
  there : (t : ServerTurn) → P t → (s : Session) × (its t ≡ Some s) × (life ≤ s.life.0)
  there t p = let z = had t p in go z.0 (its t) refl z.1
    where
      go : (j : ℕ) (o : Option Session) → its t ≡ o → IsBehind o life j →
          (s : Session) × (its t ≡ Some s) × (life ≤ s.life.0)
      go j None e h = absurd h
      go j (Some s) e (inl l) = (s, e, omega (arith, l))
      go j (Some s) e (inr r) = (s, e, let z = r.0 in omega (arith, z))

  steals : (t u : ServerTurn) → Edit x now i AtThefts t u → P t → P u
  unfolding steal_from
  steals t u (TakesTimers _ e) p = p
  steals t u (Steals _ d s h e) p = go (same_or_not d.0 c.0)
    where
      go : (d.0 ≡ c.0) ⊎ (d.0 ≢ c.0) → P (steal_from t d s)
      go (inl q) =
          let z = had t p in
          inl (subst (λ o. IsBehind o life number) (sym (end_own t.state.sessions d c.0 q))
          (ended_behind (its t) life z.0 number z.1))
      go (inr n) = by p
        where
          by : P t → P (steal_from t d s)
          by (inl k) =
              inl (subst (λ o. IsBehind o life number) (sym (end_other t.state.sessions d c.0 n)) k)
          by (inr k) =
              inr (end_other t.state.sessions d c.0 n ∙ k.0, forgotten Under c ino t.state.locks d n k.1)

  -- another session of a client
  module _ (t : ServerTurn) (p : P t) (y : Session)
      (lower : (s : Session) → sessions.session_of t.state.sessions y.client ≡ Some s →
      s.life.0 < y.life.0) where
    mine : y.client.0 ≡ c.0 → IsBehind
        (sessions.session_of (sessions.with_session y t.state.sessions) c) life number
    mine q =
        let z = there t p in
        let l = lower z.0
        (subst (λ (d : ClientId). sessions.session_of t.state.sessions d ≡ Some z.0)
        (sym (client_is y.client c (eq-eqb y.client.0 c.0 q))) z.1) in
        let k = z.2 in
        subst (λ o. IsBehind o life number) (sym (session_own t.state.sessions y c.0 q))
        (inl (omega (arith, l, k)))

    begins : (l : Locks) → (RowStands Under c ino t.state.locks → RowStands Under c ino l) →
        IsBehind (sessions.session_of (sessions.with_session y t.state.sessions) c) life number ⊎
        RowStands Under c ino l
    begins l f = go (same_or_not y.client.0 c.0)
      where
        go : (y.client.0 ≡ c.0) ⊎ (y.client.0 ≢ c.0) →
            IsBehind (sessions.session_of (sessions.with_session y t.state.sessions) c) life number
            ⊎ RowStands Under c ino l
        go (inl q) = inl (mine q)
        go (inr n) = by p
          where
            by : P t → IsBehind (sessions.session_of (sessions.with_session y t.state.sessions) c)
                life number ⊎ RowStands Under c ino l
            by (inl k) =
                inl (subst (λ o. IsBehind o life number)
                (sym (session_other t.state.sessions y c.0 n)) k)
            by (inr k) = inr (f k.1)

  -- who reasserts had no session of this life, or a greater one
  unknown : (t : ServerTurn) (m : Message) (rows : List (ℕ × GrantNo × Mode)) →
      Reasserted x now i t m rows → grace.is_on t.state.grace now ≡ true →
      (y : Session) → sessions.session_of t.state.sessions (sender m.header) ≡ Some y →
      y.life.0 < m.header.life
  unknown t m rows r on y e =
      go (or_false (nat_lt m.header.life y.life.0) _
      (subst (λ o. sessions.knows_at o (life_in m.header) ≡ false) e r.new))
      (same_or_not y.life.0 m.header.life)
    where
      came : edits.Came x now i t m
      came = r.asked.heard.came

      finds : FindsNew t now m.header (bodies.Reassert rows)
      finds =
          subst (FindsNew t now m.header) r.asks
          (subst (λ (z : ServerTurn). FindsNew z now m.header m.body) (sym came.first)
          (subst (InputNew (thefts (turn x []) now) now) came.is new))

      go : (nat_lt m.header.life y.life.0 ≡ false) ×
          ((sessions.is_live y && (m.header.life == y.life.0)) ≡ false) →
          (y.life.0 ≡ m.header.life) ⊎ (y.life.0 ≢ m.header.life) → y.life.0 < m.header.life
      go (p, q) (inl k) =
          clash
          (and_both (sessions.is_live y) (m.header.life == y.life.0) (finds on y e k)
          (eq-eqb m.header.life y.life.0 (sym k))) q
      go (p, q) (inr n) = let l = ltb-false m.header.life y.life.0 p in omega (arith, l, n)

  -- a request is served
  serves : (t : ServerTurn) (m : Message) (v : ServerTurn) (b : Body) → Served x now i t m →
      Ruled now t m.header m.body v b → P t → Q (keep_and_reply v m.header b)
  unfolding keep_and_reply reply
  serves t m v b s r p = go (same_or_not (sender m.header).0 c.0)
    where
      kept : v.state.sessions ≡ t.state.sessions
      kept = rule_sessions now t m.header m.body v b r

      z : edits.InLife t m.header
      z = s.in_life

      found : sessions.session_of v.state.sessions (sender m.header) ≡ Some z.session
      found = ap (λ (y : sessions.Sessions). sessions.session_of y (sender m.header)) kept ∙ z.is

      next : FreshState m.header.number z.session.state
      next = record { last = z.last; reply = z.old; is = z.state; next = s.next }

      after : sessions.Sessions
      after = sessions.store v.state.sessions (sender m.header) m.header.number b

      reached : IsBehind (sessions.session_of after (sender m.header)) z.session.life.0
          m.header.number
      reached = stored_reached v.state.sessions (sender m.header) m.header.number b z.session found
          next

      mine : (j : ℕ) → number ≤ j + 1 → IsBehind (Some z.session) life j →
          IsBehind (sessions.session_of after (sender m.header)) life number
      mine j l (inl k) = lower_life (sessions.session_of after (sender m.header)) z.session.life.0
          life m.header.number number k reached
      mine j l (inr k) =
          behind_less (sessions.session_of after (sender m.header)) life m.header.number number
          (let y = subst (Reached j) z.state k.1 in let q = s.next in omega (arith, y, q, l))
          (subst (λ n. IsBehind (sessions.session_of after (sender m.header)) n m.header.number)
          (sym k.0) reached)

      go : ((sender m.header).0 ≡ c.0) ⊎ ((sender m.header).0 ≢ c.0) →
          Q (keep_and_reply v m.header b)
      go (inl q) =
          let d : sender m.header ≡ c =
          client_is (sender m.header) c (eq-eqb (sender m.header).0 c.0 q) in
          let h = had t p in
          inl (subst (λ (e : ClientId). IsBehind (sessions.session_of after e) life number) d
          (mine h.0 h.2
          (subst (λ o. IsBehind o life h.0)
          (ap (sessions.session_of t.state.sessions) (sym d) ∙ z.is) h.1)))
      go (inr n) = by p
        where
          others : sessions.session_of after c ≡ its t
          others = store_other v.state.sessions (sender m.header) c m.header.number b n ∙
              ap (λ (y : sessions.Sessions). sessions.session_of y c) kept

          by : P t → Q (keep_and_reply v m.header b)
          by (inl k) = inl (subst (λ o. IsBehind o life number) (sym others) k)
          by (inr k) = inr (ruled Under c ino now t m.header n k.1 m.body v b r)

  takes : (t u : ServerTurn) → Edit x now i AtInput t u → P t → Q u
  unfolding reply suspect_client sessions.reasserted
  takes t u (Welcomes _ m y g e a f) p = becomes t p
  takes t u (Begins _ m g f) p = begins t p
      (sessions.new_session (sender m.header) (life_in m.header)) (λ s e. (f s e).1) t.state.locks
      (λ k. k)
  takes t u (Replaces _ m y g e a f r) p =
      begins t p (sessions.new_session (sender m.header) (life_in m.header))
      (λ s q. subst (λ (v : Session). v.life.0 < m.header.life) (some_is (sym e ∙ q)) f)
      (locks.drop_waits t.state.locks (sender m.header))
      (dropped Under c ino t.state.locks (sender m.header))
  takes t u (PutsOff _ m y g e a f r) p = go p
    where
      go : P t → Past t ⊎ RowStands Under c ino (locks.drop_waits t.state.locks (sender m.header))
      go (inl k) = inl k
      go (inr k) = inr (dropped Under c ino t.state.locks (sender m.header) k.1)
  takes t u (Sees _ m j g h b e) p = go p
    where
      go : P t → Past t ⊎ RowStands Under c ino (locks.demand_seen t.state.locks (sender m.header) j g)
      go (inl k) = inl k
      go (inr k) = inr (observed Under c ino t.state.locks (sender m.header) j g k.1)
  takes t u (Reasserts _ m rows r on f) p =
      begins t p (sessions.reasserted_session (sender m.header) (life_in m.header))
      (unknown t m rows r on)
      (locks.with_rows t.state.locks (sender m.header) (life_in m.header) rows)
      (installed Under c ino t.state.locks (sender m.header) (life_in m.header) rows)
  takes t u (Serves _ m v b y e r) p = serves t m v b y r p
  takes t u (Repeats _ m y b a e f g z) p = becomes t p
  takes t u (Refuses _ m b r) p = becomes t p

  suspects : (t u : ServerTurn) → Edit x now i AtSuspicion t u → Q t → Q u
  unfolding suspect_client
  suspects t u (Suspects _ d r is q f h e o) (inl k) = inl k
  suspects t u (Suspects _ d r is q f h e o) (inr k) = inr (dropped Under c ino t.state.locks d k)

  grants : (t u : ServerTurn) → Edit x now i AtGrants t u → Q t → Q u
  unfolding tell
  grants t u (Grants _ w off h e f) (inl k) = inl k
  grants t u (Grants _ w off h e f) (inr k) =
      inr (granted Under c ino t.state.locks w.client w.life w.ino w.mode
      (go (same_or_not w.client.0 c.0) (same_or_not ino w.ino)) k)
    where
      go : (w.client.0 ≡ c.0) ⊎ (w.client.0 ≢ c.0) → (ino ≡ w.ino) ⊎ (ino ≢ w.ino) →
          (w.client.0 ≢ c.0) ⊎ (ino ≢ w.ino)
      go (inr n) z = inl n
      go (inl q) (inr n) = inr n
      go (inl q) (inl z) =
          absurd (k.unwaited w h (client_is w.client c (eq-eqb w.client.0 c.0 q)) (sym z))

  demands : (t u : ServerTurn) → Edit x now i AtDemands t u → Q t → Q u
  unfolding tell
  demands t u (Demands _ w r y e h f o d) (inl k) = inl k
  demands t u (Demands _ w r y e h f o d) (inr k) = inr (demanded Under c ino t.state.locks r y k)

  -- right after the thefts
  pub row_behind : RowStands Under c ino x.locks → P (thefts (turn x []) now)
  row_behind h = walk_of_thefts x now i P steals (inr (refl, h))

  pub row_stays : RowStands Under c ino x.locks → Q (server_step x now i)
  row_stays h = walk_in_two x now i P Q steals becomes takes suspects grants demands (inr (refl, h))
