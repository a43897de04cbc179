-- Each row, each wait and each timer belongs to a client that has a session: what a whole step keeps.
use Rattle.st_lemmas.proofs.Words
use Words.{◌≡◌, ℕ, ◌⊎◌, Bool, true, false, ◌&&◌, List, [], ◌∷◌, ◌==◌, if◌then◌else◌, refl, sym, ap, ◌∙◌, subst, inl, inr, cond, find, filter, map, Option, Some}
use Words.{None, is_some, option_map, eq-eqb, eqb-true, ClientId, GrantNo, Life, Stamp, Mode, Body, Suspect, ServerInput, LockRow, RowDemand, Waiter, Session}
use Words.modes
use Words.Keys.{put}
use Words.Locks as locks
use Words.Locks.{Locks, is_row_of, is_wait_of, wait_of, grant, queue, queue_at, raise, new_wait, wait_for, lowered, lower, release_to, observe, answered_row}
use Words.Locks.{demanded, demand_of, with_demand, installed, with_rows}
use Words.Sessions as sessions
use Words.Sessions.{Sessions, session_of, is_session_of}
use Words.Authority as authority
use Words.Server.{ServerState, ServerTurn, sender, life_in, reply, tell, steal_from, suspect_client, keep_and_reply, server_step}
use Words.Lists.{Has}
use Words.Tables.{cond_either, cond_true, cond_false, find_map, has_append, has_filter, has_map}
use Words.Serving.{has_suspect}
use Rattle.st_lemmas.proofs.Puts.{find_put, has_put}
use Rattle.st_laws_refine.specs.Server.Edits.{WishInput, KnownClient, Acquired, AtOnce, InTurn, Edit, TakesTimers, Steals, Suspects, Begins, DropsWaits, Keeps}
use Rattle.st_laws_refine.specs.Server.Edits.{Reasserts, Sees, Acquires, Releases, DropsFile, Grants, Demands, NamesChange, ExtentsChange, Cuts, Replies}
use Rattle.st_laws_refine.specs.Server.Edits.{Repeats, Refuses, TellsGrant, TellsDemand}
use Rattle.st_laws_refine.specs.Server.Invariants.{Known}
use Rattle.st_laws_refine.proofs.Server.Walk.{walk}

-- the client has a session
abbrev pub There : Sessions → ClientId → Type 0
There t c = is_some (session_of t c) ≡ true

-- sessions stay: one more, or each changed in place
in_rows : (s : Session) (c : ClientId) (xs : List Session) → is_some (find (is_session_of c) xs) ≡ true →
    is_some (find (is_session_of c) (put (is_session_of s.client) s xs)) ≡ true
unfolding put
in_rows s c [] h = cc
in_rows s c (x ∷ xs) h = go (is_session_of s.client x) (is_session_of c x) refl refl h (in_rows s c xs)
  where
    same : is_session_of s.client x ≡ true → is_session_of c x ≡ true → is_session_of c s ≡ true
    same e f = eq-eqb _ _ (sym (eqb-true _ _ e) ∙ eqb-true _ _ f)

    go : (a b : Bool) → is_session_of s.client x ≡ a → is_session_of c x ≡ b → is_some (cond b (Some x) (find (is_session_of c) xs)) ≡ true →
        (is_some (find (is_session_of c) xs) ≡ true → is_some (find (is_session_of c) (put (is_session_of s.client) s xs)) ≡ true) →
        is_some (find (is_session_of c) (if a then s ∷ xs else x ∷ put (is_session_of s.client) s xs)) ≡ true
    go true true e f h i = ap is_some (cond_true _ _ _ (same e f))
    go true false e f h i = cond_either (λ o. is_some o ≡ true) (is_session_of c s) (Some s) (find (is_session_of c) xs) (λ g. refl) (λ g. h)
    go false true e f h i = ap is_some (cond_true _ _ _ f)
    go false false e f h i = ap is_some (cond_false _ _ _ f) ∙ i h

there_put : (t : Sessions) (s : Session) (c : ClientId) → There t c → There (sessions.with_session s t) c
there_put t s c h = in_rows s c t.rows h

there_own : (t : Sessions) (s : Session) → There (sessions.with_session s t) s.client
there_own t s = ap is_some (find_put (is_session_of s.client) s t.rows (eq-eqb s.client.0 s.client.0 refl))

there_map : (f : Session → Session) (t : Sessions) (c : ClientId) → ((x : Session) → (f x).client ≡ x.client) → There t c →
    There (record t { rows = map f t.rows }) c
there_map f t c k h = ap is_some (find_map (is_session_of c) f (λ x j. (k x j).0 == c.0) t.rows) ∙ mapped (session_of t c) h
  where
    mapped : (o : Option Session) → is_some o ≡ true → is_some (option_map f o) ≡ true
    mapped None e = cc
    mapped (Some s) e = refl

pub there_end : (t : Sessions) (c d : ClientId) → There t d → There (sessions.end t c) d
unfolding sessions.end sessions.ended
there_end t c d h =
    there_map (sessions.end_of c) t d (λ x. cond_either (λ (y : Session). y.client ≡ x.client) (is_session_of c x) (sessions.ended x) x (λ e. refl) (λ e. refl))
    h

there_store : (t : Sessions) (c : ClientId) (number : ℕ) (b : Body) (d : ClientId) → There t d → There (sessions.store t c number b) d
unfolding sessions.store sessions.keep_reply
there_store t c number b d h = there_map (sessions.keep_of c number b) t d
    (λ x. cond_either (λ (y : Session). y.client ≡ x.client) (is_session_of c x) (sessions.keep_reply number b x) x (λ e. refl) (λ e. refl)) h

-- a change of rows or waits that leaves each one's client
rows_filter : (t : Sessions) (q : LockRow → Bool) (rows : List LockRow) → ((r : LockRow) → Has r rows → There t r.client) → (r : LockRow) →
    Has r (filter q rows) → There t r.client
rows_filter t q rows k r h = k r (has_filter q rows r h).0

rows_map : (t : Sessions) (f : LockRow → LockRow) (rows : List LockRow) → ((r : LockRow) → (f r).client ≡ r.client) →
    ((r : LockRow) → Has r rows → There t r.client) → (r : LockRow) → Has r (map f rows) → There t r.client
rows_map t f rows c k r h = let m = has_map f rows r h in subst (λ (y : LockRow). There t y.client) (sym m.2) (subst (There t) (sym (c m.0)) (k m.0 m.1))

waits_filter : (t : Sessions) (q : Waiter → Bool) (ws : List Waiter) → ((w : Waiter) → Has w ws → There t w.client) → (w : Waiter) → Has w (filter q ws) →
    There t w.client
waits_filter t q ws k w h = k w (has_filter q ws w h).0

-- the table's changes
record TableKnown (t : Sessions) (l : Locks) : Type 0 where
  rows : (r : LockRow) → Has r l.rows → There t r.client
  waits : (w : Waiter) → Has w l.waiters → There t w.client

known_after_forget : (t : Sessions) (l : Locks) (c : ClientId) → TableKnown t l → TableKnown t (locks.forget l c)
unfolding locks.forget
known_after_forget t l c k = record { rows = rows_filter t _ l.rows k.rows; waits = waits_filter t _ l.waiters k.waits }

known_after_drop : (t : Sessions) (l : Locks) (c : ClientId) → TableKnown t l → TableKnown t (locks.drop_waits l c)
unfolding locks.drop_waits
known_after_drop t l c k = record { rows = k.rows; waits = waits_filter t _ l.waiters k.waits }

known_after_file : (t : Sessions) (l : Locks) (ino : ℕ) → TableKnown t l → TableKnown t (locks.drop_file_waits l ino)
unfolding locks.drop_file_waits
known_after_file t l ino k = record { rows = k.rows; waits = waits_filter t _ l.waiters k.waits }

known_after_seen : (t : Sessions) (l : Locks) (c : ClientId) (ino : ℕ) (g : GrantNo) → TableKnown t l → TableKnown t (locks.demand_seen l c ino g)
unfolding locks.demand_seen answered_row
known_after_seen t l c ino g k =
    record {
      rows =
          rows_map t (observe c ino g) l.rows
          (λ r. cond_either (λ (x : LockRow). x.client ≡ r.client) (is_row_of c ino r && (r.g.0 == g.0)) (answered_row r) r (λ e. refl) (λ e. refl)) k.rows;
      waits =
          k.waits;
    }

known_after_demanded : (t : Sessions) (l : Locks) (y : LockRow) (x : RowDemand) → TableKnown t l → TableKnown t (with_demand y x l)
unfolding demanded
known_after_demanded t l y x k =
    record {
      rows = rows_map t (demand_of y.client y.ino x) l.rows
          (λ r. cond_either (λ (z : LockRow). z.client ≡ r.client) (is_row_of y.client y.ino r) (demanded x r) r (λ e. refl) (λ e. refl)) k.rows;
      waits = k.waits;
    }

known_after_released : (t : Sessions) (l : Locks) (c : ClientId) (ino : ℕ) (to : Mode) → TableKnown t l → TableKnown t (release_to l c ino to)
unfolding release_to lowered
known_after_released t l c ino modes.None k = record { rows = rows_filter t _ l.rows k.rows; waits = k.waits }
known_after_released t l c ino modes.S k =
    record {
      rows = rows_map t (lower c ino) l.rows (λ r. cond_either (λ (z : LockRow). z.client ≡ r.client) (is_row_of c ino r) (lowered r) r (λ e. refl) (λ e. refl))
          k.rows;
      waits = k.waits;
    }
known_after_released t l c ino modes.X k =
    record {
      rows = rows_map t (lower c ino) l.rows (λ r. cond_either (λ (z : LockRow). z.client ≡ r.client) (is_row_of c ino r) (lowered r) r (λ e. refl) (λ e. refl))
          k.rows;
      waits = k.waits;
    }

known_after_grant : (t : Sessions) (l : Locks) (c : ClientId) (life : Life) (ino : ℕ) (mode : Mode) → There t c → TableKnown t l →
    TableKnown t (grant l c life ino mode)
unfolding grant
known_after_grant t l c life ino mode h k =
    record { rows = λ r i. go r (has_put (is_row_of c ino) (locks.new_row l c life ino mode) l.rows r i); waits = waits_filter t _ l.waiters k.waits }
  where
    go : (r : LockRow) → (r ≡ locks.new_row l c life ino mode) ⊎ Has r l.rows → There t r.client
    go r (inl e) = subst (λ (y : LockRow). There t y.client) (sym e) h
    go r (inr i) = k.rows r i

known_after_queue : (t : Sessions) (l : Locks) (c : ClientId) (life : Life) (ino : ℕ) (mode : Mode) → There t c → TableKnown t l →
    TableKnown t (queue l c life ino mode)
unfolding queue queue_at wait_for
known_after_queue t l c life ino mode h k = at (wait_of l c ino)
  where
    last : (w : Waiter) → Has w l.waiters ⊎ Has w (new_wait c life ino mode ∷ []) → There t w.client
    last w (inl i) = k.waits w i
    last w (inr (inl e)) = subst (λ (y : Waiter). There t y.client) (sym e) h
    last w (inr (inr i)) = elim i [ ]

    at : (o : Option Waiter) → TableKnown t (queue_at l c life ino mode o)
    at None = record { rows = k.rows; waits = λ w i. last w (has_append l.waiters (new_wait c life ino mode ∷ []) w i) }
    at (Some v) = record {
      rows = k.rows;
      waits = λ w i. let m = has_map (raise c ino mode) l.waiters w i in
          subst (λ (y : Waiter). There t y.client) (sym m.2)
          (cond_either (λ (y : Waiter). There t y.client) (is_wait_of c ino m.0) (wait_for mode m.0) m.0 (λ e. k.waits m.0 m.1) (λ e. k.waits m.0 m.1));
    }

known_after_acquired : (t : Sessions) (g : Bool) (l : Locks) (c : ClientId) (life : Life) (ino : ℕ) (mode : Mode) (v : Locks) → There t c →
    Acquired g l c life ino mode v → TableKnown t l → TableKnown t v
known_after_acquired t g l c life ino mode v h (AtOnce off w f nobody) k = known_after_grant t l c life ino mode h k
known_after_acquired t g l c life ino mode v h (InTurn w) k = known_after_queue t l c life ino mode h k

known_after_rows : (t : Sessions) (l : Locks) (c : ClientId) (life : Life) (rs : List (ℕ × GrantNo × Mode)) → There t c → TableKnown t l →
    TableKnown t (with_rows l c life rs)
unfolding with_rows
known_after_rows t l c life rs h k = record { rows = λ r i. go r (has_append l.rows (map (installed c life) rs) r i); waits = k.waits }
  where
    go : (r : LockRow) → Has r l.rows ⊎ Has r (map (installed c life) rs) → There t r.client
    go r (inl i) = k.rows r i
    go r (inr i) = let m = has_map (installed c life) rs r i in subst (λ (y : LockRow). There t y.client) (sym m.2) h

-- more sessions
known_after_weaker : (t v : Sessions) (l : Locks) → ((c : ClientId) → There t c → There v c) → TableKnown t l → TableKnown v l
known_after_weaker t v l m k = record { rows = λ r i. m r.client (k.rows r i); waits = λ w i. m w.client (k.waits w i) }

-- a step so far
record KnownTurn (t : ServerTurn) : Type 0 where
  table : TableKnown t.state.sessions t.state.locks
  timers : (x : Suspect) → Has x t.state.authority.suspects → There t.state.sessions x.client

met_client : (t : ServerTurn) (c : ClientId) → KnownClient t.state c → KnownTurn t → There t.state.sessions c
met_client t c (inl e) k = e
met_client t c (inr r) k = subst (There t.state.sessions) r.2 (k.table.rows r.0 r.1)

timer_more : (a : authority.Authority) (c : ClientId) (now : Stamp) (t : Sessions) → There t c → ((x : Suspect) → Has x a.suspects → There t x.client) →
    (x : Suspect) → Has x (authority.suspect a c now).suspects → There t x.client
unfolding authority.suspect authority.start_timer
timer_more a c now t h k x i = by (authority.may_ack a c) i
  where
    go : (x ≡ authority.new_suspect c now) ⊎ Has x a.suspects → There t x.client
    go (inl e) = subst (λ (y : Suspect). There t y.client) (sym e) h
    go (inr j) = k x j

    by : (b : Bool) → Has x (if b then record a { suspects = authority.with_suspect (authority.new_suspect c now) a.suspects } else a).suspects →
        There t x.client
    by true i = go (has_suspect (authority.new_suspect c now) a.suspects x i)
    by false i = k x i

timer_less : (a : authority.Authority) (now : Stamp) (x : Suspect) → Has x (authority.still_running a now).suspects → Has x a.suspects
unfolding authority.still_running
timer_less a now x h = (has_filter _ a.suspects x h).0

known_edit : (n : ServerState) (now : Stamp) (i : ServerInput) (t u : ServerTurn) → Edit n now i t u → KnownTurn t → KnownTurn u
unfolding steal_from suspect_client keep_and_reply reply tell sessions.reasserted
known_edit n now i t u (TakesTimers _ first) o = record { table = o.table; timers = λ x h. o.timers x (timer_less t.state.authority now x h) }
known_edit n now i t u (Steals _ c s h e) o =
    let m : (d : ClientId) → There t.state.sessions d → There (sessions.end t.state.sessions c) d = there_end t.state.sessions c in
    record {
      table = known_after_weaker t.state.sessions _ _ m (known_after_forget t.state.sessions t.state.locks c o.table);
      timers =
          λ x j. m x.client (o.timers x j);
    }
known_edit n now i t u (Suspects _ c q f z) o = record {
  table = known_after_drop t.state.sessions t.state.locks c o.table;
  timers =
      timer_more t.state.authority c now t.state.sessions (met_client t c z o) o.timers;
}
known_edit n now i t u (Begins _ c life) o =
    let m : (d : ClientId) → There t.state.sessions d →
    There (sessions.with_new_session c life t.state.sessions) d = there_put t.state.sessions (sessions.new_session c life) in
    record { table = known_after_weaker t.state.sessions _ _ m o.table; timers = λ x j. m x.client (o.timers x j) }
known_edit n now i t u (DropsWaits _ m s is b e lower) o =
    record { table = known_after_drop t.state.sessions t.state.locks (sender m.header) o.table; timers = o.timers }
known_edit n now i t u (Keeps _ c number b e) o =
    let m : (d : ClientId) → There t.state.sessions d → There (sessions.store t.state.sessions c number b) d = there_store t.state.sessions c number b in
    record { table = known_after_weaker t.state.sessions _ _ m o.table; timers = λ x j. m x.client (o.timers x j) }
known_edit n now i t u (Reasserts _ m rows is w g f) o =
    let s = sessions.reasserted_session (sender m.header) (life_in m.header) in
    let mo : (d : ClientId) → There t.state.sessions d → There (sessions.with_session s t.state.sessions) d = there_put t.state.sessions s in
    record {
      table = known_after_rows _ t.state.locks (sender m.header) (life_in m.header) rows (there_own t.state.sessions s)
          (known_after_weaker t.state.sessions _ _ mo o.table);
      timers = λ x j. mo x.client (o.timers x j);
    }
known_edit n now i t u (Sees _ m ino g is fi b) o = record
    { table = known_after_seen t.state.sessions t.state.locks (sender m.header) ino g o.table; timers = o.timers }
known_edit n now i t u (Acquires _ m ino mode l b s is fi eb es el ok k a) o =
    let mo : (d : ClientId) → There t.state.sessions d →
    There (sessions.store t.state.sessions (sender m.header) m.header.number b) d = there_store t.state.sessions (sender m.header) m.header.number b in
    record {
      table = known_after_weaker t.state.sessions _ _ mo
          (known_after_acquired t.state.sessions _ t.state.locks (sender m.header) (life_in m.header) ino mode l (ap is_some es) a o.table);
      timers =
          λ x j. mo x.client (o.timers x j);
    }
known_edit n now i t u (Releases _ m ino g to r is fi b er eu) o =
    record { table = known_after_released t.state.sessions t.state.locks (sender m.header) ino to o.table; timers = o.timers }
known_edit n now i t u (DropsFile _ m dir name g ino is b e) o =
    record { table = known_after_file t.state.sessions t.state.locks ino o.table; timers = o.timers }
known_edit n now i t u (Grants _ w off h first f) o = record
    { table = known_after_grant t.state.sessions t.state.locks w.client w.life w.ino w.mode (o.table.waits w h) o.table; timers = o.timers }
known_edit n now i t u (Demands _ r x to er ed) o = record { table = known_after_demanded t.state.sessions t.state.locks r x o.table; timers = o.timers }
known_edit n now i t u (NamesChange _ v) o = record { table = o.table; timers = o.timers }
known_edit n now i t u (ExtentsChange _ v) o = record { table = o.table; timers = o.timers }
known_edit n now i t u (Cuts _ f p) o = record { table = o.table; timers = o.timers }
known_edit n now i t u (Replies _ m b is ok) o = record { table = o.table; timers = o.timers }
known_edit n now i t u (Repeats _ m s last b is r f e g) o = record { table = o.table; timers = o.timers }
known_edit n now i t u (Refuses _ m rows r is f g e) o = record { table = o.table; timers = o.timers }
known_edit n now i t u (TellsGrant _ c life ino g mode) o = record { table = o.table; timers = o.timers }
known_edit n now i t u (TellsDemand _ c life ino g mode) o = record { table = o.table; timers = o.timers }

pub known_step : (n : ServerState) (now : Stamp) (i : ServerInput) → WishInput i → Known n → Known (server_step n now i).state
known_step n now i w k =
    let z = walk n now i KnownTurn (known_edit n now i) w (record { table = record { rows = k.rows; waits = k.waits }; timers = k.timers }) in
    record { rows = z.table.rows; waits = z.table.waits; timers = z.timers }
