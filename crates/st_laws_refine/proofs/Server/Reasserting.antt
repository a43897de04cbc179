-- Kept replies, and reassertion.
use Rattle.st_lemmas.proofs.Words
use Words.{◌≡◌, ◌≢◌, ℕ, ◌+◌, ◌<◌, ◌≤◌, ◌⊎◌, Bool, true, false, ◌&&◌, ◌||◌, List, [], ◌∷◌, ◌==◌, refl, sym, ap, ◌∙◌, subst, inl, inr, arith, lt-ltb, cond}
use Words.{nat_lt, find, filter, map, slice_get, Option, Some, None, is_some, Result as Res, Ok, Err, eq-eqb, ne_eqb, eqb-true, ltb-false, ClientId, GrantNo}
use Words.{Epoch, Life, Stamp, Mode, Header, Body, LockRow, Waiter, Session, SessionState, Taken, AcceptRefusal}
use Words.bodies as bd
use Words.why
use Words.states.{Live, Ended}
use Words.takes
use Words.Keys.{client, least, rising, with_key, placed, past}
use Words.Locks.{Locks, is_row_of, row_of, installed, with_rows, install, install_at, first_conflict, ino_of_row, first_after}
use Words.Sessions as sessions
use Words.Sessions.{Sessions, session_of, is_live, again, take_next, take_from, take_number, take_state, take_past, take_life, take_at, reasserted_session}
use Words.Sessions.{knows_at}
use Words.Authority.{suspect_of}
use Words.Grace as grace
use Words.Grace.{is_new_grant, is_row_below, own_older, accepted, accept_installed, accept_own, accept_earlier, accept_rows, accept}
use Words.Server.{ServerState, ServerTurn, with_locks, with_sessions, sender, life_in, reply, take, refused_reassertion, reassert_by, reassert_new}
use Words.Server.{reassert_again, reassert}
use Words.Lists.{Has}
use Words.Tables.{same_or_not, and_true, and_both, and_left, not_true, cond_either, cond_true, cond_false, found_at, has_map_in, has_filter_in}
use Rattle.std.proofs.lemmas.List.Folds.{find-append}
use Rattle.std.specs.Option.{option_or}
use Rattle.st_base.specs.Mode.{number_of}
use Rattle.st_rules.specs.declared.authority.AcceptRefusal.TheVariants as refusals
use Rattle.st_protocol.specs.Assoc as net
use Rattle.st_protocol.specs.Assoc.{Config, Msg, msg, In, Server, Again, Acks, Accepts, Sweeps, Moves, Stays, GoesOn}
use Rattle.st_laws_refine.specs.Views.Messages.{lock_in_row, lock_in, is_row_on, shown, Shows}
use Rattle.st_laws_refine.specs.Views.Halves.{Ghost, half, row_or, row_view, life_view, live_view}
use Rattle.st_laws_refine.specs.Server.View.{RowOk, AllKept, KeptAt, KeptState, Kept, NotEnded, Sound, Ready}
use Rattle.st_laws_refine.proofs.Server.Changes.{session_other, session_own}
use Rattle.st_laws_refine.proofs.Views.Moves.{one, moved, moves_on, moves_grow, shows_more}
use Rattle.st_laws_refine.proofs.Server.Goes.{said_append, said_more, Frame, observe, Goes, Result, goes_same, goes_then, if_goes, unseen, replies}
use Rattle.st_laws_refine.proofs.Server.Goes.{replies_other}
use Rattle.st_laws_refine.proofs.Server.Greeting.{refused}

-- What a request by life and number tells of the session.
abbrev pub TakeOk : Option Session → ℕ → ℕ → Taken Body → Type 0
TakeOk o life number (takes.Again r) = (s : Session) × (o ≡ Some s) × (s.life.0 ≡ life) × (s.state ≡ Live number (Some r))
TakeOk o life number takes.Fresh = (s : Session) × (o ≡ Some s) × (s.life.0 ≡ life) × (last : ℕ) × (old : Option Body) × (s.state ≡ Live last old) × (number ≡ last + 1)
TakeOk o life number t = Unit {0}

again_ok : (s : Session) (life last : ℕ) (old : Option Body) → s.life.0 ≡ life → s.state ≡ Live last old → TakeOk (Some s) life last (again old)
unfolding again
again_ok s life last None e f = tt
again_ok s life last (Some r) e f = (s, refl, e, f)

number_ok : (s : Session) (life last : ℕ) (old : Option Body) (number : ℕ) → s.life.0 ≡ life → s.state ≡ Live last old → TakeOk (Some s) life number (take_number last old number)
unfolding take_number take_from take_next
number_ok s life last old number e f =
    cond_either (TakeOk (Some s) life number) (nat_lt number last) takes.Stale (take_from last old number) (λ g. tt)
    (λ g. cond_either (TakeOk (Some s) life number) (number == last) (again old) (take_next last number) (λ h. subst (λ n. TakeOk (Some s) life n (again old)) (sym (eqb-true number last h)) (again_ok s life last old e f))
    (λ h. cond_either (TakeOk (Some s) life number) (number == last + 1) takes.Fresh takes.OutOfOrder (λ i. (s, refl, e, last, old, f, eqb-true number (last + 1) i)) (λ i. tt)))

state_ok : (s : Session) (life : ℕ) (st : SessionState) (number : ℕ) → s.life.0 ≡ life → s.state ≡ st → TakeOk (Some s) life number (take_state st number)
unfolding take_state
state_ok s life (Live last old) number e f = number_ok s life last old number e f
state_ok s life Ended number e f = tt

pub take_ok : (o : Option Session) (life : Life) (number : ℕ) → TakeOk o life.0 number (take_at o life number)
unfolding take_at take_life take_past
take_ok None life number = tt
take_ok (Some s) life number =
    cond_either (TakeOk (Some s) life.0 number) (nat_lt s.life.0 life.0) takes.NoSession (take_past s life number) (λ e. tt)
    (λ e. cond_either (TakeOk (Some s) life.0 number) (nat_lt life.0 s.life.0) takes.Stale (take_state s.state number) (λ f. tt)
    (λ f. state_ok s life.0 s.state number (let a = ltb-false s.life.0 life.0 e in let b = ltb-false life.0 s.life.0 f in omega arith) refl))

pub taken_ok : (t : Sessions) (c : ClientId) (life : Life) (epoch : Epoch) (number : ℕ) → TakeOk (session_of t c) life.0 number (sessions.take t c life epoch number)
unfolding sessions.take
taken_ok t c life epoch number = cond_either (TakeOk (session_of t c) life.0 number) (epoch.0 == t.epoch.0) (take_at (session_of t c) life number) takes.OtherEpoch (λ e. take_ok (session_of t c) life number) (λ e. tt)

-- Keys.
with_key_some : (k : ℕ) (xs : List ℕ) → slice_get (with_key k xs) 0 ≡ None → ⊥
unfolding with_key placed past
with_key_some k [] e = cc
with_key_some k (x ∷ xs) e =
    cond_either (λ ys. slice_get ys 0 ≡ None → ⊥) (nat_lt k x) (k ∷ (x ∷ xs)) (past k x xs (with_key k xs)) (λ f e. cc)
    (λ f. cond_either (λ ys. slice_get ys 0 ≡ None → ⊥) (k == x) (x ∷ xs) (x ∷ with_key k xs) (λ g e. cc) (λ g e. cc)) e

pub least_none : (ks : List ℕ) → least ks ≡ None → (k : ℕ) → Has k ks → ⊥
unfolding least rising
least_none [] e k h = h
least_none (x ∷ xs) e k h = with_key_some x (rising xs) e

-- rows that are installed
abbrev seen_lock : ℕ → Option (ℕ × GrantNo × Mode) → Option net.Row
seen_lock life None = None
seen_lock life (Some r) = Some (record { life = life; g = r.1.0; mode = number_of r.2 })

installed_view : (c : ClientId) (life : Life) (i : ℕ) (rs : List (ℕ × GrantNo × Mode)) → row_view (find (is_row_of c i) (map (installed c life) rs)) ≡ seen_lock life.0 (find (is_row_on i) rs)
installed_view c life i [] = refl
installed_view c life i (r ∷ rs) = go (r.0 == i) refl (installed_view c life i rs)
  where
    go : (b : Bool) → (r.0 == i) ≡ b → row_view (find (is_row_of c i) (map (installed c life) rs)) ≡ seen_lock life.0 (find (is_row_on i) rs) →
        row_view (cond ((c.0 == c.0) && (r.0 == i)) (Some (installed c life r)) (find (is_row_of c i) (map (installed c life) rs))) ≡ seen_lock life.0 (cond b (Some r) (find (is_row_on i) rs))
    go true e h = ap row_view (cond_true ((c.0 == c.0) && (r.0 == i)) (Some (installed c life r)) (find (is_row_of c i) (map (installed c life) rs)) (ap (λ x. x && (r.0 == i)) (eq-eqb c.0 c.0 refl) ∙ e))
    go false e h = ap row_view (cond_false ((c.0 == c.0) && (r.0 == i)) (Some (installed c life r)) (find (is_row_of c i) (map (installed c life) rs)) (ap (λ x. x && (r.0 == i)) (eq-eqb c.0 c.0 refl) ∙ e)) ∙ h

pub installed_other : (c : ClientId) (life : Life) (d i : ℕ) (rs : List (ℕ × GrantNo × Mode)) → c.0 ≢ d → find (is_row_of (client d) i) (map (installed c life) rs) ≡ None
installed_other c life d i [] ne = refl
installed_other c life d i (r ∷ rs) ne = cond_false _ _ _ (and_left (c.0 == d) (r.0 == i) (ne_eqb c.0 d ne)) ∙ installed_other c life d i rs ne

pub or_none : {A : Type 0} (o p : Option A) → p ≡ None → option_or o p ≡ o
or_none None p e = e
or_none (Some x) p e = refl

view_none : (o : Option LockRow) → row_view o ≡ None → o ≡ None
view_none None e = refl
view_none (Some r) e = cc

-- the rows after a reassertion, of this client and of others
pub reasserted_rows : (l : Locks) (c : ClientId) (life : Life) (rs : List (ℕ × GrantNo × Mode)) (i : ℕ) → row_view (row_of l c i) ≡ None → row_view (row_of (with_rows l c life rs) c i) ≡ seen_lock life.0 (find (is_row_on i) rs)
unfolding with_rows
reasserted_rows l c life rs i e =
    ap row_view (find-append (is_row_of c i) l.rows (map (installed c life) rs) ∙ ap (λ o. option_or o (find (is_row_of c i) (map (installed c life) rs))) (view_none (row_of l c i) e)) ∙ installed_view c life i rs

pub reasserted_others : (l : Locks) (c : ClientId) (life : Life) (rs : List (ℕ × GrantNo × Mode)) (d i : ℕ) → c.0 ≢ d → row_of (with_rows l c life rs) (client d) i ≡ row_of l (client d) i
unfolding with_rows
reasserted_others l c life rs d i ne = find-append (is_row_of (client d) i) l.rows (map (installed c life) rs) ∙ or_none _ _ (installed_other c life d i rs ne)

-- what a reassertion's grant numbers must be, so that it is not refused as no holder's
abbrev pub Earlier : Epoch → List (ℕ × GrantNo × Mode) → Type 0
Earlier epoch rs = (r : ℕ × GrantNo × Mode) → Has r rs → r.1.0 < first_after epoch

no_new : (l : Locks) (rs : List (ℕ × GrantNo × Mode)) → Earlier l.epoch rs → find (is_new_grant l) rs ≡ None
no_new l rs h = go (find (is_new_grant l) rs) refl
  where
    go : (o : Option (ℕ × GrantNo × Mode)) → find (is_new_grant l) rs ≡ o → o ≡ None
    go None e = refl
    go (Some r) e = let p = found_at (is_new_grant l) rs r e in let z = h r p.1 in let y = lt-ltb r.1.0 (first_after l.epoch) z in let x = not_true _ p.0 in cc

lock_mode : (o : Option (ℕ × GrantNo × Mode)) (life : ℕ) →
    (row_or (seen_lock life o) ≡ record { life = life; g = (lock_in_row o).g; mode = (lock_in_row o).mode }) ⊎ (((lock_in_row o).mode ≡ 0) × (row_or (seen_lock life o) ≡ net.no_row))
lock_mode None life = inr (refl, refl)
lock_mode (Some r) life = inl refl

module _ (k : Config) (cl : net.Client) (now : Stamp) where
  -- kept shown of this session, once more at another stamp
  pub record Once (d : ℕ) (n : ServerState) (x : Ghost) (life stamp : ℕ) (bs : List net.Body) : Type 0 where
    pub net : List Msg
    pub moves : Moves k (observe k cl d now n x) (observe k cl d now n (record x { net = net }))
    pub shows : Shows life n.stable.epoch.0 stamp bs net

  pub once : (d : ℕ) (n : ServerState) (x : Ghost) (life old stamp : ℕ) (bs : List net.Body) → is_some (suspect_of n.authority (client d)) ≡ false → life_view (session_of n.sessions (client d)) ≡ life → live_view (session_of n.sessions (client d)) ≡ true →
      In (msg life n.stable.epoch.0 stamp net.Plain) x.net → Shows life n.stable.epoch.0 old bs x.net → AllKept bs → Once d n x life stamp bs
  once d n x life old stamp [] free is live p s a = record { net = x.net; moves = Stays (observe k cl d now n x); shows = tt }
  once d n x life old stamp (b ∷ bs) free is live p s a =
      let q = once d n x life old stamp bs free is live p s.rest a.rest in
      let y : Ghost = record x { net = q.net } in
      let g = moves_grow q.moves in
      record {
        net = msg life n.stable.epoch.0 stamp b ∷ q.net;
        moves = moved k _ _ _ (moves_on q.moves (one (Again (observe k cl d now n y) old stamp b (subst (λ l. In (msg l n.stable.epoch.0 old b) q.net) (sym is) (g _ s.one)) a.one (subst (λ l. In (msg l n.stable.epoch.0 stamp net.Plain) q.net) (sym is) (g _ p)) (record { up = refl; free = free }) live) refl))
            (λ j. record { c = cl; s = half (client d) now n x; net = msg (is j) n.stable.epoch.0 stamp b ∷ q.net });
        shows = record { one = inl refl; rest = shows_more life n.stable.epoch.0 stamp bs q.net _ (λ m i. inr i) q.shows };
      }

  kept_of : (epoch number : ℕ) (r : Body) (s : Session) (o : Option Session) (N : List Msg) → o ≡ Some s → s.state ≡ Live number (Some r) → Kept epoch o N → KeptAt s.life.0 epoch number r N
  kept_of epoch number r s o N e f q = subst (λ st. KeptState s.life.0 epoch st N) f (subst (λ o. Kept epoch o N) e q)

  is_live_of : (s : Session) (last : ℕ) (old : Option Body) → s.state ≡ Live last old → is_live s ≡ true
  is_live_of s last old e = ap sessions.is_live_state e

  -- the kept reply once more
  pub again_goes : (t : ServerTurn) (h : Header) (x : Ghost) (r : Body) → Ready h.from k.wait now t x → is_some (suspect_of t.state.authority (client h.from)) ≡ false → In (msg h.life t.state.stable.epoch.0 h.stamp net.Plain) x.net →
      TakeOk (session_of t.state.sessions (client h.from)) h.life h.number (takes.Again r) → Result k cl h.from now t (reply t h r) x
  again_goes t h x r rd free p tk =
      let s = tk.0 in
      let q = kept_of t.state.stable.epoch.0 h.number r s (session_of t.state.sessions (client h.from)) x.net tk.1 tk.3 rd.sound.kept in
      let o = once h.from t.state x h.life q.old h.stamp (shown h.number r) free (ap life_view tk.1 ∙ tk.2) (ap live_view tk.1 ∙ is_live_of s h.number (Some r) tk.3) p (subst (λ l. Shows l t.state.stable.epoch.0 q.old (shown h.number r) x.net) tk.2 q.shows) q.all in
      replies k cl h.from now t h r x (record x { net = o.net }) (record { start = refl; gstart = refl; top = refl }) o.moves refl o.shows rd

  -- a reassertion that is accepted
  accepts : (t : ServerTurn) (h : Header) (rs : List (ℕ × GrantNo × Mode)) (x : Ghost) → Ready h.from k.wait now t x → is_some (suspect_of t.state.authority (client h.from)) ≡ false → grace.is_on t.state.grace now ≡ true →
      In (msg h.life t.state.stable.epoch.0 h.stamp net.Plain) x.net → In (msg h.life t.state.stable.epoch.0 h.stamp (net.Reassert (λ i. lock_in rs i))) x.net → ((r : ℕ × GrantNo × Mode) → Has r rs → 1 ≤ number_of r.2) →
      life_view (session_of t.state.sessions (client h.from)) < h.life → ((i : ℕ) → row_view (row_of t.state.locks (client h.from) i) ≡ None) → ((w : Waiter) → Has w t.state.locks.waiters → w.client.0 ≡ h.from → ⊥) →
      Result k cl h.from now t (reply (with_sessions (sessions.reasserted t.state.sessions (sender h) (life_in h)) (with_locks (with_rows t.state.locks (sender h) (life_in h) rs) t)) h bd.Reasserted) x
  unfolding reply sessions.reasserted with_rows
  accepts t h rs x rd free on p q some lt rows waits =
      record { ghost = y; moves = moves; ready = record { said = said_append h.from t.out _ y.net (said_more h.from t.out x.net y.net (λ m i. inr (inr i)) rd.said) (λ e. record { all = record { one = inl refl; rest = record { one = inr (inl refl); rest = tt } } }); sound = sound } }
    where
      n : ServerState
      n = t.state

      v : ServerState
      v = (with_sessions (sessions.reasserted n.sessions (sender h) (life_in h)) (with_locks (with_rows n.locks (sender h) (life_in h) rs) t)).state

      e : ℕ
      e = n.stable.epoch.0

      y : Ghost
      y = record x { net = msg h.life e h.stamp net.Ack ∷ msg h.life e h.stamp net.Reasserted ∷ x.net }

      is : session_of v.sessions (client h.from) ≡ Some (reasserted_session (sender h) (life_in h))
      is = session_own n.sessions (reasserted_session (sender h) (life_in h)) h.from refl

      real : (i : ℕ) → row_view (row_of v.locks (client h.from) i) ≡ seen_lock h.life (find (is_row_on i) rs)
      real i = reasserted_rows n.locks (sender h) (life_in h) rs i (rows i)

      locked : ℕ → net.Row
      locked i = record { life = h.life; g = (lock_in rs i).g; mode = (lock_in rs i).mode }

      mid : Server
      mid = record (half (client h.from) now n x) { session = h.life; live = true; row = λ i. record { life = h.life; g = (lock_in rs i).g; mode = (lock_in rs i).mode } }

      mid2 : Server
      mid2 = record mid { row = λ i. row_or (seen_lock h.life (find (is_row_on i) rs)) }

      moves : Moves k (observe k cl h.from now n x) (observe k cl h.from now v y)
      moves =
          moved k _ _ _
          (GoesOn (Accepts (observe k cl h.from now n x) h.life h.stamp (λ i. lock_in rs i) q (record { up = refl; free = free }) on lt (λ i. ap (λ o. (row_or o).mode) (rows i))) refl
          (GoesOn (Sweeps (record { c = cl; s = mid; net = msg h.life e h.stamp net.Reasserted ∷ x.net }) (λ i. row_or (seen_lock h.life (find (is_row_on i) rs))) (λ i. lock_mode (find (is_row_on i) rs) h.life)) refl
          (one (Acks (record { c = cl; s = mid2; net = msg h.life e h.stamp net.Reasserted ∷ x.net }) h.stamp (inr p) (record { up = refl; free = free }) refl) refl)))
          (λ j. record { c = cl; s = record (half (client h.from) now n y) { session = life_view (sym is j); live = live_view (sym is j); row = λ i. row_or (sym (real i) j) }; net = y.net })

      row_ok : (i : ℕ) (o : Option (ℕ × GrantNo × Mode)) → find (is_row_on i) rs ≡ o → RowOk (Some (reasserted_session (sender h) (life_in h))) (seen_lock h.life o)
      row_ok i None f = tt
      row_ok i (Some r) f = record { served = record { live = refl; is = refl }; some = some r (found_at (is_row_on i) rs r f).1 }

      sound : Sound h.from k.wait now v y
      sound = record {
        lepoch = rd.sound.lepoch;
        sepoch = rd.sound.sepoch;
        await = rd.sound.await;
        gstart = rd.sound.gstart;
        begun = rd.sound.begun;
        start = rd.sound.start;
        once = rd.sound.once;
        top = rd.sound.top;
        timer = rd.sound.timer;
        fresh = rd.sound.fresh;
        graced = λ g. subst NotEnded (sym is) refl;
        rows = λ i. subst (λ o. RowOk o (row_view (row_of v.locks (client h.from) i))) (sym is) (subst (RowOk (Some (reasserted_session (sender h) (life_in h)))) (sym (real i)) (row_ok i (find (is_row_on i) rs) refl));
        waits = λ w q f. absurd (waits w q f);
        kept = subst (λ o. Kept e o y.net) (sym is) (record { old = h.stamp; shows = record { one = inl refl; rest = record { one = inr (inl refl); rest = tt } }; all = record { one = refl; rest = record { one = refl; rest = tt } } });
      }

  or_false : (a b : Bool) → (a || b) ≡ false → (a ≡ false) × (b ≡ false)
  or_false true b e = cc
  or_false false b e = (refl, e)

  pub lower : (o : Option Session) (life : Life) → knows_at o life ≡ false → NotEnded o → 1 ≤ life.0 → life_view o < life.0
  lower None life e q b = omega arith
  lower (Some s) life e q b = let z = or_false _ _ e in go (same_or_not life.0 s.life.0) (ltb-false life.0 s.life.0 z.0) z.1
    where
      go : (life.0 ≡ s.life.0) ⊎ (life.0 ≢ s.life.0) → s.life.0 ≤ life.0 → (is_live s && (life.0 == s.life.0)) ≡ false → s.life.0 < life.0
      go (inl i) le z = let y = eq-eqb life.0 s.life.0 i in cc
      go (inr ne) le z = omega (arith, ne)

  -- no row of this client is left if there is none of a lower life
  no_older : (l : Locks) (c : ClientId) (life : Life) (o : Option Session) → own_older l c life ≡ None → life_view o < life.0 → (i : ℕ) → RowOk o (row_view (row_of l c i)) → row_view (row_of l c i) ≡ None
  no_older l c life o e lt i r = go o (row_of l c i) refl lt r
    where
      go : (o : Option Session) (q : Option LockRow) → row_of l c i ≡ q → life_view o < life.0 → RowOk o (row_view q) → row_view q ≡ None
      go o None f lt r = refl
      go None (Some x) f lt r = elim (r.served) [ ]
      go (Some s) (Some x) f lt r =
          let p = found_at (is_row_of c i) l.rows x f in
          let below : x.life.0 < life.0 = let a = r.served.is in omega arith in
          absurd (least_none (map ino_of_row (filter (is_row_below c life) l.rows)) e x.ino
          (has_map_in ino_of_row (filter (is_row_below c life) l.rows) x (has_filter_in (is_row_below c life) l.rows x p.1 (and_both _ _ (and_true _ _ p.0).0 (lt-ltb x.life.0 life.0 below)))))

  -- what is heard of a reassertion, and two facts that the association's own invariant gives: its grants are of earlier epochs, and this client has no wait
  pub record Reassertion (t : ServerTurn) (h : Header) (rs : List (ℕ × GrantNo × Mode)) (N : List Msg) : Type 0 where
    pub born : 1 ≤ h.life
    pub plain : In (msg h.life t.state.stable.epoch.0 h.stamp net.Plain) N
    pub locks : In (msg h.life t.state.stable.epoch.0 h.stamp (net.Reassert (λ i. lock_in rs i))) N
    pub some : (r : ℕ × GrantNo × Mode) → Has r rs → 1 ≤ number_of r.2
    pub earlier : grace.is_on t.state.grace now ≡ true → Earlier t.state.locks.epoch rs
    pub waits : grace.is_on t.state.grace now ≡ true → sessions.knows t.state.sessions (sender h) (life_in h) ≡ false → (w : Waiter) → Has w t.state.locks.waiters → w.client.0 ≡ h.from → ⊥

  reasserted_again : (t : ServerTurn) (h : Header) (x : Ghost) → Ready h.from k.wait now t x → is_some (suspect_of t.state.authority (client h.from)) ≡ false → In (msg h.life t.state.stable.epoch.0 h.stamp net.Plain) x.net →
      (tk : Taken Body) → TakeOk (session_of t.state.sessions (client h.from)) h.life h.number tk → Result k cl h.from now t (reassert_again t h tk) x
  unfolding reassert_again
  reasserted_again t h x rd free p (takes.Again r) ok = again_goes t h x r rd free p ok
  reasserted_again t h x rd free p tk ok = (goes_same k cl h.from now t).go x rd

  reassert_own : (t : ServerTurn) (h : Header) (rs : List (ℕ × GrantNo × Mode)) (x : Ghost) → Ready h.from k.wait now t x → is_some (suspect_of t.state.authority (client h.from)) ≡ false → Reassertion t h rs x.net → Result k cl h.from now t (reassert t now h rs) x
  unfolding reassert reassert_new reassert_by accept accept_rows accept_earlier accept_own accept_installed accepted install install_at
  reassert_own t h rs x rd free q =
      cond_either (λ u. Result k cl h.from now t u x) (sessions.knows t.state.sessions (sender h) (life_in h)) (reassert_again t h (take t h)) (reassert_new t now h rs)
      (λ e. by_take (take t h) (taken_ok t.state.sessions (sender h) (life_in h) (record { 0 = h.epoch }) h.number))
      (λ new. cond_either P (grace.is_on t.state.grace now) (accept_rows t.state.locks t.state.sessions (sender h) (life_in h) rs) (Err (refusals.GraceOver (grace.grace_start t.state.grace) now))
      (λ on. subst (λ o. P (accept_earlier t.state.locks t.state.sessions (sender h) (life_in h) rs o)) (sym (no_new t.state.locks rs (q.earlier on))) (own new on (own_older t.state.locks (sender h) (life_in h)) refl))
      (λ f. (refused k cl now h.from t h (bd.Nack why.GraceOver (grace.grace_start t.state.grace).0 now.0) refl).go x rd))
    where
      P : Res grace.Accepted AcceptRefusal → Type 0
      P r = Result k cl h.from now t (reassert_by t h r) x

      by_take : (tk : Taken Body) → TakeOk (session_of t.state.sessions (client h.from)) h.life h.number tk → Result k cl h.from now t (reassert_again t h tk) x
      by_take tk ok = reasserted_again t h x rd free q.plain tk ok

      own : sessions.knows t.state.sessions (sender h) (life_in h) ≡ false → grace.is_on t.state.grace now ≡ true → (o : Option ℕ) → own_older t.state.locks (sender h) (life_in h) ≡ o → P (accept_own t.state.locks t.state.sessions (sender h) (life_in h) rs o)
      own new on None e = none (first_conflict t.state.locks (sender h) rs)
        where
          lt : life_view (session_of t.state.sessions (client h.from)) < h.life
          lt = lower (session_of t.state.sessions (client h.from)) (life_in h) new (rd.sound.graced on) q.born

          none : (o : Option (ℕ × ClientId)) → P (accept_installed t.state.sessions (sender h) (life_in h) (install_at t.state.locks (sender h) (life_in h) rs o))
          none None = accepts t h rs x rd free on q.plain q.locks q.some lt (λ i. no_older t.state.locks (sender h) (life_in h) (session_of t.state.sessions (client h.from)) e lt i (rd.sound.rows i)) (q.waits on new)
          none (Some c) = (refused k cl now h.from t h (bd.Nack why.Conflict c.0 c.1.0) refl).go x rd
      own new on (Some ino) e = (refused k cl now h.from t h (bd.Nack why.Conflict ino h.from) refl).go x rd

  -- and of another client
  abbrev AcceptedFrame : ℕ → ServerTurn → Res grace.Accepted AcceptRefusal → Type 0
  AcceptedFrame d t (Ok a) = Frame d t.state (with_sessions a.sessions (with_locks a.locks t)).state
  AcceptedFrame d t (Err r) = Unit {0}

  accepted_other : (d : ℕ) (t : ServerTurn) (c : ClientId) (life : Life) (rs : List (ℕ × GrantNo × Mode)) → c.0 ≢ d → AcceptedFrame d t (accept t.state.grace now c life rs t.state.locks t.state.sessions)
  unfolding accept accept_rows accept_earlier accept_own accept_installed accepted install install_at with_rows sessions.reasserted
  accepted_other d t c life rs ne =
      cond_either (AcceptedFrame d t) (grace.is_on t.state.grace now) (accept_rows t.state.locks t.state.sessions c life rs) (Err (refusals.GraceOver (grace.grace_start t.state.grace) now))
      (λ e. earlier (find (is_new_grant t.state.locks) rs)) (λ e. tt)
    where
      free : (o : Option (ℕ × ClientId)) → AcceptedFrame d t (accept_installed t.state.sessions c life (install_at t.state.locks c life rs o))
      free None =
          record {
            epoch = refl;
            lepoch = refl;
            sepoch = refl;
            await = refl;
            grace = refl;
            grants = omega arith;
            suspect = refl;
            session = session_other t.state.sessions (reasserted_session c life) d ne;
            rows = λ i. ap row_view (reasserted_others t.state.locks c life rs d i ne);
            waits = λ w h e. h;
            suspects = λ s h e. h;
          }
      free (Some x) = tt

      own : (o : Option ℕ) → AcceptedFrame d t (accept_own t.state.locks t.state.sessions c life rs o)
      own None = free (first_conflict t.state.locks c rs)
      own (Some ino) = tt

      earlier : (o : Option (ℕ × GrantNo × Mode)) → AcceptedFrame d t (accept_earlier t.state.locks t.state.sessions c life rs o)
      earlier None = own (own_older t.state.locks c life)
      earlier (Some r) = tt

  reassert_by_other : (d : ℕ) (t : ServerTurn) (h : Header) → h.from ≢ d → (r : Res grace.Accepted AcceptRefusal) → AcceptedFrame d t r → Goes k cl d now t (reassert_by t h r)
  unfolding reassert_by
  reassert_by_other d t h ne (Ok a) f = goes_then k cl d now t (with_sessions a.sessions (with_locks a.locks t)) _ (unseen k cl d now t (with_sessions a.sessions (with_locks a.locks t)) f (λ N s. s)) (replies_other k cl d now _ h bd.Reasserted ne)
  reassert_by_other d t h ne (Err r) f = replies_other k cl d now t h (refused_reassertion r) ne

  reassert_again_other : (d : ℕ) (t : ServerTurn) (h : Header) → h.from ≢ d → (tk : Taken Body) → Goes k cl d now t (reassert_again t h tk)
  unfolding reassert_again
  reassert_again_other d t h ne (takes.Again r) = replies_other k cl d now t h r ne
  reassert_again_other d t h ne tk = goes_same k cl d now t

  reassert_other : (d : ℕ) (t : ServerTurn) (h : Header) (rs : List (ℕ × GrantNo × Mode)) → h.from ≢ d → Goes k cl d now t (reassert t now h rs)
  unfolding reassert reassert_new
  reassert_other d t h rs ne =
      if_goes k cl d now t (sessions.knows t.state.sessions (sender h) (life_in h)) (reassert_again t h (take t h)) (reassert_new t now h rs) (λ e. reassert_again_other d t h ne (take t h))
      (λ e. reassert_by_other d t h ne _ (accepted_other d t (sender h) (life_in h) rs ne))

  pub reassert_goes : (d : ℕ) (t : ServerTurn) (h : Header) (rs : List (ℕ × GrantNo × Mode)) (x : Ghost) → (h.from ≡ d → is_some (suspect_of t.state.authority (client d)) ≡ false) → (h.from ≡ d → Reassertion t h rs x.net) → Ready d k.wait now t x → Result k cl d now t (reassert t now h rs) x
  reassert_goes d t h rs x free q r = go (same_or_not h.from d)
    where
      own : (d : ℕ) → h.from ≡ d → is_some (suspect_of t.state.authority (client d)) ≡ false → Reassertion t h rs x.net → Ready d k.wait now t x → Result k cl d now t (reassert t now h rs) x
      own d e f q r = subst (λ d. is_some (suspect_of t.state.authority (client d)) ≡ false → Ready d k.wait now t x → Result k cl d now t (reassert t now h rs) x) e (λ f r. reassert_own t h rs x r f q) f r

      go : (h.from ≡ d) ⊎ (h.from ≢ d) → Result k cl d now t (reassert t now h rs) x
      go (inl e) = own d e (free e) (q e) r
      go (inr ne) = (reassert_other d t h rs ne).go x r
