-- A greeting: of this client, and of another.
use Rattle.st_lemmas.proofs.Words
use Words.{◌≡◌, ◌≢◌, ℕ, ◌<◌, ◌≤◌, ◌⊎◌, Bool, true, false, [], ◌∷◌, ◌==◌, refl, sym, ap, ◌∙◌, subst, inl, inr, arith, nat_lt, nat_le, Option, Some, None, eq-eqb}
use Words.{eqb-true, ltb-false, leb-false, ClientId, Life, Stamp, Header, Body, LockRow, Waiter, Session, Hello}
use Words.bodies as bd
use Words.why
use Words.hellos
use Words.Keys.{client}
use Words.Locks as locks
use Words.Locks.{Locks, is_row_by, is_row_of, row_of, has_rows}
use Words.Sessions as sessions
use Words.Sessions.{Sessions, session_of, with_new_session, new_session, is_live, is_past, greeted, begin_session, hello_higher, hello_again, hello_live}
use Words.Sessions.{hello_ended, hello_by, hello_at}
use Words.Authority.{may_ack}
use Words.Grace as grace
use Words.Server.{ServerState, ServerTurn, with_locks, with_sessions, in_grace, sender, life_in, reply, suspect_client, greet_as, greet_by, greet}
use Words.Server.{refuse_in_grace, hello}
use Words.Lists.{Has}
use Words.Tables.{same_or_not, and_true, not_true, cond_either, found_at, none_passes}
use Rattle.st_protocol.specs.Assoc as net
use Rattle.st_protocol.specs.Assoc.{Config, msg, In, Welcomes, WelcomesAgain, Moves, Stays}
use Rattle.st_laws_refine.specs.Views.Messages.{shown, Shows}
use Rattle.st_laws_refine.specs.Views.Halves.{Ghost, half, row_or, row_view, life_view, live_view}
use Rattle.st_laws_refine.specs.Server.View.{ServesLife, RowOk, Kept, Sound, Ready}
use Rattle.st_laws_refine.proofs.Server.Changes.{drop_wait, session_other, session_own}
use Rattle.st_laws_refine.proofs.Views.Moves.{one, moved}
use Rattle.st_laws_refine.proofs.Server.Goes.{said_append, said_more, Frame, observe, Goes, Result, goes_same, goes_then, unseen, first_unseen, replies}
use Rattle.st_laws_refine.proofs.Server.Goes.{replies_other}
use Rattle.st_laws_refine.proofs.Server.Passes.{suspect_goes}

-- what becomes of the sessions concerns only the greeting client
pub record Others (d : ℕ) (t u : Sessions) : Type 0 where
  pub epoch : u.epoch ≡ t.epoch
  pub session : session_of u (client d) ≡ session_of t (client d)

others_same : (d : ℕ) (t : Sessions) → Others d t t
others_same d t = record { epoch = refl; session = refl }

begins_other : (d : ℕ) (t : Sessions) (c : ClientId) (life : Life) (h : Hello) → c.0 ≢ d → Others d t (begin_session h c life t).sessions
unfolding begin_session greeted
begins_other d t c life h ne = record { epoch = refl; session = session_other t (new_session c life) d ne }

abbrev OtherHello : ℕ → Sessions → sessions.Greeted → Type 0
OtherHello d t g = Others d t g.sessions

pub hello_other : (d : ℕ) (t : Sessions) (c : ClientId) (life : Life) (rows : Bool) (o : Option Session) → c.0 ≢ d → Others d t (hello_at t c life rows o).sessions
unfolding hello_at hello_by hello_live hello_again hello_higher hello_ended greeted
hello_other d t c life rows None ne = begins_other d t c life hellos.Welcome ne
hello_other d t c life rows (Some s) ne =
    cond_either (OtherHello d t) (is_live s) _ _
    (λ e. cond_either (OtherHello d t) (nat_lt life.0 s.life.0) _ _ (λ e. others_same d t)
    (λ e. cond_either (OtherHello d t) (life.0 == s.life.0) _ _ (λ e. others_same d t)
    (λ e. cond_either (OtherHello d t) rows (greeted hellos.Wait t) (begin_session hellos.Replaced c life t) (λ e. others_same d t) (λ e. begins_other d t c life hellos.Replaced ne))))
    (λ e. cond_either (OtherHello d t) (is_past life s) (greeted hellos.Old t) (begin_session hellos.Welcome c life t) (λ e. others_same d t) (λ e. begins_other d t c life hellos.Welcome ne))

pub sessions_frame : (d : ℕ) (t : ServerTurn) (v : Sessions) → Others d t.state.sessions v → Frame d t.state (with_sessions v t).state
sessions_frame d t v o = record { epoch = refl; lepoch = refl; sepoch = o.epoch; await = refl; grace = refl; grants = omega arith; session = o.session; suspect = refl; rows = λ i. refl; waits = λ w h e. h; suspects = λ s h e. h }

pub drop_frame : (d : ℕ) (t : ServerTurn) (c : ClientId) → Frame d t.state (with_locks (locks.drop_waits t.state.locks c) t).state
unfolding locks.drop_waits
drop_frame d t c = record { epoch = refl; lepoch = refl; sepoch = refl; await = refl; grace = refl; grants = omega arith; session = refl; suspect = refl; rows = λ i. refl; waits = λ w h e. (drop_wait t.state.locks c w h).0; suspects = λ s h e. h }

row_none : (o : Option net.Row) → o ≡ None → (row_or o).mode ≡ 0
row_none o e = ap (λ o. (row_or o).mode) e

no_row_of : (s : Option Session) (o : Option net.Row) → (ServesLife (row_or o).life s → ⊥) → RowOk s o → o ≡ None
no_row_of s None h r = refl
no_row_of s (Some x) h r = absurd (h r.served)

no_rows : (l : Locks) (c : ClientId) → has_rows l c ≡ false → (i : ℕ) → row_view (row_of l c i) ≡ None
no_rows l c h i = go (row_of l c i) refl
  where
    go : (o : Option LockRow) → row_of l c i ≡ o → row_view o ≡ None
    go None e = refl
    go (Some r) e = let p = found_at (is_row_of c i) l.rows r e in let z = none_passes (is_row_by c) l.rows h r p.1 in let y = (and_true (r.client.0 == c.0) _ p.0).0 in cc

dropped_row : (l : Locks) (c : ClientId) (i : ℕ) → row_view (row_of (locks.drop_waits l c) c i) ≡ row_view (row_of l c i)
unfolding locks.drop_waits
dropped_row l c i = refl

module _ (k : Config) (cl : net.Client) (now : Stamp) where
  -- a refusal that says nothing to the association
  pub refused : (d : ℕ) (t : ServerTurn) (h : Header) (body : Body) → shown h.number body ≡ [] → Goes k cl d now t (reply t h body)
  refused d t h body e =
      record { go = λ x r. replies k cl d now t h body x x (record { start = refl; gstart = refl; top = refl }) (Stays (observe k cl d now t.state x)) refl (subst (λ bs. Shows h.life t.state.stable.epoch.0 h.stamp bs x.net) (sym e) tt) r }

  -- a session begins
  begins : (t : ServerTurn) (h : Header) (x : Ghost) → Ready h.from k.wait now t x → In (msg h.life 0 h.stamp net.Hello) x.net → may_ack t.state.authority (sender h) ≡ true → grace.is_on t.state.grace now ≡ false →
      life_view (session_of t.state.sessions (sender h)) < h.life → ((i : ℕ) → row_view (row_of t.state.locks (sender h) i) ≡ None) → ((w : Waiter) → Has w t.state.locks.waiters → w.client.0 ≡ h.from → ⊥) →
      Result k cl h.from now t (reply (with_sessions (with_new_session (sender h) (life_in h) t.state.sessions) t) h bd.Welcome) x
  unfolding reply
  begins t h x r i free off lt rows waits =
      record { ghost = y; moves = moves; ready = record { said = said_append h.from t.out _ y.net (said_more h.from t.out x.net y.net (λ m i. inr i) r.said) (λ e. record { all = record { one = inl refl; rest = tt } }); sound = sound } }
    where
      y : Ghost
      y = record x { net = msg h.life t.state.stable.epoch.0 h.stamp net.Welcome ∷ x.net }

      v : ServerState
      v = (with_sessions (with_new_session (sender h) (life_in h) t.state.sessions) t).state

      is : session_of v.sessions (client h.from) ≡ Some (new_session (sender h) (life_in h))
      is = session_own t.state.sessions (new_session (sender h) (life_in h)) h.from refl

      moves : Moves k (observe k cl h.from now t.state x) (observe k cl h.from now v y)
      moves = moved k _ _ _ (one (Welcomes (observe k cl h.from now t.state x) h.life h.stamp i (record { up = refl; free = not_true _ free }) off lt (λ i. row_none _ (rows i))) refl)
          (λ j. record { c = cl; s = record (half (client h.from) now t.state y) { session = life_view (sym is j); live = live_view (sym is j) }; net = y.net })

      sound : Sound h.from k.wait now v y
      sound = record {
        lepoch = r.sound.lepoch;
        sepoch = r.sound.sepoch;
        await = r.sound.await;
        gstart = r.sound.gstart;
        begun = r.sound.begun;
        start = r.sound.start;
        once = r.sound.once;
        top = r.sound.top;
        timer = r.sound.timer;
        fresh = r.sound.fresh;
        graced = λ g. cc;
        rows = λ i. subst (RowOk (session_of v.sessions (client h.from))) (sym (rows i)) tt;
        waits = λ w q e. absurd (waits w q e);
        kept = subst (λ o. Kept v.stable.epoch.0 o y.net) (sym is) tt;
      }

  -- the session of this life is there
  welcomes_again : (t : ServerTurn) (h : Header) (x : Ghost) → Ready h.from k.wait now t x → In (msg h.life 0 h.stamp net.Hello) x.net → may_ack t.state.authority (sender h) ≡ true → grace.is_on t.state.grace now ≡ false →
      life_view (session_of t.state.sessions (sender h)) ≡ h.life → live_view (session_of t.state.sessions (sender h)) ≡ true → Result k cl h.from now t (reply t h bd.Welcome) x
  welcomes_again t h x r i free off is live =
      replies k cl h.from now t h bd.Welcome x (record x { net = msg h.life t.state.stable.epoch.0 h.stamp net.Welcome ∷ x.net }) (record { start = refl; gstart = refl; top = refl })
      (moved k _ _ _ (one (WelcomesAgain (observe k cl h.from now t.state x) h.stamp (subst (λ l. In (msg l 0 h.stamp net.Hello) x.net) (sym is) i) (record { up = refl; free = not_true _ free }) live off) refl)
      (λ j. record { c = cl; s = half (client h.from) now t.state x; net = msg (is j) t.state.stable.epoch.0 h.stamp net.Welcome ∷ x.net }))
      refl (record { one = inl refl; rest = tt }) r

  -- a greeting of this client
  greet_own : (t : ServerTurn) (h : Header) (x : Ghost) → Ready h.from k.wait now t x → 1 ≤ h.life → In (msg h.life 0 h.stamp net.Hello) x.net → may_ack t.state.authority (sender h) ≡ true → grace.is_on t.state.grace now ≡ false →
      (o : Option Session) → session_of t.state.sessions (sender h) ≡ o → Result k cl h.from now t (greet_by t now h (hello_at t.state.sessions (sender h) (life_in h) (has_rows t.state.locks (sender h)) o)) x
  unfolding hello_at hello_by hello_live hello_again hello_higher hello_ended greeted begin_session greet_by greet_as
  greet_own t h x r born i free off None e =
      begins t h x r i free off (subst (λ o. life_view o < h.life) (sym e) (omega arith)) (λ i. no_row_of _ _ (λ z. subst (ServesLife _) e z) (r.sound.rows i)) (λ w q f. subst (ServesLife w.life.0) e (r.sound.waits w q f).served)
  greet_own t h x r born i free off (Some s) e =
      cond_either P (is_live s) (hello_live t.state.sessions (sender h) (life_in h) rows s) (hello_ended t.state.sessions (sender h) (life_in h) s)
      (λ live. cond_either P (nat_lt h.life s.life.0) (greeted hellos.Old t.state.sessions) (hello_again t.state.sessions (sender h) (life_in h) rows s) (λ f. (goes_same k cl h.from now t).go x r)
      (λ not_old. cond_either P (h.life == s.life.0) (greeted hellos.Welcome t.state.sessions) (hello_higher t.state.sessions (sender h) (life_in h) rows) (λ f. welcomes_again t h x r i free off (ap life_view e ∙ sym (eqb-true _ _ f)) (ap live_view e ∙ live))
      (λ ne. cond_either P rows (greeted hellos.Wait t.state.sessions) (begin_session hellos.Replaced (sender h) (life_in h) t.state.sessions)
      (λ f. (goes_then k cl h.from now t (suspect_client t now (sender h)) _ (suspect_goes k cl h.from now t (sender h) free) (refused h.from (suspect_client t now (sender h)) h (bd.Nack why.Suspect now.0 0) refl)).go x r)
      (λ none. replaced none (higher not_old ne)))))
      (λ ended. cond_either P (is_past (life_in h) s) (greeted hellos.Old t.state.sessions) (begin_session hellos.Welcome (sender h) (life_in h) t.state.sessions) (λ f. (goes_same k cl h.from now t).go x r)
      (λ f. begins t h x r i free off (subst (λ o. life_view o < h.life) (sym e) (past f)) (λ i. no_row_of _ _ (λ z. over ended (subst (ServesLife _) e z)) (r.sound.rows i)) (λ w q f. over ended (subst (ServesLife w.life.0) e (r.sound.waits w q f).served))))
    where
      rows : Bool
      rows = has_rows t.state.locks (sender h)

      P : sessions.Greeted → Type 0
      P g = Result k cl h.from now t (greet_by t now h g) x

      over : {l : ℕ} → is_live s ≡ false → ServesLife l (Some s) → ⊥
      over f z = let y = z.live in cc

      past : nat_le h.life s.life.0 ≡ false → s.life.0 < h.life
      past f = leb-false h.life s.life.0 f

      higher : nat_lt h.life s.life.0 ≡ false → (h.life == s.life.0) ≡ false → s.life.0 < h.life
      higher f g = let a = ltb-false h.life s.life.0 f in go (same_or_not h.life s.life.0) a
        where
          go : (h.life ≡ s.life.0) ⊎ (h.life ≢ s.life.0) → s.life.0 ≤ h.life → s.life.0 < h.life
          go (inl e) a = let y = eq-eqb h.life s.life.0 e in cc
          go (inr ne) a = omega (arith, ne)

      replaced : rows ≡ false → s.life.0 < h.life → Result k cl h.from now t (reply (with_locks (locks.drop_waits t.state.locks (sender h)) (with_sessions (with_new_session (sender h) (life_in h) t.state.sessions) t)) h bd.Welcome) x
      replaced none lt =
          first_unseen k cl h.from now t (with_locks (locks.drop_waits t.state.locks (sender h)) t) _ x (drop_frame h.from t (sender h)) (λ s. s) r
          (λ r2. begins (with_locks (locks.drop_waits t.state.locks (sender h)) t) h x r2 i free off (subst (λ o. life_view o < h.life) (sym e) lt) (λ i. no_rows_dropped i) (λ w q f. (drop_wait t.state.locks (sender h) w q).1 f))
        where
          no_rows_dropped : (i : ℕ) → row_view (row_of (locks.drop_waits t.state.locks (sender h)) (sender h) i) ≡ None
          no_rows_dropped i = dropped_row t.state.locks (sender h) i ∙ no_rows t.state.locks (sender h) none i

  greet_as_other : (d : ℕ) (t : ServerTurn) (h : Header) (x : Hello) → h.from ≢ d → may_ack t.state.authority (sender h) ≡ true → Goes k cl d now t (greet_as t now h x)
  unfolding greet_as
  greet_as_other d t h hellos.Welcome ne free = replies_other k cl d now t h bd.Welcome ne
  greet_as_other d t h hellos.Replaced ne free =
      goes_then k cl d now t (with_locks (locks.drop_waits t.state.locks (sender h)) t) _ (unseen k cl d now t (with_locks (locks.drop_waits t.state.locks (sender h)) t) (drop_frame d t (sender h)) (λ N s. s)) (replies_other k cl d now _ h bd.Welcome ne)
  greet_as_other d t h hellos.Old ne free = goes_same k cl d now t
  greet_as_other d t h hellos.Wait ne free = goes_then k cl d now t (suspect_client t now (sender h)) _ (suspect_goes k cl d now t (sender h) free) (replies_other k cl d now (suspect_client t now (sender h)) h (bd.Nack why.Suspect now.0 0) ne)

  greet_other : (d : ℕ) (t : ServerTurn) (h : Header) (g : sessions.Greeted) → h.from ≢ d → may_ack t.state.authority (sender h) ≡ true → Others d t.state.sessions g.sessions → Goes k cl d now t (greet_by t now h g)
  unfolding greet_by
  greet_other d t h g ne free o =
      goes_then k cl d now t (with_sessions g.sessions t) _ (unseen k cl d now t (with_sessions g.sessions t) (sessions_frame d t g.sessions o) (λ N s. s)) (go (with_sessions g.sessions t) free g.hello)
    where
      go : (u : ServerTurn) → may_ack u.state.authority (sender h) ≡ true → (x : Hello) → Goes k cl d now u (greet_as u now h x)
      go u free x = greet_as_other d u h x ne free

  pub greet_goes : (d : ℕ) (t : ServerTurn) (h : Header) (x : Ghost) → may_ack t.state.authority (sender h) ≡ true → grace.is_on t.state.grace now ≡ false → (h.from ≡ d → record { born : 1 ≤ h.life; hello : In (msg h.life 0 h.stamp net.Hello) x.net }) → Ready d k.wait now t x → Result k cl d now t (greet t now h) x
  unfolding greet sessions.hello
  greet_goes d t h x free off received r = go (same_or_not h.from d) received r
    where
      own : (h.from ≡ h.from → record { born : 1 ≤ h.life; hello : In (msg h.life 0 h.stamp net.Hello) x.net }) → Ready h.from k.wait now t x → Result k cl h.from now t (greet t now h) x
      own received r = greet_own t h x r (received refl).born (received refl).hello free off (session_of t.state.sessions (sender h)) refl

      go : (h.from ≡ d) ⊎ (h.from ≢ d) → (h.from ≡ d → record { born : 1 ≤ h.life; hello : In (msg h.life 0 h.stamp net.Hello) x.net }) → Ready d k.wait now t x → Result k cl d now t (greet t now h) x
      go (inl e) = subst (λ d. (h.from ≡ d → record { born : 1 ≤ h.life; hello : In (msg h.life 0 h.stamp net.Hello) x.net }) → Ready d k.wait now t x → Result k cl d now t (greet t now h) x) e own
      go (inr ne) = λ received r. (greet_other d t h (hello_at t.state.sessions (sender h) (life_in h) (has_rows t.state.locks (sender h)) (session_of t.state.sessions (sender h))) ne free
          (hello_other d t.state.sessions (sender h) (life_in h) (has_rows t.state.locks (sender h)) (session_of t.state.sessions (sender h)) ne)).go x r

  -- in grace, or not
  pub hello_goes : (d : ℕ) (t : ServerTurn) (h : Header) (x : Ghost) → may_ack t.state.authority (sender h) ≡ true → (h.from ≡ d → record { born : 1 ≤ h.life; hello : In (msg h.life 0 h.stamp net.Hello) x.net }) → Ready d k.wait now t x → Result k cl d now t (hello t now h) x
  unfolding hello refuse_in_grace
  hello_goes d t h x free received r =
      cond_either (λ u. Result k cl d now t u x) (in_grace t now) (refuse_in_grace t h) (greet t now h)
      (λ e. (refused d t h (bd.Nack why.Grace (grace.grace_start t.state.grace).0 0) refl).go x r) (λ off. greet_goes d t h x free off received r)
