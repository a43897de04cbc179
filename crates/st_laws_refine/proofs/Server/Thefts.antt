-- Thefts: one move of the client whose timer is over, and none of the others.
use Rattle.st_lemmas.proofs.Words
use Words.{◌≡◌, ◌≢◌, ℕ, ◌+◌, ◌<◌, ◌≤◌, ◌⊎◌, Bool, true, false, List, [], ◌∷◌, refl, sym, ap, ◌∙◌, subst, inl, inr, arith, ltb-true, leb-true, not, filter}
use Words.{Option, Some, None, option_map, is_some, eq-eqb, eqb-true, ClientId, Stamp, Waiter, Session, Suspect, false_from_ne_true}
use Words.Keys.{client}
use Words.Locks as locks
use Words.Sessions as sessions
use Words.Authority.{Authority, is_suspect, is_over, client_of_suspect, suspect_of, over, still_running}
use Words.Grace as grace
use Words.Grace.{Grace}
use Words.Server.{ServerState, ServerTurn, with_authority, steal_from, steal_at, steal, steal_each, thefts}
use Words.Lists.{Has}
use Words.Tables.{same_or_not, not_true, find_kept_in, find_gone_in, none_has, has_filter, has_map, has_filter_in, has_map_in, found_at}
use Rattle.st_protocol.specs.Assoc as net
use Rattle.st_protocol.specs.Assoc.{Config, Msg, Steals}
use Rattle.st_laws_refine.specs.Views.Halves.{Ghost, half, row_or, row_view, life_view, live_view}
use Rattle.st_laws_refine.specs.Server.View.{TimerIs, GraceIs, Said, RowOk, WaitOk, Kept, Sound, Ready}
use Rattle.st_laws_refine.proofs.Server.Changes.{forget_row, forget_own, forget_wait, end_other, end_own}
use Rattle.st_laws_refine.proofs.Views.Moves.{one, moved}
use Rattle.st_laws_refine.proofs.Server.Goes.{Frame, frame_same, frame_then, said_append, observe, Goes, Result, unseen}

abbrev stolen_row : Option Session → Option net.Row → Option net.Row
stolen_row None r = r
stolen_row (Some s) r = None

abbrev IsNone : Option Session → Type 0
IsNone None = Unit {0}
IsNone (Some s) = ⊥

-- all is stolen from this client, if it has a session
record Stolen (d : ℕ) (n v : ServerState) : Type 0 where
  epoch : v.stable.epoch ≡ n.stable.epoch
  lepoch : v.locks.epoch ≡ n.locks.epoch
  sepoch : v.sessions.epoch ≡ n.sessions.epoch
  wait : v.authority.wait ≡ n.authority.wait
  grace : v.grace ≡ n.grace
  grants : n.locks.grants ≤ v.locks.grants
  session : sessions.session_of v.sessions (client d) ≡ option_map sessions.ended (sessions.session_of n.sessions (client d))
  suspect : suspect_of v.authority (client d) ≡ suspect_of n.authority (client d)
  rows : (i : ℕ) → row_view (locks.row_of v.locks (client d) i) ≡ stolen_row (sessions.session_of n.sessions (client d)) (row_view (locks.row_of n.locks (client d) i))
  waits : (w : Waiter) → Has w v.locks.waiters → w.client.0 ≡ d → Has w n.locks.waiters × IsNone (sessions.session_of n.sessions (client d))
  suspects : (s : Suspect) → Has s v.authority.suspects → s.client.0 ≡ d → Has s n.authority.suspects

steal_other : (d : ℕ) (t : ServerTurn) (c : ClientId) (o : Option Session) → c.0 ≢ d → Frame d t.state (steal_at t c o).state
unfolding steal_at steal_from locks.forget sessions.end
steal_other d t c None ne = frame_same d t.state
steal_other d t c (Some s) ne =
    record {
      epoch = refl;
      lepoch = refl;
      sepoch = refl;
      await = refl;
      grace = refl;
      grants = omega arith;
      session = end_other t.state.sessions c d ne;
      suspect = refl;
      rows = λ i. ap row_view (forget_row t.state.locks c d i ne);
      waits = λ w h e. (forget_wait t.state.locks c w h).0;
      suspects = λ s h e. h;
    }

steal_own : (t : ServerTurn) (c : ClientId) (o : Option Session) → sessions.session_of t.state.sessions c ≡ o → Stolen c.0 t.state (steal_at t c o).state
unfolding steal_at steal_from locks.forget sessions.end
steal_own t c None e =
    record {
      epoch = refl;
      lepoch = refl;
      sepoch = refl;
      wait = refl;
      grace = refl;
      grants = omega arith;
      suspect = refl;
      suspects = λ s h e. h;
      session = e ∙ ap (option_map sessions.ended) (sym e);
      rows = λ i. ap (λ o. stolen_row o (row_view (locks.row_of t.state.locks c i))) (sym e);
      waits = λ w h f. (h, subst IsNone (sym e) tt);
    }
steal_own t c (Some s) e =
    record {
      epoch = refl;
      lepoch = refl;
      sepoch = refl;
      wait = refl;
      grace = refl;
      grants = omega arith;
      suspect = refl;
      suspects = λ s h e. h;
      session = end_own t.state.sessions c c.0 refl;
      rows = λ i. ap row_view (forget_own t.state.locks c c.0 i refl) ∙ ap (λ o. stolen_row o (row_view (locks.row_of t.state.locks c i))) (sym e);
      waits = λ w h f. absurd ((forget_wait t.state.locks c w h).1 f);
    }

ended_once : (o : Option Session) → option_map sessions.ended (option_map sessions.ended o) ≡ option_map sessions.ended o
unfolding sessions.ended
ended_once None = refl
ended_once (Some s) = refl

stolen_once : (o : Option Session) (r : Option net.Row) → stolen_row (option_map sessions.ended o) (stolen_row o r) ≡ stolen_row o r
stolen_once None r = refl
stolen_once (Some s) r = refl

frame_stolen : (d : ℕ) (n v u : ServerState) → Frame d n v → Stolen d v u → Stolen d n u
frame_stolen d n v u f g =
    record {
      epoch = g.epoch ∙ f.epoch;
      lepoch = g.lepoch ∙ f.lepoch;
      sepoch = g.sepoch ∙ f.sepoch;
      wait = g.wait ∙ f.await;
      grace = g.grace ∙ f.grace;
      grants = let a = f.grants in let b = g.grants in omega arith;
      session = g.session ∙ ap (option_map sessions.ended) f.session;
      suspect = g.suspect ∙ f.suspect;
      rows = λ i. g.rows i ∙ ap (λ o. stolen_row o (row_view (locks.row_of v.locks (client d) i))) f.session ∙ ap (stolen_row (sessions.session_of n.sessions (client d))) (f.rows i);
      waits = λ w h e. let z = g.waits w h e in (f.waits w z.0 e, subst IsNone f.session z.1);
      suspects = λ s h e. f.suspects s (g.suspects s h e) e;
    }

stolen_frame : (d : ℕ) (n v u : ServerState) → Stolen d n v → Frame d v u → Stolen d n u
stolen_frame d n v u f g =
    record {
      epoch = g.epoch ∙ f.epoch;
      lepoch = g.lepoch ∙ f.lepoch;
      sepoch = g.sepoch ∙ f.sepoch;
      wait = g.await ∙ f.wait;
      grace = g.grace ∙ f.grace;
      grants = let a = f.grants in let b = g.grants in omega arith;
      session = g.session ∙ f.session;
      suspect = g.suspect ∙ f.suspect;
      rows = λ i. g.rows i ∙ f.rows i;
      waits = λ w h e. f.waits w (g.waits w h e) e;
      suspects = λ s h e. f.suspects s (g.suspects s h e) e;
    }

stolen_twice : (d : ℕ) (n v u : ServerState) → Stolen d n v → Stolen d v u → Stolen d n u
stolen_twice d n v u f g =
    record {
      epoch = g.epoch ∙ f.epoch;
      lepoch = g.lepoch ∙ f.lepoch;
      sepoch = g.sepoch ∙ f.sepoch;
      wait = g.wait ∙ f.wait;
      grace = g.grace ∙ f.grace;
      grants = let a = f.grants in let b = g.grants in omega arith;
      session = g.session ∙ ap (option_map sessions.ended) f.session ∙ ended_once (sessions.session_of n.sessions (client d));
      suspect = g.suspect ∙ f.suspect;
      rows = λ i. g.rows i ∙ ap (λ o. stolen_row o (row_view (locks.row_of v.locks (client d) i))) f.session
          ∙ ap (stolen_row (option_map sessions.ended (sessions.session_of n.sessions (client d)))) (f.rows i) ∙ stolen_once (sessions.session_of n.sessions (client d)) (row_view (locks.row_of n.locks (client d) i));
      waits = λ w h e. f.waits w (g.waits w h e).0 e;
      suspects = λ s h e. f.suspects s (g.suspects s h e) e;
    }

steal_at_own : (d : ℕ) (t : ServerTurn) (c : ClientId) → c.0 ≡ d → Stolen d t.state (steal t c).state
unfolding steal
steal_at_own d t c e = subst (λ d. Stolen d t.state (steal t c).state) e (steal_own t c (sessions.session_of t.state.sessions c) refl)

steal_at_other : (d : ℕ) (t : ServerTurn) (c : ClientId) → c.0 ≢ d → Frame d t.state (steal t c).state
unfolding steal
steal_at_other d t c ne = steal_other d t c (sessions.session_of t.state.sessions c) ne

stolen_more : (d : ℕ) (n : ServerState) (cs : List ClientId) (t : ServerTurn) → Stolen d n t.state → Stolen d n (steal_each cs t).state
unfolding steal_each
stolen_more d n [] t s = s
stolen_more d n (c ∷ cs) t s = stolen_more d n cs (steal t c) (go (same_or_not c.0 d))
  where
    go : (c.0 ≡ d) ⊎ (c.0 ≢ d) → Stolen d n (steal t c).state
    go (inl e) = stolen_twice d n t.state (steal t c).state s (steal_at_own d t c e)
    go (inr ne) = stolen_frame d n t.state (steal t c).state s (steal_at_other d t c ne)

steal_none : (d : ℕ) (cs : List ClientId) (t : ServerTurn) → ((c : ClientId) → Has c cs → c.0 ≢ d) → Frame d t.state (steal_each cs t).state
unfolding steal_each
steal_none d [] t h = frame_same d t.state
steal_none d (c ∷ cs) t h = frame_then d t.state (steal t c).state _ (steal_at_other d t c (h c (inl refl))) (steal_none d cs (steal t c) (λ c i. h c (inr i)))

steal_some : (d : ℕ) (cs : List ClientId) (t : ServerTurn) (c : ClientId) → Has c cs → c.0 ≡ d → Stolen d t.state (steal_each cs t).state
unfolding steal_each
steal_some d [] t c h e = elim h [ ]
steal_some d (b ∷ cs) t c h e = go (same_or_not b.0 d) h (λ i. steal_some d cs (steal t b) c i e)
  where
    go : (b.0 ≡ d) ⊎ (b.0 ≢ d) → (c ≡ b) ⊎ Has c cs → (Has c cs → Stolen d (steal t b).state (steal_each cs (steal t b)).state) → Stolen d t.state (steal_each cs (steal t b)).state
    go (inl f) i r = stolen_more d t.state cs (steal t b) (steal_at_own d t b f)
    go (inr ne) (inl i) r = absurd (ne (ap (λ (x : ClientId). x.0) (sym i) ∙ e))
    go (inr ne) (inr i) r = frame_stolen d t.state (steal t b).state _ (steal_at_other d t b ne) (r i)

-- only notes are said
steal_said : (d : ℕ) (t : ServerTurn) (c : ClientId) (o : Option Session) (N : List Msg) → Said d t.out N → Said d (steal_at t c o).out N
unfolding steal_at steal_from
steal_said d t c None N s = s
steal_said d t c (Some x) N s = said_append d t.out _ N s tt

steals_said : (d : ℕ) (cs : List ClientId) (t : ServerTurn) (N : List Msg) → Said d t.out N → Said d (steal_each cs t).out N
unfolding steal_each steal
steals_said d [] t N s = s
steals_said d (c ∷ cs) t N s = steals_said d cs (steal t c) N (steal_said d t c (sessions.session_of t.state.sessions c) N s)

pub over_has : (a : Authority) (now : Stamp) (c : ClientId) → Has c (over a now) → (s : Suspect) × Has s a.suspects × (is_over a.wait now s ≡ true) × (c ≡ s.client)
unfolding over
over_has a now c h = let m = has_map client_of_suspect (filter (is_over a.wait now) a.suspects) c h in let f = has_filter (is_over a.wait now) a.suspects m.0 m.1 in (m.0, f.0, f.1, m.2)

pub has_over : (a : Authority) (now : Stamp) (s : Suspect) → Has s a.suspects → is_over a.wait now s ≡ true → Has s.client (over a now)
unfolding over
has_over a now s h e = has_map_in client_of_suspect (filter (is_over a.wait now) a.suspects) s (has_filter_in (is_over a.wait now) a.suspects s h e)

life_ended : (o : Option Session) → life_view (option_map sessions.ended o) ≡ life_view o
unfolding sessions.ended
life_ended None = refl
life_ended (Some s) = refl

live_ended : (o : Option Session) → live_view (option_map sessions.ended o) ≡ false
unfolding sessions.ended
live_ended None = refl
live_ended (Some s) = refl

row_stolen : (o : Option Session) (r : Option net.Row) → RowOk o r → row_or (stolen_row o r) ≡ net.no_row
row_stolen None None h = refl
row_stolen None (Some r) h = elim (h.served) [ ]
row_stolen (Some s) r h = refl

row_ended : (o : Option Session) (r : Option net.Row) → RowOk o r → RowOk (option_map sessions.ended o) (stolen_row o r)
row_ended None r h = h
row_ended (Some s) r h = tt

no_wait : (o : Option Session) (timed : Bool) (row : Option net.Row) (epoch : ℕ) (N : List Msg) (w : Waiter) → WaitOk o timed row epoch N w → IsNone o → ⊥
no_wait None timed row epoch N w q z = q.served
no_wait (Some s) timed row epoch N w q z = z

kept_ended : (epoch : ℕ) (o : Option Session) (N : List Msg) → Kept epoch (option_map sessions.ended o) N
unfolding sessions.ended
kept_ended epoch None N = tt
kept_ended epoch (Some s) N = tt

-- grace is on below its end
pub within : (wait : ℕ) (now : Stamp) (o : Option Grace) (gstart : ℕ) → GraceIs wait o gstart → grace.is_on o now ≡ true → now.0 < gstart + wait
within wait now None gstart g e = cc
within wait now (Some s) gstart g e = let z = ltb-true now.0 (s.start.0 + s.wait) e in let a = g.wait in let b = g.start in omega arith

module _ (k : Config) (cl : net.Client) (d : ℕ) (now : Stamp) where
  some_is : (x y : Suspect) → ◌≡◌ {A = Option Suspect} (Some x) (Some y) → x ≡ y
  some_is x y e = ap (λ (o : Option Suspect). unwrap o) e
    where
      unwrap : Option Suspect → Suspect
      unwrap None = x
      unwrap (Some z) = z

  -- a timer that is over
  theft : (t : ServerTurn) (x : Ghost) → Ready d k.wait now t x → (s : Suspect) → suspect_of t.state.authority (client d) ≡ Some s → is_over t.state.authority.wait now s ≡ true → Result k cl d now t (thefts t now) x
  unfolding thefts still_running
  theft t x r s e o =
      record {
        ghost = x;
        moves = moved k (observe k cl d now n x) _ (observe k cl d now u x) (one (Steals (observe k cl d now n x) refl timed late off) refl) is;
        ready = record { said = steals_said d (over a now) (with_authority (still_running a now) t) x.net r.said; sound = sound };
      }
    where
      n : ServerState
      n = t.state

      a : Authority
      a = n.authority

      v : ServerState
      v = (with_authority (still_running a now) t).state

      u : ServerState
      u = (thefts t now).state

      p : (is_suspect (client d) s ≡ true) × Has s a.suspects
      p = found_at (is_suspect (client d)) a.suspects s e

      of_d : s.client.0 ≡ d
      of_d = eqb-true s.client.0 d p.0

      st : Stolen d v u
      st = steal_some d (over a now) (with_authority (still_running a now) t) s.client (has_over a now s p.1 o) of_d

      timed : is_some (suspect_of a (client d)) ≡ true
      timed = ap is_some e

      began : s.start.0 ≡ x.start
      began = subst (λ o. TimerIs o x.start) e r.sound.start

      late : x.start + k.wait ≤ now.0
      late = let z = leb-true (s.start.0 + a.wait) now.0 o in let b = began in let w = r.sound.await in omega arith

      off : grace.is_on n.grace now ≡ false
      off = false_from_ne_true _ (λ g. let z = within k.wait now n.grace x.gstart r.sound.gstart g in let y = r.sound.timer timed in let l = late in omega arith)

      gone : suspect_of u.authority (client d) ≡ None
      gone = st.suspect ∙ find_gone_in (is_suspect (client d)) (λ s. not (is_over a.wait now s)) a.suspects
          (λ y h f. ap not (subst (λ z. is_over a.wait now z ≡ true) (some_is s y (sym e ∙ r.sound.once y h (eqb-true y.client.0 d f))) o))

      is : record (observe k cl d now n x) { s = record (half (client d) now n x) { live = false; row = λ i. net.no_row; timed = false } } ≡ observe k cl d now u x
      is = λ j. record {
        c = cl;
        s = record (half (client d) now n x) {
          epoch = (sym st.epoch j).0;
          grace = grace.is_on (sym st.grace j) now;
          session = sym (ap life_view st.session ∙ life_ended (sessions.session_of n.sessions (client d))) j;
          live = sym (ap live_view st.session ∙ live_ended (sessions.session_of n.sessions (client d))) j;
          row = λ i. sym (ap row_or (st.rows i) ∙ row_stolen (sessions.session_of n.sessions (client d)) (row_view (locks.row_of n.locks (client d) i)) (r.sound.rows i)) j;
          timed = sym (ap is_some gone) j;
        };
        net = x.net;
      }

      sound : Sound d k.wait now u x
      sound = record {
        lepoch = st.lepoch ∙ r.sound.lepoch ∙ sym st.epoch;
        sepoch = st.sepoch ∙ r.sound.sepoch ∙ sym st.epoch;
        await = st.wait ∙ r.sound.await;
        gstart = subst (λ g. GraceIs k.wait g x.gstart) (sym st.grace) r.sound.gstart;
        begun = r.sound.begun;
        start = subst (λ o. TimerIs o x.start) (sym gone) tt;
        once = λ y h f. let w = has_filter (λ s. not (is_over a.wait now s)) a.suspects y (st.suspects y h f) in
            let z = subst (λ z. is_over a.wait now z ≡ true) (some_is s y (sym e ∙ r.sound.once y w.0 f)) o in let q = not_true _ w.1 in cc;
        top = let b = r.sound.top in let c = st.grants in subst (λ e. x.top ≤ locks.first_after e + u.locks.grants) (sym st.lepoch) (omega arith);
        timer = λ z. let y = ap is_some gone in cc;
        fresh = λ g. let z = off in let y = ap (λ g. grace.is_on g now) st.grace in cc;
        graced = λ g. let z = off in let y = ap (λ g. grace.is_on g now) st.grace in cc;
        rows = λ i. subst (λ o. RowOk o (row_view (locks.row_of u.locks (client d) i))) (sym st.session)
            (subst (RowOk (option_map sessions.ended (sessions.session_of n.sessions (client d)))) (sym (st.rows i)) (row_ended _ _ (r.sound.rows i)));
        waits = λ w h f. let z = st.waits w h f in absurd (no_wait _ _ _ _ x.net w (r.sound.waits w z.0 f) z.1);
        kept = subst (λ o. Kept u.stable.epoch.0 o x.net) (sym st.session) (kept_ended u.stable.epoch.0 (sessions.session_of n.sessions (client d)) x.net);
      }

  -- and if none of this client is over
  no_theft : (t : ServerTurn) (x : Ghost) → Ready d k.wait now t x → ((y : Suspect) → Has y t.state.authority.suspects → y.client.0 ≡ d → is_over t.state.authority.wait now y ≡ false) → Result k cl d now t (thefts t now) x
  unfolding thefts still_running
  no_theft t x r h =
      (unseen k cl d now t (thefts t now)
      (frame_then d t.state (with_authority (still_running t.state.authority now) t).state (thefts t now).state
      (record {
        epoch = refl;
        lepoch = refl;
        sepoch = refl;
        await = refl;
        grace = refl;
        grants = omega arith;
        session = refl;
        rows = λ i. refl;
        waits = λ w h e. h;
        suspect = find_kept_in (is_suspect (client d)) (λ s. not (is_over t.state.authority.wait now s)) t.state.authority.suspects (λ y i f. ap not (h y i (eqb-true y.client.0 d f)));
        suspects = λ s i e. (has_filter (λ s. not (is_over t.state.authority.wait now s)) t.state.authority.suspects s i).0;
      })
      (steal_none d (over t.state.authority now) (with_authority (still_running t.state.authority now) t)
      (λ c i e. let o = over_has t.state.authority now c i in let z = h o.0 o.1 (ap (λ (c : ClientId). c.0) (sym o.3) ∙ e) in let y = o.2 in cc)))
      (λ N s. steals_said d (over t.state.authority now) (with_authority (still_running t.state.authority now) t) N s)).go x r

  pub thefts_go : (t : ServerTurn) → Goes k cl d now t (thefts t now)
  thefts_go t = record { go = λ x r. by x r (suspect_of t.state.authority (client d)) refl }
    where
      by_test : (x : Ghost) → Ready d k.wait now t x → (s : Suspect) → suspect_of t.state.authority (client d) ≡ Some s → (b : Bool) → is_over t.state.authority.wait now s ≡ b → Result k cl d now t (thefts t now) x
      by_test x r s e true o = theft t x r s e o
      by_test x r s e false o = no_theft t x r (λ y h f. subst (λ z. is_over t.state.authority.wait now z ≡ false) (some_is s y (sym e ∙ r.sound.once y h f)) o)

      by : (x : Ghost) → Ready d k.wait now t x → (o : Option Suspect) → suspect_of t.state.authority (client d) ≡ o → Result k cl d now t (thefts t now) x
      by x r None e = no_theft t x r (λ y h f. let z = none_has (is_suspect (client d)) t.state.authority.suspects e y h in let q = eq-eqb y.client.0 d f in cc)
      by x r (Some s) e = by_test x r s e (is_over t.state.authority.wait now s) refl
