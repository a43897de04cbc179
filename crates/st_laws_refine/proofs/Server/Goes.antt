-- What a rule of the server is for one client: moves of its association, and what is ready stays so.
use Rattle.st_lemmas.proofs.Words
use Words.{◌≡◌, ◌≢◌, ℕ, ◌+◌, ◌<◌, ◌≤◌, Bool, true, false, List, [], ◌∷◌, ◌++◌, refl, sym, ap, ◌∙◌, subst, arith, cond, Option, Some, None, is_some, Stamp}
use Words.{Header, Body, Output, Waiter, Suspect, Session, SessionState}
use Words.outputs
use Words.states.{Live, Ended}
use Words.Keys.{client}
use Words.Locks as locks
use Words.Sessions as sessions
use Words.Authority as authority
use Words.Grace as grace
use Words.Server.{ServerState, ServerTurn, reply}
use Words.Lists.{Has}
use Rattle.st_base.specs.Mode.{number_of}
use Rattle.st_protocol.specs.Assoc as net
use Rattle.st_protocol.specs.Assoc.{Config, Msg, Assoc, Moves, Stays}
use Rattle.st_laws_refine.proofs.Views.Moves.{moves_on, moved, Grows, moves_grow, shows_more, shown_more}
use Rattle.st_laws_refine.specs.Views.Messages.{shown, Shows}
use Rattle.st_laws_refine.specs.Views.Halves.{Ghost, half, row_or, row_view, life_view, live_view}
use Rattle.st_laws_refine.specs.Server.View.{at, TimerIs, GraceIs, SaidOne, Said, ServesLife, RowOk, Asked, WaitOk, KeptState, Kept, NotEnded, Sound, Ready}

pub said_one_more : (d : ℕ) (o : Output) (N M : List Msg) → Grows N M → SaidOne d o N → SaidOne d o M
said_one_more d (outputs.Send m) N M g s = λ e. shown_more m N M g (s e)
said_one_more d (outputs.Submit n a w) N M g s = s
said_one_more d (outputs.Answer o a) N M g s = s
said_one_more d (outputs.Note n) N M g s = s

pub said_more : (d : ℕ) (os : List Output) (N M : List Msg) → Grows N M → Said d os N → Said d os M
said_more d [] N M g s = s
said_more d (o ∷ os) N M g s = record { one = said_one_more d o N M g s.one; rest = said_more d os N M g s.rest }

pub said_append : (d : ℕ) (os : List Output) (o : Output) (N : List Msg) → Said d os N → SaidOne d o N → Said d (os ++ o ∷ []) N
said_append d [] o N s e = record { one = e; rest = tt }
said_append d (x ∷ os) o N s e = record { one = s.one; rest = said_append d os o N s.rest e }

pub asked_more : (life epoch : ℕ) (N M : List Msg) → Grows N M → Asked life epoch N → Asked life epoch M
asked_more life epoch N M g a = record { stamp = a.stamp; is = g _ a.is }

kept_state_more : (life epoch : ℕ) (s : SessionState) (N M : List Msg) → Grows N M → KeptState life epoch s N → KeptState life epoch s M
kept_state_more life epoch (Live last None) N M g q = q
kept_state_more life epoch (Live last (Some reply)) N M g q = record { old = q.old; shows = shows_more life epoch q.old (shown last reply) N M g q.shows; all = q.all }
kept_state_more life epoch Ended N M g q = q

pub kept_more : (epoch : ℕ) (s : Option Session) (N M : List Msg) → Grows N M → Kept epoch s N → Kept epoch s M
kept_more epoch None N M g q = q
kept_more epoch (Some s) N M g q = kept_state_more s.life.0 epoch s.state N M g q

pub wait_more : (s : Option Session) (timed : Bool) (row : Option net.Row) (epoch : ℕ) (N M : List Msg) (w : Waiter) → Grows N M → WaitOk s timed row epoch N w → WaitOk s timed row epoch M w
wait_more s timed row epoch N M w g q = record { born = q.born; served = q.served; free = q.free; higher = q.higher; asked = asked_more w.life.0 epoch N M g q.asked }

-- the same state with more in the network, and another base
pub record SameStarts (x y : Ghost) : Type 0 where
  pub start : y.start ≡ x.start
  pub gstart : y.gstart ≡ x.gstart
  pub top : y.top ≡ x.top

pub sound_more : (d wait : ℕ) (now : Stamp) (n : ServerState) (x y : Ghost) → SameStarts x y → Grows x.net y.net → y.top ≤ locks.first_after n.locks.epoch + n.locks.grants → Sound d wait now n x → Sound d wait now n y
sound_more d wait now n x y e g le s =
    record {
      lepoch = s.lepoch;
      sepoch = s.sepoch;
      await = s.await;
      top = le;
      once = s.once;
      fresh = λ g. let z = s.fresh g in let q = e.top in omega arith;
      gstart = subst (GraceIs wait n.grace) (sym e.gstart) s.gstart;
      start = subst (TimerIs (authority.suspect_of n.authority (client d))) (sym e.start) s.start;
      begun = let b = s.begun in let f = e.gstart in omega arith;
      timer = λ t. let b = s.timer t in let f = e.start in let f2 = e.gstart in omega arith;
      graced = s.graced;
      rows = s.rows;
      waits = λ w h e. wait_more _ _ _ _ x.net y.net w g (s.waits w h e);
      kept = kept_more n.stable.epoch.0 (sessions.session_of n.sessions (client d)) x.net y.net g s.kept;
    }

-- a change that this client does not see
pub record Frame (d : ℕ) (n v : ServerState) : Type 0 where
  pub epoch : v.stable.epoch ≡ n.stable.epoch
  pub lepoch : v.locks.epoch ≡ n.locks.epoch
  pub sepoch : v.sessions.epoch ≡ n.sessions.epoch
  pub await : v.authority.wait ≡ n.authority.wait
  pub grace : v.grace ≡ n.grace
  pub grants : n.locks.grants ≤ v.locks.grants
  pub session : sessions.session_of v.sessions (client d) ≡ sessions.session_of n.sessions (client d)
  pub suspect : authority.suspect_of v.authority (client d) ≡ authority.suspect_of n.authority (client d)
  pub rows : (i : ℕ) → row_view (locks.row_of v.locks (client d) i) ≡ row_view (locks.row_of n.locks (client d) i)
  pub waits : (w : Waiter) → Has w v.locks.waiters → w.client.0 ≡ d → Has w n.locks.waiters
  pub suspects : (s : Suspect) → Has s v.authority.suspects → s.client.0 ≡ d → Has s n.authority.suspects

pub wait_kept : (s s2 : Option Session) (timed t2 : Bool) (row r2 : Option net.Row) (epoch e2 : ℕ) (N : List Msg) (w : Waiter) → s2 ≡ s → t2 ≡ timed → r2 ≡ row → e2 ≡ epoch → WaitOk s timed row epoch N w → WaitOk s2 t2 r2 e2 N w
wait_kept s s2 timed t2 row r2 epoch e2 N w es et er ee q =
    record {
      born = q.born;
      served = subst (ServesLife w.life.0) (sym es) q.served;
      free = et ∙ q.free;
      higher = subst (λ r. (row_or r).mode < number_of w.mode) (sym er) q.higher;
      asked = subst (λ e. Asked w.life.0 e N) (sym ee) q.asked;
    }

pub frame_sound : (d wait : ℕ) (now : Stamp) (n v : ServerState) (x : Ghost) → Frame d n v → Sound d wait now n x → Sound d wait now v x
frame_sound d wait now n v x f s =
    record {
      lepoch = f.lepoch ∙ s.lepoch ∙ sym f.epoch;
      sepoch = f.sepoch ∙ s.sepoch ∙ sym f.epoch;
      await = f.await ∙ s.await;
      gstart = subst (λ g. GraceIs wait g x.gstart) (sym f.grace) s.gstart;
      begun = s.begun;
      start = subst (λ o. TimerIs o x.start) (sym f.suspect) s.start;
      once = λ y h e. f.suspect ∙ s.once y (f.suspects y h e) e;
      top = let a = s.top in let b = f.grants in subst (λ e. x.top ≤ locks.first_after e + v.locks.grants) (sym f.lepoch) (omega arith);
      timer = subst (λ o. is_some o ≡ true → x.gstart ≤ x.start) (sym f.suspect) s.timer;
      fresh = subst (λ e. grace.is_on v.grace now ≡ true → x.top < locks.first_after e) (sym f.epoch) (subst (λ g. grace.is_on g now ≡ true → x.top < locks.first_after n.stable.epoch) (sym f.grace) s.fresh);
      graced = subst (λ g. grace.is_on g now ≡ true → NotEnded (sessions.session_of v.sessions (client d))) (sym f.grace) (subst (λ o. grace.is_on n.grace now ≡ true → NotEnded o) (sym f.session) s.graced);
      rows = λ i. subst (λ o. RowOk o (row_view (locks.row_of v.locks (client d) i))) (sym f.session) (subst (RowOk (sessions.session_of n.sessions (client d))) (sym (f.rows i)) (s.rows i));
      waits = λ w h e. wait_kept _ _ _ _ _ _ _ _ x.net w f.session (ap is_some f.suspect) (f.rows w.ino) (ap (λ e. e.0) f.epoch) (s.waits w (f.waits w h e) e);
      kept = subst (λ e. Kept e (sessions.session_of v.sessions (client d)) x.net) (ap (λ e. e.0) (sym f.epoch)) (subst (λ o. Kept n.stable.epoch.0 o x.net) (sym f.session) s.kept);
    }

pub frame_at : (cl : net.Client) (d : ℕ) (now : Stamp) (n v : ServerState) (x : Ghost) → Frame d n v → at cl (client d) now n x ≡ at cl (client d) now v x
frame_at cl d now n v x f = λ j.
    record {
      c = cl;
      s = record (half (client d) now n x) {
        epoch = (sym f.epoch j).0;
        grace = grace.is_on (sym f.grace j) now;
        session = life_view (sym f.session j);
        live = live_view (sym f.session j);
        row = λ i. row_or (sym (f.rows i) j);
        timed = is_some (sym f.suspect j);
      };
      net = x.net;
    }

pub frame_same : (d : ℕ) (n : ServerState) → Frame d n n
frame_same d n = record { epoch = refl; lepoch = refl; sepoch = refl; await = refl; grace = refl; grants = omega arith; session = refl; suspect = refl; rows = λ i. refl; waits = λ w h e. h; suspects = λ s h e. h }

pub frame_then : (d : ℕ) (n v u : ServerState) → Frame d n v → Frame d v u → Frame d n u
frame_then d n v u f g =
    record {
      epoch = g.epoch ∙ f.epoch;
      lepoch = g.lepoch ∙ f.lepoch;
      sepoch = g.sepoch ∙ f.sepoch;
      await = g.await ∙ f.await;
      grace = g.grace ∙ f.grace;
      grants = let a = f.grants in let b = g.grants in omega arith;
      session = g.session ∙ f.session;
      suspect = g.suspect ∙ f.suspect;
      rows = λ i. g.rows i ∙ f.rows i;
      waits = λ w h e. f.waits w (g.waits w h e) e;
      suspects = λ s h e. f.suspects s (g.suspects s h e) e;
    }

module _ (k : Config) (cl : net.Client) (d : ℕ) (now : Stamp) where
  abbrev pub observe : ServerState → Ghost → Assoc
  observe n x = at cl (client d) now n x

  pub record Result (t u : ServerTurn) (x : Ghost) : Type 0 where
    pub ghost : Ghost
    pub moves : Moves k (observe t.state x) (observe u.state ghost)
    pub ready : Ready d k.wait now u ghost

  pub record Goes (t u : ServerTurn) : Type 0 where
    pub go : (x : Ghost) → Ready d k.wait now t x → Result t u x

  pub goes_same : (t : ServerTurn) → Goes t t
  goes_same t = record { go = λ x r. record { ghost = x; moves = Stays (observe t.state x); ready = r } }

  pub goes_then : (t u v : ServerTurn) → Goes t u → Goes u v → Goes t v
  goes_then t u v f g = record { go = λ x r. let a = f.go x r in let b = g.go a.ghost a.ready in record { ghost = b.ghost; moves = moves_on a.moves b.moves; ready = b.ready } }

  pub if_goes : (t : ServerTurn) (b : Bool) (u v : ServerTurn) → (b ≡ true → Goes t u) → (b ≡ false → Goes t v) → Goes t (cond b u v)
  if_goes t true u v p q = p refl
  if_goes t false u v p q = q refl

  -- what this client does not see
  pub unseen : (t u : ServerTurn) → Frame d t.state u.state → ((N : List Msg) → Said d t.out N → Said d u.out N) → Goes t u
  unseen t u f s =
      record {
        go = λ x r. record {
          ghost = x;
          moves = moved k _ _ _ (Stays (observe t.state x)) (frame_at cl d now t.state u.state x f);
          ready = record { said = s x.net r.said; sound = frame_sound d k.wait now t.state u.state x f r.sound };
        };
      }

  -- first what this client does not see
  pub first_unseen : (t u v : ServerTurn) (x : Ghost) → Frame d t.state u.state → (Said d t.out x.net → Said d u.out x.net) → Ready d k.wait now t x → (Ready d k.wait now u x → Result u v x) → Result t v x
  first_unseen t u v x f s r g =
      let b = g (record { said = s r.said; sound = frame_sound d k.wait now t.state u.state x f r.sound }) in
      record { ghost = b.ghost; moves = moves_on (moved k _ _ _ (Stays (observe t.state x)) (frame_at cl d now t.state u.state x f)) b.moves; ready = b.ready }

  -- more in the network, and nothing else
  pub received_more : (t : ServerTurn) (x y : Ghost) → SameStarts x y → Moves k (observe t.state x) (observe t.state y) → y.top ≡ x.top → Ready d k.wait now t x → Ready d k.wait now t y
  received_more t x y st m e r =
      record {
        said = said_more d t.out x.net y.net (moves_grow m) r.said;
        sound = sound_more d k.wait now t.state x y st (moves_grow m) (let a = r.sound.top in omega arith) r.sound;
      }

  -- a reply of this client, that is in the network
  pub replies : (t : ServerTurn) (h : Header) (body : Body) (x y : Ghost) → SameStarts x y → Moves k (observe t.state x) (observe t.state y) → y.top ≡ x.top → Shows h.life t.state.stable.epoch.0 h.stamp (shown h.number body) y.net → Ready d k.wait now t x → Result t (reply t h body) x
  unfolding reply
  replies t h body x y st m e w r =
      let q = received_more t x y st m e r in
      record { ghost = y; moves = m; ready = record { said = said_append d t.out _ y.net q.said (λ e. record { all = w }); sound = q.sound } }

  -- a reply to another client
  pub replies_other : (t : ServerTurn) (h : Header) (body : Body) → h.from ≢ d → Goes t (reply t h body)
  unfolding reply
  replies_other t h body ne = unseen t (reply t h body) (frame_same d t.state) (λ N s. said_append d t.out _ N s (λ e. absurd (ne e)))
