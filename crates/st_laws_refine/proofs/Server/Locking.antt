-- Acquire and release.
use Rattle.st_lemmas.proofs.Words
use Words.{◌≡◌, ◌≢◌, ℕ, ◌<◌, ◌≤◌, ◌⊎◌, Bool, true, false, List, [], ◌∷◌, ◌==◌, refl, sym, ap, ◌∙◌, subst, inl, inr, arith, not, cond, find, Option, Some, None}
use Words.{is_some, option_map, Result as Res, Ok, Err, eqb-true, leb-false, ClientId, GrantNo, Life, Stamp, Mode, Header, LockRow, AcquireRefusal, Waiter}
use Words.{Session}
use Words.modes
use Words.bodies as bd
use Words.Keys.{client}
use Words.Locks as locks
use Words.Locks.{Locks, Acquired, Released, is_row_of, row_of, is_wait_of, wait_of, grant, next_grant, greater, wait_for, raise, new_wait, queue_at, queue}
use Words.Locks.{may_grant, has_place, acquire_granted, acquire_queued, acquire_held, acquire_more, acquire_new, acquire_over, acquire_at, lowered, release_to}
use Words.Locks.{release, not_released, is_under, released_at}
use Words.Sessions as sessions
use Words.Sessions.{session_of}
use Words.Authority.{suspect_of}
use Words.Grace as grace
use Words.Server as sv
use Words.Server.{ServerState, ServerTurn, Replied, replied, with_locks, sender, life_in, is_file, grants_now, acquire_by, acquire_lock, no_file, released_by}
use Words.Lists.{Has}
use Words.Tables.{same_or_not, and_true, not_true, cond_either, cond_false, find_kept, find_gone, find_other, find_own, has_append, has_map}
use Rattle.st_base.specs.Mode.{number_of, covers}
use Rattle.st_rules.specs.declared.locks.AcquireRefusal.TheVariants.{TooManyLocks}
use Rattle.st_protocol.specs.Assoc as net
use Rattle.st_protocol.specs.Assoc.{Config, Msg, msg, In, Assoc, upd, Again, GrantsAgain, Releases, Sweeps, Moves}
use Rattle.st_protocol.proofs.Lists.{upd-same, upd-other}
use Rattle.st_laws_refine.specs.Views.Messages.{released_to, with_date, Shows}
use Rattle.st_laws_refine.specs.Views.Halves.{Ghost, half, row_seen, row_or, row_view, life_view, live_view}
use Rattle.st_laws_refine.specs.Server.View.{ServesLife, RowOk, WaitOk, AllKept, Sound, Ready}
use Rattle.st_laws_refine.proofs.Server.Changes.{row_not, row_not_ino}
use Rattle.st_laws_refine.proofs.Views.Moves.{one, moved, moves_on, moves_grow}
use Rattle.st_laws_refine.proofs.Server.Goes.{said_more, kept_more, wait_kept, wait_more, sound_more, Frame, frame_same, observe, received_more}
use Rattle.st_laws_refine.proofs.Server.Passes.{grant_moves, grant_frame, granted_state}
use Rattle.st_laws_refine.proofs.Server.Requests.{quiet_answer, ReplyOk, Serving, Rule, acks, serving_life, quiet_rule}

-- What a queue does.
pub queue_rows : (l : Locks) (c : ClientId) (life : Life) (ino : ℕ) (mode : Mode) (o : Option Waiter) → (queue_at l c life ino mode o).rows ≡ l.rows
unfolding queue_at
queue_rows l c life ino mode None = refl
queue_rows l c life ino mode (Some w) = refl

queue_epoch : (l : Locks) (c : ClientId) (life : Life) (ino : ℕ) (mode : Mode) (o : Option Waiter) → ((queue_at l c life ino mode o).epoch ≡ l.epoch) × ((queue_at l c life ino mode o).grants ≡ l.grants)
unfolding queue_at
queue_epoch l c life ino mode None = (refl, refl)
queue_epoch l c life ino mode (Some w) = (refl, refl)

-- a wait of the queue: an old one, the new one, or an old one that was raised
pub data QueuedWait (l : Locks) (c : ClientId) (life : Life) (ino : ℕ) (mode : Mode) (w : Waiter) : Type 0 where
  Old : Has w l.waiters → QueuedWait l c life ino mode w
  New : w ≡ new_wait c life ino mode → QueuedWait l c life ino mode w
  Raised : (v : Waiter) → Has v l.waiters → is_wait_of c ino v ≡ true → w ≡ wait_for mode v → QueuedWait l c life ino mode w

pub queue_waits : (l : Locks) (c : ClientId) (life : Life) (ino : ℕ) (mode : Mode) (o : Option Waiter) (w : Waiter) → Has w (queue_at l c life ino mode o).waiters → QueuedWait l c life ino mode w
unfolding queue_at
queue_waits l c life ino mode None w h = go (has_append l.waiters (new_wait c life ino mode ∷ []) w h)
  where
    go : Has w l.waiters ⊎ Has w (new_wait c life ino mode ∷ []) → QueuedWait l c life ino mode w
    go (inl i) = Old i
    go (inr (inl e)) = New e
    go (inr (inr f)) = elim f [ ]
queue_waits l c life ino mode (Some x) w h = let m = has_map (raise c ino mode) l.waiters w h in go m.0 m.1 (is_wait_of c ino m.0) refl m.2
  where
    go : (v : Waiter) → Has v l.waiters → (b : Bool) → is_wait_of c ino v ≡ b → w ≡ raise c ino mode v → QueuedWait l c life ino mode w
    go v i true e f = Raised v i e (f ∙ ap (λ b. cond b (wait_for mode v) v) e)
    go v i false e f = Old (subst (λ x. Has x l.waiters) (sym (f ∙ ap (λ b. cond b (wait_for mode v) v) e)) i)

pub raised_mode : (m n : Mode) → number_of m ≤ number_of (greater m n)
raised_mode m n = cond_either (λ x. number_of m ≤ number_of x) (covers m n) m n (λ e. omega arith) (λ e. let z = leb-false (number_of n) (number_of m) e in omega arith)

raised_client : (v : Waiter) (mode : Mode) → v.client.0 ≡ (wait_for mode v).client.0
unfolding wait_for
raised_client v mode = refl

raised_wait : (v : Waiter) (mode : Mode) (t : ServerTurn) (h : Header) (x : Ghost) → WaitOk (session_of t.state.sessions (client h.from)) (is_some (suspect_of t.state.authority (client h.from))) (row_view (row_of t.state.locks (client h.from) v.ino)) t.state.stable.epoch.0 x.net v →
    WaitOk (session_of t.state.sessions (client h.from)) (is_some (suspect_of t.state.authority (client h.from))) (row_view (row_of t.state.locks (client h.from) (wait_for mode v).ino)) t.state.stable.epoch.0 x.net (wait_for mode v)
unfolding wait_for
raised_wait v mode t h x o = record { born = o.born; served = o.served; free = o.free; higher = let a = o.higher in let b = raised_mode v.mode mode in omega arith; asked = record { stamp = o.asked.stamp; is = o.asked.is } }

-- Release.
pub released_other : (l : Locks) (c : ClientId) (ino : ℕ) (to : Mode) (d i : ℕ) → c.0 ≢ d → row_of (release_to l c ino to) (client d) i ≡ row_of l (client d) i
unfolding release_to lowered
released_other l c ino modes.None d i ne = find_kept (is_row_of (client d) i) (λ r. not (is_row_of c ino r)) (λ r e. ap not (row_not c d i ino ne r e)) l.rows
released_other l c ino modes.S d i ne = find_other (is_row_of (client d) i) (is_row_of c ino) lowered (λ r. refl) (λ r e. row_not c d i ino ne r e) l.rows
released_other l c ino modes.X d i ne = find_other (is_row_of (client d) i) (is_row_of c ino) lowered (λ r. refl) (λ r e. row_not c d i ino ne r e) l.rows

pub released_elsewhere : (l : Locks) (c : ClientId) (ino : ℕ) (to : Mode) (i : ℕ) → i ≢ ino → row_of (release_to l c ino to) c i ≡ row_of l c i
unfolding release_to lowered
released_elsewhere l c ino modes.None i ne = find_kept (is_row_of c i) (λ r. not (is_row_of c ino r)) (λ r e. ap not (row_not_ino c c.0 i ino ne r e)) l.rows
released_elsewhere l c ino modes.S i ne = find_other (is_row_of c i) (is_row_of c ino) lowered (λ r. refl) (λ r e. row_not_ino c c.0 i ino ne r e) l.rows
released_elsewhere l c ino modes.X i ne = find_other (is_row_of c i) (is_row_of c ino) lowered (λ r. refl) (λ r e. row_not_ino c c.0 i ino ne r e) l.rows

abbrev lowered_view : Mode → LockRow → Option net.Row
lowered_view modes.None r = None
lowered_view modes.S r = Some (record { life = r.life.0; g = r.g.0; mode = 1 })
lowered_view modes.X r = Some (record { life = r.life.0; g = r.g.0; mode = 1 })

released_here : (l : Locks) (c : ClientId) (ino : ℕ) (to : Mode) (r : LockRow) → row_of l c ino ≡ Some r → row_view (row_of (release_to l c ino to) c ino) ≡ lowered_view to r
unfolding release_to lowered
released_here l c ino modes.None r e = ap row_view (find_gone (is_row_of c ino) (λ r. not (is_row_of c ino r)) (λ r h. ap not h) l.rows)
released_here l c ino modes.S r e = ap row_view (find_own (is_row_of c ino) (is_row_of c ino) lowered (λ r. refl) (λ r h. h) l.rows ∙ ap (option_map lowered) e)
released_here l c ino modes.X r e = ap row_view (find_own (is_row_of c ino) (is_row_of c ino) lowered (λ r. refl) (λ r h. h) l.rows ∙ ap (option_map lowered) e)

released_waits : (l : Locks) (c : ClientId) (ino : ℕ) (to : Mode) → ((release_to l c ino to).waiters ≡ l.waiters) × ((release_to l c ino to).epoch ≡ l.epoch) × ((release_to l c ino to).grants ≡ l.grants)
unfolding release_to
released_waits l c ino modes.None = (refl, refl, refl)
released_waits l c ino modes.S = (refl, refl, refl)
released_waits l c ino modes.X = (refl, refl, refl)

-- the row after a release, as the machine has it before and after its sweep
abbrev reduced : ℕ → ℕ → Mode → net.Row
reduced life g to = record { life = life; g = g; mode = released_to to }

swept_row : (life g : ℕ) (to : Mode) (r : LockRow) → r.life.0 ≡ life → r.g.0 ≡ g → (row_or (lowered_view to r) ≡ reduced life g to) ⊎ (((reduced life g to).mode ≡ 0) × (row_or (lowered_view to r) ≡ net.no_row))
swept_row life g modes.None r e f = inr (refl, refl)
swept_row life g modes.S r e f = inl (λ j. record { life = e j; g = f j; mode = 1 })
swept_row life g modes.X r e f = inl (λ j. record { life = e j; g = f j; mode = 1 })

lower_mode : (to : Mode) (r : LockRow) → 1 ≤ number_of r.mode → (row_or (lowered_view to r)).mode ≤ number_of r.mode
lower_mode modes.None r h = omega arith
lower_mode modes.S r h = h
lower_mode modes.X r h = h

lower_ok : (s : Option Session) (to : Mode) (r : LockRow) → ServesLife r.life.0 s → RowOk s (lowered_view to r)
lower_ok s modes.None r q = tt
lower_ok s modes.S r q = record { served = q; some = omega arith }
lower_ok s modes.X r q = record { served = q; some = omega arith }

to_low : (to : Mode) → released_to to ≤ 1
to_low modes.None = omega arith
to_low modes.S = omega arith
to_low modes.X = omega arith

module _ (k : Config) (cl : net.Client) (now : Stamp) where
  -- a release of this client's row
  release_own : (t : ServerTurn) (h : Header) (x : Ghost) (ino : ℕ) (g : GrantNo) (to : Mode) (r : LockRow) → Ready h.from k.wait now t x → Serving h.from t h x.net → In (msg h.life t.state.stable.epoch.0 h.stamp (net.Released ino g.0 (released_to to))) x.net →
      row_of t.state.locks (sender h) ino ≡ Some r → r.life.0 ≡ h.life → r.g.0 ≡ g.0 → Rule k cl now h.from t h x (replied (with_locks (release_to t.state.locks (sender h) ino to) t) bd.Ack)
  release_own t h x ino g to r rd q i e el eg =
      record { ghost = y; moves = moves; ready = record { said = said_more h.from t.out x.net y.net (λ m i. inr i) rd.said; sound = sound }; same = refl; epoch = refl; reply = record { shows = record { one = inl refl; rest = tt }; all = record { one = refl; rest = tt } } }
    where
      n : ServerState
      n = t.state

      l : Locks
      l = release_to n.locks (sender h) ino to

      v : ServerState
      v = (with_locks l t).state

      y : Ghost
      y = record x { net = msg h.life n.stable.epoch.0 h.stamp net.Ack ∷ x.net }

      rowf : ℕ → net.Row
      rowf i = row_or (row_view (row_of n.locks (client h.from) i))

      f : ℕ → net.Row
      f = λ i. row_or (row_view (row_of n.locks (client h.from) i))

      row : f ino ≡ row_seen r
      row = ap (λ o. row_or (row_view o)) e

      life : (f ino).life ≡ h.life
      life = ap (λ (w : net.Row). w.life) row ∙ el

      ok : RowOk (session_of n.sessions (client h.from)) (Some (row_seen r))
      ok = subst (λ o. RowOk (session_of n.sessions (client h.from)) (row_view o)) e (rd.sound.rows ino)

      some : 1 ≤ (f ino).mode
      some = subst (λ (w : net.Row). 1 ≤ w.mode) (sym row) ok.some

      mid : ℕ → Assoc
      mid life = record { c = cl; s = record (half (client h.from) now n x) { row = upd f ino (record { life = life; g = g.0; mode = released_to to }) }; net = msg life n.stable.epoch.0 h.stamp net.Ack ∷ x.net }

      at_end : (i : ℕ) → (row_or (row_view (row_of v.locks (client h.from) i)) ≡ upd f ino (reduced h.life g.0 to) i) ⊎ (((upd f ino (reduced h.life g.0 to) i).mode ≡ 0) × (row_or (row_view (row_of v.locks (client h.from) i)) ≡ net.no_row))
      at_end i = go (same_or_not i ino)
        where
          P : ℕ → net.Row → net.Row → Type 0
          P i a b = (a ≡ b) ⊎ ((b.mode ≡ 0) × (a ≡ net.no_row))

          go : (i ≡ ino) ⊎ (i ≢ ino) → P i (row_or (row_view (row_of v.locks (client h.from) i))) (upd f ino (reduced h.life g.0 to) i)
          go (inl z) = subst (λ i. P i (row_or (row_view (row_of v.locks (client h.from) i))) (upd f ino (reduced h.life g.0 to) i)) (sym z)
              (subst (λ a. P ino a (upd f ino (reduced h.life g.0 to) ino)) (ap row_or (sym (released_here n.locks (sender h) ino to r e)))
              (subst (λ b. P ino (row_or (lowered_view to r)) b) (sym (upd-same f ino (reduced h.life g.0 to))) (swept_row h.life g.0 to r el eg)))
          go (inr ne) = inl (ap (λ o. row_or (row_view o)) (released_elsewhere n.locks (sender h) ino to i ne) ∙ sym (upd-other f ino (reduced h.life g.0 to) i ne))

      released : Moves k (observe k cl h.from now n x) (mid h.life)
      released =
          moved k _ _ _ (one (Releases (observe k cl h.from now n x) h.stamp ino g.0 (released_to to) (subst (λ l. In (msg l n.stable.epoch.0 h.stamp (net.Released ino g.0 (released_to to))) x.net) (sym life) i) (record { up = refl; free = q.free })
          (ap (λ (w : net.Row). w.g) row ∙ eg) some (let a = to_low to in let b = some in omega arith)) refl)
          (ap mid life)

      moves : Moves k (observe k cl h.from now n x) (observe k cl h.from now v y)
      moves = moves_on released (one (Sweeps (mid h.life) (λ i. row_or (row_view (row_of v.locks (client h.from) i))) at_end) refl)

      s : Sound h.from k.wait now n x
      s = rd.sound

      same : (i : ℕ) → i ≢ ino → row_view (row_of v.locks (client h.from) i) ≡ row_view (row_of n.locks (client h.from) i)
      same i ne = ap row_view (released_elsewhere n.locks (sender h) ino to i ne)

      parts : (l.waiters ≡ n.locks.waiters) × (l.epoch ≡ n.locks.epoch) × (l.grants ≡ n.locks.grants)
      parts = released_waits n.locks (sender h) ino to

      row_ok : (i : ℕ) → (i ≡ ino) ⊎ (i ≢ ino) → RowOk (session_of n.sessions (client h.from)) (row_view (row_of v.locks (client h.from) i))
      row_ok i (inl z) = subst (λ i. RowOk (session_of n.sessions (client h.from)) (row_view (row_of v.locks (client h.from) i))) (sym z) (subst (RowOk (session_of n.sessions (client h.from))) (sym (released_here n.locks (sender h) ino to r e)) (lower_ok _ to r ok.served))
      row_ok i (inr ne) = subst (RowOk (session_of n.sessions (client h.from))) (sym (same i ne)) (s.rows i)

      less : (i : ℕ) → (i ≡ ino) ⊎ (i ≢ ino) → (row_or (row_view (row_of v.locks (client h.from) i))).mode ≤ (f i).mode
      less i (inl z) = subst (λ i. (row_or (row_view (row_of v.locks (client h.from) i))).mode ≤ (f i).mode) (sym z)
          (let a = lower_mode to r ok.some in let b = ap (λ (w : net.Row). w.mode) row in let c = ap (λ o. (row_or o).mode) (released_here n.locks (sender h) ino to r e) in omega arith)
      less i (inr ne) = let c = ap (λ o. (row_or o).mode) (same i ne) in omega arith

      sound : Sound h.from k.wait now v y
      sound = record {
        lepoch = parts.1 ∙ s.lepoch;
        sepoch = s.sepoch;
        await = s.await;
        gstart = s.gstart;
        begun = s.begun;
        start = s.start;
        once = s.once;
        timer = s.timer;
        graced = s.graced;
        fresh = s.fresh;
        top = let a = s.top in let b = parts.2 in let c = ap locks.first_after parts.1 in omega arith;
        rows = λ i. row_ok i (same_or_not i ino);
        waits = λ w hs z. let p = s.waits w (subst (λ ws. Has w ws) parts.0 hs) z in let a = p.higher in let b = less w.ino (same_or_not w.ino ino) in
            record { born = p.born; served = p.served; free = p.free; higher = omega arith; asked = record { stamp = p.asked.stamp; is = inr p.asked.is } };
        kept = kept_more n.stable.epoch.0 (session_of n.sessions (client h.from)) x.net y.net (λ m i. inr i) s.kept;
      }

  pub released_rule : (t : ServerTurn) (h : Header) (x : Ghost) (ino : ℕ) (g : GrantNo) (to : Mode) → Ready h.from k.wait now t x → Serving h.from t h x.net → In (msg h.life t.state.stable.epoch.0 h.stamp (net.Released ino g.0 (released_to to))) x.net → Rule k cl now h.from t h x (sv.released t h ino g to)
  unfolding sv.released released_by locks.released released_at release not_released
  released_rule t h x ino g to rd q i = go (row_of t.state.locks (sender h) ino) refl
    where
      P : Released → Type 0
      P r = Rule k cl now h.from t h x (replied (with_locks r.locks t) bd.Ack)

      go : (o : Option LockRow) → row_of t.state.locks (sender h) ino ≡ o → P (released_at t.state.locks (sender h) (life_in h) ino g to o)
      go None e = quiet_rule k cl now h.from t h x (replied t bd.Ack) rd q (quiet_answer h.from t bd.Ack (λ n. refl))
      go (Some r) e =
          cond_either P (is_under (life_in h) g r) (release t.state.locks (sender h) ino to) (not_released t.state.locks)
          (λ u. let p = and_true _ _ u in release_own t h x ino g to r rd q i e (eqb-true r.life.0 h.life p.0) (eqb-true r.g.0 g.0 p.1))
          (λ u. quiet_rule k cl now h.from t h x (replied t bd.Ack) rd q (quiet_answer h.from t bd.Ack (λ n. refl)))

  release_frame : (d : ℕ) (t : ServerTurn) (c : ClientId) (ino : ℕ) (to : Mode) → c.0 ≢ d → Frame d t.state (with_locks (release_to t.state.locks c ino to) t).state
  release_frame d t c ino to ne =
      let p = released_waits t.state.locks c ino to in
      record { epoch = refl; lepoch = p.1; sepoch = refl; await = refl; grace = refl; grants = let z = p.2 in omega arith; session = refl; suspect = refl; rows = λ i. ap row_view (released_other t.state.locks c ino to d i ne); waits = λ w h e. subst (λ ws. Has w ws) p.0 h; suspects = λ s h e. h }

  pub released_frame : (d : ℕ) (t : ServerTurn) (h : Header) (ino : ℕ) (g : GrantNo) (to : Mode) → h.from ≢ d → Frame d t.state (sv.released t h ino g to).turn.state
  unfolding sv.released released_by locks.released released_at release not_released
  released_frame d t h ino g to ne = go (row_of t.state.locks (sender h) ino)
    where
      go : (o : Option LockRow) → Frame d t.state (with_locks (released_at t.state.locks (sender h) (life_in h) ino g to o).locks t).state
      go None = frame_same d t.state
      go (Some r) = cond_either (λ (r : Released). Frame d t.state (with_locks r.locks t).state) (is_under (life_in h) g r) (release t.state.locks (sender h) ino to) (not_released t.state.locks) (λ u. release_frame d t (sender h) ino to ne) (λ u. frame_same d t.state)

  -- a grant that is in the network, with the date of what was asked
  record Dated (d : ℕ) (n : ServerState) (x : Ghost) (h : Header) (ino : ℕ) (g : GrantNo) (m : Mode) : Type 0 where
    net : List Msg
    moves : Moves k (observe k cl d now n x) (observe k cl d now n (record x { net = net }))
    reply : ReplyOk h n.stable.epoch.0 (Some (bd.Granted ino g m)) net

  dated_bodies : (n : ℕ) (bs : List net.Body) → (n == 0) ≡ false → with_date n bs ≡ net.Ack ∷ bs
  unfolding with_date
  dated_bodies n bs e = cond_false (n == 0) bs (net.Ack ∷ bs) e

  dated_grant : (d : ℕ) (n : ServerState) (x : Ghost) (h : Header) (ino : ℕ) (g : GrantNo) (m : Mode) → life_view (session_of n.sessions (client d)) ≡ h.life → live_view (session_of n.sessions (client d)) ≡ true → is_some (suspect_of n.authority (client d)) ≡ false → (h.number == 0) ≡ false →
      In (msg h.life n.stable.epoch.0 h.stamp net.Plain) x.net → In (msg h.life n.stable.epoch.0 0 (net.Granted ino g.0 (number_of m))) x.net → Dated d n x h ino g m
  dated_grant d n x h ino g m is live free nz p i =
      record {
        net = z.net;
        moves = moves_on again (acks k cl now d n y h.life h.stamp is live free (inr p));
        reply = record {
          shows = subst (λ bs. Shows h.life n.stable.epoch.0 h.stamp bs z.net) (sym (dated_bodies h.number (net.Granted ino g.0 (number_of m) ∷ []) nz)) (record { one = inl refl; rest = record { one = inr (inl refl); rest = tt } });
          all = subst AllKept (sym (dated_bodies h.number (net.Granted ino g.0 (number_of m) ∷ []) nz)) (record { one = refl; rest = record { one = refl; rest = tt } });
        };
      }
    where
      y : Ghost
      y = record x { net = msg h.life n.stable.epoch.0 h.stamp (net.Granted ino g.0 (number_of m)) ∷ x.net }

      z : Ghost
      z = record y { net = msg h.life n.stable.epoch.0 h.stamp net.Ack ∷ y.net }

      again : Moves k (observe k cl d now n x) (observe k cl d now n y)
      again = moved k _ _ _ (one (Again (observe k cl d now n x) 0 h.stamp (net.Granted ino g.0 (number_of m)) (subst (λ l. In (msg l n.stable.epoch.0 0 (net.Granted ino g.0 (number_of m))) x.net) (sym is) i) refl (subst (λ l. In (msg l n.stable.epoch.0 h.stamp net.Plain) x.net) (sym is) p) (record { up = refl; free = free }) live) refl)
          (λ j. record { c = cl; s = half (client d) now n x; net = msg (is j) n.stable.epoch.0 h.stamp (net.Granted ino g.0 (number_of m)) ∷ x.net })

  -- the held lock is sent again
  held_rule : (t : ServerTurn) (h : Header) (x : Ghost) (ino : ℕ) (r : LockRow) → Ready h.from k.wait now t x → Serving h.from t h x.net → row_of t.state.locks (sender h) ino ≡ Some r → Rule k cl now h.from t h x (replied t (bd.Granted ino r.g r.mode))
  held_rule t h x ino r rd q e =
      record { ghost = z; moves = moves; ready = received_more k cl h.from now t x z (record { start = refl; gstart = refl; top = refl }) moves refl rd; same = refl; epoch = refl; reply = dg.reply }
    where
      n : ServerState
      n = t.state

      ok : RowOk (session_of n.sessions (client h.from)) (Some (row_seen r))
      ok = subst (λ o. RowOk (session_of n.sessions (client h.from)) (row_view o)) e (rd.sound.rows ino)

      is : (life_view (session_of n.sessions (client h.from)) ≡ h.life) × (live_view (session_of n.sessions (client h.from)) ≡ true)
      is = serving_life k cl now h.from t h x.net q

      life : r.life.0 ≡ h.life
      life = sym (subst (ServesLife r.life.0) q.found ok.served).is ∙ q.life

      y : Ghost
      y = record x { net = msg h.life n.stable.epoch.0 0 (net.Granted ino r.g.0 (number_of r.mode)) ∷ x.net }

      told : Moves k (observe k cl h.from now n x) (observe k cl h.from now n y)
      told =
          moved k _ _ _ (one (GrantsAgain (observe k cl h.from now n x) ino (record { up = refl; free = q.free }) (subst (λ o. 1 ≤ (row_or (row_view o)).mode) (sym e) ok.some)) refl)
          ((λ j. record { c = cl; s = half (client h.from) now n x; net = msg (row_or (row_view (e j))).life n.stable.epoch.0 0 (net.Granted ino (row_or (row_view (e j))).g (row_or (row_view (e j))).mode) ∷ x.net })
          ∙ (λ j. record { c = cl; s = half (client h.from) now n x; net = msg (life j) n.stable.epoch.0 0 (net.Granted ino r.g.0 (number_of r.mode)) ∷ x.net }))

      dg : Dated h.from n y h ino r.g r.mode
      dg = dated_grant h.from n y h ino r.g r.mode is.0 is.1 q.free q.number (inr q.plain) (inl refl)

      z : Ghost
      z = record y { net = dg.net }

      moves : Moves k (observe k cl h.from now n x) (observe k cl h.from now n z)
      moves = moves_on told dg.moves

  wait_served : (t : ServerTurn) (h : Header) (x : Ghost) (ino : ℕ) (mode : Mode) → Serving h.from t h x.net → (row_or (row_view (row_of t.state.locks (client h.from) ino))).mode < number_of mode →
      WaitOk (session_of t.state.sessions (client h.from)) (is_some (suspect_of t.state.authority (client h.from))) (row_view (row_of t.state.locks (client h.from) ino)) t.state.stable.epoch.0 x.net (new_wait (sender h) (life_in h) ino mode)
  wait_served t h x ino mode q lt =
      record { born = q.born; served = subst (ServesLife h.life) (sym q.found) (record { live = ap sessions.is_live_state q.state; is = q.life }); free = q.free; higher = lt; asked = record { stamp = h.stamp; is = q.plain } }

  -- a new lock
  granted_rule : (t : ServerTurn) (h : Header) (x : Ghost) (ino : ℕ) (mode : Mode) → Ready h.from k.wait now t x → Serving h.from t h x.net → grace.is_on t.state.grace now ≡ false → (row_or (row_view (row_of t.state.locks (client h.from) ino))).mode < number_of mode →
      Rule k cl now h.from t h x (replied (with_locks (grant t.state.locks (sender h) (life_in h) ino mode) t) (bd.Granted ino (next_grant t.state.locks) mode))
  unfolding grant
  granted_rule t h x ino mode rd q off lt =
      record {
        ghost = z;
        moves = moves_on gm.1 dg.moves;
        ready = record {
          said = said_more h.from t.out x.net z.net (λ m i. moves_grow dg.moves m (moves_grow gm.1 m i)) rd.said;
          sound = sound_more h.from k.wait now v gm.0 z (record { start = refl; gstart = refl; top = refl }) (moves_grow dg.moves) gm.2.top gm.2;
        };
        same = refl;
        epoch = refl;
        reply = dg.reply;
      }
    where
      w : Waiter
      w = new_wait (sender h) (life_in h) ino mode

      v : ServerState
      v = granted_state k cl h.from now t t.state.locks w

      gm : (z : Ghost) × Moves k (observe k cl h.from now t.state x) (observe k cl h.from now v z) × Sound h.from k.wait now v z × In (msg h.life t.state.stable.epoch.0 0 (net.Granted ino (next_grant t.state.locks).0 (number_of mode))) z.net
      gm = grant_moves k cl h.from now t t.state.locks w x off refl (wait_served t h x ino mode q lt) rd.sound

      is : (life_view (session_of t.state.sessions (client h.from)) ≡ h.life) × (live_view (session_of t.state.sessions (client h.from)) ≡ true)
      is = serving_life k cl now h.from t h x.net q

      dg : Dated h.from v gm.0 h ino (next_grant t.state.locks) mode
      dg = dated_grant h.from v gm.0 h ino (next_grant t.state.locks) mode is.0 is.1 q.free q.number (moves_grow gm.1 _ q.plain) gm.3

      z : Ghost
      z = record gm.0 { net = dg.net }

  -- a lock that is waited for
  queued_rule : (t : ServerTurn) (h : Header) (x : Ghost) (ino : ℕ) (mode : Mode) → Ready h.from k.wait now t x → Serving h.from t h x.net → (row_or (row_view (row_of t.state.locks (client h.from) ino))).mode < number_of mode →
      Rule k cl now h.from t h x (replied (with_locks (queue t.state.locks (sender h) (life_in h) ino mode) t) (bd.Queued ino mode))
  unfolding queue
  queued_rule t h x ino mode rd q lt =
      record {
        ghost = y;
        moves = moved k _ _ _ (acks k cl now h.from t.state x h.life h.stamp is.0 is.1 q.free q.plain) (λ j. record { c = cl; s = record (half (client h.from) now t.state y) { row = λ i. row_or (row_view (find (is_row_of (client h.from) i) (sym rows j))) }; net = y.net });
        ready = record { said = said_more h.from t.out x.net y.net (λ m i. inr i) rd.said; sound = sound };
        same = refl;
        epoch = refl;
        reply = record { shows = record { one = inl refl; rest = tt }; all = record { one = refl; rest = tt } };
      }
    where
      y : Ghost
      y = record x { net = msg h.life t.state.stable.epoch.0 h.stamp net.Ack ∷ x.net }

      l : Locks
      l = queue_at t.state.locks (sender h) (life_in h) ino mode (wait_of t.state.locks (sender h) ino)

      rows : l.rows ≡ t.state.locks.rows
      rows = queue_rows t.state.locks (sender h) (life_in h) ino mode (wait_of t.state.locks (sender h) ino)

      parts : (l.epoch ≡ t.state.locks.epoch) × (l.grants ≡ t.state.locks.grants)
      parts = queue_epoch t.state.locks (sender h) (life_in h) ino mode (wait_of t.state.locks (sender h) ino)

      is : (life_view (session_of t.state.sessions (client h.from)) ≡ h.life) × (live_view (session_of t.state.sessions (client h.from)) ≡ true)
      is = serving_life k cl now h.from t h x.net q

      s : Sound h.from k.wait now t.state x
      s = rd.sound

      same : (i : ℕ) → row_view (row_of l (client h.from) i) ≡ row_view (row_of t.state.locks (client h.from) i)
      same i = ap (λ rs. row_view (find (is_row_of (client h.from) i) rs)) rows

      O : Waiter → Type 0
      O w = WaitOk (session_of t.state.sessions (client h.from)) (is_some (suspect_of t.state.authority (client h.from))) (row_view (row_of t.state.locks (client h.from) w.ino)) t.state.stable.epoch.0 x.net w

      wait_ok : (w : Waiter) → w.client.0 ≡ h.from → QueuedWait t.state.locks (sender h) (life_in h) ino mode w → O w
      wait_ok w e (Old i) = s.waits w i e
      wait_ok w e (New f) = subst O (sym f) (wait_served t h x ino mode q lt)
      wait_ok w e (Raised v i f g) = subst O (sym g) (raised_ok v (s.waits v i (eqb-true v.client.0 h.from (and_true _ _ f).0)))
        where
          raised_ok : (v : Waiter) → O v → O (wait_for mode v)
          raised_ok v o = raised_wait v mode t h x o

      sound : Sound h.from k.wait now (with_locks l t).state y
      sound = record {
        lepoch = parts.0 ∙ s.lepoch;
        sepoch = s.sepoch;
        await = s.await;
        gstart = s.gstart;
        begun = s.begun;
        start = s.start;
        once = s.once;
        timer = s.timer;
        graced = s.graced;
        fresh = s.fresh;
        top = let a = s.top in let b = parts.1 in let c = ap locks.first_after parts.0 in omega arith;
        rows = λ i. subst (RowOk (session_of t.state.sessions (client h.from))) (sym (same i)) (s.rows i);
        waits = λ w hs e. wait_kept _ _ _ _ _ _ _ _ y.net w refl refl (same w.ino) refl
            (wait_more _ _ _ _ x.net y.net w (λ m i. inr i) (wait_ok w e (queue_waits t.state.locks (sender h) (life_in h) ino mode (wait_of t.state.locks (sender h) ino) w hs)));
        kept = kept_more t.state.stable.epoch.0 (session_of t.state.sessions (client h.from)) x.net y.net (λ m i. inr i) s.kept;
      }

  -- granted, or waited for
  more_rule : (t : ServerTurn) (h : Header) (x : Ghost) (ino : ℕ) (mode : Mode) → Ready h.from k.wait now t x → Serving h.from t h x.net → (row_or (row_view (row_of t.state.locks (client h.from) ino))).mode < number_of mode →
      Rule k cl now h.from t h x (acquire_by t ino mode (Ok (acquire_more t.state.locks (sender h) (life_in h) ino mode (grants_now t now))))
  unfolding acquire_by acquire_more acquire_granted acquire_queued
  more_rule t h x ino mode rd q lt =
      cond_either (λ (a : Acquired). Rule k cl now h.from t h x (acquire_by t ino mode (Ok a))) (may_grant t.state.locks (sender h) ino mode (grants_now t now)) (acquire_granted t.state.locks (sender h) (life_in h) ino mode) (acquire_queued t.state.locks (sender h) (life_in h) ino mode)
      (λ e. granted_rule t h x ino mode rd q (not_true _ (and_true (grants_now t now) _ e).0) lt) (λ e. queued_rule t h x ino mode rd q lt)

  pub acquire_rule : (t : ServerTurn) (h : Header) (x : Ghost) (ino : ℕ) (mode : Mode) → Ready h.from k.wait now t x → Serving h.from t h x.net → 1 ≤ number_of mode → Rule k cl now h.from t h x (sv.acquire t now h ino mode)
  unfolding sv.acquire acquire_lock no_file locks.acquire acquire_at acquire_new acquire_over acquire_held acquire_by
  acquire_rule t h x ino mode rd q some =
      cond_either (λ a. Rule k cl now h.from t h x a) (is_file t ino) (acquire_lock t now h ino mode) (no_file t ino) (λ e. go (row_of t.state.locks (sender h) ino) refl)
      (λ e. quiet_rule k cl now h.from t h x (no_file t ino) rd q (quiet_answer h.from t _ (λ n. refl)))
    where
      P : Res Acquired AcquireRefusal → Type 0
      P r = Rule k cl now h.from t h x (acquire_by t ino mode r)

      go : (o : Option LockRow) → row_of t.state.locks (sender h) ino ≡ o → P (acquire_at t.state.locks (sender h) (life_in h) ino mode (grants_now t now) o)
      go None e =
          cond_either P (has_place t.state.locks (sender h) ino) (Ok (acquire_more t.state.locks (sender h) (life_in h) ino mode (grants_now t now))) (Err TooManyLocks)
          (λ f. more_rule t h x ino mode rd q (let z = ap (λ o. (row_or (row_view o)).mode) e in omega arith)) (λ f. quiet_rule k cl now h.from t h x _ rd q (quiet_answer h.from t _ (λ n. refl)))
      go (Some r) e =
          cond_either (λ a. P (Ok a)) (covers r.mode mode) (acquire_held t.state.locks r) (acquire_more t.state.locks (sender h) (life_in h) ino mode (grants_now t now))
          (λ f. held_rule t h x ino r rd q e) (λ f. more_rule t h x ino mode rd q (let z = ap (λ o. (row_or (row_view o)).mode) e in let y = leb-false (number_of mode) (number_of r.mode) f in omega arith))

  -- another client's
  queue_frame : (d : ℕ) (t : ServerTurn) (c : ClientId) (life : Life) (ino : ℕ) (mode : Mode) → c.0 ≢ d → Frame d t.state (with_locks (queue t.state.locks c life ino mode) t).state
  unfolding queue
  queue_frame d t c life ino mode ne =
      let o = wait_of t.state.locks c ino in
      let p = queue_epoch t.state.locks c life ino mode o in
      record {
        epoch = refl;
        lepoch = p.0;
        sepoch = refl;
        await = refl;
        grace = refl;
        grants = let z = p.1 in omega arith;
        session = refl;
        suspect = refl;
        rows = λ i. ap (λ rs. row_view (find (is_row_of (client d) i) rs)) (queue_rows t.state.locks c life ino mode o);
        waits = λ w h e. go w e (queue_waits t.state.locks c life ino mode o w h);
        suspects = λ s h e. h;
      }
    where
      go : (w : Waiter) → w.client.0 ≡ d → QueuedWait t.state.locks c life ino mode w → Has w t.state.locks.waiters
      go w e (Old i) = i
      go w e (New f) = absurd (ne (ap (λ (w : Waiter). w.client.0) (sym f) ∙ e))
      go w e (Raised v i f g) = absurd (ne (sym (eqb-true v.client.0 c.0 (and_true _ _ f).0) ∙ raised_client v mode ∙ ap (λ (w : Waiter). w.client.0) (sym g) ∙ e))

  more_frame : (d : ℕ) (t : ServerTurn) (c : ClientId) (life : Life) (ino : ℕ) (mode : Mode) (b : Bool) → c.0 ≢ d → Frame d t.state (with_locks (acquire_more t.state.locks c life ino mode b).locks t).state
  unfolding acquire_more acquire_granted acquire_queued
  more_frame d t c life ino mode b ne =
      cond_either (λ (a : Acquired). Frame d t.state (with_locks a.locks t).state) (may_grant t.state.locks c ino mode b) (acquire_granted t.state.locks c life ino mode) (acquire_queued t.state.locks c life ino mode)
      (λ e. grant_frame k cl d now t t.state.locks (new_wait c life ino mode) ne) (λ e. queue_frame d t c life ino mode ne)

  pub acquire_frame : (d : ℕ) (t : ServerTurn) (h : Header) (ino : ℕ) (mode : Mode) → h.from ≢ d → Frame d t.state (sv.acquire t now h ino mode).turn.state
  unfolding sv.acquire acquire_lock no_file locks.acquire acquire_at acquire_new acquire_over acquire_held acquire_by
  acquire_frame d t h ino mode ne =
      cond_either (λ (a : Replied). Frame d t.state a.turn.state) (is_file t ino) (acquire_lock t now h ino mode) (no_file t ino) (λ e. go (row_of t.state.locks (sender h) ino)) (λ e. frame_same d t.state)
    where
      P : Res Acquired AcquireRefusal → Type 0
      P r = Frame d t.state (acquire_by t ino mode r).turn.state

      go : (o : Option LockRow) → P (acquire_at t.state.locks (sender h) (life_in h) ino mode (grants_now t now) o)
      go None = cond_either P (has_place t.state.locks (sender h) ino) (Ok (acquire_more t.state.locks (sender h) (life_in h) ino mode (grants_now t now))) (Err TooManyLocks) (λ f. more_frame d t (sender h) (life_in h) ino mode (grants_now t now) ne) (λ f. frame_same d t.state)
      go (Some r) = cond_either (λ a. P (Ok a)) (covers r.mode mode) (acquire_held t.state.locks r) (acquire_more t.state.locks (sender h) (life_in h) ino mode (grants_now t now)) (λ f. frame_same d t.state) (λ f. more_frame d t (sender h) (life_in h) ino mode (grants_now t now) ne)
