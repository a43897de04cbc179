-- The passes: suspecting, granting and demanding.
use Rattle.st_lemmas.proofs.Words
use Words.{◌≡◌, ◌≢◌, ℕ, zero, suc, ◌<◌, ◌≤◌, ◌⊎◌, Bool, true, false, List, [], ◌∷◌, ◌++◌, ◌==◌, refl, sym, ap, ◌∙◌, subst, inl, inr, arith, not, cond, find}
use Words.{length, Option, Some, None, is_some, list_any, eq-eqb, eqb-true, ClientId, GrantNo, Life, Stamp, Mode, Body, LockRow, RowDemand, Waiter, Session}
use Words.{Suspect, ServerInput}
use Words.modes
use Words.bodies as bd
use Words.serving.{Tick, Control}
use Words.Keys.{client, same_client}
use Words.Locks as locks
use Words.Locks.{Locks, Granting, Demanding, row_of, is_row_of, grant, new_row, next_grant, is_wait_on, stands_against, grantable, next_waiter, grant_waiter}
use Words.Locks.{grant_and, grant_file, grant_files, next_grants, with_demand, demand_now, demand_with, demand_row, demand_clients, to_demand, is_among}
use Words.Locks.{demand_for, demand_files, demands_due, wish, waited_files}
use Words.Sessions as sessions
use Words.Authority as authority
use Words.Authority.{Authority, is_suspect, suspect_of, new_suspect, may_ack, start_timer, suspects_of, client_of_suspect}
use Words.Grace as grace
use Words.Server.{ServerState, ServerTurn, with_locks, in_grace, tell, suspect_client, suspect_unless, suspect_each, suspecting, suspecting_on, tell_granted}
use Words.Server.{grant_by, grant_waiting, granting, tell_demanded, demand_by, is_tick, demanding}
use Words.Lists.{Has}
use Words.Tables.{same_or_not, and_true, not_true, cond_either, found_at, none_has, has_filter, has_map_in, none_passes}
use Words.Serving.{has_suspect}
use Words.Truth.{none_there}
use Rattle.st_base.specs.declared.config.Config as base
use Rattle.st_base.specs.Mode.{number_of}
use Rattle.st_protocol.specs.Assoc as net
use Rattle.st_protocol.specs.Assoc.{Config, Msg, msg, In, upd, Suspects, Grants, Demands, Moves, Stays}
use Rattle.st_protocol.proofs.Lists.{upd-same, upd-other}
use Rattle.st_laws_refine.specs.Views.Messages.{shown, with_date, Shows}
use Rattle.st_laws_refine.specs.Views.Halves.{Ghost, half, row_or, row_view, life_view, live_view}
use Rattle.st_laws_refine.specs.Server.View.{TimerIs, Said, ServesLife, RowOk, WaitOk, Sound, Ready}
use Rattle.st_laws_refine.proofs.Server.Changes.{drop_wait, suspect_other, suspect_own, grant_other, grant_elsewhere, grant_own, grant_wait}
use Rattle.st_laws_refine.proofs.Server.Changes.{demand_view}
use Rattle.st_laws_refine.proofs.Views.Moves.{one, moved, moves_on, Grows, moves_grow, shows_more}
use Rattle.st_laws_refine.proofs.Server.Goes.{said_append, said_more, wait_more, wait_kept, kept_more, sound_more, Frame, frame_sound, frame_at, observe, Goes}
use Rattle.st_laws_refine.proofs.Server.Goes.{Result, goes_same, goes_then, if_goes, unseen}

two : (m : Mode) → number_of m ≤ 2
two modes.None = omega arith
two modes.S = omega arith
two modes.X = omega arith

module _ (k : Config) (cl : net.Client) (d : ℕ) (now : Stamp) where
  -- a timer of this client, or of another, begins
  suspect_frame : (t : ServerTurn) (c : ClientId) → c.0 ≢ d → Frame d t.state (suspect_client t now c).state
  unfolding suspect_client authority.suspect start_timer locks.drop_waits
  suspect_frame t c ne =
      cond_either (λ (a : Authority). Frame d t.state (record t.state { locks = locks.drop_waits t.state.locks c; authority = a })) (may_ack t.state.authority c) (start_timer t.state.authority c now) t.state.authority
      (λ e. record {
        epoch = refl;
        lepoch = refl;
        sepoch = refl;
        await = refl;
        grace = refl;
        grants = omega arith;
        session = refl;
        rows = λ i. refl;
        waits = λ w h e. (drop_wait t.state.locks c w h).0;
        suspect = suspect_other (new_suspect c now) d ne t.state.authority.suspects;
        suspects = λ s h f. go s f (has_suspect (new_suspect c now) t.state.authority.suspects s h);
      })
      (λ e. record { epoch = refl; lepoch = refl; sepoch = refl; await = refl; grace = refl; grants = omega arith; session = refl; rows = λ i. refl; waits = λ w h e. (drop_wait t.state.locks c w h).0; suspect = refl; suspects = λ s h f. h })
    where
      go : (s : Suspect) → s.client.0 ≡ d → (s ≡ new_suspect c now) ⊎ Has s t.state.authority.suspects → Has s t.state.authority.suspects
      go s f (inl e) = absurd (ne (ap (λ (s : Suspect). s.client.0) (sym e) ∙ f))
      go s f (inr h) = h

  suspect_own_goes : (t : ServerTurn) (c : ClientId) → c.0 ≡ d → may_ack t.state.authority c ≡ true → Goes k cl d now t (suspect_client t now c)
  unfolding suspect_client authority.suspect start_timer locks.drop_waits
  suspect_own_goes t c e m = record { go = λ x r. subst (λ a. Result k cl d now t (record { state = record t.state { locks = locks.drop_waits t.state.locks c; authority = a }; out = (suspect_client t now c).out }) x) (sym is) (result x r) }
    where
      a : Authority
      a = start_timer t.state.authority c now

      is : authority.suspect t.state.authority c now ≡ a
      is = cond_either (λ y. y ≡ a) (may_ack t.state.authority c) a t.state.authority (λ e. refl) (λ f. cc)

      v : ServerTurn
      v = record { state = record t.state { locks = locks.drop_waits t.state.locks c; authority = a }; out = (suspect_client t now c).out }

      none : suspect_of t.state.authority (client d) ≡ None
      none = subst (λ d. suspect_of t.state.authority (client d) ≡ None) e (none_there (suspect_of t.state.authority c) m)

      begun : suspect_of a (client d) ≡ Some (new_suspect c now)
      begun = suspect_own (new_suspect c now) d e t.state.authority.suspects none

      result : (x : Ghost) → Ready d k.wait now t x → Result k cl d now t v x
      result x r =
          record {
            ghost = y;
            moves = moved k (observe k cl d now t.state x) _ (observe k cl d now v.state y) (one (Suspects (observe k cl d now t.state x) (record { up = refl; free = ap is_some none })) refl)
                (λ j. record { c = cl; s = record (half (client d) now t.state y) { timed = sym (ap is_some begun) j }; net = x.net });
            ready = record {
              said = said_append d t.out _ x.net r.said tt;
              sound = record {
                lepoch = r.sound.lepoch;
                sepoch = r.sound.sepoch;
                await = r.sound.await;
                gstart = r.sound.gstart;
                begun = r.sound.begun;
                start = subst (λ o. TimerIs o now.0) (sym begun) refl;
                once = λ s h f. once s f (has_suspect (new_suspect c now) t.state.authority.suspects s h);
                top = r.sound.top;
                fresh = r.sound.fresh;
                timer = λ f. r.sound.begun;
                graced = r.sound.graced;
                rows = r.sound.rows;
                waits = λ w h f. absurd ((drop_wait t.state.locks c w h).1 (f ∙ sym e));
                kept = r.sound.kept;
              };
            };
          }
        where
          y : Ghost
          y = record x { start = now.0; base = cl.clock }

          once : (s : Suspect) → s.client.0 ≡ d → (s ≡ new_suspect c now) ⊎ Has s t.state.authority.suspects → suspect_of a (client d) ≡ Some s
          once s f (inl z) = begun ∙ ap Some (sym z)
          once s f (inr h) = let z = none_has (is_suspect (client d)) t.state.authority.suspects none s h in let q = eq-eqb s.client.0 d f in cc

  said_note : (t : ServerTurn) (c : ClientId) (N : List Msg) → Said d t.out N → Said d (suspect_client t now c).out N
  unfolding suspect_client
  said_note t c N s = said_append d t.out _ N s tt

  pub suspect_goes : (t : ServerTurn) (c : ClientId) → may_ack t.state.authority c ≡ true → Goes k cl d now t (suspect_client t now c)
  suspect_goes t c m = go (same_or_not c.0 d)
    where
      said : (N : List Msg) → Said d t.out N → Said d (suspect_client t now c).out N
      said N s = said_note t c N s

      go : (c.0 ≡ d) ⊎ (c.0 ≢ d) → Goes k cl d now t (suspect_client t now c)
      go (inl e) = suspect_own_goes t c e m
      go (inr ne) = unseen k cl d now t (suspect_client t now c) (suspect_frame t c ne) said

  suspect_pass : (cs : List ClientId) (t : ServerTurn) → Goes k cl d now t (suspect_each now cs t)
  unfolding suspect_each suspect_unless
  suspect_pass [] t = goes_same k cl d now t
  suspect_pass (c ∷ cs) t =
      goes_then k cl d now t (suspect_unless t now c) _
      (if_goes k cl d now t (may_ack t.state.authority c) (suspect_client t now c) t (λ m. suspect_goes t c m) (λ m. goes_same k cl d now t))
      (suspect_pass cs (suspect_unless t now c))

  pub suspecting_goes : (t : ServerTurn) (input : ServerInput) → Goes k cl d now t (suspecting_on t now input)
  unfolding suspecting_on suspecting
  suspecting_goes t Tick = suspect_pass (locks.unanswered t.state.locks now t.state.config) t
  suspecting_goes t (Control m) = goes_same k cl d now t

  -- what a pass over the lock table did so far: moves, and what must be reported
  abbrev pub Tells : (ℕ → GrantNo → Mode → Body) → ℕ → List (ClientId × Life × ℕ × GrantNo × Mode) → List Msg → Type 0
  Tells body epoch [] N = Unit {0}
  Tells body epoch (r ∷ rs) N = record { one : r.0.0 ≡ d → Shows r.1.0 epoch 0 (shown 0 (body r.2 r.3 r.4)) N; rest : Tells body epoch rs N }

  tells_more : (body : ℕ → GrantNo → Mode → Body) (epoch : ℕ) (rs : List (ClientId × Life × ℕ × GrantNo × Mode)) (N M : List Msg) → Grows N M → Tells body epoch rs N → Tells body epoch rs M
  tells_more body epoch [] N M g s = s
  tells_more body epoch (r ∷ rs) N M g s = record { one = λ e. shows_more r.1.0 epoch 0 (shown 0 (body r.2 r.3 r.4)) N M g (s.one e); rest = tells_more body epoch rs N M g s.rest }

  tells_append : (body : ℕ → GrantNo → Mode → Body) (epoch : ℕ) (rs : List (ClientId × Life × ℕ × GrantNo × Mode)) (r : ClientId × Life × ℕ × GrantNo × Mode) (N : List Msg) → Tells body epoch rs N → (r.0.0 ≡ d → Shows r.1.0 epoch 0 (shown 0 (body r.2 r.3 r.4)) N) → Tells body epoch (rs ++ r ∷ []) N
  tells_append body epoch [] r N s e = record { one = e; rest = tt }
  tells_append body epoch (q ∷ rs) r N s e = record { one = s.one; rest = tells_append body epoch rs r N s.rest e }

  record SoFar (t : ServerTurn) (x : Ghost) (body : ℕ → GrantNo → Mode → Body) (l : Locks) (rs : List (ClientId × Life × ℕ × GrantNo × Mode)) : Type 0 where
    ghost : Ghost
    moves : Moves k (observe k cl d now t.state x) (observe k cl d now (with_locks l t).state ghost)
    sound : Sound d k.wait now (with_locks l t).state ghost
    tells : Tells body t.state.stable.epoch.0 rs ghost.net

  -- one grant
  abbrev pub granted_state : ServerTurn → Locks → Waiter → ServerState
  granted_state t l w = (with_locks (grant l w.client w.life w.ino w.mode) t).state

  pub grant_frame : (t : ServerTurn) (l : Locks) (w : Waiter) → w.client.0 ≢ d → Frame d (with_locks l t).state (granted_state t l w)
  unfolding grant
  grant_frame t l w ne =
      record {
        epoch = refl;
        lepoch = refl;
        sepoch = refl;
        await = refl;
        grace = refl;
        grants = omega arith;
        session = refl;
        suspect = refl;
        rows = λ i. ap row_view (grant_other l w.client w.life w.ino w.mode d i ne);
        waits = λ y h e. (grant_wait l w.client w.life w.ino w.mode y h).0;
        suspects = λ s h e. h;
      }

  serves_life : (life : ℕ) (o : Option Session) → ServesLife life o → (life_view o ≡ life) × (live_view o ≡ true)
  serves_life life None s = elim s [ ]
  serves_life life (Some y) s = (s.is, s.live)

  shows_grant : (life epoch : ℕ) (ino : ℕ) (g : GrantNo) (m : Mode) (N : List Msg) → In (msg life epoch 0 (net.Granted ino g.0 (number_of m))) N → Shows life epoch 0 (shown 0 (bd.Granted ino g m)) N
  unfolding with_date
  shows_grant life epoch ino g m N i = record { one = i; rest = tt }

  pub grant_moves : (t : ServerTurn) (l : Locks) (w : Waiter) (y : Ghost) → grace.is_on t.state.grace now ≡ false → w.client.0 ≡ d →
      WaitOk (sessions.session_of t.state.sessions (client d)) (is_some (suspect_of t.state.authority (client d))) (row_view (row_of l (client d) w.ino)) t.state.stable.epoch.0 y.net w → Sound d k.wait now (with_locks l t).state y →
      (z : Ghost) × Moves k (observe k cl d now (with_locks l t).state y) (observe k cl d now (granted_state t l w) z) × Sound d k.wait now (granted_state t l w) z × In (msg w.life.0 t.state.stable.epoch.0 0 (net.Granted w.ino (next_grant l).0 (number_of w.mode))) z.net
  unfolding grant
  grant_moves t l w y off e q s = (z, moves, sound, inl refl)
    where
      n : ServerState
      n = (with_locks l t).state

      v : ServerState
      v = granted_state t l w

      new : Msg
      new = msg w.life.0 t.state.stable.epoch.0 0 (net.Granted w.ino (next_grant l).0 (number_of w.mode))

      z : Ghost
      z = record y { top = (next_grant l).0; net = new ∷ y.net }

      is : (life_view (sessions.session_of n.sessions (client d)) ≡ w.life.0) × (live_view (sessions.session_of n.sessions (client d)) ≡ true)
      is = serves_life w.life.0 (sessions.session_of n.sessions (client d)) q.served

      row : net.Row
      row = record { life = w.life.0; g = (next_grant l).0; mode = number_of w.mode }

      rows : (i : ℕ) → upd (λ i. row_or (row_view (row_of l (client d) i))) w.ino row i ≡ row_or (row_view (row_of v.locks (client d) i))
      rows i = go (same_or_not i w.ino)
        where
          go : (i ≡ w.ino) ⊎ (i ≢ w.ino) → upd (λ i. row_or (row_view (row_of l (client d) i))) w.ino row i ≡ row_or (row_view (row_of v.locks (client d) i))
          go (inl f) = subst (λ i. upd (λ i. row_or (row_view (row_of l (client d) i))) w.ino row i ≡ row_or (row_view (row_of v.locks (client d) i))) (sym f)
              (upd-same (λ i. row_or (row_view (row_of l (client d) i))) w.ino row ∙ ap (λ o. row_or (row_view o)) (sym (subst (λ d. row_of v.locks (client d) w.ino ≡ Some (new_row l w.client w.life w.ino w.mode)) e (grant_own l w.client w.life w.ino w.mode))))
          go (inr ne) = upd-other (λ i. row_or (row_view (row_of l (client d) i))) w.ino row i ne ∙ ap (λ o. row_or (row_view o)) (sym (grant_elsewhere l w.client w.life w.ino w.mode d i ne))

      below : y.top < (next_grant l).0
      below = let a = s.top in omega arith

      moves : Moves k (observe k cl d now n y) (observe k cl d now v z)
      moves =
          moved k (observe k cl d now n y) _ (observe k cl d now v z)
          (one (Grants (observe k cl d now n y) q.asked.stamp w.ino (next_grant l).0 (number_of w.mode) (subst (λ l. In (msg l n.stable.epoch.0 q.asked.stamp net.Plain) y.net) (sym is.0) q.asked.is) is.1 (record { up = refl; free = q.free }) off below q.higher (two w.mode)) refl)
          (named ∙ placed)
        where
          named : record (observe k cl d now n y) { s = record (half (client d) now n z) { row = upd (λ i. row_or (row_view (row_of l (client d) i))) w.ino (record row { life = life_view (sessions.session_of n.sessions (client d)) }) }; net = msg (life_view (sessions.session_of n.sessions (client d))) t.state.stable.epoch.0 0 (net.Granted w.ino (next_grant l).0 (number_of w.mode)) ∷ y.net }
              ≡ record (observe k cl d now n y) { s = record (half (client d) now n z) { row = upd (λ i. row_or (row_view (row_of l (client d) i))) w.ino row }; net = z.net }
          named = λ j. record {
            c = cl;
            s = record (half (client d) now n z) { row = upd (λ i. row_or (row_view (row_of l (client d) i))) w.ino (record { life = is.0 j; g = (next_grant l).0; mode = number_of w.mode }) };
            net = msg (is.0 j) t.state.stable.epoch.0 0 (net.Granted w.ino (next_grant l).0 (number_of w.mode)) ∷ y.net;
          }

          placed : record (observe k cl d now n y) { s = record (half (client d) now n z) { row = upd (λ i. row_or (row_view (row_of l (client d) i))) w.ino row }; net = z.net } ≡ observe k cl d now v z
          placed = λ j. record { c = cl; s = record (half (client d) now n z) { row = λ i. rows i j }; net = z.net }

      same : (i : ℕ) → i ≢ w.ino → row_view (row_of v.locks (client d) i) ≡ row_view (row_of l (client d) i)
      same i ne = ap row_view (grant_elsewhere l w.client w.life w.ino w.mode d i ne)

      grew : Grows y.net z.net
      grew m i = inr i

      sound : Sound d k.wait now v z
      sound = record {
        lepoch = s.lepoch;
        sepoch = s.sepoch;
        await = s.await;
        gstart = s.gstart;
        begun = s.begun;
        start = s.start;
        once = s.once;
        timer = s.timer;
        graced = s.graced;
        fresh = λ g. let z = off in cc;
        top = omega arith;
        rows = λ i. row_ok i (same_or_not i w.ino);
        waits = λ x h2 f. let g = grant_wait l w.client w.life w.ino w.mode x h2 in
            wait_more _ _ _ _ y.net z.net x grew (wait_kept _ _ _ _ _ _ _ _ y.net x refl refl (same x.ino (g.1 (f ∙ sym e))) refl (s.waits x g.0 f));
        kept = kept_more n.stable.epoch.0 (sessions.session_of n.sessions (client d)) y.net z.net grew s.kept;
      }
        where
          row_ok : (i : ℕ) → (i ≡ w.ino) ⊎ (i ≢ w.ino) → RowOk (sessions.session_of n.sessions (client d)) (row_view (row_of v.locks (client d) i))
          row_ok i (inl f) = subst (λ i. RowOk (sessions.session_of n.sessions (client d)) (row_view (row_of v.locks (client d) i))) (sym f)
              (subst (λ o. RowOk (sessions.session_of n.sessions (client d)) (row_view o)) (sym (subst (λ d. row_of v.locks (client d) w.ino ≡ Some (new_row l w.client w.life w.ino w.mode)) e (grant_own l w.client w.life w.ino w.mode)))
              (record { served = q.served; some = let b = q.higher in omega arith }))
          row_ok i (inr ne) = subst (RowOk (sessions.session_of n.sessions (client d))) (sym (same i ne)) (s.rows i)

  grants_one : (t : ServerTurn) (x : Ghost) (p : Granting) (w : Waiter) → grace.is_on t.state.grace now ≡ false → Has w p.locks.waiters → SoFar t x bd.Granted p.locks p.granted → SoFar t x bd.Granted (grant_waiter p w).locks (grant_waiter p w).granted
  unfolding grant_waiter
  grants_one t x p w off h f = go (same_or_not w.client.0 d)
    where
      go : (w.client.0 ≡ d) ⊎ (w.client.0 ≢ d) → SoFar t x bd.Granted (grant p.locks w.client w.life w.ino w.mode) (p.granted ++ (w.client, w.life, w.ino, next_grant p.locks, w.mode) ∷ [])
      go (inl e) =
          let z = grant_moves t p.locks w f.ghost off e (f.sound.waits w h e) f.sound in
          record {
            ghost = z.0;
            moves = moves_on f.moves z.1;
            sound = z.2;
            tells = tells_append bd.Granted t.state.stable.epoch.0 p.granted (w.client, w.life, w.ino, next_grant p.locks, w.mode) z.0.net
                (tells_more bd.Granted t.state.stable.epoch.0 p.granted f.ghost.net z.0.net (moves_grow z.1) f.tells) (λ y. shows_grant w.life.0 t.state.stable.epoch.0 w.ino (next_grant p.locks) w.mode z.0.net z.3);
          }
      go (inr ne) =
          let fr = grant_frame t p.locks w ne in
          record {
            ghost = f.ghost;
            moves = moved k (observe k cl d now t.state x) _ _ f.moves (frame_at cl d now (with_locks p.locks t).state (granted_state t p.locks w) f.ghost fr);
            sound = frame_sound d k.wait now (with_locks p.locks t).state (granted_state t p.locks w) f.ghost fr f.sound;
            tells = tells_append bd.Granted t.state.stable.epoch.0 p.granted (w.client, w.life, w.ino, next_grant p.locks, w.mode) f.ghost.net f.tells (λ y. absurd (ne y));
          }

  grantable_is : (l : Locks) (o : Option Waiter) (w : Waiter) → grantable l o ≡ Some w → o ≡ Some w
  grantable_is l None w e = e
  grantable_is l (Some v) w e = go (list_any (stands_against v.client v.ino v.mode) l.rows) e
    where
      go : (b : Bool) → cond b None (Some v) ≡ Some w → ◌≡◌ {A = Option Waiter} (Some v) (Some w)
      go true e = cc
      go false e = e

  grants_file : (t : ServerTurn) (x : Ghost) (ino : ℕ) (n : ℕ) (p : Granting) → grace.is_on t.state.grace now ≡ false → SoFar t x bd.Granted p.locks p.granted → SoFar t x bd.Granted (grant_file ino n p).locks (grant_file ino n p).granted
  unfolding grant_file
  grants_file t x ino zero p off f = f
  grants_file t x ino (suc n) p off f = go (next_waiter p.locks ino) refl (λ q g. grants_file t x ino n q off g)
    where
      go : (o : Option Waiter) → next_waiter p.locks ino ≡ o → ((q : Granting) → SoFar t x bd.Granted q.locks q.granted → SoFar t x bd.Granted (grant_file ino n q).locks (grant_file ino n q).granted) →
          SoFar t x bd.Granted (grant_and (grant_file ino n) p o).locks (grant_and (grant_file ino n) p o).granted
      go None e r = f
      go (Some w) e r = r (grant_waiter p w) (grants_one t x p w off (found_at (is_wait_on ino) p.locks.waiters w (grantable_is p.locks (find (is_wait_on ino) p.locks.waiters) w e)).1 f)

  grants_files : (t : ServerTurn) (x : Ghost) (inos : List ℕ) (p : Granting) → grace.is_on t.state.grace now ≡ false → SoFar t x bd.Granted p.locks p.granted → SoFar t x bd.Granted (grant_files inos p).locks (grant_files inos p).granted
  unfolding grant_files
  grants_files t x [] p off f = f
  grants_files t x (ino ∷ inos) p off f = grants_files t x inos (grant_file ino (length p.locks.waiters) p) off (grants_file t x ino (length p.locks.waiters) p off f)

  -- and then it is told
  told_ready : (body : ℕ → GrantNo → Mode → Body) (t : ServerTurn) (y : Ghost) (c : ClientId) (life : Life) (ino : ℕ) (g : GrantNo) (m : Mode) → Ready d k.wait now t y → (c.0 ≡ d → Shows life.0 t.state.stable.epoch.0 0 (shown 0 (body ino g m)) y.net) →
      Ready d k.wait now (tell t c life (body ino g m)) y
  unfolding tell
  told_ready body t y c life ino g m r s = record { said = said_append d t.out _ y.net r.said (λ e. record { all = s e }); sound = r.sound }

  grants_told : (rs : List (ClientId × Life × ℕ × GrantNo × Mode)) (t : ServerTurn) (y : Ghost) → Ready d k.wait now t y → Tells bd.Granted t.state.stable.epoch.0 rs y.net → Ready d k.wait now (tell_granted rs t) y × ((tell_granted rs t).state ≡ t.state)
  unfolding tell_granted tell
  grants_told [] t y r s = (r, refl)
  grants_told (q ∷ rs) t y r s = grants_told rs (tell t q.0 q.1 (bd.Granted q.2 q.3 q.4)) y (told_ready bd.Granted t y q.0 q.1 q.2 q.3 q.4 r s.one) s.rest

  pub granting_goes : (t : ServerTurn) → Goes k cl d now t (granting t now)
  unfolding granting grant_waiting grant_by next_grants
  granting_goes t = if_goes k cl d now t (in_grace t now) t (grant_waiting t) (λ e. goes_same k cl d now t) (λ off. record { go = λ x r. result x r off })
    where
      p : Granting
      p = next_grants t.state.locks

      result : (x : Ghost) → Ready d k.wait now t x → grace.is_on t.state.grace now ≡ false → Result k cl d now t (grant_waiting t) x
      result x r off =
          let f = grants_files t x (waited_files t.state.locks) (locks.nothing_granted t.state.locks) off (record { ghost = x; moves = Stays (observe k cl d now t.state x); sound = r.sound; tells = tt }) in
          let u : ServerTurn = with_locks p.locks t in
          let z = grants_told p.granted u f.ghost (record { said = said_more d t.out x.net f.ghost.net (moves_grow f.moves) r.said; sound = f.sound }) f.tells in
          record { ghost = f.ghost; moves = subst (λ n. Moves k (observe k cl d now t.state x) (observe k cl d now n f.ghost)) (sym z.1) f.moves; ready = z.0 }

  -- Demanding.
  free_of : (a : Authority) (c : ClientId) → is_among (suspects_of a) c ≡ false → c.0 ≡ d → is_some (suspect_of a (client d)) ≡ false
  free_of a c h e = go (suspect_of a (client d)) refl
    where
      go : (o : Option Suspect) → suspect_of a (client d) ≡ o → is_some o ≡ false
      go None f = refl
      go (Some s) f =
          let p = found_at (is_suspect (client d)) a.suspects s f in
          let z = none_passes (same_client c) (suspects_of a) h s.client (has_map_in client_of_suspect a.suspects s p.1) in
          let y = eq-eqb c.0 s.client.0 (e ∙ sym (eqb-true s.client.0 d p.0)) in cc

  demand_frame : (t : ServerTurn) (l : Locks) (r : LockRow) (x : RowDemand) → Frame d (with_locks l t).state (with_locks (with_demand r x l) t).state
  demand_frame t l r x = record { epoch = refl; lepoch = refl; sepoch = refl; await = refl; grace = refl; grants = omega arith; session = refl; suspect = refl; rows = λ i. demand_view l r x d i; waits = λ y h e. h; suspects = λ s h e. h }

  demand_moves : (n : ServerState) (y : Ghost) (ino : ℕ) (r : LockRow) (to : Mode) → row_of n.locks (client d) ino ≡ Some r → is_some (suspect_of n.authority (client d)) ≡ false → Sound d k.wait now n y →
      (z : Ghost) × Moves k (observe k cl d now n y) (observe k cl d now n z) × Sound d k.wait now n z × In (msg r.life.0 n.stable.epoch.0 0 (net.Demand ino r.g.0 (number_of to))) z.net
  demand_moves n y ino r to e free s = (z, moves, sound_more d k.wait now n y z (record { start = refl; gstart = refl; top = refl }) (λ m i. inr i) s.top s, inl refl)
    where
      z : Ghost
      z = record y { net = msg r.life.0 n.stable.epoch.0 0 (net.Demand ino r.g.0 (number_of to)) ∷ y.net }

      some : 1 ≤ (row_or (row_view (row_of n.locks (client d) ino))).mode
      some = subst (λ o. 1 ≤ (row_or (row_view o)).mode) (sym e) (subst (λ o. RowOk (sessions.session_of n.sessions (client d)) (row_view o)) e (s.rows ino)).some

      moves : Moves k (observe k cl d now n y) (observe k cl d now n z)
      moves = moved k (observe k cl d now n y) _ (observe k cl d now n z) (one (Demands (observe k cl d now n y) ino (number_of to) (record { up = refl; free = free }) some) refl)
          (λ j. record { c = cl; s = half (client d) now n y; net = msg (row_or (row_view (e j))).life n.stable.epoch.0 0 (net.Demand ino (row_or (row_view (e j))).g (number_of to)) ∷ y.net })

  demands_one : (t : ServerTurn) (x : Ghost) (p : Demanding) (c : ClientId) (ino : ℕ) (r : LockRow) (o : Option RowDemand) → is_among (suspects_of t.state.authority) c ≡ false → row_of p.locks c ino ≡ Some r →
      SoFar t x bd.Demand p.locks p.due → SoFar t x bd.Demand (demand_with p r o).locks (demand_with p r o).due
  unfolding demand_with
  demands_one t x p c ino r None free e f = f
  demands_one t x p c ino r (Some q) free e f = go (same_or_not r.client.0 d)
    where
      is : (is_row_of c ino r ≡ true) × Has r p.locks.rows
      is = found_at (is_row_of c ino) p.locks.rows r e

      both : (r.client.0 ≡ c.0) × (r.ino ≡ ino)
      both = let b = and_true (r.client.0 == c.0) _ is.0 in (eqb-true r.client.0 c.0 b.0, eqb-true r.ino ino b.1)

      fr : Frame d (with_locks p.locks t).state (with_locks (with_demand r q p.locks) t).state
      fr = demand_frame t p.locks r q

      go : (r.client.0 ≡ d) ⊎ (r.client.0 ≢ d) → SoFar t x bd.Demand (with_demand r q p.locks) (p.due ++ (r.client, r.life, r.ino, r.g, q.to) ∷ [])
      go (inl of_d) =
          let z = demand_moves (with_locks p.locks t).state f.ghost ino r q.to (subst (λ d. row_of p.locks (client d) ino ≡ Some r) (sym both.0 ∙ of_d) e) (free_of t.state.authority c free (sym both.0 ∙ of_d)) f.sound in
          record {
            ghost = z.0;
            moves = moved k (observe k cl d now t.state x) _ _ (moves_on f.moves z.1) (frame_at cl d now (with_locks p.locks t).state (with_locks (with_demand r q p.locks) t).state z.0 fr);
            sound = frame_sound d k.wait now (with_locks p.locks t).state (with_locks (with_demand r q p.locks) t).state z.0 fr z.2;
            tells = tells_append bd.Demand t.state.stable.epoch.0 p.due (r.client, r.life, r.ino, r.g, q.to) z.0.net
                (tells_more bd.Demand t.state.stable.epoch.0 p.due f.ghost.net z.0.net (moves_grow z.1) f.tells)
                (λ y. record { one = subst (λ i. In (msg r.life.0 t.state.stable.epoch.0 0 (net.Demand i r.g.0 (number_of q.to))) z.0.net) (sym both.1) z.3; rest = tt });
          }
      go (inr ne) =
          record {
            ghost = f.ghost;
            moves = moved k (observe k cl d now t.state x) _ _ f.moves (frame_at cl d now (with_locks p.locks t).state (with_locks (with_demand r q p.locks) t).state f.ghost fr);
            sound = frame_sound d k.wait now (with_locks p.locks t).state (with_locks (with_demand r q p.locks) t).state f.ghost fr f.sound;
            tells = tells_append bd.Demand t.state.stable.epoch.0 p.due (r.client, r.life, r.ino, r.g, q.to) f.ghost.net f.tells (λ y. absurd (ne y));
          }

  demands_row : (kb : base.Config) (tick : Bool) (to : Mode) (t : ServerTurn) (x : Ghost) (p : Demanding) (c : ClientId) (ino : ℕ) (o : Option LockRow) → is_among (suspects_of t.state.authority) c ≡ false → row_of p.locks c ino ≡ o →
      SoFar t x bd.Demand p.locks p.due → SoFar t x bd.Demand (demand_row kb now tick to o p).locks (demand_row kb now tick to o p).due
  unfolding demand_row
  demands_row kb tick to t x p c ino None free e f = f
  demands_row kb tick to t x p c ino (Some r) free e f = demands_one t x p c ino r (demand_now kb now tick to r.demand) free e f

  demands_clients : (kb : base.Config) (tick : Bool) (to : Mode) (t : ServerTurn) (x : Ghost) (ino : ℕ) (cs : List ClientId) (p : Demanding) → ((c : ClientId) → Has c cs → is_among (suspects_of t.state.authority) c ≡ false) →
      SoFar t x bd.Demand p.locks p.due → SoFar t x bd.Demand (demand_clients kb now tick ino to cs p).locks (demand_clients kb now tick ino to cs p).due
  unfolding demand_clients
  demands_clients kb tick to t x ino [] p free f = f
  demands_clients kb tick to t x ino (c ∷ cs) p free f =
      demands_clients kb tick to t x ino cs (demand_row kb now tick to (row_of p.locks c ino) p) (λ c i. free c (inr i)) (demands_row kb tick to t x p c ino (row_of p.locks c ino) (free c (inl refl)) refl f)

  demands_for : (kb : base.Config) (tick : Bool) (t : ServerTurn) (x : Ghost) (o : Option Waiter) (p : Demanding) → SoFar t x bd.Demand p.locks p.due →
      SoFar t x bd.Demand (demand_for kb now tick (suspects_of t.state.authority) o p).locks (demand_for kb now tick (suspects_of t.state.authority) o p).due
  unfolding demand_for
  demands_for kb tick t x None p f = f
  demands_for kb tick t x (Some w) p f =
      demands_clients kb tick (wish w.mode) t x w.ino (to_demand p.locks (suspects_of t.state.authority) w) p (λ c i. not_true _ (has_filter (λ c. not (is_among (suspects_of t.state.authority) c)) _ c i).1) f

  demands_files : (kb : base.Config) (tick : Bool) (t : ServerTurn) (x : Ghost) (inos : List ℕ) (p : Demanding) → SoFar t x bd.Demand p.locks p.due →
      SoFar t x bd.Demand (demand_files kb now tick (suspects_of t.state.authority) inos p).locks (demand_files kb now tick (suspects_of t.state.authority) inos p).due
  unfolding demand_files
  demands_files kb tick t x [] p f = f
  demands_files kb tick t x (ino ∷ inos) p f =
      demands_files kb tick t x inos (demand_for kb now tick (suspects_of t.state.authority) (find (is_wait_on ino) p.locks.waiters) p) (demands_for kb tick t x (find (is_wait_on ino) p.locks.waiters) p f)

  demands_told : (rs : List (ClientId × Life × ℕ × GrantNo × Mode)) (t : ServerTurn) (y : Ghost) → Ready d k.wait now t y → Tells bd.Demand t.state.stable.epoch.0 rs y.net → Ready d k.wait now (tell_demanded rs t) y × ((tell_demanded rs t).state ≡ t.state)
  unfolding tell_demanded tell
  demands_told [] t y r s = (r, refl)
  demands_told (q ∷ rs) t y r s = demands_told rs (tell t q.0 q.1 (bd.Demand q.2 q.3 q.4)) y (told_ready bd.Demand t y q.0 q.1 q.2 q.3 q.4 r s.one) s.rest

  pub demanding_goes : (t : ServerTurn) (input : ServerInput) → Goes k cl d now t (demanding t now input)
  unfolding demanding demand_by demands_due
  demanding_goes t input = record { go = result }
    where
      p : Demanding
      p = demands_due t.state.locks now (is_tick input) (suspects_of t.state.authority) t.state.config

      result : (x : Ghost) → Ready d k.wait now t x → Result k cl d now t (demand_by t p) x
      result x r =
          let f = demands_files t.state.config (is_tick input) t x (waited_files t.state.locks) (locks.nothing_demanded t.state.locks) (record { ghost = x; moves = Stays (observe k cl d now t.state x); sound = r.sound; tells = tt }) in
          let u : ServerTurn = with_locks p.locks t in
          let z = demands_told p.due u f.ghost (record { said = said_more d t.out x.net f.ghost.net (moves_grow f.moves) r.said; sound = f.sound }) f.tells in
          record { ghost = f.ghost; moves = subst (λ n. Moves k (observe k cl d now t.state x) (observe k cl d now n f.ghost)) (sym z.1) f.moves; ready = z.0 }
