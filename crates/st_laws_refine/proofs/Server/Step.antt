-- The whole step of a server, for one client.
use Rattle.st_lemmas.proofs.Words
use Words.{◌≡◌, ◌≢◌, ℕ, ◌≤◌, ◌⊎◌, Bool, true, false, ◌&&◌, List, [], ◌∷◌, ◌==◌, refl, sym, ap, ◌∙◌, subst, inl, inr, arith, not, Option, Some, None, is_some}
use Words.{option_map, Result as Res, Ok, Err, ne_eqb, eqb-true, ClientId, GrantNo, Stamp, Mode, Header, Body, ServerInput, LockRow, AcquireRefusal, Session}
use Words.{Taken, Suspect}
use Words.bodies as bd
use Words.why
use Words.serving.{Tick, Control}
use Words.takes
use Words.Keys.{client, server_node}
use Words.Locks as locks
use Words.Locks.{Locks, Acquired, is_row_of, row_of, observe, answered_row}
use Words.Sessions.{session_of, store}
use Words.Authority.{suspect_of, start_of, may_ack}
use Words.Server as sv
use Words.Server.{ServerState, ServerTurn, Replied, turn, silent, with_sessions, sender, life_in, reply, is_file, take, thefts, hello, observe_demand}
use Words.Server.{demand_seen, is_served, refuse_epoch, keep_alive, acquire_by, acquire_lock, no_file, rule, keep_and_reply, keep, serve, request_by, request}
use Words.Server.{of_epoch, by_body, refuse_suspect, by_suspicion, is_for, is_client_node, receive_from, receive, take_input, suspecting_on, granting}
use Words.Server.{server_step}
use Words.Tables.{same_or_not, and_true, not_true, cond_either, find_map}
use Rattle.st_protocol.specs.Assoc as net
use Rattle.st_protocol.proofs.Invariant.{Invariant, kept_by}
use Rattle.st_protocol.proofs.Lives.{first_in_grace}
use Rattle.st_protocol.specs.Assoc.{Config, ConfigOk, Msg, msg, In, Refuses}
use Rattle.st_laws_refine.specs.Views.Messages.{lock_in_row, lock_in, shown, Shows, epoch_shown, is_clients, Wishes, Received}
use Rattle.st_laws_refine.specs.Views.Halves.{Ghost, row_view, life_view}
use Rattle.st_laws_refine.specs.Server.View.{ServesLife, Said, Sound, Ready}
use Rattle.st_laws_refine.proofs.Views.Moves.{received_more, one, moves_on, Grows, moves_grow}
use Rattle.st_laws_refine.proofs.Server.Goes.{Frame, frame_same, Goes, Result, goes_same, goes_then, if_goes, unseen, replies, replies_other, observe as view}
use Rattle.st_laws_refine.proofs.Server.OneRow.{alone}
use Rattle.st_laws_refine.proofs.Server.Thefts.{thefts_go}
use Rattle.st_laws_refine.proofs.Server.Passes.{suspecting_goes, granting_goes, demanding_goes}
use Rattle.st_laws_refine.proofs.Server.Greeting.{refused, hello_goes}
use Rattle.st_laws_refine.proofs.Server.Reasserting.{TakeOk, taken_ok, again_goes, Reassertion, lower, reassert_goes}
use Rattle.st_laws_refine.proofs.Server.Requests.{Quiet, quiet_answer, map_quiet, allocate_quiet, cut_quiet, name_quiet, Serving, Rule, quiet_rule, keeps}
use Rattle.st_laws_refine.proofs.Server.Requests.{store_other}
use Rattle.st_laws_refine.proofs.Server.Locking.{released_rule, released_frame, acquire_rule, acquire_frame}

-- requests that are answered by their session or their epoch
abbrev pub asks : Body → Bool
asks bd.KeepAlive = true
asks (bd.Acquire i m) = true
asks (bd.Released i g to) = true
asks (bd.Map i g p) = true
asks (bd.Allocate i g p count) = true
asks (bd.Cut i g p) = true
asks (bd.Name op) = true
asks (bd.Reassert rows) = true
asks b = false

data Kind (b : Body) : Type 0 where
  Greets : b ≡ bd.Hello → Kind b
  Sees : (ino : ℕ) (g : GrantNo) → b ≡ bd.DemandSeen ino g → Kind b
  Asks : asks b ≡ true → Kind b
  Neither : is_clients b ≡ false → Kind b

kind : (b : Body) → Kind b
kind bd.Hello = Greets refl
kind (bd.DemandSeen i g) = Sees i g refl
kind bd.KeepAlive = Asks refl
kind (bd.Acquire i m) = Asks refl
kind (bd.Released i g to) = Asks refl
kind (bd.Map i g p) = Asks refl
kind (bd.Allocate i g p count) = Asks refl
kind (bd.Cut i g p) = Asks refl
kind (bd.Name op) = Asks refl
kind (bd.Reassert rows) = Asks refl
kind b = Neither refl

by_body_asks : (t : ServerTurn) (now : Stamp) (h : Header) (b : Body) → asks b ≡ true → by_body t now h b ≡ of_epoch t now h b
unfolding by_body
by_body_asks t now h bd.Hello e = cc
by_body_asks t now h (bd.DemandSeen i g) e = cc
by_body_asks t now h b e = refl

plain_of : (n life e stamp : ℕ) (b : Body) (N : List Msg) → asks b ≡ true → Shows life (epoch_shown b e) stamp (shown n b) N → In (msg life e stamp net.Plain) N
plain_of n life e stamp bd.KeepAlive N a s = s.one
plain_of n life e stamp (bd.Acquire i m) N a s = s.one
plain_of n life e stamp (bd.Released i g to) N a s = s.one
plain_of n life e stamp (bd.Map i g p) N a s = s.one
plain_of n life e stamp (bd.Allocate i g p count) N a s = s.one
plain_of n life e stamp (bd.Cut i g p) N a s = s.one
plain_of n life e stamp (bd.Name op) N a s = s.one
plain_of n life e stamp (bd.Reassert rows) N a s = s.one
plain_of n life e stamp b N a s = cc

-- what a seen demand changes, no client sees
see_view : (l : Locks) (c : ClientId) (ino : ℕ) (g : GrantNo) (d i : ℕ) → row_view (row_of (locks.demand_seen l c ino g) (client d) i) ≡ row_view (row_of l (client d) i)
unfolding locks.demand_seen answered_row
see_view l c ino g d i =
    ap row_view (find_map (is_row_of (client d) i) (observe c ino g) (λ r. cond_either (λ z. is_row_of (client d) i z ≡ is_row_of (client d) i r) (is_row_of c ino r && (r.g.0 == g.0)) (answered_row r) r (λ e. refl) (λ e. refl)) l.rows)
    ∙ seen (row_of l (client d) i)
  where
    seen : (o : Option LockRow) → row_view (option_map (observe c ino g) o) ≡ row_view o
    seen None = refl
    seen (Some r) = cond_either (λ z. row_view (Some z) ≡ row_view (Some r)) (is_row_of c ino r && (r.g.0 == g.0)) (answered_row r) r (λ e. refl) (λ e. refl)

observe_frame : (d : ℕ) (t : ServerTurn) (h : Header) (ino : ℕ) (g : GrantNo) → Frame d t.state (observe_demand t h ino g).state
unfolding observe_demand locks.demand_seen
observe_frame d t h ino g = record { epoch = refl; lepoch = refl; sepoch = refl; await = refl; grace = refl; grants = omega arith; session = refl; suspect = refl; rows = λ i. see_view t.state.locks (sender h) ino g d i; waits = λ w h e. h; suspects = λ s h e. h }

observe_said : (t : ServerTurn) (h : Header) (ino : ℕ) (g : GrantNo) → (observe_demand t h ino g).out ≡ t.out
unfolding observe_demand
observe_said t h ino g = refl

-- what another client asked
record Unseen (d : ℕ) (t : ServerTurn) (a : Replied) : Type 0 where
  frame : Frame d t.state a.turn.state
  said : (N : List Msg) → Said d t.out N → Said d a.turn.out N

quiet_unseen : (d : ℕ) (t : ServerTurn) (a : Replied) → Quiet d t a → Unseen d t a
quiet_unseen d t a q = record { frame = q.frame; said = q.said }

acquire_said : (d : ℕ) (t : ServerTurn) (now : Stamp) (h : Header) (ino : ℕ) (mode : Mode) (N : List Msg) → Said d t.out N → Said d (sv.acquire t now h ino mode).turn.out N
unfolding sv.acquire acquire_lock no_file acquire_by
acquire_said d t now h ino mode N s =
    cond_either (λ (a : Replied). Said d a.turn.out N) (is_file t ino) (acquire_lock t now h ino mode) (no_file t ino) (λ e. go (locks.acquire t.state.locks (sender h) (life_in h) ino mode (sv.grants_now t now))) (λ e. s)
  where
    go : (r : Res Acquired AcquireRefusal) → Said d (acquire_by t ino mode r).turn.out N
    go (Ok a) = s
    go (Err r) = s

released_said : (d : ℕ) (t : ServerTurn) (h : Header) (ino : ℕ) (g : GrantNo) (to : Mode) (N : List Msg) → Said d t.out N → Said d (sv.released t h ino g to).turn.out N
unfolding sv.released sv.released_by
released_said d t h ino g to N s = s

rule_other : (k : Config) (cl : net.Client) (d : ℕ) (t : ServerTurn) (now : Stamp) (h : Header) (b : Body) → h.from ≢ d → Unseen d t (rule t now h b)
unfolding rule keep_alive
rule_other k cl d t now h bd.KeepAlive ne = record { frame = frame_same d t.state; said = λ N s. s }
rule_other k cl d t now h (bd.Acquire i m) ne = record { frame = acquire_frame k cl now d t h i m ne; said = acquire_said d t now h i m }
rule_other k cl d t now h (bd.Released i g to) ne = record { frame = released_frame k cl now d t h i g to ne; said = released_said d t h i g to }
rule_other k cl d t now h (bd.Map i g p) ne = quiet_unseen d t _ (map_quiet d t h i g p)
rule_other k cl d t now h (bd.Allocate i g p count) ne = quiet_unseen d t _ (allocate_quiet d t h i g p count)
rule_other k cl d t now h (bd.Cut i g p) ne = quiet_unseen d t _ (cut_quiet d t h i g p)
rule_other k cl d t now h (bd.Name op) ne = quiet_unseen d t _ (name_quiet d t h op)
rule_other k cl d t now h b ne = record { frame = frame_same d t.state; said = λ N s. s }

module _ (k : Config) (cl : net.Client) (now : Stamp) where
  keep_other : (d : ℕ) (t u : ServerTurn) (h : Header) (o : Option Body) → h.from ≢ d → Goes k cl d now t u → Goes k cl d now t (keep h u o)
  unfolding keep keep_and_reply store
  keep_other d t u h None ne g = g
  keep_other d t u h (Some b) ne g =
      goes_then k cl d now t u _ g
      (goes_then k cl d now u (with_sessions (store u.state.sessions (sender h) h.number b) u) _
      (unseen k cl d now u (with_sessions (store u.state.sessions (sender h) h.number b) u) (record { epoch = refl; lepoch = refl; sepoch = refl; await = refl; grace = refl; grants = omega arith; session = store_other u.state.sessions (sender h) d h.number b ne; suspect = refl; rows = λ i. refl; waits = λ w h e. h; suspects = λ s h e. h }) (λ N s. s))
      (replies_other k cl d now (with_sessions (store u.state.sessions (sender h) h.number b) u) h b ne))

  serve_other : (d : ℕ) (t : ServerTurn) (h : Header) (a : Replied) → h.from ≢ d → Unseen d t a → Goes k cl d now t (serve h a)
  unfolding serve
  serve_other d t h a ne z = keep_other d t a.turn h a.reply ne (unseen k cl d now t a.turn z.frame z.said)

  serve_own : (t : ServerTurn) (h : Header) (x : Ghost) (a : Replied) → Serving h.from t h x.net → Rule k cl now h.from t h x a → Result k cl h.from now t (serve h a) x
  unfolding serve keep
  serve_own t h x a q z = go a.turn a.reply z
    where
      go : (u : ServerTurn) (o : Option Body) → Rule k cl now h.from t h x (record { turn = u; reply = o }) → Result k cl h.from now t (keep h u o) x
      go u None z = elim (z.reply) [ ]
      go u (Some b) z = keeps k cl now t h x u b q z

  silent_goes : (d : ℕ) (t : ServerTurn) (h : Header) → Goes k cl d now t (serve h (silent t))
  unfolding serve keep
  silent_goes d t h = goes_same k cl d now t

  rule_own : (t : ServerTurn) (h : Header) (x : Ghost) (b : Body) → Ready h.from k.wait now t x → Serving h.from t h x.net → Wishes b → Shows h.life t.state.stable.epoch.0 h.stamp (shown h.number b) x.net → Result k cl h.from now t (serve h (rule t now h b)) x
  unfolding rule keep_alive
  rule_own t h x bd.KeepAlive r q w s = serve_own t h x _ q (quiet_rule k cl now h.from t h x _ r q (quiet_answer h.from t bd.Ack (λ n. refl)))
  rule_own t h x (bd.Acquire i m) r q w s = serve_own t h x _ q (acquire_rule k cl now t h x i m r q w)
  rule_own t h x (bd.Released i g to) r q w s = serve_own t h x _ q (released_rule k cl now t h x i g to r q s.rest.one)
  rule_own t h x (bd.Map i g p) r q w s = serve_own t h x _ q (quiet_rule k cl now h.from t h x _ r q (map_quiet h.from t h i g p))
  rule_own t h x (bd.Allocate i g p count) r q w s = serve_own t h x _ q (quiet_rule k cl now h.from t h x _ r q (allocate_quiet h.from t h i g p count))
  rule_own t h x (bd.Cut i g p) r q w s = serve_own t h x _ q (quiet_rule k cl now h.from t h x _ r q (cut_quiet h.from t h i g p))
  rule_own t h x (bd.Name op) r q w s = serve_own t h x _ q (quiet_rule k cl now h.from t h x _ r q (name_quiet h.from t h op))
  rule_own t h x b r q w s = (silent_goes h.from t h).go x r

  -- another epoch is refused
  refuse_own : (t : ServerTurn) (h : Header) (x : Ghost) (e : ℕ) → Ready h.from k.wait now t x → is_some (suspect_of t.state.authority (client h.from)) ≡ false → In (msg h.life e h.stamp net.Plain) x.net → Result k cl h.from now t (refuse_epoch t h) x
  unfolding refuse_epoch
  refuse_own t h x e r free p =
      replies k cl h.from now t h (bd.Nack why.OtherEpoch h.epoch t.state.stable.epoch.0) x (record x { net = msg h.life t.state.stable.epoch.0 h.stamp net.OfOtherEpoch ∷ x.net }) (record { start = refl; gstart = refl; top = refl })
      (one (Refuses (view k cl h.from now t.state x) (msg h.life e h.stamp net.Plain) p (record { up = refl; free = free })) refl) refl (record { one = inl refl; rest = tt }) r

  request_by_own : (t : ServerTurn) (h : Header) (x : Ghost) (b : Body) → 1 ≤ h.life → Ready h.from k.wait now t x → is_some (suspect_of t.state.authority (client h.from)) ≡ false → In (msg h.life t.state.stable.epoch.0 h.stamp net.Plain) x.net → Wishes b → Shows h.life t.state.stable.epoch.0 h.stamp (shown h.number b) x.net →
      (tk : Taken Body) → TakeOk (session_of t.state.sessions (client h.from)) h.life h.number tk → Result k cl h.from now t (request_by t now h b tk) x
  unfolding request_by
  request_by_own t h x b born r free p w s takes.OtherEpoch ok = refuse_own t h x t.state.stable.epoch.0 r free p
  request_by_own t h x b born r free p w s takes.NoSession ok = (refused k cl now h.from t h (bd.Nack why.NoSession 0 0) refl).go x r
  request_by_own t h x b born r free p w s takes.Stale ok = (goes_same k cl h.from now t).go x r
  request_by_own t h x b born r free p w s (takes.Again kept) ok = again_goes k cl now t h x kept r free p ok
  request_by_own t h x b born r free p w s takes.OutOfOrder ok = (goes_same k cl h.from now t).go x r
  request_by_own t h x b born r free p w s takes.Fresh ok =
      rule_own t h x b r (record { session = ok.0; last = ok.3; old = ok.4; found = ok.1; life = ok.2; state = ok.5; free = free; born = born; plain = p; number = ne_eqb h.number 0 (λ z. let y = ok.6 in absurd (omega arith)) }) w s

  request_by_other : (d : ℕ) (t : ServerTurn) (h : Header) (b : Body) (tk : Taken Body) → h.from ≢ d → Goes k cl d now t (request_by t now h b tk)
  unfolding request_by refuse_epoch
  request_by_other d t h b takes.OtherEpoch ne = replies_other k cl d now t h _ ne
  request_by_other d t h b takes.NoSession ne = replies_other k cl d now t h _ ne
  request_by_other d t h b takes.Stale ne = goes_same k cl d now t
  request_by_other d t h b (takes.Again kept) ne = replies_other k cl d now t h kept ne
  request_by_other d t h b takes.OutOfOrder ne = goes_same k cl d now t
  request_by_other d t h b takes.Fresh ne = serve_other d t h (rule t now h b) ne (rule_other k cl d t now h b ne)

  -- a reassertion, from what is heard of it and from the association's own invariant
  reassertion : (t : ServerTurn) (h : Header) (x : Ghost) (rs : List (ℕ × GrantNo × Mode)) → Sound h.from k.wait now t.state x → Invariant k (view k cl h.from now t.state x) → 1 ≤ h.life → Wishes (bd.Reassert rs) →
      Shows h.life t.state.stable.epoch.0 h.stamp (shown h.number (bd.Reassert rs)) x.net → Reassertion k cl now t h rs x.net
  reassertion t h x rs s inv born w sh =
      record {
        born = born;
        plain = sh.one;
        locks = sh.rest.one;
        some = w.some;
        earlier = λ on r i.
            let low = inv.locks_.low (msg h.life t.state.stable.epoch.0 h.stamp (net.Reassert (λ i. lock_in rs i))) sh.rest.one r.0 in
            let g = ap (λ o. (lock_in_row o).g) (alone rs w.once r i) in let f = s.fresh on in let e = ap locks.first_after s.lepoch in omega arith;
        waits = λ on new v i e.
            let lt = lower k cl now (session_of t.state.sessions (client h.from)) (life_in h) new (s.graced on) born in
            let zero = first_in_grace k (view k cl h.from now t.state x) inv.lives_ refl on h.life h.stamp (λ i. lock_in rs i) sh.rest.one lt in
            let q = s.waits v i e in no_life (session_of t.state.sessions (client h.from)) v.life.0 q.served zero q.born;
      }
    where
      no_life : (o : Option Session) (life : ℕ) → ServesLife life o → life_view o ≡ 0 → 1 ≤ life → ⊥
      no_life None life q z b = q
      no_life (Some s) life q z b = let e = q.is in absurd (omega arith)

  request_own : (t : ServerTurn) (h : Header) (x : Ghost) (b : Body) → Ready h.from k.wait now t x → is_some (suspect_of t.state.authority (client h.from)) ≡ false → 1 ≤ h.life → In (msg h.life t.state.stable.epoch.0 h.stamp net.Plain) x.net → Wishes b → Shows h.life t.state.stable.epoch.0 h.stamp (shown h.number b) x.net → Invariant k (view k cl h.from now t.state x) →
      Result k cl h.from now t (request t now h b) x
  unfolding request
  request_own t h x (bd.Reassert rs) r free born p w s a =
      reassert_goes k cl now h.from t h rs x (λ e. free) (λ e. reassertion t h x rs r.sound a born w s) r
  request_own t h x b r free born p w s a = request_by_own t h x b born r free p w s (take t h) (taken_ok t.state.sessions (sender h) (life_in h) (record { 0 = h.epoch }) h.number)

  request_other : (d : ℕ) (t : ServerTurn) (h : Header) (x : Ghost) (b : Body) → h.from ≢ d → Ready d k.wait now t x → Result k cl d now t (request t now h b) x
  unfolding request
  request_other d t h x (bd.Reassert rs) ne r = reassert_goes k cl now d t h rs x (λ e. absurd (ne e)) (λ e. absurd (ne e)) r
  request_other d t h x b ne r = (request_by_other d t h b (take t h) ne).go x r

  shown_at : (e n life stamp : ℕ) (b : Body) (N : List Msg) → asks b ≡ true → Shows life (epoch_shown b e) stamp (shown n b) N → Shows life e stamp (shown n b) N
  shown_at e n life stamp bd.Hello N a s = cc
  shown_at e n life stamp b N a s = s

  of_epoch_own : (t : ServerTurn) (h : Header) (x : Ghost) (b : Body) → asks b ≡ true → Ready h.from k.wait now t x → is_some (suspect_of t.state.authority (client h.from)) ≡ false → Received h b x.net → Invariant k (view k cl h.from now t.state x) → Result k cl h.from now t (of_epoch t now h b) x
  unfolding of_epoch
  of_epoch_own t h x b ask r free q a =
      cond_either (λ u. Result k cl h.from now t u x) (h.epoch == t.state.stable.epoch.0) (request t now h b) (refuse_epoch t h)
      (λ e. let z : h.epoch ≡ t.state.stable.epoch.0 = eqb-true _ _ e in
      request_own t h x b r free q.born (subst (λ e. In (msg h.life e h.stamp net.Plain) x.net) z (plain_of h.number h.life h.epoch h.stamp b x.net ask q.shows)) q.wishes
      (subst (λ e. Shows h.life e h.stamp (shown h.number b) x.net) z (shown_at h.epoch h.number h.life h.stamp b x.net ask q.shows)) a)
      (λ e. refuse_own t h x h.epoch r free (plain_of h.number h.life h.epoch h.stamp b x.net ask q.shows))

  of_epoch_other : (d : ℕ) (t : ServerTurn) (h : Header) (x : Ghost) (b : Body) → h.from ≢ d → Ready d k.wait now t x → Result k cl d now t (of_epoch t now h b) x
  unfolding of_epoch refuse_epoch
  of_epoch_other d t h x b ne r =
      cond_either (λ u. Result k cl d now t u x) (h.epoch == t.state.stable.epoch.0) (request t now h b) (refuse_epoch t h) (λ e. request_other d t h x b ne r) (λ e. (replies_other k cl d now t h _ ne).go x r)

  seen_goes : (d : ℕ) (t : ServerTurn) (h : Header) (ino : ℕ) (g : GrantNo) → Goes k cl d now t (demand_seen t h ino g)
  unfolding demand_seen
  seen_goes d t h ino g =
      if_goes k cl d now t (is_served t h) (observe_demand t h ino g) t
      (λ e. unseen k cl d now t (observe_demand t h ino g) (observe_frame d t h ino g) (λ N s. subst (λ o. Said d o N) (sym (observe_said t h ino g)) s)) (λ e. goes_same k cl d now t)

  greeted_body : (d : ℕ) (t : ServerTurn) (h : Header) (x : Ghost) (b : Body) → b ≡ bd.Hello → may_ack t.state.authority (sender h) ≡ true → (h.from ≡ d → Received h b x.net) → Ready d k.wait now t x → Result k cl d now t (by_body t now h b) x
  unfolding by_body
  greeted_body d t h x b e free received r =
      subst (λ b. Result k cl d now t (by_body t now h b) x) (sym e) (hello_goes k cl now d t h x free (λ f. let q = subst (λ b. Received h b x.net) e (received f) in record { born = q.born; hello = q.shows.one }) r)

  seen_body : (d : ℕ) (t : ServerTurn) (h : Header) (x : Ghost) (b : Body) (ino : ℕ) (g : GrantNo) → b ≡ bd.DemandSeen ino g → Ready d k.wait now t x → Result k cl d now t (by_body t now h b) x
  unfolding by_body
  seen_body d t h x b ino g e r = subst (λ b. Result k cl d now t (by_body t now h b) x) (sym e) ((seen_goes d t h ino g).go x r)

  other_body : (d : ℕ) (t : ServerTurn) (h : Header) (x : Ghost) (b : Body) → h.from ≢ d → is_clients b ≡ false → Ready d k.wait now t x → Result k cl d now t (by_body t now h b) x
  unfolding by_body
  other_body d t h x bd.Hello ne e r = cc
  other_body d t h x (bd.DemandSeen i g) ne e r = cc
  other_body d t h x b ne e r = of_epoch_other d t h x b ne r

  by_body_goes : (d : ℕ) (t : ServerTurn) (h : Header) (x : Ghost) (b : Body) → may_ack t.state.authority (sender h) ≡ true → (h.from ≡ d → Received h b x.net) → Invariant k (view k cl d now t.state x) → Ready d k.wait now t x → Result k cl d now t (by_body t now h b) x
  by_body_goes d t h x b free received a r = by_kind (kind b)
    where
      asked : asks b ≡ true → (h.from ≡ d) ⊎ (h.from ≢ d) → Result k cl d now t (of_epoch t now h b) x
      asked ask (inl e) = subst (λ d. Received h b x.net → Invariant k (view k cl d now t.state x) → Ready d k.wait now t x → Result k cl d now t (of_epoch t now h b) x) e (λ q a r. of_epoch_own t h x b ask r (not_true _ free) q a) (received e) a r
      asked ask (inr ne) = of_epoch_other d t h x b ne r

      by_kind : Kind b → Result k cl d now t (by_body t now h b) x
      by_kind (Asks ask) = subst (λ u. Result k cl d now t u x) (sym (by_body_asks t now h b ask)) (asked ask (same_or_not h.from d))
      by_kind (Greets e) = greeted_body d t h x b e free received r
      by_kind (Sees ino g e) = seen_body d t h x b ino g e r
      by_kind (Neither e) = neither (same_or_not h.from d)
        where
          neither : (h.from ≡ d) ⊎ (h.from ≢ d) → Result k cl d now t (by_body t now h b) x
          neither (inl f) = let z = (received f).clients in cc
          neither (inr ne) = other_body d t h x b ne e r

  suspect_refused : (d : ℕ) (t : ServerTurn) (h : Header) (start : Stamp) (b : Body) → Goes k cl d now t (refuse_suspect t h start b)
  unfolding refuse_suspect
  suspect_refused d t h start (bd.DemandSeen i g) = goes_same k cl d now t
  suspect_refused d t h start b = refused k cl now d t h (bd.Nack why.Suspect start.0 0) refl

  receives : (d : ℕ) (t : ServerTurn) (h : Header) (x : Ghost) (b : Body) → (is_client_node h.from ≡ true → h.from ≡ d → Received h b x.net) → Invariant k (view k cl d now t.state x) → Ready d k.wait now t x → Result k cl d now t (receive t now h b) x
  unfolding receive receive_from by_suspicion
  receives d t h x b received a r =
      cond_either (λ u. Result k cl d now t u x) (is_for t.state h) (receive_from t now h b) t (λ e. go (received (and_true (h.to == server_node t.state.id) _ e).1) (suspect_of t.state.authority (sender h)) refl) (λ e. (goes_same k cl d now t).go x r)
    where
      go : (h.from ≡ d → Received h b x.net) → (o : Option Suspect) → suspect_of t.state.authority (sender h) ≡ o → Result k cl d now t (by_suspicion t now h b (option_map start_of o)) x
      go received None e = by_body_goes d t h x b (ap (λ o. not (is_some o)) e) received a r
      go received (Some s) e = (suspect_refused d t h s.start b).go x r

  -- the rule for the input
  abbrev pub ReceivedInput : ℕ → ServerInput → List Msg → Type 0
  ReceivedInput d Tick N = Unit {0}
  ReceivedInput d (Control m) N = is_client_node m.header.from ≡ true → m.header.from ≡ d → Received m.header m.body N

  takes_input : (d : ℕ) (t : ServerTurn) (x : Ghost) (i : ServerInput) → ReceivedInput d i x.net → Invariant k (view k cl d now t.state x) → Ready d k.wait now t x → Result k cl d now t (take_input t now i) x
  unfolding take_input
  takes_input d t x Tick received a r = (goes_same k cl d now t).go x r
  takes_input d t x (Control m) received a r = receives d t m.header x m.body received a r

  input_grows : (d : ℕ) (i : ServerInput) (N M : List Msg) → Grows N M → ReceivedInput d i N → ReceivedInput d i M
  input_grows d Tick N M g q = tt
  input_grows d (Control m) N M g q = λ f e. received_more m.header m.body N M g (q f e)

  -- the whole step
  pub step_goes : (d : ℕ) (s : ServerState) (x : Ghost) (i : ServerInput) → ConfigOk k → ReceivedInput d i x.net → Invariant k (view k cl d now s x) → Ready d k.wait now (turn s []) x → Result k cl d now (turn s []) (server_step s now i) x
  unfolding server_step
  step_goes d s x i ok received a r =
      let t0 : ServerTurn = turn s [] in
      let t1 : ServerTurn = thefts t0 now in
      let t2 : ServerTurn = take_input t1 now i in
      let t3 : ServerTurn = suspecting_on t2 now i in
      let t4 : ServerTurn = granting t3 now in
      let r1 = (thefts_go k cl d now t0).go x r in
      let r2 = takes_input d t1 r1.ghost i (input_grows d i x.net r1.ghost.net (moves_grow r1.moves) received) (kept_by k ok r1.moves a) r1.ready in
      let r3 = (goes_then k cl d now t2 t3 _ (suspecting_goes k cl d now t2 i) (goes_then k cl d now t3 t4 _ (granting_goes k cl d now t3) (demanding_goes k cl d now t4 i))).go r2.ghost r2.ready in
      record { ghost = r3.ghost; moves = moves_on r1.moves (moves_on r2.moves r3.moves); ready = r3.ready }
