-- Requests by their session: what a rule answers, and that its reply is kept.
use Rattle.st_lemmas.proofs.Words
use Words.{◌≡◌, ◌≢◌, ℕ, ◌≤◌, true, false, List, [], ◌∷◌, ◌==◌, refl, sym, ap, ◌∙◌, subst, inl, arith, not, Option, Some, None, is_some, option_map}
use Words.{Result as Res, Ok, Err, ClientId, GrantNo, PageNo, Stamp, EntryRefusal, NameRow, Header, Body, NameOp, AllocateRefusal, Session}
use Words.modes
use Words.ops.{Lookup, Create, Mkdir, Remove, Rename, List as ListFrom}
use Words.wants
use Words.states.{Live}
use Words.Keys.{client, page_no}
use Words.Extents.{Extents}
use Words.Names as names
use Words.Locks.{row_of, drop_file_waits, is_wait_on}
use Words.Sessions as sessions
use Words.Sessions.{Sessions, session_of, is_session_of, is_live, keep_reply, store, kept_state}
use Words.Authority.{suspect_of}
use Words.Server as sv
use Words.Server.{ServerState, ServerTurn, Replied, replied, with_locks, with_sessions, sender, reply, is_file, holds, map_page, map_held, no_file, not_holder}
use Words.Server.{with_extents_told, allocate_by, allocate_pages, allocate_held, allocate, cut_pages, cut_from, cut_held, cut, name_refused, name_found}
use Words.Server.{name_changed, names_listed, remove_dir, cut_whole, remove_by, remove_file, remove_ino, remove_found, remove, name, keep_and_reply}
use Words.Tables.{cond_either, find_other, find_own, has_filter}
use Rattle.st_rules.specs.declared.names.EntryRefusal.TheVariants.{IsDir}
use Rattle.st_protocol.specs.Assoc as net
use Rattle.st_protocol.specs.Assoc.{Config, Msg, msg, In, Acks, Moves}
use Rattle.st_laws_refine.specs.Views.Messages.{shown, Shows}
use Rattle.st_laws_refine.specs.Views.Halves.{Ghost, half, row_view, life_view, live_view}
use Rattle.st_laws_refine.specs.Server.View.{Said, ServesLife, RowOk, AllKept, Kept, NotEnded, Sound, Ready}
use Rattle.st_laws_refine.proofs.Server.Changes.{is_not}
use Rattle.st_laws_refine.proofs.Views.Moves.{one, moved}
use Rattle.st_laws_refine.proofs.Server.Goes.{said_append, Frame, frame_same, frame_then, frame_sound, frame_at, observe, Result, received_more}

-- Rules that this client sees as an acknowledgement, and others not at all.
abbrev pub AcksOnly : Option Body → Type 0
AcksOnly None = ⊥
AcksOnly (Some b) = (n : ℕ) → shown n b ≡ net.Ack ∷ []

pub record Quiet (d : ℕ) (t : ServerTurn) (a : Replied) : Type 0 where
  pub frame : Frame d t.state a.turn.state
  pub same : a.turn.state.sessions ≡ t.state.sessions
  pub said : (N : List Msg) → Said d t.out N → Said d a.turn.out N
  pub acks : AcksOnly a.reply

pub quiet_answer : (d : ℕ) (t : ServerTurn) (b : Body) → ((n : ℕ) → shown n b ≡ net.Ack ∷ []) → Quiet d t (replied t b)
quiet_answer d t b e = record { frame = frame_same d t.state; same = refl; said = λ N s. s; acks = e }

extents_frame : (d : ℕ) (t : ServerTurn) (v : Extents) → Frame d t.state (sv.with_extents v t).state
extents_frame d t v = record { epoch = refl; lepoch = refl; sepoch = refl; await = refl; grace = refl; grants = omega arith; session = refl; suspect = refl; rows = λ i. refl; waits = λ w h e. h; suspects = λ s h e. h }

names_frame : (d : ℕ) (t : ServerTurn) (v : names.Names) → Frame d t.state (sv.with_names v t).state
names_frame d t v = record { epoch = refl; lepoch = refl; sepoch = refl; await = refl; grace = refl; grants = omega arith; session = refl; suspect = refl; rows = λ i. refl; waits = λ w h e. h; suspects = λ s h e. h }

waits_frame : (d : ℕ) (t : ServerTurn) (ino : ℕ) → Frame d t.state (with_locks (drop_file_waits t.state.locks ino) t).state
unfolding drop_file_waits
waits_frame d t ino = record { epoch = refl; lepoch = refl; sepoch = refl; await = refl; grace = refl; grants = omega arith; session = refl; suspect = refl; rows = λ i. refl; waits = λ w h e. (has_filter (λ w. not (is_wait_on ino w)) t.state.locks.waiters w h).0; suspects = λ s h e. h }

module _ (d : ℕ) where
  pub map_quiet : (t : ServerTurn) (h : Header) (ino : ℕ) (g : GrantNo) (page : PageNo) → Quiet d t (sv.map t h ino g page)
  unfolding sv.map map_held map_page no_file not_holder
  map_quiet t h ino g page =
      cond_either (Quiet d t) (is_file t ino) (map_held t h ino g page) (no_file t ino)
      (λ e. cond_either (Quiet d t) (holds t h ino g modes.S) (map_page t ino page) (not_holder t ino g) (λ e. quiet_answer d t _ (λ n. refl)) (λ e. quiet_answer d t _ (λ n. refl)))
      (λ e. quiet_answer d t _ (λ n. refl))

  allocated : (t : ServerTurn) (ino : ℕ) (page : PageNo) (count : ℕ) (r : Res Extents AllocateRefusal) → Quiet d t (allocate_by t ino page count r)
  unfolding allocate_by with_extents_told
  allocated t ino page count (Ok x) = record { frame = extents_frame d t x; same = refl; said = λ N s. s; acks = λ n. refl }
  allocated t ino page count (Err (wants.NoSpace f a)) = quiet_answer d t _ (λ n. refl)

  pub allocate_quiet : (t : ServerTurn) (h : Header) (ino : ℕ) (g : GrantNo) (page : PageNo) (count : ℕ) → Quiet d t (allocate t h ino g page count)
  unfolding allocate allocate_held allocate_pages no_file not_holder
  allocate_quiet t h ino g page count =
      cond_either (Quiet d t) (is_file t ino) (allocate_held t h ino g page count) (no_file t ino)
      (λ e. cond_either (Quiet d t) (holds t h ino g modes.X) (allocate_pages t ino page count) (not_holder t ino g) (λ e. allocated t ino page count _) (λ e. quiet_answer d t _ (λ n. refl)))
      (λ e. quiet_answer d t _ (λ n. refl))

  cut_said : (t : ServerTurn) (ino : ℕ) (from : PageNo) (N : List Msg) → Said d t.out N → Said d (cut_pages t ino from).out N
  unfolding cut_pages
  cut_said t ino from N s = said_append d t.out _ N s tt

  cut_frame : (t : ServerTurn) (ino : ℕ) (from : PageNo) → Frame d t.state (cut_pages t ino from).state
  unfolding cut_pages
  cut_frame t ino from = extents_frame d t _

  cut_sessions : (t : ServerTurn) (ino : ℕ) (from : PageNo) → (cut_pages t ino from).state.sessions ≡ t.state.sessions
  unfolding cut_pages
  cut_sessions t ino from = refl

  pub cut_quiet : (t : ServerTurn) (h : Header) (ino : ℕ) (g : GrantNo) (from : PageNo) → Quiet d t (cut t h ino g from)
  unfolding cut cut_held cut_from no_file not_holder
  cut_quiet t h ino g from =
      cond_either (Quiet d t) (is_file t ino) (cut_held t h ino g from) (no_file t ino)
      (λ e. cond_either (Quiet d t) (holds t h ino g modes.X) (cut_from t ino from) (not_holder t ino g)
      (λ e. record { frame = cut_frame t ino from; same = cut_sessions t ino from; said = cut_said t ino from; acks = λ n. refl }) (λ e. quiet_answer d t _ (λ n. refl)))
      (λ e. quiet_answer d t _ (λ n. refl))

  found_quiet : (t : ServerTurn) (r : Res ℕ EntryRefusal) → Quiet d t (name_found t r)
  unfolding name_found name_refused
  found_quiet t (Ok ino) = quiet_answer d t _ (λ n. refl)
  found_quiet t (Err r) = quiet_answer d t _ (λ n. refl)

  changed_quiet : (t : ServerTurn) (r : Res names.Changed EntryRefusal) → Quiet d t (name_changed t r)
  unfolding name_changed name_refused
  changed_quiet t (Ok x) = record { frame = names_frame d t x.names; same = refl; said = λ N s. s; acks = λ n. refl }
  changed_quiet t (Err r) = quiet_answer d t _ (λ n. refl)

  listed_quiet : (t : ServerTurn) (r : Res (List NameRow) EntryRefusal) → Quiet d t (names_listed t r)
  unfolding names_listed name_refused
  listed_quiet t (Ok rows) = quiet_answer d t _ (λ n. refl)
  listed_quiet t (Err r) = quiet_answer d t _ (λ n. refl)

  removed_quiet : (t : ServerTurn) (r : Res names.Changed EntryRefusal) → Quiet d t (remove_by t r)
  unfolding remove_by name_refused cut_whole
  removed_quiet t (Err r) = quiet_answer d t _ (λ n. refl)
  removed_quiet t (Ok x) =
      let u : ServerTurn = sv.with_names x.names t in
      let v : ServerTurn = with_locks (drop_file_waits u.state.locks x.ino) u in
      record {
        frame = frame_then d t.state u.state _ (names_frame d t x.names) (frame_then d u.state v.state _ (waits_frame d u x.ino) (cut_frame v x.ino (page_no 0)));
        same = cut_sessions v x.ino (page_no 0);
        said = cut_said v x.ino (page_no 0);
        acks = λ n. refl;
      }

  remove_quiet : (t : ServerTurn) (h : Header) (dir : ℕ) (n : List ℕ) (g : GrantNo) (r : Res ℕ EntryRefusal) → Quiet d t (remove_found t h dir n g r)
  unfolding remove_found remove_ino remove_file remove_dir name_refused not_holder
  remove_quiet t h dir n g (Err r) = quiet_answer d t _ (λ n. refl)
  remove_quiet t h dir n g (Ok ino) =
      cond_either (Quiet d t) (is_file t ino) (remove_file t h dir n g ino) (remove_dir t dir n g)
      (λ e. cond_either (Quiet d t) (holds t h ino g modes.X) (remove_by t (names.remove t.state.stable.names dir n)) (not_holder t ino g) (λ e. removed_quiet t _) (λ e. quiet_answer d t _ (λ n. refl)))
      (λ e. cond_either (Quiet d t) (g.0 == 0) (name_changed t (names.remove t.state.stable.names dir n)) (name_refused t IsDir) (λ e. changed_quiet t _) (λ e. quiet_answer d t _ (λ n. refl)))

  pub name_quiet : (t : ServerTurn) (h : Header) (op : NameOp) → Quiet d t (name t h op)
  unfolding name remove
  name_quiet t h (Lookup dir n) = found_quiet t _
  name_quiet t h (Create dir n) = changed_quiet t _
  name_quiet t h (Mkdir dir n) = changed_quiet t _
  name_quiet t h (Remove dir n g) = remove_quiet t h dir n g _
  name_quiet t h (Rename dir n dir2 n2) = changed_quiet t _
  name_quiet t h (ListFrom dir after) = listed_quiet t _

-- A rule of this client.
abbrev pub ReplyOk : Header → ℕ → Option Body → List Msg → Type 0
ReplyOk h epoch None N = ⊥
ReplyOk h epoch (Some b) N = record { shows : Shows h.life epoch h.stamp (shown h.number b) N; all : AllKept (shown h.number b) }

-- what is asked under the living session
pub record Serving (d : ℕ) (t : ServerTurn) (h : Header) (N : List Msg) : Type 0 where
  pub session : Session
  pub last : ℕ
  pub old : Option Body
  pub found : session_of t.state.sessions (client d) ≡ Some session
  pub life : session.life.0 ≡ h.life
  pub state : session.state ≡ Live last old
  pub free : is_some (suspect_of t.state.authority (client d)) ≡ false
  pub born : 1 ≤ h.life
  pub plain : In (msg h.life t.state.stable.epoch.0 h.stamp net.Plain) N
  pub number : (h.number == 0) ≡ false

pub store_other : (t : Sessions) (c : ClientId) (d : ℕ) (n : ℕ) (b : Body) → c.0 ≢ d → session_of (store t c n b) (client d) ≡ session_of t (client d)
unfolding store keep_reply
store_other t c d n b ne = find_other (is_session_of (client d)) (is_session_of c) (keep_reply n b) (λ s. refl) (λ s e. is_not c.0 d s.client.0 ne e) t.rows

store_own : (t : Sessions) (c : ClientId) (n : ℕ) (b : Body) → session_of (store t c n b) c ≡ option_map (keep_reply n b) (session_of t c)
unfolding store keep_reply
store_own t c n b = find_own (is_session_of c) (is_session_of c) (keep_reply n b) (λ s. refl) (λ s e. e) t.rows

keep_live : (n last : ℕ) (old : Option Body) (b : Body) (s : Session) → s.state ≡ Live last old → keep_reply n b s ≡ record s { state = Live n (Some b) }
unfolding keep_reply
keep_live n last old b s e = ap (λ st. record s { state = kept_state n b st }) e

module _ (k : Config) (cl : net.Client) (now : Stamp) where
  pub record Rule (d : ℕ) (t : ServerTurn) (h : Header) (x : Ghost) (a : Replied) : Type 0 where
    pub ghost : Ghost
    pub moves : Moves k (observe k cl d now t.state x) (observe k cl d now a.turn.state ghost)
    pub ready : Ready d k.wait now a.turn ghost
    pub same : a.turn.state.sessions ≡ t.state.sessions
    pub epoch : a.turn.state.stable.epoch ≡ t.state.stable.epoch
    pub reply : ReplyOk h t.state.stable.epoch.0 a.reply ghost.net

  pub acks : (d : ℕ) (n : ServerState) (x : Ghost) (life stamp : ℕ) → life_view (session_of n.sessions (client d)) ≡ life → live_view (session_of n.sessions (client d)) ≡ true → is_some (suspect_of n.authority (client d)) ≡ false →
      In (msg life n.stable.epoch.0 stamp net.Plain) x.net → Moves k (observe k cl d now n x) (observe k cl d now n (record x { net = msg life n.stable.epoch.0 stamp net.Ack ∷ x.net }))
  acks d n x life stamp is live free p =
      moved k _ _ _ (one (Acks (observe k cl d now n x) stamp (subst (λ l. In (msg l n.stable.epoch.0 stamp net.Plain) x.net) (sym is) p) (record { up = refl; free = free }) live) refl)
      (λ j. record { c = cl; s = half (client d) now n x; net = msg (is j) n.stable.epoch.0 stamp net.Ack ∷ x.net })

  pub serving_life : (d : ℕ) (t : ServerTurn) (h : Header) (N : List Msg) → Serving d t h N → (life_view (session_of t.state.sessions (client d)) ≡ h.life) × (live_view (session_of t.state.sessions (client d)) ≡ true)
  serving_life d t h N q = (ap life_view q.found ∙ q.life, ap live_view q.found ∙ ap sessions.is_live_state q.state)

  acks_shown : (h : Header) (epoch : ℕ) (o : Option Body) (N : List Msg) → AcksOnly o → ReplyOk h epoch o (msg h.life epoch h.stamp net.Ack ∷ N)
  acks_shown h epoch None N a = a
  acks_shown h epoch (Some b) N a =
      record { shows = subst (λ bs. Shows h.life epoch h.stamp bs (msg h.life epoch h.stamp net.Ack ∷ N)) (sym (a h.number)) (record { one = inl refl; rest = tt }); all = subst AllKept (sym (a h.number)) (record { one = refl; rest = tt }) }

  pub quiet_rule : (d : ℕ) (t : ServerTurn) (h : Header) (x : Ghost) (a : Replied) → Ready d k.wait now t x → Serving d t h x.net → Quiet d t a → Rule d t h x a
  quiet_rule d t h x a r q z =
      let y : Ghost = record x { net = msg h.life t.state.stable.epoch.0 h.stamp net.Ack ∷ x.net } in
      let s = serving_life d t h x.net q in
      let m = acks d t.state x h.life h.stamp s.0 s.1 q.free q.plain in
      let r2 = received_more k cl d now t x y (record { start = refl; gstart = refl; top = refl }) m refl r in
      record {
        ghost = y;
        moves = moved k _ _ _ m (frame_at cl d now t.state a.turn.state y z.frame);
        ready = record { said = z.said y.net r2.said; sound = frame_sound d k.wait now t.state a.turn.state y z.frame r2.sound };
        same = z.same;
        epoch = z.frame.epoch;
        reply = acks_shown h t.state.stable.epoch.0 a.reply x.net z.acks;
      }

  -- the reply is kept and sent
  pub keeps : (t : ServerTurn) (h : Header) (x : Ghost) (u : ServerTurn) (b : Body) → Serving h.from t h x.net → Rule h.from t h x (replied u b) → Result k cl h.from now t (keep_and_reply u h b) x
  unfolding keep_and_reply reply store
  keeps t h x u b q z =
      record {
        ghost = y;
        moves = moved k _ _ _ z.moves is;
        ready = record { said = said_append h.from u.out _ y.net z.ready.said (λ e. record { all = subst (λ e. Shows h.life e h.stamp (shown h.number b) y.net) (ap (λ e. e.0) (sym z.epoch)) z.reply.shows }); sound = sound };
      }
    where
      y : Ghost
      y = z.ghost

      n : ServerState
      n = u.state

      v : ServerState
      v = (with_sessions (store u.state.sessions (sender h) h.number b) u).state

      before : session_of n.sessions (client h.from) ≡ Some q.session
      before = ap (λ t. session_of t (client h.from)) z.same ∙ q.found

      new : Session
      new = record q.session { state = Live h.number (Some b) }

      after : session_of v.sessions (client h.from) ≡ Some new
      after = store_own n.sessions (sender h) h.number b ∙ ap (option_map (keep_reply h.number b)) before ∙ ap Some (keep_live h.number q.last q.old b q.session q.state)

      was_live : is_live q.session ≡ true
      was_live = ap sessions.is_live_state q.state

      is : observe k cl h.from now n y ≡ observe k cl h.from now v y
      is = λ j. record { c = cl; s = record (half (client h.from) now n y) { session = (ap life_view before ∙ ap life_view (sym after)) j; live = (ap live_view before ∙ was_live ∙ ap live_view (sym after)) j }; net = y.net }

      served : (l : ℕ) → ServesLife l (Some q.session) → ServesLife l (Some new)
      served l s = record { live = refl; is = s.is }

      row_ok : (o : Option net.Row) → RowOk (Some q.session) o → RowOk (Some new) o
      row_ok None r = r
      row_ok (Some w) r = record { served = served w.life r.served; some = r.some }

      s : Sound h.from k.wait now n y
      s = z.ready.sound

      sound : Sound h.from k.wait now v y
      sound = record {
        lepoch = s.lepoch;
        sepoch = s.sepoch;
        await = s.await;
        gstart = s.gstart;
        begun = s.begun;
        start = s.start;
        once = s.once;
        top = s.top;
        fresh = s.fresh;
        timer = s.timer;
        graced = λ g. subst NotEnded (sym after) refl;
        rows = λ i. subst (λ o. RowOk o (row_view (row_of n.locks (client h.from) i))) (sym after) (row_ok _ (subst (λ o. RowOk o (row_view (row_of n.locks (client h.from) i))) before (s.rows i)));
        waits = λ w hs e. let p = s.waits w hs e in record { born = p.born; served = subst (ServesLife w.life.0) (sym after) (served w.life.0 (subst (ServesLife w.life.0) before p.served)); free = p.free; higher = p.higher; asked = p.asked };
        kept = subst (λ o. Kept v.stable.epoch.0 o y.net) (sym after) (record {
          old = h.stamp;
          shows = subst (λ l. Shows l v.stable.epoch.0 h.stamp (shown h.number b) y.net) (sym q.life) (subst (λ e. Shows h.life e h.stamp (shown h.number b) y.net) (ap (λ e. e.0) (sym z.epoch)) z.reply.shows);
          all = z.reply.all;
        });
      }
