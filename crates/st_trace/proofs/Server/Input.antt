-- The rules of the server for its input, walked once: right after the thefts they leave all as it was, or make one change.
use Rattle.st_lemmas.proofs.Words
use Words.{◌≡◌, ℕ, ◌<◌, Bool, true, false, not, List, [], ◌∷◌, ◌++◌, ◌==◌, refl, sym, ap, ◌∙◌, subst, inl, inr, ◌⊎◌, arith, cond, find, Option, Some, None}
use Words.{is_some, option_map, Result as Res, Ok, Err, nat_lt, eqb-true, eq-eqb, ltb-true, ltb-false, ClientId, GrantNo, Life, PageNo}
use Words.{Stamp, Mode, NameRow, Header, Message, Body, NameOp, Output, AcceptRefusal, Suspect, AllocateRefusal, ServerInput, AcquireRefusal, LockRow}
use Words.{EntryRefusal, NameEntry, Session, Taken, leb-false}
use Words.modes
use Words.bodies as bd
use Words.ops
use Words.replies
use Words.outputs
use Words.wants
use Words.serving.{Tick, Control}
use Words.hellos
use Words.states.{Live}
use Words.takes
use Words.Authority as authority
use Words.Dating.{is_request}
use Words.Extents as extents
use Words.Extents.{Extents}
use Words.Grace as grace
use Words.Grace.{accept, accept_rows, accept_earlier, accept_own, accept_installed, accepted}
use Words.Keys.{server_node}
use Words.Locks as locks
use Words.Locks.{Locks, row_of, may_grant, first_conflict, with_rows, install, install_at}
use Words.Names as names
use Words.Server as sv
use Words.Server.{ServerState, ServerTurn, Replied, turn, with_locks, with_sessions, with_names, sender, life_in, reply, thefts}
use Words.Sessions as sessions
use Words.Lists.{Has}
use Words.Tables.{cond_either, and_true, not_true, find_gone, find_kept, find_map}
use Words.Serving.{end_client}
use Words.Truth.{none_not_some}
use Rattle.st_base.specs.Mode.{covers}
use Rattle.st_rules.specs.declared.authority.AcceptRefusal.TheVariants as refusals
use Rattle.st_rules.specs.declared.locks.AcquireRefusal.TheVariants.{TooManyLocks}
use Rattle.st_rules.specs.declared.names.EntryRefusal.TheVariants as refused
use Rattle.st_trace.proofs.Server.Taking.{clash, found_for, again_state, fresh_state}
use Rattle.st_trace.specs.Server.Steps.{hears, take_of}
use Rattle.st_trace.specs.Server.Edits.{AtThefts, AtInput, NoSends, Begun, CameOf, HeardOf, GreetedOf, AskedOf, ServedOf, ReassertedOf, NameRefused}
use Rattle.st_trace.specs.Server.Edits.{NoLookup, NoCreate}
use Rattle.st_trace.specs.Server.Edits.{NoMkdir, NoRename, NoList, NoEntry, NoRemove, IsFolder, file_in, lock_in, Told, IsAlive, IsHeld, HasTooMany, HasNoRow}
use Rattle.st_trace.specs.Server.Edits.{IsMapped, IsNoFile, HoldsNot, HasNoSpace, IsNamed, AreListed, IsRefused, RemovesNot, AtOnce, InTurn, Lacks, Ruled}
use Rattle.st_trace.specs.Server.Edits.{Tells, Acquires, Releases, Allocates, Cuts, Creates, MakesDir, Renames, RemovesDir, RemovesFile, RefusedOf, IsSuspect}
use Rattle.st_trace.specs.Server.Edits.{GreetsInGrace, OfOtherEpoch, HasNoSession, IsRefusedRows, EditOf, Edit, TakesTimers, Steals, Welcomes, Begins, Replaces}
use Rattle.st_trace.specs.Server.Edits.{PutsOff, Sees, Reasserts, Serves, Repeats, Refuses}

-- The thefts.

pub no_sends_note : (os : List Output) (o : Output) → NoSends os → NoSends (o ∷ []) → NoSends (os ++ o ∷ [])
no_sends_note [] o a b = b
no_sends_note (outputs.Send m ∷ os) o a b = elim a [ ]
no_sends_note (outputs.Note n ∷ os) o a b = no_sends_note os o a b
no_sends_note (outputs.Answer c d ∷ os) o a b = no_sends_note os o a b
no_sends_note (outputs.Submit c d e ∷ os) o a b = no_sends_note os o a b

some_is : {A : Type 0} {x y : A} → Some x ≡ Some y → x ≡ y
some_is e = cc

ended_from : (t : sessions.Sessions) (c d : ClientId) (y : Session) → sessions.session_of (sessions.end t c) d ≡ Some y → sessions.is_live y ≡ true →
    sessions.session_of t d ≡ Some y
unfolding sessions.end sessions.ended
ended_from t c d y e l =
    go (sessions.session_of t d) refl
    (sym (find_map (sessions.is_session_of d) (sessions.end_of c) (λ x. ap (λ (z : ClientId). z.0 == d.0) (end_client c x)) t.rows) ∙ e)
  where
    at : (x : Session) (b : Bool) → ◌≡◌ {A = Option Session} (Some (cond b (sessions.ended x) x)) (Some y) → x ≡ y
    at x true q = absurd (clash (subst (λ (z : Session). sessions.is_live z ≡ true) (sym (some_is q)) l) refl)
    at x false q = some_is q

    go : (o : Option Session) → sessions.session_of t d ≡ o → option_map (sessions.end_of c) o ≡ Some y → o ≡ Some y
    go None f q = absurd (none_not_some y q)
    go (Some x) f q = ap Some (at x (sessions.is_session_of c x) q)

forget_from : (l : Locks) (c d : ClientId) (i : ℕ) (r : LockRow) → locks.row_of (locks.forget l c) d i ≡ Some r → locks.row_of l d i ≡ Some r
unfolding locks.forget
forget_from l c d i r e = go (d.0 == c.0) refl
  where
    of : (x : LockRow) → locks.is_row_of d i x ≡ true → x.client.0 ≡ d.0
    of x h = eqb-true _ _ (and_true (x.client.0 == d.0) (x.ino == i) h).0

    pick : (x : LockRow) → (d.0 == c.0) ≡ false → locks.is_row_of d i x ≡ true → (b : Bool) → (x.client.0 == c.0) ≡ b → not b ≡ true
    pick x f h true q = absurd (clash (eq-eqb d.0 c.0 (sym (of x h) ∙ eqb-true _ _ q)) f)
    pick x f h false q = refl

    go : (b : Bool) → (d.0 == c.0) ≡ b → locks.row_of l d i ≡ Some r
    go true f = absurd (none_not_some r
        (sym (find_gone (locks.is_row_of d i) (λ r. not (locks.is_row_by c r)) (λ x h. ap not (eq-eqb x.client.0 c.0 (of x h ∙ eqb-true _ _ f))) l.rows) ∙ e))
    go false f = sym (find_kept (locks.is_row_of d i) (λ r. not (locks.is_row_by c r)) (λ x h. pick x f h (x.client.0 == c.0) refl) l.rows) ∙ e

steal_begun : (n : ServerState) (t : ServerTurn) (c : ClientId) (o : Option Session) → Begun n t → Begun n (sv.steal_at t c o)
unfolding sv.steal_at sv.steal_from
steal_begun n t c None b = b
steal_begun n t c (Some s) b =
    record {
      id = b.id;
      config = b.config;
      stable = b.stable;
      grace = b.grace;
      sessions = λ d y e l. b.sessions d y (ended_from t.state.sessions c d y e l) l;
      rows = λ d i r e. b.rows d i r (forget_from t.state.locks c d i r e);
      quiet = no_sends_note t.out _ b.quiet tt;
    }

steals_begun : (n : ServerState) (cs : List ClientId) (t : ServerTurn) → Begun n t → Begun n (sv.steal_each cs t)
unfolding sv.steal_each sv.steal
steals_begun n [] t b = b
steals_begun n (c ∷ cs) t b = steals_begun n cs (sv.steal t c) (steal_begun n t c (sessions.session_of t.state.sessions c) b)

pub thefts_begun : (n : ServerState) (now : Stamp) → Begun n (thefts (turn n []) now)
unfolding thefts
thefts_begun n now = steals_begun n (authority.over n.authority now) _ (record {
  id = refl;
  config = refl;
  stable = refl;
  grace = refl;
  sessions = λ c y e l. e;
  rows = λ c i r e. e;
  quiet = tt;
})

module _ (clients : ℕ → Bool) (n : ServerState) (now : Stamp) (i : ServerInput) (P : ServerTurn → Type 0)
    (keeps : (t u : ServerTurn) → EditOf clients n now i AtThefts t u → P t → P u) where
  walk_of_steal : (t : ServerTurn) (c : ClientId) (o : Option Session) → sessions.session_of t.state.sessions c ≡ o →
      Has c (authority.over n.authority now) → P t → P (sv.steal_at t c o)
  unfolding sv.steal_at
  walk_of_steal t c None e h p = p
  walk_of_steal t c (Some s) e h p = keeps t _ (Steals t c s h e) p

  walk_of_steals : (cs : List ClientId) (t : ServerTurn) → ((c : ClientId) → Has c cs → Has c (authority.over n.authority now)) → P t → P (sv.steal_each cs t)
  unfolding sv.steal_each sv.steal
  walk_of_steals [] t h p = p
  walk_of_steals (c ∷ cs) t h p = walk_of_steals cs (sv.steal t c) (λ d k. h d (inr k))
      (walk_of_steal t c (sessions.session_of t.state.sessions c) refl (h c (inl refl)) p)

  pub walk_of_thefts_of : P (turn n []) → P (thefts (turn n []) now)
  unfolding thefts
  walk_of_thefts_of p = walk_of_steals (authority.over n.authority now) _ (λ c h. h) (keeps _ _ (TakesTimers (turn n []) refl) p)

pub walk_of_thefts : (n : ServerState) (now : Stamp) (i : ServerInput) (P : ServerTurn → Type 0) →
    ((t u : ServerTurn) → Edit n now i AtThefts t u → P t → P u) → P (turn n []) → P (thefts (turn n []) now)
walk_of_thefts = walk_of_thefts_of sv.is_client_node

-- What rules find.

-- a removed entry is the one that a look-up finds
removed_ino : (n : names.Names) (dir : ℕ) (name : List ℕ) (d : names.Changed) → names.remove n dir name ≡ Ok d → names.lookup n dir name ≡ Ok d.ino
unfolding names.remove names.remove_at names.remove_found names.remove_entry names.without names.lookup names.lookup_at
removed_ino n dir name d e = at (names.place_refusal n dir name) e
  where
    found : (o : Option NameEntry) → names.remove_found n dir name o ≡ Ok d → names.ino_of o ≡ Ok d.ino
    found None e = cc
    found (Some x) e =
        cond_either (λ (r : Res names.Changed EntryRefusal). r ≡ Ok d → ◌≡◌ {A = Res ℕ EntryRefusal} (Ok x.ino) (Ok d.ino)) (names.is_full n x)
        (Err refused.NotEmpty)
        (Ok (names.without n dir name x)) (λ f q. cc) (λ f q. cc) e

    at : (o : Option EntryRefusal) → names.remove_at n dir name o ≡ Ok d → names.lookup_at n dir name o ≡ Ok d.ino
    at (Some r) e = cc
    at None e = found (names.entry_at n dir name) e

same_ino : (a b : ℕ) → ◌≡◌ {A = Res ℕ EntryRefusal} (Ok a) (Ok b) → a ≡ b
same_ino a b e = cc

-- what an accepted reassertion found, and what it leaves
record IsAccepted (g : Option grace.Grace) (now : Stamp) (l : Locks) (t : sessions.Sessions) (c : ClientId) (life : Life)
    (rs : List (ℕ × GrantNo × Mode)) (a : grace.Accepted) : Type 0 where
  on : grace.is_on g now ≡ true
  free : first_conflict l c rs ≡ None
  is : a ≡ record { locks = with_rows l c life rs; sessions = sessions.reasserted t c life }

accepted_is : (g : Option grace.Grace) (now : Stamp) (l : Locks) (t : sessions.Sessions) (c : ClientId) (life : Life) (rs : List (ℕ × GrantNo × Mode))
    (a : grace.Accepted) →
    accept g now c life rs l t ≡ Ok a → IsAccepted g now l t c life rs a
unfolding accept accept_rows accept_earlier accept_own accept_installed accepted install install_at
accepted_is g now l t c life rs a e = graced (grace.is_on g now) refl e
  where
    R : Type 0
    R = Res grace.Accepted AcceptRefusal

    free : grace.is_on g now ≡ true → (o : Option (ℕ × ClientId)) → first_conflict l c rs ≡ o →
        accept_installed t c life (install_at l c life rs o) ≡ Ok a → IsAccepted g now l t c life rs a
    free on None f e = record { on = on; free = f; is = cc }
    free on (Some x) f e = cc

    own : grace.is_on g now ≡ true → (o : Option ℕ) → accept_own l t c life rs o ≡ Ok a → IsAccepted g now l t c life rs a
    own on None e = free on (first_conflict l c rs) refl e
    own on (Some x) e = cc

    earlier : grace.is_on g now ≡ true → (o : Option (ℕ × GrantNo × Mode)) → accept_earlier l t c life rs o ≡ Ok a → IsAccepted g now l t c life rs a
    earlier on None e = own on (grace.own_older l c life) e
    earlier on (Some x) e = cc

    graced : (b : Bool) → grace.is_on g now ≡ b → cond b (accept_rows l t c life rs) (Err (refusals.GraceOver (grace.grace_start g) now)) ≡ Ok a →
        IsAccepted g now l t c life rs a
    graced true on e = earlier on (find (grace.is_new_grant l) rs) e
    graced false on e = cc

same_session : (x y : Session) → ◌≡◌ {A = Option Session} (Some x) (Some y) → x ≡ y
same_session x y e = cc

-- a life that is neither below a session's nor its own is above it
above : (a b : ℕ) → nat_lt b a ≡ false → (b == a) ≡ false → a < b
above a b l e = go (nat_lt a b) refl
  where
    go : (x : Bool) → nat_lt a b ≡ x → a < b
    go true q = ltb-true a b q
    go false q =
        let x = ltb-false b a l in
        let y = ltb-false a b q in
        absurd (clash (eq-eqb b a (omega (arith, x, y))) e)

-- What the rule of a request makes: nothing, or this of the turn, with this reply.
data Made (now : Stamp) (t : ServerTurn) (h : Header) (m : Body) : Replied → Type 0 where
  Silent : Made now t h m (sv.silent t)
  Answered : (u : ServerTurn) (b : Body) → Ruled now t h m u b → Made now t h m (sv.replied u b)

module _ (now : Stamp) (t : ServerTurn) (h : Header) where
  told : (m b : Body) → Told t h m b → Made now t h m (sv.replied t b)
  told m b r = Answered t b (Tells m b r)

  no_file : (m : Body) (ino : ℕ) → file_in m ≡ Some ino → names.is_file t.state.stable.names ino ≡ false → Made now t h m (sv.no_file t ino)
  unfolding sv.no_file
  no_file m ino e f = told m _ (IsNoFile m ino e f)

  holds_not : (m : Body) (ino : ℕ) (g : GrantNo) (mode : Mode) → lock_in m ≡ Some (ino, g, mode) → names.is_file t.state.stable.names ino ≡ true →
      sv.holds t h ino g mode ≡ false →
      Made now t h m (sv.not_holder t ino g)
  unfolding sv.not_holder
  holds_not m ino g mode e f q = told m _ (HoldsNot m ino g mode e f q)

  abbrev AcquiredBy : ℕ → Mode → Res locks.Acquired AcquireRefusal → Type 0
  AcquiredBy ino mode x = Made now t h (bd.Acquire ino mode) (sv.acquire_by t ino mode x)

  made_more : (ino : ℕ) (mode : Mode) → names.is_file t.state.stable.names ino ≡ true → Lacks t.state.locks (sender h) ino mode →
      AcquiredBy ino mode (Ok (locks.acquire_more t.state.locks (sender h) (life_in h) ino mode (sv.grants_now t now)))
  unfolding sv.acquire_by locks.acquire_more locks.acquire_granted locks.acquire_queued
  made_more ino mode f k =
      cond_either (λ (a : locks.Acquired). AcquiredBy ino mode (Ok a)) (may_grant t.state.locks (sender h) ino mode (sv.grants_now t now))
      (locks.acquire_granted t.state.locks (sender h) (life_in h) ino mode) (locks.acquire_queued t.state.locks (sender h) (life_in h) ino mode)
      (λ e. let z = and_true (sv.grants_now t now) _ e in
      Answered _ _ (Acquires ino mode _ f k (AtOnce z.0 (not_true _ (and_true _ _ z.1).1) (not_true _ (and_true _ _ z.1).0))))
      (λ e. Answered _ _ (Acquires ino mode _ f k (InTurn e)))

  made_by_row : (ino : ℕ) (mode : Mode) → names.is_file t.state.stable.names ino ≡ true → (o : Option LockRow) → row_of t.state.locks (sender h) ino ≡ o →
      AcquiredBy ino mode (locks.acquire_at t.state.locks (sender h) (life_in h) ino mode (sv.grants_now t now) o)
  unfolding sv.acquire_by locks.acquire_at locks.acquire_new locks.acquire_over locks.acquire_held
  made_by_row ino mode f None e =
      cond_either (AcquiredBy ino mode) (locks.has_place t.state.locks (sender h) ino)
      (Ok (locks.acquire_more t.state.locks (sender h) (life_in h) ino mode (sv.grants_now t now))) (Err TooManyLocks)
      (λ q. made_more ino mode f (record { covered = λ r x. absurd (none_not_some r (sym e ∙ x)); place = λ x. q })) (λ q. told _ _ (HasTooMany ino mode f e q))
  made_by_row ino mode f (Some r) e =
      cond_either (λ (a : locks.Acquired). AcquiredBy ino mode (Ok a)) (covers r.mode mode) (locks.acquire_held t.state.locks r)
      (locks.acquire_more t.state.locks (sender h) (life_in h) ino mode (sv.grants_now t now)) (λ q. told _ _ (IsHeld ino mode r f e q))
      (λ q. made_more ino mode f
      (record {
        covered = λ s x. subst (λ (y : LockRow). covers y.mode mode ≡ false) (some_is (sym e ∙ x)) q;
        place = λ x. absurd (none_not_some r (sym x ∙ e));
      }))

  made_acquire : (ino : ℕ) (mode : Mode) → Made now t h (bd.Acquire ino mode) (sv.acquire t now h ino mode)
  unfolding sv.acquire sv.acquire_lock locks.acquire
  made_acquire ino mode =
      cond_either (Made now t h (bd.Acquire ino mode)) (sv.is_file t ino) (sv.acquire_lock t now h ino mode) (sv.no_file t ino)
      (λ f. made_by_row ino mode f (row_of t.state.locks (sender h) ino) refl) (λ f. no_file _ ino refl f)

  made_released : (ino : ℕ) (g : GrantNo) (to : Mode) → Made now t h (bd.Released ino g to) (sv.released t h ino g to)
  unfolding sv.released sv.released_by locks.released locks.released_at locks.release locks.not_released
  made_released ino g to = by_row (row_of t.state.locks (sender h) ino) refl
    where
      By : locks.Released → Type 0
      By x = Made now t h (bd.Released ino g to) (sv.released_by t x)

      none_some : (r : LockRow) → ◌≡◌ {A = Option LockRow} None (Some r) → ⊥
      none_some r q = cc

      some_is : (x y : LockRow) → ◌≡◌ {A = Option LockRow} (Some x) (Some y) → x ≡ y
      some_is x y e = cc

      by_row : (o : Option LockRow) → row_of t.state.locks (sender h) ino ≡ o → By (locks.released_at t.state.locks (sender h) (life_in h) ino g to o)
      by_row None e = told _ _ (HasNoRow ino g to (λ r f. absurd (none_some r (sym e ∙ f))))
      by_row (Some r) e =
          cond_either By (locks.is_under (life_in h) g r) (locks.release t.state.locks (sender h) ino to) (locks.not_released t.state.locks)
          (λ q. Answered _ _ (Releases ino g to r e q))
          (λ q. told _ _ (HasNoRow ino g to (λ s f. subst (λ (x : LockRow). locks.is_under (life_in h) g x ≡ false) (some_is r s (sym e ∙ f)) q)))

  made_map : (ino : ℕ) (g : GrantNo) (p : PageNo) → Made now t h (bd.Map ino g p) (sv.map t h ino g p)
  unfolding sv.map sv.map_held sv.map_page
  made_map ino g p =
      cond_either A (sv.is_file t ino) (sv.map_held t h ino g p) (sv.no_file t ino)
      (λ f. cond_either A (sv.holds t h ino g modes.S) (sv.map_page t ino p) (sv.not_holder t ino g) (λ q. told _ _ (IsMapped ino g p f q))
      (λ q. holds_not _ ino g modes.S refl f q)) (λ f. no_file _ ino refl f)
    where
      A : Replied → Type 0
      A = Made now t h (bd.Map ino g p)

  made_allocate : (ino : ℕ) (g : GrantNo) (p : PageNo) (k : ℕ) → Made now t h (bd.Allocate ino g p k) (sv.allocate t h ino g p k)
  unfolding sv.allocate sv.allocate_held sv.allocate_pages sv.allocate_by sv.with_extents_told
  made_allocate ino g p k =
      cond_either A (sv.is_file t ino) (sv.allocate_held t h ino g p k) (sv.no_file t ino)
      (λ f. cond_either A (sv.holds t h ino g modes.X) (sv.allocate_pages t ino p k) (sv.not_holder t ino g) (λ q. by f q _ refl)
      (λ q. holds_not _ ino g modes.X refl f q)) (λ f. no_file _ ino refl f)
    where
      A : Replied → Type 0
      A = Made now t h (bd.Allocate ino g p k)

      by : names.is_file t.state.stable.names ino ≡ true → sv.holds t h ino g modes.X ≡ true → (x : Res Extents AllocateRefusal) →
          extents.allocate t.state.stable.extents (sv.file t ino) p k ≡ x → A (sv.allocate_by t ino p k x)
      by f q (Ok x) e = Answered _ _ (Allocates ino g p k x f q e)
      by f q (Err (wants.NoSpace a b)) e = told _ _ (HasNoSpace ino g p k a b f q e)

  made_cut : (ino : ℕ) (g : GrantNo) (p : PageNo) → Made now t h (bd.Cut ino g p) (sv.cut t h ino g p)
  unfolding sv.cut sv.cut_held sv.cut_from
  made_cut ino g p =
      cond_either A (sv.is_file t ino) (sv.cut_held t h ino g p) (sv.no_file t ino)
      (λ f. cond_either A (sv.holds t h ino g modes.X) (sv.cut_from t ino p) (sv.not_holder t ino g) (λ q. Answered _ _ (Cuts ino g p f q))
      (λ q. holds_not _ ino g modes.X refl f q)) (λ f. no_file _ ino refl f)
    where
      A : Replied → Type 0
      A = Made now t h (bd.Cut ino g p)

  -- Names.
  abbrev ns : names.Names
  ns = t.state.stable.names

  abbrev Named : NameOp → Replied → Type 0
  Named op = Made now t h (bd.Name op)

  refused_name : (op : NameOp) (r : EntryRefusal) → NameRefused ns op r → Named op (sv.name_refused t r)
  unfolding sv.name_refused
  refused_name op r e = told _ _ (IsRefused op r e)

  made_changed : (op : NameOp) (x : Res names.Changed EntryRefusal) → ((d : names.Changed) → x ≡ Ok d →
      Ruled now t h (bd.Name op) (with_names d.names t) (bd.Named (replies.Ino d.ino))) →
      ((r : EntryRefusal) → x ≡ Err r → NameRefused ns op r) → Named op (sv.name_changed t x)
  unfolding sv.name_changed
  made_changed op (Ok d) f g = Answered _ _ (f d refl)
  made_changed op (Err r) f g = refused_name op r (g r refl)

  made_lookup : (dir : ℕ) (x : List ℕ) (r : Res ℕ EntryRefusal) → names.lookup ns dir x ≡ r → Named (ops.Lookup dir x) (sv.name_found t r)
  unfolding sv.name_found
  made_lookup dir x (Ok ino) e = told _ _ (IsNamed dir x ino e)
  made_lookup dir x (Err r) e = refused_name _ r (NoLookup dir x r e)

  made_list : (dir : ℕ) (after : List ℕ) (r : Res (List NameRow) EntryRefusal) → names.list ns dir after ≡ r → Named (ops.List dir after) (sv.names_listed t r)
  unfolding sv.names_listed
  made_list dir after (Ok rows) e = told _ _ (AreListed dir after rows e)
  made_list dir after (Err r) e = refused_name _ r (NoList dir after r e)

  made_removed : (dir : ℕ) (x : List ℕ) (g : GrantNo) (ino : ℕ) → names.lookup ns dir x ≡ Ok ino → names.is_file ns ino ≡ true →
      sv.holds t h ino g modes.X ≡ true →
      (r : Res names.Changed EntryRefusal) → names.remove ns dir x ≡ r → Named (ops.Remove dir x g) (sv.remove_by t r)
  unfolding sv.remove_by
  made_removed dir x g ino l f q (Ok d) e = Answered _ _ (RemovesFile dir x g ino d l f q e (same_ino d.ino ino (sym (removed_ino ns dir x d e) ∙ l)))
  made_removed dir x g ino l f q (Err r) e = refused_name _ r (NoRemove dir x g ino r l e)

  made_remove : (dir : ℕ) (x : List ℕ) (g : GrantNo) (r : Res ℕ EntryRefusal) → names.lookup ns dir x ≡ r →
      Named (ops.Remove dir x g) (sv.remove_found t h dir x g r)
  unfolding sv.remove_found sv.remove_ino sv.remove_file sv.remove_dir sv.not_holder
  made_remove dir x g (Err r) l = refused_name _ r (NoEntry dir x g r l)
  made_remove dir x g (Ok ino) l =
      cond_either A (sv.is_file t ino) (sv.remove_file t h dir x g ino) (sv.remove_dir t dir x g)
      (λ f. cond_either A (sv.holds t h ino g modes.X) (sv.remove_by t (names.remove ns dir x)) (sv.not_holder t ino g)
      (λ q. made_removed dir x g ino l f q _ refl) (λ q. told _ _ (RemovesNot dir x g ino l f q)))
      (λ f. cond_either A (g.0 == 0) (sv.name_changed t (names.remove ns dir x)) (sv.name_refused t refused.IsDir)
      (λ z. made_changed _ _ (λ d e. RemovesDir dir x g ino d l f z e (same_ino d.ino ino (sym (removed_ino ns dir x d e) ∙ l)))
      (λ r e. NoRemove dir x g ino r l e))
      (λ z. refused_name _ _ (IsFolder dir x g ino l f z)))
    where
      A : Replied → Type 0
      A = Named (ops.Remove dir x g)

  made_name : (op : NameOp) → Named op (sv.name t h op)
  unfolding sv.name sv.remove
  made_name (ops.Lookup dir x) = made_lookup dir x _ refl
  made_name (ops.Create dir x) = made_changed _ _ (λ d e. Creates dir x d e) (λ r e. NoCreate dir x r e)
  made_name (ops.Mkdir dir x) = made_changed _ _ (λ d e. MakesDir dir x d e) (λ r e. NoMkdir dir x r e)
  made_name (ops.Remove dir x g) = made_remove dir x g _ refl
  made_name (ops.Rename dir x dir2 x2) = made_changed _ _ (λ d e. Renames dir x dir2 x2 d e) (λ r e. NoRename dir x dir2 x2 r e)
  made_name (ops.List dir after) = made_list dir after _ refl

  made : (m : Body) → Made now t h m (sv.rule t now h m)
  unfolding sv.rule sv.keep_alive
  made bd.KeepAlive = told _ _ IsAlive
  made (bd.Acquire ino mode) = made_acquire ino mode
  made (bd.Released ino g to) = made_released ino g to
  made (bd.Map ino g p) = made_map ino g p
  made (bd.Allocate ino g p k) = made_allocate ino g p k
  made (bd.Cut ino g p) = made_cut ino g p
  made (bd.Name op) = made_name op
  made m = Silent

-- The rules for a message, right after the thefts: they leave all as it was, or make one change.
module _ (clients : ℕ → Bool) (n : ServerState) (now : Stamp) (m : Message) (t : ServerTurn) (came : CameOf clients n now (Control m) t m) where
  abbrev h : Header
  h = m.header

  -- nothing changes, or this one thing
  abbrev pub Once : ServerTurn → Type 0
  Once u = (u ≡ t) ⊎ EditOf clients n now (Control m) AtInput t u

  refuses : (b : Body) → RefusedOf clients n now (Control m) t m b → Once (reply t h b)
  refuses b r = inr (Refuses t m b r)

  -- A client that isn't a suspect.
  module _ (free : authority.may_ack t.state.authority (sender h) ≡ true) where
    heard : HeardOf clients n now (Control m) t m
    heard = record { came = came; free = free }

    -- Greeting.
    module _ (asks : m.body ≡ bd.Hello) (off : grace.is_on t.state.grace now ≡ false) where
      greeting : GreetedOf clients n now (Control m) t m
      greeting = record { heard = heard; asks = asks; off = off }

      -- what becomes of the greeting
      abbrev By : sessions.Greeted → Type 0
      By g = Once (sv.greet_by t now h g)

      by_session : (o : Option Session) → sessions.session_of t.state.sessions (sender h) ≡ o →
          By (sessions.hello_at t.state.sessions (sender h) (life_in h) (locks.has_rows t.state.locks (sender h)) o)
      unfolding sv.greet_by sv.greet_as sessions.hello_at sessions.hello_by sessions.hello_live sessions.hello_again sessions.hello_higher
          sessions.hello_ended sessions.begin_session sessions.greeted
      by_session None e = inr (Begins t m greeting (λ s f. absurd (none_some s (sym e ∙ f))))
        where
          none_some : (s : Session) → ◌≡◌ {A = Option Session} None (Some s) → ⊥
          none_some s q = cc
      by_session (Some s) e =
          cond_either By (sessions.is_live s) (sessions.hello_live t.state.sessions (sender h) (life_in h) rows s)
          (sessions.hello_ended t.state.sessions (sender h) (life_in h) s)
          (λ a. cond_either By (nat_lt h.life s.life.0) (sessions.greeted hellos.Old t.state.sessions)
          (sessions.hello_again t.state.sessions (sender h) (life_in h) rows s) (λ b. inl refl)
          (λ b. cond_either By (h.life == s.life.0) (sessions.greeted hellos.Welcome t.state.sessions)
          (sessions.hello_higher t.state.sessions (sender h) (life_in h) rows)
          (λ d. inr (Welcomes t m s greeting e a (sym (eqb-true h.life s.life.0 d))))
          (λ d. cond_either By rows (sessions.greeted hellos.Wait t.state.sessions) (sessions.begin_session hellos.Replaced (sender h)
          (life_in h) t.state.sessions)
          (λ f. inr (PutsOff t m s greeting e a (above s.life.0 h.life b d) f))
          (λ f. inr (Replaces t m s greeting e a (above s.life.0 h.life b d) f)))))
          (λ a. cond_either By (sessions.is_past (life_in h) s) (sessions.greeted hellos.Old t.state.sessions)
          (sessions.begin_session hellos.Welcome (sender h) (life_in h) t.state.sessions) (λ b. inl refl)
          (λ b. inr (Begins t m greeting (λ x f. let q = same_session s x (sym e ∙ f) in
          (subst (λ (y : Session). sessions.is_live y ≡ false) q a, subst (λ (y : Session). y.life.0 < h.life) q (leb-false h.life s.life.0 b))))))
        where
          rows : Bool
          rows = locks.has_rows t.state.locks (sender h)

    walk_of_hello : m.body ≡ bd.Hello → Once (sv.hello t now h)
    unfolding sv.hello sv.greet sv.refuse_in_grace sessions.hello
    walk_of_hello b =
        cond_either Once (sv.in_grace t now) (sv.refuse_in_grace t h) (sv.greet t now h)
        (λ e. refuses _ (GreetsInGrace heard b e)) (λ e. by_session b e (sessions.session_of t.state.sessions (sender h)) refl)

    -- Seen demands.
    walk_of_seen : (ino : ℕ) (g : GrantNo) → m.body ≡ bd.DemandSeen ino g → Once (sv.demand_seen t h ino g)
    unfolding sv.demand_seen sv.observe_demand
    walk_of_seen ino g b = cond_either Once (sv.is_served t h) (sv.observe_demand t h ino g) t (λ e. inr (Sees t m ino g heard b e)) (λ e. inl refl)

    -- Requests of this epoch.
    module _ (request : is_request m.body ≡ true) (epoch : h.epoch ≡ t.state.stable.epoch.0) where
      asked : AskedOf clients n now (Control m) t m
      asked = record { heard = heard; request = request; epoch = epoch }

      repeats : (b : Body) → sv.take t h ≡ takes.Again b → Once (reply t h b)
      repeats b e =
          let z = found_for t.state.sessions (sender h) (life_in h) (sv.epoch_in h) h.number (takes.Again b) (λ x. x ≡ Live h.number (Some b)) e
          (λ r. cc r) (λ r. cc r) (λ r. cc r) (λ x r. again_state b h.number x r) in
          inr (Repeats t m z.session b asked e z.is z.of_life z.state)

      -- Reassertion.
      walk_of_again : (tk : Taken Body) → sv.take t h ≡ tk → Once (sv.reassert_again t h tk)
      unfolding sv.reassert_again
      walk_of_again (takes.Again b) e = repeats b e
      walk_of_again takes.OtherEpoch e = inl refl
      walk_of_again takes.NoSession e = inl refl
      walk_of_again takes.Stale e = inl refl
      walk_of_again takes.Fresh e = inl refl
      walk_of_again takes.OutOfOrder e = inl refl

      walk_of_accept : (rs : List (ℕ × GrantNo × Mode)) → ReassertedOf clients n now (Control m) t m rs → (x : Res grace.Accepted AcceptRefusal) →
          accept t.state.grace now (sender h) (life_in h) rs t.state.locks t.state.sessions ≡ x → Once (sv.reassert_by t h x)
      unfolding sv.reassert_by
      walk_of_accept rs r (Err q) e = refuses _ (IsRefusedRows rs q r e)
      walk_of_accept rs r (Ok a) e =
          let z = accepted_is t.state.grace now t.state.locks t.state.sessions (sender h) (life_in h) rs a e in
          subst (λ (a : grace.Accepted). Once (reply (with_sessions a.sessions (with_locks a.locks t)) h bd.Reasserted)) (sym z.is)
          (inr (Reasserts t m rs r z.on z.free))

      walk_of_reassert : (rs : List (ℕ × GrantNo × Mode)) → m.body ≡ bd.Reassert rs → Once (sv.reassert t now h rs)
      unfolding sv.reassert sv.reassert_new
      walk_of_reassert rs b =
          cond_either Once (sessions.knows t.state.sessions (sender h) (life_in h)) (sv.reassert_again t h (sv.take t h)) (sv.reassert_new t now h rs)
          (λ e. walk_of_again (sv.take t h) refl) (λ e. walk_of_accept rs (record { asked = asked; asks = b; new = e }) _ refl)

      -- The next request of a session is served.
      served : sv.take t h ≡ takes.Fresh → ServedOf clients n now (Control m) t m
      served e =
          let z = found_for t.state.sessions (sender h) (life_in h) (sv.epoch_in h) h.number takes.Fresh
          (λ x. sessions.take_state x h.number ≡ takes.Fresh) e (λ r. cc r) (λ r. cc r) (λ r. cc r) (λ x r. r) in
          let f = fresh_state h.number z.session.state z.state in
          record {
            asked = asked;
            fresh = e;
            in_life = record {
              session = z.session;
              is = z.is;
              of_life = z.of_life;
              last = f.last;
              old = f.reply;
              state = f.is;
            };
            next = f.next;
          }

      walk_of_made : ServedOf clients n now (Control m) t m → (a : Replied) → sv.rule t now h m.body ≡ a → Made now t h m.body a → Once (sv.serve h a)
      unfolding sv.serve sv.keep
      walk_of_made s a e Silent = inl refl
      walk_of_made s a e (Answered u b r) = inr (Serves t m u b s e r)

      walk_of_serve : sv.take t h ≡ takes.Fresh → Once (sv.serve h (sv.rule t now h m.body))
      walk_of_serve e = walk_of_made (served e) (sv.rule t now h m.body) refl (made now t h m.body)

      walk_of_taken : (tk : Taken Body) → sv.take t h ≡ tk → Once (sv.request_by t now h m.body tk)
      unfolding sv.request_by sv.refuse_epoch
      walk_of_taken takes.OtherEpoch e = refuses _ (OfOtherEpoch heard request)
      walk_of_taken takes.NoSession e = refuses _ (HasNoSession asked e)
      walk_of_taken takes.Stale e = inl refl
      walk_of_taken (takes.Again b) e = repeats b e
      walk_of_taken takes.OutOfOrder e = inl refl
      walk_of_taken takes.Fresh e = walk_of_serve e

      walk_of_request : (b : Body) → m.body ≡ b → Once (sv.request t now h b)
      unfolding sv.request
      walk_of_request (bd.Reassert rs) e = walk_of_reassert rs e
      walk_of_request b e = subst (λ b. Once (sv.request_by t now h b (sv.take t h))) e (walk_of_taken (sv.take t h) refl)

    walk_of_of_epoch : (b : Body) → m.body ≡ b → is_request m.body ≡ true → Once (sv.of_epoch t now h b)
    unfolding sv.of_epoch sv.refuse_epoch
    walk_of_of_epoch b e r =
        cond_either Once (h.epoch == t.state.stable.epoch.0) (sv.request t now h b) (sv.refuse_epoch t h)
        (λ q. walk_of_request r (eqb-true _ _ q) b e) (λ q. refuses _ (OfOtherEpoch heard r))

    walk_of_by_body : (b : Body) → m.body ≡ b → Once (sv.by_body t now h b)
    unfolding sv.by_body
    walk_of_by_body bd.Hello e = walk_of_hello e
    walk_of_by_body (bd.DemandSeen i g) e = walk_of_seen i g e
    walk_of_by_body b e = walk_of_of_epoch b e (ap is_request e)

  walk_of_refuse : (start : Stamp) (b : Body) → m.body ≡ b → authority.started t.state.authority (sender h) ≡ Some start → Once (sv.refuse_suspect t h start b)
  unfolding sv.refuse_suspect
  walk_of_refuse start (bd.DemandSeen i g) e s = inl refl
  walk_of_refuse start b e s = refuses _ (IsSuspect start came (ap is_request e) s)

  walk_of_by_suspicion : (x : Option Stamp) → authority.started t.state.authority (sender h) ≡ x → Once (sv.by_suspicion t now h m.body x)
  unfolding sv.by_suspicion
  walk_of_by_suspicion None e = walk_of_by_body (none_runs (authority.suspect_of t.state.authority (sender h)) e) m.body refl
    where
      none_runs : (o : Option Suspect) → option_map authority.start_of o ≡ None → not (is_some o) ≡ true
      none_runs None e = refl
      none_runs (Some s) e = cc
  walk_of_by_suspicion (Some start) e = walk_of_refuse start m.body refl e

  -- a message of a client
  pub received_once : Once (sv.receive_from t now h m.body)
  unfolding sv.receive_from
  received_once = walk_of_by_suspicion _ refl

-- What the input of a step does, right after the thefts: nothing, or one change.
pub input_once_of : (clients : ℕ → Bool) (n : ServerState) (now : Stamp) (i : ServerInput) →
    (take_of clients (thefts (turn n []) now) now i ≡ thefts (turn n []) now) ⊎
    EditOf clients n now i AtInput (thefts (turn n []) now) (take_of clients (thefts (turn n []) now) now i)
input_once_of clients n now Tick = inl refl
input_once_of clients n now (Control m) =
    cond_either (λ u. (u ≡ thefts (turn n []) now) ⊎ EditOf clients n now (Control m) AtInput (thefts (turn n []) now) u)
    (hears clients (thefts (turn n []) now).state m.header) _ (thefts (turn n []) now)
    (λ e. let z = and_true (m.header.to == server_node (thefts (turn n []) now).state.id) _ e in
    received_once clients n now m (thefts (turn n []) now) (record {
      is = refl;
      first = refl;
      begun = thefts_begun n now;
      from = z.1;
      there = eqb-true _ _ z.0;
    })) (λ e. inl refl)

-- the same in the first two forms
pub input_once : (n : ServerState) (now : Stamp) (i : ServerInput) →
    (sv.take_input (thefts (turn n []) now) now i ≡ thefts (turn n []) now) ⊎ Edit n now i AtInput (thefts (turn n []) now)
    (sv.take_input (thefts (turn n []) now) now i)
unfolding sv.take_input sv.receive
input_once n now Tick = inl refl
input_once n now (Control m) = input_once_of sv.is_client_node n now (Control m)
