-- The requests of a client at a server are lists of changes; and all passes together.
use Rattle.st_lemmas.proofs.Words
use Words.{◌≡◌, ℕ, Bool, true, false, List, [], ◌∷◌, Option, Some, None, refl, sym, ap, ◌∙◌, subst, ◌≤◌, inl, inr, arith, if◌then◌else◌, is_some, GrantNo}
use Words.{PageNo, Stamp, Mode, NameAsk, Ask, Body, HeldLock, KnownExtent, Operation, Release, Request}
use Words.names
use Words.asks
use Words.bodies
use Words.Keys.{page_no}
use Words.ClientLease as lease
use Words.ClientLocks as locks
use Words.ClientPages as pages
use Words.ClientPages.{Store}
use Words.ClientPasses as cp
use Words.ClientState.{ClientSession, Turn, with_session, with_store, with_operations, is_serving, reasserts, wait_of, file_of, send}
use Words.Lookups.{or_false, some_is}
use Words.Truth.{exclusive_covers}
use Rattle.st_base.specs.Mode.{covers}
use Rattle.st_laws_steps.specs.Client.Client as client
use Rattle.st_laws_steps.specs.Client.Client.{map_asked, map_in}
use Rattle.st_laws_steps.specs.Client.Session.{AsksNothing, AsksAgain, AsksNew, CutsForgotten, HasExclusive, HasLockUnder, IsAsked, LocksStay, MayAsk}
use Rattle.st_laws_steps.specs.Client.Session.{cuts_from}
use Rattle.st_laws_steps.proofs.Client.Changes.{alike_stay}
use Rattle.st_laws_steps.proofs.Client.Passing.{changes, Says, Operates, Follows, Forgets, Changes, Still, KeepsOrAsks, OnlyAsks, OnlyKeeps, Part, SendsRequest}
use Rattle.st_laws_steps.proofs.Client.Passing.{one, both, if_changes, wider}
use Rattle.st_laws_steps.proofs.Client.Working.{operations_only_keep, reductions_only_keep, writes_only_keep, greeting_only_keep}

-- what an operation asks: where a page lies, only if nothing is known of it; and a file is cut if it is idle
pub record Wants (s : ClientSession) (st : Store) (w : cp.Wanted) : Type 0 where
  pub asks : (x : ℕ × PageNo) → map_in w.body ≡ Some x → pages.known_of st.extents x.0 x.1 ≡ None
  pub new : reasserts w.body ≡ false
  pub may : MayAsk s (cp.file_cut w.cut) w.body
  pub cuts : (c : ℕ × PageNo) → w.cut ≡ Some c → (pages.is_idle st c.0 ≡ true) × (map_in w.body ≡ None) × (cuts_from w.body ≡ Some c.1)

abbrev pub WantsAt : ClientSession → Store → Option cp.Wanted → Type 0
WantsAt s st None = Unit {0}
WantsAt s st (Some w) = Wants s st w

abbrev pub AskingAt : ClientSession → Store → Option cp.Asking → Type 0
AskingAt s st None = Unit {0}
AskingAt s st (Some a) = Wants s st a.wanted

no_map : (s : ClientSession) (st : Store) (body : Body) (own : Bool) → MayAsk s None body → reasserts body ≡ false → map_in body ≡ None →
    Wants s st (record { body = body; own = own; cut = None })
no_map s st body own i n e = record { new = n; may = i; asks = λ x q. absurd (no x (sym e ∙ q)); cuts = λ c q. absurd (none c q) }
  where
    no : (x : ℕ × PageNo) → ◌≡◌ {A = Option (ℕ × PageNo)} None (Some x) → ⊥
    no x q = cc

    none : (c : ℕ × PageNo) → ◌≡◌ {A = Option (ℕ × PageNo)} None (Some c) → ⊥
    none c q = cc

if_wants : (s : ClientSession) (st : Store) (b : Bool) (u v : Option cp.Wanted) → (b ≡ true → WantsAt s st u) → (b ≡ false → WantsAt s st v) →
    WantsAt s st (if b then u else v)
if_wants s st true u v f g = f refl
if_wants s st false u v f g = g refl

none_known : (o : Option KnownExtent) → is_some o ≡ false → o ≡ None
none_known None e = refl
none_known (Some e) q = cc

wants_lock : (t : Turn) (s : ClientSession) (now : Stamp) (ino : ℕ) (mode : Mode) → WantsAt s t.here.store (cp.want_lock t s now ino mode)
unfolding cp.want_lock
wants_lock t s now ino mode = if_wants s t.here.store (cp.is_wait_old t.config now mode (wait_of s.waits ino)) _ None
    (λ e. no_map s t.here.store (bodies.Acquire ino mode) false tt refl refl) (λ e. tt)

wants_map : (t : Turn) (s : ClientSession) (ino : ℕ) (g : GrantNo) (p : PageNo) → HasLockUnder s.locks ino g → WantsAt s t.here.store (cp.want_map t ino g p)
unfolding cp.want_map
wants_map t s ino g p l = if_wants s t.here.store (cp.is_at_hand t ino p) None _ (λ e. tt)
    (λ e. record { new = refl; may = l; asks = λ x q. known e x q; cuts = λ c q. absurd (none c q) })
  where
    none : (c : ℕ × PageNo) → ◌≡◌ {A = Option (ℕ × PageNo)} None (Some c) → ⊥
    none c q = cc

    pair_is : (x : ℕ × PageNo) → ◌≡◌ {A = Option (ℕ × PageNo)} (Some (ino, p)) (Some x) → (ino, p) ≡ x
    pair_is x q = cc

    known : cp.is_at_hand t ino p ≡ false → (x : ℕ × PageNo) → ◌≡◌ {A = Option (ℕ × PageNo)} (Some (ino, p)) (Some x) →
        pages.known_of t.here.store.extents x.0 x.1 ≡ None
    known e x q =
        subst (λ (z : ℕ × PageNo). pages.known_of t.here.store.extents z.0 z.1 ≡ None) (pair_is x q)
        (none_known (pages.known_of t.here.store.extents ino p)
        (or_false (is_some (pages.cached t.here.store.pages ino p)) (pages.is_known t.here.store.extents ino p) e).1)

wants_block : (t : Turn) (s : ClientSession) (ino : ℕ) (g : GrantNo) (p : PageNo) → HasLockUnder s.locks ino g →
    WantsAt s t.here.store (cp.want_block t ino g p)
unfolding cp.want_block
wants_block t s ino g p l = if_wants s t.here.store (pages.is_mapped t.here.store.extents ino p) None _ (λ e. tt)
    (λ e. no_map s t.here.store (bodies.Allocate ino g p 1) false l refl refl)

wants_cut : (t : Turn) (s : ClientSession) (ino : ℕ) (body : Body) (p : PageNo) → MayAsk s (Some ino) body → reasserts body ≡ false → map_in body ≡ None →
    cuts_from body ≡ Some p → WantsAt s t.here.store (cp.want_cut t ino body p)
unfolding cp.want_cut
wants_cut t s ino body p i n m k = if_wants s t.here.store (pages.is_idle t.here.store ino) _ None
    (λ e. record {
      new = n;
      may = i;
      asks = λ x q. absurd (no x (sym m ∙ q));
      cuts =
          λ c q. (ap (pages.is_idle t.here.store) (sym (ino_is c q)) ∙ e, m, k ∙ ap (λ (z : ℕ × PageNo). Some z.1) (pair_is c q));
    }) (λ e. tt)
  where
    no : (x : ℕ × PageNo) → ◌≡◌ {A = Option (ℕ × PageNo)} None (Some x) → ⊥
    no x q = cc

    pair_is : (c : ℕ × PageNo) → ◌≡◌ {A = Option (ℕ × PageNo)} (Some (ino, p)) (Some c) → (ino, p) ≡ c
    pair_is c q = cc

    ino_is : (c : ℕ × PageNo) → ◌≡◌ {A = Option (ℕ × PageNo)} (Some (ino, p)) (Some c) → ino ≡ c.0
    ino_is c q = ap (λ (z : ℕ × PageNo). z.0) (pair_is c q)

may_name : (s : ClientSession) (cutting : Option ℕ) (a : NameAsk) (g : GrantNo) → (1 ≤ g.0 → (ino : ℕ) × (cutting ≡ Some ino) × HasExclusive s ino g) →
    MayAsk s cutting (bodies.Name (cp.name_op a g))
may_name s o (names.Remove dir x ino) g f = f
may_name s o a g f = tt

wants_held : (t : Turn) (s : ClientSession) (ask : Ask) (ino : ℕ) (l : HeldLock) → locks.lock_of s.locks ino ≡ Some l → covers l.mode (cp.need ask) ≡ true →
    WantsAt s t.here.store (cp.want_held t ask ino l.g)
unfolding cp.want_held
wants_held t s (asks.Read f p) ino l e m = wants_map t s ino l.g p (l, e, refl)
wants_held t s (asks.Write f p bytes) ino l e m = wants_block t s ino l.g p (l, e, refl)
wants_held t s (asks.Patch f p at bytes) ino l e m = wants_block t s ino l.g p (l, e, refl)
wants_held t s (asks.Cut f p) ino l e m = wants_cut t s ino (bodies.Cut ino l.g p) p refl refl refl refl
wants_held t s (asks.Name server ask) ino l e m =
    wants_cut t s ino (bodies.Name (cp.name_op ask l.g)) (page_no 0)
    (may_name s (Some ino) ask l.g (λ z. (ino, refl, record { lock = l; is = e; under = refl; exclusive = exclusive_covers l.mode m }))) refl refl refl
wants_held t s (asks.Sync f) ino l e m = tt

wants_on : (t : Turn) (s : ClientSession) (now : Stamp) (ask : Ask) (ino : ℕ) → WantsAt s t.here.store (cp.want_on t s now ask ino)
unfolding cp.want_on cp.want_by cp.want_under
wants_on t s now ask ino = go (locks.lock_of s.locks ino) refl
  where
    go : (o : Option HeldLock) → locks.lock_of s.locks ino ≡ o → WantsAt s t.here.store (cp.want_by t s now ask ino o)
    go None e = wants_lock t s now ino (cp.need ask)
    go (Some l) e = if_wants s t.here.store (covers l.mode (cp.need ask)) _ _ (λ m. wants_held t s ask ino l e m) (λ m. wants_lock t s now ino (cp.need ask))

wants_name : (t : Turn) (s : ClientSession) (ask : Ask) → WantsAt s t.here.store (cp.want_name ask)
unfolding cp.want_name
wants_name t s (asks.Name server ask) = no_map s t.here.store (bodies.Name (cp.name_op ask locks.no_grant)) true
    (may_name s None ask locks.no_grant (λ l. absurd (omega (arith, l)))) refl refl
wants_name t s ask = tt

wants_at : (t : Turn) (s : ClientSession) (now : Stamp) (ask : Ask) (o : Option ℕ) → WantsAt s t.here.store (cp.want_at t s now ask o)
unfolding cp.want_at
wants_at t s now ask None = wants_name t s ask
wants_at t s now ask (Some ino) = wants_on t s now ask ino

pub wants_what_it_needs : (t : Turn) (s : ClientSession) (now : Stamp) (ask : Ask) → WantsAt s t.here.store (cp.want t s now ask)
unfolding cp.want
wants_what_it_needs t s now (asks.Sync f) = tt
wants_what_it_needs t s now ask = wants_at t s now ask (file_of ask)

wants_asked : (t : Turn) (s : ClientSession) (now : Stamp) (o : Operation) → WantsAt s t.here.store (cp.asked_by t s now o)
unfolding cp.asked_by
wants_asked t s now o = if_wants s t.here.store (cp.may_ask t s o) _ None (λ e. wants_what_it_needs t s now o.ask) (λ e. tt)

wants_first : (t : Turn) (s : ClientSession) (now : Stamp) (os : List Operation) → AskingAt s t.here.store (cp.first_asking t s now os)
unfolding cp.first_asking cp.asks_or
wants_first t s now [] = tt
wants_first t s now (o ∷ os) = go (cp.asked_by t s now o) (wants_asked t s now o) (cp.first_asking t s now os) (wants_first t s now os)
  where
    go : (w : Option cp.Wanted) → WantsAt s t.here.store w → (a : Option cp.Asking) → AskingAt s t.here.store a → AskingAt s t.here.store (cp.asks_or o os a w)
    go None w None a = tt
    go None w (Some x) a = record { new = a.new; may = a.may; asks = a.asks; cuts = a.cuts }
    go (Some x) w a k = record { new = w.new; may = w.may; asks = w.asks; cuts = w.cuts }

module _ (now : Stamp) where
  abbrev C : Turn → Turn → Type 0
  C t u = Changes [] OnlyAsks now t u

  none_some : {A B : Type 0} (x : A) → ◌≡◌ {A = Option A} None (Some x) → B
  none_some x q = cc

  -- a request is sent, by a session that is as this one except for what waits to be sent
  changes_by_ask : (t : Turn) (s r : ClientSession) (body : Body) (cutting : Option ℕ) → t.here.session ≡ Some s → AsksNothing t.here.store.extents s r →
      CutsForgotten t.here.store body cutting → IsAsked r cutting body →
      ((x : ℕ × PageNo) → map_in body ≡ Some x → pages.known_of t.here.store.extents x.0 x.1 ≡ None) → C t (cp.ask t r now body cutting)
  unfolding cp.ask send Rattle.st_rules.specs.ClientState.asking
  changes_by_ask t s r body cutting se a c i f =
      both (one
      (Follows t s (cp.asking_session r now body cutting) se
      (record { how = AsksNew s r now body cutting a c i; date = let z = ap (λ (x : Stamp). x.0) a.date in omega (arith, z); asks = λ x e. inr (f x e) })
      (record { may = refl })))
      (one (Says (with_session (cp.asking_session r now body cutting) t) _ tt
      (SendsRequest (cp.asking_session r now body cutting) (record { number = r.requests.next; body = body; sent = now }) refl refl)))

  -- a request that neither cuts a file nor asks where a page lies
  changes_by_plain : (t : Turn) (s r : ClientSession) (body : Body) → t.here.session ≡ Some s → AsksNothing t.here.store.extents s r → IsAsked r None body →
      map_in body ≡ None → C t (cp.ask t r now body None)
  changes_by_plain t s r body se a i m = changes_by_ask t s r body None se a (λ ino p q c. none_some ino q) i (λ x q. none_some x (sym m ∙ q))

  changes_by_alive : (t : Turn) (s : ClientSession) → t.here.session ≡ Some s → s.requests.asked ≡ None → s.due ≡ false → C t (cp.keep_alive t s now)
  unfolding cp.keep_alive
  changes_by_alive t s se n d = if_changes (lease.is_renewing (lease.phase_of t.config s.lease now)) t _ _
      (λ e. changes_by_plain t s s bodies.KeepAlive se (alike_stay t.here.store.extents s) (record { free = n; due = sym d; may = tt }) refl) (λ e. Still t)

  -- the request of an operation
  changes_by_ask_for : (t : Turn) (s : ClientSession) (a : cp.Asking) → t.here.session ≡ Some s → s.requests.asked ≡ None → s.due ≡ false →
      Wants s t.here.store a.wanted → C t (cp.ask_for t s now a)
  unfolding cp.ask_for
  changes_by_ask_for t s a se n d w = both (one (Operates t a.operations)) (go a.wanted.cut refl)
    where
      u : Turn
      u = with_operations a.operations t

      asked : (c : Option (ℕ × PageNo)) → a.wanted.cut ≡ c → IsAsked s (cp.file_cut c) a.wanted.body
      asked c e = record { free = n; due = w.new ∙ sym d; may = subst (λ z. MayAsk s (cp.file_cut z) a.wanted.body) e w.may }

      go : (c : Option (ℕ × PageNo)) → a.wanted.cut ≡ c → C u (cp.ask (with_store (cp.cut_store c t.here.store) u) s now a.wanted.body (cp.file_cut c))
      go None e = changes_by_ask u s s a.wanted.body None se (alike_stay t.here.store.extents s) (λ ino p q k. none_some ino q) (asked None e) w.asks
      go (Some c) e =
          both (one (Forgets u c.0 c.1 (w.cuts c e).0))
          (changes_by_ask (with_store (pages.forget_from t.here.store c.0 c.1) u) s s a.wanted.body (Some c.0) se (alike_stay _ s)
          (λ ino p q k. let i : c.0 ≡ ino = some_is q in let l : c.1 ≡ p = some_is (sym (w.cuts c e).2 ∙ k) in
          record {
            store = t.here.store;
            idle = ap (pages.is_idle t.here.store) (sym i) ∙ (w.cuts c e).0;
            is =
                ap (λ j. pages.forget_from t.here.store j c.1) i ∙ ap (λ r. pages.forget_from t.here.store ino r) l;
          }) (asked (Some c) e)
          (λ x q. none_some x (sym (w.cuts c e).1 ∙ q)))

  -- the request of an operation, or a keep-alive
  pub changes_by_ask_for_or : (t : Turn) (s : ClientSession) (a : Option cp.Asking) → t.here.session ≡ Some s → s.requests.asked ≡ None → s.due ≡ false →
      AskingAt s t.here.store a → C t (cp.ask_for_or t s now a)
  unfolding cp.ask_for_or
  changes_by_ask_for_or t s None se n d w = changes_by_alive t s se n d
  changes_by_ask_for_or t s (Some a) se n d w = changes_by_ask_for t s a se n d w

  changes_by_ask_new : (t : Turn) (s : ClientSession) → t.here.session ≡ Some s → s.requests.asked ≡ None → C t (cp.ask_new t s now)
  unfolding cp.ask_new cp.reassert cp.ask_by cp.ask_release cp.ask_next
  changes_by_ask_new t s se n = if_changes s.due t _ _
      (λ d. changes_by_plain t s s _ se (alike_stay t.here.store.extents s) (record { free = n; due = sym d; may = tt }) refl) (λ d. by d s.releases)
    where
      by : s.due ≡ false → (rs : List Release) → C t (cp.ask_by t s now rs)
      by d [] = if_changes (is_serving t.config s now) t _ _ (λ e. changes_by_ask_for_or t s (cp.first_asking t s now t.operations) se n d (wants_first t s now t.operations))
          (λ e. changes_by_alive t s se n d)
      by d (r ∷ rs) = changes_by_plain t s (record s { releases = rs }) _ se
          (record { epoch = refl; requests = refl; cutting = refl; due = refl; date = refl; locks = LocksStay s.locks })
          (record { free = n; due = sym d; may = tt }) refl

  pub requests_keep_or_ask : (tick : Bool) (t : Turn) → C t (cp.requests now tick t)
  unfolding cp.requests cp.requests_by cp.requests_under cp.requests_at cp.repeat cp.ask_again send
  requests_keep_or_ask tick t = go t.here.session refl
    where
      again : (s : ClientSession) (q : Request) → t.here.session ≡ Some s → s.requests.asked ≡ Some q → C t (cp.repeat t s now tick q)
      again s q se e =
          if_changes (cp.is_old t.config now tick q) t _ _
          (λ b. both
          (one (Follows t s (cp.again_session s now q) se (record { how = AsksAgain s now q e; date = omega arith; asks = λ x i. inl (ap map_asked e ∙ i) })
          (record { may = refl })))
          (one (Says (with_session (cp.again_session s now q) t) _ tt (SendsRequest (cp.again_session s now q) (record q { sent = now }) refl refl))))
          (λ b. Still t)

      at : (s : ClientSession) (q : Option Request) → t.here.session ≡ Some s → s.requests.asked ≡ q → C t (cp.requests_at t s now tick q)
      at s None se e = changes_by_ask_new t s se e
      at s (Some q) se e = again s q se e

      go : (x : Option ClientSession) → t.here.session ≡ x → C t (cp.requests_by t now tick x)
      go None e = Still t
      go (Some s) e = if_changes s.lease.condemned t t _ (λ b. Still t) (λ b. at s s.requests.asked e refl)

  -- all passes those after the operations, if no sync is answered hard
  pub rest_keep_or_ask : (tick : Bool) (t : Turn) → Changes [] KeepsOrAsks now t
      (cp.requests now tick (cp.greeting now tick (cp.writes now tick (cp.reductions t))))
  rest_keep_or_ask tick t = both (any OnlyKeeps (both (reductions_only_keep now t) (both (writes_only_keep now tick _) (greeting_only_keep now tick _))))
      (any OnlyAsks (requests_keep_or_ask tick _))
    where
      any : (part : Part) → {u v : Turn} → Changes [] part now u v → Changes [] KeepsOrAsks now u v
      any part c = wider [] [] part KeepsOrAsks (λ o h. h) (λ k. record { may = refl }) (λ k. record { may = refl }) c

  pub passes_keep_or_ask : (tick : Bool) (t : Turn) → Changes t.operations KeepsOrAsks now t (cp.passes now tick t)
  unfolding cp.passes
  passes_keep_or_ask tick t =
      both (wider t.operations t.operations OnlyKeeps KeepsOrAsks (λ o h. h) (λ k. record { may = refl }) (λ k. record { may = refl })
      (operations_only_keep now t))
      (wider [] t.operations KeepsOrAsks KeepsOrAsks (λ o h. absurd h) (λ k. k) (λ k. k) (rest_keep_or_ask tick (cp.operations now t)))

pub changes_by_passes : (now : Stamp) (tick : Bool) (t : Turn) → client.Changes now t (cp.passes now tick t)
changes_by_passes now tick t = changes (passes_keep_or_ask now tick t)
