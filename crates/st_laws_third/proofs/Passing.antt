-- The passes of a client of the third form are lists of changes.
use Rattle.st_lemmas.proofs.Words
use Words.{◌≡◌, ◌≤◌, ◌+◌, ℕ, zero, suc, pred, Bool, true, false, ◌&&◌, not, ◌==◌, List, [], ◌∷◌, Option, Some, None, filter, find, refl, ap, sym, subst, ◌∙◌, inl, inr, arith, is_some, if◌then◌else◌, eqb-true}
use Words.{Ask, Body, FileId, Operation, PageNo, Release, Request, ServerId, Stamp}
use Words.answers
use Words.asks
use Words.bodies
use Words.outputs
use Words.Client as cl
use Words.ClientLease as lease
use Words.ClientLocks as locks
use Words.ClientLocks.{LockCache}
use Words.ClientPages as pages
use Words.ClientPages.{Store}
use Words.ClientPasses as passes
use Words.ClientState.{ClientSession, Turn, asking, file_of, is_of, is_sent, is_serving, reasserts, send, server_of, with_operations, with_session, with_store}
use Words.Keys.{page_no}
use Words.Lookups.{some_is}
use Words.Tables.{and_both, and_true, found_at, has_filter, not_true}
use Words.Lists.{Rises}
use Words.Truth.{not_both}
use Rattle.st_lemmas.proofs.Keys.{rising_rises}
use Rattle.st_laws_steps.specs.Client.Client as client
use Rattle.st_laws_steps.specs.Client.Client.{map_asked, map_in}
use Rattle.st_laws_steps.specs.Client.Session.{AsksAgain, AsksNew, AsksNothing, CutsForgotten, IsAsked, LocksStay, MayAsk, cuts_from}
use Rattle.st_laws_steps.proofs.Client.Asking.{AskingAt, Wants, WantsAt, wants_what_it_needs}
use Rattle.st_laws_steps.proofs.Client.Changes.{alike_stay}
use Rattle.st_third.specs.declared.beside.Leave.{Leave}
use Rattle.st_third.specs.Client as third
use Rattle.st_third.specs.GiveBack as giving
use Rattle.st_third.specs.Leave as leaving
use Rattle.st_third.specs.Room as room
use Rattle.st_third.specs.Runs as runs
use Rattle.st_third.specs.State as state
use Rattle.st_third.specs.State.{ThirdTurn, here, is_active, plainly, session}
use Rattle.st_third.specs.UsedOnce as used
use Rattle.st_laws_third.specs.Changes.{ThirdChanges, ThirdPasses, Asks, Bounds, IsRun, IsWhole, Still, bounds}
use Rattle.st_laws_third.proofs.Chains.{Old, both, by_rule, either, old_both, old_either, old_one, old_still, same_locks}
use Rattle.st_laws_third.proofs.GivingBack.{gives}
use Rattle.st_laws_third.proofs.Leaving.{greets, leaves, reduces_all, serves_leave}
use Rattle.st_laws_third.proofs.PendingLeaves.{AwaitTheirTurn, await_on}
use Rattle.st_laws_third.proofs.Rooms.{keeps, serves, writes}

server_is : (a b : ServerId) → (a.0 == b.0) ≡ true → a ≡ b
server_is a b e = ap (λ n. record { 0 = n }) (eqb-true a.0 b.0 e)

module _ (now : Stamp) where
  abbrev C : ThirdTurn → ThirdTurn → Type 0
  C t u = ThirdChanges None now t u

  -- Operations

  quiesces : {within : Bounds} (t : Turn) (o : Operation) → Old within now t (passes.quiesce t o)
  unfolding passes.quiesce
  quiesces t o =
      old_either (is_sent o) t _ _ (λ e. old_one (client.Operates t _) tt) (λ e. old_one (client.Says t (outputs.Answer o.op answers.Quiesced) tt) tt)

  syncs : {within : Bounds} (t : Turn) (o : Operation) (f : FileId) → Old within now t (passes.sync t o f)
  unfolding passes.sync
  syncs t o f =
      old_either (pages.is_hard t.here.store f.ino) t _ _ (λ e. old_one (client.Says t (outputs.Answer o.op answers.Hard) tt) tt)
      (λ e. old_one (client.Operates t _) tt)

  serves_open : (os : List Operation) (ls : List Leave) (t : ThirdTurn) (s : ClientSession) (o : Operation) → session t ≡ Some s →
      is_serving t.plain.config s now ≡ true → server_of o.ask ≡ t.plain.here.server → C t (third.serve os ls t s o)
  unfolding third.serve
  serves_open os ls t s o e sv own =
      either (is_active ls (here t) o && used.is_open os t s o (file_of o.ask)) t _ _
      (λ q. serves t o s e sv o.ask own) (λ q. keeps t o)

  operates_by : (os : List Operation) (ls : List Leave) (t : ThirdTurn) (o : Operation) → server_of o.ask ≡ t.plain.here.server →
      C t (third.operate_by os ls t now o (session t))
  unfolding third.operate_by third.operate_under
  operates_by os ls t o own = go (session t) refl
    where
      go : (x : Option ClientSession) → session t ≡ x → C t (third.operate_by os ls t now o x)
      go None e = keeps t o
      go (Some s) e =
          either (is_serving t.plain.config s now) t _ _ (λ sv. serves_open os ls t s o e sv own)
          (λ sv. by_rule t (third.quiesced o) (quiesces t.plain o))

  operates : (os : List Operation) (ls : List Leave) (t : ThirdTurn) (o : Operation) → C t (third.operate os ls t now o)
  unfolding third.operate third.operate_on
  operates os ls t o = either (is_of (here t) o) t _ _ (λ e. on o.ask refl (server_is _ _ e)) (λ e. keeps t o)
    where
      on : (ask : Ask) → o.ask ≡ ask → server_of o.ask ≡ t.plain.here.server → C t (third.operate_on os ls t now o ask)
      on (asks.Sync f) e own = by_rule t (third.synced o (asks.Sync f)) (syncs t.plain o f)
      on ask e own = operates_by os ls t o own

  operates_each : (os : List Operation) (ls : List Leave) (ns : List ℕ) (t : ThirdTurn) → Rises ns → AwaitTheirTurn ls ns t.leaves →
      C t (third.operate_numbers os ls now ns t)
  unfolding third.operate_numbers third.operate_either
  operates_each os ls [] t r p = Still t
  operates_each os ls (op ∷ ops) t r p =
      both (go (find (state.is_operation_numbered op) os))
      (operates_each os ls ops _ r.rest (await_on now os ls op ops t r.first p (find (state.is_operation_numbered op) os)))
    where
      go : (o : Option Operation) → C t (third.operate_either os ls now op t o)
      go None =
          serves_leave t (find (state.is_leave_numbered op) ls)
          (λ x e. let z = found_at (state.is_leave_numbered op) ls x e in p x z.1 (inl (eqb-true x.op op z.0)))
      go (Some o) = operates os ls t o

  operates_all : (t : ThirdTurn) → C t (third.operations now t)
  unfolding third.operations plainly
  operates_all t =
      let ls : List Leave = filter (state.is_leave_of (here t)) t.leaves in
      both (by_rule t (with_operations []) (old_one (client.Operates t.plain []) tt))
      (operates_each t.plain.operations ls _ _ (rising_rises _) (λ l h i. (has_filter (state.is_leave_of (here t)) t.leaves l h).0))

  -- Requests: what an operation asks, with its run.

  wants_run : (t : ThirdTurn) (s : ClientSession) (st : Store) (w : passes.Wanted) → Wants s st w → Wants s st (record w { body = runs.run_asked t w.body })
  wants_run t s st w h =
      record {
        asks = λ x e. h.asks x (sym (maps w.body) ∙ e);
        new = same w.body ∙ h.new;
        may = may w.body h.may;
        cuts = λ c e. let k = h.cuts c e in
            (k.0, maps w.body ∙ k.1, cuts w.body ∙ k.2);
      }
    where
      maps : (b : Body) → map_in (runs.run_asked t b) ≡ map_in b
      maps (bodies.Allocate ino g p count) = refl
      maps b = refl

      same : (b : Body) → reasserts (runs.run_asked t b) ≡ reasserts b
      same (bodies.Allocate ino g p count) = refl
      same b = refl

      cuts : (b : Body) → cuts_from (runs.run_asked t b) ≡ cuts_from b
      cuts (bodies.Allocate ino g p count) = refl
      cuts b = refl

      may : (b : Body) → MayAsk s (passes.file_cut w.cut) b → MayAsk s (passes.file_cut w.cut) (runs.run_asked t b)
      may (bodies.Allocate ino g p count) m = m
      may b m = m

  wants_with_run : (t : ThirdTurn) (s : ClientSession) (st : Store) (w : Option passes.Wanted) → WantsAt s st w → WantsAt s st (runs.with_run t w)
  unfolding runs.with_run
  wants_with_run t s st None h = tt
  wants_with_run t s st (Some w) h = wants_run t s st w h

  wants_asked : (t : ThirdTurn) (s : ClientSession) (o : Operation) → WantsAt s t.plain.here.store (third.asked_by t s now o)
  unfolding third.asked_by
  wants_asked t s o = go (third.may_ask t s o && not (third.must_wait t s now o))
    where
      go : (b : Bool) → WantsAt s t.plain.here.store (if b then runs.with_run t (passes.want t.plain s now o.ask) else None)
      go true = wants_with_run t s t.plain.here.store (passes.want t.plain s now o.ask) (wants_what_it_needs t.plain s now o.ask)
      go false = tt

  wants_first : (t : ThirdTurn) (s : ClientSession) (os : List Operation) → AskingAt s t.plain.here.store (third.first_asking t s now os)
  unfolding third.first_asking passes.asks_or
  wants_first t s [] = tt
  wants_first t s (o ∷ os) = go (third.asked_by t s now o) (wants_asked t s o) (third.first_asking t s now os) (wants_first t s os)
    where
      go : (w : Option passes.Wanted) → WantsAt s t.plain.here.store w → (a : Option passes.Asking) → AskingAt s t.plain.here.store a →
          AskingAt s t.plain.here.store (passes.asks_or o os a w)
      go None w None a = tt
      go None w (Some x) a = record { new = a.new; may = a.may; asks = a.asks; cuts = a.cuts }
      go (Some x) w a k = record { new = w.new; may = w.may; asks = w.asks; cuts = w.cuts }

  -- no request is outstanding, and none is due
  is_free : (t : ThirdTurn) (s : ClientSession) → third.may_operations_ask t s now ≡ true → (s.requests.asked ≡ None) × (s.due ≡ false)
  is_free t s m =
      let z = (and_true (is_serving t.plain.config s now && not s.lease.condemned) _ m).1 in
      let y = and_true (not (is_some s.requests.asked)) _ z in
      (nothing s.requests.asked y.0, not_true s.due (and_true (not s.due) _ y.1).0)
    where
      nothing : {A : Type 0} (o : Option A) → not (is_some o) ≡ true → o ≡ None
      nothing None e = refl
      nothing (Some x) e = cc e

  -- The run that is asked for is within the limit of runs.

  run_most : (t : ThirdTurn) (ino n p : ℕ) → runs.run_from t ino n p ≤ n
  unfolding runs.run_from
  run_most t ino zero p = omega arith
  run_most t ino (suc n) p = go (runs.is_run_page t ino (page_no p)) (run_most t ino n (p + 1))
    where
      go : (b : Bool) → runs.run_from t ino n (p + 1) ≤ n → (if b then runs.run_from t ino n (p + 1) + 1 else 0) ≤ suc n
      go true h = omega (arith, h)
      go false h = omega arith

  run_within : (t : ThirdTurn) (b : Body) → IsRun t.beside.run (runs.run_asked t b)
  run_within t (bodies.Allocate ino g p count) = let z = run_most t ino (pred t.beside.run) (p.0 + 1) in omega (arith, z)
  run_within t b = tt

  abbrev WantedRun : ℕ → Option passes.Wanted → Type 0
  WantedRun run None = Unit {0}
  WantedRun run (Some w) = IsRun run w.body

  abbrev AskingRun : ℕ → Option passes.Asking → Type 0
  AskingRun run None = Unit {0}
  AskingRun run (Some a) = IsRun run a.wanted.body

  asked_within : (t : ThirdTurn) (s : ClientSession) (o : Operation) → WantedRun t.beside.run (third.asked_by t s now o)
  unfolding third.asked_by runs.with_run
  asked_within t s o = go (third.may_ask t s o && not (third.must_wait t s now o))
    where
      at : (w : Option passes.Wanted) → WantedRun t.beside.run (runs.with_run t w)
      at None = tt
      at (Some w) = run_within t w.body

      go : (b : Bool) → WantedRun t.beside.run (if b then runs.with_run t (passes.want t.plain s now o.ask) else None)
      go true = at (passes.want t.plain s now o.ask)
      go false = tt

  first_within : (t : ThirdTurn) (s : ClientSession) (os : List Operation) → AskingRun t.beside.run (third.first_asking t s now os)
  unfolding third.first_asking passes.asks_or
  first_within t s [] = tt
  first_within t s (o ∷ os) = go (third.asked_by t s now o) (asked_within t s o) (third.first_asking t s now os) (first_within t s os)
    where
      go : (w : Option passes.Wanted) → WantedRun t.beside.run w → (a : Option passes.Asking) → AskingRun t.beside.run a →
          AskingRun t.beside.run (passes.asks_or o os a w)
      go None w None a = tt
      go None w (Some x) a = a
      go (Some x) w a k = w

  -- what an operation asks isn't a reassertion

  abbrev AskingWhole : LockCache → Option passes.Asking → Type 0
  AskingWhole c None = Unit {0}
  AskingWhole c (Some a) = IsWhole c a.wanted.body

  whole : (c : LockCache) (b : Body) → reasserts b ≡ false → IsWhole c b
  whole c (bodies.Reassert rows) e = cc e
  whole c b e = tt

  asking_whole : (s : ClientSession) (st : Store) (a : Option passes.Asking) → AskingAt s st a → AskingWhole s.locks a
  asking_whole s st None w = tt
  asking_whole s st (Some a) w = whole s.locks a.wanted.body w.new

  -- What requests send.
  module _ (within : Bounds) where
    abbrev O : Turn → Turn → Type 0
    O t u = Old within now t u

    none_some : {A B : Type 0} (x : A) → ◌≡◌ {A = Option A} None (Some x) → B
    none_some x q = cc

    -- a new request, by a session that is as this one except for what waits to be sent
    sends : (t : Turn) (s r : ClientSession) (body : Body) (cutting : Option ℕ) → t.here.session ≡ Some s → AsksNothing t.here.store.extents s r →
        r.locks ≡ s.locks → CutsForgotten t.here.store body cutting → IsAsked r cutting body →
        ((x : ℕ × PageNo) → map_in body ≡ Some x → pages.known_of t.here.store.extents x.0 x.1 ≡ None) → IsRun within.run body → IsWhole r.locks body →
        O t (passes.ask t r now body cutting)
    unfolding passes.ask send asking
    sends t s r body cutting se a l c i f run w =
        let u : ClientSession = passes.asking_session r now body cutting in
        old_both
        (old_one (client.Follows t s u se
        (record { how = AsksNew s r now body cutting a c i; date = let z = ap (λ (x : Stamp). x.0) a.date in omega (arith, z); asks = λ x e. inr (f x e) }))
        ((run, w), same_locks t.here s u (ap (λ (x : LockCache). x.rows) l) a.epoch))
        (old_one (client.Says (with_session u t) _ tt) (Asks u (record { number = r.requests.next; body = body; sent = now }) now.0 refl refl))

    -- one that neither cuts a file nor asks where a page lies
    sends_plainly : (t : Turn) (s r : ClientSession) (body : Body) → t.here.session ≡ Some s → AsksNothing t.here.store.extents s r → r.locks ≡ s.locks →
        IsAsked r None body → map_in body ≡ None → IsRun within.run body → IsWhole r.locks body → O t (passes.ask t r now body None)
    sends_plainly t s r body se a l i m run w = sends t s r body None se a l (λ ino p q c. none_some ino q) i (λ x q. none_some x (sym m ∙ q)) run w

    alive : (t : Turn) (s : ClientSession) → t.here.session ≡ Some s → s.requests.asked ≡ None → s.due ≡ false → O t (passes.keep_alive t s now)
    unfolding passes.keep_alive
    alive t s se n d =
        old_either (lease.is_renewing (lease.phase_of t.config s.lease now)) t _ _
        (λ e. sends_plainly t s s bodies.KeepAlive se (alike_stay t.here.store.extents s) refl (record { free = n; due = sym d; may = tt }) refl tt tt)
        (λ e. old_still t)

    -- the request of an operation
    sends_for : (t : Turn) (s : ClientSession) (a : passes.Asking) → t.here.session ≡ Some s → s.requests.asked ≡ None → s.due ≡ false →
        Wants s t.here.store a.wanted → IsRun within.run a.wanted.body → IsWhole s.locks a.wanted.body → O t (passes.ask_for t s now a)
    unfolding passes.ask_for
    sends_for t s a se n d w run whole = old_both (old_one (client.Operates t a.operations) tt) (go a.wanted.cut refl)
      where
        u : Turn
        u = with_operations a.operations t

        asked : (c : Option (ℕ × PageNo)) → a.wanted.cut ≡ c → IsAsked s (passes.file_cut c) a.wanted.body
        asked c e = record { free = n; due = w.new ∙ sym d; may = subst (λ z. MayAsk s (passes.file_cut z) a.wanted.body) e w.may }

        go : (c : Option (ℕ × PageNo)) → a.wanted.cut ≡ c →
            O u (passes.ask (with_store (passes.cut_store c t.here.store) u) s now a.wanted.body (passes.file_cut c))
        go None e =
            sends u s s a.wanted.body None se (alike_stay t.here.store.extents s) refl (λ ino p q k. none_some ino q) (asked None e) w.asks run whole
        go (Some c) e =
            old_both (old_one (client.Forgets u c.0 c.1 (w.cuts c e).0) tt)
            (sends (with_store (pages.forget_from t.here.store c.0 c.1) u) s s a.wanted.body (Some c.0) se (alike_stay _ s) refl
            (λ ino p q k. let i : c.0 ≡ ino = some_is q in let l : c.1 ≡ p = some_is (sym (w.cuts c e).2 ∙ k) in
            record {
              store = t.here.store;
              idle = ap (pages.is_idle t.here.store) (sym i) ∙ (w.cuts c e).0;
              is = ap (λ j. pages.forget_from t.here.store j c.1) i ∙ ap (λ r. pages.forget_from t.here.store ino r) l;
            }) (asked (Some c) e) (λ x q. none_some x (sym (w.cuts c e).1 ∙ q)) run whole)

    -- or a keep-alive
    sends_for_or : (t : Turn) (s : ClientSession) (a : Option passes.Asking) → t.here.session ≡ Some s → s.requests.asked ≡ None → s.due ≡ false →
        AskingAt s t.here.store a → AskingRun within.run a → AskingWhole s.locks a → O t (passes.ask_for_or t s now a)
    unfolding passes.ask_for_or
    sends_for_or t s None se n d w run whole = alive t s se n d
    sends_for_or t s (Some a) se n d w run whole = sends_for t s a se n d w run whole

    module _ (t : Turn) (s : ClientSession) (e : t.here.session ≡ Some s) where
      -- without an operation that may ask
      sends_new : s.requests.asked ≡ None → (s.due ≡ false → s.releases ≡ [] → is_serving t.config s now ≡ true → ⊥) → O t (passes.ask_new t s now)
      unfolding passes.ask_new passes.reassert passes.ask_by passes.ask_release passes.ask_next
      sends_new n never = go s.due refl
        where
          next : s.due ≡ false → s.releases ≡ [] → (b : Bool) → is_serving t.config s now ≡ b →
              O t (if b then passes.ask_for_or t s now (passes.first_asking t s now t.operations) else passes.keep_alive t s now)
          next d r true v = absurd (never d r v)
          next d r false v = alive t s e n d

          by : s.due ≡ false → (rs : List Release) → s.releases ≡ rs → O t (passes.ask_by t s now rs)
          by d [] r = next d r (is_serving t.config s now) refl
          by d (x ∷ xs) r =
              sends_plainly t s (record s { releases = xs }) _ e
              (record { epoch = refl; requests = refl; cutting = refl; due = refl; date = refl; locks = LocksStay s.locks }) refl
              (record { free = n; due = sym d; may = tt }) refl tt tt

          go : (b : Bool) → s.due ≡ b → O t (if b then passes.reassert t s now else passes.ask_by t s now s.releases)
          go true d =
              sends_plainly t s s (bodies.Reassert (locks.all_locks s.locks)) e (alike_stay t.here.store.extents s) refl
              (record { free = n; due = sym d; may = tt }) refl tt refl
          go false d = by d s.releases refl

      asks_again : (tick : Bool) (q : Request) → s.requests.asked ≡ Some q → O t (passes.repeat t s now tick q)
      unfolding passes.repeat passes.ask_again send
      asks_again tick q a =
          old_either (passes.is_old t.config now tick q) t _ _
          (λ b. old_both
          (old_one (client.Follows t s (passes.again_session s now q) e
          (record { how = AsksAgain s now q a; date = omega arith; asks = λ x i. inl (ap map_asked a ∙ i) })) (tt, same_locks t.here s _ refl refl))
          (old_one (client.Says (with_session (passes.again_session s now q) t) _ tt)
          (Asks (passes.again_session s now q) (record q { sent = now }) now.0 refl refl)))
          (λ b. old_still t)

      asks_else : (tick : Bool) → (s.lease.condemned ≡ false → s.requests.asked ≡ None → s.due ≡ false → s.releases ≡ [] → is_serving t.config s now ≡ true → ⊥)
          →
          O t (passes.requests now tick t)
      unfolding passes.requests passes.requests_by passes.requests_under passes.requests_at
      asks_else tick never = subst (Old within now t) (sym (ap (passes.requests_by t now tick) e)) (under s.lease.condemned refl)
        where
          at : s.lease.condemned ≡ false → (o : Option Request) → s.requests.asked ≡ o → O t (passes.requests_at t s now tick o)
          at c None a = sends_new a (never c a)
          at c (Some q) a = asks_again tick q a

          under : (b : Bool) → s.lease.condemned ≡ b → O t (if b then t else passes.requests_at t s now tick s.requests.asked)
          under true c = old_still t
          under false c = at c s.requests.asked refl

  requests : (tick : Bool) (t : ThirdTurn) → C t (third.requests now tick t)
  unfolding third.requests third.requests_by third.requests_under
  requests tick t = go (session t) refl
    where
      may_not : (s : ClientSession) → third.may_operations_ask t s now ≡ false → s.lease.condemned ≡ false → s.requests.asked ≡ None → s.due ≡ false →
          s.releases ≡ [] → is_serving t.plain.config s now ≡ true → ⊥
      may_not s m c a d r v =
          not_both (third.may_operations_ask t s now)
          (and_both _ _ (and_both _ _ v (ap not c))
          (and_both _ _ (ap (λ (o : Option Request). not (is_some o)) a)
          (and_both _ _ (ap not d) (ap (λ (rs : List Release). not (cl.is_any rs)) r)))) m

      go : (x : Option ClientSession) → session t ≡ x → C t (third.requests_by t now tick x)
      go None e = Still t
      go (Some s) e =
          either (third.may_operations_ask t s now) t _ _
          (λ m. let z = is_free t s m in let a = third.first_asking t s now t.plain.operations in
          by_rule t (third.asked_for s now a)
          (sends_for_or (bounds None t) t.plain s a e z.0 z.1 (wants_first t s t.plain.operations) (first_within t s t.plain.operations)
          (asking_whole s t.plain.here.store a (wants_first t s t.plain.operations))))
          (λ m. by_rule t (passes.requests now tick) (asks_else (bounds None t) t.plain s e tick (may_not s m)))

  -- All passes
  pub passes_change : (tick : Bool) (t : ThirdTurn) → ThirdPasses now t (third.third_passes now tick t)
  unfolding third.third_passes
  passes_change tick t =
      let a = third.operations now t in
      let b = giving.giving now a in
      let c = leaving.reductions b in
      let d = room.writes now tick c in
      let e = leaving.leaving d in
      let f = leaving.greeting now tick e in
      record {
        written = d;
        left = e;
        works = both (operates_all t) (both (gives a) (both (reduces_all b) (writes tick c)));
        leaves = leaves d;
        asks = both (greets tick e) (requests tick f);
      }
