-- The passes at the end of a step keep the copies: reductions, greeting and requests.
use Rattle.st_lemmas.proofs.Words
use Words.{◌≡◌, ℕ, Bool, true, false, List, [], ◌∷◌, Option, Some, None, refl, sym, subst, ClientId, ServerId, Life, Stamp, Mode, Ask, Body, DemandedFile}
use Words.{HeldLock, Operation, Release, Request, LogEntry}
use Words.modes
use Words.bodies
use Words.ClientLease as lease
use Words.ClientLocks as locks
use Words.ClientLocks.{lock_of}
use Words.ClientPages as pages
use Words.ClientState as st
use Words.ClientState.{ClientSession, Turn, with_session, with_store}
use Words.ClientPasses as cp
use Words.Lookups.{found_ino, some_is}
use Words.Tables.{and_true}
use Rattle.st_laws_reads.specs.Copies.Copies.{AskedSo, Keeps}
use Rattle.st_laws_reads.proofs.Copies.Logs.{still}
use Rattle.st_laws_reads.proofs.Copies.Copies.{copies_kept_by_same, copies_kept_by_sequence, copies_kept_by_choice, copies_kept_by_aside, copies_kept_by_writes}
use Rattle.st_laws_reads.proofs.Copies.Caches.{copies_kept_by_reduced_none, copies_kept_by_reduced_shared, copies_kept_by_cut}
use Rattle.st_laws_reads.proofs.Copies.Receives.{copies_kept_by_like}
use Rattle.st_laws_reads.proofs.Copies.Away.{copies_kept_by_operations}

module _ (ask_of : ℕ → Option Ask) (c : ClientId) (lives : ServerId → Life) (es : List LogEntry) where
  pub with_it : (t : Turn) (o : Option ClientSession) → t.here.session ≡ o → t ≡ record t { here = record t.here { session = o } }
  with_it t o q = λ j. record t { here = record t.here { session = q j } }

  -- reductions: a file that is reduced to none has no page left, and one that is shared no dirty page
  copies_kept_by_lowered : (t : Turn) (s : ClientSession) (ino : ℕ) (l : HeldLock) (to : Mode) → pages.is_idle t.here.store ino ≡ true →
      Keeps ask_of c lives es (with_session s t) (cp.reduce_to (with_session s t) (st.with_cache (locks.lower s.locks ino l to) s) ino l.g to)
  unfolding cp.reduce_to locks.lower
  copies_kept_by_lowered t s ino l modes.None idle = copies_kept_by_reduced_none ask_of c lives es t s
      (cp.released (st.with_cache (locks.lower s.locks ino l modes.None) s) ino l.g modes.None) ino idle refl
  copies_kept_by_lowered t s ino l modes.S idle = copies_kept_by_reduced_shared ask_of c lives es t s
      (cp.released (st.with_cache (locks.lower s.locks ino l modes.S) s) ino l.g modes.S) ino l.g idle refl
  copies_kept_by_lowered t s ino l modes.X idle = copies_kept_by_reduced_shared ask_of c lives es t s
      (cp.released (st.with_cache (locks.lower s.locks ino l modes.X) s) ino l.g modes.X) ino l.g idle refl

  copies_kept_by_idle : (t : Turn) (s : ClientSession) (ino : ℕ) → Keeps ask_of c lives es (with_session s t) (cp.reduce_idle (with_session s t) s ino)
  unfolding cp.reduce_idle cp.reduce_by cp.reduce_given locks.reduce locks.reduce_at locks.reduce_lock
  copies_kept_by_idle t s ino =
      copies_kept_by_choice ask_of c lives es (with_session s t) (cp.may_reduce (with_session s t) s ino) _ (with_session s t)
      (λ h. demanded (and_true (pages.is_idle t.here.store ino) _ h).0 (locks.demand_of s.locks ino) refl)
      (λ h. copies_kept_by_same ask_of c lives es (with_session s t))
    where
      locked : (d : DemandedFile) → pages.is_idle t.here.store ino ≡ true → d.ino ≡ ino → (o : Option HeldLock) →
          Keeps ask_of c lives es (with_session s t) (cp.reduce_by (with_session s t) s ino (locks.reduce_lock s.locks d o))
      locked d idle e None = copies_kept_by_same ask_of c lives es (with_session s t)
      locked d idle e (Some l) =
          subst (λ n. Keeps ask_of c lives es (with_session s t)
          (cp.reduce_to (with_session s t) (st.with_cache (locks.lower s.locks n l d.to) s) ino l.g d.to)) (sym e)
          (copies_kept_by_lowered t s ino l d.to idle)

      demanded : pages.is_idle t.here.store ino ≡ true → (o : Option DemandedFile) → locks.demand_of s.locks ino ≡ o →
          Keeps ask_of c lives es (with_session s t) (cp.reduce_by (with_session s t) s ino (locks.reduce_at s.locks o))
      demanded idle None ds = copies_kept_by_same ask_of c lives es (with_session s t)
      demanded idle (Some d) ds = locked d idle (found_ino (λ (r : DemandedFile). r.ino) ino d s.locks.demanded ds) (lock_of s.locks d.ino)

  copies_kept_by_reduce : (t : Turn) (ino : ℕ) (o : Option ClientSession) → t.here.session ≡ o → Keeps ask_of c lives es t (cp.reduce t ino o)
  unfolding cp.reduce
  copies_kept_by_reduce t ino None q = copies_kept_by_same ask_of c lives es t
  copies_kept_by_reduce t ino (Some s) q = subst (λ u. Keeps ask_of c lives es u (cp.reduce_idle u s ino)) (sym (with_it t (Some s) q))
      (copies_kept_by_idle t s ino)

  copies_kept_by_reduces : (inos : List ℕ) (t : Turn) → Keeps ask_of c lives es t (cp.reduce_each inos t)
  unfolding cp.reduce_each
  copies_kept_by_reduces [] t = copies_kept_by_same ask_of c lives es t
  copies_kept_by_reduces (ino ∷ inos) t = let u : Turn = cp.reduce t ino t.here.session in
      copies_kept_by_sequence ask_of c lives es t u _ (copies_kept_by_reduce t ino t.here.session refl) (copies_kept_by_reduces inos u)

  copies_kept_by_reductions : (t : Turn) → Keeps ask_of c lives es t (cp.reductions t)
  unfolding cp.reductions
  copies_kept_by_reductions t = copies_kept_by_reduces (cp.files_demanded t.here.session) t

  -- a message changes nothing of the copies
  pub copies_kept_by_send : (t : Turn) (epoch number stamp : ℕ) (body : Body) → Keeps ask_of c lives es t (st.send t epoch number stamp body)
  unfolding st.send
  copies_kept_by_send t epoch number stamp body = copies_kept_by_aside ask_of c lives es t t.operations t.next_command _ (λ x. refl)
      (λ r. record { one = record {}; rest = record {} }) (λ a. a)

  copies_kept_by_greeted : (n : Stamp) (t : Turn) → Keeps ask_of c lives es t (cp.with_greeting n t)
  copies_kept_by_greeted n t = record { keep = λ r. record { pages = r.pages; right = r.right; asked = r.asked; fates = r.fates }; away = still _ _ _ }

  copies_kept_by_greeting : (n : Stamp) (tick : Bool) (t : Turn) → Keeps ask_of c lives es t (cp.greeting n tick t)
  unfolding cp.greeting cp.greeting_by cp.greet cp.hello
  copies_kept_by_greeting n tick t = go t.here.session
    where
      go : (o : Option ClientSession) → Keeps ask_of c lives es t (cp.greeting_by t n tick o)
      go (Some s) = copies_kept_by_same ask_of c lives es t
      go None =
          copies_kept_by_choice ask_of c lives es t (cp.must_greet t n tick) _ t
          (λ h. copies_kept_by_sequence ask_of c lives es t (cp.with_greeting n t) _ (copies_kept_by_greeted n t)
          (copies_kept_by_send (cp.with_greeting n t) 0 0 n.0 bodies.Hello)) (λ h. copies_kept_by_same ask_of c lives es t)

  -- asking
  copies_kept_by_ask : (t : Turn) (s s2 : ClientSession) (n : Stamp) (body : Body) (cutting : Option ℕ) → s2.locks.rows ≡ s.locks.rows →
      Keeps ask_of c lives es (with_session s t) (cp.ask (with_session s t) s2 n body cutting)
  unfolding cp.ask
  copies_kept_by_ask t s s2 n body cutting e =
      let u : Turn = with_session (cp.asking_session s2 n body cutting) (with_session s t) in
      copies_kept_by_sequence ask_of c lives es (with_session s t) u _ (copies_kept_by_like ask_of c lives es t s (cp.asking_session s2 n body cutting) e)
      (copies_kept_by_send u s2.epoch.0 s2.requests.next n.0 body)

  -- the operations, of which one may be sent, are what was asked
  asked_first : (t : Turn) (s : ClientSession) (n : Stamp) (os : List Operation) (a : cp.Asking) → cp.first_asking t s n os ≡ Some a → AskedSo ask_of os →
      AskedSo ask_of a.operations
  unfolding cp.first_asking cp.asks_or
  asked_first t s n [] a e r = cc
  asked_first t s n (o ∷ os) a e r = go (cp.asked_by t s n o) e (λ x f. asked_first t s n os x f r.rest)
    where
      sent : (b : Bool) → ask_of (cp.sent_if b o).op ≡ Some (cp.sent_if b o).ask
      sent true = r.one
      sent false = r.one

      later : (l : Option cp.Asking) → cp.behind o l ≡ Some a → ((x : cp.Asking) → l ≡ Some x → AskedSo ask_of x.operations) → AskedSo ask_of a.operations
      later None g f = cc
      later (Some x) g f = subst (λ (y : cp.Asking). AskedSo ask_of y.operations) (some_is g) (record { one = r.one; rest = f x refl })

      go : (w : Option cp.Wanted) → cp.asks_or o os (cp.first_asking t s n os) w ≡ Some a →
          ((x : cp.Asking) → cp.first_asking t s n os ≡ Some x → AskedSo ask_of x.operations) → AskedSo ask_of a.operations
      go None g f = later (cp.first_asking t s n os) g f
      go (Some w) g f = subst (λ (y : cp.Asking). AskedSo ask_of y.operations) (some_is g) (record { one = sent w.own; rest = r.rest })

  copies_kept_by_ask_for : (t : Turn) (s : ClientSession) (n : Stamp) (a : cp.Asking) → (AskedSo ask_of t.operations → AskedSo ask_of a.operations) →
      Keeps ask_of c lives es (with_session s t) (cp.ask_for (with_session s t) s n a)
  unfolding cp.ask_for
  copies_kept_by_ask_for t s n a f =
      let u : Turn = st.with_operations a.operations (with_session s t) in
      let v : Turn = with_store (cp.cut_store a.wanted.cut t.here.store) u in
      copies_kept_by_sequence ask_of c lives es (with_session s t) u _
      (record { keep = λ r. record { pages = r.pages; right = r.right; asked = f r.asked; fates = r.fates }; away = still _ _ _ })
      (copies_kept_by_sequence ask_of c lives es u v _ (copies_kept_by_cut ask_of c lives es u a.wanted.cut)
      (copies_kept_by_ask v s s n a.wanted.body (cp.file_cut a.wanted.cut) refl))

  copies_kept_by_alive : (t : Turn) (s : ClientSession) (n : Stamp) → Keeps ask_of c lives es (with_session s t) (cp.keep_alive (with_session s t) s n)
  unfolding cp.keep_alive
  copies_kept_by_alive t s n = copies_kept_by_choice ask_of c lives es (with_session s t) (lease.is_renewing (lease.phase_of t.config s.lease n)) _ _
      (λ h. copies_kept_by_ask t s s n bodies.KeepAlive None refl) (λ h. copies_kept_by_same ask_of c lives es (with_session s t))

  copies_kept_by_next : (t : Turn) (s : ClientSession) (n : Stamp) → Keeps ask_of c lives es (with_session s t) (cp.ask_next (with_session s t) s n)
  unfolding cp.ask_next cp.ask_for_or
  copies_kept_by_next t s n = copies_kept_by_choice ask_of c lives es (with_session s t) (st.is_serving t.config s n) _ _
      (λ h. go (cp.first_asking (with_session s t) s n t.operations) refl) (λ h. copies_kept_by_alive t s n)
    where
      go : (o : Option cp.Asking) → cp.first_asking (with_session s t) s n t.operations ≡ o →
          Keeps ask_of c lives es (with_session s t) (cp.ask_for_or (with_session s t) s n o)
      go None e = copies_kept_by_alive t s n
      go (Some a) e = copies_kept_by_ask_for t s n a (asked_first (with_session s t) s n t.operations a e)

  copies_kept_by_new : (t : Turn) (s : ClientSession) (n : Stamp) → Keeps ask_of c lives es (with_session s t) (cp.ask_new (with_session s t) s n)
  unfolding cp.ask_new cp.reassert cp.ask_by cp.ask_release
  copies_kept_by_new t s n = copies_kept_by_choice ask_of c lives es (with_session s t) s.due _ _
      (λ h. copies_kept_by_ask t s s n (bodies.Reassert (locks.all_locks s.locks)) None refl) (λ h. go s.releases)
    where
      go : (rs : List Release) → Keeps ask_of c lives es (with_session s t) (cp.ask_by (with_session s t) s n rs)
      go [] = copies_kept_by_next t s n
      go (r ∷ rs) = copies_kept_by_ask t s (record s { releases = rs }) n (bodies.Released r.ino r.g r.to) None refl

  copies_kept_by_again : (t : Turn) (s : ClientSession) (n : Stamp) (q : Request) →
      Keeps ask_of c lives es (with_session s t) (cp.ask_again (with_session s t) s n q)
  unfolding cp.ask_again
  copies_kept_by_again t s n q =
      let u : Turn = with_session (cp.again_session s n q) (with_session s t) in
      copies_kept_by_sequence ask_of c lives es (with_session s t) u _ (copies_kept_by_like ask_of c lives es t s (cp.again_session s n q) refl)
      (copies_kept_by_send u s.epoch.0 q.number n.0 q.body)

  copies_kept_by_under : (t : Turn) (s : ClientSession) (n : Stamp) (tick : Bool) →
      Keeps ask_of c lives es (with_session s t) (cp.requests_under (with_session s t) s n tick)
  unfolding cp.requests_under cp.requests_at cp.repeat
  copies_kept_by_under t s n tick = copies_kept_by_choice ask_of c lives es (with_session s t) s.lease.condemned _ _
      (λ h. copies_kept_by_same ask_of c lives es (with_session s t)) (λ h. go s.requests.asked)
    where
      go : (o : Option Request) → Keeps ask_of c lives es (with_session s t) (cp.requests_at (with_session s t) s n tick o)
      go None = copies_kept_by_new t s n
      go (Some q) = copies_kept_by_choice ask_of c lives es (with_session s t) (cp.is_old t.config n tick q) _ _ (λ h. copies_kept_by_again t s n q)
          (λ h. copies_kept_by_same ask_of c lives es (with_session s t))

  copies_kept_by_requests : (n : Stamp) (tick : Bool) (t : Turn) → Keeps ask_of c lives es t (cp.requests n tick t)
  unfolding cp.requests cp.requests_by
  copies_kept_by_requests n tick t = go t.here.session refl
    where
      go : (o : Option ClientSession) → t.here.session ≡ o → Keeps ask_of c lives es t (cp.requests_by t n tick o)
      go None q = copies_kept_by_same ask_of c lives es t
      go (Some s) q = subst (λ u. Keeps ask_of c lives es u (cp.requests_under u s n tick)) (sym (with_it t (Some s) q)) (copies_kept_by_under t s n tick)

  -- all passes at a server
  pub copies_kept_by_passes : (n : Stamp) (tick : Bool) (t : Turn) → Keeps ask_of c lives es t (cp.passes n tick t)
  unfolding cp.passes
  copies_kept_by_passes n tick t =
      let a : Turn = cp.operations n t in
      let b : Turn = cp.reductions a in
      let d : Turn = cp.writes n tick b in
      let e : Turn = cp.greeting n tick d in
      copies_kept_by_sequence ask_of c lives es t a _ (copies_kept_by_operations ask_of c lives es n t)
      (copies_kept_by_sequence ask_of c lives es a b _ (copies_kept_by_reductions a)
      (copies_kept_by_sequence ask_of c lives es b d _ (copies_kept_by_writes ask_of c lives es n tick b)
      (copies_kept_by_sequence ask_of c lives es d e _ (copies_kept_by_greeting n tick d) (copies_kept_by_requests n tick e))))
