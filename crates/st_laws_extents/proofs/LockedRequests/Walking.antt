-- The rules of a client keep what holds of the requests of a session: they go on while its locks do, and what is asked anew is asked under a lock that is held.
use Rattle.st_lemmas.proofs.Words
use Words.{◌≡◌, ℕ, ◌≤◌, ◌<◌, Bool, true, false, List, Option, Some, None, refl, sym, subst, inr, arith, Tag, Epoch, ServerId, Stamp, Ask, Body, Header}
use Words.{HeldLock, KnownExtent, Request}
use Words.modes
use Words.bodies
use Words.Client as cl
use Words.ClientLocks as locks
use Words.ClientPages.{Store}
use Words.ClientPasses as cp
use Words.ClientReplies as cr
use Words.ClientReplies.{is_current}
use Words.ClientState as state
use Words.ClientState.{ClientSession, Requests, Turn, only_at}
use Words.Lookups.{some_is}
use Rattle.st_laws_steps.specs.Client.Client.{IsBegun}
use Rattle.st_laws_steps.specs.Client.Losses.{Fit}
use Rattle.st_laws_steps.specs.Client.Session.{AsksNothing, LocksStep, LocksStay, LocksReduced, LocksGranted, LocksDemanded, MayAsk, SessionChange, Keeps}
use Rattle.st_laws_steps.specs.Client.Session.{DropsLock, IsReasserted, EndsRequest, NewEpoch, AsksNew, AsksAgain}
use Rattle.st_laws_steps.proofs.Client.Sessions as sessions
use Rattle.st_laws_extents.specs.Known.Current.{LockSeen, LocksGoOn}
use Rattle.st_laws_extents.proofs.Known.Current.{old_grants_stay_gone, go_same, demands_go_on, grant_goes_on, reduce_goes_on}
use Rattle.st_laws_extents.specs.LockedRequests.RequestsGoOn.{Before, Free, Of, RequestGoes, Stand, Under}
use Rattle.st_laws_extents.proofs.CutRequests.Receiving.{no_request}

-- a request that is current under later locks was current under earlier ones
current_before : (c d : locks.LockCache) (b : Body) → LocksGoOn c d → Under c b → is_current d b ≡ true → is_current c b ≡ true
current_before c d (bodies.Map ino g p) k u e = k.same ino g u e
current_before c d (bodies.Allocate ino g p count) k u e = k.same ino g u e
current_before c d b k u e = absurd (no e)
  where
    no : false ≡ true → ⊥
    no z = cc

under_later : (c d : locks.LockCache) (b : Body) → LocksGoOn c d → Under c b → Under d b
under_later c d (bodies.Map ino g p) k u = let z = k.rises ino in omega (arith, u, z)
under_later c d (bodies.Allocate ino g p count) k u = let z = k.rises ino in omega (arith, u, z)
under_later c d b k u = tt

-- requests go on while locks do
pub locks_later : (U : Free) (W : Before) (server : ServerId) (life epoch : ℕ) (r : Requests) (c d : locks.LockCache) → LocksGoOn c d → Stand U W server life epoch r c → Stand U W server life epoch r d
locks_later U W server life epoch r c d k h =
    record {
      later = h.later;
      next = h.next;
      seen = k.seen;
      asked = λ q e. let z = h.asked q e in record { under = under_later c d q.body k z.under; was = λ x. z.was (current_before c d q.body k z.under x) };
    }

-- a session that asks nothing has locks that go on
locks_on : (xs : List KnownExtent) (c d : locks.LockCache) → LocksStep xs c d → LockSeen c → LocksGoOn c d
locks_on xs c _ (LocksStay _) h = go_same c h
locks_on xs c _ (LocksReduced _ ino g to e n) h = reduce_goes_on c ino h
locks_on xs _ _ (LocksGranted z ino g mode) h = grant_goes_on z ino g mode h
locks_on xs c _ (LocksDemanded _ ino g to) h = demands_go_on c ino g to h

-- extents are asked under the grant of a lock that is held, which was seen
under_held : (s : ClientSession) → LockSeen s.locks → (cutting : Option ℕ) (b : Body) → MayAsk s cutting b → Under s.locks b
under_held s h o (bodies.Map ino g p) (l, e, u) = let z = h ino l e in subst (λ (x : Rattle.st_base.specs.declared.ids.GrantNo.GrantNo). x.0 ≤ (locks.seen_of s.locks ino).0) u (omega (arith, z))
under_held s h o (bodies.Allocate ino g p count) (l, e, u) = let z = h ino l e in subst (λ (x : Rattle.st_base.specs.declared.ids.GrantNo.GrantNo). x.0 ≤ (locks.seen_of s.locks ino).0) u (omega (arith, z))
under_held s h o b m = tt

none_locked : {A : Type 0} (l : HeldLock) → ◌≡◌ {A = Option HeldLock} None (Some l) → A
none_locked l z = cc

module _ (U : Free) (W : Before) where
  -- the session's locks go on
  kept_by_locks : (server : ServerId) (life : ℕ) (s r : ClientSession) → r.epoch ≡ s.epoch → r.requests ≡ s.requests →
      (LockSeen s.locks → LocksGoOn s.locks r.locks) → Of U W server life (Some s) → Of U W server life (Some r)
  kept_by_locks server life s r e q f h =
      subst (λ x. Stand U W server life x.0 r.requests r.locks) (sym e)
      (subst (λ x. Stand U W server life s.epoch.0 x r.locks) (sym q) (locks_later U W server life s.epoch.0 s.requests s.locks r.locks (f h.seen) h))

  -- if nothing is outstanding
  idle : (server : ServerId) (life epoch next : ℕ) (c : locks.LockCache) → ((e n : ℕ) → epoch < e → 1 ≤ n → U server life e n) →
      ((n : ℕ) → next ≤ n → U server life epoch n) → LockSeen c → Stand U W server life epoch (record { next = next; asked = None }) c
  idle server life epoch next c l f h = record { later = l; next = f; seen = h; asked = λ q e. no_request q e }

  alike : (xs : List KnownExtent) (server : ServerId) (life : ℕ) (s r : ClientSession) → AsksNothing xs s r → Of U W server life (Some s) → Of U W server life (Some r)
  alike xs server life s r a h = kept_by_locks server life s r a.epoch a.requests (locks_on xs s.locks r.locks a.locks) h

  -- a request after one more: its number was reported to nobody
  asked_new : (server : ServerId) (life : ℕ) (r : ClientSession) (now : Stamp) (body : Body) (cutting : Option ℕ) → MayAsk r cutting body →
      Of U W server life (Some r) → Of U W server life (Some (cp.asking_session r now body cutting))
  unfolding state.asking
  asked_new server life r now body cutting m h =
      record {
        later = h.later;
        next = λ n l. h.next n (omega (arith, l));
        seen = h.seen;
        asked = λ q e. subst (λ (z : Request). RequestGoes U W server life r.epoch.0 r.locks z.number z.body) (some_is e) (record { under = under_held r h.seen cutting body m; was = λ x. inr (h.next r.requests.next (omega arith)) });
      }

  -- a newer epoch, about which nothing was reported
  epoch_new : (server : ServerId) (life : ℕ) (s : ClientSession) (epoch : Epoch) → s.epoch.0 < epoch.0 → Of U W server life (Some s) →
      Of U W server life (Some (cr.in_epoch epoch s))
  unfolding locks.forget_demands
  epoch_new server life s epoch l h = idle server life epoch.0 1 (locks.forget_demands s.locks) (λ d n m. h.later d n (omega (arith, l, m))) (λ n m. h.later epoch.0 n l m) h.seen

  -- Each change of a session, and its begin.
  on : (server : ServerId) (life : ℕ) (st : Store) (s u : ClientSession) → SessionChange st s u → Of U W server life (Some s) → Of U W server life (Some u)
  on server life st s u (Keeps _ _ a) h = alike st.extents server life s u a h
  on server life st s _ (DropsLock _ ino l) h = kept_by_locks server life s (state.with_release ino l.g modes.None (state.with_cache (locks.drop_lock s.locks ino) s)) refl refl (λ h. (old_grants_stay_gone s ino l.g l.mode h).drop) h
  on server life st s _ (IsReasserted _) h = h
  on server life st s _ (EndsRequest _ stamp) h = idle server life s.epoch.0 s.requests.next s.locks h.later h.next h.seen
  on server life st s _ (NewEpoch _ epoch l) h = epoch_new server life s epoch l h
  on server life st s _ (AsksNew _ r now body cutting a c i) h = asked_new server life r now body cutting i.may (alike st.extents server life s r a h)
  on server life st s _ (AsksAgain _ now q a) h =
      record { later = h.later; next = h.next; seen = h.seen; asked = λ r e. subst (λ (z : Request). RequestGoes U W server life s.epoch.0 s.locks z.number z.body) (some_is e) (h.asked q a) }

  first : (server : ServerId) (life : ℕ) (s : ClientSession) → IsBegun s → Of U W server life None → Of U W server life (Some s)
  first server life s (epoch, stamp, e) h =
      subst (λ z. Of U W server life (Some z)) (sym e) (idle server life epoch.0 1 locks.no_cached_locks (λ d n l m. h d n m) (λ n m. h epoch.0 n m) (λ ino l y. none_locked l y))

  abbrev pub K : Turn → Turn → Type 0
  K t u = Of U W t.here.server t.here.life.0 t.here.session → Of U W u.here.server u.here.life.0 u.here.session

  pub kept_by_take : (s : ServerId) (op : ℕ) (ask : Ask) (t : Turn) → K t (only_at s (cl.take_ask op ask) t)
  kept_by_take = sessions.sessions_kept_by_take (λ s l o. Of U W s l o)

  pub kept_by_receive : (now : Stamp) (h : Header) (b : Body) (t : Turn) → Fit t.here → K t (cr.receive_at now h b t)
  kept_by_receive now h b t f = sessions.sessions_kept_by_receive (λ s l o. Of U W s l o) on first now h b t f.fresh

  pub kept_by_finish : (number : ℕ) (r : Option (Option (Tag × List ℕ))) (t : Turn) → K t (cl.finish number r t)
  kept_by_finish = sessions.sessions_kept_by_finish (λ s l o. Of U W s l o)

  pub kept_by_passes : (now : Stamp) (tick : Bool) (t : Turn) → K t (cp.passes now tick t)
  kept_by_passes = sessions.sessions_kept_by_passes (λ s l o. Of U W s l o) on first
