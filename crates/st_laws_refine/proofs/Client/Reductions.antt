-- Reductions of demanded files.
use Rattle.st_lemmas.proofs.Words
use Words.{◌≡◌, ℕ, ◌≤◌, Bool, true, false, not, List, [], ◌∷◌, Option, Some, None, refl, sym, ap, subst, inl, inr, arith, if◌then◌else◌, find}
use Words.{Mode, HeldLock, DemandedFile}
use Words.modes
use Words.ClientLocks as locks
use Words.ClientLocks.{lock_of, is_lock_on, is_demand_on, held_lock}
use Words.ClientPages as pages
use Words.ClientPages.{Store, is_write}
use Words.ClientState as st
use Words.ClientState.{ClientSession, Turn, with_session}
use Words.ClientPasses as cp
use Words.Lookups.{some_is, found_ino}
use Words.Tables.{and_true, not_true}
use Words.Tests.{none_of_fewer}
use Rattle.st_base.specs.Mode.{number_of}
use Rattle.st_protocol.specs.Assoc.{Config, Lock, Msg, msg, In, Demanded, Reduces}
use Rattle.st_protocol.specs.Assoc as net
use Rattle.st_laws_refine.specs.Views.Messages.{released_to}
use Rattle.st_laws_refine.specs.Views.Halves.{held_at, busy_in, client_of}
use Rattle.st_laws_refine.specs.Client.Invariants.{at, Beside, Told, AllTold, Ready, Result, Goes}
use Rattle.st_laws_refine.proofs.Views.Moves.{one_to}
use Rattle.st_laws_refine.proofs.Client.Goes.{frame_same, waiting_both, ready_more, alive, goes_same, goes_then, if_goes, rests_goes}
use Rattle.st_laws_refine.proofs.Client.Replies.{lock_set, told_filter, modes_put, mode_found, wait_gone}
use Rattle.st_laws_refine.proofs.Client.Effects.{dropped_goes}
use Rattle.std.proofs.lemmas.Bool.{or_from}

pub told_found : (life epoch : ℕ) (p : DemandedFile → Bool) (ds : List DemandedFile) (d : DemandedFile) (N : List Msg) → AllTold life epoch ds N → find p ds ≡ Some d → Told life epoch d N
told_found life epoch p [] d N s e = cc
told_found life epoch p (x ∷ ds) d N s e = go (p x) e (told_found life epoch p ds d N s.rest)
  where
    go : (b : Bool) → (if b then Some x else find p ds) ≡ Some d → (find p ds ≡ Some d → Told life epoch d N) → Told life epoch d N
    go true e f = subst (λ z. Told life epoch z N) (some_is e) s.one
    go false e f = f e

pub idle_free : (x : Store) (ino : ℕ) → pages.is_idle x ino ≡ true → busy_in x ino ≡ false
idle_free x ino e =
    let p = and_true (not (pages.has_dirty x.pages ino)) (not (pages.is_outstanding x.commands ino)) e in
    or_from (pages.has_dirty x.pages ino) (pages.has_write_on x.commands ino) (not_true _ p.0)
    (none_of_fewer (pages.is_write_on ino) (pages.is_command_on ino) (λ c h. (and_true (is_write c.kind) _ h).1) x.commands (not_true _ p.1))

module _ (k : Config) (sv : Beside) (now : ℕ) (hs : List Msg) where
  -- to shared
  lowered_goes : (t : Turn) (s : ClientSession) (d : DemandedFile) (l : HeldLock) (ino : ℕ) → locks.demand_of s.locks ino ≡ Some d → lock_of s.locks ino ≡ Some l → busy_in t.here.store ino ≡ false → (to : Mode) → released_to to ≡ 1 →
      Goes k sv now hs (with_session s t)
      (with_session (st.with_release ino l.g to (st.with_cache (record s.locks { rows = locks.with_lock (held_lock ino l.g modes.S) s.locks.rows; demanded = locks.without_demand ino s.locks.demanded }) s)) t)
  lowered_goes t s d l ino ds is free to one_ = record { frame = frame_same _ _ _ _; go = go }
    where
      u : ClientSession
      u = st.with_release ino l.g to (st.with_cache (record s.locks { rows = locks.with_lock (held_lock ino l.g modes.S) s.locks.rows; demanded = locks.without_demand ino s.locks.demanded }) s)

      c : Msg
      c = msg t.here.life.0 s.epoch.0 0 (net.Released ino l.g.0 1)

      go : (N : List Msg) → Ready k now hs (with_session s t) N → Result k sv sv now hs (with_session s t) (with_session u t) N
      go N r =
          let some : 1 ≤ number_of l.mode = mode_found (is_lock_on ino) s.locks.rows l r.kept.modes is in
          let g : held_at (Some l) ≡ held_at (lock_of s.locks ino) = sym (ap held_at is) in
          let gg : l.g.0 ≡ (held_at (lock_of s.locks ino)).g = ap (λ (m : Lock). m.g) g in
          let td = told_found _ _ (is_demand_on ino) s.locks.demanded d N r.kept.told ds in
          let x = ready_more k now hs (with_session s t) N (c ∷ N) (λ x i. inr i) r in
          record {
            net = c ∷ N;
            moves =
                one_to (at sv now (with_session u t) (c ∷ N))
                (Reduces (at sv now (with_session s t) N) ino 1 (alive k sv now hs t s N r)
                (Demanded td.stamp d.ino td.g td.to td.is) free (subst (λ (m : Lock). 1 ≤ m.mode) g some) (subst (λ (m : Lock). 1 ≤ m.mode) g some) l.g.0 (omega (arith, gg)) (λ h. omega (arith, gg))) refl
                (λ j. record {
                  c = record (client_of sv.ended now (with_session s t).here) {
                    held = λ e. sym (lock_set s.locks.rows (held_lock ino l.g modes.S) e) j;
                  };
                  s = sv.s;
                  net = msg t.here.life.0 s.epoch.0 0 (net.Released ino (sym gg j) 1) ∷ N;
                });
            ready =
                record {
                  terms = x.terms;
                  born = x.born;
                  lasts = x.lasts;
                  said = x.said;
                  kept =
                      record {
                        queue = waiting_both _ _ s.releases _ (c ∷ N) x.kept.queue (record { one = subst (λ m. In (msg t.here.life.0 s.epoch.0 0 (net.Released ino l.g.0 m)) (c ∷ N)) (sym one_) (inl refl); rest = record {} });
                        asked = x.kept.asked;
                        told = told_filter _ _ _ s.locks.demanded (c ∷ N) x.kept.told;
                        modes = modes_put _ (held_lock ino l.g modes.S) s.locks.rows x.kept.modes (omega arith);
                        quiet = x.kept.quiet;
                      };
                  received = x.received;
                };
          }

  -- the lock of a demanded file
  given_goes : (t : Turn) (s : ClientSession) (d : DemandedFile) (l : HeldLock) (ino : ℕ) (to : Mode) → locks.demand_of s.locks ino ≡ Some d → d.to ≡ to → lock_of s.locks ino ≡ Some l → busy_in t.here.store ino ≡ false →
      Goes k sv now hs (with_session s t) (cp.reduce_to (with_session s t) (st.with_cache (locks.lower s.locks ino l to) s) ino l.g to)
  unfolding cp.reduce_to locks.lower pages.forget_from pages.drop_from locks.drop_lock
  given_goes t s d l ino modes.None ds dt is free =
      goes_then k sv now hs (with_session s t) (with_session u t) _
      (goes_then k sv now hs (with_session s t) (with_session w t) (with_session u t) (wait_gone k sv now hs t s _)
      (dropped_goes k sv now hs t w u ino l is free (λ N r. let td = told_found _ _ (is_demand_on ino) s.locks.demanded d N r.kept.told ds in Demanded td.stamp d.ino td.g td.to td.is) refl))
      (rests_goes k sv now hs (with_session u t) _ (λ i e. e))
    where
      w : ClientSession
      w = st.forget_wait ino s

      u : ClientSession
      u = cp.released (st.with_cache (locks.lower s.locks ino l modes.None) s) ino l.g modes.None
  given_goes t s d l ino modes.S ds dt is free =
      goes_then k sv now hs (with_session s t) (with_session w t) _ (wait_gone k sv now hs t s _)
      (lowered_goes t w d l ino ds is free modes.S refl)
    where
      w : ClientSession
      w = st.forget_wait ino s
  given_goes t s d l ino modes.X ds dt is free =
      goes_then k sv now hs (with_session s t) (with_session w t) _ (wait_gone k sv now hs t s _)
      (lowered_goes t w d l ino ds is free modes.X refl)
    where
      w : ClientSession
      w = st.forget_wait ino s

  idle_goes : (t : Turn) (s : ClientSession) (ino : ℕ) → Goes k sv now hs (with_session s t) (cp.reduce_idle (with_session s t) s ino)
  unfolding cp.reduce_idle cp.reduce_by cp.reduce_given locks.reduce locks.reduce_at locks.reduce_lock
  idle_goes t s ino =
      if_goes k sv now hs (with_session s t) (cp.may_reduce (with_session s t) s ino) _ (with_session s t)
      (λ h. demanded (idle_free t.here.store ino (and_true (pages.is_idle t.here.store ino) _ h).0) (locks.demand_of s.locks ino) refl) (λ h. goes_same k sv now hs (with_session s t))
    where
      locked : (d : DemandedFile) → busy_in t.here.store ino ≡ false → locks.demand_of s.locks ino ≡ Some d → d.ino ≡ ino → (o : Option HeldLock) → lock_of s.locks d.ino ≡ o → Goes k sv now hs (with_session s t) (cp.reduce_by (with_session s t) s ino (locks.reduce_lock s.locks d o))
      locked d free ds e None is = goes_same k sv now hs (with_session s t)
      locked d free ds e (Some l) is =
          subst (λ n. Goes k sv now hs (with_session s t) (cp.reduce_to (with_session s t) (st.with_cache (locks.lower s.locks n l d.to) s) ino l.g d.to)) (sym e)
          (given_goes t s d l ino d.to ds refl (subst (λ n. lock_of s.locks n ≡ Some l) e is) free)

      demanded : busy_in t.here.store ino ≡ false → (o : Option DemandedFile) → locks.demand_of s.locks ino ≡ o → Goes k sv now hs (with_session s t) (cp.reduce_by (with_session s t) s ino (locks.reduce_at s.locks o))
      demanded free None ds = goes_same k sv now hs (with_session s t)
      demanded free (Some d) ds = locked d free ds (found_ino (λ (r : DemandedFile). r.ino) ino d s.locks.demanded ds) (lock_of s.locks d.ino) refl

  pub with_it : (t : Turn) (o : Option ClientSession) → t.here.session ≡ o → t ≡ record t { here = record t.here { session = o } }
  with_it t o q = λ j. record t { here = record t.here { session = q j } }

  reduce_goes : (t : Turn) (ino : ℕ) (o : Option ClientSession) → t.here.session ≡ o → Goes k sv now hs t (cp.reduce t ino o)
  unfolding cp.reduce
  reduce_goes t ino None q = goes_same k sv now hs t
  reduce_goes t ino (Some s) q = subst (λ u. Goes k sv now hs u (cp.reduce_idle u s ino)) (sym (with_it t (Some s) q)) (idle_goes t s ino)

  reduces_goes : (inos : List ℕ) (t : Turn) → Goes k sv now hs t (cp.reduce_each inos t)
  unfolding cp.reduce_each
  reduces_goes [] t = goes_same k sv now hs t
  reduces_goes (ino ∷ inos) t = let u : Turn = cp.reduce t ino t.here.session in goes_then k sv now hs t u _ (reduce_goes t ino t.here.session refl) (reduces_goes inos u)

  pub reductions_goes : (t : Turn) → Goes k sv now hs t (cp.reductions t)
  unfolding cp.reductions
  reductions_goes t = reduces_goes (cp.files_demanded t.here.session) t
