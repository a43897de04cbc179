-- A client with a session hears a demand on a lock: it says that it saw it, or the release of the lock is outstanding or waits.
use Rattle.st_lemmas.proofs.Words
use Words.{◌≡◌, ℕ, ◌≤◌, Bool, true, false, ◌==◌, ◌&&◌, ◌||◌, List, [], ◌∷◌, Option, Some, None, refl, sym, ap, ◌∙◌, subst, inl, suc}
use Words.{slice_get, list_any, nat_le, eq-eqb, eqb-true, le-leb, GrantNo, Stamp, Mode, Header, Body, Message, HeldLock, Release, Request}
use Words.modes
use Words.bodies
use Words.outputs
use Words.ClientLocks as locks
use Words.ClientLocks.{LockCache, lock_of}
use Words.ClientReplies as cr
use Words.ClientState.{ClientSession, Turn, is_release, is_releasing, releases_as, send, with_cache, with_release, with_session}
use Words.Keys.{server_node}
use Words.Lists.{Has}
use Words.Tables.{and_true, cond_either}
use Words.Truth.{not_both}
use Rattle.st_base.specs.Mode.{number_of}
use Words.Members.{has_right}
use Rattle.st_laws_healthy.proofs.Queues.{last_place}

-- the release of a lock to none
abbrev pub release_of : ℕ → GrantNo → Release
release_of ino g = record { ino = ino; g = g; to = modes.None }

-- what a client says of a demand
abbrev pub seen_by : Turn → ClientSession → ℕ → GrantNo → Message
seen_by t s ino g =
    record {
      header = record { from = t.id.0; to = server_node t.here.server; life = t.here.life.0; epoch = s.epoch.0; number = 0; stamp = 0 };
      body = bodies.DemandSeen ino g;
    }

none_is : (m : Mode) → number_of m ≡ number_of modes.None → m ≡ modes.None
none_is modes.None e = refl
none_is modes.S e = cc
none_is modes.X e = cc

grant_is : (g h : GrantNo) → g.0 ≡ h.0 → g ≡ h
grant_is g h e = ap (λ n. record { 0 = n }) e

release_is : (ino : ℕ) (g : GrantNo) (r : Release) → is_release ino g modes.None r ≡ true → r ≡ release_of ino g
release_is ino g r e =
    let a = and_true (r.ino == ino) ((r.g.0 == g.0) && (number_of r.to == number_of modes.None)) e in
    let b = and_true (r.g.0 == g.0) (number_of r.to == number_of modes.None) a.1 in
    ap (λ i. record { ino = i; g = r.g; to = r.to }) (eqb-true r.ino ino a.0)
    ∙ ap (λ (h : GrantNo). record { ino = ino; g = h; to = r.to }) (grant_is r.g g (eqb-true r.g.0 g.0 b.0))
    ∙ ap (λ (m : Mode). record { ino = ino; g = g; to = m }) (none_is r.to (eqb-true (number_of r.to) (number_of modes.None) b.1))

body_is : (ino : ℕ) (g : GrantNo) (b : Body) → releases_as ino g modes.None b ≡ true → b ≡ bodies.Released ino g modes.None
body_is ino g (bodies.Released i h m) e =
    let a = and_true (i == ino) ((h.0 == g.0) && (number_of m == number_of modes.None)) e in
    let b = and_true (h.0 == g.0) (number_of m == number_of modes.None) a.1 in
    ap (λ i. bodies.Released i h m) (eqb-true i ino a.0)
    ∙ ap (λ (h : GrantNo). bodies.Released ino h m) (grant_is h g (eqb-true h.0 g.0 b.0))
    ∙ ap (λ (m : Mode). bodies.Released ino g m) (none_is m (eqb-true (number_of m) (number_of modes.None) b.1))
body_is ino g b e = cc

-- what passes a test has a place
found_place : (p : Release → Bool) (xs : List Release) → list_any p xs ≡ true → (n : ℕ) × ((v : Release) × (slice_get xs n ≡ Some v) × (p v ≡ true))
found_place p [] e = cc
found_place p (x ∷ xs) e = go (p x) refl e (found_place p xs)
  where
    Found : List Release → Type 0
    Found ys = (n : ℕ) × ((v : Release) × (slice_get ys n ≡ Some v) × (p v ≡ true))

    go : (b : Bool) → p x ≡ b → (b || list_any p xs) ≡ true → (list_any p xs ≡ true → Found xs) → Found (x ∷ xs)
    go true f g h = (0, (x, refl, f))
    go false f g h = let z = h g in (suc z.0, (z.1.0, z.1.1, z.1.2))

module _ (t : Turn) (s : ClientSession) (now : Stamp) (h : Header) (ino : ℕ) (g : GrantNo) (to : Mode) (there : t.here.session ≡ Some s)
    (received : cr.is_received t now h ≡ true) (epoch : h.epoch ≡ s.epoch.0) where
  -- a demand that is received goes by the lock
  by_lock : (P : Turn → Type 0) → P (cr.demand_by t s ino g (locks.demand_at s.locks ino g to (lock_of s.locks ino))) →
      P (cr.receive_at now h (bodies.Demand ino g to) t)
  unfolding cr.receive_at cr.by_session cr.with_a_session cr.of_epoch cr.demand locks.demand
  by_lock P p =
      cond_either P (cr.is_received t now h) (cr.by_session t now h (bodies.Demand ino g to) t.here.session) t
      (λ r. subst (λ o. P (cr.by_session t now h (bodies.Demand ino g to) o)) (sym there)
      (cond_either P (h.epoch == s.epoch.0) (cr.of_epoch t s now h (bodies.Demand ino g to))
      (cr.of_other_epoch t s (record { 0 = h.epoch }) (bodies.Demand ino g to)) (λ e. p)
      (λ e. absurd (not_both (h.epoch == s.epoch.0) (eq-eqb h.epoch s.epoch.0 epoch) e)))) (λ r. absurd (not_both (cr.is_received t now h) received r))

  -- with the lock, it says that it saw the demand
  pub held_says : (l : HeldLock) → lock_of s.locks ino ≡ Some l → l.g.0 ≤ g.0 →
      Has (outputs.Send (seen_by t s ino g)) (cr.receive_at now h (bodies.Demand ino g to) t).out
  unfolding cr.demand_by cr.demand_as cr.observe_demand send locks.demand_at locks.demand_held locks.demand_lock locks.demand_stale
  held_says l e le =
      by_lock P
      (subst (λ o. P (cr.demand_by t s ino g (locks.demand_at s.locks ino g to o))) (sym e)
      (cond_either (λ (d : locks.Demanding). P (cr.demand_by t s ino g d)) (nat_le l.g.0 g.0) (locks.demand_lock s.locks ino g to l)
      (locks.demand_stale s.locks) (λ f. has_right t.out (outputs.Send (seen_by t s ino g) ∷ []) (outputs.Send (seen_by t s ino g)) (inl refl))
      (λ f. absurd (not_both (nat_le l.g.0 g.0) (le-leb l.g.0 g.0 le) f))))
    where
      P : Turn → Type 0
      P u = Has (outputs.Send (seen_by t s ino g)) u.out

  -- Without it, the release of the lock is outstanding, or waits.
  pub data Waits (u : Turn) : Type 0 where
    HasAsked : (q : Request) → s.requests.asked ≡ Some q → q.body ≡ bodies.Released ino g modes.None → Waits u
    HasQueued : (v : ClientSession) (place : ℕ) → u.here.session ≡ Some v → slice_get v.releases place ≡ Some (release_of ino g) → Waits u

  unheld : (c : LockCache) → Waits (with_session (cr.release_unheld (with_cache c s) ino g) t)
  unfolding cr.release_unheld
  unheld c =
      cond_either (λ (v : ClientSession). Waits (with_session v t)) (cr.has_release (with_cache c s) ino g) (with_cache c s)
      (with_release ino g modes.None (with_cache c s)) (λ e. there_already (list_any (is_release ino g modes.None) s.releases) refl e)
      (λ e. let z = last_place s.releases (release_of ino g) in HasQueued (with_release ino g modes.None (with_cache c s)) z.0 refl z.1)
    where
      asked : (o : Option Request) → s.requests.asked ≡ o → is_releasing ino g modes.None o ≡ true → Waits (with_session (with_cache c s) t)
      asked None e f = cc
      asked (Some q) e f = HasAsked q e (body_is ino g q.body f)

      there_already : (b : Bool) → list_any (is_release ino g modes.None) s.releases ≡ b →
          (list_any (is_release ino g modes.None) s.releases || is_releasing ino g modes.None s.requests.asked) ≡ true →
          Waits (with_session (with_cache c s) t)
      there_already true e f =
          let z = found_place (is_release ino g modes.None) s.releases e in
          HasQueued (with_cache c s) z.0 refl (z.1.1 ∙ ap (λ (r : Release). Some r) (release_is ino g z.1.0 z.1.2))
      there_already false e f =
          asked s.requests.asked refl (sym (ap (λ b. b || is_releasing ino g modes.None s.requests.asked) e) ∙ f)

  pub unheld_waits : lock_of s.locks ino ≡ None → Waits (cr.receive_at now h (bodies.Demand ino g to) t)
  unfolding cr.demand_by cr.demand_as locks.demand_at locks.demand_unheld
  unheld_waits e =
      by_lock Waits
      (subst (λ o. Waits (cr.demand_by t s ino g (locks.demand_at s.locks ino g to o))) (sym e)
      (unheld (locks.observe s.locks ino (locks.greater_grant (locks.seen_of s.locks ino) g))))
