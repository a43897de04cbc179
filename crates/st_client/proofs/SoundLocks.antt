-- The locks and the releases of a session stay in the ranges of messages: a grant, a demand, a reduction, a lock that is dropped.
use Rattle.st_lemmas.proofs.Words
use Words.{◌≡◌, ℕ, ◌≤◌, true, ◌&&◌, ◌||◌, not, length, refl, sym, ap, subst, ◌∙◌, arith, nat_lt, is_some, Option, Some, None, ⊤, list_all, eqb-true, GrantNo}
use Words.{Mode, DemandedFile, HeldLock}
use Words.modes
use Words.Tables.{and_true, and_both, cond_either, each_passes, found_at}
use Words.Ranges.{is_grant, is_ino, is_mode}
use Words.ClientLocks as locks
use Words.ClientLocks.{LockCache, is_demand_on, is_lock_on}
use Words.ClientReplies.{accept_grant, decline, grant, grant_new, release_unheld, has_release}
use Words.ClientState.{ClientSession, with_cache, with_release}
use Words.Tests.{all_last, filtered_no_longer}
use Words.Truth.{if_either}
use Rattle.st_base.specs.Mode.{covers}
use Rattle.st_client.proofs.SoundLists.{all_filter, all_put, put_fits}
use Rattle.st_client.proofs.SoundMessages.{FitSession, held_sound}
use Rattle.st_client.specs.Invariants.{AreSoundLocks, is_sound_demand, is_sound_lock, is_sound_release}

-- an inode, a grant and a mode in their ranges
pub lock_is : (ino : ℕ) (g : GrantNo) (mode : Mode) → is_ino ino ≡ true → is_grant g ≡ true → is_mode 1 2 mode ≡ true → is_sound_lock (locks.held_lock ino g mode) ≡ true
lock_is ino g mode i e m = and_both (is_ino ino) (is_grant g && is_mode 1 2 mode) i (and_both (is_grant g) (is_mode 1 2 mode) e m)

pub lock_parts : (l : HeldLock) → is_sound_lock l ≡ true → (is_ino l.ino ≡ true) × (is_grant l.g ≡ true) × (is_mode 1 2 l.mode ≡ true)
lock_parts l e =
    let s = and_true (is_ino l.ino) (is_grant l.g && is_mode 1 2 l.mode) e in
    let r = and_true (is_grant l.g) (is_mode 1 2 l.mode) s.1 in
    (s.0, r.0, r.1)

pub release_is : (ino : ℕ) (g : GrantNo) (to : Mode) → is_ino ino ≡ true → is_grant g ≡ true → is_mode 0 1 to ≡ true → (is_ino ino && (is_grant g && is_mode 0 1 to)) ≡ true
release_is ino g to i e m = and_both (is_ino ino) (is_grant g && is_mode 0 1 to) i (and_both (is_grant g) (is_mode 0 1 to) e m)

module _ (most : ℕ) where
  -- with other locks
  pub cache_fit : (s : ClientSession) (c : LockCache) → AreSoundLocks c → FitSession most s → FitSession most (with_cache c s)
  cache_fit s c l h = record { sound = record { epoch = h.sound.epoch; next = h.sound.next; asked = h.sound.asked; locks = l; releases = h.sound.releases }; room = h.room }

  -- with one more release
  pub release_fit : (s : ClientSession) (ino : ℕ) (g : GrantNo) (to : Mode) → is_ino ino ≡ true → is_grant g ≡ true → is_mode 0 1 to ≡ true → FitSession most s →
      FitSession most (with_release ino g to s)
  release_fit s ino g to i e m h =
      record {
        sound =
            record {
              epoch = h.sound.epoch;
              next = h.sound.next;
              asked = h.sound.asked;
              locks = h.sound.locks;
              releases = all_last is_sound_release s.releases (record { ino = ino; g = g; to = to }) h.sound.releases (release_is ino g to i e m);
            };
        room = h.room;
      }

-- Grants.

installed_sound : (c : LockCache) (ino : ℕ) (g : GrantNo) (mode : Mode) → is_ino ino ≡ true → is_grant g ≡ true → is_mode 1 2 mode ≡ true → locks.has_place c ino ≡ true → AreSoundLocks c →
    AreSoundLocks (locks.installed c ino g mode)
unfolding locks.installed
installed_sound c ino g mode i e m p h =
    record {
      rows = all_put is_sound_lock (is_lock_on ino) (locks.held_lock ino g mode) c.rows (lock_is ino g mode i e m) h.rows;
      few = put_fits (is_lock_on ino) (locks.held_lock ino g mode) c.rows c.limit h.few p;
      limit = h.limit;
      demanded = all_filter is_sound_demand (λ d. not (is_demand_on ino d)) c.demanded h.demanded;
    }

see_sound : (c : LockCache) (ino : ℕ) (g : GrantNo) → AreSoundLocks c → AreSoundLocks (locks.observe c ino g)
unfolding locks.observe
see_sound c ino g h = h

grant_new_fit : (most : ℕ) (s : ClientSession) (ino : ℕ) (g : GrantNo) (mode : Mode) → is_ino ino ≡ true → is_grant g ≡ true → is_mode 1 2 mode ≡ true → FitSession most s →
    FitSession most (grant_new s ino g mode)
unfolding grant_new accept_grant decline
grant_new_fit most s ino g mode i e m h =
    cond_either (FitSession most) (locks.has_place s.locks ino) (accept_grant s ino g mode) (decline s ino g)
    (λ p. cache_fit most s (locks.installed s.locks ino g mode) (installed_sound s.locks ino g mode i e m p h.sound.locks) h)
    (λ p. release_fit most (with_cache (locks.observe s.locks ino g) s) ino g modes.None i e refl (cache_fit most s (locks.observe s.locks ino g) (see_sound s.locks ino g h.sound.locks) h))

pub grant_fit : (most : ℕ) (s : ClientSession) (ino : ℕ) (g : GrantNo) (mode : Mode) → is_ino ino ≡ true → is_grant g ≡ true → is_mode 1 2 mode ≡ true → FitSession most s →
    FitSession most (grant s ino g mode)
unfolding grant
grant_fit most s ino g mode i e m h = if_either (FitSession most) (locks.is_above_seen s.locks ino g) (grant_new s ino g mode) s
    (grant_new_fit most s ino g mode i e m h) h

-- Demands.

lesser_fits : (to : Mode) (d : DemandedFile) → is_mode 0 1 to ≡ true → is_sound_demand d ≡ true → is_mode 0 1 (locks.lesser to d.to) ≡ true
lesser_fits to d m e = if_either (λ (n : Mode). is_mode 0 1 n ≡ true) (covers d.to to) to d.to m e

demand_fits : (c : LockCache) (ino : ℕ) (to : Mode) → is_mode 0 1 to ≡ true → AreSoundLocks c → is_mode 0 1 (locks.lesser_demand to (locks.demand_of c ino)) ≡ true
demand_fits c ino to m h = by (locks.demand_of c ino) refl
  where
    by : (o : Option DemandedFile) → locks.demand_of c ino ≡ o → is_mode 0 1 (locks.lesser_demand to o) ≡ true
    by None e = m
    by (Some d) e = lesser_fits to d m (each_passes is_sound_demand c.demanded h.demanded d (found_at (is_demand_on ino) c.demanded d e).1)

found_is : {A : Type 0} (o : Option A) (x : A) → o ≡ Some x → is_some o ≡ true
found_is o x e = ap is_some e

demand_lock_sound : (c : LockCache) (ino : ℕ) (g : GrantNo) (to : Mode) (l : HeldLock) → is_ino ino ≡ true → is_grant g ≡ true → is_mode 0 1 to ≡ true → locks.lock_of c ino ≡ Some l → AreSoundLocks c →
    AreSoundLocks (locks.demand_lock c ino g to l).locks
unfolding locks.demand_lock
demand_lock_sound c ino g to l i e m f h =
    let p = lock_parts l (held_sound c ino l h.rows f).1 in
    record {
      rows = all_put is_sound_lock (is_lock_on ino) (locks.held_lock ino g l.mode) c.rows (lock_is ino g l.mode i e p.2) h.rows;
      few = put_fits (is_lock_on ino) (locks.held_lock ino g l.mode) c.rows c.limit h.few (ap (λ b. b || nat_lt (length c.rows) c.limit) (found_is (locks.lock_of c ino) l f));
      limit = h.limit;
      demanded =
          all_last is_sound_demand (locks.without_demand ino c.demanded) (locks.demanded_file ino (locks.lesser_demand to (locks.demand_of c ino)))
          (all_filter is_sound_demand (λ d. not (is_demand_on ino d)) c.demanded h.demanded) (demand_fits c ino to m h);
    }

pub demand_sound : (c : LockCache) (ino : ℕ) (g : GrantNo) (to : Mode) → is_ino ino ≡ true → is_grant g ≡ true → is_mode 0 1 to ≡ true → AreSoundLocks c → AreSoundLocks (locks.demand c ino g to).locks
unfolding locks.demand locks.demand_at locks.demand_unheld locks.demand_held locks.demand_stale locks.observe
demand_sound c ino g to i e m h = by (locks.lock_of c ino) refl
  where
    by : (o : Option HeldLock) → locks.lock_of c ino ≡ o → AreSoundLocks (locks.demand_at c ino g to o).locks
    by None f = h
    by (Some l) f =
        if_either (λ (d : locks.Demanding). AreSoundLocks d.locks) _ (locks.demand_lock c ino g to l) (locks.demand_stale c)
        (demand_lock_sound c ino g to l i e m f h) h

pub unheld_fit : (most : ℕ) (s : ClientSession) (ino : ℕ) (g : GrantNo) → is_ino ino ≡ true → is_grant g ≡ true → FitSession most s → FitSession most (release_unheld s ino g)
unfolding release_unheld
unheld_fit most s ino g i e h =
    if_either (FitSession most) (has_release s ino g) s (with_release ino g modes.None s) h (release_fit most s ino g modes.None i e refl h)

-- Reductions: what is given up, and the locks that are left.

abbrev pub FitGiven : ℕ → Option (GrantNo × Mode) → Type 0
FitGiven ino None = ⊤
FitGiven ino (Some given) = (is_ino ino ≡ true) × (is_grant given.0 ≡ true) × (is_mode 0 1 given.1 ≡ true)

lowered_sound : (c : LockCache) (ino : ℕ) (l : HeldLock) (to : Mode) → locks.lock_of c ino ≡ Some l → AreSoundLocks c →
    (list_all is_sound_lock (locks.lowered_rows c.rows ino l to) ≡ true) × (length (locks.lowered_rows c.rows ino l to) ≤ c.limit)
lowered_sound c ino l to f h = by to
  where
    shared : (list_all is_sound_lock (locks.with_lock (locks.held_lock ino l.g modes.S) c.rows) ≡ true) × (length (locks.with_lock (locks.held_lock ino l.g modes.S) c.rows) ≤ c.limit)
    shared =
        let s = held_sound c ino l h.rows f in
        let p = lock_parts l s.1 in (
          all_put is_sound_lock (is_lock_on ino) (locks.held_lock ino l.g modes.S) c.rows (lock_is ino l.g modes.S (ap is_ino (sym s.0) ∙ p.0) p.1 refl) h.rows,
          put_fits (is_lock_on ino) (locks.held_lock ino l.g modes.S) c.rows c.limit h.few (ap (λ b. b || nat_lt (length c.rows) c.limit) (found_is (locks.lock_of c ino) l f)),
        )

    by : (m : Mode) → (list_all is_sound_lock (locks.lowered_rows c.rows ino l m) ≡ true) × (length (locks.lowered_rows c.rows ino l m) ≤ c.limit)
    by modes.None =
        let n = filtered_no_longer (λ r. not (is_lock_on ino r)) c.rows in
        let k = h.few in
        (all_filter is_sound_lock (λ r. not (is_lock_on ino r)) c.rows h.rows, omega (arith, n, k))
    by modes.S = shared
    by modes.X = shared

abbrev FitReduced : ℕ → locks.Reduced → Type 0
FitReduced ino r = AreSoundLocks r.locks × FitGiven ino r.given

reduce_lock_fit : (c : LockCache) (d : DemandedFile) (o : Option HeldLock) → is_sound_demand d ≡ true → locks.lock_of c d.ino ≡ o → AreSoundLocks c → FitReduced d.ino (locks.reduce_lock c d o)
unfolding locks.reduce_lock locks.lower
reduce_lock_fit c d None e f h = (h, tt)
reduce_lock_fit c d (Some l) e f h =
    let s = held_sound c d.ino l h.rows f in
    let p = lock_parts l s.1 in
    let r = lowered_sound c d.ino l d.to f h in (
      record { rows = r.0; few = r.1; limit = h.limit; demanded = all_filter is_sound_demand (λ x. not (is_demand_on d.ino x)) c.demanded h.demanded },
      (ap is_ino (sym s.0) ∙ p.0, p.1, e),
    )

pub reduce_fit : (c : LockCache) (ino : ℕ) → AreSoundLocks c → FitReduced ino (locks.reduce c ino)
unfolding locks.reduce locks.reduce_at
reduce_fit c ino h = by (locks.demand_of c ino) refl
  where
    by : (o : Option DemandedFile) → locks.demand_of c ino ≡ o → FitReduced ino (locks.reduce_at c o)
    by None f = (h, tt)
    by (Some d) f =
        let k = found_at (is_demand_on ino) c.demanded d f in
        subst (λ i. FitReduced i (locks.reduce_lock c d (locks.lock_of c d.ino))) (eqb-true d.ino ino k.0)
        (reduce_lock_fit c d (locks.lock_of c d.ino) (each_passes is_sound_demand c.demanded h.demanded d k.1) refl h)

-- Dropping.

pub drop_sound : (c : LockCache) (ino : ℕ) → AreSoundLocks c → AreSoundLocks (locks.drop_lock c ino)
unfolding locks.drop_lock
drop_sound c ino h =
    let n = filtered_no_longer (λ r. not (is_lock_on ino r)) c.rows in
    let k = h.few in
    record {
      rows = all_filter is_sound_lock (λ r. not (is_lock_on ino r)) c.rows h.rows;
      few = omega (arith, n, k);
      limit = h.limit;
      demanded = all_filter is_sound_demand (λ d. not (is_demand_on ino d)) c.demanded h.demanded;
    }
