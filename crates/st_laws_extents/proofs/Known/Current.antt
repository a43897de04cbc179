-- What a client does with its locks leaves no old grant as a file's lock again.
use Rattle.st_lemmas.proofs.Words
use Words.{◌≡◌, ◌≢◌, ◌⊎◌, ℕ, ◌≤◌, Bool, true, false, not, ◌==◌, List, Option, Some, None, refl, sym, ap, ◌∙◌, subst, inl, inr, arith, if◌then◌else◌, ◌||◌, find}
use Words.{is_some, nat_le, nat_lt, option_map, unwrap_or, eq-eqb, eqb-true, leb-true, ltb-true, GrantNo, Mode, DemandedFile, HeldLock, SeenGrant}
use Words.modes
use Words.ClientLocks as locks
use Words.ClientLocks.{LockCache, lock_of, seen_of}
use Words.ClientReplies as cr
use Words.ClientReplies.{is_grant}
use Words.ClientState.{ClientSession}
use Words.Lookups.{some_is}
use Words.Tables.{find_gone, find_kept, same_or_not}
use Rattle.st_lemmas.proofs.Puts.{find_put_at}
use Rattle.st_laws_extents.specs.Known.Current.{LockSeen, LocksGoOn, OldGrantsStayGone}

-- the grant of a lock
is_grant_of : (g : GrantNo) (l : HeldLock) → is_grant g (Some l) ≡ true → l.g.0 ≡ g.0
is_grant_of g l e = eqb-true l.g.0 g.0 e

-- locks that are as they were
pub go_same : (c : LockCache) → LockSeen c → LocksGoOn c c
go_same c h = record { rises = λ ino. omega arith; same = λ ino g l e. e; seen = h }

-- At one file another lock or none, and a grant that was seen.
module _ (c d : LockCache) (ino : ℕ) (lock : Option HeldLock) (g : GrantNo) (h : LockSeen c) (up : (seen_of c ino).0 ≤ g.0) (own : lock_of d ino ≡ lock) (now : (seen_of d ino).0 ≡ g.0)
    (others : (j : ℕ) → j ≢ ino → (lock_of d j ≡ lock_of c j) × (seen_of d j ≡ seen_of c j))
    (has : (l : HeldLock) → lock ≡ Some l → (l.g.0 ≡ g.0) × ((k : GrantNo) → k.0 ≤ (seen_of c ino).0 → is_grant k (Some l) ≡ true → is_grant k (lock_of c ino) ≡ true)) where
  pub go_at : LocksGoOn c d
  go_at = record { rises = λ j. rises j (same_or_not j ino); same = λ j k l e. same j k l e (same_or_not j ino); seen = λ j l e. seen j l e (same_or_not j ino) }
    where
      rises : (j : ℕ) → (j ≡ ino) ⊎ (j ≢ ino) → (seen_of c j).0 ≤ (seen_of d j).0
      rises j (inl q) = subst (λ n. (seen_of c n).0 ≤ (seen_of d n).0) (sym q) (omega (arith, up, now))
      rises j (inr n) = let z = ap (λ (x : GrantNo). x.0) (others j n).1 in omega (arith, z)

      at : (k : GrantNo) → k.0 ≤ (seen_of c ino).0 → (o : Option HeldLock) → lock ≡ o → is_grant k o ≡ true → is_grant k (lock_of c ino) ≡ true
      at k l None q e = cc e
      at k l (Some x) q e = (has x q).1 k l e

      same : (j : ℕ) (k : GrantNo) → k.0 ≤ (seen_of c j).0 → is_grant k (lock_of d j) ≡ true → (j ≡ ino) ⊎ (j ≢ ino) → is_grant k (lock_of c j) ≡ true
      same j k l e (inl q) =
          subst (λ n. is_grant k (lock_of c n) ≡ true) (sym q)
          (at k (subst (λ n. k.0 ≤ (seen_of c n).0) q l) lock refl (subst (λ o. is_grant k o ≡ true) own (subst (λ n. is_grant k (lock_of d n) ≡ true) q e)))
      same j k l e (inr n) = subst (λ o. is_grant k o ≡ true) (others j n).0 e

      seen : (j : ℕ) (l : HeldLock) → lock_of d j ≡ Some l → (j ≡ ino) ⊎ (j ≢ ino) → l.g.0 ≡ (seen_of d j).0
      seen j l e (inl q) = subst (λ n. l.g.0 ≡ (seen_of d n).0) (sym q) ((has l (sym own ∙ subst (λ n. lock_of d n ≡ Some l) q e)).0 ∙ sym now)
      seen j l e (inr n) = let z = others j n in h j l (sym z.0 ∙ e) ∙ ap (λ (x : GrantNo). x.0) (sym z.1)

-- tables in which a row is put
lock_put : (l : HeldLock) (rows : List HeldLock) (d : ℕ) → find (locks.is_lock_on d) (locks.with_lock l rows) ≡ (if d == l.ino then Some l else find (locks.is_lock_on d) rows)
lock_put l rows d = find_put_at (λ (r : HeldLock). r.ino) l d rows

seen_put : (ino : ℕ) (g : GrantNo) (rows : List SeenGrant) (d : ℕ) → find (locks.is_seen_on d) (locks.with_seen ino g rows) ≡ (if d == ino then Some (locks.seen_grant ino g) else find (locks.is_seen_on d) rows)
seen_put ino g rows d = find_put_at (λ (r : SeenGrant). r.ino) (locks.seen_grant ino g) d rows

ne : (a b : ℕ) → a ≢ b → (a == b) ≡ false
ne a b n = Rattle.std.proofs.lemmas.Bool.ne_eqb a b n

-- A grant is installed, or a lock has the grant of a demand.
module _ (c : LockCache) (ino : ℕ) (g : GrantNo) (mode : Mode) (d : LockCache) (rows : d.rows ≡ locks.with_lock (locks.held_lock ino g mode) c.rows) (seen : d.seen ≡ locks.with_seen ino g c.seen) where
  put_own : lock_of d ino ≡ Some (locks.held_lock ino g mode)
  put_own = ap (find (locks.is_lock_on ino)) rows ∙ lock_put (locks.held_lock ino g mode) c.rows ino ∙ ap (λ b. if b then Some (locks.held_lock ino g mode) else find (locks.is_lock_on ino) c.rows) (eq-eqb ino ino refl)

  seen_own : (seen_of d ino).0 ≡ g.0
  seen_own = ap (λ o. (unwrap_or (option_map locks.g_seen o) locks.no_grant).0) (ap (find (locks.is_seen_on ino)) seen ∙ seen_put ino g c.seen ino ∙ ap (λ b. if b then Some (locks.seen_grant ino g) else find (locks.is_seen_on ino) c.seen) (eq-eqb ino ino refl))

  put_others : (j : ℕ) → j ≢ ino → (lock_of d j ≡ lock_of c j) × (seen_of d j ≡ seen_of c j)
  put_others j n = (
    ap (find (locks.is_lock_on j)) rows ∙ lock_put (locks.held_lock ino g mode) c.rows j ∙ ap (λ b. if b then Some (locks.held_lock ino g mode) else find (locks.is_lock_on j) c.rows) (ne j ino n),
    ap (λ o. unwrap_or (option_map locks.g_seen o) locks.no_grant) (ap (find (locks.is_seen_on j)) seen ∙ seen_put ino g c.seen j ∙ ap (λ b. if b then Some (locks.seen_grant ino g) else find (locks.is_seen_on j) c.seen) (ne j ino n)),
  )

-- Installing a grant above the greatest seen.
pub install_goes_on : (c : LockCache) (ino : ℕ) (g : GrantNo) (mode : Mode) → LockSeen c → locks.is_above_seen c ino g ≡ true → LocksGoOn c (locks.installed c ino g mode)
unfolding locks.installed
install_goes_on c ino g mode h above =
    let l = ltb-true (seen_of c ino).0 g.0 above in
    go_at c (locks.installed c ino g mode) ino (Some (locks.held_lock ino g mode)) g h (omega (arith, l)) (put_own c ino g mode (locks.installed c ino g mode) refl refl) (seen_own c ino g mode (locks.installed c ino g mode) refl refl)
    (put_others c ino g mode (locks.installed c ino g mode) refl refl)
    (λ x e. let y = ap (λ (z : HeldLock). z.g.0) (some_is e) in (sym y, λ k m q. let z = is_grant_of k x q in absurd (omega (arith, l, y, m, z))))

-- A demand of a lock that is held.
pub demand_goes_on : (c : LockCache) (ino : ℕ) (g : GrantNo) (to : Mode) (l : HeldLock) → LockSeen c → lock_of c ino ≡ Some l → l.g.0 ≤ g.0 → LocksGoOn c (locks.demand_lock c ino g to l).locks
unfolding locks.demand_lock
demand_goes_on c ino g to l h e up =
    let s = h ino l e in
    go_at c (locks.demand_lock c ino g to l).locks ino (Some (locks.held_lock ino g l.mode)) g h (omega (arith, s, up)) (put_own c ino g l.mode (locks.demand_lock c ino g to l).locks refl refl) (seen_own c ino g l.mode (locks.demand_lock c ino g to l).locks refl refl)
    (put_others c ino g l.mode (locks.demand_lock c ino g to l).locks refl refl)
    (λ x q. let y = ap (λ (z : HeldLock). z.g.0) (some_is q) in
    (sym y, λ k m r. let z = is_grant_of k x r in subst (λ o. is_grant k o ≡ true) (sym e) (eq-eqb l.g.0 k.0 (omega (arith, s, up, y, m, z)))))

-- Locks of which some are gone, or are lower.
go_less : (c d : LockCache) → LockSeen c → ((j : ℕ) → (seen_of d j).0 ≡ (seen_of c j).0) → ((j : ℕ) (k : GrantNo) → is_grant k (lock_of d j) ≡ true → is_grant k (lock_of c j) ≡ true) → LocksGoOn c d
go_less c d h e f =
    record {
      rises = λ j. let z = e j in omega (arith, z);
      same = λ j k l q. f j k q;
      seen = λ j l q. at j l (lock_of c j) refl (f j l.g (subst (λ o. is_grant l.g o ≡ true) (sym q) (eq-eqb l.g.0 l.g.0 refl)));
    }
  where
    at : (j : ℕ) (l : HeldLock) (o : Option HeldLock) → lock_of c j ≡ o → is_grant l.g o ≡ true → l.g.0 ≡ (seen_of d j).0
    at j l None q z = cc z
    at j l (Some x) q z = sym (is_grant_of l.g x z) ∙ h j x q ∙ sym (e j)

-- a lock that goes
go_without : (c d : LockCache) (ino : ℕ) → d.rows ≡ locks.without_lock ino c.rows → d.seen ≡ c.seen → LockSeen c → LocksGoOn c d
go_without c d ino rows seen h = go_less c d h (λ j. ap (λ xs. (unwrap_or (option_map locks.g_seen (find (locks.is_seen_on j) xs)) locks.no_grant).0) seen) (λ j k q. at j k (same_or_not j ino) q)
  where
    at : (j : ℕ) (k : GrantNo) → (j ≡ ino) ⊎ (j ≢ ino) → is_grant k (lock_of d j) ≡ true → is_grant k (lock_of c j) ≡ true
    at j k (inl e) q = none (subst (λ o. is_grant k o ≡ true) (ap (find (locks.is_lock_on j)) rows ∙ find_gone (locks.is_lock_on j) (λ r. not (locks.is_lock_on ino r)) (λ x f. ap not (eq-eqb x.ino ino (eqb-true x.ino j f ∙ e))) c.rows) q)
      where
        none : {A : Type 0} → is_grant k None ≡ true → A
        none z = cc
    at j k (inr n) q = subst (λ o. is_grant k o ≡ true) (ap (find (locks.is_lock_on j)) rows ∙ find_kept (locks.is_lock_on j) (λ r. not (locks.is_lock_on ino r)) (λ x f. ap not (ne x.ino ino (λ z. n (sym (eqb-true x.ino j f) ∙ z)))) c.rows) q

-- a lock that is lowered
go_lower : (c d : LockCache) (ino : ℕ) (l : HeldLock) (mode : Mode) → lock_of c ino ≡ Some l → d.rows ≡ locks.with_lock (locks.held_lock ino l.g mode) c.rows → d.seen ≡ c.seen → LockSeen c → LocksGoOn c d
go_lower c d ino l mode e rows seen h = go_less c d h (λ j. ap (λ xs. (unwrap_or (option_map locks.g_seen (find (locks.is_seen_on j) xs)) locks.no_grant).0) seen) (λ j k q. at j k (same_or_not j ino) (subst (λ o. is_grant k o ≡ true) (ap (find (locks.is_lock_on j)) rows ∙ lock_put (locks.held_lock ino l.g mode) c.rows j) q))
  where
    at : (j : ℕ) (k : GrantNo) → (j ≡ ino) ⊎ (j ≢ ino) → is_grant k (if j == ino then Some (locks.held_lock ino l.g mode) else find (locks.is_lock_on j) c.rows) ≡ true → is_grant k (lock_of c j) ≡ true
    at j k (inl i) q =
        subst (λ o. is_grant k o ≡ true) (sym (ap (lock_of c) i ∙ e))
        (subst (λ b. is_grant k (if b then Some (locks.held_lock ino l.g mode) else find (locks.is_lock_on j) c.rows) ≡ true) (eq-eqb j ino i) q)
    at j k (inr n) q = subst (λ b. is_grant k (if b then Some (locks.held_lock ino l.g mode) else find (locks.is_lock_on j) c.rows) ≡ true) (ne j ino n) q

-- a grant that is seen of a file without a lock
go_see : (c : LockCache) (ino : ℕ) (g : GrantNo) → lock_of c ino ≡ None → (seen_of c ino).0 ≤ g.0 → LockSeen c → LocksGoOn c (locks.observe c ino g)
unfolding locks.observe
go_see c ino g e up h =
    go_at c (locks.observe c ino g) ino None g h up e
    (ap (λ o. (unwrap_or (option_map locks.g_seen o) locks.no_grant).0) (seen_put ino g c.seen ino ∙ ap (λ b. if b then Some (locks.seen_grant ino g) else find (locks.is_seen_on ino) c.seen) (eq-eqb ino ino refl)))
    (λ j n. (refl, ap (λ o. unwrap_or (option_map locks.g_seen o) locks.no_grant) (seen_put ino g c.seen j ∙ ap (λ b. if b then Some (locks.seen_grant ino g) else find (locks.is_seen_on j) c.seen) (ne j ino n))))
    (λ l q. none l q)
  where
    none : {A : Type 0} (l : HeldLock) → ◌≡◌ {A = Option HeldLock} None (Some l) → A
    none l q = cc

pub grant_goes_on : (s : ClientSession) (ino : ℕ) (g : GrantNo) (mode : Mode) → LockSeen s.locks → LocksGoOn s.locks (cr.grant s ino g mode).locks
unfolding cr.grant cr.grant_new cr.accept_grant cr.decline
grant_goes_on s ino g mode h = go (locks.is_above_seen s.locks ino g) refl
  where
    unplaced : (o : Option HeldLock) → lock_of s.locks ino ≡ o → locks.has_place s.locks ino ≡ false → lock_of s.locks ino ≡ None
    unplaced None e q = e
    unplaced (Some l) e q = absurd (no (subst (λ o. (is_some o || nat_lt (locks.count s.locks) s.locks.limit) ≡ false) e q))
      where
        no : true ≡ false → ⊥
        no z = cc

    place : locks.is_above_seen s.locks ino g ≡ true → (b : Bool) → locks.has_place s.locks ino ≡ b → LocksGoOn s.locks (if b then cr.accept_grant s ino g mode else cr.decline s ino g).locks
    place a true q = install_goes_on s.locks ino g mode h a
    place a false q = let l = ltb-true (seen_of s.locks ino).0 g.0 a in go_see s.locks ino g (unplaced (lock_of s.locks ino) refl q) (omega (arith, l)) h

    go : (b : Bool) → locks.is_above_seen s.locks ino g ≡ b → LocksGoOn s.locks (if b then cr.grant_new s ino g mode else s).locks
    go true a = place a (locks.has_place s.locks ino) refl
    go false a = go_same s.locks h

pub demands_go_on : (c : LockCache) (ino : ℕ) (g : GrantNo) (to : Mode) → LockSeen c → LocksGoOn c (locks.demand c ino g to).locks
unfolding locks.demand locks.demand_at locks.demand_held locks.demand_stale locks.demand_unheld
demands_go_on c ino g to h = at (lock_of c ino) refl
  where
    held : (l : HeldLock) → lock_of c ino ≡ Some l → (b : Bool) → nat_le l.g.0 g.0 ≡ b → LocksGoOn c (if b then locks.demand_lock c ino g to l else locks.demand_stale c).locks
    held l e true q = demand_goes_on c ino g to l h e (leb-true l.g.0 g.0 q)
    held l e false q = go_same c h

    at : (o : Option HeldLock) → lock_of c ino ≡ o → LocksGoOn c (locks.demand_at c ino g to o).locks
    at None e = go_see c ino (locks.greater_grant (seen_of c ino) g) e (omega arith) h
    at (Some l) e = held l e (nat_le l.g.0 g.0) refl

pub reduce_goes_on : (c : LockCache) (ino : ℕ) → LockSeen c → LocksGoOn c (locks.reduce c ino).locks
unfolding locks.reduce locks.reduce_at locks.reduce_lock locks.lower
reduce_goes_on c ino h = at (locks.demand_of c ino)
  where
    lowered : (d : DemandedFile) (l : HeldLock) → lock_of c d.ino ≡ Some l → (to : Mode) → LocksGoOn c (locks.lower c d.ino l to)
    lowered d l e modes.None = go_without c (locks.lower c d.ino l modes.None) d.ino refl refl h
    lowered d l e modes.S = go_lower c (locks.lower c d.ino l modes.S) d.ino l modes.S e refl refl h
    lowered d l e modes.X = go_lower c (locks.lower c d.ino l modes.X) d.ino l modes.S e refl refl h

    locked : (d : DemandedFile) (o : Option HeldLock) → lock_of c d.ino ≡ o → LocksGoOn c (locks.reduce_lock c d o).locks
    locked d None e = go_same c h
    locked d (Some l) e = lowered d l e d.to

    at : (o : Option DemandedFile) → LocksGoOn c (locks.reduce_at c o).locks
    at None = go_same c h
    at (Some d) = locked d (lock_of c d.ino) refl

pub old_grants_stay_gone : OldGrantsStayGone
unfolding locks.drop_lock
old_grants_stay_gone s ino g mode h = record { grant = grant_goes_on s ino g mode h; demand = demands_go_on s.locks ino g mode h; reduce = reduce_goes_on s.locks ino h; drop = go_without s.locks (locks.drop_lock s.locks ino) ino refl refl h }
