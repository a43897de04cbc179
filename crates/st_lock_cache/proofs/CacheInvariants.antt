-- The invariant of a lock cache holds after each of its changes.
use Rattle.st_lemmas.proofs.Words
use Words.{◌≡◌, ℕ, ◌<◌, ◌≤◌, ◌⊎◌, Bool, true, false, ◌==◌, not, if◌then◌else◌, List, [], ◌∷◌, Option, Some, None, refl, sym, ap, ◌∙◌, inl, inr, arith, le-leb}
use Words.{find, is_some, nat_le, unwrap_or, option_map, list_all, eqb-true, eqb-false, leb-true, ltb-true, not-true, GrantNo, Mode, HeldLock, SeenGrant}
use Words.{DemandedFile}
use Words.modes
use Words.ServerInvariants.{are_once}
use Words.ClientInvariants.{same_lock, same_demand}
use Words.ClientLocks.{LockCache, lock_of, seen_of, is_lock_on, is_seen_on, is_demand_on, g_seen, no_grant, ino_of_lock, ino_of_demand, seen_grant, held_lock}
use Words.ClientLocks.{demanded_file, with_lock, without_lock, with_seen, with_demand, without_demand, is_above_seen, greater_grant, lowered_rows}
use Words.Lists.{Has}
use Words.Tables.{all_pass, each_passes, found_at, has_append, has_filter}
use Words.Lookups.{find_without, found_ino, if_ap, if_false}
use Rattle.st_lemmas.proofs.Puts.{find_put_at, has_put}
use Rattle.st_lock_cache.specs.Calls.{IsCached, tables}
use Rattle.st_lemmas.proofs.Once.{once_filter}
use Rattle.st_lock_cache.proofs.Once.{once_put, once_with, once_found}

-- a greatest grant's file
abbrev ino_of_seen : SeenGrant → ℕ
ino_of_seen s = s.ino

-- the greatest grant seen of a file, in the table
abbrev seen_in : List SeenGrant → ℕ → GrantNo
seen_in seen ino = unwrap_or (option_map g_seen (find (is_seen_on ino) seen)) no_grant

-- the lock's grant is not above the greatest seen
abbrev is_below : List SeenGrant → HeldLock → Bool
is_below seen l = nat_le l.g.0 (seen_in seen l.ino).0

-- a lock on the demanded file is held, in the table
abbrev is_held : List HeldLock → DemandedFile → Bool
is_held rows d = is_some (find (is_lock_on d.ino) rows)

seen_after : (seen : List SeenGrant) (ino n : ℕ) (g : GrantNo) → seen_in (with_seen ino g seen) n ≡ (if n == ino then g else seen_in seen n)
seen_after seen ino n g =
    ap (λ (o : Option SeenGrant). unwrap_or (option_map g_seen o) no_grant) (find_put_at ino_of_seen (seen_grant ino g) n seen)
    ∙ if_ap (λ (o : Option SeenGrant). unwrap_or (option_map g_seen o) no_grant) (n == ino) (Some (seen_grant ino g)) (find (is_seen_on n) seen)

-- a lock whose file has a new greatest grant, or another file's lock
below_after : (seen : List SeenGrant) (ino : ℕ) (g : GrantNo) (l : HeldLock) → (l.ino ≡ ino → l.g.0 ≤ g.0) → ((l.ino ≡ ino → ⊥) → is_below seen l ≡ true) →
    is_below (with_seen ino g seen) l ≡ true
below_after seen ino g l h k = ap (λ (s : GrantNo). nat_le l.g.0 s.0) (seen_after seen ino l.ino g) ∙ go (l.ino == ino) refl
  where
    go : (b : Bool) → (l.ino == ino) ≡ b → nat_le l.g.0 (if b then g else seen_in seen l.ino).0 ≡ true
    go true e = le-leb l.g.0 g.0 (h (eqb-true _ _ e))
    go false e = k (eqb-false _ _ e)

held_after : (rows : List HeldLock) (x : HeldLock) (d : DemandedFile) → ((d.ino ≡ x.ino → ⊥) → is_held rows d ≡ true) → is_held (with_lock x rows) d ≡ true
held_after rows x d h = ap is_some (find_put_at ino_of_lock x d.ino rows) ∙ go (d.ino == x.ino) refl
  where
    go : (b : Bool) → (d.ino == x.ino) ≡ b → is_some (if b then Some x else find (is_lock_on d.ino) rows) ≡ true
    go true e = refl
    go false e = h (eqb-false _ _ e)

held_without : (rows : List HeldLock) (ino : ℕ) (d : DemandedFile) → (d.ino == ino) ≡ false → is_held rows d ≡ true → is_held (without_lock ino rows) d ≡ true
held_without rows ino d e h = ap is_some (find_without ino_of_lock ino d.ino rows ∙ if_false (d.ino == ino) None (find (is_lock_on d.ino) rows) e) ∙ h

-- the demands that are left are of files that stay held
left_held : (rows more : List HeldLock) (ino : ℕ) (demanded : List DemandedFile) → list_all (is_held rows) demanded ≡ true →
    ((d : DemandedFile) → (d.ino == ino) ≡ false → is_held rows d ≡ true → is_held more d ≡ true) → list_all (is_held more) (without_demand ino demanded) ≡ true
left_held rows more ino demanded h k =
    all_pass (is_held more) (without_demand ino demanded)
    (λ d m. let f = has_filter (λ x. not (is_demand_on ino x)) demanded d m in k d (not-true _ f.1) (each_passes (is_held rows) demanded h d f.0))

-- nothing is cached
pub empty_kept : IsCached (tables [] [] [])
unfolding are_once
empty_kept = record { rows_once = refl; seen_once = refl; demanded_once = refl; demanded_held = refl; rows_seen = refl }

-- a grant that is not below the greatest seen is the greatest seen
seen_from : (c : LockCache) (ino : ℕ) (g : GrantNo) → (seen_of c ino).0 ≤ g.0 → IsCached c → IsCached (tables c.rows (with_seen ino g c.seen) c.demanded)
seen_from c ino g a is = record {
  rows_once = is.rows_once;
  seen_once = once_put ino_of_seen (seen_grant ino g) c.seen is.seen_once;
  demanded_once = is.demanded_once;
  demanded_held = is.demanded_held;
  rows_seen = all_pass (is_below (with_seen ino g c.seen)) c.rows
      (λ l m. below_after c.seen ino g l
      (λ e.
      let old : l.g.0 ≤ (seen_in c.seen l.ino).0 = leb-true _ _ (each_passes (is_below c.seen) c.rows is.rows_seen l m) in
      let same : (seen_in c.seen l.ino).0 ≡ (seen_in c.seen ino).0 = ap (λ n. (seen_in c.seen n).0) e in
      omega (arith, old, same, a))
      (λ e. each_passes (is_below c.seen) c.rows is.rows_seen l m));
}

-- a grant above the greatest seen is seen
pub seen_kept : (c : LockCache) (ino : ℕ) (g : GrantNo) → is_above_seen c ino g ≡ true → IsCached c → IsCached (tables c.rows (with_seen ino g c.seen) c.demanded)
seen_kept c ino g a is = let l : (seen_of c ino).0 < g.0 = ltb-true _ _ a in seen_from c ino g (omega (arith, l)) is

-- the greater of a grant and the greatest seen is seen
pub greater_kept : (c : LockCache) (ino : ℕ) (g : GrantNo) → IsCached c → IsCached (tables c.rows (with_seen ino (greater_grant (seen_of c ino) g) c.seen) c.demanded)
greater_kept c ino g is = seen_from c ino (greater_grant (seen_of c ino) g) (omega arith) is

-- a grant above the greatest seen is taken
pub installed_kept : (c : LockCache) (ino : ℕ) (g : GrantNo) (mode : Mode) → is_above_seen c ino g ≡ true → IsCached c →
    IsCached (tables (with_lock (held_lock ino g mode) c.rows) (with_seen ino g c.seen) (without_demand ino c.demanded))
installed_kept c ino g mode a is = record {
  rows_once = once_put ino_of_lock (held_lock ino g mode) c.rows is.rows_once;
  seen_once = once_put ino_of_seen (seen_grant ino g) c.seen is.seen_once;
  demanded_once = once_filter same_demand (λ d. not (is_demand_on ino d)) c.demanded is.demanded_once;
  demanded_held = left_held c.rows (with_lock (held_lock ino g mode) c.rows) ino c.demanded is.demanded_held
      (λ d e h. held_after c.rows (held_lock ino g mode) d (λ n. h));
  rows_seen = all_pass (is_below (with_seen ino g c.seen)) (with_lock (held_lock ino g mode) c.rows) (λ l m. by l (has_put (is_lock_on ino) (held_lock ino g mode) c.rows l m));
}
  where
    by : (l : HeldLock) → (l ≡ held_lock ino g mode) ⊎ Has l c.rows → is_below (with_seen ino g c.seen) l ≡ true
    by l (inl e) =
        below_after c.seen ino g l (λ n. let s : l.g.0 ≡ g.0 = ap (λ x. x.g.0) e in omega (arith, s)) (λ n. absurd (n (ap ino_of_lock e)))
    by l (inr m) =
        below_after c.seen ino g l
        (λ e.
        let old : l.g.0 ≤ (seen_in c.seen l.ino).0 = leb-true _ _ (each_passes (is_below c.seen) c.rows is.rows_seen l m) in
        let same : (seen_in c.seen l.ino).0 ≡ (seen_in c.seen ino).0 = ap (λ n. (seen_in c.seen n).0) e in
        omega (arith, old, same, ltb-true (seen_in c.seen ino).0 g.0 a))
        (λ e. each_passes (is_below c.seen) c.rows is.rows_seen l m)

-- a held lock is demanded under a grant that is not below its own
pub demanded_kept : (c : LockCache) (ino : ℕ) (g : GrantNo) (to : Mode) (l : HeldLock) → lock_of c ino ≡ Some l → l.g.0 ≤ g.0 → IsCached c →
    IsCached (tables (with_lock (held_lock ino g l.mode) c.rows) (with_seen ino g c.seen) (with_demand (demanded_file ino to) c.demanded))
demanded_kept c ino g to l f below is = record {
  rows_once = once_put ino_of_lock (held_lock ino g l.mode) c.rows is.rows_once;
  seen_once = once_put ino_of_seen (seen_grant ino g) c.seen is.seen_once;
  demanded_once = once_with ino_of_demand (demanded_file ino to) c.demanded is.demanded_once;
  demanded_held = all_pass (is_held (with_lock (held_lock ino g l.mode) c.rows)) (with_demand (demanded_file ino to) c.demanded)
      (λ d m. held_by d (has_append (without_demand ino c.demanded) (demanded_file ino to ∷ []) d m));
  rows_seen = all_pass (is_below (with_seen ino g c.seen)) (with_lock (held_lock ino g l.mode) c.rows)
      (λ x m. seen_by x (has_put (is_lock_on ino) (held_lock ino g l.mode) c.rows x m));
}
  where
    held_by : (d : DemandedFile) → Has d (without_demand ino c.demanded) ⊎ Has d (demanded_file ino to ∷ []) → is_held (with_lock (held_lock ino g l.mode) c.rows) d ≡ true
    held_by d (inl m) =
        held_after c.rows (held_lock ino g l.mode) d
        (λ n. each_passes (is_held c.rows) c.demanded is.demanded_held d (has_filter (λ x. not (is_demand_on ino x)) c.demanded d m).0)
    held_by d (inr (inl e)) = held_after c.rows (held_lock ino g l.mode) d (λ n. absurd (n (ap ino_of_demand e)))
    held_by d (inr (inr m)) = elim m [ ]

    seen_by : (x : HeldLock) → (x ≡ held_lock ino g l.mode) ⊎ Has x c.rows → is_below (with_seen ino g c.seen) x ≡ true
    seen_by x (inl e) =
        below_after c.seen ino g x (λ n. let s : x.g.0 ≡ g.0 = ap (λ y. y.g.0) e in omega (arith, s)) (λ n. absurd (n (ap ino_of_lock e)))
    seen_by x (inr m) =
        below_after c.seen ino g x
        (λ e. let s : x.g.0 ≡ l.g.0 = ap (λ y. y.g.0) (once_found ino_of_lock ino l c.rows x is.rows_once f m e) in omega (arith, s, below))
        (λ e. each_passes (is_below c.seen) c.rows is.rows_seen x m)

-- a lock goes, and its demand
pub dropped_kept : (c : LockCache) (ino : ℕ) → IsCached c → IsCached (tables (without_lock ino c.rows) c.seen (without_demand ino c.demanded))
dropped_kept c ino is = record {
  rows_once = once_filter same_lock (λ l. not (is_lock_on ino l)) c.rows is.rows_once;
  seen_once = is.seen_once;
  demanded_once = once_filter same_demand (λ d. not (is_demand_on ino d)) c.demanded is.demanded_once;
  demanded_held = left_held c.rows (without_lock ino c.rows) ino c.demanded is.demanded_held (λ d e h. held_without c.rows ino d e h);
  rows_seen = all_pass (is_below c.seen) (without_lock ino c.rows)
      (λ l m. each_passes (is_below c.seen) c.rows is.rows_seen l (has_filter (λ x. not (is_lock_on ino x)) c.rows l m).0);
}

-- a lock is shared from now on, and its demand goes
shared_kept : (c : LockCache) (ino : ℕ) (l : HeldLock) → lock_of c ino ≡ Some l → IsCached c →
    IsCached (tables (with_lock (held_lock ino l.g modes.S) c.rows) c.seen (without_demand ino c.demanded))
shared_kept c ino l f is = record {
  rows_once = once_put ino_of_lock (held_lock ino l.g modes.S) c.rows is.rows_once;
  seen_once = is.seen_once;
  demanded_once = once_filter same_demand (λ d. not (is_demand_on ino d)) c.demanded is.demanded_once;
  demanded_held = left_held c.rows (with_lock (held_lock ino l.g modes.S) c.rows) ino c.demanded is.demanded_held
      (λ d e h. held_after c.rows (held_lock ino l.g modes.S) d (λ n. h));
  rows_seen = all_pass (is_below c.seen) (with_lock (held_lock ino l.g modes.S) c.rows) (λ x m. by x (has_put (is_lock_on ino) (held_lock ino l.g modes.S) c.rows x m));
}
  where
    old : is_below c.seen l ≡ true
    old = each_passes (is_below c.seen) c.rows is.rows_seen l (found_at (is_lock_on ino) c.rows l f).1

    same : is_below c.seen (held_lock ino l.g modes.S) ≡ true
    same = ap (λ n. nat_le l.g.0 (seen_in c.seen n).0) (sym (found_ino ino_of_lock ino l c.rows f)) ∙ old

    by : (x : HeldLock) → (x ≡ held_lock ino l.g modes.S) ⊎ Has x c.rows → is_below c.seen x ≡ true
    by x (inl e) = ap (is_below c.seen) e ∙ same
    by x (inr m) = each_passes (is_below c.seen) c.rows is.rows_seen x m

-- a demanded file's lock is lowered
pub lowered_kept : (c : LockCache) (ino : ℕ) (l : HeldLock) (to : Mode) → lock_of c ino ≡ Some l → IsCached c →
    IsCached (tables (lowered_rows c.rows ino l to) c.seen (without_demand ino c.demanded))
lowered_kept c ino l modes.None f is = dropped_kept c ino is
lowered_kept c ino l modes.S f is = shared_kept c ino l f is
lowered_kept c ino l modes.X f is = shared_kept c ino l f is

-- all demands are forgotten
pub forgotten_kept : (c : LockCache) → IsCached c → IsCached (tables c.rows c.seen [])
unfolding are_once
forgotten_kept c is = record { rows_once = is.rows_once; seen_once = is.seen_once; demanded_once = refl; demanded_held = refl; rows_seen = is.rows_seen }
