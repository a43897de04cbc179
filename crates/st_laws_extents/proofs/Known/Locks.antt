-- Locks that stay when others change.
use Rattle.st_lemmas.proofs.Words
use Words.{◌≡◌, ◌⊎◌, ℕ, Bool, true, false, not, ◌==◌, List, Option, Some, None, refl, sym, ap, ◌∙◌, subst, inl, inr, if◌then◌else◌, nat_le, eqb-true, GrantNo}
use Words.{Mode, DemandedFile, HeldLock}
use Words.modes
use Words.ClientLocks as locks
use Words.ClientLocks.{LockCache}
use Words.Lookups.{some_is}
use Words.Tables.{found_at, has_filter_in}
use Rattle.st_lemmas.proofs.Puts.{has_put_other, has_put_self}
use Rattle.st_laws_extents.specs.Known.Known.{HasLock}

-- a lock is put in place of the file's lock
pub put_keeps : (l : HeldLock) (rows : List HeldLock) (j : ℕ) → HasLock rows j → HasLock (locks.with_lock l rows) j
put_keeps l rows j h = go (h.lock.ino == l.ino) refl
  where
    go : (b : Bool) → (h.lock.ino == l.ino) ≡ b → HasLock (locks.with_lock l rows) j
    go true e = record { lock = l; has = has_put_self (locks.is_lock_on l.ino) l rows; on = sym (eqb-true h.lock.ino l.ino e) ∙ h.on }
    go false e = record { lock = h.lock; has = has_put_other (locks.is_lock_on l.ino) l rows h.lock h.has e; on = h.on }

-- the lock of another file goes
pub filter_keeps : (ino : ℕ) (rows : List HeldLock) (j : ℕ) → (j ≡ ino → ⊥) → HasLock rows j → HasLock (locks.without_lock ino rows) j
filter_keeps ino rows j n h = go (h.lock.ino == ino) refl
  where
    go : (b : Bool) → (h.lock.ino == ino) ≡ b → HasLock (locks.without_lock ino rows) j
    go true e = absurd (n (sym h.on ∙ eqb-true h.lock.ino ino e))
    go false e = record { lock = h.lock; has = has_filter_in (λ r. not (locks.is_lock_on ino r)) rows h.lock h.has (ap not e); on = h.on }

-- the lock that is found
pub lock_found : (c : LockCache) (ino : ℕ) (l : HeldLock) → locks.lock_of c ino ≡ Some l → HasLock c.rows ino
lock_found c ino l e = let z = found_at (locks.is_lock_on ino) c.rows l e in record { lock = l; has = z.1; on = eqb-true l.ino ino z.0 }

-- A demand leaves the locks.
pub demand_keeps : (c : LockCache) (ino : ℕ) (g : GrantNo) (to : Mode) (j : ℕ) → HasLock c.rows j → HasLock (locks.demand c ino g to).locks.rows j
unfolding locks.demand locks.demand_at locks.demand_held locks.demand_lock locks.demand_stale locks.demand_unheld locks.observe
demand_keeps c ino g to j h = at (locks.lock_of c ino)
  where
    held : (l : HeldLock) (b : Bool) → HasLock (if b then locks.demand_lock c ino g to l else locks.demand_stale c).locks.rows j
    held l true = put_keeps (locks.held_lock ino g l.mode) c.rows j h
    held l false = h

    at : (o : Option HeldLock) → HasLock (locks.demand_at c ino g to o).locks.rows j
    at None = h
    at (Some l) = held l (nat_le l.g.0 g.0)

-- A reduction leaves all locks but the one that it gives up.
abbrev pub Left : LockCache → ℕ → ℕ → locks.Reduced → Type 0
Left c ino j r = (g : GrantNo × Mode) → r.given ≡ Some g → ((g.1 ≡ modes.None) × (j ≡ ino)) ⊎ HasLock r.locks.rows j

pub reduce_keeps : (c : LockCache) (ino j : ℕ) → HasLock c.rows j → Left c ino j (locks.reduce c ino)
unfolding locks.reduce locks.reduce_at locks.reduce_lock locks.lower
reduce_keeps c ino j h = at (locks.demand_of c ino) refl
  where
    lowered : (d : DemandedFile) (l : HeldLock) (to : Mode) → d.ino ≡ ino → ((to ≡ modes.None) × (j ≡ ino)) ⊎ HasLock (locks.lowered_rows c.rows d.ino l to) j
    lowered d l modes.None i = go (j == d.ino) refl
      where
        go : (b : Bool) → (j == d.ino) ≡ b → ((modes.None ≡ modes.None) × (j ≡ ino)) ⊎ HasLock (locks.without_lock d.ino c.rows) j
        go true e = inl (refl, eqb-true j d.ino e ∙ i)
        go false e = inr (filter_keeps d.ino c.rows j (λ q. clash (Rattle.std.proofs.lemmas.Bool.eq-eqb j d.ino q) e) h)
          where
            clash : {b : Bool} → b ≡ true → b ≡ false → ⊥
            clash x y = cc
    lowered d l modes.S i = inr (put_keeps (locks.held_lock d.ino l.g modes.S) c.rows j h)
    lowered d l modes.X i = inr (put_keeps (locks.held_lock d.ino l.g modes.S) c.rows j h)

    none : {A B : Type 0} (x : B) → ◌≡◌ {A = Option B} None (Some x) → A
    none x e = cc

    locked : (d : DemandedFile) → d.ino ≡ ino → (o : Option HeldLock) → Left c ino j (locks.reduce_lock c d o)
    locked d i None = λ g e. none g e
    locked d i (Some l) = λ g e. subst (λ (z : GrantNo × Mode). ((z.1 ≡ modes.None) × (j ≡ ino)) ⊎ HasLock (locks.lowered_rows c.rows d.ino l d.to) j) (some_is e) (lowered d l d.to i)

    at : (o : Option DemandedFile) → locks.demand_of c ino ≡ o → Left c ino j (locks.reduce_at c o)
    at None q = λ g e. none g e
    at (Some d) q = locked d (eqb-true d.ino ino (found_at (locks.is_demand_on ino) c.demanded d q).0) (locks.lock_of c d.ino)
