-- A reduction gives a lock back if one is held and is demanded.
use Rattle.st_lemmas.proofs.Words
use Words.{◌≡◌, ℕ, Bool, true, false, ◌&&◌, ◌||◌, List, [], ◌∷◌, if◌then◌else◌, refl, sym, ap, ◌∙◌, find, list_any, is_some, Option, Some, None, HeldLock}
use Rattle.st_lemmas.proofs.Lookups.{found_ino}
use Rattle.st_rules.specs.declared.client.DemandedFile.{DemandedFile}
use Rattle.st_rules.specs.ClientLocks.{LockCache, demand_of, ino_of_demand, is_demand_on, is_demanded, lock_of, lower, reduce, reduce_at, reduce_lock}

any_found : {A : Type 0} (p : A → Bool) (xs : List A) → list_any p xs ≡ is_some (find p xs)
any_found p [] = refl
any_found {A} p (x ∷ xs) = by (p x) (any_found p xs)
  where
    by : (b : Bool) → list_any p xs ≡ is_some (find p xs) → (b || list_any p xs) ≡ is_some (if b then Some x else find p xs)
    by true h = refl
    by false h = h

-- a demanded file's lock is given if it is held
held_given : (c : LockCache) (d : DemandedFile) (l : Option HeldLock) → is_some l ≡ is_some (reduce_lock c d l).given
unfolding reduce_lock lower
held_given c d None = refl
held_given c d (Some l) = refl

given_at : (c : LockCache) (ino : ℕ) (o : Option DemandedFile) → ((d : DemandedFile) → o ≡ Some d → d.ino ≡ ino) → (is_some o && is_some (lock_of c ino)) ≡ is_some (reduce_at c o).given
unfolding reduce_at
given_at c ino None f = refl
given_at c ino (Some d) f = ap (λ i. is_some (lock_of c i)) (sym (f d refl)) ∙ held_given c d (lock_of c d.ino)

given : (c : LockCache) (ino : ℕ) → (is_demanded c ino && is_some (lock_of c ino)) ≡ is_some (reduce c ino).given
unfolding reduce
given c ino =
    ap (λ b. b && is_some (lock_of c ino)) (any_found (is_demand_on ino) c.demanded) ∙ given_at c ino (demand_of c ino) (λ d e. found_ino ino_of_demand ino d c.demanded e)

-- the file is demanded
pub given_demanded : (c : LockCache) (ino : ℕ) (b : Bool) → b ≡ is_demanded c ino → b ≡ true → is_some (lock_of c ino) ≡ is_some (reduce c ino).given
given_demanded c ino b e f = ap (λ v. v && is_some (lock_of c ino)) (sym f ∙ e) ∙ given c ino

-- the file is not demanded
pub given_undemanded : (c : LockCache) (ino : ℕ) (b : Bool) → b ≡ is_demanded c ino → b ≡ false → b ≡ is_some (reduce c ino).given
given_undemanded c ino b e f = f ∙ ap (λ v. v && is_some (lock_of c ino)) (sym f ∙ e) ∙ given c ino
