-- Client 1 may always lock: each row is an exclusive lock of its own, of a container that is there, and nobody waits.
use Rattle.st_lemmas.proofs.Words
use Words.{◌≡◌, ℕ, ◌+◌, ◌≤◌, ◌<◌, ◌^◌, ◌⊎◌, Bool, true, false, List, [], ◌∷◌, ◌++◌, length, map, filter, Option, Some, None, refl, sym, ap, ◌∙◌, subst, inl}
use Words.{inr, arith, lt-ltb, if◌then◌else◌, ◌&&◌, ◌||◌, ◌==◌, not, is_some, Ok, list_any, Epoch, LockRow, Verdict}
use Words.modes
use Words.verdicts.{Granted}
use Words.Keys.{rising, same_client}
use Words.Locks.{Locks, acquire, acquire_at, acquire_granted, acquire_held, acquire_more, acquire_new, acquire_over, files_of, grant, has_place, ino_of_row}
use Words.Locks.{ino_of_wait, is_row_by, is_row_of, is_wait_by, may_grant, new_row, next_grant, no_locks, row_of, stands_against, wait_of, waits_besides}
use Words.Locks.{without_wait}
use Words.Lists.{Has, Rises}
use Words.Lookups.{if_true, or_right}
use Words.Tables.{found_at, has_filter, has_map}
use Rattle.st_base.specs.Mode.{conflicts, covers}
use Rattle.st_lemmas.proofs.Keys.{rising_has, rising_rises}
use Rattle.st_lemmas.proofs.Puts.{has_put}
use Rattle.st_locks.specs.Calls.{acquired}
use Rattle.st_move.specs.Conditions.{CanLock}
use Rattle.st_move.specs.World.{first, has_lock, locked, one, unlocked}

-- an exclusive lock of client 1
pub record IsOnes (containers : ℕ) (r : LockRow) : Type 0 where
  pub client : r.client ≡ one
  pub life : r.life ≡ first
  pub mode : r.mode ≡ modes.X
  pub some : 1 ≤ r.ino
  pub known : r.ino ≤ containers

-- all rows are such, nobody waits, and the limit is that of the first two forms
pub record AreOnes (containers n : ℕ) (l : Locks) : Type 0 where
  pub grants : l.grants ≤ n
  pub rows : (r : LockRow) → Has r l.rows → IsOnes containers r
  pub waiters : l.waiters ≡ []
  pub limit : l.limit ≡ 1024

pub ones_later : (containers n : ℕ) (l : Locks) → AreOnes containers n l → AreOnes containers (n + 1) l
ones_later containers n l a = let g : l.grants ≤ n = a.grants in record { grants = omega arith; rows = a.rows; waiters = a.waiters; limit = a.limit }

pub ones_fresh : (containers : ℕ) (epoch : Epoch) → AreOnes containers 0 (no_locks epoch)
ones_fresh containers epoch = record { grants = omega arith; rows = λ r i. absurd i; waiters = refl; limit = refl }

-- a lock that is granted
pub ones_locked : (containers n : ℕ) (l : Locks) (c : ℕ) → 1 ≤ c → c ≤ containers → AreOnes containers n l → AreOnes containers (n + 1) (locked l c)
unfolding locked grant
ones_locked containers n l c some known a = go (has_lock l c)
  where
    row : LockRow
    row = new_row l one first c modes.X

    rows : (r : LockRow) → (r ≡ row) ⊎ Has r l.rows → IsOnes containers r
    rows r (inl e) = subst (IsOnes containers) (sym e) (record { client = refl; life = refl; mode = refl; some = some; known = known })
    rows r (inr i) = a.rows r i

    go : (b : Bool) → AreOnes containers (n + 1) (if b then l else grant l one first c modes.X)
    go true = ones_later containers n l a
    go false =
        let g : l.grants ≤ n = a.grants in
        record {
          grants = omega arith;
          rows = λ r i. rows r (has_put (is_row_of one c) row l.rows r i);
          waiters = ap (without_wait one c) a.waiters;
          limit = a.limit;
        }

-- a lock that is released
pub ones_unlocked : (containers n : ℕ) (l : Locks) (c : ℕ) → AreOnes containers n l → AreOnes containers (n + 1) (unlocked l c)
unfolding unlocked
ones_unlocked containers n l c a =
    let g : l.grants ≤ n = a.grants in
    record {
      grants = omega arith;
      rows = λ r i. a.rows r (has_filter (λ q. not (is_row_of one c q)) l.rows r i).0;
      waiters = a.waiters;
      limit = a.limit;
    }

-- rising numbers from 1 to a bound are no more than the bound
few_between : (n m : ℕ) (xs : List ℕ) → n ≤ m → ((x : ℕ) → Has x xs → n < x) → ((x : ℕ) → Has x xs → x ≤ m) → Rises xs → length xs + n ≤ m
few_between n m [] l f g r = omega (arith, l)
few_between n m (x ∷ xs) l f g r =
    let a = few_between x m xs (g x (inl refl)) r.first (λ y i. g y (inr i)) r.rest in let b = f x (inl refl) in omega (arith, a, b)

few_files : (containers n : ℕ) (l : Locks) → AreOnes containers n l → length (files_of l one) ≤ containers
few_files containers n l a =
    let e : files_of l one ≡ rising (map ino_of_row (filter (is_row_by one) l.rows)) = waits ∙ ap rising (none (map ino_of_row (filter (is_row_by one) l.rows))) in
    let f : length (rising (map ino_of_row (filter (is_row_by one) l.rows))) + 0 ≤ containers =
    few_between 0 containers (rising (map ino_of_row (filter (is_row_by one) l.rows))) (omega arith) (λ x i. (at x i).0) (λ x i. (at x i).1)
    (rising_rises (map ino_of_row (filter (is_row_by one) l.rows))) in
    subst (λ xs. length xs ≤ containers) (sym e) (omega arith)
  where
    none : (xs : List ℕ) → xs ++ [] ≡ xs
    none [] = refl
    none (x ∷ xs) = ap (λ ys. x ∷ ys) (none xs)

    waits : files_of l one ≡ rising (map ino_of_row (filter (is_row_by one) l.rows) ++ [])
    waits = ap (λ ws. rising (map ino_of_row (filter (is_row_by one) l.rows) ++ map ino_of_wait (filter (is_wait_by one) ws))) a.waiters

    at : (x : ℕ) → Has x (rising (map ino_of_row (filter (is_row_by one) l.rows))) → (0 < x) × (x ≤ containers)
    at x i =
        let h : (r : LockRow) × Has r (filter (is_row_by one) l.rows) × (x ≡ ino_of_row r) = has_map ino_of_row (filter (is_row_by one) l.rows) x (rising_has _ x i) in
        let o : IsOnes containers h.0 = a.rows h.0 (has_filter (is_row_by one) l.rows h.0 h.1).0 in
        let p : 1 ≤ h.0.ino = o.some in
        let q : h.0.ino ≤ containers = o.known in
        let e : x ≡ h.0.ino = h.2 in
        (omega arith, omega arith)

-- no row of client 1 conflicts with it
none_against : (c : ℕ) (rows : List LockRow) → ((r : LockRow) → Has r rows → r.client ≡ one) → list_any (stands_against one c modes.X) rows ≡ false
none_against c [] f = refl
none_against c (r ∷ rows) f = ap (λ b. b || list_any (stands_against one c modes.X) rows) (alone (r.ino == c)) ∙ none_against c rows (λ q i. f q (inr i))
  where
    alone : (b : Bool) → (b && (not (same_client r.client one) && conflicts r.mode modes.X)) ≡ false
    alone true = ap (λ z. not (same_client z one) && conflicts r.mode modes.X) (f r (inl refl))
    alone false = refl

-- one more lock is granted wherever it is asked for
module _ (containers n : ℕ) (l : Locks) (few : containers < 1024) (a : AreOnes containers n l) where
  place : (c : ℕ) → has_place l one c ≡ true
  place c =
      let f : length (files_of l one) ≤ containers = few_files containers n l a in
      let most : l.limit ≡ 1024 = a.limit in
      or_right (is_some (wait_of l one c)) _ (lt-ltb (length (files_of l one)) l.limit (omega arith))

  grants : (c : ℕ) → may_grant l one c modes.X true ≡ true
  grants c =
      ap (λ ws. not (list_any (waits_besides one c) ws) && not (list_any (stands_against one c modes.X) l.rows)) a.waiters
      ∙ ap not (none_against c l.rows (λ r i. (a.rows r i).client))

  acquires_new : (c : ℕ) → row_of l one c ≡ None → acquire l one first c modes.X true ≡ Ok (acquired (grant l one first c modes.X) (Granted (next_grant l) modes.X))
  unfolding acquire acquire_at acquire_new acquire_more acquire_granted
  acquires_new c e =
      ap (acquire_at l one first c modes.X true) e
      ∙ if_true (has_place l one c) _ _ (place c)
      ∙ ap Ok (if_true (may_grant l one c modes.X true) _ _ (grants c))

  acquires_held : (c : ℕ) (r : LockRow) → row_of l one c ≡ Some r → acquire l one first c modes.X true ≡ Ok (acquired l (Granted r.g r.mode))
  unfolding acquire acquire_at acquire_over acquire_held
  acquires_held c r e =
      ap (acquire_at l one first c modes.X true) e
      ∙ ap Ok (if_true (covers r.mode modes.X) _ _ (ap (λ m. covers m modes.X) (a.rows r (found_at (is_row_of one c) l.rows r e).1).mode))

  acquires : (c : ℕ) → (v : Verdict) × (acquire l one first c modes.X true ≡ Ok (acquired (locked l c) v))
  unfolding locked
  acquires c = go (row_of l one c) refl
    where
      go : (o : Option LockRow) → row_of l one c ≡ o → (v : Verdict) × (acquire l one first c modes.X true ≡ Ok (acquired (if is_some o then l else grant l one first c modes.X) v))
      go None e = (Granted (next_grant l) modes.X, acquires_new c e)
      go (Some r) e = (Granted r.g r.mode, acquires_held c r e)

  pub ones_can : n + 1 < 2 ^ 32 → CanLock l
  unfolding locked
  ones_can k = let g : l.grants ≤ n = a.grants in record {
    room = omega arith;
    acquires = acquires;
    releases = λ c r e. (a.rows r (found_at (is_row_of one c) l.rows r e).1).life;
  }
