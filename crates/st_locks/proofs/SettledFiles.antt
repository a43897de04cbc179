-- What passes settle, and what a change of one file leaves of the others.
use Rattle.std.proofs.Common.{◌≡◌, ℕ, zero, suc, ◌≤◌, ◌⊎◌, Bool, true, false, cond, if◌then◌else◌, List, [], ◌∷◌, ◌++◌, map, filter, length, refl, sym, ap, subst, ◌∙◌, ⊎_elim, inl, inr, true≢false, arith}
use Rattle.std.specs.Prelude.{Result, Ok, Err, find, not, Option, Some, None, ◌==◌, ◌&&◌, ◌||◌}
use Rattle.std.specs.List.{list_any}
use Rattle.std.proofs.lemmas.Bool.{cases_Bool, and_parts, eqb-true, not-false}
use Rattle.st_base.specs.declared.ids.ClientId.{ClientId}
use Rattle.st_base.specs.declared.ids.Life.{Life}
use Rattle.st_base.specs.declared.mode.Mode.{Mode}
use Rattle.st_base.specs.declared.mode.Mode.TheVariants as modes
use Rattle.st_base.specs.declared.ids.GrantNo.{GrantNo}
use Rattle.st_base.specs.Mode.{conflicts, covers}
use Rattle.st_rules.specs.declared.locks.Verdict.{Verdict}
use Rattle.st_rules.specs.declared.locks.AcquireRefusal.TheVariants as acquiring
use Rattle.st_lock_tables.specs.declared.refusal.LockRefusal.{LockRefusal}
use Rattle.st_lock_tables.specs.declared.refusal.LockRefusal.TheVariants as refusing
use Rattle.st_lock_tables.specs.Calls.{Answers, acquired}
use Rattle.st_rules.specs.declared.locks.LockRow.{LockRow}
use Rattle.st_rules.specs.declared.locks.Waiter.{Waiter}
use Rattle.st_rules.specs.Keys.{put, same_client}
use Rattle.st_rules.specs.Locks.{Locks, Acquired, Granting, is_among, wish, acquire, acquire_at, acquire_granted, acquire_held, acquire_more, acquire_new, acquire_over, acquire_queued, answered_row, demand_seen, drop_file_waits, grant, grantable, grant_and, grant_file, grant_files, grant_waiter, has_place, ino_of_wait, is_row_of, is_row_on, is_under, is_wait_of, is_wait_on, lower, lowered, may_grant, new_row, new_wait, next_grants, next_waiter, not_released, nothing_granted, queue, queue_at, release, release_to, released, released_at, row_of, stands_against, wait_for, wait_of, waited_files}
use Rattle.st_tables.proofs.RisingKeys.{has, has_rising}
use Rattle.st_rules.specs.declared.locks.RowDemand.{RowDemand}
use Rattle.st_locks.specs.SettledFiles.{EachInWay, IsSettled, TouchedFiles, Marks, Moments, is_in_way, is_low, is_marked, is_timed}
use Rattle.st_lock_tables.proofs.Grants.{grantable_found, length_without, same_wait}

-- Lists, and the part of them that is of one file.

module _ {A : Type 0} where
  find_by : (p : A → Bool) (x v : A) (xs : List A) (b : Bool) → p x ≡ b → (find p xs ≡ Some v → p v ≡ true) → cond b (Some x) (find p xs) ≡ Some v → p v ≡ true
  find_by p x v xs true q h e = let z : x ≡ v = cc in ap p (sym z) ∙ q
  find_by p x v xs false q h e = h e

  -- what is found passes
  pub found_passes : (p : A → Bool) (v : A) (xs : List A) → find p xs ≡ Some v → p v ≡ true
  found_passes p v [] e = cc
  found_passes p v (x ∷ xs) e = find_by p x v xs (p x) refl (found_passes p v xs) e

  none_by : (p : A → Bool) (x : A) (xs : List A) (b : Bool) → (list_any p xs ≡ false → find p xs ≡ None) → b || list_any p xs ≡ false → cond b (Some x) (find p xs) ≡ None
  none_by p x xs true h e = absurd (true≢false e)
  none_by p x xs false h e = h e

  -- if none passes, none is found
  pub none_found : (p : A → Bool) (xs : List A) → list_any p xs ≡ false → find p xs ≡ None
  none_found p [] e = refl
  none_found p (x ∷ xs) e = none_by p x xs (p x) (none_found p xs) e

  pub any_mapped : (f : A → ℕ) (k : ℕ) (xs : List A) → has k (map f xs) ≡ list_any (λ x. f x == k) xs
  any_mapped f k [] = refl
  any_mapped f k (x ∷ xs) = ap (λ z. (f x == k) || z) (any_mapped f k xs)

  module _ (o p : A → Bool) (h : (x : A) → o x ≡ false → p x ≡ false) where
    any_step : (x : A) (xs : List A) (b : Bool) → o x ≡ b → list_any p (filter o xs) ≡ list_any p xs → list_any p (cond b (x ∷ filter o xs) (filter o xs)) ≡ p x || list_any p xs
    any_step x xs true e q = ap (λ z. p x || z) q
    any_step x xs false e q = q ∙ ap (λ z. z || list_any p xs) (sym (h x e))

    pub any_within : (xs : List A) → list_any p (filter o xs) ≡ list_any p xs
    any_within [] = refl
    any_within (x ∷ xs) = any_step x xs (o x) refl (any_within xs)

    find_step : (x : A) (xs : List A) (b : Bool) → o x ≡ b → find p (filter o xs) ≡ find p xs → find p (cond b (x ∷ filter o xs) (filter o xs)) ≡ cond (p x) (Some x) (find p xs)
    find_step x xs true e q = ap (λ z. cond (p x) (Some x) z) q
    find_step x xs false e q = q ∙ ap (λ z. cond z (Some x) (find p xs)) (sym (h x e))

    pub find_within : (xs : List A) → find p (filter o xs) ≡ find p xs
    find_within [] = refl
    find_within (x ∷ xs) = find_step x xs (o x) refl (find_within xs)

  module _ (o : A → Bool) where
    dropped : (y : A) (zs : List A) → o y ≡ false → cond (o y) (y ∷ zs) zs ≡ zs
    dropped y zs u = ap (λ b. cond b (y ∷ zs) zs) u

    put_step : (p : A → Bool) (y x : A) (xs : List A) (b : Bool) → p x ≡ b → o y ≡ false → (p x ≡ true → o x ≡ false) → filter o (put p y xs) ≡ filter o xs → filter o (cond b (y ∷ xs) (x ∷ put p y xs)) ≡ cond (o x) (x ∷ filter o xs) (filter o xs)
    put_step p y x xs true e u h q = dropped y (filter o xs) u ∙ sym (dropped x (filter o xs) (h e))
    put_step p y x xs false e u h q = ap (λ zs. cond (o x) (x ∷ zs) zs) q

    pub put_apart : (p : A → Bool) (y : A) → o y ≡ false → ((x : A) → p x ≡ true → o x ≡ false) → (xs : List A) → filter o (put p y xs) ≡ filter o xs
    unfolding put
    put_apart p y u h [] = dropped y [] u
    put_apart p y u h (x ∷ xs) = put_step p y x xs (p x) refl u (h x) (put_apart p y u h xs)

    map_step : (p : A → Bool) (g : A → A) (x : A) (xs ys : List A) (b : Bool) → p x ≡ b → (p x ≡ true → (o x ≡ false) × (o (g x) ≡ false)) → filter o ys ≡ filter o xs → filter o (cond b (g x) x ∷ ys) ≡ cond (o x) (x ∷ filter o xs) (filter o xs)
    map_step p g x xs ys true e h q = dropped (g x) (filter o ys) (h e).1 ∙ q ∙ sym (dropped x (filter o xs) (h e).0)
    map_step p g x xs ys false e h q = ap (λ zs. cond (o x) (x ∷ zs) zs) q

    pub map_apart : (p : A → Bool) (g : A → A) → ((x : A) → p x ≡ true → (o x ≡ false) × (o (g x) ≡ false)) → (xs : List A) → filter o (map (λ x. if p x then g x else x) xs) ≡ filter o xs
    map_apart p g h [] = refl
    map_apart p g h (x ∷ xs) = map_step p g x xs (map (λ x. if p x then g x else x) xs) (p x) refl (h x) (map_apart p g h xs)

    filter_step : (x : A) (xs ys : List A) (b : Bool) → (b ≡ false → o x ≡ false) → filter o ys ≡ filter o xs → filter o (cond b (x ∷ ys) ys) ≡ cond (o x) (x ∷ filter o xs) (filter o xs)
    filter_step x xs ys true h q = ap (λ zs. cond (o x) (x ∷ zs) zs) q
    filter_step x xs ys false h q = q ∙ sym (dropped x (filter o xs) (h refl))

    pub filter_apart : (p : A → Bool) → ((x : A) → p x ≡ false → o x ≡ false) → (xs : List A) → filter o (filter p xs) ≡ filter o xs
    filter_apart p h [] = refl
    filter_apart p h (x ∷ xs) = filter_step x xs (filter p xs) (p x) (h x) (filter_apart p h xs)

    pub last_apart : (y : A) → o y ≡ false → (xs : List A) → filter o (xs ++ y ∷ []) ≡ filter o xs
    last_apart y u [] = dropped y [] u
    last_apart y u (x ∷ xs) = ap (λ zs. cond (o x) (x ∷ zs) zs) (last_apart y u xs)

-- One file beside another.

pub other_file : (k i j : ℕ) → (k == i) ≡ true → (i == j) ≡ false → (k == j) ≡ false
other_file k i j e n = ap (λ z. z == j) (eqb-true k i e) ∙ n

-- two tables have the same rows of a file, and the same waits for it
pub record SameOn (j : ℕ) (l m : Locks) : Type 0 where
  pub rows : filter (is_row_on j) m.rows ≡ filter (is_row_on j) l.rows
  pub waits : filter (is_wait_on j) m.waiters ≡ filter (is_wait_on j) l.waiters

pub same_itself : (j : ℕ) (l : Locks) → SameOn j l l
same_itself j l = record { rows = refl; waits = refl }

pub same_over : (j : ℕ) (l m n : Locks) → SameOn j l m → SameOn j m n → SameOn j l n
same_over j l m n s t = record { rows = t.rows ∙ s.rows; waits = t.waits ∙ s.waits }

not_in_way : (c : ClientId) (j i : ℕ) (mode : Mode) (r : LockRow) → i ≡ j → is_row_on j r ≡ false → stands_against c i mode r ≡ false
not_in_way c j i mode r e n = ap (λ z. z && (not (r.client.0 == c.0) && conflicts r.mode mode)) (ap (λ z. r.ino == z) e ∙ n)

module _ (j : ℕ) (l m : Locks) (s : SameOn j l m) where
  first_same : find (is_wait_on j) m.waiters ≡ find (is_wait_on j) l.waiters
  first_same =
      sym (find_within (is_wait_on j) (is_wait_on j) (λ x e. e) m.waiters) ∙ ap (find (is_wait_on j)) s.waits ∙ find_within (is_wait_on j) (is_wait_on j) (λ x e. e) l.waiters

  any_rows_same : (p : LockRow → Bool) → ((r : LockRow) → is_row_on j r ≡ false → p r ≡ false) → list_any p m.rows ≡ list_any p l.rows
  any_rows_same p h = sym (any_within (is_row_on j) p h m.rows) ∙ ap (list_any p) s.rows ∙ any_within (is_row_on j) p h l.rows

  grantable_same : (o : Option Waiter) → ((w : Waiter) → o ≡ Some w → w.ino ≡ j) → grantable m o ≡ grantable l o
  grantable_same None h = refl
  grantable_same (Some w) h = ap (λ b. if b then None else Some w) (any_rows_same (stands_against w.client w.ino w.mode) (λ r. not_in_way w.client j w.ino w.mode r (h w refl)))

  -- the file's first waiter may be granted in both or in none
  pub next_same : next_waiter m j ≡ next_waiter l j
  next_same = ap (grantable m) first_same ∙ grantable_same (find (is_wait_on j) l.waiters) (λ w e. eqb-true w.ino j (found_passes (is_wait_on j) w l.waiters e))

-- Grants.

pub same_grant : (l : Locks) (c : ClientId) (life : Life) (i : ℕ) (mode : Mode) (j : ℕ) → (i == j) ≡ false → SameOn j l (grant l c life i mode)
unfolding grant
same_grant l c life i mode j n = record {
  rows = put_apart (is_row_on j) (is_row_of c i) (new_row l c life i mode) n (λ r e. other_file r.ino i j (and_parts (r.client.0 == c.0) (r.ino == i) e).1 n) l.rows;
  waits = filter_apart (is_wait_on j) (λ w. not (is_wait_of c i w))
      (λ w e. other_file w.ino i j (and_parts (w.client.0 == c.0) (w.ino == i) (not-false (is_wait_of c i w) e)).1 n) l.waiters;
}

found_next : (l : Locks) (i : ℕ) (w : Waiter) → next_waiter l i ≡ Some w → find (is_wait_on i) l.waiters ≡ Some w
found_next l i w e = grantable_found l (find (is_wait_on i) l.waiters) w (sym e)

next_ino : (l : Locks) (i : ℕ) (w : Waiter) → next_waiter l i ≡ Some w → (w.ino == i) ≡ true
next_ino l i w e = found_passes (is_wait_on i) w l.waiters (found_next l i w e)

same_granted : (p : Granting) (i : ℕ) (w : Waiter) (j : ℕ) → (i == j) ≡ false → next_waiter p.locks i ≡ Some w → SameOn j p.locks (grant_waiter p w).locks
unfolding grant_waiter
same_granted p i w j e q = same_grant p.locks w.client w.life w.ino w.mode j (other_file w.ino i j (next_ino p.locks i w q) e)

same_step : (i : ℕ) (p : Granting) (j : ℕ) (go_on : Granting → Granting) → (i == j) ≡ false → ((q : Granting) → SameOn j q.locks (go_on q).locks) → (o : Option Waiter) → next_waiter p.locks i ≡ o → SameOn j p.locks (grant_and go_on p o).locks
same_step i p j go_on e h None q = same_itself j p.locks
same_step i p j go_on e h (Some w) q = same_over j p.locks (grant_waiter p w).locks (go_on (grant_waiter p w)).locks (same_granted p i w j e q) (h (grant_waiter p w))

pub same_grant_file : (i n : ℕ) (p : Granting) (j : ℕ) → (i == j) ≡ false → SameOn j p.locks (grant_file i n p).locks
unfolding grant_file
same_grant_file i zero p j e = same_itself j p.locks
same_grant_file i (suc n) p j e = same_step i p j (grant_file i n) e (λ q. same_grant_file i n q j e) (next_waiter p.locks i) refl

no_waits : (p : Waiter → Bool) (ws : List Waiter) → length ws ≤ 0 → find p ws ≡ None
no_waits p [] h = refl
no_waits p (w ∷ ws) h = absurd (omega (arith, h))

fewer_waits : (p : Granting) (i n : ℕ) (w : Waiter) → length p.locks.waiters ≤ suc n → next_waiter p.locks i ≡ Some w → length (grant_waiter p w).locks.waiters ≤ n
unfolding grant_waiter grant
fewer_waits p i n w h q =
    let k = length_without (is_wait_on i) (is_wait_of w.client w.ino) w p.locks.waiters (found_next p.locks i w q) (same_wait w) in
    omega (arith, k, h)

settle_step : (i n : ℕ) (p : Granting) (go_on : Granting → Granting) → length p.locks.waiters ≤ suc n → ((q : Granting) → length q.locks.waiters ≤ n → next_waiter (go_on q).locks i ≡ None) → (o : Option Waiter) → next_waiter p.locks i ≡ o
    → next_waiter (grant_and go_on p o).locks i ≡ None
settle_step i n p go_on h k None q = q
settle_step i n p go_on h k (Some w) q = k (grant_waiter p w) (fewer_waits p i n w h q)

-- as many grants as there are waits leave no first waiter that may be granted
pub settles_file : (i n : ℕ) (p : Granting) → length p.locks.waiters ≤ n → next_waiter (grant_file i n p).locks i ≡ None
unfolding grant_file
settles_file i zero p h = ap (grantable p.locks) (no_waits (is_wait_on i) p.locks.waiters h)
settles_file i (suc n) p h = settle_step i n p (grant_file i n) h (settles_file i n) (next_waiter p.locks i) refl

-- a file that is settled stays so, and each file of the pass is settled
pub settles : (xs : List ℕ) (p : Granting) (j : ℕ) → (next_waiter p.locks j ≡ None) ⊎ (has j xs ≡ true) → next_waiter (grant_files xs p).locks j ≡ None
unfolding grant_files
settles [] p j h = ⊎_elim (λ z. z) (λ z. absurd (true≢false (sym z))) h
settles (x ∷ xs) p j h =
    ⊎_elim
    (λ e.
    settles xs (grant_file x (length p.locks.waiters) p) j
    (inl (subst (λ k. next_waiter (grant_file x (length p.locks.waiters) p).locks k ≡ None) (eqb-true x j e) (settles_file x (length p.locks.waiters) p (omega arith)))))
    (λ e.
    settles xs (grant_file x (length p.locks.waiters) p) j
    (⊎_elim
    (λ z. inl (next_same j p.locks (grant_file x (length p.locks.waiters) p).locks (same_grant_file x (length p.locks.waiters) p j e) ∙ z))
    (λ z. inr (sym (ap (λ b. b || has j xs) e) ∙ z))
    h))
    (cases_Bool (x == j))

-- after a pass no file has a first waiter that may be granted
pub all_granted : (l : Locks) (j : ℕ) → next_waiter (next_grants l).locks j ≡ None
unfolding next_grants
all_granted l j =
    settles (waited_files l) (nothing_granted l) j
    (⊎_elim
    (λ e. inr e)
    (λ e. inl (ap (grantable l) (none_found (is_wait_on j) l.waiters (sym (any_mapped ino_of_wait j l.waiters) ∙ sym (has_rising j (map ino_of_wait l.waiters)) ∙ e))))
    (cases_Bool (has j (waited_files l))))

-- Demands on a file, in two tables that have the same rows of it.

not_of_file : (c : ClientId) (j i : ℕ) (r : LockRow) → i ≡ j → is_row_on j r ≡ false → is_row_of c i r ≡ false
not_of_file c j i r e n = ap (λ z. (r.client.0 == c.0) && z) (ap (λ z. r.ino == z) e ∙ n) ∙ no (r.client.0 == c.0)
  where
    no : (b : Bool) → b && false ≡ false
    no true = refl
    no false = refl

-- what holds of the rows in a file's way, in two tables that have the same rows of it
pub each_same : (P : Waiter → Option RowDemand → Bool) (j : ℕ) (l m : Locks) (cs : List ClientId) → SameOn j l m → EachInWay l cs j P → EachInWay m cs j P
each_same P j l m cs s d w f c t r e =
    let first = sym (first_same j l m s) ∙ f in
    let at : w.ino ≡ j = eqb-true w.ino j (found_passes (is_wait_on j) w m.waiters f) in
    d w first c
    (ap (λ b. b && not (is_among cs c)) (sym (any_rows_same j l m s (is_in_way w c) (λ x n. ap (λ z. z && same_client x.client c) (not_in_way w.client j w.ino w.mode x at n)))) ∙ t)
    r
    (sym (find_within (is_row_on j) (is_row_of c w.ino) (λ x n. not_of_file c j w.ino x at n) l.rows) ∙ ap (find (is_row_of c w.ino)) (sym s.rows) ∙ find_within (is_row_on j) (is_row_of c w.ino) (λ x n. not_of_file c j w.ino x at n) m.rows ∙ e)

-- Marks.

-- a change of one file that was marked leaves a table settled
pub kept : (l m : Locks) (ino : ℕ) (g d h k : TouchedFiles) (ms : Moments) (cs : List ClientId) → IsSettled l g d ms cs → ((j : ℕ) → (ino == j) ≡ false → SameOn j l m) → Marks ino g h → Marks ino d k → IsSettled m h k ms cs
kept l m ino g d h k ms cs s f a b = record {
  granted = λ j e. next_same j l m (f j (a j e).1) ∙ s.granted j (a j e).0;
  demanded = λ j e. each_same (λ w o. is_low (wish w.mode) o) j l m cs (f j (b j e).1) (s.demanded j (b j e).0);
  timed = λ j e. each_same (λ w o. is_timed ms j o) j l m cs (f j (b j e).1) (s.timed j (b j e).0);
}

-- Changes of one file.

module _ (l : Locks) (c : ClientId) (ino j : ℕ) (n : (ino == j) ≡ false) where
  row_other : (r : LockRow) → is_row_of c ino r ≡ true → is_row_on j r ≡ false
  row_other r e = other_file r.ino ino j (and_parts (r.client.0 == c.0) (r.ino == ino) e).1 n

  wait_other : (w : Waiter) → is_wait_of c ino w ≡ true → is_wait_on j w ≡ false
  wait_other w e = other_file w.ino ino j (and_parts (w.client.0 == c.0) (w.ino == ino) e).1 n

  module _ (life : Life) (mode : Mode) where
    queue_by : (o : Option Waiter) → SameOn j l (queue_at l c life ino mode o)
    unfolding queue_at wait_for
    queue_by None = record { rows = refl; waits = last_apart (is_wait_on j) (new_wait c life ino mode) n l.waiters }
    queue_by (Some v) = record { rows = refl; waits = map_apart (is_wait_on j) (is_wait_of c ino) (wait_for mode) (λ w e. (wait_other w e, wait_other w e)) l.waiters }

    same_queue : SameOn j l (queue l c life ino mode)
    unfolding queue
    same_queue = queue_by (wait_of l c ino)

    more_by : (b : Bool) → SameOn j l (cond b (acquire_granted l c life ino mode) (acquire_queued l c life ino mode)).locks
    unfolding acquire_granted acquire_queued
    more_by true = same_grant l c life ino mode j n
    more_by false = same_queue

    same_more : (grants : Bool) → SameOn j l (acquire_more l c life ino mode grants).locks
    unfolding acquire_more
    same_more grants = more_by (may_grant l c ino mode grants)

    new_by : (grants b : Bool) (a : Acquired) → cond b (Ok (acquire_more l c life ino mode grants)) (Err acquiring.TooManyLocks) ≡ Ok a → SameOn j l a.locks
    new_by grants true a e = let z : acquire_more l c life ino mode grants ≡ a = cc in subst (λ x. SameOn j l x.locks) z (same_more grants)
    new_by grants false a e = cc

    over_by : (grants b : Bool) (r : LockRow) → SameOn j l (cond b (acquire_held l r) (acquire_more l c life ino mode grants)).locks
    unfolding acquire_held
    over_by grants true r = same_itself j l
    over_by grants false r = same_more grants

    acquired_by : (grants : Bool) (o : Option LockRow) (a : Acquired) → acquire_at l c life ino mode grants o ≡ Ok a → SameOn j l a.locks
    unfolding acquire_at acquire_new acquire_over
    acquired_by grants None a e = new_by grants (has_place l c ino) a e
    acquired_by grants (Some r) a e = let z : acquire_over l c life ino mode grants r ≡ a = cc in subst (λ x. SameOn j l x.locks) z (over_by grants (covers r.mode mode) r)

    pub same_acquired : (grants : Bool) (m : Locks) (result : Result Verdict LockRefusal) → Answers l m result (acquire l c life ino mode grants) → SameOn j l m
    unfolding acquire
    same_acquired grants m (Ok v) e = acquired_by grants (row_of l c ino) (acquired m v) e
    same_acquired grants m (Err refusing.Memory) e = subst (SameOn j l) (sym e) (same_itself j l)
    same_acquired grants m (Err refusing.TooManyLocks) e = subst (SameOn j l) (sym e.1) (same_itself j l)
    same_acquired grants m (Err (refusing.Conflict i holder)) e = absurd e

  same_lowered : SameOn j l (record l { rows = map (lower c ino) l.rows })
  unfolding lowered
  same_lowered = record { rows = map_apart (is_row_on j) (is_row_of c ino) lowered (λ r e. (row_other r e, row_other r e)) l.rows; waits = refl }

  to_by : (to : Mode) → SameOn j l (release_to l c ino to)
  unfolding release_to
  to_by modes.None =
      record { rows = filter_apart (is_row_on j) (λ r. not (is_row_of c ino r)) (λ r e. row_other r (not-false (is_row_of c ino r) e)) l.rows; waits = refl }
  to_by modes.S = same_lowered
  to_by modes.X = same_lowered

  under_by : (b : Bool) (to : Mode) → SameOn j l (cond b (release l c ino to) (not_released l)).locks
  unfolding release not_released
  under_by true to = to_by to
  under_by false to = same_itself j l

  released_by : (life : Life) (g : GrantNo) (to : Mode) (o : Option LockRow) → SameOn j l (released_at l c life ino g to o).locks
  unfolding released_at not_released
  released_by life g to None = same_itself j l
  released_by life g to (Some r) = under_by (is_under life g r) to

  pub same_released : (life : Life) (g : GrantNo) (to : Mode) → SameOn j l (released l c life ino g to).locks
  unfolding released
  same_released life g to = released_by life g to (row_of l c ino)

  pub same_seen : (g : GrantNo) → SameOn j l (demand_seen l c ino g)
  unfolding demand_seen answered_row
  same_seen g = record {
    rows = map_apart (is_row_on j) (λ r. is_row_of c ino r && (r.g.0 == g.0)) answered_row (λ r e. (row_other r (and_parts (is_row_of c ino r) (r.g.0 == g.0) e).0, row_other r (and_parts (is_row_of c ino r) (r.g.0 == g.0) e).0)) l.rows;
    waits = refl;
  }

pub same_dropped : (l : Locks) (ino j : ℕ) → (ino == j) ≡ false → SameOn j l (drop_file_waits l ino)
unfolding drop_file_waits
same_dropped l ino j n =
    record {
      rows = refl;
      waits = filter_apart (is_wait_on j) (λ w. not (is_wait_on ino w)) (λ w e. other_file w.ino ino j (not-false (is_wait_on ino w) e) n) l.waiters;
    }

-- if the first waiter may not be granted, a pass over the file does nothing
pub idle_grants : (i n : ℕ) (p : Granting) → next_waiter p.locks i ≡ None → grant_file i n p ≡ p
unfolding grant_file
idle_grants i zero p e = refl
idle_grants i (suc n) p e = ap (grant_and (grant_file i n) p) e
