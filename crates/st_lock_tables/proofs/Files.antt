-- How many files a client has rows or waits on.
use Rattle.std.proofs.Common.{◌≡◌, ℕ, ◌+◌, ◌≤◌, Bool, true, false, cond, List, [], ◌∷◌, ◌++◌, map, filter, length, refl, sym, ap, ◌∙◌, ⊎_elim, true≢false, arith, length-append}
use Rattle.std.specs.Prelude.{find, not, is_some, nat_eq, Some, ◌==◌, ◌&&◌, ◌||◌}
use Rattle.std.specs.List.{IsDistinct, AllByRecursion, list_any}
use Rattle.std.proofs.lemmas.Bool.{cases_Bool, and_parts, eqb-true, eqb-false, eq-eqb, ne_eqb, or_parts, and_from, or_right}
use Rattle.std.proofs.lemmas.List.{length-map}
use Rattle.std.proofs.lemmas.List.Folds.{list_any-append}
use Rattle.st_base.specs.declared.ids.ClientId.{ClientId}
use Rattle.st_rules.specs.declared.locks.Waiter.{Waiter}
use Rattle.st_rules.specs.Keys.{rising}
use Rattle.st_rules.specs.Locks.{Locks, is_row_of, is_row_by, is_wait_by, ino_of_row, ino_of_wait, files_of}
use Rattle.st_tables.specs.declared.keys.Key.{Key}
use Rattle.st_tables.specs.Tables.{lock_key, wait_key, same_key, second_of}
use Rattle.st_tables.proofs.RisingKeys.{has, rising_same, length_rising, any_map_filter, any_same}
use Rattle.st_lock_tables.specs.Calls.{waits_alone}

module _ {V : Type 0} (key : V → Key) (c : ℕ) (p : V → Bool) (of : (x : V) → p x ≡ true → (key x).first ≡ c) where
  apart_by : (x y : V) (ys : List V) (b : Bool) → p y ≡ b → p x ≡ true → same_key (key x) (key y) ≡ false → AllByRecursion (λ k. nat_eq (second_of key x) k ≡ false) (map (second_of key) ys) → AllByRecursion (λ k. nat_eq (second_of key x) k ≡ false) (map (second_of key) (cond b (y ∷ ys) ys))
  apart_by x y ys true q t a r =
      (ne_eqb (key x).second (key y).second (λ (z : (key x).second ≡ (key y).second). true≢false (sym (and_from ((key x).first == (key y).first) ((key x).second == (key y).second) (eq-eqb (key x).first (key y).first (of x t ∙ sym (of y q))) (eq-eqb (key x).second (key y).second z)) ∙ a)), r)
  apart_by x y ys false q t a r = r

  apart : (x : V) (xs : List V) → p x ≡ true → AllByRecursion (λ k. same_key (key x) k ≡ false) (map key xs) → AllByRecursion (λ k. nat_eq (second_of key x) k ≡ false) (map (second_of key) (filter p xs))
  apart x [] t a = tt
  apart x (y ∷ ys) t a = apart_by x y (filter p ys) (p y) refl t a.0 (apart x ys t a.1)

  distinct_by : (x : V) (xs : List V) (b : Bool) → (b ≡ true → AllByRecursion (λ k. nat_eq (second_of key x) k ≡ false) (map (second_of key) xs)) → IsDistinct nat_eq (map (second_of key) xs) → IsDistinct nat_eq (map (second_of key) (cond b (x ∷ xs) xs))
  unfolding IsDistinct
  distinct_by x xs true a d = (a refl, d)
  distinct_by x xs false a d = d

  -- the second numbers of one client's rows differ
  pub distinct_seconds : (xs : List V) → IsDistinct same_key (map key xs) → IsDistinct nat_eq (map (second_of key) (filter p xs))
  unfolding IsDistinct
  distinct_seconds [] d = tt
  distinct_seconds (x ∷ xs) d = distinct_by x (filter p xs) (p x) (λ t. apart x xs t d.0) (distinct_seconds xs d.1)

apart_from : (x : ℕ) (ys : List ℕ) → has x ys ≡ false → AllByRecursion (λ k. nat_eq x k ≡ false) ys
apart_from x [] h = tt
apart_from x (y ∷ ys) h = let a = or_parts (y == x) (has x ys) h in (ne_eqb x y (λ (z : x ≡ y). eqb-false y x a.0 (sym z)), apart_from x ys a.1)

apart_append : (x : ℕ) (xs ys : List ℕ) → AllByRecursion (λ k. nat_eq x k ≡ false) xs → AllByRecursion (λ k. nat_eq x k ≡ false) ys → AllByRecursion (λ k. nat_eq x k ≡ false) (xs ++ ys)
apart_append x [] ys a b = b
apart_append x (z ∷ zs) ys a b = (a.0, apart_append x zs ys a.1 b)

distinct_append : (xs ys : List ℕ) → IsDistinct nat_eq xs → IsDistinct nat_eq ys → ((k : ℕ) → has k xs ≡ true → has k ys ≡ false) → IsDistinct nat_eq (xs ++ ys)
unfolding IsDistinct
distinct_append [] ys d e h = e
distinct_append (x ∷ xs) ys d e h = (
  apart_append x xs ys d.0 (apart_from x ys (h x (ap (λ b. b || has x xs) (eq-eqb x x refl)))),
  distinct_append xs ys d.1 e (λ k t. h k (or_right (x == k) (has k xs) t)),
)

found_by : {A : Type 0} (p : A → Bool) (x : A) (xs : List A) (b : Bool) → is_some (find p xs) ≡ list_any p xs → is_some (cond b (Some x) (find p xs)) ≡ b || list_any p xs
found_by p x xs true h = refl
found_by p x xs false h = h

found_any : {A : Type 0} (p : A → Bool) (xs : List A) → is_some (find p xs) ≡ list_any p xs
found_any p [] = refl
found_any p (x ∷ xs) = found_by p x xs (p x) (found_any p xs)

module _ (l : Locks) (c : ClientId) where
  row_files : List ℕ
  row_files = map ino_of_row (filter (is_row_by c) l.rows)

  alone_files : List ℕ
  alone_files = map ino_of_wait (filter (waits_alone l.rows c) l.waiters)

  rows_have : (k : ℕ) → has k (map ino_of_row (filter (is_row_by c) l.rows)) ≡ is_some (find (is_row_of c k) l.rows)
  rows_have k = any_map_filter ino_of_row (is_row_by c) k l.rows ∙ sym (found_any (is_row_of c k) l.rows)

  alone_at : (b : Bool) (k : ℕ) (w : Waiter) → is_some (find (is_row_of c k) l.rows) ≡ b → waits_alone l.rows c w && (w.ino == k) ≡ (is_wait_by c w && (w.ino == k)) && not b
  alone_at b k w e =
      ⊎_elim
      (λ h.
      let s : w.ino ≡ k = eqb-true w.ino k h in
      let f : is_some (find (is_row_of c w.ino) l.rows) ≡ b = ap (λ i. is_some (find (is_row_of c i) l.rows)) s ∙ e in
      ap (λ z. (is_wait_by c w && not z) && (w.ino == k)) f ∙ turn (is_wait_by c w) (not b) (w.ino == k))
      (λ h. ap (λ z. waits_alone l.rows c w && z) h ∙ no (waits_alone l.rows c w) ∙ sym (ap (λ z. (is_wait_by c w && z) && not b) h ∙ none (is_wait_by c w) (not b)))
      (cases_Bool (w.ino == k))
    where
      turn : (x y z : Bool) → (x && y) && z ≡ (x && z) && y
      turn true true true = refl
      turn true true false = refl
      turn true false true = refl
      turn true false false = refl
      turn false y z = refl

      no : (x : Bool) → x && false ≡ false
      no true = refl
      no false = refl

      none : (x y : Bool) → (x && false) && y ≡ false
      none true y = refl
      none false y = refl

  any_and : (p : Waiter → Bool) (b : Bool) (ws : List Waiter) → list_any (λ w. p w && not b) ws ≡ list_any p ws && not b
  any_and p b [] = refl
  any_and p true (w ∷ ws) = ap (λ z. (p w && false) || z) (any_and p true ws) ∙ gone (p w) (list_any p ws)
    where
      gone : (x y : Bool) → (x && false) || (y && false) ≡ (x || y) && false
      gone true true = refl
      gone true false = refl
      gone false y = refl
  any_and p false (w ∷ ws) = ap (λ z. (p w && true) || z) (any_and p false ws) ∙ kept (p w) (list_any p ws)
    where
      kept : (x y : Bool) → (x && true) || (y && true) ≡ (x || y) && true
      kept true y = refl
      kept false y = refl

  pub alone_have : (k : ℕ) → has k (map ino_of_wait (filter (waits_alone l.rows c) l.waiters)) ≡ has k (map ino_of_wait (filter (is_wait_by c) l.waiters)) && not (is_some (find (is_row_of c k) l.rows))
  alone_have k =
      any_map_filter ino_of_wait (waits_alone l.rows c) k l.waiters
      ∙ any_same (λ w. waits_alone l.rows c w && (w.ino == k)) (λ w. (is_wait_by c w && (w.ino == k)) && not (is_some (find (is_row_of c k) l.rows))) l.waiters (λ w. alone_at (is_some (find (is_row_of c k) l.rows)) k w refl)
      ∙ any_and (λ w. is_wait_by c w && (w.ino == k)) (is_some (find (is_row_of c k) l.rows)) l.waiters
      ∙ ap (λ z. z && not (is_some (find (is_row_of c k) l.rows))) (sym (any_map_filter ino_of_wait (is_wait_by c) k l.waiters))

  same_members : (k : ℕ) → has k (map ino_of_row (filter (is_row_by c) l.rows) ++ map ino_of_wait (filter (is_wait_by c) l.waiters)) ≡ has k (map ino_of_row (filter (is_row_by c) l.rows) ++ map ino_of_wait (filter (waits_alone l.rows c) l.waiters))
  same_members k =
      list_any-append (λ x. x == k) (map ino_of_row (filter (is_row_by c) l.rows)) (map ino_of_wait (filter (is_wait_by c) l.waiters))
      ∙ absorbed (has k (map ino_of_row (filter (is_row_by c) l.rows))) (has k (map ino_of_wait (filter (is_wait_by c) l.waiters)))
      ∙ (λ i. has k (map ino_of_row (filter (is_row_by c) l.rows)) || (has k (map ino_of_wait (filter (is_wait_by c) l.waiters)) && not (rows_have k i)))
      ∙ ap (λ z. has k (map ino_of_row (filter (is_row_by c) l.rows)) || z) (sym (alone_have k))
      ∙ sym (list_any-append (λ x. x == k) (map ino_of_row (filter (is_row_by c) l.rows)) (map ino_of_wait (filter (waits_alone l.rows c) l.waiters)))
    where
      absorbed : (a b : Bool) → a || b ≡ a || (b && not a)
      absorbed true b = refl
      absorbed false true = refl
      absorbed false false = refl

  module _ (d : IsDistinct same_key (map lock_key l.rows)) (e : IsDistinct same_key (map wait_key l.waiters)) where
    distinct_alone : IsDistinct nat_eq (map ino_of_wait (filter (waits_alone l.rows c) l.waiters))
    distinct_alone = distinct_seconds wait_key c.0 (waits_alone l.rows c) (λ w t. eqb-true w.client.0 c.0 (and_parts (is_wait_by c w) (not (is_some (find (is_row_of c w.ino) l.rows))) t).0) l.waiters e

    distinct_all : IsDistinct nat_eq (map ino_of_row (filter (is_row_by c) l.rows) ++ map ino_of_wait (filter (waits_alone l.rows c) l.waiters))
    distinct_all =
        distinct_append (map ino_of_row (filter (is_row_by c) l.rows)) (map ino_of_wait (filter (waits_alone l.rows c) l.waiters))
        (distinct_seconds lock_key c.0 (is_row_by c) (λ r t. eqb-true r.client.0 c.0 t) l.rows d) distinct_alone
        (λ k t. alone_have k ∙ ap (λ z. has k (map ino_of_wait (filter (is_wait_by c) l.waiters)) && not z) (sym (rows_have k) ∙ t) ∙ no (has k (map ino_of_wait (filter (is_wait_by c) l.waiters))))
      where
        no : (x : Bool) → x && false ≡ false
        no true = refl
        no false = refl

    -- the client's rows, and its waits for other files
    pub files_counted : length (files_of l c) ≡ length (filter (is_row_by c) l.rows) + length (filter (waits_alone l.rows c) l.waiters)
    files_counted =
        ap length (rising_same (map ino_of_row (filter (is_row_by c) l.rows) ++ map ino_of_wait (filter (is_wait_by c) l.waiters)) (map ino_of_row (filter (is_row_by c) l.rows) ++ map ino_of_wait (filter (waits_alone l.rows c) l.waiters)) same_members)
        ∙ length_rising (map ino_of_row (filter (is_row_by c) l.rows) ++ map ino_of_wait (filter (waits_alone l.rows c) l.waiters)) distinct_all
        ∙ length-append (map ino_of_row (filter (is_row_by c) l.rows)) (map ino_of_wait (filter (waits_alone l.rows c) l.waiters))
        ∙ (λ i. length-map (filter (is_row_by c) l.rows) ino_of_row i + length-map (filter (waits_alone l.rows c) l.waiters) ino_of_wait i)

    pub alone_counted : length (rising (map ino_of_wait (filter (waits_alone l.rows c) l.waiters))) ≡ length (filter (waits_alone l.rows c) l.waiters)
    alone_counted = length_rising (map ino_of_wait (filter (waits_alone l.rows c) l.waiters)) distinct_alone ∙ length-map (filter (waits_alone l.rows c) l.waiters) ino_of_wait

  fewer_by : (w : Waiter) (a b : List Waiter) (x y : Bool) → length a ≤ length b → length (cond (x && y) (w ∷ a) a) ≤ length (cond x (w ∷ b) b)
  fewer_by w a b true true h = omega arith
  fewer_by w a b true false h = omega arith
  fewer_by w a b false y h = h

  fewer_wait_alone : (ws : List Waiter) → length (filter (waits_alone l.rows c) ws) ≤ length (filter (is_wait_by c) ws)
  fewer_wait_alone [] = omega arith
  fewer_wait_alone (w ∷ ws) = fewer_by w (filter (waits_alone l.rows c) ws) (filter (is_wait_by c) ws) (is_wait_by c w)
      (not (is_some (find (is_row_of c w.ino) l.rows))) (fewer_wait_alone ws)

  pub fewer_alone : length (filter (waits_alone l.rows c) l.waiters) ≤ length (filter (is_wait_by c) l.waiters)
  fewer_alone = fewer_wait_alone l.waiters
