-- What each change of the rows and the waits leaves of a sound table.
use Rattle.std.proofs.Common.{◌≡◌, ℕ, ◌+◌, ◌<◌, ◌^◌, ◌⊎◌, Bool, true, false, cond, if◌then◌else◌, List, [], ◌∷◌, map, filter, refl, sym, ap, ◌∙◌, ⊎_elim, inl, inr, true≢false, arith}
use Rattle.std.specs.Prelude.{not, nat_le, ◌==◌, ◌&&◌, ◌||◌}
use Rattle.std.specs.List.{IsDistinct, AllByRecursion, list_all, list_any}
use Rattle.std.proofs.lemmas.Bool.{and_parts, and_from, leb-true, le-leb, ltb-true, eq-eqb, or_from, not_from_false, not-true}
use Rattle.st_base.specs.declared.ids.Epoch.{Epoch}
use Rattle.st_base.specs.declared.mode.Mode.{Mode}
use Rattle.st_base.specs.declared.mode.Mode.TheVariants as modes
use Rattle.st_base.specs.Mode.{conflicts, covers}
use Rattle.st_rules.specs.Keys.{same_client, put}
use Rattle.st_rules.specs.Locks.{first_after, stands_against, is_row_of, with_row, answered_row, demanded, greater, lowered, is_earlier_grant}
use Rattle.st_rules.specs.ServerInvariants.{IsLockTable, are_once, is_compatible, same_row, same_wait}
use Rattle.st_tables.specs.declared.keys.Key.{Key}
use Rattle.st_tables.specs.Tables.{lock_key, wait_key, same_key}
use Rattle.st_rules.specs.declared.locks.LockRow.{LockRow}
use Rattle.st_rules.specs.declared.locks.RowDemand.{RowDemand}
use Rattle.st_rules.specs.declared.locks.Waiter.{Waiter}
use Rattle.st_lock_tables.specs.Calls.{IsSound, is_given, is_lock, is_locked, is_wanted}

left_false : (a b : Bool) → a || b ≡ false → a ≡ false
left_false true b e = absurd (true≢false e)
left_false false b e = refl

right_false : (a b : Bool) → a || b ≡ false → b ≡ false
right_false true b e = absurd (true≢false e)
right_false false b e = e

module _ {A : Type 0} (P Q : A → Bool) (h : (x : A) → P x ≡ true → Q x ≡ true) where
  kept_by : (x : A) (b : Bool) (xs : List A) → P x ≡ true → list_all Q xs ≡ true → list_all Q (cond b (x ∷ xs) xs) ≡ true
  kept_by x true xs p e = and_from (Q x) (list_all Q xs) (h x p) e
  kept_by x false xs p e = e

  all_filter : (g : A → Bool) (xs : List A) → list_all P xs ≡ true → list_all Q (filter g xs) ≡ true
  all_filter g [] e = refl
  all_filter g (x ∷ xs) e = let r = and_parts (P x) (list_all P xs) e in kept_by x (g x) (filter g xs) r.0 (all_filter g xs r.1)

  all_same : (xs : List A) → list_all P xs ≡ true → list_all Q xs ≡ true
  all_same [] e = refl
  all_same (x ∷ xs) e = let r = and_parts (P x) (list_all P xs) e in and_from (Q x) (list_all Q xs) (h x r.0) (all_same xs r.1)

  put_by : (p : A → Bool) (y x : A) (b : Bool) (xs : List A) → Q y ≡ true → P x ≡ true → list_all P xs ≡ true → list_all Q (put p y xs) ≡ true → list_all Q (cond b (y ∷ xs) (x ∷ put p y xs)) ≡ true
  put_by p y x true xs q a e r = and_from (Q y) (list_all Q xs) q (all_same xs e)
  put_by p y x false xs q a e r = and_from (Q x) (list_all Q (put p y xs)) (h x a) r

  all_put : (p : A → Bool) (y : A) (xs : List A) → Q y ≡ true → list_all P xs ≡ true → list_all Q (put p y xs) ≡ true
  unfolding put
  all_put p y [] q e = and_from (Q y) true q refl
  all_put p y (x ∷ xs) q e = let r = and_parts (P x) (list_all P xs) e in put_by p y x (p x) xs q r.0 r.1 (all_put p y xs q r.1)

module _ {A : Type 0} where
  all_map : (P Q : A → Bool) (f : A → A) → ((x : A) → P x ≡ true → Q (f x) ≡ true) → (xs : List A) → list_all P xs ≡ true → list_all Q (map f xs) ≡ true
  all_map P Q f h [] e = refl
  all_map P Q f h (x ∷ xs) e = let r = and_parts (P x) (list_all P xs) e in and_from (Q (f x)) (list_all Q (map f xs)) (h x r.0) (all_map P Q f h xs r.1)

  all_two : (P Q : A → Bool) (xs : List A) → list_all P xs ≡ true → list_all Q xs ≡ true → list_all (λ x. P x && Q x) xs ≡ true
  all_two P Q [] p q = refl
  all_two P Q (x ∷ xs) p q =
      let a = and_parts (P x) (list_all P xs) p in
      let b = and_parts (Q x) (list_all Q xs) q in
      and_from (P x && Q x) (list_all (λ y. P y && Q y) xs) (and_from (P x) (Q x) a.0 b.0) (all_two P Q xs a.1 b.1)

  all_not : (P : A → Bool) (xs : List A) → list_any P xs ≡ false → list_all (λ x. not (P x)) xs ≡ true
  all_not P [] e = refl
  all_not P (x ∷ xs) e = and_from (not (P x)) (list_all (λ y. not (P y)) xs) (not_from_false (P x) (left_false (P x) (list_any P xs) e))
      (all_not P xs (right_false (P x) (list_any P xs) e))

  any_not : (P : A → Bool) (xs : List A) → list_all (λ x. not (P x)) xs ≡ true → list_any P xs ≡ false
  any_not P [] e = refl
  any_not P (x ∷ xs) e = let r = and_parts (not (P x)) (list_all (λ y. not (P y)) xs) e in or_from (P x) (list_any P xs) (not-true (P x) r.0) (any_not P xs r.1)

-- One row against another.

eq_turn : (a b : ℕ) → (a == b) ≡ (b == a)
eq_turn a b = grind arith

conflicts_turn : (m n : Mode) → conflicts m n ≡ conflicts n m
conflicts_turn modes.None modes.None = refl
conflicts_turn modes.None modes.S = refl
conflicts_turn modes.None modes.X = refl
conflicts_turn modes.S modes.None = refl
conflicts_turn modes.S modes.S = refl
conflicts_turn modes.S modes.X = refl
conflicts_turn modes.X modes.None = refl
conflicts_turn modes.X modes.S = refl
conflicts_turn modes.X modes.X = refl

-- the second row conflicts with the first, which is another client's
abbrev pub against : LockRow → LockRow → Bool
against x q = stands_against x.client x.ino x.mode q

against_turn : (x q : LockRow) → against x q ≡ against q x
against_turn x q = λ i. eq_turn q.ino x.ino i && (not (eq_turn q.client.0 x.client.0 i) && conflicts_turn q.mode x.mode i)

none_of_own : (a d : Bool) → a && (not true && d) ≡ false
none_of_own true d = refl
none_of_own false d = refl

against_own : (x q : LockRow) → q.client.0 ≡ x.client.0 → against x q ≡ false
against_own x q e = ap (λ b. (q.ino == x.ino) && (not b && conflicts q.mode x.mode)) (eq-eqb q.client.0 x.client.0 e) ∙ none_of_own (q.ino == x.ino) (conflicts q.mode x.mode)

-- a row with the client, file and grant number of another, and with its mode too or shared
pub record Less (new old : LockRow) : Type 0 where
  pub client : new.client ≡ old.client
  pub ino : new.ino ≡ old.ino
  pub g : new.g ≡ old.g
  pub mode : (new.mode ≡ old.mode) ⊎ (new.mode ≡ modes.S)

-- a change makes less of a row
abbrev pub Weakens : (LockRow → LockRow) → LockRow → Type 0
Weakens f r = Less (f r) r

less_if : (b : Bool) (new old : LockRow) → Less new old → Less (cond b new old) old
less_if true new old l = l
less_if false new old l = record { client = refl; ino = refl; g = refl; mode = inl refl }

-- a change of only some rows
pub weakens_some : (p : LockRow → Bool) (f : LockRow → LockRow) (r : LockRow) → Weakens f r → Less (if p r then f r else r) r
weakens_some p f r w = less_if (p r) (f r) r w

pub weakens_answered : (r : LockRow) → Weakens answered_row r
unfolding answered_row
weakens_answered r = record { client = refl; ino = refl; g = refl; mode = inl refl }

pub weakens_lowered : (r : LockRow) → Weakens lowered r
unfolding lowered
weakens_lowered r = record { client = refl; ino = refl; g = refl; mode = inr refl }

pub weakens_demanded : (d : RowDemand) (r : LockRow) → Weakens (demanded d) r
unfolding demanded
weakens_demanded d r = record { client = refl; ino = refl; g = refl; mode = inl refl }

both_shared : (m n : Mode) → is_lock m ≡ true → is_lock n ≡ true → conflicts m n ≡ false → (m ≡ modes.S) × (n ≡ modes.S)
both_shared modes.None n a b e = absurd (true≢false (sym a))
both_shared modes.S modes.None a b e = absurd (true≢false (sym b))
both_shared modes.S modes.S a b e = (refl, refl)
both_shared modes.S modes.X a b e = absurd (true≢false e)
both_shared modes.X modes.None a b e = absurd (true≢false (sym b))
both_shared modes.X modes.S a b e = absurd (true≢false e)
both_shared modes.X modes.X a b e = absurd (true≢false e)

still_shared : (m n : Mode) → m ≡ modes.S → (n ≡ m) ⊎ (n ≡ modes.S) → n ≡ modes.S
still_shared m n e w = ⊎_elim (λ (z : n ≡ m). z ∙ e) (λ (z : n ≡ modes.S). z) w

no_conflict : (m n k l : Mode) → is_lock m ≡ true → is_lock n ≡ true → (k ≡ m) ⊎ (k ≡ modes.S) → (l ≡ n) ⊎ (l ≡ modes.S) → conflicts m n ≡ false → conflicts k l ≡ false
no_conflict m n k l a b v w e = let s = both_shared m n a b e in λ i. conflicts (still_shared m k s.0 v i) (still_shared n l s.1 w i)

and_weaker : (a b d e : Bool) → (d ≡ false → e ≡ false) → a && (b && d) ≡ false → a && (b && e) ≡ false
and_weaker true true d e h q = h q
and_weaker true false d e h q = refl
and_weaker false b d e h q = refl

against_weaker : (f : LockRow → LockRow) (x q : LockRow) → Weakens f x → Weakens f q → is_lock x.mode ≡ true → is_lock q.mode ≡ true → against x q ≡ false → against (f x) (f q) ≡ false
against_weaker f x q v w a b e =
    (λ i. (w.ino i == v.ino i) && (not ((w.client i).0 == (v.client i).0) && conflicts (f q).mode (f x).mode))
    ∙ and_weaker (q.ino == x.ino) (not (same_client q.client x.client)) (conflicts q.mode x.mode) (conflicts (f q).mode (f x).mode) (no_conflict q.mode x.mode (f q).mode (f x).mode b a w.mode v.mode) e

-- Compatible rows.

module _ (rows : List LockRow) (h : list_all (is_compatible rows) rows ≡ true) where
  compatible_filter : (p : LockRow → Bool) → list_all (is_compatible (filter p rows)) (filter p rows) ≡ true
  compatible_filter p =
      all_filter (is_compatible rows) (is_compatible (filter p rows))
      (λ x c. not_from_false (list_any (against x) (filter p rows))
      (any_not (against x) (filter p rows)
      (all_filter (λ q. not (against x q)) (λ q. not (against x q)) (λ q e. e) p rows (all_not (against x) rows (not-true (list_any (against x) rows) c)))))
      p rows h

  compatible_put : (p : LockRow → Bool) (row : LockRow) → list_any (against row) rows ≡ false → list_all (is_compatible (put p row rows)) (put p row rows) ≡ true
  compatible_put p row free =
      all_put (λ x. is_compatible rows x && not (against row x)) (is_compatible (put p row rows))
      (λ x c.
      let r = and_parts (is_compatible rows x) (not (against row x)) c in
      among x (against_turn x row ∙ not-true (against row x) r.1) (not-true (list_any (against x) rows) r.0))
      p row rows
      (among row (against_own row row refl) free)
      (all_two (is_compatible rows) (λ x. not (against row x)) rows h (all_not (against row) rows free))
    where
      among : (x : LockRow) → against x row ≡ false → list_any (against x) rows ≡ false → is_compatible (put p row rows) x ≡ true
      among x own e =
          not_from_false (list_any (against x) (put p row rows))
          (any_not (against x) (put p row rows)
          (all_put (λ q. not (against x q)) (λ q. not (against x q)) (λ q e. e) p row rows (not_from_false (against x row) own)
          (all_not (against x) rows e)))

  compatible_map : (f : LockRow → LockRow) → ((r : LockRow) → Weakens f r) → list_all is_locked rows ≡ true → list_all (is_compatible (map f rows)) (map f rows) ≡ true
  compatible_map f w locked =
      all_map (λ x. is_compatible rows x && is_locked x) (is_compatible (map f rows)) f
      (λ x c.
      let r = and_parts (is_compatible rows x) (is_locked x) c in
      not_from_false (list_any (against (f x)) (map f rows))
      (any_not (against (f x)) (map f rows)
      (all_map (λ q. not (against x q) && is_locked q) (λ q. not (against (f x) q)) f
      (λ q e. let s = and_parts (not (against x q)) (is_locked q) e in
      not_from_false (against (f x) (f q)) (against_weaker f x q (w x) (w q) r.1 s.1 (not-true (against x q) s.0)))
      rows (all_two (λ q. not (against x q)) is_locked rows (all_not (against x) rows (not-true (list_any (against x) rows) r.0)) locked))))
      rows (all_two (is_compatible rows) is_locked rows h locked)

-- A sound table.

lock_weaker : (f : LockRow → LockRow) (r : LockRow) → Weakens f r → is_locked r ≡ true → is_locked (f r) ≡ true
lock_weaker f r w e = ⊎_elim (λ z. ap is_lock z ∙ e) (λ z. ap is_lock z) w.mode

given_more : (e : Epoch) (g : ℕ) (r : LockRow) → is_given e g r ≡ true → is_given e (g + 1) r ≡ true
given_more e g r h = let l = leb-true r.g.0 (first_after e + g) h in le-leb r.g.0 (first_after e + (g + 1)) (omega (arith, l))

module _ (e : Epoch) (g : ℕ) (rows : List LockRow) (ws : List Waiter) (s : IsSound e g rows ws) where
  pub sound_fewer_rows : (p : LockRow → Bool) → IsSound e g (filter p rows) ws
  sound_fewer_rows p = record {
    epochs = s.epochs;
    counted = s.counted;
    compatible = compatible_filter rows s.compatible p;
    given = all_filter (is_given e g) (is_given e g) (λ x q. q) p rows s.given;
    locked = all_filter is_locked is_locked (λ x q. q) p rows s.locked;
    wanted = s.wanted;
  }

  pub sound_fewer_waits : (p : Waiter → Bool) → IsSound e g rows (filter p ws)
  sound_fewer_waits p = record {
    epochs = s.epochs;
    counted = s.counted;
    compatible = s.compatible;
    given = s.given;
    locked = s.locked;
    wanted = all_filter is_wanted is_wanted (λ x q. q) p ws s.wanted;
  }

  pub sound_wait : (p : Waiter → Bool) (w : Waiter) → is_lock w.mode ≡ true → IsSound e g rows (put p w ws)
  sound_wait p w l = record {
    epochs = s.epochs;
    counted = s.counted;
    compatible = s.compatible;
    given = s.given;
    locked = s.locked;
    wanted = all_put is_wanted is_wanted (λ x q. q) p w ws l s.wanted;
  }

  pub sound_waits : (f : Waiter → Waiter) → ((w : Waiter) → is_lock w.mode ≡ true → is_lock (f w).mode ≡ true) → IsSound e g rows (map f ws)
  sound_waits f h = record {
    epochs = s.epochs;
    counted = s.counted;
    compatible = s.compatible;
    given = s.given;
    locked = s.locked;
    wanted = all_map is_wanted is_wanted f h ws s.wanted;
  }

  pub sound_rows : (f : LockRow → LockRow) → ((r : LockRow) → Weakens f r) → IsSound e g (map f rows) ws
  sound_rows f w = record {
    epochs = s.epochs;
    counted = s.counted;
    compatible = compatible_map rows s.compatible f w s.locked;
    given = all_map (is_given e g) (is_given e g) f (λ x q. ap (λ n. nat_le n.0 (first_after e + g)) (w x).g ∙ q) rows s.given;
    locked = all_map is_locked is_locked f (λ x q. lock_weaker f x (w x) q) rows s.locked;
    wanted = s.wanted;
  }

  pub sound_row : (row : LockRow) → list_any (against row) rows ≡ false → is_lock row.mode ≡ true → is_given e g row ≡ true → IsSound e g (with_row row rows) ws
  sound_row row free l n = record {
    epochs = s.epochs;
    counted = s.counted;
    compatible = compatible_put rows s.compatible (is_row_of row.client row.ino) row free;
    given = all_put (is_given e g) (is_given e g) (λ x q. q) (is_row_of row.client row.ino) row rows n s.given;
    locked = all_put is_locked is_locked (λ x q. q) (is_row_of row.client row.ino) row rows l s.locked;
    wanted = s.wanted;
  }

  pub sound_more : g + 1 < 2 ^ 32 → IsSound e (g + 1) rows ws
  sound_more r = record {
    epochs = s.epochs;
    counted = r;
    compatible = s.compatible;
    given = all_same (is_given e g) (is_given e (g + 1)) (given_more e g) rows s.given;
    locked = s.locked;
    wanted = s.wanted;
  }

next_given : (e : Epoch) (g : ℕ) (row : LockRow) → row.g.0 ≡ first_after e + g + 1 → is_given e (g + 1) row ≡ true
next_given e g row q = le-leb row.g.0 (first_after e + (g + 1)) (omega (arith, q))

-- after a grant
pub sound_grant : (e : Epoch) (g : ℕ) (rows : List LockRow) (ws : List Waiter) → IsSound e g rows ws → (row : LockRow) (p : Waiter → Bool) → list_any (against row) rows ≡ false → is_lock row.mode ≡ true → row.g.0 ≡ first_after e + g + 1 → g + 1 < 2 ^ 32
    → IsSound e (g + 1) (with_row row rows) (filter p ws)
sound_grant e g rows ws s row p free l n r =
    sound_fewer_waits e (g + 1) (with_row row rows) ws (sound_row e (g + 1) rows ws (sound_more e g rows ws s r) row free l (next_given e g row n)) p

-- the greater of two modes of locks is one
pub greater_lock : (m n : Mode) → is_lock m ≡ true → is_lock n ≡ true → is_lock (greater m n) ≡ true
greater_lock m n a b = by (covers m n)
  where
    by : (d : Bool) → is_lock (if d then m else n) ≡ true
    by true = a
    by false = b

-- a wait that is written over another of its key
pub one_lock : (d : Bool) (v w : Waiter) → is_lock v.mode ≡ true → is_lock w.mode ≡ true → is_lock (if d then v else w).mode ≡ true
one_lock true v w a b = a
one_lock false v w a b = b

-- a grant number of an earlier epoch was given
pub earlier_given : (e : Epoch) (g : ℕ) (row : LockRow) → is_earlier_grant e row.g ≡ true → is_given e g row ≡ true
earlier_given e g row h = let l = ltb-true row.g.0 (first_after e) h in le-leb row.g.0 (first_after e + g) (omega (arith, l))

-- A sound table is one by the definitions.

module _ {A : Type 0} (key : A → Key) (same : A → A → Bool) (h : (x y : A) → same x y ≡ same_key (key x) (key y)) where
  none_same : (x : A) (xs : List A) → AllByRecursion (λ k. same_key (key x) k ≡ false) (map key xs) → list_any (same x) xs ≡ false
  none_same x [] a = refl
  none_same x (y ∷ ys) a = or_from (same x y) (list_any (same x) ys) (h x y ∙ a.0) (none_same x ys a.1)

  once_by_keys : (xs : List A) → IsDistinct same_key (map key xs) → are_once same xs ≡ true
  unfolding IsDistinct are_once
  once_by_keys [] d = refl
  once_by_keys (x ∷ xs) d = and_from (not (list_any (same x) xs)) (are_once same xs) (not_from_false (list_any (same x) xs) (none_same x xs d.0))
      (once_by_keys xs d.1)

pub valid : (e : Epoch) (g : ℕ) (rows : List LockRow) (ws : List Waiter) → IsSound e g rows ws → IsDistinct same_key (map lock_key rows) → IsDistinct same_key (map wait_key ws) → IsLockTable (record { epoch = e; grants = g; rows = rows; waiters = ws; limit = 1024 })
valid e g rows ws s d f = record {
  rows_once = once_by_keys lock_key same_row (λ x y i. eq_turn y.client.0 x.client.0 i && eq_turn y.ino x.ino i) rows d;
  waits_once = once_by_keys wait_key same_wait (λ x y i. eq_turn y.client.0 x.client.0 i && eq_turn y.ino x.ino i) ws f;
  compatible = s.compatible;
  granted = s.given;
}
