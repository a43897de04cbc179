-- The rows that a client has of lower lives, if all its rows are such, and the first file of them.
use Rattle.std.proofs.Common.{◌≡◌, ℕ, ◌⊎◌, Bool, true, false, ◌&&◌, ◌||◌, ◌==◌, not, cond, List, [], ◌∷◌, Option, Some, None, refl, sym, ap, ◌∙◌, inl, inr}
use Rattle.std.specs.Prelude.{filter, filter_map, find, map, nat_le, nat_lt, slice_get, option_map}
use Rattle.std.specs.List.{cons_option, list_any}
use Rattle.std.proofs.lemmas.Bool.{eq-eqb, leb-false, lt-ltb, not-true, or_right}
use Rattle.st_base.specs.declared.ids.ClientId.{ClientId}
use Rattle.st_base.specs.declared.ids.Life.{Life}
use Rattle.st_base.specs.declared.ids.GrantNo.{GrantNo}
use Rattle.st_base.specs.declared.mode.Mode.{Mode}
use Rattle.st_rules.specs.declared.locks.LockRow.{LockRow}
use Rattle.st_rules.specs.Keys.{same_client, with_key, placed, past, rising, least}
use Rattle.st_rules.specs.Locks.{Locks, has_rows, ino_of_row, is_row_by, is_row_of, row_at, row_in_list, rows_of}
use Rattle.st_rules.specs.Grace.{is_row_below, own_older}
use Rattle.st_reassert.specs.Acceptance.{is_row_from, is_older}

-- the first key of a list with one more
record First (k : ℕ) (ks all : List ℕ) : Type 0 where
  m : ℕ
  rest : List ℕ
  is : all ≡ m ∷ rest
  which : (m ≡ k) ⊎ (slice_get ks 0 ≡ Some m)

first_with_key : (k : ℕ) (ks : List ℕ) → First k ks (with_key k ks)
unfolding with_key placed past
first_with_key k [] = record { m = k; rest = []; is = refl; which = inl refl }
first_with_key k (x ∷ xs) = go (nat_lt k x) (k == x)
  where
    go : (b d : Bool) → First k (x ∷ xs) (cond b (k ∷ (x ∷ xs)) (cond d (x ∷ xs) (x ∷ with_key k xs)))
    go true d = record { m = k; rest = x ∷ xs; is = refl; which = inl refl }
    go false true = record { m = x; rest = xs; is = refl; which = inr refl }
    go false false = record { m = x; rest = with_key k xs; is = refl; which = inr refl }

-- the first of the keys in rising order is one of them
record Least (xs : List ℕ) : Type 0 where
  m : ℕ
  rest : List ℕ
  is : rising xs ≡ m ∷ rest
  member : list_any (λ y. y == m) xs ≡ true

least_of : (x : ℕ) (xs : List ℕ) → Least (x ∷ xs)
unfolding rising
least_of x [] = go (first_with_key x [])
  where
    go : First x [] (with_key x []) → Least (x ∷ [])
    go f = record { m = f.m; rest = f.rest; is = f.is; member = one f.which }
      where
        one : (f.m ≡ x) ⊎ (None ≡ Some f.m) → ((x == f.m) || false) ≡ true
        one (inl e) = ap (λ (b : Bool). b || false) (eq-eqb x f.m (sym e))
        one (inr e) = cc
least_of x (y ∷ ys) = go (first_with_key x (rising (y ∷ ys))) (least_of y ys)
  where
    go : First x (rising (y ∷ ys)) (with_key x (rising (y ∷ ys))) → Least (y ∷ ys) → Least (x ∷ (y ∷ ys))
    go f l = record { m = f.m; rest = f.rest; is = f.is; member = member f.which }
      where
        member : (f.m ≡ x) ⊎ (slice_get (rising (y ∷ ys)) 0 ≡ Some f.m) → ((x == f.m) || list_any (λ z. z == f.m) (y ∷ ys)) ≡ true
        member (inl e) = ap (λ (b : Bool). b || list_any (λ z. z == f.m) (y ∷ ys)) (eq-eqb x f.m (sym e))
        member (inr e) =
            let q : Some l.m ≡ Some f.m = sym (ap (λ (ks : List ℕ). slice_get ks 0) l.is) ∙ e in
            let same : l.m ≡ f.m = cc in
            or_right (x == f.m) _ (ap (λ (n : ℕ). list_any (λ z. z == n) (y ∷ ys)) (sym same) ∙ l.member)

-- a file of the client's rows has a row of the client
record Found (c : ClientId) (k : ℕ) (rows : List LockRow) : Type 0 where
  r : LockRow
  is : find (is_row_of c k) rows ≡ Some r

found : (c : ClientId) (k : ℕ) (rows : List LockRow) → list_any (λ y. y == k) (map ino_of_row (filter (is_row_by c) rows)) ≡ true → Found c k rows
found c k [] e = cc
found c k (r ∷ rows) e = go (same_client r.client c) (r.ino == k) refl refl e (found c k rows)
  where
    go : (a b : Bool) → same_client r.client c ≡ a → (r.ino == k) ≡ b →
        list_any (λ y. y == k) (map ino_of_row (cond a (r ∷ filter (is_row_by c) rows) (filter (is_row_by c) rows))) ≡ true →
        (list_any (λ y. y == k) (map ino_of_row (filter (is_row_by c) rows)) ≡ true → Found c k rows) → Found c k (r ∷ rows)
    go true true f g h i = record { r = r; is = ap (λ (t : Bool). cond t (Some r) (find (is_row_of c k) rows)) (ap (λ (t : Bool). t && (r.ino == k)) f ∙ g) }
    go true false f g h i =
        let q = i (ap (λ (t : Bool). t || list_any (λ y. y == k) (map ino_of_row (filter (is_row_by c) rows))) (sym g) ∙ h) in
        record { r = q.r; is = ap (λ (t : Bool). cond t (Some r) (find (is_row_of c k) rows)) (ap (λ (t : Bool). t && (r.ino == k)) f ∙ g) ∙ q.is }
    go false b f g h i =
        let q = i h in
        record { r = q.r; is = ap (λ (t : Bool). cond t (Some r) (find (is_row_of c k) rows)) (ap (λ (t : Bool). t && (r.ino == k)) f) ∙ q.is }

-- if no row belongs to the life or to a higher one, all rows of the client are below it
all_below : (c : ClientId) (life : Life) (rows : List LockRow) → list_any (is_row_from c life) rows ≡ false →
    filter (is_row_below c life) rows ≡ filter (is_row_by c) rows
all_below c life [] e = refl
all_below c life (r ∷ rows) e = go (same_client r.client c) (nat_le life.0 r.life.0) refl refl e (all_below c life rows)
  where
    go : (a b : Bool) → same_client r.client c ≡ a → nat_le life.0 r.life.0 ≡ b → ((a && b) || list_any (is_row_from c life) rows) ≡ false →
        (list_any (is_row_from c life) rows ≡ false → filter (is_row_below c life) rows ≡ filter (is_row_by c) rows) →
        cond (a && nat_lt r.life.0 life.0) (r ∷ filter (is_row_below c life) rows) (filter (is_row_below c life) rows)
        ≡ cond a (r ∷ filter (is_row_by c) rows) (filter (is_row_by c) rows)
    go true true f g h i = cc
    go true false f g h i =
        ap (λ (t : Bool). cond t (r ∷ filter (is_row_below c life) rows) (filter (is_row_below c life) rows)) (lt-ltb r.life.0 life.0 (leb-false _ _ g))
        ∙ ap (λ l. r ∷ l) (i h)
    go false b f g h i = i h

-- a client with rows has a first one
record HasFirst (rows : List LockRow) : Type 0 where
  r : LockRow
  rest : List LockRow
  is : rows ≡ r ∷ rest

some_row : (c : ClientId) (rows : List LockRow) → list_any (is_row_by c) rows ≡ true → HasFirst (filter (is_row_by c) rows)
some_row c [] e = cc
some_row c (r ∷ rows) e = go (same_client r.client c) e (some_row c rows)
  where
    go : (a : Bool) → (a || list_any (is_row_by c) rows) ≡ true → (list_any (is_row_by c) rows ≡ true → HasFirst (filter (is_row_by c) rows)) →
        HasFirst (cond a (r ∷ filter (is_row_by c) rows) (filter (is_row_by c) rows))
    go true h i = record { r = r; rest = filter (is_row_by c) rows; is = refl }
    go false h i = i h

-- the first of the client's rows, as they are reported: its file refuses a reassertion of a life above all of them
pub record FirstOwn (l : Locks) (c : ClientId) : Type 0 where
  pub row : ℕ × GrantNo × Mode
  pub rest : List (ℕ × GrantNo × Mode)
  pub told : rows_of l c ≡ row ∷ rest
  pub refuses : (life : Life) → is_older l c life ≡ true → own_older l c life ≡ Some (row.0)

pub first_own : (l : Locks) (c : ClientId) → has_rows l c ≡ true → FirstOwn l c
unfolding rows_of least
first_own l c has = by_row (some_row c l.rows has)
  where
    by_first : (s : HasFirst (filter (is_row_by c) l.rows)) → Least (map ino_of_row (s.r ∷ s.rest)) → FirstOwn l c
    by_first s k =
        let files : map ino_of_row (filter (is_row_by c) l.rows) ≡ map ino_of_row (s.r ∷ s.rest) = ap (map ino_of_row) s.is in
        let keys : rising (map ino_of_row (filter (is_row_by c) l.rows)) ≡ k.m ∷ k.rest = ap rising files ∙ k.is in
        let q : Found c k.m l.rows = found c k.m l.rows (ap (list_any (λ y. y == k.m)) files ∙ k.member) in
        let row_is : row_at l c k.m ≡ Some (k.m, q.r.g, q.r.mode) = ap (option_map (row_in_list k.m)) q.is in
        record {
          row = (k.m, q.r.g, q.r.mode);
          rest = filter_map (row_at l c) k.rest;
          told =
              ap (filter_map (row_at l c)) keys
              ∙ ap (λ (o : Option (ℕ × GrantNo × Mode)). cons_option o (filter_map (row_at l c) k.rest)) row_is;
          refuses = λ life older.
              ap (λ (rows : List LockRow). slice_get (rising (map ino_of_row rows)) 0) (all_below c life l.rows (not-true _ older))
              ∙ ap (λ (ks : List ℕ). slice_get ks 0) keys;
        }

    by_row : HasFirst (filter (is_row_by c) l.rows) → FirstOwn l c
    by_row s = by_first s (least_of s.r.ino (map ino_of_row s.rest))

-- without rows nothing refuses
none_below : (c : ClientId) (life : Life) (rows : List LockRow) → list_any (is_row_by c) rows ≡ false → filter (is_row_below c life) rows ≡ []
none_below c life [] e = refl
none_below c life (r ∷ rows) e = go (same_client r.client c) e (none_below c life rows)
  where
    go : (a : Bool) → (a || list_any (is_row_by c) rows) ≡ false → (list_any (is_row_by c) rows ≡ false → filter (is_row_below c life) rows ≡ []) →
        cond (a && nat_lt r.life.0 life.0) (r ∷ filter (is_row_below c life) rows) (filter (is_row_below c life) rows) ≡ []
    go true h i = cc
    go false h i = i h

pub no_own : (l : Locks) (c : ClientId) (life : Life) → has_rows l c ≡ false → own_older l c life ≡ None
unfolding least rising
no_own l c life none = ap (λ (rows : List LockRow). slice_get (rising (map ino_of_row rows)) 0) (none_below c life l.rows none)
