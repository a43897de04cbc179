-- The rows of a directory above a name, among entries by name.
use Rattle.std.proofs.Common.{◌≡◌, ℕ, zero, suc, ◌+◌, ◌<◌, ◌≤◌, Bool, true, false, cond, List, [], ◌∷◌, ◌++◌, length, get_or, take, drop, map, filter, arith, refl, sym, ap, ◌∙◌, ⊎_elim, append_assoc}
use Rattle.std.specs.Prelude.{◌&&◌, ◌||◌, find, Some}
use Rattle.std.specs.List.{AllByRecursion, list_any}
use Rattle.std.proofs.lemmas.Bool.{and_parts, and_right, cases_Bool, cases_eq, eq-eqb, eqb-true, ne_eqb}
use Rattle.std.proofs.lemmas.List.{drop_all, drop_more, get_or_default}
use Rattle.st_base.specs.declared.names.NameRow.{NameRow}
use Rattle.st_rules.specs.declared.names.NameEntry.{NameEntry}
use Rattle.st_rules.specs.Names.{by_name, is_in, is_listed, is_of_ino, name_below, name_row}
use Rattle.st_namespace.specs.declared.entries.Inode.{Inode}
use Rattle.st_namespace.specs.Order.{IsRising}
use Rattle.st_namespace.specs.StoredEntries.{AreByName, Stores, key_of}
use Rattle.st_namespace.proofs.ByName.{behind_at, dir_up}
use Rattle.st_namespace.proofs.Keeps.{index_of, one_place}
use Rattle.st_namespace.proofs.Ordered.{AreApart, AreRising, any_sorted, byte_same, one_rising, sorted_rises}

-- the rows of a directory above a name
abbrev pub rows_of : ℕ → List ℕ → List NameEntry → List NameRow
rows_of dir after es = map name_row (filter (is_listed dir after) es)

any_row : (p : NameRow → Bool) (q : NameEntry → Bool) (es : List NameEntry) → list_any p (map name_row (filter q es)) ≡ list_any (λ e. q e && p (name_row e)) es
any_row p q [] = refl
any_row p q (e ∷ es) = ⊎_elim
    (λ t. rw t (ap (λ b. p (name_row e) || b) (any_row p q es)))
    (λ f. rw f (any_row p q es))
    (cases_Bool (q e))

in_dir : (dir : ℕ) (after : List ℕ) (e : NameEntry) → is_listed dir after e ≡ true → e.dir ≡ dir
in_dir dir after e h = eqb-true e.dir dir (and_parts (is_in dir e) (name_below after e.name) h).0

-- in one directory entries are in the order of their names
below_in : (a b : NameEntry) → a.dir ≡ b.dir → name_below (key_of a) (key_of b) ≡ true → name_below a.name b.name ≡ true
unfolding name_below
below_in a b e h = sym (byte_same a.dir b.dir (name_below a.name b.name) e) ∙ h

rows_rise : (dir : ℕ) (after : List ℕ) (es : List NameEntry) → AreByName es → AreRising (rows_of dir after es)
rows_rise dir after [] o = tt
rows_rise dir after (e ∷ es) o =
    let rest = rows_rise dir after es o.1 in
    ⊎_elim
    (λ t. rw t (all_above e es (in_dir dir after e t) o.0, rest))
    (λ f. rw f rest)
    (cases_Bool (is_listed dir after e))
  where
    all_above : (e : NameEntry) (es : List NameEntry) → e.dir ≡ dir → AllByRecursion (λ d. name_below (key_of e) (key_of d) ≡ true) es → AllByRecursion (λ (s : NameRow). name_below e.name s.name ≡ true) (rows_of dir after es)
    all_above e [] i a = tt
    all_above e (d ∷ es) i a =
        let rest = all_above e es i a.1 in
        ⊎_elim
        (λ t. rw t (below_in e d (i ∙ sym (in_dir dir after d t)) a.0, rest))
        (λ f. rw f rest)
        (cases_Bool (is_listed dir after d))

module _ (es : List NameEntry) (inodes : List Inode) (sorted : List NameEntry) (s : Stores es inodes sorted) (dir : ℕ) (after : List ℕ) where
  -- two entries of one key are the same
  one_entry : (e d : NameEntry) → find (is_of_ino e.ino) sorted ≡ Some e → find (is_of_ino d.ino) sorted ≡ Some d → key_of e ≡ key_of d → e ≡ d
  one_entry e d h g k =
      let p = index_of (is_of_ino e.ino) e sorted h in
      let q = index_of (is_of_ino d.ino) d sorted g in
      let z : p.0 ≡ q.0 = one_place sorted p.0 q.0 e s.order p.1.0 q.1.0 (ap key_of (p.1.1 e) ∙ k ∙ sym (ap key_of (q.1.1 e))) in
      sym (p.1.1 e) ∙ ap (λ n. get_or sorted n e) z ∙ q.1.1 e

  rows_apart : (xs : List NameEntry) → AllByRecursion (λ e. find (is_of_ino e.ino) sorted ≡ Some e) xs → IsRising xs → AreApart (rows_of dir after xs)
  rows_apart [] a r = tt
  rows_apart (e ∷ xs) a r =
      let rest = rows_apart xs a.1 r.1 in
      ⊎_elim
      (λ t. rw t (all_apart e xs (in_dir dir after e t) a.0 a.1 r.0, rest))
      (λ f. rw f rest)
      (cases_Bool (is_listed dir after e))
    where
      all_apart : (e : NameEntry) (xs : List NameEntry) → e.dir ≡ dir → find (is_of_ino e.ino) sorted ≡ Some e → AllByRecursion (λ e. find (is_of_ino e.ino) sorted ≡ Some e) xs → AllByRecursion (λ (d : NameEntry). e.ino < d.ino) xs → AllByRecursion (λ (r : NameRow). r.name ≡ e.name → ⊥) (rows_of dir after xs)
      all_apart e [] i h a r = tt
      all_apart e (d ∷ xs) i h a r =
          let rest = all_apart e xs i h a.1 r.1 in
          ⊎_elim
          (λ t.
          rw t (
            (λ (n : d.name ≡ e.name).
                let z : e ≡ d = one_entry e d h a.0 (λ j. (i ∙ sym (in_dir dir after d t)) j ∷ sym n j) in
                let w : e.ino ≡ d.ino = ap (λ (x : NameEntry). x.ino) z in
                let l = r.0 in
                omega (arith, w, l)),
            rest,
          ))
          (λ f. rw f rest)
          (cases_Bool (is_listed dir after d))

  -- the rows in the order of their names are those of the entries by name
  pub rows_are : by_name (rows_of dir after es) ≡ rows_of dir after sorted
  rows_are = one_rising (by_name (rows_of dir after es)) (rows_of dir after sorted) (sorted_rises (rows_of dir after es) (rows_apart es s.found s.rising)) (rows_rise dir after sorted s.order)
      (λ p. any_sorted p (rows_of dir after es) ∙ any_row p (is_listed dir after) es ∙ sym (s.same (λ e. is_listed dir after e && p (name_row e))) ∙ sym (any_row p (is_listed dir after) sorted))

-- The entries from a place on.

split_by : (q r : NameEntry → Bool) (x : NameEntry) (xs ys : List NameEntry) (a b : Bool) → a ≡ b → filter q xs ≡ filter r ys → cond a (x ∷ filter q xs) (filter q xs) ≡ cond b (x ∷ filter r ys) (filter r ys)
split_by q r x xs ys a b e h = (λ i. cond (e i) (x ∷ h i) (h i))

filter_split : (q r : NameEntry → Bool) (xs : List NameEntry) (i : ℕ) → ((j : ℕ) (d : NameEntry) → j < i → j < length xs → q (get_or xs j d) ≡ false) → ((j : ℕ) (d : NameEntry) → i ≤ j → j < length xs → q (get_or xs j d) ≡ r (get_or xs j d)) → filter q xs ≡ filter r (drop i xs)
filter_split q r [] zero a b = refl
filter_split q r [] (suc i) a b = refl
filter_split q r (x ∷ xs) zero a b = split_by q r x xs xs (q x) (r x) (b 0 x (omega arith) (omega arith)) (filter_split q r xs zero (λ j d k l. absurd (omega (arith, k))) (λ j d k l. b (suc j) d (omega (arith, k)) (omega (arith, l))))
filter_split q r (x ∷ xs) (suc i) a b =
    let f : q x ≡ false = a 0 x (omega arith) (omega arith) in
    ap (λ z. cond z (x ∷ filter q xs) (filter q xs)) f ∙ filter_split q r xs i (λ j d k l. a (suc j) d (omega (arith, k)) (omega (arith, l))) (λ j d k l. b (suc j) d (omega (arith, k)) (omega (arith, l)))

listed_none : (dir : ℕ) (after : List ℕ) (e : NameEntry) → name_below (dir ∷ after) (key_of e) ≡ false → is_listed dir after e ≡ false
unfolding name_below
listed_none dir after e h = ⊎_elim
    (λ t. ap (λ b. is_in dir e && b) (sym (byte_same dir e.dir (name_below after e.name) (sym (eqb-true e.dir dir t))) ∙ h) ∙ and_right (is_in dir e) false refl)
    (λ t. ap (λ b. b && name_below after e.name) t)
    (cases_Bool (is_in dir e))

listed_in : (dir : ℕ) (after : List ℕ) (e : NameEntry) → name_below (dir ∷ after) (key_of e) ≡ true → is_listed dir after e ≡ is_in dir e
unfolding name_below
listed_in dir after e h = ⊎_elim
    (λ t. ap (λ b. is_in dir e && b) (sym (byte_same dir e.dir (name_below after e.name) (sym (eqb-true e.dir dir t))) ∙ h) ∙ always (is_in dir e))
    (λ t. ap (λ b. b && name_below after e.name) t ∙ sym t)
    (cases_Bool (is_in dir e))
  where
    always : (b : Bool) → (b && true) ≡ b
    always true = refl
    always false = refl

-- the rows above a name are those of the directory from the place after it on
pub rows_behind : (dir : ℕ) (after : List ℕ) (sorted : List NameEntry) (i : ℕ) → ((j : ℕ) (d : NameEntry) → j < i → name_below (dir ∷ after) (key_of (get_or sorted j d)) ≡ false) → ((j : ℕ) (d : NameEntry) → i ≤ j → j < length sorted → name_below (dir ∷ after) (key_of (get_or sorted j d)) ≡ true) → rows_of dir after sorted ≡ map name_row (filter (is_in dir) (drop i sorted))
rows_behind dir after sorted i before behind =
    ap (map name_row) (filter_split (is_listed dir after) (is_in dir) sorted i (λ j d k l. listed_none dir after (get_or sorted j d) (before j d k)) (λ j d k l. listed_in dir after (get_or sorted j d) (behind j d k l)))

-- what comes after a name of a directory is in no lower one
pub dir_ahead : (dir : ℕ) (after : List ℕ) (e : NameEntry) → name_below (dir ∷ after) (key_of e) ≡ true → dir ≤ e.dir
dir_ahead dir after e h = dir_up (record { dir = dir; name = after; ino = 0; directory = false }) e h

-- One row more, and the end of the rows.
-- the rows that are left from a place on
abbrev pub rows_left : ℕ → List NameEntry → ℕ → List NameRow
rows_left dir sorted i = map name_row (filter (is_in dir) (drop i sorted))

module _ (dir : ℕ) (sorted : List NameEntry) (o : AreByName sorted) (base : List NameRow) where
  pub row_more : (i : ℕ) (e : NameEntry) (rows more : List NameRow) → i < length sorted → e ≡ get_or sorted i e → e.dir ≡ dir → more ≡ rows ++ name_row e ∷ [] → rows ++ rows_left dir sorted i ≡ base → more ++ rows_left dir sorted (i + 1) ≡ base
  row_more i e rows more l is t m h =
      let g : drop i sorted ≡ e ∷ drop (i + 1) sorted = drop_more sorted i e l ∙ (λ j. sym is j ∷ drop (i + 1) sorted) in
      let f : filter (is_in dir) (drop i sorted) ≡ e ∷ filter (is_in dir) (drop (i + 1) sorted) = ap (filter (is_in dir)) g ∙ ap (λ z. cond z (e ∷ filter (is_in dir) (drop (i + 1) sorted)) (filter (is_in dir) (drop (i + 1) sorted))) (eq-eqb e.dir dir t) in
      ap (λ x. x ++ rows_left dir sorted (i + 1)) m ∙ append_assoc rows (name_row e ∷ []) (rows_left dir sorted (i + 1)) ∙ ap (λ x. rows ++ map name_row x) (sym f) ∙ h

  append_nothing : {A : Type 0} (xs : List A) → xs ++ [] ≡ xs
  append_nothing [] = refl
  append_nothing (x ∷ xs) = ap (λ l. x ∷ l) (append_nothing xs)

  take_short : {A : Type 0} (n : ℕ) (xs : List A) → length xs ≤ n → take n xs ≡ xs
  take_short zero [] l = refl
  take_short zero (x ∷ xs) l = let no : ⊥ = omega (arith, l) in absurd no
  take_short (suc n) [] l = refl
  take_short (suc n) (x ∷ xs) l = ap (λ r. x ∷ r) (take_short n xs (omega (arith, l)))

  take_all : {A : Type 0} (xs ys : List A) → take (length xs) (xs ++ ys) ≡ xs
  take_all [] [] = refl
  take_all [] (y ∷ ys) = refl
  take_all (x ∷ xs) ys = ap (λ r. x ∷ r) (take_all xs ys)

  -- there are enough rows
  pub rows_full : (i : ℕ) (rows : List NameRow) → length rows ≡ 256 → rows ++ rows_left dir sorted i ≡ base → rows ≡ take 256 base
  rows_full i rows e h = sym (take_all rows (rows_left dir sorted i)) ∙ (λ j. take (e j) (h j))

  rows_done : (i : ℕ) (rows : List NameRow) → rows_left dir sorted i ≡ [] → length rows ≤ 256 → rows ++ rows_left dir sorted i ≡ base → rows ≡ take 256 base
  rows_done i rows n l h =
      let e : rows ≡ base = sym (append_nothing rows) ∙ ap (λ x. rows ++ x) (sym n) ∙ h in
      sym (take_short 256 rows l) ∙ ap (take 256) e

  pub rows_end : (i : ℕ) (rows : List NameRow) → length sorted ≤ i → length rows ≤ 256 → rows ++ rows_left dir sorted i ≡ base → rows ≡ take 256 base
  rows_end i rows k l h = rows_done i rows (ap (λ x. map name_row (filter (is_in dir) x)) (drop_all i sorted k)) l h

  filter_none : (q : NameEntry → Bool) (xs : List NameEntry) → ((j : ℕ) (d : NameEntry) → j < length xs → q (get_or xs j d) ≡ false) → filter q xs ≡ []
  filter_none q [] n = refl
  filter_none q (x ∷ xs) n = ap (λ z. cond z (x ∷ filter q xs) (filter q xs)) (n 0 x (omega arith)) ∙ filter_none q xs (λ j d k. n (suc j) d (omega (arith, k)))

  -- the next entry is of a higher directory
  pub rows_past : (i : ℕ) (e : NameEntry) (rows : List NameRow) → i < length sorted → e ≡ get_or sorted i e → (e.dir ≡ dir → ⊥) → dir ≤ e.dir → length rows ≤ 256 → rows ++ rows_left dir sorted i ≡ base → rows ≡ take 256 base
  rows_past i e rows l is n up k h = rows_done i rows (ap (map name_row) (filter_none (is_in dir) (drop i sorted) (λ j d m. other j d m))) k h
    where
      length_left : (xs : List NameEntry) (i j : ℕ) → j < length (drop i xs) → i + j < length xs
      length_left [] zero j m = let no : ⊥ = omega (arith, m) in absurd no
      length_left [] (suc i) j m = let no : ⊥ = omega (arith, m) in absurd no
      length_left (x ∷ xs) zero j m = omega (arith, m)
      length_left (x ∷ xs) (suc i) j m = let r = length_left xs i j m in omega (arith, r)

      at_left : (xs : List NameEntry) (i j : ℕ) (d : NameEntry) → get_or (drop i xs) j d ≡ get_or xs (i + j) d
      at_left xs zero j d = let e : j ≡ 0 + j = omega arith in ap (λ n. get_or xs n d) e
      at_left [] (suc i) j d = refl
      at_left (x ∷ xs) (suc i) j d = let e : suc (i + j) ≡ suc i + j = omega arith in at_left xs i j d ∙ ap (λ n. get_or (x ∷ xs) n d) e

      other : (j : ℕ) (d : NameEntry) → j < length (drop i sorted) → is_in dir (get_or (drop i sorted) j d) ≡ false
      other j d m =
          let inside = length_left sorted i j m in
          let first : get_or sorted i d ≡ e = get_or_default sorted i d e l ∙ sym is in
          let high : e.dir ≤ (get_or sorted (i + j) d).dir =
          ⊎_elim
          (λ (z : j ≡ 0). let w : get_or sorted (i + j) d ≡ e = ap (λ n. get_or sorted n d) (same i j z) ∙ first in let v : (get_or sorted (i + j) d).dir ≡ e.dir = ap (λ (x : NameEntry). x.dir) w in omega (arith, v))
          (λ z.
          let u = dir_up (get_or sorted i d) (get_or sorted (i + j) d) (behind_at sorted i (i + j) d o (omega (arith, z)) inside) in
          let v : (get_or sorted i d).dir ≡ e.dir = ap (λ (x : NameEntry). x.dir) first in
          omega (arith, u, v))
          (cases_eq j 0) in
          ap (is_in dir) (at_left sorted i j d) ∙ ne_eqb (get_or sorted (i + j) d).dir dir (λ (z : (get_or sorted (i + j) d).dir ≡ dir). n (omega (arith, z, high, up)))
        where
          same : (i j : ℕ) → j ≡ 0 → i + j ≡ i
          same i j z = omega (arith, z)
