-- The rows that are owed: what joins them, what a sync is told of them, and that what is still owed is of other pages.
use Rattle.st_lemmas.proofs.Words
use Words.{◌≡◌, ◌<◌, ◌⊎◌, ℕ, zero, suc, true, not, ◌&&◌, ◌==◌, List, [], ◌∷◌, Option, Some, None, refl, sym, ap, ◌∙◌, subst, inl, inr, arith}
use Words.{cons_option, drop, eqb-true, filter, filter_map, map, take, DirtyPage, PageCommand, LostPage}
use Words.Lists.{Has}
use Words.Tables.{and_true, found_at, has_append, has_filter, has_map, not_true}
use Words.Truth.{clash}
use Rattle.st_base.specs.declared.rows.LostRow.{LostRow}
use Rattle.st_promises.specs.Losses.{as_told, in_order, is_of_file, is_of_page, owed_of_file, owed_page, owing, owing_all, page_number, row_of_page, rows_of_file, still_owed}
use Rattle.st_laws_volume.proofs.LostRows.{Above, Rising, pages_of, rising_rows}
use Rattle.std.proofs.Common.{eq-eqb}

-- What joins.
pub has_owing : (ks : List PageCommand) (ds : List DirtyPage) (rows : List LostPage) (r : LostPage) → Has r (owing_all ks ds rows) →
    Has r rows ⊎ ((d : DirtyPage) × Has d ds × (r ≡ owed_page ks d))
unfolding owing_all
has_owing ks [] rows r h = inl h
has_owing ks (d ∷ ds) rows r h = go (has_owing ks ds (owing (owed_page ks d) rows) r h)
  where
    one : Has r (filter (λ x. not (is_of_page (owed_page ks d) x)) rows) ⊎ Has r (owed_page ks d ∷ []) →
        Has r rows ⊎ ((y : DirtyPage) × Has y (d ∷ ds) × (r ≡ owed_page ks y))
    one (inl i) = inl (has_filter (λ x. not (is_of_page (owed_page ks d) x)) rows r i).0
    one (inr (inl e)) = inr (d, inl refl, e)
    one (inr (inr i)) = absurd i

    go : Has r (owing (owed_page ks d) rows) ⊎ ((y : DirtyPage) × Has y ds × (r ≡ owed_page ks y)) →
        Has r rows ⊎ ((y : DirtyPage) × Has y (d ∷ ds) × (r ≡ owed_page ks y))
    go (inl i) = one (has_append (filter (λ x. not (is_of_page (owed_page ks d) x)) rows) (owed_page ks d ∷ []) r i)
    go (inr (y, i, e)) = inr (y, inr i, e)

-- What is found of a list is found of one of its members.
found_of : {A B : Type 0} (f : A → Option B) (xs : List A) (y : B) → Has y (filter_map f xs) → (x : A) × (f x ≡ Some y)
found_of f [] y h = absurd h
found_of {A} {B} f (x ∷ xs) y h = go (f x) refl h (found_of f xs y)
  where
    go : (o : Option B) → f x ≡ o → Has y (cons_option o (filter_map f xs)) → (Has y (filter_map f xs) → (z : A) × (f z ≡ Some y)) →
        (z : A) × (f z ≡ Some y)
    go None q i r = r i
    go (Some k) q (inl e) r = (x, q ∙ ap (λ z. Some z) (sym e))
    go (Some k) q (inr i) r = r i

-- The rows of a file are owed, and of the file.
pub of_file : (rows : List LostPage) (ino : ℕ) (r : LostPage) → Has r (rows_of_file rows ino) → Has r rows × (r.ino ≡ ino)
unfolding rows_of_file
of_file rows ino r h =
    let z = found_of (row_of_page rows ino) (in_order (map page_number (filter (is_of_file ino) rows))) r h in
    let b = found_at (λ (x : LostPage). (x.ino == ino) && (x.page.0 == z.0)) rows r z.1 in
    (b.1, eqb-true r.ino ino (and_true (r.ino == ino) (r.page.0 == z.0) b.0).0)

has_taken : {A : Type 0} (n : ℕ) (xs : List A) (x : A) → Has x (take n xs) → Has x xs
has_taken zero xs x h = absurd h
has_taken (suc n) [] x h = absurd h
has_taken (suc n) (y ∷ xs) x (inl e) = inl e
has_taken (suc n) (y ∷ xs) x (inr i) = inr (has_taken n xs x i)

has_dropped : {A : Type 0} (n : ℕ) (xs : List A) (x : A) → Has x (drop n xs) → Has x xs
has_dropped zero xs x h = h
has_dropped (suc n) [] x h = absurd h
has_dropped (suc n) (y ∷ xs) x h = inr (has_dropped n xs x h)

-- what a sync is told
pub told_row : (rows : List LostPage) (ino : ℕ) (y : LostRow) → Has y (owed_of_file rows ino) → (r : LostPage) × Has r rows × (r.ino ≡ ino) × (y ≡ as_told r)
unfolding owed_of_file
told_row rows ino y h =
    let z = has_map as_told (take 1024 (rows_of_file rows ino)) y h in
    let b = of_file rows ino z.0 (has_taken 1024 (rows_of_file rows ino) z.0 z.1) in (z.0, b.0, b.1, z.2)

-- What is still owed was owed; and if it is of the file, its page is above those that are told.
above_has : (k : ℕ) (rows : List LostPage) (r : LostPage) → Above k (pages_of rows) → Has r rows → k < r.page.0
above_has k [] r a h = absurd h
above_has k (x ∷ rows) r a (inl e) = subst (λ (y : LostPage). k < y.page.0) (sym e) a.0
above_has k (x ∷ rows) r a (inr i) = above_has k rows r a.1 i

parts_apart : (n : ℕ) (rows : List LostPage) → Rising (pages_of rows) → (x r : LostPage) → Has x (take n rows) → Has r (drop n rows) → x.page.0 < r.page.0
parts_apart zero rows a x r h k = absurd h
parts_apart (suc n) [] a x r h k = absurd h
parts_apart (suc n) (y ∷ rows) a x r (inl e) k =
    subst (λ (z : LostPage). z.page.0 < r.page.0) (sym e) (above_has y.page.0 rows r a.0 (has_dropped n rows r k))
parts_apart (suc n) (y ∷ rows) a x r (inr i) k = parts_apart n rows a.1 x r i k

pub record StillOwed (rows : List LostPage) (ino : ℕ) (r : LostPage) : Type 0 where
  pub was : Has r rows
  pub other : r.ino ≡ ino → (y : LostRow) → Has y (owed_of_file rows ino) → y.page.0 < r.page.0

pub still : (rows : List LostPage) (ino : ℕ) (r : LostPage) → Has r (still_owed rows ino) → StillOwed rows ino r
unfolding still_owed owed_of_file
still rows ino r h = go (has_append (filter (λ x. not (is_of_file ino x)) rows) (drop 1024 (rows_of_file rows ino)) r h)
  where
    go : Has r (filter (λ x. not (is_of_file ino x)) rows) ⊎ Has r (drop 1024 (rows_of_file rows ino)) → StillOwed rows ino r
    go (inl i) =
        let b = has_filter (λ x. not (is_of_file ino x)) rows r i in
        record {
          was = b.0;
          other = λ e y j. absurd (clash (eq-eqb r.ino ino e) (not_true (is_of_file ino r) b.1));
        }
    go (inr i) =
        record {
          was = (of_file rows ino r (has_dropped 1024 (rows_of_file rows ino) r i)).0;
          other = λ e y j.
              let z = has_map as_told (take 1024 (rows_of_file rows ino)) y j in
              let l = parts_apart 1024 (rows_of_file rows ino) (rising_rows rows ino) z.0 r z.1 i in
              let same = ap (λ (k : LostRow). k.page.0) z.2 in omega (arith, l, same);
        }
