-- Rows of lost pages: what joins them, and which of them are reported or still owed.
use Rattle.st_lemmas.proofs.Words
use Words.{◌≡◌, ℕ, zero, suc, ◌⊎◌, Bool, true, false, not, ◌&&◌, ◌==◌, List, [], ◌∷◌, ◌++◌, Option, Some, None, refl, sym, ap, ◌∙◌, subst, inl, inr, if◌then◌else◌}
use Words.{cons_option, drop, eq-eqb, eqb-true, filter, filter_map, list_any, map, nat_lt, take, PageNo, DirtyPage, PageCommand, LostPage}
use Words.ClientPages.{dirty_of, is_dirty_of, is_lost_of}
use Words.ClientState.{Association}
use Words.Lists.{Has}
use Words.Lookups.{some_is}
use Words.Members.{has_left, has_right, some_member_passes}
use Words.Tables.{and_both, and_true, found_at, has_filter_in, has_map_in, none_has, some_passes}
use Words.Truth.{not_both}
use Rattle.st_base.specs.declared.rows.LostRow.{LostRow}
use Rattle.st_promises.specs.Losses.{among, as_told, in_order, is_of_file, is_of_page, joined, owed_of_file, owed_page, owing, owing_all, page_number, row_of_page, rows_of_file, still_owed, with_dirty}

-- Two parts of a list.
has_split : {A : Type 0} (n : ℕ) (xs : List A) (x : A) → Has x xs → Has x (take n xs) ⊎ Has x (drop n xs)
has_split zero xs x h = inr h
has_split (suc n) [] x h = absurd h
has_split (suc n) (y ∷ xs) x (inl e) = inl (inl e)
has_split (suc n) (y ∷ xs) x (inr h) = go (has_split n xs x h)
  where
    go : Has x (take n xs) ⊎ Has x (drop n xs) → Has x (y ∷ take n xs) ⊎ Has x (drop n xs)
    go (inl i) = inl (inr i)
    go (inr i) = inr i

-- what a search finds is in the list of all that it finds
has_found : {A B : Type 0} (f : A → Option B) (xs : List A) (x : A) (y : B) → Has x xs → f x ≡ Some y → Has y (filter_map f xs)
has_found f [] x y h q = absurd h
has_found {A} {B} f (z ∷ xs) x y h q = go (f z) refl h (λ i. has_found f xs x y i q)
  where
    go : (o : Option B) → f z ≡ o → (x ≡ z) ⊎ Has x xs → (Has x xs → Has y (filter_map f xs)) → Has y (cons_option o (filter_map f xs))
    go (Some k) e (inl i) r = inl (some_is (sym q ∙ (ap f i ∙ e)))
    go None e (inl i) r = cc (sym q ∙ (ap f i ∙ e))
    go (Some k) e (inr i) r = inr (r i)
    go None e (inr i) r = r i

-- numbers in their order are the same numbers
among_own : (k : ℕ) (ns : List ℕ) → Has k (among k ns)
unfolding among joined
among_own k [] = inl refl
among_own k (n ∷ ns) = go (nat_lt k n) (k == n) refl (among_own k ns)
  where
    go : (b c : Bool) → (k == n) ≡ c → Has k (among k ns) → Has k (if b then k ∷ (n ∷ ns) else (if c then n ∷ ns else n ∷ among k ns))
    go true c q r = inl refl
    go false true q r = inl (eqb-true k n q)
    go false false q r = inr r

among_old : (k : ℕ) (ns : List ℕ) (m : ℕ) → Has m ns → Has m (among k ns)
unfolding among joined
among_old k [] m h = absurd h
among_old k (n ∷ ns) m h = go (nat_lt k n) (k == n) h (among_old k ns m)
  where
    go : (b c : Bool) → (m ≡ n) ⊎ Has m ns → (Has m ns → Has m (among k ns)) → Has m (if b then k ∷ (n ∷ ns) else (if c then n ∷ ns else n ∷ among k ns))
    go true c h r = inr h
    go false true h r = h
    go false false (inl e) r = inl e
    go false false (inr i) r = inr (r i)

has_ordered : (ks : List ℕ) (k : ℕ) → Has k ks → Has k (in_order ks)
unfolding in_order
has_ordered [] k h = absurd h
has_ordered (n ∷ ks) k (inl e) = subst (λ z. Has k (among z (in_order ks))) e (among_own k (in_order ks))
has_ordered (n ∷ ks) k (inr h) = among_old n (in_order ks) k (has_ordered ks k h)

-- A row of a page.
pub record RowOf (ino : ℕ) (p : PageNo) (r : LostPage) : Type 0 where
  pub ino_is : r.ino ≡ ino
  pub page_is : r.page ≡ p

pub row_of : (ino : ℕ) (p : PageNo) (r : LostPage) → is_lost_of ino p r ≡ true → RowOf ino p r
row_of ino p r q =
    let b = and_true (r.ino == ino) (r.page.0 == p.0) q in
    record { ino_is = eqb-true r.ino ino b.0; page_is = ap (λ n. record { 0 = n }) (eqb-true r.page.0 p.0 b.1) }

row_is : (ino : ℕ) (p : PageNo) (r : LostPage) → RowOf ino p r → is_lost_of ino p r ≡ true
row_is ino p r h =
    and_both (r.ino == ino) (r.page.0 == p.0) (eq-eqb r.ino ino h.ino_is) (eq-eqb r.page.0 p.0 (ap (λ (q : PageNo). q.0) h.page_is))

-- a row of the page that is in a file's list
pub listed : (rows : List LostPage) (ino : ℕ) (p : PageNo) (r : LostPage) → Has r rows → RowOf ino p r →
    (x : LostPage) × Has x (rows_of_file rows ino) × RowOf ino p x
unfolding rows_of_file
listed rows ino p r h k = go (row_of_page rows ino p.0) refl
  where
    passes : ((r.ino == ino) && (r.page.0 == p.0)) ≡ true
    passes = row_is ino p r k

    number : Has p.0 (in_order (map page_number (filter (is_of_file ino) rows)))
    number =
        has_ordered (map page_number (filter (is_of_file ino) rows)) p.0
        (subst (λ n. Has n (map page_number (filter (is_of_file ino) rows))) (ap (λ (q : PageNo). q.0) k.page_is)
        (has_map_in page_number (filter (is_of_file ino) rows) r (has_filter_in (is_of_file ino) rows r h (eq-eqb r.ino ino k.ino_is))))

    go : (o : Option LostPage) → row_of_page rows ino p.0 ≡ o →
        (x : LostPage) × Has x (filter_map (row_of_page rows ino) (in_order (map page_number (filter (is_of_file ino) rows)))) × RowOf ino p x
    go None q = absurd (not_both _ passes (none_has (λ (x : LostPage). (x.ino == ino) && (x.page.0 == p.0)) rows q r h))
    go (Some x) q = (
      x,
      has_found (row_of_page rows ino) (in_order (map page_number (filter (is_of_file ino) rows))) p.0 x number q,
      row_of ino p x (found_at (λ (x : LostPage). (x.ino == ino) && (x.page.0 == p.0)) rows x q).0,
    )

-- Telling a file's rows: a row of another file stays, and one of this file stays or is told.
pub told_or_owed : (rows : List LostPage) (ino : ℕ) (p : PageNo) (file : ℕ) → list_any (is_lost_of ino p) rows ≡ true →
    (list_any (is_lost_of ino p) (still_owed rows file) ≡ true) ⊎ ((ino ≡ file) × ((r : LostRow) × Has r (owed_of_file rows file) × (r.page ≡ p)))
unfolding still_owed owed_of_file
told_or_owed rows ino p file q = go (some_member_passes (is_lost_of ino p) rows q)
  where
    stays : (x : LostPage) → Has x (filter (λ r. not (is_of_file file r)) rows ++ drop 1024 (rows_of_file rows file)) → RowOf ino p x →
        list_any (is_lost_of ino p) (filter (λ r. not (is_of_file file r)) rows ++ drop 1024 (rows_of_file rows file)) ≡ true
    stays x h k = some_passes (is_lost_of ino p) (filter (λ r. not (is_of_file file r)) rows ++ drop 1024 (rows_of_file rows file)) x h (row_is ino p x k)

    Out : Type 0
    Out = (list_any (is_lost_of ino p) (filter (λ r. not (is_of_file file r)) rows ++ drop 1024 (rows_of_file rows file)) ≡ true)
        ⊎ ((ino ≡ file) × ((r : LostRow) × Has r (map as_told (take 1024 (rows_of_file rows file))) × (r.page ≡ p)))

    own : (r : LostPage) → Has r rows → RowOf ino p r → ino ≡ file → Out
    own r h k e = at (listed rows file p r h (record { ino_is = k.ino_is ∙ e; page_is = k.page_is }))
      where
        at : (x : LostPage) × Has x (rows_of_file rows file) × RowOf file p x → Out
        at (x, i, y) = by (has_split 1024 (rows_of_file rows file) x i)
          where
            by : Has x (take 1024 (rows_of_file rows file)) ⊎ Has x (drop 1024 (rows_of_file rows file)) → Out
            by (inl j) = inr (e, (as_told x, has_map_in as_told (take 1024 (rows_of_file rows file)) x j, y.page_is))
            by (inr j) = inl (stays x (has_right (filter (λ r. not (is_of_file file r)) rows) (drop 1024 (rows_of_file rows file)) x j)
                (record { ino_is = y.ino_is ∙ sym e; page_is = y.page_is }))

    other : (r : LostPage) → Has r rows → RowOf ino p r → is_of_file file r ≡ false → Out
    other r h k e =
        inl (stays r (has_left (filter (λ r. not (is_of_file file r)) rows) (drop 1024 (rows_of_file rows file)) r
        (has_filter_in (λ r. not (is_of_file file r)) rows r h (ap not e))) k)

    go : (r : LostPage) × Has r rows × (is_lost_of ino p r ≡ true) → Out
    go (r, h, b) = by (is_of_file file r) refl
      where
        k : RowOf ino p r
        k = row_of ino p r b

        by : (c : Bool) → is_of_file file r ≡ c → Out
        by true e = own r h k (sym k.ino_is ∙ eqb-true r.ino file e)
        by false e = other r h k e

-- Joining: the row of a page stays, or gives way to one of the same page.
owing_keeps : (ino : ℕ) (p : PageNo) (r : LostPage) (rows : List LostPage) → list_any (is_lost_of ino p) rows ≡ true →
    list_any (is_lost_of ino p) (owing r rows) ≡ true
owing_keeps ino p r rows q = go (some_member_passes (is_lost_of ino p) rows q)
  where
    go : (x : LostPage) × Has x rows × (is_lost_of ino p x ≡ true) → list_any (is_lost_of ino p) (owing r rows) ≡ true
    go (x, h, b) = by (is_of_page r x) refl
      where
        k : RowOf ino p x
        k = row_of ino p x b

        by : (c : Bool) → is_of_page r x ≡ c → list_any (is_lost_of ino p) (owing r rows) ≡ true
        by false e =
            some_passes (is_lost_of ino p) (owing r rows) x
            (has_left (filter (λ x. not (is_of_page r x)) rows) (r ∷ []) x (has_filter_in (λ x. not (is_of_page r x)) rows x h (ap not e))) b
        by true e =
            let z = row_of r.ino r.page x e in
            some_passes (is_lost_of ino p) (owing r rows) r (has_right (filter (λ x. not (is_of_page r x)) rows) (r ∷ []) r (inl refl))
            (row_is ino p r (record { ino_is = sym z.ino_is ∙ k.ino_is; page_is = sym z.page_is ∙ k.page_is }))

owing_own : (r : LostPage) (rows : List LostPage) → list_any (is_lost_of r.ino r.page) (owing r rows) ≡ true
owing_own r rows =
    some_passes (is_lost_of r.ino r.page) (owing r rows) r (has_right (filter (λ x. not (is_of_page r x)) rows) (r ∷ []) r (inl refl))
    (row_is r.ino r.page r (record { ino_is = refl; page_is = refl }))

all_keep : (ino : ℕ) (p : PageNo) (ks : List PageCommand) (ds : List DirtyPage) (rows : List LostPage) → list_any (is_lost_of ino p) rows ≡ true →
    list_any (is_lost_of ino p) (owing_all ks ds rows) ≡ true
unfolding owing_all
all_keep ino p ks [] rows q = q
all_keep ino p ks (d ∷ ds) rows q = all_keep ino p ks ds (owing (owed_page ks d) rows) (owing_keeps ino p (owed_page ks d) rows q)

all_join : (ks : List PageCommand) (ds : List DirtyPage) (d : DirtyPage) (rows : List LostPage) → Has d ds →
    list_any (is_lost_of d.ino d.page) (owing_all ks ds rows) ≡ true
unfolding owing_all
all_join ks [] d rows h = absurd h
all_join ks (x ∷ ds) d rows (inl e) =
    subst (λ (y : DirtyPage). list_any (is_lost_of y.ino y.page) (owing_all ks ds (owing (owed_page ks x) rows)) ≡ true) (sym e)
    (all_keep x.ino x.page ks ds (owing (owed_page ks x) rows) (owing_own (owed_page ks x) rows))
all_join ks (x ∷ ds) d rows (inr h) = all_join ks ds d (owing (owed_page ks x) rows) h

pub dirty_keeps : (ino : ℕ) (p : PageNo) (a : Option Association) (rows : List LostPage) → list_any (is_lost_of ino p) rows ≡ true →
    list_any (is_lost_of ino p) (with_dirty a rows) ≡ true
dirty_keeps ino p None rows q = q
dirty_keeps ino p (Some a) rows q = all_keep ino p a.store.commands a.store.pages.dirty rows q

pub dirty_joins : (ino : ℕ) (p : PageNo) (a : Association) (d : DirtyPage) (rows : List LostPage) → dirty_of a.store.pages ino p ≡ Some d →
    list_any (is_lost_of ino p) (with_dirty (Some a) rows) ≡ true
dirty_joins ino p a d rows q =
    let f = found_at (is_dirty_of ino p) a.store.pages.dirty d q in
    let b = and_true (d.ino == ino) (d.page.0 == p.0) f.0 in
    subst (λ i. list_any (is_lost_of i p) (with_dirty (Some a) rows) ≡ true) (eqb-true d.ino ino b.0)
    (subst (λ (z : PageNo). list_any (is_lost_of d.ino z) (with_dirty (Some a) rows) ≡ true) (ap (λ n. record { 0 = n }) (eqb-true d.page.0 p.0 b.1))
    (all_join a.store.commands a.store.pages.dirty d rows f.1))
