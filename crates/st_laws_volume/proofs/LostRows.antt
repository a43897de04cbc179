-- The rows that an answer `lost` tells: there is one, they rise by page, and unless they are 1,024 no row of the file is left.
use Rattle.st_lemmas.proofs.Words
use Words.{◌≡◌, ◌<◌, ◌≤◌, ℕ, zero, suc, ◌⊎◌, Bool, true, false, not, ◌&&◌, ◌==◌, List, [], ◌∷◌, ◌++◌, Option, Some, None, refl, sym, ap, ◌∙◌, subst, inl, inr, arith, if◌then◌else◌}
use Words.{cons_option, drop, eq-eqb, eqb-true, filter, filter_map, length, list_all, list_any, lt-ltb, ltb-false, ltb-true, le-leb, leb-true, map, nat_le, nat_lt, take, PageNo, LostPage}
use Words.ClientPages.{is_lost_of}
use Words.Lists.{Has}
use Words.Lookups.{some_is}
use Words.Members.{some_member_passes}
use Words.Tables.{and_both, and_true, found_at, has_append, has_filter, has_map_in, not_true, some_passes}
use Words.Truth.{below_or_not, clash}
use Rattle.st_base.specs.declared.rows.LostRow.{LostRow}
use Rattle.st_promises.specs.Losses.{among, as_told, in_order, is_of_file, joined, owed_of_file, owes, page_number, row_of_page, rows_of_file, still_owed}
use Rattle.st_laws_volume.proofs.LossRows.{RowOf, listed, row_of, told_or_owed}
use Rattle.st_volume.specs.Volume.{are_rising}

-- Numbers that rise.
abbrev pub Above : ℕ → List ℕ → Type 0
Above n [] = Unit {0}
Above n (m ∷ ms) = (n < m) × Above n ms

abbrev pub Rising : List ℕ → Type 0
Rising [] = Unit {0}
Rising (n ∷ ns) = Above n ns × Rising ns

above_less : (k n : ℕ) (ns : List ℕ) → k < n → Above n ns → Above k ns
above_less k n [] l h = tt
above_less k n (m ∷ ms) l h = (let z = h.0 in omega (arith, l, z), above_less k n ms l h.1)

above_among : (n k : ℕ) (ns : List ℕ) → n < k → Above n ns → Above n (among k ns)
unfolding among joined
above_among n k [] l h = (l, tt)
above_among n k (m ∷ ms) l h = go (nat_lt k m) (k == m) (above_among n k ms l h.1)
  where
    go : (b c : Bool) → Above n (among k ms) → Above n (if b then k ∷ (m ∷ ms) else (if c then m ∷ ms else m ∷ among k ms))
    go true c r = (l, h)
    go false true r = h
    go false false r = (h.0, r)

less : (k n : ℕ) → nat_lt k n ≡ false → (k == n) ≡ false → n < k
less k n p q = go (below_or_not n k)
  where
    go : (n < k) ⊎ (k ≤ n) → n < k
    go (inl l) = l
    go (inr l) = absurd (clash (eq-eqb k n (let m = ltb-false k n p in omega (arith, l, m))) q)

rising_among : (k : ℕ) (ns : List ℕ) → Rising ns → Rising (among k ns)
unfolding among joined
rising_among k [] h = (tt, tt)
rising_among k (n ∷ ns) h = go (nat_lt k n) refl (k == n) refl (rising_among k ns h.1)
  where
    go : (b : Bool) → nat_lt k n ≡ b → (c : Bool) → (k == n) ≡ c → Rising (among k ns) →
        Rising (if b then k ∷ (n ∷ ns) else (if c then n ∷ ns else n ∷ among k ns))
    go true p c q r = let l = ltb-true k n p in ((l, above_less k n ns l h.0), h)
    go false p true q r = h
    go false p false q r = (above_among n k ns (less k n p q) h.0, r)

rising_ordered : (ks : List ℕ) → Rising (in_order ks)
unfolding in_order
rising_ordered [] = tt
rising_ordered (k ∷ ks) = rising_among k (in_order ks) (rising_ordered ks)

-- Rows by rising page.
abbrev pub pages_of : List LostPage → List ℕ
pages_of rows = map page_number rows

-- what is found of rising numbers, each of which is a row's page
module _ (find_row : ℕ → Option LostPage) (its : (n : ℕ) (r : LostPage) → find_row n ≡ Some r → r.page.0 ≡ n) where
  above_found : (k : ℕ) (ns : List ℕ) → Above k ns → Above k (pages_of (filter_map find_row ns))
  above_found k [] h = tt
  above_found k (n ∷ ns) h = go (find_row n) refl (above_found k ns h.1)
    where
      go : (o : Option LostPage) → find_row n ≡ o → Above k (pages_of (filter_map find_row ns)) → Above k (pages_of (cons_option o (filter_map find_row ns)))
      go None q r = r
      go (Some x) q r = (let e = its n x q in let l = h.0 in omega (arith, e, l), r)

  rising_found : (ns : List ℕ) → Rising ns → Rising (pages_of (filter_map find_row ns))
  rising_found [] h = tt
  rising_found (n ∷ ns) h = go (find_row n) refl (above_found n ns h.0) (rising_found ns h.1)
    where
      go : (o : Option LostPage) → find_row n ≡ o → Above n (pages_of (filter_map find_row ns)) → Rising (pages_of (filter_map find_row ns)) →
          Rising (pages_of (cons_option o (filter_map find_row ns)))
      go None q a r = r
      go (Some x) q a r = (subst (λ m. Above m (pages_of (filter_map find_row ns))) (sym (its n x q)) a, r)

page_found : (rows : List LostPage) (ino n : ℕ) (r : LostPage) → row_of_page rows ino n ≡ Some r → r.page.0 ≡ n
page_found rows ino n r q =
    eqb-true r.page.0 n
    (and_true (r.ino == ino) (r.page.0 == n) (found_at (λ (x : LostPage). (x.ino == ino) && (x.page.0 == n)) rows r q).0).1

pub rising_rows : (rows : List LostPage) (ino : ℕ) → Rising (pages_of (rows_of_file rows ino))
unfolding rows_of_file
rising_rows rows ino =
    rising_found (row_of_page rows ino) (λ n r q. page_found rows ino n r q) (in_order (map page_number (filter (is_of_file ino) rows)))
    (rising_ordered (map page_number (filter (is_of_file ino) rows)))

-- the first ones, as they are told
above_taken : (k n : ℕ) (rows : List LostPage) → Above k (pages_of rows) → Above k (pages_of (take n rows))
above_taken k zero rows h = tt
above_taken k (suc n) [] h = tt
above_taken k (suc n) (r ∷ rows) h = (h.0, above_taken k n rows h.1)

rising_taken : (n : ℕ) (rows : List LostPage) → Rising (pages_of rows) → Rising (pages_of (take n rows))
rising_taken zero rows h = tt
rising_taken (suc n) [] h = tt
rising_taken (suc n) (r ∷ rows) h = (above_taken r.page.0 n rows h.0, rising_taken n rows h.1)

above_told : (p : PageNo) (rows : List LostPage) → Above p.0 (pages_of rows) → list_all (λ (x : LostRow). nat_lt p.0 x.page.0) (map as_told rows) ≡ true
above_told p [] h = refl
above_told p (r ∷ rows) h =
    and_both (nat_lt p.0 r.page.0) (list_all (λ (x : LostRow). nat_lt p.0 x.page.0) (map as_told rows)) (lt-ltb p.0 r.page.0 h.0) (above_told p rows h.1)

told_rising : (rows : List LostPage) → Rising (pages_of rows) → are_rising (map as_told rows) ≡ true
unfolding are_rising
told_rising [] h = refl
told_rising (r ∷ rows) h =
    and_both (list_all (λ (x : LostRow). nat_lt r.page.0 x.page.0) (map as_told rows)) (are_rising (map as_told rows)) (above_told r.page rows h.0)
    (told_rising rows h.1)

pub rows_rise : (rows : List LostPage) (ino : ℕ) → are_rising (owed_of_file rows ino) ≡ true
unfolding owed_of_file
rows_rise rows ino = told_rising (take 1024 (rows_of_file rows ino)) (rising_taken 1024 (rows_of_file rows ino) (rising_rows rows ino))

-- There is one, if the file has rows.
some_taken : (xs : List LostPage) (x : LostPage) → Has x xs → nat_lt 0 (length (map as_told (take 1024 xs))) ≡ true
some_taken [] x h = absurd h
some_taken (y ∷ ys) x h = lt-ltb 0 (suc (length (map as_told (take 1023 ys)))) (omega arith)

pub rows_some : (rows : List LostPage) (ino : ℕ) → owes rows ino ≡ true → nat_lt 0 (length (owed_of_file rows ino)) ≡ true
unfolding owed_of_file
rows_some rows ino q =
    let z = some_member_passes (is_of_file ino) rows q in
    let x = listed rows ino z.0.page z.0 z.1 (record { ino_is = eqb-true z.0.ino ino z.2; page_is = refl }) in
    some_taken (rows_of_file rows ino) x.0 x.1

-- If these are fewer than 1,024, each row of the file is among them.
few_taken : {A : Type 0} (n : ℕ) (xs : List A) → nat_le n (length (take n xs)) ≡ false → drop n xs ≡ []
few_taken zero xs q = absurd (no q)
  where
    no : nat_le 0 (length (take 0 xs)) ≡ false → ⊥
    no z = cc z
few_taken (suc n) [] q = refl
few_taken (suc n) (x ∷ xs) q = go (nat_le n (length (take n xs))) refl (few_taken n xs)
  where
    go : (b : Bool) → nat_le n (length (take n xs)) ≡ b → (nat_le n (length (take n xs)) ≡ false → drop n xs ≡ []) → drop n xs ≡ []
    go false e r = r e
    go true e r =
        let l = leb-true n (length (take n xs)) e in
        absurd (clash (le-leb (suc n) (suc (length (take n xs))) (omega (arith, l))) q)

told_length : (xs : List LostPage) → length (map as_told xs) ≡ length xs
told_length [] = refl
told_length (x ∷ xs) = ap suc (told_length xs)

pub row_is_told : (rows : List LostPage) (ino : ℕ) (p : PageNo) → list_any (is_lost_of ino p) rows ≡ true →
    nat_le 1024 (length (owed_of_file rows ino)) ≡ false →
    (r : LostRow) × Has r (owed_of_file rows ino) × (r.page ≡ p)
unfolding owed_of_file still_owed
row_is_told rows ino p q few = go (told_or_owed rows ino p ino q)
  where
    none : drop 1024 (rows_of_file rows ino) ≡ []
    none =
        few_taken 1024 (rows_of_file rows ino)
        (ap (nat_le 1024) (sym (told_length (take 1024 (rows_of_file rows ino)))) ∙ few)

    other : (z : LostPage) → Has z (filter (λ (r : LostPage). not (is_of_file ino r)) rows ++ []) → is_lost_of ino p z ≡ true → ⊥
    other z i b =
        let y = has_filter (λ (r : LostPage). not (is_of_file ino r)) rows z (left (has_append (filter (λ (r : LostPage). not (is_of_file ino r)) rows) [] z i))
        in
        clash (eq-eqb z.ino ino (row_of ino p z b).ino_is) (not_true (is_of_file ino z) y.1)
      where
        left : Has z (filter (λ (r : LostPage). not (is_of_file ino r)) rows) ⊎ Has z [] → Has z (filter (λ (r : LostPage). not (is_of_file ino r)) rows)
        left (inl j) = j
        left (inr j) = absurd j

    never : list_any (is_lost_of ino p) (filter (λ (r : LostPage). not (is_of_file ino r)) rows ++ drop 1024 (rows_of_file rows ino)) ≡ true → ⊥
    never h =
        let z =
        some_member_passes (is_lost_of ino p) (filter (λ (r : LostPage). not (is_of_file ino r)) rows ++ [])
        (subst (λ xs. list_any (is_lost_of ino p) (filter (λ (r : LostPage). not (is_of_file ino r)) rows ++ xs) ≡ true) none h) in
        other z.0 z.1 z.2

    go : (list_any (is_lost_of ino p) (still_owed rows ino) ≡ true) ⊎ ((ino ≡ ino) × ((r : LostRow) × Has r (owed_of_file rows ino) × (r.page ≡ p))) →
        (r : LostRow) × Has r (owed_of_file rows ino) × (r.page ≡ p)
    go (inl h) = absurd (never h)
    go (inr h) = h.1
