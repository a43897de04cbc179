-- What is known of pages by their keys: look-up, change and removal.
use Rattle.st_lemmas.proofs.Words
use Words.{◌≡◌, ℕ, ◌+◌, ◌<◌, Bool, true, List, [], ◌∷◌, length, drop, refl, sym, ap, subst, ◌∙◌, ⊎_elim, get_or, filter, slice_get, Some, ◌&&◌}
use Words.{cases_Bool, PageNo, ExtentRow, KnownExtent}
use Words.ClientInvariants.{same_known}
use Words.ClientPages.{is_known_of, known_of, known_row, with_known, with_known_rows}
use Words.ServerInvariants.{are_once}
use Words.Truth.{eqb_turned}
use Rattle.std.specs.List.{IsDistinct}
use Rattle.std.specs.Map.{keys_of, values_of, lookup}
use Rattle.std.proofs.lemmas.Option.{slice_get-get_or}
use Rattle.indexmap.specs.IndexMap.{insert_entry}
use Rattle.st_page_cache.specs.declared.key.PageKey.{PageKey}
use Rattle.st_page_cache.specs.KeyedPages.{IsKeyed, IsKnown, known_key, same_key}
use Rattle.st_page_cache.proofs.DirtyRows.{same_is}
use Rattle.st_page_cache.proofs.Keyed.{lookup_is_find, keyed_cons, keyed_head, keyed_tail, keyed_insert, insert_is_put, once}
use Rattle.st_page_cache.proofs.Steps.{drop_next}

same_tied : (x y : KnownExtent) → same_known x y ≡ same_key (known_key x) (known_key y)
same_tied x y = λ i. eqb_turned y.ino x.ino i && eqb_turned y.page.0 x.page.0 i

pub known_once : (es : List (PageKey × KnownExtent)) → IsKnown es → are_once same_known (values_of es) ≡ true
known_once es t = once known_key same_key same_known same_tied (values_of es) (subst (IsDistinct same_key) t.keyed t.distinct)

module _ (ino : ℕ) (page : PageNo) (k : PageKey) (is : k ≡ record { ino = ino; page = page.0 }) where
  agree : (x : KnownExtent) → same_key k (known_key x) ≡ is_known_of ino page x
  agree x = ap (λ z. same_key z (known_key x)) is ∙ (λ i. eqb_turned ino x.ino i && eqb_turned page.0 x.page.0 i)

  pub known_found : (es : List (PageKey × KnownExtent)) → IsKnown es → lookup (same_key k) es ≡ known_of (values_of es) ino page
  known_found es t = lookup_is_find known_key (same_key k) (is_known_of ino page) agree es t.keyed

-- one more is known
pub known_put : (x : KnownExtent) (es : List (PageKey × KnownExtent)) → IsKnown es → values_of (insert_entry same_key es (known_key x) x) ≡ with_known x (values_of es)
known_put x es t = insert_is_put known_key same_key (known_key x) x (is_known_of x.ino x.page) (agree x.ino x.page (known_key x) refl) es t.keyed

pub table_known : (x : KnownExtent) (es : List (PageKey × KnownExtent)) → IsKnown es → IsDistinct same_key (keys_of (insert_entry same_key es (known_key x) x)) → IsKnown (insert_entry same_key es (known_key x) x)
table_known x es t d = record { keyed = keyed_insert known_key same_key (known_key x) x refl (same_is (known_key x)) es t.keyed; distinct = d }

-- some are forgotten
module _ (p : KnownExtent → Bool) where
  pub values_kept : (es : List (PageKey × KnownExtent)) → values_of (filter (λ e. p e.1) es) ≡ filter p (values_of es)
  values_kept [] = refl
  values_kept (e ∷ es) = ⊎_elim (λ q. rw q (ap (λ l. e.1 ∷ l) (values_kept es))) (λ q. rw q (values_kept es)) (cases_Bool (p e.1))

  pub keyed_kept : (es : List (PageKey × KnownExtent)) → IsKeyed known_key es → IsKeyed known_key (filter (λ e. p e.1) es)
  keyed_kept [] h = refl
  keyed_kept (e ∷ es) h =
      ⊎_elim
      (λ q. rw q (keyed_cons known_key e (filter (λ e. p e.1) es) (keyed_head known_key e es h) (keyed_kept es (keyed_tail known_key e es h))))
      (λ q. rw q (keyed_kept es (keyed_tail known_key e es h)))
      (cases_Bool (p e.1))

-- one more of the told rows is known
pub rows_next : (ino : ℕ) (rows : List ExtentRow) (i : ℕ) (r : ExtentRow) (xs : List KnownExtent) → slice_get rows i ≡ Some r → with_known_rows ino (drop i rows) xs ≡ with_known_rows ino (drop (i + 1) rows) (with_known (known_row ino r) xs)
unfolding with_known_rows
rows_next ino rows i r xs h = ap (λ l. with_known_rows ino l xs) (drop_next rows i r h)

pub rows_more : (ino : ℕ) (rows : List ExtentRow) (i : ℕ) (x : KnownExtent) (d : ExtentRow) (xs : List KnownExtent) → i < length rows → x ≡ known_row ino (get_or rows i d) → with_known_rows ino (drop i rows) xs ≡ with_known_rows ino (drop (i + 1) rows) (with_known x xs)
rows_more ino rows i x d xs l e =
    rows_next ino rows i (get_or rows i d) xs (slice_get-get_or rows i d l)
    ∙ ap (λ z. with_known_rows ino (drop (i + 1) rows) (with_known z xs)) (sym e)
