-- The dirty pages by their keys: look-up, change and removal.
use Rattle.st_lemmas.proofs.Words
use Words.{◌≡◌, ℕ, suc, ◌+◌, Bool, true, false, cond, List, [], ◌∷◌, map, length, refl, sym, ap, subst, ◌∙◌, ⊎_elim, arith, find, is_some, Option, Some, None}
use Words.{◌&&◌, ◌==◌, AllByRecursion, cases_Bool, and_parts, eqb-true, PageNo, DirtyPage}
use Words.Tables.{found_at}
use Words.ClientInvariants.{same_dirty}
use Words.ClientPages.{is_dirty_of, without_dirty, fail_of, failed_by}
use Words.Keys.{put}
use Words.ServerInvariants.{are_once}
use Words.Truth.{eqb_turned}
use Rattle.std.proofs.lemmas.Map.Entries.{length-values_of}
use Rattle.std.specs.List.{IsDistinct}
use Rattle.std.specs.Map.{keys_of, values_of, lookup, remove_entry, set_value}
use Rattle.indexmap.specs.IndexMap.{insert_entry}
use Rattle.st_page_cache.specs.declared.key.PageKey.{PageKey}
use Rattle.st_page_cache.specs.KeyedPages.{IsKeyed, IsTable, dirty_key, same_key}
use Rattle.st_page_cache.specs.DirtyPlaces.{place_of, same_place}
use Rattle.st_page_cache.proofs.Keyed.{lookup_is_find, remove_is_filter, none_found, keyed_remove, keyed_insert, keyed_set, insert_is_put, set_is_map}
use Rattle.st_page_cache.proofs.Keyed.{absent_is_map, once, distinct_as}

pub same_is : (a b : PageKey) → same_key a b ≡ true → a ≡ b
same_is a b h =
    let p : a.ino ≡ b.ino = eqb-true _ _ (and_parts (a.ino == b.ino) (a.page == b.page) h).0 in
    let q : a.page ≡ b.page = eqb-true _ _ (and_parts (a.ino == b.ino) (a.page == b.page) h).1 in
    λ i. record { ino = p i; page = q i }

pub apart : (k x y : PageKey) → same_key k x ≡ true → same_key x y ≡ false → same_key k y ≡ false
apart k x y h d = ap (λ z. same_key z y) (same_is k x h) ∙ d

module _ {K X : Type 0} (t : K → Bool) where
  keys_fail : (es : List (K × X)) → lookup t es ≡ None → AllByRecursion (λ k. t k ≡ false) (keys_of es)
  keys_fail [] h = tt
  keys_fail (e ∷ es) h =
      ⊎_elim
      (λ q. let h' : Some e.1 ≡ None = rw q at h in cc)
      (λ q. let h' : lookup t es ≡ None = rw q at h in (q, keys_fail es h'))
      (cases_Bool (t e.0))

  one_less : (es : List (K × X)) (x : X) → lookup t es ≡ Some x → length (remove_entry t es) + 1 ≡ length es
  one_less [] x h = cc
  one_less (f ∷ es) x h =
      ⊎_elim
      (λ q. ap (λ b. length (cond b es (f ∷ remove_entry t es)) + 1) q ∙ (let s : length es + 1 ≡ suc (length es) = omega arith in s))
      (λ q.
      let h' : lookup t es ≡ Some x = rw q at h in
      let r = one_less es x h' in
      ap (λ b. length (cond b es (f ∷ remove_entry t es)) + 1) q ∙ (let s : suc (length (remove_entry t es)) + 1 ≡ suc (length es) = omega (arith, r) in s))
      (cases_Bool (t f.0))

-- a page is there once
same_tied : (x y : DirtyPage) → same_dirty x y ≡ same_key (dirty_key x) (dirty_key y)
same_tied x y = λ i. eqb_turned y.ino x.ino i && eqb_turned y.page.0 x.page.0 i

pub rows_once : (es : List (PageKey × DirtyPage)) → IsTable es → are_once same_dirty (values_of es) ≡ true
rows_once es t = once dirty_key same_key same_dirty same_tied (values_of es) (subst (IsDistinct same_key) t.keyed t.distinct)

pub places_differ : (es : List (PageKey × DirtyPage)) → IsTable es → IsDistinct same_place (map place_of (values_of es))
places_differ es t = distinct_as dirty_key same_key same_place place_of (λ x y. refl) (values_of es) (subst (IsDistinct same_key) t.keyed t.distinct)

module _ (ino : ℕ) (page : PageNo) (k : PageKey) (is : k ≡ record { ino = ino; page = page.0 }) where
  agree : (x : DirtyPage) → same_key k (dirty_key x) ≡ is_dirty_of ino page x
  agree x = ap (λ z. same_key z (dirty_key x)) is ∙ (λ i. eqb_turned ino x.ino i && eqb_turned page.0 x.page.0 i)

  module _ (es : List (PageKey × DirtyPage)) (t : IsTable es) where
    pub row_found : lookup (same_key k) es ≡ find (is_dirty_of ino page) (values_of es)
    row_found = lookup_is_find dirty_key (same_key k) (is_dirty_of ino page) agree es t.keyed

    pub row_removed : values_of (remove_entry (same_key k) es) ≡ without_dirty ino page (values_of es)
    row_removed = remove_is_filter dirty_key (same_key k) (is_dirty_of ino page) agree same_key (apart k) es t.keyed t.distinct

    pub table_removed : IsDistinct same_key (keys_of (remove_entry (same_key k) es)) → IsTable (remove_entry (same_key k) es)
    table_removed d = record { keyed = keyed_remove dirty_key (same_key k) es t.keyed; distinct = d }

    pub row_put : (x : DirtyPage) → values_of (insert_entry same_key es k x) ≡ put (is_dirty_of ino page) x (values_of es)
    row_put x = insert_is_put dirty_key same_key k x (is_dirty_of ino page) agree es t.keyed

    pub table_put : (x : DirtyPage) → k ≡ dirty_key x → IsDistinct same_key (keys_of (insert_entry same_key es k x)) → IsTable (insert_entry same_key es k x)
    table_put x a d = record { keyed = keyed_insert dirty_key same_key k x a (same_is k) es t.keyed; distinct = d }

    -- how many others there are
    pub others_there : (x : DirtyPage) → lookup (same_key k) es ≡ Some x → length (without_dirty ino page (values_of es)) + 1 ≡ length es
    others_there x h =
        ap (λ l. length l + 1) (sym row_removed) ∙ ap (λ n. n + 1) (length-values_of (remove_entry (same_key k) es)) ∙ one_less (same_key k) es x h

    pub others_all : lookup (same_key k) es ≡ None → length (without_dirty ino page (values_of es)) ≡ length es
    others_all h = ap length (none_found dirty_key (same_key k) (is_dirty_of ino page) agree es t.keyed (keys_fail (same_key k) es h)) ∙ length-values_of es

    held_by : (o : Option DirtyPage) → lookup (same_key k) es ≡ o → is_some o ≡ true → length (without_dirty ino page (values_of es)) + 1 ≡ length es
    held_by None h t = cc
    held_by (Some x) h t = others_there x h

    pub others_held : is_some (lookup (same_key k) es) ≡ true → length (without_dirty ino page (values_of es)) + 1 ≡ length es
    others_held t = held_by (lookup (same_key k) es) refl t

    free_by : (o : Option DirtyPage) → lookup (same_key k) es ≡ o → is_some o ≡ false → length (without_dirty ino page (values_of es)) ≡ length es
    free_by None h t = others_all h
    free_by (Some x) h t = cc

    pub others_free : is_some (lookup (same_key k) es) ≡ false → length (without_dirty ino page (values_of es)) ≡ length es
    others_free t = free_by (lookup (same_key k) es) refl t

    insert_there : (fs : List (PageKey × DirtyPage)) (x y : DirtyPage) → lookup (same_key k) fs ≡ Some y → length (insert_entry same_key fs k x) ≡ length fs
    insert_there [] x y h = cc
    insert_there (f ∷ fs) x y h =
        ⊎_elim
        (λ q. rw q refl)
        (λ q. let h' : lookup (same_key k) fs ≡ Some y = rw q at h in rw q (ap suc (insert_there fs x y h')))
        (cases_Bool (same_key k f.0))

    insert_last : (fs : List (PageKey × DirtyPage)) (x : DirtyPage) → lookup (same_key k) fs ≡ None → length (insert_entry same_key fs k x) ≡ length fs + 1
    insert_last [] x h = refl
    insert_last (f ∷ fs) x h =
        ⊎_elim
        (λ q. let h' : Some f.1 ≡ None = rw q at h in cc)
        (λ q. let h' : lookup (same_key k) fs ≡ None = rw q at h in rw q (let r = insert_last fs x h' in omega arith))
        (cases_Bool (same_key k f.0))

    length_by : (x : DirtyPage) (o : Option DirtyPage) → lookup (same_key k) es ≡ o → length (values_of (insert_entry same_key es k x)) ≡ length (without_dirty ino page (values_of es)) + 1
    length_by x None h = length-values_of (insert_entry same_key es k x) ∙ insert_last es x h ∙ ap (λ n. n + 1) (sym (others_all h))
    length_by x (Some y) h = length-values_of (insert_entry same_key es k x) ∙ insert_there es x y h ∙ sym (others_there y h)

    -- one more than the others
    pub put_length : (x : DirtyPage) → length (values_of (insert_entry same_key es k x)) ≡ length (without_dirty ino page (values_of es)) + 1
    put_length x = length_by x (lookup (same_key k) es) refl

    -- a failed command
    module _ (command : ℕ) (new : List (PageKey × DirtyPage)) (there : (d : DirtyPage) → lookup (same_key k) es ≡ Some d → new ≡ set_value (same_key k) es (failed_by command d)) (none : lookup (same_key k) es ≡ None → new ≡ es) where
      failed_by_found : (o : Option DirtyPage) → lookup (same_key k) es ≡ o → values_of new ≡ map (fail_of ino page command) (values_of es)
      failed_by_found None h = ap values_of (none h) ∙ absent_is_map dirty_key (same_key k) (is_dirty_of ino page) agree same_key (apart k) (failed_by command) es h t.keyed
      failed_by_found (Some d) h =
          ap values_of (there d h)
          ∙ set_is_map dirty_key (same_key k) (is_dirty_of ino page) agree same_key (apart k) (failed_by command) d (failed_by command d) es refl h t.keyed t.distinct

      pub row_failed : values_of new ≡ map (fail_of ino page command) (values_of es)
      row_failed = failed_by_found (lookup (same_key k) es) refl

      keyed_by_found : (o : Option DirtyPage) → lookup (same_key k) es ≡ o → IsKeyed dirty_key new
      unfolding failed_by
      keyed_by_found None h = subst (IsKeyed dirty_key) (sym (none h)) t.keyed
      keyed_by_found (Some d) h =
          subst (IsKeyed dirty_key) (sym (there d h))
          (keyed_set dirty_key (same_key k) (failed_by command d) (λ j q. key_kept j q) es t.keyed)
        where
          key_kept : (j : PageKey) → same_key k j ≡ true → j ≡ dirty_key (failed_by command d)
          key_kept j q = sym (same_is k j q) ∙ same_is k (dirty_key d) (agree d ∙ (found_at (is_dirty_of ino page) (values_of es) d (sym row_found ∙ h)).0)

      pub table_failed : IsDistinct same_key (keys_of new) → IsTable new
      table_failed u = record { keyed = keyed_by_found (lookup (same_key k) es) refl; distinct = u }
