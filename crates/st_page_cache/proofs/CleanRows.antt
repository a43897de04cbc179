-- The look-up, the use and the removal of a page in a cache.
use Rattle.st_lemmas.proofs.Words
use Words.{◌≡◌, ℕ, zero, suc, ◌+◌, ◌-◌, ◌≤◌, Bool, true, false, cond, List, [], ◌∷◌, length, take, refl, sym, ap, subst, ◌∙◌, ⊎_elim, arith, find, Option, Some}
use Words.{None, ◌&&◌, ◌==◌, AllByRecursion, cases_Bool, and_parts, eqb-true, take_all, length-map, PageNo, CleanPage}
use Words.Tables.{found_at}
use Words.ClientInvariants.{same_clean}
use Words.ClientPages.{is_clean_of, without_clean}
use Words.ServerInvariants.{are_once}
use Words.Truth.{eqb_turned}
use Rattle.std.specs.List.{IsDistinct}
use Rattle.std.specs.Option.{option_map, option_map_or}
use Rattle.std.specs.Map.{keys_of, values_of, lookup, lookup_entry, remove_entry}
use Rattle.lru.specs.LruCache.{LruCache, lru_cache, promoted}
use Rattle.st_page_cache.specs.declared.key.PageKey.{PageKey}
use Rattle.st_page_cache.specs.KeyedPages.{IsKeyed, IsCache, clean_key, same_key, touched}
use Rattle.st_page_cache.proofs.Keyed.{lookup_is_find, remove_is_filter, none_found, keyed_remove, keyed_cons, keyed_head, keyed_tail, once}

same_is : (a b : PageKey) → same_key a b ≡ true → a ≡ b
same_is a b h =
    let p : a.ino ≡ b.ino = eqb-true _ _ (and_parts (a.ino == b.ino) (a.page == b.page) h).0 in
    let q : a.page ≡ b.page = eqb-true _ _ (and_parts (a.ino == b.ino) (a.page == b.page) h).1 in
    λ i. record { ino = p i; page = q i }

apart : (k x y : PageKey) → same_key k x ≡ true → same_key x y ≡ false → same_key k y ≡ false
apart k x y h d = ap (λ z. same_key z y) (same_is k x h) ∙ d

module _ {K X : Type 0} (t : K → Bool) where
  keys_fail : (es : List (K × X)) → lookup_entry t es ≡ None → AllByRecursion (λ k. t k ≡ false) (keys_of es)
  keys_fail [] h = tt
  keys_fail (e ∷ es) h =
      ⊎_elim
      (λ q. let h' : Some e ≡ None = rw q at h in cc)
      (λ q. let h' : lookup_entry t es ≡ None = rw q at h in (q, keys_fail es h'))
      (cases_Bool (t e.0))

  entry_passes : (es : List (K × X)) (e : K × X) → lookup_entry t es ≡ Some e → t e.0 ≡ true
  entry_passes [] e h = cc
  entry_passes (f ∷ es) e h =
      ⊎_elim
      (λ q. let h' : Some f ≡ Some e = rw q at h in let s : f ≡ e = cc in subst (λ z. t z.0 ≡ true) s q)
      (λ q. let h' : lookup_entry t es ≡ Some e = rw q at h in entry_passes es e h')
      (cases_Bool (t f.0))

  one_less : (es : List (K × X)) (e : K × X) → lookup_entry t es ≡ Some e → length (remove_entry t es) + 1 ≡ length es
  one_less [] e h = cc
  one_less (f ∷ es) e h =
      ⊎_elim
      (λ q. ap (λ b. length (cond b es (f ∷ remove_entry t es)) + 1) q ∙ (let s : length es + 1 ≡ suc (length es) = omega arith in s))
      (λ q.
      let h' : lookup_entry t es ≡ Some e = rw q at h in
      let r = one_less es e h' in
      ap (λ b. length (cond b es (f ∷ remove_entry t es)) + 1) q ∙ (let s : suc (length (remove_entry t es)) + 1 ≡ suc (length es) = omega (arith, r) in s))
      (cases_Bool (t f.0))

values_take : {K X : Type 0} (n : ℕ) (es : List (K × X)) → values_of (take n es) ≡ take n (values_of es)
values_take zero es = refl
values_take (suc n) [] = refl
values_take (suc n) (e ∷ es) = ap (λ l. e.1 ∷ l) (values_take n es)

keyed_take : (n : ℕ) (es : List (PageKey × CleanPage)) → IsKeyed clean_key es → IsKeyed clean_key (take n es)
keyed_take zero es h = refl
keyed_take (suc n) [] h = refl
keyed_take (suc n) (e ∷ es) h = keyed_cons clean_key e (take n es) (keyed_head clean_key e es h) (keyed_take n es (keyed_tail clean_key e es h))

module _ (ino : ℕ) (page : PageNo) (k : PageKey) (is : k ≡ record { ino = ino; page = page.0 }) where
  agree : (x : CleanPage) → same_key k (clean_key x) ≡ is_clean_of ino page x
  agree x = ap (λ z. same_key z (clean_key x)) is ∙ (λ i. eqb_turned ino x.ino i && eqb_turned page.0 x.page.0 i)

  pub page_found : (es : List (PageKey × CleanPage)) → IsKeyed clean_key es → lookup (same_key k) es ≡ find (is_clean_of ino page) (values_of es)
  page_found es h = lookup_is_find clean_key (same_key k) (is_clean_of ino page) agree es h

  pub page_removed : (es : List (PageKey × CleanPage)) → IsKeyed clean_key es → IsDistinct same_key (keys_of es) → values_of (remove_entry (same_key k) es) ≡ without_clean ino page (values_of es)
  page_removed es h d = remove_is_filter clean_key (same_key k) (is_clean_of ino page) agree same_key (apart k) es h d

  pub page_put : (v : CleanPage) (c : LruCache PageKey CleanPage) → IsCache c → (o : Option (PageKey × CleanPage)) → lookup_entry (same_key k) c.entries ≡ o
      → values_of (option_map_or (λ e. (e.0, v) ∷ remove_entry (same_key k) c.entries) o ((k, v) ∷ take (c.cap - 1) c.entries)) ≡ v ∷ take 255 (without_clean ino page (values_of c.entries))
  page_put v c t None h =
      ap (λ n. v ∷ values_of (take (n - 1) c.entries)) t.cap
      ∙ ap (λ l. v ∷ l) (values_take 255 c.entries ∙ ap (take 255) (sym (none_found clean_key (same_key k) (is_clean_of ino page) agree c.entries t.keyed (keys_fail (same_key k) c.entries h))))
  page_put v c t (Some e) h =
      let r = page_removed c.entries t.keyed t.distinct in
      let n : length (remove_entry (same_key k) c.entries) + 1 ≡ length c.entries = one_less (same_key k) c.entries e h in
      let m : length (values_of (remove_entry (same_key k) c.entries)) ≡ length (remove_entry (same_key k) c.entries) = length-map (remove_entry (same_key k) c.entries) (λ x. x.1) in
      let f : length (values_of (remove_entry (same_key k) c.entries)) ≤ 255 = omega (arith, n, m, t.few) in
      ap (λ l. v ∷ l) (sym (take_all 255 (values_of (remove_entry (same_key k) c.entries)) f) ∙ ap (take 255) r)

pub keyed_put : (v : CleanPage) (k : PageKey) → k ≡ clean_key v → (c : LruCache PageKey CleanPage) → IsCache c → (o : Option (PageKey × CleanPage)) → lookup_entry (same_key k) c.entries ≡ o
    → IsKeyed clean_key (option_map_or (λ e. (e.0, v) ∷ remove_entry (same_key k) c.entries) o ((k, v) ∷ take (c.cap - 1) c.entries))
keyed_put v k is c t None h = keyed_cons clean_key (k, v) (take (c.cap - 1) c.entries) is (keyed_take (c.cap - 1) c.entries t.keyed)
keyed_put v k is c t (Some e) h =
    keyed_cons clean_key (e.0, v) (remove_entry (same_key k) c.entries) (sym (same_is k e.0 (entry_passes (same_key k) c.entries e h)) ∙ is) (keyed_remove clean_key (same_key k) c.entries t.keyed)

-- Using a page.
entry_value : {K X : Type 0} (t : K → Bool) (es : List (K × X)) (o : Option (K × X)) → lookup_entry t es ≡ o → lookup t es ≡ option_map (λ e. e.1) o
entry_value t [] None h = refl
entry_value t [] (Some e) h = cc
entry_value t (f ∷ es) o h =
    ⊎_elim
    (λ q. let h' : Some f ≡ o = rw q at h in rw q (ap (option_map (λ e. e.1)) h'))
    (λ q. let h' : lookup_entry t es ≡ o = rw q at h in rw q (entry_value t es o h'))
    (cases_Bool (t f.0))

module _ (ino : ℕ) (page : PageNo) (k : PageKey) (is : k ≡ record { ino = ino; page = page.0 }) (c : LruCache PageKey CleanPage) (t : IsCache c) where
  found_of : (o : Option (PageKey × CleanPage)) → lookup_entry (same_key k) c.entries ≡ o → find (is_clean_of ino page) (values_of c.entries) ≡ option_map (λ e. e.1) o
  found_of o h = sym (page_found ino page k is c.entries t.keyed) ∙ entry_value (same_key k) c.entries o h

  without_it : (v : CleanPage) → is_clean_of ino page v ≡ true → without_clean ino page (values_of c.entries) ≡ without_clean v.ino v.page (values_of c.entries)
  without_it v h =
      let p = and_parts (v.ino == ino) (v.page.0 == page.0) h in
      let i : v.ino ≡ ino = eqb-true v.ino ino p.0 in
      let q : v.page.0 ≡ page.0 = eqb-true v.page.0 page.0 p.1 in
      λ j. without_clean (sym i j) (record { 0 = sym q j }) (values_of c.entries)

  touched_by : (o : Option (PageKey × CleanPage)) → lookup_entry (same_key k) c.entries ≡ o
      → values_of (option_map_or (λ e. e ∷ remove_entry (same_key k) c.entries) o c.entries) ≡ touched (option_map (λ e. e.1) o) (values_of c.entries)
  touched_by None h = refl
  touched_by (Some e) h =
      let r = page_removed ino page k is c.entries t.keyed t.distinct in
      let n : length (remove_entry (same_key k) c.entries) + 1 ≡ length c.entries = one_less (same_key k) c.entries e h in
      let m : length (values_of (remove_entry (same_key k) c.entries)) ≡ length (remove_entry (same_key k) c.entries) = length-map (remove_entry (same_key k) c.entries) (λ x. x.1) in
      let f : length (values_of (remove_entry (same_key k) c.entries)) ≤ 255 = omega (arith, n, m, t.few) in
      ap (λ l. e.1 ∷ l)
      (sym (take_all 255 (values_of (remove_entry (same_key k) c.entries)) f)
      ∙ ap (take 255) (r ∙ without_it e.1 (found_at (is_clean_of ino page) (values_of c.entries) e.1 (found_of (Some e) h)).0))

  pub page_touched : values_of (promoted (same_key k) c.entries) ≡ touched (find (is_clean_of ino page) (values_of c.entries)) (values_of c.entries)
  page_touched =
      touched_by (lookup_entry (same_key k) c.entries) refl
      ∙ ap (λ o. touched o (values_of c.entries)) (sym (found_of (lookup_entry (same_key k) c.entries) refl))

keyed_touched_by : (k : PageKey) (es : List (PageKey × CleanPage)) → IsKeyed clean_key es → (o : Option (PageKey × CleanPage)) → lookup_entry (same_key k) es ≡ o → IsKeyed clean_key (option_map_or (λ e. e ∷ remove_entry (same_key k) es) o es)
keyed_touched_by k es h None q = h
keyed_touched_by k es h (Some e) q = keyed_cons clean_key e (remove_entry (same_key k) es) (entry_key es h q) (keyed_remove clean_key (same_key k) es h)
  where
    entry_key : (es : List (PageKey × CleanPage)) → IsKeyed clean_key es → lookup_entry (same_key k) es ≡ Some e → e.0 ≡ clean_key e.1
    entry_key [] h q = cc
    entry_key (f ∷ fs) h q =
        ⊎_elim
        (λ b. let q' : Some f ≡ Some e = rw b at q in let z : f ≡ e = cc in ap (λ x. x.0) (sym z) ∙ keyed_head clean_key f fs h ∙ ap (λ x. clean_key x.1) z)
        (λ b. let q' : lookup_entry (same_key k) fs ≡ Some e = rw b at q in entry_key fs (keyed_tail clean_key f fs h) q')
        (cases_Bool (same_key k f.0))

pub keyed_touched : (k : PageKey) (es : List (PageKey × CleanPage)) → IsKeyed clean_key es → IsKeyed clean_key (promoted (same_key k) es)
keyed_touched k es h = keyed_touched_by k es h (lookup_entry (same_key k) es) refl

-- Each page is there once.
same_tied : (x y : CleanPage) → same_clean x y ≡ same_key (clean_key x) (clean_key y)
same_tied x y = λ i. eqb_turned y.ino x.ino i && eqb_turned y.page.0 x.page.0 i

pub pages_once : (es : List (PageKey × CleanPage)) → IsKeyed clean_key es → IsDistinct same_key (keys_of es) → are_once same_clean (values_of es) ≡ true
pages_once es h d = once clean_key same_key same_clean same_tied (values_of es) (subst (IsDistinct same_key) h d)

-- The first page that passes a test of keys.
pub first_key : (t : PageKey → Bool) (p : CleanPage → Bool) → ((x : CleanPage) → t (clean_key x) ≡ p x) → (es : List (PageKey × CleanPage)) → IsKeyed clean_key es
    → option_map (λ e. e.0) (find (λ e. t e.0) es) ≡ option_map clean_key (find p (values_of es))
first_key t p agree [] h = refl
first_key t p agree (e ∷ es) h =
    let s : t e.0 ≡ p e.1 = ap t (keyed_head clean_key e es h) ∙ agree e.1 in
    ⊎_elim
    (λ q. let r : p e.1 ≡ true = sym s ∙ q in rw (q, r) (ap Some (keyed_head clean_key e es h)))
    (λ q. let r : p e.1 ≡ false = sym s ∙ q in rw (q, r) (first_key t p agree es (keyed_tail clean_key e es h)))
    (cases_Bool (t e.0))

-- An empty cache.
pub cache_emptied : (c : LruCache PageKey CleanPage) → IsCache c → IsCache (lru_cache [] c.cap)
unfolding IsDistinct
cache_emptied c t = record { cap = t.cap; few = omega arith; keyed = refl; distinct = tt }
