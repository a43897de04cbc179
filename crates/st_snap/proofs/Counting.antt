-- As many versions are kept as writes are shown.
use Rattle.st_lemmas.proofs.Words
use Words.{◌≡◌, ℕ, suc, ◌<◌, Bool, true, false, cond, List, [], ◌∷◌, length, map, Option, Some, None, arith, refl, sym, ap, subst, ◌∙◌, ⊎_elim, true≢false}
use Words.{◌==◌, ◌||◌, is_some, if◌then◌else◌, AllByRecursion, list_any, cases_Bool, cases_order, eqb-true, eq-eqb, ne_eqb, or_cases, or_right}
use Words.Truth.{some_there}
use Rattle.std.specs.List.{IsDistinct}
use Rattle.std.specs.Option.{option_map}
use Rattle.std.specs.Map.{keys_of}
use Rattle.std.specs.Cmp.{nat_eq_equiv}
use Rattle.std.specs.Ordering.{eq_by_cmp}
use Rattle.std.proofs.lemmas.Map.Keys.{IsDistinct-from_sorted}
use Rattle.std.proofs.lemmas.Map.Made.{length-from_same_keys}
use Rattle.std.proofs.lemmas.Option.{none-some, same_Some}
use Rattle.st_snap.specs.declared.versions.VersionKey.{VersionKey}
use Rattle.st_snap.specs.Changes.{Change, Wrote, Took, Forgot, is_shown, is_write, page_of, shown, shown_among, shows, views}
use Rattle.st_snap.specs.Versions.{AreVersions, Versions, has_version, key_of, key_order, page_in, same_key, slot_under, version}
use Rattle.st_snap.specs.Volumes.{Volume, IsAfter, is_among, numbered, seen, write_of}
use Rattle.st_snap.proofs.Keys.{same_self, same_true}
use Rattle.st_snap.proofs.Lists.{all_more, any_member, member_all, passes}
use Rattle.st_snap.proofs.Pages.{page_wrote, target, wrote_at}
use Rattle.st_snap.proofs.Writes.{seen_write}

-- The shown writes.

shown_in : (all cs : List Change) (n f p : ℕ) → wrote_at cs n ≡ Some (f, p) → is_shown all n f p ≡ true → list_any (λ x. n == x) (shown_among all cs) ≡ true
shown_in all [] n f p e s = absurd (none-some (f, p) e)
shown_in all (c ∷ cs) n f p e s = ⊎_elim
    (λ t. first c (sym (ap (λ b. if b then target c else wrote_at cs n) t) ∙ e) (eqb-true n (length cs) t))
    (λ t. rest (shows all (length cs) c) (shown_in all cs n f p (sym (ap (λ b. if b then target c else wrote_at cs n) t) ∙ e) s))
    (cases_Bool (n == length cs))
  where
    rest : (b : Bool) → list_any (λ x. n == x) (shown_among all cs) ≡ true → list_any (λ x. n == x) (if b then length cs ∷ shown_among all cs else shown_among all cs) ≡ true
    rest true h = or_right (n == length cs) (list_any (λ x. n == x) (shown_among all cs)) h
    rest false h = h

    first : (c : Change) → target c ≡ Some (f, p) → n ≡ length cs → list_any (λ x. n == x) (shown_among all (c ∷ cs)) ≡ true
    first (Wrote g q b) h z =
        let d : (g, q) ≡ (f, p) = same_Some (g, q) (f, p) h in
        let t : is_shown all (length cs) g q ≡ true = subst (λ (r : ℕ × ℕ). is_shown all (length cs) r.0 r.1 ≡ true) (sym d) (subst (λ m. is_shown all m f p ≡ true) z s) in
        ap (λ b. list_any (λ x. n == x) (if b then length cs ∷ shown_among all cs else shown_among all cs)) t
        ∙ ap (λ b. b || list_any (λ x. n == x) (shown_among all cs)) (eq-eqb n (length cs) z)
    first Took h z = absurd (none-some (f, p) h)
    first (Forgot i) h z = absurd (none-some (f, p) h)

-- a shown write, and its page
record IsShownWrite (all cs : List Change) (n : ℕ) : Type 0 where
  pub file : ℕ
  pub page : ℕ
  pub wrote : wrote_at cs n ≡ Some (file, page)
  pub is_shown : is_shown all n file page ≡ true

shown_low : (all cs : List Change) → AllByRecursion (λ n. n < length cs) (shown_among all cs)
shown_low all [] = tt
shown_low all (c ∷ cs) = choose (shows all (length cs) c) (all_more (λ n. n < length cs) (λ n. n < length (c ∷ cs)) (λ n l. omega (arith, l)) (shown_among all cs) (shown_low all cs))
  where
    choose : (b : Bool) → AllByRecursion (λ n. n < length (c ∷ cs)) (shown_among all cs) → AllByRecursion (λ n. n < length (c ∷ cs)) (if b then length cs ∷ shown_among all cs else shown_among all cs)
    choose true more = (omega arith, more)
    choose false more = more

shown_apart : (all cs : List Change) → IsDistinct (λ x y. x == y) (shown_among all cs)
unfolding IsDistinct
shown_apart all [] = tt
shown_apart all (c ∷ cs) = choose (shows all (length cs) c) (shown_apart all cs)
  where
    choose : (b : Bool) → IsDistinct (λ x y. x == y) (shown_among all cs) → IsDistinct (λ x y. x == y) (if b then length cs ∷ shown_among all cs else shown_among all cs)
    choose true rest = (all_more (λ n. n < length cs) (λ n. (length cs == n) ≡ false) (λ n l. ne_eqb (length cs) n (λ (e : length cs ≡ n). omega (arith, e, l))) (shown_among all cs) (shown_low all cs), rest)
    choose false rest = rest

in_shown : (all cs : List Change) (n : ℕ) → list_any (λ x. n == x) (shown_among all cs) ≡ true → IsShownWrite all cs n
in_shown all [] n h = absurd (true≢false (sym h))
in_shown all (c ∷ cs) n h = by (shows all (length cs) c) (in_shown all cs n) refl h
  where
    later : (list_any (λ x. n == x) (shown_among all cs) ≡ true → IsShownWrite all cs n) → list_any (λ x. n == x) (shown_among all cs) ≡ true → IsShownWrite all (c ∷ cs) n
    later ih m =
        let r = ih m in
        let l = member_all (λ x. x < length cs) n (shown_among all cs) (shown_low all cs) m in
        record { file = r.file; page = r.page; wrote = ap (λ b. if b then target c else wrote_at cs n) (ne_eqb n (length cs) (λ (e : n ≡ length cs). omega (arith, e, l))) ∙ r.wrote; is_shown = r.is_shown }

    here : (c : Change) → shows all (length cs) c ≡ true → n ≡ length cs → IsShownWrite all (c ∷ cs) n
    here (Wrote g q b) t z = record { file = g; page = q; wrote = ap (λ b. if b then Some (g, q) else wrote_at cs n) (eq-eqb n (length cs) z); is_shown = subst (λ m. is_shown all m g q ≡ true) (sym z) t }
    here Took t z = absurd (true≢false (sym t))
    here (Forgot i) t z = absurd (true≢false (sym t))

    by : (b : Bool) → (list_any (λ x. n == x) (shown_among all cs) ≡ true → IsShownWrite all cs n) → shows all (length cs) c ≡ b → list_any (λ x. n == x) (if b then length cs ∷ shown_among all cs else shown_among all cs) ≡ true → IsShownWrite all (c ∷ cs) n
    by true ih t m = ⊎_elim (λ z. here c t (eqb-true n (length cs) z)) (λ z. later ih z) (or_cases (n == length cs) (list_any (λ x. n == x) (shown_among all cs)) m)
    by false ih t m = later ih m

-- The versions.

pub slot_has : (v : Versions) → AreVersions v → (k : VersionKey) → is_some (slot_under v.slots k) ≡ true → has_version v k ≡ true
slot_has v r k h = let s = some_there (slot_under v.slots k) h in ap (λ o. is_some (page_in v.pages o)) s.1 ∙ r.held k s.0 s.1

pub has_slot : (v : Versions) (k : VersionKey) → has_version v k ≡ true → is_some (slot_under v.slots k) ≡ true
has_slot v k h = by (slot_under v.slots k) h
  where
    by : (o : Option ℕ) → is_some (page_in v.pages o) ≡ true → is_some o ≡ true
    by None h = h
    by (Some s) h = refl

-- each key of a list is found in it
keys_there : (es : List (VersionKey × ℕ)) → AllByRecursion (λ k. is_some (slot_under es k) ≡ true) (keys_of es)
keys_there [] = tt
keys_there (e ∷ es) = (
  ap (λ b. is_some (cond b (Some e.1) (slot_under es e.0))) (same_self e.0),
  all_more (λ k. is_some (slot_under es k) ≡ true) (λ k. is_some (slot_under (e ∷ es) k) ≡ true) (λ k h. still (same_key k e.0) (slot_under es k) h) (keys_of es) (keys_there es),
)
  where
    still : (b : Bool) (o : Option ℕ) → is_some o ≡ true → is_some (cond b (Some e.1) o) ≡ true
    still true o h = refl
    still false o h = h

module _ (blocks : ℕ) (cs : List Change) (h : Volume) (a : IsAfter blocks cs h) (r : AreVersions h.versions) where
  -- the number of a version's write
  abbrev number : VersionKey → ℕ
  number k = a.number k.file k.page k.takes

  wrote_key : (k : VersionKey) → has_version h.versions k ≡ true → wrote_at cs (number k) ≡ Some (k.file, k.page)
  wrote_key k t =
      let b = some_there (version h.versions k) t in
      let s = a.each k t in
      page_wrote cs s.view k.file k.page (numbered (number k) b.0) (seen_write blocks cs h a k s b.0 b.1)

  same_number : (j k : VersionKey) → has_version h.versions j ≡ true → has_version h.versions k ≡ true → number j ≡ number k → j ≡ k
  same_number j k x y e =
      let d : (j.file, j.page) ≡ (k.file, k.page) = same_Some (j.file, j.page) (k.file, k.page) (sym (wrote_key j x) ∙ ap (wrote_at cs) e ∙ wrote_key k y) in
      let jf : j.file ≡ k.file = ap (λ (z : ℕ × ℕ). z.0) d in
      let jp : j.page ≡ k.page = ap (λ (z : ℕ × ℕ). z.1) d in
      let moved : key_of k.file k.page j.takes ≡ j = (λ i. record { file = sym jf i; page = sym jp i; takes = j.takes }) in
      let there : has_version h.versions (key_of k.file k.page j.takes) ≡ true = ap (has_version h.versions) moved ∙ x in
      let same : a.number k.file k.page j.takes ≡ number j = ap number moved in
      ⊎_elim
      (λ z. (λ i. record { file = jf i; page = jp i; takes = z i }))
      (λ o. ⊎_elim
      (λ l. let m = a.rises k.file k.page j.takes k.takes l there y in absurd (omega (arith, m, same, e)))
      (λ l. let m = a.rises k.file k.page k.takes j.takes l y there in absurd (omega (arith, m, same, e)))
      o)
      (cases_order j.takes k.takes)

  abbrev Have : VersionKey → Type 0
  Have k = has_version h.versions k ≡ true

  numbers_apart : (ks : List VersionKey) → IsDistinct (eq_by_cmp key_order) ks → AllByRecursion Have ks → IsDistinct (λ x y. x == y) (map number ks)
  unfolding IsDistinct
  numbers_apart [] d c = tt
  numbers_apart (k ∷ ks) d c = (every k c.0 ks d.0 c.1, numbers_apart ks d.1 c.1)
    where
      every : (k : VersionKey) → Have k → (ks : List VersionKey) → AllByRecursion (λ y. eq_by_cmp key_order k y ≡ false) ks → AllByRecursion Have ks → AllByRecursion (λ y. (number k == y) ≡ false) (map number ks)
      every k x [] d c = tt
      every k x (j ∷ ks) d c = (ne_eqb (number k) (number j) (λ e. true≢false (sym (ap (same_key k) (sym (same_number k j x c.0 e)) ∙ same_self k) ∙ d.0)), every k x ks d.1 c.1)

  -- a number of a version
  number_of : (n : ℕ) (ks : List VersionKey) → AllByRecursion Have ks → list_any (λ x. n == x) (map number ks) ≡ true → (k : VersionKey) × (Have k × (n ≡ number k))
  number_of n [] c m = absurd (true≢false (sym m))
  number_of n (k ∷ ks) c m = ⊎_elim (λ t. (k, (c.0, eqb-true n (number k) t))) (λ t. number_of n ks c.1 t) (or_cases (n == number k) (list_any (λ x. n == x) (map number ks)) m)

  -- a version's number is there
  of_number : (k : VersionKey) (es : List (VersionKey × ℕ)) → is_some (slot_under es k) ≡ true → list_any (λ x. number k == x) (map number (keys_of es)) ≡ true
  of_number k [] s = absurd (true≢false (sym s))
  of_number k (e ∷ es) s = ⊎_elim
      (λ t. ap (λ b. b || list_any (λ x. number k == x) (map number (keys_of es))) (eq-eqb (number k) (number e.0) (ap number (same_true k e.0 t))))
      (λ t. or_right (number k == number e.0) (list_any (λ x. number k == x) (map number (keys_of es))) (of_number k es (sym (ap (λ b. is_some (cond b (Some e.1) (slot_under es k))) t) ∙ s)))
      (cases_Bool (same_key k e.0))

  among_views : (view : ℕ) → is_among h.kept view ≡ list_any (λ y. view == y) (views cs)
  among_views view = ap (λ ks. list_any (λ y. view == y) (0 ∷ ks)) a.kept

  -- a version's write is shown
  version_shown : (k : VersionKey) → Have k → list_any (λ x. number k == x) (shown_among cs cs) ≡ true
  version_shown k t =
      let b = some_there (version h.versions k) t in
      let s = a.each k t in
      let e = seen_write blocks cs h a k s b.0 b.1 in
      shown_in cs cs (number k) k.file k.page (wrote_key k t)
      (passes (λ view. is_write (number k) (page_of cs view k.file k.page)) s.view (views cs) (sym (among_views s.view) ∙ s.among) (ap (is_write (number k)) e ∙ eq-eqb (number k) (number k) refl))

  -- a shown write is a version's
  shown_version : (n : ℕ) → list_any (λ x. n == x) (shown_among cs cs) ≡ true → list_any (λ x. n == x) (map number (keys_of h.versions.slots)) ≡ true
  shown_version n m =
      let w = in_shown cs cs n m in
      let v = any_member (λ view. is_write n (page_of cs view w.file w.page)) (views cs) w.is_shown in
      let e = a.pages v.0 w.file w.page (among_views v.0 ∙ v.1.0) in
      by w.file w.page (seen h v.0 w.file w.page) (sym (ap (is_write n) e) ∙ v.1.1)
    where
      with_bytes : (f p t : ℕ) (o : Option (List ℕ)) → version h.versions (key_of f p t) ≡ o → is_write n (option_map (numbered (a.number f p t)) o) ≡ true → list_any (λ x. n == x) (map number (keys_of h.versions.slots)) ≡ true
      with_bytes f p t None e s = absurd (true≢false (sym s))
      with_bytes f p t (Some b) e s =
          let z : n ≡ a.number f p t = eqb-true n (a.number f p t) s in
          ap (λ m. list_any (λ x. m == x) (map number (keys_of h.versions.slots))) z
          ∙ of_number (key_of f p t) h.versions.slots (has_slot h.versions (key_of f p t) (ap is_some e))

      by : (f p : ℕ) (o : Option ℕ) → is_write n (write_of a.number h.versions f p o) ≡ true → list_any (λ x. n == x) (map number (keys_of h.versions.slots)) ≡ true
      by f p None s = absurd (true≢false (sym s))
      by f p (Some t) s = with_bytes f p t (version h.versions (key_of f p t)) refl s

  have_keys : AllByRecursion Have (keys_of h.versions.slots)
  have_keys = all_more (λ k. is_some (slot_under h.versions.slots k) ≡ true) Have (λ k s. slot_has h.versions r k s) (keys_of h.versions.slots) (keys_there h.versions.slots)

  alike : (n : ℕ) → list_any (λ x. n == x) (map number (keys_of h.versions.slots)) ≡ list_any (λ x. n == x) (shown_among cs cs)
  alike n = one_truth (list_any (λ x. n == x) (map number (keys_of h.versions.slots))) (list_any (λ x. n == x) (shown_among cs cs))
      (λ t. let k = number_of n (keys_of h.versions.slots) have_keys t in ap (λ m. list_any (λ x. m == x) (shown_among cs cs)) k.1.1 ∙ version_shown k.0 k.1.0)
      (shown_version n)
    where
      one_truth : (x y : Bool) → (x ≡ true → y ≡ true) → (y ≡ true → x ≡ true) → x ≡ y
      one_truth true y a b = sym (a refl)
      one_truth false true a b = b refl
      one_truth false false a b = refl

  -- as many versions as shown writes
  pub counted : length h.versions.slots ≡ shown cs
  unfolding shown
  counted =
      let same : length (map number (keys_of h.versions.slots)) ≡ length (shown_among cs cs) =
      length-from_same_keys nat_eq_equiv (map number (keys_of h.versions.slots)) (shown_among cs cs)
      (numbers_apart (keys_of h.versions.slots) (IsDistinct-from_sorted key_order (keys_of h.versions.slots) r.ordered) have_keys) (shown_apart cs cs) alike in
      sym (long h.versions.slots) ∙ same
    where
      long : (es : List (VersionKey × ℕ)) → length (map number (keys_of es)) ≡ length es
      long [] = refl
      long (e ∷ es) = ap suc (long es)
