-- What is seen after a page is written.
use Rattle.st_lemmas.proofs.Words
use Words.{◌≡◌, ℕ, ◌+◌, ◌<◌, true, false, cond, List, ◌∷◌, length, Option, Some, None, arith, refl, sym, ap, subst, ◌∙◌, ⊎_elim, true≢false, ◌==◌, is_some}
use Words.{if◌then◌else◌, list_any, cases_Bool, false_from_ne_true}
use Words.Truth.{some_there}
use Rattle.std.specs.Option.{option_map}
use Rattle.st_snap.specs.declared.versions.VersionKey.{VersionKey}
use Rattle.st_snap.specs.Changes.{Change, Wrote, last_write, page_of, same_page}
use Rattle.st_snap.specs.Versions.{has_version, key_of, latest, same_key, version}
use Rattle.st_snap.specs.Volumes.{Volume, IsAfter, IsHeld, IsSeen, Puts, first_after, is_among, numbered, seen, take_of, write_of}
use Rattle.st_snap.proofs.Keys.{same_false, same_from, same_true, same_self}
use Rattle.st_snap.proofs.Lists.{first_none, first_some}
use Rattle.st_snap.proofs.Latest.{IsLatest, latest_is, latest_same, latest_some}
use Rattle.st_snap.proofs.Pages.{is_page, not_page, page_is, page_low, page_over}
use Rattle.st_snap.proofs.KeptViews.{among_cases, among_image, take_image, taken_image}

module _ (blocks : ℕ) (cs : List Change) (h : Volume) (a : IsAfter blocks cs h) where
  -- the write of a version that is seen
  pub seen_write : (q : VersionKey) (s : IsSeen h q) (b : List ℕ) → version h.versions q ≡ Some b → page_of cs s.view q.file q.page ≡ Some (numbered (a.number q.file q.page q.takes) b)
  seen_write q s b e = a.pages s.view q.file q.page s.among ∙ ap (write_of a.number h.versions q.file q.page) s.found ∙ ap (option_map (numbered (a.number q.file q.page q.takes))) e

  -- a version's write is among the changes
  pub number_low : (q : VersionKey) → has_version h.versions q ≡ true → a.number q.file q.page q.takes < length cs
  number_low q t =
      let b = some_there (version h.versions q) t in
      let s = a.each q t in
      page_low cs s.view q.file q.page (numbered (a.number q.file q.page q.takes) b.0) (seen_write q s b.0 b.1)

-- A page is written: its version t has the bytes.
module _ (blocks : ℕ) (cs : List Change) (h new : Volume) (k : IsHeld h) (a : IsAfter blocks cs h) (f p t : ℕ) (bytes : List ℕ) (w : Puts h new (key_of f p t) bytes) where
  -- the numbers of the writes
  abbrev number : ℕ → ℕ → ℕ → ℕ
  number g q u = if same_key (key_of f p t) (key_of g q u) then length cs else a.number g q u

  here : version new.versions (key_of f p t) ≡ Some bytes
  here = w.versions (key_of f p t) ∙ ap (λ c. cond c (Some bytes) (version h.versions (key_of f p t))) (same_self (key_of f p t))

  there : (q : VersionKey) → (key_of f p t ≡ q → ⊥) → version new.versions q ≡ version h.versions q
  there q n = w.versions q ∙ ap (λ c. cond c (Some bytes) (version h.versions q)) (same_false (key_of f p t) q n)

  has_here : has_version new.versions (key_of f p t) ≡ true
  has_here = ap is_some here

  has_there : (q : VersionKey) → (key_of f p t ≡ q → ⊥) → has_version new.versions q ≡ has_version h.versions q
  has_there q n = ap is_some (there q n)

  number_here : number f p t ≡ length cs
  number_here = ap (λ c. if c then length cs else a.number f p t) (same_self (key_of f p t))

  number_there : (g q u : ℕ) → (key_of f p t ≡ key_of g q u → ⊥) → number g q u ≡ a.number g q u
  number_there g q u n = ap (λ c. if c then length cs else a.number g q u) (same_false (key_of f p t) (key_of g q u) n)

  write_here : write_of number new.versions f p (Some t) ≡ Some (numbered (length cs) bytes)
  write_here = ap (option_map (numbered (number f p t))) here ∙ ap (λ n. Some (numbered n bytes)) number_here

  write_there : (g q : ℕ) (o : Option ℕ) → ((u : ℕ) → o ≡ Some u → key_of f p t ≡ key_of g q u → ⊥) → write_of number new.versions g q o ≡ write_of a.number h.versions g q o
  write_there g q None n = refl
  write_there g q (Some u) n = (λ i. option_map (numbered (number_there g q u (n u refl) i)) (there (key_of g q u) (n u refl) i))

  -- the live page that was written
  page_here : (g q : ℕ) → f ≡ g → p ≡ q → page_of (Wrote f p bytes ∷ cs) 0 g q ≡ Some (numbered (length cs) bytes)
  page_here g q x y = ap (λ c. if c then Some (numbered (length cs) bytes) else last_write cs g q) (is_page f p g q x y)

  page_there : (g q : ℕ) → ((f ≡ g) × (p ≡ q) → ⊥) → page_of (Wrote f p bytes ∷ cs) 0 g q ≡ page_of cs 0 g q
  page_there g q n = ap (λ c. if c then Some (numbered (length cs) bytes) else last_write cs g q) (not_page f p g q n)

  page_image : (view g q : ℕ) → list_any (λ v. view == v) h.kept ≡ true → page_of (Wrote f p bytes ∷ cs) view g q ≡ page_of cs view g q
  page_image view g q m = let i = taken_image h k view m in page_over (Wrote f p bytes) cs view g q i.some (omega (arith, i.below, a.next))

  same_file : (g q u : ℕ) → key_of f p t ≡ key_of g q u → (f ≡ g) × (p ≡ q)
  same_file g q u e = (ap (λ (x : VersionKey). x.file) e, ap (λ (x : VersionKey). x.page) e)

  same_takes : (g q u : ℕ) → key_of f p t ≡ key_of g q u → t ≡ u
  same_takes g q u e = ap (λ (x : VersionKey). x.takes) e

  -- versions of a page, if the new one is the last
  rises : ((u : ℕ) → t < u → has_version new.versions (key_of f p u) ≡ false) → (g q s u : ℕ) → s < u → has_version new.versions (key_of g q s) ≡ true → has_version new.versions (key_of g q u) ≡ true → number g q s < number g q u
  rises last g q s u l x y = ⊎_elim
      (λ e.
      let z = same_true (key_of f p t) (key_of g q s) e in
      let m : t < u = let n = same_takes g q s z in omega (arith, n, l) in
      let d = same_file g q s z in
      let no : has_version new.versions (key_of g q u) ≡ false = subst (λ (r : ℕ × ℕ). has_version new.versions (key_of r.0 r.1 u) ≡ false) (λ i. (d.0 i, d.1 i)) (last u m) in
      absurd (true≢false (sym y ∙ no)))
      (λ e.
      let n : key_of f p t ≡ key_of g q s → ⊥ = λ z. true≢false (sym (same_from (key_of f p t) (key_of g q s) z) ∙ e) in
      let was : has_version h.versions (key_of g q s) ≡ true = sym (has_there (key_of g q s) n) ∙ x in
      let low = number_low blocks cs h a (key_of g q s) was in
      let less = number_there g q s n in
      ⊎_elim
      (λ c. let big : number g q u ≡ length cs = ap (λ c. if c then length cs else a.number g q u) c in omega (arith, big, low, less))
      (λ c.
      let m : key_of f p t ≡ key_of g q u → ⊥ = λ z. true≢false (sym (same_from (key_of f p t) (key_of g q u) z) ∙ c) in
      let was2 : has_version h.versions (key_of g q u) ≡ true = sym (has_there (key_of g q u) m) ∙ y in
      let r = a.rises g q s u l was was2 in
      let more = number_there g q u m in
      omega (arith, r, less, more))
      (cases_Bool (same_key (key_of f p t) (key_of g q u))))
      (cases_Bool (same_key (key_of f p t) (key_of g q s)))

  -- The live version is written over if no image shares it.
  module _ (live : seen h 0 f p ≡ Some t) (alone : first_after h.kept t ≡ None) where
    over_last : IsLatest (has_version h.versions) f p h.next t
    over_last = latest_some (has_version h.versions) f p h.next t live

    over_has : (q : VersionKey) → has_version new.versions q ≡ has_version h.versions q
    over_has q = ⊎_elim
        (λ c. let e = same_true (key_of f p t) q c in subst (λ q. has_version new.versions q ≡ has_version h.versions q) e (has_here ∙ sym over_last.there))
        (λ c. has_there q (λ z. true≢false (sym (same_from (key_of f p t) q z) ∙ c)))
        (cases_Bool (same_key (key_of f p t) q))

    over_seen : (view g q : ℕ) → seen new view g q ≡ seen h view g q
    over_seen view g q = latest_same (has_version new.versions) (has_version h.versions) g q (take_of new.next view) (λ u l. over_has (key_of g q u)) ∙ ap (λ n. latest (has_version h.versions) g q (take_of n view)) w.next

    over_image : (view g q : ℕ) → list_any (λ v. view == v) h.kept ≡ true → (u : ℕ) → seen h view g q ≡ Some u → key_of f p t ≡ key_of g q u → ⊥
    over_image view g q m u e z =
        let i = taken_image h k view m in
        let low = first_none h.kept t alone view m in
        let s = latest_some (has_version h.versions) g q (take_of h.next view) u e in
        let v = take_image h.next view i.some in
        let n = same_takes g q u z in
        omega (arith, s.below, v, low, n)

    over_pages : (view g q : ℕ) → is_among new.kept view ≡ true → page_of (Wrote f p bytes ∷ cs) view g q ≡ write_of number new.versions g q (seen new view g q)
    over_pages view g q m = ⊎_elim
        (λ e. subst (λ v. page_of (Wrote f p bytes ∷ cs) v g q ≡ write_of number new.versions g q (seen new v g q)) (sym e) (over_live g q))
        (λ j.
        let i = subst (λ ks. list_any (λ v. view == v) ks ≡ true) w.kept j in
        page_image view g q i ∙ a.pages view g q (among_image h.kept view i)
        ∙ sym (ap (write_of number new.versions g q) (over_seen view g q) ∙ write_there g q (seen h view g q) (over_image view g q i)))
        (among_cases new.kept view m)
      where
        over_live : (g q : ℕ) → page_of (Wrote f p bytes ∷ cs) 0 g q ≡ write_of number new.versions g q (seen new 0 g q)
        over_live g q = ⊎_elim
            (λ c.
            let d = page_is f p g q c in
            page_here g q d.0 d.1 ∙ sym (subst (λ (r : ℕ × ℕ). write_of number new.versions r.0 r.1 (seen new 0 r.0 r.1) ≡ Some (numbered (length cs) bytes)) (λ i. (d.0 i, d.1 i)) (ap (write_of number new.versions f p) (over_seen 0 f p ∙ live) ∙ write_here)))
            (λ c.
            let n : (f ≡ g) × (p ≡ q) → ⊥ = λ d. true≢false (sym (is_page f p g q d.0 d.1) ∙ c) in
            page_there g q n ∙ a.pages 0 g q refl ∙ sym (ap (write_of number new.versions g q) (over_seen 0 g q) ∙ write_there g q (seen h 0 g q) (λ u e z. n (same_file g q u z))))
            (cases_Bool (same_page f p g q))

    pub over : IsAfter blocks (Wrote f p bytes ∷ cs) new
    over = record {
      size = w.blocks ∙ a.size;
      kept = w.kept ∙ a.kept;
      next = w.next ∙ a.next;
      number = number;
      pages = over_pages;
      each = λ q x. let s = a.each q (sym (over_has q) ∙ x) in record { view = s.view; among = ap (λ ks. is_among ks s.view) w.kept ∙ s.among; found = over_seen s.view q.file q.page ∙ s.found };
      rises = rises (λ u l. over_has (key_of f p u) ∙ false_from_ne_true (has_version h.versions (key_of f p u)) (λ x. let b : u < h.next = k.begun (key_of f p u) x in true≢false (sym x ∙ over_last.none u l b)));
    }

  -- A version begins if the page has none or an image shares the last one.
  module _ (takes_now : t + 1 ≡ h.next) (fresh : has_version h.versions (key_of f p t) ≡ false) (shared : (u : ℕ) → seen h 0 f p ≡ Some u → is_some (first_after h.kept u) ≡ true) where
    not_key : (q : VersionKey) → has_version h.versions q ≡ true → key_of f p t ≡ q → ⊥
    not_key q x e = true≢false (sym x ∙ sym (sym fresh ∙ ap (has_version h.versions) e))

    new_image : (view g q : ℕ) → list_any (λ v. view == v) h.kept ≡ true → seen new view g q ≡ seen h view g q
    new_image view g q m =
        let i = taken_image h k view m in
        let v = take_image h.next view i.some in
        ap (λ n. latest (has_version new.versions) g q (take_of n view)) w.next
        ∙ latest_same (has_version new.versions) (has_version h.versions) g q (take_of h.next view)
        (λ u l. has_there (key_of g q u) (λ z. let n = same_takes g q u z in omega (arith, l, v, i.below, n, takes_now)))

    new_live : (g q : ℕ) → ((f ≡ g) × (p ≡ q) → ⊥) → seen new 0 g q ≡ seen h 0 g q
    new_live g q n =
        ap (latest (has_version new.versions) g q) w.next
        ∙ latest_same (has_version new.versions) (has_version h.versions) g q h.next (λ u l. has_there (key_of g q u) (λ z. n (same_file g q u z)))

    new_here : seen new 0 f p ≡ Some t
    new_here = latest_is (has_version new.versions) f p new.next t (record { below = omega (arith, takes_now, w.next); there = has_here; none = λ u l m. absurd (omega (arith, takes_now, w.next, l, m)) })

    new_pages : (view g q : ℕ) → is_among new.kept view ≡ true → page_of (Wrote f p bytes ∷ cs) view g q ≡ write_of number new.versions g q (seen new view g q)
    new_pages view g q m = ⊎_elim
        (λ e. subst (λ v. page_of (Wrote f p bytes ∷ cs) v g q ≡ write_of number new.versions g q (seen new v g q)) (sym e) (live_page g q))
        (λ j.
        let i = subst (λ ks. list_any (λ v. view == v) ks ≡ true) w.kept j in
        page_image view g q i ∙ a.pages view g q (among_image h.kept view i)
        ∙ sym (ap (write_of number new.versions g q) (new_image view g q i) ∙ write_there g q (seen h view g q) (λ u e. not_key (key_of g q u) (latest_some (has_version h.versions) g q (take_of h.next view) u e).there)))
        (among_cases new.kept view m)
      where
        live_page : (g q : ℕ) → page_of (Wrote f p bytes ∷ cs) 0 g q ≡ write_of number new.versions g q (seen new 0 g q)
        live_page g q = ⊎_elim
            (λ c.
            let d = page_is f p g q c in
            page_here g q d.0 d.1 ∙ sym (subst (λ (r : ℕ × ℕ). write_of number new.versions r.0 r.1 (seen new 0 r.0 r.1) ≡ Some (numbered (length cs) bytes)) (λ i. (d.0 i, d.1 i)) (ap (write_of number new.versions f p) new_here ∙ write_here)))
            (λ c.
            let n : (f ≡ g) × (p ≡ q) → ⊥ = λ d. true≢false (sym (is_page f p g q d.0 d.1) ∙ c) in
            page_there g q n ∙ a.pages 0 g q refl ∙ sym (ap (write_of number new.versions g q) (new_live g q n) ∙ write_there g q (seen h 0 g q) (λ u e z. n (same_file g q u z))))
            (cases_Bool (same_page f p g q))

    -- the version that was live is an image's
    was_live : (q : VersionKey) → (f ≡ q.file) × (p ≡ q.page) → seen h 0 q.file q.page ≡ Some q.takes → IsSeen new q
    was_live q d e =
        let e2 : seen h 0 f p ≡ Some q.takes = subst (λ (r : ℕ × ℕ). seen h 0 r.0 r.1 ≡ Some q.takes) (λ i. (sym d.0 i, sym d.1 i)) e in
        let i = some_there (first_after h.kept q.takes) (shared q.takes e2) in
        let s = first_some h.kept q.takes i.0 k.rising i.1 in
        let g = taken_image h k i.0 s.there in
        let l = latest_some (has_version h.versions) q.file q.page h.next q.takes e in
        let v = take_image h.next i.0 g.some in
        record {
          view = i.0;
          among = ap (λ ks. is_among ks i.0) w.kept ∙ among_image h.kept i.0 s.there;
          found = new_image i.0 q.file q.page s.there
              ∙ latest_is (has_version h.versions) q.file q.page (take_of h.next i.0) q.takes (record { below = omega (arith, v, s.above); there = l.there; none = λ u x y. l.none u x (omega (arith, y, v, g.below)) });
        }

    was_seen : (q : VersionKey) → IsSeen h q → IsSeen new q
    was_seen q s = ⊎_elim
        (λ e.
        let f0 : seen h 0 q.file q.page ≡ Some q.takes = ap (λ v. seen h v q.file q.page) (sym e) ∙ s.found in
        ⊎_elim
        (λ c. was_live q (page_is f p q.file q.page c) f0)
        (λ c.
        let n : (f ≡ q.file) × (p ≡ q.page) → ⊥ = λ d. true≢false (sym (is_page f p q.file q.page d.0 d.1) ∙ c) in
        record { view = 0; among = refl; found = new_live q.file q.page n ∙ f0 })
        (cases_Bool (same_page f p q.file q.page)))
        (λ m. record { view = s.view; among = ap (λ ks. is_among ks s.view) w.kept ∙ among_image h.kept s.view m; found = new_image s.view q.file q.page m ∙ s.found })
        (among_cases h.kept s.view s.among)

    new_each : (q : VersionKey) → has_version new.versions q ≡ true → IsSeen new q
    new_each q x = ⊎_elim
        (λ c. let e = same_true (key_of f p t) q c in subst (IsSeen new) e (record { view = 0; among = refl; found = new_here }))
        (λ c.
        let n : key_of f p t ≡ q → ⊥ = λ z. true≢false (sym (same_from (key_of f p t) q z) ∙ c) in
        was_seen q (a.each q (sym (has_there q n) ∙ x)))
        (cases_Bool (same_key (key_of f p t) q))

    pub begun : IsAfter blocks (Wrote f p bytes ∷ cs) new
    begun = record {
      size = w.blocks ∙ a.size;
      kept = w.kept ∙ a.kept;
      next = w.next ∙ a.next;
      number = number;
      pages = new_pages;
      each = new_each;
      rises = rises (λ u l. has_there (key_of f p u) (λ z. let n = same_takes f p u z in omega (arith, n, l)) ∙ false_from_ne_true (has_version h.versions (key_of f p u)) (λ x. let b : u < h.next = k.begun (key_of f p u) x in omega (arith, b, l, takes_now)));
    }
