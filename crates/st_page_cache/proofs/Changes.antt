-- What a page cache keeps through each of its changes.
use Rattle.st_lemmas.proofs.Words
use Words.{◌≡◌, ℕ, ◌+◌, ◌<◌, ◌≤◌, ◌⊎◌, Bool, true, false, List, [], ◌∷◌, map, length, if◌then◌else◌, refl, sym, ap, ◌∙◌, subst, inl, inr}
use Words.{arith, find, filter, not, Option, Some, None, ◌&&◌, ◌==◌, list_any, length-map, and_parts, eqb-true, ltb-true, lt-ltb, or_from, PageNo, CleanPage}
use Words.{DirtyPage}
use Words.Lists.{Has}
use Words.Tables.{all_pass, each_passes, none_passes, has_filter, has_map, none_has, found_at, not_true}
use Words.Keys.{put}
use Words.ClientInvariants.{is_only_dirty, has_version}
use Words.ClientPages.{Pages, is_clean_of, is_dirty_of, without_clean, without_dirty, with_newest, new_dirty, fail_of, failed_by, clean_page, dirty_of, harden}
use Words.ClientPages.{harden_at, harden_page}
use Words.Truth.{eqb_turned}
use Words.Members.{has_take}
use Rattle.st_lemmas.proofs.Puts.{has_put}
use Rattle.st_page_cache.specs.Caches.{IsSound, pages_of}
use Rattle.st_page_cache.specs.KeyedPages.{touched}
use Rattle.st_page_cache.proofs.Dropping.{filter_at_most}

-- no clean page of the list is this page
abbrev NoneOf : List CleanPage → DirtyPage → Type 0
NoneOf clean d = (c : CleanPage) → Has c clean → is_clean_of d.ino d.page c ≡ false

none_by : (clean : List CleanPage) (d : DirtyPage) → not (list_any (is_clean_of d.ino d.page) clean) ≡ true → NoneOf clean d
none_by clean d h c m = none_passes (is_clean_of d.ino d.page) clean (not_true (list_any (is_clean_of d.ino d.page) clean) h) c m

by_none : (clean : List CleanPage) (d : DirtyPage) → NoneOf clean d → not (list_any (is_clean_of d.ino d.page) clean) ≡ true
by_none clean d n = ap not (none clean n)
  where
    none : (xs : List CleanPage) → NoneOf xs d → list_any (is_clean_of d.ino d.page) xs ≡ false
    none [] n = refl
    none (x ∷ xs) n = or_from (is_clean_of d.ino d.page x) (list_any (is_clean_of d.ino d.page) xs) (n x (inl refl)) (none xs (λ c m. n c (inr m)))

other_page : (c : CleanPage) (d : DirtyPage) → is_clean_of d.ino d.page c ≡ is_dirty_of c.ino c.page d
other_page c d = λ i. eqb_turned c.ino d.ino i && eqb_turned c.page.0 d.page.0 i

sound_from : (clean : List CleanPage) (dirty : List DirtyPage) (next : ℕ) → ((d : DirtyPage) → Has d dirty → NoneOf clean d) → length dirty ≤ 64 → ((d : DirtyPage) → Has d dirty → d.version < next) → IsSound (pages_of clean dirty next)
sound_from clean dirty next a l v =
    record {
      apart = all_pass (is_only_dirty (pages_of clean dirty next)) dirty (λ d m. by_none clean d (a d m));
      few_dirty = l;
      versions = all_pass (has_version (pages_of clean dirty next)) dirty (λ d m. lt-ltb d.version next (v d m));
    }

-- A list of clean pages and a list of dirty ones.
module _ (clean : List CleanPage) (dirty : List DirtyPage) (next : ℕ) (s : IsSound (pages_of clean dirty next)) where
  apart_each : (d : DirtyPage) → Has d dirty → NoneOf clean d
  apart_each d m = none_by clean d (each_passes (is_only_dirty (pages_of clean dirty next)) dirty s.apart d m)

  version_each : (d : DirtyPage) → Has d dirty → d.version < next
  version_each d m = ltb-true d.version next (each_passes (has_version (pages_of clean dirty next)) dirty s.versions d m)

  -- a page is changed
  module _ (ino : ℕ) (page : PageNo) (bytes : List ℕ) where
    pub sound_written : (new : List DirtyPage) → new ≡ put (is_dirty_of ino page) (new_dirty (pages_of clean dirty next) ino page bytes) dirty → length new ≤ 64 → IsSound (pages_of (without_clean ino page clean) new (next + 1))
    sound_written new e l = sound_from (without_clean ino page clean) new (next + 1) a l v
      where
        page_at : (d : DirtyPage) → Has d new → (d ≡ new_dirty (pages_of clean dirty next) ino page bytes) ⊎ Has d dirty
        page_at d m = has_put (is_dirty_of ino page) (new_dirty (pages_of clean dirty next) ino page bytes) dirty d (subst (λ l. Has d l) e m)

        a_by : (d : DirtyPage) → (d ≡ new_dirty (pages_of clean dirty next) ino page bytes) ⊎ Has d dirty → NoneOf (without_clean ino page clean) d
        a_by d (inl q) c m =
            let f = has_filter (λ c. not (is_clean_of ino page c)) clean c m in
            ap (λ (x : DirtyPage). is_clean_of x.ino x.page c) q ∙ not_true (is_clean_of ino page c) f.1
        a_by d (inr h) c m = apart_each d h c (has_filter (λ c. not (is_clean_of ino page c)) clean c m).0

        a : (d : DirtyPage) → Has d new → NoneOf (without_clean ino page clean) d
        a d m = a_by d (page_at d m)

        v_by : (d : DirtyPage) → (d ≡ new_dirty (pages_of clean dirty next) ino page bytes) ⊎ Has d dirty → d.version < next + 1
        v_by d (inl q) = let w : d.version ≡ next = ap (λ (x : DirtyPage). x.version) q in omega arith
        v_by d (inr h) = let w = version_each d h in omega arith

        v : (d : DirtyPage) → Has d new → d.version < next + 1
        v d m = v_by d (page_at d m)

  -- a page that is not dirty becomes the newest clean one
  pub sound_newest : (c : CleanPage) (new : List DirtyPage) → ((d : DirtyPage) → Has d new → Has d dirty × (is_dirty_of c.ino c.page d ≡ false)) → length new ≤ 64 → IsSound (pages_of (with_newest 256 c clean) new next)
  sound_newest c new f l = sound_from (with_newest 256 c clean) new next a l (λ d m. version_each d (f d m).0)
    where
      a_by : (d : DirtyPage) → Has d new → (e : CleanPage) → (e ≡ c) ⊎ Has e (without_clean c.ino c.page clean) → is_clean_of d.ino d.page e ≡ false
      a_by d m e (inl q) = ap (is_clean_of d.ino d.page) q ∙ other_page c d ∙ (f d m).1
      a_by d m e (inr h) = apart_each d (f d m).0 e (has_filter (λ x. not (is_clean_of c.ino c.page x)) clean e h).0

      a : (d : DirtyPage) → Has d new → NoneOf (with_newest 256 c clean) d
      a d m e h = a_by d m e (has_take 256 (c ∷ without_clean c.ino c.page clean) e h)

  pub sound_filled : (c : CleanPage) → find (is_dirty_of c.ino c.page) dirty ≡ None → IsSound (pages_of (with_newest 256 c clean) dirty next)
  sound_filled c n = sound_newest c dirty (λ d m. (m, none_has (is_dirty_of c.ino c.page) dirty n d m)) s.few_dirty

  pub sound_touched : (p : CleanPage → Bool) (o : Option CleanPage) → find p clean ≡ o → IsSound (pages_of (touched o clean) dirty next)
  sound_touched p None h = s
  sound_touched p (Some c) h = sound_newest c dirty (λ d m. (m, sym (other_page c d) ∙ apart_each d m c (found_at p clean c h).1)) s.few_dirty

  pub sound_hardened : (c : CleanPage) (ino : ℕ) (page : PageNo) → c.ino ≡ ino → c.page ≡ page → IsSound (pages_of (with_newest 256 c clean) (without_dirty ino page dirty) next)
  sound_hardened c ino page i q = sound_newest c (without_dirty ino page dirty) f (let l = filter_at_most (λ d. not (is_dirty_of ino page d)) dirty in let k = s.few_dirty in omega arith)
    where
      f : (d : DirtyPage) → Has d (without_dirty ino page dirty) → Has d dirty × (is_dirty_of c.ino c.page d ≡ false)
      f d m =
          let h = has_filter (λ d. not (is_dirty_of ino page d)) dirty d m in
          (h.0, (λ j. is_dirty_of (i j) (q j) d) ∙ not_true (is_dirty_of ino page d) h.1)

  -- some clean pages go
  pub sound_dropped : (p : CleanPage → Bool) → IsSound (pages_of (filter p clean) dirty next)
  sound_dropped p = sound_from (filter p clean) dirty next (λ d m c h. apart_each d m c (has_filter p clean c h).0) s.few_dirty version_each

  -- a command failed
  module _ (ino : ℕ) (page : PageNo) (command : ℕ) where
    fail_keeps : (d : DirtyPage) (b : Bool) → ((if b then failed_by command d else d).ino ≡ d.ino) × (((if b then failed_by command d else d).page ≡ d.page) × ((if b then failed_by command d else d).version ≡ d.version))
    unfolding failed_by
    fail_keeps d true = (refl, (refl, refl))
    fail_keeps d false = (refl, (refl, refl))

    pub sound_failed : IsSound (pages_of clean (map (fail_of ino page command) dirty) next)
    sound_failed = sound_from clean (map (fail_of ino page command) dirty) next a (let k = s.few_dirty in let m = length-map dirty (fail_of ino page command) in omega arith) v
      where
        a : (d : DirtyPage) → Has d (map (fail_of ino page command) dirty) → NoneOf clean d
        a d m c h =
            let r = has_map (fail_of ino page command) dirty d m in
            let k = fail_keeps r.0 (is_dirty_of ino page r.0) in
            ap (λ (x : DirtyPage). is_clean_of x.ino x.page c) r.2 ∙ (λ j. is_clean_of (k.0 j) (k.1.0 j) c) ∙ apart_each r.0 r.1 c h

        v : (d : DirtyPage) → Has d (map (fail_of ino page command) dirty) → d.version < next
        v d m =
            let r = has_map (fail_of ino page command) dirty d m in
            let k = fail_keeps r.0 (is_dirty_of ino page r.0) in
            let e : d.version ≡ r.0.version = ap (λ (x : DirtyPage). x.version) r.2 ∙ k.1.1 in
            let w = version_each r.0 r.1 in
            omega arith

-- Hardening a page that is dirty.
pub harden_found : (ps : Pages) (ino : ℕ) (page : PageNo) (d : DirtyPage) → dirty_of ps ino page ≡ Some d → harden ps ino page ≡ record ps { clean = with_newest ps.most_clean (clean_page ino page d.bytes) ps.clean; dirty = without_dirty ino page ps.dirty }
unfolding harden harden_at harden_page
harden_found ps ino page d h =
    let p = and_parts (d.ino == ino) (d.page.0 == page.0) (found_at (is_dirty_of ino page) ps.dirty d h).0 in
    let i : d.ino ≡ ino = eqb-true d.ino ino p.0 in
    let q : d.page.0 ≡ page.0 = eqb-true d.page.0 page.0 p.1 in
    ap (harden_at ps) h
    ∙ (λ j. record ps { clean = with_newest ps.most_clean (clean_page (i j) (record { 0 = q j }) d.bytes) ps.clean; dirty = without_dirty (i j) (record { 0 = q j }) ps.dirty })
