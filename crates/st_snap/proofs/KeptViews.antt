-- Views, and what is seen in them, after images are taken and forgotten.
use Rattle.st_lemmas.proofs.Words
use Words.{◌≡◌, ℕ, zero, suc, ◌+◌, ◌<◌, ◌≤◌, Bool, true, false, List, [], ◌∷◌, ◌++◌, Option, Some, None, filter, arith, refl, sym, ap, subst, ◌∙◌, ⊎_elim, inl}
use Words.{inr, true≢false, ◌⊎◌, ◌==◌, is_some, not, list_any, or_cases, or_right, eqb-true, false_from_ne_true}
use Rattle.std.specs.Option.{option_map}
use Rattle.st_snap.specs.declared.versions.VersionKey.{VersionKey}
use Rattle.st_snap.specs.Changes.{Change, Took, Forgot, page_of}
use Rattle.st_snap.specs.Versions.{Versions, has_version, key_of, latest, version}
use Rattle.st_snap.specs.Volumes.{Volume, IsAfter, IsHeld, IsSeen, IsSwept, IsTaken, is_among, numbered, seen, take_of, write_of}
use Rattle.st_snap.proofs.Lists.{any_push, kept_there, member_all, push_keeps}
use Rattle.st_snap.proofs.Latest.{latest_some, none_is}
use Rattle.st_snap.proofs.Pages.{page_over, page_taken}

pub among_cases : (kept : List ℕ) (view : ℕ) → is_among kept view ≡ true → (view ≡ 0) ⊎ (list_any (λ v. view == v) kept ≡ true)
among_cases kept view h = ⊎_elim (λ t. inl (eqb-true view 0 t)) (λ t. inr t) (or_cases (view == 0) (list_any (λ v. view == v) kept) h)

pub among_image : (kept : List ℕ) (view : ℕ) → list_any (λ v. view == v) kept ≡ true → is_among kept view ≡ true
among_image kept view h = or_right (view == 0) (list_any (λ v. view == v) kept) h

pub taken_image : (h : Volume) → IsHeld h → (view : ℕ) → list_any (λ v. view == v) h.kept ≡ true → IsTaken h.next view
taken_image h k view m = member_all (IsTaken h.next) view h.kept k.taken m

pub take_image : (next view : ℕ) → 1 ≤ view → take_of next view ≡ view
take_image next zero l = let no : ⊥ = omega (arith, l) in absurd no
take_image next (suc i) l = refl

has_not : (v : Versions) (next : ℕ) → ((k : VersionKey) → has_version v k ≡ true → k.takes < next) → (f p u : ℕ) → next ≤ u → has_version v (key_of f p u) ≡ false
has_not v next b f p u l = false_from_ne_true (has_version v (key_of f p u)) (λ t. let r : u < next = b (key_of f p u) t in omega (arith, r, l))

-- a take later than all versions
pub latest_past : (v : Versions) (next : ℕ) → ((k : VersionKey) → has_version v k ≡ true → k.takes < next) → (f p : ℕ) → latest (has_version v) f p (next + 1) ≡ latest (has_version v) f p next
latest_past v next b f p = subst (λ n. latest (has_version v) f p n ≡ latest (has_version v) f p next) (one_more next) (by_not (has_version v (key_of f p next)) (has_not v next b f p next (omega arith)))
  where
    one_more : (n : ℕ) → suc n ≡ n + 1
    one_more n = omega arith

    by_not : (c : Bool) → has_version v (key_of f p next) ≡ false → latest (has_version v) f p (suc next) ≡ latest (has_version v) f p next
    by_not c e = rw e refl

-- An image is taken.

module _ (blocks : ℕ) (cs : List Change) (h : Volume) (k : IsHeld h) (a : IsAfter blocks cs h) where
  abbrev with_image : Volume
  with_image = record { versions = h.versions; kept = h.kept ++ h.next ∷ []; next = h.next + 1 }

  -- what is seen in the views that there were
  seen_taken : (view f p : ℕ) → is_among h.kept view ≡ true → seen with_image view f p ≡ seen h view f p
  seen_taken view f p m = ⊎_elim
      (λ e. ap (λ v. seen with_image v f p) e ∙ latest_past h.versions h.next k.begun f p ∙ ap (λ v. seen h v f p) (sym e))
      (λ t. let g = taken_image h k view t in ap (latest (has_version h.versions) f p) (take_image (h.next + 1) view g.some ∙ sym (take_image h.next view g.some)))
      (among_cases h.kept view m)

  pages_taken : (view f p : ℕ) → is_among (h.kept ++ h.next ∷ []) view ≡ true → page_of (Took ∷ cs) view f p ≡ write_of a.number h.versions f p (seen with_image view f p)
  pages_taken view f p m = ⊎_elim
      (λ e. ap (λ v. page_of (Took ∷ cs) v f p) e ∙ a.pages 0 f p refl ∙ ap (write_of a.number h.versions f p) (sym (ap (λ v. seen with_image v f p) e ∙ latest_past h.versions h.next k.begun f p)))
      (λ t. ⊎_elim
      (λ n.
      let g = taken_image h k view n in
      page_over Took cs view f p g.some (omega (arith, g.below, a.next)) ∙ a.pages view f p (among_image h.kept view n) ∙ ap (write_of a.number h.versions f p) (sym (seen_taken view f p (among_image h.kept view n))))
      (λ n.
      page_taken cs view f p (n ∙ a.next) ∙ a.pages 0 f p refl
      ∙ ap (write_of a.number h.versions f p) (ap (latest (has_version h.versions) f p) (sym n ∙ sym (take_image (h.next + 1) view (omega (arith, n, k.some))))))
      (any_push view h.next h.kept t))
      (among_cases (h.kept ++ h.next ∷ []) view m)

  each_taken : (q : VersionKey) → has_version h.versions q ≡ true → IsSeen with_image q
  each_taken q t =
      let s = a.each q t in
      record {
        view = s.view;
        among = ⊎_elim (λ e. ap (is_among (h.kept ++ h.next ∷ [])) e) (λ m. among_image (h.kept ++ h.next ∷ []) s.view (push_keeps s.view h.next h.kept m)) (among_cases h.kept s.view s.among);
        found = seen_taken s.view q.file q.page s.among ∙ s.found;
      }

  pub took : IsAfter blocks (Took ∷ cs) (record { versions = h.versions; kept = h.kept ++ h.next ∷ []; next = h.next + 1 })
  took = record {
    size = a.size;
    kept = (λ i. a.kept i ++ a.next i ∷ []);
    next = ap (λ n. n + 1) a.next;
    number = a.number;
    pages = pages_taken;
    each = each_taken;
    rises = a.rises;
  }

-- An image is forgotten.

-- what has bytes is there
pub there_if : (old new : Versions) (k : VersionKey) → version new k ≡ version old k → has_version new k ≡ true → has_version old k ≡ true
there_if old new k e t = ap is_some (sym e) ∙ t

module _ (blocks : ℕ) (cs : List Change) (h : Volume) (k : IsHeld h) (a : IsAfter blocks cs h) (image : ℕ) (v : Versions) (s : IsSwept h.versions v (filter (λ other. not (image == other)) h.kept) h.next) where
  abbrev left : List ℕ
  left = filter (λ other. not (image == other)) h.kept

  abbrev without : Volume
  without = record { versions = v; kept = left; next = h.next }

  among_before : (view : ℕ) → is_among left view ≡ true → is_among h.kept view ≡ true
  among_before view m = ⊎_elim (λ e. ap (is_among h.kept) e) (λ t. among_image h.kept view (kept_there (λ other. not (image == other)) view h.kept t)) (among_cases left view m)

  write_left : (f p n : ℕ) (o : Option ℕ) → latest (has_version v) f p n ≡ o → write_of a.number v f p o ≡ write_of a.number h.versions f p o
  write_left f p n None e = refl
  write_left f p n (Some t) e =
      let r = latest_some (has_version v) f p n t e in
      ap (option_map (numbered (a.number f p t))) (s.left (key_of f p t) r.there)

  pages_left : (view f p : ℕ) → is_among left view ≡ true → page_of (Forgot image ∷ cs) view f p ≡ write_of a.number v f p (seen without view f p)
  pages_left view f p m =
      let was : page_of cs view f p ≡ write_of a.number h.versions f p (seen h view f p) = a.pages view f p (among_before view m) in
      let same : write_of a.number h.versions f p (seen h view f p) ≡ write_of a.number v f p (seen without view f p) =
      ap (write_of a.number h.versions f p) (sym (s.same view f p m)) ∙ sym (write_left f p (take_of h.next view) (seen without view f p) refl) in
      ⊎_elim
      (λ e. ap (λ w. page_of (Forgot image ∷ cs) w f p) e ∙ ap (λ w. page_of cs w f p) (sym e) ∙ was ∙ same)
      (λ t. let g = taken_image h k view (kept_there (λ other. not (image == other)) view h.kept t) in page_over (Forgot image) cs view f p g.some (omega (arith, g.below, a.next)) ∙ was ∙ same)
      (among_cases left view m)

  pub forgot : IsAfter blocks (Forgot image ∷ cs) (record { versions = v; kept = filter (λ other. not (image == other)) h.kept; next = h.next })
  forgot = record {
    size = s.blocks ∙ a.size;
    kept = ap (filter (λ other. not (image == other))) a.kept;
    next = a.next;
    number = a.number;
    pages = pages_left;
    each = s.each;
    rises = λ f p m n l x y. a.rises f p m n l (there_if h.versions v (key_of f p m) (s.left (key_of f p m) x) x) (there_if h.versions v (key_of f p n) (s.left (key_of f p n) y) y);
  }

-- Nothing was written.
pub started : (v : Versions) (blocks : ℕ) → v.blocks ≡ blocks → ((k : VersionKey) → has_version v k ≡ false) → IsAfter blocks [] (record { versions = v; kept = []; next = 1 })
started v blocks e none = record {
  size = e;
  kept = refl;
  next = refl;
  number = λ f p t. 0;
  pages = λ view f p m. no_page view f p ∙ sym (ap (write_of (λ f p t. 0) v f p) (none_is (has_version v) f p (take_of 1 view) (λ u l. none (key_of f p u))));
  each = λ k t. absurd (true≢false (sym t ∙ none k));
  rises = λ f p s t l x y. absurd (true≢false (sym x ∙ none (key_of f p s)));
}
  where
    no_page : (view f p : ℕ) → page_of [] view f p ≡ None
    no_page zero f p = refl
    no_page (suc i) f p = refl
