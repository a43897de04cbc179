-- Versions with their slots, and look-ups among them.
use Rattle.st_lemmas.proofs.Words
use Words.{◌≡◌, ℕ, ◌+◌, Bool, true, false, cond, List, length, Option, Some, None, arith, refl, sym, ap, ◌∙◌, ⊎_elim, inl, inr, true≢false, ◌==◌, is_some}
use Words.{cases_Bool, eqb-true, eq-eqb, ne_eqb, false_from_ne_true}
use Rattle.std.specs.Prelude.{IsSome}
use Rattle.std.specs.Map.{keys_of}
use Rattle.std.specs.List.Sorted.{IsStrictlySortedBy}
use Rattle.std.specs.declared.cmp.Ordering.{Ordering}
use Rattle.std.specs.declared.cmp.Ordering.TheVariants.{Less, Equal, Greater}
use Rattle.std.specs.Ordering.{is_lt}
use Rattle.std.proofs.lemmas.Option.{none-some, same_Some}
use Rattle.st_snap.specs.declared.versions.VersionKey.{VersionKey}
use Rattle.st_snap.specs.Slots.{slot_at}
use Rattle.st_snap.specs.Versions.{AreVersions, IsLastBelow, Versions, has_version, key_of, key_order, latest, page_in, same_key, slot_under, version}
use Rattle.st_snap.proofs.Keys.{before_is, is_before, not_before, same_from, same_true}
use Rattle.st_snap.proofs.Latest.{latest_is, none_is}
use Rattle.st_snap.proofs.Counting.{has_slot, slot_has}

less_from : (o : Ordering) → is_lt o ≡ true → o ≡ Less
less_from Less h = refl
less_from Equal h = absurd (true≢false (sym h))
less_from Greater h = absurd (true≢false (sym h))

some_fact : {A : Type 0} (o : Option A) → is_some o ≡ true → IsSome o
some_fact None h = absurd (true≢false (sym h))
some_fact (Some x) h = refl

-- The last version below a key.

pub below_some : (v : Versions) → AreVersions v → (bound k : VersionKey) (s : ℕ) → key_order k bound ≡ Less → slot_under v.slots k ≡ Some s
    → ((q : VersionKey) → key_order q bound ≡ Less → IsSome (slot_under v.slots q) → is_lt (key_order k q) ≡ false) → IsLastBelow v bound (Some k)
below_some v a bound k s l e last = (record { there = slot_has v a k (ap is_some e); below = ap is_lt l }, λ q h m. last q (less_from (key_order q bound) m) (some_fact (slot_under v.slots q) (has_slot v q h)))

pub below_none : (v : Versions) (bound : VersionKey) → ((q : VersionKey) → key_order q bound ≡ Less → slot_under v.slots q ≡ None) → IsLastBelow v bound None
below_none v bound none = λ q h m. true≢false (sym (has_slot v q h) ∙ ap is_some (none q (less_from (key_order q bound) m)))

-- The last version of a page.

pub latest_here : (v : Versions) (f p take : ℕ) (k : VersionKey) → IsLastBelow v (key_of f p take) (Some k) → k.file ≡ f → k.page ≡ p → latest (has_version v) f p take ≡ Some k.takes
latest_here v f p take k b x y =
    let same : key_of f p k.takes ≡ k = (λ i. record { file = sym x i; page = sym y i; takes = k.takes }) in
    latest_is (has_version v) f p take k.takes (record {
      below = ⊎_elim (λ l. absurd (omega (arith, l, x))) (λ e. ⊎_elim (λ l. absurd (omega (arith, l, y))) (λ d. d.1) e.1) (before_is k (key_of f p take) b.0.below);
      there = ap (has_version v) same ∙ b.0.there;
      none = λ u l m. false_from_ne_true (has_version v (key_of f p u)) (λ t.
          not_before k (key_of f p u) (b.1 (key_of f p u) t (is_before (key_of f p u) (key_of f p take) (inr (refl, inr (refl, m))))) (inr (x, inr (y, l))));
    })

pub latest_other : (v : Versions) (f p take : ℕ) (k : VersionKey) → IsLastBelow v (key_of f p take) (Some k) → ((k.file ≡ f) × (k.page ≡ p) → ⊥) → latest (has_version v) f p take ≡ None
latest_other v f p take k b n = none_is (has_version v) f p take (λ u m. false_from_ne_true (has_version v (key_of f p u)) (λ t.
    not_before k (key_of f p u) (b.1 (key_of f p u) t (is_before (key_of f p u) (key_of f p take) (inr (refl, inr (refl, m)))))
    (⊎_elim (λ l. inl l) (λ e. ⊎_elim (λ l. inr (e.0, inl l)) (λ d. absurd (n (e.0, d.0))) e.1) (before_is k (key_of f p take) b.0.below))))

pub latest_nothing : (v : Versions) (f p take : ℕ) → IsLastBelow v (key_of f p take) None → latest (has_version v) f p take ≡ None
latest_nothing v f p take b = none_is (has_version v) f p take (λ u m. false_from_ne_true (has_version v (key_of f p u)) (λ t. b (key_of f p u) t (is_before (key_of f p u) (key_of f p take) (inr (refl, inr (refl, m))))))

-- Changes.

module _ (v : Versions) (a : AreVersions v) (k : VersionKey) (s : ℕ) where
  same_slot : (q : VersionKey) (t : ℕ) → slot_under v.slots k ≡ Some s → slot_under v.slots q ≡ Some t → (s == t) ≡ same_key k q
  same_slot q t e f = ⊎_elim
      (λ c. c ∙ sym (same_from k q (a.apart k q t (e ∙ ap Some (eqb-true s t c)) f)))
      (λ c. c ∙ sym (false_from_ne_true (same_key k q) (λ d. true≢false (sym (eq-eqb s t (same_Some s t (sym e ∙ ap (slot_under v.slots) (same_true k q d) ∙ f))) ∙ c))))
      (cases_Bool (s == t))

  -- the bytes of one version are new, or gone
  pub slot_changed : (o : Option (List ℕ)) (pages : List (ℕ × List ℕ)) → slot_under v.slots k ≡ Some s → ((t : ℕ) → slot_at pages t ≡ cond (s == t) o (slot_at v.pages t))
      → (q : VersionKey) → page_in pages (slot_under v.slots q) ≡ cond (same_key k q) o (version v q)
  slot_changed o pages e w q = by (slot_under v.slots q) refl
    where
      by : (r : Option ℕ) → slot_under v.slots q ≡ r → page_in pages r ≡ cond (same_key k q) o (page_in v.pages r)
      by None f =
          let n : same_key k q ≡ false = false_from_ne_true (same_key k q) (λ d. none-some s (sym f ∙ ap (slot_under v.slots) (sym (same_true k q d)) ∙ e)) in
          ap (λ b. cond b o None) (sym n)
      by (Some t) f = w t ∙ ap (λ b. cond b o (slot_at v.pages t)) (same_slot q t e f)

  pub set_kept : (b : List ℕ) (pages : List (ℕ × List ℕ)) → ((t : ℕ) → slot_at pages t ≡ cond (s == t) (Some b) (slot_at v.pages t)) → length pages ≡ length v.pages
      → AreVersions (record { slots = v.slots; pages = pages; blocks = v.blocks })
  set_kept b pages w l = record {
    ordered = a.ordered;
    held = λ q t e. ap is_some (w t) ∙ choose (s == t) (slot_at v.pages t) (a.held q t e);
    apart = a.apart;
    counted = a.counted ∙ sym l;
  }
    where
      choose : (c : Bool) (o : Option (List ℕ)) → is_some o ≡ true → is_some (cond c (Some b) o) ≡ true
      choose true o h = refl
      choose false o h = h

  -- a version with a slot of its own
  pub version_added : (b : List ℕ) (slots : List (VersionKey × ℕ)) (pages : List (ℕ × List ℕ)) → slot_at v.pages s ≡ None
      → ((q : VersionKey) → slot_under slots q ≡ cond (same_key k q) (Some s) (slot_under v.slots q)) → ((t : ℕ) → slot_at pages t ≡ cond (s == t) (Some b) (slot_at v.pages t))
      → (q : VersionKey) → page_in pages (slot_under slots q) ≡ cond (same_key k q) (Some b) (version v q)
  version_added b slots pages fresh x w q = ap (page_in pages) (x q) ∙ by (same_key k q) (slot_under v.slots q) refl
    where
      by : (c : Bool) (o : Option ℕ) → slot_under v.slots q ≡ o → page_in pages (cond c (Some s) o) ≡ cond c (Some b) (page_in v.pages o)
      by true o f = w s ∙ ap (λ c. cond c (Some b) (slot_at v.pages s)) (eq-eqb s s refl)
      by false None f = refl
      by false (Some t) f = w t ∙ ap (λ c. cond c (Some b) (slot_at v.pages t)) (ne_eqb s t (λ z. true≢false (sym (a.held q t f) ∙ ap is_some (ap (slot_at v.pages) (sym z) ∙ fresh))))

  pub add_kept : (b : List ℕ) (slots : List (VersionKey × ℕ)) (pages : List (ℕ × List ℕ)) → slot_at v.pages s ≡ None
      → ((q : VersionKey) → slot_under slots q ≡ cond (same_key k q) (Some s) (slot_under v.slots q)) → ((t : ℕ) → slot_at pages t ≡ cond (s == t) (Some b) (slot_at v.pages t))
      → IsStrictlySortedBy key_order (keys_of slots) → length slots ≡ length v.slots + 1 → length pages ≡ length v.pages + 1
      → AreVersions (record { slots = slots; pages = pages; blocks = v.blocks })
  add_kept b slots pages fresh x w o l m = record {
    ordered = o;
    held = λ q t e. ap is_some (w t) ∙ held (same_key k q) q t (sym (x q) ∙ e) refl;
    apart = λ i j t e f. apart (same_key k i) (same_key k j) i j t (sym (x i) ∙ e) (sym (x j) ∙ f) refl refl;
    counted = let n = a.counted in omega (arith, l, m, n);
  }
    where
      not_fresh : (q : VersionKey) (t : ℕ) → slot_under v.slots q ≡ Some t → s ≡ t → ⊥
      not_fresh q t f z = true≢false (sym (a.held q t f) ∙ ap is_some (ap (slot_at v.pages) (sym z) ∙ fresh))

      held : (c : Bool) (q : VersionKey) (t : ℕ) → cond c (Some s) (slot_under v.slots q) ≡ Some t → same_key k q ≡ c → is_some (cond (s == t) (Some b) (slot_at v.pages t)) ≡ true
      held true q t e d = ap (λ c. is_some (cond c (Some b) (slot_at v.pages t))) (eq-eqb s t (same_Some s t e))
      held false q t e d = ap (λ c. is_some (cond c (Some b) (slot_at v.pages t))) (ne_eqb s t (not_fresh q t e)) ∙ a.held q t e

      apart : (c d : Bool) (i j : VersionKey) (t : ℕ) → cond c (Some s) (slot_under v.slots i) ≡ Some t → cond d (Some s) (slot_under v.slots j) ≡ Some t → same_key k i ≡ c → same_key k j ≡ d → i ≡ j
      apart true true i j t e f y z = sym (same_true k i y) ∙ same_true k j z
      apart true false i j t e f y z = absurd (not_fresh j t f (same_Some s t e))
      apart false true i j t e f y z = absurd (not_fresh i t e (same_Some s t f))
      apart false false i j t e f y z = a.apart i j t e f

  -- a slot that was given and is gone again
  pub version_undone : (b : List ℕ) (added left : List (ℕ × List ℕ)) → slot_at v.pages s ≡ None
      → ((t : ℕ) → slot_at added t ≡ cond (s == t) (Some b) (slot_at v.pages t)) → ((t : ℕ) → slot_at left t ≡ cond (s == t) None (slot_at added t))
      → (q : VersionKey) → page_in left (slot_under v.slots q) ≡ version v q
  version_undone b added left fresh w x q = by (slot_under v.slots q) refl
    where
      by : (o : Option ℕ) → slot_under v.slots q ≡ o → page_in left o ≡ page_in v.pages o
      by None f = refl
      by (Some t) f =
          let n : (s == t) ≡ false = ne_eqb s t (λ z. true≢false (sym (a.held q t f) ∙ ap is_some (ap (slot_at v.pages) (sym z) ∙ fresh))) in
          x t ∙ ap (λ c. cond c None (slot_at added t)) n ∙ w t ∙ ap (λ c. cond c (Some b) (slot_at v.pages t)) n

  -- a version is gone, with its slot
  pub version_gone : (slots : List (VersionKey × ℕ)) (pages : List (ℕ × List ℕ)) → slot_under v.slots k ≡ Some s
      → ((q : VersionKey) → slot_under slots q ≡ cond (same_key k q) None (slot_under v.slots q)) → ((t : ℕ) → slot_at pages t ≡ cond (s == t) None (slot_at v.pages t))
      → (q : VersionKey) → page_in pages (slot_under slots q) ≡ cond (same_key k q) None (version v q)
  version_gone slots pages e x w q = ap (page_in pages) (x q) ∙ by (same_key k q) refl (slot_under v.slots q) refl
    where
      by : (c : Bool) → same_key k q ≡ c → (o : Option ℕ) → slot_under v.slots q ≡ o → page_in pages (cond c None o) ≡ cond c None (page_in v.pages o)
      by true d o f = refl
      by false d None f = refl
      by false d (Some t) f = w t ∙ ap (λ c. cond c None (slot_at v.pages t)) (same_slot q t e f ∙ d)

  pub remove_kept : (slots : List (VersionKey × ℕ)) (pages : List (ℕ × List ℕ)) → slot_under v.slots k ≡ Some s
      → ((q : VersionKey) → slot_under slots q ≡ cond (same_key k q) None (slot_under v.slots q)) → ((t : ℕ) → slot_at pages t ≡ cond (s == t) None (slot_at v.pages t))
      → IsStrictlySortedBy key_order (keys_of slots) → length slots + 1 ≡ length v.slots → length pages + 1 ≡ length v.pages
      → AreVersions (record { slots = slots; pages = pages; blocks = v.blocks })
  remove_kept slots pages e x w o l m = record {
    ordered = o;
    held = λ q t f. ap is_some (w t) ∙ held (same_key k q) q t (sym (x q) ∙ f) refl;
    apart = λ i j t f g. a.apart i j t (was (same_key k i) i t (sym (x i) ∙ f)) (was (same_key k j) j t (sym (x j) ∙ g));
    counted = let n = a.counted in omega (arith, l, m, n);
  }
    where
      was : (c : Bool) (q : VersionKey) (t : ℕ) → cond c None (slot_under v.slots q) ≡ Some t → slot_under v.slots q ≡ Some t
      was true q t f = absurd (none-some t f)
      was false q t f = f

      held : (c : Bool) (q : VersionKey) (t : ℕ) → cond c None (slot_under v.slots q) ≡ Some t → same_key k q ≡ c → is_some (cond (s == t) None (slot_at v.pages t)) ≡ true
      held true q t f d = absurd (none-some t f)
      held false q t f d = ap (λ c. is_some (cond c None (slot_at v.pages t))) (same_slot q t e f ∙ d) ∙ a.held q t f
