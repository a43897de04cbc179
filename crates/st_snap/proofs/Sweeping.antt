-- Versions are gone through from the last one to the first, and those that no view has are taken out.
use Rattle.st_lemmas.proofs.Words
use Words.{◌≡◌, ℕ, suc, ◌+◌, ◌<◌, ◌≤◌, Bool, true, false, cond, List, [], ◌∷◌, length, filter, Option, Some, None, arith, refl, sym, ap, subst, ◌∙◌, ⊎_elim}
use Words.{inl, inr, true≢false, ◌⊎◌, not, is_some, unwrap_or, if◌then◌else◌, ⊤, AllByRecursion, cases_Bool, cases_order, eqb-true, eq-eqb, false_from_ne_true}
use Rattle.std.specs.Cmp.{tied_itself}
use Rattle.std.specs.Ordering.{is_lt}
use Rattle.st_snap.specs.declared.versions.VersionKey.{VersionKey}
use Rattle.st_snap.specs.Versions.{IsLast, IsLastBelow, Versions, has_version, key_of, key_order, latest, same_key, slot_under, version}
use Rattle.st_snap.specs.Volumes.{AreRising, IsSeen, IsTaken, first_after, is_among, is_seen, option_is, take_of}
use Rattle.st_snap.proofs.Counting.{has_slot}
use Rattle.st_snap.proofs.Keys.{Before, before_is, is_before, order_total, same_false, same_self, same_true}
use Rattle.st_snap.proofs.Lists.{first_none, first_some, member_all}
use Rattle.st_snap.proofs.Latest.{latest_is, latest_none, latest_some, none_is}
use Rattle.st_snap.proofs.KeptViews.{among_cases, among_image, take_image, there_if}

-- the version was passed by the cursor
abbrev pub IsBehind : Option VersionKey → VersionKey → Type 0
IsBehind None k = ⊤
IsBehind (Some c) k = is_lt (key_order c k) ≡ true

-- the cursor is at a version
abbrev pub IsThere : Versions → Option VersionKey → Type 0
IsThere v None = ⊤
IsThere v (Some c) = has_version v c ≡ true

-- how many versions the cursor has still to pass
abbrev pub left_before : Option VersionKey → List (VersionKey × ℕ) → ℕ
left_before None es = 0
left_before (Some c) es = length (filter (λ e. not (is_lt (key_order c e.0))) es)

option_found : (n : ℕ) (o : Option ℕ) → option_is n o ≡ true → o ≡ Some n
option_found n None h = absurd (true≢false (sym h))
option_found n (Some m) h = ap Some (eqb-true m n h)

module _ (v : Versions) (kept : List ℕ) (next : ℕ) (r : AreRising kept) (t : AllByRecursion (IsTaken next) kept) (k : VersionKey) where
  first_take : (o : Option ℕ) → first_after kept k.takes ≡ o → latest (has_version v) k.file k.page (unwrap_or o next) ≡ Some k.takes → IsSeen (record { versions = v; kept = kept; next = next }) k
  first_take None e s = record { view = 0; among = refl; found = s }
  first_take (Some i) e s =
      let f = first_some kept k.takes i r e in
      let g : IsTaken next i = member_all (IsTaken next) i kept t f.there in
      record { view = i; among = among_image kept i f.there; found = ap (latest (has_version v) k.file k.page) (take_image next i g.some) ∙ s }

  -- a version that passes is seen
  pub seen_if : is_seen v kept next k ≡ true → IsSeen (record { versions = v; kept = kept; next = next }) k
  seen_if h = first_take (first_after kept k.takes) refl (option_found k.takes (latest (has_version v) k.file k.page (unwrap_or (first_after kept k.takes) next)) h)

  first_seen : (view : ℕ) → is_among kept view ≡ true → latest (has_version v) k.file k.page (take_of next view) ≡ Some k.takes
      → (o : Option ℕ) → first_after kept k.takes ≡ o → latest (has_version v) k.file k.page (unwrap_or o next) ≡ Some k.takes
  first_seen view m s None e = ⊎_elim
      (λ z. ap (λ w. latest (has_version v) k.file k.page (take_of next w)) (sym z) ∙ s)
      (λ j.
      let l = latest_some (has_version v) k.file k.page (take_of next view) k.takes s in
      let g : IsTaken next view = member_all (IsTaken next) view kept t j in
      let low = first_none kept k.takes e view j in
      let w = take_image next view g.some in
      absurd (omega (arith, l.below, w, low)))
      (among_cases kept view m)
  first_seen view m s (Some i) e =
      let f = first_some kept k.takes i r e in
      let g : IsTaken next i = member_all (IsTaken next) i kept t f.there in
      let l = latest_some (has_version v) k.file k.page (take_of next view) k.takes s in
      let low : i ≤ take_of next view = ⊎_elim
      (λ z. let w : take_of next view ≡ next = ap (take_of next) z in omega (arith, w, g.below))
      (λ j.
      let q : IsTaken next view = member_all (IsTaken next) view kept t j in
      let w = take_image next view q.some in
      let b = f.least view j (omega (arith, l.below, w)) in omega (arith, b, w))
      (among_cases kept view m) in
      latest_is (has_version v) k.file k.page i k.takes (record { below = f.above; there = l.there; none = λ u a b. l.none u a (omega (arith, b, low)) })

  -- a version that does not pass is seen in no view
  pub not_seen : is_seen v kept next k ≡ false → (view : ℕ) → is_among kept view ≡ true → latest (has_version v) k.file k.page (take_of next view) ≡ Some k.takes → ⊥
  not_seen h view m s = true≢false (sym (ap (option_is k.takes) (first_seen view m s (first_after kept k.takes) refl) ∙ eq-eqb k.takes k.takes refl) ∙ h)

-- A version is taken out.
module _ (v new : Versions) (k : VersionKey) (gone : (q : VersionKey) → version new q ≡ cond (same_key k q) None (version v q)) where
  pub still : (q : VersionKey) → (k ≡ q → ⊥) → version new q ≡ version v q
  still q n = gone q ∙ ap (λ b. cond b None (version v q)) (same_false k q n)

  pub not_there : has_version new k ≡ false
  not_there = ap is_some (gone k ∙ ap (λ b. cond b None (version v k)) (same_self k))

  pub left : (q : VersionKey) → has_version new q ≡ true → version new q ≡ version v q
  left q h = still q (λ z. true≢false (sym h ∙ sym (sym not_there ∙ ap (has_version new) z)))

  -- what is seen in a view stays if it was not this version
  pub same_latest : (f p n : ℕ) → ((t : ℕ) → latest (has_version v) f p n ≡ Some t → k ≡ key_of f p t → ⊥) → latest (has_version new) f p n ≡ latest (has_version v) f p n
  same_latest f p n other = by (latest (has_version v) f p n) refl
    where
      by : (o : Option ℕ) → latest (has_version v) f p n ≡ o → latest (has_version new) f p n ≡ latest (has_version v) f p n
      by None e = none_is (has_version new) f p n (λ u l. false_from_ne_true (has_version new (key_of f p u)) (λ h.
          true≢false (sym (ap is_some (sym (left (key_of f p u) h)) ∙ h) ∙ latest_none (has_version v) f p n e u l))) ∙ sym e
      by (Some t) e =
          let l = latest_some (has_version v) f p n t e in
          latest_is (has_version new) f p n t (record {
            below = l.below;
            there = ap is_some (still (key_of f p t) (other t e)) ∙ l.there;
            none = λ u a b. false_from_ne_true (has_version new (key_of f p u)) (λ h. true≢false (sym (ap is_some (sym (left (key_of f p u) h)) ∙ h) ∙ l.none u a b));
          }) ∙ sym e

-- The order of keys.

before_cases : (a b : VersionKey) → Before a b ⊎ ((a ≡ b) ⊎ Before b a)
before_cases a b = ⊎_elim
    (λ e. ⊎_elim
    (λ d. ⊎_elim
    (λ g. inr (inl (λ i. record { file = e i; page = d i; takes = g i })))
    (λ g. ⊎_elim (λ l. inl (inr (e, inr (d, l)))) (λ l. inr (inr (inr (sym e, inr (sym d, l))))) g)
    (cases_order a.takes b.takes))
    (λ g. ⊎_elim (λ l. inl (inr (e, inl l))) (λ l. inr (inr (inr (sym e, inl l)))) g)
    (cases_order a.page b.page))
    (λ g. ⊎_elim (λ l. inl (inl l)) (λ l. inr (inr (inl l))) g)
    (cases_order a.file b.file)

less_same : (a b c : ℕ) → a < b → b ≡ c → a < c
less_same a b c l e = omega (arith, l, e)

same_less : (a b c : ℕ) → a ≡ b → b < c → a < c
same_less a b c e l = omega (arith, l, e)

less_less : (a b c : ℕ) → a < b → b < c → a < c
less_less a b c l m = omega (arith, l, m)

before_trans : (a b c : VersionKey) → Before a b → Before b c → Before a c
before_trans a b c x y = ⊎_elim
    (λ l. ⊎_elim (λ m. inl (less_less a.file b.file c.file l m)) (λ m. inl (less_same a.file b.file c.file l m.0)) y)
    (λ d. ⊎_elim
    (λ m. inl (same_less a.file b.file c.file d.0 m))
    (λ m. inr (
      d.0 ∙ m.0,
      ⊎_elim
          (λ l. ⊎_elim (λ n. inl (less_less a.page b.page c.page l n)) (λ n. inl (less_same a.page b.page c.page l n.0)) m.1)
          (λ l. ⊎_elim (λ n. inl (same_less a.page b.page c.page l.0 n)) (λ n. inr (l.0 ∙ n.0, less_less a.takes b.takes c.takes l.1 n.1)) m.1)
          d.1,
    ))
    y)
    x

not_behind : (k q : VersionKey) → k ≡ q → not (is_lt (key_order k q)) ≡ true
not_behind k q z = ap (λ x. not (is_lt (key_order k x))) (sym z) ∙ ap (λ o. not (is_lt o)) (tied_itself order_total k)

-- How many pass two tests.

one_more : (q : VersionKey × ℕ → Bool) (e : VersionKey × ℕ) (es : List (VersionKey × ℕ)) → q e ≡ true → length (filter q (e ∷ es)) ≡ length (filter q es) + 1
one_more q e es t =
    let n : length (filter q (e ∷ es)) ≡ suc (length (filter q es)) = ap (λ b. length (if b then e ∷ filter q es else filter q es)) t in
    omega (arith, n)

none_more : (q : VersionKey × ℕ → Bool) (e : VersionKey × ℕ) (es : List (VersionKey × ℕ)) → q e ≡ false → length (filter q (e ∷ es)) ≡ length (filter q es)
none_more q e es t = ap (λ b. length (if b then e ∷ filter q es else filter q es)) t

stronger_test_passes_fewer : (p q : VersionKey × ℕ → Bool) (es : List (VersionKey × ℕ)) → ((e : VersionKey × ℕ) → p e ≡ true → q e ≡ true) →
    length (filter p es) ≤ length (filter q es)
stronger_test_passes_fewer p q [] h = omega arith
stronger_test_passes_fewer p q (e ∷ es) h =
    let n = stronger_test_passes_fewer p q es h in
    ⊎_elim
    (λ t. let a = one_more p e es t in let c = one_more q e es (h e t) in omega (arith, a, c, n))
    (λ t. let a = none_more p e es t in ⊎_elim (λ u. let c = one_more q e es u in omega (arith, a, c, n)) (λ u. let c = none_more q e es u in omega (arith, a, c, n)) (cases_Bool (q e)))
    (cases_Bool (p e))

fewer_by : (p q : VersionKey × ℕ → Bool) (k : VersionKey) (es : List (VersionKey × ℕ)) → ((e : VersionKey × ℕ) → p e ≡ true → q e ≡ true) → ((e : VersionKey × ℕ) → k ≡ e.0 → (p e ≡ false) × (q e ≡ true))
    → is_some (slot_under es k) ≡ true → length (filter p es) < length (filter q es)
fewer_by p q k [] h d s = absurd (true≢false (sym s))
fewer_by p q k (e ∷ es) h d s = ⊎_elim
    (λ t. let w = d e (same_true k e.0 t) in let a = none_more p e es w.0 in let c = one_more q e es w.1 in let n = stronger_test_passes_fewer p q es h in
    omega (arith, a, c, n))
    (λ t.
    let n = fewer_by p q k es h d (sym (ap (λ b. is_some (cond b (Some e.1) (slot_under es k))) t) ∙ s) in
    ⊎_elim
    (λ u. let a = one_more p e es u in let c = one_more q e es (h e u) in omega (arith, a, c, n))
    (λ u. let a = none_more p e es u in ⊎_elim (λ w. let c = one_more q e es w in omega (arith, a, c, n)) (λ w. let c = none_more q e es w in omega (arith, a, c, n)) (cases_Bool (q e)))
    (cases_Bool (p e)))
    (cases_Bool (same_key k e.0))

-- The cursor goes back.

pub smaller : (old now : Versions) (k : VersionKey) (o : Option VersionKey) → has_version old k ≡ true → IsLastBelow now k o → left_before o old.slots < left_before (Some k) old.slots
smaller old now k None h b =
    let n = fewer_by (λ e. false) (λ e. not (is_lt (key_order k e.0))) k old.slots (λ e t. absurd (true≢false (sym t))) (λ e z. (refl, not_behind k e.0 z)) (has_slot old k h) in
    omega (arith, n)
smaller old now k (Some j) h b = fewer_by (λ e. not (is_lt (key_order j e.0))) (λ e. not (is_lt (key_order k e.0))) k old.slots
    (λ e t. ap not (false_from_ne_true (is_lt (key_order k e.0)) (λ u. true≢false (sym t ∙ ap not (is_before j e.0 (before_trans j k e.0 (before_is j k b.0.below) (before_is k e.0 u)))))))
    (λ e z. (ap not (ap (λ x. is_lt (key_order j x)) (sym z) ∙ b.0.below), not_behind k e.0 z))
    (has_slot old k h)

pub there_below : (now : Versions) (k : VersionKey) (o : Option VersionKey) → IsLastBelow now k o → IsThere now o
there_below now k None b = tt
there_below now k (Some j) b = b.0.there

-- what the cursor has passed
passed_by : (now : Versions) (k : VersionKey) (o : Option VersionKey) → IsLastBelow now k o → (q : VersionKey) → has_version now q ≡ true → IsBehind o q → (k ≡ q) ⊎ (is_lt (key_order k q) ≡ true)
passed_by now k None b q h z = ⊎_elim (λ l. inr (is_before k q l)) (λ c. ⊎_elim (λ e. inl e) (λ l. absurd (b q h (is_before q k l))) c) (before_cases k q)
passed_by now k (Some j) b q h z = ⊎_elim (λ l. inr (is_before k q l)) (λ c. ⊎_elim (λ e. inl e) (λ l. absurd (true≢false (sym z ∙ b.1 q h (is_before q k l)))) c) (before_cases k q)

-- One version is passed.
module _ (now : Versions) (kept : List ℕ) (next : ℕ) (r : AreRising kept) (t : AllByRecursion (IsTaken next) kept) (k : VersionKey)
    (done : (q : VersionKey) → has_version now q ≡ true → is_lt (key_order k q) ≡ true → IsSeen (record { versions = now; kept = kept; next = next }) q) where
  -- it is seen
  pub done_seen : is_seen now kept next k ≡ true → (o : Option VersionKey) → IsLastBelow now k o → (q : VersionKey) → has_version now q ≡ true → IsBehind o q → IsSeen (record { versions = now; kept = kept; next = next }) q
  done_seen s o b q h z = ⊎_elim
      (λ e. subst (λ q. IsSeen (record { versions = now; kept = kept; next = next }) q) e (seen_if now kept next r t k s))
      (λ l. done q h l)
      (passed_by now k o b q h z)

  -- it is taken out
  module _ (new : Versions) (gone : (q : VersionKey) → version new q ≡ cond (same_key k q) None (version now q)) (s : is_seen now kept next k ≡ false) where
    pub same_gone : (view f p : ℕ) → is_among kept view ≡ true → latest (has_version new) f p (take_of next view) ≡ latest (has_version now) f p (take_of next view)
    same_gone view f p m = same_latest now new k gone f p (take_of next view)
        (λ u e z. not_seen now kept next r t k s view m (subst (λ (q : VersionKey). latest (has_version now) q.file q.page (take_of next view) ≡ Some q.takes) (sym z) e))

    pub done_gone : (o : Option VersionKey) → IsLastBelow new k o → (q : VersionKey) → has_version new q ≡ true → IsBehind o q → IsSeen (record { versions = new; kept = kept; next = next }) q
    done_gone o b q h z = ⊎_elim
        (λ e. absurd (true≢false (sym h ∙ sym (sym (not_there now new k gone) ∙ ap (has_version new) e))))
        (λ l.
        let d = done q (there_if now new q (left now new k gone q h) h) l in
        record { view = d.view; among = d.among; found = same_gone d.view q.file q.page d.among ∙ d.found })
        (passed_by new k o b q h z)
