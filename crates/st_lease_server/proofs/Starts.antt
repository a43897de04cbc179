-- The set of starts, and what its first one tells.
use Rattle.std.proofs.Common.{◌≡◌, ℕ, suc, ◌+◌, ◌<◌, ◌≤◌, Bool, true, false, cond, List, [], ◌∷◌, filter, length, refl, sym, ap, subst, ◌∙◌, true≢false, arith}
use Rattle.std.specs.Prelude.{◌&&◌, ◌||◌, ◌==◌, ◌↔◌, not, nat_le, nat_lt, IsSome, Option, None}
use Rattle.std.specs.BTreeSet.{BTreeSet, contains}
use Rattle.std.specs.List.{All, list_any}
use Rattle.std.specs.declared.cmp.Ordering.{Ordering}
use Rattle.std.specs.declared.cmp.Ordering.TheVariants.{Less, Equal, Greater}
use Rattle.std.specs.Ordering.{is_eq, is_gt, nat_cmp, ordering_then}
use Rattle.std.proofs.lemmas.Bool.{and_parts, eqb-true, eq-eqb, ne_eqb, leb-false, lt-leb, ltb-true, or_right, or_left}
use Rattle.st_base.specs.declared.ids.ClientId.{ClientId}
use Rattle.st_base.specs.declared.ids.Stamp.{Stamp}
use Rattle.st_rules.specs.declared.authority.Suspect.{Suspect}
use Rattle.st_rules.specs.Authority.{is_over, suspect_placed, with_suspect}
use Rattle.st_lease_server.specs.Starts.{AreStarts, began, is_past, start_of, start_order}

eq_turn : (a b : ℕ) → (a == b) ≡ (b == a)
eq_turn a b = grind arith

by_equal : (a b : ℕ) (e : Bool) → (a == b) ≡ e → is_eq (cond e Equal Greater) ≡ (b == a)
by_equal a b true q = sym q ∙ eq_turn a b
by_equal a b false q = sym q ∙ eq_turn a b

by_less : (a b : ℕ) (l : Bool) → nat_lt a b ≡ l → is_eq (cond l Less (cond (a == b) Equal Greater)) ≡ (b == a)
by_less a b true q = let l = ltb-true a b q in sym (ne_eqb b a (λ (z : b ≡ a). omega (arith, z, l)))
by_less a b false q = by_equal a b (a == b) refl

equal_numbers : (a b : ℕ) → is_eq (nat_cmp a b) ≡ (b == a)
equal_numbers a b = by_less a b (nat_lt a b) refl

then_equal : (o p : Ordering) → is_eq (ordering_then o p) ≡ is_eq o && is_eq p
then_equal Less p = refl
then_equal Equal p = refl
then_equal Greater p = refl

same_start : (k q : Stamp × ClientId) → is_eq (start_order k q) ≡ (q.0.0 == k.0.0) && (q.1.0 == k.1.0)
same_start k q = then_equal (nat_cmp k.0.0 q.0.0) (nat_cmp k.1.0 q.1.0) ∙ (λ i. equal_numbers k.0.0 q.0.0 i && equal_numbers k.1.0 q.1.0 i)

itself : (k : Stamp × ClientId) → is_eq (start_order k k) ≡ true
itself k = same_start k k ∙ (λ i. eq-eqb k.0.0 k.0.0 refl i && eq-eqb k.1.0 k.1.0 refl i)

turned : (k q : Stamp × ClientId) → is_eq (start_order k q) ≡ is_eq (start_order q k)
turned k q = same_start k q ∙ (λ i. eq_turn q.0.0 k.0.0 i && eq_turn q.1.0 k.1.0 i) ∙ sym (same_start q k)

moment_is : (k q : Stamp × ClientId) → is_eq (start_order k q) ≡ true → q.0.0 ≡ k.0.0
moment_is k q e = eqb-true q.0.0 k.0.0 (and_parts (q.0.0 == k.0.0) (q.1.0 == k.1.0) (sym (same_start k q) ∙ e)).0

-- One timer more.

or_swap : (a b d : Bool) → a || (b || d) ≡ b || (a || d)
or_swap true true d = refl
or_swap true false d = refl
or_swap false b d = refl

placed_by : (p : Suspect → Bool) (s t : Suspect) (ts : List Suspect) (b : Bool) → list_any p (with_suspect s ts) ≡ p s || list_any p ts → list_any p (cond b (s ∷ (t ∷ ts)) (t ∷ with_suspect s ts)) ≡ p s || (p t || list_any p ts)
placed_by p s t ts true h = refl
placed_by p s t ts false h = ap (λ z. p t || z) h ∙ or_swap (p t) (p s) (list_any p ts)

any_placed : (p : Suspect → Bool) (s : Suspect) (ts : List Suspect) → list_any p (with_suspect s ts) ≡ p s || list_any p ts
unfolding with_suspect suspect_placed
any_placed p s [] = refl
any_placed p s (t ∷ ts) = placed_by p s t ts (nat_lt s.client.0 t.client.0) (any_placed p s ts)

put_or : (b d : Bool) → cond b true d ≡ b || d
put_or true d = refl
put_or false d = refl

pub starts_put : (timers news : List Suspect) (old new : BTreeSet (Stamp × ClientId)) (s : Suspect) → AreStarts timers old → ((q : Stamp × ClientId) → contains start_order new q ≡ cond (is_eq (start_order (start_of s) q)) true (contains start_order old q))
    → news ≡ with_suspect s timers → AreStarts news new
starts_put timers news old new s h u e = λ k.
    u k ∙ put_or (is_eq (start_order (start_of s) k)) (contains start_order old k) ∙ (λ i. turned (start_of s) k i || h k i) ∙ sym (any_placed (began k) s timers) ∙ ap (list_any (began k)) (sym e)

-- Timers go.

module _ {A : Type 0} (P g : A → Bool) (b : Bool) (h : (x : A) → P x ≡ true → g x ≡ b) where
  and_no : (a : Bool) → a && false ≡ false
  and_no true = refl
  and_no false = refl

  gone : (p d c : Bool) → (p ≡ true → c ≡ b) → cond c (p || (d && b)) (d && b) ≡ (p || d) && b
  gone true d c e = at d c b (e refl)
    where
      at : (d c b : Bool) → c ≡ b → cond c true (d && b) ≡ b
      at d true true q = refl
      at d true false q = absurd (true≢false q)
      at true false true q = refl
      at false false true q = absurd (true≢false (sym q))
      at d false false q = and_no d
  gone false d true e = refl
  gone false d false e = refl

  spread : (x : A) (xs : List A) (c : Bool) → list_any P (cond c (x ∷ xs) xs) ≡ cond c (P x || list_any P xs) (list_any P xs)
  spread x xs true = refl
  spread x xs false = refl

  any_kept : (xs : List A) → list_any P (filter g xs) ≡ list_any P xs && b
  any_kept [] = refl
  any_kept (x ∷ xs) = spread x (filter g xs) (g x) ∙ ap (λ z. cond (g x) (P x || z) z) (any_kept xs) ∙ gone (P x) (list_any P xs) (g x) (h x)

pub starts_left : (wait : ℕ) (now : Stamp) (timers news : List Suspect) (old new : BTreeSet (Stamp × ClientId)) → AreStarts timers old → new.keys ≡ filter (λ q. not (is_past wait now q)) old.keys
    → news ≡ filter (λ t. not (is_over wait now t)) timers → AreStarts news new
starts_left wait now timers news old new h u e = λ k.
    ap (list_any (λ q. is_eq (start_order k q))) u
    ∙ any_kept (λ q. is_eq (start_order k q)) (λ q. not (is_past wait now q)) (not (is_past wait now k)) (λ q p. ap (λ n. not (nat_le (n + wait) now.0)) (moment_is k q p)) old.keys
    ∙ ap (λ b. b && not (is_past wait now k)) (h k)
    ∙ sym (any_kept (began k) (λ t. not (is_over wait now t)) (not (is_past wait now k)) (λ t p. ap (λ n. not (nat_le (n + wait) now.0)) (moment_is k (start_of t) p)) timers)
    ∙ ap (list_any (began k)) (sym e)

-- If the first is not over, none is.

module _ {A : Type 0} where
  some_by : (p : A → Bool) (x : A) (xs : List A) (b : Bool) → p x ≡ b → (list_any p xs ≡ true → (y : A) × (p y ≡ true) × ((w : A → Bool) → w y ≡ true → list_any w xs ≡ true)) → b || list_any p xs ≡ true
      → (y : A) × (p y ≡ true) × ((w : A → Bool) → w y ≡ true → list_any w (x ∷ xs) ≡ true)
  some_by p x xs true q h e = (x, q, λ w t. or_left (w x) (list_any w xs) t)
  some_by p x xs false q h e = let r = h e in (r.0, r.1, λ w t. or_right (w x) (list_any w xs) (r.2 w t))

  some_one : (p : A → Bool) (xs : List A) → list_any p xs ≡ true → (y : A) × (p y ≡ true) × ((w : A → Bool) → w y ≡ true → list_any w xs ≡ true)
  some_one p [] e = absurd (true≢false (sym e))
  some_one p (x ∷ xs) e = some_by p x xs (p x) refl (some_one p xs) e

not_later : (a b x y : ℕ) (e f : Bool) → nat_lt a b ≡ e → (a == b) ≡ f → is_gt (ordering_then (cond e Less (cond f Equal Greater)) (nat_cmp x y)) ≡ false → a ≤ b
not_later a b x y true f p q h = let l = ltb-true a b p in omega (arith, l)
not_later a b x y false true p q h = let l = eqb-true a b q in omega (arith, l)
not_later a b x y false false p q h = absurd (true≢false h)

young_by : (wait : ℕ) (now : Stamp) (x y : Stamp × ClientId) → is_gt (start_order x y) ≡ false → is_past wait now x ≡ false → is_past wait now y ≡ false
young_by wait now x y o f =
    let l : x.0.0 ≤ y.0.0 = not_later x.0.0 y.0.0 x.1.0 y.1.0 (nat_lt x.0.0 y.0.0) (x.0.0 == y.0.0) refl refl o in
    let g : now.0 < x.0.0 + wait = leb-false (x.0.0 + wait) now.0 f in
    lt-leb (y.0.0 + wait) now.0 (omega (arith, l, g))

none_past : (wait : ℕ) (now : Stamp) (x : Stamp × ClientId) (ys : List (Stamp × ClientId)) → All (λ y. is_gt (start_order x y) ≡ false) ys → is_past wait now x ≡ false → list_any (is_past wait now) ys ≡ false
none_past wait now x [] a f = refl
none_past wait now x (y ∷ ys) a f =
    ap (λ b. b || list_any (is_past wait now) ys) (young_by wait now x y (a 0 y (omega arith)) f)
    ∙ none_past wait now x ys (λ i d l. a (suc i) d (omega (arith, l))) f

no_timer : (wait : ℕ) (now : Stamp) (timers : List Suspect) (starts : BTreeSet (Stamp × ClientId)) → AreStarts timers starts → list_any (is_past wait now) starts.keys ≡ false → list_any (is_over wait now) timers ≡ false
no_timer wait now timers starts h e = by (list_any (is_over wait now) timers) refl
  where
    by : (b : Bool) → list_any (is_over wait now) timers ≡ b → b ≡ false
    by true q =
        let y = some_one (is_over wait now) timers q in
        let there : contains start_order starts (start_of y.0) ≡ true = h (start_of y.0) ∙ y.2 (began (start_of y.0)) (itself (start_of y.0)) in
        let x = some_one (λ z. is_eq (start_order (start_of y.0) z)) starts.keys there in
        absurd (true≢false (sym (x.2 (is_past wait now) (ap (λ n. nat_le (n + wait) now.0) (moment_is (start_of y.0) x.0 x.1) ∙ y.1)) ∙ e))
    by false q = refl

pub first_young : (wait : ℕ) (now : Stamp) (timers : List Suspect) (starts : BTreeSet (Stamp × ClientId)) (x : Stamp × ClientId) → AreStarts timers starts → All (λ y. is_gt (start_order x y) ≡ false) starts.keys → is_past wait now x ≡ false
    → list_any (is_over wait now) timers ≡ false
first_young wait now timers starts x h a f = no_timer wait now timers starts h (none_past wait now x starts.keys a f)

pub no_starts : (wait : ℕ) (now : Stamp) (timers : List Suspect) (starts : BTreeSet (Stamp × ClientId)) → AreStarts timers starts → starts.keys ≡ [] → list_any (is_over wait now) timers ≡ false
no_starts wait now timers starts h e = no_timer wait now timers starts h (ap (list_any (is_past wait now)) e)

-- If no timer is over, none goes and none is reported.

keep_by : (p : Suspect → Bool) (t : Suspect) (ts : List Suspect) (b : Bool) → (list_any p ts ≡ false → (filter p ts ≡ []) × (filter (λ s. not (p s)) ts ≡ ts)) → b || list_any p ts ≡ false
    → (cond b (t ∷ filter p ts) (filter p ts) ≡ []) × (cond (not b) (t ∷ filter (λ s. not (p s)) ts) (filter (λ s. not (p s)) ts) ≡ t ∷ ts)
keep_by p t ts true h e = absurd (true≢false e)
keep_by p t ts false h e = let r = h e in (r.0, ap (λ l. t ∷ l) r.1)

pub none_over : (p : Suspect → Bool) (ts : List Suspect) → list_any p ts ≡ false → (filter p ts ≡ []) × (filter (λ s. not (p s)) ts ≡ ts)
none_over p [] e = (refl, refl)
none_over p (t ∷ ts) e = keep_by p t ts (p t) (none_over p ts) e

-- without a first one there is none
pub no_first : {A : Type 0} (o : Option A) (ks : List (Stamp × ClientId)) → (IsSome o ↔ (0 < length ks)) → o ≡ None → ks ≡ []
no_first o [] v e = refl
no_first o (k ∷ ks) v e = absurd (true≢false (sym (subst IsSome e (v.1 (omega arith)))))
