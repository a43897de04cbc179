-- The set of waiting demands after each change of the rows.
use Rattle.std.proofs.Common.{◌≡◌, ℕ, Bool, true, false, cond, if◌then◌else◌, List, [], ◌∷◌, map, filter, refl, sym, ap, ◌∙◌, ⊎_elim, true≢false}
use Rattle.std.specs.Prelude.{find, not, Option, Some, None, IfSome, ◌==◌, ◌&&◌, ◌||◌}
use Rattle.std.specs.BTreeSet.{BTreeSet, contains}
use Rattle.std.specs.Option.{option_map}
use Rattle.std.proofs.lemmas.Bool.{cases_Bool, and_parts, eqb-true, eq-eqb, not-true, not-false}
use Rattle.st_base.specs.declared.ids.ClientId.{ClientId}
use Rattle.st_base.specs.declared.ids.Stamp.{Stamp}
use Rattle.st_rules.specs.Keys.{same_client, put}
use Rattle.st_rules.specs.Locks.{is_row_of, is_row_by, with_row, without_row}
use Rattle.st_rules.specs.declared.locks.LockRow.{LockRow}
use Rattle.st_lock_tables.specs.DemandStarts.{AreListed, KeepsSince, is_since, since_of, since_of_demand, wait_order}

module _ {A : Type 0} where
  same_by : (p q : A → Bool) (x y : A) (xs : List A) (b : Bool) → p y ≡ b → p x ≡ true → (find p xs ≡ find p xs) → find p (put p x xs) ≡ Some x → find p (if b then x ∷ xs else y ∷ put p x xs) ≡ Some x
  same_by p q x y xs true e t h r = ap (λ b. cond b (Some x) (find p xs)) t
  same_by p q x y xs false e t h r = ap (λ b. cond b (Some y) (find p (put p x xs))) e ∙ r

  pub find_put_same : (p : A → Bool) (x : A) (xs : List A) → p x ≡ true → find p (put p x xs) ≡ Some x
  unfolding put
  find_put_same p x [] t = ap (λ b. cond b (Some x) None) t
  find_put_same p x (y ∷ ys) t = same_by p p x y ys (p y) refl t refl (find_put_same p x ys t)

  other_by : (p q : A → Bool) (x y : A) (xs : List A) (b : Bool) → (b ≡ true → p y ≡ false) → p x ≡ false → find p (put q x xs) ≡ find p xs → find p (if b then x ∷ xs else y ∷ put q x xs) ≡ cond (p y) (Some y) (find p xs)
  other_by p q x y xs true h f r = ap (λ b. cond b (Some x) (find p xs)) f ∙ ap (λ b. cond b (Some y) (find p xs)) (sym (h refl))
  other_by p q x y xs false h f r = ap (cond (p y) (Some y)) r

  pub find_put_other : (p q : A → Bool) (x : A) (xs : List A) → ((y : A) → q y ≡ true → p y ≡ false) → p x ≡ false → find p (put q x xs) ≡ find p xs
  unfolding put
  find_put_other p q x [] h f = ap (λ b. cond b (Some x) None) f
  find_put_other p q x (y ∷ ys) h f = other_by p q x y ys (q y) (h y) f (find_put_other p q x ys h f)

  gone_by : (p : A → Bool) (y : A) (xs : List A) (b : Bool) → (b ≡ false → p y ≡ false) → find p (cond b (y ∷ xs) xs) ≡ cond (p y) (Some y) (find p xs)
  gone_by p y xs true h = refl
  gone_by p y xs false h = ap (λ b. cond b (Some y) (find p xs)) (sym (h refl))

  pub find_filter_other : (p q : A → Bool) (xs : List A) → ((y : A) → q y ≡ true → p y ≡ false) → find p (filter (λ y. not (q y)) xs) ≡ find p xs
  find_filter_other p q [] h = refl
  find_filter_other p q (y ∷ ys) h = gone_by p y (filter (λ z. not (q z)) ys) (not (q y)) (λ e. h y (not-false (q y) e)) ∙
      ap (cond (p y) (Some y)) (find_filter_other p q ys h)

  none_by : (p : A → Bool) (y : A) (xs : List A) (b : Bool) → (b ≡ true → p y ≡ false) → find p xs ≡ None → find p (cond b (y ∷ xs) xs) ≡ None
  none_by p y xs true h e = ap (λ b. cond b (Some y) (find p xs)) (h refl) ∙ e
  none_by p y xs false h e = e

  pub find_filter_none : (p q : A → Bool) (xs : List A) → ((y : A) → p y ≡ true → q y ≡ true) → find p (filter (λ y. not (q y)) xs) ≡ None
  find_filter_none p q [] h = refl
  find_filter_none p q (y ∷ ys) h =
      none_by p y (filter (λ z. not (q z)) ys) (not (q y)) (λ e. ⊎_elim (λ t. absurd (true≢false (sym (h y t) ∙ not-true (q y) e))) (λ f. f) (cases_Bool (p y)))
      (find_filter_none p q ys h)

  changed_by : (p q : A → Bool) (x y : A) (xs ys : List A) (b : Bool) → (b ≡ true → p y ≡ false) → p x ≡ false → find p xs ≡ find p ys → find p ((if b then x else y) ∷ xs) ≡ cond (p y) (Some y) (find p ys)
  changed_by p q x y xs ys true h f e = ap (λ b. cond b (Some x) (find p xs)) f ∙ e ∙ ap (λ b. cond b (Some y) (find p ys)) (sym (h refl))
  changed_by p q x y xs ys false h f e = ap (cond (p y) (Some y)) e

  pub find_map_other : (p q : A → Bool) (x : A) (xs : List A) → ((y : A) → q y ≡ true → p y ≡ false) → p x ≡ false → find p (map (λ r. if q r then x else r) xs) ≡ find p xs
  find_map_other p q x [] h f = refl
  find_map_other p q x (y ∷ ys) h f = changed_by p q x y (map (λ r. if q r then x else r) ys) ys (q y) (h y) f (find_map_other p q x ys h f)

  map_by : (p : A → Bool) (x y : A) (xs ys : List A) (b : Bool) → p y ≡ b → p x ≡ true → find p xs ≡ option_map (λ _. x) (find p ys) → find p ((if b then x else y) ∷ xs) ≡ option_map (λ _. x) (cond b (Some y) (find p ys))
  map_by p x y xs ys true e t h = ap (λ b. cond b (Some x) (find p xs)) t
  map_by p x y xs ys false e t h = ap (λ b. cond b (Some y) (find p xs)) e ∙ h

  pub find_map_same : (p : A → Bool) (x : A) (xs : List A) → p x ≡ true → find p (map (λ r. if p r then x else r) xs) ≡ option_map (λ _. x) (find p xs)
  find_map_same p x [] t = refl
  find_map_same p x (y ∷ ys) t = map_by p x y (map (λ r. if p r then x else r) ys) ys (p y) refl t (find_map_same p x ys t)

-- one client and file
abbrev pub is_key : ClientId → ℕ → ClientId → ℕ → Bool
is_key d j c i = same_client c d && (i == j)

pub own : (r : LockRow) → is_row_of r.client r.ino r ≡ true
own r = λ i. eq-eqb r.client.0 r.client.0 refl i && eq-eqb r.ino r.ino refl i

one_key : (d : ClientId) (j : ℕ) (c : ClientId) (i : ℕ) → is_key d j c i ≡ true → (y : LockRow) → is_row_of d j y ≡ is_row_of c i y
one_key d j c i e y =
    let a = and_parts (same_client c d) (i == j) e in
    let p : c.0 ≡ d.0 = eqb-true c.0 d.0 a.0 in
    let q : i ≡ j = eqb-true i j a.1 in
    λ k. (y.client.0 == sym p k) && (y.ino == sym q k)

pub other_key : (d : ClientId) (j : ℕ) (c : ClientId) (i : ℕ) → is_key d j c i ≡ false → (y : LockRow) → is_row_of d j y ≡ true → is_row_of c i y ≡ false
other_key d j c i e y t =
    ⊎_elim
    (λ h.
    let a = and_parts (same_client y.client d) (y.ino == j) t in
    let b = and_parts (same_client y.client c) (y.ino == i) h in
    let p : c.0 ≡ d.0 = sym (eqb-true y.client.0 c.0 b.0) ∙ eqb-true y.client.0 d.0 a.0 in
    let q : i ≡ j = sym (eqb-true y.ino i b.1) ∙ eqb-true y.ino j a.1 in
    absurd (true≢false (sym (λ k. eq-eqb c.0 d.0 p k && eq-eqb i j q k) ∙ e)))
    (λ h. h)
    (cases_Bool (is_row_of c i y))

find_tests : {A : Type 0} (p q : A → Bool) (xs : List A) → ((x : A) → p x ≡ q x) → find p xs ≡ find q xs
find_tests p q [] h = refl
find_tests p q (x ∷ xs) h = λ i. cond (h x i) (Some x) (find_tests p q xs h i)

gone : (b : Bool) → false ≡ b && not (b && true)
gone true = refl
gone false = refl

stays : (d b : Bool) → d ≡ d && not (b && false)
stays true true = refl
stays true false = refl
stays false b = refl

-- what a change of one row leaves of the set
pub listed_after : (rows news : List LockRow) (set next : BTreeSet (Stamp × ℕ × ClientId)) (d : ClientId) (j : ℕ) (old : Option Stamp) → AreListed rows set → old ≡ since_of (find (is_row_of d j) rows)
    → ((s : Stamp) (i : ℕ) (c : ClientId) → contains wait_order next (s, i, c) ≡ contains wait_order set (s, i, c) && not (is_since s old && is_key d j c i))
    → ((c : ClientId) (i : ℕ) → is_key d j c i ≡ false → find (is_row_of c i) news ≡ find (is_row_of c i) rows) → since_of (find (is_row_of d j) news) ≡ None → AreListed news next
listed_after rows news set next d j old l o u others here = λ s i c.
    ⊎_elim
    (λ e.
    let a : contains wait_order set (s, i, c) ≡ is_since s old = l s i c ∙ ap (λ r. is_since s (since_of r)) (find_tests (is_row_of c i) (is_row_of d j) rows (λ y. sym (one_key d j c i e y))) ∙ ap (is_since s) (sym o) in
    u s i c ∙ (λ k. a k && not (is_since s old && e k)) ∙ sym (gone (is_since s old)) ∙ ap (is_since s) (sym here) ∙ ap (λ r. is_since s (since_of r)) (find_tests (is_row_of d j) (is_row_of c i) news (one_key d j c i e)))
    (λ e.
    u s i c ∙ ap (λ b. contains wait_order set (s, i, c) && not (is_since s old && b)) e ∙ sym (stays (contains wait_order set (s, i, c)) (is_since s old))
    ∙ l s i c ∙ ap (λ r. is_since s (since_of r)) (sym (others c i e)))
    (cases_Bool (is_key d j c i))

fresh : (r : LockRow) → r.demand ≡ None → since_of (Some r) ≡ None
fresh r e = ap since_of_demand e

pub listed_put : (row : LockRow) (rows : List LockRow) (set next : BTreeSet (Stamp × ℕ × ClientId)) (old : Option Stamp) → AreListed rows set → old ≡ since_of (find (is_row_of row.client row.ino) rows) → row.demand ≡ None
    → ((s : Stamp) (i : ℕ) (c : ClientId) → contains wait_order next (s, i, c) ≡ contains wait_order set (s, i, c) && not (is_since s old && is_key row.client row.ino c i)) → AreListed (with_row row rows) next
listed_put row rows set next old l o f u =
    listed_after rows (with_row row rows) set next row.client row.ino old l o u
    (λ c i e. find_put_other (is_row_of c i) (is_row_of row.client row.ino) row rows (other_key row.client row.ino c i e) (other_key row.client row.ino c i e row (own row)))
    (ap since_of (find_put_same (is_row_of row.client row.ino) row rows (own row)) ∙ fresh row f)

pub listed_gone : (d : ClientId) (j : ℕ) (rows : List LockRow) (set next : BTreeSet (Stamp × ℕ × ClientId)) (old : Option Stamp) → AreListed rows set → old ≡ since_of (find (is_row_of d j) rows)
    → ((s : Stamp) (i : ℕ) (c : ClientId) → contains wait_order next (s, i, c) ≡ contains wait_order set (s, i, c) && not (is_since s old && is_key d j c i)) → AreListed (without_row d j rows) next
listed_gone d j rows set next old l o u =
    listed_after rows (without_row d j rows) set next d j old l o u
    (λ c i e. find_filter_other (is_row_of c i) (is_row_of d j) rows (other_key d j c i e))
    (ap since_of (find_filter_none (is_row_of d j) (is_row_of d j) rows (λ y h. h)))

mapped : (o : Option LockRow) (row : LockRow) → since_of (Some row) ≡ None → since_of (option_map (λ _. row) o) ≡ None
mapped None row e = refl
mapped (Some r) row e = e

pub listed_changed : (row : LockRow) (rows : List LockRow) (set next : BTreeSet (Stamp × ℕ × ClientId)) (old : Option Stamp) → AreListed rows set → old ≡ since_of (find (is_row_of row.client row.ino) rows) → since_of_demand row.demand ≡ None
    → ((s : Stamp) (i : ℕ) (c : ClientId) → contains wait_order next (s, i, c) ≡ contains wait_order set (s, i, c) && not (is_since s old && is_key row.client row.ino c i)) → AreListed (map (λ r. if is_row_of row.client row.ino r then row else r) rows) next
listed_changed row rows set next old l o f u =
    listed_after rows (map (λ r. if is_row_of row.client row.ino r then row else r) rows) set next row.client row.ino old l o u
    (λ c i e. find_map_other (is_row_of c i) (is_row_of row.client row.ino) row rows (other_key row.client row.ino c i e) (other_key row.client row.ino c i e row (own row)))
    (ap since_of (find_map_same (is_row_of row.client row.ino) row rows (own row)) ∙ mapped (find (is_row_of row.client row.ino) rows) row f)

waits_on : (s : Stamp) (old new : Option Stamp) → KeepsSince old new → is_since s old || (is_since s new && true) ≡ is_since s new
waits_on s None None k = refl
waits_on s None (Some t) k = by (s.0 == t.0)
  where
    by : (b : Bool) → false || (b && true) ≡ b
    by true = refl
    by false = refl
waits_on s (Some t) new k = ap (λ o. is_since s (Some t) || (is_since s o && true)) k ∙ by (s.0 == t.0) ∙ ap (is_since s) (sym k)
  where
    by : (b : Bool) → b || (b && true) ≡ b
    by true = refl
    by false = refl

or_no : (d b : Bool) → d || (b && false) ≡ d
or_no true b = refl
or_no false true = refl
or_no false false = refl

pub listed_demanded : (row old : LockRow) (rows : List LockRow) (set next : BTreeSet (Stamp × ℕ × ClientId)) → AreListed rows set → find (is_row_of row.client row.ino) rows ≡ Some old → KeepsSince (since_of_demand old.demand) (since_of_demand row.demand)
    → ((s : Stamp) (i : ℕ) (c : ClientId) → contains wait_order next (s, i, c) ≡ contains wait_order set (s, i, c) || (is_since s (since_of_demand row.demand) && is_key row.client row.ino c i)) → AreListed (map (λ r. if is_row_of row.client row.ino r then row else r) rows) next
listed_demanded row old rows set next l o k u = λ s i c.
    ⊎_elim
    (λ e.
    let a : contains wait_order set (s, i, c) ≡ is_since s (since_of_demand old.demand) = l s i c ∙ ap (λ r. is_since s (since_of r)) (find_tests (is_row_of c i) (is_row_of row.client row.ino) rows (λ y. sym (one_key row.client row.ino c i e y)) ∙ o) in
    u s i c ∙ (λ m. a m || (is_since s (since_of_demand row.demand) && e m)) ∙ waits_on s (since_of_demand old.demand) (since_of_demand row.demand) k
    ∙ ap (λ r. is_since s (since_of r)) (sym (find_map_same (is_row_of row.client row.ino) row rows (own row) ∙ ap (option_map (λ _. row)) o))
    ∙ ap (λ r. is_since s (since_of r)) (find_tests (is_row_of row.client row.ino) (is_row_of c i) (map (λ r. if is_row_of row.client row.ino r then row else r) rows) (one_key row.client row.ino c i e)))
    (λ e.
    u s i c ∙ ap (λ b. contains wait_order set (s, i, c) || (is_since s (since_of_demand row.demand) && b)) e ∙ or_no (contains wait_order set (s, i, c)) (is_since s (since_of_demand row.demand))
    ∙ l s i c ∙ ap (λ r. is_since s (since_of r)) (sym (find_map_other (is_row_of c i) (is_row_of row.client row.ino) row rows (other_key row.client row.ino c i e) (other_key row.client row.ino c i e row (own row)))))
    (cases_Bool (is_key row.client row.ino c i))

pub listed_forgotten : (d : ClientId) (rows : List LockRow) (set next : BTreeSet (Stamp × ℕ × ClientId)) → AreListed rows set
    → ((s : Stamp) (i : ℕ) (c : ClientId) → contains wait_order next (s, i, c) ≡ contains wait_order set (s, i, c) && not (same_client c d)) → AreListed (filter (λ r. not (is_row_by d r)) rows) next
listed_forgotten d rows set next l u = λ s i c.
    ⊎_elim
    (λ e.
    u s i c ∙ ap (λ b. contains wait_order set (s, i, c) && not b) e ∙ no (contains wait_order set (s, i, c))
    ∙ ap (λ r. is_since s (since_of r)) (sym (find_filter_none (is_row_of c i) (is_row_by d) rows (λ y h. eq-eqb y.client.0 d.0 (eqb-true y.client.0 c.0 (and_parts (same_client y.client c) (y.ino == i) h).0 ∙ eqb-true c.0 d.0 e)))))
    (λ e.
    u s i c ∙ ap (λ b. contains wait_order set (s, i, c) && not b) e ∙ yes (contains wait_order set (s, i, c))
    ∙ l s i c ∙ ap (λ r. is_since s (since_of r)) (sym (find_filter_other (is_row_of c i) (is_row_by d) rows (λ y h. apart y c i h e))))
    (cases_Bool (same_client c d))
  where
    no : (b : Bool) → b && false ≡ false
    no true = refl
    no false = refl

    yes : (b : Bool) → b && true ≡ b
    yes true = refl
    yes false = refl

    apart : (y : LockRow) (c : ClientId) (i : ℕ) → is_row_by d y ≡ true → same_client c d ≡ false → is_row_of c i y ≡ false
    apart y c i h e =
        ⊎_elim
        (λ t. absurd (true≢false (sym (eq-eqb c.0 d.0 (sym (eqb-true y.client.0 c.0 (and_parts (same_client y.client c) (y.ino == i) t).0) ∙ eqb-true y.client.0 d.0 h)) ∙ e)))
        (λ t. t)
        (cases_Bool (is_row_of c i y))

found_by : (c : ClientId) (i : ℕ) (x r : LockRow) (xs : List LockRow) (b : Bool) → is_row_of c i x ≡ b → (find (is_row_of c i) xs ≡ Some r → (r.client ≡ c) × (r.ino ≡ i)) → cond b (Some x) (find (is_row_of c i) xs) ≡ Some r → (r.client ≡ c) × (r.ino ≡ i)
found_by c i x r xs true q h e =
    let z : x ≡ r = cc in
    let a = and_parts (same_client x.client c) (x.ino == i) q in
    let p : x.client.0 ≡ c.0 = eqb-true x.client.0 c.0 a.0 in
    ((λ k. record { 0 = (ap (λ y. y.client.0) (sym z) ∙ p) k }), ap (λ y. y.ino) (sym z) ∙ eqb-true x.ino i a.1)
found_by c i x r xs false q h e = h e

pub row_keys : (c : ClientId) (i : ℕ) (xs : List LockRow) (r : LockRow) → find (is_row_of c i) xs ≡ Some r → (r.client ≡ c) × (r.ino ≡ i)
row_keys c i [] r e = cc
row_keys c i (x ∷ xs) r e = found_by c i x r xs (is_row_of c i x) refl (row_keys c i xs r) e

pub found_keys : (c : ClientId) (i : ℕ) (xs : List LockRow) (o : Option LockRow) → o ≡ find (is_row_of c i) xs → IfSome o (λ r. (r.client ≡ c) × (r.ino ≡ i))
found_keys c i xs None e = tt
found_keys c i xs (Some r) e = row_keys c i xs r (sym e)
