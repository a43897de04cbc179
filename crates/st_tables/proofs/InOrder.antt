-- Keys of a slab in an order: what a change of the slab does to their values.
use Rattle.std.proofs.Common.{◌≡◌, ℕ, zero, suc, ◌<◌, ◌≤◌, Bool, true, false, List, [], ◌∷◌, ◌++◌, length, get_or, refl, sym, ap, ◌∙◌, arith, true≢false}
use Rattle.std.specs.Prelude.{remove, slice_get, is_some, Option, Some, None, ◌&&◌, ◌≢◌}
use Rattle.std.specs.Option.{option_map}
use Rattle.std.specs.List.{IsDistinct, AllByRecursion, list_all, cons_option}
use Rattle.std.proofs.lemmas.Bool.{and_parts, ne_eqb, eq-eqb}
use Rattle.std.proofs.lemmas.List.Elements.{filter_map-append}
use Rattle.slab.specs.Slab.{Slab, get, Updates}
use Rattle.st_tables.specs.Orders.{changed_at, in_order, IsOrder, same_number}

module _ {V : Type 0} (old new : Slab V) (key : ℕ) (slot : Option V) (u : Updates old new key slot) where
  -- keys that differ keep their values
  kept : (order : List ℕ) → AllByRecursion (λ k. k ≢ key) order → in_order new order ≡ in_order old order
  kept [] a = refl
  kept (k ∷ ks) a = λ i. cons_option (u.others k a.0 i) (kept ks a.1 i)

  kept_filled : (order : List ℕ) → AllByRecursion (λ k. k ≢ key) order → list_all (λ k. is_some (get new k)) order ≡ list_all (λ k. is_some (get old k)) order
  kept_filled [] a = refl
  kept_filled (k ∷ ks) a = λ i. is_some (u.others k a.0 i) && kept_filled ks a.1 i

-- a key without a value is none of them
vacant_apart : {V : Type 0} (s : Slab V) (key : ℕ) (order : List ℕ) → get s key ≡ None → list_all (λ k. is_some (get s k)) order ≡ true →
    AllByRecursion (λ k. k ≢ key) order
vacant_apart s key [] n h = tt
vacant_apart s key (k ∷ ks) n h =
    let p = and_parts (is_some (get s k)) (list_all (λ j. is_some (get s j)) ks) h in
    ((λ (e : k ≡ key). true≢false (sym p.0 ∙ ap (λ z. is_some (get s z)) e ∙ ap is_some n)), vacant_apart s key ks n p.1)

apart_distinct : (key : ℕ) (order : List ℕ) → AllByRecursion (λ k. k ≢ key) order → AllByRecursion (λ k. same_number k key ≡ false) order
apart_distinct key [] a = tt
apart_distinct key (k ∷ ks) a = (ne_eqb k key a.0, apart_distinct key ks a.1)

all_filled_push : (p : ℕ → Bool) (k : ℕ) (ks : List ℕ) → list_all p ks ≡ true → p k ≡ true → list_all p (ks ++ k ∷ []) ≡ true
all_filled_push p k [] h q = λ i. q i && true
all_filled_push p k (x ∷ xs) h q = let r = and_parts (p x) (list_all p xs) h in λ i. r.0 i && all_filled_push p k xs r.1 q i

distinct_push : (key : ℕ) (order : List ℕ) → IsDistinct same_number order → AllByRecursion (λ k. same_number k key ≡ false) order →
    IsDistinct same_number (order ++ key ∷ [])
unfolding IsDistinct
distinct_push key [] d a = (tt, tt)
distinct_push key (k ∷ ks) d a = (behind k ks d.0 a.0, distinct_push key ks d.1 a.1)
  where
    behind : (k : ℕ) (ks : List ℕ) → AllByRecursion (λ y. same_number k y ≡ false) ks → same_number k key ≡ false →
        AllByRecursion (λ y. same_number k y ≡ false) (ks ++ key ∷ [])
    behind k [] a b = (b, tt)
    behind k (x ∷ xs) a b = (a.0, behind k xs a.1 b)

module _ {V : Type 0} (old new : Slab V) (key : ℕ) (item : V) (u : Updates old new key (Some item)) (n : get old key ≡ None) (order : List ℕ)
    (is : IsOrder old order) where
  pub order_push : IsOrder new (order ++ key ∷ [])
  order_push =
      let a = vacant_apart old key order n is.filled in
      record {
        filled = all_filled_push (λ k. is_some (get new k)) key order (kept_filled old new key (Some item) u order a ∙ is.filled) (ap is_some u.changed);
        distinct = distinct_push key order is.distinct (apart_distinct key order a);
      }

  pub values_push : in_order new (order ++ key ∷ []) ≡ in_order old order ++ item ∷ []
  values_push =
      filter_map-append (get new) order (key ∷ [])
      ∙ (λ i. kept old new key (Some item) u order (vacant_apart old key order n is.filled) i ++ cons_option (u.changed i) [])

-- A removal by place.

at_apart : (order : List ℕ) (i : ℕ) (d : ℕ) → i < length order → IsDistinct same_number order → AllByRecursion (λ k. k ≢ get_or order i d) (remove order i)
unfolding IsDistinct
at_apart [] i d l s = absurd (omega arith)
at_apart (k ∷ ks) zero d l s = from ks s.0
  where
    from : (xs : List ℕ) → AllByRecursion (λ y. same_number k y ≡ false) xs → AllByRecursion (λ x. x ≢ k) xs
    from [] a = tt
    from (x ∷ xs) a = ((λ (e : x ≡ k). differ x e a.0), from xs a.1)
      where
        differ : (x : ℕ) → x ≡ k → same_number k x ≡ false → ⊥
        differ x e f = true≢false (sym (eq-eqb k x (sym e)) ∙ f)
at_apart (k ∷ ks) (suc i) d l s = (
  (λ (e : k ≡ get_or ks i d). true≢false (sym (eq-eqb k (get_or ks i d) e) ∙ at ks i s.0 (omega arith))),
  at_apart ks i d (omega arith) s.1,
)
  where
    at : (xs : List ℕ) (j : ℕ) → AllByRecursion (λ y. same_number k y ≡ false) xs → j < length xs → same_number k (get_or xs j d) ≡ false
    at [] j a l = absurd (omega arith)
    at (x ∷ xs) zero a l = a.0
    at (x ∷ xs) (suc j) a l = at xs j a.1 (omega arith)

distinct_remove : (order : List ℕ) (i : ℕ) → IsDistinct same_number order → IsDistinct same_number (remove order i)
unfolding IsDistinct
distinct_remove [] zero s = tt
distinct_remove [] (suc i) s = tt
distinct_remove (k ∷ ks) zero s = s.1
distinct_remove (k ∷ ks) (suc i) s = (less ks i s.0, distinct_remove ks i s.1)
  where
    less : (xs : List ℕ) (j : ℕ) → AllByRecursion (λ y. same_number k y ≡ false) xs → AllByRecursion (λ y. same_number k y ≡ false) (remove xs j)
    less [] zero a = tt
    less [] (suc j) a = tt
    less (x ∷ xs) zero a = a.1
    less (x ∷ xs) (suc j) a = (a.0, less xs j a.1)

filled_remove : (p : ℕ → Bool) (order : List ℕ) (i : ℕ) → list_all p order ≡ true → list_all p (remove order i) ≡ true
filled_remove p [] zero h = refl
filled_remove p [] (suc i) h = refl
filled_remove p (k ∷ ks) zero h = (and_parts (p k) (list_all p ks) h).1
filled_remove p (k ∷ ks) (suc i) h = let r = and_parts (p k) (list_all p ks) h in λ j. r.0 j && filled_remove p ks i r.1 j

one_of : {V : Type 0} (o : Option V) (xs : List V) → is_some o ≡ true → length (cons_option o xs) ≡ suc (length xs)
one_of None xs h = absurd (true≢false (sym h))
one_of (Some x) xs h = refl

same_tail : {V : Type 0} (o : Option V) (xs ys : List V) (i : ℕ) → is_some o ≡ true → xs ≡ remove ys i → cons_option o xs ≡ remove (cons_option o ys) (suc i)
same_tail None xs ys i h e = absurd (true≢false (sym h))
same_tail (Some x) xs ys i h e = ap (λ l. x ∷ l) e

first_gone : {V : Type 0} (o : Option V) (ys : List V) → is_some o ≡ true → ys ≡ remove (cons_option o ys) 0
first_gone None ys h = absurd (true≢false (sym h))
first_gone (Some x) ys h = refl

order_removed : {V : Type 0} (s : Slab V) (order : List ℕ) (i : ℕ) → list_all (λ k. is_some (get s k)) order ≡ true → i < length order →
    in_order s (remove order i) ≡ remove (in_order s order) i
order_removed s [] i h l = absurd (omega arith)
order_removed s (k ∷ ks) zero h l = first_gone (get s k) (in_order s ks) (and_parts (is_some (get s k)) (list_all (λ j. is_some (get s j)) ks) h).0
order_removed s (k ∷ ks) (suc i) h l =
    let r = and_parts (is_some (get s k)) (list_all (λ j. is_some (get s j)) ks) h in
    same_tail (get s k) (in_order s (remove ks i)) (in_order s ks) i r.0 (order_removed s ks i r.1 (omega arith))

pub same_length : {V : Type 0} (s : Slab V) (order : List ℕ) → list_all (λ k. is_some (get s k)) order ≡ true → length (in_order s order) ≡ length order
same_length s [] h = refl
same_length s (k ∷ ks) h =
    let r = and_parts (is_some (get s k)) (list_all (λ j. is_some (get s j)) ks) h in
    one_of (get s k) (in_order s ks) r.0 ∙ ap suc (same_length s ks r.1)

module _ {V : Type 0} (old new : Slab V) (order : List ℕ) (i d : ℕ) (l : i < length order) (u : Updates old new (get_or order i d) None)
    (is : IsOrder old order) where
  pub order_take : IsOrder new (remove order i)
  order_take = record {
    filled = kept_filled old new (get_or order i d) None u (remove order i) (at_apart order i d l is.distinct) ∙
        filled_remove (λ k. is_some (get old k)) order i is.filled;
    distinct = distinct_remove order i is.distinct;
  }

  pub values_take : in_order new (remove order i) ≡ remove (in_order old order) i
  values_take = kept old new (get_or order i d) None u (remove order i) (at_apart order i d l is.distinct) ∙ order_removed old order i is.filled l

-- A change by place.

some_changed : {V : Type 0} (f : V → V) (o : Option V) → is_some (option_map f o) ≡ is_some o
some_changed f None = refl
some_changed f (Some x) = refl

changed_first : {V : Type 0} (f : V → V) (o p : Option V) (xs ys : List V) → is_some o ≡ true → p ≡ option_map f o → ys ≡ xs →
    cons_option p ys ≡ changed_at f 0 (cons_option o xs)
changed_first f None p xs ys h e k = absurd (true≢false (sym h))
changed_first f (Some x) p xs ys h e k = λ j. cons_option (e j) (k j)

changed_behind : {V : Type 0} (f : V → V) (o : Option V) (xs ys : List V) (i : ℕ) → is_some o ≡ true → ys ≡ changed_at f i xs →
    cons_option o ys ≡ changed_at f (suc i) (cons_option o xs)
changed_behind f None xs ys i h e = absurd (true≢false (sym h))
changed_behind f (Some x) xs ys i h e = ap (λ l. x ∷ l) e

module _ {V : Type 0} (old new : Slab V) (f : V → V) (d : ℕ) where
  -- the value of the key at a place is changed
  abbrev pub ChangesAt : List ℕ → ℕ → Type 0
  ChangesAt order i = Updates old new (get_or order i d) (option_map f (get old (get_or order i d)))

  filled_change : (order : List ℕ) (i : ℕ) → i < length order → IsDistinct same_number order → ChangesAt order i →
      list_all (λ k. is_some (get new k)) order ≡ list_all (λ k. is_some (get old k)) order
  unfolding IsDistinct
  filled_change [] i l s u = absurd (omega arith)
  filled_change (k ∷ ks) zero l s u =
      let first : is_some (get new k) ≡ is_some (get old k) = ap is_some u.changed ∙ some_changed f (get old k) in
      let rest = kept_filled old new k (option_map f (get old k)) u ks (at_apart (k ∷ ks) zero d l s) in
      λ j. first j && rest j
  filled_change (k ∷ ks) (suc i) l s u =
      let first : is_some (get new k) ≡ is_some (get old k) = ap is_some (u.others k (at_apart (k ∷ ks) (suc i) d l s).0) in
      let rest = filled_change ks i (omega arith) s.1 u in
      λ j. first j && rest j

  changed_in : (order : List ℕ) (i : ℕ) → i < length order → IsOrder old order → ChangesAt order i → in_order new order ≡ changed_at f i (in_order old order)
  unfolding IsDistinct
  changed_in [] i l is u = absurd (omega arith)
  changed_in (k ∷ ks) zero l is u =
      let q = and_parts (is_some (get old k)) (list_all (λ j. is_some (get old j)) ks) is.filled in
      changed_first f (get old k) (get new k) (in_order old ks) (in_order new ks) q.0 u.changed
      (kept old new k (option_map f (get old k)) u ks (at_apart (k ∷ ks) zero d l is.distinct))
  changed_in (k ∷ ks) (suc i) l is u =
      let q = and_parts (is_some (get old k)) (list_all (λ j. is_some (get old j)) ks) is.filled in
      let rest = changed_in ks i (omega arith) (record { filled = q.1; distinct = is.distinct.1 }) u in
      ap (λ o. cons_option o (in_order new ks)) (u.others k (at_apart (k ∷ ks) (suc i) d l is.distinct).0)
      ∙ changed_behind f (get old k) (in_order old ks) (in_order new ks) i q.0 rest

  module _ (order : List ℕ) (i : ℕ) (l : i < length order) (is : IsOrder old order) (u : ChangesAt order i) where
    pub order_change : IsOrder new order
    order_change = record { filled = filled_change order i l is.distinct u ∙ is.filled; distinct = is.distinct }

    pub values_change : in_order new order ≡ changed_at f i (in_order old order)
    values_change = changed_in order i l is u

-- The value at a place.

found_at : {V : Type 0} (o : Option V) (ys : List V) → is_some o ≡ true → o ≡ slice_get (cons_option o ys) 0
found_at None ys h = absurd (true≢false (sym h))
found_at (Some x) ys h = refl

found_behind : {V : Type 0} (o : Option V) (ys : List V) (i : ℕ) (r : Option V) → is_some o ≡ true → r ≡ slice_get ys i →
    r ≡ slice_get (cons_option o ys) (suc i)
found_behind None ys i r h e = absurd (true≢false (sym h))
found_behind (Some x) ys i r h e = e

pub value_at : {V : Type 0} (s : Slab V) (order : List ℕ) (i d : ℕ) → list_all (λ k. is_some (get s k)) order ≡ true → i < length order →
    get s (get_or order i d) ≡ slice_get (in_order s order) i
value_at s [] i d h l = absurd (omega arith)
value_at s (k ∷ ks) zero d h l = found_at (get s k) (in_order s ks) (and_parts (is_some (get s k)) (list_all (λ j. is_some (get s j)) ks) h).0
value_at s (k ∷ ks) (suc i) d h l =
    let r = and_parts (is_some (get s k)) (list_all (λ j. is_some (get s j)) ks) h in
    found_behind (get s k) (in_order s ks) i (get s (get_or ks i d)) r.0 (value_at s ks i d r.1 (omega arith))

no_value : {V : Type 0} (o : Option V) (ys : List V) (i : ℕ) → is_some o ≡ true → None ≡ slice_get ys i → None ≡ slice_get (cons_option o ys) (suc i)
no_value None ys i h e = absurd (true≢false (sym h))
no_value (Some x) ys i h e = e

pub none_at : {V : Type 0} (s : Slab V) (order : List ℕ) (i : ℕ) → list_all (λ k. is_some (get s k)) order ≡ true → length order ≤ i →
    None ≡ slice_get (in_order s order) i
none_at s [] zero h l = refl
none_at s [] (suc i) h l = refl
none_at s (k ∷ ks) zero h l = absurd (omega arith)
none_at s (k ∷ ks) (suc i) h l =
    let r = and_parts (is_some (get s k)) (list_all (λ j. is_some (get s j)) ks) h in
    no_value (get s k) (in_order s ks) i r.0 (none_at s ks i r.1 (omega arith))

-- no value is past the last
pub changed_past : {V : Type 0} (f : V → V) (xs : List V) (i : ℕ) → length xs ≤ i → xs ≡ changed_at f i xs
changed_past f [] i l = refl
changed_past f (x ∷ xs) zero l = absurd (omega arith)
changed_past f (x ∷ xs) (suc i) l = ap (λ ys. x ∷ ys) (changed_past f xs i (omega arith))

-- a place before the length has a key with a value
pub some_at : {V : Type 0} (s : Slab V) (order : List ℕ) (i d : ℕ) → list_all (λ k. is_some (get s k)) order ≡ true → i < length order →
    is_some (get s (get_or order i d)) ≡ true
some_at s [] i d h l = absurd (omega arith)
some_at s (k ∷ ks) zero d h l = (and_parts (is_some (get s k)) (list_all (λ j. is_some (get s j)) ks) h).0
some_at s (k ∷ ks) (suc i) d h l = some_at s ks i d (and_parts (is_some (get s k)) (list_all (λ j. is_some (get s j)) ks) h).1 (omega arith)
