-- How many rows pass a test after each change, and what all rows keep.
use Rattle.std.proofs.Common.{◌≡◌, ℕ, suc, ◌+◌, ◌≤◌, Bool, true, false, cond, if◌then◌else◌, List, [], ◌∷◌, ◌++◌, map, filter, length, refl, sym, ap, ◌∙◌, ⊎_elim, true≢false, arith, length-append}
use Rattle.std.specs.Prelude.{find, not, is_some, Some, None, ◌&&◌}
use Rattle.std.specs.List.{IsDistinct, AllByRecursion, list_all}
use Rattle.std.proofs.lemmas.Bool.{cases_Bool, and_parts}
use Rattle.std.proofs.lemmas.List.Elements.{filter-append}
use Rattle.st_rules.specs.Keys.{put}
use Rattle.st_tables.specs.declared.keys.Key.{Key}
use Rattle.st_tables.specs.Tables.{same_key, has_key}
use Rattle.st_tables.proofs.RowLists.{put_last}
use Rattle.st_tables.proofs.Places.{key_is, same_is}

-- one more if the test is passed
abbrev pub one_if : Bool → ℕ
one_if b = if b then 1 else 0

module _ {V : Type 0} where
  counted_one : (b : Bool) (x : V) (l : List V) → length (cond b (x ∷ l) l) ≡ length l + one_if b
  counted_one true x l = omega arith
  counted_one false x l = omega arith

  pub length_kept : (p : V → Bool) (xs : List V) → length (filter p xs) ≤ length xs
  length_kept p [] = omega arith
  length_kept p (x ∷ xs) = by (p x) (length_kept p xs)
    where
      by : (b : Bool) → length (filter p xs) ≤ length xs → length (cond b (x ∷ filter p xs) (filter p xs)) ≤ suc (length xs)
      by true h = omega arith
      by false h = omega arith

  pub count_new : (p q : V → Bool) (x : V) (xs : List V) → find p xs ≡ None → length (filter q (put p x xs)) ≡ length (filter q xs) + one_if (q x)
  count_new p q x xs e =
      let a : length (filter q (put p x xs)) ≡ length (filter q xs ++ filter q (x ∷ [])) = ap (λ l. length (filter q l)) (put_last p x xs e) ∙ ap length (filter-append q xs (x ∷ [])) in
      let b : length (filter q xs ++ filter q (x ∷ [])) ≡ length (filter q xs) + length (filter q (x ∷ [])) = length-append (filter q xs) (filter q (x ∷ [])) in
      let d : length (filter q (x ∷ [])) ≡ 0 + one_if (q x) = counted_one (q x) x [] in
      omega (arith, a, b, d)

  over_by : (p q : V → Bool) (x y : V) (xs : List V) (b : Bool) → (b ≡ true → q y ≡ q x) → (is_some (find p xs) ≡ true → length (filter q (put p x xs)) ≡ length (filter q xs)) → is_some (cond b (Some y) (find p xs)) ≡ true
      → length (filter q (if b then x ∷ xs else y ∷ put p x xs)) ≡ length (cond (q y) (y ∷ filter q xs) (filter q xs))
  over_by p q x y xs true s h e = counted_one (q x) x (filter q xs) ∙ ap (λ b. length (filter q xs) + one_if b) (sym (s refl)) ∙ sym (counted_one (q y) y (filter q xs))
  over_by p q x y xs false s h e = counted_one (q y) y (filter q (put p x xs)) ∙ ap (λ n. n + one_if (q y)) (h e) ∙ sym (counted_one (q y) y (filter q xs))

  pub count_over : (p q : V → Bool) (x : V) (xs : List V) → ((y : V) → p y ≡ true → q y ≡ q x) → is_some (find p xs) ≡ true → length (filter q (put p x xs)) ≡ length (filter q xs)
  unfolding put
  count_over p q x [] s e = absurd (true≢false (sym e))
  count_over p q x (y ∷ ys) s e = over_by p q x y ys (p y) (s y) (count_over p q x ys s) e

  all_by : (g : V → Bool) (x y : V) (xs zs : List V) (b : Bool) → g x ≡ true → g y && list_all g xs ≡ true → (list_all g xs ≡ true → list_all g zs ≡ true) → list_all g (if b then x ∷ xs else y ∷ zs) ≡ true
  all_by g x y xs zs true e h r = λ i. e i && (and_parts (g y) (list_all g xs) h).1 i
  all_by g x y xs zs false e h r = λ i. (and_parts (g y) (list_all g xs) h).0 i && r (and_parts (g y) (list_all g xs) h).1 i

  pub all_put : (g p : V → Bool) (x : V) (xs : List V) → list_all g xs ≡ true → g x ≡ true → list_all g (put p x xs) ≡ true
  unfolding put
  all_put g p x [] h e = λ i. e i && true
  all_put g p x (y ∷ ys) h e = all_by g x y ys (put p x ys) (p y) e h (λ r. all_put g p x ys r e)

  filtered_by : (g : V → Bool) (x : V) (xs ys : List V) (b : Bool) → g x && list_all g xs ≡ true → (list_all g xs ≡ true → list_all g ys ≡ true) → list_all g (cond b (x ∷ ys) ys) ≡ true
  filtered_by g x xs ys true h r = λ i. (and_parts (g x) (list_all g xs) h).0 i && r (and_parts (g x) (list_all g xs) h).1 i
  filtered_by g x xs ys false h r = r (and_parts (g x) (list_all g xs) h).1

  pub all_filter : (g p : V → Bool) (xs : List V) → list_all g xs ≡ true → list_all g (filter p xs) ≡ true
  all_filter g p [] h = refl
  all_filter g p (x ∷ xs) h = filtered_by g x xs (filter p xs) (p x) h (all_filter g p xs)

  pub count_map : (q : V → Bool) (h : V → V) (xs : List V) → ((y : V) → q (h y) ≡ q y) → length (filter q (map h xs)) ≡ length (filter q xs)
  count_map q h [] e = refl
  count_map q h (x ∷ xs) e = counted_one (q (h x)) (h x) (filter q (map h xs)) ∙ (λ i. count_map q h xs e i + one_if (e x i)) ∙ sym (counted_one (q x) x (filter q xs))

  pub all_map : (g : V → Bool) (h : V → V) (xs : List V) → ((y : V) → g (h y) ≡ g y) → list_all g (map h xs) ≡ list_all g xs
  all_map g h [] e = refl
  all_map g h (x ∷ xs) e = λ i. e x i && all_map g h xs e i

  -- tests that agree on all rows of a list
  pub filter_agree : (g p r : V → Bool) (xs : List V) → list_all g xs ≡ true → ((x : V) → g x ≡ true → p x ≡ r x) → filter p xs ≡ filter r xs
  filter_agree g p r [] h e = refl
  filter_agree g p r (x ∷ xs) h e = let a = and_parts (g x) (list_all g xs) h in λ i. cond (e x a.0 i) (x ∷ filter_agree g p r xs a.1 e i) (filter_agree g p r xs a.1 e i)

  pub filter_every : (g p : V → Bool) (xs : List V) → list_all g xs ≡ true → ((x : V) → g x ≡ true → p x ≡ true) → filter p xs ≡ xs
  filter_every g p [] h e = refl
  filter_every g p (x ∷ xs) h e = let a = and_parts (g x) (list_all g xs) h in λ i. cond (e x a.0 i) (x ∷ filter_every g p xs a.1 e i) (filter_every g p xs a.1 e i)

  pub find_agree : (g p r : V → Bool) (xs : List V) → list_all g xs ≡ true → ((x : V) → g x ≡ true → p x ≡ r x) → find p xs ≡ find r xs
  find_agree g p r [] h e = refl
  find_agree g p r (x ∷ xs) h e = let a = and_parts (g x) (list_all g xs) h in λ i. cond (e x a.0 i) (Some x) (find_agree g p r xs a.1 e i)

  twice_by : (p : V → Bool) (x : V) (ys : List V) (a b : Bool) → p x ≡ b → filter p (cond a (x ∷ ys) ys) ≡ cond (a && b) (x ∷ filter p ys) (filter p ys)
  twice_by p x ys true b e = ap (λ z. cond z (x ∷ filter p ys) (filter p ys)) e
  twice_by p x ys false b e = refl

  pub filter_twice : (p q : V → Bool) (xs : List V) → filter p (filter q xs) ≡ filter (λ x. q x && p x) xs
  filter_twice p q [] = refl
  filter_twice p q (x ∷ xs) = twice_by p x (filter q xs) (q x) (p x) refl ∙ (λ i. cond (q x && p x) (x ∷ filter_twice p q xs i) (filter_twice p q xs i))

  pub filter_tests : (p r : V → Bool) (xs : List V) → ((x : V) → p x ≡ r x) → filter p xs ≡ filter r xs
  filter_tests p r [] e = refl
  filter_tests p r (x ∷ xs) e = λ i. cond (e x i) (x ∷ filter_tests p r xs e i) (filter_tests p r xs e i)

  filter_none : (p : V → Bool) (xs : List V) → ((x : V) → p x ≡ false) → filter p xs ≡ []
  filter_none p [] e = refl
  filter_none p (x ∷ xs) e = λ i. cond (e x i) (x ∷ filter_none p xs e i) (filter_none p xs e i)

  missing_by : (p : V → Bool) (f : V → V) (x : V) (xs : List V) (b : Bool) → (find p xs ≡ None → map (λ x. if p x then f x else x) xs ≡ xs) → cond b (Some x) (find p xs) ≡ None → (if b then f x else x) ∷ map (λ x. if p x then f x else x) xs ≡ x ∷ xs
  missing_by p f x xs true h e = cc
  missing_by p f x xs false h e = ap (λ l. x ∷ l) (h e)

  -- if none passes, nothing changes
  pub missing_is_map : (p : V → Bool) (f : V → V) (xs : List V) → find p xs ≡ None → map (λ x. if p x then f x else x) xs ≡ xs
  missing_is_map p f [] h = refl
  missing_is_map p f (x ∷ xs) h = missing_by p f x xs (p x) (missing_is_map p f xs) h

module _ {V : Type 0} (key : V → Key) (k : Key) where
  none_with : (r : V) (xs : List V) → has_key key k r ≡ true → AllByRecursion (λ y. same_key (key r) y ≡ false) (map key xs) → filter (λ v. not (has_key key k v)) xs ≡ xs
  none_with r [] q a = refl
  none_with r (x ∷ xs) q a =
      let f : has_key key k x ≡ false = ⊎_elim (λ h. absurd (true≢false (sym (ap (λ z. same_key z (key x)) (key_is (key r) k q) ∙ ap (same_key k) (key_is (key x) k h) ∙ same_is k) ∙ a.0))) (λ h. h) (cases_Bool (has_key key k x)) in
      λ i. cond (not (f i)) (x ∷ none_with r xs q a.1 i) (none_with r xs q a.1 i)

  gone_by : (q : V → Bool) (x v : V) (xs : List V) (b : Bool) → (b ≡ true → filter (λ y. not (has_key key k y)) xs ≡ xs) → (find (has_key key k) xs ≡ Some v → length (filter q xs) ≡ length (filter q (filter (λ y. not (has_key key k y)) xs)) + one_if (q v)) → cond b (Some x) (find (has_key key k) xs) ≡ Some v
      → length (cond (q x) (x ∷ filter q xs) (filter q xs)) ≡ length (filter q (cond (not b) (x ∷ filter (λ y. not (has_key key k y)) xs) (filter (λ y. not (has_key key k y)) xs))) + one_if (q v)
  gone_by q x v xs true s h e =
      let z : x ≡ v = cc in
      counted_one (q x) x (filter q xs) ∙ (λ i. length (filter q (sym (s refl) i)) + one_if (q (z i)))
  gone_by q x v xs false s h e =
      let l : length (filter q xs) ≡ length (filter q (filter (λ y. not (has_key key k y)) xs)) + one_if (q v) = h e in
      let a : length (cond (q x) (x ∷ filter q xs) (filter q xs)) ≡ length (filter q xs) + one_if (q x) = counted_one (q x) x (filter q xs) in
      let ys = filter (λ y. not (has_key key k y)) xs in
      let b : length (cond (q x) (x ∷ filter q ys) (filter q ys)) ≡ length (filter q ys) + one_if (q x) = counted_one (q x) x (filter q ys) in
      omega (arith, l, a, b)

  pub count_gone : (q : V → Bool) (v : V) (xs : List V) → IsDistinct same_key (map key xs) → find (has_key key k) xs ≡ Some v → length (filter q xs) ≡ length (filter q (filter (λ y. not (has_key key k y)) xs)) + one_if (q v)
  unfolding IsDistinct
  count_gone q v [] d e = cc
  count_gone q v (x ∷ xs) d e = gone_by q x v xs (has_key key k x) (λ h. none_with x xs h d.0) (count_gone q v xs d.1) e

  key_by : (x v : V) (xs : List V) (b : Bool) → has_key key k x ≡ b → (find (has_key key k) xs ≡ Some v → key v ≡ k) → cond b (Some x) (find (has_key key k) xs) ≡ Some v → key v ≡ k
  key_by x v xs true q h e = let z : x ≡ v = cc in ap key (sym z) ∙ key_is (key x) k q
  key_by x v xs false q h e = h e

  -- a row that was found has the key
  pub of_key : (v : V) (xs : List V) → find (has_key key k) xs ≡ Some v → key v ≡ k
  of_key v [] e = cc
  of_key v (x ∷ xs) e = key_by x v xs (has_key key k x) refl (of_key v xs) e
