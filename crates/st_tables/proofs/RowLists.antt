-- What a change at one place, or at all places, does to the list of the rows.
use Rattle.std.proofs.Common.{◌≡◌, ℕ, zero, suc, ◌+◌, ◌<◌, ◌≤◌, Bool, true, false, cond, if◌then◌else◌, List, [], ◌∷◌, ◌++◌, map, refl, sym, ap, ◌∙◌, ⊎_elim, true≢false, arith, add-one, length-append}
use Rattle.std.specs.Prelude.{find, filter, not, Option, Some, None, ◌==◌, ◌≢◌, ◌||◌, length}
use Rattle.std.specs.Option.{option_map, option_to_list}
use Rattle.std.specs.List.{list_any}
use Rattle.std.proofs.lemmas.Bool.{cases_Bool, or_cases, or_parts, eqb-true, eqb-false, eq-eqb, ne_eqb, cond-true, cond-false}
use Rattle.std.proofs.lemmas.List.{map-append}
use Rattle.std.proofs.lemmas.List.Elements.{filter-append}
use Rattle.std.proofs.lemmas.List.Folds.{list_any-append}
use Rattle.st_rules.specs.Keys.{put}
use Rattle.st_tables.specs.Tables.{kept, listed}

module _ {V : Type 0} where
  pub same_listed : (n : ℕ) (f g : ℕ → Option V) → ((i : ℕ) → i < n → f i ≡ g i) → listed n f ≡ listed n g
  unfolding listed
  same_listed zero f g h = refl
  same_listed (suc n) f g h = λ i. same_listed n f g (λ j l. h j (omega arith)) i ++ option_to_list (h n (omega arith) i)

  -- one more row goes last
  pub listed_push : (n : ℕ) (f g : ℕ → Option V) (v : V) → ((i : ℕ) → i < n → g i ≡ f i) → g n ≡ Some v → listed (n + 1) g ≡ listed n f ++ v ∷ []
  unfolding listed
  listed_push n f g v h e = ap (λ m. listed m g) (add-one n) ∙ (λ i. same_listed n g f h i ++ option_to_list (e i))

  -- Rows go.

  one_by : (b : Bool) (v : V) → option_to_list (if b then Some v else None) ≡ cond b (v ∷ []) []
  one_by true v = refl
  one_by false v = refl

  one_kept : (p : V → Bool) (o : Option V) → option_to_list (kept p o) ≡ filter p (option_to_list o)
  one_kept p None = refl
  one_kept p (Some v) = one_by (p v) v

  pub listed_filter : (p : V → Bool) (n : ℕ) (f g : ℕ → Option V) → ((i : ℕ) → i < n → g i ≡ kept p (f i)) → listed n g ≡ filter p (listed n f)
  unfolding listed
  listed_filter p zero f g h = refl
  listed_filter p (suc n) f g h =
      (λ i. listed_filter p n f g (λ j l. h j (omega arith)) i ++ option_to_list (h n (omega arith) i))
      ∙ ap (λ l. filter p (listed n f) ++ l) (one_kept p (f n)) ∙ sym (filter-append p (listed n f) (option_to_list (f n)))

  -- A search.

  found_by : (p : V → Bool) (x v : V) (xs ys : List V) (b : Bool) → (b ≡ false → find p xs ≡ Some v → find p (xs ++ ys) ≡ Some v) → cond b (Some x) (find p xs) ≡ Some v → cond b (Some x) (find p (xs ++ ys)) ≡ Some v
  found_by p x v xs ys true h e = e
  found_by p x v xs ys false h e = h refl e

  pub find_left : (p : V → Bool) (v : V) (xs ys : List V) → find p xs ≡ Some v → find p (xs ++ ys) ≡ Some v
  find_left p v [] ys e = cc
  find_left p v (x ∷ xs) ys e = found_by p x v xs ys (p x) (λ b. find_left p v xs ys) e

  missed_by : (p : V → Bool) (x : V) (xs ys : List V) (b : Bool) → (find p xs ≡ None → find p (xs ++ ys) ≡ find p ys) → cond b (Some x) (find p xs) ≡ None → cond b (Some x) (find p (xs ++ ys)) ≡ find p ys
  missed_by p x xs ys true h e = cc
  missed_by p x xs ys false h e = h e

  pub find_right : (p : V → Bool) (xs ys : List V) → find p xs ≡ None → find p (xs ++ ys) ≡ find p ys
  find_right p [] ys e = refl
  find_right p (x ∷ xs) ys e = missed_by p x xs ys (p x) (find_right p xs ys) e

  one_missed : (p : V → Bool) (o : Option V) → ((w : V) → o ≡ Some w → p w ≡ false) → find p (option_to_list o) ≡ None
  one_missed p None h = refl
  one_missed p (Some v) h = ap (λ b. cond b (Some v) None) (h v refl)

  pub listed_none : (p : V → Bool) (n : ℕ) (f : ℕ → Option V) → ((j : ℕ) (w : V) → j < n → f j ≡ Some w → p w ≡ false) → find p (listed n f) ≡ None
  unfolding listed
  listed_none p zero f h = refl
  listed_none p (suc n) f h =
      find_right p (listed n f) (option_to_list (f n)) (listed_none p n f (λ j w l. h j w (omega arith))) ∙ one_missed p (f n) (λ w. h n w (omega arith))

  only_one : (p : V → Bool) (f : ℕ → Option V) (i n : ℕ) → ((j : ℕ) (w : V) → f j ≡ Some w → p w ≡ true → j ≡ i) → n ≤ i → (j : ℕ) (w : V) → j < n → f j ≡ Some w → p w ≡ false
  only_one p f i n u l j w m e = ⊎_elim (λ t. let s : j ≡ i = u j w e t in absurd (omega arith)) (λ q. q) (cases_Bool (p w))

  pub listed_find : (p : V → Bool) (v : V) (i n : ℕ) (f : ℕ → Option V) → i < n → f i ≡ Some v → p v ≡ true → ((j : ℕ) (w : V) → f j ≡ Some w → p w ≡ true → j ≡ i) → find p (listed n f) ≡ Some v
  unfolding listed
  listed_find p v i zero f l e t u = absurd (omega arith)
  listed_find p v i (suc n) f l e t u =
      ⊎_elim
      (λ q.
      let s : i ≡ n = eqb-true i n q in
      find_right p (listed n f) (option_to_list (f n)) (listed_none p n f (only_one p f i n u (omega arith)))
      ∙ ap (λ m. find p (option_to_list (f m))) (sym s) ∙ ap (λ o. find p (option_to_list o)) e ∙ ap (λ b. cond b (Some v) None) t)
      (λ q.
      let s : i ≢ n = eqb-false i n q in
      find_left p v (listed n f) (option_to_list (f n)) (listed_find p v i n f (omega arith) e t u))
      (cases_Bool (i == n))

  -- A row in the place of another.

  put_by_left : (p : V → Bool) (x y v : V) (xs ys : List V) (b : Bool) → (find p xs ≡ Some v → put p x (xs ++ ys) ≡ put p x xs ++ ys) → cond b (Some y) (find p xs) ≡ Some v → (if b then x ∷ (xs ++ ys) else y ∷ put p x (xs ++ ys)) ≡ (if b then x ∷ xs else y ∷ put p x xs) ++ ys
  put_by_left p x y v xs ys true h e = refl
  put_by_left p x y v xs ys false h e = ap (λ l. y ∷ l) (h e)

  pub put_left : (p : V → Bool) (x v : V) (xs ys : List V) → find p xs ≡ Some v → put p x (xs ++ ys) ≡ put p x xs ++ ys
  unfolding put
  put_left p x v [] ys e = cc
  put_left p x v (y ∷ xs) ys e = put_by_left p x y v xs ys (p y) (put_left p x v xs ys) e

  put_by_right : (p : V → Bool) (x y : V) (xs ys : List V) (b : Bool) → (find p xs ≡ None → put p x (xs ++ ys) ≡ xs ++ put p x ys) → cond b (Some y) (find p xs) ≡ None → (if b then x ∷ (xs ++ ys) else y ∷ put p x (xs ++ ys)) ≡ y ∷ (xs ++ put p x ys)
  put_by_right p x y xs ys true h e = cc
  put_by_right p x y xs ys false h e = ap (λ l. y ∷ l) (h e)

  pub put_right : (p : V → Bool) (x : V) (xs ys : List V) → find p xs ≡ None → put p x (xs ++ ys) ≡ xs ++ put p x ys
  unfolding put
  put_right p x [] ys e = refl
  put_right p x (y ∷ xs) ys e = put_by_right p x y xs ys (p y) (put_right p x xs ys) e

  last_by : (p : V → Bool) (x y : V) (xs : List V) (b : Bool) → (find p xs ≡ None → put p x xs ≡ xs ++ x ∷ []) → cond b (Some y) (find p xs) ≡ None → (if b then x ∷ xs else y ∷ put p x xs) ≡ y ∷ (xs ++ x ∷ [])
  last_by p x y xs true h e = cc
  last_by p x y xs false h e = ap (λ l. y ∷ l) (h e)

  -- if none passes, the row goes last
  pub put_last : (p : V → Bool) (x : V) (xs : List V) → find p xs ≡ None → put p x xs ≡ xs ++ x ∷ []
  unfolding put
  put_last p x [] e = refl
  put_last p x (y ∷ xs) e = last_by p x y xs (p y) (put_last p x xs) e

  put_one : (p : V → Bool) (x v : V) → p v ≡ true → put p x (v ∷ []) ≡ x ∷ []
  unfolding put
  put_one p x v t = ap (λ b. if b then x ∷ [] else v ∷ x ∷ []) t

  pub listed_put : (p : V → Bool) (x v : V) (i n : ℕ) (f g : ℕ → Option V) → i < n → f i ≡ Some v → p v ≡ true → ((j : ℕ) (w : V) → f j ≡ Some w → p w ≡ true → j ≡ i) → g i ≡ Some x → ((j : ℕ) → j ≢ i → g j ≡ f j) → put p x (listed n f) ≡ listed n g
  unfolding listed
  listed_put p x v i zero f g l e t u here there = absurd (omega arith)
  listed_put p x v i (suc n) f g l e t u here there =
      ⊎_elim
      (λ q.
      let s : i ≡ n = eqb-true i n q in
      put_right p x (listed n f) (option_to_list (f n)) (listed_none p n f (only_one p f i n u (omega arith)))
      ∙ ap (λ m. listed n f ++ put p x (option_to_list (f m))) (sym s) ∙ ap (λ o. listed n f ++ put p x (option_to_list o)) e
      ∙ ap (λ l. listed n f ++ l) (put_one p x v t)
      ∙ (λ k. same_listed n f g (λ j m. sym (there j (λ (z : j ≡ i). omega (arith, z, s, m)))) k ++ option_to_list ((sym here ∙ ap g s) k)))
      (λ q.
      let s : i ≢ n = eqb-false i n q in
      put_left p x v (listed n f) (option_to_list (f n)) (listed_find p v i n f (omega arith) e t u)
      ∙ (λ k. listed_put p x v i n f g (omega arith) e t u here there k ++ option_to_list (sym (there n (λ (z : n ≡ i). s (sym z))) k)))
      (cases_Bool (i == n))

  -- Rows change in their places.

  one_mapped : (f : V → V) (o : Option V) → option_to_list (option_map f o) ≡ map f (option_to_list o)
  one_mapped f None = refl
  one_mapped f (Some v) = refl

  pub listed_map : (f : V → V) (n : ℕ) (g h : ℕ → Option V) → ((i : ℕ) → i < n → h i ≡ option_map f (g i)) → listed n h ≡ map f (listed n g)
  unfolding listed
  listed_map f zero g h e = refl
  listed_map f (suc n) g h e =
      (λ i. listed_map f n g h (λ j l. e j (omega arith)) i ++ option_to_list (e n (omega arith) i))
      ∙ ap (λ l. map f (listed n g) ++ l) (one_mapped f (g n)) ∙ sym (map-append f (listed n g) (option_to_list (g n)))

  -- The first that passes.

  pub listed_first : (p : V → Bool) (v : V) (i n : ℕ) (f : ℕ → Option V) → i < n → f i ≡ Some v → p v ≡ true → ((j : ℕ) (w : V) → j < i → f j ≡ Some w → p w ≡ false) → find p (listed n f) ≡ Some v
  unfolding listed
  listed_first p v i zero f l e t u = absurd (omega arith)
  listed_first p v i (suc n) f l e t u =
      ⊎_elim
      (λ q.
      let s : i ≡ n = eqb-true i n q in
      find_right p (listed n f) (option_to_list (f n)) (listed_none p n f (λ j w m. u j w (omega (arith, m, s))))
      ∙ ap (λ m. find p (option_to_list (f m))) (sym s) ∙ ap (λ o. find p (option_to_list o)) e ∙ ap (λ b. cond b (Some v) None) t)
      (λ q.
      let s : i ≢ n = eqb-false i n q in
      find_left p v (listed n f) (option_to_list (f n)) (listed_first p v i n f (omega arith) e t u))
      (cases_Bool (i == n))

  -- Whether one passes.

  one_fails : (q : V → Bool) (o : Option V) → ((w : V) → o ≡ Some w → q w ≡ false) → list_any q (option_to_list o) ≡ false
  one_fails q None h = refl
  one_fails q (Some v) h = λ i. h v refl i || false

  pub none_pass : (q : V → Bool) (n : ℕ) (f : ℕ → Option V) → ((j : ℕ) (w : V) → j < n → f j ≡ Some w → q w ≡ false) → list_any q (listed n f) ≡ false
  unfolding listed
  none_pass q zero f h = refl
  none_pass q (suc n) f h =
      list_any-append q (listed n f) (option_to_list (f n)) ∙ (λ i. none_pass q n f (λ j w l. h j w (omega arith)) i || one_fails q (f n) (λ w. h n w (omega arith)) i)

  one_of : (q : V → Bool) (o : Option V) → list_any q (option_to_list o) ≡ true → (v : V) × ((o ≡ Some v) × (q v ≡ true))
  one_of q None h = absurd (true≢false (sym h))
  one_of q (Some v) h = (v, (refl, ⊎_elim (λ t. t) (λ f. absurd (true≢false (sym h ∙ (λ i. f i || false)))) (cases_Bool (q v))))

  -- the place of one that passes
  pub passing : (q : V → Bool) (n : ℕ) (f : ℕ → Option V) → list_any q (listed n f) ≡ true → (i : ℕ) × ((v : V) × ((i < n) × ((f i ≡ Some v) × (q v ≡ true))))
  unfolding listed
  passing q zero f h = absurd (true≢false (sym h))
  passing q (suc n) f h =
      ⊎_elim
      (λ a. let r = passing q n f a in (r.0, (r.1.0, (omega (arith, r.1.1.0), r.1.1.1))))
      (λ a. let r = one_of q (f n) a in (n, (r.0, (omega arith, r.1))))
      (or_cases (list_any q (listed n f)) (list_any q (option_to_list (f n))) (sym (list_any-append q (listed n f) (option_to_list (f n))) ∙ h))

  failing : (q : V → Bool) (v : V) (i n : ℕ) (f : ℕ → Option V) → i < n → f i ≡ Some v → list_any q (listed n f) ≡ false → q v ≡ false
  unfolding listed
  failing q v i zero f l e a = absurd (omega arith)
  failing q v i (suc n) f l e a =
      let b = or_parts (list_any q (listed n f)) (list_any q (option_to_list (f n))) (sym (list_any-append q (listed n f) (option_to_list (f n))) ∙ a) in
      ⊎_elim
      (λ s. (or_parts (q v) false (ap (λ o. list_any q (option_to_list o)) (sym e ∙ ap f (eqb-true i n s)) ∙ b.1)).0)
      (λ s. failing q v i n f (omega (arith, eqb-false i n s)) e b.0)
      (cases_Bool (i == n))

  pub passes_at : (q : V → Bool) (v : V) (i n : ℕ) (f : ℕ → Option V) → i < n → f i ≡ Some v → q v ≡ true → list_any q (listed n f) ≡ true
  passes_at q v i n f l e t =
      ⊎_elim (λ a. a) (λ a. absurd (true≢false (sym t ∙ failing q v i n f l e a))) (cases_Bool (list_any q (listed n f)))

  -- How many there are.

  pub listed_more : (k n : ℕ) (x : V) (f g : ℕ → Option V) → k < n → f k ≡ None → ((i : ℕ) → g i ≡ cond (i == k) (Some x) (f i)) → length (listed n g) ≡ suc (length (listed n f))
  unfolding listed
  listed_more k zero x f g l e h = absurd (omega arith)
  listed_more k (suc n) x f g l e h =
      ⊎_elim
      (λ q.
      let s : k ≡ n = eqb-true k n q in
      let here : g n ≡ Some x = h n ∙ cond-true (n == k) (Some x) (f n) (eq-eqb n k (sym s)) in
      let gone : f n ≡ None = ap f (sym s) ∙ e in
      let same : listed n g ≡ listed n f = same_listed n g f (λ j m. h j ∙ cond-false (j == k) (Some x) (f j) (ne_eqb j k (λ (z : j ≡ k). omega (arith, z, s, m)))) in
      let one : length (listed n f ++ x ∷ []) ≡ length (listed n f) + 1 = length-append (listed n f) (x ∷ []) in
      let none : length (listed n f ++ option_to_list (f n)) ≡ length (listed n f) + 0 = length-append (listed n f) (option_to_list (f n)) ∙ ap (λ o. length (listed n f) + length (option_to_list o)) gone in
      let more : length (listed n f ++ x ∷ []) ≡ suc (length (listed n f ++ option_to_list (f n))) = omega (arith, one, none) in
      (λ i. length (same i ++ option_to_list (here i))) ∙ more)
      (λ q.
      let s : k ≢ n = eqb-false k n q in
      let rest : g n ≡ f n = h n ∙ cond-false (n == k) (Some x) (f n) (ne_eqb n k (λ (z : n ≡ k). s (sym z))) in
      let less : length (listed n g) ≡ suc (length (listed n f)) = listed_more k n x f g (omega arith) e h in
      let left : length (listed n g ++ option_to_list (g n)) ≡ length (listed n g) + length (option_to_list (g n)) = length-append (listed n g) (option_to_list (g n)) in
      let right : length (listed n f ++ option_to_list (f n)) ≡ length (listed n f) + length (option_to_list (f n)) = length-append (listed n f) (option_to_list (f n)) in
      let tails : length (option_to_list (g n)) ≡ length (option_to_list (f n)) = ap (λ o. length (option_to_list o)) rest in
      omega (arith, left, right, tails, less))
      (cases_Bool (k == n))

  pub listed_empty : (n : ℕ) (f : ℕ → Option V) → ((i : ℕ) → f i ≡ None) → listed n f ≡ []
  unfolding listed
  listed_empty zero f h = refl
  listed_empty (suc n) f h = λ i. listed_empty n f h i ++ option_to_list (h n i)

  -- If none passes, a filter of the others leaves all.

  none_by : (q : V → Bool) (x : V) (xs : List V) (b : Bool) → (find q xs ≡ None → filter (λ v. not (q v)) xs ≡ xs) → cond b (Some x) (find q xs) ≡ None → cond (not b) (x ∷ filter (λ v. not (q v)) xs) (filter (λ v. not (q v)) xs) ≡ x ∷ xs
  none_by q x xs true h e = cc
  none_by q x xs false h e = ap (λ l. x ∷ l) (h e)

  pub none_of : (q : V → Bool) (xs : List V) → find q xs ≡ None → filter (λ v. not (q v)) xs ≡ xs
  none_of q [] e = refl
  none_of q (x ∷ xs) e = none_by q x xs (q x) (none_of q xs) e
