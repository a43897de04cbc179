-- Queues and sets of numbers beside the rows, after each change of the rows.
use Rattle.std.proofs.Common.{◌≡◌, ℕ, Bool, true, false, cond, if◌then◌else◌, List, [], ◌∷◌, ◌++◌, map, filter, drop, drop-cons, get_or, length, add-one, ◌<◌, ◌+◌, refl, sym, ap, subst, ◌∙◌, ⊎_elim, true≢false, arith}
use Rattle.std.specs.Prelude.{find, not, is_some, is_err, slice_get, Some, None, Result, Ok, Err, OnOk, OnErr, ◌==◌, ◌&&◌, ◌||◌}
use Rattle.std.specs.List.{list_any}
use Rattle.std.proofs.lemmas.Bool.{and_parts, or_cases, or_left, or_right, eqb-true, eq-eqb}
use Rattle.std.proofs.lemmas.List.{map-append}
use Rattle.std.proofs.lemmas.List.Elements.{filter-append}
use Rattle.std.proofs.lemmas.List.Folds.{list_any-append}
use Rattle.st_rules.specs.Keys.{put, rising}
use Rattle.st_tables.specs.declared.keys.Key.{Key}
use Rattle.st_tables.specs.Tables.{first_of, second_of, has_key, is_among, is_first, same_key}
use Rattle.st_tables.specs.Indexes.{AreOwned, AreQueued, Forgets, Gains, Joins, Leaves, Loses, has}
use Rattle.st_tables.proofs.RowLists.{none_of, put_last}
use Rattle.st_tables.proofs.Places.{key_on, key_is, same_is}
use Rattle.st_tables.proofs.RisingKeys.{any_map_filter, any_same, rising_same}
use Rattle.st_tables.proofs.Counts.{filter_tests, filter_twice}

append_nil : {A : Type 0} (xs : List A) → xs ++ [] ≡ xs
append_nil [] = refl
append_nil (x ∷ xs) = ap (λ l. x ∷ l) (append_nil xs)

eq_turn : (a b : ℕ) → (a == b) ≡ (b == a)
eq_turn a b = grind arith

pub or_none : (b : Bool) → b || false ≡ b
or_none true = refl
or_none false = refl

and_none : (b : Bool) → b && false ≡ false
and_none true = refl
and_none false = refl

-- Lists.

module _ {V : Type 0} where
  -- what is reported about the rows that pass, in two lists that differ in one row about which the same is reported
  told_by : (p : V → Bool) (f : V → ℕ) (x y : V) (xs : List V) → p x ≡ p y → f x ≡ f y → map f (cond (p x) (x ∷ xs) xs) ≡ map f (cond (p y) (y ∷ xs) xs)
  told_by p f x y xs e g = by (p y) e
    where
      by : (b : Bool) → p x ≡ b → map f (cond (p x) (x ∷ xs) xs) ≡ map f (cond b (y ∷ xs) xs)
      by true h = ap (λ c. map f (cond c (x ∷ xs) xs)) h ∙ ap (λ n. n ∷ map f xs) g
      by false h = ap (λ c. map f (cond c (x ∷ xs) xs)) h

  told_front : (p : V → Bool) (f : V → ℕ) (x : V) (xs ys : List V) → map f (filter p xs) ≡ map f (filter p ys) →
      map f (cond (p x) (x ∷ filter p xs) (filter p xs)) ≡ map f (cond (p x) (x ∷ filter p ys) (filter p ys))
  told_front p f x xs ys e = by (p x)
    where
      by : (b : Bool) → map f (cond b (x ∷ filter p xs) (filter p xs)) ≡ map f (cond b (x ∷ filter p ys) (filter p ys))
      by true = ap (λ l. f x ∷ l) e
      by false = e

  -- a row in the place of another with the same keys
  pub told_over : (q p : V → Bool) (f : V → ℕ) (x : V) → ((y : V) → q y ≡ true → (p x ≡ p y) × (f x ≡ f y)) → (xs : List V) → is_some (find q xs) ≡ true →
      map f (filter p (put q x xs)) ≡ map f (filter p xs)
  unfolding put
  told_over q p f x h [] s = absurd (true≢false (sym s))
  told_over q p f x h (y ∷ ys) s = by (q y) refl (told_over q p f x h ys) s
    where
      by : (b : Bool) → q y ≡ b → (is_some (find q ys) ≡ true → map f (filter p (put q x ys)) ≡ map f (filter p ys)) →
          is_some (cond b (Some y) (find q ys)) ≡ true → map f (filter p (if b then x ∷ ys else y ∷ put q x ys)) ≡ map f (filter p (y ∷ ys))
      by true e r s = told_by p f x y (filter p ys) (h y e).0 (h y e).1
      by false e r s = told_front p f y (put q x ys) ys (r s)

  -- rows that change, of which the same is told
  pub told_map : (p : V → Bool) (f : V → ℕ) (g : V → V) → ((y : V) → (p (g y) ≡ p y) × (f (g y) ≡ f y)) → (xs : List V) →
      map f (filter p (map g xs)) ≡ map f (filter p xs)
  told_map p f g h [] = refl
  told_map p f g h (x ∷ xs) = told_by p f (g x) x (filter p (map g xs)) (h x).0 (h x).1 ∙ told_front p f x (map g xs) xs (told_map p f g h xs)

  -- rows that go, by what is reported about them
  pub told_gone : (p r : V → Bool) (f : V → ℕ) (t : ℕ → Bool) → ((x : V) → p x ≡ true → r x ≡ t (f x)) → (xs : List V) →
      map f (filter p (filter r xs)) ≡ filter t (map f (filter p xs))
  told_gone p r f t h [] = refl
  told_gone p r f t h (x ∷ xs) = by (p x) (r x) refl refl (told_gone p r f t h xs)
    where
      by : (b c : Bool) → p x ≡ b → r x ≡ c → map f (filter p (filter r xs)) ≡ filter t (map f (filter p xs)) →
          map f (filter p (cond c (x ∷ filter r xs) (filter r xs))) ≡ filter t (map f (cond b (x ∷ filter p xs) (filter p xs)))
      by true true e g k =
          ap (λ d. map f (cond d (x ∷ filter p (filter r xs)) (filter p (filter r xs)))) e ∙ ap (λ l. f x ∷ l) (k)
          ∙ ap (λ d. cond d (f x ∷ filter t (map f (filter p xs))) (filter t (map f (filter p xs)))) (sym g ∙ h x e)
      by true false e g k = k ∙ ap (λ d. cond d (f x ∷ filter t (map f (filter p xs))) (filter t (map f (filter p xs)))) (sym g ∙ h x e)
      by false true e g k = ap (λ d. map f (cond d (x ∷ filter p (filter r xs)) (filter p (filter r xs)))) e ∙ k
      by false false e g k = k

  -- whether a row passes, in lists that differ

  pub any_over : (q p : V → Bool) (x : V) → ((y : V) → q y ≡ true → p x ≡ p y) → (xs : List V) → is_some (find q xs) ≡ true →
      list_any p (put q x xs) ≡ list_any p xs
  unfolding put
  any_over q p x h [] s = absurd (true≢false (sym s))
  any_over q p x h (y ∷ ys) s = by (q y) refl (any_over q p x h ys) s
    where
      by : (b : Bool) → q y ≡ b → (is_some (find q ys) ≡ true → list_any p (put q x ys) ≡ list_any p ys) → is_some (cond b (Some y) (find q ys)) ≡ true →
          list_any p (if b then x ∷ ys else y ∷ put q x ys) ≡ p y || list_any p ys
      by true e r s = ap (λ b. b || list_any p ys) (h y e)
      by false e r s = ap (λ b. p y || b) (r s)

  pub any_map : (p : V → Bool) (g : V → V) → ((y : V) → p (g y) ≡ p y) → (xs : List V) → list_any p (map g xs) ≡ list_any p xs
  any_map p g h [] = refl
  any_map p g h (x ∷ xs) = λ i. h x i || any_map p g h xs i

  pub any_gone : (p r : V → Bool) (b : Bool) → ((x : V) → p x ≡ true → r x ≡ b) → (xs : List V) → list_any p (filter r xs) ≡ list_any p xs && b
  any_gone p r b h [] = refl
  any_gone p r b h (x ∷ xs) = by (p x) (r x) b refl refl refl (any_gone p r b h xs)
    where
      by : (c d e : Bool) → p x ≡ c → r x ≡ d → b ≡ e → list_any p (filter r xs) ≡ list_any p xs && b →
          list_any p (cond d (x ∷ filter r xs) (filter r xs)) ≡ (c || list_any p xs) && b
      by true true e q g z rest = ap (λ a. a || list_any p (filter r xs)) q ∙ sym (sym (h x q) ∙ g)
      by true false true q g z rest = absurd (true≢false (sym z ∙ sym (h x q) ∙ g))
      by true false false q g z rest = rest ∙ ap (λ a. list_any p xs && a) z ∙ and_none (list_any p xs) ∙ sym z
      by false true e q g z rest = ap (λ a. a || list_any p (filter r xs)) q ∙ rest
      by false false e q g z rest = rest

  -- what passes one test passes another
  pub any_so : (p q : V → Bool) → ((x : V) → p x ≡ true → q x ≡ true) → (xs : List V) → list_any p xs ≡ true → list_any q xs ≡ true
  any_so p q h [] e = e
  any_so p q h (x ∷ xs) e = ⊎_elim (λ t. or_left (q x) (list_any q xs) (h x t)) (λ t. or_right (q x) (list_any q xs) (any_so p q h xs t))
      (or_cases (p x) (list_any p xs) e)

  one_by : (p : V → Bool) (x : V) (xs : List V) (b : Bool) → p x ≡ b →
      (list_any p xs ≡ true → (y : V) × ((p y ≡ true) × ((w : V → Bool) → w y ≡ true → list_any w xs ≡ true))) → b || list_any p xs ≡ true
      → (y : V) × ((p y ≡ true) × ((w : V → Bool) → w y ≡ true → list_any w (x ∷ xs) ≡ true))
  one_by p x xs true q h e = (x, (q, λ w t. or_left (w x) (list_any w xs) t))
  one_by p x xs false q h e = let r = h e in (r.0, (r.1.0, λ w t. or_right (w x) (list_any w xs) (r.1.1 w t)))

  -- one that passes, and what passes at it
  pub some_one : (p : V → Bool) (xs : List V) → list_any p xs ≡ true → (y : V) × ((p y ≡ true) × ((w : V → Bool) → w y ≡ true → list_any w xs ≡ true))
  some_one p [] e = absurd (true≢false (sym e))
  some_one p (x ∷ xs) e = one_by p x xs (p x) refl (some_one p xs) e

  any_told : (p : V → Bool) (f : V → ℕ) (t : ℕ → Bool) (xs : List V) → list_any t (map f (filter p xs)) ≡ list_any (λ x. p x && t (f x)) xs
  any_told p f t [] = refl
  any_told p f t (x ∷ xs) = by (p x) (any_told p f t xs)
    where
      by : (b : Bool) → list_any t (map f (filter p xs)) ≡ list_any (λ x. p x && t (f x)) xs →
          list_any t (map f (cond b (x ∷ filter p xs) (filter p xs))) ≡ (b && t (f x)) || list_any (λ x. p x && t (f x)) xs
      by true r = ap (λ b. t (f x) || b) r
      by false r = r

  none_pass : (p : V → Bool) (xs : List V) → list_any p xs ≡ false → filter p xs ≡ []
  none_pass p [] e = refl
  none_pass p (x ∷ xs) e = by (p x) (none_pass p xs) e
    where
      by : (b : Bool) → (list_any p xs ≡ false → filter p xs ≡ []) → b || list_any p xs ≡ false → cond b (x ∷ filter p xs) (filter p xs) ≡ []
      by true r e = absurd (true≢false e)
      by false r e = r e

  -- a row that was put last, and goes
  pub put_back : (p : V → Bool) (x : V) (xs : List V) → p x ≡ true → find p xs ≡ None → filter (λ v. not (p v)) (put p x xs) ≡ xs
  put_back p x xs e n =
      ap (filter (λ v. not (p v))) (put_last p x xs n) ∙ filter-append (λ v. not (p v)) xs (x ∷ [])
      ∙ (λ i. none_of p xs n i ++ cond (not (e i)) (x ∷ []) []) ∙ append_nil xs

-- a list from a place on
pub drop_one : (xs : List ℕ) (i : ℕ) → i < length xs → drop i xs ≡ get_or xs i 0 ∷ drop (i + 1) xs
drop_one xs i l = drop-cons xs i 0 l ∙ ap (λ n. get_or xs i 0 ∷ drop n xs) (sym (add-one i))

-- what a call that failed, or was done, ensures

pub failed : {A E X : Type 0} (r : Result A E) (b : Bool) → b ≡ is_err r → b ≡ true → OnErr r X → X
failed (Ok a) b e f h = absurd (true≢false (sym f ∙ e))
failed (Err x) b e f h = h

pub done : {A E X : Type 0} (r : Result A E) (b : Bool) → b ≡ is_err r → b ≡ false → OnOk r X → X
done (Ok a) b e f h = h
done (Err x) b e f h = absurd (true≢false (sym e ∙ f))

pub either_way : {A E Z : Type 0} (P : Z → Type 0) (r : Result A E) (new old next : Z) → OnOk r (new ≡ next) → OnErr r (new ≡ old) → P next → P old → P new
either_way P (Ok a) new old next h g p q = subst P (sym h) p
either_way P (Err x) new old next h g p q = subst P (sym g) q

both : (a b : Bool) → (a ≡ true → b ≡ true) → (b ≡ true → a ≡ true) → a ≡ b
both true b f g = sym (f refl)
both false true f g = g refl
both false false f g = refl

module _ {V : Type 0} (key : V → Key) where
  -- the row's key has this second number
  abbrev pub on : ℕ → V → Bool
  on n v = second_of key v == n

  -- Queues.

  one_more : (x : V) (n : ℕ) → map (first_of key) (filter (on n) (x ∷ [])) ≡ (if second_of key x == n then first_of key x ∷ [] else [])
  one_more x n = by (second_of key x == n)
    where
      by : (b : Bool) → map (first_of key) (cond b (x ∷ []) []) ≡ (if b then first_of key x ∷ [] else [])
      by true = refl
      by false = refl

  pub queued_new : (rows : List V) (old new : ℕ → List ℕ) (x : V) (k : Key) → k ≡ key x → AreQueued key rows old → find (has_key key k) rows ≡ None →
      Joins k.second k.first old new → AreQueued key (put (has_key key (key x)) x rows) new
  queued_new rows old new x k e q none j n =
      let z : put (has_key key (key x)) x rows ≡ rows ++ x ∷ [] =
      put_last (has_key key (key x)) x rows (subst (λ y. find (has_key key y) rows ≡ None) e none) in
      j n ∙ (λ i. q n i ++ (if (e i).second == n then (e i).first ∷ [] else [])) ∙ ap (λ l. map (first_of key) (filter (on n) rows) ++ l) (sym (one_more x n))
      ∙ sym (map-append (first_of key) (filter (on n) rows) (filter (on n) (x ∷ []))) ∙ ap (map (first_of key)) (sym (filter-append (on n) rows (x ∷ [])))
      ∙ ap (λ l. map (first_of key) (filter (on n) l)) (sym z)

  pub queued_over : (rows : List V) (queue : ℕ → List ℕ) (x : V) (k : Key) → k ≡ key x → AreQueued key rows queue → is_some (find (has_key key k) rows) ≡ true →
      AreQueued key (put (has_key key (key x)) x rows) queue
  queued_over rows queue x k e q some n =
      q n
      ∙ sym (told_over (has_key key (key x)) (on n) (first_of key) x
      (λ y h. (ap (λ z. z.second == n) (sym (key_is (key y) (key x) h)), ap (λ z. z.first) (sym (key_is (key y) (key x) h)))) rows
      (subst (λ y. is_some (find (has_key key y) rows) ≡ true) e some))

  pub queued_map : (rows : List V) (queue : ℕ → List ℕ) (g : V → V) → ((y : V) → key (g y) ≡ key y) → AreQueued key rows queue →
      AreQueued key (map g rows) queue
  queued_map rows queue g h q n = q n ∙ sym (told_map (on n) (first_of key) g (λ y. (ap (λ z. z.second == n) (h y), ap (λ z. z.first) (h y))) rows)

  leaves_by : (number : ℕ) (xs : List ℕ) (b : Bool) → (if b then filter (λ k. not (k == number)) xs else xs) ≡ filter (λ k. not (b && (k == number))) xs
  leaves_by number xs true = refl
  leaves_by number xs false = sym (filter_yes xs)
    where
      filter_yes : (ys : List ℕ) → filter (λ k. not (false && (k == number))) ys ≡ ys
      filter_yes [] = refl
      filter_yes (y ∷ ys) = ap (λ l. y ∷ l) (filter_yes ys)

  pub queued_gone : (rows : List V) (old new : ℕ → List ℕ) (k : Key) → AreQueued key rows old → Leaves k.second k.first old new →
      AreQueued key (filter (λ v. not (has_key key k v)) rows) new
  queued_gone rows old new k q l n =
      l n ∙ leaves_by k.first (old n) (k.second == n) ∙ ap (filter (λ f. not ((k.second == n) && (f == k.first)))) (q n)
      ∙ sym (told_gone (on n) (λ v. not (has_key key k v)) (first_of key) (λ f. not ((k.second == n) && (f == k.first))) (λ x e. ap not (same x e)) rows)
    where
      turn : (a b : Bool) → a && b ≡ b && a
      turn true true = refl
      turn true false = refl
      turn false true = refl
      turn false false = refl

      same : (x : V) → on n x ≡ true → has_key key k x ≡ (k.second == n) && (first_of key x == k.first)
      same x e =
          let z : (key x).second ≡ n = eqb-true (key x).second n e in
          ap (λ m. ((key x).first == k.first) && (m == k.second)) z ∙ ap (λ b. ((key x).first == k.first) && b) (eq_turn n k.second) ∙
          turn ((key x).first == k.first) (k.second == n)

  -- the first row on a number is that of the first one in the queue

  none_by : (n : ℕ) (x : V) (xs : List V) (b : Bool) → (None ≡ slice_get (map (first_of key) (filter (on n) xs)) 0 → find (on n) xs ≡ None) →
      None ≡ slice_get (map (first_of key) (cond b (x ∷ filter (on n) xs) (filter (on n) xs))) 0 → cond b (Some x) (find (on n) xs) ≡ None
  none_by n x xs true r e = cc
  none_by n x xs false r e = r e

  pub none_on : (n : ℕ) (rows : List V) → None ≡ slice_get (map (first_of key) (filter (on n) rows)) 0 → find (on n) rows ≡ None
  none_on n [] e = refl
  none_on n (x ∷ xs) e = none_by n x xs (on n x) (none_on n xs) e

  first_by : (n c : ℕ) (x : V) (xs : List V) (b : Bool) → on n x ≡ b →
      (Some c ≡ slice_get (map (first_of key) (filter (on n) xs)) 0 → find (has_key key (key_on c n)) xs ≡ find (on n) xs)
      → Some c ≡ slice_get (map (first_of key) (cond b (x ∷ filter (on n) xs) (filter (on n) xs))) 0 →
      cond (has_key key (key_on c n) x) (Some x) (find (has_key key (key_on c n)) xs) ≡ cond b (Some x) (find (on n) xs)
  first_by n c x xs true q h e =
      let z : c ≡ first_of key x = cc in
      ap (λ b. cond b (Some x) (find (has_key key (key_on c n)) xs)) (λ i. eq-eqb (key x).first c (sym z) i && q i)
  first_by n c x xs false q h e = ap (λ b. cond b (Some x) (find (has_key key (key_on c n)) xs))
      (ap (λ b. ((key x).first == c) && b) q ∙ and_none ((key x).first == c)) ∙ h e

  pub first_on : (n c : ℕ) (rows : List V) → Some c ≡ slice_get (map (first_of key) (filter (on n) rows)) 0 →
      find (has_key key (key_on c n)) rows ≡ find (on n) rows
  first_on n c [] e = cc
  first_on n c (x ∷ xs) e = first_by n c x xs (on n x) refl (first_on n c xs) e

  -- a row on a number passes if one does that is looked for by a first number of the queue

  module _ (n : ℕ) (p : V → Bool) (rows : List V) where
    -- a look at one of the queue
    abbrev pub seen : ℕ → Bool
    seen c = list_any (λ v. has_key key (key_on c n) v && p v) rows

    to_row : (cs : List ℕ) → list_any seen cs ≡ true → list_any (is_among key n p) rows ≡ true
    to_row [] e = absurd (true≢false (sym e))
    to_row (c ∷ cs) e =
        ⊎_elim
        (any_so (λ v. has_key key (key_on c n) v && p v) (is_among key n p)
        (λ v h. let a = and_parts (has_key key (key_on c n) v) (p v) h in λ i. (and_parts ((key v).first == c) ((key v).second == n) a.0).1 i && a.1 i)
        rows)
        (to_row cs)
        (or_cases (seen c) (list_any seen cs) e)

    to_queue : list_any (is_among key n p) rows ≡ true → list_any seen (map (first_of key) (filter (on n) rows)) ≡ true
    to_queue e =
        let y = some_one (is_among key n p) rows e in
        let a = and_parts (on n y.0) (p y.0) y.1.0 in
        let own : has_key key (key_on (first_of key y.0) n) y.0 ≡ true = λ i. eq-eqb (key y.0).first (key y.0).first refl i && a.0 i in
        let found : seen (first_of key y.0) ≡ true = y.1.1 (λ v. has_key key (key_on (first_of key y.0) n) v && p v) (λ i. own i && a.1 i) in
        any_told (on n) (first_of key) seen rows ∙ y.1.1 (λ x. on n x && seen (first_of key x)) (λ i. a.0 i && found i)

    pub any_seen : list_any seen (map (first_of key) (filter (on n) rows)) ≡ list_any (is_among key n p) rows
    any_seen = both (list_any seen (map (first_of key) (filter (on n) rows))) (list_any (is_among key n p) rows)
        (to_row (map (first_of key) (filter (on n) rows))) to_queue

    -- whoever is not in the queue has no row on the number
    pub unseen : (c : ℕ) → list_any (λ k. k == c) (map (first_of key) (filter (on n) rows)) ≡ false → seen c ≡ false
    unseen c e = by (seen c) refl
      where
        turn : (a b d : Bool) → (a && b) && d ≡ true → b && a ≡ true
        turn true true d h = refl
        turn true false d h = h
        turn false b d h = absurd (true≢false (sym h))

        by : (b : Bool) → seen c ≡ b → b ≡ false
        by true h =
            absurd (true≢false (sym (any_told (on n) (first_of key) (λ k. k == c) rows
            ∙ any_so (λ v. has_key key (key_on c n) v && p v) (λ v. on n v && (first_of key v == c))
            (λ v t. turn ((key v).first == c) ((key v).second == n) (p v) t) rows h) ∙ e))
        by false h = refl

    pub none_seen : [] ≡ map (first_of key) (filter (on n) rows) → filter (is_among key n p) rows ≡ []
    none_seen e = none_pass (is_among key n p) rows (sym any_seen ∙ ap (list_any seen) (sym e))

  -- Sets.

  pub owned_new : (rows : List V) (old new : ℕ → List ℕ) (x : V) (k : Key) → k ≡ key x → AreOwned key rows old → find (has_key key k) rows ≡ None →
      Gains k.first k.second old new → AreOwned key (put (has_key key (key x)) x rows) new
  owned_new rows old new x k e o none j c s =
      let z : put (has_key key (key x)) x rows ≡ rows ++ x ∷ [] =
      put_last (has_key key (key x)) x rows (subst (λ y. find (has_key key y) rows ≡ None) e none) in
      j c s ∙ (λ i. o c s i || (((e i).first == c) && ((e i).second == s))) ∙
      ap (λ b. list_any (has_key key (key_on c s)) rows || b) (sym (or_none (has_key key (key_on c s) x)))
      ∙ sym (list_any-append (has_key key (key_on c s)) rows (x ∷ [])) ∙ ap (list_any (has_key key (key_on c s))) (sym z)

  pub owned_over : (rows : List V) (owned : ℕ → List ℕ) (x : V) (k : Key) → k ≡ key x → AreOwned key rows owned → is_some (find (has_key key k) rows) ≡ true →
      AreOwned key (put (has_key key (key x)) x rows) owned
  owned_over rows owned x k e o some c s =
      o c s
      ∙ sym (any_over (has_key key (key x)) (has_key key (key_on c s)) x (λ y h. ap (λ z. same_key z (key_on c s)) (sym (key_is (key y) (key x) h))) rows
      (subst (λ y. is_some (find (has_key key y) rows) ≡ true) e some))

  pub owned_map : (rows : List V) (owned : ℕ → List ℕ) (g : V → V) → ((y : V) → key (g y) ≡ key y) → AreOwned key rows owned → AreOwned key (map g rows) owned
  owned_map rows owned g h o c s = o c s ∙ sym (any_map (has_key key (key_on c s)) g (λ y. ap (λ z. same_key z (key_on c s)) (h y)) rows)

  pub owned_gone : (rows : List V) (old new : ℕ → List ℕ) (k : Key) → AreOwned key rows old → Loses k.first k.second old new →
      AreOwned key (filter (λ v. not (has_key key k v)) rows) new
  owned_gone rows old new k o l c s =
      l c s ∙ ap (λ b. b && not ((k.first == c) && (k.second == s))) (o c s)
      ∙ sym (any_gone (has_key key (key_on c s)) (λ v. not (has_key key k v)) (not ((k.first == c) && (k.second == s))) (λ x e. ap not (same x e)) rows)
    where
      same : (x : V) → has_key key (key_on c s) x ≡ true → has_key key k x ≡ (k.first == c) && (k.second == s)
      same x e = ap (λ z. same_key z k) (key_is (key x) (key_on c s) e) ∙ (λ i. eq_turn c k.first i && eq_turn s k.second i)

  pub owned_forgotten : (rows : List V) (old new : ℕ → List ℕ) (f : ℕ) → AreOwned key rows old → Forgets f old new →
      AreOwned key (filter (λ v. not (is_first key f v)) rows) new
  owned_forgotten rows old new f o l c s =
      l c s ∙ ap (λ b. b && not (f == c)) (o c s)
      ∙ sym (any_gone (has_key key (key_on c s)) (λ v. not (is_first key f v)) (not (f == c)) (λ x e. ap not (same x e)) rows)
    where
      same : (x : V) → has_key key (key_on c s) x ≡ true → is_first key f x ≡ (f == c)
      same x e = ap (λ z. z.first == f) (key_is (key x) (key_on c s) e) ∙ eq_turn c f

  -- a row that is written over the one with its key
  pub written_key : (x y : V) → key (if has_key key (key x) y then x else y) ≡ key y
  written_key x y = by (has_key key (key x) y) refl
    where
      by : (b : Bool) → has_key key (key x) y ≡ b → key (if b then x else y) ≡ key y
      by true q = sym (key_is (key y) (key x) q)
      by false q = refl

  -- what was noted of a row that is not put

  back : (rows : List V) (x : V) (k : Key) → k ≡ key x → find (has_key key k) rows ≡ None →
      filter (λ v. not (has_key key k v)) (put (has_key key (key x)) x rows) ≡ rows
  back rows x k e none = subst (λ z. filter (λ v. not (has_key key k v)) (put (has_key key z) x rows) ≡ rows) e
      (put_back (has_key key k) x rows (ap (λ z. same_key z k) (sym e) ∙ same_is k) none)

  pub owned_back : (rows : List V) (old mid new : ℕ → List ℕ) (x : V) (k : Key) → k ≡ key x → AreOwned key rows old → find (has_key key k) rows ≡ None →
      Gains k.first k.second old mid → Loses k.first k.second mid new → AreOwned key rows new
  owned_back rows old mid new x k e o none g l = subst (λ xs. AreOwned key xs new) (back rows x k e none)
      (owned_gone (put (has_key key (key x)) x rows) mid new k (owned_new rows old mid x k e o none g) l)

  pub queued_back : (rows : List V) (old mid new : ℕ → List ℕ) (x : V) (k : Key) → k ≡ key x → AreQueued key rows old → find (has_key key k) rows ≡ None →
      Joins k.second k.first old mid → Leaves k.second k.first mid new → AreQueued key rows new
  queued_back rows old mid new x k e q none j l = subst (λ xs. AreQueued key xs new) (back rows x k e none)
      (queued_gone (put (has_key key (key x)) x rows) mid new k (queued_new rows old mid x k e q none j) l)

  -- a client's rows go, one after another

  abbrev pub is_gone : ℕ → List ℕ → V → Bool
  is_gone f ss v = is_first key f v && has (second_of key v) ss

  pub one_gone : (f s : ℕ) (ss : List ℕ) (rows : List V) →
      filter (λ v. not (is_gone f ss v)) (filter (λ v. not (has_key key (key_on f s) v)) rows) ≡ filter (λ v. not (is_gone f (s ∷ ss) v)) rows
  one_gone f s ss rows =
      filter_twice (λ v. not (is_gone f ss v)) (λ v. not (has_key key (key_on f s) v)) rows
      ∙ filter_tests _ (λ v. not (is_gone f (s ∷ ss) v)) rows (λ v. more (is_first key f v) (second_of key v == s) (has (second_of key v) ss))
    where
      more : (a b c : Bool) → not (a && b) && not (a && c) ≡ not (a && (b || c))
      more true true c = refl
      more true false c = refl
      more false b c = refl

  pub none_gone : (f : ℕ) (rows : List V) → rows ≡ filter (λ v. not (is_gone f [] v)) rows
  none_gone f [] = refl
  none_gone f (x ∷ xs) = λ i. cond (not (sym (and_none (is_first key f x)) i)) (x ∷ none_gone f xs i) (none_gone f xs i)

  -- the rows of which a client's set tells are all of the client's

  pub all_told : (f : ℕ) (ss : List ℕ) (rows : List V) → ((s : ℕ) → has s ss ≡ list_any (has_key key (key_on f s)) rows) →
      filter (λ v. not (is_gone f ss v)) rows ≡ filter (λ v. not (is_first key f v)) rows
  all_told f ss rows o = from rows (λ q h. h)
    where
      told : (x : V) → list_any (has_key key (key x)) rows ≡ true → is_gone f ss x ≡ is_first key f x
      told x h = by (is_first key f x) refl
        where
          by : (b : Bool) → is_first key f x ≡ b → b && has (second_of key x) ss ≡ b
          by true e = o (second_of key x) ∙ ap (λ c. list_any (has_key key (key_on c (second_of key x))) rows) (sym (eqb-true (key x).first f e)) ∙ h
          by false e = refl

      from : (xs : List V) → ((q : V → Bool) → list_any q xs ≡ true → list_any q rows ≡ true) →
          filter (λ v. not (is_gone f ss v)) xs ≡ filter (λ v. not (is_first key f v)) xs
      from [] s = refl
      from (x ∷ xs) s =
          let e = told x (s (has_key key (key x)) (or_left (has_key key (key x) x) (list_any (has_key key (key x)) xs) (same_is (key x)))) in
          let r = from xs (λ q h. s q (or_right (q x) (list_any q xs) h)) in
          λ i. cond (not (e i)) (x ∷ r i) (r i)

  -- a row of a client passes if one does that is looked for by a number of the set

  module _ (f : ℕ) (p : V → Bool) (rows : List V) where
    -- a look at one of the set
    abbrev pub met : ℕ → Bool
    met s = list_any (λ v. has_key key (key_on f s) v && p v) rows

    met_row : (xs : List ℕ) → list_any met xs ≡ true → list_any (λ v. is_first key f v && p v) rows ≡ true
    met_row [] e = absurd (true≢false (sym e))
    met_row (s ∷ xs) e =
        ⊎_elim
        (any_so (λ v. has_key key (key_on f s) v && p v) (λ v. is_first key f v && p v)
        (λ v h. let a = and_parts (has_key key (key_on f s) v) (p v) h in λ i. (and_parts ((key v).first == f) ((key v).second == s) a.0).0 i && a.1 i)
        rows)
        (met_row xs)
        (or_cases (met s) (list_any met xs) e)

    row_met : (ss : List ℕ) → ((s : ℕ) → has s ss ≡ list_any (has_key key (key_on f s)) rows) → list_any (λ v. is_first key f v && p v) rows ≡ true →
        list_any met ss ≡ true
    row_met ss o e =
        let y = some_one (λ v. is_first key f v && p v) rows e in
        let a = and_parts (is_first key f y.0) (p y.0) y.1.0 in
        let own : has_key key (key_on f (second_of key y.0)) y.0 ≡ true = λ i. a.0 i && eq-eqb (second_of key y.0) (second_of key y.0) refl i in
        let there : has (second_of key y.0) ss ≡ true = o (second_of key y.0) ∙ y.1.1 (has_key key (key_on f (second_of key y.0))) own in
        let k = some_one (λ k. second_of key y.0 == k) ss there in
        k.1.1 met
        (subst (λ s. met s ≡ true) (eqb-true (second_of key y.0) k.0 k.1.0)
        (y.1.1 (λ v. has_key key (key_on f (second_of key y.0)) v && p v) (λ i. own i && a.1 i)))

    pub any_met : (ss : List ℕ) → ((s : ℕ) → has s ss ≡ list_any (has_key key (key_on f s)) rows) →
        list_any met ss ≡ list_any (λ v. is_first key f v && p v) rows
    any_met ss o = both (list_any met ss) (list_any (λ v. is_first key f v && p v) rows) (met_row ss) (row_met ss o)

  -- a client's numbers in rising order
  pub rising_owned : (f : ℕ) (rows : List V) (ss : List ℕ) → ((s : ℕ) → has s ss ≡ list_any (has_key key (key_on f s)) rows) →
      rising ss ≡ rising (map (second_of key) (filter (is_first key f) rows))
  rising_owned f rows ss o =
      rising_same ss (map (second_of key) (filter (is_first key f) rows))
      (λ s. any_same (λ k. k == s) (λ k. s == k) ss (λ k. eq_turn k s) ∙ o s ∙ sym (any_map_filter (second_of key) (is_first key f) s rows))
