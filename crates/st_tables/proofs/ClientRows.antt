-- The rows of clients from 1 to 16: what holds after each change, and what 16 looks find.
use Rattle.std.proofs.Common.{◌≡◌, ℕ, ◌+◌, ◌<◌, ◌≤◌, Bool, true, false, cond, if◌then◌else◌, List, [], ◌∷◌, map, filter, length, refl, sym, ap, subst, ◌∙◌, ⊎_elim, true≢false, arith}
use Rattle.std.specs.Prelude.{find, not, is_some, nat_le, slice_index_or, Option, Some, None, ◌==◌, ◌&&◌, ◌||◌}
use Rattle.std.specs.List.{IsDistinct, list_all, list_any}
use Rattle.std.proofs.lemmas.Bool.{cases_Bool, and_parts, eqb-true, eqb-false, eq-eqb, ne_eqb, leb-true, leb-false, le-leb, lt-leb}
use Rattle.st_rules.specs.Keys.{rising, put}
use Rattle.st_tables.specs.declared.keys.Key.{Key}
use Rattle.st_tables.specs.Tables.{same_key, has_key, is_client, is_first, is_of_client, is_on, is_among, first_of, IsCounted}
use Rattle.st_tables.proofs.Places.{key_on, key_is}
use Rattle.st_tables.proofs.Counts.{one_if, length_kept, count_new, count_over, count_map, count_gone, all_put, all_filter, all_map, filter_agree, filter_every, filter_twice, filter_tests, find_agree, of_key}
use Rattle.st_tables.proofs.RisingKeys.{numbers, Within, rising_probed, any_map_filter, any_same, filter_same_tests, some_in, some_filter, some_map, some_rising}

module _ {V : Type 0} (key : V → Key) where
  of_first : (k : Key) (c : ℕ) (y x : V) → has_key key k y ≡ true → k ≡ key x → is_first key c y ≡ is_first key c x
  of_first k c y x h e = ap (λ z. z.first == c) (key_is (key y) k h ∙ e)

  eq_turn : (a b : ℕ) → (a == b) ≡ (b == a)
  eq_turn a b = grind arith

  -- a new row is counted
  pub counted_new : (rows : List V) (olds news : List ℕ) (x : V) (k : Key) → k ≡ key x → IsCounted key rows olds → find (has_key key k) rows ≡ None → is_of_client key x ≡ true
      → ((c : ℕ) → c < 17 → slice_index_or news c 0 ≡ slice_index_or olds c 0 + (if c == k.first then 1 else 0)) → IsCounted key (put (has_key key (key x)) x rows) news
  counted_new rows olds news x k e is none of up = record {
    clients = all_put (is_of_client key) (has_key key (key x)) x rows is.clients of;
    counted = λ c l.
        let a : length (filter (is_first key c) (put (has_key key (key x)) x rows)) ≡ length (filter (is_first key c) rows) + one_if (is_first key c x) =
        count_new (has_key key (key x)) (is_first key c) x rows (subst (λ z. find (has_key key z) rows ≡ None) e none) in
        up c l ∙ (λ i. is.counted c l i + one_if ((eq_turn c k.first ∙ ap (λ z. z.first == c) e) i)) ∙ sym a;
  }

  -- a row in the place of another changes no count
  pub counted_over : (rows : List V) (olds : List ℕ) (x : V) (k : Key) → k ≡ key x → IsCounted key rows olds → is_some (find (has_key key k) rows) ≡ true → is_of_client key x ≡ true → IsCounted key (put (has_key key (key x)) x rows) olds
  counted_over rows olds x k e is some of = record {
    clients = all_put (is_of_client key) (has_key key (key x)) x rows is.clients of;
    counted = λ c l. is.counted c l ∙ sym (count_over (has_key key (key x)) (is_first key c) x rows (λ y h. of_first (key x) c y x h refl) (subst (λ z. is_some (find (has_key key z) rows) ≡ true) e some));
  }

  -- a row that goes is counted no more
  pub counted_gone : (rows : List V) (olds news : List ℕ) (k : Key) (o : Option V) → o ≡ find (has_key key k) rows → is_some o ≡ true → IsDistinct same_key (map key rows) → IsCounted key rows olds
      → ((c : ℕ) → c < 17 → slice_index_or olds c 0 ≡ slice_index_or news c 0 + (if c == k.first then 1 else 0)) → IsCounted key (filter (λ v. not (has_key key k v)) rows) news
  counted_gone rows olds news k None f s d is down = absurd (true≢false (sym s))
  counted_gone rows olds news k (Some v) f s d is down = record {
    clients = all_filter (is_of_client key) (λ v. not (has_key key k v)) rows is.clients;
    counted = λ c l.
        let a : length (filter (is_first key c) rows) ≡ length (filter (is_first key c) (filter (λ v. not (has_key key k v)) rows)) + one_if (is_first key c v) = count_gone key k (is_first key c) v rows d (sym f) in
        let b : one_if (is_first key c v) ≡ (if c == k.first then 1 else 0) = ap one_if (ap (λ z. z.first == c) (of_key key k v rows (sym f)) ∙ eq_turn k.first c) in
        let m = down c l in
        let n = is.counted c l in
        omega (arith, a, b, m, n);
  }

  pub one_at_least : (rows : List V) (olds : List ℕ) (k : Key) (o : Option V) → o ≡ find (has_key key k) rows → is_some o ≡ true → IsDistinct same_key (map key rows) → IsCounted key rows olds → k.first < 17 → 1 ≤ slice_index_or olds k.first 0
  one_at_least rows olds k None f s d is l = absurd (true≢false (sym s))
  one_at_least rows olds k (Some v) f s d is l =
      let a : length (filter (is_first key k.first) rows) ≡ length (filter (is_first key k.first) (filter (λ v. not (has_key key k v)) rows)) + one_if (is_first key k.first v) = count_gone key k (is_first key k.first) v rows d (sym f) in
      let b : one_if (is_first key k.first v) ≡ 1 = ap one_if (ap (λ z. z.first == k.first) (of_key key k v rows (sym f)) ∙ eq_eqb k.first) in
      let n = is.counted k.first l in
      omega (arith, a, b, n)
    where
      eq_eqb : (n : ℕ) → (n == n) ≡ true
      eq_eqb n = eq-eqb n n refl

  -- the count has room for one more
  pub room_for_one : (rows : List V) (olds : List ℕ) (x : V) (k : Key) → k ≡ key x → IsCounted key rows olds → find (has_key key k) rows ≡ None → (n : ℕ) → length (put (has_key key (key x)) x rows) < n → k.first < 17 → slice_index_or olds k.first 0 + 1 < n + 1
  room_for_one rows olds x k e is none n m l =
      let a : length (filter (is_first key k.first) (put (has_key key (key x)) x rows)) ≡ length (filter (is_first key k.first) rows) + one_if (is_first key k.first x) =
      count_new (has_key key (key x)) (is_first key k.first) x rows (subst (λ z. find (has_key key z) rows ≡ None) e none) in
      let b : one_if (is_first key k.first x) ≡ 1 = ap one_if (ap (λ z. z.first == k.first) (sym e) ∙ eq-eqb k.first k.first refl) in
      let h = length_kept (is_first key k.first) (put (has_key key (key x)) x rows) in
      let g = is.counted k.first l in
      omega (arith, a, b, h, g, m)

  -- a row is written over
  pub counted_written : (rows : List V) (olds : List ℕ) (x : V) → IsCounted key rows olds → IsCounted key (map (λ r. if has_key key (key x) r then x else r) rows) olds
  counted_written rows olds x is = record {
    clients = all_map (is_of_client key) (λ r. if has_key key (key x) r then x else r) rows (λ y. ap (λ z. is_client z.first) (kept_key y)) ∙ is.clients;
    counted = λ c l. is.counted c l ∙ sym (count_map (is_first key c) (λ r. if has_key key (key x) r then x else r) rows (λ y. ap (λ z. z.first == c) (kept_key y)));
  }
    where
      kept_key : (y : V) → key (if has_key key (key x) y then x else y) ≡ key y
      kept_key y = by (has_key key (key x) y) refl
        where
          by : (b : Bool) → has_key key (key x) y ≡ b → key (if b then x else y) ≡ key y
          by true q = sym (key_is (key y) (key x) q)
          by false q = refl

  -- a client's rows go
  pub counted_forgotten : (rows : List V) (olds news : List ℕ) (f : ℕ) → IsCounted key rows olds → ((c : ℕ) → c < 17 → slice_index_or news c 0 ≡ (if c == f then 0 else slice_index_or olds c 0)) → IsCounted key (filter (λ v. not (is_first key f v)) rows) news
  counted_forgotten rows olds news f is z = record {
    clients = all_filter (is_of_client key) (λ v. not (is_first key f v)) rows is.clients;
    counted = λ c l. z c l ∙ ⊎_elim (λ q. ap (λ b. if b then 0 else slice_index_or olds c 0) q ∙ none c q) (λ q. ap (λ b. if b then 0 else slice_index_or olds c 0) q ∙ is.counted c l ∙ same c q) (cases_Bool (c == f));
  }
    where
      neither : (a : Bool) → not a && a ≡ false
      neither true = refl
      neither false = refl

      nothing : (xs : List V) → filter (λ x. false) xs ≡ []
      nothing [] = refl
      nothing (x ∷ xs) = nothing xs

      none : (c : ℕ) → (c == f) ≡ true → 0 ≡ length (filter (is_first key c) (filter (λ v. not (is_first key f v)) rows))
      none c q =
          let e : c ≡ f = eqb-true c f q in
          sym (ap length (filter_twice (is_first key c) (λ v. not (is_first key f v)) rows
          ∙ filter_tests (λ x. not (is_first key f x) && is_first key c x) (λ x. false) rows (λ x. ap (λ n. not (is_first key f x) && is_first key n x) e ∙ neither (is_first key f x)) ∙ nothing rows))

      other : (c : ℕ) → (c == f) ≡ false → (x : V) → is_first key c x ≡ not (is_first key f x) && is_first key c x
      other c q x =
          ⊎_elim
          (λ h. h ∙ sym (λ i. not (ne_eqb (key x).first f (λ (z : (key x).first ≡ f). eqb-false c f q (sym (eqb-true (key x).first c h) ∙ z)) i) && h i))
          (λ h. h ∙ sym (ap (λ b. not (is_first key f x) && b) h ∙ and_no (not (is_first key f x))))
          (cases_Bool (is_first key c x))
        where
          and_no : (a : Bool) → a && false ≡ false
          and_no true = refl
          and_no false = refl

      same : (c : ℕ) → (c == f) ≡ false → length (filter (is_first key c) rows) ≡ length (filter (is_first key c) (filter (λ v. not (is_first key f v)) rows))
      same c q = ap length (filter_tests (is_first key c) (λ x. not (is_first key f x) && is_first key c x) rows (other c q) ∙ sym (filter_twice (is_first key c) (λ v. not (is_first key f v)) rows))

  -- nobody else has a row
  pub none_counted : (c : ℕ) (rows : List V) → list_all (is_of_client key) rows ≡ true → 17 ≤ c → 0 ≡ length (filter (is_first key c) rows)
  none_counted c [] h l = refl
  none_counted c (x ∷ xs) h l =
      let a = and_parts (is_of_client key x) (list_all (is_of_client key) xs) h in
      let m = leb-true (key x).first 16 (and_parts (nat_le 1 (key x).first) (nat_le (key x).first 16) a.0).1 in
      none_counted c xs a.1 l ∙ ap (λ b. length (cond b (x ∷ filter (is_first key c) xs) (filter (is_first key c) xs))) (sym (ne_eqb (key x).first c (λ (z : (key x).first ≡ c). omega (arith, z))))

  -- All rows on a number go, client by client.

  -- the row is on the number, and of one of the first clients
  abbrev pub is_dropped : ℕ → ℕ → V → Bool
  is_dropped s n v = ((key v).second == s) && nat_le (key v).first n

  pub none_dropped : (s : ℕ) (rows : List V) → list_all (is_of_client key) rows ≡ true → rows ≡ filter (λ v. not (is_dropped s 0 v)) rows
  none_dropped s rows h = sym (filter_every (is_of_client key) (λ v. not (is_dropped s 0 v)) rows h (λ x c. stays x c))
    where
      stays : (x : V) → is_of_client key x ≡ true → not (is_dropped s 0 x) ≡ true
      stays x c =
          let l = leb-true 1 (key x).first (and_parts (nat_le 1 (key x).first) (nat_le (key x).first 16) c).0 in
          ap (λ b. not (((key x).second == s) && b)) (lt-leb (key x).first 0 (omega arith)) ∙ no ((key x).second == s)
        where
          no : (a : Bool) → not (a && false) ≡ true
          no true = refl
          no false = refl

  pub one_dropped : (s n : ℕ) (rows : List V) → filter (λ v. not (has_key key (key_on (n + 1) s) v)) (filter (λ v. not (is_dropped s n v)) rows) ≡ filter (λ v. not (is_dropped s (n + 1) v)) rows
  one_dropped s n rows = filter_twice (λ v. not (has_key key (key_on (n + 1) s) v)) (λ v. not (is_dropped s n v)) rows ∙ filter_tests _ (λ v. not (is_dropped s (n + 1) v)) rows (λ x. by ((key x).second == s) (key x).first)
    where
      both : (a b : Bool) (e : Bool) → e ≡ a || b → not a && not (b && true) ≡ not e
      both true b e q = ap not (sym q)
      both false true e q = ap not (sym q)
      both false false e q = ap not (sym q)

      more : (f : ℕ) → nat_le f (n + 1) ≡ nat_le f n || (f == n + 1)
      more f =
          ⊎_elim
          (λ h. le-leb f (n + 1) (omega (arith, leb-true f n h)) ∙ sym (ap (λ b. b || (f == n + 1)) h))
          (λ h.
          ⊎_elim
          (λ e. le-leb f (n + 1) (omega (arith, eqb-true f (n + 1) e)) ∙ sym (λ i. h i || e i))
          (λ e. lt-leb f (n + 1) (omega (arith, leb-false f n h, eqb-false f (n + 1) e)) ∙ sym (λ i. h i || e i))
          (cases_Bool (f == n + 1)))
          (cases_Bool (nat_le f n))

      by : (b : Bool) (f : ℕ) → not (b && nat_le f n) && not ((f == n + 1) && b) ≡ not (b && nat_le f (n + 1))
      by true f = both (nat_le f n) (f == n + 1) (nat_le f (n + 1)) (more f)
      by false f = ap not (none (f == n + 1))
        where
          none : (a : Bool) → a && false ≡ false
          none true = refl
          none false = refl

  pub all_dropped : (s : ℕ) (rows : List V) → list_all (is_of_client key) rows ≡ true → filter (λ v. not (is_dropped s 16 v)) rows ≡ filter (λ v. not ((key v).second == s)) rows
  all_dropped s rows h =
      filter_agree (is_of_client key) (λ v. not (is_dropped s 16 v)) (λ v. not ((key v).second == s)) rows h
      (λ x c. ap (λ b. not (((key x).second == s) && b)) (and_parts (nat_le 1 (key x).first) (nat_le (key x).first 16) c).1 ∙ ap not (and_yes ((key x).second == s)))
    where
      and_yes : (a : Bool) → a && true ≡ a
      and_yes true = refl
      and_yes false = refl

  -- the first on a number
  pub first_of_all : (s : ℕ) (rows : List V) → list_all (is_of_client key) rows ≡ true → find (is_on key s) rows ≡ find (λ v. (key v).second == s) rows
  first_of_all s rows h = find_agree (is_of_client key) (is_on key s) (λ v. (key v).second == s) rows h (λ x c. ap (λ b. b && ((key x).second == s)) c)

  -- 16 looks.

  module _ (s : ℕ) (p : V → Bool) where
    -- a look at one client
    abbrev pub looked : List V → ℕ → Bool
    looked rows c = list_any (λ v. has_key key (key_on c s) v && p v) rows

    turn : (a b d : Bool) → (a && b) && d ≡ (d && a) && b
    turn true true true = refl
    turn true true false = refl
    turn true false true = refl
    turn true false false = refl
    turn false b true = refl
    turn false b false = refl

    within_by : (x : V) (xs : List V) (b : Bool) → is_of_client key x ≡ true → Within 1 17 (map (first_of key) xs) → Within 1 17 (map (first_of key) (cond b (x ∷ xs) xs))
    within_by x xs true c w =
        let a = and_parts (nat_le 1 (key x).first) (nat_le (key x).first 16) c in
        let m = leb-true (key x).first 16 a.1 in
        ((leb-true 1 (key x).first a.0, omega arith), w)
    within_by x xs false c w = w

    pub within : (q : V → Bool) (rows : List V) → list_all (is_of_client key) rows ≡ true → Within 1 17 (map (first_of key) (filter q rows))
    within q [] h = tt
    within q (x ∷ xs) h = let a = and_parts (is_of_client key x) (list_all (is_of_client key) xs) h in within_by x (filter q xs) (q x) a.0 (within q xs a.1)

    -- the client is one of those if a look finds it
    pub looked_first : (rows : List V) (c : ℕ) → list_any (λ k. k == c) (map (first_of key) (filter (is_among key s p) rows)) ≡ looked rows c
    looked_first rows c = any_map_filter (first_of key) (is_among key s p) c rows ∙ any_same (λ x. is_among key s p x && (first_of key x == c)) (λ v. has_key key (key_on c s) v && p v) rows (λ x. turn ((key x).second == s) (p x) ((key x).first == c))

    pub clients_looked : (rows : List V) → list_all (is_of_client key) rows ≡ true → rising (map (first_of key) (filter (is_among key s p) rows)) ≡ filter (looked rows) (numbers 1 16)
    clients_looked rows h =
        rising_probed 1 16 (map (first_of key) (filter (is_among key s p) rows)) (within (is_among key s p) rows h)
        ∙ filter_same_tests _ (looked rows) (numbers 1 16)
        (λ c. any_map_filter (first_of key) (is_among key s p) c rows ∙ any_same (λ x. is_among key s p x && (first_of key x == c)) (λ v. has_key key (key_on c s) v && p v) rows (λ x. turn ((key x).second == s) (p x) ((key x).first == c)))

    pub any_looked : (rows : List V) → list_all (is_of_client key) rows ≡ true → list_any (is_among key s p) rows ≡ list_any (looked rows) (numbers 1 16)
    any_looked rows h =
        sym (some_filter (is_among key s p) rows) ∙ sym (some_map (first_of key) (filter (is_among key s p) rows)) ∙ sym (some_rising (map (first_of key) (filter (is_among key s p) rows)))
        ∙ ap some_in (clients_looked rows h) ∙ some_filter (looked rows) (numbers 1 16)
