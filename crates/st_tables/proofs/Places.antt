-- Keys that lead to places: what stays so after each change of a table.
use Rattle.std.proofs.Common.{◌≡◌, ℕ, zero, suc, ◌+◌, ◌<◌, ◌≤◌, ◌^◌, ◌⊎◌, inl, inr, Bool, true, false, cond, if◌then◌else◌, List, [], ◌∷◌, map, refl, sym, ap, subst, ◌∙◌, ⊎_elim, true≢false, arith, add-one}
use Rattle.std.specs.Prelude.{find, filter, not, nat_eq, nat_lt, nat_le, is_some, Option, Some, None, ◌==◌, ◌≢◌, ◌&&◌, ◌||◌}
use Rattle.std.specs.Option.{option_map}
use Rattle.std.specs.List.{IsDistinct, AllByRecursion, list_any}
use Rattle.std.proofs.lemmas.Bool.{cases_Bool, and_parts, eqb-true, eqb-false, eq-eqb, ne_eqb, ltb-true, ltb-false, leb-true, le-leb, cond-false, cond-true}
use Rattle.st_rules.specs.Keys.{put}
use Rattle.st_tables.specs.declared.keys.Key.{Key}
use Rattle.st_tables.specs.Tables.{kept, listed, same_key, has_key, is_client, is_on, sooner, IsTable}
use Rattle.st_tables.proofs.RowLists.{listed_push, listed_filter, listed_map, listed_first, listed_none, listed_find, listed_put, put_last, none_of}

pub key_is : (a b : Key) → same_key a b ≡ true → a ≡ b
key_is a b h =
    let p : a.first ≡ b.first = eqb-true _ _ (and_parts (a.first == b.first) (a.second == b.second) h).0 in
    let q : a.second ≡ b.second = eqb-true _ _ (and_parts (a.first == b.first) (a.second == b.second) h).1 in
    λ i. record { first = p i; second = q i }

pub same_is : (k : Key) → same_key k k ≡ true
same_is k = λ i. eq-eqb k.first k.first refl i && eq-eqb k.second k.second refl i

row_there : {V : Type 0} (key : V → Key) (o : Option V) (k : Key) → option_map key o ≡ Some k → (v : V) × ((o ≡ Some v) × (key v ≡ k))
row_there key None k e = cc
row_there key (Some v) k e = let s : key v ≡ k = cc in (v, (refl, s))

module _ {V : Type 0} (key : V → Key) (n : ℕ) (at : ℕ → Option V) (place : Key → Option ℕ) (t : IsTable key n at place) where
  only : (k : Key) (i : ℕ) → place k ≡ Some i → (j : ℕ) (w : V) → at j ≡ Some w → has_key key k w ≡ true → j ≡ i
  only k i e j w a h =
      let s : key w ≡ k = key_is (key w) k h in
      let p : place k ≡ Some j = ap place (sym s) ∙ (t.placed j w a).1 in
      cc

  absent : (k : Key) → place k ≡ None → (j : ℕ) (w : V) → j < n → at j ≡ Some w → has_key key k w ≡ false
  absent k e j w l a =
      ⊎_elim
      (λ h.
      let s : key w ≡ k = key_is (key w) k h in
      let p : place k ≡ Some j = ap place (sym s) ∙ (t.placed j w a).1 in
      let z : Some j ≡ None = sym p ∙ e in
      cc)
      (λ h. h)
      (cases_Bool (has_key key k w))

  -- a key without a place has no row
  pub none_found : (k : Key) → place k ≡ None → find (has_key key k) (listed n at) ≡ None
  none_found k e = listed_none (has_key key k) n at (absent k e)

  -- the row of a key is at its place
  pub found_at : (k : Key) (i : ℕ) → place k ≡ Some i → find (has_key key k) (listed n at) ≡ at i
  found_at k i e =
      let r = row_there key (at i) k (t.told k i e) in
      let h : has_key key k r.0 ≡ true = ap (λ z. same_key z k) r.1.1 ∙ same_is k in
      listed_find (has_key key k) r.0 i n at (t.placed i r.0 r.1.0).0 r.1.0 h (only k i e) ∙ sym r.1.0

module _ {V : Type 0} (key : V → Key) (n : ℕ) (at : ℕ → Option V) (place : Key → Option ℕ) (t : IsTable key n at place) where
  module _ (k : Key) (v : V) (at' : ℕ → Option V) (is : k ≡ key v) where
    -- A new row goes last.

    module _ (place' : Key → Option ℕ) (none : place k ≡ None) (a : (q : ℕ) → at' q ≡ cond (nat_eq n q) (Some v) (at q)) (p : (q : Key) → place' q ≡ cond (same_key k q) (Some n) (place q)) where
      new_placed : (i : ℕ) (w : V) → at' i ≡ Some w → (i < n + 1) × (place' (key w) ≡ Some i)
      new_placed i w e =
          ⊎_elim
          (λ h.
          let s : n ≡ i = eqb-true n i h in
          let e' : Some v ≡ Some w = sym (cond-true (n == i) (Some v) (at i) h) ∙ sym (a i) ∙ e in
          let z : v ≡ w = cc in
          (omega arith, p (key w) ∙ cond-true (same_key k (key w)) (Some n) (place (key w)) (ap (same_key k) (sym (is ∙ ap key z)) ∙ same_is k) ∙ ap Some s))
          (λ h.
          let e' : at i ≡ Some w = sym (cond-false (n == i) (Some v) (at i) h) ∙ sym (a i) ∙ e in
          let b = t.placed i w e' in
          (omega (arith, b.0), p (key w) ∙ cond-false (same_key k (key w)) (Some n) (place (key w)) (apart (key w) i b.1) ∙ b.1))
          (cases_Bool (n == i))
        where
          apart : (q : Key) (i : ℕ) → place q ≡ Some i → same_key k q ≡ false
          apart q i e = ⊎_elim (λ h. let z : Some i ≡ None = sym e ∙ ap place (sym (key_is k q h)) ∙ none in cc) (λ h. h) (cases_Bool (same_key k q))

      new_told : (q : Key) (i : ℕ) → place' q ≡ Some i → option_map key (at' i) ≡ Some q
      new_told q i e =
          ⊎_elim
          (λ h.
          let e' : Some n ≡ Some i = sym (cond-true (same_key k q) (Some n) (place q) h) ∙ sym (p q) ∙ e in
          let s : n ≡ i = cc in
          ap (option_map key) (a i ∙ cond-true (n == i) (Some v) (at i) (eq-eqb n i s)) ∙ ap Some (sym is ∙ key_is k q h))
          (λ h.
          let e' : place q ≡ Some i = sym (cond-false (same_key k q) (Some n) (place q) h) ∙ sym (p q) ∙ e in
          let r = row_there key (at i) q (t.told q i e') in
          let l = (t.placed i r.0 r.1.0).0 in
          ap (option_map key) (a i ∙ cond-false (n == i) (Some v) (at i) (ne_eqb n i (λ (z : n ≡ i). omega (arith, z, l)))) ∙ t.told q i e')
          (cases_Bool (same_key k q))

      pub new_is : n + 1 < 2 ^ 64 → IsTable key (n + 1) at' place'
      new_is l = record { small = l; placed = new_placed; told = new_told }

      pub new_listed : listed (n + 1) at' ≡ put (has_key key k) v (listed n at)
      new_listed =
          listed_push n at at' v (λ i l. a i ∙ cond-false (n == i) (Some v) (at i) (ne_eqb n i (λ (z : n ≡ i). omega (arith, z, l))))
          (a n ∙ cond-true (n == n) (Some v) (at n) (eq-eqb n n refl))
          ∙ sym (put_last (has_key key k) v (listed n at) (none_found key n at place t k none))

    -- A row takes the place of the one with its key.

    module _ (i : ℕ) (here : place k ≡ Some i) (a : (q : ℕ) → at' q ≡ cond (nat_eq i q) (Some v) (at q)) where
      over_placed : (j : ℕ) (w : V) → at' j ≡ Some w → (j < n) × (place (key w) ≡ Some j)
      over_placed j w e =
          ⊎_elim
          (λ h.
          let s : i ≡ j = eqb-true i j h in
          let e' : Some v ≡ Some w = sym (cond-true (i == j) (Some v) (at j) h) ∙ sym (a j) ∙ e in
          let z : v ≡ w = cc in
          let r = row_there key (at i) k (t.told k i here) in
          let l = (t.placed i r.0 r.1.0).0 in
          (omega (arith, s, l), ap place (sym (is ∙ ap key z)) ∙ here ∙ ap Some s))
          (λ h.
          let e' : at j ≡ Some w = sym (cond-false (i == j) (Some v) (at j) h) ∙ sym (a j) ∙ e in
          t.placed j w e')
          (cases_Bool (i == j))

      over_told : (q : Key) (j : ℕ) → place q ≡ Some j → option_map key (at' j) ≡ Some q
      over_told q j e =
          ⊎_elim
          (λ h.
          let s : i ≡ j = eqb-true i j h in
          let z : Some k ≡ Some q = sym (t.told k i here) ∙ ap (λ m. option_map key (at m)) s ∙ t.told q j e in
          ap (option_map key) (a j ∙ cond-true (i == j) (Some v) (at j) h) ∙ ap Some (sym is) ∙ z)
          (λ h. ap (option_map key) (a j ∙ cond-false (i == j) (Some v) (at j) h) ∙ t.told q j e)
          (cases_Bool (i == j))

      pub over_is : IsTable key n at' place
      over_is = record { small = t.small; placed = over_placed; told = over_told }

      pub over_listed : listed n at' ≡ put (has_key key k) v (listed n at)
      over_listed =
          let r = row_there key (at i) k (t.told k i here) in
          let h : has_key key k r.0 ≡ true = ap (λ z. same_key z k) r.1.1 ∙ same_is k in
          sym (listed_put (has_key key k) v r.0 i n at at' (t.placed i r.0 r.1.0).0 r.1.0 h (only key n at place t k i here)
          (a i ∙ cond-true (i == i) (Some v) (at i) (eq-eqb i i refl))
          (λ j z. a j ∙ cond-false (i == j) (Some v) (at j) (ne_eqb i j (λ (y : i ≡ j). z (sym y)))))

  -- A row goes.

  module _ (k : Key) (i : ℕ) (at' : ℕ → Option V) (place' : Key → Option ℕ) (here : place k ≡ Some i) (a : (q : ℕ) → at' q ≡ cond (nat_eq i q) None (at q)) (p : (q : Key) → place' q ≡ cond (same_key k q) None (place q)) where
    gone_placed : (j : ℕ) (w : V) → at' j ≡ Some w → (j < n) × (place' (key w) ≡ Some j)
    gone_placed j w e =
        ⊎_elim
        (λ h. let e' : None ≡ Some w = sym (cond-true (i == j) None (at j) h) ∙ sym (a j) ∙ e in cc)
        (λ h.
        let e' : at j ≡ Some w = sym (cond-false (i == j) None (at j) h) ∙ sym (a j) ∙ e in
        let b = t.placed j w e' in
        (b.0, p (key w) ∙ cond-false (same_key k (key w)) None (place (key w)) (apart (key w) j b.1 (eqb-false i j h)) ∙ b.1))
        (cases_Bool (i == j))
      where
        apart : (q : Key) (j : ℕ) → place q ≡ Some j → i ≢ j → same_key k q ≡ false
        apart q j e f = ⊎_elim (λ h. let z : Some i ≡ Some j = sym here ∙ ap place (key_is k q h) ∙ e in let y : i ≡ j = cc in absurd (f y)) (λ h. h) (cases_Bool (same_key k q))

    gone_told : (q : Key) (j : ℕ) → place' q ≡ Some j → option_map key (at' j) ≡ Some q
    gone_told q j e =
        ⊎_elim
        (λ h. let z : None ≡ Some j = sym (cond-true (same_key k q) None (place q) h) ∙ sym (p q) ∙ e in cc)
        (λ h.
        let e' : place q ≡ Some j = sym (cond-false (same_key k q) None (place q) h) ∙ sym (p q) ∙ e in
        ap (option_map key) (a j ∙ cond-false (i == j) None (at j) (ne_eqb i j (λ (z : i ≡ j). other z e'))) ∙ t.told q j e')
        (cases_Bool (same_key k q))
      where
        other : i ≡ j → place q ≡ Some j → ⊥
        other z e' =
            let y : Some k ≡ Some q = sym (t.told k i here) ∙ ap (λ m. option_map key (at m)) z ∙ t.told q j e' in
            let x : k ≡ q = cc in
            let w : None ≡ Some j = sym (cond-true (same_key k q) None (place q) (ap (same_key k) (sym x) ∙ same_is k)) ∙ sym (p q) ∙ e in
            cc

    pub gone_is : IsTable key n at' place'
    gone_is = record { small = t.small; placed = gone_placed; told = gone_told }

    not_found : (j : ℕ) → at' j ≡ kept (λ v. not (has_key key k v)) (at j)
    not_found j = from (at j) refl
      where
        from : (o : Option V) → at j ≡ o → at' j ≡ kept (λ v. not (has_key key k v)) o
        from None e = ⊎_elim (λ h. a j ∙ cond-true (i == j) None (at j) h) (λ h. a j ∙ cond-false (i == j) None (at j) h ∙ e) (cases_Bool (i == j))
        from (Some w) e =
            ⊎_elim
            (λ h.
            let s : i ≡ j = eqb-true i j h in
            let z : Some (key w) ≡ Some k = ap (option_map key) (sym e) ∙ ap (λ m. option_map key (at m)) (sym s) ∙ t.told k i here in
            let y : key w ≡ k = cc in
            a j ∙ cond-true (i == j) None (at j) h ∙ sym
            (cond-false (not (has_key key k w)) (Some w) None (ap (λ q. not (same_key q k)) y ∙ ap not (same_is k))))
            (λ h.
            let f : has_key key k w ≡ false = ⊎_elim (λ x. let z : j ≡ i = only key n at place t k i here j w e x in absurd (eqb-false i j h (sym z))) (λ x. x) (cases_Bool (has_key key k w)) in
            a j ∙ cond-false (i == j) None (at j) h ∙ e ∙ sym (cond-true (not (has_key key k w)) (Some w) None (ap not f)))
            (cases_Bool (i == j))

    pub gone_listed : listed n at' ≡ filter (λ v. not (has_key key k v)) (listed n at)
    gone_listed = listed_filter (λ v. not (has_key key k v)) n at at' (λ j l. not_found j)

  -- a key without a place takes nothing out
  pub none_gone : (k : Key) → place k ≡ None → filter (λ v. not (has_key key k v)) (listed n at) ≡ listed n at
  none_gone k e = none_of (has_key key k) (listed n at) (none_found key n at place t k e)

kept_some : {A : Type 0} (p : A → Bool) (o : Option A) (x : A) → kept p o ≡ Some x → (o ≡ Some x) × (p x ≡ true)
kept_some p None x e = cc
kept_some p (Some y) x e = by (p y) refl e
  where
    by : (b : Bool) → p y ≡ b → (if b then Some y else None) ≡ Some x → (Some y ≡ Some x) × (p x ≡ true)
    by true q e = let z : y ≡ x = cc in (e, ap p (sym z) ∙ q)
    by false q e = cc

kept_there : {A : Type 0} (p : A → Bool) (o : Option A) → is_some (kept p o) ≡ true → kept p o ≡ o
kept_there p None h = refl
kept_there p (Some y) h = by (p y) h
  where
    by : (b : Bool) → is_some (if b then Some y else None) ≡ true → (if b then Some y else None) ≡ Some y
    by true h = refl
    by false h = absurd (true≢false (sym h))

module _ {V : Type 0} (key : V → Key) (n : ℕ) (at : ℕ → Option V) (place : Key → Option ℕ) (t : IsTable key n at place) where
  pub there : (k : Key) (i : ℕ) → place k ≡ Some i → (v : V) × ((at i ≡ Some v) × (key v ≡ k))
  there k i e = row_there key (at i) k (t.told k i e)

  -- a key has a place if it has a row
  pub held : (k : Key) → is_some (place k) ≡ is_some (find (has_key key k) (listed n at))
  held k = from (place k) refl
    where
      from : (o : Option ℕ) → place k ≡ o → is_some o ≡ is_some (find (has_key key k) (listed n at))
      from None e = sym (ap is_some (none_found key n at place t k e))
      from (Some i) e = sym (ap is_some (found_at key n at place t k i e ∙ (there k i e).1.0))

  -- A row changes in its place.

  module _ (row : V) (i : ℕ) (at' : ℕ → Option V) (here : place (key row) ≡ Some i) (a : (q : ℕ) → at' q ≡ cond (nat_eq i q) (Some row) (at q)) (f : V → V) (v : V) (found : find (has_key key (key row)) (listed n at) ≡ Some v) (is : row ≡ f v) where
    at_i : at i ≡ Some v
    at_i = sym (found_at key n at place t (key row) i here) ∙ found

    changed_at : (j : ℕ) → at' j ≡ option_map (λ r. if has_key key (key row) r then f r else r) (at j)
    changed_at j = from (at j) refl
      where
        from : (o : Option V) → at j ≡ o → at' j ≡ option_map (λ r. if has_key key (key row) r then f r else r) o
        from None e = ⊎_elim (λ h. let z : None ≡ Some v = sym e ∙ ap at (sym (eqb-true i j h)) ∙ at_i in cc)
            (λ h. a j ∙ cond-false (i == j) (Some row) (at j) h ∙ e) (cases_Bool (i == j))
        from (Some w) e =
            ⊎_elim
            (λ h.
            let s : i ≡ j = eqb-true i j h in
            let z : Some w ≡ Some v = sym e ∙ ap at (sym s) ∙ at_i in
            let y : w ≡ v = cc in
            let r = there (key row) i here in
            let x : Some r.0 ≡ Some v = sym r.1.0 ∙ at_i in
            let u : r.0 ≡ v = cc in
            let k : has_key key (key row) w ≡ true = ap (has_key key (key row)) (y ∙ sym u) ∙ ap (λ q. same_key q (key row)) r.1.1 ∙ same_is (key row) in
            a j ∙ cond-true (i == j) (Some row) (at j) h ∙ ap Some (is ∙ ap f (sym y)) ∙ sym (ap Some (cond-true (has_key key (key row) w) (f w) w k)))
            (λ h.
            let k : has_key key (key row) w ≡ false = ⊎_elim (λ x. let z : j ≡ i = only key n at place t (key row) i here j w e x in absurd (eqb-false i j h (sym z))) (λ x. x) (cases_Bool (has_key key (key row) w)) in
            a j ∙ cond-false (i == j) (Some row) (at j) h ∙ e ∙ sym (ap Some (cond-false (has_key key (key row) w) (f w) w k)))
            (cases_Bool (i == j))

    pub changed_listed : listed n at' ≡ map (λ r. if has_key key (key row) r then f r else r) (listed n at)
    changed_listed = listed_map (λ r. if has_key key (key row) r then f r else r) n at at' (λ j l. changed_at j)

  -- The rows that pass are kept.

  module _ (p : V → Bool) (at' : ℕ → Option V) (place' : Key → Option ℕ) (a : (q : ℕ) → at' q ≡ kept p (at q)) (b : (k : Key) → place' k ≡ kept (λ i. is_some (at' i)) (place k)) where
    kept_placed : (i : ℕ) (w : V) → at' i ≡ Some w → (i < n) × (place' (key w) ≡ Some i)
    kept_placed i w e =
        let s = kept_some p (at i) w (sym (a i) ∙ e) in
        let q = t.placed i w s.0 in
        (q.0, b (key w) ∙ ap (kept (λ j. is_some (at' j))) q.1 ∙ cond-true (is_some (at' i)) (Some i) None (ap is_some e))

    kept_told : (k : Key) (i : ℕ) → place' k ≡ Some i → option_map key (at' i) ≡ Some k
    kept_told k i e =
        let s = kept_some (λ j. is_some (at' j)) (place k) i (sym (b k) ∙ e) in
        ap (option_map key) (a i ∙ kept_there p (at i) (ap is_some (sym (a i)) ∙ s.1)) ∙ t.told k i s.0

    pub kept_is : IsTable key n at' place'
    kept_is = record { small = t.small; placed = kept_placed; told = kept_told }

    pub kept_listed : listed n at' ≡ filter p (listed n at)
    kept_listed = listed_filter p n at at' (λ j l. a j)

-- the key of a client's number and another one
abbrev pub key_on : ℕ → ℕ → Key
key_on c s = record { first = c; second = s }

-- the least place of the keys of the first clients, or n
pub least_of : (Key → Option ℕ) → ℕ → ℕ → ℕ → ℕ
least_of place s n zero = n
least_of place s n (suc c) = sooner (least_of place s n c) (place (key_on (suc c) s))

pub least_none : (place : Key → Option ℕ) (s n : ℕ) → least_of place s n 0 ≡ n
unfolding least_of
least_none place s n = refl

pub least_more : (place : Key → Option ℕ) (s n c : ℕ) → least_of place s n (c + 1) ≡ sooner (least_of place s n c) (place (key_on (c + 1) s))
unfolding least_of
least_more place s n c = ap (least_of place s n) (add-one c) ∙ ap (λ i. sooner (least_of place s n c) (place (key_on i s))) (sym (add-one c))

module _ (place : Key → Option ℕ) (s n : ℕ) where
  sooner_le : (m : ℕ) (o : Option ℕ) → sooner m o ≤ m
  sooner_le m None = omega arith
  sooner_le m (Some p) = by (nat_lt p m) refl
    where
      by : (b : Bool) → nat_lt p m ≡ b → (if b then p else m) ≤ m
      by true q = let l = ltb-true p m q in omega arith
      by false q = omega arith

  sooner_than : (m p : ℕ) → sooner m (Some p) ≤ p
  sooner_than m p = by (nat_lt p m) refl
    where
      by : (b : Bool) → nat_lt p m ≡ b → (if b then p else m) ≤ p
      by true q = omega arith
      by false q = let l = ltb-false p m q in omega arith

  pub least_is : (c j p : ℕ) → 1 ≤ j → j ≤ c → place (key_on j s) ≡ Some p → least_of place s n c ≤ p
  unfolding least_of
  least_is zero j p l m e = absurd (omega arith)
  least_is (suc c) j p l m e =
      ⊎_elim
      (λ h.
      let z : j ≡ suc c = eqb-true j (suc c) h in
      let y : place (key_on (suc c) s) ≡ Some p = ap (λ i. place (key_on i s)) (sym z) ∙ e in
      subst (λ o. sooner (least_of place s n c) o ≤ p) (sym y) (sooner_than (least_of place s n c) p))
      (λ h.
      let less : least_of place s n c ≤ p = least_is c j p l (omega (arith, eqb-false j (suc c) h)) e in
      let more : sooner (least_of place s n c) (place (key_on (suc c) s)) ≤ least_of place s n c = sooner_le (least_of place s n c) (place (key_on (suc c) s)) in
      omega (arith, less, more))
      (cases_Bool (j == suc c))

  one_sooner : (m : ℕ) (o : Option ℕ) → (sooner m o ≡ m) ⊎ (o ≡ Some (sooner m o))
  one_sooner m None = inl refl
  one_sooner m (Some p) = by (nat_lt p m)
    where
      by : (b : Bool) → ((if b then p else m) ≡ m) ⊎ (Some p ≡ Some (if b then p else m))
      by true = inr refl
      by false = inl refl

  pub least_found : (c : ℕ) → (least_of place s n c ≡ n) ⊎ ((j : ℕ) × ((1 ≤ j) × ((j ≤ c) × (place (key_on j s) ≡ Some (least_of place s n c)))))
  unfolding least_of
  least_found zero = inl refl
  least_found (suc c) =
      ⊎_elim
      (λ (e : sooner (least_of place s n c) (place (key_on (suc c) s)) ≡ least_of place s n c).
      ⊎_elim
      (λ (f : least_of place s n c ≡ n). inl (e ∙ f))
      (λ (r : (j : ℕ) × ((1 ≤ j) × ((j ≤ c) × (place (key_on j s) ≡ Some (least_of place s n c))))). inr (r.0, (r.1.0, (omega (arith, r.1.1.0), r.1.1.1 ∙ ap Some (sym e)))))
      (least_found c))
      (λ (e : place (key_on (suc c) s) ≡ Some (sooner (least_of place s n c) (place (key_on (suc c) s)))). inr (suc c, (omega arith, (omega arith, e))))
      (one_sooner (least_of place s n c) (place (key_on (suc c) s)))

key_parts : (k : Key) (s : ℕ) → k.second ≡ s → k ≡ key_on k.first s
key_parts k s e = λ i. record { first = k.first; second = e i }

module _ {V : Type 0} (key : V → Key) (n : ℕ) (at : ℕ → Option V) (place : Key → Option ℕ) (t : IsTable key n at place) (s : ℕ) where
  -- one that is on the number has a place that isn't below the least
  on_it : (j : ℕ) (w : V) → at j ≡ Some w → is_on key s w ≡ true → least_of place s n 16 ≤ j
  on_it j w e h =
      let p = and_parts (is_client (key w).first) ((key w).second == s) h in
      let q = and_parts (nat_le 1 (key w).first) (nat_le (key w).first 16) p.0 in
      let k : key w ≡ key_on (key w).first s = key_parts (key w) s (eqb-true (key w).second s p.1) in
      least_is place s n 16 (key w).first j (leb-true 1 (key w).first q.0) (leb-true (key w).first 16 q.1) (ap place (sym k) ∙ (t.placed j w e).1)

  none_below : (m j : ℕ) (w : V) → m ≤ least_of place s n 16 → j < m → at j ≡ Some w → is_on key s w ≡ false
  none_below m j w l lt e = ⊎_elim (λ h. let z = on_it j w e h in absurd (omega arith)) (λ h. h) (cases_Bool (is_on key s w))

  is_client_of : (j : ℕ) → 1 ≤ j → j ≤ 16 → is_client j ≡ true
  is_client_of j l m = λ i. le-leb 1 j l i && le-leb j 16 m i

  -- the row at the least place is the first on the number
  pub first_found : at (least_of place s n 16) ≡ find (is_on key s) (listed n at)
  first_found =
      ⊎_elim
      (λ (e : least_of place s n 16 ≡ n). nothing (at (least_of place s n 16)) refl e ∙ sym (listed_none (is_on key s) n at (λ j w l f. none_below n j w (omega (arith, e)) l f)))
      (λ (r : (j : ℕ) × ((1 ≤ j) × ((j ≤ 16) × (place (key_on j s) ≡ Some (least_of place s n 16))))).
      let x = there key n at place t (key_on r.0 s) (least_of place s n 16) r.1.1.1 in
      let h : is_on key s x.0 ≡ true = ap (λ k. is_client k.first && (k.second == s)) x.1.1 ∙ (λ i. is_client_of r.0 r.1.0 r.1.1.0 i && eq-eqb s s refl i) in
      x.1.0 ∙ sym (listed_first (is_on key s) x.0 (least_of place s n 16) n at (t.placed (least_of place s n 16) x.0 x.1.0).0 x.1.0 h (λ j w l f. none_below (least_of place s n 16) j w (omega arith) l f)))
      (least_found place s n 16)
    where
      nothing : (o : Option V) → at (least_of place s n 16) ≡ o → least_of place s n 16 ≡ n → o ≡ None
      nothing None e f = refl
      nothing (Some v) e f = let l = (t.placed (least_of place s n 16) v e).0 in absurd (omega (arith, f))

-- a test at what was found
abbrev pub at_found : {V : Type 0} → (V → Bool) → Option V → Bool
at_found g None = false
at_found g (Some r) = g r

module _ {V : Type 0} (key : V → Key) (g : V → Bool) (k : Key) where
  none_with : (r : V) (rs : List V) → has_key key k r ≡ true → AllByRecursion (λ y. same_key (key r) y ≡ false) (map key rs) → list_any (λ x. has_key key k x && g x) rs ≡ false
  none_with r [] q a = refl
  none_with r (x ∷ xs) q a =
      let f : has_key key k x ≡ false = ⊎_elim (λ h. absurd (true≢false (sym (ap (λ z. same_key z (key x)) (key_is (key r) k q) ∙ ap (same_key k) (key_is (key x) k h) ∙ same_is k) ∙ a.0))) (λ h. h) (cases_Bool (has_key key k x)) in
      λ i. (f i && g x) || none_with r xs q a.1 i

  -- if no two rows have one key, a row of the key passes if the one that is found does
  pub any_at_key : (rows : List V) → IsDistinct same_key (map key rows) → list_any (λ x. has_key key k x && g x) rows ≡ at_found g (find (has_key key k) rows)
  unfolding IsDistinct
  any_at_key [] d = refl
  any_at_key (r ∷ rs) d =
      ⊎_elim
      (λ q. (λ i. (q i && g r) || none_with r rs q d.0 i) ∙ or_false (g r) ∙ ap (λ b. at_found g (cond b (Some r) (find (has_key key k) rs))) (sym q))
      (λ q. (λ i. (q i && g r) || any_at_key rs d.1 i) ∙ ap (λ b. at_found g (cond b (Some r) (find (has_key key k) rs))) (sym q))
      (cases_Bool (has_key key k r))
    where
      or_false : (b : Bool) → b || false ≡ b
      or_false true = refl
      or_false false = refl
