-- The demands that wait too long, by the set of those that wait and by the rows.
use Rattle.std.proofs.Common.{◌≡◌, ℕ, ◌+◌, ◌<◌, ◌≤◌, Bool, true, false, cond, List, [], ◌∷◌, map, refl, sym, ap, ◌∙◌, true≢false, arith}
use Rattle.std.specs.Prelude.{filter_map, find, nat_le, nat_lt, Option, Some, None, ◌==◌, ◌&&◌, ◌||◌}
use Rattle.std.specs.BTreeSet.{BTreeSet, contains}
use Rattle.std.specs.List.{IsDistinct, AllByRecursion, list_any}
use Rattle.std.specs.List.Sorted.{IsStrictlySortedBy}
use Rattle.std.specs.declared.cmp.Ordering.TheVariants.{Less, Equal, Greater}
use Rattle.std.specs.Ordering.{nat_cmp, ordering_then, is_eq}
use Rattle.std.proofs.lemmas.Bool.{and_parts, or_left, eqb-true, eq-eqb, ltb-true, leb-false, lt-leb, or_right}
use Rattle.st_base.specs.declared.config.Config.{Config}
use Rattle.st_base.specs.declared.ids.ClientId.{ClientId}
use Rattle.st_base.specs.declared.ids.Stamp.{Stamp}
use Rattle.st_rules.specs.Keys.{same_client}
use Rattle.st_due.proofs.EarliestFound.{any_filtered, comes, same_earliest}
use Rattle.st_due.specs.Moments.{earliest, has_come, is_due}
use Rattle.st_due.specs.ServerDue.{overdue_demand, overdue_since}
use Rattle.st_rules.specs.Locks.{is_among, is_row_of, is_overdue, is_overdue_demand, is_overdue_since}
use Rattle.st_rules.specs.declared.locks.LockRow.{LockRow}
use Rattle.st_rules.specs.declared.locks.RowDemand.{RowDemand}
use Rattle.st_tables.specs.Tables.{lock_key, same_key}
use Rattle.st_tables.proofs.Places.{at_found, any_at_key}
use Rattle.st_lock_tables.specs.DemandStarts.{AreListed, is_late, is_late_of, is_since, since_of, since_of_demand, wait_order}
use Rattle.st_lock_tables.specs.Overdue.{overdue_row, overdue_wait}
use Rattle.st_lock_tables.proofs.SinceKeys.{same_key as one_wait}

both : (a b : Bool) → (a ≡ true → b ≡ true) → (b ≡ true → a ≡ true) → a ≡ b
both true b f g = sym (f refl)
both false true f g = g refl
both false false f g = refl

module _ {A : Type 0} where
  some_by : (p : A → Bool) (x : A) (xs : List A) (b : Bool) → p x ≡ b → (list_any p xs ≡ true → (y : A) × (p y ≡ true) × ((w : A → Bool) → w y ≡ true → list_any w xs ≡ true)) → b || list_any p xs ≡ true
      → (y : A) × (p y ≡ true) × ((w : A → Bool) → w y ≡ true → list_any w (x ∷ xs) ≡ true)
  some_by p x xs true q h e = (x, q, λ w t. or_left (w x) (list_any w xs) t)
  some_by p x xs false q h e = let r = h e in (r.0, r.1, λ w t. or_right (w x) (list_any w xs) (r.2 w t))

  -- one that passes, and what passes at it
  pub some_one : (p : A → Bool) (xs : List A) → list_any p xs ≡ true → (y : A) × (p y ≡ true) × ((w : A → Bool) → w y ≡ true → list_any w xs ≡ true)
  some_one p [] e = absurd (true≢false (sym e))
  some_one p (x ∷ xs) e = some_by p x xs (p x) refl (some_one p xs) e

found_since : (s : Stamp) (o : Option LockRow) → is_since s (since_of o) ≡ at_found (λ r. is_since s (since_of_demand r.demand)) o
found_since s None = refl
found_since s (Some r) = refl

late_since : (k : Config) (now s : Stamp) (o : Option Stamp) → is_since s o ≡ true → nat_le (s.0 + k.demand) now.0 ≡ true → is_overdue_since k now o ≡ true
late_since k now s None e l = absurd (true≢false (sym e))
late_since k now s (Some t) e l = ap (λ n. nat_le (n + k.demand) now.0) (sym (eqb-true s.0 t.0 e)) ∙ l

late_demand : (k : Config) (now s : Stamp) (o : Option RowDemand) → is_since s (since_of_demand o) ≡ true → nat_le (s.0 + k.demand) now.0 ≡ true → is_overdue_demand k now o ≡ true
late_demand k now s None e l = absurd (true≢false (sym e))
late_demand k now s (Some d) e l = late_since k now s d.since e l

since_late : (k : Config) (now : Stamp) (o : Option Stamp) → is_overdue_since k now o ≡ true → (s : Stamp) × (is_since s o ≡ true) × (nat_le (s.0 + k.demand) now.0 ≡ true)
since_late k now None e = absurd (true≢false (sym e))
since_late k now (Some t) e = (t, eq-eqb t.0 t.0 refl, e)

demand_late : (k : Config) (now : Stamp) (o : Option RowDemand) → is_overdue_demand k now o ≡ true → (s : Stamp) × (is_since s (since_of_demand o) ≡ true) × (nat_le (s.0 + k.demand) now.0 ≡ true)
demand_late k now None e = absurd (true≢false (sym e))
demand_late k now (Some d) e = since_late k now d.since e

itself : (x : Stamp × ℕ × ClientId) → is_eq (wait_order x x) ≡ true
itself x = one_wait x x ∙ (λ i. eq-eqb x.0.0 x.0.0 refl i && (eq-eqb x.2.0 x.2.0 refl i && eq-eqb x.1 x.1 refl i))

module _ (rows : List LockRow) (set : BTreeSet (Stamp × ℕ × ClientId)) (listed : AreListed rows set) (distinct : IsDistinct same_key (map lock_key rows)) (k : Config) (now : Stamp) (c : ℕ) where
  by_key : (s : Stamp) (i : ℕ) (d : ClientId) → contains wait_order set (s, i, d) ≡ list_any (λ r. is_row_of d i r && is_since s (since_of_demand r.demand)) rows
  by_key s i d =
      listed s i d ∙ found_since s (find (is_row_of d i) rows)
      ∙ sym (any_at_key lock_key (λ r. is_since s (since_of_demand r.demand)) (record { first = d.0; second = i }) rows distinct)

  to_row : list_any (is_late_of k.demand now c) set.keys ≡ true → list_any (λ r. is_overdue k now r && (r.client.0 == c)) rows ≡ true
  to_row e =
      let x = some_one (is_late_of k.demand now c) set.keys e in
      let a = and_parts (is_late k.demand now x.0) (x.0.2.0 == c) x.1 in
      let there : contains wait_order set (x.0.0, x.0.1, x.0.2) ≡ true = x.2 (λ q. is_eq (wait_order (x.0.0, x.0.1, x.0.2) q)) (itself x.0) in
      let y = some_one (λ r. is_row_of x.0.2 x.0.1 r && is_since x.0.0 (since_of_demand r.demand)) rows (sym (by_key x.0.0 x.0.1 x.0.2) ∙ there) in
      let b = and_parts (is_row_of x.0.2 x.0.1 y.0) (is_since x.0.0 (since_of_demand y.0.demand)) y.1 in
      let d = and_parts (same_client y.0.client x.0.2) (y.0.ino == x.0.1) b.0 in
      y.2 (λ r. is_overdue k now r && (r.client.0 == c))
      (λ i. late_demand k now x.0.0 y.0.demand b.1 a.0 i && eq-eqb y.0.client.0 c (eqb-true y.0.client.0 x.0.2.0 d.0 ∙ eqb-true x.0.2.0 c a.1) i)

  to_wait : list_any (λ r. is_overdue k now r && (r.client.0 == c)) rows ≡ true → list_any (is_late_of k.demand now c) set.keys ≡ true
  to_wait e =
      let y = some_one (λ r. is_overdue k now r && (r.client.0 == c)) rows e in
      let b = and_parts (is_overdue k now y.0) (y.0.client.0 == c) y.1 in
      let s = demand_late k now y.0.demand b.0 in
      let own : is_row_of y.0.client y.0.ino y.0 ≡ true = λ i. eq-eqb y.0.client.0 y.0.client.0 refl i && eq-eqb y.0.ino y.0.ino refl i in
      let there : contains wait_order set (s.0, y.0.ino, y.0.client) ≡ true =
      by_key s.0 y.0.ino y.0.client ∙ y.2 (λ r. is_row_of y.0.client y.0.ino r && is_since s.0 (since_of_demand r.demand)) (λ i. own i && s.1 i) in
      let x = some_one (λ q. is_eq (wait_order (s.0, y.0.ino, y.0.client) q)) set.keys there in
      let a = and_parts (x.0.0.0 == s.0.0) (same_client x.0.2 y.0.client && (x.0.1 == y.0.ino)) (sym (one_wait (s.0, y.0.ino, y.0.client) x.0) ∙ x.1) in
      let d = and_parts (same_client x.0.2 y.0.client) (x.0.1 == y.0.ino) a.1 in
      x.2 (is_late_of k.demand now c)
      (λ i. (ap (λ n. nat_le (n + k.demand) now.0) (eqb-true x.0.0.0 s.0.0 a.0) ∙ s.2) i && eq-eqb x.0.2.0 c (eqb-true x.0.2.0 y.0.client.0 d.0 ∙ eqb-true y.0.client.0 c b.1) i)

  -- a client's late demands are in the set
  pub late_rows : list_any (is_late_of k.demand now c) set.keys ≡ list_any (λ r. is_overdue k now r && (r.client.0 == c)) rows
  late_rows = both (list_any (is_late_of k.demand now c) set.keys) (list_any (λ r. is_overdue k now r && (r.client.0 == c)) rows) to_row to_wait

-- The first demand that is overdue, by the set and by the rows.

by_demand : (k : Config) (now : Stamp) (o : Option RowDemand) → is_due (overdue_demand k o) now ≡ is_overdue_demand k now o
by_demand k now None = refl
by_demand k now (Some d) = by_since d.since
  where
    by_since : (o : Option Stamp) → is_due (overdue_since k o) now ≡ is_overdue_since k now o
    by_since None = refl
    by_since (Some s) = refl

unless_among : (b : Bool) (o : Option ℕ) (now : Stamp) → is_due (cond b None o) now ≡ true → (b ≡ false) × (is_due o now ≡ true)
unless_among true o now e = absurd (true≢false (sym e))
unless_among false o now e = (refl, e)

module _ (rows : List LockRow) (set : BTreeSet (Stamp × ℕ × ClientId)) (listed : AreListed rows set) (distinct : IsDistinct same_key (map lock_key rows)) (k : Config) (besides : List ClientId) where
  module _ (now : Stamp) where
    wait_to_row : list_any (comes now (overdue_wait k besides)) set.keys ≡ true → list_any (comes now (overdue_row k besides)) rows ≡ true
    wait_to_row e =
        let x = some_one (comes now (overdue_wait k besides)) set.keys e in
        let a = unless_among (is_among besides x.0.2) (Some (x.0.0.0 + k.demand)) now x.1 in
        let there : contains wait_order set (x.0.0, x.0.1, x.0.2) ≡ true = x.2 (λ q. is_eq (wait_order (x.0.0, x.0.1, x.0.2) q)) (itself x.0) in
        let y = some_one (λ r. is_row_of x.0.2 x.0.1 r && is_since x.0.0 (since_of_demand r.demand)) rows (sym (by_key rows set listed distinct k now 0 x.0.0 x.0.1 x.0.2) ∙ there) in
        let b = and_parts (is_row_of x.0.2 x.0.1 y.0) (is_since x.0.0 (since_of_demand y.0.demand)) y.1 in
        let d = and_parts (same_client y.0.client x.0.2) (y.0.ino == x.0.1) b.0 in
        let among : is_among besides y.0.client ≡ false = ap (λ n. list_any (λ c. n == c.0) besides) (eqb-true y.0.client.0 x.0.2.0 d.0) ∙ a.0 in
        y.2 (comes now (overdue_row k besides))
        (ap (λ t. is_due (cond t None (overdue_demand k y.0.demand)) now) among ∙ by_demand k now y.0.demand ∙ late_demand k now x.0.0 y.0.demand b.1 a.1)

    row_to_wait : list_any (comes now (overdue_row k besides)) rows ≡ true → list_any (comes now (overdue_wait k besides)) set.keys ≡ true
    row_to_wait e =
        let y = some_one (comes now (overdue_row k besides)) rows e in
        let b = unless_among (is_among besides y.0.client) (overdue_demand k y.0.demand) now y.1 in
        let s = demand_late k now y.0.demand (sym (by_demand k now y.0.demand) ∙ b.1) in
        let own : is_row_of y.0.client y.0.ino y.0 ≡ true = λ i. eq-eqb y.0.client.0 y.0.client.0 refl i && eq-eqb y.0.ino y.0.ino refl i in
        let there : contains wait_order set (s.0, y.0.ino, y.0.client) ≡ true =
        by_key rows set listed distinct k now 0 s.0 y.0.ino y.0.client ∙ y.2 (λ r. is_row_of y.0.client y.0.ino r && is_since s.0 (since_of_demand r.demand)) (λ i. own i && s.1 i) in
        let x = some_one (λ q. is_eq (wait_order (s.0, y.0.ino, y.0.client) q)) set.keys there in
        let a = and_parts (x.0.0.0 == s.0.0) (same_client x.0.2 y.0.client && (x.0.1 == y.0.ino)) (sym (one_wait (s.0, y.0.ino, y.0.client) x.0) ∙ x.1) in
        let d = and_parts (same_client x.0.2 y.0.client) (x.0.1 == y.0.ino) a.1 in
        let among : is_among besides x.0.2 ≡ false = ap (λ n. list_any (λ c. n == c.0) besides) (eqb-true x.0.2.0 y.0.client.0 d.0) ∙ b.0 in
        x.2 (comes now (overdue_wait k besides))
        (ap (λ t. is_due (cond t None (Some (x.0.0.0 + k.demand))) now) among ∙ ap (λ n. nat_le (n + k.demand) now.0) (eqb-true x.0.0.0 s.0.0 a.0) ∙ s.2)

    overdue_waits : list_any (has_come now) (filter_map (overdue_wait k besides) set.keys) ≡ list_any (has_come now) (filter_map (overdue_row k besides) rows)
    overdue_waits =
        any_filtered (overdue_wait k besides) now set.keys
        ∙ both (list_any (comes now (overdue_wait k besides)) set.keys) (list_any (comes now (overdue_row k besides)) rows) wait_to_row row_to_wait
        ∙ sym (any_filtered (overdue_row k besides) now rows)

  -- the first of those that wait is the first of the rows'
  pub first_overdue : earliest (filter_map (overdue_wait k besides) set.keys) ≡ earliest (filter_map (overdue_row k besides) rows)
  first_overdue = same_earliest (filter_map (overdue_wait k besides) set.keys) (filter_map (overdue_row k besides) rows) overdue_waits

-- After a demand that isn't late, none is.

later_stamp : (a b x y c d : ℕ) (e f : Bool) → nat_lt a b ≡ e → (a == b) ≡ f → ordering_then (ordering_then (cond e Less (cond f Equal Greater)) (nat_cmp x y)) (nat_cmp c d) ≡ Less → a ≤ b
later_stamp a b x y c d true f p q h = let l = ltb-true a b p in omega (arith, l)
later_stamp a b x y c d false true p q h = let l = eqb-true a b q in omega (arith, l)
later_stamp a b x y c d false false p q h = cc

not_late_by : (x y : Stamp × ℕ × ClientId) (wait : ℕ) (now : Stamp) → wait_order x y ≡ Less → is_late wait now x ≡ false → is_late wait now y ≡ false
not_late_by x y wait now o f =
    let l : x.0.0 ≤ y.0.0 = later_stamp x.0.0 y.0.0 x.1 y.1 x.2.0 y.2.0 (nat_lt x.0.0 y.0.0) (x.0.0 == y.0.0) refl refl o in
    let g : now.0 < x.0.0 + wait = leb-false (x.0.0 + wait) now.0 f in
    lt-leb (y.0.0 + wait) now.0 (omega (arith, l, g))

none_behind : (x : Stamp × ℕ × ClientId) (ys : List (Stamp × ℕ × ClientId)) (wait : ℕ) (now : Stamp) (c : ℕ) → AllByRecursion (λ y. wait_order x y ≡ Less) ys → is_late wait now x ≡ false → list_any (is_late_of wait now c) ys ≡ false
none_behind x [] wait now c a f = refl
none_behind x (y ∷ ys) wait now c a f = λ i. (not_late_by x y wait now a.0 f i && (y.2.0 == c)) || none_behind x ys wait now c a.1 f i

-- from a demand on that is not late none is
pub none_late : (x : Stamp × ℕ × ClientId) (ys : List (Stamp × ℕ × ClientId)) (wait : ℕ) (now : Stamp) (c : ℕ) → IsStrictlySortedBy wait_order (x ∷ ys) → is_late wait now x ≡ false → list_any (is_late_of wait now c) (x ∷ ys) ≡ false
unfolding IsStrictlySortedBy
none_late x ys wait now c s f = λ i. (f i && (x.2.0 == c)) || none_behind x ys wait now c s.0 f i

-- the rest of what is in order is
pub rest_sorted : (x : Stamp × ℕ × ClientId) (ys : List (Stamp × ℕ × ClientId)) → IsStrictlySortedBy wait_order (x ∷ ys) → IsStrictlySortedBy wait_order ys
unfolding IsStrictlySortedBy
rest_sorted x ys s = s.1

pub or_none : (b : Bool) → b || false ≡ b
or_none true = refl
or_none false = refl

or_order : (m c any : Bool) → (m || c) || any ≡ m || (c || any)
or_order true c any = refl
or_order false c any = refl

-- one more late demand marks its client
pub marked_more : (m late c any : Bool) → late ≡ true → (m || c) || any ≡ m || ((late && c) || any)
marked_more m late c any e = or_order m c any ∙ ap (λ b. m || ((b && c) || any)) (sym e)
