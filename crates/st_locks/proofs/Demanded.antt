-- What a demanding pass leaves: of each row in the way of a first waiter a mode is demanded that is low enough.
use Rattle.std.proofs.Common.{◌≡◌, ℕ, ◌+◌, drop, get_or, ◌⊎◌, Bool, true, false, cond, if◌then◌else◌, List, [], ◌∷◌, map, filter, ◌<◌, ◌≤◌, refl, sym, ap, subst, ◌∙◌, ⊎_elim, inl, inr, true≢false, arith, eq-eqb}
use Rattle.std.proofs.lemmas.Bool.{false_from_ne_true, not-true}
use Rattle.std.proofs.lemmas.List.{drop_more}
use Rattle.std.specs.Bool.{Decides, OnTrue}
use Rattle.std.specs.Prelude.{find, is_some, not, IfSome, OnOk, Result, Ok, Err, Option, Some, None, option_map, nat_le, length, ◌==◌, ◌&&◌, ◌||◌}
use Rattle.std.specs.List.{list_any}
use Rattle.std.proofs.lemmas.Bool.{cases_Bool, and_parts, and_from, eqb-true, ltb-true, ltb-false, le-ltb, leb-true, leb-false, lt-leb, or_right}
use Rattle.st_base.specs.declared.ids.ClientId.{ClientId}
use Rattle.st_base.specs.declared.ids.GrantNo.{GrantNo}
use Rattle.st_base.specs.declared.ids.Life.{Life}
use Rattle.st_base.specs.declared.ids.Stamp.{Stamp}
use Rattle.st_lock_tables.specs.Calls.{demanding}
use Rattle.st_base.specs.declared.config.Config.{Config}
use Rattle.st_base.specs.declared.mode.Mode.{Mode}
use Rattle.st_base.specs.Mode.{conflicts, number_of}
use Rattle.st_rules.specs.declared.locks.LockRow.{LockRow}
use Rattle.st_rules.specs.declared.locks.RowDemand.{RowDemand}
use Rattle.st_rules.specs.declared.locks.Waiter.{Waiter}
use Rattle.st_rules.specs.Keys.{client, rising, same_client}
use Rattle.st_rules.specs.Locks.{Locks, Demanding, client_of_row, demand_again, demand_clients, demand_files, demand_for, demand_lower, demand_now, demand_of, demand_row, demand_with, demanded, demands_due, first_demand, grantable, ino_of_wait, is_among, is_below, is_row_of, is_row_on, is_wait_on, next_waiter, nothing_demanded, row_of, sent_again, stands_against, to_demand, waited_files, wish, with_demand}
use Rattle.st_tables.proofs.RisingKeys.{has, has_rising, any_map_filter}
use Rattle.st_lock_tables.specs.WaitedFiles.{is_one_of, to_demand_for, to_demand_on}
use Rattle.st_locks.specs.SettledFiles.{AreDemanded, AreTimed, EachInWay, IsQuiet, KeepsAll, Moments, Times, TimesRows, is_by, is_in_way, is_kept, is_low, is_old, is_timed}
use Rattle.st_lock_tables.proofs.Overdue.{some_one}
use Rattle.st_locks.proofs.SettledFiles.{SameOn, any_mapped, each_same, found_passes, map_apart, none_found, other_file, same_itself, same_over}

eq_turn : (a b : ℕ) → (a == b) ≡ (b == a)
eq_turn a b = grind arith

-- One demand.

low_own : (to : Mode) → not (is_below to to) ≡ true
low_own to = ap not (le-ltb (number_of to) (number_of to) (omega arith))

-- a demand that is below a low one is low
low_below : (to other mode : Mode) → is_below other mode ≡ true → not (is_below to mode) ≡ true → not (is_below to other) ≡ true
low_below to other mode a b =
    let p = ltb-true (number_of other) (number_of mode) a in
    let q = ltb-false (number_of to) (number_of mode) (not-true (is_below to mode) b) in
    ap not (le-ltb (number_of to) (number_of other) (omega (arith, p, q)))

module _ (k : Config) (now : Stamp) (tick : Bool) where
  again_to : (b : Bool) (d e : RowDemand) → cond b (Some (sent_again now d.to d)) None ≡ Some e → e.to ≡ d.to
  again_to true d e q = let z : sent_again now d.to d ≡ e = cc in ap (λ x. x.to) (sym z)
  again_to false d e q = cc

  -- what a demand becomes is as low as was asked for, and as low as it was
  module _ (to : Mode) where
    lower_by : (b : Bool) (d e : RowDemand) → is_below to d.to ≡ b → cond b (Some (sent_again now to d)) (demand_again k now tick d) ≡ Some e → is_low to (Some e) ≡ true
    unfolding demand_again
    lower_by true d e h q = let z : sent_again now to d ≡ e = cc in ap (λ m. not (is_below to m)) (ap (λ x. x.to) (sym z)) ∙ low_own to
    lower_by false d e h q = ap (λ m. not (is_below to m)) (again_to (tick && nat_le (d.sent.0 + k.retry) now.0) d e q) ∙ ap not h

    pub now_low : (o : Option RowDemand) (e : RowDemand) → demand_now k now tick to o ≡ Some e → is_low to (Some e) ≡ true
    unfolding demand_now demand_lower
    now_low None e q = let z : first_demand now to ≡ e = cc in ap (λ m. not (is_below to m)) (ap (λ x. x.to) (sym z)) ∙ low_own to
    now_low (Some d) e q = lower_by (is_below to d.to) d e refl q

    none_by : (b : Bool) (d : RowDemand) → is_below to d.to ≡ b → cond b (Some (sent_again now to d)) (demand_again k now tick d) ≡ None → not (is_below to d.to) ≡ true
    none_by true d h q = cc
    none_by false d h q = ap not h

    pub none_low : (o : Option RowDemand) → demand_now k now tick to o ≡ None → is_low to o ≡ true
    unfolding demand_now demand_lower
    none_low None q = cc
    none_low (Some d) q = none_by (is_below to d.to) d refl q

    stays_by : (other : Mode) (b : Bool) (d e : RowDemand) → is_below to d.to ≡ b → cond b (Some (sent_again now to d)) (demand_again k now tick d) ≡ Some e → is_low other (Some d) ≡ true → is_low other (Some e) ≡ true
    unfolding demand_again
    stays_by other true d e h q l = let z : sent_again now to d ≡ e = cc in ap (λ m. not (is_below other m)) (ap (λ x. x.to) (sym z)) ∙ low_below other to d.to h l
    stays_by other false d e h q l = ap (λ m. not (is_below other m)) (again_to (tick && nat_le (d.sent.0 + k.retry) now.0) d e q) ∙ l

    pub stays_low : (other : Mode) (o : Option RowDemand) (e : RowDemand) → demand_now k now tick to o ≡ Some e → is_low other o ≡ true → is_low other (Some e) ≡ true
    unfolding demand_now demand_lower
    stays_low other None e q l = absurd (true≢false (sym l))
    stays_low other (Some d) e q l = stays_by other (is_below to d.to) d e refl q l

-- Demands that are not sent.

-- no demand is sent now
abbrev pub is_idle : Config → Stamp → Bool → Mode → Option RowDemand → Bool
is_idle k now tick to o = not (is_some (demand_now k now tick to o))

none_of : {A : Type 0} (o : Option A) → not (is_some o) ≡ true → o ≡ None
none_of None e = refl
none_of (Some x) e = absurd (true≢false (sym e))

-- if no moment is old, no demand that is kept by one is
young : (k : Config) (now : Stamp) (ms : Moments) (ino : ℕ) (s : Stamp) → list_any (is_old k now) ms ≡ false → is_kept ms ino s ≡ true → nat_le (s.0 + k.retry) now.0 ≡ false
young k now ms ino s q e =
    let x = some_one (is_by ino s) ms e in
    let l : x.0.0.0 ≤ s.0 = leb-true x.0.0.0 s.0 (and_parts (x.0.1 == ino) (nat_le x.0.0.0 s.0) x.1).1 in
    let n : is_old k now x.0 ≡ false = false_from_ne_true (is_old k now x.0) (λ t. true≢false (sym (x.2 (is_old k now) t) ∙ q)) in
    let g : now.0 < x.0.0.0 + k.retry = leb-false (x.0.0.0 + k.retry) now.0 n in
    lt-leb (s.0 + k.retry) now.0 (omega (arith, l, g))

module _ (k : Config) (now : Stamp) (ms : Moments) (ino : ℕ) where
  again_by : (tick : Bool) (d : RowDemand) → IsQuiet k now tick ms → is_kept ms ino d.sent ≡ true → tick && nat_le (d.sent.0 + k.retry) now.0 ≡ false
  again_by true d q e = young k now ms ino d.sent (q refl) e
  again_by false d q e = refl

  lower_idle : (tick b : Bool) (to : Mode) (d : RowDemand) → is_below to d.to ≡ b → not b ≡ true → tick && nat_le (d.sent.0 + k.retry) now.0 ≡ false → not (is_some (cond b (Some (sent_again now to d)) (demand_again k now tick d))) ≡ true
  unfolding demand_again
  lower_idle tick true to d h e n = absurd (true≢false (sym e))
  lower_idle tick false to d h e n = ap (λ b. not (is_some (cond b (Some (sent_again now d.to d)) None))) n

  -- a demand that is low enough and not old is not sent
  pub low_idle : (tick : Bool) (to : Mode) (o : Option RowDemand) → IsQuiet k now tick ms → is_low to o ≡ true → is_timed ms ino o ≡ true → is_idle k now tick to o ≡ true
  unfolding demand_now demand_lower
  low_idle tick to None q l t = absurd (true≢false (sym l))
  low_idle tick to (Some d) q l t = lower_idle tick (is_below to d.to) to d refl l (again_by tick d q t)

-- Rows of which only the demand changes.

module _ {A : Type 0} (f : A → A) (p : A → Bool) (h : (x : A) → p (f x) ≡ p x) where
  pub any_kept : (xs : List A) → list_any p (map f xs) ≡ list_any p xs
  any_kept [] = refl
  any_kept (x ∷ xs) = λ i. h x i || any_kept xs i

  find_by : (x : A) (b d : Bool) (o u : Option A) → b ≡ d → o ≡ option_map f u → cond b (Some (f x)) o ≡ option_map f (cond d (Some x) u)
  find_by x b true o u e q = ap (λ z. cond z (Some (f x)) o) e
  find_by x b false o u e q = ap (λ z. cond z (Some (f x)) o) e ∙ q

  pub find_kept : (xs : List A) → find p (map f xs) ≡ option_map f (find p xs)
  find_kept [] = refl
  find_kept (x ∷ xs) = find_by x (p (f x)) (p x) (find p (map f xs)) (find p xs) (h x) (find_kept xs)

demanded_if : (b : Bool) (d : RowDemand) (r : LockRow) (P : ℕ → ℕ → Mode → Bool) → P (cond b (demanded d r) r).client.0 (cond b (demanded d r) r).ino (cond b (demanded d r) r).mode ≡ P r.client.0 r.ino r.mode
unfolding demanded
demanded_if true d r P = refl
demanded_if false d r P = refl

-- the client's row of the file has a demand that is low enough, if there is one
abbrev pub IsLowOf : Locks → Mode → ClientId → ℕ → Type 0
IsLowOf l to c ino = (r : LockRow) → row_of l c ino ≡ Some r → is_low to r.demand ≡ true

-- a table, and the same with demands that are new or lower
pub record Lowers (l m : Locks) : Type 0 where
  pub waits : m.waiters ≡ l.waiters
  pub against : (c : ClientId) (ino : ℕ) (mode : Mode) → list_any (stands_against c ino mode) m.rows ≡ list_any (stands_against c ino mode) l.rows
  pub in_way : (w : Waiter) (c : ClientId) → list_any (is_in_way w c) m.rows ≡ list_any (is_in_way w c) l.rows
  pub low : (to : Mode) (c : ClientId) (ino : ℕ) → IsLowOf l to c ino → IsLowOf m to c ino

pub lowers_itself : (l : Locks) → Lowers l l
lowers_itself l = record { waits = refl; against = λ c ino mode. refl; in_way = λ w c. refl; low = λ to c ino h. h }

pub lowers_over : (l m n : Locks) → Lowers l m → Lowers m n → Lowers l n
lowers_over l m n s t = record {
  waits = t.waits ∙ s.waits;
  against = λ c ino mode. t.against c ino mode ∙ s.against c ino mode;
  in_way = λ w c. t.in_way w c ∙ s.in_way w c;
  low = λ to c ino h. t.low to c ino (s.low to c ino h);
}

-- a demanded row, found anew
found_demanded : (l : Locks) (c : ClientId) (ino : ℕ) (r : LockRow) (d : RowDemand) → row_of (with_demand r d l) c ino ≡ option_map (demand_of r.client r.ino d) (row_of l c ino)
found_demanded l c ino r d = find_kept (demand_of r.client r.ino d) (is_row_of c ino) (λ x. demanded_if (is_row_of r.client r.ino x) d x (λ a b mode. (a == c.0) && (b == ino))) l.rows

low_if : (k : Config) (now : Stamp) (tick : Bool) (to other : Mode) (c : ClientId) (ino : ℕ) (x r : LockRow) (d : RowDemand) (b : Bool) → (b ≡ true → x ≡ r) → demand_now k now tick to r.demand ≡ Some d → is_low other x.demand ≡ true → is_low other (cond b (demanded d x) x).demand ≡ true
unfolding demanded
low_if k now tick to other c ino x r d true s q l = stays_low k now tick to other r.demand d q (ap (λ y. is_low other y.demand) (sym (s refl)) ∙ l)
low_if k now tick to other c ino x r d false s q l = l

mapped_some : {A : Type 0} (f : A → A) (o : Option A) (y : A) → option_map f o ≡ Some y → (x : A) × ((o ≡ Some x) × (f x ≡ y))
mapped_some f None y e = cc
mapped_some f (Some x) y e = let z : f x ≡ y = cc in (x, (refl, z))

-- the row that was found has its client and its file
found_keys : (l : Locks) (c : ClientId) (ino : ℕ) (r : LockRow) → row_of l c ino ≡ Some r → (r.client.0 ≡ c.0) × (r.ino ≡ ino)
found_keys l c ino r e =
    let t = and_parts (r.client.0 == c.0) (r.ino == ino) (found_passes (is_row_of c ino) r l.rows e) in
    (eqb-true r.client.0 c.0 t.0, eqb-true r.ino ino t.1)

one_found : (l : Locks) (a b : ClientId) (i j : ℕ) (x r : LockRow) → a.0 ≡ b.0 → i ≡ j → row_of l a i ≡ Some x → row_of l b j ≡ Some r → x ≡ r
one_found l a b i j x r p q e f =
    let z : row_of l b j ≡ Some x = sym (λ k. find (λ y. (y.client.0 == p k) && (y.ino == q k)) l.rows) ∙ e in
    let u : Some x ≡ Some r = sym z ∙ f in
    cc

module _ (k : Config) (now : Stamp) (tick : Bool) (to : Mode) where
  -- a row that is demanded
  lowers_demand : (l : Locks) (c : ClientId) (ino : ℕ) (r : LockRow) (d : RowDemand) → row_of l c ino ≡ Some r → demand_now k now tick to r.demand ≡ Some d → Lowers l (with_demand r d l)
  lowers_demand l c ino r d found q = record {
    waits = refl;
    against = λ a i mode. any_kept (demand_of r.client r.ino d) (stands_against a i mode) (λ x. demanded_if (is_row_of r.client r.ino x) d x (λ b j m. (j == i) && (not (b == a.0) && conflicts m mode))) l.rows;
    in_way = λ w a. any_kept (demand_of r.client r.ino d) (is_in_way w a) (λ x. demanded_if (is_row_of r.client r.ino x) d x (λ b j m. ((j == w.ino) && (not (b == w.client.0) && conflicts m w.mode)) && (b == a.0))) l.rows;
    low = λ other a i h y e.
        let m = mapped_some (demand_of r.client r.ino d) (row_of l a i) y (sym (found_demanded l a i r d) ∙ e) in
        subst (λ z. is_low other z.demand ≡ true) m.1.1
        (low_if k now tick to other a i m.0 r d (is_row_of r.client r.ino m.0)
        (λ t.
        let u = and_parts (m.0.client.0 == r.client.0) (m.0.ino == r.ino) t in
        let v = found_keys l a i m.0 m.1.0 in
        let f = found_keys l c ino r found in
        one_found l a c i ino m.0 r (sym v.0 ∙ eqb-true m.0.client.0 r.client.0 u.0 ∙ f.0) (sym v.1 ∙ eqb-true m.0.ino r.ino u.1 ∙ f.1) m.1.0 found)
        q (h m.0 m.1.0));
  }

  with_by : (p : Demanding) (c : ClientId) (ino : ℕ) (r : LockRow) (o : Option RowDemand) → row_of p.locks c ino ≡ Some r → demand_now k now tick to r.demand ≡ o → Lowers p.locks (demand_with p r o).locks
  unfolding demand_with
  with_by p c ino r None found q = lowers_itself p.locks
  with_by p c ino r (Some d) found q = lowers_demand p.locks c ino r d found q

  row_by : (p : Demanding) (c : ClientId) (ino : ℕ) (o : Option LockRow) → row_of p.locks c ino ≡ o → Lowers p.locks (demand_row k now tick to o p).locks
  unfolding demand_row
  row_by p c ino None found = lowers_itself p.locks
  row_by p c ino (Some r) found = with_by p c ino r (demand_now k now tick to r.demand) found refl

  lowers_clients : (ino : ℕ) (cs : List ClientId) (p : Demanding) → Lowers p.locks (demand_clients k now tick ino to cs p).locks
  unfolding demand_clients
  lowers_clients ino [] p = lowers_itself p.locks
  lowers_clients ino (c ∷ cs) p =
      let q = demand_row k now tick to (row_of p.locks c ino) p in
      lowers_over p.locks q.locks (demand_clients k now tick ino to cs q).locks (row_by p c ino (row_of p.locks c ino) refl) (lowers_clients ino cs q)

  own_demanded : (d : RowDemand) (r : LockRow) → (demand_of r.client r.ino d r).demand ≡ Some d
  unfolding demanded
  own_demanded d r = ap (λ b. (cond b (demanded d r) r).demand) (and_from (r.client.0 == r.client.0) (r.ino == r.ino) (eq-eqb r.client.0 r.client.0 refl) (eq-eqb r.ino r.ino refl))

  -- the row that is walked has a demand that is low enough
  low_with : (p : Demanding) (c : ClientId) (ino : ℕ) (r : LockRow) (o : Option RowDemand) → row_of p.locks c ino ≡ Some r → demand_now k now tick to r.demand ≡ o → IsLowOf (demand_with p r o).locks to c ino
  unfolding demand_with
  low_with p c ino r None found q y e = let u : Some r ≡ Some y = sym found ∙ e in let s : r ≡ y = cc in subst (λ z. is_low to z.demand ≡ true) s (none_low k now tick to r.demand q)
  low_with p c ino r (Some d) found q y e =
      let u : Some (demand_of r.client r.ino d r) ≡ Some y = sym (ap (option_map (demand_of r.client r.ino d)) found) ∙ sym (found_demanded p.locks c ino r d) ∙ e in
      let s : demand_of r.client r.ino d r ≡ y = cc in
      ap (λ z. is_low to z.demand) (sym s) ∙ ap (is_low to) (own_demanded d r) ∙ now_low k now tick to r.demand d q

  low_row : (p : Demanding) (c : ClientId) (ino : ℕ) (o : Option LockRow) → row_of p.locks c ino ≡ o → IsLowOf (demand_row k now tick to o p).locks to c ino
  unfolding demand_row
  low_row p c ino None found y e = let u : None ≡ Some y = sym found ∙ e in cc
  low_row p c ino (Some r) found y e = low_with p c ino r (demand_now k now tick to r.demand) found refl y e

  pub low_clients : (ino : ℕ) (cs : List ClientId) (p : Demanding) (c : ClientId) → is_among cs c ≡ true → IsLowOf (demand_clients k now tick ino to cs p).locks to c ino
  unfolding demand_clients
  low_clients ino [] p c e = absurd (true≢false (sym e))
  low_clients ino (a ∷ cs) p c e =
      let q = demand_row k now tick to (row_of p.locks a ino) p in
      ⊎_elim
      (λ t.
      let n : c.0 ≡ a.0 = eqb-true c.0 a.0 t in
      (lowers_clients ino cs q).low to c ino (subst (λ z. IsLowOf q.locks to z ino) (λ i. record { 0 = sym n i }) (low_row p a ino (row_of p.locks a ino) refl)))
      (λ f. low_clients ino cs q c (sym (ap (λ b. b || is_among cs c) f) ∙ e))
      (cases_Bool (same_client c a))

-- The clients in the way.

among_client : (ks : List ℕ) (c : ClientId) → is_among (map client ks) c ≡ has c.0 ks
among_client [] c = refl
among_client (k ∷ ks) c = λ i. eq_turn c.0 k i || among_client ks c i

-- the clients with a row in the way of the wait
abbrev pub in_way_of : Waiter → List LockRow → List ClientId
in_way_of w rows = map client (rising (map client_of_row (filter (stands_against w.client w.ino w.mode) rows)))

among_way : (w : Waiter) (rows : List LockRow) (c : ClientId) → is_among (in_way_of w rows) c ≡ list_any (is_in_way w c) rows
among_way w rows c =
    let ks = map client_of_row (filter (stands_against w.client w.ino w.mode) rows) in
    among_client (rising ks) c ∙ has_rising c.0 ks ∙ any_map_filter client_of_row (stands_against w.client w.ino w.mode) c.0 rows

among_step : (c x : ClientId) (xs ys : List ClientId) (b n : Bool) → (same_client c x ≡ true → b ≡ n) → is_among ys c ≡ is_among xs c && n → is_among (cond b (x ∷ ys) ys) c ≡ (same_client c x || is_among xs c) && n
among_step c x xs ys true n h e = ap (λ z. same_client c x || z) e ∙ by (same_client c x) (is_among xs c) n h
  where
    by : (s a n : Bool) → (s ≡ true → true ≡ n) → s || (a && n) ≡ (s || a) && n
    by true a n h = h refl
    by false a n h = refl
among_step c x xs ys false n h e = e ∙ by (same_client c x) (is_among xs c) n h
  where
    by : (s a n : Bool) → (s ≡ true → false ≡ n) → a && n ≡ (s || a) && n
    by true a n h = ap (λ z. a && z) (sym (h refl)) ∙ no a ∙ h refl
      where
        no : (a : Bool) → a && false ≡ false
        no true = refl
        no false = refl
    by false a n h = refl

-- the clients of a list except for some
among_without : (cs xs : List ClientId) (c : ClientId) → is_among (filter (λ x. not (is_among cs x)) xs) c ≡ is_among xs c && not (is_among cs c)
among_without cs [] c = refl
among_without cs (x ∷ xs) c =
    among_step c x xs (filter (λ y. not (is_among cs y)) xs) (not (is_among cs x)) (not (is_among cs c))
    (λ s. ap (λ n. not (list_any (λ d. n == d.0) cs)) (sym (eqb-true c.0 x.0 s))) (among_without cs xs c)

-- the clients of which a lock is demanded for a wait
demanded_way : (l : Locks) (cs : List ClientId) (w : Waiter) (c : ClientId) → is_among (to_demand l cs w) c ≡ list_any (is_in_way w c) l.rows && not (is_among cs c)
demanded_way l cs w c = among_without cs (in_way_of w l.rows) c ∙ ap (λ b. b && not (is_among cs c)) (among_way w l.rows c)

-- A table with more demands.

pub lowers_next : (l m : Locks) (j : ℕ) → Lowers l m → next_waiter m j ≡ next_waiter l j
lowers_next l m j s = ap (λ ws. grantable m (find (is_wait_on j) ws)) s.waits ∙ by (find (is_wait_on j) l.waiters)
  where
    by : (o : Option Waiter) → grantable m o ≡ grantable l o
    by None = refl
    by (Some w) = ap (λ b. if b then None else Some w) (s.against w.client w.ino w.mode)

-- One file of a pass.

module _ (k : Config) (now : Stamp) (tick : Bool) where
  pub lowers_for : (suspects : List ClientId) (o : Option Waiter) (p : Demanding) → Lowers p.locks (demand_for k now tick suspects o p).locks
  unfolding demand_for
  lowers_for suspects None p = lowers_itself p.locks
  lowers_for suspects (Some w) p = lowers_clients k now tick (wish w.mode) w.ino (to_demand p.locks suspects w) p

  -- what is in the way of the wait is demanded
  for_wait : (cs : List ClientId) (w : Waiter) (p : Demanding) (c : ClientId) → list_any (is_in_way w c) (demand_for k now tick cs (Some w) p).locks.rows && not (is_among cs c) ≡ true → IsLowOf (demand_for k now tick cs (Some w) p).locks (wish w.mode) c w.ino
  unfolding demand_for
  for_wait cs w p c t =
      low_clients k now tick (wish w.mode) w.ino (to_demand p.locks cs w) p c
      (demanded_way p.locks cs w c ∙ ap (λ b. b && not (is_among cs c)) (sym ((lowers_clients k now tick (wish w.mode) w.ino (to_demand p.locks cs w) p).in_way w c)) ∙ t)

  for_by : (cs : List ClientId) (ino : ℕ) (p : Demanding) (o : Option Waiter) → find (is_wait_on ino) p.locks.waiters ≡ o → AreDemanded (demand_for k now tick cs o p).locks cs ino
  unfolding demand_for
  for_by cs ino p None q w f c t r e = let u : None ≡ Some w = sym q ∙ f in cc
  for_by cs ino p (Some v) q w f c t r e =
      let m : Locks = (demand_for k now tick cs (Some v) p).locks in
      let u : Some v ≡ Some w = sym q ∙ ap (find (is_wait_on ino)) (sym (lowers_for cs (Some v) p).waits) ∙ f in
      let s : w ≡ v = cc in
      (subst (λ x. (c : ClientId) → list_any (is_in_way x c) m.rows && not (is_among cs c) ≡ true → IsLowOf m (wish x.mode) c x.ino) (sym s) (for_wait cs v p)) c t r e

  lowers_demanded : (cs : List ClientId) (l m : Locks) (j : ℕ) → Lowers l m → AreDemanded l cs j → AreDemanded m cs j
  lowers_demanded cs l m j s d w f c t r e = s.low (wish w.mode) c w.ino (d w (ap (find (is_wait_on j)) (sym s.waits) ∙ f) c (ap (λ b. b && not (is_among cs c)) (sym (s.in_way w c)) ∙ t)) r e

  files_demanded : (cs : List ClientId) (xs : List ℕ) (p : Demanding) (j : ℕ) → AreDemanded p.locks cs j ⊎ (has j xs ≡ true) → AreDemanded (demand_files k now tick cs xs p).locks cs j
  unfolding demand_files
  files_demanded cs [] p j h = ⊎_elim (λ z. z) (λ z. absurd (true≢false (sym z))) h
  files_demanded cs (x ∷ xs) p j h =
      let q = demand_for k now tick cs (find (is_wait_on x) p.locks.waiters) p in
      ⊎_elim
      (λ e. files_demanded cs xs q j (inl (subst (AreDemanded q.locks cs) (eqb-true x j e) (for_by cs x p (find (is_wait_on x) p.locks.waiters) refl))))
      (λ e.
      files_demanded cs xs q j
      (⊎_elim
      (λ z. inl (lowers_demanded cs p.locks q.locks j (lowers_for cs (find (is_wait_on x) p.locks.waiters) p) z))
      (λ z. inr (sym (ap (λ b. b || has j xs) e) ∙ z))
      h))
      (cases_Bool (x == j))

  pub lowers_files : (cs : List ClientId) (xs : List ℕ) (p : Demanding) → Lowers p.locks (demand_files k now tick cs xs p).locks
  unfolding demand_files
  lowers_files cs [] p = lowers_itself p.locks
  lowers_files cs (x ∷ xs) p =
      let q = demand_for k now tick cs (find (is_wait_on x) p.locks.waiters) p in
      lowers_over p.locks q.locks (demand_files k now tick cs xs q).locks (lowers_for cs (find (is_wait_on x) p.locks.waiters) p) (lowers_files cs xs q)

-- what holds of each row in the way of a file's first waiter holds if nobody waits
pub none_waits : (l : Locks) (cs : List ClientId) (j : ℕ) (P : Waiter → Option RowDemand → Bool) → find (is_wait_on j) l.waiters ≡ None → EachInWay l cs j P
none_waits l cs j P q w f c t r e = let u : None ≡ Some w = sym q ∙ f in cc

-- after a pass, of all files what is in the way is demanded
pub all_demanded : (k : Config) (now : Stamp) (tick : Bool) (cs : List ClientId) (l : Locks) (j : ℕ) → AreDemanded (demands_due l now tick cs k).locks cs j
unfolding demands_due
all_demanded k now tick cs l j =
    files_demanded k now tick cs (waited_files l) (nothing_demanded l) j
    (⊎_elim
    (λ e. inr e)
    (λ e. inl (none_waits l cs j (λ w o. is_low (wish w.mode) o) (none_found (is_wait_on j) l.waiters (sym (any_mapped ino_of_wait j l.waiters) ∙ sym (has_rising j (map ino_of_wait l.waiters)) ∙ e))))
    (cases_Bool (has j (waited_files l))))

-- A pass over one file leaves the others.

module _ (k : Config) (now : Stamp) (tick : Bool) where
  same_demand : (l : Locks) (r : LockRow) (d : RowDemand) (j : ℕ) → (r.ino == j) ≡ false → SameOn j l (with_demand r d l)
  unfolding demanded
  same_demand l r d j n = record {
    rows = map_apart (is_row_on j) (is_row_of r.client r.ino) (demanded d) (λ x e. let u = other_file x.ino r.ino j (and_parts (same_client x.client r.client) (x.ino == r.ino) e).1 n in (u, u)) l.rows;
    waits = refl;
  }

  same_with : (p : Demanding) (r : LockRow) (o : Option RowDemand) (j : ℕ) → (r.ino == j) ≡ false → SameOn j p.locks (demand_with p r o).locks
  unfolding demand_with
  same_with p r None j n = same_itself j p.locks
  same_with p r (Some d) j n = same_demand p.locks r d j n

  same_row : (to : Mode) (p : Demanding) (c : ClientId) (ino j : ℕ) → (ino == j) ≡ false → (o : Option LockRow) → row_of p.locks c ino ≡ o → SameOn j p.locks (demand_row k now tick to o p).locks
  unfolding demand_row
  same_row to p c ino j n None q = same_itself j p.locks
  same_row to p c ino j n (Some r) q = same_with p r (demand_now k now tick to r.demand) j (ap (λ i. i == j) (found_keys p.locks c ino r q).1 ∙ n)

  same_clients : (to : Mode) (ino j : ℕ) → (ino == j) ≡ false → (cs : List ClientId) (p : Demanding) → SameOn j p.locks (demand_clients k now tick ino to cs p).locks
  unfolding demand_clients
  same_clients to ino j n [] p = same_itself j p.locks
  same_clients to ino j n (c ∷ cs) p =
      let q = demand_row k now tick to (row_of p.locks c ino) p in
      same_over j p.locks q.locks (demand_clients k now tick ino to cs q).locks (same_row to p c ino j n (row_of p.locks c ino) refl) (same_clients to ino j n cs q)

  same_by : (cs : List ClientId) (ino j : ℕ) (p : Demanding) → (ino == j) ≡ false → (o : Option Waiter) → find (is_wait_on ino) p.locks.waiters ≡ o → SameOn j p.locks (demand_for k now tick cs o p).locks
  unfolding demand_for
  same_by cs ino j p n None q = same_itself j p.locks
  same_by cs ino j p n (Some w) q = same_clients (wish w.mode) w.ino j (ap (λ i. i == j) (eqb-true w.ino ino (found_passes (is_wait_on ino) w p.locks.waiters q)) ∙ n) (to_demand p.locks cs w) p

  pub same_for : (cs : List ClientId) (ino j : ℕ) (p : Demanding) → (ino == j) ≡ false → SameOn j p.locks (demand_for k now tick cs (find (is_wait_on ino) p.locks.waiters) p).locks
  same_for cs ino j p n = same_by cs ino j p n (find (is_wait_on ino) p.locks.waiters) refl

-- A pass over a file of which no demand is sent.

module _ (k : Config) (now : Stamp) (tick : Bool) (to : Mode) (ino : ℕ) (p : Demanding) where
  idle_row : (c : ClientId) → ((r : LockRow) → row_of p.locks c ino ≡ Some r → is_idle k now tick to r.demand ≡ true) → (o : Option LockRow) → row_of p.locks c ino ≡ o → demand_row k now tick to o p ≡ p
  unfolding demand_row demand_with
  idle_row c h None q = refl
  idle_row c h (Some r) q = ap (demand_with p r) (none_of (demand_now k now tick to r.demand) (h r q))

  idle_clients : (cs : List ClientId) → ((c : ClientId) → is_among cs c ≡ true → (r : LockRow) → row_of p.locks c ino ≡ Some r → is_idle k now tick to r.demand ≡ true) → demand_clients k now tick ino to cs p ≡ p
  unfolding demand_clients
  idle_clients [] h = refl
  idle_clients (c ∷ cs) h =
      ap (demand_clients k now tick ino to cs) (idle_row c (h c (ap (λ b. b || is_among cs c) (eq-eqb c.0 c.0 refl))) (row_of p.locks c ino) refl)
      ∙ idle_clients cs (λ d e. h d (or_right (same_client d c) (is_among cs d) e))

-- no demand on a row in the way of the file's first waiter is sent
abbrev pub AreIdle : Config → Stamp → Bool → List ClientId → Locks → ℕ → Type 0
AreIdle k now tick cs l ino = EachInWay l cs ino (λ w o. is_idle k now tick (wish w.mode) o)

idle_by : (k : Config) (now : Stamp) (tick : Bool) (cs : List ClientId) (ino : ℕ) (p : Demanding) (o : Option Waiter) → find (is_wait_on ino) p.locks.waiters ≡ o → AreIdle k now tick cs p.locks ino → demand_for k now tick cs o p ≡ p
unfolding demand_for
idle_by k now tick cs ino p None q d = refl
idle_by k now tick cs ino p (Some w) q d =
    idle_clients k now tick (wish w.mode) w.ino p (to_demand p.locks cs w) (λ c e. d w q c (sym (demanded_way p.locks cs w c) ∙ e))

-- if no demand is sent, a pass over the file does nothing
pub idle_demands : (k : Config) (now : Stamp) (tick : Bool) (cs : List ClientId) (ino : ℕ) (p : Demanding) → AreIdle k now tick cs p.locks ino → demand_for k now tick cs (find (is_wait_on ino) p.locks.waiters) p ≡ p
idle_demands k now tick cs ino p d = idle_by k now tick cs ino p (find (is_wait_on ino) p.locks.waiters) refl d

-- what is demanded and not old is not sent
pub settled_idle : (k : Config) (now : Stamp) (tick : Bool) (cs : List ClientId) (ms : Moments) (l : Locks) (j : ℕ) → IsQuiet k now tick ms → AreDemanded l cs j → AreTimed ms l cs j → AreIdle k now tick cs l j
settled_idle k now tick cs ms l j q a b w f c t r e = low_idle k now ms j tick (wish w.mode) r.demand q (a w f c t r e) (b w f c t r e)

-- The moments of one file of a pass.

pub timed_more : (was ms : Moments) (j : ℕ) (o : Option RowDemand) → KeepsAll was ms → is_timed was j o ≡ true → is_timed ms j o ≡ true
timed_more was ms j None h e = refl
timed_more was ms j (Some d) h e = h j d.sent e

module _ (k : Config) (now : Stamp) (tick : Bool) (cs : List ClientId) (ino : ℕ) (p : Demanding) (was ms : Moments) (more : KeepsAll was ms) where
  timed_same : (j : ℕ) (m : Locks) → SameOn j p.locks m → AreTimed was p.locks cs j → AreTimed ms m cs j
  timed_same j m s h w f c t r e = timed_more was ms j r.demand more (each_same (λ w o. is_timed was j o) j p.locks m cs s h w f c t r e)

  own_timed : (v : Waiter) → find (is_wait_on ino) p.locks.waiters ≡ Some v → TimesRows (demand_for k now tick cs (Some v) p).locks (to_demand p.locks cs v) v.ino ms → AreTimed ms (demand_for k now tick cs (Some v) p).locks cs ino
  own_timed v q h w f c t r e =
      let m : Locks = (demand_for k now tick cs (Some v) p).locks in
      let low : Lowers p.locks m = lowers_for k now tick cs (Some v) p in
      let u : Some v ≡ Some w = sym q ∙ ap (find (is_wait_on ino)) (sym low.waits) ∙ f in
      let s : w ≡ v = cc in
      let at : v.ino ≡ ino = eqb-true v.ino ino (found_passes (is_wait_on ino) v p.locks.waiters q) in
      let there : list_any (is_in_way v c) m.rows && not (is_among cs c) ≡ true = subst (λ x. list_any (is_in_way x c) m.rows && not (is_among cs c) ≡ true) s t in
      subst (λ i. is_timed ms i r.demand ≡ true) at
      (h c (demanded_way p.locks cs v c ∙ ap (λ b. b && not (is_among cs c)) (sym (low.in_way v c)) ∙ there) r (ap (λ x. row_of m c x.ino) (sym s) ∙ e))

  pub times_wait : (v : Waiter) → find (is_wait_on ino) p.locks.waiters ≡ Some v → TimesRows (demand_for k now tick cs (Some v) p).locks (to_demand p.locks cs v) v.ino ms → Times cs (λ j. ino == j) p.locks was (demand_for k now tick cs (Some v) p).locks ms
  times_wait v q h j a =
      let m : Locks = (demand_for k now tick cs (Some v) p).locks in
      ⊎_elim
      (λ e. subst (AreTimed ms m cs) (eqb-true ino j e) (own_timed v q h))
      (λ e. timed_same j m (same_by k now tick cs ino j p e (Some v) q) (a e))
      (cases_Bool (ino == j))

-- if nobody waits for the file, nothing must be timed
times_none : (cs : List ClientId) (ino : ℕ) (l : Locks) (ms : Moments) → find (is_wait_on ino) l.waiters ≡ None → Times cs (λ j. ino == j) l ms l ms
times_none cs ino l ms q j a =
    ⊎_elim
    (λ e. subst (AreTimed ms l cs) (eqb-true ino j e) (none_waits l cs ino (λ w o. is_timed ms ino o) q))
    (λ e. a e)
    (cases_Bool (ino == j))

-- One file more of a pass, and one row more of a file.

module _ (k : Config) (now : Stamp) (tick : Bool) (cs : List ClientId) where
  pub files_step : (xs : List ℕ) (i d : ℕ) (p q z : Demanding) → i < length xs → q ≡ demand_for k now tick cs (find (is_wait_on (get_or xs i d)) p.locks.waiters) p
      → demand_files k now tick cs (drop i xs) p ≡ z → demand_files k now tick cs (drop (i + 1) xs) q ≡ z
  unfolding demand_files
  files_step xs i d p q z l e h = ap (demand_files k now tick cs (drop (i + 1) xs)) e ∙ ap (λ ys. demand_files k now tick cs ys p) (sym (drop_more xs i d l)) ∙
      h

  -- a wait whose rows in the way are demanded and timed
  times_done : (ino : ℕ) (p : Demanding) (was ms : Moments) (v : Waiter) (m : Locks) (due : List (ClientId × Life × ℕ × GrantNo × Mode)) → find (is_wait_on ino) p.locks.waiters ≡ Some v → demanding m due ≡ demand_for k now tick cs (Some v) p
      → KeepsAll was ms → TimesRows m (to_demand p.locks cs v) v.ino ms → Times cs (λ j. ino == j) p.locks was m ms
  times_done ino p was ms v m due q w more h =
      let e : m ≡ (demand_for k now tick cs (Some v) p).locks = ap (λ x. x.locks) w in
      subst (λ (x : Locks). Times cs (λ j. ino == j) p.locks was x ms) (sym e)
      (times_wait k now tick cs ino p was ms more v q (subst (λ (x : Locks). TimesRows x (to_demand p.locks cs v) v.ino ms) e h))

  times_by : (ino : ℕ) (p : Demanding) (was ms : Moments) (m : Locks) (due : List (ClientId × Life × ℕ × GrantNo × Mode)) (o : Option Waiter) → find (is_wait_on ino) p.locks.waiters ≡ o → demanding m due ≡ demand_for k now tick cs o p
      → KeepsAll was ms → TimesRows m (to_demand_for p.locks cs o) ino ms → Times cs (λ j. ino == j) p.locks was m ms
  unfolding demand_for
  times_by ino p was ms m due None q w more h =
      subst (λ (x : Locks). Times cs (λ j. ino == j) p.locks was x ms) (sym (ap (λ x. x.locks) w))
      (λ j a. timed_same k now tick cs ino p was ms more j p.locks (same_itself j p.locks) (times_none cs ino p.locks was q j a))
  times_by ino p was ms m due (Some v) q w more h =
      times_done ino p was ms v m due q w more
      (subst (λ i. TimesRows m (to_demand p.locks cs v) i ms) (sym (eqb-true v.ino ino (found_passes (is_wait_on ino) v p.locks.waiters q))) h)

  -- a file whose rows in the way are demanded and timed
  pub times_file : (ino : ℕ) (p : Demanding) (was ms : Moments) (m : Locks) (due : List (ClientId × Life × ℕ × GrantNo × Mode)) → demanding m due ≡ demand_for k now tick cs (find (is_wait_on ino) p.locks.waiters) p
      → KeepsAll was ms → TimesRows m (to_demand_on p.locks cs ino) ino ms → Times cs (λ j. ino == j) p.locks was m ms
  times_file ino p was ms m due w more h = times_by ino p was ms m due (find (is_wait_on ino) p.locks.waiters) refl w more h

pub times_step : (cs : List ClientId) (xs : List ℕ) (i d : ℕ) (l m : Locks) (was ms : Moments) (j : ℕ) → i < length xs → (is_one_of (drop i xs) j ≡ false → AreTimed was l cs j)
    → Times cs (λ z. get_or xs i d == z) l was m ms → is_one_of (drop (i + 1) xs) j ≡ false → AreTimed ms m cs j
times_step cs xs i d l m was ms j n h t e = t j (λ u. h (ap (λ ys. is_one_of ys j) (drop_more xs i d n) ∙ (λ z. u z || e z)))

if_found : {A : Type 0} (P : A → Type 0) (o : Option A) (x : A) → o ≡ Some x → IfSome o P → P x
if_found P None x e h = cc
if_found P (Some y) x e h = let z : y ≡ x = cc in subst P z h

pub rows_step : (l : Locks) (ino : ℕ) (cs : List ClientId) (i : ℕ) (d : ClientId) (was ms : Moments) → i < length cs → KeepsAll was ms
    → ((c : ClientId) → is_among cs c ≡ true → is_among (drop i cs) c ≡ false → (r : LockRow) → row_of l c ino ≡ Some r → is_timed was ino r.demand ≡ true)
    → IfSome (row_of l (get_or cs i d) ino) (λ r. is_timed ms ino r.demand ≡ true)
    → (c : ClientId) → is_among cs c ≡ true → is_among (drop (i + 1) cs) c ≡ false → (r : LockRow) → row_of l c ino ≡ Some r → is_timed ms ino r.demand ≡ true
rows_step l ino cs i d was ms n more h x c a b r e =
    let y = get_or cs i d in
    ⊎_elim
    (λ t. if_found (λ (z : LockRow). is_timed ms ino z.demand ≡ true) (row_of l y ino) r (ap (λ k. find (λ z. (z.client.0 == k) && (z.ino == ino)) l.rows) (sym (eqb-true c.0 y.0 t)) ∙ e) x)
    (λ f. timed_more was ms ino r.demand more (h c a (ap (λ ys. is_among ys c) (drop_more cs i d n) ∙ (λ z. f z || b z)) r e))
    (cases_Bool (same_client c y))

pub on_two : {X E : Type 0} {A B C : Type 0} (r : Result X E) → (A → B → C) → OnOk r A → OnOk r B → OnOk r C
on_two (Ok x) f a b = f a b
on_two (Err e) f a b = tt

pub on_true : {P : Type 0} (r : Bool) → (r ≡ true → P) → OnTrue r P
on_true true h = h refl
on_true false h = tt

pub one_client : (a b : ClientId) → Decides (a.0 == b.0) (a ≡ b)
one_client a b = ((λ e i. record { 0 = eqb-true a.0 b.0 e i }), (λ q. eq-eqb a.0 b.0 (ap (λ x. x.0) q)))
