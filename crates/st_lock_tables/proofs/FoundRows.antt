-- What was found among rows or waits.
use Rattle.std.proofs.Common.{◌≡◌, ℕ, suc, ◌+◌, ◌-◌, ◌<◌, ◌≤◌, Bool, true, false, cond, if◌then◌else◌, List, [], ◌∷◌, ◌++◌, map, filter, length, take, get_or, refl, sym, ap, ◌∙◌, ⊎_elim, true≢false, arith, lt-ltb, le-ltb}
use Rattle.std.specs.Prelude.{find, filter_map, not, option_to_list, Option, Some, None, nat_lt, ◌==◌, ◌&&◌, ◌||◌}
use Rattle.std.specs.List.{IsDistinct, list_all, list_any, cons_option}
use Rattle.std.proofs.lemmas.Bool.{cases_lt, and_parts, eqb-true, or_parts, false_from_ne_true}
use Rattle.std.proofs.lemmas.List.{take_more}
use Rattle.std.proofs.lemmas.List.Elements.{filter_map-append}
use Rattle.st_base.specs.declared.ids.ClientId.{ClientId}
use Rattle.st_base.specs.declared.ids.GrantNo.{GrantNo}
use Rattle.st_rules.specs.Keys.{same_client}
use Rattle.st_rules.specs.declared.locks.LockRow.{LockRow}
use Rattle.st_rules.specs.declared.locks.Waiter.{Waiter}
use Rattle.st_rules.specs.Locks.{is_row_of, is_wait_of, observe, answered_row}
use Rattle.st_tables.specs.Tables.{lock_key, same_key}
use Rattle.st_tables.proofs.Places.{at_found, any_at_key}

module _ {A : Type 0} where
  some_counted : (b d : Bool) (x : A) (xs : List A) → nat_lt 0 (length xs) ≡ d → nat_lt 0 (length (cond b (x ∷ xs) xs)) ≡ b || d
  some_counted true d x xs e = lt-ltb 0 (suc (length xs)) (omega arith)
  some_counted false d x xs e = e

  -- some row passes if the count is not 0
  pub any_counted : (p : A → Bool) (xs : List A) → nat_lt 0 (length (filter p xs)) ≡ list_any p xs
  any_counted p [] = refl
  any_counted p (x ∷ xs) = some_counted (p x) (list_any p xs) x (filter p xs) (any_counted p xs)

  all_by : (p g : A → Bool) (x v : A) (xs : List A) (b : Bool) → g x && list_all g xs ≡ true → (list_all g xs ≡ true → find p xs ≡ Some v → g v ≡ true) → cond b (Some x) (find p xs) ≡ Some v → g v ≡ true
  all_by p g x v xs true h r e = let z : x ≡ v = cc in ap g (sym z) ∙ (and_parts (g x) (list_all g xs) h).0
  all_by p g x v xs false h r e = r (and_parts (g x) (list_all g xs) h).1 e

  -- what all rows are, the one that is found is
  pub found_is : (p g : A → Bool) (v : A) (xs : List A) → list_all g xs ≡ true → find p xs ≡ Some v → g v ≡ true
  found_is p g v [] h e = cc
  found_is p g v (x ∷ xs) h e = all_by p g x v xs (p x) h (found_is p g v xs) e

  unseen_by : (q : A → Bool) (f : A → A) (x : A) (xs : List A) (b : Bool) → (list_any q xs ≡ false → map (λ r. if q r then f r else r) xs ≡ xs) → b || list_any q xs ≡ false → (if b then f x else x) ∷ map (λ r. if q r then f r else r) xs ≡ x ∷ xs
  unseen_by q f x xs true h e = absurd (true≢false e)
  unseen_by q f x xs false h e = ap (λ l. x ∷ l) (h e)

  -- if none passes, nothing changes
  pub none_changed : (q : A → Bool) (f : A → A) (xs : List A) → list_any q xs ≡ false → map (λ r. if q r then f r else r) xs ≡ xs
  none_changed q f [] h = refl
  none_changed q f (x ∷ xs) h = unseen_by q f x xs (q x) (none_changed q f xs) h

  module _ (p q : A → Bool) (h : (x : A) → q x ≡ true → p x ≡ true) where
    not_one : (x : A) → p x ≡ false → q x ≡ false
    not_one x e = false_from_ne_true (q x) (λ s. true≢false (sym (h x s) ∙ e))

    -- if none passes a weaker test, all stay
    pub all_stay : (xs : List A) → list_any p xs ≡ false → filter (λ x. not (q x)) xs ≡ xs
    all_stay [] e = refl
    all_stay (x ∷ xs) e =
        let a = or_parts (p x) (list_any p xs) e in
        ap (λ b. cond (not b) (x ∷ filter (λ x. not (q x)) xs) (filter (λ x. not (q x)) xs)) (not_one x a.0) ∙ ap (λ l. x ∷ l) (all_stay xs a.1)

    -- and none is found
    pub none_found : (xs : List A) → list_any p xs ≡ false → find q xs ≡ None
    none_found [] e = refl
    none_found (x ∷ xs) e =
        let a = or_parts (p x) (list_any p xs) e in
        ap (λ b. cond b (Some x) (find q xs)) (not_one x a.0) ∙ none_found xs a.1

  pub filter_true : (xs : List A) → filter (λ x. true) xs ≡ xs
  filter_true [] = refl
  filter_true (x ∷ xs) = ap (λ l. x ∷ l) (filter_true xs)

option_one : {B : Type 0} (o : Option B) → cons_option o [] ≡ option_to_list o
option_one None = refl
option_one (Some x) = refl

pub filter_map_next : {A B : Type 0} (h : A → Option B) (xs : List A) (i : ℕ) (d : A) → i < length xs → filter_map h (take (i + 1) xs) ≡ filter_map h (take i xs) ++ option_to_list (h (get_or xs i d))
filter_map_next h xs i d l =
    ap (filter_map h) (take_more xs i d l) ∙ filter_map-append h (take i xs) (get_or xs i d ∷ []) ∙ ap (λ l. filter_map h (take i xs) ++ l) (option_one (h (get_or xs i d)))

pub filter_map_map : {A B C : Type 0} (f : A → B) (h : B → Option C) (xs : List A) → filter_map h (map f xs) ≡ filter_map (λ x. h (f x)) xs
filter_map_map f h [] = refl
filter_map_map f h (x ∷ xs) = ap (cons_option (h (f x))) (filter_map_map f h xs)

-- a row that is not the one whose demand was seen
pub not_seen : (c : ClientId) (ino : ℕ) (g : GrantNo) (rows : List LockRow) → IsDistinct same_key (map lock_key rows) → at_found (λ r. r.g.0 == g.0) (find (is_row_of c ino) rows) ≡ false → map (observe c ino g) rows ≡ rows
not_seen c ino g rows d e = none_changed (λ r. is_row_of c ino r && (r.g.0 == g.0)) answered_row rows (any_at_key lock_key (λ r. r.g.0 == g.0) (record { first = c.0; second = ino }) rows d ∙ e)

observe_is : (g : GrantNo) (b d : Bool) (x : LockRow) → (if b then (if d then answered_row x else x) else x) ≡ (if b && d then answered_row x else x)
observe_is g true d x = refl
observe_is g false d x = refl

pub observe_map : (client : ClientId) (ino : ℕ) (g : GrantNo) (xs : List LockRow) → map (λ x. if is_row_of client ino x then (if x.g.0 == g.0 then answered_row x else x) else x) xs ≡ map (observe client ino g) xs
observe_map client ino g [] = refl
observe_map client ino g (x ∷ xs) = λ i. observe_is g (is_row_of client ino x) (x.g.0 == g.0) x i ∷ observe_map client ino g xs i

wait_by : (c : ClientId) (i : ℕ) (x r : Waiter) (xs : List Waiter) (b : Bool) → is_wait_of c i x ≡ b → (find (is_wait_of c i) xs ≡ Some r → (r.client ≡ c) × (r.ino ≡ i)) → cond b (Some x) (find (is_wait_of c i) xs) ≡ Some r → (r.client ≡ c) × (r.ino ≡ i)
wait_by c i x r xs true q h e =
    let z : x ≡ r = cc in
    let a = and_parts (same_client x.client c) (x.ino == i) q in
    let p : x.client.0 ≡ c.0 = eqb-true x.client.0 c.0 a.0 in
    ((λ k. record { 0 = (ap (λ y. y.client.0) (sym z) ∙ p) k }), ap (λ y. y.ino) (sym z) ∙ eqb-true x.ino i a.1)
wait_by c i x r xs false q h e = h e

pub wait_keys : (c : ClientId) (i : ℕ) (xs : List Waiter) (r : Waiter) → find (is_wait_of c i) xs ≡ Some r → (r.client ≡ c) × (r.ino ≡ i)
wait_keys c i [] r e = cc
wait_keys c i (x ∷ xs) r e = wait_by c i x r xs (is_wait_of c i x) refl (wait_keys c i xs r) e

-- A row is named by its client and file, whichever way these are given.

pub found_moved : (rows : List LockRow) (c d : ClientId) (i j : ℕ) (v : LockRow) → d ≡ c → j ≡ i → find (is_row_of c i) rows ≡ Some v → find (is_row_of d j) rows ≡ Some v
found_moved rows c d i j v p q e = ap (λ z. find (is_row_of z j) rows) p ∙ ap (λ k. find (is_row_of c k) rows) q ∙ e

pub changed_moved : (rows news : List LockRow) (f : LockRow → LockRow) (c d : ClientId) (i j : ℕ) → d ≡ c → j ≡ i → news ≡ map (λ r. if is_row_of d j r then f r else r) rows → news ≡ map (λ r. if is_row_of c i r then f r else r) rows
changed_moved rows news f c d i j p q e = e ∙ ap (λ z. map (λ r. if is_row_of z j r then f r else r) rows) p ∙ ap (λ k. map (λ r. if is_row_of c k r then f r else r) rows) q

pub lt_shift : (a r : ℕ) → r < 1024 → nat_lt a (1024 - r) ≡ nat_lt (r + a) 1024
lt_shift a r l =
    ⊎_elim
    (λ (h : r + a < 1024). lt-ltb a (1024 - r) (omega arith) ∙ sym (lt-ltb (r + a) 1024 h))
    (λ (h : 1024 ≤ r + a). le-ltb a (1024 - r) (omega arith) ∙ sym (le-ltb (r + a) 1024 h))
    (cases_lt (r + a) 1024)
