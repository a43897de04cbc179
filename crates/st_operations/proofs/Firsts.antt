-- Lists of operations by their places: which pass a test, and which are fit.
use Rattle.std.proofs.Common.{◌≡◌, ℕ, zero, suc, ◌+◌, ◌-◌, ◌≤◌, Bool, true, false, cond, List, [], ◌∷◌, ◌++◌, if◌then◌else◌, length, map, take, Some, None, refl, sym, ap, ◌∙◌, arith, append_assoc, length-append, add-one, true≢false}
use Rattle.std.specs.Prelude.{filter, remove, slice_get, ◌&&◌, ◌||◌, nat_lt, IfSome, Option}
use Rattle.std.specs.Option.{option_copied, option_map_or, option_to_list}
use Rattle.std.specs.List.{list_all, list_any}
use Rattle.std.proofs.lemmas.Bool.{and_parts, lt-ltb}
use denote.Ref.{Bor}
use Rattle.st_base.specs.declared.ids.ServerId.{ServerId}
use Rattle.st_rules.specs.declared.client.Operation.{Operation}
use Rattle.st_messages.specs.Ranges.{is_ask}
use Rattle.st_rules.specs.declared.client.Stage.TheVariants.{Stuck}
use Rattle.st_rules.specs.ClientState.{at_stage, is_asked, is_of, is_sync}
use Rattle.st_operations.specs.PendingOperations.{AreCounted, AreFit, asks_sync, count_syncs, is_fit, marked, may_act, stuck}

marked_fit : (os : List Operation) (i : ℕ) → list_all is_fit (marked i os) ≡ list_all is_fit os
marked_fit [] i = refl
marked_fit (x ∷ xs) zero = refl
marked_fit (x ∷ xs) (suc i) = ap (λ b. is_fit x && b) (marked_fit xs i)

marked_count : (os : List Operation) (i : ℕ) → count_syncs (marked i os) ≡ count_syncs os
marked_count [] i = refl
marked_count (x ∷ xs) zero = refl
marked_count (x ∷ xs) (suc i) = ap (λ n. (if asks_sync x then 1 else 0) + n) (marked_count xs i)

-- what is asked stays
pub counted_marked : (os : List Operation) (i n : ℕ) (new : List Operation) → new ≡ marked i os → AreCounted os n → AreCounted new n
counted_marked os i n new e h = record {
  fit = ap (list_all is_fit) e ∙ marked_fit os i ∙ h.fit;
  count = h.count ∙ sym (marked_count os i) ∙ sym (ap count_syncs e);
}

-- only the stage changes
stuck_ask : (server : ServerId) (o : Operation) → (stuck server o).ask ≡ o.ask
stuck_ask server o = by (is_asked server o)
  where
    by : (b : Bool) → (if b then at_stage Stuck o else o).ask ≡ o.ask
    by true = refl
    by false = refl

stuck_fit : (server : ServerId) (os : List Operation) → list_all is_fit (map (stuck server) os) ≡ list_all is_fit os
stuck_fit server [] = refl
stuck_fit server (o ∷ os) = λ j. is_ask (stuck_ask server o j) && stuck_fit server os j

stuck_count : (server : ServerId) (os : List Operation) → count_syncs (map (stuck server) os) ≡ count_syncs os
stuck_count server [] = refl
stuck_count server (o ∷ os) = λ j. (if is_sync (stuck_ask server o j) then 1 else 0) + stuck_count server os j

pub counted_stuck : (server : ServerId) (os : List Operation) (n : ℕ) (new : List Operation) → new ≡ map (stuck server) os → AreCounted os n → AreCounted new n
counted_stuck server os n new e h = record {
  fit = ap (list_all is_fit) e ∙ stuck_fit server os ∙ h.fit;
  count = h.count ∙ sym (stuck_count server os) ∙ sym (ap count_syncs e);
}

-- the first ones that a test picks, and one more
picked_suc : {A : Type 0} (p : A → Bool) (xs : List A) (i : ℕ) → filter p (take i xs) ++ filter p (option_to_list (slice_get xs i)) ≡ filter p (take (suc i) xs)
picked_suc p [] zero = refl
picked_suc p [] (suc i) = refl
picked_suc p (y ∷ ys) zero = refl
picked_suc p (y ∷ ys) (suc i) = by (p y) (picked_suc p ys i)
  where
    by : (b : Bool) → filter p (take i ys) ++ filter p (option_to_list (slice_get ys i)) ≡ filter p (take (suc i) ys) →
        cond b (y ∷ filter p (take i ys)) (filter p (take i ys)) ++
        filter p (option_to_list (slice_get ys i)) ≡ cond b (y ∷ filter p (take (suc i) ys)) (filter p (take (suc i) ys))
    by true h = ap (λ l. y ∷ l) h
    by false h = h

pub picked_more : {A : Type 0} (p : A → Bool) (xs : List A) (i : ℕ) →
    filter p (take i xs) ++ filter p (option_to_list (slice_get xs i)) ≡ filter p (take (i + 1) xs)
picked_more p xs i = picked_suc p xs i ∙ ap (λ n. filter p (take n xs)) (sym (add-one i))

-- how many a test picks, and one more
pub counted_one_more : {A : Type 0} (p : A → Bool) (xs : List A) (i : ℕ) →
    length (filter p (take i xs)) + length (filter p (option_to_list (slice_get xs i))) ≡ length (filter p (take (i + 1) xs))
counted_one_more p xs i = sym (length-append (filter p (take i xs)) (filter p (option_to_list (slice_get xs i)))) ∙ ap length (picked_more p xs i)

map_both : {A B : Type 0} (f : A → B) (xs ys : List A) → map f (xs ++ ys) ≡ map f xs ++ map f ys
map_both f [] ys = refl
map_both f (x ∷ xs) ys = ap (λ l. f x ∷ l) (map_both f xs ys)

-- what is reported about the first ones that a test picks, and of one more
pub answered_more : {A B : Type 0} (f : A → B) (p : A → Bool) (xs : List A) (i : ℕ) (first now next : List B) →
    now ≡ first ++ map f (filter p (take i xs)) → next ≡ now ++ map f (filter p (option_to_list (slice_get xs i))) →
    next ≡ first ++ map f (filter p (take (i + 1) xs))
answered_more f p xs i first now next h k =
    let one = filter p (option_to_list (slice_get xs i)) in
    k ∙ ap (λ ys. ys ++ map f one) h
    ∙ append_assoc first (map f (filter p (take i xs))) (map f one)
    ∙ ap (λ ys. first ++ ys) (sym (map_both f (filter p (take i xs)) one))
    ∙ ap (λ ys. first ++ map f ys) (picked_more p xs i)

-- all of a list
pub take_whole : {A : Type 0} (xs : List A) (i : ℕ) → length xs ≤ i → take i xs ≡ xs
take_whole [] zero l = refl
take_whole [] (suc i) l = refl
take_whole (x ∷ xs) zero l = absurd (omega arith)
take_whole (x ∷ xs) (suc i) l = ap (λ l. x ∷ l) (take_whole xs i (omega arith))

-- the operation at a place is fit
fit_at : (os : List Operation) (i : ℕ) → AreFit os → option_map_or is_fit (slice_get os i) true ≡ true
fit_at [] zero h = refl
fit_at [] (suc i) h = refl
fit_at (x ∷ xs) zero h = (and_parts (is_fit x) (list_all is_fit xs) h).0
fit_at (x ∷ xs) (suc i) h = fit_at xs i (and_parts (is_fit x) (list_all is_fit xs) h).1

pub fit_got : (os : List Operation) (i : ℕ) (r : Option (Bor Operation)) → AreFit os → option_copied r ≡ slice_get os i → IfSome r (λ o. is_fit o.now ≡ true)
fit_got os i None h e = tt
fit_got os i (Some b) h e = ap (λ o. option_map_or is_fit o true) e ∙ fit_at os i h

-- the operations except for the one at a place are fit
pub fit_removed : (os : List Operation) (i : ℕ) → AreFit os → AreFit (remove os i)
fit_removed [] zero h = h
fit_removed [] (suc i) h = h
fit_removed (x ∷ xs) zero h = (and_parts (is_fit x) (list_all is_fit xs) h).1
fit_removed (x ∷ xs) (suc i) h =
    let q = and_parts (is_fit x) (list_all is_fit xs) h in
    let r = fit_removed xs i q.1 in
    λ j. q.0 j && r j

-- How many operations are syncs.

-- one more, after the others
pub count_more : (os : List Operation) (o : Operation) → count_syncs (os ++ o ∷ []) ≡ count_syncs os + count_syncs (o ∷ [])
count_more [] o = omega arith
count_more (x ∷ xs) o = let e = count_more xs o in omega (arith, e)

-- no more than there are operations
pub count_small : (os : List Operation) → count_syncs os ≤ length os
count_small [] = omega arith
count_small (x ∷ xs) = by (asks_sync x) (count_small xs)
  where
    by : (b : Bool) → count_syncs xs ≤ length xs → cond b 1 0 + count_syncs xs ≤ suc (length xs)
    by true h = omega (arith, h)
    by false h = omega (arith, h)

-- the one at a place, and the others
pub count_taken : (os : List Operation) (i : ℕ) → count_syncs (option_to_list (slice_get os i)) + count_syncs (remove os i) ≡ count_syncs os
count_taken [] zero = omega arith
count_taken [] (suc i) = omega arith
count_taken (x ∷ xs) zero = omega arith
count_taken (x ∷ xs) (suc i) = let e = count_taken xs i in omega (arith, e)

-- all are fit, and the syncs are counted, with one more
fit_more : (os : List Operation) (o : Operation) → AreFit os → is_fit o ≡ true → AreFit (os ++ o ∷ [])
fit_more [] o h f = λ j. f j && true
fit_more (x ∷ xs) o h f =
    let q = and_parts (is_fit x) (list_all is_fit xs) h in
    let r = fit_more xs o q.1 f in
    λ j. q.0 j && r j

pub counted_more : (os : List Operation) (o : Operation) (n m : ℕ) (new : List Operation) → AreCounted os n → is_fit o ≡ true → m ≡ count_syncs (o ∷ []) →
    new ≡ os ++ o ∷ [] → AreCounted new (n + m)
counted_more os o n m new h f k e = record {
  fit = ap (list_all is_fit) e ∙ fit_more os o h.fit f;
  count = (λ j. h.count j + k j) ∙ sym (count_more os o) ∙ sym (ap count_syncs e);
}

-- no more than there were are taken, and the others are counted
pub counted_few : (os : List Operation) (i n m : ℕ) (r : Option Operation) → AreCounted os n → r ≡ slice_get os i → m ≡ count_syncs (option_to_list r) → m ≤ n
counted_few os i n m r h e k =
    let t = ap (λ x. count_syncs (option_to_list x)) e in
    omega (arith, h.count, k, t, count_taken os i)

pub counted_taken : (os : List Operation) (i n m : ℕ) (r : Option Operation) (new : List Operation) → AreCounted os n → r ≡ slice_get os i →
    m ≡ count_syncs (option_to_list r) → new ≡ remove os i → AreCounted new (n - m)
counted_taken os i n m r new h e k l =
    let t = ap (λ x. count_syncs (option_to_list x)) e in
    let u = ap count_syncs l in
    record {
      fit = ap (list_all is_fit) l ∙ fit_removed os i h.fit;
      count = omega (arith, h.count, k, t, u, count_taken os i);
    }

-- whether there is one
any_counted : (os : List Operation) → nat_lt 0 (count_syncs os) ≡ list_any asks_sync os
any_counted [] = refl
any_counted (x ∷ xs) = by (asks_sync x) (any_counted xs)
  where
    by : (b : Bool) → nat_lt 0 (count_syncs xs) ≡ list_any asks_sync xs → nat_lt 0 (cond b 1 0 + count_syncs xs) ≡ (b || list_any asks_sync xs)
    by true h = lt-ltb 0 (1 + count_syncs xs) (omega arith)
    by false h = ap (nat_lt 0) (omega arith) ∙ h

pub any_sync : (os : List Operation) (n : ℕ) → AreCounted os n → nat_lt 0 n ≡ list_any asks_sync os
any_sync os n h = ap (nat_lt 0) h.count ∙ any_counted os

-- only syncs may do anything, and there is none
pub none_acts : (server : ServerId) (os : List Operation) → list_any asks_sync os ≡ false → list_any (may_act server false) os ≡ false
none_acts server [] e = refl
none_acts server (o ∷ os) e = by (asks_sync o) (is_of server o) e (none_acts server os)
  where
    by : (b c : Bool) → (b || list_any asks_sync os) ≡ false → (list_any asks_sync os ≡ false → list_any (may_act server false) os ≡ false) →
        ((b && c) || list_any (may_act server false) os) ≡ false
    by true c e h = absurd (true≢false e)
    by false c e h = h e
