-- The lives whose lease ends are still ahead, with one more life, and after an advance.
use Rattle.std.proofs.Common.{◌≡◌, ℕ, zero, suc, ◌+◌, ◌^◌, ◌<◌, ◌≤◌, Bool, true, false, if◌then◌else◌, List, [], ◌∷◌, ◌++◌, length, refl, sym, ap, ◌∙◌, arith, true≢false}
use Rattle.std.specs.Prelude.{filter, nat_le, nat_lt, slice_get, Option, Some, None, unwrap_or}
use Rattle.std.specs.List.{list_all}
use Rattle.std.proofs.lemmas.Bool.{and_parts, ltb-true, lt-ltb, leb-true, le-leb}
use Rattle.std.proofs.lemmas.List.Elements.{filter-append}
use Rattle.st_base.specs.declared.ids.Stamp.{Stamp}
use Rattle.st_rules.specs.declared.world.LeaseLife.{LeaseLife}
use Rattle.st_rules.specs.Admissible.{reaches}
use Rattle.st_rules.specs.Events.{advanced}
use Rattle.st_rules.specs.World.{stamp}
use Rattle.st_world_parts.specs.Clocks.{clock_at, step_at, ends_after, is_ahead, is_reached, is_at_most, is_step}

-- a narrower test over what a wider one left
pub filter_twice : (p q : LeaseLife → Bool) (xs : List LeaseLife) → ((e : LeaseLife) → p e ≡ true → q e ≡ true) → filter p (filter q xs) ≡ filter p xs
filter_twice p q [] h = refl
filter_twice p q (x ∷ xs) h = by_wider (q x) refl (filter_twice p q xs h)
  where
    without : (b : Bool) → (b ≡ true → false ≡ true) → (if b then x ∷ filter p xs else filter p xs) ≡ filter p xs
    without true k = absurd (true≢false (sym (k refl)))
    without false k = refl

    by_wider : (b : Bool) → q x ≡ b → filter p (filter q xs) ≡ filter p xs → filter p (if b then x ∷ filter q xs else filter q xs) ≡ (if p x then x ∷ filter p xs else filter p xs)
    by_wider true e t = ap (λ l. if p x then x ∷ l else l) t
    by_wider false e t = t ∙ sym (without (p x) (λ k. sym e ∙ h x k))

-- what is reached was ahead
pub reached_was_ahead : (clocks : List Stamp) (steps : List ℕ) (e : LeaseLife) → is_reached clocks steps e ≡ true → is_ahead clocks e ≡ true
reached_was_ahead clocks steps e h = by_end (clock_at clocks e.client.0) (step_at steps e.client.0) e.end h
  where
    by_end : (t : Stamp) (d : ℕ) (o : Option Stamp) → reaches t d o ≡ true → ends_after t o ≡ true
    by_end t d None k = k
    by_end t d (Some end) k = (and_parts (nat_lt t.0 end.0) (nat_le end.0 (t.0 + d)) k).0

-- clocks do not fall
clock_rises : (n : ℕ) (steps : List ℕ) (clocks : List Stamp) → length steps ≡ length clocks → (unwrap_or (slice_get clocks n) (stamp 0)).0 ≤ (unwrap_or (slice_get (advanced steps clocks) n) (stamp 0)).0
unfolding advanced
clock_rises n [] clocks h = omega arith
clock_rises n (d ∷ ds) [] h = absurd (omega (arith, h))
clock_rises zero (d ∷ ds) (t ∷ ts) h = omega arith
clock_rises (suc n) (d ∷ ds) (t ∷ ts) h = clock_rises n ds ts (omega (arith, h))

rises : (n : ℕ) (steps : List ℕ) (clocks : List Stamp) → length steps ≡ length clocks → (clock_at clocks n).0 ≤ (clock_at (advanced steps clocks) n).0
rises zero steps clocks h = omega arith
rises (suc n) steps clocks h = clock_rises n steps clocks h

-- what is ahead after an advance was ahead before it
pub ahead_was_ahead : (clocks : List Stamp) (steps : List ℕ) (e : LeaseLife) → length steps ≡ length clocks → is_ahead (advanced steps clocks) e ≡ true → is_ahead clocks e ≡ true
ahead_was_ahead clocks steps e l h = by_end (clock_at clocks e.client.0) (clock_at (advanced steps clocks) e.client.0) e.end (rises e.client.0 steps clocks l) h
  where
    by_end : (t u : Stamp) (o : Option Stamp) → t.0 ≤ u.0 → ends_after u o ≡ true → ends_after t o ≡ true
    by_end t u None le k = k
    by_end t u (Some end) le k = let q : u.0 < end.0 = ltb-true u.0 end.0 k in lt-ltb t.0 end.0 (omega (arith, le, q))

-- a clock is at most what all clocks are at most
pub clock_low : (n b : ℕ) (clocks : List Stamp) → list_all (is_at_most b) clocks ≡ true → (clock_at clocks n).0 ≤ b
clock_low zero b clocks h = omega arith
clock_low (suc n) b clocks h = among n clocks h
  where
    among : (k : ℕ) (ts : List Stamp) → list_all (is_at_most b) ts ≡ true → (unwrap_or (slice_get ts k) (stamp 0)).0 ≤ b
    among k [] q = omega arith
    among zero (t ∷ ts) q = leb-true t.0 b (and_parts (nat_le t.0 b) (list_all (is_at_most b) ts) q).0
    among (suc k) (t ∷ ts) q = among k ts (and_parts (nat_le t.0 b) (list_all (is_at_most b) ts) q).1

-- an increment is below 2^32
pub step_low : (n : ℕ) (steps : List ℕ) → list_all is_step steps ≡ true → step_at steps n ≤ 2 ^ 32
step_low zero steps h = omega arith
step_low (suc n) steps h = among n steps h
  where
    among : (k : ℕ) (ds : List ℕ) → list_all is_step ds ≡ true → unwrap_or (slice_get ds k) 0 ≤ 2 ^ 32
    among k [] q = omega arith
    among zero (d ∷ ds) q = let lt : d < 2 ^ 32 = ltb-true d (2 ^ 32) (and_parts (nat_lt d (2 ^ 32)) (list_all is_step ds) q).0 in omega (arith, lt)
    among (suc k) (d ∷ ds) q = among k ds (and_parts (nat_lt d (2 ^ 32)) (list_all is_step ds) q).1

-- clocks after an advance
pub advanced_low : (b : ℕ) (steps : List ℕ) (clocks : List Stamp) → list_all (is_at_most b) clocks ≡ true → list_all is_step steps ≡ true → list_all (is_at_most (b + 2 ^ 32)) (advanced steps clocks) ≡ true
unfolding advanced
advanced_low b [] clocks h k = weaker clocks h
  where
    weaker : (ts : List Stamp) → list_all (is_at_most b) ts ≡ true → list_all (is_at_most (b + 2 ^ 32)) ts ≡ true
    weaker [] q = refl
    weaker (t ∷ ts) q =
        let p = and_parts (nat_le t.0 b) (list_all (is_at_most b) ts) q in
        let low : t.0 ≤ b = leb-true t.0 b p.0 in
        let here : nat_le t.0 (b + 2 ^ 32) ≡ true = le-leb t.0 (b + 2 ^ 32) (omega (arith, low)) in
        rw here (weaker ts p.1)
advanced_low b (d ∷ ds) [] h k = refl
advanced_low b (d ∷ ds) (t ∷ ts) h k =
    let p = and_parts (nat_le t.0 b) (list_all (is_at_most b) ts) h in
    let q = and_parts (nat_lt d (2 ^ 32)) (list_all is_step ds) k in
    let low : t.0 ≤ b = leb-true t.0 b p.0 in
    let lt : d < 2 ^ 32 = ltb-true d (2 ^ 32) q.0 in
    let here : nat_le (t.0 + d) (b + 2 ^ 32) ≡ true = le-leb (t.0 + d) (b + 2 ^ 32) (omega (arith, low, lt)) in
    rw here (advanced_low b ds ts p.1 q.1)

-- one more life that is still ahead
pub later_more : (clocks : List Stamp) (xs : List LeaseLife) (e : LeaseLife) → filter (is_ahead clocks) (xs ++ e ∷ []) ≡ filter (is_ahead clocks) xs ++ (if is_ahead clocks e then e ∷ [] else [])
later_more clocks xs e = filter-append (is_ahead clocks) xs (e ∷ [])

-- an advance keeps the number of clocks
pub length-advanced : (steps : List ℕ) (clocks : List Stamp) → length steps ≡ length clocks → length (advanced steps clocks) ≡ length clocks
unfolding advanced
length-advanced [] [] h = refl
length-advanced [] (t ∷ ts) h = absurd (omega (arith, h))
length-advanced (d ∷ ds) [] h = refl
length-advanced (d ∷ ds) (t ∷ ts) h = ap suc (length-advanced ds ts (omega (arith, h)))
