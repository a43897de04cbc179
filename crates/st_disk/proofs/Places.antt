-- Where the block of a place is, when one more block is written, or another one at the same place.
use Rattle.st_lemmas.proofs.Tests.{found_passes}
use Rattle.st_lemmas.proofs.Truth.{block_is}
use Rattle.std.proofs.Common.{◌≡◌, ℕ, ◌+◌, ◌<◌, ◌≤◌, Bool, true, false, cond, if◌then◌else◌, List, [], ◌∷◌, ◌++◌, length, set, Option, Some, None, arith, refl, sym, ap, ◌∙◌}
use Rattle.std.specs.Prelude.{◌&&◌, find, not, nat_lt, get_or, slice_get, unwrap_or}
use Rattle.std.specs.List.{position, position_or_len}
use Rattle.std.proofs.Math.Dec.{eqb}
use Rattle.std.proofs.lemmas.Bool.{ltb-false}
use Rattle.std.proofs.lemmas.List.Folds.{find_at, position_or_len_push, position_or_len-set}
use Rattle.std.proofs.lemmas.Option.{slice_get_past}
use Rattle.std.proofs.lemmas.List.Quantifiers.{position-Some}
use Rattle.std.proofs.lemmas.List.Sums.{prefix_len-le-length}
use Rattle.std.proofs.lemmas.List.{length-append, length-set}
use Rattle.st_base.specs.declared.disk.BlockAt.{BlockAt}
use Rattle.st_rules.specs.declared.disks.Block.{Block}
use Rattle.st_rules.specs.Disks.{Disks, block, fresh_block, is_block_at}
use Rattle.st_rules.specs.Keys.{same_block}
use Rattle.st_disk.specs.Indexes.{place_key, same_place}

-- the first place, one element more, by plain numbers
by_numbers : (n m : ℕ) (b : Bool) → n ≤ m → cond (nat_lt (cond (eqb n m) (m + cond b 0 1) n) (m + 1)) (Some (cond (eqb n m) (m + cond b 0 1) n)) None ≡ cond (nat_lt n m) (Some n) (cond b (Some m) None)
by_numbers n m true h = grind arith
by_numbers n m false h = grind arith

position_push : {A : Type 0} (q : A → Bool) (xs : List A) (y : A) → position q (xs ++ y ∷ []) ≡ cond (nat_lt (position_or_len q xs) (length xs)) (Some (position_or_len q xs)) (cond (q y) (Some (length xs)) None)
position_push q xs y =
    (λ i. cond (nat_lt (position_or_len_push q xs y i) (length-append xs (y ∷ []) i)) (Some (position_or_len_push q xs y i)) None)
    ∙ by_numbers (position_or_len q xs) (length xs) (q y) (prefix_len-le-length (λ x. not (q x)) xs)

-- by whether the new block is at the place
by_case : (t c : Bool) (n m : ℕ) (old : Option ℕ) → (t ≡ true → cond c (Some n) None ≡ None) → old ≡ cond c (Some n) None → (if t then Some m else old) ≡ cond c (Some n) (cond t (Some m) None)
by_case true true n m old h e = let k : Some n ≡ None = h refl in absurd (cc)
by_case true false n m old h e = refl
by_case false true n m old h e = e
by_case false false n m old h e = e

-- one more block, at a place that was never written
pub index_more : (bs : List Block) (b : Block) (at : BlockAt) (old : Option ℕ) → position (is_block_at b.at) bs ≡ None → old ≡ position (is_block_at at) bs →
    (if same_place (place_key b.at) (place_key at) then Some (length bs) else old) ≡ position (is_block_at at) (bs ++ b ∷ [])
index_more bs b at old none e =
    by_case (same_place (place_key b.at) (place_key at)) (nat_lt (position_or_len (is_block_at at) bs) (length bs)) (position_or_len (is_block_at at) bs) (length bs) old
    (λ h. sym (ap (λ a. position (is_block_at a) bs) (block_is b.at at h)) ∙ none) e
    ∙ sym (position_push (is_block_at at) bs b)

-- another block at the same place
pub index_kept : (bs : List Block) (b : Block) (index : ℕ) (at : BlockAt) → position (is_block_at b.at) bs ≡ Some index → position (is_block_at at) (set bs index b) ≡ position (is_block_at at) bs
index_kept bs b index at e =
    let there = position-Some (is_block_at b.at) bs index b e in
    let one : (get_or bs index b).at ≡ b.at = block_is (get_or bs index b).at b.at there.1 in
    let first = position_or_len-set (is_block_at at) bs index b b (ap (λ a. same_block a at) (sym one)) in
    λ i. cond (nat_lt (first i) (length-set bs index b i)) (Some (first i)) None

-- what is found is what is at the first place
some_is : (b : Bool) (n i : ℕ) → cond b (Some n) None ≡ Some i → n ≡ i
some_is true n i e = grind arith
some_is false n i e = absurd (cc)

none_is : (b : Bool) (n : ℕ) → cond b (Some n) None ≡ None → b ≡ false
none_is true n e = absurd (cc)
none_is false n e = refl

pub find_some : {A : Type 0} (p : A → Bool) (xs : List A) (i : ℕ) → position p xs ≡ Some i → slice_get xs i ≡ find p xs
find_some p xs i e = ap (slice_get xs) (sym (some_is (nat_lt (position_or_len p xs) (length xs)) (position_or_len p xs) i e)) ∙ sym (find_at p xs)

pub find_none : {A : Type 0} (p : A → Bool) (xs : List A) → position p xs ≡ None → None ≡ find p xs
find_none p xs e =
    let past = ltb-false (position_or_len p xs) (length xs) (none_is (nat_lt (position_or_len p xs) (length xs)) (position_or_len p xs) e) in
    sym (find_at p xs ∙ slice_get_past xs (position_or_len p xs) past)

-- the block at a place is of this place
of_place : (at : BlockAt) (bs : List Block) (found : Option Block) → find (is_block_at at) bs ≡ found → (unwrap_or found (fresh_block at)).at ≡ at
of_place at bs None e = refl
of_place at bs (Some b) e = block_is b.at at (found_passes (is_block_at at) bs b e)

pub block_is_there : (d : Disks) (at : BlockAt) → (block d at).at ≡ at
block_is_there d at = of_place at d.written _ refl
