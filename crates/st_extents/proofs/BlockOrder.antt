-- A server's own blocks are in order.
use Rattle.std.proofs.Common.{ℕ, zero, suc, ◌+◌, ◌*◌, ◌<◌, ◌≤◌, Bool, List, [], ◌∷◌, ◌++◌, map, filter, arith, ⊎_elim}
use Rattle.std.specs.Prelude.{flat_map}
use Rattle.std.specs.List.{AllByRecursion}
use Rattle.std.proofs.lemmas.Bool.{cases_Bool}
use Rattle.st_base.specs.declared.disk.BlockAt.{BlockAt}
use Rattle.st_rules.specs.Extents as extents
use Rattle.st_extents.specs.Places.{AreInOrder, rank}

every_append : {K : Type 0} (P : K → Type 0) (xs ys : List K) → AllByRecursion P xs → AllByRecursion P ys → AllByRecursion P (xs ++ ys)
every_append P [] ys a b = b
every_append P (x ∷ xs) ys a b = (a.0, every_append P xs ys a.1 b)

every_weaker : {K : Type 0} (P Q : K → Type 0) → ((k : K) → P k → Q k) → (xs : List K) → AllByRecursion P xs → AllByRecursion Q xs
every_weaker P Q f [] a = a
every_weaker P Q f (x ∷ xs) a = (f x a.0, every_weaker P Q f xs a.1)

-- blocks in order, one list after the other
order_append : (xs ys : List BlockAt) → AreInOrder xs → AreInOrder ys → AllByRecursion (λ x. AllByRecursion (λ y. rank x < rank y) ys) xs → AreInOrder (xs ++ ys)
order_append [] ys d e a = e
order_append (x ∷ xs) ys d e a = (every_append (λ y. rank x < rank y) xs ys d.0 a.0, order_append xs ys d.1 e a.1)

-- the blocks of one disk
numbers_above : (place m n count : ℕ) → m < n → AllByRecursion (λ b. rank (extents.block_at place m) < rank b) (map (extents.block_at place) (extents.numbers n count))
unfolding extents.numbers
numbers_above place m n zero l = tt
numbers_above place m n (suc count) l = (omega (arith, l), numbers_above place m (n + 1) count (omega (arith, l)))

disk_in_order : (place n count : ℕ) → AreInOrder (map (extents.block_at place) (extents.numbers n count))
unfolding extents.numbers
disk_in_order place n zero = tt
disk_in_order place n (suc count) = (numbers_above place n (n + 1) count (omega arith), disk_in_order place (n + 1) count)

-- the ranks of one disk's blocks
abbrev is_on : ℕ → BlockAt → Type 0
is_on place b = ((place + 1) * 4294967296 ≤ rank b) × (rank b < (place + 2) * 4294967296)

disk_ranks : (place n count : ℕ) → n + count ≤ 4294967296 → AllByRecursion (is_on place) (map (extents.block_at place) (extents.numbers n count))
unfolding extents.numbers
disk_ranks place n zero l = tt
disk_ranks place n (suc count) l = ((omega (arith, l), omega (arith, l)), disk_ranks place (n + 1) count (omega (arith, l)))

-- the blocks of later disks
places_from : (p : ℕ → Bool) (m n count : ℕ) → m ≤ n → AllByRecursion (λ q. m ≤ q) (filter p (extents.numbers n count))
unfolding extents.numbers
places_from p m n zero l = tt
places_from p m n (suc count) l =
    let rest = places_from p m (n + 1) count (omega (arith, l)) in
    ⊎_elim (λ t. rw t (l, rest)) (λ f. rw f rest) (cases_Bool (p n))

disks_from : (x : extents.Extents) (m : ℕ) (ps : List ℕ) → x.blocks ≤ 4294967296 → AllByRecursion (λ q. m ≤ q) ps → AllByRecursion (λ b. (m + 1) * 4294967296 ≤ rank b) (flat_map (extents.blocks_of x) ps)
disks_from x m [] few a = tt
disks_from x m (q ∷ ps) few a =
    every_append (λ b. (m + 1) * 4294967296 ≤ rank b) (extents.blocks_of x q) (flat_map (extents.blocks_of x) ps)
    (every_weaker (is_on q) (λ b. (m + 1) * 4294967296 ≤ rank b) (λ b e. let l = a.0 in omega (arith, e.0, l)) (extents.blocks_of x q) (disk_ranks q 0 x.blocks (omega (arith, few))))
    (disks_from x m ps few a.1)

disks_in_order : (x : extents.Extents) (p : ℕ → Bool) (n count : ℕ) → x.blocks ≤ 4294967296 → AreInOrder (flat_map (extents.blocks_of x) (filter p (extents.numbers n count)))
unfolding extents.numbers
disks_in_order x p n zero few = tt
disks_in_order x p n (suc count) few =
    let rest = disks_in_order x p (n + 1) count few in
    let later = disks_from x (n + 1) (filter p (extents.numbers (n + 1) count)) few (places_from p (n + 1) (n + 1) count (omega arith)) in
    ⊎_elim
    (λ t. rw t (order_append (extents.blocks_of x n) (flat_map (extents.blocks_of x) (filter p (extents.numbers (n + 1) count))) (disk_in_order n 0 x.blocks) rest
    (every_weaker (is_on n) (λ b. AllByRecursion (λ y. rank b < rank y) (flat_map (extents.blocks_of x) (filter p (extents.numbers (n + 1) count))))
    (λ b e. every_weaker (λ y. ((n + 1) + 1) * 4294967296 ≤ rank y) (λ y. rank b < rank y) (λ y k. let h = e.1 in omega (arith, h, k)) (flat_map (extents.blocks_of x) (filter p (extents.numbers (n + 1) count))) later)
    (extents.blocks_of x n) (disk_ranks n 0 x.blocks (omega (arith, few))))))
    (λ f. rw f rest)
    (cases_Bool (p n))

pub own_in_order : (x : extents.Extents) → x.blocks ≤ 4294967296 → AreInOrder (extents.own_blocks x)
unfolding extents.own_blocks
own_in_order x few = disks_in_order x (extents.is_own_disk x) 0 x.disks few
