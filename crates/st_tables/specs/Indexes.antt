-- Beside rows, the numbers that belong together: under each second number the first ones in a queue, and under each first number
-- the second ones in a set.
use Rattle.std.specs.Prelude.{◌≡◌, ℕ, ◌&&◌, ◌||◌, ◌==◌, nat_eq, if◌then◌else◌, Bool, not, List, [], ◌∷◌, ◌++◌, filter, map, slice_get, Option, Some, None}
use Rattle.std.specs.Global.{Vec}
use Rattle.indexmap.specs.IndexSet.{IndexSet}
use Rattle.std.specs.List.{list_any}
use Rattle.std.specs.Map.{lookup}
use Rattle.st_tables.specs.declared.keys.Key.{Key}
use Rattle.st_tables.specs.Tables.{IsCounted, first_of, has_key, second_of}

-- what is under a number
abbrev pub row_under : {X : Type 0} → List (ℕ × X) → ℕ → Option X
row_under es n = lookup (nat_eq n) es

-- the numbers of a queue, if there is one
abbrev pub waiting : Option (Vec ℕ) → List ℕ
waiting None = []
waiting (Some q) = q.items

-- the numbers in the queue under a number
abbrev pub queue_in : List (ℕ × Vec ℕ) → ℕ → List ℕ
queue_in es n = waiting (row_under es n)

-- the numbers of a set, if there is one
abbrev pub members : {S : Type 0} → Option (IndexSet ℕ S) → List ℕ
members None = []
members (Some s) = s.keys

-- the numbers in the set under a number
abbrev pub numbers_in : {S : Type 0} → List (IndexSet ℕ S) → ℕ → List ℕ
numbers_in sets n = members (slice_get sets n)

-- one number more is last in a queue
abbrev pub Joins : ℕ → ℕ → (ℕ → List ℕ) → (ℕ → List ℕ) → Type 0
Joins under number old new = (n : ℕ) → new n ≡ old n ++ (if under == n then number ∷ [] else [])

-- one number is no longer in a queue
abbrev pub Leaves : ℕ → ℕ → (ℕ → List ℕ) → (ℕ → List ℕ) → Type 0
Leaves under number old new = (n : ℕ) → new n ≡ (if under == n then filter (λ k. not (k == number)) (old n) else old n)

-- the queues are the same
abbrev pub Stays : (ℕ → List ℕ) → (ℕ → List ℕ) → Type 0
Stays old new = (n : ℕ) → new n ≡ old n

-- the number is one of these
abbrev pub has : ℕ → List ℕ → Bool
has n ks = list_any (λ k. n == k) ks

-- one number more is in a set
abbrev pub Gains : ℕ → ℕ → (ℕ → List ℕ) → (ℕ → List ℕ) → Type 0
Gains under number old new = (u n : ℕ) → has n (new u) ≡ has n (old u) || ((under == u) && (number == n))

-- one number is in a set no longer
abbrev pub Loses : ℕ → ℕ → (ℕ → List ℕ) → (ℕ → List ℕ) → Type 0
Loses under number old new = (u n : ℕ) → has n (new u) ≡ has n (old u) && not ((under == u) && (number == n))

-- no number is in one of the sets
abbrev pub Forgets : ℕ → (ℕ → List ℕ) → (ℕ → List ℕ) → Type 0
Forgets under old new = (u n : ℕ) → has n (new u) ≡ has n (old u) && not (under == u)

-- the same numbers are in each set
abbrev pub Keeps : (ℕ → List ℕ) → (ℕ → List ℕ) → Type 0
Keeps old new = (u n : ℕ) → has n (new u) ≡ has n (old u)

-- under each second number are the first numbers of its rows, in the order of the rows
abbrev pub AreQueued : {V : Type 0} → (V → Key) → List V → (ℕ → List ℕ) → Type 0
AreQueued key rows queue = (n : ℕ) → queue n ≡ map (first_of key) (filter (λ v. second_of key v == n) rows)

-- under each first number are the second numbers of its rows
abbrev pub AreOwned : {V : Type 0} → (V → Key) → List V → (ℕ → List ℕ) → Type 0
AreOwned key rows owned = (c s : ℕ) → has s (owned c) ≡ list_any (has_key key (record { first = c; second = s })) rows

-- the rows are counted by client, are in queues under their second numbers, and are found by their first ones
pub record IsIndexed {V S : Type 0} (key : V → Key) (rows : List V) (tally : List ℕ) (waiting : List (ℕ × Vec ℕ)) (known : List (IndexSet ℕ S)) : Type 0 where
  pub counts : IsCounted key rows tally
  pub queued : AreQueued key rows (queue_in waiting)
  pub owned : AreOwned key rows (numbers_in known)
