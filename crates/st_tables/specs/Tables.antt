-- Rows under places that rise, found by their keys.
use Rattle.std.specs.Prelude.{◌≡◌, ◌<◌, ◌^◌, ◌&&◌, ◌==◌, nat_eq, nat_le, nat_lt, if◌then◌else◌, ℕ, zero, suc, Bool, true, List, [], ◌++◌, length, slice_index_or}
use Rattle.std.specs.Prelude.{filter, find, map, Option, Some, None}
use Rattle.std.specs.Option.{option_map, option_to_list}
use Rattle.std.specs.List.{list_all}
use Rattle.std.specs.Map.{lookup}
use Rattle.st_rules.specs.Keys.{rising}
use Rattle.st_rules.specs.declared.locks.LockRow.{LockRow}
use Rattle.st_rules.specs.declared.locks.Waiter.{Waiter}
use Rattle.st_tables.specs.declared.keys.Key.{Key}

-- one key
abbrev pub same_key : Key → Key → Bool
same_key a b = (a.first == b.first) && (a.second == b.second)

-- the key of a lock row: its client and its file
abbrev pub lock_key : LockRow → Key
lock_key r = record { first = r.client.0; second = r.ino }

-- the key of a wait: its client and its file
abbrev pub wait_key : Waiter → Key
wait_key w = record { first = w.client.0; second = w.ino }

-- the row has this key
abbrev pub has_key : {V : Type 0} → (V → Key) → Key → V → Bool
has_key key k v = same_key (key v) k

-- the second number of a row's key
abbrev pub second_of : {V : Type 0} → (V → Key) → V → ℕ
second_of key v = (key v).second

-- the number is one of a client
abbrev pub is_client : ℕ → Bool
is_client n = nat_le 1 n && nat_le n 16

-- the row's key has this second number, and a client's as the first
abbrev pub is_on : {V : Type 0} → (V → Key) → ℕ → V → Bool
is_on key n v = is_client (key v).first && ((key v).second == n)

-- a value that passes, if there is one
abbrev pub kept : {A : Type 0} → (A → Bool) → Option A → Option A
kept p None = None
kept p (Some x) = if p x then Some x else None

-- the lower of two places
abbrev pub sooner : ℕ → Option ℕ → ℕ
sooner least None = least
sooner least (Some place) = if nat_lt place least then place else least

-- the rows of the places below n, in the order of their places
unfoldable pub listed : {V : Type 0} → ℕ → (ℕ → Option V) → List V
listed zero at = []
listed (suc n) at = listed n at ++ option_to_list (at n)

-- the row at a place
abbrev pub row_at : {V : Type 0} → List (ℕ × V) → ℕ → Option V
row_at rows i = lookup (nat_eq i) rows

-- the place of a key
abbrev pub place_of : List (Key × ℕ) → Key → Option ℕ
place_of places k = lookup (same_key k) places

-- each row's key leads to its place, which is below n, and each place of a key has a row of that key
pub record IsTable {V : Type 0} (key : V → Key) (n : ℕ) (at : ℕ → Option V) (place : Key → Option ℕ) : Type 0 where
  pub small : n < 2 ^ 64
  pub placed : (i : ℕ) (v : V) → at i ≡ Some v → (i < n) × (place (key v) ≡ Some i)
  pub told : (k : Key) (i : ℕ) → place k ≡ Some i → option_map key (at i) ≡ Some k

-- the row's key has this first number
abbrev pub is_first : {V : Type 0} → (V → Key) → ℕ → V → Bool
is_first key c v = (key v).first == c

-- the row's key has a client's number as the first
abbrev pub is_of_client : {V : Type 0} → (V → Key) → V → Bool
is_of_client key v = is_client (key v).first

-- the row's key has this second number, and the row passes
abbrev pub is_among : {V : Type 0} → (V → Key) → ℕ → (V → Bool) → V → Bool
is_among key n p v = ((key v).second == n) && p v

-- the first number of a row's key
abbrev pub first_of : {V : Type 0} → (V → Key) → V → ℕ
first_of key v = (key v).first

-- all rows are of clients from 1 to 16, and the rows of each are counted
pub record IsCounted {V : Type 0} (key : V → Key) (rows : List V) (counts : List ℕ) : Type 0 where
  pub clients : list_all (is_of_client key) rows ≡ true
  pub counted : (c : ℕ) → c < 17 → slice_index_or counts c 0 ≡ length (filter (is_first key c) rows)

-- writing a row over the one with its key is every change of that one which gives the row
abbrev pub Changes : {V : Type 0} → (V → Key) → V → List V → List V → Type 0
Changes {V} key row old new =
    (f : V → V) (v : V) → find (has_key key (key row)) old ≡ Some v → row ≡ f v → new ≡ map (λ r. if has_key key (key row) r then f r else r) old

-- the first numbers of the keys of the rows with this second number that pass, each once, in rising order
abbrev pub firsts_on : {V : Type 0} → (V → Key) → ℕ → (V → Bool) → List V → List ℕ
firsts_on key n p rows = rising (map (first_of key) (filter (is_among key n p) rows))
