-- The updates of a container.
use Rattle.std.specs.Prelude.{◌≡◌, ◌+◌, ◌≤◌, ◌++◌, ◌∷◌, [], ℕ, Bool, true, ◌&&◌, nat_le, List, length, sum_by, Result, Ok, Err, if◌then◌else◌}
use Rattle.std.specs.List.{list_all}
use Rattle.st_move.specs.declared.refusal.MoveRefusal.{MoveRefusal}
use Rattle.st_move.specs.declared.refusal.MoveRefusal.TheVariants as refusals

-- An update has 1 to 139 bytes.
abbrev pub is_update : List ℕ → Bool
is_update u = nat_le 1 (length u) && nat_le (length u) 139

-- how many bytes updates have, all together
abbrev pub bytes_of : List (List ℕ) → ℕ
bytes_of us = sum_by length us

-- the updates of a container have at most 60,000 bytes
abbrev pub most_bytes : ℕ
most_bytes = 60000

-- updates that a container may have
pub record AreUpdates (us : List (List ℕ)) : Type 0 where
  pub each : list_all is_update us ≡ true
  pub few : bytes_of us ≤ most_bytes

-- One more update goes last, unless there would be too many bytes: then their number is reported.
unfoldable pub added : List (List ℕ) → List ℕ → Result (List (List ℕ)) MoveRefusal
added us u = if nat_le (bytes_of us + length u) most_bytes then Ok (us ++ u ∷ []) else Err (refusals.Full (bytes_of us + length u))
