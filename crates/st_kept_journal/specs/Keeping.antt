-- A journal's file while a server runs: which area counts, where its closed gate is, the records that wait, and what is under way.
use Rattle.std.specs.Prelude.{◌≡◌, ◌<◌, ◌≤◌, ◌+◌, ◌*◌, ℕ, nat_le, Bool, true, false, not, List, [], ◌∷◌, ◌++◌, length, drop}
use Rattle.st_journal_file.specs.Layout.{CLOSED, OPEN, opened, part, switch_of}
use Rattle.st_journal_bytes.specs.Files.{AREAS_PLACE, SWITCH_PLACE}
use Rattle.st_journal_bytes.specs.Plain.{plain}
use Rattle.st_kept_journal.specs.declared.task.Task.{Task}
use Rattle.st_kept_journal.specs.declared.task.Task.TheVariants.{Rest, Group, Switch}
use Rattle.st_kept_journal.specs.declared.task.Write.{Write}

-- how many bytes an area has; whether the second one counts; where its closed gate is; the records that wait, each after an open gate; and what is under way
pub record Keeping : Type 0 where
  pub area : ℕ
  pub second : Bool
  pub gate : ℕ
  pub waiting : List ℕ
  pub task : Task

-- how many of the bytes that wait are being kept
abbrev pub under_way : Task → ℕ
under_way Rest = 0
under_way (Group count) = count
under_way (Switch count gate) = count

-- how many of them a snapshot has that is being written
abbrev pub covered : Task → ℕ
covered Rest = 0
covered (Group count) = 0
covered (Switch count gate) = count

-- where the closed gate is in the area that counts when it is done
abbrev pub next_gate : ℕ → Task → ℕ
next_gate gate Rest = gate
next_gate gate (Group count) = gate
next_gate gate (Switch count other) = other

-- The closed gate lies in its area. What is under way is of what waits, and what waits has room: when it is kept, a closed gate follows it in its area.
pub record IsPlaced (k : Keeping) : Type 0 where
  pub within : k.gate < k.area
  pub first : under_way k.task ≤ length k.waiting
  pub room : next_gate k.gate k.task + length k.waiting + 1 ≤ k.area + covered k.task
  pub few : covered k.task ≤ k.area
  pub small : k.area < 4294967296

-- where an area is in the file
abbrev pub place_of : ℕ → Bool → ℕ
place_of area false = AREAS_PLACE
place_of area true = AREAS_PLACE + area

-- bytes that are written at a place of the file
abbrev pub Writes : Write → ℕ → List ℕ → Type 0
Writes w at bytes = (w.at ≡ at) × (w.bytes.items ≡ bytes)

-- One more record waits.
abbrev pub added : Keeping → List ℕ → Keeping
added k record_bytes = record k { waiting = k.waiting ++ opened plain record_bytes }

-- All that waits is kept as a group: it is written after the closed gate; its gate is opened; and then the closed gate is after it.
abbrev pub group_begun : Keeping → Keeping
group_begun k = record k { task = Group (length k.waiting) }

abbrev pub WritesGroup : Keeping → Write → Type 0
WritesGroup k w = Writes w (place_of k.area k.second + k.gate + 1) (drop 1 k.waiting ++ CLOSED ∷ [])

abbrev pub OpensGate : Keeping → Write → Type 0
OpensGate k w = Writes w (place_of k.area k.second + k.gate) (OPEN ∷ [])

abbrev pub group_kept : Keeping → ℕ → Keeping
group_kept k count = record k { gate = k.gate + count; waiting = drop count k.waiting; task = Rest }

-- A snapshot with all that waits is written in the other area, whose closed gate is after it; and the switch points to it.
abbrev pub switch_begun : Keeping → List ℕ → Keeping
switch_begun k snapshot = record k { task = Switch (length k.waiting) (length (part plain snapshot)) }

abbrev pub WritesSnapshot : Keeping → List ℕ → Write → Type 0
WritesSnapshot k snapshot w = Writes w (place_of k.area (not k.second)) (part plain snapshot ++ CLOSED ∷ [])

abbrev pub MovesSwitch : Keeping → Write → Type 0
MovesSwitch k w = Writes w SWITCH_PLACE (switch_of (not k.second) ∷ [])

abbrev pub switched : Keeping → ℕ → ℕ → Keeping
switched k count gate = record k { second = not k.second; gate = gate; waiting = drop count k.waiting; task = Rest }

-- There is no room for a record of this length, after what waits, its gate and the next one; nor for a snapshot of this length.
abbrev pub IsFullFor : Keeping → ℕ → Type 0
IsFullFor k len = k.area + covered k.task < next_gate k.gate k.task + length k.waiting + len + 14

abbrev pub IsTooLong : Keeping → ℕ → Type 0
IsTooLong k len = k.area < len + 13

-- the area is half full when all that waits is kept
abbrev pub is_half_full : Keeping → Bool
is_half_full k = nat_le k.area (2 * (k.gate + length k.waiting))

-- no group, or no switch, is under way
abbrev pub IsNoGroup : Task → Type 0
IsNoGroup Rest = Unit {0}
IsNoGroup (Group count) = ⊥
IsNoGroup (Switch count gate) = Unit {0}

abbrev pub IsNoSwitch : Task → Type 0
IsNoSwitch Rest = Unit {0}
IsNoSwitch (Group count) = Unit {0}
IsNoSwitch (Switch count gate) = ⊥
