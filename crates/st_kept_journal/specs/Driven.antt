-- A keeper beside the file that its program writes: each of its calls, with the write and the sync that it asks for, is a move of the file's histories.
use Rattle.std.specs.Prelude.{◌≡◌, ◌+◌, ℕ, Bool, not, List, [], ◌∷◌, ◌++◌, length, Some}
use Rattle.st_journal_file.specs.Histories.{Gate, IsFirst, Keeper, Moves, Phase, Blank, Forming, Formed, Marking, Idle, Writing, Written, Opening, Prepared, Switching, closed_at, group_of, opened_at, with_area}
use Rattle.st_journal_file.specs.Layout.{CLOSED, Format, File, after_changes, all_opened, area_of, front, part, switch_of}
use Rattle.st_journal_bytes.specs.Files.{HEADER_LENGTH, SWITCH_PLACE}
use Rattle.st_kept_journal.specs.Keeping.{Keeping, place_of}
use Rattle.st_kept_journal.specs.declared.task.Task.{Task}
use Rattle.st_kept_journal.specs.declared.task.Task.TheVariants as tasks
use Rattle.st_kept_journal.specs.declared.task.Write.{Write}

-- A write in an area: some of its bytes become others, and all else stays.
pub record IsPutInArea (w : Write) (size : ℕ) (second : Bool) (old new : File) : Type 0 where
  pub before : List ℕ
  pub was : List ℕ
  pub behind : List ℕ
  pub parts : area_of second old ≡ before ++ (was ++ behind)
  pub place : w.at ≡ place_of size second + length before
  pub count : length was ≡ length w.bytes.items
  pub new_so : new ≡ with_area second (before ++ (w.bytes.items ++ behind)) old

-- A write of the switch.
pub record IsPutInSwitch (w : Write) (old new : File) : Type 0 where
  pub mark : ℕ
  pub bytes : w.bytes.items ≡ mark ∷ []
  pub place : w.at ≡ SWITCH_PLACE
  pub new_so : new ≡ record old { switch = mark }

-- the closed gate of an area that stands for these changes
pub record IsGateOf {S C : Type 0} (f : Format S C) (start : S) (area : List ℕ) (place : ℕ) (kept : List C) : Type 0 where
  pub snapshot : S
  pub records : List C
  pub rest : List ℕ
  pub parts : area ≡ front f snapshot records ++ CLOSED ∷ rest
  pub at : place ≡ length (front f snapshot records)
  pub leads : after_changes f (Some snapshot) records ≡ after_changes f (Some start) kept

-- a group of this many bytes is kept, at this gate
pub record IsGroupOf {S C : Type 0} (f : Format S C) (gate count : ℕ) (g : Gate S C) : Type 0 where
  pub place : gate ≡ length (front f g.snapshot g.records)
  pub size : count ≡ length (all_opened f (group_of g))

-- A group is kept by a snapshot in the other area, of the state after it.
pub record IsSnapshotOf {S C : Type 0} (f : Format S C) (start : S) (j : Keeping) (k : Keeper S C) (count gate : ℕ) (group : List C) : Type 0 where
  pub state : S
  pub rest : List ℕ
  pub other : area_of (not j.second) k.seen ≡ part f (f.snapshot state) ++ CLOSED ∷ rest
  pub place : gate ≡ length (part f (f.snapshot state))
  pub size : count ≡ length (all_opened f group)
  pub first : IsFirst group k.waiting
  pub leads : Some state ≡ after_changes f (Some start) (k.kept ++ group)

pub record IsSnapshot {S C : Type 0} (f : Format S C) (start : S) (j : Keeping) (k : Keeper S C) (count gate : ℕ) : Type 0 where
  pub group : List C
  pub snapshot : IsSnapshotOf f start j k count gate group

-- what is under way is how far the program is
abbrev pub IsAt : {S C : Type 0} → Format S C → S → Keeping → Keeper S C → Task → Phase S C → Type 0
IsAt f start j k tasks.Rest Idle = IsGateOf f start (area_of j.second k.seen) j.gate k.kept
IsAt f start j k (tasks.Group count) (Writing g) = IsGroupOf f j.gate count g
IsAt f start j k (tasks.Group count) (Written g) = IsGroupOf f j.gate count g
IsAt f start j k (tasks.Group count) (Opening g) = IsGroupOf f j.gate count g
IsAt f start j k (tasks.Switch count gate) Idle = IsSnapshot f start j k count gate
IsAt f start j k (tasks.Switch count gate) (Prepared group) = IsSnapshotOf f start j k count gate group
IsAt f start j k (tasks.Switch count gate) (Switching group) = IsSnapshotOf f start j k count gate group
IsAt f start j k task phase = ⊥

-- The keeper has the area that counts, and the records of the changes that wait.
pub record IsDriven {S C : Type 0} (f : Format S C) (start : S) (j : Keeping) (k : Keeper S C) : Type 0 where
  pub current : k.current ≡ j.second
  pub waiting : j.waiting ≡ all_opened f k.waiting
  pub at : IsAt f start j k j.task k.phase

-- one more thing happened, and the keeper is beside the file again
pub record GoesTo {S C : Type 0} (f : Format S C) (start : S) (header : List ℕ) (j : Keeping) (old new : Keeper S C) : Type 0 where
  pub moves : Moves f start header old new
  pub driven : IsDriven f start j new

-- A group is written, its gate is opened, a snapshot is written, and the switch: what the file is then.
pub record WritesGroupTo {S C : Type 0} (f : Format S C) (start : S) (header : List ℕ) (j : Keeping) (old : Keeper S C) (file : File) : Type 0 where
  pub g : Gate S C
  pub group : group_of g ≡ old.waiting
  pub file_so : file ≡ with_area old.current (closed_at f g) old.seen
  pub goes : GoesTo f start header j old (record old { phase = Writing g; seen = with_area old.current (closed_at f g) old.seen })

pub record OpensGateTo {S C : Type 0} (f : Format S C) (start : S) (header : List ℕ) (j : Keeping) (old : Keeper S C) (g : Gate S C) (file : File) : Type 0
  where
    pub file_so : file ≡ with_area old.current (opened_at f g) old.seen
    pub goes : GoesTo f start header j old (record old { phase = Opening g; seen = with_area old.current (opened_at f g) old.seen })

pub record WritesSnapshotTo {S C : Type 0} (f : Format S C) (start : S) (header : List ℕ) (j : Keeping) (old : Keeper S C) (file : File) : Type 0 where
  pub area : List ℕ
  pub file_so : file ≡ with_area (not old.current) area old.seen
  pub goes : GoesTo f start header j old (record old { seen = with_area (not old.current) area old.seen })

pub record MovesSwitchTo {S C : Type 0} (f : Format S C) (start : S) (header : List ℕ) (j : Keeping) (old : Keeper S C) (group : List C) (file : File) : Type 0
  where
    pub file_so : file ≡ record old.seen { switch = switch_of (not old.current) }
    pub goes : GoesTo f start header j old (record old { phase = Switching group; seen = record old.seen { switch = switch_of (not old.current) } })

-- The synced gate keeps the group, and the synced switch what the snapshot has: the rest waits.
pub record KeepsGroupTo {S C : Type 0} (f : Format S C) (start : S) (header : List ℕ) (j : Keeping) (old : Keeper S C) (g : Gate S C) : Type 0 where
  pub later : List C
  pub waiting : old.waiting ≡ group_of g ++ later
  pub goes : GoesTo f start header j old (record old { phase = Idle; synced = old.seen; kept = old.kept ++ group_of g; waiting = later })

pub record SwitchesTo {S C : Type 0} (f : Format S C) (start : S) (header : List ℕ) (j : Keeping) (old : Keeper S C) (group : List C) : Type 0 where
  pub later : List C
  pub waiting : old.waiting ≡ group ++ later
  pub goes : GoesTo f start header j old
      (record { phase = Idle; current = not old.current; synced = old.seen; seen = old.seen; kept = old.kept ++ group; waiting = later })
