-- The histories of a journal's file: what a server's program writes and when it syncs, crashes at any moment, and openings.
use Rattle.std.specs.Prelude.{◌≡◌, ◌≢◌, ◌⊎◌, ℕ, Bool, true, false, List, [], ◌∷◌, ◌++◌, length, not}
use Rattle.std.specs.Prelude.{Some}
use Rattle.st_journal_file.specs.Layout.{CLOSED, OPEN, Format, File, IsBlank, IsMade, StandsFor, after_changes, all_opened, area_of, front, part, switch_of}

-- The store. A crash leaves each byte that was written and not synced as it was or as it was written, and nothing else changes. A sync that is reported as done
-- was done.

abbrev pub IsEither : ℕ → ℕ → ℕ → Type 0
IsEither old new n = (n ≡ old) ⊎ (n ≡ new)

abbrev pub AreEither : List ℕ → List ℕ → List ℕ → Type 0
AreEither [] [] [] = Unit {0}
AreEither (x ∷ xs) (y ∷ ys) (z ∷ zs) = IsEither x y z × AreEither xs ys zs
AreEither xs ys zs = ⊥

-- what a crash may leave of a file that was synced so, and written so since
pub record IsLeft (synced seen left : File) : Type 0 where
  pub header : AreEither synced.header seen.header left.header
  pub made : IsEither synced.made seen.made left.made
  pub switch : IsEither synced.switch seen.switch left.switch
  pub first : AreEither synced.first seen.first left.first
  pub second : AreEither synced.second seen.second left.second

-- A gate, and a group after it: the snapshot and the records before the gate, the group's first record and its others, and the bytes after the next gate.
pub record Gate (S C : Type 0) : Type 0 where
  pub snapshot : S
  pub records : List C
  pub first : C
  pub others : List C
  pub more : List ℕ

abbrev pub group_of : {S C : Type 0} → Gate S C → List C
group_of g = g.first ∷ g.others

-- the bytes of the group, and the next gate, which is closed
abbrev pub behind : {S C : Type 0} → Format S C → Gate S C → List ℕ
behind f g = part f (f.spelled g.first) ++ (all_opened f g.others ++ CLOSED ∷ g.more)

-- the area with the group after its closed gate, and with that gate open

abbrev pub closed_at : {S C : Type 0} → Format S C → Gate S C → List ℕ
closed_at f g = front f g.snapshot g.records ++ CLOSED ∷ behind f g

abbrev pub opened_at : {S C : Type 0} → Format S C → Gate S C → List ℕ
opened_at f g = front f g.snapshot g.records ++ OPEN ∷ behind f g

-- How far the program is. A group is the first of the changes that wait to be kept.
pub data Phase (S C : Type 0) : Type 0 where
  -- the file was not made yet; its header and its first area were written; these were synced; and its mark was written
  Blank : Phase S C
  Forming : Phase S C
  Formed : Phase S C
  Marking : Phase S C
  -- nothing is written but in the other area
  Idle : Phase S C
  -- a group was written after its gate; it was synced; and the gate was opened
  Writing : (g : Gate S C) → Phase S C
  Written : (g : Gate S C) → Phase S C
  Opening : (g : Gate S C) → Phase S C
  -- the other area, which was synced, stands for what is kept and a group; and the switch was written
  Prepared : (group : List C) → Phase S C
  Switching : (group : List C) → Phase S C

-- A server's program: how far it is, which area counts, the file as it was synced and as it was written since, the changes that are kept, and those that wait.
-- The frames of a change may be taken once it is kept, and no sooner.
pub record Keeper (S C : Type 0) : Type 0 where
  pub phase : Phase S C
  pub current : Bool
  pub synced : File
  pub seen : File
  pub kept : List C
  pub waiting : List C

-- the file with this area in place of the one that counts, or of the other one
abbrev pub with_area : Bool → List ℕ → File → File
with_area false bytes b = record b { first = bytes }
with_area true bytes b = record b { second = bytes }

-- The gate is the one after the changes that are kept, and is closed; with the group after it the area has as many bytes.
pub record IsBehindKept {S C : Type 0} (f : Format S C) (start : S) (area : List ℕ) (kept : List C) (g : Gate S C) : Type 0 where
  pub rest : List ℕ
  pub parts : area ≡ front f g.snapshot g.records ++ CLOSED ∷ rest
  pub leads : after_changes f (Some g.snapshot) g.records ≡ after_changes f (Some start) kept
  pub size : length (closed_at f g) ≡ length area

-- the group is the first of the changes that wait
pub record IsFirst {C : Type 0} (group waiting : List C) : Type 0 where
  pub later : List C
  pub parts : waiting ≡ group ++ later

-- A file as it is formed: not made yet, with the header, the first area that counts, and a snapshot there of the state at the start.
pub record IsFormed {S C : Type 0} (f : Format S C) (start : S) (header : List ℕ) (b : File) : Type 0 where
  pub blank : b.made ≡ CLOSED
  pub header_so : b.header ≡ header
  pub switch : b.switch ≡ CLOSED
  pub area : StandsFor f start b.first []

-- One thing that happens. `start` is the state in which the server began, and `header` is its journal's.
pub data Moves {S C : Type 0} (f : Format S C) (start : S) (header : List ℕ) (old : Keeper S C) : Keeper S C → Type 0 where
  -- a step makes a change, whatever is under way: the change waits
  Makes : (x : C) → Moves f start header old (record old { waiting = old.waiting ++ x ∷ [] })
  -- the header and the first area, a snapshot of the state at the start, are written; and once they are synced, the mark
  Forms : old.phase ≡ Blank → (formed : File) → IsFormed f start header formed → Moves f start header old (record old { phase = Forming; seen = formed })
  Marks : old.phase ≡ Formed → Moves f start header old (record old { phase = Marking; seen = record old.seen { made = OPEN } })
  -- a group is written; and once it is synced, its gate is opened
  Writes : (g : Gate S C) → old.phase ≡ Idle → IsFirst (group_of g) old.waiting → IsBehindKept f start (area_of old.current old.seen) old.kept g →
      Moves f start header old (record old { phase = Writing g; seen = with_area old.current (closed_at f g) old.seen })
  Opens : (g : Gate S C) → old.phase ≡ Written g → Moves f start header old (record old { phase = Opening g; seen = with_area old.current (opened_at f g) old.seen })
  -- any bytes are written in the other area, while the switch does not wait for it
  Scribbles : old.phase ≡ Idle → (area : List ℕ) → Moves f start header old (record old { seen = with_area (not old.current) area old.seen })
  -- the other area was synced, and stands for what is kept and a group, which may be none: the switch may point to it
  Prepares : (group : List C) → old.phase ≡ Idle → IsFirst group old.waiting → old.synced ≡ old.seen → StandsFor f start (area_of (not old.current) old.seen) (old.kept ++ group) →
      Moves f start header old (record old { phase = Prepared group })
  Switches : (group : List C) → old.phase ≡ Prepared group → Moves f start header old (record old { phase = Switching group; seen = record old.seen { switch = switch_of (not old.current) } })
  -- a sync: what was written stays
  SyncsForm : old.phase ≡ Forming → Moves f start header old (record old { phase = Formed; synced = old.seen })
  SyncsMark : old.phase ≡ Marking → Moves f start header old (record old { phase = Idle; current = false; synced = old.seen })
  SyncsOther : old.phase ≡ Idle → Moves f start header old (record old { synced = old.seen })
  SyncsGroup : (g : Gate S C) → old.phase ≡ Writing g → Moves f start header old (record old { phase = Written g; synced = old.seen })
  -- and with it a group is kept, whose frames may be taken from then on
  SyncsGate : (g : Gate S C) (waiting : List C) → old.phase ≡ Opening g → old.waiting ≡ group_of g ++ waiting →
      Moves f start header old (record old { phase = Idle; synced = old.seen; kept = old.kept ++ group_of g; waiting = waiting })
  SyncsSwitch : (group waiting : List C) → old.phase ≡ Switching group → old.waiting ≡ group ++ waiting →
      Moves f start header old (record { phase = Idle; current = not old.current; synced = old.seen; seen = old.seen; kept = old.kept ++ group; waiting = waiting })
  -- The machine crashes at this moment, and the journal is opened: the server goes on from what the file that is left stands for.
  CrashesMade : (left : File) (current : Bool) (changes : List C) → IsLeft old.synced old.seen left → IsMade f start header left current changes →
      Moves f start header old (record { phase = Idle; current = current; synced = left; seen = left; kept = changes; waiting = [] })
  CrashesBlank : (left : File) → IsLeft old.synced old.seen left → left.made ≡ CLOSED →
      Moves f start header old (record { phase = Blank; current = false; synced = left; seen = left; kept = []; waiting = [] })

-- a file that was never written
pub record IsNew {S C : Type 0} (k : Keeper S C) : Type 0 where
  pub phase : k.phase ≡ Blank
  pub current : k.current ≡ false
  pub blank : k.synced.made ≡ CLOSED
  pub same : k.seen ≡ k.synced
  pub kept : k.kept ≡ []
  pub waiting : k.waiting ≡ []

-- all that may have happened
pub data IsReached {S C : Type 0} (f : Format S C) (start : S) (header : List ℕ) : Keeper S C → Type 0 where
  Begins : (k : Keeper S C) → IsNew k → IsReached f start header k
  GoesOn : (old new : Keeper S C) → IsReached f start header old → Moves f start header old new → IsReached f start header new

-- the first list begins the second
pub record IsBegunBy {C : Type 0} (xs ys : List C) : Type 0 where
  pub others : List C
  pub parts : ys ≡ xs ++ others

-- What the file that a crash left stands for: no change is lost whose frames could be taken, and none is there that was not made, or without those before it.
pub record IsFound {S C : Type 0} (f : Format S C) (start : S) (header : List ℕ) (k : Keeper S C) (left : File) : Type 0 where
  pub changes : List C
  pub stands : ((current : Bool) × IsMade f start header left current changes) ⊎ IsBlank left changes
  pub kept : IsBegunBy k.kept changes
  pub made : IsBegunBy changes (k.kept ++ k.waiting)
