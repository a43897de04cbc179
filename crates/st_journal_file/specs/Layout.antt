-- A journal's file: a header, two marks, and two areas of which one counts. An area is a snapshot, and records after open gates.
use Rattle.std.specs.Prelude.{◌≡◌, ℕ, Bool, true, false, List, [], ◌∷◌, ◌++◌, length, Option, Some, None}
use Rattle.std.specs.List.{flat_map}
use Rattle.std.specs.Int.{w32, to_be_bytes}

-- How a file spells states and changes, what a change makes of a state if it is not refused, and the sum of some bytes. Which sum it is matters to damage
-- alone.
pub record Format (S C : Type 0) : Type 0 where
  pub snapshot : S → List ℕ
  pub spelled : C → List ℕ
  pub apply : S → C → Option S
  pub sum : List ℕ → ℕ

-- A mark, as a gate is one, is closed or open. The two differ in each bit, so a bit that flips makes neither of the other.
abbrev pub CLOSED : ℕ
CLOSED = 0

abbrev pub OPEN : ℕ
OPEN = 255

unfoldable pub word32 : ℕ → List ℕ
word32 n = to_be_bytes w32 n

-- Some bytes with their number in front, and a sum of either: whichever byte changes, a sum does not fit.
unfoldable pub part : {S C : Type 0} → Format S C → List ℕ → List ℕ
part f body = word32 (length body) ++ (word32 (f.sum (word32 (length body))) ++ (body ++ word32 (f.sum body)))

-- a record after its open gate
abbrev pub opened : {S C : Type 0} → Format S C → C → List ℕ
opened f x = OPEN ∷ part f (f.spelled x)

abbrev pub all_opened : {S C : Type 0} → Format S C → List C → List ℕ
all_opened f [] = []
all_opened f (x ∷ xs) = opened f x ++ all_opened f xs

-- the bytes before an area's closed gate: a snapshot, and records after open gates
abbrev pub front : {S C : Type 0} → Format S C → S → List C → List ℕ
front f t xs = part f (f.snapshot t) ++ all_opened f xs

-- the state after these changes, if none of them is refused
abbrev pub after_change : {S C : Type 0} → Format S C → Option S → C → Option S
after_change f None x = None
after_change f (Some t) x = f.apply t x

abbrev pub after_changes : {S C : Type 0} → Format S C → Option S → List C → Option S
after_changes f o [] = o
after_changes f o (x ∷ xs) = after_changes f (after_change f o x) xs

-- An area: a snapshot, records, and a closed gate. What lies after that gate is not read.
pub record IsArea {S C : Type 0} (f : Format S C) (bytes : List ℕ) (snapshot : S) (records : List C) : Type 0 where
  pub rest : List ℕ
  pub parts : bytes ≡ front f snapshot records ++ CLOSED ∷ rest

-- An area stands for these changes of a server that began in this state: its records make of its snapshot what they make of that state.
pub record StandsFor {S C : Type 0} (f : Format S C) (start : S) (bytes : List ℕ) (changes : List C) : Type 0 where
  pub snapshot : S
  pub records : List C
  pub area : IsArea f bytes snapshot records
  pub leads : after_changes f (Some snapshot) records ≡ after_changes f (Some start) changes

-- A file: its header, the mark that says that it was made, the mark that says which area counts, and the areas.
pub record File : Type 0 where
  pub header : List ℕ
  pub made : ℕ
  pub switch : ℕ
  pub first : List ℕ
  pub second : List ℕ

-- the switch is closed while the first area counts
abbrev pub switch_of : Bool → ℕ
switch_of false = CLOSED
switch_of true = OPEN

-- the area that counts, and the other one

abbrev pub area_of : Bool → File → List ℕ
area_of false b = b.first
area_of true b = b.second

-- A file that was made stands for these changes: its header is this one, and the area to which the switch points stands for them.
pub record IsMade {S C : Type 0} (f : Format S C) (start : S) (header : List ℕ) (b : File) (current : Bool) (changes : List C) : Type 0 where
  pub made : b.made ≡ OPEN
  pub header_so : b.header ≡ header
  pub switch : b.switch ≡ switch_of current
  pub area : StandsFor f start (area_of current b) changes

-- a file that was not made yet: no change was ever kept in it
pub record IsBlank {C : Type 0} (b : File) (changes : List C) : Type 0 where
  pub blank : b.made ≡ CLOSED
  pub none : changes ≡ []
