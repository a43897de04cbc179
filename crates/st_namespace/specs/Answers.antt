-- What calls on names return and leave.
use Rattle.std.specs.Prelude.{ℕ, ◌≡◌, ◌⊎◌, Bool, Result, Ok, Err}
use Rattle.st_base.specs.declared.names.NameRefusal.{NameRefusal}
use Rattle.st_base.specs.declared.names.NameRefusal.TheVariants as told
use Rattle.st_rules.specs.declared.names.NameEntry.{NameEntry}
use Rattle.st_rules.specs.declared.names.EntryRefusal.{EntryRefusal}
use Rattle.st_rules.specs.declared.names.EntryRefusal.TheVariants as refusals
use Rattle.st_rules.specs.Names.{Names, Changed}

-- the calls have the rules' refusals, and may also run out of memory
abbrev pub as_told : EntryRefusal → NameRefusal
as_told refusals.NoEntry = told.NoEntry
as_told refusals.Exists = told.Exists
as_told refusals.NotDir = told.NotDir
as_told refusals.IsDir = told.IsDir
as_told refusals.NotEmpty = told.NotEmpty
as_told refusals.Cycle = told.Cycle
as_told refusals.BadName = told.BadName
as_told refusals.TooMany = told.TooMany

-- what a call answers if it does not run out of memory
abbrev pub answer : {A : Type 0} → Result A EntryRefusal → Result A NameRefusal
answer (Ok x) = Ok x
answer (Err r) = Err (as_told r)

-- the refusal is the rule's, or the call ran out of memory
abbrev pub IsTold : {A : Type 0} → NameRefusal → Result A EntryRefusal → Type 0
IsTold r rule = (answer rule ≡ Err r) ⊎ (r ≡ told.Memory)

-- A call that changes names and may run out of memory: what the rule gives; after a refusal nothing is changed.
abbrev pub Changes : Names → Names → Result ℕ NameRefusal → Result Changed EntryRefusal → Type 0
Changes old new (Ok ino) rule = rule ≡ Ok (record { names = new; ino = ino })
Changes old new (Err r) rule = IsTold r rule × (new ≡ old)

-- A call that changes names and takes no memory.
abbrev pub ChangesInPlace : Names → Names → Result ℕ NameRefusal → Result Changed EntryRefusal → Type 0
ChangesInPlace old new (Ok ino) rule = rule ≡ Ok (record { names = new; ino = ino })
ChangesInPlace old new (Err r) rule = (answer rule ≡ Err r) × (new ≡ old)

-- an entry's inode, and whether it is a directory
abbrev pub ino_and_mark : NameEntry → ℕ × Bool
ino_and_mark e = (e.ino, e.directory)

-- the answer of a change, without the names that it leaves
abbrev pub ino_told : Result Changed EntryRefusal → Result ℕ NameRefusal
ino_told (Ok c) = Ok c.ino
ino_told (Err r) = Err (as_told r)
