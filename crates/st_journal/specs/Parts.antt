-- The parts of a stable part, and what a call that applies a change answers.
use Rattle.std.specs.Prelude.{◌≡◌, ℕ, Bool, false, Result, Ok, Err}
use Rattle.st_base.specs.declared.names.NameRefusal.{NameRefusal}
use Rattle.st_base.specs.declared.names.NameRefusal.TheVariants as told
use Rattle.st_extents.specs.declared.refusal.ExtentRefusal.{ExtentRefusal}
use Rattle.st_extents.specs.declared.refusal.ExtentRefusal.TheVariants as extents
use Rattle.st_rules.specs.Names as names
use Rattle.st_rules.specs.declared.names.EntryRefusal.{EntryRefusal}
use Rattle.st_rules.specs.Server as server
use Rattle.st_journal.specs.declared.stable.Stable.{Stable}
use Rattle.st_journal.specs.declared.stable.ChangeRefusal.{ChangeRefusal}
use Rattle.st_journal.specs.declared.stable.ChangeRefusal.TheVariants.{Names, NoSpace, Memory}

-- the epoch, the names and the extents
abbrev pub stable_of : Stable → server.Stable
stable_of s = record { epoch = s.epoch; names = s.names; extents = s.extents }

-- a refusal of names, as a change tells it
abbrev pub refused : NameRefusal → ChangeRefusal
refused told.Memory = Memory
refused r = Names r

-- a refusal of extents, as a change tells it
abbrev pub unmapped : ExtentRefusal → ChangeRefusal
unmapped (extents.NoSpace free asked) = NoSpace free asked
unmapped extents.Memory = Memory

-- a name that was found is that of a file
abbrev pub is_file_at : names.Names → Result ℕ EntryRefusal → Bool
is_file_at n (Ok ino) = names.is_file n ino
is_file_at n (Err r) = false

-- A change is applied; or it is refused as the rule says, and nothing is changed; or memory ran out, and nothing is promised.
abbrev pub Applies : server.Stable → server.Stable → Result Unit ChangeRefusal → Result server.Stable ChangeRefusal → Type 0
Applies old new (Ok done) rule = rule ≡ Ok new
Applies old new (Err Memory) rule = Unit {0}
Applies old new (Err r) rule = (rule ≡ Err r) × (new ≡ old)

-- a change that is only checked is refused as the rule says
abbrev pub checked : Result server.Stable ChangeRefusal → Result Unit ChangeRefusal
checked (Ok next) = Ok tt
checked (Err r) = Err r

-- the same, of the answer of names
abbrev pub names_checked : Result ℕ NameRefusal → Result Unit ChangeRefusal
names_checked (Ok ino) = Ok tt
names_checked (Err r) = Err (refused r)
