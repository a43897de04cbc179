-- What the calls on containers answer and leave.
use Rattle.std.specs.Prelude.{◌≡◌, ◌<◌, ◌+◌, ℕ, Bool, List, [], ◌∷◌, length, Option, Some, None, Result, Ok, Err}
use Rattle.st_rules.specs.Locks.{Locks}
use Rattle.st_rules.specs.World.{numbered}
use Rattle.st_move.specs.declared.record.ContainerRecord.{ContainerRecord}
use Rattle.st_move.specs.declared.refusal.MoveRefusal.{MoveRefusal}
use Rattle.st_move.specs.declared.refusal.MoveRefusal.TheVariants as refusals
use Rattle.st_move.specs.Containers.{Containers, leaves, sent_if}
use Rattle.st_move.specs.Updates.{added}

-- a call did what the rule says, or ran out of memory; if it refused, nothing changed
abbrev pub Answers : {S : Type 0} → S → S → Result Unit MoveRefusal → Result S MoveRefusal → Type 0
Answers old new (Ok u) rule = rule ≡ Ok new
Answers old new (Err refusals.Memory) rule = new ≡ old
Answers old new (Err e) rule = (rule ≡ Err e) × (new ≡ old)

-- the same of a call that answers the number of updates
abbrev pub Counts : {S : Type 0} → (S → ℕ) → S → S → Result ℕ MoveRefusal → Result S MoveRefusal → Type 0
Counts count old new (Ok n) rule = (rule ≡ Ok new) × (n ≡ count new)
Counts count old new (Err refusals.Memory) rule = new ≡ old
Counts count old new (Err e) rule = (rule ≡ Err e) × (new ≡ old)

-- an update was added, or refused
abbrev pub Adds : List (List ℕ) → List (List ℕ) → Result ℕ MoveRefusal → List ℕ → Type 0
Adds old new result u = Counts length old new result (added old u)

-- the number of updates of a record
abbrev pub count_in : ContainerRecord → ℕ
count_in r = length r.updates

-- the number of updates of a record that may be missing
abbrev pub count_of : Option ContainerRecord → ℕ
count_of None = 0
count_of (Some r) = length r.updates

-- the number of updates of what was found
abbrev pub count_found : Option (Option ContainerRecord) → ℕ
count_found None = 0
count_found (Some r) = count_of r

-- the number of updates of a container
abbrev pub count_at : ℕ → Containers → ℕ
count_at c m = count_found (numbered m.records c)

-- a record that is there
unfoldable pub there : Result ContainerRecord MoveRefusal → Result (Option ContainerRecord) MoveRefusal
there (Ok r) = Ok (Some r)
there (Err e) = Err e

-- the record, if a call is allowed
abbrev pub allowed : ContainerRecord → Result Unit MoveRefusal → Result ContainerRecord MoveRefusal
allowed r (Ok u) = Ok r
allowed r (Err e) = Err e

-- the records of which these are sent on
unfoldable pub sent_by : List Bool → List (Option ContainerRecord) → List (Option ContainerRecord)
sent_by [] rs = []
sent_by (goes ∷ more) [] = []
sent_by (goes ∷ more) (r ∷ rs) = sent_if goes r ∷ sent_by more rs

-- which records from this place on leave
unfoldable pub leaving_from : Locks → ℕ → List (Option ContainerRecord) → List Bool
leaving_from l place [] = []
leaving_from l place (r ∷ rs) = leaves l (place + 1) r ∷ leaving_from l (place + 1) rs

-- the place of a container among the records, from 0, or the refusal if there is no such container
abbrev pub IsPlace : List (Option ContainerRecord) → ℕ → Result ℕ MoveRefusal → Type 0
IsPlace rs c (Ok p) = (c ≡ p + 1) × (p < length rs)
IsPlace rs c (Err e) = (e ≡ refusals.NoContainer c) × (numbered rs c ≡ None)
