-- The use that a file owes, by the number of the operation.
use Rattle.std.specs.Prelude.{ℕ, Bool, ◌&&◌, not, if◌then◌else◌, List, [], ◌∷◌, ◌++◌, filter, Option, Some, None}
use Rattle.st_base.specs.declared.ids.ServerId.{ServerId}
use Rattle.st_base.specs.declared.mode.Mode.{Mode}
use Rattle.st_rules.specs.ClientState.{is_on}
use Rattle.st_rules.specs.declared.client.Operation.{Operation}
use Rattle.st_third.specs.declared.beside.Leave.{Leave}
use Rattle.st_third.specs.declared.beside.OwedUse.{OwedUse}
use Rattle.st_third.specs.State.{is_active}
use Rattle.st_third.specs.UsedOnce.{is_covered, is_owed_on}

-- the file owes the operation of this number a use, or none
abbrev pub with_op : ℕ → Option ℕ → List OwedUse → List OwedUse
with_op ino None owed = filter (λ u. not (is_owed_on ino u)) owed
with_op ino (Some op) owed = filter (λ u. not (is_owed_on ino u)) owed ++ record { ino = ino; op = op } ∷ []

-- it may be owed a use of the file
abbrev pub is_served : List Leave → ServerId → ℕ → Mode → Operation → Bool
is_served leaves server ino mode o = is_on server ino o && (is_active leaves server o && is_covered mode o)

-- the number of an operation that passes
abbrev pub number_at : (Operation → Bool) → Option Operation → Option ℕ
number_at test None = None
number_at test (Some o) = if test o then Some o.op else None
