-- What an operation asks of the server, and the operations after it was sent.
use Rattle.std.specs.Prelude.{ℕ, Bool, if◌then◌else◌, List, [], ◌∷◌, Option, Some, None, is_some, not}
use Rattle.st_base.specs.declared.ids.Stamp.{Stamp}
use Rattle.st_rules.specs.declared.client.Operation.{Operation}
use Rattle.st_rules.specs.ClientPasses.{Asking, Wanted, asked_by, behind}
use Rattle.st_rules.specs.ClientState.{ClientSession, Turn}
use Rattle.st_client_association.specs.Turns.{session_of}
use Rattle.st_operations.specs.PendingOperations.{marked}

-- no request is outstanding
abbrev pub is_free : Turn → Bool
is_free t = not (is_some (session_of t).requests.asked)

-- the operations after the one at a place was sent, if it is
abbrev pub marked_if : Bool → ℕ → List Operation → List Operation
marked_if own n os = if own then marked n os else os

-- the operation at a place asks
abbrev pub asking_at : List Operation → ℕ × Wanted → Asking
asking_at os x = record { wanted = x.1; operations = marked_if x.1.own x.0 os }

-- what the operation at a place asks, if there is one
abbrev pub asked_at : Turn → ClientSession → Stamp → Option Operation → Option Wanted
asked_at t s now None = None
asked_at t s now (Some o) = asked_by t s now o

-- what later ones ask, after these
abbrev pub behind_all : List Operation → Option Asking → Option Asking
behind_all [] a = a
behind_all (o ∷ os) a = behind o (behind_all os a)
