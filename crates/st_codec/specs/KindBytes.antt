-- The two bytes that name each kind of message: its version and its number.
use Rattle.std.specs.Prelude.{ℕ, Bool, List, [], ◌∷◌, Option, find, ◌==◌, ◌&&◌}
use Rattle.st_messages.specs.declared.kind.Kind.{Kind}
use Rattle.st_messages.specs.declared.kind.Kind.TheVariants as kinds

-- the version byte is 2 for the one ask of version 2, and 1 for every other message
abbrev pub version_of : Kind → ℕ
version_of kinds.Patch = 2
version_of k = 1

abbrev pub number_of : Kind → ℕ
number_of kinds.Hello = 1
number_of kinds.KeepAlive = 2
number_of kinds.Acquire = 3
number_of kinds.Released = 4
number_of kinds.Map = 5
number_of kinds.Allocate = 6
number_of kinds.Cut = 7
number_of kinds.Name = 8
number_of kinds.Reassert = 9
number_of kinds.DemandSeen = 10
number_of kinds.Welcome = 32
number_of kinds.Ack = 33
number_of kinds.Nack = 34
number_of kinds.Granted = 35
number_of kinds.Queued = 36
number_of kinds.Demand = 37
number_of kinds.Extents = 38
number_of kinds.Named = 39
number_of kinds.Reasserted = 40
number_of kinds.Tick = 64
number_of kinds.App = 65
number_of kinds.Patch = 65
number_of kinds.AppDone = 66
number_of kinds.Submit = 67
number_of kinds.Done = 68

abbrev pub all_kinds : List Kind
all_kinds =
    kinds.Hello ∷ kinds.KeepAlive ∷ kinds.Acquire ∷ kinds.Released ∷ kinds.Map ∷ kinds.Allocate ∷ kinds.Cut ∷ kinds.Name ∷
    kinds.Reassert ∷ kinds.DemandSeen ∷ kinds.Welcome ∷ kinds.Ack ∷ kinds.Nack ∷ kinds.Granted ∷ kinds.Queued ∷ kinds.Demand ∷
    kinds.Extents ∷ kinds.Named ∷ kinds.Reasserted ∷ kinds.Tick ∷ kinds.App ∷ kinds.Patch ∷ kinds.AppDone ∷ kinds.Submit ∷
    kinds.Done ∷ []

-- a kind has these two bytes
abbrev pub is_kind : ℕ → ℕ → Kind → Bool
is_kind version number k = version_of k == version && number_of k == number

unfoldable pub kind_of : ℕ → ℕ → Option Kind
kind_of version number = find (is_kind version number) all_kinds
