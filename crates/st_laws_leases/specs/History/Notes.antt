-- What the outputs of a client say about its leases.
use Rattle.std.specs.Prelude.{List, [], ◌∷◌, Option, Some, if◌then◌else◌}
use Rattle.st_base.specs.declared.ids.ServerId.{ServerId}
use Rattle.st_base.specs.declared.ids.Stamp.{Stamp}
use Rattle.st_messages.specs.declared.output.Note.{Note}
use Rattle.st_messages.specs.declared.output.Note.TheVariants as notes
use Rattle.st_messages.specs.declared.output.Output.{Output}
use Rattle.st_messages.specs.declared.output.Output.TheVariants as outputs
use Rattle.st_rules.specs.Keys.{same_server}

-- the lease end at a server after a note, from the one before it
abbrev pub noted_by : ServerId → Note → Option Stamp → Option Stamp
noted_by s (notes.Leased r end) o = if same_server r s then Some end else o
noted_by s n o = o

-- after an output
abbrev pub noted_one : ServerId → Output → Option Stamp → Option Stamp
noted_one s (outputs.Note n) o = noted_by s n o
noted_one s x o = o

-- the lease end at a server that the outputs noted last, or the one before them
unfoldable pub noted : ServerId → List Output → Option Stamp → Option Stamp
noted s [] o = o
noted s (x ∷ xs) o = noted s xs (noted_one s x o)
