-- Short words for ids, rows and messages.
use Rattle.std.specs.Prelude.{ℕ, Bool, List}
use Rattle.st_base.specs.declared.ids.ClientId.{ClientId}
use Rattle.st_base.specs.declared.ids.Epoch.{Epoch}
use Rattle.st_base.specs.declared.ids.FileId.{FileId}
use Rattle.st_base.specs.declared.ids.GrantNo.{GrantNo}
use Rattle.st_base.specs.declared.ids.Life.{Life}
use Rattle.st_base.specs.declared.ids.PageNo.{PageNo}
use Rattle.st_base.specs.declared.ids.Stamp.{Stamp}
use Rattle.st_base.specs.declared.disk.BlockAt.{BlockAt}
use Rattle.st_base.specs.declared.names.NameRow.{NameRow}
use Rattle.st_base.specs.declared.rows.ExtentRow.{ExtentRow}
use Rattle.st_messages.specs.declared.message.Body.{Body}
use Rattle.st_messages.specs.declared.output.Note.{Note}
use Rattle.st_messages.specs.declared.output.Output.{Output}
use Rattle.st_messages.specs.declared.output.Output.TheVariants as outputs
use Rattle.st_rules.specs.declared.input.ServerInput.{ServerInput}
use Rattle.st_rules.specs.declared.input.ServerInput.TheVariants.{Control}

abbrev pub c : ℕ → ClientId
c n = record { 0 = n }

abbrev pub life : ℕ → Life
life n = record { 0 = n }

abbrev pub epoch : ℕ → Epoch
epoch n = record { 0 = n }

abbrev pub g : ℕ → GrantNo
g n = record { 0 = n }

abbrev pub page : ℕ → PageNo
page n = record { 0 = n }

abbrev pub stamp : ℕ → Stamp
stamp n = record { 0 = n }

-- a file of the first server
abbrev pub file : ℕ → FileId
file ino = record { server = record { 0 = 1 }; ino = ino }

-- an entry of a listing, and of an answer about extents
abbrev pub entry : ℕ → Bool → List ℕ → NameRow
entry ino directory name = record { ino = ino; directory = directory; name = name }

abbrev pub at : ℕ → ℕ → BlockAt
at disk block = record { disk = record { 0 = disk }; block = block }

abbrev pub extent : ℕ → ℕ → ℕ → ℕ → ExtentRow
extent p disk block birth = record { page = page p; at = at disk block; birth = birth }

-- a message of a client to the first server, and one to a client; after the client come life, epoch, number and stamp
abbrev pub from : ℕ → ℕ → ℕ → ℕ → ℕ → Body → ServerInput
from n l e number moment body = Control (record { header = record { from = n; to = 32769; life = l; epoch = e; number = number; stamp = moment }; body = body })

abbrev pub to : ℕ → ℕ → ℕ → ℕ → ℕ → Body → Output
to n l e number moment body =
    outputs.Send (record { header = record { from = 32769; to = n; life = l; epoch = e; number = number; stamp = moment }; body = body })

-- a message of one node to another
abbrev pub posted : ℕ → ℕ → Body → ServerInput
posted sender receiver body = Control (record { header = record { from = sender; to = receiver; life = 1; epoch = 0; number = 0; stamp = 0 }; body = body })

abbrev pub noted : Note → Output
noted n = outputs.Note n
