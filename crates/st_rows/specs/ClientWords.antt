-- Short words for what a client is given, and for what it says.
use Rattle.std.specs.Prelude.{ℕ, ◌+◌, List}
use Rattle.st_base.specs.declared.ids.FileId.{FileId}
use Rattle.st_base.specs.declared.ids.ServerId.{ServerId}
use Rattle.st_base.specs.declared.disk.Command.TheVariants as commands
use Rattle.st_base.specs.declared.disk.Tag.{Tag}
use Rattle.st_base.specs.declared.rows.LostRow.{LostRow}
use Rattle.st_base.specs.Nodes.{SERVER_BASE}
use Rattle.st_messages.specs.declared.answer.AppAnswer.{AppAnswer}
use Rattle.st_messages.specs.declared.message.Body.{Body}
use Rattle.st_messages.specs.declared.output.Note.{Note}
use Rattle.st_messages.specs.declared.output.Output.{Output}
use Rattle.st_messages.specs.declared.output.Output.TheVariants as outputs
use Rattle.st_rules.specs.declared.client.ClientInput.{ClientInput}
use Rattle.st_rules.specs.declared.client.ClientInput.TheVariants.{Control}
use Rattle.st_rows.specs.Words.{page, at}

abbrev pub server : ℕ → ServerId
server n = record { 0 = n }

-- a file of a server
abbrev pub on : ℕ → ℕ → FileId
on s ino = record { server = server s; ino = ino }

-- a block's tag: server, inode, page and birth
abbrev pub tag_of : ℕ → ℕ → ℕ → ℕ → Tag
tag_of s ino p birth = record { file = on s ino; page = page p; birth = birth }

abbrev pub lost_row : ℕ → ℕ → LostRow
lost_row p command = record { page = page p; command = command }

-- a message between two nodes; after them come life, epoch, number and stamp
abbrev pub between : ℕ → ℕ → ℕ → ℕ → ℕ → ℕ → Body → ClientInput
between s n l e number moment body =
    Control (record { header = record { from = s; to = n; life = l; epoch = e; number = number; stamp = moment }; body = body })

-- a message of a server to the first client
abbrev pub told : ℕ → ℕ → ℕ → ℕ → ℕ → Body → ClientInput
told s l e number moment body = between (SERVER_BASE + s) 1 l e number moment body

-- what the first client says to a server
abbrev pub says : ℕ → ℕ → ℕ → ℕ → ℕ → Body → Output
says s l e number moment body =
    outputs.Send (record { header = record { from = 1; to = SERVER_BASE + s; life = l; epoch = e; number = number; stamp = moment }; body = body })

-- a read of a block, and a write of one: command, disk, block, and the tag's server, inode, page and birth
abbrev pub reads : ℕ → ℕ → ℕ → Output
reads command disk block = outputs.Submit command (at disk block) (commands.Read (at disk block))

abbrev pub writes : ℕ → ℕ → ℕ → ℕ → ℕ → ℕ → ℕ → List ℕ → Output
writes command disk block s ino p birth bytes = outputs.Submit command (at disk block) (commands.Write (at disk block) (tag_of s ino p birth) bytes)

abbrev pub answer : ℕ → AppAnswer → Output
answer op a = outputs.Answer op a

abbrev pub noted : Note → Output
noted n = outputs.Note n
