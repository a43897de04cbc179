-- Tables of the rows of single parts.
use Rattle.std.specs.Prelude.{ℕ, List, [], map, Option, Some, None, ⊤}
use Rattle.st_base.specs.declared.ids.FileId.{FileId}
use Rattle.st_base.specs.declared.disk.BlockAt.{BlockAt}
use Rattle.st_base.specs.declared.disk.Tag.{Tag}
use Rattle.st_base.specs.declared.disk.Command.{Command}
use Rattle.st_base.specs.declared.disk.Command.TheVariants.{Read, Write}
use Rattle.st_base.specs.declared.mode.Mode.{Mode}
use Rattle.st_base.specs.declared.mode.Mode.TheVariants as modes
use Rattle.st_base.specs.Page.{filled}
use Rattle.st_messages.specs.declared.message.Body.{Body}
use Rattle.st_rules.specs.declared.authority.Suspect.{Suspect}
use Rattle.st_rules.specs.declared.extents.Extent.{Extent}
use Rattle.st_rules.specs.declared.locks.RowDemand.{RowDemand}
use Rattle.st_rules.specs.declared.locks.LockRow.{LockRow}
use Rattle.st_rules.specs.declared.locks.Waiter.{Waiter}
use Rattle.st_rules.specs.declared.sessions.Session.{Session}
use Rattle.st_rules.specs.declared.sessions.SessionState.TheVariants.{Live, Ended}
use Rattle.st_rules.specs.Locks.{Locks}
use Rattle.st_rules.specs.Sessions.{Sessions}
use Rattle.st_rules.specs.Authority.{Authority}
use Rattle.st_rules.specs.Extents.{Extents, numbers}
use Rattle.st_rules.specs.Rules.{rules_open}
use Rattle.st_rows.specs.Words.{c, life, epoch, g, page, stamp, file}

-- Locks.

-- a row of a client's first life
abbrev pub lock : ℕ → ℕ → ℕ → Mode → Option RowDemand → LockRow
lock ino n number mode demand = record { ino = ino; client = c n; life = life 1; g = g number; mode = mode; demand = demand }

abbrev pub wait : ℕ → ℕ → Mode → Waiter
wait ino n mode = record { ino = ino; client = c n; life = life 1; mode = mode }

abbrev pub demand : Mode → ℕ → Option ℕ → RowDemand
demand to sent None = record { to = to; sent = stamp sent; since = None }
demand to sent (Some since) = record { to = to; sent = stamp sent; since = Some (stamp since) }

-- a table of the first epoch
abbrev pub table : ℕ → List LockRow → List Waiter → Locks
table grants rows waiters = record { epoch = epoch 1; grants = grants; rows = rows; waiters = waiters; limit = 1024 }

-- a client's shared locks on this number of files, from file 2
abbrev pub shared : ℕ → LockRow
shared ino = lock ino 1 ino modes.S None

unfoldable pub shared_files : ℕ → Locks
shared_files count = table count (map shared (numbers 2 count)) []

-- Sessions.

abbrev pub living : ℕ → ℕ → ℕ → Option Body → Session
living n l last reply = record { client = c n; life = life l; state = Live last reply }

abbrev pub past : ℕ → ℕ → Session
past n l = record { client = c n; life = life l; state = Ended }

abbrev pub sessions : List Session → Sessions
sessions rows = record { epoch = epoch 1; rows = rows }

-- Suspicion.

abbrev pub suspect_since : ℕ → ℕ → Suspect
suspect_since n start = record { client = c n; start = stamp start }

abbrev pub authority : List Suspect → Authority
authority suspects = record { wait = 1010; suspects = suspects }

-- Extents: the second of two servers with five disks of two blocks, so the disks 2 and 4 are its own.

abbrev pub second_file : ℕ → FileId
second_file ino = record { server = record { 0 = 2 }; ino = ino }

abbrev pub mapped : ℕ → ℕ → BlockAt → ℕ → Extent
mapped ino p place birth = record { file = second_file ino; page = page p; at = place; birth = birth }

abbrev pub second_server : List Extent → ℕ → Extents
second_server rows births = record { server = record { 0 = 2 }; servers = 2; disks = 5; blocks = 2; rows = rows; births = births }

-- Disks.

abbrev pub tag : ℕ → ℕ → ℕ → Tag
tag ino p birth = record { file = file ino; page = page p; birth = birth }

abbrev pub read_of : BlockAt → Command
read_of place = Read place

abbrev pub write_of : BlockAt → Tag → ℕ → Command
write_of place t byte = Write place t (filled byte)

unfoldable pub tables_open : ⊤
unfolding rules_open shared_files
tables_open = tt
