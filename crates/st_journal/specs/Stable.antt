-- A server's stable part, and what each change makes of it.
use Rattle.std.specs.Prelude.{ℕ, ◌+◌, ◌-◌, ◌^◌, ◌<◌, if◌then◌else◌, List, [], ◌∷◌, Option, Some, None, Result, Ok, Err, ⊤}
use Rattle.st_base.specs.declared.ids.FileId.{FileId}
use Rattle.st_base.specs.declared.ids.PageNo.{PageNo}
use Rattle.st_extents.specs.Layout.{Shape}
use Rattle.st_namespace.specs.Answers.{as_told}
use Rattle.st_rules.specs.Extents as extents
use Rattle.st_rules.specs.Keys.{page_no}
use Rattle.st_rules.specs.Names as names
use Rattle.st_rules.specs.Server.{Stable}
use Rattle.st_rules.specs.declared.extents.AllocateRefusal.{AllocateRefusal}
use Rattle.st_rules.specs.declared.extents.AllocateRefusal.TheVariants as space
use Rattle.st_rules.specs.declared.names.EntryRefusal.{EntryRefusal}
use Rattle.st_journal.specs.declared.change.Change.{Change}
use Rattle.st_journal.specs.declared.change.Change.TheVariants as kinds
use Rattle.st_journal.specs.declared.stable.ChangeRefusal.{ChangeRefusal}
use Rattle.st_journal.specs.declared.stable.ChangeRefusal.TheVariants.{Names, NoFile, NoSpace}

-- the stable part of a server that never began an epoch: fresh names, and nothing mapped
abbrev pub fresh : Shape → Stable
fresh s = record { epoch = record { 0 = 0 }; names = names.fresh_names; extents = extents.no_extents s.server s.servers s.disks s.blocks }

-- a file of this server
abbrev pub file : Stable → ℕ → FileId
file t ino = record { server = t.extents.server; ino = ino }

-- A new epoch.
abbrev pub next_epoch : Stable → Stable
next_epoch t = record t { epoch = record { 0 = t.epoch.0 + 1 } }

-- Pages are mapped, or blocks are too few.
abbrev pub mapped : Stable → Result extents.Extents AllocateRefusal → Result Stable ChangeRefusal
mapped t (Ok x) = Ok (record t { extents = x })
mapped t (Err (space.NoSpace free asked)) = Err (NoSpace free asked)

-- an inode that isn't a file is refused
unfoldable pub allocate : Stable → ℕ → PageNo → ℕ → Result Stable ChangeRefusal
allocate t ino page count = if names.is_file t.names ino then mapped t (extents.allocate t.extents (file t ino) page count) else Err (NoFile ino)

-- A file is cut: its pages from there on are unmapped.
abbrev pub released : Stable → ℕ → PageNo → Stable
released t ino from = record t { extents = extents.release_from t.extents (file t ino) from }

-- an inode that isn't a file is refused
unfoldable pub cut : Stable → ℕ → PageNo → Result Stable ChangeRefusal
cut t ino from = if names.is_file t.names ino then Ok (released t ino from) else Err (NoFile ino)

-- Names change, or are refused.
abbrev pub with_names : Stable → names.Names → Stable
with_names t n = record t { names = n }

-- as the rule of names says
unfoldable pub named : Stable → Result names.Changed EntryRefusal → Result Stable ChangeRefusal
named t (Ok d) = Ok (with_names t d.names)
named t (Err r) = Err (Names (as_told r))

-- an entry goes, and with a file its extents
abbrev pub without : Stable → names.Changed → Stable
without t d = if names.is_file t.names d.ino then released (with_names t d.names) d.ino (page_no 0) else with_names t d.names

-- as the rule of names says
unfoldable pub removed : Stable → Result names.Changed EntryRefusal → Result Stable ChangeRefusal
removed t (Ok d) = Ok (without t d)
removed t (Err r) = Err (Names (as_told r))

-- Apply: what a change makes of the stable part, or why it is refused.
unfoldable pub apply : Stable → Change → Result Stable ChangeRefusal
apply t kinds.Epoch = Ok (next_epoch t)
apply t (kinds.Allocate ino page count) = allocate t ino page count
apply t (kinds.Cut ino from) = cut t ino from
apply t (kinds.Create dir n) = named t (names.create t.names dir n)
apply t (kinds.Mkdir dir n) = named t (names.mkdir t.names dir n)
apply t (kinds.Remove dir n) = removed t (names.remove t.names dir n)
apply t (kinds.Rename dir n dir2 n2) = named t (names.rename t.names dir n dir2 n2)

-- a refusal ends it
abbrev pub kept : Result Stable ChangeRefusal → Option Stable
kept (Ok t) = Some t
kept (Err r) = None

-- one more change, if none was refused yet
abbrev pub then_apply : Option Stable → Change → Option Stable
then_apply None x = None
then_apply (Some t) x = kept (apply t x)

-- The stable part after these changes, if none of them is refused.
abbrev pub after_changes : Option Stable → List Change → Option Stable
after_changes o [] = o
after_changes o (x ∷ xs) = after_changes (then_apply o x) xs

-- Counters: a change has room if the counter that it raises is not at its end.
abbrev pub HasRoom : Stable → Change → Type 0
HasRoom t kinds.Epoch = t.epoch.0 < 2 ^ 64 - 1
HasRoom t (kinds.Allocate ino page count) = t.extents.births < 2 ^ 62
HasRoom t (kinds.Create dir n) = t.names.next < 2 ^ 32 - 1
HasRoom t (kinds.Mkdir dir n) = t.names.next < 2 ^ 32 - 1
HasRoom t x = ⊤
