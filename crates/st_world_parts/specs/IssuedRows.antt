-- What a command carries, by the fields of its row.
use Rattle.std.specs.Prelude.{ℕ, Bool, true, false, Option, Some, None}
use Rattle.st_base.specs.declared.ids.PageNo.{PageNo}
use Rattle.st_base.specs.declared.ids.ServerId.{ServerId}
use Rattle.st_rules.specs.declared.world.Carried.{Carried}

-- the entry of this index, of this page of a file of this owner, if the command carries one
abbrev pub carried_in : Bool → ServerId → ℕ → PageNo → ℕ → Option Carried
carried_in true owner ino page index = Some (record { file = record { server = owner; ino = ino }; page = page; index = index })
carried_in false owner ino page index = None
