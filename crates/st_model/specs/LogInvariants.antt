-- What holds of the entries of each log.
use Rattle.std.specs.Prelude.{◌+◌, ◌≤◌, List, [], ◌∷◌, length}
use Rattle.st_rules.specs.declared.log.Change.{Change}
use Rattle.st_rules.specs.declared.log.Change.TheVariants.{Write, Patch, Cut}
use Rattle.st_rules.specs.declared.log.LogEntry.{LogEntry}
use Rattle.st_rules.specs.declared.log.EntryHead.{EntryHead}
use Rattle.st_rules.specs.declared.log.EntryHead.TheVariants as heads

-- the range of a patch lies in the page
abbrev pub IsInPage : Change → Type 0
IsInPage (Write bytes) = Unit {0}
IsInPage (Patch at bytes) = at + length bytes ≤ 4096
IsInPage Cut = Unit {0}

-- a write or a cut, which says all bytes of a page
abbrev pub IsWhole : EntryHead → Type 0
IsWhole (heads.Write client life file page) = Unit {0}
IsWhole (heads.Patch client life file page) = ⊥
IsWhole (heads.Cut file from) = Unit {0}

-- the ranges of all patches do
abbrev pub AreInPages : List LogEntry → Type 0
AreInPages [] = Unit {0}
AreInPages (e ∷ es) = IsInPage e.change × AreInPages es
