-- What the last entry of a page says about its bytes.
use Rattle.std.specs.Prelude.{◌≡◌, ℕ, ◌+◌, true, false, List, ◌∷◌, ◌++◌, length, Option, Some, None}
use Rattle.std.specs.List.{list_any}
use Rattle.st_base.specs.Page.{filled}
use Rattle.st_base.specs.declared.ids.FileId.{FileId}
use Rattle.st_base.specs.declared.ids.PageNo.{PageNo}
use Rattle.st_rules.specs.declared.log.LogEntry.{LogEntry}
use Rattle.st_rules.specs.FlatLog.{matters, changed, content}

-- The entry of this number touches the page and is not gone, and no later one does so. The page holds what this entry
-- makes of the bytes that the entries before it left: all of a write, zeros after a cut, a range of a patch.
pub record IsLast (log : List LogEntry) (f : FileId) (p : PageNo) (n : ℕ) : Type 0 where
  pub before : List LogEntry
  pub entry : LogEntry
  pub later : List LogEntry
  pub split : log ≡ before ++ entry ∷ later
  pub number : n ≡ length before + 1
  pub touching : matters f p entry ≡ true
  pub alone : list_any (matters f p) later ≡ false
  pub bytes : content log f p ≡ changed entry.change (content before f p)

-- every entry that touches the page is gone, and the page holds zeros
pub record IsUntouched (log : List LogEntry) (f : FileId) (p : PageNo) : Type 0 where
  pub alone : list_any (matters f p) log ≡ false
  pub zeros : content log f p ≡ filled 0

-- what the answer of `last` says about the page
abbrev pub LastTells : List LogEntry → FileId → PageNo → Option ℕ → Type 0
LastTells log f p None = IsUntouched log f p
LastTells log f p (Some n) = IsLast log f p n
