-- Folds over the log for one page: what is hard, the content up to a number, and what a command that can still take effect rests on.
use Rattle.std.specs.Prelude.{◌≡◌, ℕ, ◌+◌, true, false, ◌&&◌, List, [], ◌∷◌, Option, option_map, nat_le, if◌then◌else◌}
use Rattle.st_base.specs.declared.ids.FileId.{FileId}
use Rattle.st_base.specs.declared.ids.PageNo.{PageNo}
use Rattle.st_base.specs.Page.{filled}
use Rattle.st_rules.specs.declared.log.Change.TheVariants as changes
use Rattle.st_rules.specs.declared.log.Fate.TheVariants as fates
use Rattle.st_rules.specs.declared.log.LogEntry.{LogEntry}
use Rattle.st_rules.specs.declared.log.LogOwner.{LogOwner}
use Rattle.st_rules.specs.FlatLog as log
use Rattle.st_rules.specs.FlatLog.{touches, matters, same_owner, changed, after, entry_at}
use Rattle.st_rules.specs.Events.{is_hard_fate}

-- the fold over only the hard entries: what the disk has
abbrev pub hard_after : FileId → PageNo → LogEntry → List ℕ → List ℕ
hard_after f p e page = if touches f p e && is_hard_fate e.fate then changed e.change page else page

-- the same of more entries
abbrev pub hard_from : List ℕ → FileId → PageNo → List LogEntry → List ℕ
hard_from page f p [] = page
hard_from page f p (e ∷ es) = hard_from (hard_after f p e page) f p es

-- what the hard entries make of a page of zeros
abbrev pub hard_content : List LogEntry → FileId → PageNo → List ℕ
hard_content es f p = hard_from (filled 0) f p es

-- the content of the entries up to a number
abbrev pub content_upto : ℕ → ℕ → List ℕ → FileId → PageNo → List LogEntry → List ℕ
content_upto n i page f p [] = page
content_upto n i page f p (e ∷ es) = content_upto (n + 1) i (if nat_le n i then after f p e page else page) f p es

-- what a command that can still take effect rests on: the pending entries of its page up to its own are its owner's, and no
-- later one is hard
abbrev pub Carry : ℕ → ℕ → LogOwner → FileId → PageNo → List LogEntry → Type 0
Carry n i o f p [] = Unit {0}
Carry n i o f p (e ∷ es) =
    record {
      early : nat_le n i ≡ true → touches f p e ≡ true → e.fate ≡ fates.Pending → same_owner e.of o ≡ true;
      late : nat_le n i ≡ false → touches f p e ≡ true → is_hard_fate e.fate ≡ false;
      rest : Carry (n + 1) i o f p es;
    }

-- nothing of the page is pending
abbrev pub SettledOn : FileId → PageNo → List LogEntry → Type 0
SettledOn f p [] = Unit {0}
SettledOn f p (e ∷ es) = record { one : touches f p e ≡ true → log.is_pending e.fate ≡ false; rest : SettledOn f p es }

-- what is pending of the page is of this owner
abbrev pub OnlyOwn : LogOwner → FileId → PageNo → List LogEntry → Type 0
OnlyOwn o f p [] = Unit {0}
OnlyOwn o f p (e ∷ es) = record { one : touches f p e ≡ true → e.fate ≡ fates.Pending → same_owner e.of o ≡ true; rest : OnlyOwn o f p es }

-- after a number nothing that touches the page counts
abbrev pub LastIs : ℕ → ℕ → FileId → PageNo → List LogEntry → Type 0
LastIs n i f p [] = Unit {0}
LastIs n i f p (e ∷ es) = record { one : nat_le n i ≡ false → matters f p e ≡ false; rest : LastIs (n + 1) i f p es }

-- the entries of an owner up to a number are not pending
abbrev pub DoneUpto : ℕ → ℕ → LogOwner → List LogEntry → Type 0
DoneUpto n i o [] = Unit {0}
DoneUpto n i o (e ∷ es) = record { one : nat_le n i ≡ true → same_owner e.of o ≡ true → log.is_pending e.fate ≡ false; rest : DoneUpto (n + 1) i o es }

-- cuts are hard
abbrev pub CutsHard : List LogEntry → Type 0
CutsHard [] = Unit {0}
CutsHard (e ∷ es) = record { one : e.change ≡ changes.Cut → e.fate ≡ fates.Hard; rest : CutsHard es }

-- whose the entry of a number is
abbrev pub of_entry : LogEntry → LogOwner
of_entry e = e.of

-- the owner of the entry of a number, if there is one
abbrev pub owner_at : List LogEntry → ℕ → Option LogOwner
owner_at es i = option_map of_entry (entry_at es i)
