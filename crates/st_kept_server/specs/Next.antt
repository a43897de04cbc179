-- What a server whose changes are kept in groups writes next.
use Rattle.std.specs.Prelude.{◌≡◌, ◌≢◌, ◌⊎◌, ℕ, true, List, [], length, Option, Some, None}
use Rattle.st_kept_histories.specs.Kept.{BeginsGroup, BeginsSnapshot, IsQuiet, KeptServer, Writes, runs, snapshot_of, stable_now}
use Rattle.st_kept_histories.specs.declared.stage.Stage.TheVariants.{Rest}
use Rattle.st_kept_journal.specs.Keeping.{IsTooLong, is_half_full}
use Rattle.st_kept_journal.specs.declared.task.Write.{Write}

-- Something is written, or nothing is because a sync is due or nothing waits.
abbrev pub WritesNext : KeptServer → KeptServer → Option Write → Type 0
WritesNext old new None = IsQuiet old × (new ≡ old)
WritesNext old new (Some w) = (IsQuiet old → ⊥) × Writes old new w

-- a snapshot of the present stable part
abbrev pub snapshot_now : KeptServer → List ℕ
snapshot_now e = snapshot_of e.moment (stable_now e)

-- A snapshot is due: the server runs, nothing is under way, something waits, and the area is half full when all that waits is kept.
pub record IsDue (e : KeptServer) : Type 0 where
  pub rest : e.stage ≡ Rest
  pub runs_so : runs e ≡ true
  pub some : e.journal.waiting ≢ []
  pub half : is_half_full e.journal ≡ true

-- A snapshot is begun; or an area has too little room for it, and a group is begun.
abbrev pub BeginsDue : KeptServer → KeptServer → Option Write → Type 0
BeginsDue old new None = ⊥
BeginsDue old new (Some w) = BeginsSnapshot old new w ⊎ (IsTooLong old.journal (length (snapshot_now old)) × BeginsGroup old new w)
