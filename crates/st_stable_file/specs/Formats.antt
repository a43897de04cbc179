-- Formats of a journal's file whose states are stable parts that a server may have, and what a crash leaves of such a file.
use Rattle.std.specs.Prelude.{◌≡◌, ◌⊎◌, ℕ, Bool, true, List, [], ◌++◌, Option, Some, option_map}
use Rattle.st_crc32c.specs.Crc.{crc32c}
use Rattle.st_extents.specs.Layout.{Shape}
use Rattle.st_journal.specs.Changes.{bytes_of, fits}
use Rattle.st_journal.specs.declared.change.Change.{Change}
use Rattle.st_journal_bytes.specs.Moments.{Dated, dated}
use Rattle.st_journal_file.specs.Histories.{IsBegunBy, Keeper}
use Rattle.st_journal_file.specs.Layout.{CLOSED, OPEN, File, Format, after_changes, area_of, switch_of}
use Rattle.st_rules.specs.Server.{Stable}
use Rattle.st_snapshot.specs.Snapshots.{CanBe, Fits, HasShape, snapshot}
use Rattle.st_stable_file.specs.Opened.{CanBeOpened}
use Rattle.st_stable_file.specs.Stables.{changed}

-- Each state is a stable part that a server in a world of this shape may have, and each change is one to it.
pub record IsOfStables (s : Shape) {S C : Type 0} (f : Format S C) : Type 0 where
  pub stable : S → Stable
  pub change : C → Change
  pub snapshots : (t : S) → f.snapshot t ≡ snapshot (stable t)
  pub spelled : (x : C) → f.spelled x ≡ bytes_of (change x)
  pub applied : (t : S) (x : C) → option_map stable (f.apply t x) ≡ changed (stable t) (change x)
  pub sum : (bytes : List ℕ) → f.sum bytes ≡ crc32c bytes
  pub fit : (t : S) → Fits (stable t)
  pub can : (t : S) → CanBe (stable t)
  pub shape : (t : S) → HasShape s (stable t)
  pub ranges : (x : C) → fits (change x) ≡ true

-- the stable part of a state, with its moment
abbrev pub state_of : {S C : Type 0} (s : Shape) (f : Format S C) → IsOfStables s f → Dated S → Dated Stable
state_of s f i d = record { moment = d.moment; fits = d.fits; made = i.stable d.made }

-- What a crash left was not made yet, and nothing was kept; or it is opened as the state after all changes that are kept, and the first ones of those that
-- waited.
pub record IsOpened {S C : Type 0} (s : Shape) (f : Format S C) (i : IsOfStables s f) (start : Dated S) (k : Keeper (Dated S) (Dated C)) (left : File) : Type 0 where
  pub changes : List (Dated C)
  pub kept : IsBegunBy k.kept changes
  pub made : IsBegunBy changes (k.kept ++ k.waiting)
  pub state : Dated S
  pub leads : after_changes (dated f) (Some start) changes ≡ Some state
  pub opened : ((left.made ≡ CLOSED) × (changes ≡ [])) ⊎ ((left.made ≡ OPEN) × ((current : Bool) × ((left.switch ≡ switch_of current) × CanBeOpened s (area_of current left) (state_of s f i state))))
