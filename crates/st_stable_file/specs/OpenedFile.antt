-- What the file of a journal stands for, and why it is not opened.
use Rattle.std.specs.Prelude.{◌≡◌, ◌<◌, ◌≤◌, ℕ, List, Option, Some, None, Result, Ok, Err}
use Rattle.st_extents.specs.Layout.{Shape}
use Rattle.st_journal.specs.Parts.{stable_of}
use Rattle.st_journal_bytes.specs.Files as files
use Rattle.st_journal_bytes.specs.Files.{IsMadeFile}
use Rattle.st_journal_bytes.specs.Moments.{Dated}
use Rattle.st_journal_bytes.specs.declared.file.Current.{Current}
use Rattle.st_journal_bytes.specs.declared.header.Identity.{Identity}
use Rattle.st_journal_file.specs.Layout.{area_of}
use Rattle.st_rules.specs.Server.{Stable}
use Rattle.st_stable_file.specs.Opened as areas
use Rattle.st_stable_file.specs.declared.area.OpenedArea.{OpenedArea}
use Rattle.st_stable_file.specs.declared.fault.StableFault.{StableFault}
use Rattle.st_stable_file.specs.declared.fault.StableFault.TheVariants as area_faults
use Rattle.st_stable_file.specs.declared.file.OpenFault.{OpenFault}
use Rattle.st_stable_file.specs.declared.file.OpenFault.TheVariants as faults
use Rattle.st_stable_file.specs.declared.file.OpenedFile.{OpenedFile}

-- the shape of the world of this server
abbrev pub shape_of : Identity → Shape
shape_of i = record { server = i.server; servers = i.servers; disks = i.disks; blocks = i.blocks }

-- The file was made as the journal that is wanted, and the area that counts is opened so. Its last change was made by now.
pub record OpensFile (bytes : List ℕ) (wanted : Identity) (now : ℕ) (o : OpenedFile) : Type 0 where
  pub made : IsMadeFile bytes wanted o.current
  pub area : areas.Opens (shape_of wanted) (area_of o.current.second made.file) o.area
  pub early : o.area.end.moment ≤ now

-- The file was made, and the area that counts is not opened.
pub record HasNoArea (bytes : List ℕ) (wanted : Identity) (f : StableFault) : Type 0 where
  pub current : Current
  pub made : IsMadeFile bytes wanted current
  pub why : areas.IsNotOpened (shape_of wanted) (area_of current.second made.file) f

abbrev pub IsNoArea : List ℕ → Identity → OpenFault → Type 0
IsNoArea bytes wanted (faults.File f) = ⊥
IsNoArea bytes wanted (faults.Area f) = HasNoArea bytes wanted f
IsNoArea bytes wanted (faults.Earlier last) = ⊥

-- Its last change was made later than now.
pub record IsEarlier (bytes : List ℕ) (wanted : Identity) (now last : ℕ) : Type 0 where
  pub current : Current
  pub made : IsMadeFile bytes wanted current
  pub opened : OpenedArea
  pub area : areas.Opens (shape_of wanted) (area_of current.second made.file) opened
  pub when : opened.end.moment ≡ last
  pub later : now < last

-- why a file is not opened
abbrev pub NotOpens : List ℕ → Identity → ℕ → OpenFault → Type 0
NotOpens bytes wanted now (faults.File f) = files.IsRefused bytes wanted f
NotOpens bytes wanted now (faults.Area f) = HasNoArea bytes wanted f
NotOpens bytes wanted now (faults.Earlier last) = IsEarlier bytes wanted now last

-- The file was made as the journal that is wanted, and the area that counts stands for this state, whose last change was made by now.
pub record StandsForStable (bytes : List ℕ) (wanted : Identity) (now : ℕ) (state : Dated Stable) : Type 0 where
  pub current : Current
  pub made : IsMadeFile bytes wanted current
  pub area : areas.CanBeOpened (shape_of wanted) (area_of current.second made.file) state
  pub early : state.moment ≤ now

-- this state is opened, or memory ran out

abbrev pub IsOpenedTo : Dated Stable → Result OpenedFile OpenFault → Type 0
IsOpenedTo state (Ok o) = (stable_of o.area.stable ≡ state.made) × (o.area.end.moment ≡ state.moment)
IsOpenedTo state (Err f) = f ≡ faults.Area area_faults.Memory

abbrev pub IsFileOpenedAs : Dated Stable → Result (Option OpenedFile) OpenFault → Type 0
IsFileOpenedAs state (Ok None) = ⊥
IsFileOpenedAs state (Ok (Some o)) = (stable_of o.area.stable ≡ state.made) × (o.area.end.moment ≡ state.moment)
IsFileOpenedAs state (Err f) = f ≡ faults.Area area_faults.Memory
