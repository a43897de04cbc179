-- What follows for the clients' data: what the disks give for a page, and when a write has made its page hard.
use Rattle.std.specs.Prelude.{◌≡◌, ℕ, true, List, [], ◌∷◌, Some, None}
use Rattle.st_base.specs.declared.ids.FileId.{FileId}
use Rattle.st_base.specs.declared.ids.PageNo.{PageNo}
use Rattle.st_base.specs.declared.disk.BlockAt.{BlockAt}
use Rattle.st_base.specs.declared.disk.Tag.{Tag}
use Rattle.st_base.specs.declared.disk.Command.TheVariants as commands
use Rattle.st_base.specs.Page.{filled}
use Rattle.st_rules.specs.declared.disks.DiskCommand.{DiskCommand}
use Rattle.st_rules.specs.declared.extents.Extent.{Extent}
use Rattle.st_rules.specs.declared.log.LogEntry.{LogEntry}
use Rattle.st_rules.specs.declared.log.LogOwner.{LogOwner}
use Rattle.st_rules.specs.declared.world.IssuedCommand.{IssuedCommand}
use Rattle.st_rules.specs.FlatLog.{same_owner, owner, content}
use Rattle.st_rules.specs.ClientPages.{found_under}
use Rattle.st_rules.specs.Disks as disks
use Rattle.st_rules.specs.World.{World, issued_of, ended_of}
use Rattle.st_rules.specs.Events.{is_hard_fate, latest}
use Rattle.st_laws_pages.specs.Disks.Folds.{SettledOn}
use Rattle.st_laws_pages.specs.Disks.Pages.{mapping_of}
use Rattle.st_laws_pages.specs.Disks.World.{mapped_in, block_in, PagesHold}
use Rattle.st_laws_pages.specs.Fates.Fates.{BeforeEnd}
use Rattle.st_laws_pages.specs.Disks.Obligations.{FatesHold}

-- all entries of an owner are hard
abbrev pub HardOf : LogOwner → List LogEntry → Type 0
HardOf o [] = Unit {0}
HardOf o (e ∷ es) = record { one : same_owner e.of o ≡ true → is_hard_fate e.fate ≡ true; rest : HardOf o es }

-- A page that has no extent is zeros, if nothing of it is pending.
abbrev pub UnmappedIsZeros : Type 0
UnmappedIsZeros = (w : World) (f : FileId) (p : PageNo) → PagesHold w → mapped_in w f p ≡ None → SettledOn f p w.log → content w.log f p ≡ filled 0

-- A read of the block of a page's extent finds the page's content, if nothing of it is pending.
abbrev pub BlockIsContent : Type 0
BlockIsContent =
    (w : World) (f : FileId) (p : PageNo) (e : Extent) → PagesHold w → mapped_in w f p ≡ Some e → SettledOn f p w.log →
    found_under f p (block_in w e.at).tag (block_in w e.at).bytes (mapping_of e) ≡ content w.log f p

-- A write command that had its effect, and carries its client's latest entry of the page, has made all entries of that page and life
-- hard, while that life has not ended and its lease is not over.
abbrev pub DoneWriteIsHard : Type 0
DoneWriteIsHard =
    (w : World) (k : ℕ) (x : IssuedCommand) (d : DiskCommand) (at : BlockAt) (tag : Tag) (bytes : List ℕ) → PagesHold w → FatesHold w →
    issued_of w k ≡ Some x → disks.command w.disks k ≡ Some d → d.what ≡ commands.Write at tag bytes → d.effected ≡ true →
    x.carries ≡ Some (record { file = tag.file; page = tag.page; index = latest w.log x.client tag.file tag.page }) →
    ended_of w x.client tag.file.server x.life ≡ None → BeforeEnd w (owner x.client x.life tag.file tag.page) →
    HardOf (owner x.client x.life tag.file tag.page) w.log
