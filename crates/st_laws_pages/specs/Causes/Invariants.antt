-- What holds of the log and the disk commands of a world, with no premise: what commands did, and whose the latest entry of a dirty page is.
use Rattle.std.specs.Prelude.{◌≡◌, ℕ, ◌≤◌, true, List, length, Some, None}
use Rattle.st_base.specs.declared.disk.BlockAt.{BlockAt}
use Rattle.st_base.specs.declared.disk.Command.TheVariants as commands
use Rattle.st_base.specs.declared.disk.Tag.{Tag}
use Rattle.st_base.specs.declared.ids.ClientId.{ClientId}
use Rattle.st_base.specs.declared.ids.PageNo.{PageNo}
use Rattle.st_rules.specs.declared.disks.DiskCommand.{DiskCommand}
use Rattle.st_rules.specs.declared.log.LogEntry.{LogEntry}
use Rattle.st_rules.specs.declared.log.LogOwner.{LogOwner}
use Rattle.st_rules.specs.declared.pages.DirtyPage.{DirtyPage}
use Rattle.st_rules.specs.declared.world.Carried.{Carried}
use Rattle.st_rules.specs.declared.world.IssuedCommand.{IssuedCommand}
use Rattle.st_rules.specs.ClientPages as pages
use Rattle.st_rules.specs.ClientState.{Association}
use Rattle.st_rules.specs.Disks as disks
use Rattle.st_rules.specs.Events.{latest}
use Rattle.st_rules.specs.FlatLog.{owner}
use Rattle.st_rules.specs.World.{World, WorldClient, numbered, site_of}
use Rattle.st_lemmas.specs.Lists.{Has}
use Rattle.st_laws_pages.specs.Flush.Flush.{file_at}
use Rattle.st_laws_pages.specs.Disks.Folds.{DoneUpto, owner_at}

-- what a write carries is an entry of the log, or 0
pub record Carries (es : List LogEntry) (x : IssuedCommand) : Type 0 where
  pub carried : Carried
  pub is : x.carries ≡ Some carried
  pub low : carried.index ≤ length es

-- up to an entry that is carried nothing is pending of that entry's owner
abbrev pub CarriedDone : List LogEntry → IssuedCommand → Type 0
CarriedDone es x = (y : Carried) (o : LogOwner) → x.carries ≡ Some y → owner_at es y.index ≡ Some o → DoneUpto 1 y.index o es

-- The disk commands and whose they are go by one number; reads carry nothing, and writes an entry; and what a write carries is done as
-- it has its effect.
pub record CommandsStand (es : List LogEntry) (cs : List IssuedCommand) (ds : List DiskCommand) : Type 0 where
  pub counts : length cs ≡ length ds
  pub reads : (k : ℕ) (x : IssuedCommand) (d : DiskCommand) (at : BlockAt) → numbered cs k ≡ Some x → disks.command_at ds k ≡ Some d →
      d.what ≡ commands.Read at → x.carries ≡ None
  pub writes : (k : ℕ) (x : IssuedCommand) (d : DiskCommand) (at : BlockAt) (tag : Tag) (bytes : List ℕ) → numbered cs k ≡ Some x →
      disks.command_at ds k ≡ Some d → d.what ≡ commands.Write at tag bytes → Carries es x
  pub done : (k : ℕ) (x : IssuedCommand) (d : DiskCommand) (at : BlockAt) (tag : Tag) (bytes : List ℕ) → numbered cs k ≡ Some x →
      disks.command_at ds k ≡ Some d → d.what ≡ commands.Write at tag bytes → d.effected ≡ true → CarriedDone es x

-- the latest entry of a dirty page belongs to the association's life
abbrev pub LatestOwn : ClientId → List LogEntry → Association → Type 0
LatestOwn c es a =
    (ino : ℕ) (p : PageNo) (d : DirtyPage) → pages.dirty_of a.store.pages ino p ≡ Some d →
    owner_at es (latest es c (file_at a ino) p) ≡ Some (owner c a.life (file_at a ino) p)

-- the same of all clients that run
abbrev pub LatestStand : World → Type 0
LatestStand w =
    (c : ClientId) (site : WorldClient) → site_of w c ≡ Some site → site.node.running ≡ true → (a : Association) →
    Has a site.node.state.associations → LatestOwn c w.log a

-- What holds of a world.
pub record WritesStand (w : World) : Type 0 where
  pub commands : CommandsStand w.log w.commands w.disks.commands
  pub latest_own : LatestStand w
