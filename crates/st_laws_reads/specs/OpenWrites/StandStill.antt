-- Write commands that are not reported, of lives that a crash ended: such a life is frozen up to its lease end.
use Rattle.std.specs.Prelude.{◌≡◌, ◌≤◌, ◌⊎◌, ℕ, List, length, Some}
use Rattle.st_base.specs.declared.disk.BlockAt.{BlockAt}
use Rattle.st_base.specs.declared.disk.Command.TheVariants as commands
use Rattle.st_base.specs.declared.disk.Tag.{Tag}
use Rattle.st_base.specs.declared.ids.NodeId.TheVariants as nodes
use Rattle.st_base.specs.declared.ids.Stamp.{Stamp}
use Rattle.st_rules.specs.declared.disks.DiskCommand.{DiskCommand}
use Rattle.st_rules.specs.declared.disks.Report.TheVariants as reports
use Rattle.st_rules.specs.declared.log.LogOwner.{LogOwner}
use Rattle.st_rules.specs.declared.world.IssuedCommand.{IssuedCommand}
use Rattle.st_rules.specs.declared.world.LeaseLife.{LeaseLife}
use Rattle.st_rules.specs.Disks as disks
use Rattle.st_rules.specs.FlatLog.{owner}
use Rattle.st_rules.specs.Server.{ServerNode}
use Rattle.st_rules.specs.World.{World, WorldClient, clock_of, node_of, numbered, server, site_of}
use Rattle.st_protocol.specs.Assoc.{Config}
use Rattle.st_laws_steps.specs.Lives.Lives.{LivesHold}
use Rattle.st_laws_leases.specs.Sides.World.{AllStand}
use Rattle.st_laws_reads.specs.FrozenLives.PendingEntries.{OfCrashed, StoodLife}

-- whose entries a write of a page makes hard
abbrev pub writer : IssuedCommand → Tag → LogOwner
writer x tag = owner x.client x.life (record { server = x.server; ino = tag.file.ino }) tag.page

-- a write of a page that is not reported
pub record OpenWrite (w : World) (k : ℕ) (x : IssuedCommand) (at : BlockAt) (tag : Tag) (bytes : List ℕ) : Type 0 where
  pub issued : numbered w.commands k ≡ Some x
  pub command : DiskCommand
  pub is : disks.command_at w.disks.commands k ≡ Some command
  pub what : command.what ≡ commands.Write at tag bytes
  pub unreported : command.report ≡ reports.Open

-- each one of a life that a crash ended has the fact
abbrev pub OpenCrashed : (LeaseLife → LogOwner → Type 0) → World → Type 0
OpenCrashed P w =
    (k : ℕ) (x : IssuedCommand) (at : BlockAt) (tag : Tag) (bytes : List ℕ) → OpenWrite w k x at tag bytes → OfCrashed P w (writer x tag)

-- and its client is there
abbrev pub OpenThere : World → Type 0
OpenThere w =
    (k : ℕ) (x : IssuedCommand) (at : BlockAt) (tag : Tag) (bytes : List ℕ) → OpenWrite w k x at tag bytes →
    (site : WorldClient) × (site_of w x.client ≡ Some site)

-- and the commands of the disks are the world's
pub record OpenTracked (P : LeaseLife → LogOwner → Type 0) (w : World) : Type 0 where
  pub lives : LivesHold w
  pub counts : length w.commands ≡ length w.disks.commands
  pub there : OpenThere w
  pub open_ : OpenCrashed P w

-- the lease of a life that ended is over, or the life is frozen with an exclusive lock on the file
pub record OverOrStill (k : Config) (count : ℕ) (w : World) (all : AllStand k count w) (row : LeaseLife) (o : LogOwner) : Type 0 where
  pub end : Stamp
  pub is : row.end ≡ Some end
  pub still : (node : ServerNode) (at : node_of w (server o.file.server.0) ≡ Some node) →
      (end.0 ≤ (clock_of w (nodes.Client o.client)).0) ⊎ StoodLife k w o.file.server.0 node (all.servers o.file.server.0 node at) row o

-- So it is of each write that is not reported, of a life that a crash ended.
pub record WritesHold (k : Config) (count : ℕ) (w : World) : Type 0 where
  pub all : AllStand k count w
  pub there : OpenThere w
  pub writes : OpenCrashed (OverOrStill k count w all) w
