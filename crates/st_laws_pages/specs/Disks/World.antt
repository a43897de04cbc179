-- The law of the pages in the world, and what other laws owe it at each event.
use Rattle.std.specs.Prelude.{◌≡◌, ℕ, ◌≤◌, ◌⊎◌, true, false, List, [], ◌∷◌, length, Option, Some, None}
use Rattle.st_base.specs.declared.ids.ClientId.{ClientId}
use Rattle.st_base.specs.declared.ids.ServerId.{ServerId}
use Rattle.st_base.specs.declared.ids.Life.{Life}
use Rattle.st_base.specs.declared.ids.Stamp.{Stamp}
use Rattle.st_base.specs.declared.ids.FileId.{FileId}
use Rattle.st_base.specs.declared.ids.PageNo.{PageNo}
use Rattle.st_base.specs.declared.disk.BlockAt.{BlockAt}
use Rattle.st_base.specs.declared.disk.Tag.{Tag}
use Rattle.st_base.specs.declared.disk.Command.{Command}
use Rattle.st_base.specs.declared.disk.Command.TheVariants as commands
use Rattle.st_messages.specs.declared.output.Note.TheVariants as notes
use Rattle.st_messages.specs.declared.output.Output.{Output}
use Rattle.st_messages.specs.declared.output.Output.TheVariants as outputs
use Rattle.st_rules.specs.declared.disks.Block.{Block}
use Rattle.st_rules.specs.declared.disks.DiskCommand.{DiskCommand}
use Rattle.st_rules.specs.declared.disks.Report.TheVariants as reports
use Rattle.st_rules.specs.declared.extents.Extent.{Extent}
use Rattle.st_rules.specs.declared.log.LogEntry.{LogEntry}
use Rattle.st_rules.specs.declared.world.IssuedCommand.{IssuedCommand}
use Rattle.st_rules.specs.declared.world.LeaseLife.{LeaseLife}
use Rattle.st_rules.specs.FlatLog.{owner, content, touches, hard_cut}
use Rattle.st_rules.specs.Disks as disks
use Rattle.st_rules.specs.Extents as extents
use Rattle.st_rules.specs.Extents.{Extents}
use Rattle.st_rules.specs.ClientState.{ClientState}
use Rattle.st_rules.specs.Server.{ServerNode}
use Rattle.st_rules.specs.World.{World, WorldClient, node_of, numbered, lease_end_of, server_of_disk, life_with, site_of}
use Rattle.st_rules.specs.Admissible as adm
use Rattle.st_rules.specs.Events.{WorldTurn, client_says, latest}
use Rattle.st_laws_pages.specs.Disks.Folds.{DoneUpto, OnlyOwn, LastIs, owner_at}
use Rattle.st_laws_pages.specs.Disks.Pages.{ExtentsOf, PagesAreKept, same_place}

-- the extent of a page at its file's server
abbrev pub mapped_at : FileId → PageNo → Option ServerNode → Option Extent
mapped_at f p None = None
mapped_at f p (Some n) = extents.extent_of n.state.stable.extents f p

-- the extent of a page in the world
abbrev pub mapped_in : World → ExtentsOf
mapped_in w f p = mapped_at f p (node_of w f.server)

-- how many births a server has given
abbrev pub births_at : Option ServerNode → ℕ
births_at None = 0
births_at (Some n) = n.state.stable.extents.births

-- the same in the world
abbrev pub births_in : World → ServerId → ℕ
births_in w s = births_at (node_of w s)

-- the block at a place
abbrev pub block_in : World → BlockAt → Block
block_in w at = disks.block w.disks at

-- a write command that can still have its effect: it is neither reported nor done, and not late by this test
pub record Living (timely_by : ℕ → IssuedCommand →
    Type 0) (cs : List IssuedCommand) (ds : List DiskCommand) (k : ℕ) (x : IssuedCommand) (at : BlockAt) (tag : Tag) (bytes : List ℕ) : Type 0 where
  pub issued : numbered cs k ≡ Some x
  pub command : DiskCommand
  pub is : disks.command_at ds k ≡ Some command
  pub what : command.what ≡ commands.Write at tag bytes
  pub unreported : command.report ≡ reports.Open
  pub fresh : command.effected ≡ false
  pub timely : timely_by k x

-- the lease of its life is not over
abbrev pub Timely : World → ℕ → IssuedCommand → Type 0
Timely w k x = adm.late_disk w (Some x) ≡ None

-- what a command's effect left
pub record EffectDone (es : List LogEntry) (x : IssuedCommand) (tag : Tag) : Type 0 where
  pub index : ℕ
  pub carries : x.carries ≡ Some (record { file = tag.file; page = tag.page; index = index })
  pub high : index ≤ length es
  pub done : DoneUpto 1 index (owner x.client x.life tag.file tag.page) es

-- the disk commands and whose they are go by one number; reads carry nothing; what a write did
pub record CommandsHold (es : List LogEntry) (cs : List IssuedCommand) (ds : List DiskCommand) : Type 0 where
  pub counts : length cs ≡ length ds
  pub reads : (k : ℕ) (x : IssuedCommand) (d : DiskCommand) (at : BlockAt) → numbered cs k ≡ Some x → disks.command_at ds k ≡ Some d →
      d.what ≡ commands.Read at → x.carries ≡ None
  pub done : (k : ℕ) (x : IssuedCommand) (d : DiskCommand) (at : BlockAt) (tag : Tag) (bytes : List ℕ) → numbered cs k ≡ Some x →
      disks.command_at ds k ≡ Some d → d.what ≡ commands.Write at tag bytes → d.effected ≡ true → EffectDone es x tag

-- the extents of a server lie on its own disks
pub record ExtentsHold (w : World) : Type 0 where
  pub settings : (s : ServerId) (n : ServerNode) → node_of w s ≡ Some n →
      (n.state.stable.extents.server ≡ s) × (n.state.stable.extents.servers ≡ length w.servers)
  pub ids : (s : ServerId) (n : ServerNode) → node_of w s ≡ Some n → n.state.id ≡ s
  pub lies : (f : FileId) (p : PageNo) (e : Extent) → mapped_in w f p ≡ Some e → server_of_disk w e.at ≡ f.server

-- What holds in a world, by a test of what is timely.
pub record HoldsBy (timely_by : ℕ → IssuedCommand → Type 0) (w : World) : Type 0 where
  pub pages : PagesAreKept w.log (mapped_in w) (block_in w) (births_in w) (Living timely_by w.commands w.disks.commands)
  pub commands : CommandsHold w.log w.commands w.disks.commands
  pub extents : ExtentsHold w

-- The invariant of a world.
abbrev pub PagesHold : World → Type 0
PagesHold w = HoldsBy (Timely w) w

-- What other laws owe.

-- A write is submitted (copies, locks, extents that are known): its bytes are the page's; its client's latest entry of the page is of
-- its life and the last that counts; nothing else of the page is pending, nor outstanding; it goes to the page's block.
pub record SubmitRight (timely_by : ℕ → IssuedCommand →
    Type 0) (w : World) (c : ClientId) (life : Life) (at to : BlockAt) (tag : Tag) (bytes : List ℕ) : Type 0 where
  pub place : at ≡ to
  pub are : bytes ≡ content w.log tag.file tag.page
  pub last : LastIs 1 (latest w.log c tag.file tag.page) tag.file tag.page w.log
  pub of : owner_at w.log (latest w.log c tag.file tag.page) ≡ Some (owner c life tag.file tag.page)
  pub own : OnlyOwn (owner c life tag.file tag.page) tag.file tag.page w.log
  pub alone : (j : ℕ) (y : IssuedCommand) (a : BlockAt) (t : Tag) (ct : List ℕ) → Living timely_by w.commands w.disks.commands j y a t ct →
      same_place t.file t.page tag.file tag.page ≡ true → ⊥
  pub extent : Extent
  pub is : mapped_in w tag.file tag.page ≡ Some extent
  pub at_is : extent.at ≡ at
  pub born : extent.birth ≡ tag.birth

-- a write that is submitted is right; a read owes nothing
abbrev pub SubmitsRight : (ℕ → IssuedCommand → Type 0) → World → ClientId → Option WorldClient → BlockAt → Command → Type 0
SubmitsRight timely_by w c None at what = Unit {0}
SubmitsRight timely_by w c (Some site) at (commands.Read to) = Unit {0}
SubmitsRight timely_by w c (Some site) at (commands.Write to tag bytes) =
    SubmitRight timely_by w c (life_with site.node.state (server_of_disk w at)) at to tag bytes

-- an output that submits nothing owes nothing
abbrev pub OwesOne : (ℕ → IssuedCommand → Type 0) → World → ClientId → Output → Type 0
OwesOne timely_by w c (outputs.Submit number at what) = SubmitsRight timely_by w c (site_of w c) at what
OwesOne timely_by w c o = Unit {0}

-- each output is right in the world after those before it
abbrev pub Owes : (ℕ → IssuedCommand → Type 0) → ClientId → ClientState → WorldTurn → List Output → Type 0
Owes timely_by c before sc [] = Unit {0}
Owes timely_by c before sc (o ∷ os) = record { one : OwesOne timely_by sc.world c o; rest : Owes timely_by c before (client_says sc c before o) os }

-- Once a life is over it stays over, for the commands there are.
abbrev pub LateStays : World → World → Type 0
LateStays w v = (k : ℕ) (x : IssuedCommand) → numbered w.commands k ≡ Some x → Timely v k x → Timely w k x

-- The lives whose ends are looked at by an advance have their present ends, and a clock.
pub record EndsAt (w : World) (e : LeaseLife) (t : Stamp) : Type 0 where
  pub agree : lease_end_of w e.client e.server e.life ≡ Some t
  pub clock : Stamp
  pub there : numbered w.clocks e.client.0 ≡ Some clock

-- each life with an end has that end, and a clock
abbrev pub EndsAgree : World → List LeaseLife → Type 0
EndsAgree w [] = Unit {0}
EndsAgree w (e ∷ es) = record { one : (t : Stamp) → e.end ≡ Some t → EndsAt w e t; rest : EndsAgree w es }

-- no cut is done
abbrev pub NoCut : Output → Type 0
NoCut (outputs.Note (notes.CutDone f p)) = ⊥
NoCut o = Unit {0}

-- none of the outputs does a cut
abbrev pub NoCuts : List Output → Type 0
NoCuts [] = Unit {0}
NoCuts (o ∷ os) = record { one : NoCut o; rest : NoCuts os }

-- one cut is done
abbrev pub OneCut : FileId → PageNo → List Output → Type 0
OneCut f p [] = ⊥
OneCut f p (o ∷ os) = (record { here : o ≡ outputs.Note (notes.CutDone f p); rest : NoCuts os }) ⊎ (record { one : NoCut o; rest : OneCut f p os })

-- What a step of a server does to its extents: nothing, it maps pages of one of its files, or it cuts one of its files.
pub data ExtentsMove (s : ServerId) (x : Extents) : Extents → List Output → Type 0 where
  Stays : (os : List Output) → NoCuts os → ExtentsMove s x x os
  Maps : (os : List Output) (f : FileId) (ps : List PageNo) → f.server ≡ s → NoCuts os → ExtentsMove s x (extents.place_pages f ps x) os
  Cuts : (os : List Output) (f : FileId) (p : PageNo) → f.server ≡ s → OneCut f p os → ExtentsMove s x (extents.release_from x f p) os

-- A cut is done only if no command of its pages can have an effect (its client is the only holder of the file, and is idle).
abbrev pub CutQuiet : World → FileId → PageNo → Type 0
CutQuiet w f p =
    (k : ℕ) (x : IssuedCommand) (at : BlockAt) (tag : Tag) (bytes : List ℕ) → Living (Timely w) w.commands w.disks.commands k x at tag bytes →
    touches tag.file tag.page (hard_cut f p) ≡ false
