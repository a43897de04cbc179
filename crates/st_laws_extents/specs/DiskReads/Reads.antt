-- What reads of pages found that are outstanding: the content of the page.
use Rattle.std.specs.Prelude.{◌≡◌, ℕ, true, List, Some}
use Rattle.st_base.specs.declared.ids.PageNo.{PageNo}
use Rattle.st_base.specs.declared.disk.BlockAt.{BlockAt}
use Rattle.st_base.specs.declared.disk.Command.TheVariants as commands
use Rattle.st_base.specs.declared.ids.NodeId.TheVariants as nodes
use Rattle.st_messages.specs.declared.output.Output.TheVariants as outputs
use Rattle.st_rules.specs.declared.client.IoKind.TheVariants as io
use Rattle.st_rules.specs.declared.client.MappedBlock.{MappedBlock}
use Rattle.st_rules.specs.declared.client.PageCommand.{PageCommand}
use Rattle.st_rules.specs.declared.disks.Block.{Block}
use Rattle.st_rules.specs.declared.disks.DiskCommand.{DiskCommand}
use Rattle.st_rules.specs.declared.extents.Extent.{Extent}
use Rattle.st_rules.specs.declared.log.LogEntry.{LogEntry}
use Rattle.st_rules.specs.declared.world.IssuedCommand.{IssuedCommand}
use Rattle.st_rules.specs.ClientPages.{found_under, mapping_of as known_at}
use Rattle.st_rules.specs.ClientState.{Association}
use Rattle.st_rules.specs.Disks as disks
use Rattle.st_rules.specs.FlatLog.{content}
use Rattle.st_rules.specs.Keys.{client}
use Rattle.st_rules.specs.World.{World, WorldClient, clock_of, numbered}
use Rattle.st_lemmas.specs.Lists.{Has}
use Rattle.st_laws_refine.specs.Client.Invariants.{Lasts}
use Rattle.st_laws_pages.specs.Flush.Flush.{IsIts, file_at}
use Rattle.st_laws_pages.specs.Disks.Pages.{mapping_of}
use Rattle.st_laws_pages.specs.Disks.World.{mapped_in}
use Rattle.st_laws_reads.specs.Copies.World.{Taking, turn_of}
use Rattle.st_laws_reads.specs.AllClients.Law.{Running}
use Rattle.st_laws_extents.specs.DiskReads.OutstandingReads.{ReadsClean}

-- A command reads a page where its server has it; and if it had its effect, it found the content of the page.
pub record ReadRight (w : World) (es : List LogEntry) (a : Association) (pc : PageCommand) (d : DiskCommand) : Type 0 where
  pub extent : Extent
  pub is : mapped_in w (file_at a pc.ino) pc.page ≡ Some extent
  pub what : d.what ≡ commands.Read extent.at
  pub sampled : (b : Block) → d.sample ≡ Some b → found_under (file_at a pc.ino) pc.page b.tag b.bytes (mapping_of extent) ≡ content es (file_at a pc.ino) pc.page

-- each command of the world that is an outstanding read of this instance of a client
abbrev pub EachRight : World → List LogEntry → ℕ → WorldClient → Association → PageCommand → Type 0
EachRight w es c site a pc =
    (k : ℕ) (y : IssuedCommand) (d : DiskCommand) → numbered w.commands k ≡ Some y → IsIts (client c) site.starts pc.number y →
    disks.command_at w.disks.commands k ≡ Some d → ReadRight w es a pc d

-- What holds of all clients that run: outstanding reads are of pages that are not dirty, and mapped; and if a lease lasts, they are right.
pub record ReadsHold (w : World) (es : List LogEntry) : Type 0 where
  pub clean : (c : ℕ) (site : WorldClient) → Running w c site → (a : Association) → Has a site.node.state.associations → ReadsClean a.store
  pub right : (c : ℕ) (site : WorldClient) → Running w c site → (a : Association) → Has a site.node.state.associations →
      Lasts site.node.state.config.lease (clock_of w (nodes.Client (client c))).0 a.session → (pc : PageCommand) → Has pc a.store.commands →
      pc.kind ≡ io.Read → EachRight w es c site a pc

-- Where the server has the page of a read that a step submits.
pub record LiesAt (w : World) (a : Association) (pc : PageCommand) (to : BlockAt) : Type 0 where
  pub extent : Extent
  pub is : mapped_in w (file_at a pc.ino) pc.page ≡ Some extent
  pub at : extent.at ≡ to

-- Each read that a step of a client that runs submits goes to where the server has its page.
abbrev pub ReadsLie : Taking → Type 0
ReadsLie x =
    x.site.node.running ≡ true → (a : Association) → Has a (turn_of x).state.associations →
    (pc : PageCommand) → Has pc a.store.commands → pc.kind ≡ io.Read →
    (at to : BlockAt) → Has (outputs.Submit pc.number at (commands.Read to)) (turn_of x).out → LiesAt x.world a pc to

-- Where the server has a page is what a client that runs knows of it.
abbrev pub KnownRight : World → Type 0
KnownRight w =
    (c : ℕ) (site : WorldClient) → Running w c site → (a : Association) → Has a site.node.state.associations →
    Lasts site.node.state.config.lease (clock_of w (nodes.Client (client c))).0 a.session → (ino : ℕ) (p : PageNo) (m : MappedBlock) →
    known_at a.store.extents ino p ≡ Some m → (e : Extent) × (mapped_in w (file_at a ino) p ≡ Some e) × (mapping_of e ≡ m)
