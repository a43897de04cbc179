-- What a write that is submitted carries: it goes to the block that it names, and its client's latest entry of the page belongs to its life, and
-- the last that counts.
use Rattle.std.specs.Prelude.{◌≡◌, ℕ, List, [], ◌∷◌, Option, Some, None}
use Rattle.st_base.specs.declared.disk.BlockAt.{BlockAt}
use Rattle.st_base.specs.declared.disk.Command.{Command}
use Rattle.st_base.specs.declared.disk.Command.TheVariants as commands
use Rattle.st_base.specs.declared.disk.Tag.{Tag}
use Rattle.st_base.specs.declared.ids.ClientId.{ClientId}
use Rattle.st_base.specs.declared.ids.Life.{Life}
use Rattle.st_base.specs.declared.ids.NodeId.TheVariants as nodes
use Rattle.st_base.specs.declared.ids.PageNo.{PageNo}
use Rattle.st_messages.specs.declared.output.Output.{Output}
use Rattle.st_messages.specs.declared.output.Output.TheVariants as outputs
use Rattle.st_rules.specs.declared.log.LogEntry.{LogEntry}
use Rattle.st_rules.specs.declared.pages.DirtyPage.{DirtyPage}
use Rattle.st_rules.specs.ClientPages as pages
use Rattle.st_rules.specs.ClientState.{Association, ClientState}
use Rattle.st_rules.specs.Events.{WorldTurn, client_says, latest}
use Rattle.st_rules.specs.FlatLog.{owner}
use Rattle.st_rules.specs.Keys.{client}
use Rattle.st_rules.specs.World.{World, WorldClient, clock_of, life_with, server_of_disk, site_of}
use Rattle.st_lemmas.specs.Lists.{Has}
use Rattle.st_laws_refine.specs.Client.Invariants.{Lasts}
use Rattle.st_laws_pages.specs.Flush.Flush.{file_at}
use Rattle.st_laws_pages.specs.Disks.Folds.{LastIs, owner_at}
use Rattle.st_laws_reads.specs.AllClients.Law.{Running}

-- of a write of a life
pub record FineWrite (w : World) (c : ClientId) (life : Life) (at to : BlockAt) (tag : Tag) : Type 0 where
  pub place : at ≡ to
  pub of : owner_at w.log (latest w.log c tag.file tag.page) ≡ Some (owner c life tag.file tag.page)
  pub last : LastIs 1 (latest w.log c tag.file tag.page) tag.file tag.page w.log

-- a read has nothing to carry
abbrev pub FineSubmit : World → ClientId → Option WorldClient → BlockAt → Command → Type 0
FineSubmit w c None at what = Unit {0}
FineSubmit w c (Some site) at (commands.Read to) = Unit {0}
FineSubmit w c (Some site) at (commands.Write to tag bytes) = FineWrite w c (life_with site.node.state (server_of_disk w at)) at to tag

-- an output that submits nothing has nothing to carry
abbrev pub FineOne : World → ClientId → Output → Type 0
FineOne w c (outputs.Submit number at what) = FineSubmit w c (site_of w c) at what
FineOne w c o = Unit {0}

-- each output in the world after those before it
abbrev pub EachFine : ClientId → ClientState → WorldTurn → List Output → Type 0
EachFine c before sc [] = Unit {0}
EachFine c before sc (o ∷ os) = record { one : FineOne sc.world c o; rest : EachFine c before (client_says sc c before o) os }

-- after the latest entry of a dirty page nothing of the page counts
abbrev pub LatestLast : ClientId → List LogEntry → Association → Type 0
LatestLast c es a =
    (ino : ℕ) (p : PageNo) (d : DirtyPage) → pages.dirty_of a.store.pages ino p ≡ Some d →
    LastIs 1 (latest es c (file_at a ino) p) (file_at a ino) p es

-- at all clients that run, if their leases last
abbrev pub LastIn : World → List LogEntry → Type 0
LastIn w es =
    (c : ℕ) (site : WorldClient) → Running w c site → (a : Association) → Has a site.node.state.associations →
    Lasts site.node.state.config.lease (clock_of w (nodes.Client (client c))).0 a.session → LatestLast (client c) es a
