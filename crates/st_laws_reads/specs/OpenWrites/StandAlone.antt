-- A write command of a present life that may still have its effect leaves no other client a lock.
use Rattle.std.specs.Prelude.{◌≡◌, ◌≢◌, ℕ, List, Option}
use Rattle.st_base.specs.declared.disk.BlockAt.{BlockAt}
use Rattle.st_base.specs.declared.disk.Tag.{Tag}
use Rattle.st_base.specs.declared.ids.NodeId.TheVariants as nodes
use Rattle.st_messages.specs.declared.ask.Ask.{Ask}
use Rattle.st_rules.specs.declared.world.IssuedCommand.{IssuedCommand}
use Rattle.st_rules.specs.ClientState.{Association}
use Rattle.st_rules.specs.Keys.{client}
use Rattle.st_rules.specs.World.{World, WorldClient, clock_of}
use Rattle.st_protocol.specs.Assoc.{Config}
use Rattle.st_lemmas.specs.Lists.{Has}
use Rattle.st_laws_pages.specs.Disks.World.{Living, Timely}
use Rattle.st_laws_leases.specs.Sides.World.{AllStand, There}
use Rattle.st_laws_reads.specs.Copies.Law.{ClientCopies}
use Rattle.st_laws_reads.specs.Copies.World.{Unheld}
use Rattle.st_laws_reads.specs.AllClients.Law.{Running}
use Rattle.st_laws_pages.specs.Writes.Writes.{OpenHold}

-- a command belongs to the life of an association
pub record OfLife (c : ℕ) (a : Association) (x : IssuedCommand) : Type 0 where
  pub client : x.client ≡ client c
  pub server : x.server ≡ a.server
  pub life : x.life ≡ a.life

-- In a world in which everything holds: a write of a client's present life that may have its effect leaves no other client that runs a lock.
abbrev pub OpenWritesStandAlone : Type 0
OpenWritesStandAlone =
    (asked_as : ℕ → Option Ask) (k : Config) (count : ℕ) (w : World) (c d : ℕ) (site other : WorldClient) (a : Association) (n : ℕ)
    (x : IssuedCommand) (at : BlockAt) (tag : Tag) (bytes : List ℕ) → AllStand k count w → OpenHold w → c ≢ d → Running w c site →
    Running w d other → ClientCopies asked_as (client c) w.log (clock_of w (nodes.Client (client c))) site.node.state →
    Has a site.node.state.associations → There w a.server → OfLife c a x → Living (Timely w) w.commands w.disks.commands n x at tag bytes →
    Unheld tag.file other.node.state.config.lease (clock_of w (nodes.Client (client d))).0 other.node.state.associations
