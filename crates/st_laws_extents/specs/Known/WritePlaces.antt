-- Where writes that are submitted go, and what clients know of where pages lie: as their servers have it.
use Rattle.std.specs.Prelude.{◌≡◌, ℕ, true, List, [], Option, Some, None}
use Rattle.st_base.specs.declared.disk.BlockAt.{BlockAt}
use Rattle.st_base.specs.declared.disk.Command.TheVariants as commands
use Rattle.st_base.specs.declared.disk.Tag.{Tag}
use Rattle.st_base.specs.declared.ids.ClientId.{ClientId}
use Rattle.st_base.specs.declared.ids.NodeId.TheVariants as nodes
use Rattle.st_messages.specs.declared.event.Event.{Event}
use Rattle.st_messages.specs.declared.event.Event.TheVariants as events
use Rattle.st_messages.specs.declared.message.Body.{Body}
use Rattle.st_messages.specs.declared.message.Header.{Header}
use Rattle.st_messages.specs.declared.output.Output.TheVariants as outputs
use Rattle.st_rules.specs.declared.client.ClientInput.{ClientInput}
use Rattle.st_rules.specs.declared.client.ClientInput.TheVariants as inputs
use Rattle.st_rules.specs.declared.client.MappedBlock.{MappedBlock}
use Rattle.st_rules.specs.declared.extents.Extent.{Extent}
use Rattle.st_rules.specs.declared.input.ServerInput.TheVariants as serving
use Rattle.st_rules.specs.Client.{losses}
use Rattle.st_rules.specs.ClientState.{Association, client_turn}
use Rattle.st_rules.specs.World.{World, WorldClient, clock_of, message_of, node_of, site_of}
use Rattle.st_lemmas.specs.Lists.{Has}
use Rattle.st_laws_refine.specs.Client.Invariants.{Lasts}
use Rattle.st_laws_pages.specs.Disks.World.{mapped_in}
use Rattle.st_laws_reads.specs.Copies.Copies.{file_at}
use Rattle.st_laws_reads.specs.Copies.World.{Taking, now_at, turn_of}
use Rattle.st_laws_reads.specs.AllClients.Events.{MessageFree, ServerFree}
use Rattle.st_laws_extents.specs.Known.Known.{Fact, Knows, Tells}

-- a page lies as it is known
pub record LiesAs (o : Option Extent) (m : MappedBlock) : Type 0 where
  pub extent : Extent
  pub is : o ≡ Some extent
  pub at : extent.at ≡ m.at
  pub birth : extent.birth ≡ m.birth

-- a page of a server's file lies so in a world
abbrev pub lies : World → Fact
lies w server ino p m = LiesAs (mapped_in w (file_at server ino) p) m

-- whatever is known
abbrev pub anything : Fact
anything server ino p m = Unit {0}

-- Each write that a step submits goes to where the server has its page.
abbrev pub SubmitsLie : Taking → Type 0
SubmitsLie x =
    (number : ℕ) (at to : BlockAt) (tag : Tag) (bytes : List ℕ) → Has (outputs.Submit number at (commands.Write to tag bytes)) (turn_of x).out →
    LiesAs (mapped_in x.world tag.file tag.page) (record { at = at; birth = tag.birth })

-- what a received message reports about extents, at each server of a client after its losses, is as the server has them
abbrev pub ToldRight : Taking → Header → Body → Type 0
ToldRight x h body = (a : Association) → Has a (losses (client_turn x.site.node.state []) (now_at x)).state.associations → Tells (lies x.world) a h body

-- of the input
abbrev pub InputTold : Taking → ClientInput → Type 0
InputTold x (inputs.Control m) = ToldRight x m.header m.body
InputTold x input = Unit {0}

-- of what is taken
abbrev pub ExtentsTold : Option Taking → Type 0
ExtentsTold None = Unit {0}
ExtentsTold (Some x) = InputTold x x.input

-- each client, also one that does not run, knows of extents only in files that it has locked
abbrev pub AllLocked : World → Type 0
AllLocked w = (c : ClientId) (site : WorldClient) → site_of w c ≡ Some site → (a : Association) → Has a site.node.state.associations → Knows anything a

-- what a client that runs knows, under a lease that is not over, is as the server has it
pub record SiteKnows (w : World) (c : ClientId) (site : WorldClient) : Type 0 where
  pub knows : site.node.running ≡ true → (a : Association) → Has a site.node.state.associations →
      Lasts site.node.state.config.lease (clock_of w (nodes.Client c)).0 a.session → Knows (lies w) a

-- all clients
abbrev pub AllKnow : World → Type 0
AllKnow w = (c : ClientId) (site : WorldClient) → site_of w c ≡ Some site → SiteKnows w c site

-- what is owed of the cuts of an event: they are of files that no client knows, or of which nothing is cached
abbrev pub CutsOwed : World → Event → Type 0
CutsOwed w (events.Tick (nodes.Server s)) = ServerFree w s serving.Tick (node_of w s)
CutsOwed w (events.Deliver k) = MessageFree w (message_of w k)
CutsOwed w e = Unit {0}
