-- What holds in a world between events: of each server with all its clients, and of who sent what.
use Rattle.std.specs.Prelude.{◌≡◌, ◌+◌, ◌<◌, ℕ, length, Some}
use Rattle.st_base.specs.declared.ids.ServerId.{ServerId}
use Rattle.st_messages.specs.declared.event.Event.{Event}
use Rattle.st_messages.specs.declared.event.Event.TheVariants as events
use Rattle.st_rules.specs.declared.world.SentMessage.{SentMessage}
use Rattle.st_rules.specs.Keys.{server_node}
use Rattle.st_rules.specs.Server.{ServerNode}
use Rattle.st_rules.specs.World.{World, node_of, server}
use Rattle.st_protocol.specs.Assoc.{Config, ConfigOk}
use Rattle.st_laws_refine.specs.Views.Halves.{Ghost}
use Rattle.st_lemmas.specs.Lists.{Has}
use Rattle.st_laws_pages.specs.Disks.Obligations.{FatesHold}
use Rattle.st_laws_refine.specs.Server.Pair.{Timed, terms_of}
use Rattle.st_laws_refine.specs.Server.Invariants.{Calm, Few}
use Rattle.st_laws_leases.specs.Sides.Invariants.{Both}

-- What holds of a server of the world: both sides of its associations, the clocks between them, its grants, and what the absence of conflicts rests on.
pub record ServerStands (k : Config) (w : World) (s : ℕ) (node : ServerNode) : Type 0 where
  pub ended : ℕ → ℕ → ℕ
  pub ghosts : ℕ → Ghost
  pub both : Both k s w node ended ghosts
  pub timed : Timed k s w ghosts
  pub calm : Calm node.state
  pub few : Few w.net.bytes node.state

-- a server that is there
pub record There (w : World) (s : ServerId) : Type 0 where
  pub node : ServerNode
  pub is : node_of w s ≡ Some node

-- What holds in a world of this number of nodes: the settings are the machine's, lives and fates are as they must be, a message of a server is of one that is
-- there, and everything holds of each server.
pub record AllStand (k : Config) (count : ℕ) (w : World) : Type 0 where
  pub terms : k ≡ terms_of w.config
  pub sound : ConfigOk k
  pub waits : 0 < k.wait
  pub fates : FatesHold w
  pub clocks : length w.clocks ≡ length w.clients + length w.servers
  pub nodes : length w.clocks ≡ count
  pub first : There w (server 1)
  pub senders : (m : SentMessage) → Has m w.net.messages → (x : ServerId) → m.message.header.from ≡ server_node x → There w x
  pub servers : (s : ℕ) (node : ServerNode) → node_of w (server s) ≡ Some node → ServerStands k w s node

-- an advance has a step for each clock
abbrev pub IsFull : World → Event → Type 0
IsFull w (events.Advance steps) = length steps ≡ length w.clocks
IsFull w e = Unit {0}
