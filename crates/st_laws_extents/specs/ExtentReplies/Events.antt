-- What an event leaves of extents, and of what servers keep and said of them.
use Rattle.std.specs.Prelude.{◌≡◌, ℕ, true, List, Some}
use Rattle.std.proofs.Common.{◌⊎◌}
use Rattle.st_base.specs.declared.ids.ClientId.{ClientId}
use Rattle.st_base.specs.declared.ids.ServerId.{ServerId}
use Rattle.st_base.specs.declared.ids.Stamp.{Stamp}
use Rattle.st_base.specs.declared.rows.ExtentRow.{ExtentRow}
use Rattle.st_messages.specs.declared.message.Message.{Message}
use Rattle.st_messages.specs.declared.output.Output.TheVariants as outputs
use Rattle.st_rules.specs.declared.input.ServerInput.{ServerInput}
use Rattle.st_rules.specs.declared.input.ServerInput.TheVariants as inputs
use Rattle.st_rules.specs.Keys.{server_node}
use Rattle.st_rules.specs.Server.{ServerNode, server_step}
use Rattle.st_rules.specs.World.{World, node_of, with_numbered}
use Rattle.st_lemmas.specs.Lists.{Has}
use Rattle.st_laws_leases.specs.Dates.Dates.{messages}
use Rattle.st_laws_extents.specs.ExtentReplies.Steps.{KeptRows}

-- a server has its extents, and keeps no reply of extents that it did not keep, in the same epoch
pub record NodeStays (n p : ServerNode) : Type 0 where
  pub extents : p.state.stable.extents ≡ n.state.stable.extents
  pub kept : p.running ≡ true → (c : ClientId) (life number ino : ℕ) (rows : List ExtentRow) → KeptRows p.state.sessions c life number ino rows →
      (n.running ≡ true) × KeptRows n.state.sessions c life number ino rows × (p.state.stable.epoch.0 ≡ n.state.stable.epoch.0)

-- so does each server, and none says anything
pub record Stays (w v : World) : Type 0 where
  pub nodes : (s : ServerId) (p : ServerNode) → node_of v s ≡ Some p → (n : ServerNode) × (node_of w s ≡ Some n) × NodeStays n p
  pub messages : (m : Message) → Has m (messages v) → (s : ServerId) → m.header.from ≡ server_node s → Has m (messages w)

-- a server that runs takes a step, with a message that was sent or on a tick; and clients stay
pub record ServerSteps (w v : World) : Type 0 where
  pub server : ServerId
  pub node : ServerNode
  pub there : node_of w server ≡ Some node
  pub running : node.running ≡ true
  pub now : Stamp
  pub input : ServerInput
  pub comes : (m : Message) → input ≡ inputs.Control m → Has m (messages w)
  pub clients : v.clients ≡ w.clients
  pub clocks : v.clocks ≡ w.clocks
  pub servers : v.servers ≡ with_numbered server.0 (record node { state = (server_step node.state now input).state }) w.servers
  pub messages : (m : Message) → Has m (messages v) → Has m (messages w) ⊎ Has (outputs.Send m) (server_step node.state now input).out
  pub says : (m : Message) → Has (outputs.Send m) (server_step node.state now input).out → m.header.from ≡ server_node server
  pub dated : (m : Message) → Has (outputs.Send m) (server_step node.state now input).out → m.header.epoch ≡ node.state.stable.epoch.0
  pub epoch : (server_step node.state now input).state.stable.epoch.0 ≡ node.state.stable.epoch.0

-- one of these
abbrev pub EventTells : World → World → Type 0
EventTells w v = Stays w v ⊎ ServerSteps w v
