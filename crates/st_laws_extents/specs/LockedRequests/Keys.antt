-- Each reply of extents, sent or kept, answers a request that was sent.
use Rattle.std.specs.Prelude.{◌≡◌, ℕ, true, List, Some}
use Rattle.st_base.specs.declared.ids.ClientId.{ClientId}
use Rattle.st_base.specs.declared.ids.ServerId.{ServerId}
use Rattle.st_base.specs.declared.rows.ExtentRow.{ExtentRow}
use Rattle.st_messages.specs.declared.message.Body.TheVariants as bodies
use Rattle.st_messages.specs.declared.message.Message.{Message}
use Rattle.st_rules.specs.Keys.{client, server_node}
use Rattle.st_rules.specs.Server.{ServerNode}
use Rattle.st_rules.specs.World.{World, node_of}
use Rattle.st_lemmas.specs.Lists.{Has}
use Rattle.st_laws_requests.specs.Cuts.Cuts.{Keyed}
use Rattle.st_laws_leases.specs.Dates.Dates.{messages}
use Rattle.st_laws_extents.specs.ExtentReplies.Steps.{KeptRows}

-- a request of this key was sent
pub record HasKey (w : World) (c : ClientId) (s : ServerId) (life epoch number : ℕ) : Type 0 where
  pub by : Message
  pub among : Has by (messages w)
  pub is : Keyed c s life epoch number by

-- of what was sent, and of what servers keep that run
pub record KeysTold (w : World) : Type 0 where
  pub sent : (m : Message) (ino : ℕ) (rows : List ExtentRow) → Has m (messages w) → (s : ServerId) → m.header.from ≡ server_node s → m.body ≡ bodies.Extents ino rows →
      HasKey w (client m.header.to) s m.header.life m.header.epoch m.header.number
  pub kept : (s : ServerId) (node : ServerNode) → node_of w s ≡ Some node → node.running ≡ true → (c : ClientId) (life number ino : ℕ) (rows : List ExtentRow) →
      KeptRows node.state.sessions c life number ino rows → HasKey w c s life node.state.stable.epoch.0 number
