-- What holds of the replies to an outstanding request for extents: they report the present extents.
use Rattle.std.specs.Prelude.{◌≡◌, ℕ, true, List, Some}
use Rattle.st_base.specs.declared.ids.NodeId.TheVariants as nodes
use Rattle.st_base.specs.declared.rows.ExtentRow.{ExtentRow}
use Rattle.st_messages.specs.declared.message.Body.TheVariants as bodies
use Rattle.st_messages.specs.declared.message.Message.{Message}
use Rattle.st_rules.specs.declared.client.Request.{Request}
use Rattle.st_rules.specs.ClientReplies.{is_current}
use Rattle.st_rules.specs.ClientState.{Association, ClientSession}
use Rattle.st_rules.specs.Keys.{client, server_node}
use Rattle.st_rules.specs.Server.{ServerNode}
use Rattle.st_rules.specs.World.{WorldClient, World, clock_of, node_of}
use Rattle.st_lemmas.specs.Lists.{Has}
use Rattle.st_laws_refine.specs.Client.Invariants.{Lasts}
use Rattle.st_laws_leases.specs.Dates.Dates.{messages}
use Rattle.st_laws_reads.specs.AllClients.Law.{Running}
use Rattle.st_laws_extents.specs.ExtentReplies.Steps.{KeptRows, TellsRows}

-- a client that runs has a request outstanding at a server, under a lease that lasts, and has the lock under which it was asked
pub record AskedAt (w : World) (c : ℕ) (site : WorldClient) (a : Association) (x : ClientSession) (q : Request) : Type 0 where
  pub run : Running w c site
  pub has : Has a site.node.state.associations
  pub session : a.session ≡ Some x
  pub lasts : Lasts site.node.state.config.lease (clock_of w (nodes.Client (client c))).0 a.session
  pub asked : x.requests.asked ≡ Some q
  pub current : is_current x.locks q.body ≡ true

-- a message is a reply of extents to that request
pub record RepliesTo (c : ℕ) (a : Association) (x : ClientSession) (q : Request) (m : Message) (ino : ℕ) (rows : List ExtentRow) : Type 0 where
  pub from : m.header.from ≡ server_node a.server
  pub to : m.header.to ≡ c
  pub of_life : m.header.life ≡ a.life.0
  pub of_epoch : m.header.epoch ≡ x.epoch.0
  pub under : m.header.number ≡ q.number
  pub body : m.body ≡ bodies.Extents ino rows

-- what was sent, and what its session keeps, tells the extents that the server has
pub record RepliesRight (w : World) (c : ℕ) (a : Association) (x : ClientSession) (q : Request) (node : ServerNode) : Type 0 where
  pub sent : (m : Message) (ino : ℕ) (rows : List ExtentRow) → Has m (messages w) → RepliesTo c a x q m ino rows →
      TellsRows a.server node.state.stable.extents q.body ino rows
  pub kept : node.running ≡ true → (ino : ℕ) (rows : List ExtentRow) → KeptRows node.state.sessions (client c) a.life.0 q.number ino rows →
      TellsRows a.server node.state.stable.extents q.body ino rows

-- in a world
abbrev pub AskedRight : World → Type 0
AskedRight w =
    (c : ℕ) (site : WorldClient) (a : Association) (x : ClientSession) (q : Request) → AskedAt w c site a x q →
    (node : ServerNode) → node_of w a.server ≡ Some node → RepliesRight w c a x q node
