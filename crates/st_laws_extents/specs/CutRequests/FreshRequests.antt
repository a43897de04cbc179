-- A request that a server serves anew is the one that is outstanding at its client.
use Rattle.std.specs.Prelude.{◌≡◌, ℕ, ◌+◌, true, Option, Some}
use Rattle.st_base.specs.declared.ids.NodeId.TheVariants as nodes
use Rattle.st_base.specs.declared.ids.ServerId.{ServerId}
use Rattle.st_messages.specs.declared.message.Body.{Body}
use Rattle.st_messages.specs.declared.message.Message.{Message}
use Rattle.st_rules.specs.declared.client.Request.{Request}
use Rattle.st_rules.specs.declared.sessions.Session.{Session}
use Rattle.st_rules.specs.declared.sessions.SessionState.TheVariants as states
use Rattle.st_rules.specs.ClientState.{Association, ClientSession}
use Rattle.st_rules.specs.Keys.{client, server_node}
use Rattle.st_rules.specs.Safety.{Promise}
use Rattle.st_rules.specs.Server.{ServerNode, sender}
use Rattle.st_rules.specs.Sessions.{session_of}
use Rattle.st_rules.specs.World.{WorldClient, World, clock_of, node_of}
use Rattle.st_lemmas.specs.Lists.{Has}
use Rattle.st_laws_refine.specs.Client.Invariants.{Lasts}
use Rattle.st_laws_leases.specs.Dates.Dates.{messages}
use Rattle.st_laws_reads.specs.AllClients.Law.{Running}

-- a message has the next number of its client's session at a server that runs, in its life and epoch
pub record FreshAt (w : World) (s : ServerId) (m : Message) : Type 0 where
  pub node : ServerNode
  pub there : node_of w s ≡ Some node
  pub running : node.running ≡ true
  pub among : Has m (messages w)
  pub to : m.header.to ≡ server_node s
  pub of_epoch : m.header.epoch ≡ node.state.stable.epoch.0
  pub session : Session
  pub is : session_of node.state.sessions (sender m.header) ≡ Some session
  pub of_life : session.life.0 ≡ m.header.life
  pub last : ℕ
  pub reply : Option Body
  pub state : session.state ≡ states.Live last reply
  pub next : m.header.number ≡ last + 1

-- the outstanding request of a session has the number and the body of a message
pub record IsOutstanding (x : ClientSession) (m : Message) : Type 0 where
  pub request : Request
  pub asked : x.requests.asked ≡ Some request
  pub number : m.header.number ≡ request.number
  pub body : m.body ≡ request.body

-- Each such message of a client that runs, under a lease that lasts, is its outstanding request.
abbrev pub FreshOutstanding : World → Type 0
FreshOutstanding w =
    (s : ServerId) (m : Message) → FreshAt w s m → (site : WorldClient) → Running w m.header.from site → (b : Association) →
    Has b site.node.state.associations → b.server ≡ s → (x : ClientSession) → b.session ≡ Some x →
    Lasts site.node.state.config.lease (clock_of w (nodes.Client (client m.header.from))).0 b.session → IsOutstanding x m

-- before a step
abbrev pub FreshAreOutstanding : Promise
FreshAreOutstanding past x = FreshOutstanding x.before.world
