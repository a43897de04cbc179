-- How a server comes to serve a request, and to change its names by one.
use Rattle.std.specs.Prelude.{◌≡◌, ℕ, ◌+◌, true, Option, Some}
use Rattle.st_base.specs.declared.ids.ServerId.{ServerId}
use Rattle.st_messages.specs.declared.answer.AppAnswer.{AppAnswer}
use Rattle.st_messages.specs.declared.message.Body.{Body}
use Rattle.st_messages.specs.declared.message.Body.TheVariants as bodies
use Rattle.st_messages.specs.declared.message.Message.{Message}
use Rattle.st_messages.specs.declared.message.NameOp.{NameOp}
use Rattle.st_rules.specs.declared.sessions.Session.{Session}
use Rattle.st_rules.specs.declared.sessions.SessionState.TheVariants as states
use Rattle.st_rules.specs.Keys.{server_node}
use Rattle.st_rules.specs.Names.{Names}
use Rattle.st_rules.specs.Server.{ServerNode, ServerState, is_client_node, sender}
use Rattle.st_rules.specs.Sessions.{session_of}
use Rattle.st_rules.specs.World.{World, node_of}
use Rattle.st_lemmas.specs.Lists.{Has}
use Rattle.st_laws_leases.specs.Dates.Dates.{messages}
use Rattle.st_promises.specs.NameAnswers.{said}
use Rattle.st_laws_requests.specs.Cuts.Cuts.{does}

-- A message is served: it has the server's epoch, and the next number of its client's session, which lives.
pub record IsServedBy (x : ServerState) (m : Message) : Type 0 where
  pub client : is_client_node m.header.from ≡ true
  pub to : m.header.to ≡ server_node x.id
  pub of_epoch : m.header.epoch ≡ x.stable.epoch.0
  pub session : Session
  pub is : session_of x.sessions (sender m.header) ≡ Some session
  pub of_life : session.life.0 ≡ m.header.life
  pub last : ℕ
  pub reply : Option Body
  pub state : session.state ≡ states.Live last reply
  pub next : m.header.number ≡ last + 1

-- some server of a world that runs serves a message of it
pub record IsServedAt (w : World) (s : ServerId) : Type 0 where
  pub node : ServerNode
  pub there : node_of w s ≡ Some node
  pub running : node.running ≡ true
  pub message : Message
  pub among : Has message (messages w)
  pub server : s ≡ node.state.id
  pub by : IsServedBy node.state message

-- a message that is served is a request by which names become these
pub record NamesBy (x : ServerState) (m : Message) (new : Names) : Type 0 where
  pub served : IsServedBy x m
  pub op : NameOp
  pub body : m.body ≡ bodies.Name op
  pub answer : AppAnswer
  pub did : does x.stable.names op ≡ said new answer
