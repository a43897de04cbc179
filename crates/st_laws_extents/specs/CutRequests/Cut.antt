-- How a server comes to cut a file: the request that it serves, its session, and the row under which it does.
use Rattle.std.specs.Prelude.{◌≡◌, ℕ, ◌+◌, true, Option, Some}
use Rattle.st_base.specs.declared.ids.FileId.{FileId}
use Rattle.st_base.specs.declared.ids.GrantNo.{GrantNo}
use Rattle.st_base.specs.declared.ids.PageNo.{PageNo}
use Rattle.st_base.specs.declared.mode.Mode.TheVariants as modes
use Rattle.st_messages.specs.declared.message.Body.{Body}
use Rattle.st_messages.specs.declared.message.Body.TheVariants as bodies
use Rattle.st_messages.specs.declared.message.Message.{Message}
use Rattle.st_messages.specs.declared.message.NameOp.TheVariants as ops
use Rattle.st_rules.specs.declared.locks.LockRow.{LockRow}
use Rattle.st_rules.specs.declared.sessions.Session.{Session}
use Rattle.st_rules.specs.declared.sessions.SessionState.TheVariants as states
use Rattle.st_rules.specs.Keys.{page_no, server_node}
use Rattle.st_rules.specs.Locks.{row_of}
use Rattle.st_rules.specs.Server.{ServerNode, ServerState, is_client_node, sender}
use Rattle.st_rules.specs.Sessions.{session_of}
use Rattle.st_rules.specs.World.{World, node_of}
use Rattle.st_lemmas.specs.Lists.{Has}
use Rattle.st_laws_leases.specs.Dates.Dates.{messages}

-- a request to cut this file from this page on, or to remove a file of this grant
abbrev pub AsksCut : Body → ℕ → PageNo → GrantNo → Type 0
AsksCut (bodies.Cut ino g from) i p h = (ino ≡ i) × (from ≡ p)
AsksCut (bodies.Name (ops.Remove dir name g)) i p h = (p ≡ page_no 0) × (g.0 ≡ h.0)
AsksCut body i p h = ⊥

-- A server cuts a file because of a message: of its epoch, with the next number of its client's session, which lives; and the client
-- has an exclusive row of the file.
pub record CutBy (x : ServerState) (m : Message) (f : FileId) (p : PageNo) : Type 0 where
  pub server : f.server ≡ x.id
  pub client : is_client_node m.header.from ≡ true
  pub to : m.header.to ≡ server_node x.id
  pub of_epoch : m.header.epoch ≡ x.stable.epoch.0
  pub session : Session
  pub is : session_of x.sessions (sender m.header) ≡ Some session
  pub of_life : session.life.0 ≡ m.header.life
  pub last : ℕ
  pub reply : Option Body
  pub state : session.state ≡ states.Live last reply
  pub next : m.header.number ≡ last + 1
  pub row : LockRow
  pub found : row_of x.locks (sender m.header) f.ino ≡ Some row
  pub exclusive : row.mode ≡ modes.X
  pub asks : AsksCut m.body f.ino p row.g

-- some server of a world that runs cuts a file because of a message
pub record CutIn (w : World) (f : FileId) (p : PageNo) : Type 0 where
  pub node : ServerNode
  pub there : node_of w f.server ≡ Some node
  pub running : node.running ≡ true
  pub message : Message
  pub among : Has message (messages w)
  pub by : CutBy node.state message f p

-- the clients and the clocks of a world are those of another one
pub record Unmoved (w v : World) : Type 0 where
  pub clients : v.clients ≡ w.clients
  pub clocks : v.clocks ≡ w.clocks
