-- Why `cut` is logged, and why names answer truly: what holds of the messages, of each client and of each server after every event.
use Rattle.std.specs.Prelude.{◌≡◌, ℕ, ◌≤◌, ◌<◌, Bool, true, false, ◌==◌, if◌then◌else◌, List, filter_map, length, map, Option, Some, None, Result, Ok, Err}
use Rattle.st_base.specs.declared.ids.ClientId.{ClientId}
use Rattle.st_base.specs.declared.ids.ServerId.{ServerId}
use Rattle.st_base.specs.declared.ids.GrantNo.{GrantNo}
use Rattle.st_base.specs.declared.ids.PageNo.{PageNo}
use Rattle.st_base.specs.declared.names.NameAsk.{NameAsk}
use Rattle.st_base.specs.declared.names.NameAsk.TheVariants as asked
use Rattle.st_messages.specs.declared.answer.AppAnswer.{AppAnswer}
use Rattle.st_messages.specs.declared.answer.AppAnswer.TheVariants as answers
use Rattle.st_messages.specs.declared.ask.Ask.{Ask}
use Rattle.st_messages.specs.declared.ask.Ask.TheVariants as asks
use Rattle.st_messages.specs.declared.message.Message.{Message}
use Rattle.st_messages.specs.declared.message.Body.{Body}
use Rattle.st_messages.specs.declared.message.Body.TheVariants as bodies
use Rattle.st_messages.specs.declared.message.NameOp.{NameOp}
use Rattle.st_messages.specs.declared.message.NameOp.TheVariants.{Lookup, Create, Mkdir, Remove, Rename, List as ListFrom}
use Rattle.st_rules.specs.declared.client.Operation.{Operation}
use Rattle.st_rules.specs.declared.client.Request.{Request}
use Rattle.st_rules.specs.declared.names.EntryRefusal.{EntryRefusal}
use Rattle.st_rules.specs.declared.names.EntryRefusal.TheVariants.{IsDir}
use Rattle.st_rules.specs.declared.observation.Observation.TheVariants as seen
use Rattle.st_rules.specs.declared.sessions.Session.{Session}
use Rattle.st_rules.specs.declared.sessions.SessionState.{SessionState}
use Rattle.st_rules.specs.declared.sessions.SessionState.TheVariants as states
use Rattle.st_rules.specs.Keys.{client, server_node}
use Rattle.st_rules.specs.ClientPasses.{name_op}
use Rattle.st_rules.specs.ClientReplies.{name_answer}
use Rattle.st_rules.specs.ClientState.{Association, ClientSession, Requests, is_asked}
use Rattle.st_rules.specs.Names as names
use Rattle.st_rules.specs.Names.{Names}
use Rattle.st_rules.specs.Server.{ServerNode}
use Rattle.st_rules.specs.Sessions.{session_of}
use Rattle.st_rules.specs.World.{WorldClient, node_of, numbered, site_of}
use Rattle.st_rules.specs.History.{Traced}
use Rattle.st_rules.specs.Safety.{Step, ask_in, event_of, is_after_ask, was_cut}
use Rattle.st_promises.specs.NameAnswers.{Saying, changed, found, listed, refused, said}
use Rattle.st_lemmas.specs.Lists.{Has}
use Rattle.st_laws_leases.specs.Dates.Dates.{messages}
use Rattle.st_laws_pages.specs.Disks.Obligations.{FatesHold}

-- The messages.

-- from a client to a server
abbrev pub Between : ClientId → ServerId → Message → Type 0
Between c s m = (m.header.from ≡ c.0) × (m.header.to ≡ server_node s)

-- a client's message to a server in a life and an epoch, under a number
pub record Keyed (c : ClientId) (s : ServerId) (life epoch number : ℕ) (m : Message) : Type 0 where
  pub between : Between c s m
  pub of_life : m.header.life ≡ life
  pub of_epoch : m.header.epoch ≡ epoch
  pub under : m.header.number ≡ number

-- a file was cut from a page at one of these steps, before which a message of this key had been sent
pub record IsCutDone (past : List Step) (c : ClientId) (s : ServerId) (life epoch number ino : ℕ) (p : PageNo) : Type 0 where
  pub at : Step
  pub among : Has at past
  pub index : ℕ
  pub cut : Has (seen.CutAt index (record { server = s; ino = ino }) p) at.seen
  pub by : Message
  pub before : Has by (messages at.before.world)
  pub is : Keyed c s life epoch number by

-- What names say to a request: as to an ask, but a remove of a file goes by its grant.

-- a directory is removed under no grant
abbrev pub does_remove_dir : Names → ℕ → List ℕ → GrantNo → Saying
does_remove_dir n dir name g = if g.0 == 0 then changed n (names.remove n dir name) else refused n IsDir

-- a file or a directory
abbrev pub does_remove : Names → ℕ → List ℕ → GrantNo → Result ℕ EntryRefusal → Saying
does_remove n dir name g (Ok ino) = if names.is_file n ino then changed n (names.remove n dir name) else does_remove_dir n dir name g
does_remove n dir name g (Err r) = refused n r

-- what names say to a request
abbrev pub does : Names → NameOp → Saying
does n (Lookup dir name) = found n (names.lookup n dir name)
does n (Create dir name) = changed n (names.create n dir name)
does n (Mkdir dir name) = changed n (names.mkdir n dir name)
does n (Remove dir name g) = does_remove n dir name g (names.lookup n dir name)
does n (Rename dir name dir2 name2) = changed n (names.rename n dir name dir2 name2)
does n (ListFrom dir after) = listed n (names.list n dir after)

-- at one of these steps, before which a message of this key had been sent, the names of the server did what a request asks and said this
pub record IsNameDone (past : List Step) (c : ClientId) (s : ServerId) (life epoch number : ℕ) (op : NameOp) (answer : AppAnswer) : Type 0 where
  pub at : Step
  pub among : Has at past
  pub old : ServerNode
  pub was : node_of at.before.world s ≡ Some old
  pub new : ServerNode
  pub became : node_of at.after.world s ≡ Some new
  pub did : does old.state.stable.names op ≡ said new.state.stable.names answer
  pub by : Message
  pub before : Has by (messages at.before.world)
  pub is : Keyed c s life epoch number by

-- a reply that says that something was done
abbrev pub is_report : Body → Bool
is_report bodies.Ack = true
is_report (bodies.Named reply) = true
is_report body = false

-- what a request asks was done as its reply says, if it is a cut or a request for a name
abbrev pub Fulfilled : List Step → ClientId → ServerId → ℕ → ℕ → ℕ → Body → Body → Type 0
Fulfilled past c s life epoch number (bodies.Cut ino g p) bodies.Ack = IsCutDone past c s life epoch number ino p
Fulfilled past c s life epoch number (bodies.Name op) (bodies.Named reply) = IsNameDone past c s life epoch number op (name_answer reply)
Fulfilled past c s life epoch number body reply = Unit {0}

-- a message of this key was sent, and what it asks was done as this reply says
pub record Acked (past : List Step) (ms : List Message) (c : ClientId) (s : ServerId) (life epoch number : ℕ) (reply : Body) : Type 0 where
  pub by : Message
  pub among : Has by ms
  pub is : Keyed c s life epoch number by
  pub done : Fulfilled past c s life epoch number by.body reply

-- The clients.

-- before each of these steps before which a message of this key had been sent, the client had had this ask
abbrev pub Early : List Step → ClientId → ServerId → ℕ → ℕ → ℕ → ℕ → Type 0
Early past c s life epoch number op =
    (x : Step) (m : Message) → Has x past → Has m (messages x.before.world) → Keyed c s life epoch number m → is_after_ask c op x ≡ true

-- the epoch and the requests of a session
abbrev pub view : Option ClientSession → Option (ℕ × Requests)
view None = None
view (Some x) = Some (x.epoch.0, x.requests)

-- a message under the number of the outstanding request has its body
abbrev pub SameBody : Option Request → Message → Type 0
SameBody None m = Unit {0}
SameBody (Some q) m = m.header.number ≡ q.number → m.body ≡ q.body

-- a message belongs to no later epoch than the session's, and in that epoch its number was given
pub record Numbered (epoch : ℕ) (r : Requests) (m : Message) : Type 0 where
  pub up_to : m.header.epoch ≤ epoch
  pub below : m.header.epoch ≡ epoch → m.header.number < r.next
  pub same : m.header.epoch ≡ epoch → SameBody r.asked m

-- a request of the present life
abbrev pub Placed : ℕ → Option (ℕ × Requests) → Message → Type 0
Placed life None m = m.header.life ≡ life → m.header.number ≡ 0
Placed life (Some v) m = m.header.life ≡ life → 1 ≤ m.header.number → Numbered v.0 v.1 m

-- the outstanding request has a number that was given
abbrev pub Given : ℕ → Option Request → Type 0
Given next None = Unit {0}
Given next (Some q) = (1 ≤ q.number) × (q.number < next)

-- numbers are given from 1 on
abbrev pub Counts : Option (ℕ × Requests) → Type 0
Counts None = Unit {0}
Counts (Some v) = (1 ≤ v.1.next) × Given v.1.next v.1.asked

-- two messages to a server under one number, in one life and one epoch, have one body
abbrev pub OneBody : (Message → Type 0) → ClientId → ServerId → Type 0
OneBody S c s =
    (m p : Message) → S m → S p → Between c s m → Between c s p → m.header.life ≡ p.header.life → m.header.epoch ≡ p.header.epoch →
    m.header.number ≡ p.header.number → 1 ≤ m.header.number → m.body ≡ p.body

-- the outstanding request was sent
abbrev pub IsSent : (Message → Type 0) → ClientId → ServerId → ℕ → ℕ → Option Request → Type 0
IsSent S c s life epoch None = Unit {0}
IsSent S c s life epoch (Some q) = (m : Message) × S m × Keyed c s life epoch q.number m

-- in a session
abbrev pub SentIn : (Message → Type 0) → ClientId → ServerId → ℕ → Option (ℕ × Requests) → Type 0
SentIn S c s life None = Unit {0}
SentIn S c s life (Some v) = IsSent S c s life v.0 v.1.asked

-- what was sent to a server belongs to no later life, its numbers are the session's, and each has one body; the outstanding request is among it
pub record Numbers (S : Message → Type 0) (c : ClientId) (s : ServerId) (life : ℕ) (v : Option (ℕ × Requests)) : Type 0 where
  pub lives : (m : Message) → S m → Between c s m → m.header.life ≤ life
  pub placed : (m : Message) → S m → Between c s m → Placed life v m
  pub one : OneBody S c s
  pub sent : SentIn S c s life v
  pub counts : Counts v

-- a remove that means a directory names no grant
abbrev pub MeansNone : NameAsk → GrantNo → Type 0
MeansNone (asked.Remove dir name ino) g = ino ≡ 0 → g.0 ≡ 0
MeansNone ask g = Unit {0}

-- a request is that of an ask: the cut or the name that was asked
abbrev pub AsksFor : Ask → Body → Type 0
AsksFor (asks.Cut f p) (bodies.Cut ino g q) = (f.ino ≡ ino) × (p ≡ q)
AsksFor (asks.Name s ask) (bodies.Name op) = (g : GrantNo) × (op ≡ name_op ask g) × MeansNone ask g
AsksFor ask body = ⊥

-- at one of these steps, after a client's ask, the names of the server did what a request of the ask asks and said this
pub record IsNameSaid (past : List Step) (c : ClientId) (op : ℕ) (s : ServerId) (ask : NameAsk) (answer : AppAnswer) : Type 0 where
  pub at : Step
  pub among : Has at past
  pub after : is_after_ask c op at ≡ true
  pub old : ServerNode
  pub was : node_of at.before.world s ≡ Some old
  pub new : ServerNode
  pub became : node_of at.after.world s ≡ Some new
  pub g : GrantNo
  pub none : MeansNone ask g
  pub did : does old.state.stable.names (name_op ask g) ≡ said new.state.stable.names answer

-- of an ask for a name
abbrev pub NameSaid : List Step → ClientId → ℕ → AppAnswer → Ask → Type 0
NameSaid past c op answer (asks.Name s ask) = IsNameSaid past c op s ask answer
NameSaid past c op answer ask = ⊥

-- what is answered to an ask was done: a cut, or what names said
abbrev pub IsDone : List Step → ClientId → ℕ → Ask → AppAnswer → Type 0
IsDone past c op ask answers.Cut = was_cut past c op (Some ask) ≡ true
IsDone past c op ask answer = NameSaid past c op answer ask

-- an operation whose request is the outstanding one waits for its reply
abbrev pub WaitsAt : (ServerId → ℕ → ℕ → ℕ → ℕ → Type 0) → ServerId → ℕ → ℕ → Option Request → Operation → Type 0
WaitsAt E s life epoch None o = ⊥
WaitsAt E s life epoch (Some q) o = AsksFor o.ask q.body × E s life epoch q.number o.op

-- in a session
abbrev pub Waits : (ServerId → ℕ → ℕ → ℕ → ℕ → Type 0) → ServerId → ℕ → Option (ℕ × Requests) → Operation → Type 0
Waits E s life None o = ⊥
Waits E s life (Some v) o = WaitsAt E s life v.0 v.1.asked o

-- each operation that was sent waits for the reply to the outstanding request, which is its own
abbrev pub AllWait : (ServerId → ℕ → ℕ → ℕ → ℕ → Type 0) → ServerId → ℕ → Option (ℕ × Requests) → List Operation → Type 0
AllWait E s life v ops = (o : Operation) → Has o ops → is_asked s o ≡ true → Waits E s life v o

-- one operation at most waits for a reply of a server
abbrev pub OneWaits : ServerId → List Operation → Type 0
OneWaits s ops = (o p : Operation) → Has o ops → Has p ops → is_asked s o ≡ true → is_asked s p ≡ true → o.op ≡ p.op

-- what a client was asked in these steps
abbrev pub asks_of : List Step → ClientId → List Ask
asks_of past c = filter_map (ask_in c) (map event_of past)

-- what holds of what a running client has of a server
pub record AssociationOk (past : List Step) (ms : List Message) (c : ClientId) (ops : List Operation) (a : Association) : Type 0 where
  pub numbers : Numbers (λ m. Has m ms) c a.server a.life.0 (view a.session)
  pub waits : AllWait (Early past c) a.server a.life.0 (view a.session) ops
  pub alone : OneWaits a.server ops

-- what holds of a client
pub record ClientOk (past : List Step) (ms : List Message) (c : ClientId) (site : WorldClient) : Type 0 where
  pub count : length (asks_of past c) ≡ site.asks
  pub asked : (o : Operation) → Has o site.node.state.operations → numbered (asks_of past c) o.op ≡ Some o.ask
  pub lives : (a : Association) → Has a site.node.state.associations → (m : Message) → Has m ms → Between c a.server m → m.header.life ≤ a.life.0
  pub one : (a : Association) → Has a site.node.state.associations → OneBody (λ m. Has m ms) c a.server
  pub all : site.node.running ≡ true → (a : Association) → Has a site.node.state.associations → AssociationOk past ms c site.node.state.operations a

-- The servers.

-- a fact of the reply that is kept, if it is one of these, and of its number
abbrev pub KeptBy : (Body → Bool) → (ℕ → Body → Type 0) → SessionState → Type 0
KeptBy Q A (states.Live last (Some body)) = Q body ≡ true → A last body
KeptBy Q A state = Unit {0}

-- a kept report is of a request that was sent, and what it asks was done
abbrev pub KeptState : (ℕ → Body → Type 0) → SessionState → Type 0
KeptState A state = KeptBy is_report A state

-- what holds of a server
pub record ServerOk (past : List Step) (ms : List Message) (s : ServerId) (node : ServerNode) : Type 0 where
  pub id : node.state.id ≡ s
  pub kept : (c : ClientId) (x : Session) → session_of node.state.sessions c ≡ Some x →
      KeptState (Acked past ms c s x.life.0 node.state.stable.epoch.0) x.state

-- After every event: each report is of a request that was sent, and what it asks was done as it says; and so is each that is kept.
pub record CutsHold (past : List Step) (t : Traced) : Type 0 where
  pub fates : FatesHold t.world
  pub grown : (x : Step) → Has x past → (m : Message) → Has m (messages x.before.world) → Has m (messages t.world)
  pub acks : (m : Message) → Has m (messages t.world) → is_report m.body ≡ true → (s : ServerId) → m.header.from ≡ server_node s →
      Acked past (messages t.world) (client m.header.to) s m.header.life m.header.epoch m.header.number m.body
  pub clients : (c : ClientId) (site : WorldClient) → site_of t.world c ≡ Some site → ClientOk past (messages t.world) c site
  pub servers : (s : ServerId) (node : ServerNode) → node_of t.world s ≡ Some node → ServerOk past (messages t.world) s node
  pub few : length t.world.clients ≤ 16
