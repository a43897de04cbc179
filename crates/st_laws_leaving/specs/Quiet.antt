-- In a run of the third form: what a server has of a client that asked for nothing in its session.
use Rattle.std.specs.Prelude.{◌≡◌, ◌≤◌, ◌+◌, ℕ, true, List, [], Some}
use Rattle.st_base.specs.declared.config.Config.{Config}
use Rattle.st_base.specs.declared.ids.ClientId.{ClientId}
use Rattle.st_base.specs.declared.ids.ServerId.{ServerId}
use Rattle.st_messages.specs.declared.message.Body.TheVariants as bodies
use Rattle.st_messages.specs.declared.message.Message.{Message}
use Rattle.st_rules.specs.declared.sessions.Session.{Session}
use Rattle.st_rules.specs.declared.world.SentMessage.{SentMessage}
use Rattle.st_rules.specs.ClientState.{Association, ClientSession}
use Rattle.st_rules.specs.Keys.{server_node}
use Rattle.st_rules.specs.Server.{ServerNode}
use Rattle.st_rules.specs.Sessions.{session_of}
use Rattle.st_rules.specs.World.{World, WorldClient, node_of, numbered, site_of}
use Rattle.st_lemmas.specs.Lists.{Has}
use Rattle.st_third.specs.declared.event.ThirdEvent.{ThirdEvent}
use Rattle.st_third.specs.declared.limits.Limits.{Limits}
use Rattle.st_third.specs.Limits.{IsHead}
use Rattle.st_third.specs.Promises.{ThirdPromise, Throughout}
use Rattle.st_third.specs.Steps.{steps, third_traced}
use Rattle.st_third.specs.World.{third_world}
use Rattle.st_laws_leaving.specs.Going.{Apart, IsNumbered, Unasked}
use Rattle.st_laws_leaving.specs.Serving.{HasNothing, IsCalm, IsHarmless, IsServing}

-- a message that was sent
abbrev pub IsSent : World → Message → Type 0
IsSent w m = (x : SentMessage) × (Has x w.net.messages × (x.message ≡ m))

-- from a client to a server
abbrev pub IsTo : ClientId → ServerId → Message → Type 0
IsTo c s m = (m.header.from ≡ c.0) × (m.header.to ≡ server_node s)

-- The server has nothing of the client. While the server runs, no message of the client to it does harm.
pub record IsQuiet (w : World) (c : ClientId) (s : ServerId) (node : ServerNode) : Type 0 where
  pub nothing : HasNothing node.state c
  pub harmless : node.running ≡ true → (m : Message) → IsSent w m → IsTo c s m → IsHarmless node.state c m

-- The client's life has begun at the server: a session there has it, or a welcome, or the client has a session.
pub data HasBegun (w : World) (c : ClientId) (a : Association) (node : ServerNode) : Type 0 where
  AtServer : (x : Session) → session_of node.state.sessions c ≡ Some x → x.life.0 ≡ a.life.0 → HasBegun w c a node
  OnItsWay : (m : Message) → IsSent w m → m.header.from ≡ server_node a.server → m.header.to ≡ c.0 → m.body ≡ bodies.Welcome →
      m.header.life ≡ a.life.0 → HasBegun w c a node
  AtClient : (u : ClientSession) → a.session ≡ Some u → HasBegun w c a node

-- Between a client and a server: no life is above the client's, and no epoch above the server's. If
-- nothing was asked in the session of a client that runs, only calm messages were sent in its life;
-- and if the life has begun at the server, the server is quiet.
pub record Between (w : World) (c : ClientId) (site : WorldClient) (a : Association) (node : ServerNode) : Type 0 where
  pub lives : (m : Message) → IsSent w m → IsTo c a.server m → m.header.life ≤ a.life.0
  pub epochs : (m : Message) → IsSent w m → IsTo c a.server m → (m.body ≡ bodies.Hello → ⊥) → m.header.epoch ≤ node.state.stable.epoch.0
  pub session : (u : ClientSession) → a.session ≡ Some u → u.epoch.0 ≤ node.state.stable.epoch.0
  pub served : (x : Session) → session_of node.state.sessions c ≡ Some x → x.life.0 ≤ a.life.0
  pub welcomes : (m : Message) → IsSent w m → m.header.from ≡ server_node a.server → m.header.to ≡ c.0 → m.body ≡ bodies.Welcome → m.header.life ≤ a.life.0
  pub calm : site.node.running ≡ true → Unasked a.session → (m : Message) → IsSent w m → IsTo c a.server m → m.header.life ≡ a.life.0 → IsCalm m.body
  pub quiet : site.node.running ≡ true → Unasked a.session → HasBegun w c a node → IsQuiet w c a.server node

-- What holds of a world after each event.
pub record Standing (w : World) : Type 0 where
  pub apart : (n : ℕ) (site : WorldClient) → numbered w.clients n ≡ Some site → Apart site.node.state.associations
  pub requests : (n : ℕ) (site : WorldClient) → numbered w.clients n ≡ Some site → (a : Association) → Has a site.node.state.associations → IsNumbered a.session
  pub ids : (k : ℕ) (node : ServerNode) → numbered w.servers k ≡ Some node → node.state.id.0 ≡ k
  pub serving : (k : ℕ) (node : ServerNode) → numbered w.servers k ≡ Some node → IsServing node.state
  pub epochs : (k : ℕ) (node : ServerNode) → numbered w.servers k ≡ Some node → (m : Message) → IsSent w m → m.header.from ≡ 32768 + k →
      m.header.epoch ≤ node.state.stable.epoch.0
  pub between : (n : ℕ) (site : WorldClient) (a : Association) (node : ServerNode) → numbered w.clients n ≡ Some site → Has a site.node.state.associations →
      numbered w.servers a.server.0 ≡ Some node → Between w (record { 0 = n }) site a node

-- After an event the server of a running client's session in which nothing was asked has neither a row nor a wait nor a timer of the client.
abbrev pub UnaskedHaveNothing : ThirdPromise
UnaskedHaveNothing past x =
    (c : ClientId) (site : WorldClient) (a : Association) (u : ClientSession) (node : ServerNode) → site_of x.after.third.world c ≡ Some site →
    site.node.running ≡ true → Has a site.node.state.associations → a.session ≡ Some u → Unasked (Some u) → node_of x.after.third.world a.server ≡ Some node →
    HasNothing node.state c

-- In every run of the third form
abbrev pub WhoAskedNothingHasNothing : Type 0
WhoAskedNothingHasNothing =
    (k : Config) (m : Limits) (clients servers disks blocks : ℕ) (es : List ThirdEvent) → IsHead k m clients servers disks blocks 3 →
    Throughout UnaskedHaveNothing [] (steps es (third_traced (third_world k m clients servers disks blocks 3)))
