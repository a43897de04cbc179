-- What the messages of a life can no longer ask of a file, and what an event leaves of nodes and messages.
use Rattle.std.specs.Prelude.{◌≡◌, ℕ, ◌≤◌, ◌<◌, true, Some}
use Rattle.std.proofs.Common.{◌≢◌, ◌⊎◌}
use Rattle.st_base.specs.declared.ids.ClientId.{ClientId}
use Rattle.st_base.specs.declared.ids.GrantNo.{GrantNo}
use Rattle.st_base.specs.declared.ids.ServerId.{ServerId}
use Rattle.st_messages.specs.declared.message.Body.{Body}
use Rattle.st_messages.specs.declared.message.Body.TheVariants as bodies
use Rattle.st_messages.specs.declared.message.Message.{Message}
use Rattle.st_messages.specs.declared.message.NameOp.TheVariants as ops
use Rattle.st_rules.specs.ClientState.{Association}
use Rattle.st_rules.specs.Keys.{server_node}
use Rattle.st_rules.specs.Server.{ServerNode}
use Rattle.st_rules.specs.Sessions.{session_of}
use Rattle.st_rules.specs.Safety.{Promise}
use Rattle.st_rules.specs.World.{WorldClient, World, node_of, site_of}
use Rattle.st_lemmas.specs.Lists.{Has}
use Rattle.st_laws_requests.specs.Replies.ServedRequests.{IsBehind}
use Rattle.st_laws_leases.specs.Dates.Dates.{messages}

-- a request that cuts no page of this file: of another file, or a remove under a number that was given on another one
abbrev pub Elsewhere : (ℕ → GrantNo → Type 0) → ℕ → Body → Type 0
Elsewhere G ino (bodies.Cut i g from) = i ≢ ino
Elsewhere G ino (bodies.Name (ops.Remove dir name g)) = (g.0 ≡ 0) ⊎ ((i : ℕ) × G i g × (i ≢ ino))
Elsewhere G ino body = Unit {0}

-- a message that a server no longer serves: of an earlier epoch, or under a number that its session has reached
abbrev pub IsPast : ClientId → ServerNode → Message → Type 0
IsPast c n m =
    (m.header.epoch < n.state.stable.epoch.0) ⊎
    ((m.header.epoch ≡ n.state.stable.epoch.0) × (n.running ≡ true → IsBehind (session_of n.state.sessions c) m.header.life m.header.number))

-- a message that cuts no page of this file: it has no number, is no longer served, or asks something else
pub data Harmless (G : ℕ → GrantNo → Type 0) (w : World) (c : ClientId) (s : ServerId) (ino : ℕ) (m : Message) : Type 0 where
  Unnumbered : m.header.number ≡ 0 → Harmless G w c s ino m
  Past : ((n : ServerNode) → node_of w s ≡ Some n → IsPast c n m) → Harmless G w c s ino m
  Besides : Elsewhere G ino m.body → Harmless G w c s ino m

-- so is each message of a client's life to a server
abbrev pub LifeHarmless : (ℕ → GrantNo → Type 0) → World → ClientId → ServerId → ℕ → ℕ → Type 0
LifeHarmless G w c s life ino =
    (m : Message) → Has m (messages w) → m.header.from ≡ c.0 → m.header.to ≡ server_node s → m.header.life ≡ life → Harmless G w c s ino m

-- a server goes on: its epoch does not fall, and in the same epoch it ran, and its sessions go on
pub record NodeGoes (n p : ServerNode) : Type 0 where
  pub up : n.state.stable.epoch.0 ≤ p.state.stable.epoch.0
  pub on : p.running ≡ true → n.state.stable.epoch.0 ≡ p.state.stable.epoch.0 →
      (n.running ≡ true) × ((c : ClientId) (life number : ℕ) → IsBehind (session_of n.state.sessions c) life number → IsBehind (session_of p.state.sessions c) life number)

-- a message that a client sent, at an association of that life or an earlier one
pub record SentBy (w : World) (m : Message) : Type 0 where
  pub client : ClientId
  pub site : WorldClient
  pub there : site_of w client ≡ Some site
  pub running : site.node.running ≡ true
  pub from : m.header.from ≡ client.0
  pub at : Association
  pub among : Has at site.node.state.associations
  pub to : m.header.to ≡ server_node at.server
  pub life : at.life.0 ≤ m.header.life

-- What an event leaves: each server went on, and each message was there before, or is of a server, or of a client in such a life.
pub record Goes (w v : World) : Type 0 where
  pub nodes : (s : ServerId) (p : ServerNode) → node_of v s ≡ Some p → (n : ServerNode) × (node_of w s ≡ Some n) × NodeGoes n p
  pub messages : (m : Message) → Has m (messages v) → Has m (messages w) ⊎ (((s : ServerId) × (m.header.from ≡ server_node s)) ⊎ SentBy w m)

-- at a step
abbrev pub GoesBetween : Promise
GoesBetween past x = Goes x.before.world x.after.world
