-- What holds between events of a server of the world and all its clients, on both sides of each association.
use Rattle.std.specs.Prelude.{◌≡◌, ◌≢◌, ◌⊎◌, ℕ, ◌<◌, ◌≤◌, ◌+◌, true, false, List, length, Some, None}
use Rattle.st_rules.specs.declared.world.LeaseLife.{LeaseLife}
use Rattle.st_rules.specs.declared.world.SentMessage.{SentMessage}
use Rattle.st_rules.specs.Keys.{client, server_node}
use Rattle.st_rules.specs.ClientPages.{empty_store}
use Rattle.st_rules.specs.ClientState.{Association}
use Rattle.st_rules.specs.Server.{ServerNode, is_client_node}
use Rattle.st_rules.specs.World.{World, WorldClient, node_of, server, site_of}
use Rattle.st_base.specs.declared.ids.ServerId.{ServerId}
use Rattle.st_base.specs.Nodes.{SERVER_BASE}
use Rattle.st_protocol.specs.Assoc.{Config, Msg}
use Rattle.st_lemmas.specs.Lists.{Has}
use Rattle.st_laws_refine.specs.Views.Halves.{Ghost}
use Rattle.st_laws_refine.specs.Views.Messages.{Fine}
use Rattle.st_laws_refine.specs.Client.World.{Sim}
use Rattle.st_laws_refine.specs.Server.Pair.{life_now, EndedBy}
use Rattle.st_laws_refine.specs.Server.Invariants.{Stands}

-- the lives of a client at a server that are over are earlier ones
abbrev pub AllPast : ℕ → ℕ → ℕ → List LeaseLife → Type 0
AllPast c s life es = (e : LeaseLife) → Has e es → e.client.0 ≡ c → e.server.0 ≡ s → e.life.0 < life

-- What holds of a client of the world at a server: its half of the association holds with the messages of the two, the lives that are over are earlier ones,
-- and a client that does not run has nothing there.
pub record Standing (k : Config) (s c : ℕ) (site : WorldClient) (es : List LeaseLife) (N : List Msg) : Type 0 where
  pub association : Association
  pub sim : Sim k (client c) (server s) site association N
  pub past : AllPast c s (life_now site.node.running association) es
  pub stopped : site.node.running ≡ false → (association.session ≡ None) × (association.store ≡ empty_store)

-- What holds of a server and all its clients: the server's side, each client's side, and no life that is over had a later lease end than the machine has of it.
pub record Both (k : Config) (s : ℕ) (w : World) (node : ServerNode) (ended : ℕ → ℕ → ℕ) (G : ℕ → Ghost) : Type 0 where
  pub stands : Stands k s ended w node G
  pub clients : (c : ℕ) (site : WorldClient) → site_of w (client c) ≡ Some site → Standing k s c site w.ended (G c).net
  pub ends : (c : ℕ) → EndedBy c s (ended c) w.ended
  pub few : length w.clients ≤ 16

-- What an event of a client leaves: the servers, the settings, the clocks and how far they drifted; there are as many clients and no fewer
-- bytes; and each message was there before, or is a client's.
pub record Left (w v : World) : Type 0 where
  pub servers : v.servers ≡ w.servers
  pub config : v.config ≡ w.config
  pub clocks : v.clocks ≡ w.clocks
  pub drift : v.drift ≡ w.drift
  pub many : length v.clients ≡ length w.clients
  pub bytes : w.net.bytes ≤ v.net.bytes
  pub messages : (m : SentMessage) → Has m v.net.messages → ((x : SentMessage) × Has x w.net.messages × (x.message ≡ m.message)) ⊎ (m.message.header.from ≤ 16)

-- Everything holds again after an event of a client, with other ends of lives and other ghosts; the drift is what it was.
pub record BothAfter (k : Config) (s : ℕ) (w v : World) (node : ServerNode) (G : ℕ → Ghost) : Type 0 where
  pub ends_of : ℕ → ℕ → ℕ
  pub ghosts : ℕ → Ghost
  pub both : Both k s v node ends_of ghosts
  pub drift : (c : ℕ) → (ghosts c).drift ≡ (G c).drift
  pub left : Left w v

-- What the associations of a server do not see: the clients, the clocks and this server are as they were, and each message was there
-- before, or is neither this server's nor a client's.
pub record Unseen (s : ℕ) (w v : World) : Type 0 where
  pub clients : v.clients ≡ w.clients
  pub clocks : v.clocks ≡ w.clocks
  pub ended : v.ended ≡ w.ended
  pub config : v.config ≡ w.config
  pub found : node_of v (server s) ≡ node_of w (server s)
  pub messages : (m : SentMessage) → Has m v.net.messages →
      ((x : SentMessage) × Has x w.net.messages × (x.message ≡ m.message)) ⊎
      ((m.message.header.from ≢ SERVER_BASE + s) × (is_client_node m.message.header.from ≡ true → ⊥))

-- each grant that any server sent has a mode
abbrev pub GrantsHaveModes : World → Type 0
GrantsHaveModes w = (m : SentMessage) → Has m w.net.messages → (x : ServerId) → m.message.header.from ≡ server_node x → Fine m.message.body
