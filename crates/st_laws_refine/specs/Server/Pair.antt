-- A client and a server of the world, as an association; the network of the two.
use Rattle.std.specs.Prelude.{◌≡◌, ℕ, ◌+◌, ◌*◌, ◌<◌, ◌≤◌, pred, length, get_or, slice_index, Bool, true, false, List, [], Option, Some, None}
use Rattle.st_base.specs.declared.config.Config.{Config}
use Rattle.st_base.specs.declared.ids.Stamp.{Stamp}
use Rattle.st_base.specs.declared.ids.NodeId.TheVariants as nodes
use Rattle.st_base.specs.Nodes.{SERVER_BASE}
use Rattle.st_messages.specs.declared.message.Message.{Message}
use Rattle.st_rules.specs.declared.world.SentMessage.{SentMessage}
use Rattle.st_rules.specs.declared.world.LeaseLife.{LeaseLife}
use Rattle.st_rules.specs.Keys.{client}
use Rattle.st_rules.specs.Leases.{steal_wait}
use Rattle.st_rules.specs.ClientPages.{empty_store}
use Rattle.st_rules.specs.ClientState.{Association}
use Rattle.st_rules.specs.Client.{association_with}
use Rattle.st_rules.specs.History.{LeaseDate}
use Rattle.st_rules.specs.World.{World, WorldClient, site_of, node_of, clock_of, server}
use Rattle.st_rules.specs.Server.{ServerNode, is_client_node}
use Rattle.st_protocol.specs.Assoc as net
use Rattle.st_protocol.specs.Assoc.{Msg, msg, In, Assoc}
use Rattle.st_laws_refine.specs.Views.Messages.{Shown, Received}
use Rattle.st_laws_refine.specs.Views.Halves.{client_at, half_of, Ghost}
use Rattle.st_lemmas.specs.Lists.{Has}
use Rattle.st_laws_refine.specs.Server.View.{StandsAt}

-- a client that stopped has the next life already
abbrev pub life_now : Bool → Association → ℕ
life_now true a = a.life.0
life_now false a = a.life.0 + 1

-- the client's half, if it has an association
abbrev pub client_view : Bool → (ℕ → ℕ) → Stamp → Option Association → net.Client
client_view running ended now None = client_at now.0 1 None empty_store ended
client_view running ended now (Some a) = client_at now.0 (life_now running a) a.session a.store ended

-- a reading, or 0
abbrev pub stamp_number : Option Stamp → ℕ
stamp_number None = 0
stamp_number (Some t) = t.0

-- a number that isn't a client has no lease, and a clock that never lags the server's
abbrev pub idle_client : World → ℕ → net.Client
idle_client w s = client_at (w.config.den * (clock_of w (nodes.Server (server s))).0) 1 None empty_store (λ l. 0)

-- a client of the world, if there is one
abbrev pub client_at_site : World → ℕ → ℕ → (ℕ → ℕ) → Option WorldClient → net.Client
client_at_site w c s ended None = idle_client w s
client_at_site w c s ended (Some site) =
    client_view site.node.running ended (clock_of w (nodes.Client (client c))) (association_with site.node.state (server s))

-- a client of the world, with the ends of its lives that are over
abbrev pub client_in : World → ℕ → ℕ → (ℕ → ℕ) → net.Client
client_in w c s ended = client_at_site w c s ended (site_of w (client c))

-- each life that is over had no later end
abbrev pub EndedBy : ℕ → ℕ → (ℕ → ℕ) → List LeaseLife → Type 0
EndedBy c s ended es = (e : LeaseLife) → Has e es → e.client.0 ≡ c → e.server.0 ≡ s → stamp_number e.end ≤ ended e.life.0

-- a message between the two
pub record Wire (c s : ℕ) (m : Message) (N : List Msg) : Type 0 where
  pub to_client : m.header.from ≡ SERVER_BASE + s → m.header.to ≡ c → Shown m N
  pub to_server : m.header.to ≡ SERVER_BASE + s → is_client_node m.header.from ≡ true → m.header.from ≡ c → Received m.header m.body N

-- all messages between the two
abbrev pub Wires : ℕ → ℕ → List SentMessage → List Msg → Type 0
Wires c s ms N = (m : SentMessage) → Has m ms → Wire c s m.message N

-- the association of a client and a server of the world
abbrev pub pair : ℕ → ℕ → (ℕ → ℕ) → World → ServerNode → Ghost → Assoc
pair c s ended w node x =
    record { c = client_in w c s ended; s = half_of (client c) (clock_of w (nodes.Server (server s))) node.running node.state x; net = x.net }

-- what holds between events of a client and a server, whether the server runs or not
pub record Served (wait c s : ℕ) (w : World) (node : ServerNode) (x : Ghost) : Type 0 where
  pub found : node_of w (server s) ≡ Some node
  pub id : node.state.id.0 ≡ s
  pub terms : steal_wait node.state.config ≡ wait
  pub stands : StandsAt c wait (clock_of w (nodes.Server (server s))) node.running node.state x
  pub wires : Wires c s w.net.messages x.net

-- a lease that was dated has the date of a reply of its life and epoch
pub record DateShown (lease : ℕ) (d : LeaseDate) (N : List Msg) : Type 0 where
  pub stamp : ℕ
  pub body : net.Body
  pub dates : net.renews body ≡ true
  pub is : In (msg d.life.0 d.epoch.0 stamp body) N
  pub ends : d.end.0 ≡ stamp + lease

-- each lease that was dated belongs to a client of the world
abbrev pub DatesKnown : World → List LeaseDate → Type 0
DatesKnown w ds = (d : LeaseDate) → Has d ds → (site : WorldClient) × (site_of w d.client ≡ Some site)

-- so has each lease that the client ever had at the server
abbrev pub DatesShown : ℕ → ℕ → ℕ → List LeaseDate → List Msg → Type 0
DatesShown lease c s ds N = (d : LeaseDate) → Has d ds → d.client.0 ≡ c → d.server.0 ≡ s → DateShown lease d N

-- the settings of the machine, from those of the world
abbrev pub terms_of : Config → net.Config
terms_of kb = record { lease = kb.lease; num = kb.num; den = kb.den; wait = steal_wait kb; grain = kb.grain }

-- by how much the clock of server s ran ahead of the clock of client c, over the last advances
abbrev pub drift_between : World → ℕ → ℕ → ℕ
drift_between w c s = slice_index (get_or w.drift (pred (length w.clients + s)) []) (pred c)

-- What holds of the clocks: the settings are the world's; each pair of nodes has its number of drift, and each node its clock; the drift that the machine has
-- of a client is the world's number.
pub record Timed (k : net.Config) (s : ℕ) (w : World) (G : ℕ → Ghost) : Type 0 where
  pub terms : k ≡ terms_of w.config
  pub tall : length w.drift ≡ length w.clocks
  pub wide : (m : ℕ) → m < length w.clocks → length (get_or w.drift m []) ≡ length w.clocks
  pub count : length w.clocks ≡ length w.clients + length w.servers
  pub known : (c : ℕ) (site : WorldClient) → site_of w (client c) ≡ Some site → (G c).drift ≡ drift_between w c s
  pub idle : (c : ℕ) → site_of w (client c) ≡ None → (G c).drift ≡ 0
