-- Forms and limits: how much there may be of what, and a state with the limits of its head.
use Rattle.std.specs.Prelude.{ℕ, ◌-◌, Bool, true, ◌&&◌, ◌||◌, ◌==◌, nat_le, if◌then◌else◌, length, map, Ok, ◌≡◌, ⊤}
use Rattle.st_base.specs.declared.ids.NodeId.{NodeId}
use Rattle.st_base.specs.declared.ids.NodeId.TheVariants as nodes
use Rattle.st_base.specs.declared.ids.PageNo.{PageNo}
use Rattle.st_base.specs.declared.config.Config.{Config}
use Rattle.st_base.specs.Config.{check}
use Rattle.st_base.specs.Nodes.{SERVER_BASE}
use Rattle.st_rules.specs.Keys.{client}
use Rattle.st_rules.specs.ClientPages as pages
use Rattle.st_rules.specs.ClientPages.{Pages, Store}
use Rattle.st_rules.specs.ClientState.{Association, ClientSession, ClientState}
use Rattle.st_rules.specs.Server.{ServerNode, ServerState}
use Rattle.st_rules.specs.World.{World, WorldClient, server}
use Rattle.st_third.specs.declared.limits.Limits.{Limits}

-- Forms.

-- the third form, whose clients cooperate
abbrev pub is_third : ℕ → Bool
is_third form = form == 3

-- the limits of the first two forms
abbrev pub first_limits : Limits
first_limits = record { inodes = 4096; locks = 1024; dirty = 64; clean = 256; operations = 16 }

-- how many clients there may be
unfoldable pub most_clients : ℕ → ℕ
most_clients form = if is_third form then 64 else 16

-- how many servers there may be
unfoldable pub most_servers : ℕ → ℕ
most_servers form = if is_third form then 8 else 4

-- how many disks there may be
unfoldable pub most_disks : ℕ → ℕ
most_disks form = if is_third form then 16 else 8

-- how many blocks a disk may have
unfoldable pub most_blocks : ℕ → ℕ
most_blocks form = if is_third form then 268435456 else 4096

-- how many bytes all messages have when the network is full
unfoldable pub most_bytes : ℕ → ℕ
most_bytes form = if is_third form then 4294967296 else 536870912

-- how many events a schedule may have
unfoldable pub most_events : ℕ → ℕ
most_events form = if is_third form then 16777216 else 100000

-- Heads: settings without a fault, and counts and limits in their ranges.

-- a number in a range
abbrev pub is_within : ℕ → ℕ → ℕ → Bool
is_within low high n = nat_le low n && nat_le n high

-- the limits of the third form
abbrev pub are_limits : Limits → Bool
are_limits m =
    is_within 10 16777216 m.inodes
    && (is_within 1 4096 m.locks && (is_within 1 65536 m.dirty && (is_within 2 1048576 m.clean && is_within 1 4096 m.operations)))

-- the same limits
abbrev pub same_limits : Limits → Limits → Bool
same_limits m n =
    (m.inodes == n.inodes)
    && ((m.locks == n.locks) && ((m.dirty == n.dirty) && ((m.clean == n.clean) && (m.operations == n.operations))))

-- the limits of the first two forms
abbrev pub are_first : Limits → Bool
are_first m = same_limits m first_limits

-- the first form has no grain, and only the third has limits of its own
abbrev pub is_form : Config → Limits → ℕ → Bool
is_form k m form =
    ((form == 1) && ((k.grain == 0) && are_first m)) || (((form == 2) && are_first m) || ((form == 3) && are_limits m))

-- The head of a schedule of any form
pub record IsHead (k : Config) (m : Limits) (clients servers disks blocks form : ℕ) : Type 0 where
  pub sound : check k ≡ Ok tt
  pub some_clients : is_within 1 (most_clients form) clients ≡ true
  pub some_servers : is_within 1 (most_servers form) servers ≡ true
  pub enough_disks : is_within servers (most_disks form) disks ≡ true
  pub some_blocks : is_within 1 (most_blocks form) blocks ≡ true
  pub known_form : is_form k m form ≡ true

-- Nodes: the node of a number in a message. The clients' numbers come first.
unfoldable pub node_at : ℕ → ℕ → NodeId
node_at form n = if nat_le n (most_clients form) then nodes.Client (client n) else nodes.Server (server (n - SERVER_BASE))

-- a client's number
abbrev pub is_client_node : ℕ → ℕ → Bool
is_client_node form node = is_within 1 (most_clients form) node

-- Limits in a state. Every state begins with the limits of the first two forms; a node of the third
-- form has those of its head.

-- a server
abbrev pub limited_server : Limits → ServerState → ServerState
limited_server m s =
    record s {
      locks = record s.locks { limit = m.locks };
      stable = record s.stable { names = record s.stable.names { limit = m.inodes } };
    }

-- a server's node
abbrev pub limited_node : Limits → ServerNode → ServerNode
limited_node m n = record n { state = limited_server m n.state }

-- what a client has of a server's disks
abbrev pub limited_store : Limits → Store → Store
limited_store m st = record st { pages = record st.pages { most_clean = m.clean } }

-- an association without a session
abbrev pub limited_association : Limits → Association → Association
limited_association m a = record a { store = limited_store m a.store }

-- a session
abbrev pub limited_session : Limits → ClientSession → ClientSession
limited_session m s = record s { locks = record s.locks { limit = m.locks } }

-- a client without sessions
abbrev pub limited_client : Limits → ClientState → ClientState
limited_client m c = record c { associations = map (limited_association m) c.associations }

-- a client of the world without sessions
abbrev pub limited_site : Limits → WorldClient → WorldClient
limited_site m site = record site { node = record site.node { state = limited_client m site.node.state } }

-- all nodes of a world that begins
abbrev pub limited_world : Limits → World → World
limited_world m w = record w { clients = map (limited_site m) w.clients; servers = map (limited_node m) w.servers }

-- in the third form
unfoldable pub with_limits : Limits → World → World
with_limits m w = if is_third w.form then limited_world m w else w

-- Dirty pages: as many other pages are dirty as may be.
abbrev pub is_dirty_full : ℕ → Pages → ℕ → PageNo → Bool
is_dirty_full limit ps ino p = nat_le limit (length (pages.without_dirty ino p ps.dirty))

-- opens all of this file and of those below it
unfoldable pub limits_open : ⊤
unfolding most_clients most_servers most_disks most_blocks most_bytes most_events node_at with_limits
limits_open = tt
