-- The words `node server ID NAME` and `node client ID NAME`, and the node that they start. docs/PROTOCOL.md, "The program".
use Rattle.std.specs.Prelude.{ℕ, ◌-◌, ◌==◌, ◌&&◌, Bool, false, not, nat_le, if◌then◌else◌, List, [], ◌∷◌, length, codes, Option, Some, None, option_map}
use Rattle.std.specs.Str.{bytes_eq}
use Rattle.st_base.specs.declared.config.Config.{Config}
use Rattle.st_base.specs.declared.ids.NodeId.{NodeId}
use Rattle.st_base.specs.declared.ids.NodeId.TheVariants as nodes
use Rattle.st_base.specs.declared.ids.Stamp.{Stamp}
use Rattle.st_messages.specs.Kinds.{between}
use Rattle.st_rules.specs.Client as client
use Rattle.st_rules.specs.Server as server
use Rattle.st_node.specs.declared.node.Node.{Node}
use Rattle.st_node.specs.declared.node.Node.TheVariants.{Server, Client}
use Rattle.st_node.specs.Runs.{Run, node_run}

-- the number of a server in decimal, from 1 to 4
abbrev pub server_number : List ℕ → Option ℕ
server_number (d ∷ []) = if between 49 52 d then Some (d - 48) else None
server_number word = None

-- the number of a client in decimal, from 1 to 16
abbrev pub one_digit : ℕ → Option ℕ
one_digit d = if between 49 57 d then Some (d - 48) else None

abbrev pub two_digits : ℕ → ℕ → Option ℕ
two_digits c d = if (c == 49) && between 48 54 d then Some (d - 38) else None

abbrev pub client_number : List ℕ → Option ℕ
client_number (d ∷ []) = one_digit d
client_number (c ∷ (d ∷ [])) = two_digits c d
client_number word = None

-- the node of a number, if there is one
abbrev pub a_server : ℕ → NodeId
a_server n = nodes.Server (record { 0 = n })

abbrev pub a_client : ℕ → NodeId
a_client n = nodes.Client (record { 0 = n })

abbrev pub numbered_server : List ℕ → Option NodeId
numbered_server word = option_map a_server (server_number word)

abbrev pub numbered_client : List ℕ → Option NodeId
numbered_client word = option_map a_client (client_number word)

abbrev pub numbered_if_client : List ℕ → List ℕ → Option NodeId
numbered_if_client kind word = if bytes_eq kind (codes "client") then numbered_client word else None

-- the node of a kind and a number
abbrev pub numbered : List ℕ → List ℕ → Option NodeId
numbered kind word = if bytes_eq kind (codes "server") then numbered_server word else numbered_if_client kind word

-- a name has 1 to 100 bytes and begins with no `-`
abbrev pub is_name : List ℕ → Bool
is_name [] = false
is_name (b ∷ bs) = not (b == 45) && nat_le (length (b ∷ bs)) 100

-- the words before and after the node are right
abbrev pub is_service : List ℕ → List ℕ → Bool
is_service first name = bytes_eq first (codes "node") && is_name name

-- the node that the words start, if they are these words
abbrev pub node_of : List (List ℕ) → Option NodeId
node_of (first ∷ (kind ∷ (id ∷ (name ∷ [])))) = if is_service first name then numbered kind id else None
node_of words = None

-- the name among them
abbrev pub name_in : List (List ℕ) → List ℕ
name_in (first ∷ (kind ∷ (id ∷ (name ∷ [])))) = name
name_in words = []

-- the settings of a node, in milliseconds
abbrev pub node_config : Config
node_config = record { lease = 10000; renew = 5000; quiesce = 7000; flush = 8500; demand = 1000; retry = 500; num = 101; den = 100; grain = 1 }

-- the node of these words, before its first frame: of 4 servers, with 4 disks of 4,096 blocks
unfoldable pub started : NodeId → Node
started (nodes.Server s) = Server (server.fresh_node s node_config 4 4 4096)
started (nodes.Client c) = Client (client.fresh_node c node_config 4)

-- its run over a stream
abbrev pub started_run : NodeId → List Stamp → List ℕ → Run
started_run id readings bytes = node_run (started id) readings bytes
