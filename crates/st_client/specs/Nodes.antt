-- A node between steps: what always holds of it, and what a crash leaves.
use Rattle.std.specs.Prelude.{◌≡◌, ℕ, ◌≤◌, Bool, true, false, if◌then◌else◌, nat_lt, nat_le, ◌^◌, List, [], ◌∷◌, ◌++◌, length, map, Option, Some, None, is_some, Ok, ⊤}
use Rattle.std.specs.List.{list_all}
use Rattle.st_client_association.specs.Associations.{ClientAssociation}
use Rattle.st_base.specs.Config.{check}
use Rattle.st_base.specs.declared.config.Config.{Config}
use Rattle.st_base.specs.declared.ids.ClientId.{ClientId}
use Rattle.st_base.specs.declared.ids.Life.{Life}
use Rattle.st_base.specs.declared.ids.ServerId.{ServerId}
use Rattle.st_messages.specs.Kinds.{between}
use Rattle.st_rules.specs.declared.world.LeaseLife.{LeaseLife}
use Rattle.st_rules.specs.Client.{ClientNode, association_of, fresh_association, life_of_association}
use Rattle.st_rules.specs.ClientInvariants.{is_below}
use Rattle.st_rules.specs.ClientState.{Association, ClientState}
use Rattle.st_rules.specs.Extents.{numbers}
use Rattle.st_rules.specs.Keys.{same_server}
use Rattle.st_client.specs.declared.parts.ClientParts.{ClientParts}
use Rattle.st_client.specs.Invariants.{IsSound}

-- An association of this client, with these settings: the numbers of its commands were given.
pub record IsGiven (client : ClientId) (settings : Config) (next : ℕ) (a : ClientAssociation) : Type 0 where
  pub id : a.id ≡ client
  pub config : a.config ≡ settings
  pub given : list_all (is_below next) a.here.store.commands ≡ true

-- so are all of these
abbrev pub AreGiven : ClientId → Config → ℕ → List ClientAssociation → Type 0
AreGiven id config next [] = ⊤
AreGiven id config next (a ∷ more) = IsGiven id config next a × AreGiven id config next more

-- What always holds of a client between its steps: it has no output.
pub record IsResting (p : ClientParts) : Type 0 where
  pub given : AreGiven p.id p.config p.next_command p.associations.items
  pub empty : p.out.items ≡ []

-- a server of a world
abbrev pub is_server : ServerId → Bool
is_server s = between 1 4 s.0

-- an association of this client, with these settings
abbrev pub association_told : ClientId → Config → Association → ClientAssociation
association_told id config a = record { id = id; config = config; here = a }

-- with more associations
abbrev pub with_more : List Association → ClientState → ClientState
with_more more c = record c { associations = c.associations ++ more }

-- the server of an association
abbrev pub server_at : Association → ServerId
server_at a = a.server

-- a life that may rise
abbrev pub is_low : Life → Bool
is_low l = nat_lt l.0 (2 ^ 62)

-- in these lives at these servers, and nothing else
abbrev pub crashed_at : List ServerId → List Life → List Association
crashed_at [] ls = []
crashed_at (s ∷ ss) [] = []
crashed_at (s ∷ ss) (l ∷ ls) = association_of l s ∷ crashed_at ss ls

-- the servers from 1 to this number
abbrev pub servers_to : ℕ → List ServerId
servers_to n = map server_at (map fresh_association (numbers 1 n))

-- a life that began
abbrev pub is_begun : Life → Bool
is_begun l = nat_le 1 l.0

-- the life at a server
abbrev pub life_in : List ServerId → List Life → ServerId → Life
life_in [] ls server = record { 0 = 0 }
life_in (s ∷ ss) [] server = record { 0 = 0 }
life_in (s ∷ ss) (l ∷ ls) server = if same_server s server then l else life_in ss ls server

-- these lives at these servers, without a lease
abbrev pub crashed_lives : ClientId → List ServerId → List Life → List LeaseLife
crashed_lives c [] ls = []
crashed_lives c (s ∷ ss) [] = []
crashed_lives c (s ∷ ss) (l ∷ ls) = record { client = c; server = s; life = l; end = None; crashed = false } ∷ crashed_lives c ss ls

-- what a crash leaves of a client
abbrev pub crashed_client : ClientId → Config → List ServerId → List Life → ClientState
crashed_client id config servers lives = record { id = id; config = config; associations = crashed_at servers lives; operations = []; next_command = 1 }

-- a node that crashed in these lives, one at each of the servers from 1 on
abbrev pub crashed_node : ClientId → Config → List Life → ClientNode
crashed_node id config lives = record { state = crashed_client id config (servers_to (length lives)) lives; running = false }

-- the state of a node that runs, and of one that does not
abbrev pub state_of : ClientId → Config → List ServerId → List Life → Option ClientState → ClientState
state_of id config servers lives None = crashed_client id config servers lives
state_of id config servers lives (Some c) = c

-- a step keeps the client, its settings and its servers, in order
pub record IsKept (old new : ClientState) : Type 0 where
  pub id : new.id ≡ old.id
  pub config : new.config ≡ old.config
  pub servers : map server_at new.associations ≡ map server_at old.associations

-- a node of this client
abbrev pub node_of : ClientId → Config → List ServerId → List Life → Option ClientState → ClientNode
node_of id config servers lives o = record { state = state_of id config servers lives o; running = is_some o }

-- the state of a node, if it runs
abbrev pub running_state : ClientNode → Option ClientState
running_state n = if n.running then Some n.state else None

-- the client that runs is this one, with these servers, in these lives
pub record IsRunning (client : ClientId) (settings : Config) (ss : List ServerId) (ls : List Life) (c : ClientState) : Type 0 where
  pub id : c.id ≡ client
  pub config : c.config ≡ settings
  pub servers : map server_at c.associations ≡ ss
  pub lives : map life_of_association c.associations ≡ ls

-- if it runs
abbrev pub RunsAs : ClientId → Config → List ServerId → List Life → Option ClientState → Type 0
RunsAs id config servers lives None = ⊤
RunsAs id config servers lives (Some c) = IsRunning id config servers lives c

-- What always holds of a node.
pub record IsNode (id : ClientId) (config : Config) (servers : List ServerId) (lives : List Life) (capacity : ℕ) (state : Option ClientState) : Type 0 where
  pub checked : check config ≡ Ok tt
  pub known : list_all is_server servers ≡ true
  pub count : length lives ≡ length servers
  pub room : length servers ≤ capacity
  pub runs : RunsAs id config servers lives state
  pub sound : IsSound (state_of id config servers lives state)
