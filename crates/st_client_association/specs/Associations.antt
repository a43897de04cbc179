-- What a client has of a server between steps; what always holds of it, and what a step needs of its counters.
use Rattle.std.specs.Prelude.{◌≡◌, ℕ, ◌<◌, ◌≤◌, ◌^◌, Bool, true, ◌&&◌, nat_lt, List, length, Option, Some, None, Ok, ⊤}
use Rattle.std.specs.List.{list_all}
use Rattle.st_base.specs.Config.{check}
use Rattle.st_base.specs.declared.config.Config.{Config}
use Rattle.st_base.specs.declared.ids.ClientId.{ClientId}
use Rattle.st_base.specs.declared.ids.Life.{Life}
use Rattle.st_base.specs.declared.ids.ServerId.{ServerId}
use Rattle.st_base.specs.Nodes.{HasNode}
use Rattle.st_client_session.specs.Sessions.{ServerSession}
use Rattle.st_messages.specs.declared.output.Output.{Output}
use Rattle.st_rules.specs.ClientInvariants.{is_below}
use Rattle.st_rules.specs.ClientState.{Association, ClientSession, Turn}
use Rattle.st_rules.specs.declared.client.Operation.{Operation}
use Rattle.st_client_store.specs.Stores.{ServerStore}
use Rattle.st_client_association.specs.Turns.{IsOf, most_of, parties_of}

-- a client, the settings, and what it has of a server
pub record ClientAssociation : Type 0 where
  pub id : ClientId
  pub config : Config
  pub here : Association

-- What always holds: the settings are checked, and the parts are of one server.
pub record IsAssociation (client : ClientId) (config : Config) (server : ServerId) (life : Life) (session : Option ServerSession) (store : ServerStore) : Type 0 where
  pub checked : check config ≡ Ok tt
  pub node : HasNode server
  pub parties : IsOf (parties_of client server life config) session
  pub stored : store.server ≡ server

-- the next number of the session's requests is below this
abbrev pub RequestsBelow : ℕ → Option ClientSession → Type 0
RequestsBelow most None = ⊤
RequestsBelow most (Some s) = s.requests.next < most

-- a number is left for one more request
abbrev pub may_ask : Option ClientSession → Bool
may_ask None = true
may_ask (Some s) = nat_lt s.requests.next (2 ^ 62)

-- no counter of the association is at its end
abbrev pub has_room_at : Association → Bool
has_room_at a = nat_lt a.store.pages.next_version (2 ^ 62) && (nat_lt a.life.0 (2 ^ 62) && may_ask a.session)

-- Numbers of commands were given, and no counter is at its end.
pub record IsCounted (a : Association) (next : ℕ) (out : List Output) : Type 0 where
  pub given : list_all (is_below next) a.store.commands ≡ true
  pub commands : next < most_of out
  pub versions : a.store.pages.next_version < most_of out
  pub lives : a.life.0 < most_of out
  pub requests : RequestsBelow (most_of out) a.session

-- what a step leaves, and the pending operations, the next command's number and the outputs
abbrev pub left_as : ClientAssociation → List Operation → ℕ → List Output → Turn
left_as a operations next out = record { id = a.id; config = a.config; here = a.here; operations = operations; next_command = next; out = out }

-- numbers of commands only rise, and outputs only become more
abbrev pub Grows : Turn → Turn → Type 0
Grows t u = (t.next_command ≤ u.next_command) × (length t.out ≤ length u.out)
