-- A client's machine: what it has of each server, and what always holds of it.
use Rattle.std.specs.Prelude.{◌≡◌, ℕ, ◌<◌, Bool, true, List, [], ◌∷◌, insert, length, map, remove, slice_get, swap_remove, ◌+◌, ⊤}
use Rattle.std.specs.Option.{option_map_or}
use Rattle.st_client_association.specs.Associations.{ClientAssociation, Grows, IsCounted}
use Rattle.st_client_association.specs.Turns.{most_of}
use Rattle.st_base.specs.declared.config.Config.{Config}
use Rattle.st_base.specs.declared.ids.ClientId.{ClientId}
use Rattle.st_messages.specs.declared.output.Output.{Output}
use Rattle.st_rules.specs.ClientState.{Association, ClientState, ClientTurn, Turn, client_turn, enter, with_associations}
use Rattle.st_client.specs.declared.parts.ClientParts.{ClientParts}

-- the definitions' association
abbrev pub here_of : ClientAssociation → Association
here_of a = a.here

-- An association of this client, with these settings: its commands and counters are as a step needs.
pub record IsIn (client : ClientId) (settings : Config) (next : ℕ) (out : List Output) (a : ClientAssociation) : Type 0 where
  pub id : a.id ≡ client
  pub config : a.config ≡ settings
  pub counted : IsCounted a.here next out

-- so are all of these
abbrev pub AreIn : ClientId → Config → ℕ → List Output → List ClientAssociation → Type 0
AreIn id config next out [] = ⊤
AreIn id config next out (a ∷ more) = IsIn id config next out a × AreIn id config next out more

-- What always holds of a machine.
pub record IsMachine (id : ClientId) (config : Config) (next : ℕ) (out : List Output) (associations : List ClientAssociation) : Type 0 where
  pub commands : next < most_of out
  pub each : AreIn id config next out associations

-- so is a machine of these parts
abbrev pub IsMachineOf : ClientParts → Type 0
IsMachineOf p = IsMachine p.id p.config p.next_command p.out.items p.associations.items

-- the client of these parts
abbrev pub client_of : ClientParts → ClientState
client_of p = record { id = p.id; config = p.config; associations = map here_of p.associations.items; operations = p.operations; next_command = p.next_command }

-- and its turn
abbrev pub turn_of : ClientParts → ClientTurn
turn_of p = client_turn (client_of p) p.out.items

-- an association that a rule left comes to a place among the others
abbrev pub leave_at : ℕ → ClientTurn → Turn → ClientTurn
leave_at i t r =
    record {
      state = record t.state { associations = insert t.state.associations i r.here; operations = r.operations; next_command = r.next_command };
      out = r.out;
    }

-- without the association at a place
abbrev pub without_at : ℕ → ClientTurn → ClientTurn
without_at i t = with_associations (remove t.state.associations i) t

-- the rule at the association at a place, which stays there
abbrev pub at_place : (Turn → Turn) → ℕ → ClientTurn → ClientTurn
at_place rule i t = option_map_or (λ a. leave_at i (without_at i t) (rule (enter t a))) (slice_get t.state.associations i) t

-- the association at a place, if there is one, passes the test
abbrev pub is_ready_at : (Association → Bool) → ℕ → List Association → Bool
is_ready_at test i associations = option_map_or test (slice_get associations i) true

-- For each list from which the one at this place was taken out and the last one moved there: the new list is that one, with this association at the place.
abbrev pub IsBack : ℕ → List ClientAssociation → List ClientAssociation → ClientAssociation → Type 0
IsBack i old new a =
    (xs : List ClientAssociation) (b : ClientAssociation) → i < length xs → length old + 1 ≡ length xs → old ≡ swap_remove xs i b → new ≡ insert (remove xs i) i a

-- a rule at one server stays one of the same client, with the same settings
abbrev pub Stays : Turn → Turn → Type 0
Stays t u = (u.id ≡ t.id) × (u.config ≡ t.config)

-- and at the same server, and numbers of commands and outputs only grow
abbrev pub Advances : Turn → Turn → Type 0
Advances t u = Grows t u × Stays t u × (u.here.server ≡ t.here.server)
