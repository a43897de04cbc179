-- Pending operations: what is left if the first one is taken, and the operations after one was sent or is stuck.
use Rattle.std.specs.Prelude.{◌≡◌, ℕ, ◌+◌, if◌then◌else◌, Bool, true, ◌&&◌, ◌||◌, List, [], ◌∷◌, Option, Some, None}
use Rattle.std.specs.List.{list_all}
use Rattle.st_base.specs.declared.ids.ServerId.{ServerId}
use Rattle.st_messages.specs.Ranges.{is_ask}
use Rattle.st_rules.specs.declared.client.Operation.{Operation}
use Rattle.st_rules.specs.declared.client.Stage.TheVariants.{Sent, Stuck}
use Rattle.st_rules.specs.ClientState.{at_stage, is_asked, is_of, is_sync}
use Rattle.st_tables.specs.Orders.{changed_at}

-- the fields of the ask are in their ranges
abbrev pub is_fit : Operation → Bool
is_fit o = is_ask o.ask

-- so are those of all asks
abbrev pub AreFit : List Operation → Type 0
AreFit os = list_all is_fit os ≡ true

-- the operation is a sync
abbrev pub asks_sync : Operation → Bool
asks_sync o = is_sync o.ask

-- an operation that may do something at the server: each of its own, or only its syncs
abbrev pub may_act : ServerId → Bool → Operation → Bool
may_act server all o = (all || asks_sync o) && is_of server o

-- how many operations are syncs
abbrev pub count_syncs : List Operation → ℕ
count_syncs [] = 0
count_syncs (o ∷ os) = (if asks_sync o then 1 else 0) + count_syncs os

-- the fields of all asks are in their ranges, and the number is that of the syncs
abbrev pub AreCounted : List Operation → ℕ → Type 0
AreCounted os syncs = record { fit : AreFit os; count : syncs ≡ count_syncs os }

-- the first one is taken, and the others are left
abbrev pub TakesFirst : {A : Type 0} → List A → Option A → List A → Type 0
TakesFirst old None new = record { none : old ≡ []; left : new ≡ [] }
TakesFirst old (Some x) new = old ≡ x ∷ new

-- the operation of the server's outstanding request is stuck
abbrev pub stuck : ServerId → Operation → Operation
stuck server o = if is_asked server o then at_stage Stuck o else o

-- the request of the operation at a place was sent
abbrev pub marked : ℕ → List Operation → List Operation
marked n os = changed_at (at_stage Sent) n os
