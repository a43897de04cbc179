-- The open asks of a client are its pending operations.
use Rattle.std.specs.Prelude.{◌≡◌, ℕ, List, [], ◌==◌, length, filter, map, Option, Some, None}
use Rattle.st_base.specs.declared.ids.ClientId.{ClientId}
use Rattle.st_messages.specs.declared.ask.Ask.{Ask}
use Rattle.st_rules.specs.declared.client.Operation.{Operation}
use Rattle.st_rules.specs.Safety.{Promise}
use Rattle.st_rules.specs.World.{World, WorldClient, site_of}
use Rattle.st_laws_volume.specs.Options.{OnSome}
use Rattle.st_laws_volume.specs.Witness.{led_by, led_to}
use Rattle.st_volume.specs.Volume.{Volume, Pending, open_of}

-- A client's asks: how many it had, and those that are open, by their numbers and in their order.
pub record AsksOf : Type 0 where
  pub count : ℕ
  pub pending : List (ℕ × Ask)

-- in the volume
abbrev pub ask_key : Pending → ℕ × Ask
ask_key a = (a.op, a.ask)

abbrev pub in_volume : Volume → ClientId → AsksOf
in_volume v c =
    record {
      count = length (filter (λ x. x.0.0 == c.0) v.asked);
      pending = map ask_key (open_of v c);
    }

-- in the world: of a client that is there
abbrev pub operation_key : Operation → ℕ × Ask
operation_key o = (o.op, o.ask)

abbrev pub at_site : Option WorldClient → AsksOf
at_site None = record { count = 0; pending = [] }
at_site (Some site) = record { count = site.asks; pending = map operation_key site.node.state.operations }

abbrev pub HasAsksOf : World → Volume → Type 0
HasAsksOf w v = (c : ClientId) → in_volume v c ≡ at_site (site_of w c)

-- The asks agree: after every event, if the volume has taken the steps of all events so far.
abbrev pub AsksAgree : Promise
AsksAgree past x = OnSome (HasAsksOf x.after.world) (led_by (led_to past x) x).volume
