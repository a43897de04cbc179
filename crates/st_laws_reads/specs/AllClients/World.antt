-- What holds of the copies of all clients of a world, and what other laws owe of a client that takes an input.
use Rattle.std.specs.Prelude.{◌≡◌, ℕ, true, false, List, [], ◌∷◌, Option, Some, Ok}
use Rattle.st_base.specs.declared.ids.NodeId.TheVariants as nodes
use Rattle.st_messages.specs.declared.ask.Ask.{Ask}
use Rattle.st_messages.specs.declared.event.Event.{Event}
use Rattle.st_rules.specs.ClientState.{Association}
use Rattle.st_rules.specs.Events.{WorldTurn, counted, world_step}
use Rattle.st_rules.specs.Keys.{client}
use Rattle.st_rules.specs.World.{World, WorldClient, clock_of, site_of}
use Rattle.st_protocol.specs.Assoc.{Config}
use Rattle.st_laws_leases.specs.Sides.World.{AllStand, There}
use Rattle.st_laws_reads.specs.Copies.Law.{ClientCopies}
use Rattle.st_laws_reads.specs.Copies.Obligations.{Numbered}
use Rattle.st_laws_reads.specs.Copies.World.{ClientRests, OwedOf, Taking, taken}

-- the servers of associations are there
abbrev pub AllThere : World → List Association → Type 0
AllThere w [] = Unit {0}
AllThere w (a ∷ xs) = record { one : There w a.server; rest : AllThere w xs }

-- What holds of a client of the world: its servers are there; its copies hold if it runs; and if it does not, it rests.
pub record SiteHolds (asked_as : ℕ → Option Ask) (w : World) (c : ℕ) (site : WorldClient) : Type 0 where
  pub servers : AllThere w site.node.state.associations
  pub runs : site.node.running ≡ true → ClientCopies asked_as (client c) w.log (clock_of w (nodes.Client (client c))) site.node.state
  pub rests : site.node.running ≡ false → ClientRests (client c) w.log site.node.state

-- For each client. What each one was asked is known by the number of the ask.
abbrev pub CopiesHold : (ℕ → ℕ → Option Ask) → World → Type 0
CopiesHold asks w = (c : ℕ) (site : WorldClient) → site_of w (client c) ≡ Some site → SiteHolds (asks c) w c site

-- What is owed if a client takes an input.
pub record TakingOwed (asks : ℕ → ℕ → Option Ask) (x : Taking) : Type 0 where
  pub numbered : Numbered (asks x.client.0) x.input
  pub owed : OwedOf x

-- An event at which a client takes an input keeps the copies of all clients, if everything holds before it and after it.
abbrev pub TakingsKeepCopies : Type 0
TakingsKeepCopies =
    (asks : ℕ → ℕ → Option Ask) (k : Config) (count : ℕ) (w : World) (e : Event) (sc : WorldTurn) (x : Taking) → AllStand k count w →
    AllStand k count sc.world → world_step w e ≡ Ok sc → taken (counted w) e ≡ Some x → TakingOwed asks x → CopiesHold asks w →
    CopiesHold asks sc.world
