-- What no event changes.
use Rattle.std.specs.Prelude.{◌≡◌, ◌+◌, ◌*◌, ◌^◌, ℕ, true, List, length}
use Rattle.std.specs.List.{list_all}
use Rattle.st_base.specs.declared.config.Config.{Config}
use Rattle.st_world_parts.specs.Clocks.{is_at_most}
use Rattle.st_messages.specs.declared.event.Event.{Event}
use Rattle.st_messages.specs.declared.event.Event.TheVariants as events
use Rattle.st_rules.specs.World.{World}
use Rattle.st_rules.specs.Events.{advanced}

-- an advance has an increment for each clock and each row of drift
abbrev pub HasSteps : World → Event → Type 0
HasSteps w e = (steps : List ℕ) → e ≡ events.Advance steps → (length steps ≡ length w.clocks) × (length steps ≡ length w.drift)

-- the counts of events, clocks, rows of drift, clients and servers are the same, and so are the settings
pub record SameShape (v w : World) : Type 0 where
  pub events : w.tally.events ≡ v.tally.events
  pub clocks : length w.clocks ≡ length v.clocks
  pub drift : length w.drift ≡ length v.drift
  pub clients : length w.clients ≡ length v.clients
  pub servers : length w.servers ≡ length v.servers
  pub config : w.config ≡ v.config

-- the same, and the clocks are the same
pub record SameTime (v w : World) : Type 0 where
  pub events : w.tally.events ≡ v.tally.events
  pub clocks : w.clocks ≡ v.clocks
  pub drift : w.drift ≡ v.drift
  pub clients : length w.clients ≡ length v.clients
  pub servers : length w.servers ≡ length v.servers
  pub config : w.config ≡ v.config

-- an advance leaves the shape, and moves the clocks; other events leave the clocks
abbrev pub IsAfter : World → World → Event → Type 0
IsAfter v w (events.Advance steps) = SameShape v w × (w.clocks ≡ advanced steps v.clocks)
IsAfter v w e = SameTime v w

-- The shape of a world of a head with these settings and counts: this many nodes, with a clock and a row of drift each; and no clock
-- has gone further than the events so far may have taken it.
pub record IsShaped (k : Config) (clients servers : ℕ) (w : World) : Type 0 where
  pub config : w.config ≡ k
  pub sites : length w.clients ≡ clients
  pub nodes : length w.servers ≡ servers
  pub clocks : length w.clocks ≡ clients + servers
  pub drift : length w.drift ≡ clients + servers
  pub low : list_all (is_at_most (4000 + w.tally.events * 2 ^ 32)) w.clocks ≡ true
