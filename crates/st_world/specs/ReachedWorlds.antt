-- Worlds to which runs lead.
use Rattle.std.specs.Prelude.{◌≡◌, ℕ, ◌+◌, true, List, [], None}
use Rattle.std.specs.List.{list_all}
use Rattle.st_base.specs.declared.config.Config.{Config}
use Rattle.st_messages.specs.declared.event.Event.{Event}
use Rattle.st_rules.specs.Events.{WorldTurn}
use Rattle.st_rules.specs.Run.{run}
use Rattle.st_rules.specs.Safety.{IsHead, is_event}
use Rattle.st_rules.specs.World.{World, fresh_world}

-- the run of these events from the world of this head leads to this world, and refuses none of them
pub record IsReachedBy (k : Config) (clients servers disks blocks form : ℕ) (es : List Event) (w : World) : Type 0 where
  pub head : IsHead k clients servers disks blocks form
  pub events : list_all (is_event (clients + servers)) es ≡ true
  pub world : (run es (fresh_world k clients servers disks blocks form)).world ≡ w
  pub stands : (run es (fresh_world k clients servers disks blocks form)).refused ≡ None

-- a run from the world of a head leads to this world
pub record IsReached (w : World) : Type 0 where
  pub config : Config
  pub clients : ℕ
  pub servers : ℕ
  pub disks : ℕ
  pub blocks : ℕ
  pub form : ℕ
  pub events : List Event
  pub by : IsReachedBy config clients servers disks blocks form events w

-- a world to which a run leads, with nothing observed since
pub record IsQuiet (sc : WorldTurn) : Type 0 where
  pub none : sc.seen ≡ []
  pub reached : IsReached sc.world
