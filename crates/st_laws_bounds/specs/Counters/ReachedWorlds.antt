-- A world that a run reaches: over events in their ranges, from the world of a head, with no refusal.
use Rattle.std.specs.Prelude.{◌≡◌, ◌+◌, ℕ, true, List, None}
use Rattle.std.specs.List.{list_all}
use Rattle.st_base.specs.declared.config.Config.{Config}
use Rattle.st_messages.specs.declared.event.Event.{Event}
use Rattle.st_rules.specs.Run.{run}
use Rattle.st_rules.specs.Safety.{IsHead, is_event}
use Rattle.st_rules.specs.World.{World, fresh_world}

-- these events lead from the world of this head to this one, and none of them is refused
pub record IsReachedBy (k : Config) (clients servers disks blocks form : ℕ) (es : List Event) (w : World) : Type 0 where
  pub head : IsHead k clients servers disks blocks form
  pub events : list_all (is_event (clients + servers)) es ≡ true
  pub world : (run es (fresh_world k clients servers disks blocks form)).world ≡ w
  pub stands : (run es (fresh_world k clients servers disks blocks form)).refused ≡ None

-- a fact of every world that a run reaches
abbrev pub InEveryReached : (World → Type 0) → Type 0
InEveryReached fact =
    (k : Config) (clients servers disks blocks form : ℕ) (es : List Event) (w : World) → IsReachedBy k clients servers disks blocks form es w → fact w
