-- The increments of a run's clocks, and the law that they are in bound.
use Rattle.std.specs.Prelude.{◌≡◌, ℕ, ◌+◌, true, List, [], ◌∷◌, length, take}
use Rattle.std.specs.List.{flat_map, list_all}
use Rattle.st_base.specs.declared.config.Config.{Config}
use Rattle.st_messages.specs.declared.event.Event.{Event}
use Rattle.st_messages.specs.declared.event.Event.TheVariants as events
use Rattle.st_rules.specs.Leases.{IsInBound, drift_after, no_drift}
use Rattle.st_rules.specs.Run.{run}
use Rattle.st_rules.specs.Safety.{IsHead, is_event}
use Rattle.st_rules.specs.World.{World, fresh_world}

-- the increments of an event, one per node: an advance has them
abbrev pub increments_of : Event → List (List ℕ)
increments_of (events.Advance steps) = steps ∷ []
increments_of e = []

-- the increments of a run: those of the events that happened, up to the first that is refused
abbrev pub increments : List Event → World → List (List ℕ)
increments es w = flat_map increments_of (take (length (run es w).seen) es)

-- the numbers of drift after these advances
unfoldable pub drift_after_all : Config → List (List ℕ) → List (List ℕ) → List (List ℕ)
drift_after_all k drift [] = drift
drift_after_all k drift (steps ∷ rest) = drift_after_all k (drift_after drift steps k.num k.den) rest

-- a run's increments are in bound; under the second form the world's numbers of drift are those of the increments
pub record ClocksAreInBound (k : Config) (nodes form : ℕ) (es : List Event) (w : World) : Type 0 where
  pub in_bound : IsInBound k nodes (increments es w)
  pub witness : form ≡ 2 → (run es w).world.drift ≡ drift_after_all k (no_drift nodes) (increments es w)

-- so are those of every run from the world of a head, over events in their ranges
abbrev pub EveryRunIsInBound : Type 0
EveryRunIsInBound =
    (k : Config) (clients servers disks blocks form : ℕ) (es : List Event) → IsHead k clients servers disks blocks form →
    list_all (is_event (clients + servers)) es ≡ true → ClocksAreInBound k (clients + servers) form es (fresh_world k clients servers disks blocks form)
