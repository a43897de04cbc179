-- The definitions of every form leave the first two forms as they are: their heads, their runs and
-- their reports.
use Rattle.std.specs.Prelude.{◌≡◌, ℕ, false, List, map}
use Rattle.st_base.specs.declared.config.Config.{Config}
use Rattle.st_messages.specs.declared.event.Event.{Event}
use Rattle.st_rules.specs.History.{traced}
use Rattle.st_rules.specs.Report.{report}
use Rattle.st_rules.specs.Run as plain
use Rattle.st_rules.specs.Run.{Run}
use Rattle.st_rules.specs.Safety as safety
use Rattle.st_rules.specs.World.{fresh_world}
use Rattle.st_third.specs.declared.event.ThirdEvent.{ThirdEvent}
use Rattle.st_third.specs.declared.event.ThirdEvent.TheVariants as third
use Rattle.st_third.specs.declared.limits.Limits.{Limits}
use Rattle.st_third.specs.declared.observation.ThirdObservation.{ThirdObservation}
use Rattle.st_third.specs.Events.{plain_seen}
use Rattle.st_third.specs.Limits.{IsHead, first_limits, is_third}
use Rattle.st_third.specs.Run.{ThirdRun, run, third_report}
use Rattle.st_third.specs.Steps.{plain_step, steps, third_traced}
use Rattle.st_third.specs.World.{third_world}
use Rattle.st_rules.specs.declared.observation.Observation.{Observation}

-- an event of the first two forms, as one of every form
abbrev pub as_third : Event → ThirdEvent
as_third e = third.Plain e

-- what was observed at an event, in the same way
abbrev pub all_as_third : List Observation → List ThirdObservation
all_as_third os = map plain_seen os

-- a run of every form is this run of the first two: the last world, what was observed at each event, the refusal, and the
-- report
pub record IsRun (r : ThirdRun) (p : Run) : Type 0 where
  pub world : r.third.world ≡ p.world
  pub seen : r.seen ≡ map all_as_third p.seen
  pub refused : r.refused ≡ p.refused
  pub report : third_report r ≡ report p

-- the runs of a head of the first two forms
abbrev pub FirstRunsStay : Type 0
FirstRunsStay =
    (k : Config) (clients servers disks blocks form : ℕ) (es : List Event) → is_third form ≡ false →
    IsRun (run (map as_third es) (third_world k first_limits clients servers disks blocks form))
    (plain.run es (fresh_world k clients servers disks blocks form))

-- the steps of these runs, as promises see them
abbrev pub FirstStepsStay : Type 0
FirstStepsStay =
    (k : Config) (clients servers disks blocks form : ℕ) (es : List Event) → is_third form ≡ false →
    map plain_step (steps (map as_third es) (third_traced (third_world k first_limits clients servers disks blocks form)))
    ≡ safety.steps es (traced (fresh_world k clients servers disks blocks form))

-- their heads: those of the first two forms, with the limits of these
abbrev pub FirstHeadsStay : Type 0
FirstHeadsStay =
    (k : Config) (clients servers disks blocks form : ℕ) → is_third form ≡ false →
    (safety.IsHead k clients servers disks blocks form → IsHead k first_limits clients servers disks blocks form)
    × ((m : Limits) → IsHead k m clients servers disks blocks form → safety.IsHead k clients servers disks blocks form × (m ≡ first_limits))
