-- The steps of a run of any form, and each of them as the promises of the first two forms see it.
use Rattle.std.specs.Prelude.{Bool, false, ◌&&◌, if◌then◌else◌, List, [], ◌∷◌, filter_map, Option, Some, None, Result, Ok, Err, ⊤}
use Rattle.std.specs.List.{list_any}
use Rattle.st_base.specs.declared.ids.ClientId.{ClientId}
use Rattle.st_base.specs.declared.ids.FileId.{FileId}
use Rattle.st_base.specs.declared.ids.ServerId.{ServerId}
use Rattle.st_messages.specs.declared.ask.Ask.TheVariants as asks
use Rattle.st_messages.specs.declared.answer.AppAnswer.TheVariants as answers
use Rattle.st_messages.specs.declared.event.Event.{Event}
use Rattle.st_messages.specs.declared.event.Event.TheVariants as events
use Rattle.st_rules.specs.declared.observation.Observation.{Observation}
use Rattle.st_rules.specs.declared.observation.Observation.TheVariants as plain_seen
use Rattle.st_rules.specs.declared.observation.WorldRefusal.{WorldRefusal}
use Rattle.st_rules.specs.History.{History, Traced, lease_date, no_history, recall, remember, with_date, history_open}
use Rattle.st_rules.specs.Keys.{same_client, same_server}
use Rattle.st_rules.specs.Safety.{Step}
use Rattle.st_rules.specs.World.{World}
use Rattle.st_third.specs.declared.event.ThirdEvent.{ThirdEvent}
use Rattle.st_third.specs.declared.event.ThirdEvent.TheVariants as third
use Rattle.st_third.specs.declared.observation.ThirdObservation.{ThirdObservation}
use Rattle.st_third.specs.declared.observation.ThirdObservation.TheVariants as seen
use Rattle.st_third.specs.Events.{ThirdWorldTurn, world_step, third_events_open}
use Rattle.st_third.specs.World.{ThirdWorld}

-- As the promises of the first two forms see it: a leave is the sync of a file that no server has,
-- `left` is `hard`, `unsynced` is `quiesced`, and the end of a life that left isn't seen.

-- no file of a server
abbrev pub no_file : ServerId → FileId
no_file s = record { server = s; ino = 0 }

-- the event
abbrev pub plain_event : ThirdEvent → Event
plain_event (third.Plain e) = e
plain_event (third.Leave c s) = events.App c (asks.Sync (no_file s))

-- an observation
abbrev pub plain_observation : ThirdObservation → Option Observation
plain_observation (seen.Plain o) = Some o
plain_observation (seen.Left c op) = Some (plain_seen.Answered c op answers.Hard)
plain_observation (seen.Unsynced c op ino) = Some (plain_seen.Answered c op answers.Quiesced)
plain_observation (seen.Ended c s life) = None

-- what was observed
abbrev pub plainly_seen : List ThirdObservation → List Observation
plainly_seen os = filter_map plain_observation os

-- A world of any form beside its history
pub record ThirdTraced : Type 0 where
  pub third : ThirdWorld
  pub history : History

-- before the first event
abbrev pub third_traced : ThirdWorld → ThirdTraced
third_traced w = record { third = w; history = no_history }

-- The history of the first two forms, except for one case: a lease that is dated in the step in
-- which its life ends belongs to that life and to its session's epoch.
abbrev pub ends_here : ClientId → ServerId → ThirdObservation → Bool
ends_here c s (seen.Ended d r life) = same_client d c && same_server r s
ends_here c s o = false

-- the world that has the session of a lease that is dated
unfoldable pub world_dated : World → ThirdWorldTurn → ClientId → ServerId → World
world_dated before sc c s = if list_any (ends_here c s) sc.seen then before else sc.third.world

-- what is observed moves the history
unfoldable pub third_recall : World → ThirdWorldTurn → History → Observation → History
third_recall before sc h (plain_seen.Leased c s end) = with_date (lease_date (world_dated before sc c s) c s end) h
third_recall before sc h o = recall before sc.third.world h o

-- what was observed at an event, in order
unfoldable pub third_recall_all : World → ThirdWorldTurn → List Observation → History → History
third_recall_all before sc [] h = h
third_recall_all before sc (o ∷ os) h = third_recall_all before sc os (third_recall before sc h o)

-- the history after an event
abbrev pub third_history_after : World → ThirdEvent → ThirdWorldTurn → History → History
third_history_after w e sc h = third_recall_all w sc (plainly_seen sc.seen) (remember w (plain_event e) h)

-- the world and the history after an event
abbrev pub traced_after : ThirdEvent → ThirdTraced → ThirdWorldTurn → ThirdTraced
traced_after e t sc = record { third = sc.third; history = third_history_after t.third.world e sc t.history }

-- The steps of a run: the world before an event, the event, what was observed, and the world that
-- it left.
pub record ThirdStep : Type 0 where
  pub before : ThirdTraced
  pub event : ThirdEvent
  pub seen : List ThirdObservation
  pub after : ThirdTraced

-- the step of an event
abbrev pub third_step : ThirdTraced → ThirdEvent → ThirdWorldTurn → ThirdStep
third_step t e sc = record { before = t; event = e; seen = sc.seen; after = traced_after e t sc }

-- the steps from an event on
unfoldable pub steps_on : (ThirdTraced → List ThirdStep) → ThirdTraced → ThirdEvent → Result ThirdWorldTurn WorldRefusal → List ThirdStep
steps_on rest t e (Err r) = []
steps_on rest t e (Ok sc) = third_step t e sc ∷ rest (traced_after e t sc)

-- the steps of a run, up to the first event that is refused
unfoldable pub steps : List ThirdEvent → ThirdTraced → List ThirdStep
steps [] t = []
steps (e ∷ es) t = steps_on (steps es) t e (world_step t.third e)

-- A step as the promises of the first two forms see it
abbrev pub plain_traced : ThirdTraced → Traced
plain_traced t = record { world = t.third.world; history = t.history }

-- A step
abbrev pub plain_step : ThirdStep → Step
plain_step x =
    record {
      before = plain_traced x.before;
      event = plain_event x.event;
      seen = plainly_seen x.seen;
      after = plain_traced x.after;
    }

-- opens all of this file and of those below it
unfoldable pub third_steps_open : ⊤
unfolding third_events_open history_open world_dated third_recall third_recall_all steps_on steps
third_steps_open = tt
