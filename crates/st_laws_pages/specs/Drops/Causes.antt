-- Drops have a cause: what else holds, and what each event needs for it.
use Rattle.std.specs.Prelude.{◌≡◌, ℕ, ◌⊎◌, true, false, ◌&&◌, List, [], ◌∷◌, Option, Some, None}
use Rattle.std.specs.List.{list_any, list_all}
use Rattle.st_base.specs.declared.ids.ClientId.{ClientId}
use Rattle.st_base.specs.declared.ids.NodeId.TheVariants as nodes
use Rattle.st_messages.specs.declared.event.Event.{Event}
use Rattle.st_messages.specs.declared.event.Event.TheVariants as events
use Rattle.st_rules.specs.declared.log.Cause.TheVariants as causes
use Rattle.st_rules.specs.declared.log.Fate.TheVariants as fates
use Rattle.st_rules.specs.declared.log.LogEntry.{LogEntry}
use Rattle.st_rules.specs.declared.log.LogOwner.{LogOwner}
use Rattle.st_rules.specs.declared.world.IssuedCommand.{IssuedCommand}
use Rattle.st_rules.specs.declared.world.LeaseLife.{LeaseLife}
use Rattle.st_rules.specs.FlatLog as log
use Rattle.st_rules.specs.World.{World, WorldClient, site_of, lives_of}
use Rattle.st_rules.specs.Events as ev
use Rattle.st_rules.specs.Events.{last_write, present_life, lives_reached}
use Rattle.st_rules.specs.Safety.{Step, ends_life_of, reports_failure, has_cause}

-- whose a life is, as the cause of a crash looks at it
abbrev pub life_owner : LeaseLife → LogOwner
life_owner e = log.owner e.client e.life (record { server = e.server; ino = 0 }) (record { 0 = 0 })

-- a life that a crash ended has that crash among the steps
abbrev pub CrashesKnown : List Step → List LeaseLife → Type 0
CrashesKnown past [] = Unit {0}
CrashesKnown past (e ∷ es) = record { one : e.crashed ≡ true → list_any (ends_life_of (life_owner e)) past ≡ true; rest : CrashesKnown past es }

-- What holds of a world after steps.
pub record CausesHold (past : List Step) (w : World) : Type 0 where
  pub caused : list_all (has_cause past w) w.log ≡ true
  pub crashes : CrashesKnown past w.ended

-- Owed at a crash of a client: a pending entry of it belongs to its present life, or a crash ended that life before.
abbrev pub CrashOwes : World → List LogEntry → ClientId → Type 0
CrashOwes w [] c = Unit {0}
CrashOwes w (e ∷ es) c =
    record {
      one : log.is_of_client c e.of ≡ true → log.is_pending e.fate ≡ true →
          ((present_life w c e.of.file.server).0 ≡ e.of.life.0) ⊎ (list_any (λ l. l.crashed && ev.is_of_life_over l 0 e.of) w.ended ≡ true);
      rest : CrashOwes w es c;
    }

-- and the associations of a client are of one server each: its present lives are what is looked up
abbrev pub LivesOwe : World → ClientId → List LeaseLife → Type 0
LivesOwe w c [] = Unit {0}
LivesOwe w c (e ∷ es) = record { client : e.client ≡ c; life : (present_life w c e.server).0 ≡ e.life.0; rest : LivesOwe w c es }

-- Owed at an advance: if the end of a life is reached that no crash ended, the last write of each page of which it has a pending entry was reported failed.
-- (It is dirty, its client flushed it in time, and no write is outstanding.)
abbrev pub AdvanceOwes : List Step → List IssuedCommand → LeaseLife → List LogEntry → Type 0
AdvanceOwes past cs l [] = Unit {0}
AdvanceOwes past cs l (e ∷ es) =
    record {
      one : l.crashed ≡ false → ev.is_of_life_over l 0 e.of ≡ true → log.is_pending e.fate ≡ true →
          list_any (reports_failure (last_write cs e.of)) past ≡ true;
      rest : AdvanceOwes past cs l es;
    }

-- the same of all lives whose ends an advance reaches; and a life that a crash ended has that crash among the steps
abbrev pub AdvancesOwe : List Step → World → List LeaseLife → Type 0
AdvancesOwe past w [] = Unit {0}
AdvancesOwe past w (l ∷ ls) = record {
  one : AdvanceOwes past w.commands l w.log;
  known : l.crashed ≡ true →
      list_any (ends_life_of (life_owner l)) past ≡ true;
  rest : AdvancesOwe past w ls;
}

-- Owed if commands are submitted: no entry of their owner failed before.
abbrev pub FailedStay : List IssuedCommand → List IssuedCommand → List LogEntry → Type 0
FailedStay cs ds [] = Unit {0}
FailedStay cs ds (e ∷ es) = record {
  one : (k : ℕ) → e.fate ≡ fates.Gone (causes.Failed k) →
      last_write ds e.of ≡ last_write cs e.of;
  rest : FailedStay cs ds es;
}

-- Owed at an event, for the causes.
abbrev pub CrashSiteOwes : World → ClientId → Option WorldClient → Type 0
CrashSiteOwes w c None = Unit {0}
CrashSiteOwes w c (Some site) = record { pending : CrashOwes w w.log c; lives : LivesOwe w c (lives_of site.node.state) }

-- by the event
abbrev pub CausesOwed : List Step → World → Event → World → Type 0
CausesOwed past w (events.Crash (nodes.Client c)) v = CrashSiteOwes w c (site_of w c)
CausesOwed past w (events.Advance steps) v = AdvancesOwe past w (lives_reached w steps)
CausesOwed past w e v = FailedStay w.commands v.commands w.log

-- The last write of each page of which a life at its end has a pending entry was reported failed.
abbrev pub FlushOwes : List Step → World → List LeaseLife → Type 0
FlushOwes past w [] = Unit {0}
FlushOwes past w (l ∷ ls) = record { one : AdvanceOwes past w.commands l w.log; rest : FlushOwes past w ls }
