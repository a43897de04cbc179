-- In every run, at each answer, each entry of the volume's log has had its line.
use Rattle.st_lemmas.proofs.Words
use Words.{◌≡◌, ℕ, true, List, [], ◌∷◌, ◌++◌, Option, Some, None, Ok, refl, sym, subst, length, Event}
use Words.Events.{WorldTurn, world_step}
use Words.History.{Traced, traced}
use Words.Safety.{Promise, Step, TheReportTellsTheLog, step, steps}
use Words.World.{World, fresh_world}
use Rattle.st_promises.specs.Safe.{EveryRunIsSafe}
use Rattle.st_laws_pages.specs.Asks.Law.{PlacesHold}
use Rattle.st_laws_pages.specs.Disks.Obligations.{FatesHold}
use Rattle.st_laws_pages.proofs.Asks.Law.{places_law}
use Rattle.st_laws_pages.proofs.Asks.World.{asks_of}
use Rattle.st_laws_pages.proofs.Disks.Whole.{fates_law}
use Rattle.st_laws_volume.specs.AnswerKinds.{AnswersFollowLines, IsAfterLines}
use Rattle.st_laws_volume.specs.Asks.{HasAsksOf}
use Rattle.st_laws_volume.specs.Logs.{InEveryRun, IsLogOf}
use Rattle.st_laws_volume.specs.Options.{OnSome}
use Rattle.st_laws_volume.specs.Seen.{of_event}
use Rattle.st_laws_volume.specs.StepKinds.{AtEachStep}
use Rattle.st_laws_volume.specs.Witness.{Witness, of_lines, steps_of}
use Rattle.st_laws_volume.proofs.AnswerLines.{AllFit, event_each, event_fine, lasting_at, none_served, step_of}
use Rattle.st_laws_volume.proofs.AskedAsks.{AreOf, RightHold, right_begins, right_kept}
use Rattle.st_laws_volume.proofs.Asks.{AsksHold, asks_begin, asks_kept}
use Rattle.st_laws_volume.proofs.Carried.{IsGiven, given_in}
use Rattle.st_laws_volume.proofs.ChangeLines.{on_both}
use Rattle.st_laws_volume.proofs.EventAnswers.{AnswersOf, Given, GivesNone, Steps, event_answers, given_in_lines}
use Rattle.st_laws_volume.proofs.Logs.{LogHolds, log_begins, log_kept}
use Rattle.st_laws_volume.proofs.OpenAnswers.{OfAnswers, open_left}
use Rattle.st_laws_volume.proofs.Options.{on_all, on_more}
use Rattle.st_laws_volume.proofs.ReadPages.{throughout_both}
use Rattle.st_laws_volume.proofs.StepAnswers.{Any, any_lasts}
use Rattle.st_laws_volume.proofs.StepKinds.{lines_inside}
use Rattle.st_volume.specs.declared.step.VolumeStep.TheVariants as kinds
use Rattle.st_volume.specs.Volume.{Volume, run}

silent : OfAnswers IsAfterLines
silent (kinds.Answered c op answer) u q = cc
silent it u q = tt

abbrev Plain : Given → Type 0
Plain g = Unit {0}

all_plain : (gs : List Given) → AllFit Plain gs
all_plain [] = tt
all_plain (g ∷ gs) = (tt, all_plain gs)

-- An event.
event_told : (past : List Step) (t : Traced) (e : Event) (sc : WorldTurn) (it : Witness) → world_step t.world e ≡ Ok sc → AsksHold past t it → (v : Volume) →
    IsLogOf t.world.log v → AreOf (asks_of past) v → HasAsksOf t.world v → AnswersOf t.world e sc → AtEachStep IsAfterLines (steps_of it v (step t e sc)) v
event_told past t e sc it f h v log asked agree (GivesNone q) =
    event_each IsAfterLines silent t.world it v sc.seen e (subst (AllFit (λ g. (u : Volume) → IsAfterLines (step_of g) u)) (sym q) tt)
event_told past t e sc it f h v log asked agree (Steps r) =
    event_fine IsAfterLines silent (λ i u. Any u) Plain past (step t e sc) (λ all u g a told i q as_ fits. told) it v
    (none_served it.behind v t.world e r.client r.site r.input r.takes) log.lines asked agree (open_left past t e sc it f h)
    (on_all (AtEachStep (λ i z. Any z) (of_lines t.world sc.seen))
    (λ u. lasting_at Any any_lasts (of_lines t.world sc.seen) u (lines_inside t.world sc.seen) tt) (run (of_event t.world e) v))
    (all_plain (given_in_lines sc.seen))

-- In every run.
ToldToo : List Step → Step → Witness → Type 0
ToldToo past x it = OnSome (λ v. AtEachStep IsAfterLines (steps_of it v x) v) it.volume

record ToldHold (past : List Step) (t : Traced) (it : Witness) : Type 0 where
  asks : AsksHold past t it
  right : RightHold past t it
  log : LogHolds past t it

abbrev Known : Promise
Known past x = TheReportTellsTheLog past x × (FatesHold x.after.world × PlacesHold x.after.world)

told_on : IsGiven Known ToldHold ToldToo
unfolding ToldToo
told_on past t e sc it f g h = (
  on_more (λ v. IsLogOf t.world.log v × (AreOf (asks_of past) v × HasAsksOf t.world v)) (λ v. AtEachStep IsAfterLines (steps_of it v (step t e sc)) v)
      (λ v k. event_told past t e sc it f h.asks v k.0 k.1.0 k.1.1 (event_answers t.world e sc f)) it.volume
      (on_both (IsLogOf t.world.log) (λ v. AreOf (asks_of past) v × HasAsksOf t.world v) it.volume h.log
      (on_both (AreOf (asks_of past)) (HasAsksOf t.world) it.volume h.right h.asks.agree)),
  record {
    asks = asks_kept past t e sc it f g.1 h.asks;
    right = right_kept past t e sc it f tt h.right;
    log = log_kept past t e sc it f g.0 h.log;
  },
)

pub answers_follow_lines : EveryRunIsSafe → InEveryRun AnswersFollowLines
unfolding ToldToo
answers_follow_lines safe k clients servers disks blocks form es head events =
    let t : Traced = traced (fresh_world k clients servers disks blocks form) in
    given_in Known ToldHold ToldToo told_on es t
    (record {
      asks = asks_begin k clients servers disks blocks form;
      right = right_begins k clients servers disks blocks form;
      log = log_begins k clients servers disks blocks form;
    })
    (throughout_both TheReportTellsTheLog (λ past x. FatesHold x.after.world × PlacesHold x.after.world) [] (steps es t)
    (safe k clients servers disks blocks form es head events).told
    (throughout_both (λ past x. FatesHold x.after.world) (λ past x. PlacesHold x.after.world) [] (steps es t)
    (fates_law k clients servers disks blocks form es) (places_law k clients servers disks blocks form es head)))
