-- In every run the volume takes what becomes of each entry: that it becomes hard, or is dropped with its cause.
use Rattle.st_lemmas.proofs.Words
use Words.{◌≡◌, ℕ, true, false, List, [], ◌++◌, Option, Some, None, Ok, refl, sym, subst, is_some, Event}
use Words.events
use Words.nodes
use Words.Admissible as adm
use Words.Events as ev
use Words.Events.{WorldTurn, counted, happens, world_step}
use Words.Safety.{Promise, Step, step, steps}
use Words.World as world
use Words.World.{World, fresh_world}
use Rattle.st_rules.specs.History.{Traced, traced}
use Rattle.st_lemmas.proofs.Steps.{step_happens}
use Rattle.st_promises.specs.Safe.{EveryRunIsSafe, IsSafeRun}
use Rattle.st_laws_pages.specs.Disks.Obligations.{FatesHold}
use Rattle.st_laws_pages.specs.Disks.Runs.{PagesAfter}
use Rattle.st_laws_pages.proofs.Causes.Events.{counted_both}
use Rattle.st_laws_pages.proofs.Causes.Law.{stand_agrees}
use Rattle.st_laws_pages.proofs.Disks.Steps.{counted_fates}
use Rattle.st_laws_pages.proofs.Disks.Whole.{fates_law}
use Rattle.st_laws_volume.specs.FateMarks.{AreRemembered}
use Rattle.st_laws_volume.specs.Fates.{is_still}
use Rattle.st_laws_volume.specs.Logs.{InEveryRun, IsLogOf}
use Rattle.st_laws_volume.specs.Options.{OnSome}
use Rattle.st_laws_volume.specs.Seen.{of_event}
use Rattle.st_laws_volume.specs.StepKinds.{AreTaken, StepsAreTaken, is_fate}
use Rattle.st_laws_volume.specs.Witness.{Witness, of_delivery, of_lines, steps_of}
use Rattle.st_laws_volume.proofs.Carried.{IsGiven, given_in}
use Rattle.st_laws_volume.proofs.ChangeLines.{on_both}
use Rattle.st_laws_volume.proofs.FailureMarks as failing
use Rattle.st_laws_volume.proofs.FailureMarks.{FailuresHold, FailuresStand, failures_begin, failures_kept}
use Rattle.st_laws_volume.proofs.FateCrashes.{MarksHold, MarksOf, marks_begin, marks_kept}
use Rattle.st_laws_volume.proofs.FateEnds.{advance_lines}
use Rattle.st_laws_volume.proofs.FateLines.{IsTaken}
use Rattle.st_laws_volume.proofs.Fates.{event_taken}
use Rattle.st_laws_volume.proofs.FateSeen.{all_are_taken, both_fateless, delivery_fateless, event_fateless, event_silent, gives_fates, lines_fateless, none_to_take}
use Rattle.st_laws_volume.proofs.Options.{on_more}
use Rattle.st_laws_volume.proofs.ReadPages.{throughout_both}
use Rattle.st_volume.specs.Volume.{Volume}

-- what is wholly taken has a volume after it
taken_some : (o : Option Volume) → IsTaken o → is_some o ≡ true
taken_some None h = absurd h
taken_some (Some v) h = refl

-- All steps of an event.
module _ (past : List Step) (t : Traced) (e : Event) (sc : WorldTurn) (happened : world_step t.world e ≡ Ok sc) (it : Witness) (b : FailuresStand past t)
    (v : Volume) (a : IsLogOf t.world.log v) (marked : MarksOf t.world v) (remembered : AreRemembered past t.world v) where
  abbrev w : World
  w = t.world

  abbrev Taken : Event → WorldTurn → Type 0
  Taken f z = AreTaken is_fate (of_event w f ++ (of_delivery it.behind v w f ++ of_lines w z.seen)) v

  -- an event at which no node takes a step, and an advance
  still : (f : Event) → is_still f ≡ true → of_delivery it.behind v w f ≡ [] → Taken f (happens (counted w) f)
  still f q none =
      subst (λ its. AreTaken is_fate (of_event w f ++ (its ++ of_lines w (happens (counted w) f).seen)) v) (sym none)
      (all_are_taken is_fate (of_event w f ++ of_lines w (happens (counted w) f).seen) v (taken_some _ (event_taken w f v a q)))

  advance : (increments : List ℕ) → adm.refusal w (events.Advance increments) ≡ None →
      Taken (events.Advance increments) (happens (counted w) (events.Advance increments))
  unfolding of_event happens adm.refusal adm.refused_delivery adm.clocks_refused adm.flush_missed adm.refused_effect adm.refused_report world.node_of_place
      adm.missed_by
  advance increments r =
      all_are_taken is_fate (of_lines w (ev.advances (counted w) increments).seen) v
      (taken_some _ (advance_lines past w increments r (counted_fates w b.stand.fates) (counted_both past w b.stand.both).flush (stand_agrees past t b.stand) v a marked remembered))

  -- other events give no fates
  other : (f : Event) → gives_fates f ≡ false → Taken f (happens (counted w) f)
  other f q =
      none_to_take (of_event w f ++ (of_delivery it.behind v w f ++ of_lines w (happens (counted w) f).seen)) v
      (both_fateless (of_event w f) (of_delivery it.behind v w f ++ of_lines w (happens (counted w) f).seen) (event_fateless w f)
      (both_fateless (of_delivery it.behind v w f) (of_lines w (happens (counted w) f).seen) (delivery_fateless it.behind v w f)
      (lines_fateless w (happens (counted w) f).seen (event_silent (counted w) f q))))

  by_event : (f : Event) → adm.refusal w f ≡ None → Taken f (happens (counted w) f)
  by_event (events.Advance increments) r = advance increments r
  by_event (events.Effect k) r = still (events.Effect k) refl refl
  by_event (events.Crash (nodes.Client c)) r = still (events.Crash (nodes.Client c)) refl refl
  by_event (events.Crash (nodes.Server s)) r = other (events.Crash (nodes.Server s)) refl
  by_event (events.Tick n) r = other (events.Tick n) refl
  by_event (events.App c ask) r = other (events.App c ask) refl
  by_event (events.Deliver k) r = other (events.Deliver k) refl
  by_event (events.Lose k) r = other (events.Lose k) refl
  by_event (events.Cut from to) r = other (events.Cut from to) refl
  by_event (events.Heal from to) r = other (events.Heal from to) refl
  by_event (events.Report k ok) r = other (events.Report k ok) refl
  by_event (events.Start n) r = other (events.Start n) refl

  all_fates : AreTaken is_fate (steps_of it v (step t e sc)) v
  all_fates = let z = step_happens w e sc happened in subst (Taken e) (sym z.1) (by_event e z.0)

-- In every run.
FateToo : List Step → Step → Witness → Type 0
FateToo past x it = OnSome (λ v. AreTaken is_fate (steps_of it v x) v) it.volume

record Holds (past : List Step) (t : Traced) (it : Witness) : Type 0 where
  failures : FailuresHold past t it
  crashes : MarksHold past t it

abbrev Known : Promise
Known past x = failing.Known past x × FatesHold x.after.world

fates_on : IsGiven Known Holds FateToo
unfolding FateToo
fates_on past t e sc it f g h = (
  on_more (λ v. IsLogOf t.world.log v × (MarksOf t.world v × AreRemembered past t.world v)) (λ v. AreTaken is_fate (steps_of it v (step t e sc)) v)
      (λ v k. all_fates past t e sc f it h.failures.stand v k.0 k.1.0 k.1.1) it.volume
      (on_both (IsLogOf t.world.log) (λ v. MarksOf t.world v × AreRemembered past t.world v) it.volume h.failures.log
      (on_both (MarksOf t.world) (AreRemembered past t.world) it.volume h.crashes.marked h.failures.marks)),
  record {
    failures = failures_kept past t e sc it f g.0 h.failures;
    crashes = marks_kept past t e sc it f (g.0.0, (g.0.1.0, g.1)) h.crashes;
  },
)

pub fates_are_taken : EveryRunIsSafe → InEveryRun PagesAfter → InEveryRun (StepsAreTaken is_fate)
unfolding FateToo
fates_are_taken safe pages k clients servers disks blocks form es head events =
    let t : Traced = traced (fresh_world k clients servers disks blocks form) in
    let kept : IsSafeRun (fresh_world k clients servers disks blocks form) es = safe k clients servers disks blocks form es head events in
    given_in Known Holds FateToo fates_on es t
    (record { failures = failures_begin k clients servers disks blocks form; crashes = marks_begin k clients servers disks blocks form })
    (throughout_both failing.Known (λ past x. FatesHold x.after.world) [] (steps es t)
    (failing.known_in k clients servers disks blocks form es head kept (pages k clients servers disks blocks form es head events))
    (fates_law k clients servers disks blocks form es))
