-- A run goes on from where it led, a traced run is the run, and so are the steps.
use Rattle.std.proofs.Common.{◌≡◌, List, [], ◌∷◌, ◌++◌, length, map, take, Option, Some, None, Result, Ok, Err, refl, ap}
use Rattle.st_messages.specs.declared.event.Event.{Event}
use Rattle.st_rules.specs.declared.observation.Observation.{Observation}
use Rattle.st_rules.specs.declared.observation.WorldRefusal.{WorldRefusal}
use Rattle.st_rules.specs.World.{World}
use Rattle.st_rules.specs.Events.{WorldTurn, world_step}
use Rattle.st_rules.specs.Run.{Run, RunsInParts, behind, go_on, run, run_on}
use Rattle.st_rules.specs.History.{Traced, TracedRunIsRun, trace, trace_on, traced_after}
use Rattle.st_rules.specs.Safety.{StepsEndWithTheRun, StepsTakeTheEvents, StepsTellTheRun, event_of, left_by, seen_of, steps, steps_on}

chained : {A : Type 0} {x y z : A} → x ≡ y → y ≡ z → x ≡ z
chained p q = rw p q

-- what precedes a run precedes what goes on from it
behind_on : (seen : List Observation) (more : List Event) (r : Run) (refused : Option WorldRefusal) → behind (seen ∷ []) (run_on more r refused) ≡ run_on more (behind (seen ∷ []) r) refused
unfolding run_on
behind_on seen more r None = refl
behind_on seen more r (Some f) = refl

-- the first event of a run that goes on
first_on : (es more : List Event) (w : World) (x : Result WorldTurn WorldRefusal) → ((v : World) → run (es ++ more) v ≡ run_on more (run es v) (run es v).refused) → go_on (run (es ++ more)) w x ≡ run_on more (go_on (run es) w x) (go_on (run es) w x).refused
unfolding go_on run_on
first_on es more w (Err f) rest = refl
first_on es more w (Ok sc) rest = chained (ap (behind (sc.seen ∷ [])) (rest sc.world)) (behind_on sc.seen more (run es sc.world) (run es sc.world).refused)

pub in_parts : RunsInParts
unfolding run run_on
in_parts [] more w = refl
in_parts (e ∷ es) more w = first_on es more w (world_step w e) (in_parts es more)

-- the first event of a traced run
first_traced : (es : List Event) (e : Event) (t : Traced) (x : Result WorldTurn WorldRefusal) → ((u : Traced) → (trace es u).run ≡ run es u.world) → (trace_on (trace es) e t x).run ≡ go_on (run es) t.world x
unfolding trace_on go_on
first_traced es e t (Err f) rest = refl
first_traced es e t (Ok sc) rest = ap (behind (sc.seen ∷ [])) (rest (traced_after e t sc))

pub traced_is_run : TracedRunIsRun
unfolding trace run
traced_is_run [] t = refl
traced_is_run (e ∷ es) t = first_traced es e t (world_step t.world e) (traced_is_run es)

-- the first step of a run
first_event : (es : List Event) (e : Event) (t : Traced) (x : Result WorldTurn WorldRefusal) → ((u : Traced) → map event_of (steps es u) ≡ take (length (run es u.world).seen) es) → map event_of (steps_on (steps es) t e x) ≡ take (length (go_on (run es) t.world x).seen) (e ∷ es)
unfolding steps_on go_on
first_event es e t (Err f) rest = refl
first_event es e t (Ok sc) rest = ap (λ l. e ∷ l) (rest (traced_after e t sc))

pub take_the_events : StepsTakeTheEvents
unfolding steps run
take_the_events [] t = refl
take_the_events (e ∷ es) t = first_event es e t (world_step t.world e) (take_the_events es)

-- what is observed at the first step
first_told : (es : List Event) (e : Event) (t : Traced) (x : Result WorldTurn WorldRefusal) → ((u : Traced) → map seen_of (steps es u) ≡ (run es u.world).seen) → map seen_of (steps_on (steps es) t e x) ≡ (go_on (run es) t.world x).seen
unfolding steps_on go_on
first_told es e t (Err f) rest = refl
first_told es e t (Ok sc) rest = ap (λ l. sc.seen ∷ l) (rest (traced_after e t sc))

pub tell_the_run : StepsTellTheRun
unfolding steps run
tell_the_run [] t = refl
tell_the_run (e ∷ es) t = first_told es e t (world_step t.world e) (tell_the_run es)

-- where the first step leads
first_left : (es : List Event) (e : Event) (t : Traced) (x : Result WorldTurn WorldRefusal) → ((u : Traced) → (left_by u (steps es u)).world ≡ (run es u.world).world) → (left_by t (steps_on (steps es) t e x)).world ≡ (go_on (run es) t.world x).world
unfolding steps_on go_on left_by
first_left es e t (Err f) rest = refl
first_left es e t (Ok sc) rest = rest (traced_after e t sc)

pub end_with_the_run : StepsEndWithTheRun
unfolding steps run left_by
end_with_the_run [] t = refl
end_with_the_run (e ∷ es) t = first_left es e t (world_step t.world e) (end_with_the_run es)
