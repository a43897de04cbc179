-- A run of the first two forms, by the definitions of every form, is the run by their own.
use Rattle.st_lemmas.proofs.Words
use Words.{◌≡◌, ℕ, false, List, [], ◌∷◌, ◌++◌, ◌+◌, length, map, flat_map, length-map, refl, ap, subst, ◌∙◌, if◌then◌else◌, Option, Some, None, Ok}
use Words.{Event, Observation, WorldRefusal}
use Words.events
use Words.Admissible as admissible
use Words.Events as ev
use Words.Events.{WorldTurn, counted}
use Rattle.st_rules.specs.Report as report
use Rattle.st_rules.specs.Run as plain
use Rattle.st_rules.specs.Run.{Run}
use Words.World.{World, fresh_world}
use Rattle.std.specs.Prelude.{codes}
use Rattle.std.specs.Fmt.{decimal}
use Rattle.st_rules.specs.declared.observation.Observation.TheVariants as plainly_seen
use Rattle.st_laws_clocks.proofs.Kept.{advance_keeps, others_keep}
use Rattle.st_third.specs.declared.event.ThirdEvent.TheVariants as third
use Rattle.st_third.specs.Events as every
use Rattle.st_third.specs.Events.{ThirdWorldTurn, plain_seen, third_counted}
use Rattle.st_third.specs.declared.limits.Limits.{Limits}
use Rattle.st_third.specs.Limits.{first_limits, is_third, limited_world, with_limits}
use Rattle.st_third.specs.Run as runs
use Rattle.st_third.specs.Run.{ThirdRun, run}
use Rattle.st_third.specs.World as worlds
use Rattle.st_third.specs.World.{ThirdWorld, third_world}
use Rattle.st_laws_third.specs.FirstForms.{FirstRunsStay, all_as_third, as_third}
use Rattle.st_laws_third.proofs.FirstServers.{node_is}
use Rattle.st_laws_third.proofs.FirstWorlds.{IsTurn, happens_is, refusal_is}

-- An event leaves the form of the head.
pub form_stays : (w : World) (e : Event) → (ev.happens w e).world.form ≡ w.form
form_stays w (events.Tick n) = ap (λ r. r.1) (others_keep w (events.Tick n) refl)
form_stays w (events.App c ask) = ap (λ r. r.1) (others_keep w (events.App c ask) refl)
form_stays w (events.Deliver k) = ap (λ r. r.1) (others_keep w (events.Deliver k) refl)
form_stays w (events.Lose k) = ap (λ r. r.1) (others_keep w (events.Lose k) refl)
form_stays w (events.Cut from to) = ap (λ r. r.1) (others_keep w (events.Cut from to) refl)
form_stays w (events.Heal from to) = ap (λ r. r.1) (others_keep w (events.Heal from to) refl)
form_stays w (events.Advance steps) = ap (λ r. r.1) (advance_keeps w steps)
form_stays w (events.Effect k) = ap (λ r. r.1) (others_keep w (events.Effect k) refl)
form_stays w (events.Report k ok) = ap (λ r. r.1) (others_keep w (events.Report k ok) refl)
form_stays w (events.Crash n) = ap (λ r. r.1) (others_keep w (events.Crash n) refl)
form_stays w (events.Start n) = ap (λ r. r.1) (others_keep w (events.Start n) refl)

-- The world, what was observed, and the refusal of a run; and its form.
record IsSame (head : ℕ) (r : ThirdRun) (p : Run) : Type 0 where
  world : r.third.world ≡ p.world
  seen : r.seen ≡ map all_as_third p.seen
  refused : r.refused ≡ p.refused
  form : r.third.world.form ≡ head

-- a run over these events, in whatever world it begins
abbrev Goes_on : List Event → Type 0
Goes_on es = (w : ThirdWorld) → is_third w.world.form ≡ false → IsSame w.world.form (run (map as_third es) w) (plain.run es w.world)

same_run : (es : List Event) (w : ThirdWorld) → is_third w.world.form ≡ false →
    IsSame w.world.form (run (map as_third es) w) (plain.run es w.world)
unfolding run plain.run runs.go_on plain.go_on every.world_step every.world_by worlds.refusal ev.world_step ev.world_by
same_run [] w f = record { world = refl; seen = refl; refused = refl; form = refl }
same_run (e ∷ es) w f = go (λ v. same_run es v) (worlds.plain_refusal w.world e) (admissible.refusal w.world e) (refusal_is w.world f e)
  where
    on : Goes_on es → (sc : ThirdWorldTurn) (t : WorldTurn) → IsTurn sc t → t.world.form ≡ w.world.form →
        IsSame w.world.form (runs.go_on (run (map as_third es)) w (Ok sc)) (plain.go_on (plain.run es) w.world (Ok t))
    on rest_of sc t h k =
        let kept : sc.third.world.form ≡ w.world.form = ap (λ (v : World). v.form) h.world ∙ k in
        let rest = rest_of sc.third (ap is_third kept ∙ f) in
        record {
          world = rest.world ∙ ap (λ v. (plain.run es v).world) h.world;
          seen = λ i. h.seen i ∷ (rest.seen ∙ ap (λ v. map all_as_third (plain.run es v).seen) h.world) i;
          refused = rest.refused ∙ ap (λ v. (plain.run es v).refused) h.world;
          form = rest.form ∙ kept;
        }

    go : Goes_on es → (o p : Option WorldRefusal) → o ≡ p →
        IsSame w.world.form (runs.go_on (run (map as_third es)) w (every.world_by w (third.Plain e) o))
        (plain.go_on (plain.run es) w.world (ev.world_by w.world e p))
    go rest_of None None q =
        on rest_of (every.happens (third_counted w) (third.Plain e)) (ev.happens (counted w.world) e) (happens_is (third_counted w) e f)
        (form_stays (counted w.world) e)
    go rest_of (Some r) (Some s) q = record { world = refl; seen = refl; refused = q; form = refl }
    go rest_of None (Some s) q = absurd cc
    go rest_of (Some r) None q = absurd cc

-- Reports.

module _ (form : ℕ) (f : is_third form ≡ false) where
  observation_is : (o : Observation) → runs.observation form (plain_seen o) ≡ report.observation o
  unfolding runs.observation runs.plain_observation report.observation
  observation_is (plainly_seen.Sent k m) =
      λ i. codes " send" ++ report.field k
      ++ (report.node (node_is form m.header.from f i) ++ report.node (node_is form m.header.to f i)
      ++ report.kind m.body ++ report.header_fields m ++ report.fields m.body)
  observation_is (plainly_seen.Submitted k c number what) = refl
  observation_is (plainly_seen.Answered c op answer) = refl
  observation_is (plainly_seen.Wrote index c f p bytes) = refl
  observation_is (plainly_seen.Patched index c f p at bytes) = refl
  observation_is (plainly_seen.CutAt index f p) = refl
  observation_is (plainly_seen.Hardened index) = refl
  observation_is (plainly_seen.Dropped index why) = refl
  observation_is (plainly_seen.Leased c s end) = refl
  observation_is (plainly_seen.Lost c s life) = refl
  observation_is (plainly_seen.Suspected s c start) = refl
  observation_is (plainly_seen.Stolen s c life) = refl

  lines_is : (event : ℕ) (os : List Observation) → flat_map (runs.line form event) (all_as_third os) ≡ report.lines event os
  unfolding runs.line report.line
  lines_is event [] = refl
  lines_is event (o ∷ os) = λ i. (decimal event ++ observation_is o i ++ codes "\n") ++ lines_is event os i

  all_lines_is : (event : ℕ) (oss : List (List Observation)) → runs.lines_from form event (map all_as_third oss) ≡ report.lines_from event oss
  unfolding runs.lines_from report.lines_from
  all_lines_is event [] = refl
  all_lines_is event (os ∷ rest) = λ i. lines_is event os i ++ all_lines_is (event + 1) rest i

report_is : (form : ℕ) → is_third form ≡ false → (r : ThirdRun) (p : Run) → IsSame form r p → runs.third_report r ≡ report.report p
unfolding runs.third_report report.report runs.ending report.ending
report_is form f r p h = λ i. report.opening ++ lines i ++ (ends i)
  where
    lines : runs.lines_from r.third.world.form 1 r.seen ≡ report.lines_from 1 p.seen
    lines = (λ i. runs.lines_from (h.form i) 1 (h.seen i)) ∙ all_lines_is form f 1 p.seen

    count : length r.seen ≡ length p.seen
    count = ap length h.seen ∙ length-map p.seen all_as_third

    end : (o : Option WorldRefusal) → runs.ending r o ≡ report.ending p o
    end None = ap (λ v. report.ended (ev.summary v)) h.world
    end (Some q) = ap (λ n. report.refused (n + 2) (report.refusal q)) count

    ends : runs.ending r r.refused ≡ report.ending p p.refused
    ends = ap (runs.ending r) h.refused ∙ end p.refused

-- A world that begins has the limits of its head only in the third form.
pub limits_stay : (m : Limits) (w : World) → is_third w.form ≡ false → with_limits m w ≡ w
unfolding with_limits
limits_stay m w f = ap (λ b. if b then limited_world m w else w) f

pub first_runs_stay : FirstRunsStay
unfolding third_world fresh_world
first_runs_stay k clients servers disks blocks form es f =
    let v : World = fresh_world k clients servers disks blocks form in
    let w : ThirdWorld = third_world k first_limits clients servers disks blocks form in
    let e : w.world ≡ v = limits_stay first_limits v f in
    let h =
    subst (λ u. IsSame u.form (run (map as_third es) w) (plain.run es u)) e
    (same_run es w (ap (λ (u : World). is_third u.form) e ∙ f)) in
    record { world = h.world; seen = h.seen; refused = h.refused; report = report_is form f _ _ h }
