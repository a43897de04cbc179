-- The run of the chosen events reaches its end, and each event is in its ranges.
use Rattle.st_lemmas.proofs.Words
use Words.{◌≡◌, ℕ, zero, suc, ◌+◌, ◌≤◌, true, List, [], ◌∷◌, ◌++◌, length, Option, Some, None, Ok, refl, sym, ap, ◌∙◌, subst, arith, list_all, AllByRecursion}
use Words.{Event, WorldRefusal}
use Words.Admissible.{refusal}
use Words.Events.{world_step, world_by, happens, counted, summary}
use Words.Run.{Run, run, go_on}
use Words.Safety.{is_event}
use Words.World.{World, fresh_world}
use Words.Tables.{and_both}
use Words.Generator as g
use Rattle.st_rules.specs.Report as report
use Rattle.st_schedule_words.specs.Words.{MOST_NUMBER}
use Rattle.st_schedule.specs.Grammar.{Fits}
use Rattle.st_generate.specs.Law.{Begins_with_a_head, Has_length, Each_is_admissible, Each_is_in_range, Runs_to_the_end, Is_reported_whole, Head_has_a_line}
use Rattle.st_generate.specs.Law.{Each_has_a_line, run_of}
use Rattle.st_generate.proofs.Sizes.{Sized, step_sized, sized_then}
use Rattle.st_generate.proofs.Choices.{chosen_stands, chosen_good}

-- a world of 3 clients and 2 servers
record IsOurs (w : World) : Type 0 where
  clients : length w.clients ≡ 3
  servers : length w.servers ≡ 2

ours_after : (w v : World) → IsOurs w → Sized w v → IsOurs v
ours_after w v o s = record { clients = s.clients ∙ o.clients; servers = s.servers ∙ o.servers }

fresh_ours : IsOurs g.generator_world
unfolding g.generator_world fresh_world Rattle.st_rules.specs.Extents.numbers
fresh_ours = record { clients = refl; servers = refl }

-- where a chosen event leads
left : World → ℕ → World
left w x = (happens (counted w) (g.chosen w x).0).world

taken : (w : World) (x : ℕ) → IsOurs w → world_step w (g.chosen w x).0 ≡ Ok (happens (counted w) (g.chosen w x).0)
unfolding world_step world_by
taken w x o = ap (world_by w (g.chosen w x).0) (chosen_stands w x o.clients o.servers)

left_sized : (w : World) (x : ℕ) → IsOurs w → Sized w (left w x)
unfolding left
left_sized w x o = step_sized w (g.chosen w x).0 _ (taken w x o)

-- the events from a world and a state on, after the first one
generated_once_more : (n : ℕ) (w : World) (x : ℕ) → IsOurs w → g.generated (suc n) w x ≡ (g.chosen w x).0 ∷ g.generated n (left w x) (g.chosen w x).1
unfolding g.generated g.world_left left
generated_once_more n w x o = ap (λ r. (g.chosen w x).0 ∷ g.generated n (g.world_left w r) (g.chosen w x).1) (taken w x o)

-- the run of these events, after the first one
run_more : (n : ℕ) (w : World) (x : ℕ) → IsOurs w →
    run (g.generated (suc n) w x) w ≡ Rattle.st_rules.specs.Run.behind ((happens (counted w) (g.chosen w x).0).seen ∷ []) (run (g.generated n (left w x) (g.chosen w x).1) (left w x))
unfolding run go_on left
run_more n w x o =
    ap (λ es. run es w) (generated_once_more n w x o)
    ∙ ap (go_on (run (g.generated n (left w x) (g.chosen w x).1)) w) (taken w x o)

-- The run reaches its end.
ends : (n : ℕ) (w : World) (x : ℕ) → IsOurs w → (run (g.generated n w x) w).refused ≡ None
unfolding run g.generated
ends zero w x o = refl
ends (suc n) w x o = ap (λ (r : Run). r.refused) (run_more n w x o) ∙ ends n (left w x) (g.chosen w x).1 (ours_after w _ o (left_sized w x o))

pub runs_to_the_end : Runs_to_the_end
unfolding g.generate
runs_to_the_end n seed = ends n g.generator_world seed fresh_ours

-- an event of a run that isn't refused is admissible at its place
admissible_in : (es rest : List Event) (e : Event) (w : World) → (run (es ++ e ∷ rest) w).refused ≡ None → refusal (run es w).world e ≡ None
unfolding run go_on world_step world_by
admissible_in [] rest e w h = go (refusal w e) h
  where
    go : (r : Option WorldRefusal) → (go_on (run rest) w (world_by w e r)).refused ≡ None → r ≡ None
    go None h = refl
    go (Some f) h = cc
admissible_in (d ∷ es) rest e w h = go (refusal w d) h (λ v. admissible_in es rest e v)
  where
    go : (r : Option WorldRefusal) → (go_on (run (es ++ e ∷ rest)) w (world_by w d r)).refused ≡ None →
        ((v : World) → (run (es ++ e ∷ rest) v).refused ≡ None → refusal (run es v).world e ≡ None) → refusal (go_on (run es) w (world_by w d r)).world e ≡ None
    go None h f = f _ h
    go (Some r) h f = cc

pub each_is_admissible : Each_is_admissible
each_is_admissible n seed es rest e h = admissible_in es rest e g.generator_world (ap (λ l. (run l g.generator_world).refused) (sym h) ∙ runs_to_the_end n seed)

-- the report ends with the last line
pub is_reported_whole : Is_reported_whole
unfolding report.report report.ending g.work
is_reported_whole n seed = ap (λ o. report.opening ++ report.lines_from 1 (run_of n seed).seen ++ report.ending (run_of n seed) o) (runs_to_the_end n seed)

-- As many events as asked for.
long : (n : ℕ) (w : World) (x : ℕ) → length (g.generated n w x) ≡ n
unfolding g.generated
long zero w x = refl
long (suc n) w x = ap suc (long n _ _)

pub has_length : Has_length
unfolding g.generate
has_length n seed = long n g.generator_world seed

-- Each is in its ranges.
in_range : (n : ℕ) (w : World) (x : ℕ) → list_all (is_event 5) (g.generated n w x) ≡ true
unfolding g.generated
in_range zero w x = refl
in_range (suc n) w x = and_both (is_event 5 (g.chosen w x).0) _ (chosen_good w x).range (in_range n _ _)

pub each_is_in_range : Each_is_in_range
unfolding g.generate
each_is_in_range n seed = in_range n g.generator_world seed

pub begins_with_a_head : Begins_with_a_head
begins_with_a_head = record { sound = refl; some_clients = refl; some_servers = refl; enough_disks = refl; some_blocks = refl; known_form = refl }

-- Each has a line. A run sends and submits no less than any part of it.
run_sized : (n : ℕ) (w : World) (x : ℕ) → IsOurs w → Sized w (run (g.generated n w x) w).world
unfolding run g.generated
run_sized zero w x o = record { clients = refl; servers = refl; messages = omega arith; commands = omega arith; bytes = omega arith }
run_sized (suc n) w x o =
    subst (λ (r : Run). Sized w r.world) (sym (run_more n w x o))
    (sized_then w (left w x) _ (left_sized w x o) (run_sized n (left w x) (g.chosen w x).1 (ours_after w _ o (left_sized w x o))))

no_lines : (w : World) (x : ℕ) → AllByRecursion (Fits 1 5) (g.generated zero w x)
unfolding g.generated
no_lines w x = tt

have_lines : (n : ℕ) (w : World) (x : ℕ) → IsOurs w →
    length (run (g.generated n w x) w).world.net.messages ≤ MOST_NUMBER → length (run (g.generated n w x) w).world.commands ≤ MOST_NUMBER →
    AllByRecursion (Fits 1 5) (g.generated n w x)
have_lines zero w x o p q = no_lines w x
have_lines (suc n) w x o p q =
    subst (λ es. AllByRecursion (Fits 1 5) es) (sym (generated_once_more n w x o)) (
      (chosen_good w x).line (let z = (run_sized (suc n) w x o).messages in omega (arith, z, p)) (let z = (run_sized (suc n) w x o).commands in omega (arith, z, q)),
      have_lines n (left w x) (g.chosen w x).1 (ours_after w _ o (left_sized w x o))
          (subst (λ (r : Run). length r.world.net.messages ≤ MOST_NUMBER) (run_more n w x o) p)
          (subst (λ (r : Run). length r.world.commands ≤ MOST_NUMBER) (run_more n w x o) q),
    )

pub each_has_a_line : Each_has_a_line
unfolding g.generate g.work summary
each_has_a_line n seed f = have_lines n g.generator_world seed fresh_ours f.sent f.commands

pub head_has_a_line : Head_has_a_line
head_has_a_line = (
  record { times = (omega arith, omega arith, omega arith); others = (omega arith, omega arith, omega arith); rate = (omega arith, omega arith, omega arith) },
  ((omega arith, omega arith), (omega arith, omega arith), (omega arith, omega arith), (omega arith, omega arith)),
  Rattle.std.proofs.Common.inl (refl, refl),
)
