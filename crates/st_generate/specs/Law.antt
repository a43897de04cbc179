-- What is promised about generated schedules, over all lengths and seeds.
use Rattle.std.specs.Prelude.{◌≡◌, ◌≤◌, ◌+◌, ℕ, true, List, [], ◌∷◌, ◌++◌, length, None, Result, Ok, Err, ⊤}
use Rattle.std.specs.List.{list_all, AllByRecursion}
use Rattle.st_messages.specs.declared.event.Event.{Event}
use Rattle.st_rules.specs.declared.observation.WorldRefusal.{WorldRefusal}
use Rattle.st_rules.specs.Admissible.{refusal}
use Rattle.st_rules.specs.Events.{WorldTurn, world_step}
use Rattle.st_rules.specs.World.{World}
use Rattle.st_rules.specs.Report.{opening, lines_from, report, ended}
use Rattle.st_rules.specs.Run.{Run, run}
use Rattle.st_rules.specs.Safety.{IsHead, is_event}
use Rattle.st_schedule_words.specs.Words.{MOST_NUMBER}
use Rattle.st_schedule.specs.Grammar.{Fits, FitsHead}
use Rattle.st_rules.specs.Generator.{settings, generator_world, generate, work}
use Rattle.st_generate.specs.GeneratedText.{counts}

-- the run of a length and a seed
abbrev pub run_of : ℕ → ℕ → Run
run_of n seed = run (generate n seed) generator_world

-- The head is a head of schedules.
abbrev pub Begins_with_a_head : Type 0
Begins_with_a_head = IsHead settings 3 2 2 64 1

-- There are as many events as asked for.
abbrev pub Has_length : Type 0
Has_length = (n seed : ℕ) → length (generate n seed) ≡ n

-- Each event is admissible in the run so far.
abbrev pub Each_is_admissible : Type 0
Each_is_admissible = (n seed : ℕ) (es rest : List Event) (e : Event) → generate n seed ≡ es ++ e ∷ rest → refusal (run es generator_world).world e ≡ None

-- Each event is in its ranges, for a world of five nodes.
abbrev pub Each_is_in_range : Type 0
Each_is_in_range = (n seed : ℕ) → list_all (is_event 5) (generate n seed) ≡ true

-- The run reaches its end.
abbrev pub Runs_to_the_end : Type 0
Runs_to_the_end = (n seed : ℕ) → (run_of n seed).refused ≡ None

-- The report has no refusal: its last line is what `work` tells.
abbrev pub Is_reported_whole : Type 0
Is_reported_whole = (n seed : ℕ) → report (run_of n seed) ≡ opening ++ lines_from 1 (run_of n seed).seen ++ ended (work n seed)

-- Each event of a run sends at most this number of messages, the events after the first one too.
abbrev pub SendsFewOn : ℕ → (World → Type 0) → World → Result WorldTurn WorldRefusal → Type 0
SendsFewOn most rest w (Ok sc) = (length sc.world.net.messages ≤ length w.net.messages + most) × rest sc.world
SendsFewOn most rest w (Err f) = ⊤

-- of these events
unfoldable pub SendsFew : ℕ → List Event → World → Type 0
SendsFew most [] w = ⊤
SendsFew most (e ∷ es) w = SendsFewOn most (SendsFew most es) w (world_step w e)

-- A run sends at most 14,128,181 messages, and as many as one of its events sends at most: a message has at least 38 bytes, and if
-- there are 536,870,912 bytes, nothing is sent.
abbrev pub Sent_is_bounded : Type 0
Sent_is_bounded = (most n seed : ℕ) → SendsFew most (generate n seed) generator_world → (work n seed).sent ≤ 14128181 + most

-- The head has a line.
abbrev pub Head_has_a_line : Type 0
Head_has_a_line = FitsHead settings counts 1

-- Messages and commands have numbers of a line: at most 4,294,967,295.
pub record HasFew (n seed : ℕ) : Type 0 where
  pub sent : (work n seed).sent ≤ MOST_NUMBER
  pub commands : (work n seed).commands ≤ MOST_NUMBER

-- Each event has a line, if messages and commands have numbers of a line.
abbrev pub Each_has_a_line : Type 0
Each_has_a_line = (n seed : ℕ) → HasFew n seed → AllByRecursion (Fits 1 5) (generate n seed)
