-- A replay from a source to a sink, on its way.
use Rattle.std.specs.Prelude.{◌≡◌, ◌≤◌, ℕ, ◌+◌, List, [], ◌∷◌, ◌++◌, length, Option, Some, None, IfSome}
use Rattle.std.specs.Io.KnownBytes.{Appends, Consumes}
use Rattle.st_link.specs.Causes.{Rose}
use Rattle.st_link.specs.Prefixes.{AppendsPrefix}
use Rattle.st_rules.specs.declared.observation.Summary.{Summary}
use Rattle.st_rules.specs.Events.{summary}
use Rattle.st_rules.specs.World.{World}
use Rattle.st_schedule.specs.declared.reader.Progress.{Progress}
use Rattle.st_runs.specs.declared.fault.LineRefusal.{LineRefusal}
use Rattle.st_replay.specs.declared.fault.ReplayFault.{ReplayFault}
use Rattle.st_replay.specs.declared.fault.ReplayFault.TheVariants as faults
use Rattle.st_replay.specs.declared.fault.Stop.{Stop}
use Rattle.st_replay.specs.declared.fault.Stop.TheVariants as stops
use Rattle.st_runs.specs.Replay.{Replay, Whole, Stopped, behind, last_line, text, replay_lines, replay_of, report_of}
use Rattle.st_replay.specs.States.{AtStop, EndsAt, HasNone, Handled, IsHere, from_here, from_line}

-- Bytes were taken and a text was written; the lines that were handled are the first ones of these bytes, and the others are
-- held; the text that was written, then the one that was not yet, and then what follows, are the replay.
pub record Streams (left_before left_now written_before written_now : Option (List ℕ)) (pending : List ℕ) (v : Option World) (q : Progress) (next : ℕ)
    (holds : List ℕ) : Type 0 where
  pub taken : List ℕ
  pub written : List ℕ
  pub handled : List (List ℕ)
  pub took : Consumes left_before left_now taken
  pub wrote : Appends written_before written_now written
  pub are : Handled taken holds handled
  pub goes : (ls : List (List ℕ)) → behind (written ++ pending) (from_here v q next ls) ≡ replay_lines (handled ++ ls)
  pub number : next ≡ length handled + 1
  pub here : IsHere v q next
  pub none : HasNone holds
  pub few : length holds ≤ 256

-- A text was written; it is a prefix of the report, and if a line stopped the replay, it is the report up to this line, except for the text that was not
-- written yet.
pub record Halts (left_before written_before written_now : Option (List ℕ)) (pending : List ℕ) (s : Stop) : Type 0 where
  pub written : List ℕ
  pub wrote : Appends written_before written_now written
  pub front : IfSome left_before (λ bytes. (rest : List ℕ) × (report_of bytes ≡ written ++ rest))
  pub stops : AtStop s (λ n f. IfSome left_before (λ bytes. EndsAt (written ++ pending) n f (replay_of bytes)))

-- the line or lines of the bytes that are held at the end
abbrev pub one : List ℕ → List (List ℕ)
one [] = []
one (b ∷ bs) = (b ∷ bs) ∷ []

-- the end of a schedule that was run through: the text so far and the last line are the report
abbrev pub EndsWhole : List ℕ → List ℕ → Summary → Option World → Progress → ℕ → Type 0
EndsWhole old new s None p line = ⊥
EndsWhole old new s (Some w) p line =
    (record { front = old; last = Whole w } ≡ behind old (from_line w p line [])) × (s ≡ summary w) × (new ≡ old ++ last_line (Whole w))

-- the same of a call that went on to the end: the world after it, and this replay after the text before it
abbrev pub Concludes : List ℕ → List ℕ → Summary → Option World → Replay → Type 0
Concludes old new s None p = ⊥
Concludes old new s (Some w) p = ((behind old p).last ≡ Whole w) × (s ≡ summary w) × (new ≡ text (behind old p))

-- a call wrote the text before it and the last line of this refusal, or failed
abbrev pub RefusesLine : ReplayFault → ℕ → LineRefusal → Option (List ℕ) → Option (List ℕ) → List ℕ → Type 0
RefusesLine (faults.Line n f) line why before now old = (n ≡ line) × (f ≡ why) × Appends before now (old ++ last_line (Stopped line why))
RefusesLine faults.Write line why before now old = AppendsPrefix before now (old ++ last_line (Stopped line why))
RefusesLine faults.Memory line why before now old = now ≡ before
RefusesLine faults.Read line why before now old = ⊥

-- the same of where a replay was stopped; if memory ran out, nothing was written
abbrev pub Refuses : ReplayFault → Stop → Option (List ℕ) → Option (List ℕ) → List ℕ → Type 0
Refuses r (stops.Line line why) before now old = RefusesLine r line why before now old
Refuses r stops.Memory before now old = (r ≡ faults.Memory) × (now ≡ before)

-- the count of the sink's faults then
abbrev pub RefusalCauses : ReplayFault → ℕ → ℕ → Type 0
RefusalCauses (faults.Line n f) before now = now ≡ before
RefusalCauses faults.Write before now = Rose before now
RefusalCauses faults.Memory before now = before ≤ now
RefusalCauses faults.Read before now = ⊥
