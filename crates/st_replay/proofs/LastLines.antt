-- The end of the lines.
use Rattle.std.proofs.Common.{◌≡◌, ℕ, List, [], ◌++◌, refl, sym, ◌∙◌, ap, subst, append-nil}
use Rattle.std.specs.Prelude.{Option, Some, None, Result, Ok, Err, IfOk, OnOk}
use Rattle.st_rules.specs.declared.observation.Summary.{Summary}
use Rattle.st_rules.specs.World.{World}
use Rattle.st_rules.specs.Events.{summary}
use Rattle.st_rules.specs.Report.{ended}
use Rattle.st_schedule.specs.declared.fault.ScheduleRefusal.{ScheduleRefusal}
use Rattle.st_schedule.specs.declared.fault.ScheduleRefusal.TheVariants.{NoHead}
use Rattle.st_schedule.specs.declared.reader.Progress.{Progress}
use Rattle.st_schedule.specs.declared.reader.Progress.TheVariants as progress
use Rattle.st_schedule.specs.Reader.{read_end}
use Rattle.st_runs.specs.declared.fault.LineRefusal.TheVariants as why
use Rattle.st_runs.specs.Replay.{Replay, Whole, Stopped, behind, last_line, text, replay_lines}
use Rattle.st_replay.specs.States.{EndsAt, Goes, IsHere, from_here}
use Rattle.st_replay.specs.Streams.{Concludes, EndsWhole, one}
use Rattle.st_replay.proofs.Steps.{stopped_at, end_stops, end_goes}

pub none_lines : replay_lines [] ≡ record { front = []; last = Stopped 1 (why.Schedule NoHead) }
unfolding replay_lines
none_lines = refl

pub here_ends : (old : List ℕ) (v : Option World) (q : Progress) (line : ℕ) (f : ScheduleRefusal) → IsHere v q line → Err f ≡ read_end q →
    EndsAt old line (why.Schedule f) (behind old (from_here v q line []))
here_ends old None progress.Nothing line f here h =
    let is : f ≡ NoHead = cc in
    subst (λ g. EndsAt old line (why.Schedule g) (behind old (replay_lines []))) (sym is)
    (stopped_at old 1 line (why.Schedule NoHead) (sym here) ∙ sym (ap (behind old) none_lines))
here_ends old None (progress.Reading form counts done) line f here h = absurd here
here_ends old None progress.Ended line f here h = absurd here
here_ends old (Some w) q line f here h = end_stops old line w q f (sym h)

whole_line : (w : World) → ended (summary w) ≡ last_line (Whole w)
unfolding last_line
whole_line w = refl

pub ended_whole : {E : Type 0} (r : Result Summary E) (old new : List ℕ) (v : Option World) (w : World) (q : Progress) (line : ℕ) → v ≡ Some w →
    Ok tt ≡ read_end q → IfOk r (λ s. s ≡ summary w) →
    OnOk r (new ≡ old ++ ended (summary w)) → IfOk r (λ s. EndsWhole old new s v q line)
ended_whole (Ok s) old new v w q line is h counts appended =
    subst (λ u. EndsWhole old new s u q line) (sym is) (end_goes old line w q (sym h), counts, appended ∙ ap (λ t. old ++ t) (whole_line w))
ended_whole (Err e) old new v w q line is h counts appended = tt

pub concluded : {E : Type 0} (r : Result Summary E) (old mid new : List ℕ) (w v u : Option World) (p q : Progress) (line next : ℕ) (held : List ℕ) →
    Goes old w p line mid v q next (one held) →
    IfOk r (λ s. EndsWhole mid new s v q next) → OnOk r (u ≡ v) → IfOk r (λ s. Concludes old new s u (from_here w p line (one held)))
concluded (Ok s) old mid new w None u p q line next held goes h same = absurd h
concluded (Ok s) old mid new w (Some x) u p q line next held goes h same =
    let all : record { front = mid; last = Whole x } ≡ behind old (from_here w p line (one held)) =
    h.0 ∙ goes [] ∙ ap (λ ls. behind old (from_here w p line ls)) (append-nil (one held)) in
    subst (λ y. Concludes old new s y (from_here w p line (one held))) (sym same)
    (sym (ap (λ (r : Replay). r.last) all), h.1, h.2 ∙ ap (λ (r : Replay). text r) all)
concluded (Err e) old mid new w v u p q line next held goes h same = tt
