-- The report of a schedule that is read through its end.
use Rattle.std.proofs.Common.{◌≡◌, ◌+◌, List, ◌++◌, length, refl, ap, arith}
use Rattle.std.specs.Prelude.{Option, Some, None}
use Rattle.st_messages.specs.declared.event.Event.{Event}
use Rattle.st_rules.specs.declared.observation.WorldRefusal.{WorldRefusal}
use Rattle.st_rules.specs.World.{World}
use Rattle.st_rules.specs.Run.{Run, run}
use Rattle.st_rules.specs.Report as report
use Rattle.st_runs.specs.Replay.{behind, ended_by, last_line, line_refusal, replay_from, text}
use Rattle.st_runs.specs.Schedule.{Whole}

last_of_run : (r : Run) (f : Option WorldRefusal) → last_line (ended_by (1 + length r.seen) r.world Whole f) ≡ report.ending r f
unfolding last_line line_refusal report.ending
last_of_run r None = refl
last_of_run r (Some f) = ap (λ n. report.refused n (report.refusal f)) (let z : 1 + length r.seen + 1 ≡ length r.seen + 2 = omega arith in z)

pub report_of_run : (es : List Event) (w : World) →
    text (behind report.opening (replay_from 1 w (record { events = es; ending = Whole }))) ≡ report.report (run es w)
unfolding replay_from report.report
report_of_run es w = ap (λ t. (report.opening ++ report.lines_from 1 (run es w).seen) ++ t) (last_of_run (run es w) (run es w).refused)
