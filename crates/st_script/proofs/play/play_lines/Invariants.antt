use Rattle.std.proofs.Common.{◌≡◌, ◌≤◌, ◌-◌, ℕ, List}
use Rattle.std.specs.Prelude.{Some}
use Rattle.std.specs.Io.KnownBytes.{prepend_known}
use Rattle.st_schedule_words.specs.Lines.{lines_of}
use Rattle.st_script.specs.Ahead.{GoesAhead}
use Rattle.st_script.specs.Scripts.{play_from}
use Rattle.st_script.proofs.play.play_lines.Given as goal

abbrev pub invariant-lines : goal.invariant-lines
invariant-lines g l = record {
  goes : (s : g.S.Script.State) → g.S.Script.stands 0 s l.fn.script → (bytes : List ℕ) → prepend_known l.fn.held.items (g.I.Source.left l.fn.input) ≡ Some bytes →
      GoesAhead (λ t. g.S.Script.stands l.done t l.script) g.S.Script.rules l.done l.first (g.O.Sink.written l.fn.out) (g.O.Sink.written l.out)
      (prepend_known l.held.items (g.I.Source.left l.input)) (play_from g.S.Script.rules 0 l.first s (lines_of bytes));
  few : l.done ≤ 10000;
  reads : g.I.Source.faults l.input ≡ g.I.Source.faults l.fn.input;
  still : g.O.Sink.faults l.out ≡ g.O.Sink.faults l.fn.out;
}

abbrev pub decreases-lines : goal.decreases-lines
decreases-lines g l = 10001 - l.done
