use Rattle.std.proofs.Common.{◌≡◌, ◌-◌}
use Rattle.st_schedule_words.specs.Words.{words_behind}
use Rattle.st_schedule.specs.Parser.{steps_at}
use Rattle.st_schedule.proofs.Increments.{with_front}
use Rattle.st_schedule.proofs.event_line.steps_of.Given as goal

abbrev pub invariant-loop : goal.invariant-loop
invariant-loop l = with_front l.steps.items (steps_at l.least (l.nodes - l.counter) (words_behind l.after)) ≡ steps_at l.least l.nodes (words_behind l.all)
