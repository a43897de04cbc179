use Rattle.std.proofs.Common.{◌≡◌, ◌++◌, drop, map}
use Rattle.st_script_containers.specs.MoveScripts.{answer}
use Rattle.st_script.specs.Scripts.{answer_lines}
use Rattle.st_script_containers.proofs.move_script.put_lines.Given as goal

abbrev pub invariant-loop-answer : goal.invariant-loop-answer
invariant-loop-answer l =
    l.text.items ++ answer_lines l.number (map answer (drop l.answer-index l.answers)) ≡ l.fn.text.items ++ answer_lines l.number (map answer l.answers)
