use Rattle.std.proofs.Common.{ℕ}
use Rattle.st_script.specs.Ends.{Reports}
use Rattle.st_script.specs.Scripts.{script_from}
use Rattle.st_script.proofs.Outcomes.{if_known}
use Rattle.st_script.proofs.runner.run.Goals as goal

pub returns-clause-report : goal.returns-clause-report
returns-clause-report g c = λ s h.
    if_known (g.I.Source.left c.args.input.now) c.new-held.result.items
    (λ bytes. Reports (λ t. (n : ℕ) × g.S.Script.stands n t c.play_lines.new.script) c.play_lines.result (g.O.Sink.written c.args.out.now) (g.O.Sink.written c.play_lines.new.out)
    (script_from g.S.Script.rules s bytes)) c.new-held.ensures.items (c.play_lines.ensures.exact s h)
