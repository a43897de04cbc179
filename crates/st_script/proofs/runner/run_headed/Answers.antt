use Rattle.std.proofs.Common.{ℕ, Err}
use Rattle.std.specs.Prelude.{⊤}
use Rattle.st_script.specs.Ends.{Reports}
use Rattle.st_script.specs.Scripts.{script_of}
use Rattle.st_script.specs.declared.fault.ScriptFault.TheVariants as faults
use Rattle.st_script.proofs.Outcomes.{head_reports, head_stops_reports, if_known, unwritten}
use Rattle.st_script.proofs.runner.run_headed.Goals as goal

pub returns-in-Ok-clause-report : goal.returns-in-Ok-clause-report
returns-in-Ok-clause-report g c =
    if_known (g.I.Source.left c.args.input.now) c.new-held.result.items
    (λ bytes. Reports (λ t. ⊤) c.play_lines.result (g.O.Sink.written c.args.out.now) (g.O.Sink.written c.play_lines.new.out) (script_of g.S.Script.head g.S.Script.rules bytes))
    c.new-held.ensures.items
    (λ bytes known.
    let begun = c.in-Ok.ensures.exact bytes known in
    let said = begun.1.1 in
    head_reports (λ t. (n : ℕ) × g.S.Script.stands n t c.play_lines.new.script) g.S.Script.head g.S.Script.rules _ _ bytes said.line said.rest begun.0 c.play_lines.result said.lines
    said.read_so (c.play_lines.ensures.exact begun.0 begun.1.0 said.rest said.known))

pub returns-in-Err-Malformed-clause-report : goal.returns-in-Err-Malformed-clause-report
returns-in-Err-Malformed-clause-report g c =
    if_known (g.I.Source.left c.args.input.now) c.new-held.result.items
    (λ bytes. Reports (λ t. ⊤) (Err c.refuse.result) (g.O.Sink.written c.args.out.now) (g.O.Sink.written c.refuse.new.out) (script_of g.S.Script.head g.S.Script.rules bytes))
    c.new-held.ensures.items
    (λ bytes known.
    let stops = rw c.in-Err-Malformed.field-0-is at c.in-Err-Malformed.ensures.exact in
    head_stops_reports (λ t. ⊤) g.S.Script.head g.S.Script.rules _ _ bytes c.refuse.result (stops bytes known) c.refuse.ensures.exact)

pub returns-in-Err-Read-clause-report : goal.returns-in-Err-Read-clause-report
returns-in-Err-Read-clause-report g c =
    if_known (g.I.Source.left c.args.input.now) c.new-held.result.items
    (λ bytes. Reports (λ t. ⊤) (Err faults.Read) (g.O.Sink.written c.args.out.now) (g.O.Sink.written c.args.out.now) (script_of g.S.Script.head g.S.Script.rules bytes))
    c.new-held.ensures.items (λ bytes known. unwritten _ _)
