use Rattle.std.proofs.Common.{◌≡◌, ◌++◌, sym, ◌∙◌, subst}
use Rattle.std.specs.Prelude.{OnOk}
use Rattle.st_script.specs.Scripts.{answer_lines}
use Rattle.st_script_shared.specs.SharedScripts.{act_call}
use Rattle.st_script_shared.specs.SharedCalls.{done_answer, lacks}
use Rattle.st_script_shared.proofs.SharedPlays.{act_printed, played_stands, played_text}
use Rattle.st_script_shared.proofs.shared_script.play_act.Goals as goal

pub returns-clause-text : goal.returns-clause-text
returns-clause-text c =
    played_text c.done_line.result c.args.file.now c.act-answer.new.file (act_call c.args.what c.args.client) (lacks c.act-answer.result) (done_answer c.act-answer.result) c.args.text.now.items c.done_line.new.text.items c.args.number
    c.act-answer.ensures (sym c.lacks_done.ensures ∙ c.if-lacks_done.false)
    (subst (λ ts. OnOk c.done_line.result (c.done_line.new.text.items ≡ c.args.text.now.items ++ answer_lines c.args.number ts)) (sym (act_printed c.args.what c.args.client (done_answer c.act-answer.result))) c.done_line.ensures)

pub returns-clause-stands : goal.returns-clause-stands
returns-clause-stands c =
    played_stands c.done_line.result c.args.file.now c.act-answer.new.file (act_call c.args.what c.args.client) (lacks c.act-answer.result) (done_answer c.act-answer.result)
    c.act-answer.ensures (sym c.lacks_done.ensures ∙ c.if-lacks_done.false)
