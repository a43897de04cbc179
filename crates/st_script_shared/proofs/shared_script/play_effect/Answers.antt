use Rattle.std.proofs.Common.{sym, ◌∙◌}
use Rattle.st_shared.specs.History.{Effect}
use Rattle.st_script_shared.specs.SharedCalls.{done_answer, lacks}
use Rattle.st_script_shared.proofs.SharedPlays.{played_stands, played_text}
use Rattle.st_script_shared.proofs.shared_script.play_effect.Goals as goal

pub returns-clause-text : goal.returns-clause-text
returns-clause-text c =
    played_text c.effect_line.result c.args.file.now c.effect-answer.new.file (Effect c.args.n) (lacks c.effect-answer.result) (done_answer c.effect-answer.result) c.args.text.now.items c.effect_line.new.text.items c.args.number
    c.effect-answer.ensures (sym c.lacks_done.ensures ∙ c.if-lacks_done.false)
    c.effect_line.ensures

pub returns-clause-stands : goal.returns-clause-stands
returns-clause-stands c =
    played_stands c.effect_line.result c.args.file.now c.effect-answer.new.file (Effect c.args.n) (lacks c.effect-answer.result) (done_answer c.effect-answer.result)
    c.effect-answer.ensures (sym c.lacks_done.ensures ∙ c.if-lacks_done.false)
