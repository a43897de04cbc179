use Rattle.std.proofs.Common.{sym, ◌∙◌}
use Rattle.st_shared.specs.History.{Write}
use Rattle.st_script_shared.specs.SharedCalls.{number_answer, lacks}
use Rattle.st_script_shared.proofs.SharedPlays.{played_stands, played_text}
use Rattle.st_script_shared.proofs.shared_script.play_bytes.Goals as goal

pub returns-clause-text : goal.returns-clause-text
returns-clause-text c =
    played_text c.number_line.result c.args.file.now c.write-answer.new.file (Write c.args.client c.args.page c.args.bytes.now) (lacks c.write-answer.result) (number_answer c.write-answer.result) c.args.text.now.items c.number_line.new.text.items c.args.number
    c.write-answer.ensures (sym c.lacks_number.ensures ∙ c.if-lacks_number.false)
    c.number_line.ensures

pub returns-clause-stands : goal.returns-clause-stands
returns-clause-stands c =
    played_stands c.number_line.result c.args.file.now c.write-answer.new.file (Write c.args.client c.args.page c.args.bytes.now) (lacks c.write-answer.result) (number_answer c.write-answer.result)
    c.write-answer.ensures (sym c.lacks_number.ensures ∙ c.if-lacks_number.false)
