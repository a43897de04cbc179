use Rattle.std.proofs.Common.{◌≡◌, [], ◌∷◌, ◌++◌, subst}
use Rattle.std.specs.Prelude.{OnOk}
use Rattle.st_script.specs.Scripts.{answer_lines}
use Rattle.st_script_shared.specs.SharedScripts.{answer_text}
use Rattle.st_script_shared.proofs.shared_script.play_report.Goals as goal

pub returns-clause-text : goal.returns-clause-text
returns-clause-text c =
    subst (λ a. OnOk c.told_line.result (c.told_line.new.text.items ≡ c.args.text.now.items ++ answer_lines c.args.number (answer_text a ∷ []))) c.report.ensures.told c.told_line.ensures
