use Rattle.std.proofs.Common.{◌++◌, ◌∙◌, ap, sym, append_assoc, flat_map, take}
use Rattle.st_script_containers.specs.MoveScripts.{word}
use Rattle.st_script_containers.proofs.MoveAnswers.{text_next}
use Rattle.st_script_containers.proofs.move_script.put_updates.Goals as goal

pub loop-i-preserved : goal.loop-i-preserved
loop-i-preserved c =
    c.in_ok-put_update.ensures
    ∙ ap (λ t. t ++ word c.get.result.now) c.loop-i.invariant
    ∙ append_assoc c.args.text.now.items (flat_map word (take c.loop-i.i c.args.updates.now)) (word c.get.result.now)
    ∙ ap (λ t. c.args.text.now.items ++ t) (sym (text_next word c.args.updates.now c.loop-i.i c.get.result.now c.get.ensures))
