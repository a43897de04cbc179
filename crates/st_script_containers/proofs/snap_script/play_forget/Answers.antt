use Rattle.std.proofs.Common.{refl}
use Rattle.st_snap.specs.Images as images
use Rattle.st_script_containers.specs.SnapScripts as scripts
use Rattle.st_script.proofs.Outcomes.{always}
use Rattle.st_script_containers.proofs.SnapAnswers.{answered, stands_done, stands_refused, told_done, told_refused}
use Rattle.st_script_containers.proofs.snap_script.play_forget.Goals as goal

pub returns-in-Ok-clause-text : goal.returns-in-Ok-clause-text
returns-in-Ok-clause-text c = λ blocks changes h.
    answered c.put_answer.result _ _ c.args.number _ _
    (told_done scripts.done blocks c.args.volume.now c.forget.new.self c.in-Ok.field-0 (images.forget changes c.args.image) (c.in-Ok.ensures.told blocks changes h)) c.put_answer.ensures

pub returns-in-Ok-clause-stands : goal.returns-in-Ok-clause-stands
returns-in-Ok-clause-stands c = λ blocks changes h.
    always c.put_answer.result _ (stands_done blocks changes c.args.volume.now c.forget.new.self c.in-Ok.field-0 (images.forget changes c.args.image) (c.in-Ok.ensures.told blocks changes h))

pub returns-in-Err-clause-text : goal.returns-in-Err-clause-text
returns-in-Err-clause-text c = λ blocks changes h.
    told_refused c.put_refused.result scripts.done blocks c.args.volume.now c.forget.new.self c.in-Err.refusal (images.forget changes c.args.image) c.args.text.now.items c.put_refused.new.text.items
    c.args.number refl (c.in-Err.ensures.told blocks changes h) c.put_refused.ensures

pub returns-in-Err-clause-stands : goal.returns-in-Err-clause-stands
returns-in-Err-clause-stands c = λ blocks changes h.
    stands_refused c.put_refused.result blocks changes c.args.volume.now c.forget.new.self c.in-Err.refusal (images.forget changes c.args.image) _ h (c.in-Err.ensures.told blocks changes h)
    c.put_refused.ensures
