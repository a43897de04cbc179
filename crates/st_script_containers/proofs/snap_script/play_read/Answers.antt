use Rattle.std.proofs.Common.{ap, sym}
use Rattle.st_script_containers.specs.SnapScripts as scripts
use Rattle.st_script_containers.proofs.SnapAnswers.{answered, read_refused}
use Rattle.st_script_containers.proofs.snap_script.play_read.Goals as goal

pub returns-in-Ok-Some : goal.returns-in-Ok-Some
returns-in-Ok-Some c = λ blocks changes h.
    answered c.put_read.result _ _ c.args.number _ _ (sym (ap scripts.told (rw c.in-Ok-Some.field-0-is at (c.in-Ok-Some.ensures.told blocks changes h)))) c.put_read.ensures

pub returns-in-Ok-None : goal.returns-in-Ok-None
returns-in-Ok-None c = λ blocks changes h.
    answered c.put_zeros.result _ _ c.args.number _ _ (sym (ap scripts.told (rw c.in-Ok-None.field-0-is at (c.in-Ok-None.ensures.told blocks changes h)))) c.put_zeros.ensures

pub returns-in-Err : goal.returns-in-Err
returns-in-Err c = λ blocks changes h.
    read_refused c.put_refused.result c.in-Err.refusal _ _ _ c.args.number (sym (ap scripts.told (c.in-Err.ensures.refused blocks changes h))) c.put_refused.ensures
