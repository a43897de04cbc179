-- The answers that tell the result of an ask: that a file was cut, and what an ask for a name did.
use Rattle.std.specs.Prelude.{Bool, true, false}
use Rattle.st_messages.specs.declared.answer.AppAnswer.{AppAnswer}
use Rattle.st_messages.specs.declared.answer.AppAnswer.TheVariants as answers
use Rattle.st_volume.specs.declared.step.VolumeStep.{VolumeStep}
use Rattle.st_volume.specs.declared.step.VolumeStep.TheVariants as kinds

abbrev pub tells_result : AppAnswer → Bool
tells_result answers.Cut = true
tells_result (answers.Named ino) = true
tells_result (answers.Listed rows) = true
tells_result (answers.Refused code) = true
tells_result answer = false

abbrev pub gives_result : VolumeStep → Bool
gives_result (kinds.Answered c op answer) = tells_result answer
gives_result it = false
