-- What is left of the law that every run of the world is a run of the volume: six kinds of answers.
use Rattle.std.specs.Prelude.{Bool}
use Rattle.st_laws_volume.specs.AnswerKinds.{is_dirty_full_answer, is_no_file, is_no_space, is_not_holder, is_read_answer, is_too_many_locks}
use Rattle.st_laws_volume.specs.Logs.{InEveryRun}
use Rattle.st_laws_volume.specs.StepKinds.{StepsAreTaken}
use Rattle.st_laws_volume.specs.Witness.{Accepted}
use Rattle.st_volume.specs.declared.step.VolumeStep.{VolumeStep}

pub record OtherAnswersAre (promise : (VolumeStep → Bool) → Type 0) : Type 0 where
  pub reads : promise is_read_answer
  pub missing : promise is_no_file
  pub roomless : promise is_no_space
  pub full : promise is_dirty_full_answer
  pub unheld : promise is_not_holder
  pub locked : promise is_too_many_locks

-- Other answers are enough: every run is a run of the volume, if the volume takes the answers of these kinds in every run.
abbrev pub OtherAnswersAreEnough : Type 0
OtherAnswersAreEnough = OtherAnswersAre (λ which. InEveryRun (StepsAreTaken which)) → InEveryRun Accepted
