use Rattle.st_laws_extents.proofs.ExtentReplies.Step.{step_tells}
use Rattle.st_laws_extents.proofs.steps_tell_extents.Goals as goal

pub returns : goal.returns
returns c = step_tells
