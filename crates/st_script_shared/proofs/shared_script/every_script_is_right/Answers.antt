use Rattle.st_script_shared.proofs.EveryScript.{every_script}
use Rattle.st_script_shared.proofs.shared_script.every_script_is_right.Goals as goal

pub returns : goal.returns
returns c = every_script c.every_history_is_right.ensures
