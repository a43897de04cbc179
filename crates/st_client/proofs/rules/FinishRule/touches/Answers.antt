use Rattle.st_client.proofs.Sleeping.{idle_finish}
use Rattle.st_client.proofs.rules.FinishRule.touches.Goals as goal

pub returns : goal.returns
returns c = idle_finish c.args.self.now.number c.args.self.now.result.now _ c.args.a.now c.has_command.result c.has_command.ensures
