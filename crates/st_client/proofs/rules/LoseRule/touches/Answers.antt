use Rattle.st_client.proofs.Sleeping.{idle_lose}
use Rattle.st_client.proofs.rules.LoseRule.touches.Goals as goal

pub returns : goal.returns
returns c = idle_lose c.args.self.now.now _ c.args.a.now c.is_over.result c.is_over.ensures
