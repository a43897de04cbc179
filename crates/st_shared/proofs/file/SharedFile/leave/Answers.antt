use Rattle.st_shared.specs.History.{Leave}
use Rattle.st_shared.proofs.Led.{does_led}
use Rattle.st_shared.proofs.file.SharedFile.leave.Goals as goal

pub invariant_of-self : goal.invariant_of-self
invariant_of-self c = does_led c.self.inside.machine c.leave-result.new.self (Leave c.args.client) c.leave-result.result c.leave-result.ensures c.self.invariant
