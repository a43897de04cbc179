use Rattle.st_shared.specs.History.{Lock}
use Rattle.st_shared.proofs.Led.{lacks_led}
use Rattle.st_shared.proofs.file.SharedFile.lock.Goals as goal

pub invariant_of-self : goal.invariant_of-self
invariant_of-self c = lacks_led c.self.inside.machine c.lock-result.new.self (Lock c.args.client) c.lock-result.result c.lock-result.ensures c.self.invariant
