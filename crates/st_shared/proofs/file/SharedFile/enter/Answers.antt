use Rattle.st_shared.specs.History.{Enter}
use Rattle.st_shared.proofs.Led.{lacks_led}
use Rattle.st_shared.proofs.file.SharedFile.enter.Goals as goal

pub invariant_of-self : goal.invariant_of-self
invariant_of-self c = lacks_led c.self.inside.machine c.enter-result.new.self (Enter c.args.client) c.enter-result.result c.enter-result.ensures c.self.invariant
