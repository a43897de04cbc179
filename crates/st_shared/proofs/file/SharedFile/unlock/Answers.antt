use Rattle.st_shared.specs.History.{Unlock}
use Rattle.st_shared.proofs.Led.{does_led}
use Rattle.st_shared.proofs.file.SharedFile.unlock.Goals as goal

pub invariant_of-self : goal.invariant_of-self
invariant_of-self c = does_led c.self.inside.machine c.unlock-result.new.self (Unlock c.args.client) c.unlock-result.result c.unlock-result.ensures c.self.invariant
