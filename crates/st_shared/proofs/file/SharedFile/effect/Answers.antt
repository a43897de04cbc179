use Rattle.st_shared.specs.History.{Effect}
use Rattle.st_shared.proofs.Led.{lacks_led}
use Rattle.st_shared.proofs.file.SharedFile.effect.Goals as goal

pub invariant_of-self : goal.invariant_of-self
invariant_of-self c = lacks_led c.self.inside.machine c.effect-result.new.self (Effect c.args.n) c.effect-result.result c.effect-result.ensures c.self.invariant
