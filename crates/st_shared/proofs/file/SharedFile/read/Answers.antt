use Rattle.st_shared.specs.History.{Read}
use Rattle.st_shared.proofs.Led.{numbers_led}
use Rattle.st_shared.proofs.file.SharedFile.read.Goals as goal

pub invariant_of-self : goal.invariant_of-self
invariant_of-self c = numbers_led c.self.inside.machine c.read-result.new.self (Read c.args.client c.args.page) c.read-result.result c.read-result.ensures c.self.invariant
