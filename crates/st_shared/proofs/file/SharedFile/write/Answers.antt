use Rattle.st_shared.specs.History.{Write}
use Rattle.st_shared.proofs.Led.{numbers_led}
use Rattle.st_shared.proofs.file.SharedFile.write.Goals as goal

pub invariant_of-self : goal.invariant_of-self
invariant_of-self c = numbers_led c.self.inside.machine c.write-result.new.self (Write c.args.client c.args.page c.args.bytes.now) c.write-result.result c.write-result.ensures c.self.invariant
