use Rattle.st_shared.specs.History.{Expire}
use Rattle.st_shared.proofs.Led.{does_led}
use Rattle.st_shared.proofs.file.SharedFile.expire.Goals as goal

pub invariant_of-self : goal.invariant_of-self
invariant_of-self c = does_led c.self.inside.machine c.expire-result.new.self (Expire c.args.client) c.expire-result.result c.expire-result.ensures c.self.invariant
