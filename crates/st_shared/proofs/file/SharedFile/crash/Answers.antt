use Rattle.st_shared.specs.History.{Crash}
use Rattle.st_shared.proofs.Led.{does_led}
use Rattle.st_shared.proofs.file.SharedFile.crash.Goals as goal

pub invariant_of-self : goal.invariant_of-self
invariant_of-self c = does_led c.self.inside.machine c.crash-result.new.self (Crash c.args.client) c.crash-result.result c.crash-result.ensures c.self.invariant
