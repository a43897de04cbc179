use Rattle.st_shared.specs.History.{Report}
use Rattle.st_shared.proofs.Led.{does_led}
use Rattle.st_shared.proofs.file.SharedFile.end.Goals as goal

pub invariant_of-self : goal.invariant_of-self
invariant_of-self c = does_led c.self.inside.machine c.end-result.new.self (Report c.args.n c.args.ok) c.end-result.result c.end-result.ensures c.self.invariant
