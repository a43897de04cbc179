use Rattle.std.proofs.Common.{refl}
use Rattle.st_shared.specs.History.{Effect}
use Rattle.st_script_shared.proofs.SharedPlays.{lacks_performs}
use Rattle.st_script_shared.proofs.shared_script.effect.Goals as goal

pub returns : goal.returns
returns c = lacks_performs c.args.file.now c.effect.new.self (Effect c.args.n) c.effect.result c.effect.ensures.exact refl
