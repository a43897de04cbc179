use Rattle.std.proofs.Common.{refl}
use Rattle.st_shared.specs.History.{Leave}
use Rattle.st_script_shared.proofs.SharedPlays.{does_performs}
use Rattle.st_script_shared.proofs.shared_script.leave.Goals as goal

pub returns : goal.returns
returns c = does_performs c.args.file.now c.leave.new.self (Leave c.args.client) c.leave.result c.leave.ensures.exact refl
