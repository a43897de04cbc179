use Rattle.std.proofs.Common.{refl}
use Rattle.st_shared.specs.History.{Enter}
use Rattle.st_script_shared.proofs.SharedPlays.{lacks_performs}
use Rattle.st_script_shared.proofs.shared_script.enter.Goals as goal

pub returns : goal.returns
returns c = lacks_performs c.args.file.now c.enter.new.self (Enter c.args.client) c.enter.result c.enter.ensures.exact refl
