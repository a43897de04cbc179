use Rattle.std.proofs.Common.{refl}
use Rattle.st_shared.specs.History.{Lock}
use Rattle.st_script_shared.proofs.SharedPlays.{lacks_performs}
use Rattle.st_script_shared.proofs.shared_script.lock.Goals as goal

pub returns : goal.returns
returns c = lacks_performs c.args.file.now c.lock.new.self (Lock c.args.client) c.lock.result c.lock.ensures.exact refl
